-- Where a partition is diverted its course goes on with a diversion, behind the epochs of the last fallback; other courses stay.
use Rattle.std.proofs.Common.{◌≡◌, ◌≢◌, inl, inr, ℕ, ◌+◌, ◌<◌, ◌≤◌, cond, [], ◌∷◌, ◌++◌, length, refl, sym, ◌∙◌, ap, arith, subst}
use Rattle.std.specs.Prelude.{◌==◌, Some, slice_get}
use Rattle.std.specs.Option.{option_map_or}
use Rattle.riak_msgs.specs.declared.Key.{Key}
use Rattle.actor_epoch.specs.Given.{Context}
use Rattle.vnode_machine.specs.Lives.{lives_begun}
use Rattle.vnode_machine.specs.Replay.{History}
use Rattle.vnode_machine.specs.Registers.{key_of, context_in_ask}
use Rattle.copy_laws.specs.Copies.{all_commands}
use Rattle.copy_laws.specs.Joining.{Log}
use Rattle.copy_laws.specs.Sides.{Partition}
use Rattle.copy_laws.specs.Diversions.{Course, Divert, diversions_of, is_diverted, fallback_of, primary_of, WasShownInCourse, MayHappen}
use Rattle.copy_laws.proofs.Courses.{none-yet}
use Rattle.node_steps.specs.World.{SiteVnode, Worker, World, Call, fresh_vnode, diversions_at, call_of}
use Rattle.node_steps.specs.Steps.{fallback_ids, diverted_by}
use Rattle.node_steps.proofs.Lists.{set-here, set-there, same_or_other, get-before, get-last, get-more, length-set}
use Rattle.node_steps.proofs.Inside.{about_there, other_test, same_test, false_true}
use Rattle.node_steps.proofs.Kept.{IsOrderly}
use Rattle.node_steps.proofs.CloseSteps.{some_back}
use Rattle.node_steps.proofs.Diverting.{IsDiversion, id_is}
use Rattle.node_steps.proofs.CallSites.{call_site}
use Rattle.node_steps.proofs.Coursing.{IsVnode, home_id, away_id, Agrees, IsOwn, WasGiven, given-later, IsLawful, IsRun, shown-later, was-later}
use Rattle.node_steps.proofs.Numbers.{below, below_past}

-- a partition of the law that agrees
abbrev pub some_partition : (run index : ℕ) (opened : ℕ → ℕ) (count : ℕ) → Partition
some_partition run index opened count = record { primary = home_id run index; last_epoch = 0; fallback = away_id run index; opened = opened; diversions = count }

pub some_agrees : (run index : ℕ) (opened : ℕ → ℕ) (count : ℕ) → Agrees run index opened count (some_partition run index opened count)
some_agrees run index opened count = record { primary = refl; last_epoch = refl; fallback = refl; opened_is = λ n most. refl; diversions = omega arith }

-- the epochs behind which fallbacks are opened, with one more
abbrev pub opened_more : (opened : ℕ → ℕ) (n epoch : ℕ) → ℕ → ℕ
opened_more opened n epoch m = cond (m == n) epoch (opened m)

opened_there : (opened : ℕ → ℕ) (n epoch m : ℕ) → m ≢ n → opened_more opened n epoch m ≡ opened m
opened_there opened n epoch m h = ap (λ b. cond b epoch (opened m)) (other_test m n h)

opened_here : (opened : ℕ → ℕ) (n epoch : ℕ) → opened_more opened n epoch n ≡ epoch
opened_here opened n epoch = ap (λ b. cond b epoch (opened n)) (same_test n n refl)

below_more : (m n : ℕ) → m ≤ n → m ≢ n + 1
below_more m n h = λ e. absurd (omega (arith, h, e))

at_most : (m n : ℕ) → m ≤ n + 1 → m ≢ n + 1 → m ≤ n
at_most m n h k = omega (arith, h, k)

module _ (run index : ℕ) (w : World) (orderly : IsOrderly w) (other : ℕ) (after : World) (d : IsDiversion w other after)
    (course : Course) (opened : ℕ → ℕ) (Shown : Key → Context → Type 0) (Gives : Key → Type 0) (run_is : IsRun run index w course opened Shown Gives) where
  abbrev new_site : ℕ
  new_site = length w.vnodes

  abbrev fresh : SiteVnode
  fresh = fresh_vnode (d.primary.place.vnode + fallback_ids) other d.epoch

  abbrev later : World
  later = diverted_by w other d.epoch d.primary

  abbrev count : ℕ
  count = diversions_of course

  vnode-stays : (site id epoch : ℕ) (log : Log) → IsVnode w site id epoch log → IsVnode later site id epoch log
  vnode-stays site id epoch log v =
      record { vnode = v.vnode; there = get-before w.vnodes (fresh ∷ []) site v.vnode v.there; id_is = v.id_is; epoch_is = v.epoch_is; log_is = v.log_is }

  -- a worker's call is at a site that was there
  old_vnode : (place : ℕ) (worker : Worker) → slice_get w.workers place ≡ Some worker → (call : Call) → call_of worker.phase ≡ Some call → (v : SiteVnode) → slice_get later.vnodes call.site ≡ Some v
      → slice_get w.vnodes call.site ≡ Some v
  old_vnode place worker h call asked v there = elim (get-more w.vnodes fresh call.site v there) [
    | inl e ↦ e
    | inr e ↦ absurd (nobody place worker h call asked e.0)
  ]
    where
      nobody : (place : ℕ) (worker : Worker) → slice_get w.workers place ≡ Some worker → (call : Call) → call_of worker.phase ≡ Some call → call.site ≡ new_site → ⊥
      nobody place worker h call asked at =
          below_past call.site new_site (orderly.about place worker h call.site (about_there call.site worker.phase (call_site worker.phase call asked)))
          (subst (λ n. new_site ≤ n) (sym at) (omega arith))

  calls-stay : (partition : Partition) (next : Course) → ((key : Key) (context : Context) → WasShownInCourse partition course key context → WasShownInCourse partition next key context)
      → IsLawful run index partition w course Shown Gives → (place : ℕ) (worker : Worker) → slice_get w.workers place ≡ Some worker → (call : Call) → call_of worker.phase ≡ Some call
      → (v : SiteVnode) → slice_get later.vnodes call.site ≡ Some v → v.own ≡ index → Gives (key_of call.ask) → (context : Context) → context_in_ask call.ask ≡ Some context → WasGiven run index partition next (key_of call.ask) context
  calls-stay partition next still law place worker h call asked v there own gives context e =
      given-later run index partition course next still (key_of call.ask) context (law.calls place worker h call asked v (old_vnode place worker h call asked v there) own gives context e)

  -- another partition's diversion
  elsewhere-diverted : other ≢ index → IsRun run index later course opened Shown Gives
  elsewhere-diverted n = record {
    known = subst (λ m. index < m) (sym (length-set w.routes other new_site)) run_is.known;
    timed = run_is.timed;
    first = run_is.first;
    number = set-there w.diversions other index (diversions_at w other + 1) n ∙ run_is.number;
    side = elim run_is.side [
      | inl own ↦ inl (record { route_is = set-there w.routes other index new_site n ∙ own.route_is; not_diverted = own.not_diverted; epoch_is = own.epoch_is })
      | inr away ↦ inr (record {
        site = away.site;
        route_is = set-there w.routes other index new_site n ∙ away.route_is;
        other = away.other;
        diverted = away.diverted;
        vnode = vnode-stays away.site (away_id run index) (opened count) (all_commands (fallback_of course count)) away.vnode;
        updates = away.updates;
      })
    ];
    fallbacks = λ m one most last.
        let f = run_is.fallbacks m one most last in was-later run index w later course course opened m refl f (get-before w.vnodes (fresh ∷ []) f.site f.vnode f.there);
    lawful = λ partition agrees. let law = run_is.lawful partition agrees in record {
      may_happen = law.may_happen;
      to_key = law.to_key;
      vnode = vnode-stays index (home_id run index) 0 (primary_of partition course) law.vnode;
      shown = law.shown;
      calls = calls-stay partition course (λ key context s. s) law;
    };
  }

  -- its own
  module _ (e : other ≡ index) (own : IsOwn run index w course opened) where
    abbrev next : Course
    next = Divert ∷ course

    abbrev more : ℕ → ℕ
    more = opened_more opened (diversions_of course + 1) d.epoch

    -- the epoch is the one behind the last fallback
    epoch_is : d.epoch ≡ opened count + lives_begun (fallback_of course count)
    epoch_is = some_back d.epoch (opened count + lives_begun (fallback_of course count)) (sym d.epoch_is ∙ ap (λ k. slice_get w.epochs k) e ∙ own.epoch_is)

    agrees_before : (partition : Partition) → Agrees run index more (diversions_of next) partition → Agrees run index opened (diversions_of course) partition
    agrees_before partition agrees = record {
      primary = agrees.primary;
      last_epoch = agrees.last_epoch;
      fallback = agrees.fallback;
      opened_is = λ n most. agrees.opened_is n (wider n count most) ∙ opened_there opened (count + 1) d.epoch n (below_more n count most);
      diversions = narrower count partition.diversions agrees.diversions;
    }
      where
        wider : (n m : ℕ) → n ≤ m → n ≤ m + 1
        wider n m h = omega (arith, h)

        narrower : (n m : ℕ) → n + 1 ≤ m → n ≤ m
        narrower n m h = omega (arith, h)

    may-divert : (partition : Partition) → Agrees run index more (diversions_of next) partition → MayHappen partition course Divert
    may-divert partition agrees = (
      own.not_diverted,
      more_follow count partition.diversions agrees.diversions,
      behind (partition.opened count) (lives_begun (fallback_of course count)) (partition.opened (count + 1)) (opened count) ((agrees_before partition agrees).opened_is count (omega arith))
          (agrees.opened_is (count + 1) (omega arith) ∙ opened_here opened (count + 1) d.epoch ∙ epoch_is),
    )
      where
        more_follow : (n m : ℕ) → n + 1 ≤ m → n < m
        more_follow n m h = omega (arith, h)

        behind : (a b c o : ℕ) → a ≡ o → c ≡ o + b → a + b ≤ c
        behind a b c o h k = omega (arith, h, k)

    home_is : d.primary.id ≡ home_id run index
    home_is =
        let law = run_is.lawful (some_partition run index opened count) (some_agrees run index opened count) in
        ap (λ (v : SiteVnode). v.id) (some_back d.primary law.vnode.vnode (sym d.vnode_is ∙ ap (λ k. slice_get w.vnodes k) e ∙ law.vnode.there)) ∙ law.vnode.id_is

    fresh-there : IsVnode later new_site (away_id run index) (more (count + 1)) (all_commands (fallback_of next (count + 1)))
    fresh-there = record {
      vnode = fresh;
      there = get-last w.vnodes fresh;
      id_is = ap (λ n. n + fallback_ids) (id_is w orderly other d.epoch d.primary d.vnode_is d.own d.alone ∙ home_is);
      epoch_is = sym (opened_here opened (count + 1) d.epoch);
      log_is = sym (ap (λ (h : History). all_commands h) (none-yet course (count + 1) (omega arith)));
    }

    own-diverted : IsRun run index later next more Shown Gives
    own-diverted = record {
      known = subst (λ m. index < m) (sym (length-set w.routes other new_site)) run_is.known;
      timed = run_is.timed;
      first = opened_there opened (count + 1) d.epoch 0 (λ z. absurd (omega (arith, z))) ∙ run_is.first;
      number = ap (λ k. slice_get later.diversions k) (sym e)
          ∙ set-here w.diversions other count (diversions_at w other + 1) (ap (λ k. slice_get w.diversions k) e ∙ run_is.number)
          ∙ ap (λ o. Some (option_map_or (λ (n : ℕ). n) o 0 + 1)) (ap (λ k. slice_get w.diversions k) e ∙ run_is.number);
      side = inr (record {
        site = new_site;
        route_is = ap (λ k. slice_get later.routes k) (sym e) ∙ set-here w.routes other other new_site d.own;
        other = λ z. below_past index new_site (below index (length w.routes) new_site run_is.known orderly.sites) (subst (λ n. new_site ≤ n) (sym z) (omega arith));
        diverted = refl;
        vnode = fresh-there;
        updates = λ place worker h call asked at. absurd (below_past call.site new_site
            (orderly.about place worker h call.site (about_there call.site worker.phase (call_site worker.phase call asked))) (subst (λ n. new_site ≤ n) (sym at) (omega arith)));
      });
      fallbacks = λ n one most last.
          let not_last : n ≢ count + 1 = last refl in
          let f = run_is.fallbacks n one (at_most n count most not_last) (λ diverted. absurd (false_true (is_diverted course) own.not_diverted diverted)) in record {
            site = f.site;
            vnode = f.vnode;
            there = get-before w.vnodes (fresh ∷ []) f.site f.vnode f.there;
            own_is = f.own_is;
            id_is = f.id_is;
            epoch_is = f.epoch_is ∙ sym (opened_there opened (count + 1) d.epoch n not_last);
            history_is = f.history_is;
            closed = f.closed;
          };
      lawful = λ partition agrees. let law = run_is.lawful partition (agrees_before partition agrees) in record {
        may_happen = (law.may_happen, may-divert partition agrees);
        to_key = λ key gives. (law.to_key key gives, may-divert partition agrees, tt);
        vnode = vnode-stays index (home_id run index) 0 (primary_of partition course) law.vnode;
        shown = λ key context s. given-later run index partition course next (shown-later run index partition Divert course) key context (law.shown key context s);
        calls = calls-stay partition next (shown-later run index partition Divert course) law;
      };
    }

  diverts-on : (happened : Course) × (more : ℕ → ℕ) × ((n : ℕ) → n ≤ diversions_of course → more n ≡ opened n) × IsRun run index later (happened ++ course) more Shown Gives
  diverts-on = elim (same_or_other other index) [
    | inl e ↦ elim run_is.side [
      | inl own ↦ (
        Divert ∷ [],
        opened_more opened (diversions_of course + 1) d.epoch,
        λ n most. opened_there opened (diversions_of course + 1) d.epoch n (below_more n (diversions_of course) most),
        own-diverted e own,
      )
      | inr away ↦ absurd (away.other (some_back index away.site (sym (d.own ∙ ap (λ s. Some s) e) ∙ ap (λ k. slice_get w.routes k) e ∙ away.route_is)))
    ]
    | inr n ↦ ([], opened, (λ n most. refl), elsewhere-diverted n)
  ]

  pub run-diverted : (happened : Course) × (more : ℕ → ℕ) × ((n : ℕ) → n ≤ diversions_of course → more n ≡ opened n) × IsRun run index after (happened ++ course) more Shown Gives
  run-diverted =
      subst (λ (q : World). (happened : Course) × (more : ℕ → ℕ) × ((n : ℕ) → n ≤ diversions_of course → more n ≡ opened n) × IsRun run index q (happened ++ course) more Shown Gives) d.gives diverts-on
