-- What is known and live after each call.
use Rattle.std.proofs.Common.{◌≡◌, ℕ, ◌+◌, Bool, true, false, not, ◌&&◌, ◌||◌, cond, IsTrue, List, refl, sym, ◌∙◌, ap, arith}
use Rattle.std.specs.Prelude.{nat_le, nat_eq, Option, Some, None, is_some}
use Rattle.std.specs.Option.{option_or, option_map}
use Rattle.std.specs.Ordering.{eq_by_cmp}
use Rattle.std.specs.FinMap.Entries.{find, find-put, find-where_key}
use Rattle.std.proofs.lemmas.Bool.Decides.{nat_tests}
use Rattle.actor_epoch.specs.declared.Actor.{Actor}
use Rattle.actor_epoch.specs.declared.Dot.{Dot}
use Rattle.actor_epoch.specs.Dots.{actor_eq, dot_eq, covers, covers_by, counter_in}
use Rattle.actor_epoch.proofs.Pairs.{covers-union, covers-insert_max, grouped as or_grouped}
use Rattle.actor_epoch.proofs.Order.{covers-counter_in, actor_eq-same}
use Rattle.dvv_set.specs.Clocks.{DotState, show_cmp, sync, discard, event, is_live, value_in}
use Rattle.dvv_set.specs.Laws.{KnowsItsLive, SameDots, SyncKnows, is_synced, DiscardKnows, DiscardKeeps, EventKnows, EventKeeps, next_dot}
use Rattle.dvv_set.proofs.Orders.{show_cmp_total, eq_by_cmp-dot}
use Rattle.dvv_set.proofs.Live.{is_some-find, find-sync, dot_eq-back, alike}

arranged : (ko ko' lo lo' : Bool) → ((not ko && lo') || ((lo' || not ko') && lo)) ≡ ((lo && lo') || ((lo && not ko') || (lo' && not ko)))
arranged true true true true = refl
arranged true true true false = refl
arranged true true false true = refl
arranged true true false false = refl
arranged true false true true = refl
arranged true false true false = refl
arranged true false false true = refl
arranged true false false false = refl
arranged false true true true = refl
arranged false true true false = refl
arranged false true false true = refl
arranged false true false false = refl
arranged false false true true = refl
arranged false false true false = refl
arranged false false false true = refl
arranged false false false false = refl

-- the rule of a sync for one dot, by what is live and known on both sides
abbrev synced : Bool → Bool → Bool → Bool → Bool
synced la lb ka kb = (la && lb) || ((la && not kb) || (lb && not ka))

grouped : (ka la kb lb kc lc : Bool) → (la ≡ true → ka ≡ true) → (lb ≡ true → kb ≡ true) → (lc ≡ true → kc ≡ true)
    → synced (synced la lb ka kb) lc (ka || kb) kc ≡ synced la (synced lb lc kb kc) ka (kb || kc)
grouped true true true true true true p q r = refl
grouped true true true true true false p q r = refl
grouped true true true true false true p q r = let h = r refl in cc
grouped true true true true false false p q r = refl
grouped true true true false true true p q r = refl
grouped true true true false true false p q r = refl
grouped true true true false false true p q r = let h = r refl in cc
grouped true true true false false false p q r = refl
grouped true true false true true true p q r = let h = q refl in cc
grouped true true false true true false p q r = let h = q refl in cc
grouped true true false true false true p q r = let h = q refl in cc
grouped true true false true false false p q r = let h = q refl in cc
grouped true true false false true true p q r = refl
grouped true true false false true false p q r = refl
grouped true true false false false true p q r = let h = r refl in cc
grouped true true false false false false p q r = refl
grouped true false true true true true p q r = refl
grouped true false true true true false p q r = refl
grouped true false true true false true p q r = let h = r refl in cc
grouped true false true true false false p q r = refl
grouped true false true false true true p q r = refl
grouped true false true false true false p q r = refl
grouped true false true false false true p q r = let h = r refl in cc
grouped true false true false false false p q r = refl
grouped true false false true true true p q r = let h = q refl in cc
grouped true false false true true false p q r = let h = q refl in cc
grouped true false false true false true p q r = let h = q refl in cc
grouped true false false true false false p q r = let h = q refl in cc
grouped true false false false true true p q r = refl
grouped true false false false true false p q r = refl
grouped true false false false false true p q r = let h = r refl in cc
grouped true false false false false false p q r = refl
grouped false true true true true true p q r = let h = p refl in cc
grouped false true true true true false p q r = let h = p refl in cc
grouped false true true true false true p q r = let h = p refl in cc
grouped false true true true false false p q r = let h = p refl in cc
grouped false true true false true true p q r = let h = p refl in cc
grouped false true true false true false p q r = let h = p refl in cc
grouped false true true false false true p q r = let h = p refl in cc
grouped false true true false false false p q r = let h = p refl in cc
grouped false true false true true true p q r = let h = p refl in cc
grouped false true false true true false p q r = let h = p refl in cc
grouped false true false true false true p q r = let h = p refl in cc
grouped false true false true false false p q r = let h = p refl in cc
grouped false true false false true true p q r = let h = p refl in cc
grouped false true false false true false p q r = let h = p refl in cc
grouped false true false false false true p q r = let h = p refl in cc
grouped false true false false false false p q r = let h = p refl in cc
grouped false false true true true true p q r = refl
grouped false false true true true false p q r = refl
grouped false false true true false true p q r = let h = r refl in cc
grouped false false true true false false p q r = refl
grouped false false true false true true p q r = refl
grouped false false true false true false p q r = refl
grouped false false true false false true p q r = let h = r refl in cc
grouped false false true false false false p q r = refl
grouped false false false true true true p q r = let h = q refl in cc
grouped false false false true true false p q r = let h = q refl in cc
grouped false false false true false true p q r = let h = q refl in cc
grouped false false false true false false p q r = let h = q refl in cc
grouped false false false false true true p q r = refl
grouped false false false false true false p q r = refl
grouped false false false false false true p q r = let h = r refl in cc
grouped false false false false false false p q r = refl

turned : (ka la kb lb : Bool) → synced la lb ka kb ≡ synced lb la kb ka
turned true true true true = refl
turned true true true false = refl
turned true true false true = refl
turned true true false false = refl
turned true false true true = refl
turned true false true false = refl
turned true false false true = refl
turned true false false false = refl
turned false true true true = refl
turned false true true false = refl
turned false true false true = refl
turned false true false false = refl
turned false false true true = refl
turned false false true false = refl
turned false false false true = refl
turned false false false false = refl

itself : (k l : Bool) → synced l l k k ≡ l
itself k true = refl
itself k false = refl

or_itself : (k : Bool) → (k || k) ≡ k
or_itself true = refl
or_itself false = refl

or_turned : (a b : Bool) → (a || b) ≡ (b || a)
or_turned true true = refl
or_turned true false = refl
or_turned false true = refl
or_turned false false = refl

module _ {V : Type 0} where
  is_some-or : (a b : Option V) → is_some (option_or a b) ≡ (is_some a || is_some b)
  is_some-or None b = refl
  is_some-or (Some v) b = refl

  is_some-map : (f : V → V) (o : Option V) → is_some (option_map f o) ≡ is_some o
  is_some-map f None = refl
  is_some-map f (Some v) = refl

  is_some-if : (b : Bool) (o : Option V) → is_some (cond b o None) ≡ (b && is_some o)
  is_some-if true o = refl
  is_some-if false o = refl

  -- live after a sync, whatever the clocks are
  live-sync : (own other : DotState V) (dot : Dot) → is_live (sync own other) dot
      ≡ ((not (covers own.known dot) && is_live other dot) || ((is_live other dot || not (covers other.known dot)) && is_live own dot))
  live-sync own other dot =
      is_some-find dot (sync own other).live
      ∙ ap is_some (find-sync own other dot)
      ∙ is_some-or (cond (not (covers own.known dot)) (find show_cmp dot other.live) None)
      (option_map (λ v. value_in own other (dot, v)) (cond (is_live other dot || not (covers other.known dot)) (find show_cmp dot own.live) None))
      ∙ (λ i.
      is_some-if (not (covers own.known dot)) (find show_cmp dot other.live) i
      || (is_some-map (λ v. value_in own other (dot, v)) (cond (is_live other dot || not (covers other.known dot)) (find show_cmp dot own.live) None)
      ∙ is_some-if (is_live other dot || not (covers other.known dot)) (find show_cmp dot own.live)) i)
      ∙ (λ i. (not (covers own.known dot) && sym (is_some-find dot other.live) i) || ((is_live other dot || not (covers other.known dot)) && sym (is_some-find dot own.live) i))

  pub sync_knows : (own other : DotState V) (dot : Dot) → SyncKnows own other dot
  sync_knows own other dot = covers-union own.known other.known dot

  pub sync_keeps : (own other : DotState V) (dot : Dot) → is_live (sync own other) dot ≡ is_synced own other dot
  sync_keeps own other dot = live-sync own other dot ∙ arranged (covers own.known dot) (covers other.known dot) (is_live own dot) (is_live other dot)

  pub discard_knows : (pairs : List Dot) (clock : DotState V) (dot : Dot) → DiscardKnows pairs clock dot
  discard_knows pairs clock dot = covers-union clock.known pairs dot

  pub discard_keeps : (pairs : List Dot) (clock : DotState V) (dot : Dot) → DiscardKeeps pairs clock dot
  discard_keeps pairs clock dot =
      is_some-find dot (discard pairs clock).live
      ∙ ap is_some (find-where_key show_cmp (λ x. not (covers pairs x)) dot (alike (λ x. not (covers pairs x)) dot) clock.live)
      ∙ is_some-if (not (covers pairs dot)) (find show_cmp dot clock.live)
      ∙ ap (λ b. not (covers pairs dot) && b) (sym (is_some-find dot clock.live))
      ∙ by (covers pairs dot) (is_live clock dot)
    where
      by : (c l : Bool) → (not c && l) ≡ (l && not c)
      by true true = refl
      by true false = refl
      by false true = refl
      by false false = refl

  pub event_keeps : (actor : Actor) (value : V) (clock : DotState V) (dot : Dot) → EventKeeps actor value clock dot
  event_keeps actor value clock dot =
      is_some-find dot (event actor value clock).live
      ∙ ap is_some (find-put show_cmp show_cmp_total dot (next_dot actor clock) value clock.live)
      ∙ by (eq_by_cmp show_cmp dot (next_dot actor clock))
      ∙ (λ i. (eq_by_cmp-dot dot (next_dot actor clock) ∙ dot_eq-back dot (next_dot actor clock)) i || sym (is_some-find dot clock.live) i)
    where
      by : (b : Bool) → is_some (cond b (Some value) (find show_cmp dot clock.live)) ≡ (b || is_some (find show_cmp dot clock.live))
      by true = refl
      by false = refl

  pub event_knows : (actor : Actor) (value : V) (clock : DotState V) (dot : Dot) → EventKnows actor value clock dot
  event_knows actor value clock dot =
      covers-insert_max (next_dot actor clock) clock.known dot
      ∙ ap (λ b. covers_by (next_dot actor clock) dot || b) (covers-counter_in clock.known dot)
      ∙ by (actor_eq actor dot.actor) refl
      ∙ ap (λ b. dot_eq (next_dot actor clock) dot || b) (sym (covers-counter_in clock.known dot))
    where
      step : (c n : ℕ) → ((nat_le 1 c && nat_le c (n + 1)) || (nat_le 1 c && nat_le c n)) ≡ (nat_eq (n + 1) c || (nat_le 1 c && nat_le c n))
      step c n = grind (arith, nat_tests)

      by : (t : Bool) → actor_eq actor dot.actor ≡ t
          → ((t && (nat_le 1 dot.counter && nat_le dot.counter (counter_in clock.known actor + 1))) || (nat_le 1 dot.counter && nat_le dot.counter (counter_in clock.known dot.actor)))
          ≡ ((t && nat_eq (counter_in clock.known actor + 1) dot.counter) || (nat_le 1 dot.counter && nat_le dot.counter (counter_in clock.known dot.actor)))
      by true e =
          let same : actor ≡ dot.actor = actor_eq-same actor dot.actor e in
          let P = step dot.counter (counter_in clock.known dot.actor) in
          (λ i. ((nat_le 1 dot.counter && nat_le dot.counter (counter_in clock.known (same i) + 1)) || (nat_le 1 dot.counter && nat_le dot.counter (counter_in clock.known dot.actor))))
          ∙ P
          ∙ (λ i. nat_eq (counter_in clock.known (sym same i) + 1) dot.counter || (nat_le 1 dot.counter && nat_le dot.counter (counter_in clock.known dot.actor)))
      by false e = refl

  pub sync_idempotent : (clock : DotState V) → KnowsItsLive clock → SameDots (sync clock clock) clock
  sync_idempotent clock h = record {
    known = λ dot. sync_knows clock clock dot ∙ or_itself (covers clock.known dot);
    live = λ dot. sync_keeps clock clock dot ∙ itself (covers clock.known dot) (is_live clock dot);
  }

  pub sync_commutative : (a b : DotState V) → KnowsItsLive a → KnowsItsLive b → SameDots (sync a b) (sync b a)
  sync_commutative a b g h = record {
    known = λ dot. sync_knows a b dot ∙ or_turned (covers a.known dot) (covers b.known dot) ∙ sym (sync_knows b a dot);
    live = λ dot. sync_keeps a b dot ∙ turned (covers a.known dot) (is_live a dot) (covers b.known dot) (is_live b dot) ∙ sym (sync_keeps b a dot);
  }

  pub sync_associative : (a b c : DotState V) → KnowsItsLive a → KnowsItsLive b → KnowsItsLive c → SameDots (sync (sync a b) c) (sync a (sync b c))
  sync_associative a b c f g h = record {
    known = λ dot.
        sync_knows (sync a b) c dot
        ∙ ap (λ k. k || covers c.known dot) (sync_knows a b dot)
        ∙ or_grouped (covers a.known dot) (covers b.known dot) (covers c.known dot)
        ∙ ap (λ k. covers a.known dot || k) (sym (sync_knows b c dot))
        ∙ sym (sync_knows a (sync b c) dot);
    live = λ dot.
        sync_keeps (sync a b) c dot
        ∙ (λ i. synced (sync_keeps a b dot i) (is_live c dot) (sync_knows a b dot i) (covers c.known dot))
        ∙ grouped (covers a.known dot) (is_live a dot) (covers b.known dot) (is_live b dot) (covers c.known dot) (is_live c dot) (f dot) (g dot) (h dot)
        ∙ (λ i. synced (is_live a dot) (sym (sync_keeps b c dot) i) (covers a.known dot) (sym (sync_knows b c dot) i))
        ∙ sym (sync_keeps a (sync b c) dot);
  }

  pub sync_above : (a b : DotState V) (dot : Dot) → IsTrue (covers a.known dot) → IsTrue (covers (sync a b).known dot)
  sync_above a b dot h = sync_knows a b dot ∙ ap (λ k. k || covers b.known dot) h
