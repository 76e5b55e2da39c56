use Rattle.std.proofs.Common.{◌≡◌, ◌∙◌, List, [], ℕ, sym, subst, length, arith}
use Rattle.rw_gate.proofs.Prefixes.{prefix_length}
use Rattle.handoff.specs.Copying.{AreCopies, RiseBetween}
use Rattle.handoff.proofs.Copies.{copies-more, rise-more, tried-more}
use Rattle.handoff.proofs.copying.copy_and_count.Goals as goal

pub returns-clause-copies : goal.returns-clause-copies
returns-clause-copies g c =
    let diversion = c.args.partition.now.fallback.now.diversion in
    let mine = c.copy_some.new.mine in
    let theirs = c.copy_some.new.theirs in
    subst (λ (ks : List ℕ). AreCopies diversion c.look_left.new.mine c.look_left.new.theirs ks) (sym c.look_left.ensures.own)
    (copies-more diversion mine c.look_left.new.mine theirs c.look_left.new.theirs mine.own c.look_left.ensures.more
    (c.look_left.ensures.theirs ∙ sym c.copy_some.ensures.theirs) c.look_left.ensures.more_there c.in_ok-keys.ensures.copies)

pub copy_some-requires-clause-rise : goal.copy_some-requires-clause-rise
copy_some-requires-clause-rise g c =
    let mine = c.look_first-began.new.mine in
    let none : mine.own ≡ [] = c.look_first-began.ensures.own ∙ c.requires.new in
    let seen = c.look_first-began.ensures.seen in
    subst (λ (ks : List ℕ). RiseBetween c.look_first-began.result ks (length mine.prefix)) (sym none) (omega (arith, seen))

pub returns-clause-rise : goal.returns-clause-rise
returns-clause-rise g c =
    let mine = c.copy_some.new.mine in
    subst (λ (ks : List ℕ). RiseBetween c.look_first-began.result ks (length c.look_left.new.mine.prefix)) (sym c.look_left.ensures.own)
    (rise-more c.look_first-began.result mine.own (length mine.prefix) (length c.look_left.new.mine.prefix) (prefix_length mine.prefix c.look_left.new.mine.prefix c.look_left.ensures.more) c.in_ok-keys.ensures.rise)

pub returns-clause-tried : goal.returns-clause-tried
returns-clause-tried g c =
    tried-more c.args.partition.now.fallback.now.diversion c.copy_some.new.mine c.look_left.new.mine c.copy_some.new.theirs c.look_left.new.theirs _ _
    (c.look_left.ensures.mine ∙ sym c.copy_some.ensures.mine) c.look_left.ensures.more (c.look_left.ensures.theirs ∙ sym c.copy_some.ensures.theirs) c.look_left.ensures.more_there c.in_ok-keys.ensures.tried
