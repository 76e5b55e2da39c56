use Rattle.std.proofs.Common.{◌∙◌, sym, arith}
use Rattle.std.specs.Prelude.{max}
use Rattle.std.specs.Option.{option_map}
use Rattle.dvv_set.specs.Stored.{clock_entries}
use Rattle.dvv_set.proofs.Stored.{length-clock_entries}
use Rattle.dvv_set.proofs.Ready.{seen-is, after-length, one_more, no_more}
use Rattle.dvv_set.proofs.room.required_room.Goals as goal

pub returns-then-seen-eq0-clause-counter : goal.returns-then-seen-eq0-clause-counter
returns-then-seen-eq0-clause-counter g c =
    let entries = clock_entries c.args.entries.now in
    let pairs = option_map (λ context. context.now) c.args.context in
    let f = c.context_counts-given.ensures.of_form in
    let seen = c.max-seen.ensures ∙ (λ i. max (c.last_counter-own.ensures.counter i) (c.context_counts-given.ensures.counter i)) ∙ seen-is entries pairs f c.requires c.args.actor in
    seen

pub returns-clause-counter : goal.returns-clause-counter
returns-clause-counter g c =
    let entries = clock_entries c.args.entries.now in
    let pairs = option_map (λ context. context.now) c.args.context in
    let f = c.context_counts-given.ensures.of_form in
    let seen = c.max-seen.ensures ∙ (λ i. max (c.last_counter-own.ensures.counter i) (c.context_counts-given.ensures.counter i)) ∙ seen-is entries pairs f c.requires c.args.actor in
    seen

pub returns-then-seen-eq0-clause-more : goal.returns-then-seen-eq0-clause-more
returns-then-seen-eq0-clause-more g c =
    let entries = clock_entries c.args.entries.now in
    let pairs = option_map (λ context. context.now) c.args.context in
    let f = c.context_counts-given.ensures.of_form in
    let seen = c.max-seen.ensures ∙ (λ i. max (c.last_counter-own.ensures.counter i) (c.context_counts-given.ensures.counter i)) ∙ seen-is entries pairs f c.requires c.args.actor in
    let counted = c.context_counts-given.ensures.new in
    let all = after-length entries pairs f c.requires c.args.actor in
    let one = one_more _ _ _ (sym seen ∙ c.if-seen-eq0.true) all in
    omega (arith, counted, one, length-clock_entries c.args.entries.now)

pub returns-clause-more : goal.returns-clause-more
returns-clause-more g c =
    let entries = clock_entries c.args.entries.now in
    let pairs = option_map (λ context. context.now) c.args.context in
    let f = c.context_counts-given.ensures.of_form in
    let seen = c.max-seen.ensures ∙ (λ i. max (c.last_counter-own.ensures.counter i) (c.context_counts-given.ensures.counter i)) ∙ seen-is entries pairs f c.requires c.args.actor in
    let counted = c.context_counts-given.ensures.new in
    let all = after-length entries pairs f c.requires c.args.actor in
    let none = no_more _ _ _ (λ z. c.if-seen-eq0.false (seen ∙ z)) all in
    omega (arith, counted, none, length-clock_entries c.args.entries.now)
