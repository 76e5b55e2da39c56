use Rattle.std.proofs.Common.{◌≡◌, ◌∙◌, length, nat_eq, ap, sym}
use Rattle.std.specs.List.{list_all}
use Rattle.node_commands.proofs.Ends.{none_in_all}
use Rattle.node_commands.proofs.progress.Progress.rests_none.Goals as goal

pub returns : goal.returns
returns c =
    let lists = c.args.self.now.rested.items in
    let all : c.are_empty.result ≡ list_all (λ one. nat_eq (length one.items) 0) lists = c.are_empty.ensures ∙ ap (list_all (λ one. nat_eq (length one.items) 0)) c.as_slice.ensures.value in
    let just = none_in_all lists in
    (λ yes. just.0 (sym all ∙ yes), λ none. all ∙ just.1 none)
