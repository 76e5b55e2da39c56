use Rattle.std.proofs.Common.{ℕ, List, ap, subst, ◌∙◌}
use Rattle.std.proofs.lemmas.Result.{on_ok_weaker}
use Rattle.riak_msgs.proofs.PartsAppended.{scalars_seen}
use Rattle.riak_msgs.proofs.Requests.{unwrap_or-copied}
use Rattle.riak_msgs.proofs.content_view.ContentView.encode_scalars.Goals as goal

pub returns : goal.returns
returns g c = λ d seen.
    let joins = g.met.O.Output.joins in
    let view = c.args.self.now in
    let value = ap (λ b. b.now) c.unwrap_or.ensures ∙ unwrap_or-copied view.value _ in
    let content_type = joins _ _ _ _ _ c.in_ok-encode_bytes.ensures c.in_ok-encode_optional.ensures in
    let charset = joins _ _ _ _ _ content_type c.in_ok-encode_optional-2.ensures in
    let P : List ℕ → Type 0 = λ bs. g.O.Output.appends c.args.out.now bs c.encode_optional-3.new.out in
    on_ok_weaker c.encode_optional-3.result (λ last. subst P (scalars_seen view d _ seen value) (joins _ _ _ _ _ charset last))
    c.encode_optional-3.ensures
