use Rattle.std.proofs.Common.{sym, ◌∙◌, ap}
use Rattle.std.specs.Prelude.{not, ◌&&◌}
use Rattle.riak_msgs.proofs.Walks.{seen_whole}
use Rattle.riak_msgs.proofs.content_view.ContentView.has_required_fields.Goals as goal

pub returns-then-is_some : goal.returns-then-is_some
returns-then-is_some c = λ d is. sym (seen_whole c.args.self.now d is ∙ ap (λ b. b && not c.args.self.now.misses_key) (sym c.is_some.ensures ∙ c.if-is_some.true))

pub returns-else-is_some : goal.returns-else-is_some
returns-else-is_some c = λ d is. c.if-is_some.false ∙ sym (seen_whole c.args.self.now d is ∙ ap (λ b. b && not c.args.self.now.misses_key) (sym c.is_some.ensures ∙ c.if-is_some.false))
