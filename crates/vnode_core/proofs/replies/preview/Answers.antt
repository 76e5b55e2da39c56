use Rattle.std.proofs.Common.{◌∙◌, ap}
use Rattle.std.specs.Option.{option_map}
use Rattle.dvv_set.specs.Held.{pairs_of as seen_in}
use Rattle.dvv_set.specs.References.{referred, with_values}
use Rattle.vnode_core.specs.Replies.{clock_found}
use Rattle.clock_store.specs.Keys.{stored_of}
use Rattle.vnode_core.proofs.Previews.{preview-is}
use Rattle.vnode_core.proofs.replies.preview.Goals as goal

pub returns : goal.returns
returns c = λ content.
    preview-is content c.args.actor (seen_in c.args.context) c.reserve.new.self.meaning c.put_ready.new.self.meaning (clock_found (option_map (λ s. stored_of s.now) c.args.found))
    (ap (with_values referred) c.in_ok-reserve.ensures.unchanged ∙ c.in_ok-clock.ensures) c.put_ready.ensures
