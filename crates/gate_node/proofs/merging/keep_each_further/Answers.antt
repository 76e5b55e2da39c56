use Rattle.std.proofs.Common.{◌∙◌, subst}
use Rattle.gate_node.proofs.Further.{AreMerged, merged_none, merged_more, same_gate}
use Rattle.gate_node.proofs.merging.keep_each_further.Goals as goal

pub loop-pass-init : goal.loop-pass-init
loop-pass-init c = merged_none c.args.kept.now.items c.args.others.items c.requires

pub keep_further-requires : goal.keep_further-requires
keep_further-requires c =
    let kept = c.loop-pass.kept.items in
    let left = c.pop.new.self.items in
    let so_far = subst (λ l. AreMerged kept l c.args.kept.now.items c.args.others.items) c.in-Some.ensures.items c.loop-pass.invariant in
    same_gate kept left c.args.kept.now.items c.args.others.items c.in-Some.pass so_far c.len-place.result (c.len-place.ensures ∙ c.pop.new.self.ok.0) c.index_mut.result.now c.index_mut.ensures.value

pub loop-pass-preserved : goal.loop-pass-preserved
loop-pass-preserved c =
    let kept = c.loop-pass.kept.items in
    let left = c.pop.new.self.items in
    let so_far = subst (λ l. AreMerged kept l c.args.kept.now.items c.args.others.items) c.in-Some.ensures.items c.loop-pass.invariant in
    merged_more kept left c.args.kept.now.items c.args.others.items c.in-Some.pass so_far c.len-place.result (c.len-place.ensures ∙ c.pop.new.self.ok.0) c.index_mut.result.now c.keep_further.new.kept c.index_mut.ensures.value
    c.keep_further.ensures.gate c.keep_further.ensures.mine c.keep_further.ensures.theirs
