use Rattle.std.proofs.Common.{◌∙◌, ap}
use Rattle.riak_msgs.specs.KeyOrder.{key_cmp}
use Rattle.names.specs.AssocList.{get}
use Rattle.names.specs.Nested.{key_of}
use Rattle.names.proofs.name_map.NameMap.get_short.Goals as goal

pub returns-clause-place : goal.returns-clause-place
returns-clause-place c =
    let same = ap (λ t. key_of t (c.names-names.result.0, c.names-names.result.1)) c.default_type-bucket_type.ensures ∙ c.names-names.ensures.same in
    c.get_names.ensures.place ∙ ap (get key_cmp c.args.self.now) same
