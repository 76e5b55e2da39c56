use Rattle.std.proofs.Common.{rules, ◌<◌, length, inl}
use Rattle.gate_node.specs.Asked.{GetsOpen}
use Rattle.gate_node.proofs.Resuming.{answered_there, closed_there, kept_fits, kept_place, made_is, made_of, node_of, places_set, still_answered, still_closed}
use Rattle.gate_node.proofs.node.GateNode.get_at_fallback.Goals as goal

pub index_mut-kept-requires : goal.index_mut-kept-requires
index_mut-kept-requires g c =
    let places = c.self.inside.fallbacks.items in
    let made = c.make_places.new.places.items in
    let all = c.make_places.ensures.made c.if-not-make_places.false in
    let inside = node_of c.self.inside.shared.now c.self.inside.primaries.items made (g.C.CountReplies.count c.self.inside.counter) in
    let is = made_is c.self.inside.size c.self.inside.shared.now c.self.inside.primaries.items places made (g.C.CountReplies.count c.self.inside.counter) c.make_places.ensures.same all c.args.self.now c.self.view_is in
    let of = made_of c.self.inside.size c.self.inside.shared.now c.self.inside.primaries.items places made (g.C.CountReplies.count c.self.inside.counter) c.make_places.ensures.same all c.self.invariant in
    let within : c.args.index < length made = kept_place inside c.args.self.now c.args.index c.args.fallback.now is of c.requires.diverted in
    search rules

pub get_diverted-requires-clause-fits : goal.get_diverted-requires-clause-fits
get_diverted-requires-clause-fits g c =
    let places = c.self.inside.fallbacks.items in
    let made = c.make_places.new.places.items in
    let all = c.make_places.ensures.made c.if-not-make_places.false in
    let inside = node_of c.self.inside.shared.now c.self.inside.primaries.items made (g.C.CountReplies.count c.self.inside.counter) in
    let is = made_is c.self.inside.size c.self.inside.shared.now c.self.inside.primaries.items places made (g.C.CountReplies.count c.self.inside.counter) c.make_places.ensures.same all c.args.self.now c.self.view_is in
    let of = made_of c.self.inside.size c.self.inside.shared.now c.self.inside.primaries.items places made (g.C.CountReplies.count c.self.inside.counter) c.make_places.ensures.same all c.self.invariant in
    kept_fits inside c.args.self.now c.args.index c.args.fallback.now is of c.requires.diverted c.index_mut-kept.result.now c.index_mut-kept.ensures.value

pub invariant_of-self-in-Ok : goal.invariant_of-self-in-Ok
invariant_of-self-in-Ok g c =
    let places = c.self.inside.fallbacks.items in
    let made = c.make_places.new.places.items in
    let all = c.make_places.ensures.made c.if-not-make_places.false in
    let inside = node_of c.self.inside.shared.now c.self.inside.primaries.items made (g.C.CountReplies.count c.self.inside.counter) in
    let is = made_is c.self.inside.size c.self.inside.shared.now c.self.inside.primaries.items places made (g.C.CountReplies.count c.self.inside.counter) c.make_places.ensures.same all c.args.self.now c.self.view_is in
    let of = made_of c.self.inside.size c.self.inside.shared.now c.self.inside.primaries.items places made (g.C.CountReplies.count c.self.inside.counter) c.make_places.ensures.same all c.self.invariant in
    let within = kept_place inside c.args.self.now c.args.index c.args.fallback.now is of c.requires.diverted in
    rw (places_set c.self.inside.size c.args.index made c.get_diverted.new.kept within)
    (still_answered inside c.args.self.now c.args.index c.args.fallback.now is of c.requires.diverted c.index_mut-kept.result.now c.index_mut-kept.ensures.value c.get_diverted.new.kept
    (λ p q. GetsOpen (g.A.GetAnswer.get c.args.get.now) p q (g.A.GetAnswer.reply c.in-Ok.reply) c.in-Ok.quantity) c.in-Ok.ensures.answers)

pub invariant_of-self-in-Err : goal.invariant_of-self-in-Err
invariant_of-self-in-Err g c =
    let places = c.self.inside.fallbacks.items in
    let made = c.make_places.new.places.items in
    let all = c.make_places.ensures.made c.if-not-make_places.false in
    let inside = node_of c.self.inside.shared.now c.self.inside.primaries.items made (g.C.CountReplies.count c.self.inside.counter) in
    let is = made_is c.self.inside.size c.self.inside.shared.now c.self.inside.primaries.items places made (g.C.CountReplies.count c.self.inside.counter) c.make_places.ensures.same all c.args.self.now c.self.view_is in
    let of = made_of c.self.inside.size c.self.inside.shared.now c.self.inside.primaries.items places made (g.C.CountReplies.count c.self.inside.counter) c.make_places.ensures.same all c.self.invariant in
    let within = kept_place inside c.args.self.now c.args.index c.args.fallback.now is of c.requires.diverted in
    rw (places_set c.self.inside.size c.args.index made c.get_diverted.new.kept within)
    (still_closed inside c.args.self.now c.args.index c.args.fallback.now is of c.requires.diverted c.index_mut-kept.result.now c.index_mut-kept.ensures.value c.get_diverted.new.kept
    c.in-Err.number c.in-Err.ensures.closed)

pub returns-in-Ok-clause-answers : goal.returns-in-Ok-clause-answers
returns-in-Ok-clause-answers g c =
    let places = c.self.inside.fallbacks.items in
    let made = c.make_places.new.places.items in
    let all = c.make_places.ensures.made c.if-not-make_places.false in
    let inside = node_of c.self.inside.shared.now c.self.inside.primaries.items made (g.C.CountReplies.count c.self.inside.counter) in
    let is = made_is c.self.inside.size c.self.inside.shared.now c.self.inside.primaries.items places made (g.C.CountReplies.count c.self.inside.counter) c.make_places.ensures.same all c.args.self.now c.self.view_is in
    let of = made_of c.self.inside.size c.self.inside.shared.now c.self.inside.primaries.items places made (g.C.CountReplies.count c.self.inside.counter) c.make_places.ensures.same all c.self.invariant in
    let within = kept_place inside c.args.self.now c.args.index c.args.fallback.now is of c.requires.diverted in
    rw (places_set c.self.inside.size c.args.index made c.get_diverted.new.kept within)
    (inl (answered_there inside c.args.self.now c.args.index c.args.fallback.now is of c.requires.diverted c.index_mut-kept.result.now c.index_mut-kept.ensures.value c.get_diverted.new.kept
    c.requires.new (λ p q quantity. GetsOpen (g.A.GetAnswer.get c.args.get.now) p q (g.A.GetAnswer.reply c.in-Ok.reply) quantity) c.in-Ok.quantity (g.C.CountReplies.count c.count_answer.new.self) c.in-Ok.ensures.answers c.count_answer.ensures))

pub returns-in-Err-clause-closed : goal.returns-in-Err-clause-closed
returns-in-Err-clause-closed g c =
    let places = c.self.inside.fallbacks.items in
    let made = c.make_places.new.places.items in
    let all = c.make_places.ensures.made c.if-not-make_places.false in
    let inside = node_of c.self.inside.shared.now c.self.inside.primaries.items made (g.C.CountReplies.count c.self.inside.counter) in
    let is = made_is c.self.inside.size c.self.inside.shared.now c.self.inside.primaries.items places made (g.C.CountReplies.count c.self.inside.counter) c.make_places.ensures.same all c.args.self.now c.self.view_is in
    let of = made_of c.self.inside.size c.self.inside.shared.now c.self.inside.primaries.items places made (g.C.CountReplies.count c.self.inside.counter) c.make_places.ensures.same all c.self.invariant in
    let within = kept_place inside c.args.self.now c.args.index c.args.fallback.now is of c.requires.diverted in
    rw (places_set c.self.inside.size c.args.index made c.get_diverted.new.kept within)
    (closed_there inside c.args.self.now c.args.index c.args.fallback.now is of c.requires.diverted c.index_mut-kept.result.now c.index_mut-kept.ensures.value c.get_diverted.new.kept
    c.requires.new c.in-Err.number c.in-Err.ensures.closed)
