use Rattle.std.proofs.Common.{List, ℕ, [], ◌∷◌, sym, subst}
use Rattle.riak_msgs.proofs.content.Content.encode_head.Goals as goal

pub returns : goal.returns
returns g c =
    let details = c.in_ok-encoded_details.field-0.now in
    subst (λ (bs : List ℕ). g.O.Output.appends c.args.out.now bs c.append_encoded-2.new.self) (sym c.in_ok-encoded_details.ensures)
    (g.met.O.Output.joins c.args.out.now c.append_encoded.new.self c.append_encoded-2.new.self (10 ∷ 0 ∷ []) details c.in_ok-append_encoded.ensures c.in_ok-append_encoded-2.ensures)
