use Rattle.std.proofs.Common.{◌∙◌, ap, arith}
use Rattle.std.specs.Prelude.{Some}
use Rattle.riak_msgs.proofs.ByteOrder.{AreBytes}
use Rattle.names.proofs.Words.{are_words, is_name, fits}
use Rattle.names.proofs.short_name.ShortName.of.Goals as goal

pub invariant_of-result : goal.invariant_of-result
invariant_of-result c =
    let bytes : AreBytes c.args.bytes.now = λ k. let fits = c.type_inv.bytes k in omega arith in
    are_words c.args.bytes.now c.high_word.result c.low_word.result (omega (arith, c.if-len-gt15.false)) bytes c.high_word.ensures c.low_word.ensures

pub returns : goal.returns
returns c =
    let bytes : AreBytes c.args.bytes.now = λ k. let fits = c.type_inv.bytes k in omega arith in
    ap Some (is_name c.args.bytes.now c.high_word.result c.low_word.result (omega (arith, c.if-len-gt15.false)) bytes c.high_word.ensures c.low_word.ensures)
    ∙ fits c.args.bytes.now (omega (arith, c.if-len-gt15.false))
