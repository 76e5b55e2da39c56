use Rattle.std.proofs.Common.{sym, ap, ◌∙◌, true, false}
use Rattle.std.specs.Str.{bytes_eq}
use Rattle.riak_msgs.specs.Text.{text_bytes}
use Rattle.riak_msgs.specs.declared.text.Text.TheVariants.{UnknownCode}
use Rattle.riak_msgs.proofs.RepliesPicking.{find-drop}
use Rattle.riak_msgs.proofs.text.named_in.Goals as goal

pub returns-then-eq : goal.returns-then-eq
returns-then-eq c =
    let bytes = c.args.bytes.now in
    find-drop (λ text. bytes_eq (text_bytes text) bytes) c.args.texts.now c.loop-text.text-index UnknownCode true c.loop-text-test.true
    (sym c.if-eq.true ∙ c.eq.ensures ∙ ap (λ t. bytes_eq t bytes) c.text_of.ensures)
    ∙ c.loop-text.invariant

pub loop-text-preserved : goal.loop-text-preserved
loop-text-preserved c =
    let bytes = c.args.bytes.now in
    find-drop (λ text. bytes_eq (text_bytes text) bytes) c.args.texts.now c.loop-text.text-index UnknownCode false c.loop-text-test.true
    (sym c.if-eq.false ∙ c.eq.ensures ∙ ap (λ t. bytes_eq t bytes) c.text_of.ensures)
    ∙ c.loop-text.invariant
