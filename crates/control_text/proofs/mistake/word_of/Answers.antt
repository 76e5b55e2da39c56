use Rattle.control_text.proofs.Words.{no_word, refuted}
use Rattle.control_text.proofs.mistake.word_of.Goals as goal

pub returns : goal.returns
returns c = no_word c.args.text.now
    (λ begins. refuted c.begins_with.result (c.begins_with.ensures.1 begins) c.if-begins_with.false)
    (λ begins. refuted c.begins_with-2.result (c.begins_with-2.ensures.1 begins) c.if-begins_with-2.false)
    (λ begins. refuted c.begins_with-3.result (c.begins_with-3.ensures.1 begins) c.if-begins_with-3.false)
    (λ begins. refuted c.begins_with-4.result (c.begins_with-4.ensures.1 begins) c.if-begins_with-4.false)
    (λ begins. refuted c.begins_with-5.result (c.begins_with-5.ensures.1 begins) c.if-begins_with-5.false)
    (λ begins. refuted c.begins_with-6.result (c.begins_with-6.ensures.1 begins) c.if-begins_with-6.false)
    (λ begins. refuted c.begins_with-7.result (c.begins_with-7.ensures.1 begins) c.if-begins_with-7.false)
    (λ begins. refuted c.begins_with-8.result (c.begins_with-8.ensures.1 begins) c.if-begins_with-8.false)
