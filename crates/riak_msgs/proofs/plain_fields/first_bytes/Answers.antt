use Rattle.std.proofs.Common.{◌≡◌, ℕ, ◌<◌, ◌+◌, ◌*◌, List, ◌∷◌, ◌++◌, length, take, drop, sym, ap, ◌∙◌}
use Rattle.std.proofs.lemmas.List.{take-append-drop}
use Rattle.riak_msgs.specs.PlainFields.{BeginsPlainly, BeginsWithLen}
use Rattle.riak_msgs.proofs.PlainFields.{begins_plainly, no_plain-nil, no_plain-key, no_plain-len, no_plain-short}
use Rattle.riak_msgs.proofs.PlainParts.{plain_field}
use Rattle.riak_msgs.proofs.plain_fields.first_bytes.Goals as goal

pub returns-in_default-clause-none : goal.returns-in_default-clause-none
returns-in_default-clause-none c = no_plain-nil c.args.number c.args.bytes.now c.requires.1 c.in_default.ensures.cases

pub returns-then-key-number-clause-none : goal.returns-then-key-number-clause-none
returns-then-key-number-clause-none c =
    no_plain-key c.args.number c.in-Some.key.now c.args.bytes.now c.in-Some.behind.now c.requires.1 c.in-Some.ensures.cases.0 c.if-key-number.true

pub returns-in_default-first_len-clause-none : goal.returns-in_default-first_len-clause-none
returns-in_default-first_len-clause-none c =
    no_plain-len c.args.number c.in-Some.key.now c.args.bytes.now c.in-Some.behind.now c.requires.1 c.in-Some.ensures.cases.0
    c.in_default-first_len.ensures.none

pub returns-then-rest-len-clause-none : goal.returns-then-rest-len-clause-none
returns-then-rest-len-clause-none c =
    no_plain-short c.args.number c.in-Some.key.now c.in-Some-first_len.len c.args.bytes.now c.in-Some.behind.now c.in-Some-first_len.rest.now c.requires.1
    c.in-Some.ensures.cases.0 c.in-Some-first_len.ensures.some c.if-rest-len.true

begins : (number key len : ℕ) (bs rest others front back : List ℕ) → number < 16 → bs ≡ key ∷ rest → key ≡ number * 8 + 2 →
    BeginsWithLen rest len others → front ≡ take len others → back ≡ drop len others → length front ≡ len → BeginsPlainly number bs front back
begins number key len bs rest others front back low is same b front_is back_is counted =
    begins_plainly number key len bs rest others front back low is same b
    (sym (take-append-drop len others) ∙ ap (λ w. w ++ drop len others) (sym front_is) ∙ ap (λ w. front ++ w) (sym back_is)) counted

pub returns-clause-some : goal.returns-clause-some
returns-clause-some c =
    begins c.args.number c.in-Some.key.now c.in-Some-first_len.len c.args.bytes.now c.in-Some.behind.now c.in-Some-first_len.rest.now
    c.split_at.result.0.now c.split_at.result.1.now c.requires.1 c.in-Some.ensures.cases.0 c.if-key-number.false c.in-Some-first_len.ensures.some
    c.split_at.ensures.front c.split_at.ensures.back c.split_at.ensures.front_len

pub returns-clause-field : goal.returns-clause-field
returns-clause-field c =
    plain_field c.args.number c.args.bytes.now c.split_at.result.0.now c.split_at.result.1.now c.requires
    (begins c.args.number c.in-Some.key.now c.in-Some-first_len.len c.args.bytes.now c.in-Some.behind.now c.in-Some-first_len.rest.now
    c.split_at.result.0.now c.split_at.result.1.now c.requires.1 c.in-Some.ensures.cases.0 c.if-key-number.false c.in-Some-first_len.ensures.some
    c.split_at.ensures.front c.split_at.ensures.back c.split_at.ensures.front_len)
