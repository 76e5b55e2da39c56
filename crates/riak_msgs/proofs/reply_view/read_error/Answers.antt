use Rattle.std.proofs.Common.{None, Some, true, false, refl, ap, sym, ◌∙◌}
use Rattle.std.specs.Prelude.{option_copied}
use Rattle.pb_fields.proofs.Merging.{MergesAll-tracks}
use Rattle.riak_msgs.specs.SeenReplies.{IsSeenError}
use Rattle.riak_msgs.proofs.RepliesSaid.{DecodesError-is}
use Rattle.riak_msgs.proofs.reply_view.read_error.Goals as goal

pub returns-in_default : goal.returns-in_default
returns-in_default c =
    let (fields, stands, all) = c.in_ok-scan.ensures.ok in
    let is = MergesAll-tracks IsSeenError _ c.scan.new.into fields (record { text = refl; has_number = refl }) all in
    DecodesError-is c.args.body.now fields None None c.scan.new.into.has_number _ stands
    (sym (ap option_copied c.in_default.is) ∙ is.text) refl is.has_number refl

pub returns-in-None : goal.returns-in-None
returns-in-None c =
    let (fields, stands, all) = c.in_ok-scan.ensures.ok in
    let is = MergesAll-tracks IsSeenError _ c.scan.new.into fields (record { text = refl; has_number = refl }) all in
    DecodesError-is c.args.body.now fields (Some c.in-Some.bytes.now) None c.scan.new.into.has_number _ stands
    (sym (ap option_copied c.in-Some.is) ∙ is.text) (sym c.in-None.is ∙ c.text_named.ensures) is.has_number refl

pub returns-in-Some-text_named : goal.returns-in-Some-text_named
returns-in-Some-text_named c =
    let (fields, stands, all) = c.in_ok-scan.ensures.ok in
    let is = MergesAll-tracks IsSeenError _ c.scan.new.into fields (record { text = refl; has_number = refl }) all in
    DecodesError-is c.args.body.now fields (Some c.in-Some.bytes.now) (Some c.in-Some-text_named.field-0) false _ stands
    (sym (ap option_copied c.in-Some.is) ∙ is.text) (sym c.in-Some-text_named.is ∙ c.text_named.ensures)
    (sym c.if-not-error.true ∙ is.has_number) refl

pub returns-in-Some-2 : goal.returns-in-Some-2
returns-in-Some-2 c =
    let (fields, stands, all) = c.in_ok-scan.ensures.ok in
    let is = MergesAll-tracks IsSeenError _ c.scan.new.into fields (record { text = refl; has_number = refl }) all in
    DecodesError-is c.args.body.now fields (Some c.in-Some.bytes.now) (Some c.in-Some-text_named.field-0) true _ stands
    (sym (ap option_copied c.in-Some.is) ∙ is.text) (sym c.in-Some-text_named.is ∙ c.text_named.ensures)
    (sym c.if-not-error.false ∙ is.has_number) refl
