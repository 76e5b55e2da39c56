use Rattle.std.proofs.Common.{refl, sym, ◌∙◌}
use Rattle.std.proofs.lemmas.Bool.{false≢true}
use Rattle.riak_msgs.specs.Embedded.{content_of}
use Rattle.riak_msgs.specs.Seen.{no_fields}
use Rattle.riak_msgs.proofs.Walks.{OnOk-at}
use Rattle.riak_msgs.proofs.RepliesSteps.{is_none-missing, is_none-whole, or_none, or_one}
use Rattle.riak_msgs.proofs.reply_view.ReplyView.merge_content.Goals as goal

pub returns-then-not-has_required_fields-clause-ok : goal.returns-then-not-has_required_fields-clause-ok
returns-then-not-has_required_fields-clause-ok c =
    let (part, stands, is) = c.in_ok-merge.ensures.ok no_fields c.new-view.ensures in
    let missing = is_none-missing c.has_required_fields.result (content_of part) (c.has_required_fields.ensures part is) c.if-not-has_required_fields.true in (
      part,
      stands,
      record {
        context = refl;
        unchanged = refl;
        misses_field = or_one c.args.self.now.misses_field _ missing;
        memory = λ m k. absurd (false≢true (sym m));
        contents = λ m k. absurd (false≢true (sym m));
      },
    )

pub returns-then-not-self-clause-ok : goal.returns-then-not-self-clause-ok
returns-then-not-self-clause-ok c =
    let (part, stands, is) = c.in_ok-merge.ensures.ok no_fields c.new-view.ensures in
    let whole = is_none-whole c.has_required_fields.result (content_of part) (c.has_required_fields.ensures part is) c.if-not-has_required_fields.false in (
      part,
      stands,
      record {
        context = refl;
        unchanged = refl;
        misses_field = or_none c.args.self.now.misses_field _ whole;
        memory = λ m k. c.if-not-self.true;
        contents = λ m k. OnOk-at c.push_content-pushed.result _ (sym c.is_err-self.ensures.value ∙ k) (c.push_content-pushed.ensures part is stands);
      },
    )

pub returns-else-not-self-clause-ok : goal.returns-else-not-self-clause-ok
returns-else-not-self-clause-ok c =
    let (part, stands, is) = c.in_ok-merge.ensures.ok no_fields c.new-view.ensures in
    let whole = is_none-whole c.has_required_fields.result (content_of part) (c.has_required_fields.ensures part is) c.if-not-has_required_fields.false in (
      part,
      stands,
      record {
        context = refl;
        unchanged = refl;
        misses_field = or_none c.args.self.now.misses_field _ whole;
        memory = λ m k. k;
        contents = λ m k. absurd (false≢true (sym k ∙ c.if-not-self.false));
      },
    )
