use Rattle.std.proofs.Common.{◌≡◌, ◌||◌, [], ◌∷◌, ◌++◌, List, map, ap, sym, ◌∙◌}
use Rattle.std.specs.Prelude.{is_none, option_copied}
use Rattle.std.proofs.lemmas.List.{append-nil, map-append}
use Rattle.std.proofs.lemmas.Result.{on_ok_weaker}
use Rattle.pb_fields.specs.Field.{seen}
use Rattle.riak_msgs.specs.Embedded.{ContentFields, all_of, content_of}
use Rattle.riak_msgs.specs.ReadingReplies.{contents_of, shown_of}
use Rattle.riak_msgs.specs.SeenReplies.{whole_of}
use Rattle.riak_msgs.proofs.Walks.{IfErr-from_OnErr}
use Rattle.riak_msgs.proofs.Scans.{EachContent-more}
use Rattle.riak_msgs.proofs.RepliesPicking.{last_bytes-more, flag_of-more}
use Rattle.riak_msgs.proofs.RepliesSteps.{ContentsIn-one, ContentsIn-not, ContentsIn-none, is_none-contents_of, is_none-all_of-one, or_left}
use Rattle.riak_msgs.proofs.reply_view.ReplyViewMerge.merge_field.Goals as goal

pub returns-in-Some-clause-ok : goal.returns-in-Some-clause-ok
returns-in-Some-clause-ok c =
    let field = seen c.args.field in
    let old = c.args.self.now in
    on_ok_weaker c.merge_content.result (λ (part, one, merges) fields before.
    let (reply, own, each, is) = before in (
      record { own = reply.own ++ field ∷ []; contents = reply.contents ++ part ∷ [] },
      ap (λ fs. fs ++ field ∷ []) own,
      EachContent-more fields field reply.contents (part ∷ []) each (ContentsIn-one field c.in-Some.content.now part c.in-Some.ensures one),
      record {
        context = ap option_copied (merges.context ∙ c.or-self.ensures)
            ∙ last_bytes-more 2 reply.own field c.bytes_at.result old.context c.bytes_at.ensures is.context;
        unchanged = merges.unchanged ∙ c.keep_flag.ensures ∙ flag_of-more 3 reply.own field old.unchanged is.unchanged;
        misses_field = merges.misses_field ∙ ap (λ b. b || is_none (content_of part)) is.misses_field
            ∙ ap (λ b. is_none (contents_of reply) || b) (sym (is_none-all_of-one part)) ∙ sym (is_none-contents_of reply.contents (part ∷ []));
        contents = λ m k. merges.contents m k
            ∙ ap (λ xs. xs ++ whole_of part ∷ []) (is.contents (or_left old.misses_field _ (sym merges.misses_field ∙ m)) (merges.memory m k))
            ∙ sym (map-append whole_of reply.contents (part ∷ []));
      },
    )) c.merge_content.ensures.ok

pub returns-in-Some-clause-err : goal.returns-in-Some-clause-err
returns-in-Some-clause-err c =
    IfErr-from_OnErr c.merge_content.result _ _ (λ none fault. ContentsIn-not (seen c.args.field) c.in-Some.content.now c.in-Some.ensures none)
    c.merge_content.ensures.err

pub returns-in-None-clause-ok : goal.returns-in-None-clause-ok
returns-in-None-clause-ok c = λ fields before.
    let field = seen c.args.field in
    let old = c.args.self.now in
    let (reply, own, each, is) = before in
    let same : reply.contents ≡ reply.contents ++ [] = sym (append-nil reply.contents) in (
      record { own = reply.own ++ field ∷ []; contents = reply.contents ++ [] },
      ap (λ fs. fs ++ field ∷ []) own,
      EachContent-more fields field reply.contents [] each (ContentsIn-none field c.in-None.ensures),
      record {
        context = ap option_copied c.or-self.ensures
            ∙ last_bytes-more 2 reply.own field c.bytes_at.result old.context c.bytes_at.ensures is.context;
        unchanged = c.keep_flag.ensures ∙ flag_of-more 3 reply.own field old.unchanged is.unchanged;
        misses_field = is.misses_field ∙ ap (λ (xs : List ContentFields). is_none (all_of (map shown_of xs))) same;
        contents = λ m k. is.contents m k ∙ ap (map whole_of) same;
      },
    )
