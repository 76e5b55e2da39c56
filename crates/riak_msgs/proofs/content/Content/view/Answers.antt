use Rattle.std.proofs.Common.{◌≡◌, ℕ, ◌^◌, ◌<◌, false, List, [], ◌∷◌, length, ap, sym, subst, ◌∙◌}
use Rattle.riak_msgs.specs.ContentEncoding.{content_message}
use Rattle.riak_msgs.specs.Embedded.{StandForContent, content_of}
use Rattle.riak_msgs.specs.Seen.{no_fields}
use Rattle.riak_msgs.specs.EncodedContents.{fields_in, content_stands, content_back}
use Rattle.riak_msgs.specs.ContentOnce.{content_once}
use Rattle.riak_msgs.proofs.content.Content.view.Goals as goal

pub unreachable-requires : goal.unreachable-requires
unreachable-requires c =
    let content = c.args.self.now in
    let Short : List ℕ → Type 0 = λ bs. length bs < 2 ^ 64 in
    let P : List ℕ → Type 0 = λ bs. StandForContent (bs ∷ []) (fields_in content false) in
    c.in-Err.ensures.err (fields_in content false)
    (subst P (sym c.encoding.ensures.encoding) (content_stands content (subst Short c.encoding.ensures.encoding c.encoding.ensures.counted)))

pub returns : goal.returns
returns c =
    let content = c.args.self.now in
    let Short : List ℕ → Type 0 = λ bs. length bs < 2 ^ 64 in
    let (part, stands, seen) = c.in-Ok.ensures.ok no_fields c.new-view.ensures in
    let P : List ℕ → Type 0 = λ bs. StandForContent (bs ∷ []) part in
    let alone = subst P c.encoding.ensures.encoding stands in
    let same : part ≡ fields_in content false =
    content_once (content_message content ∷ []) part (fields_in content false) alone
    (content_stands content (subst Short c.encoding.ensures.encoding c.encoding.ensures.counted)) in
    (part, seen, alone, ap content_of same ∙ content_back content false)
