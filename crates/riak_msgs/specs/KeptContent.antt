-- What is kept of a content: its encoding.
use Rattle.std.proofs.Common.{◌≡◌, ℕ, ◌^◌, ◌<◌, List, length, ap, sym, subst, ◌∙◌}
use Rattle.std.specs.Coded.{Coded-set, coded_list, coded_ℕ, ×_prop, le_prop}
use Rattle.riak_msgs.specs.Content.{Content}
use Rattle.riak_msgs.specs.ContentEncoding.{content_message}
use Rattle.riak_msgs.specs.ContentOnce.{content_message-once}

-- it is the content's, and can be counted
abbrev pub IsEncodingOf : Content → List ℕ → Type 0
IsEncodingOf content bs = (content_message content ≡ bs) × (length bs < 2 ^ 64)

-- the content of which the bytes are kept
pub record Keeps (bs : List ℕ) : Type 0 where
  pub content : Content
  pub is : IsEncodingOf content bs

-- (not an abbreviation, so that an equation of two such contents names the bytes)
unfoldable pub content_kept : (bs : List ℕ) → Keeps bs → Content
content_kept bs kept = kept.content

IsEncodingOf-prop : (content : Content) (bs : List ℕ) → IsProp (IsEncodingOf content bs)
IsEncodingOf-prop content bs = ×_prop (Coded-set (coded_list coded_ℕ) (content_message content) bs) le_prop

pub Keeps-prop : (bs : List ℕ) → IsProp (Keeps bs)
Keeps-prop bs a b =
    let short : length (content_message a.content) < 2 ^ 64 = subst (λ cs. length cs < 2 ^ 64) (sym a.is.0) a.is.1 in
    let same : a.content ≡ b.content = content_message-once a.content b.content short (a.is.0 ∙ sym b.is.0) in
    let P : Content → Type 0 = λ c. (is : IsEncodingOf c bs) → a ≡ record { content = c; is = is } in
    subst P same (λ is. ap (λ i. record { content = a.content; is = i }) (IsEncodingOf-prop a.content bs a.is is)) b.is
