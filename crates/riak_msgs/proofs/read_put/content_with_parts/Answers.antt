use Rattle.riak_msgs.specs.Seen.{scalars_of, with_parts}
use Rattle.riak_msgs.proofs.PartsAppended.{content_message-parts}
use Rattle.riak_msgs.proofs.read_put.content_with_parts.Goals as goal

-- the bytes are the encoding of the content
pub of_encoding-requires : goal.of_encoding-requires
of_encoding-requires c =
    let (put, stands, seen) = c.requires in (
      with_parts (scalars_of put.content) put.content,
      content_message-parts put.content _ _ _ _ (c.in_ok-scalars.ensures put.content seen) (c.in_ok-links.ensures.ok put seen.no_links stands)
          (c.in_ok-usermeta.ensures.ok put seen.no_usermeta stands) (c.in_ok-encoding.ensures.ok put seen.no_indexes stands),
    )

pub returns-clause-ok : goal.returns-clause-ok
returns-clause-ok c = λ put seen stands.
    c.in_ok-of_encoding.ensures (with_parts (scalars_of put.content) put.content)
    (content_message-parts put.content _ _ _ _ (c.in_ok-scalars.ensures put.content seen) (c.in_ok-links.ensures.ok put seen.no_links stands)
    (c.in_ok-usermeta.ensures.ok put seen.no_usermeta stands) (c.in_ok-encoding.ensures.ok put seen.no_indexes stands))
