-- Contents without values, and tombstones.
use Rattle.std.specs.Prelude.{Bool, true, false, Option, Some, None}
pub use Rattle.riak_msgs.specs.Content.{Content}
pub use Rattle.riak_msgs.specs.BareContents.{no_content, bare, content_shown}
use Rattle.riak_msgs.specs.declared.shown.Shown.{Shown}

-- a tombstone, as a reply shows it
abbrev pub tombstone : Shown
tombstone = record { content = no_content; deleted = true }

-- how a sibling is shown: a tombstone, or a content with its value or without
abbrev pub shown : (is_bare : Bool) → Option Content → Shown
shown is_bare None = tombstone
shown is_bare (Some content) = record { content = content_shown is_bare (Some content); deleted = false }
