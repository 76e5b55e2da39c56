-- Contents without values.
use Rattle.std.specs.Prelude.{Bool, if◌then◌else◌, [], Option, Some, None}
use Rattle.riak_msgs.specs.Content.{Content}

-- an empty value without details
abbrev pub no_content : Content
no_content = record {
  value = [];
  content_type = None;
  charset = None;
  content_encoding = None;
  links = [];
  usermeta = [];
  indexes = [];
}

-- the content with an empty value
abbrev pub bare : Content → Content
bare c = record c { value = [] }

-- a content with its value or without; an empty one, where there is none
abbrev pub content_shown : (is_bare : Bool) → Option Content → Content
content_shown is_bare None = no_content
content_shown is_bare (Some content) = if is_bare then bare content else content
