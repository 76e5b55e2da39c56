-- The details of a content, apart from where they lie, and their encoding.
use Rattle.std.specs.Prelude.{ℕ, List, [], ◌++◌, None, option_copied}
use Rattle.pb_fields.specs.Encoding.{optional_field, repeated_field}
use Rattle.riak_msgs.specs.Content.{Content}
use Rattle.riak_msgs.specs.ContentEncoding.{link_message, pair_message}
use Rattle.riak_msgs.specs.declared.details.Details.{Details}

-- none of the details is given
abbrev pub no_details : Details
no_details = record {
  content_type = None;
  charset = None;
  content_encoding = None;
  links = [];
  usermeta = [];
  indexes = [];
}

-- a value with these details
abbrev pub content_with : List ℕ → Details → Content
content_with value details = record {
  value = value;
  content_type = option_copied details.content_type;
  charset = option_copied details.charset;
  content_encoding = option_copied details.content_encoding;
  links = details.links;
  usermeta = details.usermeta;
  indexes = details.indexes;
}

-- the details of RpbContent
abbrev pub details_message : Details → List ℕ
details_message d =
    optional_field 2 (option_copied d.content_type)
    ++ optional_field 3 (option_copied d.charset)
    ++ optional_field 4 (option_copied d.content_encoding)
    ++ repeated_field link_message 6 d.links
    ++ repeated_field pair_message 9 d.usermeta
    ++ repeated_field pair_message 10 d.indexes
