use Rattle.std.proofs.Common.{ap, arith, refl}
use Rattle.std.specs.Prelude.{true, is_none, ◌||◌}
use Rattle.riak_msgs.specs.Embedded.{pair_of}
use Rattle.riak_msgs.specs.declared.content_view.ContentView.{ContentView}
use Rattle.riak_msgs.proofs.ContentsWalked.{string_at, Sees-value, Sees-content_type, Sees-charset, Sees-content_encoding, Sees-link, Sees-usermeta, Sees-index, Sees-skipped, IsSkipped-string}
use Rattle.riak_msgs.proofs.content_view.ContentView.merge_bytes.Goals as goal

pub returns-in-1-clause-ok : goal.returns-in-1-clause-ok
returns-in-1-clause-ok c = Sees-value c.args.self.now c.args.number c.args.bytes c.in-1.is

pub returns-in-2-clause-ok : goal.returns-in-2-clause-ok
returns-in-2-clause-ok c = Sees-content_type c.args.self.now c.args.number c.args.bytes c.in-2.is

pub returns-in-3-clause-ok : goal.returns-in-3-clause-ok
returns-in-3-clause-ok c = Sees-charset c.args.self.now c.args.number c.args.bytes c.in-3.is

pub returns-in-4-clause-ok : goal.returns-in-4-clause-ok
returns-in-4-clause-ok c = Sees-content_encoding c.args.self.now c.args.number c.args.bytes c.in-4.is

pub returns-in_ok-merge_link-in-6-clause-ok : goal.returns-in_ok-merge_link-in-6-clause-ok
returns-in_ok-merge_link-in-6-clause-ok c =
    let (fields, stands, is) = c.in_ok-merge_link-in-6.ensures.ok in
    Sees-link c.args.self.now _ c.args.number c.args.bytes.now fields _ c.in-6.is stands
    (ap (λ (v : ContentView). record v { has_links = true }) is)

pub returns-in_ok-merge_pair-in-9-clause-ok : goal.returns-in_ok-merge_pair-in-9-clause-ok
returns-in_ok-merge_pair-in-9-clause-ok c =
    let before = c.args.self.now in
    let (fields, stands, is) = c.in_ok-merge_pair-in-9.ensures.ok in
    Sees-usermeta before _ c.args.number c.args.bytes.now fields (before.misses_key || is_none (pair_of fields)) _ c.in-9.is stands refl
    (ap (λ (v : ContentView). record v { has_usermeta = true }) is)

pub returns-in_ok-merge_pair-in-10-clause-ok : goal.returns-in_ok-merge_pair-in-10-clause-ok
returns-in_ok-merge_pair-in-10-clause-ok c =
    let before = c.args.self.now in
    let (fields, stands, is) = c.in_ok-merge_pair-in-10.ensures.ok in
    Sees-index before _ c.args.number c.args.bytes.now fields (before.misses_key || is_none (pair_of fields)) _ c.in-10.is stands refl
    (ap (λ (v : ContentView). record v { has_indexes = true }) is)

pub returns-in_default-clause-ok : goal.returns-in_default-clause-ok
returns-in_default-clause-ok c =
    Sees-skipped c.args.self.now (string_at c.args.number c.args.bytes.now) (IsSkipped-string c.args.number c.args.bytes.now
    (λ e. omega arith) (λ e. omega arith) (λ e. omega arith) (λ e. omega arith) (λ e. omega arith) (λ e. omega arith) (λ e. omega arith))
