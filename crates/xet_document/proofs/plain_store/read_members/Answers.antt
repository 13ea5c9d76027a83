use Rattle.std.proofs.Common.{◌≡◌, Some, None, refl}
use Rattle.json.specs.Json.{read_key}
use Rattle.serde_json.specs.Data.{no_members, put}
use Rattle.xet_document.proofs.Objects.{member_more, members_read, no_members_yet}
use Rattle.xet_document.proofs.plain_store.read_members.Goals as goal

pub members-init : goal.members-init
members-init c = (no_members, no_members_yet 126 c.args.reader.now, record { xorbs = refl; files = refl; no_float = refl })

pub members-preserved : goal.members-preserved
members-preserved c =
    let l = c.members in
    let key = c.in-Some.key.now in
    let rest = c.next_key.new.self in
    let read = c.in_ok-read_member.ensures in
    let d = read.value.0 in
    let named : read_key l.reader ≡ Some (Some key, rest) = rw c.in-Some.is at c.in_ok-key.ensures.value in (
      put key d l.invariant.0,
      member_more 126 c.args.reader.now l.reader rest c.read_member.new.reader l.invariant.0 key d l.invariant.1 named read.shorter read.value.1,
      read.value.2 l.invariant.0 l.invariant.2,
    )

pub returns : goal.returns
returns c =
    let l = c.members in
    let over : read_key l.reader ≡ Some (None, c.next_key.new.self) = rw c.in_default.is at c.in_ok-key.ensures.value in
    (l.invariant.0, (members_read 126 c.args.reader.now l.reader c.next_key.new.self l.invariant.0 l.invariant.1 over).0, l.invariant.2)
