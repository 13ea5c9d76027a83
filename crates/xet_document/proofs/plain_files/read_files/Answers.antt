use Rattle.std.proofs.Common.{◌≡◌, Some, None, sym, subst}
use Rattle.json.specs.Json.{read_key}
use Rattle.serde_json.specs.Data.{no_members, put}
use Rattle.xet_document.specs.steps.Reads.{Lists, ListsFile}
use Rattle.xet_document.proofs.Listings.{lists_put}
use Rattle.xet_document.proofs.Objects.{member_more, members_read, no_members_yet}
use Rattle.std.proofs.lemmas.Result.{IfOk-from_err}
use Rattle.xet_document.proofs.plain_files.read_files.Goals as goal

pub members-init : goal.members-init
members-init c = (no_members, no_members_yet 125 c.args.reader.now, rw c.new-found.ensures.empty tt)

pub members-preserved : goal.members-preserved
members-preserved c =
    let l = c.members in
    let made = c.of.result in
    let key = made.text.now in
    let same : key ≡ c.in-Some.text.now = c.of.ensures in
    let rest = c.next_key.new.self in
    let read = c.in_ok-file.ensures in
    let d = read.value.0 in
    let named : read_key l.reader ≡ Some (Some key, rest) = rw same (rw c.in-Some.is at c.in_ok-text.ensures.value) in (
      put key d l.invariant.0,
      member_more 125 c.args.reader.now l.reader rest c.read_file.new.reader l.invariant.0 key d l.invariant.1 named read.shorter read.value.1,
      subst (Lists (λ k. k.text.now) ListsFile (put key d l.invariant.0)) (sym c.in_ok-insert.ensures.entries)
          (lists_put (λ k. k.text.now) ListsFile l.invariant.0 l.found.entries made d _ l.invariant.2 (rw same read.value.2)),
    )

pub returns-clause-listed : goal.returns-clause-listed
returns-clause-listed c =
    let l = c.members in
    let over : read_key l.reader ≡ Some (None, c.next_key.new.self) = rw c.in_default.is at c.in_ok-text.ensures.value in
    (l.invariant.0, (members_read 125 c.args.reader.now l.reader c.next_key.new.self l.invariant.0 l.invariant.1 over).0, l.invariant.2)

pub returns-clause-shorter : goal.returns-clause-shorter
returns-clause-shorter c =
    let l = c.members in
    let over : read_key l.reader ≡ Some (None, c.next_key.new.self) = rw c.in_default.is at c.in_ok-text.ensures.value in
    (members_read 125 c.args.reader.now l.reader c.next_key.new.self l.invariant.0 l.invariant.1 over).1

pub returns-in_err-text : goal.returns-in_err-text
returns-in_err-text c = record { listed = IfOk-from_err _ _ c.from_residual.ensures.0; shorter = IfOk-from_err _ _ c.from_residual.ensures.0 }

pub returns-in_err-file : goal.returns-in_err-file
returns-in_err-file c = record { listed = IfOk-from_err _ _ c.from_residual-in_err-file.ensures.0; shorter = IfOk-from_err _ _ c.from_residual-in_err-file.ensures.0 }

pub returns-in_err-insert : goal.returns-in_err-insert
returns-in_err-insert c = record { listed = IfOk-from_err _ _ c.from_residual-in_err-insert.ensures.0; shorter = IfOk-from_err _ _ c.from_residual-in_err-insert.ensures.0 }
