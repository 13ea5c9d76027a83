use Rattle.std.proofs.Common.{◌≡◌, Some, None, sym, subst}
use Rattle.json.specs.Json.{read_key}
use Rattle.serde_json.specs.Data.{no_members, put}
use Rattle.xet_document.specs.steps.Reads.{Lists, ListsXorb}
use Rattle.xet_document.proofs.Listings.{lists_put, lists_weaker}
use Rattle.xet_document.proofs.Objects.{member_more, members_read, no_members_yet}
use Rattle.xet_document.proofs.Placing.{lists_xorb, still_lists}
use Rattle.std.proofs.lemmas.Result.{IfOk-from_err}
use Rattle.xet_document.proofs.plain_xorbs.read_xorbs.Goals as goal

pub members-init : goal.members-init
members-init c = (no_members, no_members_yet 125 c.args.reader.now, rw c.new-places.ensures.empty tt)

pub members-preserved : goal.members-preserved
members-preserved c =
    let l = c.members in
    let made = c.of.result in
    let key = made.text.now in
    let same : key ≡ c.in-Some.text.now = c.of.ensures in
    let rest = c.next_key.new.self in
    let place = c.in_ok-place.place in
    let after = c.read_xorb.new.joined in
    let read = c.in_ok-place.ensures in
    let named : read_key l.reader ≡ Some (Some key, rest) = rw same (rw c.in-Some.is at c.in_ok-text.ensures.value) in
    let lists = lists_xorb after key read.value.0 place read.placed (rw same read.hash) read.value.2 in
    let still = lists_weaker (λ k. k.text.now) (ListsXorb l.joined) (ListsXorb after) (still_lists l.joined after _ read.adds) l.invariant.0 l.places.entries l.invariant.2 in (
      put key read.value.0 l.invariant.0,
      member_more 125 c.args.reader.now l.reader rest c.read_xorb.new.reader l.invariant.0 key read.value.0 l.invariant.1 named read.shorter read.value.1,
      subst (Lists (λ k. k.text.now) (ListsXorb after) (put key read.value.0 l.invariant.0)) (sym c.in_ok-insert.ensures.entries)
          (lists_put (λ k. k.text.now) (ListsXorb after) l.invariant.0 l.places.entries made read.value.0 place still lists),
    )

pub returns-clause-listed : goal.returns-clause-listed
returns-clause-listed c =
    let l = c.members in
    let over : read_key l.reader ≡ Some (None, c.next_key.new.self) = rw c.in_default.is at c.in_ok-text.ensures.value in
    (l.invariant.0, (members_read 125 c.args.reader.now l.reader c.next_key.new.self l.invariant.0 l.invariant.1 over).0, l.invariant.2)

pub returns-clause-shorter : goal.returns-clause-shorter
returns-clause-shorter c =
    let l = c.members in
    let over : read_key l.reader ≡ Some (None, c.next_key.new.self) = rw c.in_default.is at c.in_ok-text.ensures.value in
    (members_read 125 c.args.reader.now l.reader c.next_key.new.self l.invariant.0 l.invariant.1 over).1

pub returns-in_err-with_capacity : goal.returns-in_err-with_capacity
returns-in_err-with_capacity c = record { listed = IfOk-from_err _ _ c.from_residual.ensures.0; shorter = IfOk-from_err _ _ c.from_residual.ensures.0 }

pub returns-in_err-text : goal.returns-in_err-text
returns-in_err-text c = record { listed = IfOk-from_err _ _ c.from_residual-in_err-text.ensures.0; shorter = IfOk-from_err _ _ c.from_residual-in_err-text.ensures.0 }

pub returns-in_err-place : goal.returns-in_err-place
returns-in_err-place c = record { listed = IfOk-from_err _ _ c.from_residual-in_err-place.ensures.0; shorter = IfOk-from_err _ _ c.from_residual-in_err-place.ensures.0 }

pub returns-in_err-insert : goal.returns-in_err-insert
returns-in_err-insert c = record { listed = IfOk-from_err _ _ c.from_residual-in_err-insert.ensures.0; shorter = IfOk-from_err _ _ c.from_residual-in_err-insert.ensures.0 }
