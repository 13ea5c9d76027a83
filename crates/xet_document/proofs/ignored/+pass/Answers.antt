use Rattle.std.proofs.Common.{◌≡◌, ◌<◌, ◌∷◌, ◌++◌, [], Some, None, length, refl, ap, ◌∙◌, arith}
use Rattle.std.proofs.lemmas.Result.{on_ok_weaker}
use Rattle.json.specs.Token.{Token}
use Rattle.json.specs.Json.{after_end_array, read_key}
use Rattle.json.specs.Reads.{token_of}
use Rattle.json.proofs.Grammar.{after_end_array-shorter}
use Rattle.serde_json.specs.Data.{array, boolean, no_items, no_members, null, number, object, put, string}
use Rattle.xet_document.proofs.Arrays.{behind, item_more, items_read, no_items_yet, reads_array, reads_boolean, reads_null, reads_number, reads_string}
use Rattle.xet_document.proofs.Floats.{item_free, member_free}
use Rattle.xet_document.proofs.Objects.{member_more, members_read, no_members_yet, reads_object}
use Rattle.xet_document.proofs.ignored.+pass.Goals as goal

pub pass_value-returns-in-String-clause-value : goal.pass_value-returns-in-String-clause-value
pass_value-returns-in-String-clause-value t c =
    let text = c.in-String.field-0.now in
    let rest = c.next.new.self in
    let first : c.args.reader.now ≡ token_of c.in-Some.token ∷ rest = rw c.in-Some.is at c.next.ensures.value in
    let is : c.args.reader.now ≡ Token.string text ∷ rest = first ∙ ap (λ t. token_of t ∷ rest) c.in-String.is in
    (string text, rw is (reads_string c.args.depth text rest), refl)

pub pass_value-returns-in-Bool-clause-value : goal.pass_value-returns-in-Bool-clause-value
pass_value-returns-in-Bool-clause-value t c =
    let b = c.in-Bool.field-0 in
    let rest = c.next.new.self in
    let first : c.args.reader.now ≡ token_of c.in-Some.token ∷ rest = rw c.in-Some.is at c.next.ensures.value in
    let is : c.args.reader.now ≡ Token.boolean b ∷ rest = first ∙ ap (λ t. token_of t ∷ rest) c.in-Bool.is in
    (boolean b, rw is (reads_boolean c.args.depth b rest), refl)

pub pass_value-returns-in-Null-clause-value : goal.pass_value-returns-in-Null-clause-value
pass_value-returns-in-Null-clause-value t c =
    let rest = c.next.new.self in
    let first : c.args.reader.now ≡ token_of c.in-Some.token ∷ rest = rw c.in-Some.is at c.next.ensures.value in
    let is : c.args.reader.now ≡ Token.null ∷ rest = first ∙ ap (λ t. token_of t ∷ rest) c.in-Null.is in
    (null, rw is (reads_null c.args.depth rest), refl)

pub pass_value-returns-then-is_whole-clause-value : goal.pass_value-returns-then-is_whole-clause-value
pass_value-returns-then-is_whole-clause-value t c =
    let text = c.in-Number.text.now in
    let rest = c.next.new.self in
    let first : c.args.reader.now ≡ token_of c.in-Some.token ∷ rest = rw c.in-Some.is at c.next.ensures.value in
    let is : c.args.reader.now ≡ Token.number text ∷ rest = first ∙ ap (λ t. token_of t ∷ rest) c.in-Number.is in
    let whole = c.if-is_whole.ensures refl in
    (number whole.0, rw is (reads_number c.args.depth text whole.0 rest whole.1), whole.2)

pub pass_value-returns-else-depth-eq0-clause-value : goal.pass_value-returns-else-depth-eq0-clause-value
pass_value-returns-else-depth-eq0-clause-value t c =
    let rest = c.next.new.self in
    let first : c.args.reader.now ≡ token_of c.in-Some.token ∷ rest = rw c.in-Some.is at c.next.ensures.value in
    let is : c.args.reader.now ≡ Token.begin_array ∷ rest = first ∙ ap (λ t. token_of t ∷ rest) c.in-BeginArray.is in
    on_ok_weaker c.pass_items.result
    (λ v. (array v.0, rw is (reads_array c.args.depth rest c.pass_items.new.reader v.0 (omega arith) v.1), v.2))
    c.pass_items.ensures.items

pub pass_value-returns-else-depth-eq0-2-clause-value : goal.pass_value-returns-else-depth-eq0-2-clause-value
pass_value-returns-else-depth-eq0-2-clause-value t c =
    let rest = c.next.new.self in
    let first : c.args.reader.now ≡ token_of c.in-Some.token ∷ rest = rw c.in-Some.is at c.next.ensures.value in
    let is : c.args.reader.now ≡ Token.begin_object ∷ rest = first ∙ ap (λ t. token_of t ∷ rest) c.in-BeginObject.is in
    on_ok_weaker c.pass_members.result
    (λ v. (object v.0, rw is (reads_object c.args.depth rest c.pass_members.new.reader v.0 (omega arith) v.1), v.2))
    c.pass_members.ensures.members

pub pass_items-items-init : goal.pass_items-items-init
pass_items-items-init t c = ([], no_items_yet c.args.depth c.args.reader.now, refl)

pub pass_items-items-preserved : goal.pass_items-items-preserved
pass_items-items-preserved t c =
    let l = c.items in
    let read = c.in_ok-pass_value.ensures in
    let going : (after_end_array l.reader ≡ None) × (c.take_end_array.new.self ≡ l.reader) = grind arith in
    let value = rw going.1 at read.value.1 in
    let less : length c.pass_value.new.reader < length l.reader = omega (arith, read.shorter, ap length going.1) in (
      l.invariant.0 ++ read.value.0 ∷ [],
      item_more c.args.depth c.args.reader.now l.reader c.pass_value.new.reader l.invariant.0 read.value.0 l.invariant.1 going.0 less value,
      item_free l.invariant.0 read.value.0 l.invariant.2 read.value.2,
    )

pub pass_items-returns-clause-items : goal.pass_items-returns-clause-items
pass_items-returns-clause-items t c =
    let l = c.items in
    let over : after_end_array l.reader ≡ Some c.take_end_array.new.self = grind arith in
    (behind l.invariant.0 no_items, items_read c.args.depth c.args.reader.now l.reader c.take_end_array.new.self l.invariant.0 l.invariant.1 over, l.invariant.2)

pub pass_items-returns-clause-shorter : goal.pass_items-returns-clause-shorter
pass_items-returns-clause-shorter t c =
    let l = c.items in
    let over : after_end_array l.reader ≡ Some c.take_end_array.new.self = grind arith in
    omega (arith, after_end_array-shorter l.reader c.take_end_array.new.self over, l.invariant.1.shorter)

pub pass_members-members-init : goal.pass_members-members-init
pass_members-members-init t c = (no_members, no_members_yet c.args.depth c.args.reader.now, refl)

pub pass_members-members-preserved : goal.pass_members-members-preserved
pass_members-members-preserved t c =
    let l = c.members in
    let key = c.in-Some.field-0.now in
    let rest = c.next_key.new.self in
    let read = c.in_ok-pass_value.ensures in
    let named : read_key l.reader ≡ Some (Some key, rest) = grind arith in (
      put key read.value.0 l.invariant.0,
      member_more c.args.depth c.args.reader.now l.reader rest c.pass_value.new.reader l.invariant.0 key read.value.0 l.invariant.1 named read.shorter read.value.1,
      member_free key read.value.0 l.invariant.0 l.invariant.2 read.value.2,
    )

pub pass_members-returns-clause-members : goal.pass_members-returns-clause-members
pass_members-returns-clause-members t c =
    let l = c.members in
    let over : read_key l.reader ≡ Some (None, c.next_key.new.self) = grind arith in
    (l.invariant.0, (members_read c.args.depth c.args.reader.now l.reader c.next_key.new.self l.invariant.0 l.invariant.1 over).0, l.invariant.2)

pub pass_members-returns-clause-shorter : goal.pass_members-returns-clause-shorter
pass_members-returns-clause-shorter t c =
    let l = c.members in
    let over : read_key l.reader ≡ Some (None, c.next_key.new.self) = grind arith in
    (members_read c.args.depth c.args.reader.now l.reader c.next_key.new.self l.invariant.0 l.invariant.1 over).1
