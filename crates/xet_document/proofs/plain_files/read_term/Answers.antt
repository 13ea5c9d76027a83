use Rattle.std.proofs.Common.{◌≡◌, ◌∷◌, Some, sym, ◌∙◌, arith}
use Rattle.json.specs.Token.{Token}
use Rattle.serde_json.specs.Data.{array, item, no_items, number, string, unsigned}
use Rattle.xet_base.specs.HashText.{hash_of_text}
use Rattle.xet_document.proofs.Arrays.{reads_array}
use Rattle.xet_document.proofs.Terms.{term_is, term_items}
use Rattle.xet_document.proofs.plain_files.read_term.Goals as goal

pub returns-clause-term : goal.returns-clause-term
returns-clause-term c =
    let text = c.in-Some-String.text.now in
    let first : c.args.reader.now ≡ Token.begin_array ∷ c.next.new.self = rw (c.in-Some-BeginArray.is, c.in-Some-BeginArray.field-0-is) at c.next.ensures.value in
    let second : c.next.new.self ≡ Token.string text ∷ c.next-2.new.self = rw (c.in-Some-String.is, c.in-Some-String.field-0-is) at c.next-2.ensures.value in
    let hash : hash_of_text text ≡ Some c.in-Some.xorb = sym c.hash_of.ensures ∙ c.in-Some.is in
    let from = c.in_ok-from.ensures.number in
    let to = c.in_ok-to.ensures.number in
    let read = term_items text from.0 to.0 c.in_ok-from.from c.in_ok-to.to c.next.new.self c.next-2.new.self c.read_number.new.reader c.read_number-2.new.reader c.take_end_array.new.self second from.1 to.1 from.2 to.2 c.if-not-take_end_array.ensures in (
      array (item (string text) (item (number (unsigned c.in_ok-from.from)) (item (number (unsigned c.in_ok-to.to)) no_items))),
      rw first (reads_array 124 c.next.new.self c.take_end_array.new.self _ (omega arith) read),
      term_is text c.in-Some.xorb c.in_ok-from.from c.in_ok-to.to hash (omega arith) (omega arith),
    )
