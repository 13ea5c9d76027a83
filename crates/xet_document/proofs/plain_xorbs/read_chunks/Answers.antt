use Rattle.std.proofs.Common.{◌≡◌, ◌<◌, ◌∷◌, ◌++◌, [], None, Some, length, refl, sym, ap, ◌∙◌, arith, rules}
use Rattle.json.specs.Token.{Token}
use Rattle.json.specs.Json.{after_end_array}
use Rattle.serde_json.specs.Data.{string, no_items}
use Rattle.xet_document.proofs.Arrays.{behind, chunks_so_far, item_more, items_read, no_items_yet, reads_string}
use Rattle.xet_document.proofs.DocumentChunks.{chunk_added}
use Rattle.xet_document.proofs.Placing.{adds_more, adds_none}
use Rattle.xet_document.proofs.plain_xorbs.read_chunks.Goals as goal

pub chunks-init : goal.chunks-init
chunks-init c = ([], [], no_items_yet 124 c.args.reader.now, refl, adds_none c.args.joined.now)

pub chunks-preserved : goal.chunks-preserved
chunks-preserved c =
    let l = c.chunks in
    let rest = c.next.new.self in
    let text = c.in-Some-String.text.now in
    let going : (after_end_array l.reader ≡ None) × (c.take_end_array.new.self ≡ l.reader) = grind arith in
    let first : l.reader ≡ Token.string text ∷ rest = sym going.1 ∙ rw (c.in-Some-String.is, c.in-Some-String.field-0-is) at c.next.ensures.value in
    let found = chunk_added _ _ _ _ c.in_ok-add_digits.ensures c.if-not-branch.false in
    let less : length rest < length l.reader = omega (arith, ap length first) in
    let read = l.invariant.0 in
    let chunks = l.invariant.1 in (
      read ++ string text ∷ [],
      chunks ++ found.0 ∷ [],
      item_more 124 c.args.reader.now l.reader rest read (string text) l.invariant.2 going.0 less (rw first (reads_string 124 text rest)),
      chunks_so_far read (string text) chunks found.0 l.invariant.3 found.1,
      adds_more c.args.joined.now l.joined _ chunks found.0 l.invariant.4 found.2 (search rules),
    )

pub returns-clause-items : goal.returns-clause-items
returns-clause-items c =
    let l = c.chunks in
    let over : after_end_array l.reader ≡ Some c.take_end_array.new.self = grind arith in
    (behind l.invariant.0 no_items, l.invariant.1, items_read 124 c.args.reader.now l.reader c.take_end_array.new.self l.invariant.0 l.invariant.2 over, l.invariant.3, l.invariant.4)
