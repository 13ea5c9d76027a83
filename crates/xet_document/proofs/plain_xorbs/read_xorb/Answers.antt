use Rattle.std.proofs.Common.{◌≡◌, ◌∷◌, Some, sym, ap, ◌∙◌, arith, rules}
use Rattle.json.specs.Token.{Token}
use Rattle.serde_json.specs.Data.{array}
use Rattle.xet_document.specs.declared.joined_chunks.XorbPlace.{XorbPlace}
use Rattle.xet_document.specs.steps.Placed.{IsPlaced, placed_xorb}
use Rattle.xet_document.proofs.Arrays.{reads_array}
use Rattle.xet_document.proofs.HashDigits.{hash_long}
use Rattle.xet_document.proofs.Placing.{place_of}
use Rattle.xet_document.proofs.plain_xorbs.read_xorb.Goals as goal
use Rattle.xet_document.proofs.plain_xorbs.read_xorb.Goals.{After-len-2}

abbrev there : (c : After-len-2) → XorbPlace
there c = record { hash = c.in-Some.hash; start = c.len-start.result; end = c.len.result; first = c.len-first.result; last = c.len-2.result }

-- the place is that of the chunks that were added
is_there : (c : After-len-2) → IsPlaced c.read_chunks.new.joined.bytes.items c.read_chunks.new.joined.ends.items (there c)
    × ((placed_xorb c.read_chunks.new.joined.bytes.items c.read_chunks.new.joined.ends.items (there c)).chunks ≡ c.in_ok-read_chunks.ensures.items.1)
is_there c = place_of c.args.joined.now c.read_chunks.new.joined _ (there c) c.in_ok-read_chunks.ensures.items.4 (search rules) (search rules) (search rules) (search rules)

pub returns-clause-value : goal.returns-clause-value
returns-clause-value c =
    let read = c.in_ok-read_chunks.ensures.items in
    let first : c.args.reader.now ≡ Token.begin_array ∷ c.next.new.self = rw (c.in-Some-BeginArray.is, c.in-Some-BeginArray.field-0-is) at c.next.ensures.value in
    (array read.0, rw first (reads_array 125 c.next.new.self c.read_chunks.new.reader read.0 (omega arith) read.2), read.3 ∙ ap Some (sym (is_there c).1))

pub returns-clause-placed : goal.returns-clause-placed
returns-clause-placed c = (is_there c).0

pub returns-clause-adds : goal.returns-clause-adds
returns-clause-adds c =
    let s = c.in_ok-read_chunks.ensures.items.4 in record {
      own = s.own;
      places = s.places;
      bytes = s.bytes;
      ends = s.ends;
      fill = s.fill;
      chunks_are = (is_there c).1 ∙ s.chunks_are;
    }

pub returns-clause-hash : goal.returns-clause-hash
returns-clause-hash c = sym c.hash_of.ensures ∙ c.in-Some.is

pub returns-clause-long : goal.returns-clause-long
returns-clause-long c = hash_long c.args.text.now c.in-Some.hash (sym c.hash_of.ensures ∙ c.in-Some.is)
