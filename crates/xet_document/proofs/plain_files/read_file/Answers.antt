use Rattle.std.proofs.Common.{◌≡◌, ◌∷◌, Some, ap, sym, ◌∙◌, length, arith}
use Rattle.json.specs.Token.{Token}
use Rattle.serde_json.specs.Data.{array}
use Rattle.xet_base.specs.HashText.{hash_of_text}
use Rattle.xet_document.proofs.Arrays.{reads_array}
use Rattle.xet_document.proofs.DocumentMembers.{file_is}
use Rattle.xet_document.proofs.HashDigits.{hash_long}
use Rattle.xet_document.proofs.plain_files.read_file.Goals as goal

pub returns : goal.returns
returns c =
    let text = c.args.text.now in
    let terms = c.in_ok-terms.ensures in
    let read = terms.terms in
    let opens : c.args.reader.now ≡ Token.begin_array ∷ c.next.new.self = rw (c.in-Some-BeginArray.is, c.in-Some-BeginArray.field-0-is) at c.next.ensures.value in
    let spelt : hash_of_text text ≡ Some c.in-Some.hash = sym c.hash_of.ensures ∙ c.in-Some.is in
    record {
      value = (
        array read.0,
        rw opens (reads_array 125 c.next.new.self c.read_terms.new.reader read.0 (omega arith) read.1),
        (file_is text (array read.0) c.in-Some.hash c.in_ok-terms.terms spelt (sym read.2), terms.uncounted),
      );
      long = hash_long text c.in-Some.hash spelt;
      shorter = omega (arith, ap length opens, terms.shorter);
    }
