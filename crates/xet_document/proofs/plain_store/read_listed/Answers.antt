use Rattle.std.proofs.Common.{◌≡◌, ◌∷◌, [], sym, ◌∙◌}
use Rattle.json.specs.Lex.{tokens}
use Rattle.json.specs.Token.{Token}
use Rattle.xet_document.specs.steps.Reads.{ReadsMembers}
use Rattle.xet_document.proofs.PlainDocuments.{both_read, document_read}
use Rattle.xet_document.proofs.plain_store.read_listed.Goals as goal

pub returns : goal.returns
returns c =
    let text = c.args.text.now in
    let found = c.in_ok-found.ensures in
    let opens : tokens text ≡ Token.begin_object ∷ c.open_object.new.reader = sym c.in_ok-reader.ensures.ok ∙ c.in_ok-open_object.ensures.opened in
    let over : c.read_members.new.reader ≡ [] = (rw c.in-None.is at c.next.ensures.value).0 in
    let members : ReadsMembers 126 c.open_object.new.reader found.0 [] = rw over at found.1 in
    both_read text c.in_ok-found.found c.listed.result found.0 c.listed.ensures (document_read text c.open_object.new.reader found.0 opens members) found.2
