use Rattle.std.proofs.Common.{◌≡◌, ◌∙◌, sym, subst, List, ℕ, Some, string_bytes}
use Rattle.std.specs.Str.{IsUtf8}
use Rattle.std.proofs.lemmas.Str.{IsUtf8-string_bytes}
use Rattle.serde_json.specs.Read.{read}
use Rattle.xet_audit.specs.Raws.{store_of_raw}
use Rattle.xet_compact.specs.Documents.{document_data}
use Rattle.xet_compact.proofs.Listing.{document_lists}
use Rattle.xet_compact.proofs.documents.document.Goals as goal

pub returns : goal.returns
returns c =
    let s = store_of_raw c.args.raw.now in
    let made = c.in_ok-text.ensures in
    record {
      text = c.from_string.ensures ∙ made.text;
      reads = rw c.from_string.ensures made.reads;
      lists = λ order. record {
        data_of = document_data s;
        reads = record {
          utf8 = subst IsUtf8 made.text (IsUtf8-string_bytes c.in_ok-text.text);
          value = subst (λ (t : List ℕ). read t ≡ Some (document_data s)) made.text made.reads;
        };
        lists = document_lists s made.told order;
      };
    }
