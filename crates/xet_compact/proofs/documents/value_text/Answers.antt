use Rattle.std.proofs.Common.{◌≡◌, ◌∙◌, ap, sym, subst, ◌≤◌, Some}
use Rattle.serde_json.specs.Data.{Data, depth}
use Rattle.serde_json.specs.Read.{max_depth}
use Rattle.serde_json.specs.Written.{compact_text, has_float}
use Rattle.xet_audit.specs.Raws.{store_of_raw}
use Rattle.xet_compact.proofs.DocumentValues.{document_depth, document_no_float}
use Rattle.xet_compact.proofs.documents.value_text.Goals as goal

pub returns : goal.returns
returns c =
    let s = store_of_raw c.args.raw.now in
    let value = c.in_ok-value.ensures.value in
    record {
      text = c.in_ok-to_string.ensures.text (ap has_float value ∙ document_no_float s) ∙ ap compact_text value;
      reads = c.in_ok-to_string.ensures.reads_back (subst (λ (d : Data). depth d ≤ max_depth) (sym value) (document_depth s)) ∙ ap Some value;
      told = c.in_ok-value.ensures.told;
    }
