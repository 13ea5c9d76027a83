-- What is printed of a store, and of the text that lists it.
use Rattle.std.proofs.Common.{◌≡◌, ◌<◌, ℕ, Bool, List, [], ◌∷◌, ◌++◌, length, refl, ap, sym, ◌∙◌, inl, inr, codes, decimal}
use Rattle.std.proofs.lemmas.List.{length-map, nil_from_length}
use Rattle.xet_outside.specs.Told.{SinkTold}
use Rattle.xet_base.specs.Store.{Store}
use Rattle.xet_findings.specs.declared.finding.AuditReport.{AuditReport}
use Rattle.xet_findings.specs.declared.finding.Finding.{Finding}
use Rattle.xet_audit.specs.declared.raw_store.RawStore.{RawStore}
use Rattle.xet_audit.specs.Findings.{AreSpare, findings}
use Rattle.xet_audit.specs.Raws.{HasRaw, NoRaw, file_of_raw, store_of_raw}
use Rattle.xet_room.specs.declared.status.Status.{Status}
use Rattle.xet_room.specs.declared.status.Status.TheVariants.{BadStore, Done, Faulty}
use Rattle.xet_room.specs.Inputs.{SomePrinted, TextPrinted}
use Rattle.xet_room.specs.Outcome.{Finished}
use Rattle.xet_room.specs.Texts.{bad_line, line}
use Rattle.xet_audit_command.specs.Audit.{AuditPrints, report_text}
use Rattle.xet_audit_command.specs.steps.Printing.{ReportPrinted, StorePrints, counts_line}

-- no finding
pub good_printed : (hashes : Bool) (raw : RawStore) (report : AuditReport) (b n : SinkTold) (status : Status) → report.findings ≡ findings (store_of_raw raw) hashes → AreSpare (store_of_raw raw) report.spare → length report.findings ≡ 0
    → ReportPrinted report (counts_line raw) Done b n status → SomePrinted (StorePrints hashes (store_of_raw raw)) b n status
good_printed hashes raw report b n status is are zero (inr h) = inr h
good_printed hashes raw report b n status is are zero (inl h) =
    let none : report.findings ≡ [] = nil_from_length report.findings zero in
    inl (
      Done,
      report_text report.findings report.spare ++ counts_line raw,
      record {
        none = sym is ∙ none;
        spare = report.spare;
        are = are;
        whole_is =
            ap (λ (fs : List Finding). report_text fs report.spare ++ counts_line raw) none
            ∙ ap (λ (k : ℕ). report_text [] report.spare ++ (codes "ok " ++ decimal k ++ codes " " ++ decimal (length raw.xorbs) ++ 10 ∷ [])) (sym (length-map raw.files file_of_raw));
      },
      h,
    )

module _ (hashes : Bool) (s : Store) (report : AuditReport) (b n : SinkTold) (status : Status) where
  -- some
  pub bad_printed : (count : ℕ) → report.findings ≡ findings s hashes → AreSpare s report.spare → length report.findings ≡ count → 0 < count → ReportPrinted report (bad_line count) (Faulty count) b n status → SomePrinted (StorePrints hashes s) b n status
  bad_printed count is are length_is some (inr h) = inr h
  bad_printed count is are length_is some (inl h) =
      inl (
        Faulty count,
        report_text report.findings report.spare ++ bad_line count,
        record {
          some = some;
          count = ap length (sym is) ∙ length_is;
          spare = report.spare;
          are = are;
          whole_is = ap (λ (fs : List Finding). report_text fs report.spare ++ bad_line count) is;
        },
        h,
      )

module _ (hashes : Bool) (text : List ℕ) (b n : SinkTold) (status : Status) where
  -- the text lists this store
  pub listed_printed : (s : Store) → HasRaw text s → SomePrinted (StorePrints hashes s) b n status → TextPrinted (AuditPrints hashes) text b n status
  listed_printed s has (inr h) = inr h
  listed_printed s has (inl h) = inl (h.0, h.1, by_status h.0 h.2, h.3)
    where
      by_status : (own : Status) → StorePrints hashes s own h.1 → AuditPrints hashes text own h.1
      by_status Done p = (s, has, p)
      by_status (Faulty k) p = (s, has, p)
      by_status _ p = absurd p

  -- it lists none
  pub unlisted_printed : NoRaw text → Finished (line BadStore) BadStore b n status → TextPrinted (AuditPrints hashes) text b n status
  unlisted_printed none h = inl (BadStore, line BadStore, (none, refl), h)
