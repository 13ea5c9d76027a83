use Rattle.std.proofs.Common.{◌≡◌, ◌≢◌, ◌∙◌, ap, sym, List, [], length, refl, arith, Bool, true, false, ℕ, eqb, eqb-true, MatchBool}
use Rattle.std.proofs.lemmas.Bool.{eqb-false}
use Rattle.std.proofs.lemmas.List.{append-nil, nil_from_length}
use Rattle.xet_findings.specs.declared.finding.Finding.{Finding}
use Rattle.xet_audit.specs.Findings.{faults}
use Rattle.xet_audit.specs.Raws.{store_of_raw}
use Rattle.xet_compact.proofs.compaction.is_valid.Goals as goal

nothing : (fs : List Finding) (n : ℕ) → n ≡ length fs → MatchBool (eqb n 0) (fs ≡ []) (fs ≢ [])
nothing fs n e = go (eqb n 0) refl
  where
    go : (b : Bool) → eqb n 0 ≡ b → MatchBool b (fs ≡ []) (fs ≢ [])
    go true h = nil_from_length fs (sym e ∙ eqb-true n 0 h)
    go false h = λ none. eqb-false n 0 h (e ∙ ap length none)

pub returns : goal.returns
returns c =
    let s = store_of_raw c.args.raw.now in
    let found = c.in_ok-report.ensures.findings ∙ append-nil (faults s) in
    nothing (faults s) c.len.result (c.len.ensures ∙ ap length found)
