use Rattle.xet_audit.proofs.Strict.{strict_from_raw}
use Rattle.xet_audit.proofs.Validity.{faultless_valid, valid_faultless}
use Rattle.xet_audit.proofs.laws.audits_tell_validity.Goals as goal

pub returns : goal.returns
returns c = record {
  valid = λ s none. faultless_valid s none;
  faultless = λ s v. valid_faultless s v;
  document = λ d s lists none.
      let v = faultless_valid s none in
      record { listed = strict_from_raw d s lists.listed v; no_float = lists.no_float; valid = v };
}
