use Rattle.std.proofs.Common.{◌==◌, length}
use Rattle.std.specs.Prelude.{is_none}
use Rattle.xet_base.specs.Store.{xorb_of}
use Rattle.xet_audit.specs.Findings.{each_at, each_within, is_later_file, is_later_xorb, is_outside, is_too_large, is_too_long}
use Rattle.xet_audit.specs.Raws.{store_of_raw}
use Rattle.xet_audit.proofs.Lists.{all_seven, two_more}
use Rattle.xet_audit.proofs.audits.find.Goals as goal

pub returns : goal.returns
returns c =
    let s = store_of_raw c.args.raw.now in
    let table = c.in_ok-table.ensures.raw in
    let terms = rw table at c.in_ok-spare.ensures.found in
    let named = rw table at c.in_ok-find_in_hashes.ensures in
    record {
      findings = two_more _ _ _ _ _
          (all_seven _ _ _ _ (each_at 1 (is_later_xorb s) s.xorbs) (each_within 2 (λ x. x.chunks) (λ c. length c == 0) s.xorbs) (each_at 3 (λ i x. is_too_large x) s.xorbs)
          (each_at 4 (is_later_file s) s.files) (each_within 5 (λ f. f.terms) (λ t. is_none (xorb_of s t.xorb)) s.files) (each_within 6 (λ f. f.terms) (is_outside s) s.files)
          (each_at 7 (λ i f. is_too_long s f) s.files) c.in_ok-table.ensures.found c.in_ok-find_later_files.ensures terms)
          named;
      spare = rw table at c.in_ok-spare.ensures.spare;
    }
