-- Findings by what they are found in.
use Rattle.std.specs.Prelude.{◌==◌, ◌++◌, List, is_none, length}
use Rattle.xet_base.specs.declared.mdb_shard.Xorb.{Xorb}
use Rattle.xet_base.specs.Store.{Store, xorb_of}
use Rattle.xet_findings.specs.declared.finding.Finding.{Finding}
use Rattle.xet_audit.specs.Findings.{each_at, each_within, is_later_xorb, is_outside, is_too_large, is_too_long}

-- kinds 2 and 3
abbrev pub chunk_faults : List Xorb → List Finding
chunk_faults xs = each_within 2 (λ x. x.chunks) (λ c. length c == 0) xs ++ each_at 3 (λ i x. is_too_large x) xs

-- kinds 1 to 3
abbrev pub xorb_faults : Store → List Finding
xorb_faults s = each_at 1 (is_later_xorb s) s.xorbs ++ chunk_faults s.xorbs

-- kinds 5 to 7
abbrev pub term_faults : Store → List Finding
term_faults s =
    each_within 5 (λ f. f.terms) (λ t. is_none (xorb_of s t.xorb)) s.files
    ++ each_within 6 (λ f. f.terms) (is_outside s) s.files
    ++ each_at 7 (λ i f. is_too_long s f) s.files
