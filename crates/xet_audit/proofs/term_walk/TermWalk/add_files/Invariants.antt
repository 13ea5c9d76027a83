use Rattle.std.proofs.Common.{◌≡◌, map, take}
use Rattle.std.specs.Prelude.{is_none}
use Rattle.std.specs.List.{flat_map}
use Rattle.xet_base.specs.Store.{xorb_of}
use Rattle.xet_audit.specs.Findings.{each_at, each_within, is_outside, is_too_long}
use Rattle.xet_audit.specs.Raws.{store_of_raw}
use Rattle.xet_audit.specs.steps.Tables.{IsMarked}
use Rattle.xet_audit.proofs.term_walk.TermWalk.add_files.Given as goal

abbrev pub invariant-loop-a : goal.invariant-loop-a
invariant-loop-a l =
    let s = store_of_raw l.table.raw.now in
    let fs = take l.a s.files in record {
      unnamed : l.self.unnamed.items ≡ each_within 5 (λ f. f.terms) (λ t. is_none (xorb_of s t.xorb)) fs;
      outside : l.self.outside.items ≡ each_within 6 (λ f. f.terms) (is_outside s) fs;
      long : l.self.long.items ≡ each_at 7 (λ i f. is_too_long s f) fs;
      named : IsMarked l.table.firsts.hashes (flat_map (λ f. map (λ t. t.xorb) f.terms) fs) l.self.named.items;
    }
