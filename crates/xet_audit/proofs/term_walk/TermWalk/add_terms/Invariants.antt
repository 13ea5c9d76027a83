use Rattle.std.proofs.Common.{◌≡◌, ◌++◌, List, length, map, take}
use Rattle.std.specs.Prelude.{is_none}
use Rattle.xet_base.specs.declared.merklehash.MerkleHash.{MerkleHash}
use Rattle.xet_base.specs.Store.{xorb_of}
use Rattle.xet_store.specs.Refusals.{stored_term}
use Rattle.xet_audit.specs.Findings.{each_part, is_outside}
use Rattle.xet_audit.specs.Raws.{store_of_raw}
use Rattle.xet_audit.specs.steps.Tables.{IsMarked}
use Rattle.xet_audit.specs.steps.Terms.{length_of}
use Rattle.xet_audit.proofs.term_walk.TermWalk.add_terms.Given as goal

abbrev pub invariant-loop-b : goal.invariant-loop-b
invariant-loop-b l =
    let s = store_of_raw l.table.raw.now in
    let ts = take l.b (map stored_term l.terms) in record {
      size : l.length ≡ length_of s ts;
      unnamed : l.self.unnamed.items ≡ l.initial.self.unnamed.items ++ each_part 5 (λ t. is_none (xorb_of s t.xorb)) l.a ts;
      outside : l.self.outside.items ≡ l.initial.self.outside.items ++ each_part 6 (is_outside s) l.a ts;
      long : l.self.long.items ≡ l.initial.self.long.items;
      count : length l.self.named.items ≡ length l.table.firsts.hashes;
      named : (seen : List MerkleHash) → IsMarked l.table.firsts.hashes seen l.initial.self.named.items
          → IsMarked l.table.firsts.hashes (seen ++ map (λ t. t.xorb) ts) l.self.named.items;
    }
