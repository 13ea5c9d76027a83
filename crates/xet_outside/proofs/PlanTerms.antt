-- Each term of a plan has chunks, which its xorb has.
use Rattle.std.proofs.Common.{◌≡◌, ℕ, ◌-◌, ◌≤◌, ◌<◌, length, drop, arith, map}
use Rattle.std.specs.Prelude.{All, slice_range}
use Rattle.std.proofs.lemmas.Bool.{ltb-true}
use Rattle.std.proofs.lemmas.List.{length-take, length-drop}
use Rattle.std.proofs.lemmas.List.Elements.{All-map, All-filter, filter_passes}
use Rattle.xet_base.specs.declared.merklehash.MerkleHash.{MerkleHash}
use Rattle.xet_base.specs.declared.cas_types.FileRange.{FileRange}
use Rattle.xet_base.specs.declared.stored.StoredTerm.{StoredTerm}
use Rattle.xet_base.specs.Store.{Store, chunks_of, chunks_of_term, terms_of_file}
use Rattle.xet_outside.specs.declared.plan.PlanTerm.{PlanTerm}
use Rattle.xet_outside.specs.Plan.{cut_term, placed_terms, plan_terms}
use Rattle.xet_outside.proofs.TermChunks.{sum_lengths, term_bytes, skips-keeps}
use Rattle.xet_outside.proofs.PlanWindows.{has_chunks}

-- the term has chunks, its xorb has them, and its length is theirs
pub record IsPlanTerm (s : Store) (t : PlanTerm) : Type 0 where
  pub some : t.range.start < t.range.end
  pub inside : t.range.end ≤ length (chunks_of s t.xorb)
  pub size : t.unpacked_length ≡ length (term_bytes s t)

-- the second and the third, of a cut term that has chunks
record IsCut (s : Store) (t : PlanTerm) : Type 0 where
  inside : t.range.start < t.range.end → t.range.end ≤ length (chunks_of s t.xorb)
  size : t.unpacked_length ≡ length (term_bytes s t)

cut_is : (s : Store) (q : FileRange) (t : ℕ × StoredTerm) → IsCut s (cut_term s q t)
cut_is s q t = record {
  inside = λ h.
      let bound = skips-keeps q t.0 (chunks_of_term s t.1) in
      let a = length-take (t.1.to - t.1.from) (drop t.1.from (chunks_of s t.1.xorb)) in
      let b = length-drop t.1.from (chunks_of s t.1.xorb) in
      omega (arith, h, bound, a, b);
  size = sum_lengths (slice_range (chunks_of s t.1.xorb) (cut_term s q t).range.start (cut_term s q t).range.end);
}

pub plan_terms_are : (s : Store) (f : MerkleHash) (q : FileRange) → All (IsPlanTerm s) (plan_terms s f q)
plan_terms_are s f q = λ k d h.
    let cuts = All-filter has_chunks (IsCut s) (map (cut_term s q) (placed_terms s 0 (terms_of_file s f)))
    (All-map (IsCut s) (cut_term s q) (placed_terms s 0 (terms_of_file s f)) (λ i e l. cut_is s q _)) k d h in
    let passes = filter_passes has_chunks (map (cut_term s q) (placed_terms s 0 (terms_of_file s f))) k d h in
    let some = ltb-true _ _ passes in
    record { some = some; inside = cuts.inside some; size = cuts.size }

pub cut_size : (s : Store) (q : FileRange) (t : ℕ × StoredTerm) → (cut_term s q t).unpacked_length ≡ length (term_bytes s (cut_term s q t))
cut_size s q t = (cut_is s q t).size
