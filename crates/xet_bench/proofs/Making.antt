-- Lists of numbers, one number longer.
use Rattle.std.proofs.Common.{◌≡◌, ℕ, zero, suc, ◌+◌, ◌<◌, List, [], ◌∷◌, ◌++◌, None, arith, map, refl, sym, ap, ◌∙◌}
use Rattle.std.specs.List.{range_with_len}
use Rattle.std.proofs.lemmas.List.{map-append}
use Rattle.std.proofs.lemmas.List.FromFn.{map-range_with_len_more}
use Rattle.xet_base.specs.declared.mdb_shard.FileDataSequenceEntry.{FileDataSequenceEntry}
use Rattle.xet_base.specs.declared.stored.StoredTerm.{StoredTerm}
use Rattle.xet_store.specs.Refusals.{stored_term, xorb_refusal}
use Rattle.xet_bench.specs.Bench.{bench_chunk, bench_term, bench_xorb, first_xorbs}

-- numbers from a on, and one more
range_suc : (a n : ℕ) → range_with_len a (suc n) ≡ range_with_len a n ++ (a + n) ∷ []
range_suc a zero = ap (λ k. k ∷ []) (omega arith)
range_suc a (suc n) =
    let more : range_with_len (a + 1) (suc n) ≡ range_with_len (a + 1) n ++ (a + suc n) ∷ [] =
    range_suc (a + 1) n ∙ ap (λ k. range_with_len (a + 1) n ++ k ∷ []) (omega arith) in
    ap (λ xs. a ∷ xs) more

pub range_more : (a n : ℕ) → range_with_len a (n + 1) ≡ range_with_len a n ++ (a + n) ∷ []
range_more a n =
    let e : n + 1 ≡ suc n = omega arith in
    ap (range_with_len a) e ∙ range_suc a n

-- chunks from a number on, and one more; xorbs likewise
pub chunks_more : (a n : ℕ)
    → map bench_chunk (range_with_len a (n + 1)) ≡ map bench_chunk (range_with_len a n) ++ bench_chunk (a + n) ∷ []
chunks_more a n = map-range_with_len_more bench_chunk a n (a + n) refl

pub xorbs_more : (n : ℕ)
    → map bench_xorb (range_with_len 0 (n + 1)) ≡ map bench_xorb (range_with_len 0 n) ++ bench_xorb n ∷ []
xorbs_more n = map-range_with_len_more bench_xorb 0 n n (omega arith)

-- a store takes each xorb after those before it
pub takes_next : (i : ℕ) → i < 8 → xorb_refusal (first_xorbs i) (bench_xorb i) ≡ None
takes_next zero h = refl
takes_next (suc zero) h = refl
takes_next (suc (suc zero)) h = refl
takes_next (suc (suc (suc zero))) h = refl
takes_next (suc (suc (suc (suc zero)))) h = refl
takes_next (suc (suc (suc (suc (suc zero))))) h = refl
takes_next (suc (suc (suc (suc (suc (suc zero)))))) h = refl
takes_next (suc (suc (suc (suc (suc (suc (suc zero))))))) h = refl
takes_next (suc (suc (suc (suc (suc (suc (suc (suc n)))))))) h = absurd (omega arith)

-- terms up to a number, and one more
pub terms_more : (ts : List FileDataSequenceEntry) (t : FileDataSequenceEntry) (n : ℕ)
    → map stored_term ts ≡ map bench_term (range_with_len 0 n) → stored_term t ≡ bench_term n
    → map stored_term (ts ++ t ∷ []) ≡ map bench_term (range_with_len 0 (n + 1))
terms_more ts t n h e =
    map-append stored_term ts (t ∷ []) ∙ ap (λ (xs : List StoredTerm). xs ++ stored_term t ∷ []) h
    ∙ ap (λ (x : StoredTerm). map bench_term (range_with_len 0 n) ++ x ∷ []) e
    ∙ sym (map-range_with_len_more bench_term 0 n n (omega arith))
