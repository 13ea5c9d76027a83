-- A piece is as long as its term.
use Rattle.std.proofs.Common.{◌≡◌, ℕ, ◌+◌, ◌^◌, ◌-◌, ◌≤◌, Bool, true, false, cond, List, length, take, drop, refl, sym, ◌∙◌, ap, arith, Some, None, Option}
use Rattle.std.specs.Prelude.{min, nat_lt, option_map, slice_get, unwrap_or}
use Rattle.std.proofs.lemmas.Bool.{ltb-false}
use Rattle.std.proofs.lemmas.List.{length-drop, length-take}
use Rattle.xet_error.specs.declared.error.Corruption.{Corruption}
use Rattle.xet_error.specs.declared.error.Corruption.TheVariants.{TermPastBlock}
use Rattle.xet_blocks.specs.declared.reconstruction_terms.file_term.FileTerm.{FileTerm}
use Rattle.xet_offers.specs.declared.reconstruction_terms.xorb_block.XorbBlockData.{XorbBlockData}
use Rattle.xet_blocks.specs.Extracts.{begin_at, end_test, failed_term_test, term_bytes_in, term_size, test_at}
use Rattle.xet_leader.specs.LedTerms.{IsPieceIn, PlanTerm, size_in}

-- a term that passes its test has its length of bytes
term_sized : (t : FileTerm) (d : XorbBlockData) → failed_term_test t d ≡ None → length (term_bytes_in t d) ≡ term_size t
term_sized t d h = by (slice_get d.chunk_offsets t.xorb_block_start_index) refl
  where
    bytes_at : Option (ℕ × ℕ) → List ℕ
    bytes_at o = take (term_size t) (drop (begin_at t (unwrap_or (option_map (λ (c : ℕ × ℕ). c.1) o) 0)) d.bytes)

    ends : (c : ℕ × ℕ) (v : Bool) → nat_lt (length d.bytes) (begin_at t c.1 + term_size t) ≡ v
        → end_test t d c.1 ≡ None → begin_at t c.1 + term_size t ≤ length d.bytes
    ends c false e k = ltb-false (length d.bytes) (begin_at t c.1 + term_size t) e
    ends c true e k =
        let over : Corruption = TermPastBlock (min (begin_at t c.1 + term_size t) (2 ^ 64 - 1)) (length d.bytes) in
        let z : end_test t d c.1 ≡ Some over = ap (λ (w : Bool). cond {A = Option Corruption} w (Some over) None) e in
        absurd (cc)

    by : (o : Option (ℕ × ℕ)) → slice_get d.chunk_offsets t.xorb_block_start_index ≡ o → length (term_bytes_in t d) ≡ term_size t
    by None e =
        let z : test_at t d None ≡ None = sym (ap (test_at t d) e) ∙ h in
        absurd (cc)
    by (Some c) e =
        let z : end_test t d c.1 ≡ None = sym (ap (test_at t d) e) ∙ h in
        let within = ends c (nat_lt (length d.bytes) (begin_at t c.1 + term_size t)) refl z in
        let is : term_bytes_in t d ≡ take (term_size t) (drop (begin_at t c.1) d.bytes) = ap bytes_at e in
        let n = ap (λ (l : List ℕ). length l) is in
        let m = length-take (term_size t) (drop (begin_at t c.1) d.bytes) in
        let k = length-drop (begin_at t c.1) d.bytes in
        omega (arith, n, m, k, within)

pub piece_sized : (t : PlanTerm) (piece : List ℕ) → IsPieceIn t piece → length piece ≡ size_in t
piece_sized t piece p = ap length p.bytes ∙ term_sized t.term p.data_of p.passes
