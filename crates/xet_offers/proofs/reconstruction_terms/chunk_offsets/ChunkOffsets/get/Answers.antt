use Rattle.std.proofs.Common.{◌≡◌, ◌+◌, ◌^◌, ◌<◌, ◌≤◌, ℕ, List, length, slice_get, ap, sym, ◌∙◌, arith, subst}
use Rattle.std.proofs.lemmas.Option.{slice_get_within}
use Rattle.xet_offers.specs.ChunkOffsets.{AreNumbers, pairs_of, run}
use Rattle.xet_offers.proofs.ChunkRuns.{got_copied, run_at, run_past}
use Rattle.xet_offers.proofs.reconstruction_terms.chunk_offsets.ChunkOffsets.get.Goals as goal

pub returns-in_err-place-in-Run : goal.returns-in_err-place-in-Run
returns-in_err-place-in-Run c =
    let same : run c.in-Run.first c.in-Run.places ≡ c.args.self.now = sym (ap pairs_of c.in-Run.is) ∙ c.self.view_is in
    c.from_residual.ensures
    ∙ sym (run_past c.in-Run.first c.args.index c.in-Run.places (sym c.in_err-place-in-Run.ensures))
    ∙ ap (λ (pairs : List (ℕ × ℕ)). slice_get pairs c.args.index) same

pub overflow_add-result : goal.overflow_add-result
overflow_add-result c =
    let below : c.in-Run.first + length c.in-Run.places ≤ 2 ^ 32 = subst AreNumbers c.in-Run.is c.self.invariant in
    let within : c.args.index < length c.in-Run.places = slice_get_within c.in-Run.places c.args.index _ (sym c.in_ok-place-in-Run.ensures) in
    omega arith

pub returns-in_ok-place-in-Run : goal.returns-in_ok-place-in-Run
returns-in_ok-place-in-Run c =
    let same : run c.in-Run.first c.in-Run.places ≡ c.args.self.now = sym (ap pairs_of c.in-Run.is) ∙ c.self.view_is in
    sym (run_at c.in-Run.first c.args.index _ c.in-Run.places (sym c.in_ok-place-in-Run.ensures))
    ∙ ap (λ (pairs : List (ℕ × ℕ)). slice_get pairs c.args.index) same

pub returns-in-Pairs : goal.returns-in-Pairs
returns-in-Pairs c =
    let same : c.in-Pairs.pairs ≡ c.args.self.now = sym (ap pairs_of c.in-Pairs.is) ∙ c.self.view_is in
    c.copied.ensures ∙ got_copied c.as_slice.result.now c.args.index c.get-in-Pairs.result c.get-in-Pairs.ensures.lookup.3
    ∙ ap (λ (pairs : List (ℕ × ℕ)). slice_get pairs c.args.index) (c.as_slice.ensures ∙ same)
