use Rattle.std.proofs.Common.{◌≡◌, ◌-◌, ◌^◌, ℕ, List, map, ap, sym, subst, ◌∙◌}
use Rattle.std.specs.Prelude.{IfOk, min}
use Rattle.xet_offers.specs.ChunkOffsets.{pairs_of, run}
use Rattle.xet_offers.proofs.ChunkRuns.{places_of_run}
use Rattle.xet_offers.proofs.reconstruction_terms.chunk_offsets.ChunkOffsets.offsets.Goals as goal

pub returns-in-Run : goal.returns-in-Run
returns-in-Run c =
    let first = c.in-Run.field-0 in
    let same : run first c.in-Run.places ≡ c.args.self.now = sym (ap pairs_of c.in-Run.is) ∙ c.self.view_is in
    let all : c.in-Run.places ≡ map (λ (p : ℕ × ℕ). min p.1 (2 ^ 32 - 1)) c.args.self.now
    = sym (places_of_run first c.in-Run.places c.are_small.ensures) ∙ ap (λ (pairs : List (ℕ × ℕ)). map (λ (p : ℕ × ℕ). min p.1 (2 ^ 32 - 1)) pairs) same in
    subst (λ (l : List ℕ). IfOk c.copied.result (λ o. o ≡ l)) all c.copied.ensures
