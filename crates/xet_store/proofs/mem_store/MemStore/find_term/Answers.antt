use Rattle.std.proofs.Common.{◌≡◌, ◌∙◌, ◌<◌, ◌≤◌, ◌&&◌, List, ap, arith, length, sym, true, ℕ}
use Rattle.std.specs.Prelude.{is_some, nat_le, nat_lt, slice_range}
use Rattle.std.specs.List.{concat}
use Rattle.std.proofs.lemmas.Bool.Decides.{nat_tests}
use Rattle.xet_base.specs.Store.{chunks_of, xorb_of}
use Rattle.xet_store.proofs.JoinedChunks.{place-le, places_apart}
use Rattle.xet_store.proofs.UsedXorbs.{chunks_of_some}
use Rattle.xet_store.proofs.mem_store.MemStore.find_term.Goals as goal

pub overflow_sub-result : goal.overflow_sub-result
overflow_sub-result c =
    let t = c.args.term.now in
    let up = place-le c.in-Some.xorb.now.chunks t.from t.to (omega (arith, c.if-term.true)) in
    omega (arith, up, c.place.ensures, c.place-then-term-chunk_count.ensures)

pub returns-then-term-chunk_count : goal.returns-then-term-chunk_count
returns-then-term-chunk_count c =
    let s = c.args.self.now in
    let t = c.args.term.now in
    let x = c.in-Some.xorb.now in
    let from : t.from < t.to = c.if-term.true in
    let to : t.to ≤ c.chunk_count.result = c.if-term-chunk_count.true in
    let chunks : chunks_of s t.xorb ≡ x.chunks = chunks_of_some s t.xorb x c.in-Some.ensures.found in
    let inside : t.to ≤ length (chunks_of s t.xorb) = omega (arith, to, c.chunk_count.ensures.count, ap length chunks) in
    let some : nat_lt t.from t.to ≡ true = grind (arith, nat_tests) in
    let stored : is_some (xorb_of s t.xorb) ≡ true = ap is_some (sym c.in-Some.ensures.found) in
    let within : nat_le t.to (length (chunks_of s t.xorb)) ≡ true = grind (arith, nat_tests) in
    let apart = places_apart x.chunks t.from t.to (omega (arith, from)) in (
      λ i. some i && stored i && within i,
      rw (c.place.ensures, c.place-then-term-chunk_count.ensures)
          (apart ∙ ap (λ (cs : List (List ℕ)). length (concat (slice_range cs t.from t.to))) (sym chunks)),
    )
