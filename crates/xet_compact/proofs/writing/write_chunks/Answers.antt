use Rattle.std.proofs.Common.{◌≡◌, ◌∙◌, ◌+◌, ◌<◌, ap, sym, subst, List, ℕ, ◌++◌, ◌∷◌, [], All, flat_map, take}
use Rattle.std.proofs.lemmas.List.{take_all, take_more}
use Rattle.std.proofs.lemmas.List.Elements.{All-nil, All-push}
use Rattle.xet_compact.specs.steps.Writes.{Adds, chunk_tokens}
use Rattle.xet_compact.proofs.Writes.{adds_next, adds_none}
use Rattle.xet_compact.proofs.writing.write_chunks.Goals as goal

pub loop-chunk-init : goal.loop-chunk-init
loop-chunk-init c = record { written = adds_none c.args.out.now; told = All-nil (λ (d : List ℕ). All (λ n. n < 256) d) }

pub loop-chunk-preserved : goal.loop-chunk-preserved
loop-chunk-preserved c =
    let cs = c.args.chunks.now in
    let i = c.loop-chunk.chunk-index in
    let b = c.chunk-item.result in
    let w = c.loop-chunk.invariant in
    let more = take_more cs i b c.loop-chunk-test.true ∙ ap (λ (d : List ℕ). take i cs ++ d ∷ []) (sym c.chunk-item.is) in
    record {
      written = adds_next chunk_tokens cs i b c.loop-chunk-test.true c.chunk-item.is w.written (subst
          (λ (d : List ℕ). Adds c.loop-chunk.out c.write_bytes.new.out (chunk_tokens d)) c.as_slice.ensures
          c.in_ok-write_bytes.ensures.written);
      told = subst (λ (l : List (List ℕ)). All (λ d. All (λ n. n < 256) d) l) (sym more) (All-push (λ (d : List ℕ).
          All (λ n. n < 256) d) (take i cs) b w.told (subst (λ (d : List ℕ). All (λ n. n < 256) d) c.as_slice.ensures
          c.write_bytes.ensures.told));
    }

pub returns : goal.returns
returns c =
    let w = c.loop-chunk.invariant in
    let all = take_all c.loop-chunk.chunk-index c.args.chunks.now c.loop-chunk-test.false in
    record {
      written = subst (λ (l : List (List ℕ)). Adds c.args.out.now c.loop-chunk.out (flat_map chunk_tokens l)) all w.written;
      told = subst (λ (l : List (List ℕ)). All (λ d. All (λ n. n < 256) d) l) all w.told;
    }
