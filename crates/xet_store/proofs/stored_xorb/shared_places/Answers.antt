use Rattle.std.proofs.Common.{◌≡◌, ◌+◌, ◌++◌, ◌∷◌, ◌∙◌, List, [], ℕ, ap, length, take, take_all, arith, length-append, refl}
use Rattle.std.specs.List.{concat}
use Rattle.xet_store.specs.steps.Joined.{ends_of}
use Rattle.xet_outside.specs.Plan.{lengths}
use Rattle.xet_store.proofs.JoinedChunks.{joined_more, length-concat-take, places_more}
use Rattle.xet_store.proofs.stored_xorb.shared_places.Goals as goal

pub loop-chunk-init : goal.loop-chunk-init
loop-chunk-init c = record {
  end = refl;
  places = c.in_ok-push.ensures.items ∙ ap (λ (xs : List ℕ). xs ++ 0 ∷ []) c.in_ok-places.ensures.items;
}

pub overflow_add-end : goal.overflow_add-end
overflow_add-end c =
    let cs = c.args.chunks.now in
    let i = c.loop-chunk.chunk-index in
    let more = joined_more cs i c.chunk-item.result c.loop-chunk-test.true c.chunk-item.is _ refl in
    omega (
      arith,
      c.loop-chunk.invariant.end,
      ap length more,
      length-append (concat (take i cs)) c.chunk-item.result,
      length-concat-take cs (i + 1),
      c.len.ensures.value,
      c.requires,
    )

pub overflow_cast-end : goal.overflow_cast-end
overflow_cast-end c =
    let cs = c.args.chunks.now in
    let i = c.loop-chunk.chunk-index in
    let more = joined_more cs i c.chunk-item.result c.loop-chunk-test.true c.chunk-item.is _ refl in
    omega (
      arith,
      c.loop-chunk.invariant.end,
      ap length more,
      length-append (concat (take i cs)) c.chunk-item.result,
      length-concat-take cs (i + 1),
      c.len.ensures.value,
      c.requires,
    )

pub loop-chunk-preserved : goal.loop-chunk-preserved
loop-chunk-preserved c =
    let cs = c.args.chunks.now in
    let i = c.loop-chunk.chunk-index in
    let more = joined_more cs i c.chunk-item.result c.loop-chunk-test.true c.chunk-item.is _ refl in
    let end : c.loop-chunk.end + c.len.result ≡ length (concat (take (i + 1) cs)) =
    omega (
      arith,
      c.loop-chunk.invariant.end,
      ap length more,
      length-append (concat (take i cs)) c.chunk-item.result,
      c.len.ensures.value,
    ) in
    record {
      end = end;
      places = rw c.in_ok-push-2.ensures.items (places_more cs i c.chunk-item.result c.loop-chunk-test.true
          c.chunk-item.is (concat (take (i + 1) cs)) _ _ refl c.loop-chunk.invariant.places end);
    }

pub returns : goal.returns
returns c =
    ap (λ v. v.items) c.in_ok-new.ensures.ok ∙ c.loop-chunk.invariant.places
    ∙ ap (λ xs. 0 ∷ ends_of 0 (lengths xs)) (take_all c.loop-chunk.chunk-index c.args.chunks.now
    c.loop-chunk-test.false)
