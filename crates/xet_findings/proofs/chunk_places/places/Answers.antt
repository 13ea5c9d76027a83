use Rattle.std.proofs.Common.{◌++◌, ◌∷◌, [], ◌∙◌, List, ℕ, ap, refl}
use Rattle.xet_findings.proofs.Sizes.{places_all, places_more}
use Rattle.xet_findings.proofs.chunk_places.places.Goals as goal

pub loop-chunk-init : goal.loop-chunk-init
loop-chunk-init c = record {
  end = refl;
  places = c.in_ok-push.ensures.ok ∙ ap (λ (ps : List ℕ). ps ++ 0 ∷ []) c.with_hint-places.ensures;
}

pub loop-chunk-preserved : goal.loop-chunk-preserved
loop-chunk-preserved c =
    let l = c.loop-chunk in
    let more = places_more c.args.chunks.now l.chunk-index l.end _ c.in-Some.next c.chunk-item.result l.places c.push-in-loop-chunk.new.self
    c.loop-chunk-test.true c.chunk-item.is l.invariant.end c.len.ensures.value (rw c.in-Some.is at c.checked_add.ensures)
    l.invariant.places c.in_ok-push-2.ensures.ok in
    record { end = more.0; places = more.1 }

pub returns : goal.returns
returns c =
    let l = c.loop-chunk in
    places_all c.args.chunks.now l.chunk-index l.places c.loop-chunk-test.false l.auto.chunk-index-end l.invariant.places
