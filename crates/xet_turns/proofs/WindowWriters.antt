-- The writer that holds a window.
use Rattle.std.proofs.Common.{◌≡◌, ℕ, ◌+◌, List, [], ◌∷◌, ◌++◌, length, refl, sym, ◌∙◌, ap, arith, append_assoc, length-append, Some, None}
use Rattle.std.specs.List.{concat}
use Rattle.std.proofs.lemmas.List.{append-nil}
use Rattle.std.proofs.lemmas.List.Folds.{concat-append}
use Rattle.xet_writers.specs.Queues.{QueuedTerm, ready, ready_bytes}
use Rattle.xet_writers.specs.Sequential.{Sequential}
use Rattle.xet_writers.proofs.CallerLemmas.{ready_more}
use Rattle.xet_stages.specs.Windows.{with_piece, with_pieces}

-- it has these ready bytes besides, all its terms are ready, and but for its queue and the next place it is as it was
pub record HoldsPieces {S : Type 0} (v w : Sequential S) (ps : List (List ℕ)) : Type 0 where
  pub all_ready : length (ready w.queue) ≡ length w.queue
  pub bytes : ready_bytes w.queue ≡ ready_bytes v.queue ++ concat ps
  pub left : w ≡ record v { queue = w.queue; expected = v.expected + length (concat ps) }

one_more : {S : Type 0} (v : Sequential S) (p : List ℕ) → length (ready v.queue) ≡ length v.queue
    → (length (ready (with_piece v p).queue) ≡ length (with_piece v p).queue)
    × (ready_bytes (with_piece v p).queue ≡ ready_bytes v.queue ++ p)
one_more v p h =
    let t : QueuedTerm = record {
      byte_range = record { start = v.expected; end = v.expected + length p };
      admission = None;
      bytes = Some p;
    } in
    let r = ready_more v.queue t p h refl in (
      r.1,
      ap concat r.0 ∙ concat-append (ready v.queue) (p ∷ [])
          ∙ ap (λ (l : List ℕ). ready_bytes v.queue ++ l) (append-nil p),
    )

pub holds_pieces : {S : Type 0} (v w : Sequential S) (ps : List (List ℕ)) → length (ready v.queue) ≡ length v.queue
    → w ≡ with_pieces v ps → HoldsPieces v w ps
holds_pieces {S = S} v w [] h e =
    let n : v.expected + 0 ≡ v.expected = omega arith in
    record {
      all_ready = ap (λ (x : Sequential S). length (ready x.queue)) e ∙ h
          ∙ ap (λ (x : Sequential S). length x.queue) (sym e);
      bytes = ap (λ (x : Sequential S). ready_bytes x.queue) e ∙ sym (append-nil (ready_bytes v.queue));
      left = e ∙ ap (λ (k : ℕ). record v { expected = k }) (sym n)
          ∙ ap (λ (q : List QueuedTerm). record v { queue = q; expected = v.expected + 0 })
          (sym (ap (λ (x : Sequential S). x.queue) e));
    }
holds_pieces v w (p ∷ ps) h e =
    let one = one_more v p h in
    let r = holds_pieces (with_piece v p) w ps one.0 e in
    let l = length-append p (concat ps) in
    let n : v.expected + length p + length (concat ps) ≡ v.expected + length (concat (p ∷ ps)) = omega (arith, l) in
    record {
      all_ready = r.all_ready;
      bytes = r.bytes ∙ ap (λ (b : List ℕ). b ++ concat ps) one.1 ∙ append_assoc (ready_bytes v.queue) p (concat ps);
      left = r.left ∙ ap (λ (k : ℕ). record v { queue = w.queue; expected = k }) n;
    }
