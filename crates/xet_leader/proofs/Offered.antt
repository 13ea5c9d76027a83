-- Blocks that are offered one after another.
use Rattle.std.proofs.Common.{ℕ, ◌+◌, ◌<◌, ◌≤◌, List, [], ◌∷◌, ◌++◌, length, take, get_or, refl, sym, subst, Ok, Err}
use Rattle.std.proofs.lemmas.List.{take_all}
use Rattle.std.proofs.lemmas.Option.{slice_get-get_or}
use Rattle.xet_outside.specs.Told.{CacheTold}
use Rattle.xet_error.specs.declared.error.FileReconstructionError.{FileReconstructionError}
use Rattle.xet_ties.proofs.CallerLemmas.{take_at}
use Rattle.xet_leader.specs.declared.leader.LedPlan.{LedPlan}
use Rattle.xet_leader.specs.declared.missing_blocks.BlockAt.{BlockAt}
use Rattle.xet_leader.specs.Offering.{OfferCalls, OfferedEach, OfferedOne}

each_more : (ls : List LedPlan) (ps : List BlockAt) (p : BlockAt) (c d e : CacheTold) → OfferedEach ls ps c d
    → OfferedOne ls p d e (Ok tt) → OfferedEach ls (ps ++ p ∷ []) c e
each_more ls [] p c d e a o = (e, subst (λ (x : CacheTold). OfferedOne ls p x e (Ok tt)) a o, refl)
each_more ls (q ∷ ps) p c d e a o = (a.0, a.1, each_more ls ps p a.0 d e a.2 o)

-- the next one was offered
pub offered_more : (ls : List LedPlan) (places : List BlockAt) (k : ℕ) (p : BlockAt) (c d e : CacheTold)
    → k < length places → OfferedOne ls (get_or places k p) d e (Ok tt) → OfferedEach ls (take k places) c d
    → OfferedEach ls (take (k + 1) places) c e
offered_more ls places k p c d e h o a = subst (λ (ps : List BlockAt). OfferedEach ls ps c e)
    (sym (take_at places k p h)) (each_more ls (take k places) (get_or places k p) c d e a o)

pub offered_all : (ls : List LedPlan) (places : List BlockAt) (k : ℕ) (c d : CacheTold) → length places ≤ k
    → OfferedEach ls (take k places) c d → OfferCalls ls places c d (Ok tt)
offered_all ls places k c d e a = record {
  ok = subst (λ (ps : List BlockAt). OfferedEach ls ps c d)
      (take_all k places e) a;
  err = tt;
}

-- the next one was not
pub offered_short : (ls : List LedPlan) (places : List BlockAt) (k : ℕ) (p : BlockAt) (c d e : CacheTold)
    (x : FileReconstructionError) → k < length places → OfferedOne ls (get_or places k p) d e (Err x)
    → OfferedEach ls (take k places) c d → OfferCalls ls places c e (Err x)
offered_short ls places k p c d e x h o a = record {
  ok = tt;
  err = record {
    count = k;
    last = d;
    before = a;
    place = get_or places k p;
    next = slice_get-get_or places k p h;
    fails = o;
  };
}
