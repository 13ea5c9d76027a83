-- Bytes put into a content that was made long enough first.
use Rattle.std.proofs.Common.{◌≡◌, ℕ, ◌+◌, ◌-◌, ◌<◌, List, [], ◌∷◌, ◌++◌, take, drop, length, replicate, ap, ◌∙◌}
use Rattle.std.proofs.Common.{refl, arith, length-append}
use Rattle.std.proofs.lemmas.List.{append-nil, drop-append-le, take-replicate, drop-replicate}
use Rattle.xet_base.proofs.CallerLemmas.{take-append, drop-append}
use Rattle.xet_sinks.specs.MemFiles.{MemStands}
use Rattle.xet_outside.proofs.CallerLemmas.{full, put_more}
use Rattle.xet_outside.specs.Places.{put_at}

-- a content that was made long enough first
grown_full : (c ps : List ℕ) (p : ℕ) → take p (c ++ replicate (p + length ps - length c) 0) ++ ps ++ drop
    (p + length ps) (c ++ replicate (p + length ps - length c) 0) ≡ full c p ps
grown_full c ps p =
    let a = take-append p c (replicate (p + length ps - length c) 0) in
    let b : take {A = ℕ} (p - length c) (replicate (p + length ps - length c) 0) ≡ replicate
    (p - length c) 0 = take-replicate (p - length c) (p + length ps - length c) 0 (omega arith) in
    let d = drop-append (p + length ps) c (replicate (p + length ps - length c) 0) in
    let z : p + length ps - length c - (p + length ps - length c) ≡ 0 = omega arith in
    let e : drop {A = ℕ} (p + length ps - length c) (replicate (p + length ps - length c) 0) ≡ [] = drop-replicate
    {X = ℕ} (p + length ps - length c) (p + length ps - length c) 0 ∙ ap (λ (k : ℕ). replicate {A = ℕ} k 0) z in
    rw (a, b, d, e, append-nil) refl

pub put_grown : (c ps : List ℕ) (p : ℕ) → 0 < length ps
    → take p (c ++ replicate (p + length ps - length c) 0) ++ ps ++ drop (p + length ps)
    (c ++ replicate (p + length ps - length c) 0) ≡ put_at c p ps
put_grown c [] p h = absurd (omega arith)
put_grown c (x ∷ xs) p h = grown_full c (x ∷ xs) p

-- a file that took more
pub mem_more : (now then took c piece : List ℕ) (at end p k : ℕ) → MemStands now at took c p k
    → then ≡ put_at now at piece → end ≡ at + length piece → MemStands then end (took ++ piece) c p k
mem_more now then took c piece at end p k s e f =
    let w = s.within in
    let d : drop k (took ++ piece) ≡ drop k took ++ piece = drop-append-le k took piece w in
    let l = length-append (drop k took) piece in
    let q = s.place_is in
    let m = length-append took piece in
    record {
      content_is = rw d (e ∙ ap (λ (l : List ℕ). put_at l at piece) s.content_is ∙ ap
          (λ (i : ℕ). put_at (put_at c p (drop k took)) i piece) q ∙ put_more c p (drop k took) piece);
      place_is = rw d (omega arith);
      within = omega arith;
    }
