-- The places of some of a xorb's chunks, out of those of all.
use Rattle.std.proofs.Common.{◌≡◌, ℕ, zero, suc, ◌+◌, ◌-◌, ◌≤◌, List, [], ◌∷◌, length, take, drop, map, refl, ◌∙◌, ap, zero-add, arith}
use Rattle.std.specs.Prelude.{sum, slice_range}
use Rattle.std.proofs.lemmas.List.{take-map, drop-map, length-map, length-drop}
use Rattle.std.proofs.lemmas.List.Sums.{sum_by-cons}
use Rattle.xet_base.specs.declared.mdb_shard.Xorb.{Xorb}
use Rattle.xet_base.specs.Lists.{placed, starts}
use Rattle.xet_outside.specs.Plan.{lengths}
use Rattle.xet_outside.specs.Offsets.{places_after}
use Rattle.xet_store.specs.steps.Joined.{ends_of, IsJoined}

-- the places of some lengths, where the first one stands at the given place
abbrev starts_from : ℕ → List ℕ → List ℕ
starts_from p ns = map (λ (c : ℕ × ℕ). c.0) (placed p ns)

-- the first of them
take-places : (p k : ℕ) (ns : List ℕ) → k ≤ length ns → take k (p ∷ ends_of p ns) ≡ starts_from p (take k ns)
take-places p zero ns h = refl
take-places p (suc k) [] h = absurd (omega arith)
take-places p (suc k) (n ∷ ns) h = ap (λ (ps : List ℕ). p ∷ ps) (take-places (p + n) k ns (omega arith))

-- those behind the first
drop-places : (p k : ℕ) (ns : List ℕ) → k ≤ length ns
    → drop k (p ∷ ends_of p ns) ≡ (p + sum (take k ns)) ∷ ends_of (p + sum (take k ns)) (drop k ns)
drop-places p zero ns h = let e : p ≡ p + 0 = omega arith in ap (λ (x : ℕ). x ∷ ends_of x ns) e
drop-places p (suc k) [] h = absurd (omega arith)
drop-places p (suc k) (n ∷ ns) h =
    let e : p + n + sum (take k ns) ≡ p + sum (n ∷ take k ns) = omega (arith, sum_by-cons (λ x. x) n (take k ns)) in
    drop-places (p + n) k ns (omega arith) ∙ ap (λ (x : ℕ). x ∷ ends_of x (drop k ns)) e

-- less a number that all of them were moved by
starts-less : (b p : ℕ) (ns : List ℕ) → map (λ (x : ℕ). x - b) (starts_from (b + p) ns) ≡ starts_from p ns
starts-less b p [] = refl
starts-less b p (n ∷ ns) =
    let e : (b + p) - b ≡ p = omega arith in
    let f : b + p + n ≡ b + (p + n) = omega arith in
    ap (λ (x : ℕ). x ∷ map (λ (y : ℕ). y - b) (starts_from (b + p + n) ns)) e
    ∙ ap (λ (x : ℕ). p ∷ map (λ (y : ℕ). y - b) (starts_from x ns)) f
    ∙ ap (λ (xs : List ℕ). p ∷ xs) (starts-less b (p + n) ns)

-- of the places of some lengths those from one number to before another, less the first of them
places-of-some : (ns : List ℕ) (a b : ℕ) → a ≤ b → b ≤ length ns
    → places_after (sum (take a ns)) (0 ∷ ends_of 0 ns) a b ≡ starts (take (b - a) (drop a ns))
places-of-some ns a b h l =
    let base = sum (take a ns) in
    let here = take (b - a) (drop a ns) in
    let few : b - a ≤ length (drop a ns) = omega (arith, length-drop a ns) in
    let z : base ≡ base + 0 = omega arith in
    let behind : drop a (0 ∷ ends_of 0 ns) ≡ base ∷ ends_of base (drop a ns) = drop-places 0 a ns (omega arith)
    ∙ ap (λ (x : ℕ). x ∷ ends_of x (drop a ns)) (zero-add base) in
    ap (λ (ps : List ℕ). map (λ (p : ℕ). p - base) (take (b - a) ps)) behind
    ∙ ap (λ (ps : List ℕ). map (λ (p : ℕ). p - base) ps) (take-places base (b - a) (drop a ns) few)
    ∙ ap (λ (x : ℕ). map (λ (p : ℕ). p - base) (starts_from x here)) z
    ∙ starts-less base 0 here

-- the same for the chunks of a xorb
pub joined_offsets : (x : Xorb) (bytes places : List ℕ) → IsJoined x bytes places → (a b base : ℕ) → a ≤ b
    → b ≤ length x.chunks → base ≡ sum (take a (lengths x.chunks))
    → places_after base places a b ≡ starts (lengths (slice_range x.chunks a b))
joined_offsets x bytes places h a b base order inside first =
    let ns = lengths x.chunks in
    let within : b ≤ length ns = omega (arith, inside, length-map x.chunks (λ c. length c)) in
    let e : take (b - a) (drop a ns) ≡ lengths (slice_range x.chunks a b) =
    ap (λ (ms : List ℕ). take (b - a) ms) (drop-map (λ (c : List ℕ). length c) a x.chunks)
    ∙ take-map (λ (c : List ℕ). length c) (b - a) (drop a x.chunks) in
    ap (λ (n : ℕ). places_after n places a b) first
    ∙ ap (λ (ps : List ℕ). places_after (sum (take a ns)) ps a b) h.places_are
    ∙ places-of-some ns a b order within ∙ ap starts e
