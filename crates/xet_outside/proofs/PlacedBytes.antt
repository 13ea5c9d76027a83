-- What stands at the place of a sink that took some bytes.
use Rattle.std.proofs.Common.{◌≡◌, ℕ, ◌+◌, ◌≤◌, List, ◌++◌, drop, length, Option, Some, None, ap, sym, refl, arith, length-append}
use Rattle.std.specs.Prelude.{IfSome, option_map, option_and_then}
use Rattle.std.proofs.lemmas.List.{drop-append-le}
use Rattle.xet_outside.specs.Told.{SinkTold, PlaceSet, Took}
use Rattle.xet_outside.specs.Places.{IsPlaced, IsWritten, Placed, place_set, placed_by, put_at, written}
use Rattle.xet_outside.proofs.PutBytes.{put_more}

same_placed : (c d : List ℕ) (i j : ℕ) → c ≡ d → i ≡ j → ◌≡◌ {A = Placed} (record { content = c; place = i }) (record { content = d; place = j })
same_placed c d i j e f = rw (e, f) refl

by_more : (p : PlaceSet) (xs bytes : List ℕ) → p.taken ≤ length xs → placed_by p (xs ++ bytes) ≡ written bytes (placed_by p xs)
by_more p xs bytes h =
    let d = drop-append-le p.taken xs bytes h in
    let c : put_at p.content p.place (drop p.taken (xs ++ bytes)) ≡ put_at (put_at p.content p.place (drop p.taken xs)) (p.place + length (drop p.taken xs)) bytes = rw d (sym (put_more p.content p.place (drop p.taken xs) bytes)) in
    let l = length-append (drop p.taken xs) bytes in
    let i : p.place + length (drop p.taken (xs ++ bytes)) ≡ p.place + length (drop p.taken xs) + length bytes = rw d (omega arith) in
    same_placed _ _ _ _ c i

go : (s : Option PlaceSet) (t u : Option (List ℕ)) (bytes : List ℕ) → IfSome s (λ p. IfSome t (λ xs. p.taken ≤ length xs)) → u ≡ option_map (λ xs. xs ++ bytes) t → option_and_then (λ p. option_map (placed_by p) u) s ≡ option_map (written bytes) (option_and_then (λ p. option_map (placed_by p) t) s)
go None t u bytes h e = refl
go (Some p) None u bytes h e = rw e refl
go (Some p) (Some xs) u bytes h e = rw e (ap Some (by_more p xs bytes h))

-- the taken bytes were written at the place
pub taken_written : (b n : SinkTold) (bytes : List ℕ) → IsPlaced b → Took b.took n.took bytes → n.link ≡ b.link → IsWritten b n bytes
taken_written b n bytes h t l = rw l (go (place_set b.link) b.took n.took bytes h t)
