-- Where the wanted terms of a queue stand.
use Rattle.std.proofs.Common.{◌≡◌, ℕ, suc, ◌+◌, ◌-◌, ◌≤◌, Bool, true, false, ◌==◌, List, [], ◌∷◌, ◌++◌, length, Option, Some, None, ap, sym, ◌∙◌, refl, arith}
use Rattle.std.specs.Prelude.{is_none, slice_get}
use Rattle.std.specs.List.{position_from}
use Rattle.xet_error.specs.declared.error.WriterFault.{WriterFault}
use Rattle.xet_error.specs.declared.error.WriterFault.TheVariants as fault
use Rattle.xet_queue.specs.declared.queued_term.QueuedTerm.{QueuedTerm}
use Rattle.xet_queue.specs.declared.queued_term.WantedPlace.{WantedPlace}
use Rattle.xet_queue.specs.Calls.{finish_fault}
use Rattle.xet_queue.specs.Queues.{is_wanted_at, supplied, wanted}
use Rattle.xet_queue.specs.Waits.{first_with, without_first}
use Rattle.xet_queue.specs.steps.WantedPlaces.{places_of}

abbrev pub start_of : WantedPlace → ℕ
start_of p = p.start

-- the number in the queue of a place
abbrev pub number_from : ℕ → Option WantedPlace → Option ℕ
number_from n None = None
number_from n (Some p) = Some (p.number - n)

next_is : (n i : ℕ) → (n + i) + 1 ≡ n + (i + 1)
next_is n i = omega arith

-- ---- the first place with a start

place_at : (start n i : ℕ) (t : QueuedTerm) (ts : List QueuedTerm) (b c : Bool) → is_none t.bytes ≡ b → (t.byte_range.start == start) ≡ c
    → number_from n (first_with start_of start (places_of (n + i + 1) ts)) ≡ position_from (is_wanted_at start) (i + 1) ts
    → number_from n (first_with start_of start (places_of (n + i) (t ∷ ts))) ≡ position_from (is_wanted_at start) i (t ∷ ts)
place_at start n i t ts true true eb ec r = let z : (n + i) - n ≡ i = omega arith in rw (eb, ec, z) refl
place_at start n i t ts true false eb ec r = rw (eb, ec) r
place_at start n i t ts false c eb ec r = rw eb r

place_from : (start n i : ℕ) (ts : List QueuedTerm) → number_from n (first_with start_of start (places_of (n + i) ts)) ≡ position_from (is_wanted_at start) i ts
place_from start n i [] = refl
place_from start n i (t ∷ ts) =
    let r = place_from start n (i + 1) ts in
    let s : number_from n (first_with start_of start (places_of (n + i + 1) ts)) ≡ position_from (is_wanted_at start) (i + 1) ts = ap (λ k. number_from n (first_with start_of start (places_of k ts))) (next_is n i) ∙ r in
    place_at start n i t ts (is_none t.bytes) (t.byte_range.start == start) refl refl s

pub first_place : (start n : ℕ) (ts : List QueuedTerm) → number_from n (first_with start_of start (places_of n ts)) ≡ position_from (is_wanted_at start) 0 ts
first_place start n ts =
    let z : n ≡ n + 0 = omega arith in
    ap (λ k. number_from n (first_with start_of start (places_of k ts))) z ∙ place_from start n 0 ts

-- ---- what changes a queue

-- one term more
more_at : (n : ℕ) (u : QueuedTerm) (ts : List QueuedTerm) (t : QueuedTerm) (b : Bool) → is_none u.bytes ≡ b → places_of (n + 1) (ts ++ t ∷ []) ≡ places_of (n + 1) ts ++ places_of (n + 1 + length ts) (t ∷ []) → places_of n (u ∷ ts ++ t ∷ []) ≡ places_of n (u ∷ ts) ++ places_of (n + 1 + length ts) (t ∷ [])
more_at n u ts t true e r = rw e (ap (λ l. record { start = u.byte_range.start; number = n } ∷ l) r)
more_at n u ts t false e r = rw e r

pub places_more : (n : ℕ) (ts : List QueuedTerm) (t : QueuedTerm) → places_of n (ts ++ t ∷ []) ≡ places_of n ts ++ places_of (n + length ts) (t ∷ [])
places_more n [] t = let z : n ≡ n + 0 = omega arith in ap (λ k. places_of k (t ∷ [])) z
places_more n (u ∷ ts) t =
    let z : n + 1 + length ts ≡ n + suc (length ts) = omega arith in
    more_at n u ts t (is_none u.bytes) refl (places_more (n + 1) ts t) ∙ ap (λ k. places_of n (u ∷ ts) ++ places_of k (t ∷ [])) z

-- a term has its bytes
supplied_place_at : (start n : ℕ) (bytes : List ℕ) (t : QueuedTerm) (ts : List QueuedTerm) (b c : Bool) → is_none t.bytes ≡ b → (t.byte_range.start == start) ≡ c → places_of (n + 1) (supplied start bytes ts) ≡ without_first start_of start (places_of (n + 1) ts) → places_of n (supplied start bytes (t ∷ ts)) ≡ without_first start_of start (places_of n (t ∷ ts))
supplied_place_at start n bytes t ts true true eb ec r = rw (eb, ec) refl
supplied_place_at start n bytes t ts true false eb ec r = rw (eb, ec, eb) (ap (λ l. record { start = t.byte_range.start; number = n } ∷ l) r)
supplied_place_at start n bytes t ts false c eb ec r = rw (eb, eb) r

pub places_supplied : (start n : ℕ) (bytes : List ℕ) (ts : List QueuedTerm) → places_of n (supplied start bytes ts) ≡ without_first start_of start (places_of n ts)
places_supplied start n bytes [] = refl
places_supplied start n bytes (t ∷ ts) = supplied_place_at start n bytes t ts (is_none t.bytes) (t.byte_range.start == start) refl refl (places_supplied start (n + 1) bytes ts)

-- the front term, which has its bytes, leaves
pub places_next : (n : ℕ) (ts us : List QueuedTerm) (t : QueuedTerm) (bytes : List ℕ) → ts ≡ t ∷ us → t.bytes ≡ Some bytes → places_of (n + 1) us ≡ places_of n ts
places_next n ts us t bytes e f =
    let z : places_of n (t ∷ us) ≡ places_of (n + 1) us = rw f refl in
    sym z ∙ ap (λ l. places_of n l) (sym e)

-- ---- the end

abbrev pub end_fault : Option WantedPlace → Option WriterFault
end_fault None = None
end_fault (Some p) = Some (fault.StillWanted p.start)

end_at : (n : ℕ) (t : QueuedTerm) (ts : List QueuedTerm) (b : Bool) → is_none t.bytes ≡ b → end_fault (slice_get (places_of (n + 1) ts) 0) ≡ finish_fault (wanted ts) → end_fault (slice_get (places_of n (t ∷ ts)) 0) ≡ finish_fault (wanted (t ∷ ts))
end_at n t ts true e r = rw e refl
end_at n t ts false e r = rw e r

pub places_end : (n : ℕ) (ts : List QueuedTerm) → end_fault (slice_get (places_of n ts) 0) ≡ finish_fault (wanted ts)
places_end n [] = refl
places_end n (t ∷ ts) = end_at n t ts (is_none t.bytes) refl (places_end (n + 1) ts)

-- ---- numbers are not below that of the first term

above_at : (start n : ℕ) (t : QueuedTerm) (ts : List QueuedTerm) (p : WantedPlace) (b c : Bool) → is_none t.bytes ≡ b → (t.byte_range.start == start) ≡ c
    → first_with start_of start (places_of n (t ∷ ts)) ≡ Some p → (first_with start_of start (places_of (n + 1) ts) ≡ Some p → n + 1 ≤ p.number) → n ≤ p.number
above_at start n t ts p true true eb ec e r =
    let f : ◌≡◌ {A = Option WantedPlace} (Some (record { start = t.byte_range.start; number = n })) (Some p) = rw (eb, ec) at e in
    let z : n ≡ p.number = cc in
    omega arith
above_at start n t ts p true false eb ec e r = let z = r (rw (eb, ec) at e) in omega arith
above_at start n t ts p false c eb ec e r = let z = r (rw eb at e) in omega arith

pub place_above : (start n : ℕ) (ts : List QueuedTerm) (p : WantedPlace) → first_with start_of start (places_of n ts) ≡ Some p → n ≤ p.number
place_above start n [] p e = absurd (cc)
place_above start n (t ∷ ts) p e = above_at start n t ts p (is_none t.bytes) (t.byte_range.start == start) refl refl e (λ f. place_above start (n + 1) ts p f)
