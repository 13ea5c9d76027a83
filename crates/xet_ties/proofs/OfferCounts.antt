-- How many blocks of a kind were served, by all connections together.
use Rattle.std.proofs.Common.{◌≡◌, ℕ, ◌+◌, ◌<◌, ◌≤◌, ◌==◌, Bool, true, false, cond, List, [], ◌∷◌, ◌++◌, length, refl, ◌∙◌, ap, arith}
use Rattle.std.specs.Prelude.{All, count_by, map}
use Rattle.std.proofs.lemmas.Bool.{eqb-false, eqb-true}
use Rattle.std.proofs.lemmas.List.Elements.{All-head, All-tail}
use Rattle.xet_outside.specs.declared.served.Served.{Served}
use Rattle.xet_outside.specs.Told.{ClientTold}
use Rattle.xet_outside.proofs.CallerLemmas.{count_by-cons}
use Rattle.xet_events.specs.declared.event.Event.{Event}
use Rattle.xet_events.specs.declared.event.Event.TheVariants.{Planned, Admit, Fetched, Cached, Expired, Refreshed, Wrote, Fail, Cancel}
use Rattle.xet_events.specs.declared.event.PlannedBlock.{PlannedBlock}
use Rattle.xet_ties.specs.History.{IsOnLane, block_at, entry_of, fetched_in, served_by, served_in, telling}
use Rattle.xet_ties.specs.InCall.{EachExchange, Exchange, served_of_all}
use Rattle.xet_ties.specs.Ties.{EachServed, all_of}
use Rattle.xet_ties.proofs.Telling.{count-append}

-- a kind of served entries, and the planned blocks that they are of
module _ (P : Served → Bool) (Q : PlannedBlock → Bool)
    (same : (a c : ℕ) (b : PlannedBlock) → P (entry_of a c b) ≡ Q b) where
  -- ---- one event

  entries_count : (a c : ℕ) (bs : List PlannedBlock) → count_by P (map (entry_of a c) bs) ≡ count_by Q bs
  entries_count a c [] = refl
  entries_count a c (b ∷ bs) =
      let r = entries_count a c bs in
      let x = count_by-cons P (entry_of a c b) (map (entry_of a c) bs) in
      let y = count_by-cons Q b bs in
      let each = ap {B = ℕ} (λ (v : Bool). cond v 1 0) (same a c b) in
      omega (arith, r, x, y, each)

  -- what the lanes from a number on, as many as connections, served by it
  abbrev in_event : List Event → Event → ℕ → List ClientTold → ℕ
  in_event before e l [] = 0
  in_event before e l (b ∷ bs) = count_by P (served_in l before e) + in_event before e (l + 1) bs

  -- a lane that isn't the event's
  other_lane : (before : List Event) (m a c l : ℕ) → (m == l) ≡ false
      → count_by P (served_in l before (Fetched m a c)) ≡ 0
  other_lane before m a c l e =
      ap (λ (v : Bool). count_by P (cond v (map (entry_of a c) (block_at before a c)) [])) e

  own_lane : (before : List Event) (m a c l : ℕ) → (m == l) ≡ true
      → count_by P (served_in l before (Fetched m a c)) ≡ count_by Q (block_at before a c)
  own_lane before m a c l e =
      ap (λ (v : Bool). count_by P (cond v (map (entry_of a c) (block_at before a c)) [])) e
      ∙ entries_count a c (block_at before a c)

  in_past : (before : List Event) (m a c l : ℕ) (bs : List ClientTold) → m < l → in_event before (Fetched m a c) l bs ≡ 0
  in_past before m a c l [] h = refl
  in_past before m a c l (b ∷ bs) h =
      let r = in_past before m a c (l + 1) bs (omega (arith, h)) in
      let z = other_lane before m a c l (by (m == l) refl) in
      omega (arith, r, z)
    where
      by : (v : Bool) → (m == l) ≡ v → (m == l) ≡ false
      by false e = e
      by true e = let w = eqb-true m l e in absurd (omega (arith, h, w))

  in_own : (before : List Event) (m a c l : ℕ) (bs : List ClientTold) → l ≤ m → m < l + length bs
      → in_event before (Fetched m a c) l bs ≡ count_by Q (block_at before a c)
  in_own before m a c l [] from to = absurd (omega (arith, from, to))
  in_own before m a c l (b ∷ bs) from to =
      by (m == l) refl (λ f. in_own before m a c (l + 1) bs f (omega (arith, to)))
    where
      by : (v : Bool) → (m == l) ≡ v
          → (l + 1 ≤ m → in_event before (Fetched m a c) (l + 1) bs ≡ count_by Q (block_at before a c))
          → in_event before (Fetched m a c) l (b ∷ bs) ≡ count_by Q (block_at before a c)
      by true e more =
          let here = own_lane before m a c l e in
          let w = eqb-true m l e in
          let none = in_past before m a c (l + 1) bs (omega (arith, w)) in
          omega (arith, here, none)
      by false e more =
          let w = eqb-false m l e in
          let none = other_lane before m a c l e in
          let rest = more (omega (arith, w, from)) in
          omega (arith, none, rest)

  in_none : (before : List Event) (e : Event) (l : ℕ) (bs : List ClientTold) → ((i : ℕ) → served_in i before e ≡ [])
      → in_event before e l bs ≡ 0
  in_none before e l [] h = refl
  in_none before e l (b ∷ bs) h =
      let r = in_none before e (l + 1) bs h in
      let z = ap (λ (s : List Served). count_by P s) (h l) in
      omega (arith, r, z)

  in_lanes : (before : List Event) (e : Event) (bs : List ClientTold) → IsOnLane (length bs) e
      → in_event before e 0 bs ≡ count_by Q (fetched_in before e)
  in_lanes before (Fetched m a c) bs h = in_own before m a c 0 bs (omega arith) (omega (arith, h))
  in_lanes before (Planned plan query terms blocks) bs h =
      in_none before (Planned plan query terms blocks) 0 bs (λ i. refl)
  in_lanes before (Admit limit) bs h = in_none before (Admit limit) 0 bs (λ i. refl)
  in_lanes before (Cached plan block) bs h = in_none before (Cached plan block) 0 bs (λ i. refl)
  in_lanes before (Expired lane plan block) bs h = in_none before (Expired lane plan block) 0 bs (λ i. refl)
  in_lanes before (Refreshed plan) bs h = in_none before (Refreshed plan) 0 bs (λ i. refl)
  in_lanes before (Wrote taken) bs h = in_none before (Wrote taken) 0 bs (λ i. refl)
  in_lanes before (Fail error) bs h = in_none before (Fail error) 0 bs (λ i. refl)
  in_lanes before Cancel bs h = in_none before Cancel 0 bs (λ i. refl)

  -- ---- all events

  abbrev in_events : List Event → List Event → ℕ → List ClientTold → ℕ
  in_events before es l [] = 0
  in_events before es l (b ∷ bs) =
      count_by P (telling (served_in l) before es) + in_events before es (l + 1) bs

  none_more : (before : List Event) (l : ℕ) (bs : List ClientTold) → in_events before [] l bs ≡ 0
  none_more before l [] = refl
  none_more before l (b ∷ bs) = let r = none_more before (l + 1) bs in omega (arith, r)

  split_event : (before : List Event) (e : Event) (es : List Event) (l : ℕ) (bs : List ClientTold)
      → in_events before (e ∷ es) l bs ≡ in_event before e l bs + in_events (before ++ e ∷ []) es l bs
  split_event before e es l [] = refl
  split_event before e es l (b ∷ bs) =
      let r = split_event before e es (l + 1) bs in
      let c = count-append P (served_in l before e) (telling (served_in l) (before ++ e ∷ []) es) in
      omega (arith, r, c)

  all_lanes : (before es : List Event) (bs : List ClientTold) → All (IsOnLane (length bs)) es
      → in_events before es 0 bs ≡ count_by Q (telling fetched_in before es)
  all_lanes before [] bs h = none_more before 0 bs
  all_lanes before (e ∷ es) bs h =
      let s = split_event before e es 0 bs in
      let one = in_lanes before e bs (All-head (IsOnLane (length bs)) e es h) in
      let r = all_lanes (before ++ e ∷ []) es bs (All-tail (IsOnLane (length bs)) e es h) in
      let c = count-append Q (fetched_in before e) (telling fetched_in (before ++ e ∷ []) es) in
      omega (arith, s, one, r, c)

  -- ---- all that was served

  heard_count : (es : List Event) (l : ℕ) (bs ns : List ClientTold) (xs : List Exchange) (hs : List (List Served))
      → EachExchange bs ns xs → EachServed es l xs hs
      → count_by P (served_of_all xs) ≡ in_events [] es l bs + count_by P (all_of hs)
  heard_count es l [] [] [] [] e t = refl
  heard_count es l [] [] [] (h ∷ hs) e t = absurd t
  heard_count es l [] [] (x ∷ xs) hs e t = absurd e
  heard_count es l [] (n ∷ ns) xs hs e t = absurd e
  heard_count es l (b ∷ bs) [] xs hs e t = absurd e
  heard_count es l (b ∷ bs) (n ∷ ns) [] hs e t = absurd e
  heard_count es l (b ∷ bs) (n ∷ ns) (x ∷ xs) [] e t = absurd t
  heard_count es l (b ∷ bs) (n ∷ ns) (x ∷ xs) (h ∷ hs) e t =
      let r = heard_count es (l + 1) bs ns xs hs e.1 t.1 in
      let a = count-append P x.served (served_of_all xs) in
      let s = ap (λ (z : List Served). count_by P z) t.0 in
      let c = count-append P (served_by l es) h in
      let d = count-append P h (all_of hs) in
      omega (arith, r, a, s, c, d)

  -- the fetched ones and the hidden ones
  pub served_counted : (es : List Event) (bs ns : List ClientTold) (xs : List Exchange) (hs : List (List Served))
      → EachExchange bs ns xs → EachServed es 0 xs hs → All (IsOnLane (length bs)) es
      → count_by P (served_of_all xs)
      ≡ count_by Q (telling fetched_in [] es) + count_by P (all_of hs)
  served_counted es bs ns xs hs e t on =
      let a = heard_count es 0 bs ns xs hs e t in
      let m = all_lanes [] es bs on in
      omega (arith, a, m)
