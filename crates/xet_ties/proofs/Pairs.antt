-- No block of a plan is served twice, by all connections together.
use Rattle.std.proofs.Common.{◌≡◌, ℕ, ◌+◌, ◌≤◌, ◌==◌, ◌&&◌, Bool, true, false, cond, List, [], ◌∷◌, ◌++◌, length, refl, sym, subst, ◌∙◌, ap, arith, append_assoc, Some, None, Option}
use Rattle.std.specs.Prelude.{All, count_by, map, option_to_list, slice_get}
use Rattle.std.specs.List.{flat_map}
use Rattle.std.proofs.lemmas.Bool.{eqb-true}
use Rattle.std.proofs.lemmas.List.{append-nil}
use Rattle.std.proofs.lemmas.List.Elements.{All-append, All-cons, All-head, All-nil, All-tail, All-weaker}
use Rattle.xet_base.specs.Lists.{first_some}
use Rattle.xet_outside.specs.declared.served.Served.{Served}
use Rattle.xet_outside.specs.Told.{ClientTold}
use Rattle.xet_outside.proofs.CallerLemmas.{count_by-cons}
use Rattle.xet_events.specs.declared.event.Event.{Event}
use Rattle.xet_events.specs.declared.event.Event.TheVariants.{Planned, Admit, Fetched, Cached, Expired, Refreshed, Wrote, Fail, Cancel}
use Rattle.xet_events.specs.declared.event.PlannedBlock.{PlannedBlock}
use Rattle.xet_ties.specs.History.{block_at, blocks_in, entry_of, fetches, served_by, served_in, telling}
use Rattle.xet_ties.specs.InCall.{EachExchange, Exchange, served_of_all, Place}
use Rattle.xet_ties.specs.LegalWords.{ServedOnce}
use Rattle.xet_ties.specs.Saids.{EntryPassed, EventPassed, HasPassed}
use Rattle.xet_ties.specs.Setup.{Setup}
use Rattle.xet_ties.specs.Ties.{EachServed, IsPlannedEntry, IsServed, all_of, is_pair}
use Rattle.xet_ties.proofs.Telling.{block_at-push, count-append}

-- ---- one event

-- a block of a plan is one at most
block_count : (es : List Event) (a c p k : ℕ) → count_by (is_pair p k) (map (entry_of a c) (block_at es a c)) ≤ cond (a == p && c == k) 1 0
block_count es a c p k = by (first_some (map (blocks_in a) es))
  where
    one : (o : Option PlannedBlock) → count_by (is_pair p k) (map (entry_of a c) (option_to_list o ++ [])) ≤ cond (a == p && c == k) 1 0
    one None = omega arith
    one (Some x) = let n = count_by-cons (is_pair p k) (entry_of a c x) [] in omega (arith, n)

    by : (o : Option (List PlannedBlock)) → count_by (is_pair p k) (map (entry_of a c) (flat_map (λ (bs : List PlannedBlock). option_to_list (slice_get bs c)) (option_to_list o))) ≤ cond (a == p && c == k) 1 0
    by None = omega arith
    by (Some bs) = one (slice_get bs c)

-- how often the lanes from a number on, as many as connections, name a pair
abbrev in_event : ℕ → ℕ → List Event → Event → ℕ → List ClientTold → ℕ
in_event p k before e l [] = 0
in_event p k before e l (b ∷ bs) = count_by (is_pair p k) (served_in l before e) + in_event p k before e (l + 1) bs

-- past the event's lane
in_past : (p k : ℕ) (before : List Event) (m a c l : ℕ) (bs : List ClientTold) → m + 1 ≤ l → in_event p k before (Fetched m a c) l bs ≡ 0
in_past p k before m a c l [] h = refl
in_past p k before m a c l (b ∷ bs) h =
    let r = in_past p k before m a c (l + 1) bs (omega (arith, h)) in
    let z : count_by (is_pair p k) (served_in l before (Fetched m a c)) ≡ 0 = by (m == l) refl in
    omega (arith, r, z)
  where
    by : (v : Bool) → (m == l) ≡ v → count_by (is_pair p k) (cond (m == l) (map (entry_of a c) (block_at before a c)) []) ≡ 0
    by false e = ap (λ (v : Bool). count_by (is_pair p k) (cond v (map (entry_of a c) (block_at before a c)) [])) e
    by true e = let w = eqb-true m l e in absurd (omega (arith, h, w))

in_most : (p k : ℕ) (before : List Event) (m a c l : ℕ) (bs : List ClientTold) → in_event p k before (Fetched m a c) l bs ≤ cond (a == p && c == k) 1 0
in_most p k before m a c l [] = least (a == p && c == k)
  where
    least : (v : Bool) → 0 ≤ cond {A = ℕ} v 1 0
    least v = omega arith
in_most p k before m a c l (b ∷ bs) = by (m == l) refl (in_most p k before m a c (l + 1) bs)
  where
    by : (v : Bool) → (m == l) ≡ v → in_event p k before (Fetched m a c) (l + 1) bs ≤ cond (a == p && c == k) 1 0 → count_by (is_pair p k) (cond (m == l) (map (entry_of a c) (block_at before a c)) []) + in_event p k before (Fetched m a c) (l + 1) bs ≤ cond (a == p && c == k) 1 0
    by false e r =
        let z : count_by (is_pair p k) (cond (m == l) (map (entry_of a c) (block_at before a c)) []) ≡ 0 = ap (λ (v : Bool). count_by (is_pair p k) (cond v (map (entry_of a c) (block_at before a c)) [])) e in
        omega (arith, z, r)
    by true e q =
        let z : count_by (is_pair p k) (cond (m == l) (map (entry_of a c) (block_at before a c)) []) ≡ count_by (is_pair p k) (map (entry_of a c) (block_at before a c)) = ap (λ (v : Bool). count_by (is_pair p k) (cond v (map (entry_of a c) (block_at before a c)) [])) e in
        let w = eqb-true m l e in
        let r = in_past p k before m a c (l + 1) bs (omega (arith, w)) in
        let one = block_count before a c p k in
        omega (arith, z, r, one)

in_none : (p k : ℕ) (before : List Event) (e : Event) (l : ℕ) (bs : List ClientTold) → ((i : ℕ) → served_in i before e ≡ []) → in_event p k before e l bs ≡ 0
in_none p k before e l [] h = refl
in_none p k before e l (b ∷ bs) h = let r = in_none p k before e (l + 1) bs h in let z = ap (λ (s : List Served). count_by (is_pair p k) s) (h l) in omega (arith, r, z)

in_fetches : (p k : ℕ) (before : List Event) (e : Event) (l : ℕ) (bs : List ClientTold) → in_event p k before e l bs ≤ cond (fetches p k e) 1 0
in_fetches p k before (Fetched m a c) l bs = in_most p k before m a c l bs
in_fetches p k before (Planned plan query terms blocks) l bs = let z = in_none p k before (Planned plan query terms blocks) l bs (λ i. refl) in omega (arith, z)
in_fetches p k before (Admit limit) l bs = let z = in_none p k before (Admit limit) l bs (λ i. refl) in omega (arith, z)
in_fetches p k before (Cached plan block) l bs = let z = in_none p k before (Cached plan block) l bs (λ i. refl) in omega (arith, z)
in_fetches p k before (Expired lane plan block) l bs = let z = in_none p k before (Expired lane plan block) l bs (λ i. refl) in omega (arith, z)
in_fetches p k before (Refreshed plan) l bs = let z = in_none p k before (Refreshed plan) l bs (λ i. refl) in omega (arith, z)
in_fetches p k before (Wrote taken) l bs = let z = in_none p k before (Wrote taken) l bs (λ i. refl) in omega (arith, z)
in_fetches p k before (Fail error) l bs = let z = in_none p k before (Fail error) l bs (λ i. refl) in omega (arith, z)
in_fetches p k before Cancel l bs = let z = in_none p k before Cancel l bs (λ i. refl) in omega (arith, z)

-- ---- all events

abbrev in_events : ℕ → ℕ → List Event → List Event → ℕ → List ClientTold → ℕ
in_events p k before es l [] = 0
in_events p k before es l (b ∷ bs) = count_by (is_pair p k) (telling (served_in l) before es) + in_events p k before es (l + 1) bs

none_more : (p k : ℕ) (before : List Event) (l : ℕ) (bs : List ClientTold) → in_events p k before [] l bs ≡ 0
none_more p k before l [] = refl
none_more p k before l (b ∷ bs) = let r = none_more p k before (l + 1) bs in omega (arith, r)

split_event : (p k : ℕ) (before : List Event) (e : Event) (es : List Event) (l : ℕ) (bs : List ClientTold) → in_events p k before (e ∷ es) l bs ≡ in_event p k before e l bs + in_events p k (before ++ e ∷ []) es l bs
split_event p k before e es l [] = refl
split_event p k before e es l (b ∷ bs) =
    let r = split_event p k before e es (l + 1) bs in
    let c = count-append (is_pair p k) (served_in l before e) (telling (served_in l) (before ++ e ∷ []) es) in
    omega (arith, r, c)

pub lanes_most : (p k : ℕ) (before es : List Event) (l : ℕ) (bs : List ClientTold) → in_events p k before es l bs ≤ count_by (fetches p k) es
lanes_most p k before [] l bs = let z = none_more p k before l bs in omega (arith, z)
lanes_most p k before (e ∷ es) l bs =
    let s = split_event p k before e es l bs in
    let one = in_fetches p k before e l bs in
    let r = lanes_most p k (before ++ e ∷ []) es l bs in
    let c = count_by-cons (fetches p k) e es in
    omega (arith, s, one, r, c)

-- ---- all that was served

pub heard_count : (p k : ℕ) (es : List Event) (l : ℕ) (bs ns : List ClientTold) (xs : List Exchange) (hs : List (List Served)) → EachExchange bs ns xs → EachServed es l xs hs
    → count_by (is_pair p k) (served_of_all xs) ≡ in_events p k [] es l bs + count_by (is_pair p k) (all_of hs)
heard_count p k es l [] [] [] [] e t = refl
heard_count p k es l [] [] [] (h ∷ hs) e t = absurd t
heard_count p k es l [] [] (x ∷ xs) hs e t = absurd e
heard_count p k es l [] (n ∷ ns) xs hs e t = absurd e
heard_count p k es l (b ∷ bs) [] xs hs e t = absurd e
heard_count p k es l (b ∷ bs) (n ∷ ns) [] hs e t = absurd e
heard_count p k es l (b ∷ bs) (n ∷ ns) (x ∷ xs) [] e t = absurd t
heard_count p k es l (b ∷ bs) (n ∷ ns) (x ∷ xs) (h ∷ hs) e t =
    let r = heard_count p k es (l + 1) bs ns xs hs e.1 t.1 in
    let a = count-append (is_pair p k) x.served (served_of_all xs) in
    let s = ap (λ (z : List Served). count_by (is_pair p k) z) t.0 in
    let c = count-append (is_pair p k) (served_by l es) h in
    let d = count-append (is_pair p k) h (all_of hs) in
    omega (arith, r, a, s, c, d)

-- no event fetches a block that another one fetched
pub fetched_once : (es : List Event) (hs : List (List Served)) (ks : List (List Place)) (bs ns : List ClientTold) → IsServed es hs ks bs ns → (p k : ℕ) → count_by (fetches p k) es ≤ 1
fetched_once es hs ks bs ns s p k = let o = s.once p k in omega (arith, o)

-- so none is served twice
pub served_once : (es : List Event) (bs ns : List ClientTold) (xs : List Exchange) (hs : List (List Served)) (ks : List (List Place)) → EachExchange bs ns xs → EachServed es 0 xs hs → IsServed es hs ks bs ns → ServedOnce (served_of_all xs)
served_once es bs ns xs hs ks e t s p k =
    let a = heard_count p k es 0 bs ns xs hs e t in
    let m = lanes_most p k [] es 0 bs in
    let o = s.once p k in
    omega (arith, a, m, o)

-- ---- entries of planned blocks

entry_planned : (es : List Event) (a c : ℕ) (bs : List PlannedBlock) → bs ≡ block_at es a c → All (IsPlannedEntry es) (map (entry_of a c) bs)
entry_planned es a c [] h = All-nil (IsPlannedEntry es)
entry_planned es a c (x ∷ []) h = All-cons (IsPlannedEntry es) (entry_of a c x) [] (x, sym h, refl) (All-nil (IsPlannedEntry es))
entry_planned es a c (x ∷ y ∷ bs) h = absurd (by (first_some (map (blocks_in a) es)) refl)
  where
    of : Option (List PlannedBlock) → List PlannedBlock
    of o = flat_map (λ (l : List PlannedBlock). option_to_list (slice_get l c)) (option_to_list o)

    one : (o : Option PlannedBlock) → x ∷ y ∷ bs ≡ option_to_list o ++ [] → ⊥
    one None e = cc
    one (Some z) e = let n = ap (λ (l : List PlannedBlock). length l) e in omega (arith, n)

    by : (o : Option (List PlannedBlock)) → first_some (map (blocks_in a) es) ≡ o → ⊥
    by None e = let z : x ∷ y ∷ bs ≡ [] = h ∙ ap of e in cc
    by (Some l) e = one (slice_get l c) (h ∙ ap of e)

stays : (es : List Event) (e : Event) (xs : List Served) → All (IsPlannedEntry es) xs → All (IsPlannedEntry (es ++ e ∷ [])) xs
stays es e xs a = All-weaker (IsPlannedEntry es) (IsPlannedEntry (es ++ e ∷ [])) (λ x h. (h.0, block_at-push es e x.plan x.index h.0 h.1, h.2)) xs a

stays_all : (es fs : List Event) (xs : List Served) → All (IsPlannedEntry es) xs → All (IsPlannedEntry (es ++ fs)) xs
stays_all es [] xs a = subst (λ (l : List Event). All (IsPlannedEntry l) xs) (sym (append-nil es)) a
stays_all es (f ∷ fs) xs a = subst (λ (l : List Event). All (IsPlannedEntry l) xs) (append_assoc es (f ∷ []) fs) (stays_all (es ++ f ∷ []) fs xs (stays es f xs a))

in_planned : (lane : ℕ) (before : List Event) (e : Event) → All (IsPlannedEntry before) (served_in lane before e)
in_planned lane before (Fetched m a c) = by (m == lane)
  where
    by : (v : Bool) → All (IsPlannedEntry before) (cond v (map (entry_of a c) (block_at before a c)) [])
    by true = entry_planned before a c (block_at before a c) refl
    by false = All-nil (IsPlannedEntry before)
in_planned lane before (Planned plan query terms blocks) = All-nil (IsPlannedEntry before)
in_planned lane before (Admit limit) = All-nil (IsPlannedEntry before)
in_planned lane before (Cached plan block) = All-nil (IsPlannedEntry before)
in_planned lane before (Expired m plan block) = All-nil (IsPlannedEntry before)
in_planned lane before (Refreshed plan) = All-nil (IsPlannedEntry before)
in_planned lane before (Wrote taken) = All-nil (IsPlannedEntry before)
in_planned lane before (Fail error) = All-nil (IsPlannedEntry before)
in_planned lane before Cancel = All-nil (IsPlannedEntry before)

from_planned : (lane : ℕ) (before es : List Event) → All (IsPlannedEntry (before ++ es)) (telling (served_in lane) before es)
from_planned lane before [] = All-nil (IsPlannedEntry (before ++ []))
from_planned lane before (e ∷ es) =
    All-append (IsPlannedEntry (before ++ e ∷ es)) (served_in lane before e) (telling (served_in lane) (before ++ e ∷ []) es)
    (stays_all before (e ∷ es) (served_in lane before e) (in_planned lane before e))
    (subst (λ (l : List Event). All (IsPlannedEntry l) (telling (served_in lane) (before ++ e ∷ []) es)) (append_assoc before (e ∷ []) es) (from_planned lane (before ++ e ∷ []) es))

-- each entry of a Fetched event is that of a planned block
pub served_planned : (lane : ℕ) (es : List Event) → All (IsPlannedEntry es) (served_by lane es)
served_planned lane es = from_planned lane [] es

-- each entry of a Fetched event is of a block that has passed
passed_all : (g : Setup) (xs : List Exchange) (p k : ℕ) (bs : List PlannedBlock) → HasPassed g xs p k → All (EntryPassed g xs) (map (entry_of p k) bs)
passed_all g xs p k [] h = All-nil (EntryPassed g xs)
passed_all g xs p k (b ∷ bs) h = All-cons (EntryPassed g xs) (entry_of p k b) (map (entry_of p k) bs) h (passed_all g xs p k bs h)

passed_event : (g : Setup) (xs : List Exchange) (lane : ℕ) (before : List Event) (e : Event) → EventPassed g xs e → All (EntryPassed g xs) (served_in lane before e)
passed_event g xs lane before (Fetched l p k) h = by (l == lane)
  where
    by : (v : Bool) → All (EntryPassed g xs) (cond v (map (entry_of p k) (block_at before p k)) [])
    by true = passed_all g xs p k (block_at before p k) h
    by false = All-nil (EntryPassed g xs)
passed_event g xs lane before (Planned plan query terms blocks) h = All-nil (EntryPassed g xs)
passed_event g xs lane before (Admit limit) h = All-nil (EntryPassed g xs)
passed_event g xs lane before (Cached plan block) h = All-nil (EntryPassed g xs)
passed_event g xs lane before (Expired l plan block) h = All-nil (EntryPassed g xs)
passed_event g xs lane before (Refreshed plan) h = All-nil (EntryPassed g xs)
passed_event g xs lane before (Wrote taken) h = All-nil (EntryPassed g xs)
passed_event g xs lane before (Fail error) h = All-nil (EntryPassed g xs)
passed_event g xs lane before Cancel h = All-nil (EntryPassed g xs)

pub served_passed : (g : Setup) (xs : List Exchange) (lane : ℕ) (before es : List Event) → All (EventPassed g xs) es → All (EntryPassed g xs) (telling (served_in lane) before es)
served_passed g xs lane before [] a = All-nil (EntryPassed g xs)
served_passed g xs lane before (e ∷ es) a =
    All-append (EntryPassed g xs) (served_in lane before e) (telling (served_in lane) (before ++ e ∷ []) es)
    (passed_event g xs lane before e (All-head (EventPassed g xs) e es a)) (served_passed g xs lane (before ++ e ∷ []) es (All-tail (EventPassed g xs) e es a))
