-- The Expired events of a block are expired answers of the connections together.
use Rattle.std.proofs.Common.{◌≡◌, ℕ, ◌+◌, ◌<◌, ◌≤◌, ◌==◌, ◌&&◌, Bool, true, false, cond, List, [], ◌∷◌, length, length-append, refl, sym, subst, ◌∙◌, ap, arith, ◌⊎◌, inl, inr}
use Rattle.std.specs.Prelude.{All, count_by, map, min, ◌^◌, ◌-◌}
use Rattle.std.proofs.lemmas.Bool.{eq-eqb, eqb-true, ne_eqb}
use Rattle.std.proofs.lemmas.List.Elements.{All-head, All-tail}
use Rattle.xet_outside.specs.Answers.{late_in}
use Rattle.xet_outside.specs.declared.said.Said.{Said}
use Rattle.xet_outside.specs.declared.said.Said.TheVariants as said
use Rattle.xet_outside.specs.declared.served.Served.{Served}
use Rattle.xet_outside.specs.Told.{ClientTold}
use Rattle.xet_outside.proofs.CallerLemmas.{count_by-cons}
use Rattle.xet_events.specs.declared.event.Event.{Event}
use Rattle.xet_events.specs.declared.event.Event.TheVariants.{Planned, Admit, Fetched, Cached, Expired, Refreshed, Wrote, Fail, Cancel}
use Rattle.xet_events.specs.Events.{expires}
use Rattle.xet_ties.specs.Moves.{no_exchange}
use Rattle.xet_ties.specs.LegalWords.{EachCounted}
use Rattle.xet_ties.specs.Causes.{HaveExpired, NoneAtEnd, expired_answers, late_answers, total_expiries}
use Rattle.xet_ties.specs.History.{IsOnLane, expired_by, expires_on, is_expiry, late_by, late_on}
use Rattle.xet_ties.specs.Setup.{RunTold, Setup}
use Rattle.xet_ties.specs.InCall.{EachExchange, Exchange, Place, expired_said, late_places, place_of}
use Rattle.xet_ties.specs.Ties.{all_late, at_place, EachExpired, EachLane, NoneLate, Slack, Stop, Ties, is_pair}
use Rattle.xet_ties.proofs.Telling.{count-append}

-- the Expired events of the lanes from a number on, as many as connections
abbrev on_lanes : ℕ → List Event → List ClientTold → ℕ
on_lanes l es [] = 0
on_lanes l es (b ∷ bs) = expired_by l es + on_lanes (l + 1) es bs

-- those that one event adds
abbrev by_event : ℕ → Event → List ClientTold → ℕ
by_event l e [] = 0
by_event l e (b ∷ bs) = cond (expires_on l e) 1 0 + by_event (l + 1) e bs

split_event : (l : ℕ) (e : Event) (es : List Event) (bs : List ClientTold) → on_lanes l (e ∷ es) bs ≡ by_event l e bs + on_lanes l es bs
split_event l e es [] = refl
split_event l e es (b ∷ bs) = let r = split_event (l + 1) e es bs in let c = count_by-cons (expires_on l) e es in omega (arith, r, c)

one_lane : (l m p k : ℕ) (bs : List ClientTold) → l ≤ m → m < l + length bs → 1 ≤ by_event l (Expired m p k) bs
one_lane l m p k [] low h = absurd (omega (arith, low, h))
one_lane l m p k (b ∷ bs) low h = by (m == l) refl (λ less more. one_lane (l + 1) m p k bs less more)
  where
    by : (v : Bool) → (m == l) ≡ v → (l + 1 ≤ m → m < (l + 1) + length bs → 1 ≤ by_event (l + 1) (Expired m p k) bs) → 1 ≤ cond (m == l) 1 0 + by_event (l + 1) (Expired m p k) bs
    by true e next = let z = ap {B = ℕ} (λ (v : Bool). cond v 1 0) e in omega (arith, z)
    by false e next = let r = next (apart e) (omega (arith, h)) in omega (arith, r)
      where
        apart : (m == l) ≡ false → l + 1 ≤ m
        apart z = go (cases_eq m l)
          where
            cases_eq : (i j : ℕ) → (i ≡ j) ⊎ ((i ≡ j) → ⊥)
            cases_eq i j = pick (i == j) refl
              where
                pick : (v : Bool) → (i == j) ≡ v → (i ≡ j) ⊎ ((i ≡ j) → ⊥)
                pick true w = inl (eqb-true i j w)
                pick false w = inr (λ s. let y = eq-eqb i j s in cc)

            go : (m ≡ l) ⊎ ((m ≡ l) → ⊥) → l + 1 ≤ m
            go (inl s) = let y = eq-eqb m l s in absurd (cc)
            go (inr d) = omega (arith, low, d)

expires_event : (l p k : ℕ) (e : Event) (bs : List ClientTold) → IsOnLane (l + length bs) e → ((m a c : ℕ) → e ≡ Expired m a c → l ≤ m) → cond {A = ℕ} (expires p k e) 1 0 ≤ by_event l e bs
expires_event l p k (Expired m a c) bs on low = let o = one_lane l m a c bs (low m a c refl) on in most (a == p && c == k) o
  where
    most : (v : Bool) → 1 ≤ by_event l (Expired m a c) bs → cond {A = ℕ} v 1 0 ≤ by_event l (Expired m a c) bs
    most true o = o
    most false o = omega arith
expires_event l p k (Planned plan query terms blocks) bs on low = omega arith
expires_event l p k (Admit limit) bs on low = omega arith
expires_event l p k (Fetched lane plan block) bs on low = omega arith
expires_event l p k (Cached plan block) bs on low = omega arith
expires_event l p k (Refreshed plan) bs on low = omega arith
expires_event l p k (Wrote taken) bs on low = omega arith
expires_event l p k (Fail error) bs on low = omega arith
expires_event l p k Cancel bs on low = omega arith

expiry_event : (l : ℕ) (e : Event) (bs : List ClientTold) → IsOnLane (l + length bs) e → ((m a c : ℕ) → e ≡ Expired m a c → l ≤ m) → cond {A = ℕ} (is_expiry e) 1 0 ≤ by_event l e bs
expiry_event l (Expired m a c) bs on low = one_lane l m a c bs (low m a c refl) on
expiry_event l (Planned plan query terms blocks) bs on low = omega arith
expiry_event l (Admit limit) bs on low = omega arith
expiry_event l (Fetched lane plan block) bs on low = omega arith
expiry_event l (Cached plan block) bs on low = omega arith
expiry_event l (Refreshed plan) bs on low = omega arith
expiry_event l (Wrote taken) bs on low = omega arith
expiry_event l (Fail error) bs on low = omega arith
expiry_event l Cancel bs on low = omega arith

none_more : (l : ℕ) (bs : List ClientTold) → 0 ≤ on_lanes l [] bs
none_more l bs = omega arith

-- no more than the lanes' together
pub expires_most : (p k : ℕ) (es : List Event) (bs : List ClientTold) → All (IsOnLane (length bs)) es → count_by (expires p k) es ≤ on_lanes 0 es bs
expires_most p k [] bs a = none_more 0 bs
expires_most p k (e ∷ es) bs a =
    let n : length bs ≡ 0 + length bs = omega arith in
    let one = expires_event 0 p k e bs (subst (λ (i : ℕ). IsOnLane i e) n (All-head (IsOnLane (length bs)) e es a)) (λ m x c h. omega arith) in
    let r = expires_most p k es bs (All-tail (IsOnLane (length bs)) e es a) in
    let s = split_event 0 e es bs in
    let c = count_by-cons (expires p k) e es in
    omega (arith, one, r, s, c)

-- all Expired events are the lanes' together
expiry_most : (es : List Event) (bs : List ClientTold) → All (IsOnLane (length bs)) es → count_by is_expiry es ≤ on_lanes 0 es bs
expiry_most [] bs a = none_more 0 bs
expiry_most (e ∷ es) bs a =
    let n : length bs ≡ 0 + length bs = omega arith in
    let one = expiry_event 0 e bs (subst (λ (i : ℕ). IsOnLane i e) n (All-head (IsOnLane (length bs)) e es a)) (λ m x c h. omega arith) in
    let r = expiry_most es bs (All-tail (IsOnLane (length bs)) e es a) in
    let s = split_event 0 e es bs in
    let c = count_by-cons is_expiry e es in
    omega (arith, one, r, s, c)

lanes_total : (es : List Event) (l : ℕ) (bs ns : List ClientTold) (hs : List (List Served)) (ks : List (List Place)) → EachLane es l bs ns hs ks → NoneAtEnd ns → total_expiries bs + on_lanes l es bs ≤ total_expiries ns
lanes_total es l [] [] hs ks t h = omega arith
lanes_total es l [] (n ∷ ns) hs ks t h = absurd t
lanes_total es l (b ∷ bs) [] hs ks t h = absurd t
lanes_total es l (b ∷ bs) (n ∷ ns) [] ks t h = absurd t
lanes_total es l (b ∷ bs) (n ∷ ns) (x ∷ hs) [] t h = absurd t
lanes_total es l (b ∷ bs) (n ∷ ns) (x ∷ hs) (k ∷ ks) t h =
    let r = lanes_total es (l + 1) bs ns hs ks t.1 h.1 in
    let e = t.0.expired in
    let f = h.0 in
    omega (arith, r, e, f)

-- as many expired answers as requests that were answered so
count_late : (all : List Said) → count_by expired_said all ≡ length (late_places all)
count_late [] = refl
count_late (said.Plan a ∷ all) = let r = count_late all in let c = count_by-cons expired_said (said.Plan a) all in omega (arith, r, c)
count_late (said.Block b ∷ all) = let r = count_late all in let c = count_by-cons expired_said (said.Block b) all in omega (arith, r, c)
count_late (said.Expired e ∷ all) = let r = count_late all in let c = count_by-cons expired_said (said.Expired e) all in omega (arith, r, c)

late_length : (lane : ℕ) (e : Event) → length (late_on lane e) ≡ cond (expires_on lane e) 1 0
late_length lane (Expired m p k) = by (m == lane)
  where
    by : (v : Bool) → length (cond {A = List Place} v ((p, k) ∷ []) []) ≡ cond v 1 0
    by true = refl
    by false = refl
late_length lane (Planned plan query terms blocks) = refl
late_length lane (Admit limit) = refl
late_length lane (Fetched m plan block) = refl
late_length lane (Cached plan block) = refl
late_length lane (Refreshed plan) = refl
late_length lane (Wrote taken) = refl
late_length lane (Fail error) = refl
late_length lane Cancel = refl

count_by_lane : (lane : ℕ) (es : List Event) → length (late_by lane es) ≡ expired_by lane es
count_by_lane lane [] = refl
count_by_lane lane (e ∷ es) =
    let r = count_by_lane lane es in
    let l = late_length lane e in
    let a = length-append (late_on lane e) (late_by lane es) in
    let c = count_by-cons (expires_on lane) e es in
    omega (arith, r, l, a, c)

-- and of what was heard
said_total : (es : List Event) (l : ℕ) (bs ns : List ClientTold) (xs : List Exchange) (ks : List (List Place)) → EachExchange bs ns xs → EachExpired es l xs ks → on_lanes l es bs ≤ expired_answers xs
said_total es l [] [] [] ks h t = omega arith
said_total es l [] [] (x ∷ xs) ks h t = absurd h
said_total es l [] (n ∷ ns) xs ks h t = absurd h
said_total es l (b ∷ bs) [] xs ks h t = absurd h
said_total es l (b ∷ bs) (n ∷ ns) [] ks h t = absurd h
said_total es l (b ∷ bs) (n ∷ ns) (x ∷ xs) [] h t = absurd t
said_total es l (b ∷ bs) (n ∷ ns) (x ∷ xs) (k ∷ ks) h t =
    let r = said_total es (l + 1) bs ns xs ks h.1 t.1 in
    let c = count_late x.said in
    let e = ap (λ (s : List Place). length s) t.0 in
    let a = length-append (late_by l es) k in
    let n = count_by_lane l es in
    omega (arith, r, c, e, a, n)

-- no more of them were heard than the connections count
pub each_counted : (es : List Event) (l : ℕ) (bs ns : List ClientTold) (hs : List (List Served))
    (ks : List (List Place)) (xs : List Exchange) → EachLane es l bs ns hs ks → EachExpired es l xs ks
    → EachCounted bs ns xs
each_counted es l [] [] [] [] [] t h = tt
each_counted es l [] [] [] [] (x ∷ xs) t h = absurd h
each_counted es l [] [] [] (k ∷ ks) xs t h = absurd t
each_counted es l [] [] (j ∷ hs) ks xs t h = absurd t
each_counted es l [] (n ∷ ns) hs ks xs t h = absurd t
each_counted es l (b ∷ bs) [] hs ks xs t h = absurd t
each_counted es l (b ∷ bs) (n ∷ ns) [] ks xs t h = absurd t
each_counted es l (b ∷ bs) (n ∷ ns) (j ∷ hs) [] xs t h = absurd t
each_counted es l (b ∷ bs) (n ∷ ns) (j ∷ hs) (k ∷ ks) [] t h = absurd h
each_counted es l (b ∷ bs) (n ∷ ns) (j ∷ hs) (k ∷ ks) (x ∷ xs) t h =
    let c = count_late x.said in
    let e = ap (λ (s : List Place). length s) h.0 in
    let a = length-append (late_by l es) k in
    let m = count_by_lane l es in
    let same : count_by expired_said x.said ≡ expired_by l es + length k = omega (arith, c, e, a, m) in (
      subst (λ (i : ℕ). min (b.expiries + i) (2 ^ 64 - 1) ≤ n.expiries) (sym same) t.0.expired,
      each_counted es (l + 1) bs ns hs ks xs t.1 h.1,
    )

pub counted_start : (bs : List ClientTold) → EachCounted bs bs (no_exchange bs)
counted_start [] = tt
counted_start (b ∷ bs) = (omega arith, counted_start bs)

-- so all Expired events are answers that were heard
pub all_expired : (g : Setup) (b n : RunTold) (es : List Event) (stop : Stop) (sl : Slack) → Ties g b n es stop sl → count_by is_expiry es ≤ expired_answers sl.heard
all_expired g b n es stop sl t =
    let m = expiry_most es b.clients t.served.on_lanes in
    let heard = said_total es 0 b.clients n.clients sl.heard sl.late t.heard t.expired in
    omega (arith, m, heard)

-- ---- of one block

-- its Expired events, by lane, from a number on, and those that one event adds
abbrev lates_on : ℕ → ℕ → ℕ → List Event → List Exchange → ℕ
lates_on p k l es [] = 0
lates_on p k l es (x ∷ xs) = count_by (at_place p k) (late_by l es) + lates_on p k (l + 1) es xs

abbrev late_event : ℕ → ℕ → ℕ → Event → List Exchange → ℕ
late_event p k l e [] = 0
late_event p k l e (x ∷ xs) = count_by (at_place p k) (late_on l e) + late_event p k (l + 1) e xs

late_split : (p k l : ℕ) (e : Event) (es : List Event) (xs : List Exchange)
    → lates_on p k l (e ∷ es) xs ≡ late_event p k l e xs + lates_on p k l es xs
late_split p k l e es [] = refl
late_split p k l e es (x ∷ xs) =
    let r = late_split p k (l + 1) e es xs in
    let c = count-append (at_place p k) (late_on l e) (late_by l es) in
    omega (arith, r, c)

lates_none : (p k l : ℕ) (xs : List Exchange) → lates_on p k l [] xs ≡ 0
lates_none p k l [] = refl
lates_none p k l (x ∷ xs) = let r = lates_none p k (l + 1) xs in omega (arith, r)

-- how often it is that block
abbrev is_it : ℕ → ℕ → ℕ → ℕ → ℕ
is_it p k a c = cond {A = ℕ} (a == p && c == k) 1 0

one_place : (p k a c : ℕ) → count_by (at_place p k) ((a, c) ∷ []) ≡ is_it p k a c
one_place p k a c = let n = count_by-cons (at_place p k) (a, c) [] in omega (arith, n)

-- an event of a lower lane
late_past : (p k l m a c : ℕ) (xs : List Exchange) → m < l → late_event p k l (Expired m a c) xs ≡ 0
late_past p k l m a c [] h = refl
late_past p k l m a c (x ∷ xs) h =
    let r = late_past p k (l + 1) m a c xs (omega (arith, h)) in
    let n : count_by (at_place p k) (late_on l (Expired m a c)) ≡ 0 =
    ap (λ v. count_by (at_place p k) (cond {A = List Place} v ((a, c) ∷ []) [])) (ne_eqb m l (λ q. absurd (omega (arith, q, h)))) in
    omega (arith, r, n)

-- an event of one of the lanes
late_here : (p k l m a c : ℕ) (xs : List Exchange) → l ≤ m → m < l + length xs
    → late_event p k l (Expired m a c) xs ≡ is_it p k a c
late_here p k l m a c [] low h = absurd (omega (arith, low, h))
late_here p k l m a c (x ∷ xs) low h =
    by (m == l) refl (λ less more. late_here p k (l + 1) m a c xs less more)
  where
    by : (v : Bool) → (m == l) ≡ v
        → (l + 1 ≤ m → m < (l + 1) + length xs → late_event p k (l + 1) (Expired m a c) xs ≡ is_it p k a c)
        → count_by (at_place p k) (late_on l (Expired m a c)) + late_event p k (l + 1) (Expired m a c) xs ≡ is_it p k a c
    by true e next =
        let n : count_by (at_place p k) (late_on l (Expired m a c)) ≡ is_it p k a c =
        ap (λ v. count_by (at_place p k) (cond {A = List Place} v ((a, c) ∷ []) [])) e ∙ one_place p k a c in
        let same : m ≡ l = eqb-true m l e in
        let r = late_past p k (l + 1) m a c xs (omega (arith, same)) in
        omega (arith, n, r)
    by false e next =
        let n : count_by (at_place p k) (late_on l (Expired m a c)) ≡ 0 =
        ap (λ v. count_by (at_place p k) (cond {A = List Place} v ((a, c) ∷ []) [])) e in
        let apart : (m ≡ l → ⊥) = (λ s. let y = eq-eqb m l s in cc) in
        let r = next (omega (arith, low, apart)) (omega (arith, h)) in
        omega (arith, n, r)

-- one event
quiet : (p k l : ℕ) (e : Event) (xs : List Exchange) → ((lane : ℕ) → late_on lane e ≡ [])
    → late_event p k l e xs ≡ 0
quiet p k l e [] h = refl
quiet p k l e (x ∷ xs) h =
    let r = quiet p k (l + 1) e xs h in
    let n = ap (λ (s : List Place). count_by (at_place p k) s) (h l) in
    omega (arith, r, n)

late_one : (p k : ℕ) (e : Event) (xs : List Exchange) → IsOnLane (length xs) e
    → late_event p k 0 e xs ≡ cond {A = ℕ} (expires p k e) 1 0
late_one p k (Expired m a c) xs on = late_here p k 0 m a c xs (omega arith) (omega (arith, on))
late_one p k (Planned plan query terms blocks) xs on = quiet p k 0 (Planned plan query terms blocks) xs (λ l. refl)
late_one p k (Admit limit) xs on = quiet p k 0 (Admit limit) xs (λ l. refl)
late_one p k (Fetched lane plan block) xs on = quiet p k 0 (Fetched lane plan block) xs (λ l. refl)
late_one p k (Cached plan block) xs on = quiet p k 0 (Cached plan block) xs (λ l. refl)
late_one p k (Refreshed plan) xs on = quiet p k 0 (Refreshed plan) xs (λ l. refl)
late_one p k (Wrote taken) xs on = quiet p k 0 (Wrote taken) xs (λ l. refl)
late_one p k (Fail error) xs on = quiet p k 0 (Fail error) xs (λ l. refl)
late_one p k Cancel xs on = quiet p k 0 Cancel xs (λ l. refl)

-- all events
late_all : (p k : ℕ) (es : List Event) (xs : List Exchange) → All (IsOnLane (length xs)) es
    → lates_on p k 0 es xs ≡ count_by (expires p k) es
late_all p k [] xs a = lates_none p k 0 xs
late_all p k (e ∷ es) xs a =
    let one = late_one p k e xs (All-head (IsOnLane (length xs)) e es a) in
    let r = late_all p k es xs (All-tail (IsOnLane (length xs)) e es a) in
    let s = late_split p k 0 e es xs in
    let c = count_by-cons (expires p k) e es in
    omega (arith, one, r, s, c)

-- requests by their places
places_count : (p k : ℕ) (es : List Served) → count_by (at_place p k) (map place_of es) ≡ count_by (is_pair p k) es
places_count p k [] = refl
places_count p k (e ∷ es) =
    let r = places_count p k es in
    let a = count_by-cons (at_place p k) (place_of e) (map place_of es) in
    let b = count_by-cons (is_pair p k) e es in
    omega (arith, r, a, b)

-- what was heard are the Expired events, and those that no event says
late_both : (p k l : ℕ) (es : List Event) (xs : List Exchange) (ls : List (List Place)) → EachExpired es l xs ls
    → late_answers p k xs ≡ lates_on p k l es xs + count_by (at_place p k) (all_late ls)
late_both p k l es [] [] t = refl
late_both p k l es [] (c ∷ ls) t = absurd t
late_both p k l es (x ∷ xs) [] t = absurd t
late_both p k l es (x ∷ xs) (k' ∷ ls) t =
    let r = late_both p k (l + 1) es xs ls t.1 in
    let e = ap (λ (s : List Place). count_by (at_place p k) s) t.0 in
    let a = count-append (at_place p k) (late_by l es) k' in
    let b = count-append (at_place p k) k' (all_late ls) in
    let c = places_count p k (late_in x.said) in
    omega (arith, r, e, a, b, c)

none_left : (p k : ℕ) (ls : List (List Place)) → NoneLate ls → count_by (at_place p k) (all_late ls) ≡ 0
none_left p k [] none = refl
none_left p k (l ∷ ls) none =
    let r = none_left p k ls none.1 in
    let e = ap (λ (s : List Place). count_by (at_place p k) s) none.0 in
    let a = count-append (at_place p k) l (all_late ls) in
    omega (arith, r, e, a)

heard_length : (bs ns : List ClientTold) (xs : List Exchange) → EachExchange bs ns xs → length xs ≡ length bs
heard_length [] [] [] h = refl
heard_length [] [] (x ∷ xs) h = absurd h
heard_length [] (n ∷ ns) xs h = absurd h
heard_length (b ∷ bs) [] xs h = absurd h
heard_length (b ∷ bs) (n ∷ ns) [] h = absurd h
heard_length (b ∷ bs) (n ∷ ns) (x ∷ xs) h = let r = heard_length bs ns xs h.1 in omega (arith, r)

-- so the answers that were heard are its events, and those that no event says
block_late : (g : Setup) (b n : RunTold) (es : List Event) (stop : Stop) (sl : Slack) (p k : ℕ)
    → Ties g b n es stop sl
    → late_answers p k sl.heard ≡ count_by (expires p k) es + count_by (at_place p k) (all_late sl.late)
block_late g b n es stop sl p k t =
    let a = late_all p k es sl.heard (subst (λ (m : ℕ). All (IsOnLane m) es)
    (sym (heard_length b.clients n.clients sl.heard t.heard)) t.served.on_lanes) in
    let c = late_both p k 0 es sl.heard sl.late t.expired in
    omega (arith, a, c)

-- where no request is left that no event says, each block's requests were answered as expired as often as it has such
-- events
pub none_spent : (g : Setup) (b n : RunTold) (es : List Event) (stop : Stop) (sl : Slack) → NoneLate sl.late
    → ((p k : ℕ) → count_by (expires p k) es < g.tries) → Ties g b n es stop sl → (p k : ℕ)
    → late_answers p k sl.heard < g.tries
none_spent g b n es stop sl none under t p k =
    let u = under p k in
    let a = block_late g b n es stop sl p k t in
    let z = none_left p k sl.late none in
    omega (arith, u, a, z)

-- and never more often than there are tries
pub none_past : (g : Setup) (b n : RunTold) (es : List Event) (stop : Stop) (sl : Slack) → Ties g b n es stop sl
    → (p k : ℕ) → late_answers p k sl.heard ≤ g.tries
none_past g b n es stop sl t p k =
    let u = t.tried.at_most p k in
    let a = block_late g b n es stop sl p k t in
    omega (arith, u, a)

-- where one block has as many as tries, the connections answered so many requests for it as expired together
pub have_expired : (g : Setup) (b n : RunTold) (es : List Event) (stop : Stop) (sl : Slack) (p k : ℕ) → count_by (expires p k) es ≡ g.tries → Ties g b n es stop sl → HaveExpired g.tries sl.heard b.clients n.clients
have_expired g b n es stop sl p k spent t =
    let m = expires_most p k es b.clients t.served.on_lanes in
    let heard = block_late g b n es stop sl p k t in
    record {
      counted = λ none. let s = lanes_total es 0 b.clients n.clients sl.hidden sl.late t.served.lanes none in omega (arith, m, s, spent);
      plan = p;
      block = k;
      said = omega (arith, heard, spent);
    }
