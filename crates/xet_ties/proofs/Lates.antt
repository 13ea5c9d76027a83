-- What each connection said of expired URLs, after one more step.
use Rattle.std.proofs.Common.{◌≡◌, ℕ, ◌+◌, ◌≤◌, cond, List, [], ◌∷◌, ◌++◌, length, refl, sym, subst, ◌∙◌, ap, arith, append_assoc}
use Rattle.std.specs.Prelude.{All, map}
use Rattle.std.specs.List.{AllZip}
use Rattle.std.proofs.lemmas.Bool.{eq-eqb, ne_eqb}
use Rattle.std.proofs.lemmas.Grind.{flat_map-append}
use Rattle.std.proofs.lemmas.List.{append-nil, map-append}
use Rattle.std.proofs.lemmas.List.Elements.{All-append, All-cons, All-head, All-nil, All-tail, All-weaker}
use Rattle.xet_outside.specs.Answers.{late_in, late_said}
use Rattle.xet_outside.specs.Told.{ClientTold, Query}
use Rattle.xet_outside.specs.declared.said.Said.{Said}
use Rattle.xet_outside.specs.declared.served.Served.{Served}
use Rattle.xet_events.specs.declared.event.Event.{Event}
use Rattle.xet_events.specs.declared.event.Event.TheVariants.{Expired}
use Rattle.xet_events.proofs.CallerLemmas.{flat-push}
use Rattle.xet_ties.specs.History.{late_by, late_on}
use Rattle.xet_ties.specs.InCall.{Exchange, Place, late_places, place_of}
use Rattle.xet_ties.specs.Ties.{EachExpired, IsPlannedEntry, LatePlanned, NoneLate}
use Rattle.xet_ties.specs.Moves.{EachJoined, heard_first, heard_join, no_exchange, no_late}
use Rattle.xet_ties.proofs.Heard.{Match}
use Rattle.xet_ties.proofs.Lanes.{entries_push}

pub none_late : (bs : List ClientTold) → NoneLate (no_late bs)
none_late [] = tt
none_late (b ∷ bs) = (refl, none_late bs)

pub expired_start : (lane : ℕ) (bs : List ClientTold) → EachExpired [] lane (no_exchange bs) (no_late bs)
expired_start lane [] = tt
expired_start lane (b ∷ bs) = (refl, expired_start (lane + 1) bs)

-- ---- events

-- an event that is an expired answer of another lane
late_same : (lane : ℕ) (es : List Event) (e : Event) → late_on lane e ≡ [] → late_by lane (es ++ e ∷ []) ≡ late_by lane es
late_same lane es e h = flat-push (late_on lane) es e ∙ ap (λ (l : List Place). late_by lane es ++ l) h ∙ append-nil (late_by lane es)

-- an event that is an expired answer of none of these lanes
pub expired_same : (es : List Event) (e : Event) (lane : ℕ) (xs : List Exchange) (ls : List (List Place)) → ((l : ℕ) → lane ≤ l → late_on l e ≡ []) → EachExpired es lane xs ls → EachExpired (es ++ e ∷ []) lane xs ls
expired_same es e lane [] [] off h = tt
expired_same es e lane [] (l ∷ ls) off h = absurd h
expired_same es e lane (x ∷ xs) [] off h = absurd h
expired_same es e lane (x ∷ xs) (l ∷ ls) off h =
    (h.0 ∙ ap (λ (s : List Place). s ++ l) (sym (late_same lane es e (off lane (omega arith)))), expired_same es e (lane + 1) xs ls (λ k w. off k (omega (arith, w))) h.1)

-- an expired answer of another lane
other_lane : (m p k l : ℕ) → (m ≡ l → ⊥) → late_on l (Expired m p k) ≡ []
other_lane m p k l apart = ap (λ c. cond {A = List Place} c ((p, k) ∷ []) []) (ne_eqb m l apart)

-- a lane's next expired answer
pub expired_next : (es : List Event) (m p k : ℕ) (j : List Place) (lane : ℕ) (xs : List Exchange) (before after : List (List Place)) → m ≡ lane + length before → EachExpired es lane xs (before ++ ((p, k) ∷ j) ∷ after) → EachExpired (es ++ Expired m p k ∷ []) lane xs (before ++ j ∷ after)
expired_next es m p k j lane [] [] after is h = absurd h
expired_next es m p k j lane [] (f ∷ before) after is h = absurd h
expired_next es m p k j lane (x ∷ xs) [] after is h =
    let e : Event = Expired m p k in
    let here : m ≡ lane = omega (arith, is) in
    let one : late_on lane e ≡ (p, k) ∷ [] = ap (λ c. cond {A = List Place} c ((p, k) ∷ []) []) (eq-eqb m lane here) in
    let more : late_by lane (es ++ e ∷ []) ≡ late_by lane es ++ (p, k) ∷ [] = flat-push (late_on lane) es e ∙ ap (λ (l : List Place). late_by lane es ++ l) one in
    let same : late_by lane (es ++ e ∷ []) ++ j ≡ late_by lane es ++ (p, k) ∷ j = ap (λ (s : List Place). s ++ j) more ∙ append_assoc (late_by lane es) ((p, k) ∷ []) j in
    (h.0 ∙ sym same, expired_same es e (lane + 1) xs after (λ l w. other_lane m p k l (λ q. absurd (omega (arith, here, w, q)))) h.1)
expired_next es m p k j lane (x ∷ xs) (f ∷ before) after is h = (
  h.0 ∙ ap (λ (s : List Place). s ++ f) (sym (late_same lane es (Expired m p k) (other_lane m p k lane (λ q. absurd (omega (arith, is, q)))))),
  expired_next es m p k j (lane + 1) xs before after (omega (arith, is)) h.1,
)

-- ---- what was said

pub late_both : (all more : List Said) → late_in (all ++ more) ≡ late_in all ++ late_in more
late_both all more = flat_map-append late_said all more

places_both : (all more : List Said) → late_places (all ++ more) ≡ late_places all ++ late_places more
places_both all more = ap (λ (l : List Served). map place_of l) (late_both all more) ∙ map-append place_of (late_in all) (late_in more)

-- answers to queries
pub expired_query : (es : List Event) (qs : List Query) (all : List Said) (xs : List Exchange) (ls : List (List Place)) → late_in all ≡ [] → EachExpired es 0 xs ls → EachExpired es 0 (heard_first qs all xs) ls
expired_query es qs all [] ls none h = h
expired_query es qs all (x ∷ xs) [] none h = absurd h
expired_query es qs all (x ∷ xs) (l ∷ ls) none h =
    (places_both x.said all ∙ ap (λ (s : List Served). late_places x.said ++ map place_of s) none ∙ append-nil (late_places x.said) ∙ h.0, h.1)

-- a join
abbrev pub SaidLate : List (List Said) → List (List Place) → Type 0
SaidLate alls ks = AllZip (λ all k. late_places all ≡ k) alls ks

pub joined_late : (ms ns : List ClientTold) (hs : List (List Served)) (alls : List (List Said)) (ks : List (List Place)) → EachJoined ms ns hs alls ks → SaidLate alls ks
joined_late [] [] [] [] [] j = tt
joined_late (m ∷ ms) (n ∷ ns) (h ∷ hs) (a ∷ alls) (k ∷ ks) j = (j.0.said_late, joined_late ms ns hs alls ks j.1)
joined_late [] [] [] [] (k ∷ ks) j = absurd j
joined_late [] [] [] (a ∷ alls) ks j = absurd j
joined_late [] [] (h ∷ hs) alls ks j = absurd j
joined_late [] (n ∷ ns) hs alls ks j = absurd j
joined_late (m ∷ ms) [] hs alls ks j = absurd j
joined_late (m ∷ ms) (n ∷ ns) [] alls ks j = absurd j
joined_late (m ∷ ms) (n ∷ ns) (h ∷ hs) [] ks j = absurd j
joined_late (m ∷ ms) (n ∷ ns) (h ∷ hs) (a ∷ alls) [] j = absurd j

pub expired_join : (es : List Event) (lane : ℕ) (hs : List (List Served)) (alls : List (List Said)) (ks ls : List (List Place)) (xs : List Exchange) → Match hs alls xs → SaidLate alls ks → NoneLate ls → EachExpired es lane xs ls → EachExpired es lane (heard_join hs alls xs) ks
expired_join es lane [] [] [] ls [] m j none h = tt
expired_join es lane [] [] (k ∷ ks) ls [] m j none h = absurd j
expired_join es lane [] [] ks ls (x ∷ xs) m j none h = absurd m
expired_join es lane [] (a ∷ alls) ks ls xs m j none h = absurd m
expired_join es lane (g ∷ hs) [] ks ls xs m j none h = absurd m
expired_join es lane (g ∷ hs) (a ∷ alls) ks ls [] m j none h = absurd m
expired_join es lane (g ∷ hs) (a ∷ alls) [] ls (x ∷ xs) m j none h = absurd j
expired_join es lane (g ∷ hs) (a ∷ alls) (k ∷ ks) [] (x ∷ xs) m j none h = absurd h
expired_join es lane (g ∷ hs) (a ∷ alls) (k ∷ ks) (l ∷ ls) (x ∷ xs) m j none h =
    let first : late_places x.said ≡ late_by lane es = h.0 ∙ ap (λ (s : List Place). late_by lane es ++ s) none.0 ∙ append-nil (late_by lane es) in
    (places_both x.said a ∙ ap (λ (s : List Place). s ++ late_places a) first ∙ ap (λ (s : List Place). late_by lane es ++ s) j.0, expired_join es (lane + 1) hs alls ks ls xs m.1 j.1 none.1 h.1)

-- ---- they are of planned blocks

abbrev EntriesOf : List Event → Exchange → Type 0
EntriesOf es x = All (IsPlannedEntry es) (late_in x.said)

pub late_start : (bs : List ClientTold) → LatePlanned [] (no_exchange bs)
late_start [] = All-nil (EntriesOf [])
late_start (b ∷ bs) = All-cons (EntriesOf []) (record { asked = []; served = []; said = [] }) (no_exchange bs) (All-nil (IsPlannedEntry [])) (late_start bs)

pub late_push : (es : List Event) (e : Event) (xs : List Exchange) → LatePlanned es xs → LatePlanned (es ++ e ∷ []) xs
late_push es e xs h = All-weaker (EntriesOf es) (EntriesOf (es ++ e ∷ [])) (λ x a. entries_push es e (late_in x.said) a) xs h

pub late_query : (es : List Event) (qs : List Query) (all : List Said) (xs : List Exchange) → late_in all ≡ [] → LatePlanned es xs → LatePlanned es (heard_first qs all xs)
late_query es qs all [] none h = h
late_query es qs all (x ∷ xs) none h =
    let same : late_in (x.said ++ all) ≡ late_in x.said = late_both x.said all ∙ ap (λ (s : List Served). late_in x.said ++ s) none ∙ append-nil (late_in x.said) in
    All-cons (EntriesOf es) (record { asked = x.asked ++ qs; served = x.served; said = x.said ++ all }) xs (subst (λ (l : List Served). All (IsPlannedEntry es) l) (sym same) (All-head (EntriesOf es) x xs h)) (All-tail (EntriesOf es) x xs h)

abbrev SaidOf : List Event → List Said → Type 0
SaidOf es all = All (IsPlannedEntry es) (late_in all)

pub late_join : (es : List Event) (hs : List (List Served)) (alls : List (List Said)) (xs : List Exchange) → Match hs alls xs → All (SaidOf es) alls → LatePlanned es xs → LatePlanned es (heard_join hs alls xs)
late_join es [] [] [] m a h = All-nil (EntriesOf es)
late_join es [] [] (x ∷ xs) m a h = absurd m
late_join es [] (b ∷ alls) xs m a h = absurd m
late_join es (g ∷ hs) [] xs m a h = absurd m
late_join es (g ∷ hs) (b ∷ alls) [] m a h = absurd m
late_join es (g ∷ hs) (b ∷ alls) (x ∷ xs) m a h =
    let both = All-append (IsPlannedEntry es) (late_in x.said) (late_in b) (All-head (EntriesOf es) x xs h) (All-head (SaidOf es) b alls a) in
    All-cons (EntriesOf es) (record { asked = x.asked; served = x.served ++ g; said = x.said ++ b }) (heard_join hs alls xs) (subst (λ (l : List Served). All (IsPlannedEntry es) l) (sym (late_both x.said b)) both) (late_join es hs alls xs m.1 (All-tail (SaidOf es) b alls a) (All-tail (EntriesOf es) x xs h))
