-- What each connection served, whether or not it tells its list, after one more step.
use Rattle.std.proofs.Common.{◌≡◌, ℕ, ◌+◌, ◌≤◌, cond, List, [], ◌∷◌, ◌++◌, length, refl, sym, subst, ◌∙◌, ap, arith, append_assoc}
use Rattle.std.specs.Prelude.{All, map}
use Rattle.std.proofs.lemmas.Bool.{eq-eqb, ne_eqb}
use Rattle.std.proofs.lemmas.List.{append-nil}
use Rattle.std.proofs.lemmas.List.Elements.{All-append, All-cons, All-nil}
use Rattle.xet_outside.specs.Told.{ClientTold, Query}
use Rattle.xet_outside.specs.declared.said.Said.{Said}
use Rattle.xet_outside.specs.declared.served.Served.{Served}
use Rattle.xet_events.specs.declared.event.Event.{Event}
use Rattle.xet_events.specs.declared.event.Event.TheVariants.{Fetched}
use Rattle.xet_events.specs.declared.event.PlannedBlock.{PlannedBlock}
use Rattle.xet_ties.specs.History.{block_at, entry_of, served_by, served_in}
use Rattle.xet_ties.specs.InCall.{Exchange}
use Rattle.xet_ties.specs.Ties.{EachServed, all_of}
use Rattle.xet_ties.specs.Moves.{heard_first, heard_join, no_exchange, no_hidden}
use Rattle.xet_ties.proofs.Heard.{Match}
use Rattle.xet_ties.proofs.Telling.{all_left, all_right, telling-push, telling-same}

pub heard_served_start : (lane : ℕ) (bs : List ClientTold) → EachServed [] lane (no_exchange bs) (no_hidden bs)
heard_served_start lane [] = tt
heard_served_start lane (b ∷ bs) = (refl, heard_served_start (lane + 1) bs)

-- ---- events

-- an event that is a served block of none of these lanes
pub heard_served_same : (es : List Event) (e : Event) (lane : ℕ) (xs : List Exchange) (hs : List (List Served)) → ((l : ℕ) → lane ≤ l → served_in l es e ≡ []) → EachServed es lane xs hs → EachServed (es ++ e ∷ []) lane xs hs
heard_served_same es e lane [] [] off t = tt
heard_served_same es e lane [] (h ∷ hs) off t = absurd t
heard_served_same es e lane (x ∷ xs) [] off t = absurd t
heard_served_same es e lane (x ∷ xs) (h ∷ hs) off t = (
  t.0 ∙ ap (λ (s : List Served). s ++ h) (sym (telling-same (served_in lane) es e (off lane (omega arith)))),
  heard_served_same es e (lane + 1) xs hs (λ l w. off l (omega (arith, w))) t.1,
)

-- a block that another lane served
other_lane : (es : List Event) (m p k l : ℕ) → (m ≡ l → ⊥) → served_in l es (Fetched m p k) ≡ []
other_lane es m p k l apart = ap (λ c. cond c (map (entry_of p k) (block_at es p k)) []) (ne_eqb m l apart)

-- a lane's next served block
pub heard_served_next : (es : List Event) (m p k lane : ℕ) (x : PlannedBlock) (h : List Served) (xs : List Exchange) (before after : List (List Served)) → block_at es p k ≡ x ∷ [] → m ≡ lane + length before
    → EachServed es lane xs (before ++ (entry_of p k x ∷ h) ∷ after) → EachServed (es ++ Fetched m p k ∷ []) lane xs (before ++ h ∷ after)
heard_served_next es m p k lane x h [] [] after at is t = absurd t
heard_served_next es m p k lane x h [] (f ∷ before) after at is t = absurd t
heard_served_next es m p k lane x h (y ∷ ys) [] after at is t =
    let e : Event = Fetched m p k in
    let here : m ≡ lane = omega (arith, is) in
    let one : served_in lane es e ≡ entry_of p k x ∷ [] = ap (λ c. cond c (map (entry_of p k) (block_at es p k)) []) (eq-eqb m lane here) ∙ ap (λ (xs : List PlannedBlock). map (entry_of p k) xs) at in
    let more : served_by lane (es ++ e ∷ []) ≡ served_by lane es ++ entry_of p k x ∷ [] = telling-push (served_in lane) es e ∙ ap (λ (s : List Served). served_by lane es ++ s) one in
    let same : served_by lane (es ++ e ∷ []) ++ h ≡ served_by lane es ++ entry_of p k x ∷ h = ap (λ (s : List Served). s ++ h) more ∙ append_assoc (served_by lane es) (entry_of p k x ∷ []) h in
    (t.0 ∙ sym same, heard_served_same es e (lane + 1) ys after (λ l w. other_lane es m p k l (λ q. absurd (omega (arith, here, w, q)))) t.1)
heard_served_next es m p k lane x h (y ∷ ys) (f ∷ before) after at is t = (
  t.0 ∙ ap (λ (s : List Served). s ++ f) (sym (telling-same (served_in lane) es (Fetched m p k) (other_lane es m p k lane (λ q. absurd (omega (arith, is, q)))))),
  heard_served_next es m p k (lane + 1) x h ys before after at (omega (arith, is)) t.1,
)

-- ---- what was said

-- answers to queries
pub heard_served_query : (es : List Event) (qs : List Query) (all : List Said) (xs : List Exchange) (hs : List (List Served)) → EachServed es 0 xs hs → EachServed es 0 (heard_first qs all xs) hs
heard_served_query es qs all [] hs t = t
heard_served_query es qs all (x ∷ xs) [] t = absurd t
heard_served_query es qs all (x ∷ xs) (h ∷ hs) t = (t.0, t.1)

-- a join of lanes that hid nothing
pub heard_served_join : (es : List Event) (lane : ℕ) (hs : List (List Served)) (alls : List (List Said)) (bs : List ClientTold) (xs : List Exchange) → Match hs alls xs → EachServed es lane xs (no_hidden bs) → EachServed es lane (heard_join hs alls xs) hs
heard_served_join es lane [] [] bs [] m t = tt
heard_served_join es lane [] [] bs (x ∷ xs) m t = absurd m
heard_served_join es lane [] (a ∷ alls) bs xs m t = absurd m
heard_served_join es lane (h ∷ hs) [] bs xs m t = absurd m
heard_served_join es lane (h ∷ hs) (a ∷ alls) bs [] m t = absurd m
heard_served_join es lane (h ∷ hs) (a ∷ alls) [] (x ∷ xs) m t = absurd t
heard_served_join es lane (h ∷ hs) (a ∷ alls) (b ∷ bs) (x ∷ xs) m t =
    (ap (λ (s : List Served). s ++ h) (t.0 ∙ append-nil (served_by lane es)), heard_served_join es (lane + 1) hs alls bs xs m.1 t.1)

-- ---- all that was served

-- what holds of the entries of all Fetched events and of the hidden ones holds of all that was served
pub each_heard : (Q : Served → Type 0) (es : List Event) (lane : ℕ) (xs : List Exchange) (hs : List (List Served)) → ((l : ℕ) → All Q (served_by l es)) → All Q (all_of hs) → EachServed es lane xs hs → All (λ x. All Q x.served) xs
each_heard Q es lane [] hs f a t = All-nil (λ x. All Q x.served)
each_heard Q es lane (x ∷ xs) [] f a t = absurd t
each_heard Q es lane (x ∷ xs) (h ∷ hs) f a t =
    let here : All Q (served_by lane es ++ h) = All-append Q (served_by lane es) h (f lane) (all_left Q h (all_of hs) a) in
    All-cons (λ x. All Q x.served) x xs (subst (λ (s : List Served). All Q s) (sym t.0) here) (each_heard Q es (lane + 1) xs hs f (all_right Q h (all_of hs) a) t.1)
