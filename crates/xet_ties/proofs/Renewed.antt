-- Each query that doesn't cut the range was answered as the refresh of a plan.
use Rattle.std.proofs.Common.{◌≡◌, ◌⊎◌, ℕ, ◌+◌, ◌-◌, ◌<◌, ◌≤◌, List, [], ◌∷◌, ◌++◌, length, refl, sym, subst, ◌∙◌, arith, length-append, inl, inr, ⊎_elim, Some, None}
use Rattle.std.specs.Prelude.{All, Contains, slice_get}
use Rattle.std.proofs.lemmas.Bool.{cases_lt}
use Rattle.std.proofs.lemmas.List.{append-nil}
use Rattle.std.proofs.lemmas.List.Elements.{Contains-append_left}
use Rattle.std.proofs.lemmas.Option.{get_or_from_slice_get, slice_get_within}
use Rattle.xet_base.specs.declared.cas_types.FileRange.{FileRange}
use Rattle.xet_outside.specs.Answers.{plans_in}
use Rattle.xet_outside.specs.Plan.{shape}
use Rattle.xet_outside.specs.Told.{ClientTold, Query}
use Rattle.xet_outside.specs.declared.plan.Plan.{Plan}
use Rattle.xet_outside.specs.declared.plan.PlanAnswer.{PlanAnswer}
use Rattle.xet_outside.specs.declared.plan.PlanAnswer.TheVariants.{Found}
use Rattle.xet_outside.specs.declared.said.Said.{Said}
use Rattle.xet_outside.specs.declared.said.Said.TheVariants as said
use Rattle.xet_outside.specs.declared.served.Served.{Served}
use Rattle.xet_outside.proofs.CallerLemmas.{plans_both}
use Rattle.xet_offers.specs.PlanChecks.{covered}
use Rattle.xet_fetch.specs.Refreshes.{plan_extents, refusal_of}
use Rattle.xet_events.specs.declared.event.Event.{Event}
use Rattle.xet_events.specs.Events.{plan_count}
use Rattle.xet_history.specs.TrueHistory.{queries}
use Rattle.xet_ties.specs.Causes.{refused_setting}
use Rattle.xet_ties.specs.History.{IsWithin}
use Rattle.xet_ties.specs.InCall.{Exchange, ExchangeGrew}
use Rattle.xet_ties.specs.Saids.{AllRenewed, FirstRenewed, InStep, IsPlanAccepted, IsRenewal, cut_places}
use Rattle.xet_ties.specs.Setup.{Setup}
use Rattle.xet_ties.specs.Moves.{heard_first, heard_join, no_exchange}
use Rattle.xet_ties.specs.Ties.{CutsRange, HeardAsked}
use Rattle.xet_ties.proofs.CutPlaces.{answer_of_more, cut_end, first_at, next_at, places_append}
use Rattle.xet_ties.proofs.Heard.{Match}
use Rattle.xet_ties.proofs.NextPlaces.{next_number}

-- ---- one connection

place_more : (x y : Exchange) (i : ℕ) → ExchangeGrew x y → Contains (cut_places 0 0 x.asked) i
    → Contains (cut_places 0 0 y.asked) i
place_more x y i w c =
    subst (λ (l : List Query). Contains (cut_places 0 0 l) i) (sym w.is_asked)
    (subst (λ (l : List ℕ). Contains l i) (sym (places_append 0 0 x.asked w.asked))
    (Contains-append_left (cut_places 0 0 x.asked) (cut_places (0 + length x.asked) (cut_end 0 x.asked) w.asked) i c))

renewal_more : (g : Setup) (x y : Exchange) (i : ℕ) → ExchangeGrew x y → IsRenewal g x i → IsRenewal g y i
renewal_more g x y i w r = record {
  number = r.number;
  plan = r.plan;
  query = r.query;
  own = answer_of_more x y r.number (g.file, r.query) (Found r.plan) w r.own;
  asked =
      subst (λ (l : List Query). slice_get l i ≡ Some (g.file, covered (shape r.plan) r.query)) (sym w.is_asked)
      (first_at x.asked w.asked i _ r.asked);
  answer = r.answer;
  said =
      subst (λ (l : List Said). slice_get (plans_in l) i ≡ Some r.answer) (sym w.is_said)
      (subst (λ (l : List PlanAnswer). slice_get l i ≡ Some r.answer) (sym (plans_both x.said w.said))
      (first_at (plans_in x.said) (plans_in w.said) i r.answer r.said));
  passes = r.passes;
}

all_more : (g : Setup) (x y : Exchange) (count : ℕ) → ExchangeGrew x y → AllRenewed g x count → AllRenewed g y count
all_more g x y count w a i h =
    ⊎_elim
    (λ (c : Contains (cut_places 0 0 x.asked) i). inl (place_more x y i w c))
    (λ (r : IsRenewal g x i). inr (renewal_more g x y i w r))
    (a i h)

-- ---- what was heard

pub renewed_start : (g : Setup) (bs : List ClientTold) → refused_setting g bs ≡ None
    → FirstRenewed g [] (no_exchange bs)
renewed_start g [] h = absurd (cc)
renewed_start g (b ∷ bs) h = λ i k. absurd (omega (arith, k))

pub renewed_query : (g : Setup) (qs : List Query) (all : List Said) (lost : List Query) (xs : List Exchange)
    → FirstRenewed g lost xs → FirstRenewed g (lost ++ qs) (heard_first qs all xs)
renewed_query g qs all lost [] t = absurd t
renewed_query g qs all lost (x ∷ xs) t =
    let y : Exchange = record { asked = x.asked ++ qs; served = x.served; said = x.said ++ all } in
    let w : ExchangeGrew x y = record {
      asked = qs;
      served = [];
      said = all;
      is_asked = refl;
      is_served = sym (append-nil x.served);
      is_said = refl;
    } in
    let a = length-append x.asked qs in
    let b = length-append lost qs in
    let same : length x.asked - length lost ≡ length (x.asked ++ qs) - length (lost ++ qs) = omega (arith, a, b) in
    subst (λ (n : ℕ). AllRenewed g y n) same (all_more g x y (length x.asked - length lost) w t)

pub renewed_join : (g : Setup) (hs : List (List Served)) (alls : List (List Said)) (lost : List Query)
    (xs : List Exchange)
    → Match hs alls xs → FirstRenewed g lost xs → FirstRenewed g lost (heard_join hs alls xs)
renewed_join g hs alls lost [] m t = absurd t
renewed_join g [] [] lost (x ∷ xs) m t = absurd m
renewed_join g [] (a ∷ alls) lost (x ∷ xs) m t = absurd m
renewed_join g (h ∷ hs) [] lost (x ∷ xs) m t = absurd m
renewed_join g (h ∷ hs) (a ∷ alls) lost (x ∷ xs) m t =
    let y : Exchange = record { asked = x.asked; served = x.served ++ h; said = x.said ++ a } in
    let w : ExchangeGrew x y = record {
      asked = [];
      served = h;
      said = a;
      is_asked = sym (append-nil x.asked);
      is_served = refl;
      is_said = refl;
    } in
    all_more g x y (length x.asked - length lost) w t

-- ---- one more query is recorded

contains_at : (xs : List ℕ) (k i : ℕ) → slice_get xs k ≡ Some i → Contains xs i
contains_at xs k i h = (k, slice_get_within xs k i h, get_or_from_slice_get xs k i i h)

-- where its place is one of the cut, or that of a renewal
one_more : (g : Setup) (x : Exchange) (q : Query) (all : List Said)
    → (let y : Exchange = record { asked = x.asked ++ q ∷ []; served = x.served; said = x.said ++ all } in
    Contains (cut_places 0 0 y.asked) (length x.asked) ⊎ IsRenewal g y (length x.asked)
    → AllRenewed g y (length y.asked - 1) → AllRenewed g y (length y.asked - 0))
one_more g x q all last a i h =
    ⊎_elim
    (λ (k : i < length x.asked). a i (omega (arith, k, n)))
    (λ (k : length x.asked ≤ i). here (omega (arith, h, k, n)))
    (cases_lt i (length x.asked))
  where
    y : Exchange
    y = record { asked = x.asked ++ q ∷ []; served = x.served; said = x.said ++ all }

    n : length (x.asked ++ q ∷ []) ≡ length x.asked + length (q ∷ [])
    n = length-append x.asked (q ∷ [])

    here : length x.asked ≡ i → Contains (cut_places 0 0 y.asked) i ⊎ IsRenewal g y i
    here e = subst (λ (j : ℕ). Contains (cut_places 0 0 y.asked) j ⊎ IsRenewal g y j) e last

-- the next one of the cut
pub renewed_planned : (g : Setup) (es : List Event) (q : FileRange) (a : PlanAnswer) (xs : List Exchange)
    → All IsWithin es → CutsRange g (queries es) → CutsRange g (queries es ++ q ∷ []) → HeardAsked g.file es [] xs
    → FirstRenewed g ((g.file, q) ∷ []) (heard_first ((g.file, q) ∷ []) (said.Plan a ∷ []) xs)
    → FirstRenewed g [] (heard_first ((g.file, q) ∷ []) (said.Plan a ∷ []) xs)
renewed_planned g es q a [] within cuts next is t = absurd t
renewed_planned g es q a (x ∷ xs) within cuts next is t =
    let at = next_number g es q x.asked within cuts next (is ∙ append-nil _) in
    one_more g x (g.file, q) (said.Plan a ∷ []) (inl (contains_at _ ((plan_count es + 1) - 1) (length x.asked) at)) t

-- the refresh of an accepted plan, whose answer isn't refused
pub renewed_refreshed : (g : Setup) (p : Plan) (q : FileRange) (a : PlanAnswer) (xs : List Exchange)
    → IsPlanAccepted g xs p q → InStep xs
    → refusal_of (covered (shape p) q) g.multirange (plan_extents (shape p) g.multirange) a ≡ None
    → (let v = covered (shape p) q in FirstRenewed g ((g.file, v) ∷ [])
    (heard_first ((g.file, v) ∷ []) (said.Plan a ∷ []) xs)
    → FirstRenewed g [] (heard_first ((g.file, v) ∷ []) (said.Plan a ∷ []) xs))
renewed_refreshed g p q a [] accepted step passes t = absurd t
renewed_refreshed g p q a (x ∷ xs) accepted step passes t =
    let v : Query = (g.file, covered (shape p) q) in
    let y : Exchange = record { asked = x.asked ++ v ∷ []; served = x.served; said = x.said ++ said.Plan a ∷ [] } in
    let w : ExchangeGrew x y = record {
      asked = v ∷ [];
      served = [];
      said = said.Plan a ∷ [];
      is_asked = refl;
      is_served = sym (append-nil x.served);
      is_said = refl;
    } in
    let r : IsRenewal g y (length x.asked) = record {
      number = accepted.said.number;
      plan = p;
      query = q;
      own = answer_of_more x y accepted.said.number (g.file, q) (Found p) w accepted.said.answer;
      asked = next_at x.asked v;
      answer = a;
      said =
          subst (λ (l : List PlanAnswer). slice_get l (length x.asked) ≡ Some a)
          (sym (plans_both x.said (said.Plan a ∷ [])))
          (subst (λ (i : ℕ). slice_get (plans_in x.said ++ a ∷ []) i ≡ Some a) (sym step)
          (next_at (plans_in x.said) a));
      passes = passes;
    } in
    one_more g x v (said.Plan a ∷ []) (inr r) t
