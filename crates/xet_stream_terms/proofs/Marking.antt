-- Whether the range is planned to its end stays as it is where no plan is added.
use Rattle.std.proofs.Common.{◌≡◌, ◌⊎◌, inl, inr, Bool, List, [], ◌∷◌, ◌++◌, refl, sym, ◌∙◌, ap, arith, ⊎_elim}
use Rattle.std.specs.Prelude.{count_by, map}
use Rattle.std.proofs.lemmas.List.{append-nil}
use Rattle.std.proofs.lemmas.Grind.{flat_map-append}
use Rattle.xet_outside.proofs.CallerLemmas.{count_by-cons}
use Rattle.xet_base.specs.declared.cas_types.FileRange.{FileRange}
use Rattle.xet_events.specs.declared.event.Event.{Event}
use Rattle.xet_events.specs.declared.event.Event.TheVariants.{Admit, Cached, Cancel, Expired, Fail, Fetched, Planned, Refreshed, Wrote}
use Rattle.xet_events.specs.Events.{is_plan, last_of}
use Rattle.xet_history.specs.TrueHistory.{SomeEndsEarly, queries, queries_end, queries_in}
use Rattle.xet_stream_terms.specs.Planning.{IsMarked}

-- of these events none is a plan's
record PlansNone (es : List Event) : Type 0 where
  pub queries_are : queries es ≡ []
  pub never_early : SomeEndsEarly es → ⊥

none_more : (es : List Event) → PlansNone es → (e : Event) → queries_in e ≡ [] → (SomeEndsEarly (e ∷ es) → SomeEndsEarly es)
    → PlansNone (e ∷ es)
none_more es p e q f = record {
  queries_are = ap (λ (l : List FileRange). l ++ queries es) q ∙ p.queries_are;
  never_early = λ s. p.never_early (f s);
}

later : (es : List Event) → ⊥ ⊎ SomeEndsEarly es → SomeEndsEarly es
later es s = ⊎_elim (λ (x : ⊥). absurd x) (λ (r : SomeEndsEarly es). r) s

plans_none : (es : List Event) → count_by is_plan es ≡ 0 → PlansNone es
plans_none [] h = record { queries_are = refl; never_early = λ s. s }
plans_none (Planned plan query terms blocks ∷ es) h =
    let c = count_by-cons is_plan (Planned plan query terms blocks) es in absurd (omega (arith, c, h))
plans_none (Admit limit ∷ es) h = none_more es (plans_none es h) (Admit limit) refl (later es)
plans_none (Fetched lane plan block ∷ es) h = none_more es (plans_none es h) (Fetched lane plan block) refl (later es)
plans_none (Cached plan block ∷ es) h = none_more es (plans_none es h) (Cached plan block) refl (later es)
plans_none (Expired lane plan block ∷ es) h = none_more es (plans_none es h) (Expired lane plan block) refl (later es)
plans_none (Refreshed plan ∷ es) h = none_more es (plans_none es h) (Refreshed plan) refl (later es)
plans_none (Wrote taken ∷ es) h = none_more es (plans_none es h) (Wrote taken) refl (later es)
plans_none (Fail error ∷ es) h = none_more es (plans_none es h) (Fail error) refl (later es)
plans_none (Cancel ∷ es) h = none_more es (plans_none es h) Cancel refl (later es)

early_left : (xs ys : List Event) → SomeEndsEarly xs → SomeEndsEarly (xs ++ ys)
early_left [] ys s = absurd s
early_left (x ∷ xs) ys (inl e) = inl e
early_left (x ∷ xs) ys (inr s) = inr (early_left xs ys s)

early_of : (xs ys : List Event) → (SomeEndsEarly ys → ⊥) → SomeEndsEarly (xs ++ ys) → SomeEndsEarly xs
early_of [] ys none s = absurd (none s)
early_of (x ∷ xs) ys none (inl e) = inl e
early_of (x ∷ xs) ys none (inr s) = inr (early_of xs ys none s)

-- so the mark stays
pub marks_on : (r : FileRange) (es new : List Event) (reached : Bool) → count_by is_plan new ≡ 0 → IsMarked r es reached
    → IsMarked r (es ++ new) reached
marks_on r es new reached none m =
    let p = plans_none new none in
    let same : queries (es ++ new) ≡ queries es =
    flat_map-append queries_in es new ∙ ap (λ (l : List FileRange). queries es ++ l) p.queries_are
    ∙ append-nil (queries es) in
    let end : queries_end (es ++ new) r.start ≡ queries_end es r.start =
    ap (λ (qs : List FileRange). last_of r.start (map (λ (q : FileRange). q.end) qs)) same in
    record {
      yes = λ e. ⊎_elim (λ (h : queries_end es r.start ≡ r.end). inl (end ∙ h))
          (λ (s : SomeEndsEarly es). inr (early_left es new s)) (m.yes e);
      no = λ e reaches. m.no e (⊎_elim
          (λ (h : queries_end (es ++ new) r.start ≡ r.end). inl (sym end ∙ h))
          (λ (s : SomeEndsEarly (es ++ new)). inr (early_of es new p.never_early s)) reaches);
    }
