-- The ties after planned terms were admitted.
use Rattle.std.proofs.Common.{◌≡◌, ℕ, ◌+◌, List, [], ◌∷◌, ◌++◌, length, refl, sym, subst, ◌∙◌, ap, arith, append_assoc}
use Rattle.std.specs.Prelude.{count_by}
use Rattle.std.proofs.lemmas.List.{append-nil}
use Rattle.xet_events.specs.declared.event.Event.{Event}
use Rattle.xet_events.specs.declared.event.Event.TheVariants.{Admit}
use Rattle.xet_events.specs.Limits.{LimitTold}
use Rattle.xet_events.specs.Events.{is_admit, planned}
use Rattle.xet_events.proofs.CallerLemmas.{count_by-push, planned-push}
use Rattle.xet_ties.specs.PartCalls.{AdmitsCall}
use Rattle.xet_ties.proofs.CallerLemmas.{admits_asked, admits_none, admits_one}
use Rattle.xet_parts.specs.Admissions.{Admitted, GaveLimits, admits}

-- ---- what was told and recorded is tied

asked_ties : (b m n : LimitTold) (es fs : List Event) (us : List ℕ) → AdmitsCall b m es fs → GaveLimits m n us → AdmitsCall b n es fs
asked_ties b m n es fs [] a g = subst (λ (x : LimitTold). AdmitsCall b x es fs) (sym g) a
asked_ties b m n es fs (u ∷ us) a g = asked_ties b g.0 n es fs us (admits_asked b m g.0 es fs fs u a g.1 refl) g.2

then_ties : (b m n : LimitTold) (es fs : List Event) (ls us : List ℕ) → AdmitsCall b m es fs → GaveLimits m n (ls ++ us) → AdmitsCall b n es (fs ++ admits ls)
then_ties b m n es fs [] us a g = subst (λ (x : List Event). AdmitsCall b n es x) (sym (append-nil fs)) (asked_ties b m n es fs us a g)
then_ties b m n es fs (l ∷ ls) us a g =
    subst (λ (x : List Event). AdmitsCall b n es x) (append_assoc fs (Admit l ∷ []) (admits ls))
    (then_ties b g.0 n es (fs ++ Admit l ∷ []) ls us (admits_one b m g.0 es fs (fs ++ Admit l ∷ []) l a g.1 refl) g.2)

-- whether memory was wanting or not
pub admitted_ties : (b n : LimitTold) (es fs : List Event) (us : List ℕ) → Admitted b n es fs us → AdmitsCall b n es fs
admitted_ties b n es fs us a =
    subst (λ (x : List Event). AdmitsCall b n es x) (sym a.events) (then_ties b b n es es a.limits us (admits_none b es) a.given)

-- ---- what the history says after it

pub admits_planned : (es : List Event) (ls : List ℕ) → planned (es ++ admits ls) ≡ planned es
admits_planned es [] = ap planned (append-nil es)
admits_planned es (l ∷ ls) =
    ap planned (sym (append_assoc es (Admit l ∷ []) (admits ls))) ∙ admits_planned (es ++ Admit l ∷ []) ls ∙ planned-push es (Admit l) ∙ append-nil (planned es)

pub admits_counted : (es : List Event) (ls : List ℕ) → count_by is_admit (es ++ admits ls) ≡ count_by is_admit es + length ls
admits_counted es [] = ap (count_by is_admit) (append-nil es) ∙ omega arith
admits_counted es (l ∷ ls) =
    let e = ap (count_by is_admit) (append_assoc es (Admit l ∷ []) (admits ls)) in
    let h = admits_counted (es ++ Admit l ∷ []) ls in
    let p = count_by-push is_admit es (Admit l) in
    omega (arith, e, h, p)
