-- What is left of a run after the parts of a turn that ask and admit.
use Rattle.std.proofs.Common.{◌≡◌, ℕ, ◌+◌, ◌-◌, ◌^◌, ◌<◌, ◌≤◌, List, [], ◌∷◌, ◌++◌, length, sym, subst, ◌∙◌, ap, arith}
use Rattle.std.proofs.lemmas.List.{append-nil}
use Rattle.std.specs.Prelude.{count_by}
use Rattle.xet_outside.specs.Told.{ClientTold, SignalTold}
use Rattle.xet_events.specs.declared.event.Event.{Event}
use Rattle.xet_events.specs.Limits.{LimitTold}
use Rattle.xet_events.specs.Events.{is_admit, plan_count, planned}
use Rattle.xet_ties.specs.Setup.{Setup}
use Rattle.xet_ties.specs.PartCalls.{blocks_of_answer, terms_in}
use Rattle.xet_parts.specs.Admissions.{admits}
use Rattle.xet_leader.specs.declared.leader.Job.{Job}
use Rattle.xet_leader.specs.Admission.{AdmittedTerms, at_once}
use Rattle.xet_leader.specs.Asking.{NoneAsked, OneAsked}
use Rattle.xet_leader.specs.Led.{IsCounted, IsLedManager, Led, setup_of_job}
use Rattle.xet_stages.specs.Measures.{measure}
use Rattle.xet_stages.proofs.Measures.{IsSmall, counted_small, measure_admitted, measure_planned}
use Rattle.xet_leader.proofs.CallerLemmas.{due_cuts, led_due}

-- a plan that was asked for leaves less
pub one_asked_falls : (j : Job) (cs ns : List ClientTold) (x y : SignalTold) (es fs : List Event) (l k : Led)
    → j.config.tries < 2 ^ 32 → IsLedManager (setup_of_job j) es l.manager → IsCounted fs k
    → OneAsked j cs ns x y es fs l k
    → measure (setup_of_job j) fs k < measure (setup_of_job j) es l
one_asked_falls j cs ns x y es fs l k few led counted o =
    let g = setup_of_job j in
    let d = o.asked in
    let took = d.asked.call.ok.took in
    let t = d.asked.call.ok.answer in
    let cuts = due_cuts g es d.middle d.due.query (led_due g es l.manager d.middle d.due led d.one.takes) in
    let small : IsSmall g fs k = counted_small g fs k few counted in
    subst (λ (hs : List Event). measure g hs k < measure g es l) (sym took.recorded)
    (measure_planned g es (plan_count es + 1) d.due.query (terms_in t) (blocks_of_answer t) l k cuts
    (subst (λ (hs : List Event). IsSmall g hs k) took.recorded small))

-- where none was due as much is left
pub none_asked_stays : (g : Setup) (cs ns : List ClientTold) (x y : SignalTold) (es fs : List Event) (l k : Led)
    → NoneAsked cs ns x y es fs l k → measure g fs k ≡ measure g es l
none_asked_stays g cs ns x y es fs l k n = ap (λ (hs : List Event). measure g hs k) n.events
    ∙ ap (λ (z : Led). measure g es z) n.led

-- an admission doesn't leave more, and leaves less where a term was admitted
pub admitted_falls : (g : Setup) (before after : LimitTold) (es fs : List Event) (l k : Led) → g.tries < 2 ^ 32
    → IsCounted fs k → AdmittedTerms before after es fs l k
    → (measure g fs k ≤ measure g es l) × (l.admitted < k.admitted → measure g fs k < measure g es l)
admitted_falls g before after es fs l k few counted a =
    go a.admits.admitted.limits a.admits.admitted.events a.admits.counted
  where
    go : (ls : List ℕ) → fs ≡ es ++ admits ls → length ls + a.left ≡ at_once (l.planned - l.admitted)
        → (measure g fs k ≤ measure g es l) × (l.admitted < k.admitted → measure g fs k < measure g es l)
    go [] is count =
        let same : measure g fs k ≡ measure g es l = ap (λ (hs : List Event). measure g hs k) (is ∙ append-nil es)
        ∙ ap (λ (z : Led). measure g es z) a.led in
        let now : k.admitted ≡ l.admitted + (at_once (l.planned - l.admitted) - a.left) = ap (λ (z : Led). z.admitted) a.led in
        (omega (arith, same), λ more. absurd (omega (arith, now, count, more)))
    go (n ∷ ls) is count =
        let small : IsSmall g fs k = counted_small g fs k few counted in
        let within : count_by is_admit fs ≤ length (planned fs) =
        (let p = counted.planned_are in let q = counted.admitted_are in let w = counted.admitted_within in
        omega (arith, p, q, w)) in
        let less : measure g fs k < measure g es l =
        subst (λ (hs : List Event). measure g hs k < measure g es l) (sym is)
        (measure_admitted g es (n ∷ ls) l k (omega arith)
        (subst (λ (hs : List Event). count_by is_admit hs ≤ length (planned hs)) is within)
        (subst (λ (hs : List Event). IsSmall g hs k) is small)) in
        (omega (arith, less), λ more. less)
