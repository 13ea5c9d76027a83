-- A leader that has asked for all of its range.
use Rattle.std.proofs.Common.{◌≡◌, ℕ, ◌<◌, true, List, [], ◌∷◌, map, refl, sym, subst, ◌∙◌, ap, arith, inl, inr, ⊎_elim}
use Rattle.std.proofs.lemmas.List.{take_all}
use Rattle.xet_base.specs.declared.cas_types.FileRange.{FileRange}
use Rattle.xet_events.specs.declared.event.Event.{Event}
use Rattle.xet_events.specs.Events.{last_of}
use Rattle.xet_history.specs.TrueHistory.{ReachesEnd, queries, queries_end}
use Rattle.xet_terms.specs.Managers.{IsCovered, Manager, scheduled_end}
use Rattle.xet_terms.specs.Queries.{end_from}
use Rattle.xet_terms.proofs.CallerLemmas.{reaches_end}
use Rattle.xet_ties.specs.Setup.{Setup}
use Rattle.xet_leader.specs.Led.{IsLedManager}

-- the queries end where the last one does
pub ends_are : (place : ℕ) (qs : List FileRange) → last_of place (map (λ q. q.end) qs) ≡ end_from place qs
ends_are place [] = refl
ends_are place (q ∷ qs) = ends_are q.end qs

-- where each byte below the known end was asked for, the queries reach the range's end, or a plan ended early
pub covered_reaches : (g : Setup) (es : List Event) (m : Manager) → g.range.start < g.range.end → IsLedManager g es m
    → IsCovered m → ReachesEnd g.range es
covered_reaches g es m some a c =
    let range = a.is_for.range in
    let first : g.range.start ≡ m.range.start = ap (λ (r : FileRange). r.start) (sym range) in
    let all : queries es ≡ m.queries = a.queries_are
    ∙ take_all m.answered m.queries (let n = c.answered in omega (arith, n)) in
    let end : queries_end es g.range.start ≡ scheduled_end m =
    ends_are g.range.start (queries es) ∙ ap (end_from g.range.start) all
    ∙ ap (λ (n : ℕ). end_from n m.queries) first in
    ⊎_elim
    (λ (h : scheduled_end m ≡ m.range.end). inl (end ∙ h ∙ ap (λ (r : FileRange). r.end) range))
    (λ (h : m.ended ≡ true). inr (a.early h))
    (reaches_end m a.kept c (subst (λ (r : FileRange). r.start < r.end) (sym range) some))
