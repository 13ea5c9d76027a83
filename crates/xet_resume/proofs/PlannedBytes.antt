-- A run writes no more bytes than its range has.
use Rattle.std.proofs.Common.{◌≡◌, ℕ, ◌+◌, ◌-◌, ◌<◌, ◌≤◌, List, [], ◌∷◌, ◌++◌, refl, sym, ap, ◌∙◌, arith, count_by, map, All}
use Rattle.std.specs.List.{sum_by}
use Rattle.std.proofs.lemmas.List.Elements.{All-head, All-tail}
use Rattle.std.proofs.lemmas.List.Sums.{sum_by-take-le}
use Rattle.xet_base.specs.declared.cas_types.FileRange.{FileRange}
use Rattle.xet_events.specs.declared.event.Event.{Event}
use Rattle.xet_events.specs.declared.event.Event.TheVariants.{Admit, Cached, Cancel, Expired, Fail, Fetched, Planned}
use Rattle.xet_events.specs.declared.event.Event.TheVariants.{Refreshed, Wrote}
use Rattle.xet_events.specs.declared.event.PlannedBlock.{PlannedBlock}
use Rattle.xet_events.specs.declared.event.PlannedTerm.{PlannedTerm}
use Rattle.xet_events.specs.Allowed.{IsAllowedHistory}
use Rattle.xet_events.specs.Events.{Task, is_admit, last_of, planned, planned_end, size, tasks_of, written}
use Rattle.xet_events.proofs.CallerLemmas.{facts, last_of-append}
use Rattle.xet_history.specs.Queries.{CutFrom}
use Rattle.xet_history.specs.TrueHistory.{queries}
use Rattle.xet_ties.specs.History.{IsWithin}
use Rattle.xet_ties.specs.Setup.{RunTold, Setup}
use Rattle.xet_ties.specs.Ties.{FirstStarts, Slack, Stop, Ties}

abbrev ends_of : List Task → List ℕ
ends_of ts = map (λ (t : Task). t.term.byte_range.end) ts

ends-append : (xs ys : List Task) → ends_of (xs ++ ys) ≡ ends_of xs ++ ends_of ys
ends-append [] ys = refl
ends-append (x ∷ xs) ys = ap (λ (l : List ℕ). x.term.byte_range.end ∷ l) (ends-append xs ys)

-- where the terms of a plan end
tasks_end : (plan place : ℕ) (blocks : List PlannedBlock) (ts : List PlannedTerm)
    → last_of place (ends_of (tasks_of plan ts blocks)) ≡ last_of place (map (λ (t : PlannedTerm). t.byte_range.end) ts)
tasks_end plan place blocks [] = refl
tasks_end plan place blocks (t ∷ ts) = tasks_end plan t.byte_range.end blocks ts

-- where terms end doesn't depend on where they start, if there are any
end_below : (place q most : ℕ) (ts : List PlannedTerm) → place ≤ most
    → last_of q (map (λ (t : PlannedTerm). t.byte_range.end) ts) ≤ most
    → last_of place (map (λ (t : PlannedTerm). t.byte_range.end) ts) ≤ most
end_below place q most [] h k = h
end_below place q most (t ∷ ts) h k = k

-- planned terms end within the queries
ends_within : (start end bound place : ℕ) (es : List Event) → All IsWithin es → CutFrom start end bound (queries es)
    → place ≤ end → last_of place (ends_of (planned es)) ≤ end
ends_within start end bound place [] w c h = h
ends_within start end bound place (Planned plan query terms blocks ∷ es) w c h =
    let here : last_of query.start (map (λ (t : PlannedTerm). t.byte_range.end) terms) ≤ query.end =
    All-head IsWithin (Planned plan query terms blocks) es w in
    let last : query.end ≤ end = c.2 in
    let at = end_below place query.start end terms h (omega (arith, here, last)) in
    let same = tasks_end plan place blocks terms in
    let rest =
    ends_within query.end end bound (last_of place (ends_of (tasks_of plan terms blocks))) es
    (All-tail IsWithin (Planned plan query terms blocks) es w) c.4 (omega (arith, at, same)) in
    let joined : last_of place (ends_of (planned (Planned plan query terms blocks ∷ es)))
    ≡ last_of (last_of place (ends_of (tasks_of plan terms blocks))) (ends_of (planned es)) =
    ap (λ (l : List ℕ). last_of place l) (ends-append (tasks_of plan terms blocks) (planned es))
    ∙ last_of-append place (ends_of (tasks_of plan terms blocks)) (ends_of (planned es)) in
    omega (arith, joined, rest)
ends_within start end bound place (Admit limit ∷ es) w c h =
    ends_within start end bound place es (All-tail IsWithin (Admit limit) es w) c h
ends_within start end bound place (Fetched lane plan block ∷ es) w c h =
    ends_within start end bound place es (All-tail IsWithin (Fetched lane plan block) es w) c h
ends_within start end bound place (Cached plan block ∷ es) w c h =
    ends_within start end bound place es (All-tail IsWithin (Cached plan block) es w) c h
ends_within start end bound place (Expired lane plan block ∷ es) w c h =
    ends_within start end bound place es (All-tail IsWithin (Expired lane plan block) es w) c h
ends_within start end bound place (Refreshed plan ∷ es) w c h =
    ends_within start end bound place es (All-tail IsWithin (Refreshed plan) es w) c h
ends_within start end bound place (Wrote taken ∷ es) w c h =
    ends_within start end bound place es (All-tail IsWithin (Wrote taken) es w) c h
ends_within start end bound place (Fail error ∷ es) w c h =
    ends_within start end bound place es (All-tail IsWithin (Fail error) es w) c h
ends_within start end bound place (Cancel ∷ es) w c h =
    ends_within start end bound place es (All-tail IsWithin Cancel es w) c h

pub written_within : (g : Setup) (b n : RunTold) (es : List Event) (stop : Stop) (sl : Slack) → IsAllowedHistory es
    → Ties g b n es stop sl → g.range.start < g.range.end → g.range.start + written es ≤ g.range.end
written_within g b n es stop sl a t some =
    let f = facts es a in
    let covered = f.covered in
    let part = sum_by-take-le size (planned es) (count_by is_admit es) in
    let start = from_start (planned es) refl t.starts in
    let end =
    ends_within g.range.start g.range.end (g.greatest + g.least) g.range.start es t.within t.cuts.from
    (omega (arith, some)) in
    omega (arith, covered, part, start, end)
  where
    -- the first planned term starts where the range does
    from_start : (ts : List Task) → planned es ≡ ts → FirstStarts g.range.start ts
        → g.range.start + sum_by size ts ≡ last_of g.range.start (ends_of ts)
    from_start [] e f = omega arith
    from_start (x ∷ xs) e f =
        let sums = (facts es a).sums g.range.start in
        let at = rw e at sums in
        omega (arith, at, f)
