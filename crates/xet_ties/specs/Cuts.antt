-- The queries that cut a range among those that were asked, the answers to them, and the terms of these.
use Rattle.std.specs.Prelude.{ℕ, ◌≡◌, ◌⊎◌, ◌+◌, ◌-◌, ◌<◌, ◌≤◌, Bool, List, [], ◌∷◌, ◌++◌, length, map, filter, nat_lt}
use Rattle.std.specs.Prelude.{Contains, None}
use Rattle.xet_base.specs.declared.cas_types.FileRange.{FileRange}
use Rattle.xet_outside.specs.Plan.{shape}
use Rattle.xet_outside.specs.Told.{Query}
use Rattle.xet_outside.specs.declared.plan.PlanAnswer.{PlanAnswer}
use Rattle.xet_outside.specs.declared.plan.PlanAnswer.TheVariants.{Found, NoFile, PastEnd}
use Rattle.xet_blocks.specs.declared.reconstruction_terms.file_term.FileTerm.{FileTerm}
use Rattle.xet_offers.specs.PlanChecks.{failed_test}
use Rattle.xet_blocks.specs.Terms.{terms_of}
use Rattle.xet_events.specs.Events.{last_of}
use Rattle.xet_history.specs.TrueHistory.{planned_term}
use Rattle.xet_ties.specs.InCall.{Exchange, Look}
use Rattle.xet_ties.specs.Saids.{IsCutAnswer, IsPiece, TermOfPlan}
use Rattle.xet_ties.specs.Setup.{Setup}
use Rattle.xet_ties.specs.Ties.{CutsRange}

-- ---- the cut

-- a query starts where one of these does, and lies in it
abbrev pub LiesInSome : List FileRange → Query → Type 0
LiesInSome qs q = (p : FileRange) × Contains qs p × (p.start ≡ q.1.start) × (q.1.end ≤ p.end)

-- the queries that cut a range stand in order among those that were asked, and each other one starts where one of
-- those before it does, and lies in it
abbrev pub AskedCut : List FileRange → List Query → List FileRange → Type 0
AskedCut before [] cut = cut ≡ []
AskedCut before (q ∷ qs) [] = LiesInSome before q × AskedCut before qs []
AskedCut before (q ∷ qs) (c ∷ cs) =
    ((q.1 ≡ c) × AskedCut (c ∷ before) qs cs) ⊎ (LiesInSome before q × AskedCut before qs (c ∷ cs))

-- so the first connection was asked
abbrev pub FirstCut : List Exchange → List FileRange → Type 0
FirstCut [] cut = cut ≡ []
FirstCut (x ∷ xs) cut = AskedCut [] x.asked cut

-- these are the queries that cut the range. A query of them lies in none before it, so there is one such list
pub record IsCut (g : Setup) (xs : List Exchange) (cut : List FileRange) : Type 0 where
  pub cuts : CutsRange g cut
  pub asked : FirstCut xs cut

-- ---- the answers to the cut

-- a query with the answer that was said to it
pub record Part : Type 0 where
  pub query : FileRange
  pub answer : PlanAnswer

abbrev pub queries_of : List Part → List FileRange
queries_of ps = map (λ p. p.query) ps

-- an answer by which a run goes on: past the end, without terms, or a plan that passes its tests
abbrev pub PassesTests : Setup → FileRange → PlanAnswer → Type 0
PassesTests g q NoFile = ⊥
PassesTests g q PastEnd = Unit {0}
PassesTests g q (Found p) = (p.terms ≡ []) ⊎ (failed_test (shape p) q g.multirange ≡ None)

-- such an answer was said to the query of this number
pub record IsPart (g : Setup) (xs : List Exchange) (n : ℕ) (p : Part) : Type 0 where
  pub said : IsCutAnswer g.file xs n p.query p.answer
  pub passes : PassesTests g p.query p.answer

-- so to each, from this number on
abbrev pub AreParts : Setup → List Exchange → ℕ → List Part → Type 0
AreParts g xs n [] = Unit {0}
AreParts g xs n (p ∷ ps) = IsPart g xs n p × AreParts g xs (n + 1) ps

-- the terms of an answer, none past the end
abbrev pub answer_terms : Bool → FileRange → PlanAnswer → List FileTerm
answer_terms multi q NoFile = []
answer_terms multi q PastEnd = []
answer_terms multi q (Found p) = terms_of (shape p) q multi

-- where they end
abbrev pub part_end : Bool → Part → ℕ
part_end multi p = last_of p.query.start (map (λ t. t.byte_range.end) (answer_terms multi p.query p.answer))

-- one of the answers tells that the file ends before its query does
abbrev pub SomeTellsEnd : Bool → List Part → Type 0
SomeTellsEnd multi [] = ⊥
SomeTellsEnd multi (p ∷ ps) = (part_end multi p < p.query.end) ⊎ SomeTellsEnd multi ps

-- each is the answer to the last query, or its terms end where its query does
abbrev pub ReachOn : Bool → List Part → List FileRange → Type 0
ReachOn multi [] more = Unit {0}
ReachOn multi (p ∷ ps) more =
    ((queries_of ps ++ more ≡ []) ⊎ (part_end multi p ≡ p.query.end)) × ReachOn multi ps more

-- ---- their terms

-- a term under its plan's number
pub record SaidTerm : Type 0 where
  pub number : ℕ
  pub term : FileTerm

abbrev pub under : ℕ → List FileTerm → List SaidTerm
under number ts = map (λ t. record { number = number; term = t }) ts

-- the terms of all answers in order, the first one's plan under this number
abbrev pub terms_said : Bool → ℕ → List Part → List SaidTerm
terms_said multi number [] = []
terms_said multi number (p ∷ ps) =
    under number (answer_terms multi p.query p.answer) ++ terms_said multi (number + 1) ps

-- those that have bytes
abbrev pub has_some : SaidTerm → Bool
has_some t = nat_lt 0 (t.term.byte_range.end - t.term.byte_range.start)

abbrev pub some_said : Setup → List Part → List SaidTerm
some_said g ps = filter has_some (terms_said g.multirange 1 ps)

-- the terms adjoin from this place on
abbrev pub AdjoinFrom : ℕ → List SaidTerm → Type 0
AdjoinFrom place [] = Unit {0}
AdjoinFrom place (t ∷ ts) = (t.term.byte_range.start ≡ place) × AdjoinFrom t.term.byte_range.end ts

-- the bytes of such a term in tested data of its block, by the accepted plan of the term's number, which has the term
pub record IsSaidPiece (g : Setup) (xs : List Exchange) (looks : List Look) (t : SaidTerm)
    (piece : List ℕ) : Type 0 where
  pub of_plan : TermOfPlan g xs
  pub own : t.number ≡ of_plan.place.accepted.said.number
  pub is : planned_term t.term ≡ planned_term of_plan.term
  pub piece_of : IsPiece g xs looks t.number of_plan piece

-- ---- what was planned

-- answers to the queries of the cut, but perhaps to the last, all tested, whose terms adjoin from the range's start on.
-- No query was asked after an answer that told an end before its query's
pub record Planning (g : Setup) (xs : List Exchange) : Type 0 where
  pub parts : List Part
  pub more : List FileRange
  pub few : length more ≤ 1
  pub is_cut : IsCut g xs (queries_of parts ++ more)
  pub said : AreParts g xs 1 parts
  pub reach : ReachOn g.multirange parts more
  pub adjoin : AdjoinFrom g.range.start (terms_said g.multirange 1 parts)

-- answers to all, whose queries reach the range's end, or one of which tells that the file ends before
pub record PlansAll (g : Setup) (xs : List Exchange) : Type 0 where
  pub planning : Planning g xs
  pub none : planning.more ≡ []
  pub ends : g.range.start < g.range.end
      → (last_of g.range.start (map (λ q. q.end) (queries_of planning.parts)) ≡ g.range.end)
      ⊎ SomeTellsEnd g.multirange planning.parts
