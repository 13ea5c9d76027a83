-- Words of the parts of a legal answer.
use Rattle.std.specs.Prelude.{ℕ, ◌≡◌, ◌⊎◌, ◌+◌, ◌-◌, ◌^◌, ◌<◌, ◌≤◌, List, [], ◌∷◌, ◌++◌, length, min, take, All}
use Rattle.std.specs.Prelude.{IsSome, IfSome, count_by}
use Rattle.std.specs.List.{AllZip, concat}
use Rattle.xet_base.specs.declared.cas_types.FileRange.{FileRange}
use Rattle.xet_base.specs.Store.{Store, file_of, window}
use Rattle.xet_outside.specs.declared.served.Served.{Served}
use Rattle.xet_outside.specs.Answers.{late_in}
use Rattle.xet_outside.specs.Told.{CacheTold, ClientTold, Query, SignalTold, SinkTold, Took, TookPrefix}
use Rattle.xet_ties.specs.Causes.{expired_answers, late_answers}
use Rattle.xet_ties.specs.Cuts.{AskedCut, IsSaidPiece, Planning, PlansAll, some_said}
use Rattle.xet_ties.specs.History.{entry_of}
use Rattle.xet_ties.specs.InCall.{Exchange, Look, answers_of, expired_said, new_in}
use Rattle.xet_ties.specs.Saids.{BlockOfPlan, planned_of}
use Rattle.xet_ties.specs.Setup.{IsEmptyRange, Setup}
use Rattle.xet_ties.specs.Ties.{CutsRange, EachUnasked, Reaches, is_pair}

-- ---- bytes

-- over a valid store: the file is stored or the range empty, and the writer took exactly the window, which was counted
pub record IsExact (s : Store) (g : Setup) (before after : SinkTold) (k : ℕ) : Type 0 where
  pub stored : IsSome (file_of s g.file) ⊎ IsEmptyRange g.range
  pub took : Took before.took after.took (window s g.file g.range)
  pub total : k ≡ length (window s g.file g.range)

-- nothing but tested bytes: a prefix of the joined pieces of the first terms with bytes of plans that were said
pub record TookTested (g : Setup) (xs : List Exchange) (looks : List Look) (before after : SinkTold) : Type 0 where
  pub planning : Planning g xs
  pub pieces : List (List ℕ)
  pub each : AllZip (IsSaidPiece g xs looks) (take (length pieces) (some_said g planning.parts)) pieces
  pub took : TookPrefix before.took after.took (concat pieces)

-- the pieces of all terms with bytes, of plans up to the end of the range or of the file, and they were counted
pub record TookWhole (g : Setup) (xs : List Exchange) (looks : List Look) (before after : SinkTold)
    (k : ℕ) : Type 0 where
  pub all : PlansAll g xs
  pub pieces : List (List ℕ)
  pub each : AllZip (IsSaidPiece g xs looks) (some_said g all.planning.parts) pieces
  pub took : Took before.took after.took (concat pieces)
  pub total : k ≡ length (concat pieces)

-- ---- queries

-- a query is shorter than the greatest and the least size together
abbrev pub IsShort : Setup → Query → Type 0
IsShort g q = (q.0 ≡ g.file) × (q.1.end - q.1.start < g.greatest + g.least)

-- the queries are for the file and short. Some cut the range in order, and each other one lies in one before it
pub record AsksCut (g : Setup) (qs : List Query) : Type 0 where
  pub short : All (IsShort g) qs
  pub cut : List FileRange
  pub cuts : CutsRange g cut
  pub asked : AskedCut [] qs cut

-- the first connection was asked so, and the others were asked nothing
abbrev pub FirstAsks : Setup → List ClientTold → List ClientTold → Type 0
FirstAsks g [] [] = Unit {0}
FirstAsks g [] (n ∷ ns) = ⊥
FirstAsks g (b ∷ bs) [] = ⊥
FirstAsks g (b ∷ bs) (n ∷ ns) = IfSome (new_in b.asked n.asked) (AsksCut g) × EachUnasked bs ns

-- queries that cut the range, and no more others than expired answers came
pub record AsksFew (g : Setup) (xs : List Exchange) (qs : List Query) : Type 0 where
  pub cut : List FileRange
  pub cuts : CutsRange g cut
  pub asked : AskedCut [] qs cut
  pub few : length qs ≤ length cut + expired_answers xs

-- so the first connection was asked, by what all connections said
abbrev pub FirstAsksFew : Setup → List Exchange → Type 0
FirstAsksFew g [] = Unit {0}
FirstAsksFew g (x ∷ xs) = AsksFew g (x ∷ xs) x.asked

-- a query was asked where the range has bytes
abbrev pub AsksSome : Setup → List Query → Type 0
AsksSome g qs = g.range.start < g.range.end → 0 < length qs

-- of the first connection: by its queries one was asked where the range has bytes, and by these and the answers to them
-- the range was planned to its end or the file's
abbrev pub FirstPlansAll : Setup → List ClientTold → List ClientTold → Type 0
FirstPlansAll g [] ns = ⊥
FirstPlansAll g (b ∷ bs) [] = ⊥
FirstPlansAll g (b ∷ bs) (n ∷ ns) = IfSome (new_in b.asked n.asked) (AsksSome g)
    × IfSome (answers_of b n) (λ x. PlansAll g (x ∷ []))

-- ---- blocks

-- no block of a plan was served twice
abbrev pub ServedOnce : List Served → Type 0
ServedOnce es = (p k : ℕ) → count_by (is_pair p k) es ≤ 1

-- this is the entry of a block of a plan that was said and passes its tests, under that plan's own number
pub record IsPlannedServed (g : Setup) (xs : List Exchange) (e : Served) : Type 0 where
  pub of_plan : BlockOfPlan g xs
  pub own : e.plan ≡ of_plan.accepted.said.number
  pub is : e ≡ entry_of e.plan of_plan.number (planned_of of_plan.block)

-- the requests for blocks that a connection answered, with bytes or as expired
abbrev pub requests_of : Exchange → List Served
requests_of x = x.served ++ late_in x.said

-- each of them is for such a block
abbrev pub AllPlanned : Setup → List Exchange → Type 0
AllPlanned g xs = All (λ x. All (IsPlannedServed g xs) (requests_of x)) xs

-- ---- expired answers

-- of each connection, the count of expired answers grew by as many at least as were heard, or stands at its last value
abbrev pub EachCounted : List ClientTold → List ClientTold → List Exchange → Type 0
EachCounted [] [] [] = Unit {0}
EachCounted (b ∷ bs) (n ∷ ns) (x ∷ xs) =
    (min (b.expiries + count_by expired_said x.said) (2 ^ 64 - 1) ≤ n.expiries) × EachCounted bs ns xs
EachCounted bs ns xs = ⊥

-- the requests for no block were answered as expired as often as it may be asked for
abbrev pub NoneSpent : Setup → List Exchange → Type 0
NoneSpent g xs = (p k : ℕ) → late_answers p k xs < g.tries

-- nor more often than that
abbrev pub NonePast : Setup → List Exchange → Type 0
NonePast g xs = (p k : ℕ) → late_answers p k xs ≤ g.tries

-- ---- counts

-- the counts of a signal don't fall
pub record SignalGoesOn (before after : SignalTold) : Type 0 where
  pub asks : Reaches before.asks after.asks 0
  pub yes : before.yes ≤ after.yes

-- nor those of a cache
pub record CacheGoesOn (before after : CacheTold) : Type 0 where
  pub offers : Reaches before.offers after.offers 0
  pub faults : before.faults ≤ after.faults
