-- A connection that was asked for a block.
use Rattle.std.proofs.Common.{◌≡◌, ℕ, zero, suc, ◌+◌, ◌*◌, ◌/◌, ◌%◌, ◌<◌, List, [], ◌∷◌, ◌++◌, length, map, get_or, refl, sym, subst, ◌∙◌, ap, arith, Some, Ok}
use Rattle.std.specs.Prelude.{IfOk, Option, None, Result, Err, option_map, slice_set}
use Rattle.std.proofs.lemmas.List.{append-nil}
use Rattle.std.proofs.lemmas.Option.{slice_get-get_or, slice_get-map}
use Rattle.xet_base.specs.declared.error.OutOfMemory.{OutOfMemory}
use Rattle.xet_outside.specs.Told.{BlockCall, ClientTold}
use Rattle.xet_outside.specs.declared.block.BlockAnswer.{BlockAnswer}
use Rattle.xet_outside.specs.declared.block.BlockRequest.{BlockRequest}
use Rattle.xet_outside.specs.declared.client.ClientError.{ClientError}
use Rattle.xet_ties.specs.declared.lane_step.LaneStep.{LaneStep}
use Rattle.xet_ties.specs.Lanes.{AnswerStep, Ask, IsFor, StepDid}
use Rattle.xet_ties.proofs.CallerLemmas.{step_did}
use Rattle.xet_lane.specs.declared.lane.Fetch.{Fetch}
use Rattle.xet_lane.specs.Fetches.{ask, ask_of}
use Rattle.xet_stream_rules.specs.StepTold.{AsksLane, IsTurn}

-- a told list to which nothing is added
pub same_list : {A : Type 0} (o : Option (List A)) → o ≡ option_map (λ xs. xs ++ []) o
same_list {A} None = refl
same_list {A} (Some xs) = ap (λ (l : List A). Some l) (sym (append-nil xs))

-- the lane whose turn it is
pub is_turn : (fetches connections lane : ℕ) → 0 < connections → lane ≡ fetches % connections
    → IsTurn fetches connections lane
is_turn fetches connections lane some is = record {
  rounds = fetches / connections;
  within = omega (arith, some, is);
  turn = omega (arith, some, is);
}

-- the answer to a fetch's own request makes its step
pub own_step : (f : Fetch) (q : BlockRequest) (b n : ClientTold) (answer : Result BlockAnswer ClientError)
    (s : LaneStep) → IsFor (ask_of f) → q ≡ (ask_of f).request → BlockCall b n q answer
    → AnswerStep (ask f.block.now q) answer s → StepDid b n (ask_of f) s
own_step f q b n answer s own is call made =
    step_did (ask_of f) b n answer s own (subst (λ (r : BlockRequest). BlockCall b n r answer) is call)
    (subst (λ (r : BlockRequest). AnswerStep (ask f.block.now r) answer s) is made)

map_set : {A B : Type 0} (f : A → B) (xs : List A) (i : ℕ) (x : A)
    → map f (slice_set xs i x) ≡ slice_set (map f xs) i (f x)
map_set f [] i x = refl
map_set f (y ∷ xs) zero x = refl
map_set {A} {B} f (y ∷ xs) (suc i) x = ap (λ (l : List B). f y ∷ l) (map_set f xs i x)

-- one of some connections made it, which is another one afterwards
pub lane_asked : {C : Type 0} (told : C → ClientTold) (cs : List C) (lane : ℕ) (x next : C) (a : Ask) (s : LaneStep)
    → lane < length cs → IsFor a → StepDid (told (get_or cs lane x)) (told next) a s
    → AsksLane lane a s (map told cs) (map told (slice_set cs lane next))
lane_asked {C} told cs lane x next a s within own did = record {
  before = told (get_or cs lane x);
  after = told next;
  at = slice_get-map told cs lane ∙ ap (option_map told) (slice_get-get_or cs lane x within);
  is = map_set told cs lane next;
  own = own;
  did = did;
}

-- or none did
pub lane_asked_so : {C : Type 0} (told : C → ClientTold) (cs : List C) (lane : ℕ) (x next : C) (a : Ask)
    (answer : Result LaneStep OutOfMemory) → lane < length cs → IsFor a
    → IfOk answer (StepDid (told (get_or cs lane x)) (told next) a)
    → IfOk answer (λ s. AsksLane lane a s (map told cs) (map told (slice_set cs lane next)))
lane_asked_so {C} told cs lane x next a (Ok s) within own did = lane_asked told cs lane x next a s within own did
lane_asked_so {C} told cs lane x next a (Err e) within own did = tt
