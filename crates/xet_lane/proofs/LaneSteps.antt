-- What one more step makes of a lane.
use Rattle.std.proofs.Common.{ℕ, ◌≡◌, ◌-◌, ◌<◌, zero, suc, List, [], ◌∷◌, ◌++◌, length, refl, sym, ap, ◌∙◌, subst, false, inl, inr, arith, length-append, Some, None}
use Rattle.std.specs.Prelude.{Result, Ok, slice_get}
use Rattle.xet_outside.specs.Answers.{IsPaired}
use Rattle.xet_outside.specs.Told.{BlockCall, ClientTold}
use Rattle.xet_outside.specs.declared.block.BlockAnswer.{BlockAnswer}
use Rattle.xet_outside.specs.declared.client.ClientError.{ClientError}
use Rattle.xet_outside.specs.declared.said.Said.{Said}
use Rattle.xet_outside.specs.declared.served.Served.{Served}
use Rattle.xet_outside.proofs.CallerLemmas.{added_none}
use Rattle.xet_ties.specs.declared.lane_step.LaneStep.{LaneStep}
use Rattle.xet_ties.specs.declared.lane_step.LaneStep.TheVariants as step
use Rattle.xet_ties.specs.Lanes.{AnswerStep, AreOf, Ask, HidesNone, IsFor, IsHidden, LaneDid, StepDid, entries_in, entries_of, lates_in, lates_of, may_hide}
use Rattle.xet_ties.proofs.CallerLemmas.{one_more as lane_more, step_did}
use Rattle.xet_lane.specs.Fetches.{LaneCall, NoneFailed, NoneFailedBefore, error_at, error_in, last_error}

-- a step was added
pub one_step : (a : Ask) (b n : ClientTold) (xs ys : List LaneStep) (answer : Result BlockAnswer ClientError) (s : LaneStep)
    → IsFor a → BlockCall b n a.request answer → AnswerStep a answer s → ys ≡ xs ++ s ∷ [] → LaneCall b n xs ys a (Ok tt)
one_step a b n xs ys answer s own call made added =
    record { added = record { step = s; added = added; did = step_did a b n answer s own call made }; refused = tt }

-- ---- lists of steps

entries_more : (qs rest : List Ask) (ss : List LaneStep) → length qs ≡ length ss
    → entries_of (qs ++ rest) ss ≡ entries_of qs ss
entries_more [] rest [] e = refl
entries_more [] rest (s ∷ ss) e = absurd (omega arith)
entries_more (a ∷ qs) rest [] e = refl
entries_more (a ∷ qs) rest (s ∷ ss) e = ap (λ l. entries_in a s ++ l) (entries_more qs rest ss (omega arith))

lates_more : (qs rest : List Ask) (ss : List LaneStep) → length qs ≡ length ss
    → lates_of (qs ++ rest) ss ≡ lates_of qs ss
lates_more [] rest [] e = refl
lates_more [] rest (s ∷ ss) e = absurd (omega arith)
lates_more (a ∷ qs) rest [] e = refl
lates_more (a ∷ qs) rest (s ∷ ss) e = ap (λ l. lates_in a s ++ l) (lates_more qs rest ss (omega arith))

hides : (s : LaneStep) → error_in s ≡ None → may_hide s ≡ false
hides (step.Served p k d) e = refl
hides (step.Expired p k) e = refl
hides (step.Failed x) e = cc

hides_none : (ss : List LaneStep) → NoneFailed ss → HidesNone ss
hides_none [] n = tt
hides_none (s ∷ ss) n = (hides s n.0, hides_none ss n.1)

get_last : {A : Type 0} (xs : List A) (x : A) → slice_get (xs ++ x ∷ []) (length (xs ++ x ∷ []) - 1) ≡ Some x
get_last xs x =
    let e : length (xs ++ x ∷ []) - 1 ≡ length xs = omega (arith, length-append xs (x ∷ [])) in
    rw e (at_end xs)
  where
    at_end : (l : List _) → slice_get (l ++ x ∷ []) (length l) ≡ Some x
    at_end [] = refl
    at_end (y ∷ l) = at_end l

pub none_snoc : (ss : List LaneStep) (s : LaneStep) → NoneFailed ss → error_in s ≡ None → NoneFailed (ss ++ s ∷ [])
none_snoc [] s n e = (e, tt)
none_snoc (x ∷ ss) s n e = (n.0, none_snoc ss s n.1 e)

pub before_snoc : (ss : List LaneStep) (s : LaneStep) → NoneFailed ss → NoneFailedBefore (ss ++ s ∷ [])
before_snoc [] s n = tt
before_snoc (x ∷ []) s n = (n.0, tt)
before_snoc (x ∷ y ∷ ss) s n = (n.0, before_snoc (y ∷ ss) s n.1)

pub before_none : (ss : List LaneStep) → NoneFailed ss → NoneFailedBefore ss
before_none [] n = tt
before_none (x ∷ []) n = tt
before_none (x ∷ y ∷ ss) n = (n.0, before_none (y ∷ ss) n.1)

pub last_snoc : (ss : List LaneStep) (s : LaneStep) → last_error (ss ++ s ∷ []) ≡ error_in s
last_snoc ss s = ap error_at (get_last ss s)

get_front : {A : Type 0} (xs ys : List A) (k : ℕ) → k < length xs → slice_get (xs ++ ys) k ≡ slice_get xs k
get_front [] ys k h = absurd (omega arith)
get_front (x ∷ xs) ys zero h = refl
get_front (x ∷ xs) ys (suc k) h = get_front xs ys k (omega arith)

are_more : (sv : List Served) (all : List Said) (b n : ClientTold) (qs rest : List Ask) (ss : List LaneStep)
    → AreOf b n sv all qs ss → AreOf b n sv all (qs ++ rest) ss
are_more sv all b n qs rest [] r = tt
are_more sv all b n [] rest (s ∷ ss) r = absurd r
are_more sv all b n (a ∷ qs) rest (s ∷ ss) r = (r.0, are_more sv all b n qs rest ss r.1)

-- ---- lanes

-- at the start
pub none_yet : (b : ClientTold) → LaneDid b b [] []
none_yet b = record {
  goes_on = record { store = refl; link = refl; faults = omega arith; expiries = omega arith };
  asked = refl;
  said = [];
  hidden = [];
  quiet = refl;
  pairs = record {
    serves = added_none b.served b.served refl;
    says = added_none b.said b.said refl;
    paired = refl;
  };
  are = tt;
  at_most = inl refl;
  none = λ e. refl;
  once = omega arith;
  late = refl;
  expired = omega arith;
  unfailed = λ h. refl;
}

-- a lane none of whose steps failed goes on with one more
pub one_more : (b m n : ClientTold) (qs : List Ask) (xs : List LaneStep) (a : Ask) (s : LaneStep) → LaneDid b m qs xs
    → length qs ≡ length xs → NoneFailed xs → StepDid m n a s → LaneDid b n (qs ++ a ∷ []) (xs ++ s ∷ [])
one_more b m n qs xs a s d len good t = lane_more b m n qs xs a s d len (d.none (hides_none xs good)) t

more_hidden : (qs rest : List Ask) (ss : List LaneStep) (hidden : List Served) → length qs ≡ length ss
    → IsHidden qs ss hidden → IsHidden (qs ++ rest) ss hidden
more_hidden qs rest ss hidden len (inl e) = inl e
more_hidden qs rest ss hidden len (inr t) = let l = t.some in inr (record {
  ask = t.ask;
  some = t.some;
  last = get_front qs rest (length ss - 1) (omega (arith, l, len)) ∙ t.last;
  may = t.may;
  is = t.is;
})

-- with fetches that it didn't make
pub more_drawn : (b n : ClientTold) (qs rest : List Ask) (ss : List LaneStep) → LaneDid b n qs ss → length qs ≡ length ss
    → LaneDid b n (qs ++ rest) ss
more_drawn b n qs rest ss d len =
    let same = sym (entries_more qs rest ss len) in
    record {
      goes_on = d.goes_on;
      asked = d.asked;
      said = d.said;
      hidden = d.hidden;
      quiet = d.quiet;
      pairs = subst (λ (l : List Served). IsPaired b n (l ++ d.hidden) d.said) same d.pairs;
      are = subst (λ (l : List Served). AreOf b n (l ++ d.hidden) d.said (qs ++ rest) ss) same
          (are_more (entries_of qs ss ++ d.hidden) d.said b n qs rest ss d.are);
      at_most = more_hidden qs rest ss d.hidden len d.at_most;
      none = d.none;
      once = d.once;
      late = d.late ∙ sym (lates_more qs rest ss len);
      expired = d.expired;
      unfailed = d.unfailed;
    }
