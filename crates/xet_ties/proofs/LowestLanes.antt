-- Whose bytes failed a test, and what the connections below it served.
use Rattle.std.proofs.Common.{◌≡◌, ℕ, zero, suc, ◌+◌, ◌≤◌, List, [], ◌∷◌, ◌++◌, length, refl, sym, subst, ◌∙◌, ap, arith, inl, inr, ⊎_elim, None, Option, Some}
use Rattle.std.specs.Prelude.{◌⊎◌, ◌-◌, All, IfSome, slice_get, true}
use Rattle.std.proofs.lemmas.List.{append-nil}
use Rattle.std.proofs.lemmas.List.Elements.{All-append, All-cons, All-nil, All-weaker}
use Rattle.xet_outside.specs.Answers.{bytes_in}
use Rattle.xet_outside.specs.Told.{ClientTold, Rose, served_of}
use Rattle.xet_outside.specs.declared.said.Said.{Said}
use Rattle.xet_outside.specs.declared.served.Served.{Served}
use Rattle.xet_outside.proofs.CallerLemmas.{answer_after}
use Rattle.xet_error.specs.declared.error.FileReconstructionError.{FileReconstructionError}
use Rattle.xet_error.specs.declared.error.FileReconstructionError.TheVariants as error
use Rattle.xet_events.specs.declared.event.Event.{Event}
use Rattle.xet_ties.specs.declared.lane_step.LaneStep.{LaneStep}
use Rattle.xet_ties.specs.declared.lane_step.LaneStep.TheVariants as step
use Rattle.xet_ties.specs.Causes.{IsBlockOrPassed, LowestRose, SomeRose}
use Rattle.xet_ties.specs.InCall.{AllBelow, Exchange, Place}
use Rattle.xet_ties.specs.Lanes.{AreAt, AreOf, Ask, IsHidden, IsOf, StepCause}
use Rattle.xet_ties.specs.Saids.{AllPassed, EntryPassed, EventPassed, ServedPassed}
use Rattle.xet_ties.specs.Setup.{Setup}
use Rattle.xet_ties.specs.Ties.{EachLane, EachServed, all_of, is_pair}
use Rattle.xet_ties.specs.History.{served_by}
use Rattle.xet_ties.specs.Rounds.{IsLaneEnd, IsLaneError, NoneBelow}
use Rattle.xet_ties.proofs.HeardServed.{each_heard}
use Rattle.xet_ties.proofs.Pairs.{served_passed}

-- ---- the bytes that failed a test

-- the fetch of a step
record StepOf (fs : List Ask) (b n : ClientTold) (sv : List Served) (all : List Said) (qs : List Ask) (i : ℕ)
    (s : LaneStep) : Type 0 where
  number : ℕ
  ask : Ask
  at : slice_get fs number ≡ Some ask
  made : slice_get qs i ≡ Some ask
  of : IsOf b n sv all ask s

step_of : (fs : List Ask) (b n : ClientTold) (sv : List Served) (all : List Said) (ks : List ℕ) (qs : List Ask)
    (ss : List LaneStep) (i : ℕ) (s : LaneStep) → AreAt fs ks qs → AreOf b n sv all qs ss → slice_get ss i ≡ Some s
    → StepOf fs b n sv all qs i s
step_of fs b n sv all ks qs [] i s at are h = absurd (cc)
step_of fs b n sv all ks [] (x ∷ ss) i s at are h = absurd are
step_of fs b n sv all [] (a ∷ qs) (x ∷ ss) i s at are h = absurd at
step_of fs b n sv all (j ∷ ks) (a ∷ qs) (x ∷ ss) zero s at are h =
    let same : x ≡ s = cc in
    record { number = j; ask = a; at = at.0; made = refl; of = subst (IsOf b n sv all a) same are.0 }
step_of fs b n sv all (j ∷ ks) (a ∷ qs) (x ∷ ss) (suc i) s at are h =
    let r = step_of fs b n sv all ks qs ss i s at.1 are.1 h in
    record { number = r.number; ask = r.ask; at = r.at; made = r.made; of = r.of }

-- what a lane hides is the entry of its last fetch
hides_last : (qs : List Ask) (ss : List LaneStep) (hidden : List Served) (a : Ask) → IsHidden qs ss hidden
    → slice_get qs (length ss - 1) ≡ Some a → (hidden ≡ []) ⊎ (hidden ≡ served_of a.request ∷ [])
hides_last qs ss hidden a (inl h) made = inl h
hides_last qs ss hidden a (inr h) made =
    let same : h.ask ≡ a = (let l = h.last in cc) in
    inr (h.is ∙ ap (λ (y : Ask). served_of y.request ∷ []) same)

lane_error : (fs : List Ask) (b n : ClientTold) (x : Exchange) (sv hidden : List Served) (all : List Said) (number : ℕ)
    (a : Ask) (e : FileReconstructionError) → length x.served ≡ length (bytes_in x.said)
    → slice_get fs number ≡ Some a → (hidden ≡ []) ⊎ (hidden ≡ served_of a.request ∷ []) → StepCause b n sv all a e
    → IsLaneError fs b (record { asked = x.asked; served = x.served ++ sv; said = x.said ++ all }) hidden e
lane_error fs b n x sv hidden all number a error.OutOfMemory p at h c = tt
lane_error fs b n x sv hidden all number a error.ClientError p at h c = tt
lane_error fs b n x sv hidden all number a error.FileNotFound p at h c = tt
lane_error fs b n x sv hidden all number a error.UrlExpired p at h c = tt
lane_error fs b n x sv hidden all number a error.IoError p at h c = tt
lane_error fs b n x sv hidden all number a (error.CorruptedReconstruction k) p at h c = record {
  number = number;
  ask = a;
  at = at;
  bytes = record {
    given = c.given;
    answer = answer_after x.served sv x.said all (served_of a.request) c.given p c.answer;
    fails = c.fails;
  };
  hides = h;
  dishonest = c.dishonest;
}
lane_error fs b n x sv hidden all number a (error.ConfigurationError k) p at h c = tt
lane_error fs b n x sv hidden all number a error.Cancelled p at h c = tt
lane_error fs b n x sv hidden all number a (error.InternalWriterError k) p at h c = tt

pub lane_failed : (fs : List Ask) (b n : ClientTold) (x : Exchange) (sv hidden : List Served) (all : List Said)
    (ks : List ℕ) (qs : List Ask) (ss : List LaneStep) → length x.served ≡ length (bytes_in x.said)
    → AreAt fs ks qs → AreOf b n sv all qs ss → IsHidden qs ss hidden
    → IfSome (slice_get ss (length ss - 1))
    (IsLaneEnd fs b (record { asked = x.asked; served = x.served ++ sv; said = x.said ++ all }) hidden)
lane_failed fs b n x sv hidden all ks qs ss p at are hides = by (slice_get ss (length ss - 1)) refl
  where
    P : LaneStep → Type 0
    P = IsLaneEnd fs b (record { asked = x.asked; served = x.served ++ sv; said = x.said ++ all }) hidden

    by : (o : Option LaneStep) → slice_get ss (length ss - 1) ≡ o → IfSome o P
    by None h = tt
    by (Some (step.Served i k d)) h = tt
    by (Some (step.Expired i k)) h = tt
    by (Some (step.Failed e)) h =
        let r = step_of fs b n sv all ks qs ss (length ss - 1) (step.Failed e) at are h in
        lane_error fs b n x sv hidden all r.number r.ask e p r.at (hides_last qs ss hidden r.ask hides r.made) r.of

-- ---- what was served below

-- connections that hide nothing served blocks that passed their tests
pub below_passed : (g : Setup) (es : List Event) (heard : List Exchange) (i lane : ℕ) (xs : List Exchange) (hs : List (List Served)) → NoneBelow i hs → EachServed es lane xs hs → All (EventPassed g heard) es → AllBelow (ServedPassed g heard) i xs
below_passed g es heard zero lane xs hs none t passed = tt
below_passed g es heard (suc i) lane xs [] none t passed = absurd none
below_passed g es heard (suc i) lane [] (h ∷ hs) none t passed = absurd t
below_passed g es heard (suc i) lane (x ∷ xs) (h ∷ hs) none t passed =
    let is : x.served ≡ served_by lane es = t.0 ∙ ap (λ (l : List Served). served_by lane es ++ l) none.0 ∙ append-nil (served_by lane es) in
    (subst (λ (l : List Served). All (EntryPassed g heard) l) (sym is) (served_passed g heard lane [] es passed), below_passed g es heard i (lane + 1) xs hs none.1 t.1 passed)

-- one that hides nothing but the entry of a block served others that passed their tests
pub others_passed : (g : Setup) (es : List Event) (heard : List Exchange) (p k : ℕ) (e : Served) (i lane : ℕ)
    (xs : List Exchange) (hs : List (List Served)) (x : Exchange) (h : List Served) → slice_get xs i ≡ Some x
    → slice_get hs i ≡ Some h → (h ≡ []) ⊎ (h ≡ e ∷ []) → is_pair p k e ≡ true → EachServed es lane xs hs
    → All (EventPassed g heard) es → All (IsBlockOrPassed g heard p k) x.served
others_passed g es heard p k e i lane [] hs x h at there own is t passed = absurd (cc)
others_passed g es heard p k e i lane (y ∷ xs) [] x h at there own is t passed = absurd (cc)
others_passed g es heard p k e zero lane (y ∷ xs) (j ∷ hs) x h at there own is t passed =
    let here : y ≡ x = cc in
    let hidden : j ≡ h = cc in
    let P : Served → Type 0 = IsBlockOrPassed g heard p k in
    let served : x.served ≡ served_by lane es ++ h =
    ap (λ (z : Exchange). z.served) (sym here) ∙ t.0 ∙ ap (λ (l : List Served). served_by lane es ++ l) hidden in
    let done : All P (served_by lane es) = All-weaker (EntryPassed g heard) P (λ z w. inr w) (served_by lane es)
    (served_passed g heard lane [] es passed) in
    let last : All P h = ⊎_elim (λ (z : h ≡ []). subst (All P) (sym z) (All-nil P))
    (λ (z : h ≡ e ∷ []). subst (All P) (sym z) (All-cons P e [] (inl is) (All-nil P))) own in
    subst (All P) (sym served) (All-append P (served_by lane es) h done last)
others_passed g es heard p k e (suc i) lane (y ∷ xs) (j ∷ hs) x h at there own is t passed =
    others_passed g es heard p k e i (lane + 1) xs hs x h at there own is t.1 passed

-- where no connection hides any all did
pub all_passed : (g : Setup) (es : List Event) (heard : List Exchange) (hs : List (List Served)) → all_of hs ≡ [] → EachServed es 0 heard hs → All (EventPassed g heard) es → AllPassed g heard
all_passed g es heard hs none t passed =
    let P : Served → Type 0 = EntryPassed g heard in
    each_heard P es 0 heard hs (λ lane. served_passed g heard lane [] es passed) (subst (λ (l : List Served). All P l) (sym none) (All-nil P)) t

-- ---- counts

pub some_rose : (Q : Exchange → Type 0) (bs ns : List ClientTold) (xs : List Exchange) → LowestRose Q bs ns xs
    → SomeRose bs ns
some_rose Q [] ns xs h = absurd h
some_rose Q (b ∷ bs) [] xs h = absurd h
some_rose Q (b ∷ bs) (n ∷ ns) [] h = absurd h
some_rose Q (b ∷ bs) (n ∷ ns) (x ∷ xs) h = ⊎_elim (λ (r : Rose b.faults n.faults). inl r)
    (λ (r : LowestRose Q bs ns xs). inr (some_rose Q bs ns xs r)) h.1

-- where they rose since a later moment, they rose since the start
pub rose_since : (Q : Exchange → Type 0) (es : List Event) (l : ℕ) (bs ms ns : List ClientTold)
    (hs : List (List Served)) (ks : List (List Place)) (xs : List Exchange) → EachLane es l bs ms hs ks
    → LowestRose Q ms ns xs → LowestRose Q bs ns xs
rose_since Q es l bs [] ns hs ks xs t r = absurd r
rose_since Q es l [] (m ∷ ms) ns hs ks xs t r = absurd t
rose_since Q es l (b ∷ bs) (m ∷ ms) [] hs ks xs t r = absurd r
rose_since Q es l (b ∷ bs) (m ∷ ms) (n ∷ ns) hs ks [] t r = absurd r
rose_since Q es l (b ∷ bs) (m ∷ ms) (n ∷ ns) [] ks (x ∷ xs) t r = absurd t
rose_since Q es l (b ∷ bs) (m ∷ ms) (n ∷ ns) (h ∷ hs) [] (x ∷ xs) t r = absurd t
rose_since Q es l (b ∷ bs) (m ∷ ms) (n ∷ ns) (h ∷ hs) (k ∷ ks) (x ∷ xs) t r = (
  r.0,
  ⊎_elim (λ (w : Rose m.faults n.faults). inl (rose b.faults m.faults n.faults t.0.goes_on.faults w))
      (λ (w : LowestRose Q ms ns xs). inr (rose_since Q es (l + 1) bs ms ns hs ks xs t.1 w)) r.1,
)
  where
    rose : (x y z : ℕ) → x ≤ y → Rose y z → Rose x z
    rose x y z a h = omega arith
