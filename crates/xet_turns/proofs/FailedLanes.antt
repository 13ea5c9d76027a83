-- The causes of the error of a lane.
use Rattle.std.proofs.Common.{◌≡◌, ℕ, zero, suc, ◌+◌, List, [], ◌∷◌, ◌++◌, refl, sym, subst, ◌∙◌, ap, arith, None, Some, Option, inl, inr}
use Rattle.std.specs.Prelude.{All, IfSome, ◌⊎◌, ◌-◌, ◌==◌, false, true, length, option_map, slice_get}
use Rattle.std.proofs.lemmas.Bool.{and_from, eq-eqb}
use Rattle.std.specs.Option.{is_some}
use Rattle.std.proofs.lemmas.Option.{slice_get-map}
use Rattle.xet_base.specs.declared.merklehash.MerkleHash.{MerkleHash}
use Rattle.xet_base.specs.Store.{Store}
use Rattle.xet_outside.specs.Answers.{AnswerTo}
use Rattle.xet_outside.specs.declared.said.Said.{Said}
use Rattle.xet_outside.specs.declared.served.Served.{Served}
use Rattle.xet_outside.specs.Plan.{shape}
use Rattle.xet_outside.specs.Told.{ClientTold, Query, served_of}
use Rattle.xet_error.specs.declared.error.Corruption.{Corruption}
use Rattle.xet_error.specs.declared.error.FileReconstructionError.{FileReconstructionError}
use Rattle.xet_error.specs.declared.error.FileReconstructionError.TheVariants as error
use Rattle.xet_offers.specs.declared.reconstruction_terms.xorb_block.XorbBlock.{XorbBlock}
use Rattle.xet_offers.specs.declared.reconstruction_terms.xorb_block.XorbBlockData.{XorbBlockData}
use Rattle.xet_offers.specs.BlockCalls.{failed_check}
use Rattle.xet_blocks.specs.TermBlocks.{xorb_blocks}
use Rattle.xet_events.specs.declared.event.Event.{Event}
use Rattle.xet_ties.specs.Causes.{BlockFailsIn, Cause, FirstFailed, IsBlockOrPassed, IsBlockTest, LaneFails, LowestRose, QueryFailed}
use Rattle.xet_ties.specs.InCall.{AllBelow, answers_of, EachExchange, EachGrew, Exchange}
use Rattle.xet_ties.specs.Lanes.{Ask, EachDrew, HoldsAsk, IsFor, bytes_of_ask, entries_of, error_faults}
use Rattle.xet_ties.specs.Saids.{BlockOfPlan, EventPassed, ServedPassed}
use Rattle.xet_ties.specs.Setup.{AllTell, IsOver, RunTold, Setup}
use Rattle.xet_ties.specs.Rounds.{AreLaneEnds, FailsAsk, IsLaneEnd, IsMissingAsk, LaneFailure, NoneBelow}
use Rattle.xet_ties.specs.Ties.{EachServed, FirstAsked, FirstUnfailed, IsFaultless, Slack, Ties, is_pair}
use Rattle.xet_ties.proofs.CallerLemmas.{accepted_more, below_passed, fetch_entry, is_check, others_passed, rose_since, tells_now}
use Rattle.xet_lane.specs.Fetches.{error_at, last_error}
use Rattle.xet_lane.specs.Ends.{End, steps_of}
use Rattle.xet_lane.proofs.CallerLemmas.{FailedLane}
use Rattle.xet_leader.specs.Led.{IsLed, IsLedPlan, Led, bare}
use Rattle.xet_turns.specs.Rounds.{IsLedAsk}
use Rattle.xet_leader.proofs.CallerLemmas.{IsHonestOf, led_honest}
use Rattle.xet_turns.proofs.LastSteps.{LastFails, all_made, last_fails}
use Rattle.xet_turns.proofs.ServedLed.{led_keeps, plan_at}
use Rattle.xet_ties.specs.declared.lane_step.LaneStep.{LaneStep}
use Rattle.xet_ties.specs.declared.lane_step.LaneStep.TheVariants as step
use Rattle.std.proofs.lemmas.List.Elements.{All-head, All-tail}

-- ---- counts

-- the last step of a lane failed so, on a connection that told this before and after
record FailedStep (P : Ask → Type 0) (e : FileReconstructionError) : Type 0 where
  before : ClientTold
  after : ClientTold
  served : List Served
  said : List Said
  last : LastFails P before after served said e

lane_fails : (P : Ask → Type 0) (fs : List Ask) (bs ns : List ClientTold) (drawn : List (List ℕ)) (es : List End)
    (i : ℕ) (end : End) (e : FileReconstructionError) → All P fs → EachDrew fs bs ns drawn (steps_of es)
    → slice_get es i ≡ Some end → last_error end.steps ≡ Some e → FailedStep P e
lane_fails P fs bs ns drawn [] i end e h d at last = absurd (cc)
lane_fails P fs bs ns [] (x ∷ es) i end e h d at last = absurd d
lane_fails P fs [] ns (q ∷ qs) (x ∷ es) i end e h d at last = absurd d
lane_fails P fs (b ∷ bs) [] (q ∷ qs) (x ∷ es) i end e h d at last = absurd d
lane_fails P fs (b ∷ bs) (n ∷ ns) (q ∷ qs) (x ∷ es) zero end e h d at last =
    let same : x ≡ end = cc in
    let did = d.0.did in
    record {
      before = b;
      after = n;
      served = entries_of d.0.made x.steps ++ did.hidden;
      said = did.said;
      last = last_fails P b n (entries_of d.0.made x.steps ++ did.hidden) did.said d.0.made x.steps e did.are
          (all_made P fs q d.0.made h d.0.at) (ap (λ (y : End). last_error y.steps) same ∙ last);
    }
lane_fails P fs (b ∷ bs) (n ∷ ns) (q ∷ qs) (x ∷ es) (suc i) end e h d at last =
    lane_fails P fs bs ns qs es i end e h d.1 at last

lane_rose : (Q : Exchange → Type 0) (fs : List Ask) (bs ns : List ClientTold) (drawn : List (List ℕ)) (es : List End)
    (i : ℕ) (end : End) (xs : List Exchange) → EachDrew fs bs ns drawn (steps_of es) → slice_get es i ≡ Some end
    → last_error end.steps ≡ Some error.ClientError → AllBelow Q (suc i) xs → LowestRose Q bs ns xs
lane_rose Q fs bs ns drawn [] i end xs d at last upto = absurd (cc)
lane_rose Q fs bs ns [] (x ∷ es) i end xs d at last upto = absurd d
lane_rose Q fs [] ns (q ∷ qs) (x ∷ es) i end xs d at last upto = absurd d
lane_rose Q fs (b ∷ bs) [] (q ∷ qs) (x ∷ es) i end xs d at last upto = absurd d
lane_rose Q fs (b ∷ bs) (n ∷ ns) (q ∷ qs) (x ∷ es) i end [] d at last upto = absurd upto
lane_rose Q fs (b ∷ bs) (n ∷ ns) (q ∷ qs) (x ∷ es) zero end (y ∷ ys) d at last upto =
    let same : x ≡ end = cc in
    let did = d.0.did in
    let f = last_fails (λ a. Unit {0}) b n (entries_of d.0.made x.steps ++ did.hidden) did.said d.0.made x.steps
    error.ClientError did.are (λ k y w. tt) (ap (λ (y : End). last_error y.steps) same ∙ last) in
    (upto.0, inl f.cause)
lane_rose Q fs (b ∷ bs) (n ∷ ns) (q ∷ qs) (x ∷ es) (suc i) end (y ∷ ys) d at last upto =
    (upto.0, inr (lane_rose Q fs bs ns qs es i end ys d.1 at last upto.1))

-- ---- what was heard in the join

-- what holds of the last step of a lane, which failed so
last_holds : (P : LaneStep → Type 0) (o : Option LaneStep) (e : FileReconstructionError) → IfSome o P
    → error_at o ≡ Some e → P (step.Failed e)
last_holds P None e h last = absurd (cc)
last_holds P (Some (step.Served p k d)) e h last = absurd (cc)
last_holds P (Some (step.Expired p k)) e h last = absurd (cc)
last_holds P (Some (step.Failed x)) e h last =
    let same : x ≡ e = cc in subst (λ (y : FileReconstructionError). P (step.Failed y)) same h

-- the bytes that failed a test, of the lowest lane that has an error, which hides no other entry; no connection tells a
-- store whose block passes
record LowestFailure (fs : List Ask) (bs : List ClientTold) (xs : List Exchange) (hs : List (List Served)) (lane : ℕ)
    (k : Corruption) : Type 0 where
  number : ℕ
  ask : Ask
  at : slice_get fs number ≡ Some ask
  exchange : Exchange
  there : slice_get xs lane ≡ Some exchange
  own : FailsAsk ask k exchange
  hidden : List Served
  hidden_at : slice_get hs lane ≡ Some hidden
  hides : (hidden ≡ []) ⊎ (hidden ≡ served_of ask.request ∷ [])
  dishonest : (s : Store) → AllTell s bs → HoldsAsk s ask → failed_check ask.block (bytes_of_ask s ask) ≡ None → ⊥

lowest_failure : (fs : List Ask) (bs : List ClientTold) (xs : List Exchange) (hs : List (List Served)) (es : List End)
    (i : ℕ) (end : End) (k : Corruption) → AreLaneEnds fs bs xs hs (steps_of es) → slice_get es i ≡ Some end
    → last_error end.steps ≡ Some (error.CorruptedReconstruction k) → LowestFailure fs bs xs hs i k
lowest_failure fs bs xs hs [] i end k h at last = absurd (cc)
lowest_failure fs [] xs hs (e ∷ es) i end k h at last = absurd h
lowest_failure fs (b ∷ bs) [] hs (e ∷ es) i end k h at last = absurd h
lowest_failure fs (b ∷ bs) (x ∷ xs) [] (e ∷ es) i end k h at last = absurd h
lowest_failure fs (b ∷ bs) (x ∷ xs) (j ∷ hs) (e ∷ es) zero end k h at last =
    let same : e ≡ end = cc in
    let f : LaneFailure fs b x j k = last_holds (IsLaneEnd fs b x j) (slice_get e.steps (length e.steps - 1))
    (error.CorruptedReconstruction k) h.0 (ap (λ (y : End). last_error y.steps) same ∙ last) in
    record {
      number = f.number;
      ask = f.ask;
      at = f.at;
      exchange = x;
      there = refl;
      own = f.bytes;
      hidden = j;
      hidden_at = refl;
      hides = f.hides;
      dishonest = λ s tell. f.dishonest s tell.0;
    }
lowest_failure fs (b ∷ bs) (x ∷ xs) (j ∷ hs) (e ∷ es) (suc i) end k h at last =
    let r = lowest_failure fs bs xs hs es i end k h.1 at last in
    record {
      number = r.number;
      ask = r.ask;
      at = r.at;
      exchange = r.exchange;
      there = r.there;
      own = r.own;
      hidden = r.hidden;
      hidden_at = r.hidden_at;
      hides = r.hides;
      dishonest = λ s tell. r.dishonest s tell.1;
    }

-- a fetch by its place
ask_at : (P : Ask → Type 0) (fs : List Ask) (k : ℕ) (a : Ask) → All P fs → slice_get fs k ≡ Some a → P a
ask_at P [] k a h e = absurd (cc)
ask_at P (f ∷ fs) zero a h e = let same : f ≡ a = cc in subst P same (All-head P f fs h)
ask_at P (f ∷ fs) (suc k) a h e = ask_at P fs k a (All-tail P f fs h) e

-- ---- the fetch is of a block of an accepted plan

pub record IsOwnAsk (es : List Event) (l : Led) (a : Ask) : Type 0 where
  pub own : IsFor a
  pub led : IsLedAsk l.plans a
  pub missing : IsMissingAsk es a

pub own_asks : (es : List Event) (l : Led) (fs : List Ask) → All IsFor fs → All (IsLedAsk l.plans) fs
    → All (IsMissingAsk es) fs → All (IsOwnAsk es l) fs
own_asks es l fs own led missing = λ k d w. record { own = own k d w; led = led k d w; missing = missing k d w }

-- a store that is told has each fetch's block, which passes its tests
pub honest_ask : (g : Setup) (b : RunTold) (es : List Event) (sl : Slack) (l : Led) (a : Ask) (s : Store)
    → IsLed g b es sl [] l → IsOver s b.clients → IsLedAsk l.plans a → IsHonestOf s a.block
honest_ask g b es sl l a s led over h = led_honest g b es sl [] h.plan a.request.index a.block
    (plan_at (IsLedPlan g b es sl []) l.plans h.index h.plan h.at led.plans.each) h.in_plan s over

lane_failed : (g : Setup) (b : RunTold) (es : List Event) (sl : Slack) (l : Led) (a : Ask) (k : Corruption)
    (ys : List Exchange) (ns : List ClientTold) (i : ℕ) (x : Exchange) → slice_get ys i ≡ Some x → FailsAsk a k x
    → All (IsBlockOrPassed g ys a.request.acquisition.plan a.request.index) x.served
    → AllBelow (ServedPassed g ys) i ys → FirstUnfailed (suc i) b.clients ns → IsLed g b es sl [] l → IsOwnAsk es l a
    → EachGrew sl.heard ys
    → LaneFails g ys b.clients ns k
lane_failed g b es sl l a k ys ns i x listed own others below unfailed led h grew =
    let m = h.led in
    let kk = a.request.index in
    let q = plan_at (IsLedPlan g b es sl []) l.plans m.index m.plan m.at led.plans.each in
    let none : is_some a.block.kept ≡ false = led_keeps g b es sl [] l a.request.acquisition.plan kk a.block m led
    ∙ h.missing.absent in
    let same : bare a.block ≡ a.block = ap (λ (o : Option XorbBlockData). record a.block { kept = o })
    (sym (kept_none a.block.kept none)) in
    let there : slice_get (xorb_blocks (shape q.plan) g.multirange) kk ≡ Some (bare a.block) =
    ap (λ (l : List XorbBlock). slice_get l kk) (sym q.blocks) ∙ slice_get-map bare m.plan.block.blocks kk
    ∙ ap (λ (o : Option XorbBlock). option_map bare o) m.in_plan in
    let place : BlockOfPlan g ys = record {
      plan = q.plan;
      query = q.query;
      accepted = accepted_more g sl.heard ys q.plan q.query grew q.accepted;
      number = kk;
      block =
          a.block;
      numbered = there ∙ ap Some same;
    } in
    let p : ℕ = a.request.acquisition.plan in
    let next : suc i ≡ i + 1 = omega arith in
    let fails : (y : Exchange) → FailsAsk a k y → BlockFailsIn g ys place p k y = λ y f. record {
      given = f.given;
      answer = subst (λ (e : Served). AnswerTo y.served y.said e f.given) (fetch_entry a h.own) f.answer;
      fails = f.fails;
    } in
    record {
      lane = i;
      exchange = x;
      at = listed;
      place = place;
      number = p;
      own = sym m.number ∙ q.said_as;
      bytes = fails x own;
      others = others;
      passed = below;
      unfailed = subst (λ (n : ℕ). FirstUnfailed n b.clients ns) next unfailed;
    }
  where
    kept_none : (o : Option XorbBlockData) → is_some o ≡ false → o ≡ None
    kept_none None h = refl
    kept_none (Some d) h = absurd (cc)

-- ---- what the first connection alone tells

-- where the test is one of a block it needs to tell nothing of it
first_failed : (g : Setup) (f : MerkleHash) (es : List Event) (lost : List Query) (bs ms ns : List ClientTold)
    (ys : List Exchange) (k : Corruption) → FirstAsked f es lost bs ms → EachExchange bs ns ys → IsBlockTest k
    → FirstFailed g bs ns k
first_failed g f es lost [] ms ns ys k a t test = absurd a
first_failed g f es lost (b ∷ bs) ms [] ys k a t test = absurd t
first_failed g f es lost (b ∷ bs) ms (n ∷ ns) ys k a t test = always (answers_of b n)
  where
    always : (o : Option Exchange) → IfSome o (λ x. QueryFailed g (x ∷ []) k ⊎ IsBlockTest k)
    always None = tt
    always (Some x) = inr test

-- ---- the causes

-- what was heard after a join, all of which is recorded but what lanes hide: none below the lane that failed, nor in
-- that lane itself where its call failed
pub record IsHeardJoin (g : Setup) (all : List Event) (hs : List (List Served)) (i : ℕ) (e : FileReconstructionError)
    (ys : List Exchange) : Type 0 where
  pub served : EachServed all 0 ys hs
  pub passed : All (EventPassed g ys) all
  pub below : NoneBelow i hs
  pub upto : e ≡ error.ClientError → NoneBelow (suc i) hs

-- the entry of a fetch is of its block
own_pair : (a : Ask) → is_pair a.request.acquisition.plan a.request.index (served_of a.request) ≡ true
own_pair a =
    let p = a.request.acquisition.plan in
    let k = a.request.index in
    and_from (p == p) (k == k) (eq-eqb p p refl) (eq-eqb k k refl)

-- the error of a lane's last step has its cause, by what was heard after the join
pub lane_cause : (g : Setup) (b at : RunTold) (es : List Event) (sl : Slack) (ns : List ClientTold) (fs : List Ask)
    (drawn : List (List ℕ)) (ends : List End) (l : Led) (e : FileReconstructionError) (ys : List Exchange)
    (all : List Event) (hs : List (List Served)) → All (IsOwnAsk es l) fs → EachDrew fs at.clients ns drawn (steps_of ends) → (f : FailedLane ends e)
    → EachGrew sl.heard ys → EachExchange b.clients ns ys
    → AreLaneEnds fs at.clients ys hs (steps_of ends) → IsHeardJoin g all hs f.at e ys
    → (error_faults e ≡ false → FirstUnfailed (suc f.at) b.clients ns)
    → Ties g b at es None sl → IsLed g b es sl [] l → Cause g ys b (record at { clients = ns }) e
lane_cause g b at es sl ns fs drawn ends l error.OutOfMemory ys all hs own d f grew each failed join calm t led = tt
lane_cause g b at es sl ns fs drawn ends l error.ClientError ys all hs own d f grew each failed join calm t led =
    let Q = ServedPassed g ys in
    rose_since Q es 0 b.clients at.clients ns sl.hidden sl.late ys t.served.lanes
    (lane_rose Q fs at.clients ns drawn ends f.at f.end ys d f.there f.error
    (below_passed g all ys (suc f.at) 0 ys hs (join.upto refl) join.served join.passed))
lane_cause g b at es sl ns fs drawn ends l error.FileNotFound ys all hs own d f grew each failed join calm t led =
    absurd (lane_fails (IsOwnAsk es l) fs at.clients ns drawn ends f.at f.end error.FileNotFound own d f.there
    f.error).last.cause
lane_cause g b at es sl ns fs drawn ends l error.UrlExpired ys all hs own d f grew each failed join calm t led =
    absurd (lane_fails (IsOwnAsk es l) fs at.clients ns drawn ends f.at f.end error.UrlExpired own d f.there
    f.error).last.cause
lane_cause g b at es sl ns fs drawn ends l error.IoError ys all hs own d f grew each failed join calm t led =
    absurd (lane_fails (IsOwnAsk es l) fs at.clients ns drawn ends f.at f.end error.IoError own d f.there
    f.error).last.cause
lane_cause g b at es sl ns fs drawn ends l (error.CorruptedReconstruction k) ys all hs own d f grew each failed join calm t led =
    let r = lowest_failure fs at.clients ys hs ends f.at f.end k failed f.there f.error in
    let holds = ask_at (IsOwnAsk es l) fs r.number r.ask own r.at in
    let others = others_passed g all ys r.ask.request.acquisition.plan r.ask.request.index (served_of r.ask.request)
    f.at 0 ys hs r.exchange r.hidden r.there r.hidden_at r.hides (own_pair r.ask) join.served join.passed in
    let below = below_passed g all ys f.at 0 ys hs join.below join.served join.passed in
    let fails = lane_failed g b es sl l r.ask k ys ns f.at r.exchange r.there r.own others below (calm refl) led
    holds grew in
    record {
      untrue = λ s over.
          let honest = honest_ask g b es sl l r.ask s led over holds.led in
          r.dishonest s (tells_now s es 0 b.clients at.clients sl.hidden sl.late t.served.lanes over.tell)
          honest.holds honest.passes;
      failed = inr fails;
      first = first_failed g g.file es sl.lost b.clients at.clients ns ys k t.asked each
          (is_check k r.ask.block r.own.given r.own.fails);
    }
lane_cause g b at es sl ns fs drawn ends l (error.ConfigurationError e) ys all hs own d f grew each failed join calm t led =
    absurd (lane_fails (IsOwnAsk es l) fs at.clients ns drawn ends f.at f.end
    (error.ConfigurationError e) own d f.there f.error).last.cause
lane_cause g b at es sl ns fs drawn ends l error.Cancelled ys all hs own d f grew each failed join calm t led =
    absurd (lane_fails (IsOwnAsk es l) fs at.clients ns drawn ends f.at f.end error.Cancelled own d f.there
    f.error).last.cause
lane_cause g b at es sl ns fs drawn ends l (error.InternalWriterError w) ys all hs own d f grew each failed join calm t led =
    absurd (lane_fails (IsOwnAsk es l) fs at.clients ns drawn ends f.at f.end
    (error.InternalWriterError w) own d f.there f.error).last.cause

-- no lane's last step answers that tries are used up
pub never_spent : (g : Setup) (es : List Event) (l : Led) (ms ns : List ClientTold) (fs : List Ask)
    (drawn : List (List ℕ)) (ends : List End) → All (IsOwnAsk es l) fs → EachDrew fs ms ns drawn (steps_of ends)
    → FailedLane ends error.UrlExpired → ⊥
never_spent g es l ms ns fs drawn ends own d f =
    (lane_fails (IsOwnAsk es l) fs ms ns drawn ends f.at f.end error.UrlExpired own d f.there f.error).last.cause

-- nor an error that no failed call of a connection goes with
pub never_calm : (g : Setup) (es : List Event) (l : Led) (ms ns : List ClientTold) (fs : List Ask)
    (drawn : List (List ℕ)) (ends : List End) (e : FileReconstructionError) → All (IsOwnAsk es l) fs
    → EachDrew fs ms ns drawn (steps_of ends) → FailedLane ends e → IsFaultless (Some e) → ⊥
never_calm g es l ms ns fs drawn ends e own d f c =
    by e c (lane_fails (IsOwnAsk es l) fs ms ns drawn ends f.at f.end e own d f.there f.error)
  where
    by : (x : FileReconstructionError) → IsFaultless (Some x) → FailedStep (IsOwnAsk es l) x → ⊥
    by error.OutOfMemory c h = c
    by error.ClientError c h = c
    by error.FileNotFound c h = h.last.cause
    by error.UrlExpired c h = h.last.cause
    by error.IoError c h = c
    by (error.CorruptedReconstruction k) c h = c
    by (error.ConfigurationError k) c h = h.last.cause
    by error.Cancelled c h = h.last.cause
    by (error.InternalWriterError w) c h = h.last.cause
