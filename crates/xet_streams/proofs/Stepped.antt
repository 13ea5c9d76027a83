-- One step of a stream, from its parts.
use Rattle.std.proofs.Common.{◌≡◌, inr, ⊎_elim, ℕ, zero, suc, ◌≤◌, ◌<◌, Bool, List, [], ◌∷◌, ◌++◌, length, refl, sym, subst, ◌∙◌, ap, arith, append_assoc, Option, Some, None, Ok, Err, length-append}
use Rattle.std.specs.Prelude.{Contains, IfSome, count_by, slice_get}
use Rattle.std.proofs.lemmas.List.{append-nil}
use Rattle.std.proofs.lemmas.List.Elements.{Contains-append_left, Contains-append_right}
use Rattle.xet_error.specs.declared.error.FileReconstructionError.{FileReconstructionError}
use Rattle.xet_events.specs.declared.event.Event.{Event}
use Rattle.xet_events.specs.declared.event.Event.TheVariants.{Wrote}
use Rattle.xet_events.specs.Events.{Task, expires}
use Rattle.xet_events.specs.Limits.{LimitTold}
use Rattle.xet_parts.specs.Admissions.{admits}
use Rattle.xet_ties.specs.History.{is_expiry}
use Rattle.xet_ties.specs.Saids.{some_of}
use Rattle.xet_ties.specs.Setup.{Setup}
use Rattle.xet_leader.specs.declared.ahead.NextTerm.{NextTerm}
use Rattle.xet_leader.specs.Led.{Led}
use Rattle.xet_stream_rules.specs.declared.step.Step.{Step}
use Rattle.xet_stream_rules.specs.declared.step.Step.TheVariants.{Pending, Ready}
use Rattle.xet_stream_rules.specs.Moments.{At, Goes}
use Rattle.xet_stream_rules.specs.MomentCauses.{CauseAt, SpentIn}
use Rattle.xet_stream_rules.specs.Streams.{Carries, delivered, is_wrote, left_for, next_term, nobody}
use Rattle.xet_stream_rules.specs.StepTold.{counted_fetches}
use Rattle.xet_stream_rules.proofs.CallerLemmas.{cause_among, cause_from, count_by-append, goes_both, lasts_same, none_next, some-append, spent_among, tells_nobody}
use Rattle.xet_stream_terms.specs.Admitting.{Admits}
use Rattle.xet_stream_terms.specs.Planning.{IsMarked, PlansNext}
use Rattle.xet_stream_terms.specs.PlanParts.{PlanFails, PlanPart}
use Rattle.xet_stream_terms.proofs.CallerLemmas.{marks_on, plan_part}
use Rattle.xet_stream_blocks.specs.BlockParts.{BlockFails}
use Rattle.xet_stream_blocks.proofs.CallerLemmas.{block_part, counts_block, nothing_provided}
use Rattle.xet_streams.specs.steps.Stepping.{Admitted, AdmitsShort, Delivers, DeliversVain, HandsAt, ServesCall, StepAnswer, StepFailed, StepTaken, TakesStep, left_at}
use Rattle.xet_streams.proofs.Working.{counts_admits, counts_all, well, worked}

-- ---- how many steps may be pending

get_left : {A : Type 0} (xs ys : List A) (i : ℕ) (x : A) → slice_get xs i ≡ Some x → slice_get (xs ++ ys) i ≡ Some x
get_left [] ys i x h = absurd (cc)
get_left (z ∷ xs) ys zero x h = h
get_left (z ∷ xs) ys (suc i) x h = get_left xs ys i x h

-- events without a piece leave no more of them
left_grows : (g : Setup) (es new : List Event) → delivered new ≡ 0 → left_at g (es ++ new) ≤ left_at g es
left_grows g es new none = by (next_term es) refl (next_term (es ++ new)) refl
  where
    by : (o : Option Task) → next_term es ≡ o → (q : Option Task) → next_term (es ++ new) ≡ q
        → left_at g (es ++ new) ≤ left_at g es
    by None e None f =
        let a = ap (λ (v : Option Task). left_for g.tries es v) e in
        let b = ap (λ (v : Option Task). left_for g.tries (es ++ new) v) f in
        omega (arith, a, b)
    by None e (Some t) f =
        let a = ap (λ (v : Option Task). left_for g.tries es v) e in
        let b = ap (λ (v : Option Task). left_for g.tries (es ++ new) v) f in
        omega (arith, a, b)
    by (Some t) e q f =
        let d = count_by-append is_wrote es new in
        let same : delivered (es ++ new) ≡ delivered es = omega (arith, d, none) in
        let there : next_term (es ++ new) ≡ Some t =
        ap (λ (n : ℕ). slice_get (some_of (es ++ new)) n) same
        ∙ ap (λ (ts : List Task). slice_get ts (delivered es)) (some-append es new)
        ∙ get_left (some_of es) (some_of new) (delivered es) t e in
        let a = ap (λ (v : Option Task). left_for g.tries es v) e in
        let b = ap (λ (v : Option Task). left_for g.tries (es ++ new) v) there in
        let c = count_by-append (expires t.plan t.term.block) es new in
        omega (arith, a, b, c)

-- ---- parts of which there is nothing

abbrev pub no_admits : (g : Setup) (x : At) (l : LimitTold) → Admits g x x l l []
no_admits g x l = record { limits = []; added = sym (append-nil x.events); given = refl; lasts = lasts_same g x }

into_all : (xs ls ys : List Event) (v : Event) → Contains ys v → Contains (xs ++ (ls ++ ys)) v
into_all xs ls ys v h = Contains-append_right xs (ls ++ ys) v (Contains-append_right ls ys v h)

-- ---- the plan failed

pub plan_failed : (g : Setup) (x y : At) (l : LimitTold) (e : FileReconstructionError) → PlanFails g x y e
    → StepFailed g x y l l e
plan_failed g x y l e h =
    let idle = nothing_provided g y in
    let none = no_admits g y l in
    let work = worked g x y y y l l [] h.part none (omega arith) refl refl idle tt in
    let counts = counts_all g x y y y l l [] h.part none (omega arith) refl refl idle tt in
    let late = counts.late_are in
    let fewer = count_by-append is_expiry work.new [] in
    record {
      work = work;
      cause = cause_among g x y h.part.new work.new _ work.asks refl
          (λ v c. Contains-append_left h.part.new (admits [] ++ idle.new) v c) e h.cause;
      spent = λ s. absurd (let n = (spent_among g work.new [] y.events (omega (arith, late))
          (subst (λ (v : List Event). SpentIn g v y.events) (sym (append-nil work.new)) s)).last.1 in omega (arith, n));
    }

-- ---- there is no next term

pub none_planned : (g : Setup) (x p : At) (l : LimitTold) (reached : Bool) → Carries nobody g x.events x.led
    → p.cache ≡ x.cache → PlansNext g x p reached None → StepTaken g x p l l reached (Ready None)
none_planned g x p l reached c cache h =
    let plan = plan_part g x p cache h.plans in
    let idle = nothing_provided g p in
    let none = no_admits g p l in
    let now = h.plans.goes.carries nobody (tells_nobody x.clients x.cache) c in
    record {
      end = p;
      worked = well g x p p p l l [] plan none (omega arith) refl refl idle tt refl refl refl refl h.plans.goes
          h.plans.fetches;
      hands = (record { all = none_next nobody g p.events p.led now h.next_is; reached = λ some. h.end refl }, refl);
      goes = h.plans.goes;
      marked = h.marked;
      moved = λ e. absurd (cc);
      falls = λ e. absurd (cc);
    }

-- ---- there is one

module _ (g : Setup) (x p y : At) (before after : LimitTold) (reached : Bool) (n : NextTerm)
    (c : Carries nobody g x.events x.led) (cache : p.cache ≡ x.cache) (h : PlansNext g x p reached (Some n)) where
  abbrev plan : PlanPart g x p
  plan = plan_part g x p cache h.plans

  -- memory was wanting for an admission
  pub admits_failed : (e : FileReconstructionError) → AdmitsShort g p y before after e
      → StepFailed g x y before after e
  admits_failed e s =
      let idle = nothing_provided g y in
      let work = worked g x p y y before after (s.last ∷ []) plan s.admits (omega arith) s.clients s.cache idle tt in
      record {
        work = work;
        cause = subst (CauseAt g x y work.new work.asks) (sym s.memory) tt;
        spent = λ v. inr s.memory;
      }

  module _ (a : At) (admitted : Admitted g p a before after n) where
    fetches : a.led.fetches ≡ x.led.fetches
    fetches = ap (λ (l : Led). l.fetches) admitted.admits.led ∙ h.plans.fetches

    fetches_for : {A : Type 0} (o : Option A) → IfSome o (λ _. a.led.fetches ≡ x.led.fetches)
    fetches_for None = tt
    fetches_for (Some b) = fetches

    to_admitted : Goes g x a
    to_admitted = goes_both g x p a h.plans.goes admitted.admits.goes

    -- the block was provided in vain
    pub block_failed : (e : FileReconstructionError) → BlockFails g a y e → StepFailed g x y before after e
    block_failed e f =
        let ls = admits admitted.admits.admits.limits in
        let work = worked g x p a y before after [] plan admitted.admits.admits (omega arith) admitted.clients
        admitted.cache f.part (fetches_for f.part.block) in
        let late = counts_before in
        record {
          work = work;
          cause = cause_among g x y f.part.new work.new _ work.asks refl
              (into_all plan.new ls f.part.new) e
              (cause_from g x a y to_admitted f.part.new _ e f.cause);
          spent = λ s. f.spent (spent_among g (plan.new ++ ls) f.part.new y.events late
              (subst (λ (v : List Event). SpentIn g v y.events) (sym (append_assoc plan.new ls f.part.new)) s));
        }
      where
        counts_before : count_by is_expiry (plan.new ++ admits admitted.admits.admits.limits) ≡ 0
        counts_before =
            let one = plan.counts.late_are in
            let two = (counts_admits admitted.admits.admits.limits).late_are in
            let sum = count_by-append is_expiry plan.new (admits admitted.admits.admits.limits) in
            omega (arith, one, two, sum)

    -- or it was, and its bytes were handed over if they were there
    pub delivered_next : (answer : Step (Option (List ℕ))) → Delivers g a y answer
        → StepTaken g x y before after reached answer
    delivered_next answer d =
        let block = block_part g a d.middle d.place d.provided in
        let z = counts_block d.provided.lane d.place d.provided.block d.provided.again d.provided.new d.provided.is in
        let one = z.one in
        let to_middle = goes_both g x a d.middle to_admitted d.provided.goes in
        let w = well g x p a d.middle before after [] plan admitted.admits.admits (omega arith) admitted.clients
        admitted.cache block (fetches_for block.block) refl one refl refl to_middle
        (d.provided.fetches ∙ ap (λ (k : ℕ). counted_fetches k d.provided.block) fetches) in
        record {
          end = d.middle;
          worked = w;
          hands = d.hands;
          goes = goes_both g x d.middle y to_middle d.goes;
          marked = marked_after;
          moved = λ e. longer (d.moved e);
          falls = λ e. fewer (d.falls e);
        }
      where
        ls : List Event
        ls = admits admitted.admits.admits.limits

        longer : 0 < length d.provided.new → 0 < length (plan.new ++ (ls ++ d.provided.new))
        longer some =
            let k = length-append plan.new (ls ++ d.provided.new) in
            let m = length-append ls d.provided.new in
            omega (arith, some, k, m)

        -- what is left falls by the block alone
        fewer : left_at g d.middle.events < left_at g a.events → left_at g d.middle.events < left_at g x.events
        fewer less =
            let pieces = plan.counts.pieces_are in
            let none = (counts_admits admitted.admits.admits.limits).pieces_are in
            let one : left_at g p.events ≤ left_at g x.events =
            subst (λ (v : List Event). left_at g v ≤ left_at g x.events) (sym plan.added)
            (left_grows g x.events plan.new pieces) in
            let two : left_at g a.events ≤ left_at g p.events =
            subst (λ (v : List Event). left_at g v ≤ left_at g p.events) (sym admitted.admits.admits.added)
            (left_grows g p.events ls none) in
            omega (arith, less, one, two)

        marked_middle : IsMarked g.range d.middle.events reached
        marked_middle =
            let z = counts_block d.provided.lane d.place d.provided.block d.provided.again d.provided.new d.provided.is in
            let at_admitted : IsMarked g.range a.events reached =
            subst (λ (v : List Event). IsMarked g.range v reached) (sym admitted.admits.admits.added)
            (marks_on g.range p.events ls reached (counts_admits admitted.admits.admits.limits).plans_are h.marked) in
            subst (λ (v : List Event). IsMarked g.range v reached) (sym d.provided.added)
            (marks_on g.range a.events d.provided.new reached z.are.plans_are at_admitted)

        marked_after : IsMarked g.range y.events reached
        marked_after = by answer d.hands
          where
            by : (o : Step (Option (List ℕ))) → HandsAt g d.middle y o → IsMarked g.range y.events reached
            by Pending h = subst (λ (v : At). IsMarked g.range v.events reached) (sym h.2) marked_middle
            by (Ready None) h = subst (λ (v : At). IsMarked g.range v.events reached) (sym h.1) marked_middle
            by (Ready (Some piece)) h = subst (λ (v : At). IsMarked g.range v.events reached) (sym h.1.is)
                (marks_on g.range d.middle.events (Wrote (length piece) ∷ []) reached refl marked_middle)

-- ---- one call of `take_step`

-- where a next term is planned, by what serving it came to
pub step_served : (g : Setup) (x p y : At) (before after : LimitTold) (reached : Bool) (n : NextTerm)
    → Carries nobody g x.events x.led → p.cache ≡ x.cache → PlansNext g x p reached (Some n) → (answer : StepAnswer)
    → ServesCall g p y before after n answer → TakesStep g x y before after reached answer
step_served g x p y before after reached n c cache h (Ok answer) s = record {
  ok = delivered_next g x p y before after reached n c cache h s.ok.middle s.ok.admitted answer s.ok.delivers;
  err = tt;
}
step_served g x p y before after reached n c cache h (Err e) s = record {
  ok = tt;
  err = ⊎_elim (λ (z : AdmitsShort g p y before after e). admits_failed g x p y before after reached n c cache h e z)
      (λ (z : DeliversVain g p y before after n e).
      block_failed g x p y before after reached n c cache h z.middle z.admitted e z.fails) s.err;
}
