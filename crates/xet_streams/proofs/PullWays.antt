-- The ways of one pull, by what its parts answered.
use Rattle.std.proofs.Common.{◌≡◌, ⊎_elim, inl, inr, ℕ, ◌≤◌, Bool, true, false, List, refl, sym, subst, ◌∙◌, ap, arith, Option, Some, None, Ok, Err}
use Rattle.std.proofs.lemmas.Bool.Decides.{nat_tests}
use Rattle.xet_outside.specs.Told.{CacheTold, ClientTold}
use Rattle.xet_error.specs.declared.error.FileReconstructionError.{FileReconstructionError}
use Rattle.xet_error.specs.declared.error.FileReconstructionError.TheVariants as error
use Rattle.xet_error.specs.declared.error.Setting.{Setting}
use Rattle.xet_events.specs.declared.event.Event.{Event}
use Rattle.xet_events.specs.Allowed.{IsAllowedHistory, IsRunning}
use Rattle.xet_events.specs.Limits.{LimitTold}
use Rattle.xet_parts.specs.Stops.{IsStopped}
use Rattle.xet_events.specs.declared.event.Event.TheVariants.{Fail}
use Rattle.xet_ties.specs.PartCalls.{stop_event}
use Rattle.xet_ties.specs.Setup.{RunTold}
use Rattle.xet_leader.specs.Led.{Led}
use Rattle.xet_stream_rules.specs.declared.step.Step.{Step}
use Rattle.xet_stream_rules.specs.declared.step.Step.TheVariants.{Ready}
use Rattle.xet_stream_rules.specs.Moments.{at}
use Rattle.xet_stream_rules.specs.Pulls.{Answer, IsRefused, IsTold, PullCall, PullWay, StepFails, pulled_once}
use Rattle.xet_stream_rules.specs.Streams.{IsAtEnd, IsOpen, Stands, StreamView, is_closed, nobody, telling_so}
use Rattle.xet_stream_rules.proofs.CallerLemmas.{running_both, tells_nobody}
use Rattle.xet_streams.specs.Parts.{HoldsAt}
use Rattle.xet_streams.specs.steps.Pulling.{AsksFlag, OpenPull, StepPull, StepsFrom, StepsOver, StepsShort}
use Rattle.xet_streams.proofs.Pulled.{done_stands, event_of, fails_stands, held_carries, held_running, nothing_done, short_fails, stands_once, step_done, step_fails, stopped_told, told_still}

-- ---- the flag

-- a stream that is open after its flag was seen so often was open before
still_open : (c : Bool) (s t : ℕ) → s ≤ t → is_closed c t ≡ false → is_closed c s ≡ false
still_open true s t h e = absurd (cc)
still_open false s t h e = grind (arith, nat_tests)

stands_seen : (x : RunTold) (b m : StreamView) (closed : Bool) → (f : AsksFlag b m closed) → Stands x b → Stands x m
stands_seen x b m closed f h = subst (Stands x) (sym f.is) (record {
  true_of = h.true_of;
  starts = h.starts;
  led = λ o. h.led (record {
    untold = o.untold;
    uncancelled = still_open b.cancelled b.seen f.seen f.later o.uncancelled;
  });
})

-- it isn't open
pub closed_pull : (b m : StreamView) (cs : List ClientTold) (k : CacheTold) → AsksFlag b m true
    → IsAllowedHistory m.events → PullCall b (pulled_once m) cs cs k k (Ok (Ready None))
closed_pull b m cs k f allowed = record {
  seen = f.seen;
  later = f.later;
  way = inl (record {
    closed = λ o. f.yes refl (subst IsOpen (sym f.is) o);
    none = refl;
    stream = ap pulled_once f.is;
    unasked = record { clients = refl; cache = refl };
  });
  allowed = allowed;
  stands = λ store entries tells h.
      stands_once (telling_so store entries) m (stands_seen (telling_so store entries) b m true f h);
}

-- it is open, and goes on
pub open_pull : (b m n : StreamView) (cs ds : List ClientTold) (k l : CacheTold) (answer : Answer)
    → AsksFlag b m false → OpenPull m n cs ds k l answer → PullCall b n cs ds k l answer
open_pull b m n cs ds k l answer f p = record {
  seen = f.seen;
  later = f.later;
  way = subst (λ (v : StreamView). PullWay v n cs ds k l answer) f.is p.way;
  allowed = p.allowed;
  stands = λ store entries tells h.
      p.stands store entries tells (stands_seen (telling_so store entries) b m false f h);
}

-- ---- an open stream

pub refused_pull : (v n : StreamView) (cs : List ClientTold) (k : CacheTold) (setting : Setting)
    (told : FileReconstructionError) → IsOpen v → IsRefused v cs setting
    → IsTold (pulled_once v) n (error.ConfigurationError setting) told → IsAllowedHistory n.events
    → OpenPull v n cs cs k k (Err told)
refused_pull v n cs k setting told still refused is allowed = record {
  way = inr (inl (record {
    still = still;
    setting = setting;
    refused = refused;
    told_error = told;
    is_error = refl;
    told = is;
    unasked = record { clients = refl; cache = refl };
  }));
  allowed = allowed;
  stands = told_still v (error.ConfigurationError setting) told n cs k is;
}

pub ended_pull : (v : StreamView) (cs : List ClientTold) (k : CacheTold) → IsOpen v
    → ((e : Setting) → IsRefused v cs e → ⊥) → IsAtEnd v.setup.range v.events → IsAllowedHistory v.events
    → OpenPull v (pulled_once v) cs cs k k (Ok (Ready None))
ended_pull v cs k still unrefused end allowed = record {
  way = inr (inr (inl (record {
    still = still;
    unrefused = unrefused;
    at_end = end;
    none = refl;
    stream = refl;
    unasked = record { clients = refl; cache = refl };
  })));
  allowed = allowed;
  stands = nothing_done v cs k;
}

pub stepped_pull : (v n : StreamView) (cs ds : List ClientTold) (k l : CacheTold) (answer : Answer) → IsOpen v
    → ((e : Setting) → IsRefused v cs e → ⊥) → (IsAtEnd v.setup.range v.events → ⊥)
    → StepPull v n cs ds k l answer → OpenPull v n cs ds k l answer
stepped_pull v n cs ds k l answer still unrefused before s = record {
  way = inr (inr (inr (record { still = still; unrefused = unrefused; before = before; step = s.step })));
  allowed = s.allowed;
  stands = s.stands;
}

-- ---- a step of an open stream

module _ (v : StreamView) (still : IsOpen v) (mark reached : Bool) (holds : HoldsAt v.setup v.events v.led mark)
    (fs : List Event) (q : Option Led) (cs ds : List ClientTold) (k l : CacheTold) (after : LimitTold) where
  abbrev b : StreamView
  b = pulled_once v

  abbrev b_open : IsOpen b
  b_open = record { untold = still.untold; uncancelled = still.uncancelled }

  -- the stream at the step's end
  abbrev at_end : Option Led → StreamView
  at_end o = record b { events = fs; led = o; limits = after }

  -- it was done
  module _ (a : Step (Option (List ℕ))) where
    from_ok : StepsOver v.setup v.events fs v.led q cs ds k l v.limits after reached (Ok a)
        → StepsFrom v.setup v.events fs v.led q cs ds k l v.limits after reached (Ok a)
    from_ok h = ⊎_elim
        (λ (f : StepsFrom v.setup v.events fs v.led q cs ds k l v.limits after reached (Ok a)). f)
        (λ (s : StepsShort v.events fs v.led q cs ds k l v.limits after (Ok a)). absurd (let z = s.memory in cc)) h

    pub stepped_ok : StepsOver v.setup v.events fs v.led q cs ds k l v.limits after reached (Ok a)
        → IsAllowedHistory fs → StepPull v (at_end q) cs ds k l (Ok a)
    stepped_ok h allowed =
        let f = from_ok h in
        let y = at fs f.now ds l in
        let n = sym f.is in
        subst (λ (o : Option Led). StepPull v (at_end o) cs ds k l (Ok a)) n (record {
          step = step_done b b_open f.led f.start cs k after y mark reached holds a f.takes.ok;
          allowed = allowed;
          stands = λ store entries tells s.
              done_stands b b_open f.led f.start cs k after y mark reached holds a f.takes.ok store entries tells
              (stands_once (telling_so store entries) v s);
        })

    pub stepped_holds : StepsOver v.setup v.events fs v.led q cs ds k l v.limits after reached (Ok a)
        → HoldsAt v.setup fs q reached
    stepped_holds h =
        let f = from_ok h in
        let c = f.start.carries None None (held_carries v.setup v.events v.led mark holds) in
        subst (λ (o : Option Led). HoldsAt v.setup fs o reached) (sym f.is)
        (f.takes.ok.goes.carries nobody (tells_nobody cs k) c, f.takes.ok.marked)

    pub stepped_some : StepsOver v.setup v.events fs v.led q cs ds k l v.limits after reached (Ok a) → q ≡ None → ⊥
    stepped_some h e = let f = from_ok h in let z = sym f.is ∙ e in cc

  -- it failed
  module _ (e : FileReconstructionError)
      (h : StepsOver v.setup v.events fs v.led q cs ds k l v.limits after reached (Err e)) where
    pub step_running : IsRunning fs
    step_running =
        let r = held_running v.setup v.events v.led mark holds in
        ⊎_elim
        (λ (f : StepsFrom v.setup v.events fs v.led q cs ds k l v.limits after reached (Err e)).
        let w = f.takes.err.work in
        subst IsRunning (sym w.added) (running_both v.events w.new r w.running))
        (λ (s : StepsShort v.events fs v.led q cs ds k l v.limits after (Err e)). subst IsRunning (sym s.events) r) h

    pub stepped_err : (gs : List Event) (told : FileReconstructionError) → IsStopped fs gs e told → IsAllowedHistory gs
        → StepPull v (record (at_end q) { events = gs; told_error = Some told }) cs ds k l (Err told)
    stepped_err gs told stopped allowed = ⊎_elim from short h
      where
        from : StepsFrom v.setup v.events fs v.led q cs ds k l v.limits after reached (Err e)
            → StepPull v (record (at_end q) { events = gs; told_error = Some told }) cs ds k l (Err told)
        from f =
            let y = at fs f.now ds l in
            let m : StreamView = at_end (Some f.now) in
            let n : StreamView = record (at_end (Some f.now)) { events = gs; told_error = Some told } in
            let is : IsTold m n e told = stopped_told m n gs e told
            (event_of b b_open f.led f.start cs k after y _ _ e f.takes.err.cause) stopped refl in
            subst (λ (o : Option Led).
            StepPull v (record (at_end o) { events = gs; told_error = Some told }) cs ds k l (Err told)) (sym f.is) (record {
              step = step_fails b b_open f.led f.start cs k after y e f.takes.err told n is;
              allowed = allowed;
              stands = λ store entries tells s.
                  fails_stands b b_open f.led f.start cs k after y e f.takes.err told n is store entries tells
                  (stands_once (telling_so store entries) v s);
            })

        short : StepsShort v.events fs v.led q cs ds k l v.limits after (Err e)
            → StepPull v (record (at_end q) { events = gs; told_error = Some told }) cs ds k l (Err told)
        short s =
            let same : at_end q ≡ b =
            ap (λ (x : List Event). record b { events = x; led = q; limits = after }) s.events
            ∙ ap (λ (o : Option Led). record b { events = v.events; led = o; limits = after }) s.led
            ∙ ap (λ (x : LimitTold). record b { events = v.events; led = v.led; limits = x }) s.limits in
            let n : StreamView = record (at_end q) { events = gs; told_error = Some told } in
            let memory : e ≡ error.OutOfMemory = (let z = s.memory in cc) in
            let is : IsTold b n e told = stopped_told b n gs e told
            (subst (λ (o : FileReconstructionError). stop_event o ≡ Fail o) (sym memory) refl)
            (subst (λ (x : List Event). IsStopped x gs e told) s.events stopped)
            (ap (λ (m : StreamView). record m { events = gs; told_error = Some told }) same) in
            let now : IsTold b n error.OutOfMemory told =
            subst (λ (o : FileReconstructionError). IsTold b n o told) memory is in
            record {
              step = subst (λ (x : List ClientTold). StepFails b n cs x k l told) (sym s.clients)
                  (subst (λ (x : CacheTold). StepFails b n cs cs k x told) (sym s.cache)
                  (short_fails b n cs k told now));
              allowed = allowed;
              stands = told_still v error.OutOfMemory told n cs k now;
            }
