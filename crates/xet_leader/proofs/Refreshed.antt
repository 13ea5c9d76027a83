-- Plans that are asked for again one after another.
use Rattle.std.proofs.Common.{◌≡◌, ℕ, ◌+◌, ◌<◌, ◌≤◌, Bool, List, [], ◌∷◌, ◌++◌, length, take, drop, get_or, refl, sym, subst, Option, None, Some, Ok, Err}
use Rattle.std.proofs.lemmas.List.{take_all}
use Rattle.std.proofs.lemmas.Option.{slice_get-get_or}
use Rattle.xet_error.specs.declared.error.FileReconstructionError.{FileReconstructionError}
use Rattle.xet_events.specs.declared.event.Event.{Event}
use Rattle.xet_events.specs.declared.event.Event.TheVariants.{Refreshed}
use Rattle.xet_events.specs.Allowed.{IsAllowed, IsRunning}
use Rattle.xet_ties.proofs.CallerLemmas.{drop_at, take_at}
use Rattle.xet_leader.specs.Led.{AreStale}
use Rattle.xet_leader.specs.Plans.{find_plan}
use Rattle.xet_leader.specs.Refreshing.{RefreshCalls, RefreshedEach, RefreshedOne, RefreshedThere, Touched}
use Rattle.xet_leader.proofs.RefreshedEvents.{refreshed_running, rest_stale}

-- the first of these plans were asked for again, and the others are stale
pub record SoRefreshed (multi : Bool) (numbers : List ℕ) (k : ℕ) (a b : Touched) : Type 0 where
  pub each : RefreshedEach multi (take k numbers) a b
  pub running : IsRunning b.events
  pub left : AreStale b.events (drop k numbers)

each_more : (multi : Bool) (ps : List ℕ) (p : ℕ) (a b c : Touched) → RefreshedEach multi ps a b
    → RefreshedOne multi p b c (Ok tt) → RefreshedEach multi (ps ++ p ∷ []) a c
each_more multi [] p a b c e o = (c, subst (λ (x : Touched). RefreshedOne multi p x c (Ok tt)) e o, refl)
each_more multi (q ∷ ps) p a b c e o = (e.0, e.1, each_more multi ps p e.0 b c e.2 o)

pub so_none : (multi : Bool) (numbers : List ℕ) (a : Touched) → IsRunning a.events → AreStale a.events numbers
    → SoRefreshed multi numbers 0 a a
so_none multi numbers a r s = record { each = refl; running = r; left = s }

next_stale : (multi : Bool) (numbers : List ℕ) (k : ℕ) (d : ℕ) (a b : Touched) → k < length numbers
    → SoRefreshed multi numbers k a b → AreStale b.events (get_or numbers k d ∷ drop (k + 1) numbers)
next_stale multi numbers k d a b h s = subst (AreStale b.events) (drop_at numbers k d h) s.left

-- the next one may be asked for again
pub so_allowed : (multi : Bool) (numbers : List ℕ) (k : ℕ) (d : ℕ) (a b : Touched) → k < length numbers
    → SoRefreshed multi numbers k a b → IsAllowed b.events (Refreshed (get_or numbers k d))
so_allowed multi numbers k d a b h s = (s.running, (next_stale multi numbers k d a b h s).0)

-- the events after it
pub record StepLeft (p : ℕ) (rest : List ℕ) (es fs : List Event) : Type 0 where
  pub running : IsRunning es → IsRunning fs
  pub left : AreStale es (p ∷ rest) → AreStale fs rest

same_left : (p : ℕ) (rest : List ℕ) (b c : Touched) → c ≡ b → StepLeft p rest b.events c.events
same_left p rest b c e = record {
  running = λ r. subst (λ (x : Touched). IsRunning x.events) (sym e) r;
  left = λ s. subst (λ (x : Touched). AreStale x.events rest) (sym e) s.2;
}

new_left : (p : ℕ) (rest : List ℕ) (es fs : List Event) → fs ≡ es ++ Refreshed p ∷ [] → StepLeft p rest es fs
new_left p rest es fs e = record {
  running = λ r. subst IsRunning (sym e) (refreshed_running es p r);
  left = λ s. subst (λ (l : List Event). AreStale l rest) (sym e) (rest_stale es p rest s);
}

step_left : (multi : Bool) (p : ℕ) (place : Option ℕ) (rest : List ℕ) (b c : Touched)
    → RefreshedThere multi p place b c (Ok tt) → StepLeft p rest b.events c.events
step_left multi p None rest b c o = same_left p rest b c o.0
step_left multi p (Some i) rest b c o = new_left p rest b.events c.events o.call.recorded

pub so_more : (multi : Bool) (numbers : List ℕ) (k : ℕ) (d : ℕ) (a b c : Touched) → k < length numbers
    → RefreshedOne multi (get_or numbers k d) b c (Ok tt) → SoRefreshed multi numbers k a b
    → SoRefreshed multi numbers (k + 1) a c
so_more multi numbers k d a b c h o s =
    let p = get_or numbers k d in
    let step = step_left multi p (find_plan b.plans p) (drop (k + 1) numbers) b c o in
    record {
      each = subst (λ (ps : List ℕ). RefreshedEach multi ps a c) (sym (take_at numbers k d h))
          (each_more multi (take k numbers) p a b c s.each o);
      running = step.running s.running;
      left = step.left (next_stale multi numbers k d a b h s);
    }

pub so_all : (multi : Bool) (numbers : List ℕ) (k : ℕ) (a b : Touched) → length numbers ≤ k
    → SoRefreshed multi numbers k a b → RefreshCalls multi numbers a b (Ok tt)
so_all multi numbers k a b e s = record {
  ok = subst (λ (ps : List ℕ). RefreshedEach multi ps a b)
      (take_all k numbers e) s.each;
  err = tt;
}

pub so_short : (multi : Bool) (numbers : List ℕ) (k : ℕ) (d : ℕ) (a b c : Touched) (e : FileReconstructionError)
    → k < length numbers → RefreshedOne multi (get_or numbers k d) b c (Err e) → SoRefreshed multi numbers k a b
    → RefreshCalls multi numbers a c (Err e)
so_short multi numbers k d a b c e h o s = record {
  ok = tt;
  err = record {
    count = k;
    last = b;
    before = s.each;
    number = get_or numbers k d;
    next = slice_get-get_or numbers k d h;
    fails = o;
  };
}
