-- The next term of a stream, by its leader and by its history.
use Rattle.std.proofs.Common.{◌≡◌, ℕ, zero, suc, ◌+◌, Bool, true, false, cond, List, [], ◌∷◌, ◌++◌, length, take, drop, refl, sym, ◌∙◌, ap, Some, None}
use Rattle.std.specs.Prelude.{filter, map, slice_get}
use Rattle.std.proofs.lemmas.List.{take-append-drop}
use Rattle.std.proofs.lemmas.List.Elements.{All-head, All-tail, filter-append}
use Rattle.xet_events.specs.declared.event.Event.{Event}
use Rattle.xet_events.specs.Events.{Task, planned}
use Rattle.xet_ties.specs.Saids.{has_bytes, some_of}
use Rattle.xet_ties.specs.Setup.{RunTold, Setup}
use Rattle.xet_leader.specs.Led.{Led}
use Rattle.xet_leader.specs.LedTerms.{IsFirstSome, NoneHas, PlanTerm, ahead, some_in, task_of}
use Rattle.xet_leader.proofs.CallerLemmas.{next_tasks, some_tasks}
use Rattle.xet_stream_rules.specs.Streams.{Carries, delivered, next_term}

get_after : {A : Type 0} (xs ys : List A) → slice_get (xs ++ ys) (length xs) ≡ slice_get ys 0
get_after [] ys = refl
get_after (x ∷ xs) ys = get_after xs ys

pub none_some : (ts : List PlanTerm) → NoneHas ts → filter some_in ts ≡ []
none_some [] a = refl
none_some (t ∷ ts) a =
    ap (λ (v : Bool). cond v (t ∷ filter some_in ts) (filter some_in ts)) (All-head (λ u. some_in u ≡ false) t ts a)
    ∙ none_some ts (All-tail (λ u. some_in u ≡ false) t ts a)

first_some_is : (ts : List PlanTerm) (n : ℕ) (t : PlanTerm) → slice_get ts n ≡ Some t → NoneHas (take n ts)
    → some_in t ≡ true → slice_get (map task_of (filter some_in ts)) 0 ≡ Some (task_of t)
first_some_is [] n t at a s = absurd (cc)
first_some_is (u ∷ ts) zero t at a s =
    let e : u ≡ t = cc in
    ap (λ (v : Bool). slice_get (map task_of (cond v (u ∷ filter some_in ts) (filter some_in ts))) 0)
    (ap some_in e ∙ s) ∙ ap (λ (z : PlanTerm). Some (task_of z)) e
first_some_is (u ∷ ts) (suc n) t at a s =
    ap (λ (v : Bool). slice_get (map task_of (cond v (u ∷ filter some_in ts) (filter some_in ts))) 0)
    (All-head (λ v. some_in v ≡ false) u (take n ts) a)
    ∙ first_some_is ts n t at (All-tail (λ v. some_in v ≡ false) u (take n ts) a) s

module _ (b : RunTold) (g : Setup) (es : List Event) (l : Led) (c : Carries b g es l) where
  abbrev front : List Task
  front = filter has_bytes (take l.finished (planned es))

  pub rest_tasks : filter has_bytes (drop l.finished (planned es)) ≡ map task_of (filter some_in (ahead l))
  rest_tasks =
      ap (λ (ts : List Task). filter has_bytes ts)
      (next_tasks g b es c.slack [] l c.led.counted.planned_are c.led.plans) ∙ some_tasks (ahead l)

  split : some_of es ≡ front ++ map task_of (filter some_in (ahead l))
  split =
      ap (λ (ts : List Task). filter has_bytes ts) (sym (take-append-drop l.finished (planned es)))
      ∙ filter-append has_bytes (take l.finished (planned es)) (drop l.finished (planned es))
      ∙ ap (λ (ts : List Task). front ++ ts) rest_tasks

  pub next_is : next_term es ≡ slice_get (map task_of (filter some_in (ahead l))) 0
  next_is =
      ap (λ (ts : List Task). slice_get ts (delivered es)) split
      ∙ ap (λ (n : ℕ). slice_get (front ++ map task_of (filter some_in (ahead l))) n) (sym c.whole)
      ∙ get_after front (map task_of (filter some_in (ahead l)))

  -- no planned term has bytes
  pub none_next : NoneHas (ahead l) → next_term es ≡ None
  none_next a = next_is ∙ ap (λ (ts : List PlanTerm). slice_get (map task_of ts) 0) (none_some (ahead l) a)

  -- the first one that has
  pub some_next : (n : ℕ) (t : PlanTerm) → IsFirstSome (ahead l) n t → next_term es ≡ Some (task_of t)
  some_next n t f = next_is ∙ first_some_is (ahead l) n t f.there f.before f.some
