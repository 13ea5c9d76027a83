-- A run whose leader made a window of its next terms.
use Rattle.std.proofs.Common.{◌≡◌, inl, inr, ℕ, zero, suc, ◌-◌, ◌<◌, ◌≤◌, List, [], ◌∷◌, ◌++◌, length, take, drop, refl, sym, subst, ◌∙◌, ap, arith, Option, Some, None, Ok, Err, Result}
use Rattle.std.specs.Prelude.{All, filter, map, slice_get}
use Rattle.std.specs.List.{AllZip}
use Rattle.std.proofs.lemmas.List.{map-append, take-append-drop}
use Rattle.std.proofs.lemmas.List.Elements.{All-drop, All-take}
use Rattle.xet_error.specs.declared.error.Corruption.{Corruption}
use Rattle.xet_error.specs.declared.error.FileReconstructionError.{FileReconstructionError}
use Rattle.xet_error.specs.declared.error.FileReconstructionError.TheVariants as error
use Rattle.xet_events.specs.Events.{Task, is_kept, planned}
use Rattle.xet_history.specs.TrueHistory.{task_piece}
use Rattle.xet_writers.specs.Sequential.{Sequential}
use Rattle.xet_ties.specs.Causes.{Cause}
use Rattle.xet_ties.specs.Saids.{IsTaskPiece, has_bytes}
use Rattle.xet_ties.specs.Setup.{RunTold, Setup}
use Rattle.xet_ties.specs.Ties.{MayLeave, NoneLate, all_of}
use Rattle.xet_ties.proofs.CallerLemmas.{corrupted as is_corrupted, none_hidden, none_late, steady_leaves, term_fails}
use Rattle.xet_leader.specs.Led.{Led}
use Rattle.xet_leader.specs.LedTerms.{task_of}
use Rattle.xet_stages.specs.RunWindows.{WindowGoes, WindowLeads}
use Rattle.xet_leader.specs.Steady.{IsFailing, IsGoing, Loose, Moment}
use Rattle.xet_leader.specs.LedTerms.{OneFails, PlanTerm, open_led, some_in}
use Rattle.xet_stages.specs.Windows.{WindowFails, WindowMade, WindowTurn}
use Rattle.xet_leader.proofs.CallerLemmas.{each_filter, fails_said, of_a_plan, pieces_honest, pieces_kept, pieces_tested, sound_passes, term_at, unkept_there}
use Rattle.xet_leader.proofs.CallerLemmas.{IsLedTerm, led_each, length_tasks, next_tasks, next_terms, sizes_are, some_tasks}
use Rattle.xet_leader.proofs.CallerLemmas.{any_unfailed, calm_halted, memory_halted}

-- ---- lists

take_less : {A : Type 0} (k m : ℕ) (xs : List A) → k ≤ m → take k (take m xs) ≡ take k xs
take_less zero zero xs h = refl
take_less zero (suc m) [] h = refl
take_less zero (suc m) (x ∷ xs) h = refl
take_less (suc k) zero xs h = absurd (omega (arith, h))
take_less (suc k) (suc m) [] h = refl
take_less (suc k) (suc m) (x ∷ xs) h = ap (λ l. x ∷ l) (take_less k m xs (omega (arith, h)))

front_within : {A : Type 0} (m : ℕ) (xs : List A) → length (take m xs) ≤ m
front_within zero xs = omega arith
front_within (suc m) [] = omega arith
front_within (suc m) (x ∷ xs) = let r = front_within m xs in omega (arith, r)

length_front : {A : Type 0} (k : ℕ) (xs : List A) → k ≤ length xs → length (take k xs) ≡ k
length_front zero [] h = refl
length_front zero (x ∷ xs) h = refl
length_front (suc k) [] h = absurd (omega (arith, h))
length_front (suc k) (x ∷ xs) h = ap suc (length_front k xs (omega (arith, h)))

-- the first element after some is the next of all, and one of the first ones
first_after : (k m : ℕ) (ts : List PlanTerm) (t : Task) → k < m → slice_get (map task_of (drop k ts)) 0 ≡ Some t
    → (u : PlanTerm) × (slice_get (take m ts) k ≡ Some u) × (t ≡ task_of u)
first_after k m [] t h e = absurd (let z : ◌≡◌ {A = Option Task} None (Some t) = none_after k e in cc)
  where
    none_after : (j : ℕ) → slice_get (map task_of (drop j [])) 0 ≡ Some t → ◌≡◌ {A = Option Task} None (Some t)
    none_after zero f = f
    none_after (suc j) f = f
first_after zero zero (u ∷ ts) t h e = absurd (omega (arith, h))
first_after zero (suc m) (u ∷ ts) t h e = let f : task_of u ≡ t = cc in (u, refl, sym f)
first_after (suc k) zero (u ∷ ts) t h e = absurd (omega (arith, h))
first_after (suc k) (suc m) (u ∷ ts) t h e = first_after k m ts t (omega (arith, h)) e

-- ---- it goes on

module _ (g : Setup) (b : RunTold) (m : Moment) (o : Loose) (l : Led) (s : IsGoing g b m o l) where
  next_are : drop l.finished (planned m.events) ≡ map task_of (next_terms l)
  next_are = next_tasks g b m.events s.slack o.stale l s.led.counted.planned_are s.led.plans

  all_led : All (IsLedTerm g b m.events s.slack o.stale) (next_terms l)
  all_led = All-drop (IsLedTerm g b m.events s.slack o.stale) _ _
      (led_each g b m.events s.slack o.stale l.plans s.led.plans.each)

  opened_led : All (IsLedTerm g b m.events s.slack o.stale) (open_led l)
  opened_led = All-take (IsLedTerm g b m.events s.slack o.stale) (l.admitted - l.finished) (next_terms l) all_led

  window_made : {S : Type 0} (v w : Sequential S) (lengths : List ℕ) → WindowMade (open_led l) v w lengths
      → WindowGoes g b m.events s.slack l v w lengths
  window_made v w lengths made =
      let k : ℕ = length lengths in
      let most : ℕ = l.admitted - l.finished in
      let ts : List PlanTerm = take k (open_led l) in
      let c = s.led.counted in
      let fin = c.finished_within in
      let within = made.within in
      let short = front_within most (next_terms l) in
      let same : ts ≡ take k (next_terms l) = take_less k most (next_terms l) (omega (arith, within, short)) in
      let count : length (map task_of ts) ≡ k = length_tasks ts ∙ length_front k (open_led l) within in
      let led : All (IsLedTerm g b m.events s.slack o.stale) ts =
      All-take (IsLedTerm g b m.events s.slack o.stale) k (open_led l) opened_led in
      let some : All (IsLedTerm g b m.events s.slack o.stale) (filter some_in ts) =
      each_filter (IsLedTerm g b m.events s.slack o.stale) some_in ts led in
      record {
        pieces = made.pieces;
        window = record {
          tasks = map task_of ts;
          rest = map task_of (drop k (next_terms l));
          next = next_are ∙ ap (λ (us : List PlanTerm). map task_of us) (sym (take-append-drop k (next_terms l)))
              ∙ map-append task_of (take k (next_terms l)) (drop k (next_terms l))
              ∙ ap (λ (us : List PlanTerm). map task_of us ++ map task_of (drop k (next_terms l))) (sym same);
          within = omega (arith, count, within, short, fin);
          lengths_are = made.lengths_are ∙ sym (sizes_are ts);
          kept = pieces_kept g b m.events s.slack o.stale ts made.pieces led made.each;
          tested = subst (λ (us : List Task). AllZip (IsTaskPiece g s.slack.heard s.slack.looks) us made.pieces)
              (sym (some_tasks ts)) (pieces_tested g b m.events s.slack o.stale
              (filter some_in ts) made.pieces some made.each);
          honest = λ st over tells. pieces_honest g b m.events s.slack o.stale st
              (filter some_in ts) made.pieces over tells some made.each
              ∙ ap (λ (us : List Task). map (task_piece st) us) (sym (some_tasks ts));
          stops = λ t more e.
              let r = first_after k most (next_terms l) t (omega (arith, count, more)) e in
              let q = made.stops r.0 r.1 in (
                ap has_bytes r.2 ∙ q.0,
                ap (λ (x : Task). is_kept m.events x.plan x.term.block) r.2
                    ∙ unkept_there g b m.events s.slack o.stale r.0
                    (term_at g b m.events s.slack o.stale (open_led l) k r.0 opened_led r.1) q.1,
              );
        };
        writer = made.writer;
      }

  -- ---- it is to stop

  leaves : (e : FileReconstructionError) → MayLeave (Some e) b.clients s.slack
  leaves e =
      let hidden : all_of s.slack.hidden ≡ [] = ap all_of s.settled.hidden ∙ none_hidden b.clients in
      let late : NoneLate s.slack.late = subst NoneLate (sym s.settled.late)
      (none_late b.clients) in
      steady_leaves b.clients e s.slack hidden late s.settled.ahead (λ v. s.settled.calm)

  corrupted : (k : Corruption) → OneFails (open_led l) k → IsFailing g b m (error.CorruptedReconstruction k)
  corrupted k f =
      let led = term_at g b m.events s.slack o.stale (open_led l) f.place f.term opened_led f.there in
      let x = f.fails in
      record {
        slack = s.slack;
        ties = s.ties;
        left = leaves (error.CorruptedReconstruction k);
        cause = is_corrupted g b m.told m.events None s.slack k s.ties
            (record { calm = s.settled.calm; hidden = ap all_of s.settled.hidden ∙ none_hidden b.clients })
            (λ st over. let e : ◌≡◌ {A = Option Corruption} None (Some k) = sym
            (sound_passes g b m.events s.slack o.stale f.term led x.data_of x.kept st over) ∙ x.fails in
            absurd (cc))
            (term_fails g s.slack.heard k (of_a_plan g b m.events s.slack o.stale f.term led x.data_of x.kept)
            f.term.plan.number led.plan_is.said_as
            (fails_said g b m.events s.slack o.stale f.term led x.data_of x.kept k x.fails));
        unfailed = s.unfailed;
        spent = λ h. absurd (let z : error.CorruptedReconstruction k ≡ error.UrlExpired = h in cc);
        halted = calm_halted b.signal.yes m.told.signal.yes (error.CorruptedReconstruction k) s.calm;
        under = λ u. s.led.under;
        cache_tells = s.cache_tells;
      }

  failing : (e : FileReconstructionError) → WindowFails (open_led l) e → IsFailing g b m e
  failing e (inl memory) = record {
    slack = s.slack;
    ties = s.ties;
    left = leaves e;
    cause = subst (Cause g s.slack.heard b m.told) (sym memory) tt;
    unfailed = any_unfailed b.sink.faults m.told.sink.faults e s.unfailed;
    spent = λ h. absurd (let z : error.OutOfMemory ≡ error.UrlExpired = sym memory ∙ h in cc);
    halted = λ yes. memory_halted e memory;
    under = λ u. s.led.under;
    cache_tells = s.cache_tells;
  }
  failing e (inr x) = subst (λ (y : FileReconstructionError). IsFailing g b m y) (sym x.1) (corrupted x.0 x.2)

pub window_leads : {S : Type 0} (l : Led) (v w : Sequential S) (answer : Result (List ℕ) FileReconstructionError)
    → WindowTurn (open_led l) v w answer → WindowLeads l v w answer
window_leads l v w (Ok lengths) t g b m o s = record { ok = window_made g b m o l s v w lengths t.ok; err = tt }
window_leads l v w (Err e) t g b m o s = record { ok = tt; err = λ open_. failing g b m o l s e (t.err open_).0 }
