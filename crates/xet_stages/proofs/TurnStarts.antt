-- A run after its leader asked and admitted.
use Rattle.std.proofs.Common.{◌≡◌, ◌⊎◌, ℕ, ◌+◌, ◌-◌, ◌^◌, ◌<◌, ◌≤◌, Bool, true, false, List, [], ◌∷◌, ◌++◌, length, take, inl, inr, refl, sym, subst, ◌∙◌, ap, arith, ⊎_elim, Some, Ok, Err}
use Rattle.std.specs.Prelude.{Option, MatchOption, count_by, slice_get}
use Rattle.std.specs.List.{sum_by}
use Rattle.std.proofs.Math.Nat.{le-min}
use Rattle.std.proofs.lemmas.Bool.{cases_lt, eq-eqb, eqb-true, false≢true}
use Rattle.std.proofs.lemmas.List.{append-nil, append_assoc}
use Rattle.std.proofs.lemmas.Option.{slice_get_cases}
use Rattle.xet_outside.specs.Told.{ClientTold, SignalTold}
use Rattle.xet_error.specs.declared.error.FileReconstructionError.{FileReconstructionError}
use Rattle.xet_blocks.specs.declared.reconstruction_terms.file_term.TermBlock.{TermBlock}
use Rattle.xet_events.specs.declared.event.Event.{Event}
use Rattle.xet_events.specs.declared.event.Event.TheVariants.{Admit}
use Rattle.xet_events.specs.Allowed.{IsRunning, MayAdmit}
use Rattle.xet_events.specs.Limits.{LimitTold}
use Rattle.xet_events.specs.Events.{Task, is_admit, planned, size, unwritten, written}
use Rattle.xet_events.proofs.CallerLemmas.{written-push}
use Rattle.xet_terms.specs.Managers.{IsCovered}
use Rattle.xet_ties.specs.RunCalls.{IsFinished}
use Rattle.xet_ties.specs.Setup.{RunTold, Setup}
use Rattle.xet_ties.specs.PartCalls.{plan_event}
use Rattle.xet_parts.specs.Admissions.{IsWaiting, admits}
use Rattle.xet_leader.specs.declared.leader.Job.{Job}
use Rattle.xet_leader.specs.Admission.{AdmitLeads, AdmitTurn, AdmittedTerms, at_once, most_at_once}
use Rattle.xet_leader.specs.Asking.{AskLeads, AskOk, AskTurn, HandsOn}
use Rattle.xet_leader.specs.Led.{IsCounted, IsLedManager, Led, setup_of_job}
use Rattle.xet_stages.specs.Measures.{measure}
use Rattle.xet_leader.specs.Steady.{IsFailing, IsGoing, Moment, no_loose}
use Rattle.xet_stages.specs.TurnStarts.{LeavesWork, NothingAsked, StartLeads, all_done}
use Rattle.xet_stages.proofs.PartMeasures.{admitted_falls, none_asked_stays, one_asked_falls}
use Rattle.xet_leader.proofs.CallerLemmas.{covered_reaches}

-- ---- no byte is written

written_admits : (es : List Event) (ls : List ℕ) → written (es ++ admits ls) ≡ written es
written_admits es [] = ap written (append-nil es)
written_admits es (n ∷ ls) =
    let e = ap written (append_assoc es (Admit n ∷ []) (admits ls)) in
    let r = written_admits (es ++ Admit n ∷ []) ls in
    let p : written (es ++ Admit n ∷ []) ≡ written es + 0 = written-push es (Admit n) in
    omega (arith, e, r, p)

ask_writes_none : (j : Job) (cs ns : List ClientTold) (x y : SignalTold) (es fs : List Event) (l k : Led)
    (asked : Bool) → AskOk j cs ns x y es fs l k asked → written fs ≡ written es
ask_writes_none j cs ns x y es fs l k false n = ap written n.events
ask_writes_none j cs ns x y es fs l k true o =
    let took = o.asked.asked.call.ok.took in
    let p : written (es ++ plan_event es o.asked.due.query o.asked.asked.call.ok.answer ∷ []) ≡ written es + 0 =
    written-push es (plan_event es o.asked.due.query o.asked.asked.call.ok.answer) in
    let e = ap written took.recorded in
    omega (arith, e, p)

admit_writes_none : (before after : LimitTold) (es fs : List Event) (l k : Led) → AdmittedTerms before after es fs l k
    → written fs ≡ written es
admit_writes_none before after es fs l k a = ap written a.admits.admitted.events
    ∙ written_admits es a.admits.admitted.limits

-- ---- where all that is admitted is written

pub none_unwritten : (es : List Event) (l : Led) → IsCounted es l → l.finished ≡ l.admitted → unwritten es ≡ 0
none_unwritten es l c same =
    let all : take (count_by is_admit es) (planned es) ≡ take l.finished (planned es) =
    ap (λ (n : ℕ). take n (planned es)) (sym c.admitted_are ∙ sym same) in
    let sums : sum_by size (take (count_by is_admit es) (planned es)) ≡ written es =
    ap (λ (ts : List Task). sum_by size ts) all ∙ sym c.written_are in
    omega (arith, sums)

-- a term that waits may be admitted
may_admit : (es : List Event) (limit : ℕ) → unwritten es ≡ 0 → count_by is_admit es < length (planned es)
    → MayAdmit limit es
may_admit es limit none waits =
    ⊎_elim
    (λ found.
    let x : Task = found.0 in
    let at : slice_get (planned es) (count_by is_admit es) ≡ Some x = found.2 in
    subst (λ (o : Option Task). MatchOption o ⊥ (λ t. (unwritten es ≡ 0) ⊎ (unwritten es + size t ≤ limit))) (sym at)
    (inl none))
    (λ past. absurd (let p : length (planned es) ≤ count_by is_admit es = past.0 in omega (arith, p, waits)))
    (slice_get_cases (planned es) (count_by is_admit es)).1

-- so no limit refused it
none_refused : (left : ℕ) (es : List Event) (us : List ℕ) → IsWaiting left es us → 0 < left → IsRunning es
    → unwritten es ≡ 0 → count_by is_admit es < length (planned es) → ⊥
none_refused left es [] w some r none waits = absurd (let e : left ≡ 0 = w in omega (arith, e, some))
none_refused left es (n ∷ []) w some r none waits = w.1 (r, may_admit es n none waits)
none_refused left es (n ∷ k ∷ us) w some r none waits = w

-- of terms that wait some may be admitted
some_at_once : (waiting : ℕ) → 0 < waiting → 0 < at_once waiting
some_at_once waiting some = le-min some (omega arith)

-- a planned term that isn't written is admitted, or an admitted one isn't written
has_work : (before after : LimitTold) (es fs : List Event) (l k : Led) → IsRunning fs → IsCounted fs k
    → l.finished ≤ l.admitted → AdmittedTerms before after es fs l k → k.finished < k.planned
    → k.finished < k.admitted
has_work before after es fs l k r c low a open_still =
    ⊎_elim (λ (h : k.finished < k.admitted). h)
    (λ (h : k.admitted ≤ k.finished).
    let within = c.finished_within in
    let planned_are = c.planned_are in
    let admitted_are = c.admitted_are in
    let now : k.admitted ≡ l.admitted + (at_once (l.planned - l.admitted) - a.left) =
    ap (λ (z : Led). z.admitted) a.led in
    let as_before : k.planned ≡ l.planned = ap (λ (z : Led). z.planned) a.led in
    let same : k.finished ≡ l.finished = ap (λ (z : Led). z.finished) a.led in
    let none = none_unwritten fs k c (omega (arith, h, within)) in
    absurd (⊎_elim
    (λ (some : 0 < a.left).
    none_refused a.left fs a.admits.unused a.admits.waits some r none
    (omega (arith, planned_are, admitted_are, h, open_still)))
    (λ (all : a.left ≤ 0).
    let some = some_at_once (l.planned - l.admitted) (omega (arith, now, as_before, same, h, low, open_still)) in
    omega (arith, now, same, h, low, all, some))
    (cases_lt 0 a.left)))
    (cases_lt k.finished k.admitted)

-- ---- few are admitted

hands_admit_none : (number : ℕ) (l k : Led) (bs : List TermBlock) → HandsOn number l k bs → k.admitted ≡ l.admitted
hands_admit_none number l k [] h = ap (λ (z : Led). z.admitted) h
hands_admit_none number l k (b ∷ bs) h = ap (λ (z : Led). z.admitted) h.led

ask_admits_none : (j : Job) (cs ns : List ClientTold) (x y : SignalTold) (es fs : List Event) (l k : Led)
    (asked : Bool) → AskOk j cs ns x y es fs l k asked → k.admitted ≡ l.admitted
ask_admits_none j cs ns x y es fs l k false n = ap (λ (z : Led). z.admitted) n.led
ask_admits_none j cs ns x y es fs l k true o =
    hands_admit_none o.asked.due.id.plan (record l { manager = o.asked.now }) k o.asked.now.waiting o.hands

admits_few : (before after : LimitTold) (es fs : List Event) (l k : Led) → AdmittedTerms before after es fs l k
    → k.admitted ≤ l.admitted + most_at_once
admits_few before after es fs l k a =
    let now : k.admitted ≡ l.admitted + (at_once (l.planned - l.admitted) - a.left) =
    ap (λ (z : Led). z.admitted) a.led in
    omega (arith, now)

-- ---- all is finished

finished_all : (g : Setup) (b : RunTold) (n : Moment) (k : Led) → IsGoing g b n no_loose k → IsCovered k.manager
    → k.finished ≡ k.planned → IsFinished g n.events (written n.events)
finished_all g b n k s covered all =
    let led = s.led in
    let c = led.counted in
    let planned_are = c.planned_are in
    let admitted_are = c.admitted_are in
    let finished_within = c.finished_within in
    let admitted_within = c.admitted_within in
    let some = led.some in
    record {
      count = refl;
      admitted = omega (arith, planned_are, admitted_are, finished_within, admitted_within, all);
      unwritten = none_unwritten n.events k c (omega (arith, finished_within, admitted_within, all));
      reaches = λ h. covered_reaches g n.events k.manager some led.manager covered;
      empty = λ h. absurd (omega (arith, h, some));
    }

-- ---- one after another

-- the moments after asking, and after admitting besides
abbrev asked_at : Moment → List ClientTold → SignalTold → List Event → Moment
asked_at m ns y es = record { told = record m.told { clients = ns; signal = y }; events = es }

abbrev started_at : Moment → List ClientTold → SignalTold → LimitTold → List Event → Moment
started_at m ns y limits es = record {
  told = record m.told { clients = ns; signal = y; limits = limits };
  events = es;
}

module _ (j : Job) (cs ns : List ClientTold) (x y : SignalTold) (before after : LimitTold) (es gs fs : List Event)
    (l h k : Led) (few : j.config.tries < 2 ^ 32) (past : l.planned ≤ l.admitted) where
  -- what is left, where all is not done
  works : (b : RunTold) (m : Moment) (asked : Bool) → m.events ≡ es → AskOk j cs ns x y es gs l h asked
      → AdmittedTerms before after gs fs h k → IsGoing (setup_of_job j) b m no_loose l
      → IsGoing (setup_of_job j) b (asked_at m ns y gs) no_loose h
      → IsGoing (setup_of_job j) b (started_at m ns y after fs) no_loose k
      → all_done asked k ≡ false → LeavesWork (setup_of_job j) m.events fs l k
  works b m false is n a s t u open_still =
      let g = setup_of_job j in
      let stays = (admitted_falls g before after gs fs h k few u.led.counted a).0 in
      let none : measure g gs h ≡ measure g m.events l =
      none_asked_stays g cs ns x y es gs l h n ∙ ap (λ (v : List Event). measure g v l) (sym is) in
      let within = u.led.counted.finished_within in
      let planned_within = u.led.counted.admitted_within in
      let less : k.finished < k.planned = ⊎_elim (λ (e : k.finished < k.planned). e)
      (λ (e : k.planned ≤ k.finished). absurd (let same : k.finished ≡ k.planned = omega
      (arith, e, within, planned_within) in let yes = eq-eqb k.finished k.planned same in cc))
      (cases_lt k.finished k.planned) in
      inr (omega (arith, stays, none), has_work before after gs fs h k u.led.running u.led.counted t.led.counted.finished_within a less)
  works b m true is o a s t u open_still =
      let g = setup_of_job j in
      let stays = (admitted_falls g before after gs fs h k few u.led.counted a).0 in
      let falls : measure g gs h < measure g es l =
      one_asked_falls j cs ns x y es gs l h few (subst
      (λ (v : List Event). IsLedManager g v l.manager) is s.led.manager) t.led.counted o in
      let at : measure g es l ≡ measure g m.events l = ap (λ (v : List Event). measure g v l) (sym is) in
      inl (omega (arith, stays, falls, at))

  -- all is done only where the range was asked for and nothing is open
  dones : (b : RunTold) (m : Moment) (asked : Bool) → (asked ≡ false → IsCovered h.manager)
      → AdmittedTerms before after gs fs h k → IsGoing (setup_of_job j) b (started_at m ns y after fs) no_loose k
      → all_done asked k ≡ true
      → IsFinished (setup_of_job j) fs (written fs)
  dones b m false covered a u all =
      finished_all (setup_of_job j) b (started_at m ns y after fs) k u
      (subst IsCovered (sym (ap (λ (z : Led). z.manager) a.led)) (covered refl))
      (eqb-true k.finished k.planned all)
  dones b m true covered a u all = absurd (cc)

  -- both went well
  both_start : (asked : Bool) → AskTurn j cs ns x y es gs l h (Ok asked) → AskLeads j cs ns x y es gs l h (Ok asked)
      → (asked ≡ false → IsCovered h.manager) → AdmitTurn before after gs fs h k (Ok tt)
      → AdmitLeads before after gs fs h k (Ok tt)
      → StartLeads j cs ns x y before after es fs l k (Ok (all_done asked k))
  both_start asked t leads covered u then m at seen lim is =
      let first = leads m at seen is in
      let second = then (setup_of_job j) (asked_at m ns y gs) no_loose lim refl in
      record {
        part = record { ok = λ b s. second.ok b (first.ok b s); err = λ b s. tt };
        same = admit_writes_none before after gs fs h k u.ok ∙ ask_writes_none j cs ns x y es gs l h asked t.ok
            ∙ ap written (sym is);
        done = λ b s. dones b m asked covered u.ok (second.ok b (first.ok b s));
        work = λ b s. works b m asked is t.ok u.ok s (first.ok b s) (second.ok b (first.ok b s));
        waits = λ w. absurd (omega (arith, w, past));
        few =
            let same : h.admitted ≡ l.admitted = ask_admits_none j cs ns x y es gs l h asked t.ok in
            let most : k.admitted ≤ h.admitted + most_at_once = admits_few before after gs fs h k u.ok in
            omega (arith, same, most);
      }

  pub start_goes : (asked all : Bool) → all ≡ all_done asked k → AskTurn j cs ns x y es gs l h (Ok asked)
      → AskLeads j cs ns x y es gs l h (Ok asked) → (asked ≡ false → IsCovered h.manager)
      → AdmitTurn before after gs fs h k (Ok tt) → AdmitLeads before after gs fs h k (Ok tt)
      → StartLeads j cs ns x y before after es fs l k (Ok all)
  start_goes asked all is t leads covered u then =
      subst (λ (v : Bool). StartLeads j cs ns x y before after es fs l k (Ok v)) (sym is)
      (both_start asked t leads covered u then)

-- asking failed
pub start_fails : (j : Job) (cs ns : List ClientTold) (x y : SignalTold) (limits : LimitTold) (es fs : List Event)
    (l k : Led) (e : FileReconstructionError) → l.planned ≤ l.admitted → AskLeads j cs ns x y es fs l k (Err e)
    → StartLeads j cs ns x y limits limits es fs l k (Err e)
start_fails j cs ns x y limits es fs l k e past leads m at seen lim is = record {
  part = record {
    ok = λ b s. tt;
    err = λ b s. subst (λ (v : LimitTold). IsFailing (setup_of_job j) b (started_at m ns y v fs) e) lim
        ((leads m at seen is).err b s);
  };
  same = tt;
  done = λ b s. tt;
  work = λ b s. tt;
  waits = λ w. absurd (omega (arith, w, past));
  few = tt;
}

-- admitting did
pub start_stops : (j : Job) (cs ns : List ClientTold) (x y : SignalTold) (before after : LimitTold)
    (es gs fs : List Event) (l h k : Led) (asked : Bool) (e : FileReconstructionError) → l.planned ≤ l.admitted
    → AskLeads j cs ns x y es gs l h (Ok asked) → AdmitLeads before after gs fs h k (Err e)
    → StartLeads j cs ns x y before after es fs l k (Err e)
start_stops j cs ns x y before after es gs fs l h k asked e past leads then m at seen lim is =
    let first = leads m at seen is in
    let second = then (setup_of_job j) (asked_at m ns y gs) no_loose lim refl in
    record {
      part = record { ok = λ b s. tt; err = λ b s. second.err b (first.ok b s) };
      same = tt;
      done = λ b s. tt;
      work = λ b s. tt;
      waits = λ w. absurd (omega (arith, w, past));
      few = tt;
    }

-- ---- without asking, where planned terms wait

module _ (j : Job) (cs : List ClientTold) (x : SignalTold) (before after : LimitTold) (es fs : List Event) (l k : Led)
    (m : Moment) (at : m.told.clients ≡ cs) (seen : m.told.signal ≡ x) (is : m.events ≡ es) where
  -- the moment is that after asking for nothing
  stood : (b : RunTold) → IsGoing (setup_of_job j) b m no_loose l
      → IsGoing (setup_of_job j) b (asked_at m cs x es) no_loose l
  stood b s =
      subst (λ (n : Moment). IsGoing (setup_of_job j) b n no_loose l)
      (λ i. record { told = record m.told { clients = at i; signal = seen i }; events = is i }) s

  -- and nothing is
  none_asked : k.planned ≡ l.planned → NothingAsked m (started_at m cs x after fs) l k
  none_asked same = record { clients = sym at; signal = sym seen; planned_is = same }

  -- some are left, or are to be written
  waiting_work : (b : RunTold) → j.config.tries < 2 ^ 32 → l.admitted < l.planned → AdmittedTerms before after es fs l k
      → IsGoing (setup_of_job j) b m no_loose l
      → IsGoing (setup_of_job j) b (started_at m cs x after fs) no_loose k
      → LeavesWork (setup_of_job j) m.events fs l k
  waiting_work b few waits a s u =
      let g = setup_of_job j in
      let stays = (admitted_falls g before after es fs l k few u.led.counted a).0 in
      let same : measure g m.events l ≡ measure g es l = ap (λ (v : List Event). measure g v l) is in
      let low = s.led.counted.finished_within in
      let finished : k.finished ≡ l.finished = ap (λ (z : Led). z.finished) a.led in
      let planned_are : k.planned ≡ l.planned = ap (λ (z : Led). z.planned) a.led in
      inr (
        omega (arith, stays, same),
        has_work before after es fs l k u.led.running u.led.counted low a
            (omega (arith, finished, planned_are, low, waits)),
      )

pub start_waits : (j : Job) (cs : List ClientTold) (x : SignalTold) (before after : LimitTold) (es fs : List Event)
    (l k : Led) → j.config.tries < 2 ^ 32 → l.admitted < l.planned → AdmitTurn before after es fs l k (Ok tt)
    → AdmitLeads before after es fs l k (Ok tt) → StartLeads j cs cs x x before after es fs l k (Ok false)
start_waits j cs x before after es fs l k few waits u leads m at seen lim is =
    let second = leads (setup_of_job j) (asked_at m cs x es) no_loose lim refl in
    let goes : (b : RunTold) → IsGoing (setup_of_job j) b m no_loose l
    → IsGoing (setup_of_job j) b (started_at m cs x after fs) no_loose k =
    λ b s. second.ok b (stood j cs x before after es fs l k m at seen is b s) in
    record {
      part = record { ok = goes; err = λ b s. tt };
      same = admit_writes_none before after es fs l k u.ok ∙ ap written (sym is);
      done = λ b s all. absurd (false≢true all);
      work = λ b s all. waiting_work j cs x before after es fs l k m at seen is b few waits u.ok s (goes b s);
      waits = λ w. none_asked j cs x before after es fs l k m at seen is (ap (λ (z : Led). z.planned) u.ok.led);
      few = admits_few before after es fs l k u.ok;
    }

pub start_short : (j : Job) (cs : List ClientTold) (x : SignalTold) (before after : LimitTold) (es fs : List Event)
    (l k : Led) (e : FileReconstructionError) → AdmitTurn before after es fs l k (Err e)
    → AdmitLeads before after es fs l k (Err e) → StartLeads j cs cs x x before after es fs l k (Err e)
start_short j cs x before after es fs l k e u leads m at seen lim is =
    let second = leads (setup_of_job j) (asked_at m cs x es) no_loose lim refl in
    record {
      part = record { ok = λ b s. tt; err = λ b s. second.err b (stood j cs x before after es fs l k m at seen is b s) };
      same = tt;
      done = λ b s. tt;
      work = λ b s. tt;
      waits = λ w. none_asked j cs x before after es fs l k m at seen is (ap (λ (z : Led). z.planned) u.err.led);
      few = tt;
    }
