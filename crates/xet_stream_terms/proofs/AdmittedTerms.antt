-- The terms up to the next one are admitted.
use Rattle.std.proofs.Common.{◌≡◌, ◌⊎◌, inl, ℕ, zero, suc, ◌+◌, ◌-◌, ◌≤◌, ◌<◌, false, List, [], ◌∷◌, ◌++◌, length, take, drop, refl, sym, subst, ◌∙◌, ap, arith, append_assoc, Option, Some, None, Ok, Err}
use Rattle.std.specs.Prelude.{MatchOption, Result, count_by, map, min, slice_get}
use Rattle.std.specs.List.{sum_by}
use Rattle.std.proofs.lemmas.Bool.Decides.{nat_tests}
use Rattle.std.proofs.lemmas.List.{append-nil}
use Rattle.std.proofs.lemmas.List.Elements.{All-head, All-tail}
use Rattle.std.proofs.lemmas.List.Sums.{sum_by-append, sum_by-cons}
use Rattle.std.proofs.lemmas.Option.{slice_get_within}
use Rattle.xet_outside.specs.Told.{CacheTold, ClientTold}
use Rattle.xet_error.specs.declared.error.FileReconstructionError.{FileReconstructionError}
use Rattle.xet_events.specs.declared.event.Event.{Event}
use Rattle.xet_events.specs.declared.event.Event.TheVariants.{Admit}
use Rattle.xet_events.specs.Allowed.{MayAdmit}
use Rattle.xet_events.specs.Events.{Task, is_admit, planned, size, taken_in, unwritten, written}
use Rattle.xet_events.specs.Limits.{LimitTold}
use Rattle.xet_parts.specs.Admissions.{GaveLimits, IsWaiting, admits}
use Rattle.xet_parts.proofs.CallerLemmas.{admits_counted, admits_planned}
use Rattle.xet_history.specs.TrueHistory.{IsTrueHistory}
use Rattle.xet_ties.specs.Setup.{Setup, download_of}
use Rattle.xet_ties.specs.Ties.{FirstStarts}
use Rattle.xet_leader.specs.declared.ahead.NextTerm.{NextTerm}
use Rattle.xet_leader.specs.Led.{Led}
use Rattle.xet_leader.specs.LedTerms.{IsNextTerm, NoneHas, PlanTerm, ahead, size_in, some_in, task_of}
use Rattle.xet_leader.specs.Stepping.{AdmitSome, AdmittedSome}
use Rattle.xet_leader.proofs.CallerLemmas.{length_tasks, next_tasks}
use Rattle.xet_stream_rules.specs.Streams.{Carries, nobody}
use Rattle.xet_stream_terms.specs.Admitting.{AdmitsCall, AdmitsNext, AdmitsSome, AheadCall, most_of}
use Rattle.xet_stream_rules.specs.Moments.{Lasts, at}
use Rattle.xet_stream_terms.proofs.Admits.{admit_still, carries_admits}
use Rattle.xet_stream_rules.proofs.CallerLemmas.{each_same, lasts_still, lasts_then, admits_running}
use Rattle.xet_stream_rules.proofs.CallerLemmas.{get_none, written-append}

-- ---- admissions last

pub lasts_admits : (g : Setup) (es : List Event) (l k : Led) (cs : List ClientTold) (kk : CacheTold) (ls : List ℕ)
    → Lasts g (at es l cs kk) (at (es ++ admits ls) k cs kk)
lasts_admits g es l k cs kk [] =
    record {
      goes_on = each_same cs;
      tells = λ b t. t;
      true_of = λ s o t. subst (λ (e : List Event). IsTrueHistory s (download_of g) e) (sym (append-nil es)) t;
      starts = λ t. subst (λ (e : List Event). FirstStarts g.range.start (planned e)) (sym (append-nil es)) t;
    }
lasts_admits g es l k cs kk (n ∷ ls) =
    let one : Lasts g (at es l cs kk) (at (es ++ Admit n ∷ []) l cs kk) =
    lasts_still g (at es l cs kk) (at (es ++ Admit n ∷ []) l cs kk) (Admit n) refl (admit_still n) (λ s. tt)
    (each_same cs) (λ s o h. h) in
    let more = lasts_admits g (es ++ Admit n ∷ []) l k cs kk ls in
    subst (λ (e : List Event). Lasts g (at es l cs kk) (at e k cs kk)) (append_assoc es (Admit n ∷ []) (admits ls))
    (lasts_then g (at es l cs kk) (at (es ++ Admit n ∷ []) l cs kk)
    (at ((es ++ Admit n ∷ []) ++ admits ls) k cs kk) one more)

-- ---- no byte is unwritten before the next term is admitted

-- of empty terms there are no bytes
empty_sum : (ts : List PlanTerm) (n m : ℕ) → NoneHas (take n ts) → m ≤ n → sum_by size (take m (map task_of ts)) ≡ 0
empty_sum ts n zero a h = refl
empty_sum [] n (suc m) a h = refl
empty_sum (t ∷ ts) zero (suc m) a h = absurd (omega (arith, h))
empty_sum (t ∷ ts) (suc n) (suc m) a h =
    let rest = empty_sum ts n m (All-tail (λ u. some_in u ≡ false) t (take n ts) a) (omega (arith, h)) in
    let none : some_in t ≡ false = All-head (λ u. some_in u ≡ false) t (take n ts) a in
    let z : size_in t ≡ 0 = grind (arith, nat_tests) in
    let same : size (task_of t) ≡ size_in t = refl in
    let sum = sum_by-cons size (task_of t) (take m (map task_of ts)) in
    omega (arith, rest, z, same, sum)

none_written : (ls : List ℕ) → written (admits ls) ≡ 0
none_written [] = refl
none_written (n ∷ ls) =
    let c = sum_by-cons taken_in (Admit n) (admits ls) in let r = none_written ls in omega (arith, c, r)

take_both : {A : Type 0} (k m : ℕ) (xs : List A) → k ≤ length xs → take (k + m) xs ≡ take k xs ++ take m (drop k xs)
take_both zero m xs h = let z : 0 + m ≡ m = omega arith in ap (λ (j : ℕ). take j xs) z
take_both (suc k) m [] h = absurd (omega (arith, h))
take_both (suc k) m (x ∷ xs) h =
    let e : suc k + m ≡ suc (k + m) = omega arith in
    ap (λ (j : ℕ). take j (x ∷ xs)) e ∙ ap (λ l. x ∷ l) (take_both k m xs (omega (arith, h)))

module _ (g : Setup) (es : List Event) (l : Led) (c : Carries nobody g es l) (n : NextTerm) (next : IsNextTerm l n)
  where
    abbrev count : ℕ
    count = next.count

    tasks : drop l.finished (planned es) ≡ map task_of (ahead l)
    tasks = next_tasks g nobody es c.slack [] l c.led.counted.planned_are c.led.plans

    length_drop : {A : Type 0} (k : ℕ) (xs : List A) → length (drop k xs) ≡ length xs - k
    length_drop zero xs = omega arith
    length_drop (suc k) [] = omega arith
    length_drop (suc k) (x ∷ xs) = let h = length_drop k xs in omega (arith, h)

    -- it is planned
    pub is_planned : l.finished + count < l.planned
    is_planned =
        let within = slice_get_within (ahead l) count _ next.first.there in
        let same = ap length tasks ∙ length_tasks (ahead l) in
        let long = length_drop l.finished (planned es) in
        let p = c.led.counted.planned_are in
        omega (arith, within, same, long, p)

    -- the count of empty terms didn't stop at its end
    pub empties_are : n.empties ≡ count
    empties_are =
        let h = next.empties in
        let p = is_planned in
        let f = c.led.counted.planned_fits in
        omega (arith, h, p, f)

    pub most_is : most_of l n ≡ (l.finished + count + 1) - l.admitted
    most_is =
        let e = empties_are in
        let p = is_planned in
        let f = c.led.counted.planned_fits in
        omega (arith, e, p, f)

    -- so far admitted, no byte is unwritten
    none_unwritten : (ls : List ℕ) → l.admitted + length ls ≤ l.finished + count
        → unwritten (es ++ admits ls) ≡ 0
    none_unwritten ls h =
        let m = (l.admitted + length ls) - l.finished in
        let w = c.led.counted.finished_within in
        let a = c.led.counted.admitted_are in
        let aw = c.led.counted.admitted_within in
        let p = c.led.counted.planned_are in
        let counted = admits_counted es ls in
        let all : count_by is_admit (es ++ admits ls) ≡ l.finished + m = omega (arith, w, a, counted) in
        let same = admits_planned es ls in
        let parts = take_both l.finished m (planned es) (omega (arith, w, aw, p)) in
        let empty = empty_sum (ahead l) count m next.first.before (omega (arith, h, w)) in
        let split = sum_by-append size (take l.finished (planned es)) (take m (drop l.finished (planned es))) in
        let later : sum_by size (take m (drop l.finished (planned es))) ≡ 0 =
        ap (λ (ts : List Task). sum_by size (take m ts)) tasks ∙ empty in
        let sum : sum_by size (take (count_by is_admit (es ++ admits ls)) (planned (es ++ admits ls)))
        ≡ sum_by size (take l.finished (planned es)) =
        ap (λ (k : ℕ). sum_by size (take k (planned (es ++ admits ls)))) all
        ∙ ap (λ (ts : List Task). sum_by size (take (l.finished + m) ts)) same
        ∙ ap (λ (ts : List Task). sum_by size ts) parts ∙ omega (arith, split, later) in
        let wrote = written-append es (admits ls) in
        let none = none_written ls in
        let is = c.led.counted.written_are in
        omega (arith, sum, wrote, none, is)

    -- so no limit refuses the next one
    may_admit : (ls : List ℕ) (limit : ℕ) → l.admitted + length ls ≤ l.finished + count
        → MayAdmit limit (es ++ admits ls)
    may_admit ls limit h =
        let a = c.led.counted.admitted_are in
        let p = c.led.counted.planned_are in
        let counted = admits_counted es ls in
        let within : count_by is_admit (es ++ admits ls) < length (planned (es ++ admits ls)) =
        (let same = ap length (admits_planned es ls) in let i = is_planned in omega (arith, a, p, counted, same, h, i)) in
        by (slice_get (planned (es ++ admits ls)) (count_by is_admit (es ++ admits ls))) refl within
      where
        by : (o : Option Task)
            → slice_get (planned (es ++ admits ls)) (count_by is_admit (es ++ admits ls)) ≡ o
            → count_by is_admit (es ++ admits ls) < length (planned (es ++ admits ls))
            → MatchOption o ⊥ (λ t. (unwritten (es ++ admits ls) ≡ 0) ⊎ (unwritten (es ++ admits ls) + size t ≤ limit))
        by None e w = absurd (let p = get_none (planned (es ++ admits ls)) (count_by is_admit (es ++ admits ls)) e in
            omega (arith, p, w))
        by (Some t) e w = inl (none_unwritten ls h)

    -- none is left
    none_left : (left : ℕ) (ls unused : List ℕ) → length ls + left ≡ min (l.planned - l.admitted) (most_of l n)
        → IsWaiting left (es ++ admits ls) unused → (left ≡ 0) × (unused ≡ [])
    none_left left ls [] counted w = (w, refl)
    none_left left ls (u ∷ []) counted w =
        let some = w.0 in
        let is = most_is in
        let less : l.admitted + length ls ≤ l.finished + count = omega (arith, counted, some, is) in
        absurd (w.1 (admits_running es ls c.led.running, may_admit ls u less))
    none_left left ls (u ∷ v ∷ us) counted w = absurd w

    module _ (cs : List ClientTold) (kk : CacheTold) (before after : LimitTold) (fs : List Event) (k : Led) where
      admitted_all : AdmittedSome (most_of l n) before after es fs l k
          → AdmitsNext g (at es l cs kk) (at fs k cs kk) before after n
      admitted_all a =
          let ls = a.admits.admitted.limits in
          let is : fs ≡ es ++ admits ls = a.admits.admitted.events in
          let none = none_left a.left ls a.admits.unused a.admits.counted
          (subst (λ (e : List Event). IsWaiting a.left e a.admits.unused) is a.admits.waits) in
          let left = none.0 in
          let counted = a.admits.counted in
          let most = most_is in
          let e = empties_are in
          let p = is_planned in
          let w = c.led.counted.admitted_within in
          let now : k.admitted ≡ l.admitted + (min (l.planned - l.admitted) (most_of l n) - a.left) =
          ap (λ (z : Led). z.admitted) a.led in
          let lasts : Lasts g (at es l cs kk) (at fs k cs kk) =
          subst (λ (v : List Event). Lasts g (at es l cs kk) (at v k cs kk)) (sym is) (lasts_admits g es l k cs kk ls) in
          record {
            admits = record {
              limits = ls;
              added = is;
              given = subst (λ (us : List ℕ). GaveLimits before after (ls ++ us)) none.1 a.admits.admitted.given;
              lasts = lasts;
            };
            goes = record {
              lasts = lasts;
              carries = λ b t h. subst (λ (v : List Event). Carries b g v k) (sym is)
                  (subst (λ (z : Led). Carries b g (es ++ admits ls) z) (sym a.led)
                  (carries_admits b g es l h ls (most_of l n) a.left counted));
            };
            led = a.led ∙ ap (λ (m : ℕ). record l { admitted = m }) (sym now);
            reached = omega (arith, now, left, most, e, p, w);
          }

      pub admits_call : (answer : Result (Unit {0}) FileReconstructionError)
          → AdmitSome (most_of l n) before after es fs l k answer
          → AdmitsCall g (at es l cs kk) (at fs k cs kk) before after n answer
      admits_call (Ok tt) a = record { ok = admitted_all a.ok; err = tt }
      admits_call (Err x) a = record {
        ok = tt;
        err = (
          a.err.admits.memory,
          a.err.admits.last,
          record {
            limits = a.err.admits.admitted.limits;
            added = a.err.admits.admitted.events;
            given = a.err.admits.admitted.given;
            lasts = subst (λ (v : List Event). Lasts g (at es l cs kk) (at v k cs kk)) (sym a.err.admits.admitted.events)
                (lasts_admits g es l k cs kk a.err.admits.admitted.limits);
          },
        );
      }

-- ---- all that wait

waiting_few : (left : ℕ) (fs : List Event) (us : List ℕ) → IsWaiting left fs us → length us ≤ 1
waiting_few left fs [] w = omega arith
waiting_few left fs (u ∷ []) w = omega arith
waiting_few left fs (u ∷ v ∷ us) w = absurd w

module _ (g : Setup) (es : List Event) (l : Led) (c : Carries nobody g es l) (cs : List ClientTold) (kk : CacheTold)
    (before after : LimitTold) (fs : List Event) (k : Led) (most : ℕ) where
  admitted_some : AdmittedSome most before after es fs l k
      → AdmitsSome g (at es l cs kk) (at fs k cs kk) before after
  admitted_some a =
      let ls = a.admits.admitted.limits in
      let is : fs ≡ es ++ admits ls = a.admits.admitted.events in
      let lasts : Lasts g (at es l cs kk) (at fs k cs kk) =
      subst (λ (v : List Event). Lasts g (at es l cs kk) (at v k cs kk)) (sym is) (lasts_admits g es l k cs kk ls) in
      record {
        unused = a.admits.unused;
        few = waiting_few a.left fs a.admits.unused a.admits.waits;
        admits = record { limits = ls; added = is; given = a.admits.admitted.given; lasts = lasts };
        goes = record {
          lasts = lasts;
          carries = λ b t h. subst (λ (v : List Event). Carries b g v k) (sym is)
              (subst (λ (z : Led). Carries b g (es ++ admits ls) z) (sym a.led)
              (carries_admits b g es l h ls most a.left a.admits.counted));
        };
        led = a.led ∙ ap (λ (m : ℕ). record l { admitted = m }) (sym (ap (λ (z : Led). z.admitted) a.led));
      }

  pub ahead_call : (answer : Result (Unit {0}) FileReconstructionError)
      → AdmitSome most before after es fs l k answer
      → AheadCall g (at es l cs kk) (at fs k cs kk) before after answer
  ahead_call (Ok tt) a = record { ok = admitted_some a.ok; err = tt }
  ahead_call (Err x) a = record {
    ok = tt;
    err = (
      a.err.admits.memory,
      a.err.admits.last,
      record {
        limits = a.err.admits.admitted.limits;
        added = a.err.admits.admitted.events;
        given = a.err.admits.admitted.given;
        lasts = subst (λ (v : List Event). Lasts g (at es l cs kk) (at v k cs kk)) (sym a.err.admits.admitted.events)
            (lasts_admits g es l k cs kk a.err.admits.admitted.limits);
      },
      a.err.led,
    );
  }
