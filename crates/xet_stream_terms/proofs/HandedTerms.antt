-- A stream's leader after its next piece.
use Rattle.std.proofs.Common.{◌≡◌, ⊎_elim, inr, Option, None, ℕ, zero, suc, ◌+◌, ◌-◌, ◌^◌, ◌≤◌, ◌<◌, Bool, true, false, cond, List, [], ◌∷◌, ◌++◌, length, take, drop, refl, sym, subst, ◌∙◌, ap, arith, Some, length-append}
use Rattle.std.specs.Prelude.{All, count_by, filter, map, min, slice_get}
use Rattle.std.proofs.lemmas.List.{append-nil, map-append, take_all, take-append-drop, take-append-le}
use Rattle.std.proofs.lemmas.List.Elements.{All-drop, All-head, All-tail, filter-append}
use Rattle.std.proofs.lemmas.Option.{slice_get_within}
use Rattle.xet_base.specs.declared.cas_types.FileRange.{FileRange}
use Rattle.xet_outside.specs.Told.{CacheTold, ClientTold}
use Rattle.xet_error.specs.declared.error.Corruption.{Corruption}
use Rattle.xet_error.specs.declared.error.FileReconstructionError.{FileReconstructionError}
use Rattle.xet_error.specs.declared.error.FileReconstructionError.TheVariants as error
use Rattle.xet_offers.specs.declared.reconstruction_terms.xorb_block.XorbBlockData.{XorbBlockData}
use Rattle.xet_events.specs.declared.event.Event.{Event}
use Rattle.xet_events.specs.declared.event.Event.TheVariants.{Wrote}
use Rattle.xet_events.specs.Allowed.{AllowedAfter, IsAllowed}
use Rattle.xet_events.specs.Events.{Task, is_kept, planned, size}
use Rattle.xet_events.proofs.CallerLemmas.{flat-push, planned-push}
use Rattle.xet_history.specs.Queries.{CutFrom}
use Rattle.xet_history.specs.TrueHistory.{queries, queries_in}
use Rattle.xet_ties.specs.Saids.{has_bytes}
use Rattle.xet_ties.specs.Setup.{RunTold, Setup, download_of}
use Rattle.xet_ties.specs.Ties.{FirstStarts}
use Rattle.xet_ties.specs.Recordings.{wrote_of}
use Rattle.xet_ties.specs.Windows.{AreKept}
use Rattle.xet_ties.proofs.CallerLemmas.{wrote_allowed}
use Rattle.xet_leader.specs.Advances.{advanced}
use Rattle.xet_leader.specs.Led.{IsLed, Led}
use Rattle.xet_leader.specs.declared.ahead.NextTerm.{NextTerm}
use Rattle.xet_leader.specs.LedTerms.{FailsIn, IsNextTerm, PlanTerm, TermRefused, ahead, first_number, kept_in, led_terms, of_plan, size_in, some_in, task_of}
use Rattle.xet_leader.proofs.CallerLemmas.{IsLedTerm, is_at, is_kept_there, led_each, led_wrote, next_tasks, sound_passes, term_at, unkept_there}
use Rattle.xet_stream_rules.specs.Streams.{Carries, is_wrote, nobody, connections, next_term}
use Rattle.xet_stream_terms.proofs.AdmittedTerms.{empties_are}
use Rattle.xet_stream_rules.proofs.CallerLemmas.{count_by-append, each_same, some_next, true_more}
use Rattle.xet_stream_rules.specs.MomentCauses.{CauseAt, CorruptedAt}
use Rattle.xet_stream_rules.specs.Moments.{Goes, Lasts, at}
use Rattle.xet_stream_rules.specs.StepTold.{Asks}

-- ---- the terms up to the first one that has bytes

abbrev Tasks : List PlanTerm → List Task
Tasks ts = map task_of ts

-- of these terms the last one alone has bytes: one event, of one piece
record IsOne (ts : List PlanTerm) (n : ℕ) : Type 0 where
  pub events : wrote_of (map size (Tasks ts)) ≡ Wrote n ∷ []
  pub pieces : length (filter has_bytes (Tasks ts)) ≡ 1

one_here : (t : PlanTerm) → some_in t ≡ true → IsOne (t ∷ []) (size_in t)
one_here t h = record {
  events = ap (λ (v : Bool). cond v (Wrote (size_in t) ∷ []) [] ++ []) h;
  pieces = ap (λ (v : Bool). length (cond v (task_of t ∷ []) [])) h;
}

one_more : (t : PlanTerm) (ts : List PlanTerm) (n : ℕ) → some_in t ≡ false → IsOne ts n → IsOne (t ∷ ts) n
one_more t ts n h o = record {
  events = ap (λ (v : Bool). cond v (Wrote (size_in t) ∷ []) [] ++ wrote_of (map size (Tasks ts))) h ∙ o.events;
  pieces = ap (λ (v : Bool). length (cond v (task_of t ∷ filter has_bytes (Tasks ts)) (filter has_bytes (Tasks ts)))) h
      ∙ o.pieces;
}

ones : (ts : List PlanTerm) (count : ℕ) (t : PlanTerm) → slice_get ts count ≡ Some t
    → All (λ u. some_in u ≡ false) (take count ts) → some_in t ≡ true → IsOne (take (count + 1) ts) (size_in t)
ones [] count t h a s = absurd (cc)
ones (u ∷ ts) zero t h a s =
    let e : u ≡ t = cc in subst (λ (z : PlanTerm). IsOne (z ∷ []) (size_in t)) (sym e) (one_here t s)
ones (u ∷ ts) (suc n) t h a s =
    let plus : suc n + 1 ≡ suc (n + 1) = omega arith in
    let rest = ones ts n t h (All-tail (λ u. some_in u ≡ false) u (take n ts) a) s in
    subst (λ (m : ℕ). IsOne (take m (u ∷ ts)) (size_in t)) (sym plus)
    (one_more u (take (n + 1) ts) (size_in t) (All-head (λ u. some_in u ≡ false) u (take n ts) a) rest)

take_length : {A : Type 0} (xs : List A) (n : ℕ) → n ≤ length xs → length (take n xs) ≡ n
take_length xs zero h = refl
take_length [] (suc n) h = absurd (omega (arith, h))
take_length (x ∷ xs) (suc n) h = ap (λ (k : ℕ). suc k) (take_length xs n (omega (arith, h)))

map_length : (ts : List PlanTerm) → length (Tasks ts) ≡ length ts
map_length [] = refl
map_length (t ∷ ts) = ap (λ (k : ℕ). suc k) (map_length ts)

take_own : {A : Type 0} (ys zs : List A) → take (length ys) (ys ++ zs) ≡ ys
take_own ys zs = take-append-le (length ys) ys zs (omega arith) ∙ take_all (length ys) ys (omega arith)

-- the elements up to a place and some after it
take_more : {A : Type 0} (xs ys zs : List A) (n m : ℕ) → drop n xs ≡ ys ++ zs → length ys ≡ m → n ≤ length xs
    → take (n + m) xs ≡ take n xs ++ ys
take_more xs ys zs zero m d e h = let z : 0 + m ≡ length ys = omega (arith, e) in
    ap (λ (k : ℕ). take k xs) z ∙ ap (λ l. take (length ys) l) d ∙ take_own ys zs
take_more [] ys zs (suc n) m d e h = absurd (omega (arith, h))
take_more (x ∷ xs) ys zs (suc n) m d e h =
    let plus : suc n + m ≡ suc (n + m) = omega arith in
    ap (λ (k : ℕ). take k (x ∷ xs)) plus ∙ ap (λ l. x ∷ l) (take_more xs ys zs n m d e (omega (arith, h)))

-- ---- a piece

module _ (b : RunTold) (g : Setup) (es : List Event) (l : Led) (c : Carries b g es l) (count : ℕ) (t : PlanTerm)
    (at : slice_get (ahead l) count ≡ Some t) (empties : All (λ u. some_in u ≡ false) (take count (ahead l)))
    (some : some_in t ≡ true) (within : l.finished + (count + 1) ≤ l.admitted) where
  abbrev first : List PlanTerm
  first = take (count + 1) (ahead l)

  abbrev later : List PlanTerm
  later = drop (count + 1) (ahead l)

  size_first : length (Tasks first) ≡ count + 1
  size_first =
      let h = slice_get_within (ahead l) count t at in
      map_length first ∙ take_length (ahead l) (count + 1) (omega (arith, h))

  parts : drop l.finished (planned es) ≡ Tasks first ++ Tasks later
  parts =
      next_tasks g b es c.slack [] l c.led.counted.planned_are c.led.plans
      ∙ ap Tasks (sym (take-append-drop (count + 1) (ahead l))) ∙ map-append task_of first later

  one : IsOne first (size_in t)
  one = ones (ahead l) count t at empties some

  event : Event
  event = Wrote (size_in t)

  led_now : IsLed g b (es ++ Wrote (size_in t) ∷ []) c.slack [] (advanced (count + 1) l)
  led_now =
      let n = size_first in
      subst (λ (k : ℕ). IsLed g b (es ++ Wrote (size_in t) ∷ []) c.slack [] (advanced k l)) size_first
      (subst (λ (fs : List Event). IsLed g b (es ++ fs) c.slack [] (advanced (length (Tasks first)) l)) one.events
      (led_wrote g b es c.slack [] l (Tasks first) (Tasks later) parts (omega (arith, n, within)) c.led))

  -- over what is told: a leader whose next term was handed over is one of a run
  pub carries_wrote : Carries b g (es ++ Wrote (size_in t) ∷ []) (advanced (count + 1) l)
  carries_wrote =
      let e : Event = Wrote (size_in t) in
      let qs : queries (es ++ e ∷ []) ≡ queries es = flat-push queries_in es e ∙ append-nil (queries es) in
      let ps : planned (es ++ e ∷ []) ≡ planned es = planned-push es e ∙ append-nil (planned es) in
      let counted = c.led.counted in
      let planned_are = counted.planned_are in
      let fits = counted.planned_fits in
      let below = counted.admitted_within in
      let done : min (l.finished + (count + 1)) (2 ^ 64 - 1) ≡ l.finished + (count + 1) =
      omega (arith, within, below, fits) in
      let all : take (l.finished + (count + 1)) (planned es) ≡ take l.finished (planned es) ++ Tasks first =
      take_more (planned es) (Tasks first) (Tasks later) l.finished (count + 1) parts size_first
      (omega (arith, planned_are, within, below)) in
      let both : filter has_bytes (take (l.finished + (count + 1)) (planned es)) ≡
      filter has_bytes (take l.finished (planned es)) ++ filter has_bytes (Tasks first) =
      ap (λ (ts : List Task). filter has_bytes ts) all
      ∙ filter-append has_bytes (take l.finished (planned es)) (Tasks first) in
      let sum = ap length both
      ∙ length-append (filter has_bytes (take l.finished (planned es))) (filter has_bytes (Tasks first)) in
      let had = c.whole in
      let new = one.pieces in
      let d = count_by-append is_wrote es (e ∷ []) in
      let wrote : count_by is_wrote (e ∷ []) ≡ 1 = refl in
      record {
        slack = c.slack;
        log = c.log;
        heard = c.heard;
        asked = c.asked ∙ sym (ap (λ (xs : List FileRange). map (λ q. (g.file, q)) xs) qs);
        answered = c.answered;
        paired = c.paired;
        led = led_now;
        whole =
            ap (λ (n : ℕ). length (filter has_bytes (take n (planned (es ++ e ∷ []))))) done
            ∙ ap (λ (ts : List Task). length (filter has_bytes (take (l.finished + (count + 1)) ts))) ps
            ∙ omega (arith, sum, had, new, d, wrote);
      }

-- ---- it may be recorded

kept_tasks : (es : List Event) (ts : List PlanTerm) (count : ℕ) (t : PlanTerm) → slice_get ts count ≡ Some t
    → All (λ u. some_in u ≡ false) (take count ts) → is_kept es t.plan.number t.term.xorb_block ≡ true
    → AreKept es (Tasks (take (count + 1) ts))
kept_tasks es [] count t at a k = absurd (cc)
kept_tasks es (u ∷ ts) zero t at a k =
    let e : u ≡ t = cc in
    subst (λ (z : PlanTerm). AreKept es (Tasks (z ∷ []))) (sym e) ((λ some. k), tt)
kept_tasks es (u ∷ ts) (suc n) t at a k =
    let plus : suc n + 1 ≡ suc (n + 1) = omega arith in
    let none : some_in u ≡ false = All-head (λ v. some_in v ≡ false) u (take n ts) a in
    let rest = kept_tasks es ts n t at (All-tail (λ v. some_in v ≡ false) u (take n ts) a) k in
    subst (λ (m : ℕ). AreKept es (Tasks (take m (u ∷ ts)))) (sym plus)
    ((λ some. absurd (let z : false ≡ true = sym none ∙ some in cc)), rest)

-- it is a term of a plan that the leader has, by what is told
pub led_next : (b : RunTold) (g : Setup) (es : List Event) (l : Led) → (c : Carries b g es l) → (n : NextTerm)
    → (next : IsNextTerm l n) → IsLedTerm g b es c.slack [] (of_plan next.plan n.term)
led_next b g es l c n next =
    let all : All (IsLedTerm g b es c.slack []) (ahead l) =
    All-drop (IsLedTerm g b es c.slack []) (l.finished - first_number l.plans) (led_terms l.plans)
    (led_each g b es c.slack [] l.plans c.led.plans.each) in
    term_at g b es c.slack [] (ahead l) next.count (of_plan next.plan n.term) all next.first.there

-- ---- what lasts after a piece

lasts_wrote : (g : Setup) (es : List Event) (l k : Led) (cs : List ClientTold) (kk : CacheTold) (n : ℕ)
    → Lasts g (at es l cs kk) (at (es ++ Wrote n ∷ []) k cs kk)
lasts_wrote g es l k cs kk n = record {
  goes_on = each_same cs;
  tells = λ b t. t;
  true_of = λ s over h. true_more s (download_of g) es (Wrote n)
      (subst (λ (qs : List FileRange). CutFrom g.range.start g.range.end (g.greatest + g.least) qs)
      (sym (append-nil (queries es))) h.cuts) tt h;
  starts = λ h. subst (λ (ts : List Task). FirstStarts g.range.start ts)
      (sym (planned-push es (Wrote n) ∙ append-nil (planned es))) h;
}

module _ (g : Setup) (es : List Event) (l : Led) (c : Carries nobody g es l) (n : NextTerm) (next : IsNextTerm l n)
    (opens : l.finished + n.empties < l.admitted) where
  abbrev t : PlanTerm
  t = of_plan next.plan n.term

  abbrev count : ℕ
  count = next.count

  abbrev some_front : List PlanTerm
  some_front = take (count + 1) (ahead l)

  -- it is a term of a plan that the leader has
  pub is_led : IsLedTerm g nobody es c.slack [] t
  is_led = led_next nobody g es l c n next

  pub within : l.finished + (count + 1) ≤ l.admitted
  within = let e = empties_are g es l c n next in omega (arith, opens, e)

  -- where its block is kept
  pub may_record : is_kept es next.plan.number n.term.xorb_block ≡ true → IsAllowed es (Wrote (size_in t))
  may_record k =
      let one = ones (ahead l) count t next.first.there next.first.before next.first.some in
      let long = slice_get_within (ahead l) count t next.first.there in
      let size : length (Tasks some_front) ≡ count + 1 =
      map_length some_front ∙ take_length (ahead l) (count + 1) (omega (arith, long)) in
      let parts : drop l.finished (planned es) ≡ Tasks some_front ++ Tasks (drop (count + 1) (ahead l)) =
      next_tasks g nobody es c.slack [] l c.led.counted.planned_are c.led.plans
      ∙ ap Tasks (sym (take-append-drop (count + 1) (ahead l)))
      ∙ map-append task_of some_front (drop (count + 1) (ahead l)) in
      let w = within in
      let admitted = c.led.counted.admitted_are in
      let all = wrote_allowed es l.finished (Tasks some_front) (Tasks (drop (count + 1) (ahead l))) c.led.running
      (is_at g nobody es c.slack [] l c.led) (omega (arith, size, w, admitted)) parts
      (kept_tasks es (ahead l) count t next.first.there next.first.before k) in
      (subst (λ (fs : List Event). AllowedAfter es fs) one.events all).0

  -- where its block keeps data
  pub may_wrote : (d : XorbBlockData) → kept_in t ≡ Some d → IsAllowed es (Wrote (size_in t))
  may_wrote d kept = may_record (is_kept_there g nobody es c.slack [] t is_led d kept)

  -- it is the history's next term
  pub next_task : next_term es ≡ Some (task_of t)
  next_task = some_next nobody g es l c count t next.first

  -- where its block keeps nothing it isn't kept in the history
  pub unkept : kept_in t ≡ None → is_kept es next.plan.number n.term.xorb_block ≡ false
  unkept none = unkept_there g nobody es c.slack [] t is_led none

  -- its piece was handed over
  pub goes_wrote : (cs : List ClientTold) (kk : CacheTold)
      → Goes g (at es l cs kk) (at (es ++ Wrote (size_in t) ∷ []) (advanced (n.empties + 1) l) cs kk)
  goes_wrote cs kk = record {
    lasts = lasts_wrote g es l (advanced (n.empties + 1) l) cs kk (size_in t);
    carries = λ b told h. subst
        (λ (k : ℕ). Carries b g (es ++ Wrote (size_in t) ∷ []) (advanced (k + 1) l)) (sym (empties_are g es l c n next))
        (carries_wrote b g es l h count t next.first.there next.first.before next.first.some within);
  }

  -- it fails its test, or memory was wanting
  pub refused_cause : (cs : List ClientTold) (kk : CacheTold) (new : List Event) (a : Asks) (e : FileReconstructionError)
      → TermRefused t e → CauseAt g (at es l cs kk) (at es l cs kk) new a e
  refused_cause cs kk new a e r =
      ⊎_elim
      (λ (m : e ≡ error.OutOfMemory). subst (CauseAt g (at es l cs kk) (at es l cs kk) new a) (sym m) tt)
      (λ (z : (k : Corruption) × (e ≡ error.CorruptedReconstruction k) × FailsIn t k).
      subst (CauseAt g (at es l cs kk) (at es l cs kk) new a) (sym z.1) (corrupted z.0 z.2)) r
    where
      corrupted : (k : Corruption) → FailsIn t k → CorruptedAt g (at es l cs kk) (at es l cs kk) a k
      corrupted k f = record {
        untrue = λ s over h.
            let passes = sound_passes g (connections s) es h.slack [] t (led_next (connections s) g es l h n next)
            f.data_of f.kept s (record { tell = (refl, tt); valid = over.valid }) in
            let u : ◌≡◌ {A = Option Corruption} None (Some k) = sym passes ∙ f.fails in
            cc;
        failed = inr (inr (inr (record { place = count; term = t; there = next.first.there; fails = f })));
      }
