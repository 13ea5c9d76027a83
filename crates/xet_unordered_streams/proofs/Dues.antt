-- Due terms, by a stream's leader and by its history.
use Rattle.std.proofs.Common.{◌≡◌, ◌⊎◌, ⊎_elim, inl, inr, ℕ, zero, suc, ◌+◌, ◌-◌, ◌≤◌, ◌<◌, Bool, true, false, cond, List, [], ◌∷◌, ◌++◌, length, take, drop, refl, sym, subst, ◌∙◌, ap, arith, length-append, Option, Some, None}
use Rattle.std.specs.Prelude.{IfSome, MatchOption, count_by, filter, map, slice_get}
use Rattle.std.proofs.lemmas.Bool.{cases_lt}
use Rattle.std.proofs.lemmas.List.{take-append-drop}
use Rattle.std.proofs.lemmas.List.Elements.{All-drop, filter-append}
use Rattle.std.proofs.lemmas.Option.{slice_get_within}
use Rattle.xet_error.specs.declared.error.Corruption.{Corruption}
use Rattle.xet_error.specs.declared.error.FileReconstructionError.{FileReconstructionError}
use Rattle.xet_error.specs.declared.error.FileReconstructionError.TheVariants as error
use Rattle.xet_events.specs.declared.event.Event.{Event}
use Rattle.xet_events.specs.declared.event.Event.TheVariants.{Fail}
use Rattle.xet_events.specs.Allowed.{IsAllowedHistory}
use Rattle.xet_events.specs.Events.{Task, admitted, is_admit, is_kept, planned}
use Rattle.xet_ties.specs.PartCalls.{stop_event}
use Rattle.xet_ties.specs.Saids.{has_bytes, some_of}
use Rattle.xet_ties.specs.Setup.{RunTold, Setup}
use Rattle.xet_ties.specs.Ties.{FirstStarts}
use Rattle.xet_leader.specs.Led.{Led}
use Rattle.xet_leader.specs.LedTerms.{FailsIn, OneFails, PlanTerm, TermRefused, ahead, first_number, kept_in, led_terms, some_in, task_of}
use Rattle.xet_leader.proofs.CallerLemmas.{IsLedTerm, is_kept_there, led_each, next_tasks, sound_passes, some_tasks, term_at, unkept_there}
use Rattle.xet_stream_rules.specs.Streams.{Carries, IsOpen, connections, delivered, nobody}
use Rattle.xet_stream_rules.specs.Unordered.{UnorderedView}
use Rattle.xet_unordered_streams.specs.Items.{DueCorrupted, IsDue, NoneIsDue}
use Rattle.xet_unordered_streams.specs.Placing.{AreGiven}
use Rattle.xet_unordered_streams.specs.steps.Dues.{IsWanted, NoneDue}
use Rattle.xet_unordered_streams.proofs.Given.{fresh_due, in_filter, passed_at, was_term}

-- ---- lists

pub get_map : {A B : Type 0} (f : A → B) (xs : List A) (i : ℕ) (x : A) → slice_get xs i ≡ Some x
    → slice_get (map f xs) i ≡ Some (f x)
get_map f [] i x h = absurd (cc)
get_map f (y ∷ xs) zero x h = let e : y ≡ x = cc in ap (λ z. Some (f z)) e
get_map f (y ∷ xs) (suc i) x h = get_map f xs i x h

-- what a map gives there comes from what stands there
record FromMap {A B : Type 0} (f : A → B) (xs : List A) (i : ℕ) (y : B) : Type 0 where
  pub from : A
  pub at : slice_get xs i ≡ Some from
  pub is : f from ≡ y

map_get : {A B : Type 0} (f : A → B) (xs : List A) (i : ℕ) (y : B) → slice_get (map f xs) i ≡ Some y
    → FromMap f xs i y
map_get f [] i y h = absurd (cc)
map_get f (x ∷ xs) zero y h = record { from = x; at = refl; is = cc }
map_get f (x ∷ xs) (suc i) y h =
    let r = map_get f xs i y h in record { from = r.from; at = r.at; is = r.is }

get_drop : {A : Type 0} (n : ℕ) (xs : List A) (i : ℕ) (x : A) → slice_get (drop n xs) i ≡ Some x
    → slice_get xs (n + i) ≡ Some x
get_drop zero xs i x h = let e : 0 + i ≡ i = omega arith in ap (λ (k : ℕ). slice_get xs k) e ∙ h
get_drop (suc n) [] i x h = absurd (cc)
get_drop (suc n) (y ∷ xs) i x h =
    let e : suc n + i ≡ suc (n + i) = omega arith in
    ap (λ (k : ℕ). slice_get (y ∷ xs) k) e ∙ get_drop n xs i x h

drop_get : {A : Type 0} (n : ℕ) (xs : List A) (i : ℕ) (x : A) → slice_get xs (n + i) ≡ Some x
    → slice_get (drop n xs) i ≡ Some x
drop_get zero xs i x h = let e : i ≡ 0 + i = omega arith in ap (λ (k : ℕ). slice_get xs k) e ∙ h
drop_get (suc n) [] i x h = absurd (cc)
drop_get (suc n) (y ∷ xs) i x h =
    let e : suc (n + i) ≡ suc n + i = omega arith in
    drop_get n xs i x (ap (λ (k : ℕ). slice_get (y ∷ xs) k) e ∙ h)

pub get_take : {A : Type 0} (xs : List A) (n i : ℕ) (x : A) → i < n → slice_get xs i ≡ Some x
    → slice_get (take n xs) i ≡ Some x
get_take [] n i x k e = absurd (cc)
get_take (y ∷ xs) zero i x k e = absurd (omega (arith, k))
get_take (y ∷ xs) (suc n) zero x k e = e
get_take (y ∷ xs) (suc n) (suc i) x k e = get_take xs n i x (omega (arith, k)) e

pub record InTake {A : Type 0} (xs : List A) (n i : ℕ) (x : A) : Type 0 where
  pub before : i < n
  pub at : slice_get xs i ≡ Some x

pub take_get : {A : Type 0} (xs : List A) (n i : ℕ) (x : A) → slice_get (take n xs) i ≡ Some x → InTake xs n i x
take_get xs zero i x e = absurd (cc)
take_get [] (suc n) i x e = absurd (cc)
take_get (y ∷ xs) (suc n) zero x e = record { before = omega arith; at = e }
take_get (y ∷ xs) (suc n) (suc i) x e =
    let r = take_get xs n i x e in let b = r.before in record { before = omega (arith, b); at = r.at }

get_right : {A : Type 0} (xs ys : List A) (i : ℕ) (y : A) → slice_get ys i ≡ Some y
    → slice_get (xs ++ ys) (length xs + i) ≡ Some y
get_right [] ys i y h = let e : 0 + i ≡ i = omega arith in ap (λ (k : ℕ). slice_get ys k) e ∙ h
get_right (x ∷ xs) ys i y h =
    let e : suc (length xs) + i ≡ suc (length xs + i) = omega arith in
    ap (λ (k : ℕ). slice_get (x ∷ (xs ++ ys)) k) e ∙ get_right xs ys i y h

get_first : {A : Type 0} (xs ys : List A) (i : ℕ) (x : A) → slice_get xs i ≡ Some x
    → slice_get (xs ++ ys) i ≡ Some x
get_first [] ys i x h = absurd (cc)
get_first (z ∷ xs) ys zero x h = h
get_first (z ∷ xs) ys (suc i) x h = get_first xs ys i x h

take_both : {A : Type 0} (k m : ℕ) (xs : List A) → k ≤ length xs → take (k + m) xs ≡ take k xs ++ take m (drop k xs)
take_both zero m xs h = let z : 0 + m ≡ m = omega arith in ap (λ (j : ℕ). take j xs) z
take_both (suc k) m [] h = absurd (omega (arith, h))
take_both (suc k) m (x ∷ xs) h =
    let e : suc k + m ≡ suc (k + m) = omega arith in
    ap (λ (j : ℕ). take j (x ∷ xs)) e ∙ ap (λ l. x ∷ l) (take_both k m xs (omega (arith, h)))

map_take : {A B : Type 0} (f : A → B) (n : ℕ) (xs : List A) → take n (map f xs) ≡ map f (take n xs)
map_take f zero xs = refl
map_take f (suc n) [] = refl
map_take f (suc n) (x ∷ xs) = ap (λ l. f x ∷ l) (map_take f n xs)

map_length : {A B : Type 0} (f : A → B) (xs : List A) → length (map f xs) ≡ length xs
map_length f [] = refl
map_length f (x ∷ xs) = ap suc (map_length f xs)

-- ---- a leader's terms in its history

module _ (b : RunTold) (g : Setup) (es : List Event) (l : Led) (c : Carries b g es l) where
  abbrev front : List Task
  front = filter has_bytes (take l.finished (planned es))

  tasks : drop l.finished (planned es) ≡ map task_of (ahead l)
  tasks = next_tasks g b es c.slack [] l c.led.counted.planned_are c.led.plans

  split : some_of es ≡ front ++ map task_of (filter some_in (ahead l))
  split =
      ap (λ (ts : List Task). filter has_bytes ts) (sym (take-append-drop l.finished (planned es)))
      ∙ filter-append has_bytes (take l.finished (planned es)) (drop l.finished (planned es))
      ∙ ap (λ (ts : List Task). front ++ ts) (ap (λ (ts : List Task). filter has_bytes ts) tasks ∙ some_tasks (ahead l))

  -- it is a term of one of the leader's plans
  pub led_term : (skip : ℕ) (t : PlanTerm) → slice_get (ahead l) skip ≡ Some t → IsLedTerm g b es c.slack [] t
  led_term skip t there =
      term_at g b es c.slack [] (ahead l) skip t
      (All-drop (IsLedTerm g b es c.slack []) (l.finished - first_number l.plans) (led_terms l.plans)
      (led_each g b es c.slack [] l.plans c.led.plans.each)) there

  pub task_at : (skip : ℕ) (t : PlanTerm) → slice_get (ahead l) skip ≡ Some t
      → slice_get (planned es) (l.finished + skip) ≡ Some (task_of t)
  task_at skip t there =
      get_drop l.finished (planned es) skip (task_of t)
      (ap (λ (ts : List Task). slice_get ts skip) tasks ∙ get_map task_of (ahead l) skip t there)

  -- an admitted one
  pub admitted_at : (skip : ℕ) (t : PlanTerm) → slice_get (ahead l) skip ≡ Some t → l.finished + skip < l.admitted
      → slice_get (admitted es) (l.finished + skip) ≡ Some (task_of t)
  admitted_at skip t there opens =
      let a = c.led.counted.admitted_are in
      get_take (planned es) _ (l.finished + skip) (task_of t) (omega (arith, opens, a)) (task_at skip t there)

  admitted_parts : length (filter has_bytes (admitted es))
      ≡ delivered es + length (filter some_in (take (l.admitted - l.finished) (ahead l)))
  admitted_parts =
      let w = c.led.counted.finished_within in
      let a = c.led.counted.admitted_are in
      let aw = c.led.counted.admitted_within in
      let p = c.led.counted.planned_are in
      let m = l.admitted - l.finished in
      let first : admitted es ≡ take (l.finished + m) (planned es) =
      (let k : l.admitted ≡ l.finished + m = omega (arith, w) in
      ap (λ (n : ℕ). take n (planned es)) (sym a ∙ k)) in
      let parts = take_both l.finished m (planned es) (omega (arith, w, aw, p)) in
      let later : filter has_bytes (take m (drop l.finished (planned es))) ≡ map task_of (filter some_in (take m (ahead l))) =
      ap (λ (ts : List Task). filter has_bytes (take m ts)) tasks
      ∙ ap (λ (ts : List Task). filter has_bytes ts) (map_take task_of m (ahead l))
      ∙ some_tasks (take m (ahead l)) in
      let all : filter has_bytes (admitted es) ≡ front ++ map task_of (filter some_in (take m (ahead l))) =
      ap (λ (ts : List Task). filter has_bytes ts) (first ∙ parts)
      ∙ filter-append has_bytes (take l.finished (planned es)) (take m (drop l.finished (planned es)))
      ∙ ap (λ (ts : List Task). front ++ ts) later in
      let sum = length-append front (map task_of (filter some_in (take m (ahead l)))) in
      let long = map_length task_of (filter some_in (take m (ahead l))) in
      let is = ap length all in
      let whole = c.whole in
      omega (arith, is, sum, long, whole)

  -- where it stands among those with bytes
  pub record StandsAt (t : Task) : Type 0 where
    pub place : ℕ
    pub at : slice_get (some_of es) place ≡ Some t
    pub past : delivered es ≤ place
    pub opens : place < length (filter has_bytes (admitted es))

  pub stands_at : (skip : ℕ) (t : PlanTerm) → slice_get (ahead l) skip ≡ Some t → some_in t ≡ true
      → l.finished + skip < l.admitted → StandsAt (task_of t)
  stands_at skip t there some opens =
      let f = in_filter some_in (ahead l) skip t there some in
      let whole = c.whole in
      let within = f.within (l.admitted - l.finished) (omega (arith, opens)) in
      let parts = admitted_parts in
      record {
        place = length front + f.place;
        at = ap (λ (ts : List Task). slice_get ts (length front + f.place)) split
            ∙ get_right front (map task_of (filter some_in (ahead l))) f.place (task_of t)
            (get_map task_of (filter some_in (ahead l)) f.place t f.at);
        past = omega (arith, whole);
        opens = omega (arith, whole, within, parts);
      }

  -- a planned term with bytes before the first one that isn't written was recorded
  pub finished_at : (place : ℕ) (t : Task) → slice_get (planned es) place ≡ Some t → has_bytes t ≡ true
      → place < l.finished → (i : ℕ) × (slice_get (some_of es) i ≡ Some t) × (i < delivered es)
  finished_at place t at some before =
      let first = get_take (planned es) l.finished place t before at in
      let f = in_filter has_bytes (take l.finished (planned es)) place t first some in
      let whole = c.whole in
      let within = slice_get_within front f.place t f.at in (
        f.place,
        ap (λ (ts : List Task). slice_get ts f.place) split
            ∙ get_first front (map task_of (filter some_in (ahead l))) f.place t f.at,
        omega (arith, within, whole),
      )

  -- the next term is admitted where more terms with bytes are than were recorded
  pub next_opens : (count : ℕ) (t : PlanTerm) → slice_get (ahead l) count ≡ Some t
      → filter some_in (take count (ahead l)) ≡ [] → delivered es < length (filter has_bytes (admitted es))
      → l.finished + count < l.admitted
  next_opens count t there empties more =
      ⊎_elim (λ (h : l.finished + count < l.admitted). h)
      (λ (h : l.admitted ≤ l.finished + count).
      let parts = admitted_parts in
      let m = l.admitted - l.finished in
      let none = short some_in m count (ahead l) (omega (arith, h)) in
      let zero_it = ap length empties in
      absurd (omega (arith, parts, more, none, zero_it)))
      (cases_lt (l.finished + count) l.admitted)
    where
      short : {A : Type 0} (p : A → Bool) (m n : ℕ) (xs : List A) → m ≤ n
          → length (filter p (take m xs)) ≤ length (filter p (take n xs))
      short p zero n xs h = omega arith
      short p (suc m) zero xs h = absurd (omega (arith, h))
      short p (suc m) (suc n) [] h = omega arith
      short p (suc m) (suc n) (x ∷ xs) h = by (p x) (short p m n xs (omega (arith, h)))
        where
          by : (v : Bool) → length (filter p (take m xs)) ≤ length (filter p (take n xs))
              → length (cond v (x ∷ filter p (take m xs)) (filter p (take m xs)))
              ≤ length (cond v (x ∷ filter p (take n xs)) (filter p (take n xs)))
          by true k = omega (arith, k)
          by false k = k

-- ---- due terms of a stream

module _ (v : UnorderedView) (early : ℕ → Bool) (l : Led) (is : v.stream.led ≡ Some l)
    (c : Carries nobody v.stream.setup v.stream.events l) (allowed : IsAllowedHistory v.stream.events)
    (starts : FirstStarts v.stream.setup.range.start (planned v.stream.events))
    (given : AreGiven v.stream.setup.range v.stream.events early v.delivered) where
  abbrev es : List Event
  es = v.stream.events

  -- an admitted one with bytes whose block keeps something, and that isn't early
  pub due_is : (skip : ℕ) (t : PlanTerm) → l.finished + skip < l.admitted → IsWanted l early skip t
      → is_kept es t.plan.number t.term.xorb_block ≡ true → IsDue v (task_of t)
  due_is skip t opens w kept =
      let s = stands_at nobody v.stream.setup es l c skip t w.there w.some opens in
      record {
        place = l.finished + skip;
        at = admitted_at nobody v.stream.setup es l c skip t w.there opens;
        some = w.some;
        kept = kept;
        new = fresh_due v.stream.setup.range es early v.delivered given allowed starts (l.finished + skip) s.place
            (task_of t) (task_at nobody v.stream.setup es l c skip t w.there) s.at s.past w.new;
      }

  -- where none is found none is due
  pub none_is_due : NoneDue l early → NoneIsDue v
  none_is_due none t d =
      let at = take_get (planned es) (count_by is_admit es) d.place t d.at in
      ⊎_elim
      (λ (h : d.place < l.finished).
      let f = finished_at nobody v.stream.setup es l c d.place t at.at d.some h in
      d.new (passed_at v.stream.setup.range es early v.delivered given allowed starts f.0 t f.1 f.2))
      (λ (h : l.finished ≤ d.place). later h at) (cases_lt d.place l.finished)
    where
      later : l.finished ≤ d.place → InTake (planned es) (count_by is_admit es) d.place t → ⊥
      later h at =
          let skip = d.place - l.finished in
          let same : d.place ≡ l.finished + skip = omega (arith, h) in
          let here : slice_get (drop l.finished (planned es)) skip ≡ Some t =
          drop_get l.finished (planned es) skip t (ap (λ (n : ℕ). slice_get (planned es) n) (sym same) ∙ at.at) in
          let m = map_get task_of (ahead l) skip t
          (ap (λ (ts : List Task). slice_get ts skip) (sym (tasks nobody v.stream.setup es l c)) ∙ here) in
          let u = m.from in
          let a = c.led.counted.admitted_are in
          let b = at.before in
          let w : IsWanted l early skip u = record {
            there = m.at;
            some = ap has_bytes m.is ∙ d.some;
            new = unearly (l.finished + skip) (ap (λ (n : ℕ). slice_get (planned es) n) (sym same) ∙ at.at)
                (early (l.finished + skip)) refl;
          } in
          let absent = unkept_there v.stream.setup nobody es c.slack [] u
          (led_term nobody v.stream.setup es l c skip u m.at) (none skip (omega (arith, same, a, b)) u w) in
          let kept : is_kept es u.plan.number u.term.xorb_block ≡ true =
          ap (λ (x : Task). is_kept es x.plan x.term.block) m.is ∙ d.kept in
          let z : true ≡ false = sym kept ∙ absent in
          cc
        where
          unearly : (n : ℕ) → slice_get (planned es) n ≡ Some t → (b : Bool) → early n ≡ b → early n ≡ false
          unearly n planned_at true f =
              absurd (d.new (was_term v.stream.setup.range es v.delivered n t planned_at (given.there n f)))
          unearly n planned_at false f = f

-- ---- errors

-- a term that fails its test does so over no store that all pulls told
pub due_cause : (v : UnorderedView) (still : IsOpen v.stream) (l : Led) (is : v.stream.led ≡ Some l)
    (c : Carries nobody v.stream.setup v.stream.events l) (skip : ℕ) (t : PlanTerm)
    (there : slice_get (ahead l) skip ≡ Some t) (e : FileReconstructionError) → TermRefused t e
    → (e ≡ error.OutOfMemory) ⊎ DueCorrupted v e
due_cause v still l is c skip t there e r =
    ⊎_elim (λ (m : e ≡ error.OutOfMemory). inl m)
    (λ (z : (k : Corruption) × (e ≡ error.CorruptedReconstruction k) × FailsIn t k). inr (corrupted z.0 z.1 z.2)) r
  where
    corrupted : (k : Corruption) → e ≡ error.CorruptedReconstruction k → FailsIn t k → DueCorrupted v e
    corrupted k e f = record {
      test = k;
      is = e;
      fails = subst (λ (o : Option Led). MatchOption o ⊥ (λ m. OneFails (ahead m) k)) (sym is)
          (record { place = skip; term = t; there = there; fails = f });
      untrue = λ s valid stands.
          let h = subst (λ (o : Option Led). IfSome o (Carries (connections s) v.stream.setup v.stream.events)) is
          (stands.led still) in
          let passes = sound_passes v.stream.setup (connections s) v.stream.events h.slack [] t
          (led_term (connections s) v.stream.setup v.stream.events l h skip t there) f.data_of f.kept s
          (record { tell = (refl, tt); valid = valid }) in
          let u : ◌≡◌ {A = Option Corruption} None (Some k) = sym passes ∙ f.fails in
          cc;
    }

-- each is recorded by an event of its own
pub due_event : (v : UnorderedView) (e : FileReconstructionError) → (e ≡ error.OutOfMemory) ⊎ DueCorrupted v e
    → stop_event e ≡ Fail e
due_event v e h =
    ⊎_elim (λ (m : e ≡ error.OutOfMemory). subst (λ (x : FileReconstructionError). stop_event x ≡ Fail x) (sym m) refl)
    (λ (d : DueCorrupted v e). subst (λ (x : FileReconstructionError). stop_event x ≡ Fail x) (sym d.is) refl) h

-- what its block keeps, the history has as kept
pub kept_is : (g : Setup) (es : List Event) (l : Led) → (c : Carries nobody g es l) → (skip : ℕ) (t : PlanTerm)
    → slice_get (ahead l) skip ≡ Some t → (d : _) → kept_in t ≡ Some d
    → is_kept es t.plan.number t.term.xorb_block ≡ true
kept_is g es l c skip t there d kept =
    is_kept_there g nobody es c.slack [] t (led_term nobody g es l c skip t there) d kept

-- a due term is a planned one with bytes
pub due_place : (v : UnorderedView) (t : Task) → IsDue v t
    → (k : ℕ) × (slice_get (some_of v.stream.events) k ≡ Some t)
due_place v t d =
    let at = take_get (planned v.stream.events) _ d.place t d.at in
    let f = in_filter has_bytes (planned v.stream.events) d.place t at.at d.some in
    (f.place, f.at)
