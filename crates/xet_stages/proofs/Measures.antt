-- What is left of a run falls with each plan, admission, kept block, expired answer and written term, and rises
-- never.
use Rattle.std.proofs.Common.{◌≡◌, ℕ, zero, suc, ◌+◌, ◌-◌, ◌*◌, ◌^◌, ◌<◌, ◌≤◌, ◌==◌, ◌||◌, Bool, true, false, cond, List, [], ◌∷◌, ◌++◌, length, map, refl, sym, ◌∙◌, ap, arith, Some}
use Rattle.std.specs.Prelude.{count_by, slice_get}
use Rattle.std.specs.List.{list_any}
use Rattle.std.proofs.Math.Nat.{mul-le-mul_left, mul-le-mul_right}
use Rattle.std.proofs.lemmas.Bool.{and_parts, eqb-true, false≢true}
use Rattle.std.proofs.lemmas.List.{append-nil, append_assoc, length-map, map-append}
use Rattle.xet_base.specs.declared.cas_types.FileRange.{FileRange}
use Rattle.xet_events.specs.declared.event.Event.{Event}
use Rattle.xet_events.specs.declared.event.Event.TheVariants.{Admit, Expired, Fetched, Planned}
use Rattle.xet_events.specs.declared.event.PlannedBlock.{PlannedBlock}
use Rattle.xet_events.specs.declared.event.PlannedTerm.{PlannedTerm}
use Rattle.xet_events.specs.Allowed.{IsMissing}
use Rattle.xet_events.specs.Events.{Task, admitted, ended, expires, has_more, is_admit, is_kept, last_of, needs, planned, tasks_in, written}
use Rattle.xet_events.proofs.CallerLemmas.{flat-push, last_of-append, planned-push}
use Rattle.xet_history.specs.TrueHistory.{queries, queries_end, queries_in}
use Rattle.xet_terms.specs.Queries.{end_from}
use Rattle.xet_ties.specs.Setup.{Setup}
use Rattle.xet_ties.specs.Measures.{left, left_of}
use Rattle.xet_ties.specs.Recordings.{Place}
use Rattle.xet_ties.specs.Ties.{CutsRange}
use Rattle.xet_ties.proofs.CallerLemmas.{count-same, left-push, left_expired, left_fetched}
use Rattle.xet_parts.specs.Admissions.{admits}
use Rattle.xet_parts.proofs.CallerLemmas.{admits_counted, admits_planned}
use Rattle.xet_leader.specs.Led.{IsCounted, Led}
use Rattle.xet_stages.specs.Measures.{digits, left_bytes, measure, place_of, places, unfinished_terms, waiting}
use Rattle.xet_leader.proofs.CallerLemmas.{any_filter, any_take, cut_last, ends_are}

-- ---- digits

less_first : (x y k a b : ℕ) → x < y → a < k → x * k + a < y * k + b
less_first x y k a b h small = let m : (x + 1) * k ≤ y * k = mul-le-mul_right k (omega (arith, h)) in
    omega (arith, m, small)

less_last : (x y k a b : ℕ) → x ≤ y → a < b → x * k + a < y * k + b
less_last x y k a b h small = let m : x * k ≤ y * k = mul-le-mul_right k h in omega (arith, m, small)

not_more : (x y k a b : ℕ) → x ≤ y → a ≤ b → x * k + a ≤ y * k + b
not_more x y k a b h small = let m : x * k ≤ y * k = mul-le-mul_right k h in omega (arith, m, small)

-- each digit falls alone, whatever those below it do
pub first_falls : (a b c d w x y z : ℕ) → w < a → x < 2 ^ 64 → y < 2 ^ 128 → z < 2 ^ 64
    → digits w x y z < digits a b c d
first_falls a b c d w x y z h small third last =
    less_first ((w * 2 ^ 64 + x) * 2 ^ 128 + y) ((a * 2 ^ 64 + b) * 2 ^ 128 + c) (2 ^ 64) z d
    (less_first (w * 2 ^ 64 + x) (a * 2 ^ 64 + b) (2 ^ 128) y c (less_first w a (2 ^ 64) x b h small) third) last

pub second_falls : (a b c d w x y z : ℕ) → w ≤ a → x < b → y < 2 ^ 128 → z < 2 ^ 64 → digits w x y z < digits a b c d
second_falls a b c d w x y z h less third last =
    less_first ((w * 2 ^ 64 + x) * 2 ^ 128 + y) ((a * 2 ^ 64 + b) * 2 ^ 128 + c) (2 ^ 64) z d
    (less_first (w * 2 ^ 64 + x) (a * 2 ^ 64 + b) (2 ^ 128) y c (less_last w a (2 ^ 64) x b h less) third) last

pub third_falls : (a b c d w x y z : ℕ) → w ≤ a → x ≤ b → y < c → z < 2 ^ 64 → digits w x y z < digits a b c d
third_falls a b c d w x y z h k less last =
    less_first ((w * 2 ^ 64 + x) * 2 ^ 128 + y) ((a * 2 ^ 64 + b) * 2 ^ 128 + c) (2 ^ 64) z d
    (less_last (w * 2 ^ 64 + x) (a * 2 ^ 64 + b) (2 ^ 128) y c (not_more w a (2 ^ 64) x b h k) less) last

pub last_falls : (a b c d w x y z : ℕ) → w ≤ a → x ≤ b → y ≤ c → z < d → digits w x y z < digits a b c d
last_falls a b c d w x y z h k l less =
    less_last ((w * 2 ^ 64 + x) * 2 ^ 128 + y) ((a * 2 ^ 64 + b) * 2 ^ 128 + c) (2 ^ 64) z d
    (not_more (w * 2 ^ 64 + x) (a * 2 ^ 64 + b) (2 ^ 128) y c (not_more w a (2 ^ 64) x b h k) l) less

pub none_rises : (a b c d w x y z : ℕ) → w ≤ a → x ≤ b → y ≤ c → z ≤ d → digits w x y z ≤ digits a b c d
none_rises a b c d w x y z h k l m =
    not_more ((w * 2 ^ 64 + x) * 2 ^ 128 + y) ((a * 2 ^ 64 + b) * 2 ^ 128 + c) (2 ^ 64) z d
    (not_more (w * 2 ^ 64 + x) (a * 2 ^ 64 + b) (2 ^ 128) y c (not_more w a (2 ^ 64) x b h k) l) m

-- ---- bounds

left_of_bound : (tries : ℕ) (es : List Event) (c : Place) → left_of tries es c ≤ tries + 1
left_of_bound tries es c = go (is_kept es c.0 c.1)
  where
    go : (b : Bool) → cond b 0 ((tries - count_by (expires c.0 c.1) es) + 1) ≤ tries + 1
    go true = omega arith
    go false = omega arith

left_bound : (tries : ℕ) (es : List Event) (cs : List Place) → left tries es cs ≤ length cs * (tries + 1)
left_bound tries es [] = omega arith
left_bound tries es (c ∷ cs) =
    let one = left_of_bound tries es c in
    let rest = left_bound tries es cs in
    let more : (length cs + 1) * (tries + 1) ≡ length cs * (tries + 1) + (tries + 1) = omega arith in
    let size : length (c ∷ cs) * (tries + 1) ≡ (length cs + 1) * (tries + 1) =
    ap (λ (n : ℕ). n * (tries + 1)) (let e : length (c ∷ cs) ≡ length cs + 1 = omega arith in e) in
    omega (arith, one, rest, more, size)

-- what is left of the tries is below 2 ^ 97
pub left_small : (tries : ℕ) (es : List Event) → tries < 2 ^ 32 → length (planned es) < 2 ^ 64
    → left tries es (places es) < 2 ^ 97
left_small tries es few fits =
    let bound = left_bound tries es (places es) in
    let size : length (places es) ≡ length (planned es) = length-map (planned es) _ in
    let times : length (places es) * (tries + 1) ≤ length (places es) * 2 ^ 32 =
    mul-le-mul_left (length (places es)) (omega (arith, few)) in
    omega (arith, bound, size, times, fits)

-- those of a leader
pub record IsSmall (g : Setup) (es : List Event) (l : Led) : Type 0 where
  pub second : waiting es < 2 ^ 64
  pub third : left g.tries es (places es) < 2 ^ 128
  pub last : unfinished_terms l < 2 ^ 64

pub counted_small : (g : Setup) (es : List Event) (l : Led) → g.tries < 2 ^ 32 → IsCounted es l → IsSmall g es l
counted_small g es l few c =
    let planned_are = c.planned_are in
    let fits = c.planned_fits in
    let third = left_small g.tries es few (omega (arith, planned_are, fits)) in
    record { second = omega (arith, planned_are, fits); third = omega (arith, third); last = omega (arith, fits) }

-- ---- a plan

-- a query that was asked leaves fewer bytes
bytes_fall : (g : Setup) (es : List Event) (n : ℕ) (q : FileRange) (ts : List PlannedTerm) (bs : List PlannedBlock)
    → CutsRange g (queries es ++ q ∷ []) → left_bytes g (es ++ Planned n q ts bs ∷ []) < left_bytes g es
bytes_fall g es n q ts bs cuts =
    let cut = cut_last g.range.start g.range.end (g.greatest + g.least) (queries es) q cuts.from in
    let from = cut.0 in
    let forward = cut.1 in
    let within = cut.2 in
    let was : queries_end es g.range.start ≡ end_from g.range.start (queries es) =
    ends_are g.range.start (queries es) in
    let push : queries (es ++ Planned n q ts bs ∷ []) ≡ queries es ++ q ∷ [] =
    flat-push queries_in es (Planned n q ts bs) in
    let now : queries_end (es ++ Planned n q ts bs ∷ []) g.range.start ≡ q.end =
    ap (λ (l : List FileRange). last_of g.range.start (map (λ q. q.end) l)) push
    ∙ ap (λ (l : List ℕ). last_of g.range.start l) (map-append (λ (q : FileRange). q.end) (queries es) (q ∷ []))
    ∙ last_of-append g.range.start (map (λ q. q.end) (queries es)) (q.end ∷ []) in
    omega (arith, from, forward, within, was, now)

pub measure_planned : (g : Setup) (es : List Event) (n : ℕ) (q : FileRange) (ts : List PlannedTerm)
    (bs : List PlannedBlock) (l k : Led) → CutsRange g (queries es ++ q ∷ [])
    → IsSmall g (es ++ Planned n q ts bs ∷ []) k
    → measure g (es ++ Planned n q ts bs ∷ []) k < measure g es l
measure_planned g es n q ts bs l k cuts small = first_falls _ _ _ _ _ _ _ _
    (bytes_fall g es n q ts bs cuts) small.second small.third small.last

-- ---- admissions

queries_stay : (es : List Event) (ls : List ℕ) → queries (es ++ admits ls) ≡ queries es
queries_stay es [] = ap queries (append-nil es)
queries_stay es (n ∷ ls) = ap queries (sym (append_assoc es (Admit n ∷ []) (admits ls)))
    ∙ queries_stay (es ++ Admit n ∷ []) ls ∙ flat-push queries_in es (Admit n) ∙ append-nil (queries es)

-- terms that were admitted, one at least, leave fewer that wait
pub measure_admitted : (g : Setup) (es : List Event) (ls : List ℕ) (l k : Led) → 0 < length ls
    → count_by is_admit (es ++ admits ls) ≤ length (planned (es ++ admits ls)) → IsSmall g (es ++ admits ls) k
    → measure g (es ++ admits ls) k < measure g es l
measure_admitted g es ls l k some within small =
    let counted = admits_counted es ls in
    let same : length (planned (es ++ admits ls)) ≡ length (planned es) =
    ap (λ (ts : List Task). length ts) (admits_planned es ls) in
    let bytes : left_bytes g (es ++ admits ls) ≡ left_bytes g es =
    ap (λ (qs : List FileRange). g.range.end - last_of g.range.start (map (λ q. q.end) qs))
    (queries_stay es ls) in
    second_falls _ _ _ _ _ _ _ _ (omega (arith, bytes))
    (omega (arith, counted, same, some, within)) small.third small.last

-- ---- other events

-- an event that plans and admits nothing
pub record PlansNone (e : Event) : Type 0 where
  pub query : queries_in e ≡ []
  pub tasks : tasks_in e ≡ []
  pub admit : is_admit e ≡ false

planned_same : (es : List Event) (e : Event) → PlansNone e → planned (es ++ e ∷ []) ≡ planned es
planned_same es e n = planned-push es e ∙ ap (λ (ts : List Task). planned es ++ ts) n.tasks ∙ append-nil (planned es)

places_same : (es : List Event) (e : Event) → PlansNone e → places (es ++ e ∷ []) ≡ places es
places_same es e n = ap (λ (ts : List Task). map place_of ts) (planned_same es e n)

bytes_same : (g : Setup) (es : List Event) (e : Event) → PlansNone e → left_bytes g (es ++ e ∷ []) ≡ left_bytes g es
bytes_same g es e n =
    ap (λ (qs : List FileRange). g.range.end - last_of g.range.start (map (λ q. q.end) qs))
    (flat-push queries_in es e ∙ ap (λ (l : List FileRange). queries es ++ l) n.query ∙ append-nil (queries es))

waiting_same : (es : List Event) (e : Event) → PlansNone e → waiting (es ++ e ∷ []) ≡ waiting es
waiting_same es e n =
    ap (λ (ts : List Task). length ts - count_by is_admit (es ++ e ∷ [])) (planned_same es e n)
    ∙ ap (λ (c : ℕ). length (planned es) - c) (count-same is_admit es e n.admit)

-- it doesn't rise
pub measure_rest : (g : Setup) (es : List Event) (e : Event) (l k : Led) → PlansNone e
    → unfinished_terms k ≤ unfinished_terms l → measure g (es ++ e ∷ []) k ≤ measure g es l
measure_rest g es e l k n rest =
    let bytes = bytes_same g es e n in
    let wait = waiting_same es e n in
    let places_are : left g.tries (es ++ e ∷ []) (places (es ++ e ∷ [])) ≡ left g.tries (es ++ e ∷ []) (places es) =
    ap (λ (cs : List Place). left g.tries (es ++ e ∷ []) cs) (places_same es e n) in
    let less = left-push g.tries es e (places es) in
    none_rises _ _ _ _ _ _ _ _ (omega (arith, bytes)) (omega (arith, wait)) (omega (arith, places_are, less)) rest

-- it falls where fewer tries are left
tries_fall : (g : Setup) (es : List Event) (e : Event) (l k : Led) → PlansNone e
    → left g.tries (es ++ e ∷ []) (places es) < left g.tries es (places es) → unfinished_terms k < 2 ^ 64
    → measure g (es ++ e ∷ []) k < measure g es l
tries_fall g es e l k n less small =
    let bytes = bytes_same g es e n in
    let wait = waiting_same es e n in
    let places_are : left g.tries (es ++ e ∷ []) (places (es ++ e ∷ [])) ≡ left g.tries (es ++ e ∷ []) (places es) =
    ap (λ (cs : List Place). left g.tries (es ++ e ∷ []) cs) (places_same es e n) in
    third_falls _ _ _ _ _ _ _ _ (omega (arith, bytes)) (omega (arith, wait)) (omega (arith, places_are, less)) small

-- ---- a missing block is one of the places

ended_needs : (p k place : ℕ) (ts : List Task) → list_any (λ c. needs p k c.1) (ended place ts) ≡ true
    → list_any (needs p k) ts ≡ true
ended_needs p k place [] h = h
ended_needs p k place (t ∷ ts) h = go (needs p k t) h
    (λ e. ended_needs p k (place + (t.term.byte_range.end - t.term.byte_range.start)) ts e)
  where
    go : (a : Bool) → (a || list_any (λ c. needs p k c.1)
        (ended (place + (t.term.byte_range.end - t.term.byte_range.start)) ts)) ≡ true
        → (list_any (λ c. needs p k c.1) (ended (place + (t.term.byte_range.end - t.term.byte_range.start)) ts) ≡ true
        → list_any (needs p k) ts ≡ true) → (a || list_any (needs p k) ts) ≡ true
    go true e next = refl
    go false e next = next e

needs_place : (p k : ℕ) (ts : List Task) → list_any (needs p k) ts ≡ true
    → (i : ℕ) × (let c : Place = (p, k) in slice_get (map place_of ts) i ≡ Some c)
needs_place p k [] h = absurd (false≢true h)
needs_place p k (t ∷ ts) h = go (needs p k t) refl h (λ e. needs_place p k ts e)
  where
    go : (a : Bool) → needs p k t ≡ a → (a || list_any (needs p k) ts) ≡ true
        → (list_any (needs p k) ts ≡ true → (i : ℕ) × (let c : Place = (p, k) in
        slice_get (map place_of ts) i ≡ Some c))
        → (i : ℕ) × (let c : Place = (p, k) in slice_get (place_of t ∷ map place_of ts) i ≡ Some c)
    go true is e next =
        let both = and_parts (t.plan == p) (t.term.block == k) is in
        let plan : t.plan ≡ p = eqb-true t.plan p both.0 in
        let block : t.term.block ≡ k = eqb-true t.term.block k both.1 in (
          zero,
          ap (λ (n : ℕ). let c : Place = (n, t.term.block) in Some c) plan
              ∙ ap (λ (n : ℕ). let c : Place = (p, n) in Some c) block,
        )
    go false is e next = let found = next e in (suc found.0, found.1)

missing_place : (es : List Event) (p k : ℕ) → IsMissing es p k
    → (i : ℕ) × (let c : Place = (p, k) in slice_get (places es) i ≡ Some c)
missing_place es p k m =
    needs_place p k (planned es)
    (any_take (needs p k) (count_by is_admit es) (planned es)
    (ended_needs p k 0 (admitted es) (any_filter (λ c. needs p k c.1) (has_more (written es))
    (ended 0 (admitted es)) m.wanted)))

-- it was fetched
pub measure_fetched : (g : Setup) (es : List Event) (lane p k : ℕ) (l m : Led) → IsMissing es p k
    → unfinished_terms m < 2 ^ 64 → measure g (es ++ Fetched lane p k ∷ []) m < measure g es l
measure_fetched g es lane p k l m missing small =
    let at = missing_place es p k missing in
    tries_fall g es (Fetched lane p k) l m (record { query = refl; tasks = refl; admit = refl })
    (left_fetched g.tries es lane (places es) at.0 (p, k) at.1 missing.absent) small

-- or its URL had expired, which it might once more
pub measure_expired : (g : Setup) (es : List Event) (lane p k : ℕ) (l m : Led) → IsMissing es p k
    → count_by (expires p k) es < g.tries → unfinished_terms m < 2 ^ 64
    → measure g (es ++ Expired lane p k ∷ []) m < measure g es l
measure_expired g es lane p k l m missing may small =
    let at = missing_place es p k missing in
    tries_fall g es (Expired lane p k) l m (record { query = refl; tasks = refl; admit = refl })
    (left_expired g.tries es lane (places es) at.0 (p, k) at.1 missing.absent may) small

-- ---- terms that were wholly written

pub measure_finished : (g : Setup) (es : List Event) (l k : Led) → unfinished_terms k < unfinished_terms l
    → measure g es k < measure g es l
measure_finished g es l k less = last_falls (left_bytes g es) (waiting es) (left g.tries es (places es))
    (unfinished_terms l) (left_bytes g es) (waiting es) (left g.tries es (places es)) (unfinished_terms k)
    (omega arith) (omega arith) (omega arith) less
