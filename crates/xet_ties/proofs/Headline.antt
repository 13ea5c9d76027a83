-- What the ties and the end of a run say of the bytes that the writer took.
use Rattle.std.proofs.Common.{◌≡◌, ℕ, ◌+◌, ◌-◌, ◌≤◌, ◌<◌, ◌⊎◌, List, [], ◌∷◌, ◌++◌, length, take, drop, None, refl, sym, subst, ◌∙◌, ap, inl, inr, ⊎_elim, arith, append_assoc, length-append}
use Rattle.std.specs.Prelude.{map, IsSome}
use Rattle.std.specs.List.{sum_by}
use Rattle.std.proofs.lemmas.Bool.{cases_lt}
use Rattle.std.proofs.lemmas.List.{append-nil, nil_from_length, take_all, take-append-le}
use Rattle.xet_base.specs.declared.cas_types.FileRange.{FileRange}
use Rattle.xet_base.specs.Store.{Store, bytes_of, file_of, window}
use Rattle.xet_outside.specs.Told.{Took, TookPrefix}
use Rattle.xet_outside.proofs.CallerLemmas.{count_by-cons}
use Rattle.xet_events.specs.declared.event.Event.{Event}
use Rattle.xet_events.specs.declared.event.Event.TheVariants.{Planned, Admit, Fetched, Cached, Expired, Refreshed, Wrote, Fail, Cancel}
use Rattle.xet_events.specs.Events.{size, last_of, planned, is_plan, admitted, written, plan_count}
use Rattle.xet_events.specs.Allowed.{IsAllowedHistory}
use Rattle.xet_history.specs.TrueHistory.{ReachesEnd, SomeEndsEarly, pieces, queries}
use Rattle.xet_history.specs.Laws.{IsPrefix}
use Rattle.xet_history.proofs.CallerLemmas.{pieces_reach, all_sized, pieces_are_prefix}
use Rattle.xet_ties.specs.Setup.{IsEmptyRange, AllTell, CacheTells, IsOver, RunTold, Setup, download_of}
use Rattle.xet_ties.specs.LegalWords.{IsExact}
use Rattle.xet_ties.specs.RunCalls.{IsFinished}
use Rattle.xet_ties.specs.Ties.{Slack, Stop, Ties}

-- ---- some plan was asked

-- without a plan the queries end where they start
no_plan : (place : ℕ) (es : List Event) → (last_of place (map (λ q. q.end) (queries es)) ≡ place) ⊎ (0 < plan_count es)
no_plan place [] = inl refl
no_plan place (Planned plan query terms blocks ∷ es) = let h = count_by-cons is_plan (Planned plan query terms blocks) es in inr (omega arith)
no_plan place (Admit limit ∷ es) = let h = count_by-cons is_plan (Admit limit) es in ⊎_elim (λ (k : last_of place (map (λ q. q.end) (queries es)) ≡ place). inl k) (λ (k : 0 < plan_count es). inr (omega arith)) (no_plan place es)
no_plan place (Fetched lane plan block ∷ es) = let h = count_by-cons is_plan (Fetched lane plan block) es in ⊎_elim (λ (k : last_of place (map (λ q. q.end) (queries es)) ≡ place). inl k) (λ (k : 0 < plan_count es). inr (omega arith)) (no_plan place es)
no_plan place (Cached plan block ∷ es) = let h = count_by-cons is_plan (Cached plan block) es in ⊎_elim (λ (k : last_of place (map (λ q. q.end) (queries es)) ≡ place). inl k) (λ (k : 0 < plan_count es). inr (omega arith)) (no_plan place es)
no_plan place (Expired lane plan block ∷ es) = let h = count_by-cons is_plan (Expired lane plan block) es in ⊎_elim (λ (k : last_of place (map (λ q. q.end) (queries es)) ≡ place). inl k) (λ (k : 0 < plan_count es). inr (omega arith)) (no_plan place es)
no_plan place (Refreshed plan ∷ es) = let h = count_by-cons is_plan (Refreshed plan) es in ⊎_elim (λ (k : last_of place (map (λ q. q.end) (queries es)) ≡ place). inl k) (λ (k : 0 < plan_count es). inr (omega arith)) (no_plan place es)
no_plan place (Wrote taken ∷ es) = let h = count_by-cons is_plan (Wrote taken) es in ⊎_elim (λ (k : last_of place (map (λ q. q.end) (queries es)) ≡ place). inl k) (λ (k : 0 < plan_count es). inr (omega arith)) (no_plan place es)
no_plan place (Fail error ∷ es) = let h = count_by-cons is_plan (Fail error) es in ⊎_elim (λ (k : last_of place (map (λ q. q.end) (queries es)) ≡ place). inl k) (λ (k : 0 < plan_count es). inr (omega arith)) (no_plan place es)
no_plan place (Cancel ∷ es) = let h = count_by-cons is_plan Cancel es in ⊎_elim (λ (k : last_of place (map (λ q. q.end) (queries es)) ≡ place). inl k) (λ (k : 0 < plan_count es). inr (omega arith)) (no_plan place es)

early_plan : (es : List Event) → SomeEndsEarly es → 0 < plan_count es
early_plan [] h = absurd h
early_plan (Planned plan query terms blocks ∷ es) h = let k = count_by-cons is_plan (Planned plan query terms blocks) es in omega arith
early_plan (Admit limit ∷ es) h = let k = count_by-cons is_plan (Admit limit) es in ⊎_elim (λ (z : ⊥). absurd z) (λ (z : SomeEndsEarly es). let r = early_plan es z in omega arith) h
early_plan (Fetched lane plan block ∷ es) h = let k = count_by-cons is_plan (Fetched lane plan block) es in ⊎_elim (λ (z : ⊥). absurd z) (λ (z : SomeEndsEarly es). let r = early_plan es z in omega arith) h
early_plan (Cached plan block ∷ es) h = let k = count_by-cons is_plan (Cached plan block) es in ⊎_elim (λ (z : ⊥). absurd z) (λ (z : SomeEndsEarly es). let r = early_plan es z in omega arith) h
early_plan (Expired lane plan block ∷ es) h = let k = count_by-cons is_plan (Expired lane plan block) es in ⊎_elim (λ (z : ⊥). absurd z) (λ (z : SomeEndsEarly es). let r = early_plan es z in omega arith) h
early_plan (Refreshed plan ∷ es) h = let k = count_by-cons is_plan (Refreshed plan) es in ⊎_elim (λ (z : ⊥). absurd z) (λ (z : SomeEndsEarly es). let r = early_plan es z in omega arith) h
early_plan (Wrote taken ∷ es) h = let k = count_by-cons is_plan (Wrote taken) es in ⊎_elim (λ (z : ⊥). absurd z) (λ (z : SomeEndsEarly es). let r = early_plan es z in omega arith) h
early_plan (Fail error ∷ es) h = let k = count_by-cons is_plan (Fail error) es in ⊎_elim (λ (z : ⊥). absurd z) (λ (z : SomeEndsEarly es). let r = early_plan es z in omega arith) h
early_plan (Cancel ∷ es) h = let k = count_by-cons is_plan Cancel es in ⊎_elim (λ (z : ⊥). absurd z) (λ (z : SomeEndsEarly es). let r = early_plan es z in omega arith) h

pub some_plan : (r : FileRange) (es : List Event) → r.start < r.end → ReachesEnd r es → 0 < plan_count es
some_plan r es some reach =
    ⊎_elim
    (λ (e : last_of r.start (map (λ q. q.end) (queries es)) ≡ r.end). ⊎_elim (λ (k : last_of r.start (map (λ q. q.end) (queries es)) ≡ r.start). absurd (omega arith)) (λ (k : 0 < plan_count es). k) (no_plan r.start es))
    (λ (e : SomeEndsEarly es). early_plan es e)
    reach

-- ---- bytes

-- a prefix that is as long as the whole is the whole
pub all_of_prefix : (xs ys : List ℕ) → IsPrefix xs ys → length ys ≤ length xs → xs ≡ ys
all_of_prefix xs ys p h =
    let n : length xs + length p.rest ≡ length ys = sym (length-append xs p.rest) ∙ ap length p.joined in
    let none : p.rest ≡ [] = nil_from_length p.rest (omega arith) in
    sym (append-nil xs) ∙ ap (λ l. xs ++ l) (sym none) ∙ p.joined

-- all bytes were written where all terms are admitted and none has bytes left
pub all_written : (g : Setup) (es : List Event) (k : ℕ) → IsFinished g es k → sum_by size (planned es) ≤ written es
all_written g es k f =
    let all : admitted es ≡ planned es = ap (λ (n : ℕ). take n (planned es)) f.admitted ∙ take_all (length (planned es)) (planned es) (omega arith) in
    let same : sum_by size (admitted es) ≡ sum_by size (planned es) = ap (λ l. sum_by size l) all in
    let left = f.unwritten in
    omega (arith, same, left)

empty_window : (s : Store) (g : Setup) → IsEmptyRange g.range → window s g.file g.range ≡ []
empty_window s g h = let e : g.range.end - g.range.start ≡ 0 = omega arith in ap (λ (n : ℕ). take n (drop g.range.start (bytes_of s g.file))) e

module _ (g : Setup) (b n : RunTold) (es : List Event) (k : ℕ) (slack : Slack) (a : IsAllowedHistory es) (t : Ties g b n es None slack) (none : slack.ahead ≡ 0) (f : IsFinished g es k) where
  -- the taken bytes are the pieces
  took_all : (s : Store) → IsOver s b.clients → CacheTells s b.cache → t.taken.taken ≡ pieces s es
  took_all s over cache =
      let sized = all_sized s over.valid g.file g.multirange es (t.true_of s over).plans in
      let all = all_written g es k f in
      let counted = t.taken.counted in
      all_of_prefix t.taken.taken (pieces s es) (t.taken.pieces s over cache) (omega (arith, sized, all, counted, none))

  took_window : (s : Store) → IsOver s b.clients → CacheTells s b.cache → t.taken.taken ≡ window s g.file g.range
  took_window s over cache =
      ⊎_elim
      (λ (h : g.range.start < g.range.end). took_all s over cache ∙ pieces_reach s over.valid (download_of g) es a (t.true_of s over) (f.reaches h))
      (λ (h : g.range.end ≤ g.range.start). took_all s over cache ∙ ap (λ (l : List Event). pieces s l) (f.empty h) ∙ sym (empty_window s g h))
      (cases_lt g.range.start g.range.end)

  pub is_stored : (s : Store) → AllTell s b.clients → IsSome (file_of s g.file) ⊎ IsEmptyRange g.range
  is_stored s tell =
      ⊎_elim
      (λ (h : g.range.start < g.range.end). inl (t.stored s tell (some_plan g.range es h (f.reaches h))))
      (λ (h : g.range.end ≤ g.range.start). inr h)
      (cases_lt g.range.start g.range.end)

  -- Ok is exact
  pub exact : (s : Store) → IsOver s b.clients → CacheTells s b.cache → IsExact s g b.sink n.sink k
  exact s over cache =
      let w = took_window s over cache in
      record {
        stored = is_stored s over.tell;
        took = subst (λ (l : List ℕ). Took b.sink.took n.sink.took l) w t.taken.took;
        total = let counted = t.taken.counted in let c = f.count in let size = ap length w in omega (arith, counted, c, size, none);
      }

-- whatever the answer, the taken bytes are a prefix of the window
pub prefix : (g : Setup) (b n : RunTold) (es : List Event) (stop : Stop) (slack : Slack) → Ties g b n es stop slack → (s : Store) → IsOver s b.clients → CacheTells s b.cache
    → TookPrefix b.sink.took n.sink.took (window s g.file g.range)
prefix g b n es stop slack t s over cache =
    let p = t.taken.pieces s over cache in
    let q = pieces_are_prefix s over.valid (download_of g) es (t.true_of s over) in
    let whole : t.taken.taken ++ (p.rest ++ q.rest) ≡ window s g.file g.range = sym (append_assoc t.taken.taken p.rest q.rest) ∙ ap (λ l. l ++ q.rest) p.joined ∙ q.joined in
    let size : length t.taken.taken + length (p.rest ++ q.rest) ≡ length (window s g.file g.range) = sym (length-append t.taken.taken (p.rest ++ q.rest)) ∙ ap length whole in
    let cut : take (length t.taken.taken) (window s g.file g.range) ≡ t.taken.taken =
    ap (λ (l : List ℕ). take (length t.taken.taken) l) (sym whole) ∙ take-append-le (length t.taken.taken) t.taken.taken (p.rest ++ q.rest) (omega arith) ∙ take_all (length t.taken.taken) t.taken.taken (omega arith) in
    record { count = length t.taken.taken; within = omega arith; took = subst (λ (l : List ℕ). Took b.sink.took n.sink.took l) (sym cut) t.taken.took }
