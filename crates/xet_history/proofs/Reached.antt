-- A true history whose queries reach the end of its range or of the file.
use Rattle.std.proofs.Common.{◌≡◌, ℕ, ◌+◌, ◌-◌, ◌≤◌, ◌<◌, Bool, List, [], ◌∷◌, ◌++◌, length, take, refl, sym, subst, ◌∙◌, ap, ⊎_elim, arith}
use Rattle.std.specs.Prelude.{map, All}
use Rattle.std.specs.List.{sum_by, slice_range}
use Rattle.std.proofs.lemmas.List.{append-nil, drop_all, take_all}
use Rattle.std.proofs.lemmas.List.Elements.{All-head, All-tail}
use Rattle.xet_base.specs.declared.cas_types.FileRange.{FileRange}
use Rattle.xet_base.specs.declared.merklehash.MerkleHash.{MerkleHash}
use Rattle.xet_base.specs.Store.{Store, IsValid, bytes_of, window}
use Rattle.xet_base.proofs.CallerLemmas.{length-slice_range, slice_range-join}
use Rattle.xet_outside.specs.declared.plan.PlanTerm.{PlanTerm}
use Rattle.xet_outside.specs.Plan.{Shape, plan_of}
use Rattle.xet_blocks.specs.Terms.{file_term, terms_from}
use Rattle.xet_history.specs.Queries.{CutFrom}
use Rattle.xet_events.specs.declared.event.PlannedTerm.{PlannedTerm}
use Rattle.xet_events.specs.declared.event.PlannedBlock.{PlannedBlock}
use Rattle.xet_events.specs.declared.event.Event.{Event}
use Rattle.xet_events.specs.declared.event.Event.TheVariants.{Planned, Admit, Fetched, Cached, Expired, Refreshed, Wrote, Fail, Cancel}
use Rattle.xet_events.specs.Events.{size, last_of, tasks_of, planned_end}
use Rattle.xet_events.specs.Allowed.{Adjoin, AllowedAfter}
use Rattle.xet_history.specs.TrueHistory.{queries_end, SomeEndsEarly, planned_term, queries, IsTrueEvent}
use Rattle.xet_history.specs.Laws.{PiecesReach}
use Rattle.xet_events.proofs.CallerLemmas.{adjoin_sums, ends}
use Rattle.xet_history.proofs.TruePieces.{honest_plan, pieces_cover, to_end, within_end}

-- ---- where the file ends

-- the first term of a plan starts at its query
first_start : (p : Shape) (q : FileRange) (multi : Bool) (place o : ℕ) (us : List PlanTerm) (t : PlannedTerm) (ts : List PlannedTerm) → t ∷ ts ≡ map planned_term (terms_from p q multi place o us) → t.byte_range.start ≡ place
first_start p q multi place o [] t ts e = absurd (cc)
first_start p q multi place o (u ∷ us) t ts e = let h : t ≡ planned_term (file_term p q multi place o u) = cc in ap (λ (v : PlannedTerm). v.byte_range.start) h

-- where the terms of a plan end
ends_same : (plan : ℕ) (blocks : List PlannedBlock) (place : ℕ) (ts : List PlannedTerm) → last_of place (ends (tasks_of plan ts blocks)) ≡ last_of place (map (λ t. t.byte_range.end) ts)
ends_same plan blocks place [] = refl
ends_same plan blocks place (t ∷ ts) = ends_same plan blocks t.byte_range.end ts

-- terms that end before their query does, and have the bytes of its window, end where the file does
ended_file : (s : Store) → IsValid s → (f : MerkleHash) (multi : Bool) (before : List Event) (plan : ℕ) (q : FileRange) (terms : List PlannedTerm) (blocks : List PlannedBlock)
    → IsTrueEvent s f multi (Planned plan q terms blocks) → Adjoin (planned_end before q.start) (length blocks) terms → q.start < q.end
    → last_of q.start (map (λ t. t.byte_range.end) terms) < q.end → length (bytes_of s f) < q.end
ended_file s v f multi before plan q [] blocks h a some early =
    let honest = honest_plan s v f multi plan q [] blocks h in
    let none : length (window s f q) ≡ 0 = ap length (sym honest.joined) in
    omega (arith, none, length-slice_range (bytes_of s f) q.start q.end)
ended_file s v f multi before plan q (t ∷ ts) blocks h a some early =
    let honest = honest_plan s v f multi plan q (t ∷ ts) blocks h in
    let from : t.byte_range.start ≡ q.start = first_start (plan_of s f q) q multi q.start (plan_of s f q).offset (plan_of s f q).terms t ts h.0 in
    let place : t.byte_range.start ≡ planned_end before q.start = a.0 in
    let at : planned_end before q.start ≡ q.start = sym place ∙ from in
    let adjoin = subst (λ (n : ℕ). Adjoin n (length blocks) (t ∷ ts)) at a in
    let sums = adjoin_sums plan blocks q.start (length blocks) (t ∷ ts) adjoin in
    let bytes : sum_by size (tasks_of plan (t ∷ ts) blocks) ≡ length (window s f q) = honest.sized ∙ ap length honest.joined in
    let same = ends_same plan blocks q.start (t ∷ ts) in
    omega (arith, sums, bytes, same, early, some, length-slice_range (bytes_of s f) q.start q.end)

module _ (s : Store) (v : IsValid s) (f : MerkleHash) (multi : Bool) where
  -- so where one of the plans does, the file ends before the queries
  early_ends : (before : List Event) (place end bound : ℕ) (es : List Event) → AllowedAfter before es → All (IsTrueEvent s f multi) es → CutFrom place end bound (queries es)
      → SomeEndsEarly es → length (bytes_of s f) < last_of place (map (λ q. q.end) (queries es))
  early_ends before place end bound [] a t c e = absurd e
  early_ends before place end bound (Planned plan query terms blocks ∷ es) a t c e =
      let ev : Event = Planned plan query terms blocks in
      let far = to_end query.end end bound (queries es) c.4 in
      ⊎_elim
      (λ (h : last_of query.start (map (λ t. t.byte_range.end) terms) < query.end).
      let here = ended_file s v f multi before plan query terms blocks (All-head (IsTrueEvent s f multi) ev es t) a.0.2 c.1 h in omega (arith, here, far))
      (λ (h : SomeEndsEarly es). early_ends (before ++ ev ∷ []) query.end end bound es a.1 (All-tail (IsTrueEvent s f multi) ev es t) c.4 h)
      e
  early_ends before place end bound (Admit limit ∷ es) a t c e = ⊎_elim (λ (h : ⊥). absurd h) (λ (h : SomeEndsEarly es). early_ends (before ++ Admit limit ∷ []) place end bound es a.1 (All-tail (IsTrueEvent s f multi) (Admit limit) es t) c h) e
  early_ends before place end bound (Fetched lane plan block ∷ es) a t c e = ⊎_elim (λ (h : ⊥). absurd h) (λ (h : SomeEndsEarly es). early_ends (before ++ Fetched lane plan block ∷ []) place end bound es a.1 (All-tail (IsTrueEvent s f multi) (Fetched lane plan block) es t) c h) e
  early_ends before place end bound (Cached plan block ∷ es) a t c e = ⊎_elim (λ (h : ⊥). absurd h) (λ (h : SomeEndsEarly es). early_ends (before ++ Cached plan block ∷ []) place end bound es a.1 (All-tail (IsTrueEvent s f multi) (Cached plan block) es t) c h) e
  early_ends before place end bound (Expired lane plan block ∷ es) a t c e = ⊎_elim (λ (h : ⊥). absurd h) (λ (h : SomeEndsEarly es). early_ends (before ++ Expired lane plan block ∷ []) place end bound es a.1 (All-tail (IsTrueEvent s f multi) (Expired lane plan block) es t) c h) e
  early_ends before place end bound (Refreshed plan ∷ es) a t c e = ⊎_elim (λ (h : ⊥). absurd h) (λ (h : SomeEndsEarly es). early_ends (before ++ Refreshed plan ∷ []) place end bound es a.1 (All-tail (IsTrueEvent s f multi) (Refreshed plan) es t) c h) e
  early_ends before place end bound (Wrote taken ∷ es) a t c e = ⊎_elim (λ (h : ⊥). absurd h) (λ (h : SomeEndsEarly es). early_ends (before ++ Wrote taken ∷ []) place end bound es a.1 (All-tail (IsTrueEvent s f multi) (Wrote taken) es t) c h) e
  early_ends before place end bound (Fail error ∷ es) a t c e = ⊎_elim (λ (h : ⊥). absurd h) (λ (h : SomeEndsEarly es). early_ends (before ++ Fail error ∷ []) place end bound es a.1 (All-tail (IsTrueEvent s f multi) (Fail error) es t) c h) e
  early_ends before place end bound (Cancel ∷ es) a t c e = ⊎_elim (λ (h : ⊥). absurd h) (λ (h : SomeEndsEarly es). early_ends (before ++ Cancel ∷ []) place end bound es a.1 (All-tail (IsTrueEvent s f multi) Cancel es t) c h) e

  -- a window that ends past the file's end is the same with any later end
  past_end : (a b c : ℕ) → a ≤ b → b ≤ c → length (bytes_of s f) ≤ b → slice_range (bytes_of s f) a b ≡ slice_range (bytes_of s f) a c
  past_end a b c p q h =
      let none : slice_range (bytes_of s f) b c ≡ [] = ap (λ (l : List ℕ). take (c - b) l) (drop_all b (bytes_of s f) h) ∙ take_all (c - b) [] (omega arith) in
      sym (append-nil (slice_range (bytes_of s f) a b)) ∙ ap (λ l. slice_range (bytes_of s f) a b ++ l) (sym none) ∙ slice_range-join (bytes_of s f) a b c p q

  -- and one that starts there is empty
  none_past : (a b : ℕ) → length (bytes_of s f) ≤ a → slice_range (bytes_of s f) a b ≡ []
  none_past a b h = ap (λ (l : List ℕ). take (b - a) l) (drop_all a (bytes_of s f) h) ∙ take_all (b - a) [] (omega arith)

pub pieces_reach : PiecesReach
pieces_reach s v d es a t reach =
    let f = d.file in
    let r = d.range in
    let bound = d.greatest + d.least in
    let all = queries_end es r.start in
    let cover = pieces_cover s v d es t in
    let from = to_end r.start r.end bound (queries es) t.cuts in
    ⊎_elim
    (λ (e : all ≡ r.end). cover ∙ ap (λ (n : ℕ). window s f (record { start = r.start; end = n })) e)
    (λ (e : SomeEndsEarly es).
    let h = early_ends s v f d.multirange [] r.start r.end bound es a t.plans t.cuts e in
    ⊎_elim
    (λ (k : all ≡ r.start). cover ∙ none_past s v f d.multirange r.start all (omega arith) ∙ sym (none_past s v f d.multirange r.start r.end (omega arith)))
    (λ (k : all ≤ r.end). cover ∙ past_end s v f d.multirange r.start all r.end from k (omega arith))
    (within_end r.start r.end bound (queries es) t.cuts))
    reach
