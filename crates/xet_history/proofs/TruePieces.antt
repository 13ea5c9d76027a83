-- The pieces of a true history.
use Rattle.std.proofs.Common.{◌≡◌, ℕ, zero, suc, ◌+◌, ◌-◌, ◌≤◌, ◌<◌, ◌⊎◌, Bool, List, [], ◌∷◌, ◌++◌, length, take, drop, Option, Some, None, refl, sym, ◌∙◌, ap, inl, inr, ⊎_elim, arith, length-append}
use Rattle.std.specs.Prelude.{map, All, count_by, slice_get, option_map, unwrap_or}
use Rattle.std.specs.List.{flat_map, sum_by}
use Rattle.std.proofs.lemmas.Grind.{flat_map-append}
use Rattle.std.proofs.lemmas.List.{take-append-le}
use Rattle.std.proofs.lemmas.List.Elements.{All-head, All-tail}
use Rattle.std.proofs.lemmas.List.Sums.{sum_by-append, sum_by-cons, sum_by-take-le}
use Rattle.xet_base.specs.declared.merklehash.MerkleHash.{MerkleHash}
use Rattle.xet_base.specs.declared.cas_types.FileRange.{FileRange}
use Rattle.xet_base.specs.Store.{Store, IsValid, bytes_of, window}
use Rattle.xet_base.proofs.CallerLemmas.{slice_range-join}
use Rattle.xet_outside.specs.Plan.{Shape, plan_of, block_of}
use Rattle.xet_blocks.specs.declared.reconstruction_terms.file_term.FileTerm.{FileTerm}
use Rattle.xet_offers.specs.Blocks.{PlanBlock, blocks_of, block_ranges}
use Rattle.xet_blocks.specs.Terms.{terms_of, term_piece, piece_of}
use Rattle.xet_history.specs.Queries.{CutFrom}
use Rattle.xet_blocks.proofs.CallerLemmas.{pieces_join, pieces_sized}
use Rattle.xet_events.specs.declared.event.PlannedTerm.{PlannedTerm}
use Rattle.xet_events.specs.declared.event.PlannedBlock.{PlannedBlock}
use Rattle.xet_events.specs.declared.event.Event.{Event}
use Rattle.xet_events.specs.declared.event.Event.TheVariants.{Planned, Admit, Fetched, Cached, Expired, Refreshed, Wrote, Fail, Cancel}
use Rattle.xet_events.specs.Events.{Task, size, last_of, tasks_of, planned, is_admit, written}
use Rattle.xet_history.specs.TrueHistory.{queries_end, planned_term, planned_block, queries, IsTrueEvent, task_piece, pieces}
use Rattle.xet_history.specs.Laws.{PiecesCover, PiecesArePrefix, WrittenArePrefix}
use Rattle.xet_events.proofs.CallerLemmas.{facts}

slice_get-map : {A B : Type 0} (f : A → B) (xs : List A) (k : ℕ) → slice_get (map f xs) k ≡ option_map f (slice_get xs k)
slice_get-map f [] k = refl
slice_get-map f (x ∷ xs) zero = refl
slice_get-map f (x ∷ xs) (suc k) = slice_get-map f xs k

-- a term's piece is that of the plan's term
piece_same : (s : Store) (p : Shape) (multi : Bool) (plan : ℕ) (t : FileTerm) → task_piece s (record { plan = plan; term = planned_term t; blocks = map planned_block (blocks_of p multi) }) ≡ term_piece s p multi t
piece_same s p multi plan t =
    ap (λ (o : Option PlannedBlock). unwrap_or (option_map (λ b. piece_of (block_of s b.xorb b.ranges) t) o) []) (slice_get-map planned_block (blocks_of p multi) t.xorb_block)
    ∙ go (slice_get (blocks_of p multi) t.xorb_block)
  where
    go : (o : Option PlanBlock) → unwrap_or (option_map (λ b. piece_of (block_of s b.xorb b.ranges) t) (option_map planned_block o)) [] ≡ unwrap_or (option_map (λ b. piece_of (block_of s b.xorb (block_ranges b)) t) o) []
    go None = refl
    go (Some b) = refl

pieces_same : (s : Store) (p : Shape) (multi : Bool) (plan : ℕ) (ts : List FileTerm) → flat_map (task_piece s) (tasks_of plan (map planned_term ts) (map planned_block (blocks_of p multi))) ≡ flat_map (term_piece s p multi) ts
pieces_same s p multi plan [] = refl
pieces_same s p multi plan (t ∷ ts) =
    let a = piece_same s p multi plan t in
    let b = pieces_same s p multi plan ts in
    ap (λ l. l ++ flat_map (task_piece s) (tasks_of plan (map planned_term ts) (map planned_block (blocks_of p multi)))) a ∙ ap (λ l. term_piece s p multi t ++ l) b

sizes_same : (s : Store) (p : Shape) (multi : Bool) (plan : ℕ) (bs : List PlannedBlock) (ts : List FileTerm) → All (λ t. length (term_piece s p multi t) ≡ t.byte_range.end - t.byte_range.start) ts
    → sum_by size (tasks_of plan (map planned_term ts) bs) ≡ length (flat_map (term_piece s p multi) ts)
sizes_same s p multi plan bs [] a = refl
sizes_same s p multi plan bs (t ∷ ts) a =
    let P : FileTerm → Type 0 = λ t. length (term_piece s p multi t) ≡ t.byte_range.end - t.byte_range.start in
    let here : length (term_piece s p multi t) ≡ t.byte_range.end - t.byte_range.start = All-head (λ (t : FileTerm). length (term_piece s p multi t) ≡ t.byte_range.end - t.byte_range.start) t ts a in
    let rest = sizes_same s p multi plan bs ts (All-tail (λ (t : FileTerm). length (term_piece s p multi t) ≡ t.byte_range.end - t.byte_range.start) t ts a) in
    omega (arith, here, rest, sum_by-cons size (record { plan = plan; term = planned_term t; blocks = bs }) (tasks_of plan (map planned_term ts) bs), length-append (term_piece s p multi t) (flat_map (term_piece s p multi) ts))

-- what one event's plan gives
pub record IsHonestPlan (s : Store) (f : MerkleHash) (query : FileRange) (ts : List Task) : Type 0 where
  pub joined : flat_map (task_piece s) ts ≡ window s f query
  pub sized : sum_by size ts ≡ length (flat_map (task_piece s) ts)

pub honest_plan : (s : Store) → IsValid s → (f : MerkleHash) (multi : Bool) (plan : ℕ) (query : FileRange) (terms : List PlannedTerm) (blocks : List PlannedBlock) → IsTrueEvent s f multi (Planned plan query terms blocks)
    → IsHonestPlan s f query (tasks_of plan terms blocks)
honest_plan s v f multi plan query terms blocks h =
    let p = plan_of s f query in
    let ts = terms_of p query multi in
    let bs = map planned_block (blocks_of p multi) in
    let is : tasks_of plan terms blocks ≡ tasks_of plan (map planned_term ts) bs = ap (λ (l : List PlannedTerm). tasks_of plan l blocks) h.0 ∙ ap (λ (l : List PlannedBlock). tasks_of plan (map planned_term ts) l) h.1 in
    let same = pieces_same s p multi plan ts in
    record {
      joined = ap (λ (l : List Task). flat_map (task_piece s) l) is ∙ same ∙ pieces_join s v f query multi;
      sized = ap (λ (l : List Task). sum_by size l) is ∙ sizes_same s p multi plan bs ts (pieces_sized s v f query multi) ∙ ap length (sym same) ∙ ap (λ (l : List Task). length (flat_map (task_piece s) l)) (sym is);
    }

-- the queries go forward, and not past the end
pub to_end : (place end bound : ℕ) (qs : List FileRange) → CutFrom place end bound qs → place ≤ last_of place (map (λ q. q.end) qs)
to_end place end bound [] c = omega arith
to_end place end bound (q ∷ qs) c = let h = to_end q.end end bound qs c.4 in let a : q.start ≡ place = c.0 in let b : q.start < q.end = c.1 in omega arith

pub within_end : (place end bound : ℕ) (qs : List FileRange) → CutFrom place end bound qs → (last_of place (map (λ q. q.end) qs) ≡ place) ⊎ (last_of place (map (λ q. q.end) qs) ≤ end)
within_end place end bound [] c = inl refl
within_end place end bound (q ∷ qs) c =
    let b : q.end ≤ end = c.2 in
    ⊎_elim (λ (e : last_of q.end (map (λ q. q.end) qs) ≡ q.end). inr (omega arith)) (λ (e : last_of q.end (map (λ q. q.end) qs) ≤ end). inr e) (within_end q.end end bound qs c.4)

empty_window : (s : Store) (f : MerkleHash) (p : ℕ) → window s f (record { start = p; end = p }) ≡ []
empty_window s f p = let e : p - p ≡ 0 = omega arith in ap (λ (n : ℕ). take n (drop p (bytes_of s f))) e

module _ (s : Store) (v : IsValid s) (f : MerkleHash) (multi : Bool) where
  cover : (place end bound : ℕ) (es : List Event) → All (IsTrueEvent s f multi) es → CutFrom place end bound (queries es)
      → pieces s es ≡ window s f (record { start = place; end = last_of place (map (λ q. q.end) (queries es)) })
  cover place end bound [] a c = sym (empty_window s f place)
  cover place end bound (Planned plan query terms blocks ∷ es) a c =
      let e : Event = Planned plan query terms blocks in
      let here = (honest_plan s v f multi plan query terms blocks (All-head (IsTrueEvent s f multi) e es a)).joined in
      let rest = cover query.end end bound es (All-tail (IsTrueEvent s f multi) e es a) c.4 in
      let far = to_end query.end end bound (queries es) c.4 in
      let from : query.start ≡ place = c.0 in
      let some : query.start < query.end = c.1 in
      let all = last_of query.end (map (λ q. q.end) (queries es)) in
      flat_map-append (task_piece s) (tasks_of plan terms blocks) (planned es)
      ∙ ap (λ l. l ++ pieces s es) here
      ∙ ap (λ l. window s f query ++ l) rest
      ∙ slice_range-join (bytes_of s f) query.start query.end all (omega arith) far
      ∙ ap (λ (p : ℕ). window s f (record { start = p; end = all })) from
  cover place end bound (Admit limit ∷ es) a c = cover place end bound es (All-tail (IsTrueEvent s f multi) (Admit limit) es a) c
  cover place end bound (Fetched lane plan block ∷ es) a c = cover place end bound es (All-tail (IsTrueEvent s f multi) (Fetched lane plan block) es a) c
  cover place end bound (Cached plan block ∷ es) a c = cover place end bound es (All-tail (IsTrueEvent s f multi) (Cached plan block) es a) c
  cover place end bound (Expired lane plan block ∷ es) a c = cover place end bound es (All-tail (IsTrueEvent s f multi) (Expired lane plan block) es a) c
  cover place end bound (Refreshed plan ∷ es) a c = cover place end bound es (All-tail (IsTrueEvent s f multi) (Refreshed plan) es a) c
  cover place end bound (Wrote taken ∷ es) a c = cover place end bound es (All-tail (IsTrueEvent s f multi) (Wrote taken) es a) c
  cover place end bound (Fail error ∷ es) a c = cover place end bound es (All-tail (IsTrueEvent s f multi) (Fail error) es a) c
  cover place end bound (Cancel ∷ es) a c = cover place end bound es (All-tail (IsTrueEvent s f multi) Cancel es a) c

  pub all_sized : (es : List Event) → All (IsTrueEvent s f multi) es → sum_by size (planned es) ≡ length (pieces s es)
  all_sized [] a = refl
  all_sized (Planned plan query terms blocks ∷ es) a =
      let e : Event = Planned plan query terms blocks in
      let here = (honest_plan s v f multi plan query terms blocks (All-head (IsTrueEvent s f multi) e es a)).sized in
      let rest = all_sized es (All-tail (IsTrueEvent s f multi) e es a) in
      let joined : length (pieces s (e ∷ es)) ≡ length (flat_map (task_piece s) (tasks_of plan terms blocks)) + length (pieces s es) =
      ap length (flat_map-append (task_piece s) (tasks_of plan terms blocks) (planned es)) ∙ length-append (flat_map (task_piece s) (tasks_of plan terms blocks)) (pieces s es) in
      omega (arith, here, rest, joined, sum_by-append size (tasks_of plan terms blocks) (planned es))
  all_sized (Admit limit ∷ es) a = all_sized es (All-tail (IsTrueEvent s f multi) (Admit limit) es a)
  all_sized (Fetched lane plan block ∷ es) a = all_sized es (All-tail (IsTrueEvent s f multi) (Fetched lane plan block) es a)
  all_sized (Cached plan block ∷ es) a = all_sized es (All-tail (IsTrueEvent s f multi) (Cached plan block) es a)
  all_sized (Expired lane plan block ∷ es) a = all_sized es (All-tail (IsTrueEvent s f multi) (Expired lane plan block) es a)
  all_sized (Refreshed plan ∷ es) a = all_sized es (All-tail (IsTrueEvent s f multi) (Refreshed plan) es a)
  all_sized (Wrote taken ∷ es) a = all_sized es (All-tail (IsTrueEvent s f multi) (Wrote taken) es a)
  all_sized (Fail error ∷ es) a = all_sized es (All-tail (IsTrueEvent s f multi) (Fail error) es a)
  all_sized (Cancel ∷ es) a = all_sized es (All-tail (IsTrueEvent s f multi) Cancel es a)

pub pieces_cover : PiecesCover
pieces_cover s v d es t = cover s v d.file d.multirange d.range.start d.range.end (d.greatest + d.least) es t.plans t.cuts

pub pieces_are_prefix : PiecesArePrefix
pieces_are_prefix s v d es t =
    let f = d.file in
    let start = d.range.start in
    let all = queries_end es start in
    let is = pieces_cover s v d es t in
    let from = to_end start d.range.end (d.greatest + d.least) (queries es) t.cuts in
    ⊎_elim
    (λ (e : all ≡ start). record { rest = window s f d.range; joined = ap (λ l. l ++ window s f d.range) (is ∙ ap (λ (n : ℕ). window s f (record { start = start; end = n })) e ∙ empty_window s f start) })
    (λ (e : all ≤ d.range.end). record { rest = window s f (record { start = all; end = d.range.end }); joined = ap (λ l. l ++ window s f (record { start = all; end = d.range.end })) is ∙ slice_range-join (bytes_of s f) start all d.range.end from e })
    (within_end start d.range.end (d.greatest + d.least) (queries es) t.cuts)

pub written_are_prefix : WrittenArePrefix
written_are_prefix s v d es a t =
    let covered = (facts es a).covered in
    let part = sum_by-take-le size (planned es) (count_by is_admit es) in
    let whole = all_sized s v d.file d.multirange es t.plans in
    let within : written es ≤ length (pieces s es) = omega arith in
    let p = pieces_are_prefix s v d es t in
    record { within = within; same = sym (ap (λ (l : List ℕ). take (written es) l) (sym p.joined) ∙ take-append-le (written es) (pieces s es) p.rest within) }
