-- Where a finished run's cache had no entries, each chunk with a byte in the window lies in a served block.
use Rattle.std.proofs.Common.{◌≡◌, ⊎_elim, ℕ, ◌+◌, ◌-◌, ◌<◌, ◌≤◌, zero, suc, min, max, Bool, true, false, cond, List, [], ◌∷◌, ◌++◌, length, map, filter, get_or, refl, sym, ◌∙◌, ap, subst, arith, None, Some, Option}
use Rattle.std.specs.Prelude.{All, Contains, IfSome, MatchOption, option_map, slice_get}
use Rattle.std.specs.List.{AllZip, enumerate_from}
use Rattle.std.proofs.lemmas.Bool.{cases_lt, lt-ltb, ltb-true}
use Rattle.std.proofs.lemmas.List.Elements.{All-cons, All-contains, All-head, All-nil, All-tail, All-weaker, Contains-append_left, Contains-append_right}
use Rattle.std.proofs.lemmas.Option.{get_or_from_slice_get, slice_get_within}
use Rattle.xet_base.specs.declared.cas_types.ChunkRange.{ChunkRange}
use Rattle.xet_base.specs.declared.cas_types.FileRange.{FileRange}
use Rattle.xet_base.specs.declared.merklehash.MerkleHash.{MerkleHash}
use Rattle.xet_base.specs.Store.{IsValid, Store, bytes_of}
use Rattle.xet_base.proofs.CallerLemmas.{length-slice_range}
use Rattle.xet_outside.specs.Answers.{plans_in}
use Rattle.xet_outside.specs.Plan.{plan_of, shape}
use Rattle.xet_outside.specs.Told.{CacheEntry, CacheTold, Query}
use Rattle.xet_outside.specs.declared.block.BlockBytes.{BlockBytes}
use Rattle.xet_outside.specs.declared.plan.PlanAnswer.{PlanAnswer}
use Rattle.xet_outside.specs.declared.plan.PlanAnswer.TheVariants.{Found}
use Rattle.xet_outside.specs.declared.served.Served.{Served}
use Rattle.xet_offers.specs.Blocks.{PlanBlock, block_ranges, blocks_of}
use Rattle.xet_blocks.specs.Laws.{IsServedBlock, IsServedTerm}
use Rattle.xet_blocks.specs.ServedChunks.{AllServed, IsServedIn, file_chunks}
use Rattle.xet_blocks.specs.TermBlocks.{xorb_block}
use Rattle.xet_blocks.specs.Terms.{terms_of}
use Rattle.xet_blocks.specs.declared.reconstruction_terms.file_term.FileTerm.{FileTerm}
use Rattle.xet_offers.specs.declared.reconstruction_terms.xorb_block.XorbBlock.{XorbBlock}
use Rattle.xet_offers.specs.declared.reconstruction_terms.xorb_block.XorbBlockData.{XorbBlockData}
use Rattle.xet_blocks.proofs.CallerLemmas.{served_chunks}
use Rattle.xet_events.specs.declared.event.Event.{Event}
use Rattle.xet_events.specs.declared.event.Event.TheVariants.{Planned, Admit, Fetched, Cached, Expired, Refreshed, Wrote, Fail, Cancel}
use Rattle.xet_events.specs.declared.event.PlannedBlock.{PlannedBlock}
use Rattle.xet_events.specs.declared.event.PlannedTerm.{PlannedTerm}
use Rattle.xet_events.specs.Allowed.{IsAllowedHistory}
use Rattle.xet_events.specs.Events.{Task, last_of, planned, tasks_in, tasks_of}
use Rattle.xet_history.specs.Queries.{CutFrom}
use Rattle.xet_history.specs.TrueHistory.{IsTrueEvent, planned_block, planned_term, queries, queries_end}
use Rattle.xet_history.proofs.CallerLemmas.{pieces_cover, pieces_reach}
use Rattle.xet_ties.specs.Gains.{GainedServed, GaveServed, IsServedEntry}
use Rattle.xet_ties.specs.History.{entry_of}
use Rattle.xet_ties.specs.InCall.{Exchange, Look, SomeOne, served_of_all}
use Rattle.xet_ties.specs.RunCalls.{IsFinished}
use Rattle.xet_ties.specs.Saids.{AnswerOf, FirstSaid, IsEventSaid, IsLookedData, IsMadeOf, IsMadeOfPlan, IsPlannedBy, IsServedData, IsTaskPiece, IsTestedData, has_bytes, planned_of, some_of}
use Rattle.xet_ties.specs.Setup.{IsOver, RunTold, Setup, download_of}
use Rattle.xet_ties.specs.Ties.{IsEntryOf, Slack, Ties}
use Rattle.xet_ties.proofs.HonestSizes.{HasLength, terms_have_length}
use Rattle.xet_ties.proofs.SaidTies.{map_at}
use Rattle.xet_ties.proofs.Telling.{all_left, all_right}
use Rattle.xet_ties.proofs.Wholes.{took_all}

-- ---- a block's entry

-- an entry is of this xorb and these ranges
abbrev HasBlock : List Served → MerkleHash → List ChunkRange → Type 0
HasBlock l h rs = (e : Served) × Contains l e × (e.xorb ≡ h) × (e.ranges ≡ rs)

at_place : (xs : List Served) (i : ℕ) (e : Served) → slice_get xs i ≡ Some e → Contains xs e
at_place xs i e h = (i, slice_get_within xs i e h, get_or_from_slice_get xs i e e h)

served_some : (xs : List Exchange) (p k : ℕ) (b : XorbBlock) (d : XorbBlockData) → SomeOne (λ x. IsServedData x p k b d) xs → Contains (served_of_all xs) (entry_of p k (planned_of b))
served_some [] p k b d h = absurd h
served_some (x ∷ xs) p k b d h =
    ⊎_elim
    (λ (s : IsServedData x p k b d). Contains-append_left x.served (served_of_all xs) (entry_of p k (planned_of b)) (at_place x.served s.answer.place (entry_of p k (planned_of b)) s.answer.entry))
    (λ (s : SomeOne (λ x. IsServedData x p k b d) xs). Contains-append_right x.served (served_of_all xs) (entry_of p k (planned_of b)) (served_some xs p k b d s))
    h

-- the block of a gained entry was served
entry_has : (g : Setup) (xs : List Exchange) (e : CacheEntry) → IsServedEntry g xs e → HasBlock (served_of_all xs) e.0 (e.1 ∷ [])
entry_has g xs e h = (
  entry_of h.place.accepted.said.number h.place.number (planned_of h.place.block),
  served_some xs h.place.accepted.said.number h.place.number h.place.block h.data_of h.served,
  ap (λ (c : CacheEntry). c.0) (sym h.is),
  h.one ∙ ap (λ (c : CacheEntry). c.1 ∷ []) (sym h.is),
)

-- each entry that a look gave of a cache that had none is one that it gained
pub looks_gained : (g : Setup) (xs : List Exchange) (b n : CacheTold) (looks : List Look) → b.entries ≡ Some [] → GainedServed g xs b n → All (IsEntryOf n.entries) looks → GaveServed g xs looks
looks_gained g xs b n looks none t a =
    let now : n.entries ≡ Some t.gained = t.added ∙ ap (λ (o : Option (List CacheEntry)). option_map (λ es. es ++ t.gained) o) none in
    All-weaker (IsEntryOf n.entries) (λ l. IfSome l.2 (λ e. IsServedEntry g xs (l.0, l.1, e)))
    (λ l h. one now l l.2 h) looks a
  where
    one : n.entries ≡ Some t.gained → (l : Look) (o : Option BlockBytes) → IfSome o (λ e. IfSome n.entries (λ es. Contains es (l.0, l.1, e))) → IfSome o (λ e. IsServedEntry g xs (l.0, l.1, e))
    one now l None h = tt
    one now l (Some e) h =
        All-contains (IsServedEntry g xs) t.gained (l.0, l.1, e) t.served
        (subst (λ (o : Option (List CacheEntry)). IfSome o (λ es. Contains es (l.0, l.1, e))) now h)

-- so the block of tested data was served
tested_has : (g : Setup) (xs : List Exchange) (looks : List Look) (p k : ℕ) (b : XorbBlock) (d : XorbBlockData) → GaveServed g xs looks → IsTestedData xs looks p k b d → HasBlock (served_of_all xs) b.xorb_hash b.chunk_ranges
tested_has g xs looks p k b d a t =
    ⊎_elim
    (λ (s : SomeOne (λ x. IsServedData x p k b d) xs).
    let r : HasBlock (served_of_all xs) b.xorb_hash b.chunk_ranges = (entry_of p k (planned_of b), served_some xs p k b d s, refl, refl) in r)
    (λ (h : IsLookedData looks b d).
    let e = entry_has g xs (b.xorb_hash, h.range, h.given)
    (All-contains (λ (l : Look). IfSome l.2 (λ e. IsServedEntry g xs (l.0, l.1, e))) looks (b.xorb_hash, h.range, Some h.given) a h.looked) in
    let r : HasBlock (served_of_all xs) b.xorb_hash b.chunk_ranges = (e.0, e.1, e.2, e.3 ∙ sym h.one) in r)
    t

-- ---- a term's block

-- there is one answer to the query of a number
one_answer : (x : Exchange) (n : ℕ) (q r : Query) (a c : PlanAnswer) → AnswerOf x n q a → AnswerOf x n r c → a ≡ c
one_answer x n q r a c s t =
    let place : s.place ≡ t.place = (let z : ◌≡◌ {A = Option ℕ} (Some s.place) (Some t.place) = sym s.at ∙ t.at in cc) in
    let z : ◌≡◌ {A = Option PlanAnswer} (Some a) (Some c) = sym s.answer ∙ ap (λ (i : ℕ). slice_get (plans_in x.said) i) place ∙ t.answer in
    cc

-- a place of the blocks of a plan
listed_back : (f : ℕ × PlanBlock → XorbBlock) (n k : ℕ) (bs : List PlanBlock) (y : XorbBlock) → ((i : ℕ) (b : PlanBlock) → planned_of (f (i, b)) ≡ planned_block b) → slice_get (map f (enumerate_from n bs)) k ≡ Some y → slice_get (map planned_block bs) k ≡ Some (planned_of y)
listed_back f n k [] y own h = absurd (cc)
listed_back f n zero (b ∷ bs) y own h =
    let same : f (n, b) ≡ y = cc in
    ap (λ (v : PlannedBlock). Some v) (sym (own n b) ∙ ap planned_of same)
listed_back f n (suc k) (b ∷ bs) y own h = listed_back f (n + 1) k bs y own h

-- the block of a planned term, by its piece, is that of its plan's event
piece_block : (g : Setup) (x : Exchange) (rest : List Exchange) (looks : List Look) (p : ℕ) (q : FileRange) (ts : List PlannedTerm) (bs : List PlannedBlock) (t : Task) (piece : List ℕ) → IsPlannedBy g x p q ts bs → t.plan ≡ p → (z : IsTaskPiece g (x ∷ rest) looks t piece)
    → slice_get bs t.term.block ≡ Some (planned_of z.of_plan.place.block)
piece_block g x rest looks p q ts bs t piece said plan z =
    let place = z.of_plan.place in
    let accepted = place.accepted.said in
    let number : p ≡ accepted.number = sym plan ∙ z.own in
    let own : AnswerOf x p (g.file, place.query) (Found place.plan) =
    subst (λ (n : ℕ). AnswerOf x n (g.file, place.query) (Found place.plan)) (sym number) accepted.answer in
    let same : said.answer ≡ Found place.plan = one_answer x p (g.file, q) (g.file, place.query) said.answer (Found place.plan) said.said own in
    let index : place.number ≡ t.term.block = sym z.of_plan.of_term ∙ sym (ap (λ (u : PlannedTerm). u.block) z.is) in
    ⊎_elim
    (λ (e : (place.plan.terms ≡ []) × (ts ≡ []) × (bs ≡ [])).
    let none = ap length e.0 in
    let some = accepted.some in
    absurd (omega (arith, none, some)))
    (λ (e : IsMadeOfPlan g q ts bs place.plan).
    subst (λ (i : ℕ). slice_get bs i ≡ Some (planned_of place.block)) index
    (subst (λ (v : List PlannedBlock). slice_get v place.number ≡ Some (planned_of place.block)) (sym e.blocks)
    (listed_back (xorb_block (shape place.plan) g.multirange) 0 place.number (blocks_of (shape place.plan) g.multirange) place.block (λ i b. refl) place.numbered)))
    (subst (IsMadeOf g q ts bs) same said.made)

-- the terms that have bytes have pieces
abbrev SomePiece : Setup → List Exchange → List Look → Task → Type 0
SomePiece g xs looks t = has_bytes t ≡ true → (piece : List ℕ) × IsTaskPiece g xs looks t piece

with_pieces : (g : Setup) (xs : List Exchange) (looks : List Look) (ts : List Task) (pieces : List (List ℕ)) → AllZip (IsTaskPiece g xs looks) (filter has_bytes ts) pieces → All (SomePiece g xs looks) ts
with_pieces g xs looks [] pieces z = All-nil (SomePiece g xs looks)
with_pieces g xs looks (t ∷ ts) pieces z = by (has_bytes t) refl pieces z (λ ps k. with_pieces g xs looks ts ps k)
  where
    by : (v : Bool) → has_bytes t ≡ v → (ps : List (List ℕ)) → AllZip (IsTaskPiece g xs looks) (cond v (t ∷ filter has_bytes ts) (filter has_bytes ts)) ps
        → ((rs : List (List ℕ)) → AllZip (IsTaskPiece g xs looks) (filter has_bytes ts) rs → All (SomePiece g xs looks) ts) → All (SomePiece g xs looks) (t ∷ ts)
    by true e [] k next = absurd k
    by true e (p ∷ ps) k next = All-cons (SomePiece g xs looks) t ts (λ _. (p, k.0)) (next ps k.1)
    by false e ps k next = All-cons (SomePiece g xs looks) t ts (λ h. absurd (let z : false ≡ true = sym e ∙ h in cc)) (next ps k)

-- ---- a plan's chunks

module _ (s : Store) (valid : IsValid s) (g : Setup) (x : Exchange) (rest : List Exchange) (looks : List Look) (a : GaveServed g (x ∷ rest) looks) where
  abbrev AllOf : List Served
  AllOf = served_of_all (x ∷ rest)

  block_served : (p k : ℕ) (q : FileRange) (bs : List PlannedBlock) (pb : PlannedBlock) → bs ≡ map planned_block (blocks_of (plan_of s g.file q) g.multirange) → slice_get bs k ≡ Some pb → HasBlock AllOf pb.xorb pb.ranges
      → MatchOption (slice_get (blocks_of (plan_of s g.file q) g.multirange) k) ⊥ (IsServedBlock AllOf)
  block_served p k q bs pb true_blocks at e =
      let listed = map_at (blocks_of (plan_of s g.file q) g.multirange) k pb (subst (λ (v : List PlannedBlock). slice_get v k ≡ Some pb) true_blocks at) in
      let own_xorb : pb.xorb ≡ listed.0.xorb = ap (λ (v : PlannedBlock). v.xorb) (sym listed.2) in
      let own_ranges : pb.ranges ≡ block_ranges listed.0 = ap (λ (v : PlannedBlock). v.ranges) (sym listed.2) in
      let here : IsServedBlock AllOf listed.0 = (e.0, e.1, e.2 ∙ own_xorb, e.3 ∙ own_ranges) in
      subst (λ (o : Option PlanBlock). MatchOption o ⊥ (IsServedBlock AllOf)) (sym listed.1) here

  term_served : (p : ℕ) (q : FileRange) (ts : List PlannedTerm) (bs : List PlannedBlock) (t : FileTerm) → IsPlannedBy g x p q ts bs → bs ≡ map planned_block (blocks_of (plan_of s g.file q) g.multirange) → HasLength t
      → SomePiece g (x ∷ rest) looks (record { plan = p; term = planned_term t; blocks = bs }) → IsServedTerm (plan_of s g.file q) g.multirange AllOf t
  term_served p q ts bs t said true_blocks long h =
      let task : Task = record { plan = p; term = planned_term t; blocks = bs } in
      let w = h (lt-ltb 0 (t.byte_range.end - t.byte_range.start) (omega (arith, long))) in
      let z = w.1 in
      let block = z.of_plan.place.block in
      block_served p t.xorb_block q bs (planned_of block) true_blocks (piece_block g x rest looks p q ts bs task w.0 said refl z)
      (tested_has g (x ∷ rest) looks p z.of_plan.place.number block z.piece_of.data_of a z.piece_of.tested)

  terms_served : (p : ℕ) (q : FileRange) (ts : List PlannedTerm) (bs : List PlannedBlock) (fs : List FileTerm) → IsPlannedBy g x p q ts bs → bs ≡ map planned_block (blocks_of (plan_of s g.file q) g.multirange) → All HasLength fs
      → All (SomePiece g (x ∷ rest) looks) (tasks_of p (map planned_term fs) bs) → All (IsServedTerm (plan_of s g.file q) g.multirange AllOf) fs
  terms_served p q ts bs [] said b l h = All-nil (IsServedTerm (plan_of s g.file q) g.multirange AllOf)
  terms_served p q ts bs (t ∷ fs) said b l h =
      let task : Task = record { plan = p; term = planned_term t; blocks = bs } in
      All-cons (IsServedTerm (plan_of s g.file q) g.multirange AllOf) t fs
      (term_served p q ts bs t said b (All-head HasLength t fs l) (All-head (SomePiece g (x ∷ rest) looks) task (tasks_of p (map planned_term fs) bs) h))
      (terms_served p q ts bs fs said b (All-tail HasLength t fs l) (All-tail (SomePiece g (x ∷ rest) looks) task (tasks_of p (map planned_term fs) bs) h))

  plan_served : (p : ℕ) (q : FileRange) (ts : List PlannedTerm) (bs : List PlannedBlock) → IsPlannedBy g x p q ts bs → IsTrueEvent s g.file g.multirange (Planned p q ts bs) → All (SomePiece g (x ∷ rest) looks) (tasks_of p ts bs) → AllServed s g.file q AllOf
  plan_served p q ts bs said is h =
      served_chunks s valid g.file q g.multirange AllOf
      (terms_served p q ts bs (terms_of (plan_of s g.file q) q g.multirange) said is.1 (terms_have_length s valid g.file q g.multirange)
      (subst (λ (v : List PlannedTerm). All (SomePiece g (x ∷ rest) looks) (tasks_of p v bs)) is.0 h))

  abbrev QueryServed : FileRange → Type 0
  QueryServed q = AllServed s g.file q AllOf

  queries_step : (e : Event) (es : List Event) → IsEventSaid g x e → IsTrueEvent s g.file g.multirange e → All (SomePiece g (x ∷ rest) looks) (tasks_in e) → All QueryServed (queries es) → All QueryServed (queries (e ∷ es))
  queries_step (Planned p q ts bs) es said own h more = All-cons QueryServed q (queries es) (plan_served p q ts bs said own h) more
  queries_step (Admit limit) es said own h more = more
  queries_step (Fetched lane plan block) es said own h more = more
  queries_step (Cached plan block) es said own h more = more
  queries_step (Expired lane plan block) es said own h more = more
  queries_step (Refreshed plan) es said own h more = more
  queries_step (Wrote taken) es said own h more = more
  queries_step (Fail error) es said own h more = more
  queries_step Cancel es said own h more = more

  queries_served : (es : List Event) → All (IsEventSaid g x) es → All (IsTrueEvent s g.file g.multirange) es → All (SomePiece g (x ∷ rest) looks) (planned es) → All QueryServed (queries es)
  queries_served [] said c h = All-nil QueryServed
  queries_served (e ∷ es) said c h =
      queries_step e es (All-head (IsEventSaid g x) e es said) (All-head (IsTrueEvent s g.file g.multirange) e es c)
      (all_left (SomePiece g (x ∷ rest) looks) (tasks_in e) (planned es) h)
      (queries_served es (All-tail (IsEventSaid g x) e es said) (All-tail (IsTrueEvent s g.file g.multirange) e es c)
      (all_right (SomePiece g (x ∷ rest) looks) (tasks_in e) (planned es) h))

-- of what was heard
heard_queries : (s : Store) (g : Setup) (es : List Event) (xs : List Exchange) (looks : List Look) (pieces : List (List ℕ)) → IsValid s → FirstSaid g es xs → GaveServed g xs looks → All (IsTrueEvent s g.file g.multirange) es → AllZip (IsTaskPiece g xs looks) (some_of es) pieces
    → All (λ q. AllServed s g.file q (served_of_all xs)) (queries es)
heard_queries s g es [] looks pieces valid said a c z = absurd said
heard_queries s g es (x ∷ rest) looks pieces valid said a c z = queries_served s valid g x rest looks a es said.0 c (with_pieces g (x ∷ rest) looks (planned es) pieces z)

-- ---- the queries of a cut together

in_cut : (X : Type 0) (n a b : ℕ) (place end bound : ℕ) (qs : List FileRange) → CutFrom place end bound qs → All (λ q. max a q.start < min b (min q.end n) → X) qs → max a place < min b (min (last_of place (map (λ q. q.end) qs)) n) → X
in_cut X n a b place end bound [] c h t = absurd (omega (arith, t))
in_cut X n a b place end bound (q ∷ qs) c h t =
    let from = c.0 in
    let some = c.1 in
    ⊎_elim
    (λ (l : max a q.start < min b (min q.end n)). All-head (λ q. max a q.start < min b (min q.end n) → X) q qs h l)
    (λ (l : min b (min q.end n) ≤ max a q.start). in_cut X n a b q.end end bound qs c.4 (All-tail (λ q. max a q.start < min b (min q.end n) → X) q qs h) (later t l from some))
    (cases_lt (max a q.start) (min b (min q.end n)))
  where
    later : max a place < min b (min (last_of q.end (map (λ q. q.end) qs)) n) → min b (min q.end n) ≤ max a q.start → q.start ≡ place → q.start < q.end → max a q.end < min b (min (last_of q.end (map (λ q. q.end) qs)) n)
    later t l from some = omega (arith, t, l, from, some)

cut_served : (s : Store) (f : MerkleHash) (l : List Served) (r : FileRange) (bound : ℕ) (qs : List FileRange) → CutFrom r.start r.end bound qs → (r.start < min r.end (length (bytes_of s f)) → min (last_of r.start (map (λ q. q.end) qs)) (length (bytes_of s f)) ≡ min r.end (length (bytes_of s f)))
    → All (λ q. AllServed s f q l) qs → AllServed s f r l
cut_served s f l r bound qs c same h k d w =
    let x = get_or (file_chunks s f) k d in
    let n = length (bytes_of s f) in λ t.
    let u : max x.2 r.start < min (x.2 + x.3) (min r.end n) = ltb-true (max x.2 r.start) (min (x.2 + x.3) (min r.end n)) t in
    let e = same (omega (arith, u)) in
    in_cut (IsServedIn l x.0 x.1) n x.2 (x.2 + x.3) r.start r.end bound qs c
    (All-weaker (λ q. AllServed s f q l) (λ q. max x.2 q.start < min (x.2 + x.3) (min q.end n) → IsServedIn l x.0 x.1)
    (λ q a v. a k d w (lt-ltb (max x.2 q.start) (min (x.2 + x.3) (min q.end n)) v)) qs h)
    (omega (arith, u, e))

-- ---- a finished run

pub chunks_heard : (g : Setup) (b n : RunTold) (es : List Event) (k : ℕ) (sl : Slack) → IsAllowedHistory es → Ties g b n es None sl → sl.ahead ≡ 0 → IsFinished g es k → (s : Store) → IsOver s b.clients → b.cache.entries ≡ Some []
    → AllServed s g.file g.range (served_of_all sl.heard)
chunks_heard g b n es k sl a t none f s over empty =
    let z = took_all g b n es k sl t none f in
    let looks = looks_gained g sl.heard b.cache n.cache sl.looks empty t.gained t.looked_entries in
    cut_served s g.file (served_of_all sl.heard) g.range (g.greatest + g.least) (queries es) t.cuts.from reach
    (heard_queries s g es sl.heard sl.looks z.pieces over.valid t.said looks (t.true_of s over).plans z.each)
  where
    size : ℕ
    size = length (bytes_of s g.file)

    -- the queries reach as far as the range and the file do
    reach : g.range.start < min g.range.end size → min (last_of g.range.start (map (λ q. q.end) (queries es))) size ≡ min g.range.end size
    reach h =
        let r = f.reaches (omega (arith, h)) in
        let cover = pieces_cover s over.valid (download_of g) es (t.true_of s over) in
        let all = pieces_reach s over.valid (download_of g) es a (t.true_of s over) r in
        let same = ap (λ (v : List ℕ). length v) (sym cover ∙ all) in
        let m = length-slice_range (bytes_of s g.file) g.range.start (queries_end es g.range.start) in
        let w = length-slice_range (bytes_of s g.file) g.range.start g.range.end in
        omega (arith, h, same, m, w)
