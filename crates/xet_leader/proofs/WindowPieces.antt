-- The pieces of a window are tested, and over one valid store they are the history's.
use Rattle.std.proofs.Common.{◌≡◌, ◌⊎◌, inl, inr, ⊎_elim, ℕ, zero, suc, ◌+◌, ◌<◌, Bool, true, false, cond, List, [], ◌∷◌, length, get_or, refl, sym, subst, ◌∙◌, ap, arith, Option, Some, None}
use Rattle.std.specs.Prelude.{All, Contains, IfSome, filter, map, option_and_then, option_map, slice_get, unwrap_or}
use Rattle.std.specs.Option.{is_some}
use Rattle.std.specs.List.{AllZip}
use Rattle.std.proofs.lemmas.List.Elements.{All-cons, All-contains, All-head, All-tail}
use Rattle.std.proofs.lemmas.Option.{slice_get-map}
use Rattle.xet_base.specs.declared.cas_types.ChunkRange.{ChunkRange}
use Rattle.xet_base.specs.declared.merklehash.MerkleHash.{MerkleHash}
use Rattle.xet_base.specs.Store.{Store}
use Rattle.xet_outside.specs.Plan.{Shape, block_of, plan_of, shape}
use Rattle.xet_error.specs.declared.error.Corruption.{Corruption}
use Rattle.xet_blocks.specs.declared.reconstruction_terms.file_term.FileTerm.{FileTerm}
use Rattle.xet_offers.specs.declared.reconstruction_terms.xorb_block.XorbBlock.{XorbBlock}
use Rattle.xet_offers.specs.declared.reconstruction_terms.xorb_block.XorbBlockData.{XorbBlockData}
use Rattle.xet_offers.specs.BlockChecks.{block_data}
use Rattle.xet_offers.specs.Blocks.{PlanBlock, block_ranges, blocks_of}
use Rattle.xet_blocks.specs.Extracts.{failed_term_test, term_bytes_in}
use Rattle.xet_offers.specs.Chain.{known_size}
use Rattle.xet_blocks.specs.TermBlocks.{references, xorb_block, xorb_blocks}
use Rattle.xet_blocks.specs.Terms.{terms_of}
use Rattle.xet_blocks.proofs.CallerLemmas.{IsHonestTerm, honest_terms}
use Rattle.xet_fetch.specs.CachedBlocks.{passes_cached}
use Rattle.xet_fetch.specs.Laws.{PassesIn}
use Rattle.xet_fetch.proofs.CallerLemmas.{cached_terms_pass}
use Rattle.xet_events.specs.declared.event.Event.{Event}
use Rattle.xet_events.specs.declared.event.PlannedBlock.{PlannedBlock}
use Rattle.xet_events.specs.Events.{is_kept}
use Rattle.xet_history.specs.TrueHistory.{piece_in, planned_term, task_piece}
use Rattle.xet_ties.specs.Causes.{TermFailsIn}
use Rattle.xet_ties.specs.InCall.{Exchange, SomeOne}
use Rattle.xet_ties.specs.Saids.{IsLookedData, IsServedData, IsTaskPiece, IsTestedData, TermOfPlan, planned_of}
use Rattle.xet_ties.specs.Setup.{CacheTells, IsOver, RunTold, Setup}
use Rattle.xet_ties.specs.Ties.{Slack}
use Rattle.xet_ties.specs.Windows.{AreKept}
use Rattle.xet_leader.specs.Led.{IsLedBlock, IsLedData, bare, true_data}
use Rattle.xet_leader.specs.LedTerms.{task_of}
use Rattle.xet_leader.specs.LedTerms.{IsPieceIn, PlanTerm, kept_in, some_in}
use Rattle.xet_leader.specs.FetchLists.{Each}
use Rattle.xet_leader.proofs.FetchFacts.{none_within}
use Rattle.xet_leader.proofs.PlanFacts.{block_is, led_block, terms_within}
use Rattle.xet_leader.proofs.WindowTasks.{IsLedTerm}

-- ---- a term's block

-- the block that keeps this data
pub record Keeps (t : PlanTerm) (d : XorbBlockData) : Type 0 where
  pub block : XorbBlock
  pub there : slice_get t.plan.block.blocks t.term.xorb_block ≡ Some block
  pub kept : block.kept ≡ Some d

keeps_by : (xs : List XorbBlock) (n : ℕ) (o : Option XorbBlock) (d : XorbBlockData) → slice_get xs n ≡ o
    → option_and_then (λ b. b.kept) o ≡ Some d → (x : XorbBlock) × (slice_get xs n ≡ Some x) × (x.kept ≡ Some d)
keeps_by xs n None d e h = absurd (cc)
keeps_by xs n (Some x) d e h = (x, e, h)

keeps_of : (t : PlanTerm) (d : XorbBlockData) → kept_in t ≡ Some d → Keeps t d
keeps_of t d h = let r = keeps_by t.plan.block.blocks t.term.xorb_block
    (slice_get t.plan.block.blocks t.term.xorb_block) d refl h in record { block = r.0; there = r.1; kept = r.2 }

some_map : (P Q : Exchange → Type 0) (xs : List Exchange) → ((x : Exchange) → P x → Q x) → SomeOne P xs → SomeOne Q xs
some_map P Q [] f h = absurd h
some_map P Q (x ∷ xs) f (inl p) = inl (f x p)
some_map P Q (x ∷ xs) f (inr r) = inr (some_map P Q xs f r)

-- ---- a term that its plan lists, with the block that keeps its data

module _ (g : Setup) (b : RunTold) (es : List Event) (sl : Slack) (stale : List ℕ) (t : PlanTerm)
    (led : IsLedTerm g b es sl stale t) (d : XorbBlockData) (kept : kept_in t ≡ Some d) where
  pub in_block : Keeps t d
  in_block = keeps_of t d kept

  of_block : (tries : ℕ) × IsLedBlock b es sl t.plan.number t.term.xorb_block tries in_block.block
  of_block =
      let e : 0 + t.term.xorb_block ≡ t.term.xorb_block = omega arith in
      let r = led_block b es sl t.plan.number 0 t.term.xorb_block t.plan.tries.items t.plan.block.blocks
      in_block.block in_block.there led.plan_is.each in
      (r.0, subst (λ (j : ℕ). IsLedBlock b es sl t.plan.number j r.0 in_block.block) e r.1)

  data_of_it : IsLedData b sl t.plan.number t.term.xorb_block in_block.block
  data_of_it = of_block.1.data_is

  -- the block is kept in the history
  pub is_kept_there : is_kept es t.plan.number t.term.xorb_block ≡ true
  is_kept_there = sym of_block.1.kept ∙ ap (λ (o : Option XorbBlockData). is_some o) in_block.kept

  pub bare_there : slice_get (xorb_blocks (shape led.plan_is.plan) g.multirange) t.term.xorb_block ≡ Some
      (bare in_block.block)
  bare_there =
      ap (λ (l : List XorbBlock). slice_get l t.term.xorb_block) (sym led.plan_is.blocks)
      ∙ slice_get-map bare t.plan.block.blocks t.term.xorb_block
      ∙ ap (λ (o : Option XorbBlock). option_map bare o) in_block.there

  pub listed_there : Contains (terms_of (shape led.plan_is.plan) led.plan_is.query g.multirange) t.term
  listed_there = subst (λ (l : List FileTerm). Contains l t.term) led.plan_is.terms led.listed

  abbrev pub of_a_plan : TermOfPlan g sl.heard
  of_a_plan = record {
    place = record {
      plan = led.plan_is.plan;
      query = led.plan_is.query;
      accepted = led.plan_is.accepted;
      number = t.term.xorb_block;
      block = bare in_block.block;
      numbered = bare_there;
    };
    term = t.term;
    listed = listed_there;
    of_term = refl;
  }

  if_kept : (P : XorbBlockData → Type 0) → IfSome in_block.block.kept P → P d
  if_kept P h = subst (λ (o : Option XorbBlockData). IfSome o P) in_block.kept h

  pub is_tested : IsTestedData sl.heard sl.looks t.plan.number t.term.xorb_block (bare in_block.block) d
  is_tested = if_kept (IsTestedData sl.heard sl.looks t.plan.number t.term.xorb_block (bare in_block.block))
      data_of_it.tested

  pub is_piece : (piece : List ℕ) → failed_term_test t.term d ≡ None → piece ≡ term_bytes_in t.term d
      → IsTaskPiece g sl.heard sl.looks (task_of t) piece
  is_piece piece passes bytes = record {
    of_plan = of_a_plan;
    own = led.plan_is.said_as;
    is = refl;
    piece_of = record { data_of = d; tested = is_tested; passes = passes; bytes = bytes };
  }

  -- the plan's block of this number
  plan_block : (c : PlanBlock) × (slice_get (blocks_of (shape led.plan_is.plan) g.multirange) t.term.xorb_block ≡ Some
      c) × (bare in_block.block ≡ xorb_block (shape led.plan_is.plan) g.multirange (t.term.xorb_block, c))
  plan_block = block_is g b es sl stale t.plan led.plan_is t.term.xorb_block in_block.block in_block.there

  -- data of the cache passes
  looked_passes : IsLookedData sl.looks (bare in_block.block) d → failed_term_test t.term d ≡ None
  looked_passes l =
      let c = plan_block.0 in
      let p = shape led.plan_is.plan in
      let sound = subst (λ (z : XorbBlock). passes_cached z l.given ≡ true) plan_block.2 l.passes in
      let ranges : (bare in_block.block).chunk_ranges ≡ block_ranges c =
      ap (λ (z : XorbBlock). z.chunk_ranges) plan_block.2 in
      let passes = All-contains (PassesIn p g.multirange l.given) (terms_of p led.plan_is.query g.multirange) t.term
      (cached_terms_pass p led.plan_is.query g.multirange l.given led.plan_is.accepted.passes) listed_there c
      (known_size (block_ranges c) (references p g.multirange c)) plan_block.1 sound in
      ap (λ (z : XorbBlockData). failed_term_test t.term z)
      (l.made ∙ ap (λ (rs : List ChunkRange). block_data rs l.given) ranges) ∙ passes

  module _ (s : Store) (over : IsOver s b.clients) where
    honest_term : IsHonestTerm s (shape led.plan_is.plan) g.multirange t.term
    honest_term =
        let q = led.plan_is.query in
        let e : shape led.plan_is.plan ≡ plan_of s g.file q = led.plan_is.true_plan s over in
        let listed : Contains (terms_of (plan_of s g.file q) q g.multirange) t.term =
        subst (λ (p : Shape). Contains (terms_of p q g.multirange) t.term) e listed_there in
        subst (λ (p : Shape). IsHonestTerm s p g.multirange t.term) (sym e)
        (All-contains (IsHonestTerm s (plan_of s g.file q) g.multirange)
        (terms_of (plan_of s g.file q) q g.multirange) t.term
        (honest_terms s over.valid g.file q g.multirange) listed)

    block_same : honest_term.block ≡ plan_block.0
    block_same = let e : ◌≡◌ {A = Option PlanBlock} (Some honest_term.block) (Some plan_block.0) =
        sym honest_term.listed ∙ plan_block.1 in cc

    hash_same : in_block.block.xorb_hash ≡ honest_term.block.xorb
    hash_same = ap (λ (z : XorbBlock). z.xorb_hash) plan_block.2 ∙ ap (λ (c : PlanBlock). c.xorb) (sym block_same)

    ranges_same : in_block.block.chunk_ranges ≡ block_ranges honest_term.block
    ranges_same = ap (λ (z : XorbBlock). z.chunk_ranges) plan_block.2 ∙ ap block_ranges (sym block_same)

    true_same : true_data s in_block.block ≡ block_data (block_ranges honest_term.block)
        (block_of s honest_term.block.xorb (block_ranges honest_term.block))
    true_same =
        ap (λ (h : MerkleHash). block_data in_block.block.chunk_ranges (block_of s h in_block.block.chunk_ranges))
        hash_same
        ∙ ap (λ (rs : List ChunkRange). block_data rs (block_of s honest_term.block.xorb rs)) ranges_same

    true_piece : term_bytes_in t.term (true_data s in_block.block) ≡ task_piece s (task_of t)
    true_piece =
        let there : slice_get (map planned_of t.plan.block.blocks) t.term.xorb_block ≡ Some
        (planned_of in_block.block) = slice_get-map planned_of t.plan.block.blocks t.term.xorb_block
        ∙ ap (λ (o : Option XorbBlock). option_map planned_of o) in_block.there in
        let piece : task_piece s (task_of t) ≡ piece_in
        (block_of s in_block.block.xorb_hash in_block.block.chunk_ranges) (planned_term t.term) =
        ap (λ (o : Option PlannedBlock). unwrap_or (option_map
        (λ (c : PlannedBlock). piece_in (block_of s c.xorb c.ranges) (planned_term t.term)) o) []) there in
        let same : piece_in (block_of s in_block.block.xorb_hash in_block.block.chunk_ranges)
        (planned_term t.term) ≡ piece_in (block_of s honest_term.block.xorb (block_ranges honest_term.block))
        (planned_term t.term) =
        ap (λ (h : MerkleHash). piece_in (block_of s h in_block.block.chunk_ranges) (planned_term t.term)) hash_same
        ∙ ap (λ (rs : List ChunkRange). piece_in (block_of s honest_term.block.xorb rs) (planned_term t.term))
        ranges_same in
        ap (λ (z : XorbBlockData). term_bytes_in t.term z) true_same ∙ honest_term.piece ∙ sym (piece ∙ same)

    -- over one valid store it passes its test
    pub sound_passes : failed_term_test t.term d ≡ None
    sound_passes =
        ⊎_elim (λ (l : IsLookedData sl.looks (bare in_block.block) d). looked_passes l)
        (λ (e : d ≡ true_data s in_block.block). ap (λ (z : XorbBlockData). failed_term_test t.term z) (e ∙ true_same)
        ∙ honest_term.passes)
        (if_kept (λ (z : XorbBlockData). IsLookedData sl.looks (bare in_block.block) z ⊎
        (z ≡ true_data s in_block.block)) (data_of_it.sound s over))

    -- and over a cache that tells the store its bytes are the history's
    pub honest_bytes : CacheTells s b.cache → term_bytes_in t.term d ≡ task_piece s (task_of t)
    honest_bytes tells = ap (λ (z : XorbBlockData). term_bytes_in t.term z)
        (if_kept (λ (z : XorbBlockData). z ≡ true_data s in_block.block) (data_of_it.honest s over tells))
        ∙ true_piece

  -- a test that it fails it fails in what a connection said
  pub fails_said : (k : Corruption) → failed_term_test t.term d ≡ Some k
      → SomeOne (TermFailsIn g sl.heard of_a_plan t.plan.number k) sl.heard
  fails_said k h =
      ⊎_elim (λ (o : SomeOne (λ x. IsServedData x t.plan.number t.term.xorb_block (bare in_block.block) d) sl.heard).
      some_map (λ x. IsServedData x t.plan.number t.term.xorb_block (bare in_block.block) d)
      (TermFailsIn g sl.heard of_a_plan t.plan.number k) sl.heard
      (λ x z. record {
        given = z.given;
        answer = z.answer;
        passes = z.passes;
        fails = ap (λ (y : XorbBlockData). failed_term_test t.term y) (sym z.made) ∙ h;
      }) o)
      (λ (l : IsLookedData sl.looks (bare in_block.block) d). let e : ◌≡◌ {A = Option Corruption} None (Some k) = sym
      (looked_passes l) ∙ h in absurd (cc))
      is_tested

-- ---- the pieces of some terms

pub pieces_tested : (g : Setup) (b : RunTold) (es : List Event) (sl : Slack) (stale : List ℕ) (ts : List PlanTerm)
    (ps : List (List ℕ)) → All (IsLedTerm g b es sl stale) ts → AllZip IsPieceIn ts ps
    → AllZip (IsTaskPiece g sl.heard sl.looks) (map task_of ts) ps
pieces_tested g b es sl stale [] [] a z = tt
pieces_tested g b es sl stale [] (p ∷ ps) a z = absurd z
pieces_tested g b es sl stale (t ∷ ts) [] a z = absurd z
pieces_tested g b es sl stale (t ∷ ts) (p ∷ ps) a z = (
  is_piece g b es sl stale t (All-head (IsLedTerm g b es sl stale) t ts a) z.0.data_of z.0.kept p z.0.passes
      z.0.bytes,
  pieces_tested g b es sl stale ts ps (All-tail (IsLedTerm g b es sl stale) t ts a) z.1,
)

pub pieces_honest : (g : Setup) (b : RunTold) (es : List Event) (sl : Slack) (stale : List ℕ) (s : Store)
    (ts : List PlanTerm) (ps : List (List ℕ)) → IsOver s b.clients → CacheTells s b.cache
    → All (IsLedTerm g b es sl stale) ts → AllZip IsPieceIn ts ps → ps ≡ map (task_piece s) (map task_of ts)
pieces_honest g b es sl stale s [] [] o c a z = refl
pieces_honest g b es sl stale s [] (p ∷ ps) o c a z = absurd z
pieces_honest g b es sl stale s (t ∷ ts) [] o c a z = absurd z
pieces_honest g b es sl stale s (t ∷ ts) (p ∷ ps) o c a z =
    let one : p ≡ task_piece s (task_of t) = z.0.bytes
    ∙ honest_bytes g b es sl stale t (All-head (IsLedTerm g b es sl stale) t ts a) z.0.data_of z.0.kept s o c in
    ap (λ (x : List ℕ). x ∷ ps) one ∙ ap (λ (l : List (List ℕ)). task_piece s (task_of t) ∷ l)
    (pieces_honest g b es sl stale s ts ps o c (All-tail (IsLedTerm g b es sl stale) t ts a) z.1)

pub each_filter : (P : PlanTerm → Type 0) (f : PlanTerm → Bool) (ts : List PlanTerm) → All P ts → All P (filter f ts)
each_filter P f [] a = a
each_filter P f (t ∷ ts) a = by (each_filter P f ts (All-tail P t ts a)) (f t)
  where
    by : All P (filter f ts) → (v : Bool) → All P (cond v (t ∷ filter f ts) (filter f ts))
    by r true = All-cons P t (filter f ts) (All-head P t ts a) r
    by r false = r

-- where those with bytes have pieces their blocks are kept
pub pieces_kept : (g : Setup) (b : RunTold) (es : List Event) (sl : Slack) (stale : List ℕ) (ts : List PlanTerm)
    (ps : List (List ℕ)) → All (IsLedTerm g b es sl stale) ts → AllZip IsPieceIn (filter some_in ts) ps
    → AreKept es (map task_of ts)
pieces_kept g b es sl stale [] ps a z = tt
pieces_kept g b es sl stale (t ∷ ts) ps a z = by
    (λ qs y. pieces_kept g b es sl stale ts qs (All-tail (IsLedTerm g b es sl stale) t ts a) y) (some_in t) refl ps
    (subst (λ (v : Bool). AllZip IsPieceIn (cond v (t ∷ filter some_in ts) (filter some_in ts)) ps) refl z)
  where
    by : ((qs : List (List ℕ)) → AllZip IsPieceIn (filter some_in ts) qs → AreKept es (map task_of ts)) → (v : Bool)
        → some_in t ≡ v → (qs : List (List ℕ)) → AllZip IsPieceIn
        (cond v (t ∷ filter some_in ts) (filter some_in ts)) qs → AreKept es (map task_of (t ∷ ts))
    by r true e [] y = absurd y
    by r true e (q ∷ qs) y = (
      (λ h. is_kept_there g b es sl stale t
          (All-head (IsLedTerm g b es sl stale) t ts a) y.0.data_of y.0.kept),
      r qs y.1,
    )
    by r false e qs y = ((λ h. let n : false ≡ true = sym e ∙ h in absurd (cc)), r qs y)

-- ---- a term whose block keeps nothing

each_listed : {A : Type 0} (P : A → Type 0) (xs : List A) (x : A) (k : ℕ) → Each P xs → k < length xs
    → get_or xs k x ≡ x → P x
each_listed P [] x k a h e = absurd (omega (arith, h))
each_listed P (y ∷ xs) x zero a h e = subst P e a.0
each_listed P (y ∷ xs) x (suc k) a h e = each_listed P xs x k a.1 (omega (arith, h)) e

unkept_by : (xs : List XorbBlock) (n : ℕ) (o : Option XorbBlock) → slice_get xs n ≡ o → n < length xs
    → option_and_then (λ b. b.kept) o ≡ None → (x : XorbBlock) × (slice_get xs n ≡ Some x) × (x.kept ≡ None)
unkept_by xs n None e h k = absurd (none_within xs n h e)
unkept_by xs n (Some x) e h k = (x, e, k)

pub unkept_there : (g : Setup) (b : RunTold) (es : List Event) (sl : Slack) (stale : List ℕ) (t : PlanTerm)
    → IsLedTerm g b es sl stale t → kept_in t ≡ None → is_kept es t.plan.number t.term.xorb_block ≡ false
unkept_there g b es sl stale t led none =
    let n = t.term.xorb_block in
    let c = led.listed in
    let within : n < length t.plan.block.blocks = each_listed
    (λ (u : FileTerm). u.xorb_block < length t.plan.block.blocks) t.plan.block.terms t.term c.0
    (terms_within g b es sl stale t.plan led.plan_is) c.1 c.2 in
    let x = unkept_by t.plan.block.blocks n (slice_get t.plan.block.blocks n) refl within none in
    let r = led_block b es sl t.plan.number 0 n t.plan.tries.items t.plan.block.blocks x.0 x.1 led.plan_is.each in
    let e : 0 + n ≡ n = omega arith in
    sym (r.1.kept ∙ ap (λ (j : ℕ). is_kept es t.plan.number j) e) ∙ ap (λ (o : Option XorbBlockData). is_some o) x.2

pub term_at : (g : Setup) (b : RunTold) (es : List Event) (sl : Slack) (stale : List ℕ) (ts : List PlanTerm) (k : ℕ)
    (t : PlanTerm) → All (IsLedTerm g b es sl stale) ts → slice_get ts k ≡ Some t → IsLedTerm g b es sl stale t
term_at g b es sl stale [] k t a e = absurd (cc)
term_at g b es sl stale (u ∷ ts) zero t a e = let f : u ≡ t = cc in
    subst (IsLedTerm g b es sl stale) f (All-head (IsLedTerm g b es sl stale) u ts a)
term_at g b es sl stale (u ∷ ts) (suc k) t a e =
    term_at g b es sl stale ts k t (All-tail (IsLedTerm g b es sl stale) u ts a) e
