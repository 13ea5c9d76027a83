-- Answers of a valid store fail no test of a run, and their pieces join to the windows of their queries.
use Rattle.std.proofs.Common.{◌≡◌, ℕ, List, [], ◌∷◌, Option, Some, None, refl, ap}
use Rattle.std.proofs.Common.{sym, ◌∙◌, subst, inl, inr}
use Rattle.std.specs.Prelude.{All, IfSome, map, option_map, slice_get, unwrap_or}
use Rattle.std.specs.List.{AllZip, concat, flat_map}
use Rattle.xet_base.specs.declared.cas_types.ChunkRange.{ChunkRange}
use Rattle.xet_base.specs.declared.cas_types.FileRange.{FileRange}
use Rattle.xet_base.specs.Store.{IsValid, Store, window}
use Rattle.xet_outside.specs.declared.block.BlockBytes.{BlockBytes}
use Rattle.xet_outside.specs.declared.plan.Plan.{Plan}
use Rattle.xet_outside.specs.declared.plan.PlanAnswer.TheVariants.{Found}
use Rattle.xet_outside.specs.Plan.{Shape, block_of, plan_of, shape}
use Rattle.xet_outside.specs.Told.{Holds}
use Rattle.xet_error.specs.declared.error.Corruption.{Corruption}
use Rattle.xet_blocks.specs.declared.reconstruction_terms.file_term.FileTerm.{FileTerm}
use Rattle.xet_offers.specs.declared.reconstruction_terms.xorb_block.XorbBlock.{XorbBlock}
use Rattle.xet_offers.specs.declared.reconstruction_terms.xorb_block.XorbBlockData.{XorbBlockData}
use Rattle.xet_offers.specs.BlockCalls.{failed_check}
use Rattle.xet_offers.specs.BlockChecks.{block_data}
use Rattle.xet_offers.specs.Blocks.{PlanBlock, block_ranges, blocks_of}
use Rattle.xet_blocks.specs.Extracts.{failed_term_test, term_bytes_in}
use Rattle.xet_offers.specs.PlanChecks.{covered, failed_test}
use Rattle.xet_blocks.specs.TermBlocks.{xorb_block, xorb_blocks}
use Rattle.xet_blocks.specs.Terms.{piece_of, term_piece, terms_of}
use Rattle.xet_blocks.proofs.CallerLemmas.{IsHonestTerm, honest_accepted, honest_terms, pieces_join}
use Rattle.xet_fetch.specs.Fetches.{IsHonestFor}
use Rattle.xet_fetch.specs.Refreshes.{extent_of}
use Rattle.xet_ties.specs.Causes.{BlockFails, BlockFailsIn, PlanFails, RefreshFails, SomeFailed}
use Rattle.xet_ties.specs.Causes.{TermFails, TermFailsIn}
use Rattle.xet_ties.specs.InCall.{Exchange, Look, SomeOne}
use Rattle.xet_ties.specs.Saids.{BlockOfPlan, IsBlockAnswer, IsLookedData, IsPiece, IsPlanAccepted, IsQueryAnswer}
use Rattle.xet_ties.specs.Saids.{IsPlanSaid, IsServedData, IsTestedData, TermOfPlan}
use Rattle.xet_ties.proofs.CallerLemmas.{own_answer}
use Rattle.xet_ties.specs.Setup.{IsHonestEntry, Setup}
use Rattle.xet_reconstruct.specs.Laws.{AreHonest, AreHonestLooks, HonestAnswersPass, HonestPiecesJoin, PieceOf}
use Rattle.xet_reconstruct.proofs.HonestPlans.{block_at, honest_block, refresh_passes}

module _ (s : Store) (v : IsValid s) (g : Setup) (xs : List Exchange) (h : AreHonest s g xs) where
  -- ---- plans

  plan_is : (p : Plan) (q : FileRange) → IsQueryAnswer g.file xs q (Found p) → shape p ≡ plan_of s g.file q
  plan_is p q a = (h.plans q (Found p) a).is.2

  -- a plan that was said is an answer to its query
  said_to : (p : Plan) (q : FileRange) → IsPlanSaid g xs p q → IsQueryAnswer g.file xs q (Found p)
  said_to p q a = own_answer g.file xs a.number q (Found p) a.answer

  plan_passes : (k : Corruption) → PlanFails g xs k → ⊥
  plan_passes k f =
      let none : failed_test (shape f.plan) f.query g.multirange ≡ None =
      ap (λ (p : Shape). failed_test p f.query g.multirange) (plan_is f.plan f.query (said_to f.plan f.query f.said))
      ∙ honest_accepted s v g.file f.query g.multirange in
      let some = f.fails in
      cc

  refresh_fails : (k : Corruption) → RefreshFails g xs k → ⊥
  refresh_fails k f =
      let said = f.accepted.said in
      let plan = h.plans f.query (Found f.plan) (said_to f.plan f.query said) in
      let none = refresh_passes s v g f.plan f.query plan.is said.some
      f.answer (h.plans (covered (shape f.plan) f.query) f.answer f.answered).is in
      let some = f.fails in
      cc

  -- ---- blocks

  -- bytes that fail a test, with the answer that they are of
  failing : (b : BlockOfPlan g xs) (n : ℕ) (k : Corruption) (ys : List Exchange)
      → SomeOne (BlockFailsIn g xs b n k) ys
      → (given : BlockBytes) × SomeOne (λ y. IsBlockAnswer y n b.number b.block given) ys
      × (failed_check b.block given ≡ Some k)
  failing b n k [] f = absurd f
  failing b n k (y ∷ ys) (inl f) = (f.given, inl f.answer, f.fails)
  failing b n k (y ∷ ys) (inr f) = let z = failing b n k ys f in (z.0, inr z.1, z.2)

  block_of_plan : (b : BlockOfPlan g xs) → IsHonestFor s (record {
    file = g.file;
    range = covered (shape b.plan) b.query;
    multirange = g.multirange;
    blocks = map extent_of (xorb_blocks (shape b.plan) g.multirange);
  }) b.block
  block_of_plan b =
      let said = b.accepted.said in
      let plan = h.plans b.query (Found b.plan) (said_to b.plan b.query said) in
      honest_block s v g b.plan b.query plan.is said.some b.number b.block
      b.numbered

  block_fails : (k : Corruption) → BlockFails g xs k → ⊥
  block_fails k f =
      let b = f.place in
      let here = block_of_plan b in
      let z = failing b f.number k xs f.bytes in
      let is = h.blocks f.number b.number b.block z.0 z.1 here.holds in
      let none : failed_check b.block z.0 ≡ None = ap (failed_check b.block) is ∙ here.passes in
      let some = z.2 in
      cc

  -- ---- terms

  -- the store's data of a block
  abbrev data_in : XorbBlock → XorbBlockData
  data_in b = block_data b.chunk_ranges (block_of s b.xorb_hash b.chunk_ranges)

  -- a term is read in the store's data of its block
  record IsRead (t : TermOfPlan g xs) : Type 0 where
    holds : Holds s t.place.block.xorb_hash t.place.block.chunk_ranges
    passes : failed_term_test t.term (data_in t.place.block) ≡ None
    piece : term_bytes_in t.term (data_in t.place.block) ≡ term_piece s (shape t.place.plan) g.multirange t.term

  honest_term : (t : TermOfPlan g xs) → IsHonestTerm s (shape t.place.plan) g.multirange t.term
  honest_term t =
      let p = shape t.place.plan in
      let q = t.place.query in
      let all : All (IsHonestTerm s p g.multirange) (terms_of p q g.multirange) =
      subst (λ (r : Shape). All (IsHonestTerm s r g.multirange) (terms_of r q g.multirange))
      (sym (plan_is t.place.plan q (said_to t.place.plan q t.place.accepted.said))) (honest_terms s v g.file q g.multirange) in
      subst (IsHonestTerm s p g.multirange) t.listed.2 (all t.listed.0 t.term t.listed.1)

  block_is : (t : TermOfPlan g xs) (b : PlanBlock)
      → slice_get (blocks_of (shape t.place.plan) g.multirange) t.term.xorb_block ≡ Some b
      → xorb_block (shape t.place.plan) g.multirange (t.term.xorb_block, b) ≡ t.place.block
  block_is t b at =
      let p = shape t.place.plan in
      let here = block_at p g.multirange t.term.xorb_block b at in
      let there = ap (λ (i : ℕ). slice_get (xorb_blocks p g.multirange) i) t.of_term ∙ t.place.numbered in
      cc

  is_read : (t : TermOfPlan g xs) → IsRead t
  is_read t =
      let u = honest_term t in
      let p = shape t.place.plan in
      let is = block_is t u.block u.listed in
      record {
        holds = subst (λ (x : XorbBlock). Holds s x.xorb_hash x.chunk_ranges) is u.holds;
        passes = subst (λ (x : XorbBlock). failed_term_test t.term (data_in x) ≡ None) is u.passes;
        piece = subst (λ (x : XorbBlock). term_bytes_in t.term (data_in x) ≡ term_piece s p g.multirange t.term) is
            (u.piece ∙ ap (λ (o : Option PlanBlock). unwrap_or
            (option_map (λ b. piece_of (block_of s b.xorb (block_ranges b)) t.term) o) []) (sym u.listed));
      }

  -- bytes in which a term fails, with the answer that they are of
  failing_term : (t : TermOfPlan g xs) (n : ℕ) (k : Corruption) (ys : List Exchange)
      → SomeOne (TermFailsIn g xs t n k) ys
      → (given : BlockBytes) × SomeOne (λ y. IsBlockAnswer y n t.place.number t.place.block given) ys
      × (failed_term_test t.term (block_data t.place.block.chunk_ranges given) ≡ Some k)
  failing_term t n k [] f = absurd f
  failing_term t n k (y ∷ ys) (inl f) = (f.given, inl f.answer, f.fails)
  failing_term t n k (y ∷ ys) (inr f) = let z = failing_term t n k ys f in (z.0, inr z.1, z.2)

  term_fails : (k : Corruption) → TermFails g xs k → ⊥
  term_fails k f =
      let t = f.place in
      let b = t.place.block in
      let read = is_read t in
      let z = failing_term t f.number k xs f.bytes in
      let is = h.blocks f.number t.place.number b z.0 z.1 read.holds in
      let none : failed_term_test t.term (block_data b.chunk_ranges z.0) ≡ None =
      ap (λ (c : BlockBytes). failed_term_test t.term (block_data b.chunk_ranges c)) is ∙ read.passes in
      let some = z.2 in
      cc

  pub answers_pass : (k : Corruption) → SomeFailed g xs k → ⊥
  answers_pass k (inl f) = plan_passes k f
  answers_pass k (inr (inl f)) = refresh_fails k f
  answers_pass k (inr (inr (inl f))) = block_fails k f
  answers_pass k (inr (inr (inr f))) = term_fails k f

  -- ---- pieces

  -- data of a block, with the answer that it is made of
  served_given : (n i : ℕ) (b : XorbBlock) (d : XorbBlockData) (ys : List Exchange)
      → SomeOne (λ y. IsServedData y n i b d) ys
      → (given : BlockBytes) × SomeOne (λ y. IsBlockAnswer y n i b given) ys × (d ≡ block_data b.chunk_ranges given)
  served_given n i b d [] f = absurd f
  served_given n i b d (y ∷ ys) (inl f) = (f.given, inl f.answer, f.made)
  served_given n i b d (y ∷ ys) (inr f) = let z = served_given n i b d ys f in (z.0, inr z.1, z.2)

  module _ (looks : List Look) (honest : AreHonestLooks s looks) where
    looked_is : (b : XorbBlock) (d : XorbBlockData) → Holds s b.xorb_hash b.chunk_ranges → IsLookedData looks b d
        → d ≡ data_in b
    looked_is b d holds l =
        let entry : IsHonestEntry s (b.xorb_hash, l.range, l.given) =
        subst (λ (x : Look). IfSome x.2 (λ e. IsHonestEntry s (x.0, x.1, e))) l.looked.2
        (honest l.looked.0 (b.xorb_hash, l.range, Some l.given) l.looked.1) in
        let is : l.given ≡ block_of s b.xorb_hash (l.range ∷ []) =
        entry (subst (Holds s b.xorb_hash) l.one holds) in
        l.made
        ∙ ap (block_data b.chunk_ranges) is
        ∙ ap (λ (rs : List ChunkRange). block_data b.chunk_ranges (block_of s b.xorb_hash rs)) (sym l.one)

    data_is : (n i : ℕ) (b : XorbBlock) (d : XorbBlockData) → Holds s b.xorb_hash b.chunk_ranges
        → IsTestedData xs looks n i b d → d ≡ data_in b
    data_is n i b d holds (inl f) =
        let z = served_given n i b d xs f in
        z.2 ∙ ap (block_data b.chunk_ranges) (h.blocks n i b z.0 z.1 holds)
    data_is n i b d holds (inr l) = looked_is b d holds l

    piece_is : (t : TermOfPlan g xs) (n : ℕ) (piece : List ℕ) → IsPiece g xs looks n t piece
        → piece ≡ term_piece s (shape t.place.plan) g.multirange t.term
    piece_is t n piece p =
        let read = is_read t in
        p.bytes
        ∙ ap (term_bytes_in t.term) (data_is n t.place.number t.place.block p.data_of read.holds p.tested)
        ∙ read.piece

    one_piece : (plan : Plan) (q : FileRange) (t : FileTerm) (piece : List ℕ) → PieceOf g xs looks plan q t piece
        → piece ≡ term_piece s (shape plan) g.multirange t
    one_piece plan q t piece o =
        piece_is o.of_plan o.number piece o.piece_of
        ∙ ap (λ (p : Plan). term_piece s (shape p) g.multirange o.of_plan.term) o.plan_is
        ∙ ap (term_piece s (shape plan) g.multirange) o.term_is

    all_pieces : (plan : Plan) (q : FileRange) (ts : List FileTerm) (ps : List (List ℕ))
        → AllZip (PieceOf g xs looks plan q) ts ps
        → concat ps ≡ flat_map (term_piece s (shape plan) g.multirange) ts
    all_pieces plan q [] [] z = refl
    all_pieces plan q [] (p ∷ ps) z = absurd z
    all_pieces plan q (t ∷ ts) [] z = absurd z
    all_pieces plan q (t ∷ ts) (p ∷ ps) z =
        let one = one_piece plan q t p z.0 in
        let rest = all_pieces plan q ts ps z.1 in
        cc

    pub window_is : (plan : Plan) (q : FileRange) → IsPlanAccepted g xs plan q → (ps : List (List ℕ))
        → AllZip (PieceOf g xs looks plan q) (terms_of (shape plan) q g.multirange) ps
        → concat ps ≡ window s g.file q
    window_is plan q accepted ps z =
        all_pieces plan q (terms_of (shape plan) q g.multirange) ps z
        ∙ ap (λ (r : Shape). flat_map (term_piece s r g.multirange) (terms_of r q g.multirange))
        (plan_is plan q (said_to plan q accepted.said))
        ∙ pieces_join s v g.file q g.multirange

pub pass : HonestAnswersPass
pass s v g xs h = answers_pass s v g xs h

pub join : HonestPiecesJoin
join s v g xs looks h honest = window_is s v g xs h looks honest
