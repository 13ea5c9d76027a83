-- What a connection's answer is made into.
use Rattle.std.proofs.Common.{◌≡◌, ◌⊎◌, inl, inr, ℕ, ◌+◌, ◌-◌, ◌^◌, ◌<◌, ◌≤◌, Bool, true, false, cond, List, [], ◌∷◌, ◌++◌, length, map, take, ltb, refl, sym, ◌∙◌, ap, subst, arith, Some, None, Ok, Err, Result}
use Rattle.std.specs.Prelude.{IfOk, IfErr, Option, find, min, option_map, position}
use Rattle.std.specs.List.{enumerate_from, list_any}
use Rattle.std.proofs.lemmas.Bool.{or_parts, ltb-false, leb-false}
use Rattle.std.proofs.lemmas.List.{length-map}
use Rattle.xet_base.specs.declared.cas_types.FileRange.{FileRange}
use Rattle.xet_base.specs.Lists.{first_some}
use Rattle.xet_base.proofs.CallerLemmas.{position_no}
use Rattle.xet_outside.specs.declared.client.ClientError.{ClientError}
use Rattle.xet_outside.specs.declared.client.ClientError.TheVariants as client_error
use Rattle.xet_outside.specs.declared.plan.Plan.{Plan}
use Rattle.xet_outside.specs.declared.plan.PlanAnswer.{PlanAnswer}
use Rattle.xet_outside.specs.declared.plan.PlanAnswer.TheVariants.{Found, PastEnd, NoFile}
use Rattle.xet_outside.specs.declared.plan.PlanTerm.{PlanTerm}
use Rattle.xet_outside.specs.Plan.{Shape, shape}
use Rattle.xet_outside.specs.Told.{ClientTold, Grew, PlanCall}
use Rattle.xet_error.specs.declared.error.Corruption.{Corruption}
use Rattle.xet_error.specs.declared.error.Corruption.TheVariants.{Offset, Position}
use Rattle.xet_error.specs.declared.error.FileReconstructionError.{FileReconstructionError}
use Rattle.xet_error.specs.declared.error.FileReconstructionError.TheVariants as error
use Rattle.xet_error.specs.Errors.{of_client_error}
use Rattle.xet_blocks.specs.declared.reconstruction_terms.file_term.TermBlock.{TermBlock}
use Rattle.xet_blocks.specs.declared.reconstruction_terms.plan_blocks.PlanBlocks.{PlanBlocks}
use Rattle.xet_blocks.specs.declared.reconstruction_terms.plan_blocks.TermStart.{TermStart}
use Rattle.xet_blocks.specs.declared.reconstruction_terms.block_list.OfferedBlock.{OfferedBlock}
use Rattle.xet_offers.specs.declared.reconstruction_terms.retrieval_urls.RetrievalUrl.{RetrievalUrl}
use Rattle.xet_offers.specs.declared.reconstruction_terms.retrieval_urls.TermBlockRetrievalURLs.{TermBlockRetrievalURLs}
use Rattle.xet_offers.specs.Blocks.{PlanBlock, transfer_sum}
use Rattle.xet_blocks.specs.steps.Planning.{Fit, IsMadeOf, IsPlanned, PlacedTerm, numbered_block, plan_block, retrieval_url, term_start, terms_at, with_starts}
use Rattle.xet_blocks.specs.PlanQuery.{PlanQuery}
use Rattle.xet_offers.specs.Refusals.{IsRefusal}
use Rattle.xet_blocks.specs.TermBlockCalls.{Answer, AskedAtMostOnce, FromAnswer, FromSaid, FromTerms, FromTested, TermBlockCall, TermBlockCause}
use Rattle.xet_offers.specs.PlanChecks.{covered, ends, entry_tests, failed_test, no_range_test, no_xorb_test, offset_test, place_tests, position_test, ranges_test, sizes, sizes_from, trim_test}
use Rattle.xet_blocks.specs.TermBlocks.{IsTermBlock, block_url}
use Rattle.xet_blocks.specs.Terms.{file_term, terms_from}
use Rattle.xet_offers.proofs.CallerLemmas.{sizes_from-zero, too_far}
use Rattle.xet_blocks.proofs.BlockReferences.{numbered_blocks}
use Rattle.xet_blocks.proofs.PlacedTerms.{placed_term, with_starts-map}

-- ---- an accepted plan fits

first_some_none : {A : Type 0} (o : Option A) (os : List (Option A)) → first_some (o ∷ os) ≡ None → (o ≡ None) × (first_some os ≡ None)
first_some_none None os h = (refl, h)
first_some_none (Some x) os h = cc

-- the tests that a plan passes whose terms have places in the file
pub record Passes (p : Shape) (q : FileRange) : Type 0 where
  pub offset : offset_test p ≡ None
  pub positions : position_test p q ≡ None

pub places_pass : (p : Shape) (q : FileRange) → first_some (place_tests p q) ≡ None → Passes p q
places_pass p q h =
    let after_offset = first_some_none (offset_test p) (position_test p q ∷ trim_test p q ∷ []) h in
    let after_positions = first_some_none (position_test p q) (trim_test p q ∷ []) after_offset.1 in
    record { offset = after_offset.0; positions = after_positions.0 }

-- the tests of some kind, and those that follow
pub tests_pass : (os ps : List (Option Corruption)) → first_some os ≡ None → first_some (os ++ ps) ≡ first_some ps
tests_pass [] ps h = refl
tests_pass (None ∷ os) ps h = tests_pass os ps h
tests_pass (Some k ∷ os) ps h = cc

abbrev FirstFits : ℕ → List PlanTerm → Type 0
FirstFits o [] = Unit {0}
FirstFits o (t ∷ ts) = o ≤ t.unpacked_length

fits_from : (place o : ℕ) (ts : List PlanTerm) → FirstFits o ts → list_any too_far (ends place (sizes_from o ts)) ≡ false → Fit place o ts
fits_from place o [] f h = tt
fits_from place o (t ∷ ts) f h =
    let end = place + (t.unpacked_length - o) in
    let parts = or_parts (too_far end) (list_any too_far (ends end (map (λ t. t.unpacked_length) ts))) h in
    let rest : list_any too_far (ends end (sizes_from 0 ts)) ≡ false = ap (λ l. list_any too_far (ends end l)) (sizes_from-zero ts) ∙ parts.1 in
    (f, leb-false (2 ^ 64) end parts.0, fits_from end 0 ts (any_fits ts) rest)
  where
    any_fits : (ts : List PlanTerm) → FirstFits 0 ts
    any_fits [] = tt
    any_fits (t ∷ ts) = omega arith

pub places_fit : (p : Plan) (q : FileRange) → Passes (shape p) q → Fit q.start p.offset_into_first_range p.terms
places_fit p q passes = fits_from q.start p.offset_into_first_range p.terms (first p.terms passes.offset)
    (position_no too_far (ends q.start (sizes (shape p))) (no_position (position too_far (ends q.start (sizes (shape p)))) passes.positions))
  where
    o : ℕ
    o = p.offset_into_first_range

    no_position : (f : Option ℕ) → option_map (λ i. Position i) f ≡ None → f ≡ None
    no_position None h = refl
    no_position (Some i) h = cc

    first : (ts : List PlanTerm) → option_map (λ t. Offset o t.unpacked_length) (find (λ t. ltb t.unpacked_length o) (take 1 ts)) ≡ None → FirstFits o ts
    first [] h = tt
    first (t ∷ ts) h = ltb-false t.unpacked_length o (go (ltb t.unpacked_length o) h)
      where
        go : (b : Bool) → option_map (λ t. Offset o t.unpacked_length) (cond b (Some t) None) ≡ None → b ≡ false
        go false h = refl
        go true h = cc

-- a plan whose terms have places fits
pub planned_fits : (p : Plan) (q : FileRange) → first_some (place_tests (shape p) q) ≡ None → Fit q.start p.offset_into_first_range p.terms
planned_fits p q passed = places_fit p q (places_pass (shape p) q passed)

-- each term of a plan has a start
pub planned_starts : (p : Plan) (multi : Bool) (s : PlanBlocks) → IsPlanned p multi s → length s.starts ≡ length p.terms
planned_starts p multi s planned = ap (λ (l : List TermStart). length l) planned.starts ∙ length-map p.terms (term_start (shape p) multi)

-- ---- the tests of a plan's entries, one after another

second_refuses : (a b c : Option Corruption) (e : FileReconstructionError) → a ≡ None → IsRefusal b e → IsRefusal (first_some (a ∷ b ∷ c ∷ [])) e
second_refuses a b c e h r = subst (λ (a : Option Corruption). IsRefusal (first_some (a ∷ b ∷ c ∷ [])) e) (sym h) (go b r)
  where
    go : (b : Option Corruption) → IsRefusal b e → IsRefusal (first_some (b ∷ c ∷ [])) e
    go None (inl m) = inl m
    go None (inr m) = absurd m
    go (Some k) r = r

third_refuses : (a b c : Option Corruption) (e : FileReconstructionError) → a ≡ None → b ≡ None → IsRefusal c e → IsRefusal (first_some (a ∷ b ∷ c ∷ [])) e
third_refuses a b c e h k r =
    subst (λ (a : Option Corruption). IsRefusal (first_some (a ∷ b ∷ c ∷ [])) e) (sym h)
    (subst (λ (b : Option Corruption). IsRefusal (first_some (b ∷ c ∷ [])) e) (sym k) (go c r))
  where
    go : (c : Option Corruption) → IsRefusal c e → IsRefusal (first_some (c ∷ [])) e
    go None r = r
    go (Some k) r = r

-- a term without its xorb refuses a plan whose entries pass
pub xorbs_refuse : (p p' : Plan) (multi : Bool) (e : FileReconstructionError) → p' ≡ p → ranges_test (shape p) multi ≡ None → IsRefusal (no_xorb_test (shape p')) e → IsRefusal (first_some (entry_tests (shape p) multi)) e
xorbs_refuse p p' multi e same passed r =
    second_refuses (ranges_test (shape p) multi) (no_xorb_test (shape p)) (no_range_test (shape p) multi) e passed
    (subst (λ (p : Plan). IsRefusal (no_xorb_test (shape p)) e) same r)

module _ (p p' : Plan) (multi multi' : Bool) (same : p' ≡ p) (on : multi' ≡ multi) (passed : ranges_test (shape p) multi ≡ None) (xorbs : no_xorb_test (shape p') ≡ None) where
  has_xorbs : no_xorb_test (shape p) ≡ None
  has_xorbs = subst (λ (p : Plan). no_xorb_test (shape p) ≡ None) same xorbs

  -- the listed blocks are those of a plan that passes, or a term refuses it that lies in no range
  pub blocks_planned : (r : Result PlanBlocks FileReconstructionError) → IfOk r (λ made. (no_range_test (shape p') multi' ≡ None) × IsPlanned p' multi' made)
      → IfOk r (λ made. (first_some (entry_tests (shape p) multi) ≡ None) × IsPlanned p multi made)
  blocks_planned (Err e) h = tt
  blocks_planned (Ok made) h =
      let ranges : no_range_test (shape p) multi ≡ None = (λ i. no_range_test (shape (sym same i)) (sym on i)) ∙ h.0 in (
        (λ i. first_some (passed i ∷ has_xorbs i ∷ ranges i ∷ [])),
        subst (λ (m : Bool). IsPlanned p m made) on (subst (λ (p : Plan). IsPlanned p multi' made) same h.1),
      )

  pub blocks_refuse : (r : Result PlanBlocks FileReconstructionError) → IfErr r (IsRefusal (no_range_test (shape p') multi')) → IfErr r (IsRefusal (first_some (entry_tests (shape p) multi)))
  blocks_refuse (Ok made) h = tt
  blocks_refuse (Err e) h =
      third_refuses (ranges_test (shape p) multi) (no_xorb_test (shape p)) (no_range_test (shape p) multi) e passed has_xorbs
      (subst (λ (m : Bool). IsRefusal (no_range_test (shape p) m) e) on (subst (λ (p : Plan). IsRefusal (no_range_test (shape p) multi') e) same h))

-- ---- the block of terms

terms_at-placed : (p : Shape) (q : FileRange) (multi : Bool) (place o : ℕ) (ts : List PlanTerm) → terms_at q.end place o (map (placed_term p multi) ts) ≡ terms_from p q multi place o ts
terms_at-placed p q multi place o [] = refl
terms_at-placed p q multi place o (t ∷ ts) =
    ap (λ l. file_term p q multi place o t ∷ l) (terms_at-placed p q multi (place + (t.unpacked_length - o)) 0 ts)

abbrev url_of_block : Plan → Bool → PlanBlock → RetrievalUrl
url_of_block p multi b = record { url = block_url p multi b; ranges = map (λ r. r.bytes) b.ranges }

urls_are : (p : Plan) (multi : Bool) (bs : List OfferedBlock) → map (λ b. b.url.now) bs ≡ map (λ b. block_url p multi (plan_block b)) bs → map retrieval_url bs ≡ map (url_of_block p multi) (map plan_block bs)
urls_are p multi [] h = refl
urls_are p multi (b ∷ bs) h =
    let here : b.url.now ≡ block_url p multi (plan_block b) = cc in
    let rest : map (λ b. b.url.now) bs ≡ map (λ b. block_url p multi (plan_block b)) bs = cc in
    let next = urls_are p multi bs rest in
    λ i. record { url = here i; ranges = map (λ r. r.bytes) b.ranges.now } ∷ next i

pub made_is : (p : Plan) (query : PlanQuery) (s : PlanBlocks) (u : TermBlockRetrievalURLs) (b : TermBlock) → IsPlanned p query.multirange s → IsMadeOf p query.range s u b
    → u ≡ record { file_hash = query.file; byte_range = covered (shape p) query.range; acquisition_id = query.id; retrieval_urls = map retrieval_url s.blocks } → IsTermBlock p query b
made_is p query s u b planned made with_urls =
    let q = query.range in
    let multi = query.multirange in
    let placed : with_starts p.terms s.starts ≡ map (placed_term (shape p) multi) p.terms =
    ap (λ (l : List TermStart). with_starts p.terms l) planned.starts ∙ with_starts-map (term_start (shape p) multi) p.terms in
    let urls : b.urls ≡ record { file_hash = query.file; byte_range = covered (shape p) q; acquisition_id = query.id; retrieval_urls = map retrieval_url s.blocks } = made.urls ∙ with_urls in
    record {
      range = made.range ∙ ap (λ (u : TermBlockRetrievalURLs). u.byte_range) with_urls;
      transfer = made.transfer ∙ ap (λ l. min (transfer_sum l) (2 ^ 64 - 1)) planned.blocks;
      terms = made.terms ∙ ap (λ (l : List PlacedTerm). terms_at q.end q.start p.offset_into_first_range l) placed ∙ terms_at-placed (shape p) q multi q.start p.offset_into_first_range p.terms;
      blocks = made.blocks ∙ ap (λ (l : List PlanBlock). map (numbered_block (with_starts p.terms s.starts)) (enumerate_from 0 l)) planned.blocks
          ∙ numbered_blocks (shape p) multi (with_starts p.terms s.starts) placed;
      urls = ap (λ (u : TermBlockRetrievalURLs). u.retrieval_urls) urls ∙ urls_are p multi s.blocks planned.urls ∙ ap (map (url_of_block p multi)) planned.blocks;
      of_file = ap (λ (u : TermBlockRetrievalURLs). u.file_hash) urls;
      of_query = ap (λ (u : TermBlockRetrievalURLs). u.byte_range) urls ∙ sym (made.range ∙ ap (λ (u : TermBlockRetrievalURLs). u.byte_range) with_urls);
      with_id = ap (λ (u : TermBlockRetrievalURLs). u.acquisition_id) urls;
    }

-- ---- the answer of a plan

pub from_made : (p : Plan) (query : PlanQuery) (b : TermBlock) (ts : List PlanTerm) → 0 < length ts → first_some (entry_tests (shape p) query.multirange) ≡ None → first_some (place_tests (shape p) query.range) ≡ None
    → IsTermBlock p query b → FromTerms p query ts (Ok (Some b))
from_made p query b [] h e f is = absurd (omega arith)
from_made p query b (t ∷ ts) h e f is =
    let accepted : failed_test (shape p) query.range query.multirange ≡ None = tests_pass (entry_tests (shape p) query.multirange) (place_tests (shape p) query.range) e ∙ f in
    subst (λ (o : Option Corruption). FromTested p query o (Ok (Some b))) (sym accepted) (b, refl, is)

-- ---- the call

-- the answer is that of the connection's answer, or memory was refused
pub record IsAnswer (query : PlanQuery) (a : PlanAnswer) (answer : Answer) : Type 0 where
  pub made : IfOk answer (λ o. FromAnswer query a (Ok o))
  pub refused : IfErr answer (λ e. (e ≡ error.OutOfMemory) ⊎ FromAnswer query a (Err e))

abbrev Refused : FileReconstructionError → Type 0
Refused e = (e ≡ error.FileNotFound) ⊎ ((k : Corruption) × (e ≡ error.CorruptedReconstruction k))

refused_by : (query : PlanQuery) (a : PlanAnswer) (e : FileReconstructionError) → FromAnswer query a (Err e) → Refused e
refused_by query PastEnd e h = cc
refused_by query NoFile e h = let same : e ≡ error.FileNotFound = cc in inl same
refused_by query (Found p) e h = terms p.terms h
  where
    tested : (o : Option Corruption) → FromTested p query o (Err e) → Refused e
    tested None (b, h, is) = cc
    tested (Some k) h = let same : e ≡ error.CorruptedReconstruction k = cc in inr (k, same)

    terms : (ts : List PlanTerm) → FromTerms p query ts (Err e) → Refused e
    terms [] h = cc
    terms (t ∷ ts) h = tested (failed_test (shape p) query.range query.multirange) h

module _ (before now : ClientTold) (query : PlanQuery) where
  cause_of : (e : FileReconstructionError) → Refused e → FromSaid before now query (Err e) → TermBlockCause before now query e
  cause_of e (inl h) s = subst (λ (e : FileReconstructionError). TermBlockCause before now query e) (sym h) (subst (λ (e : FileReconstructionError). FromSaid before now query (Err e)) h s)
  cause_of e (inr (k, h)) s = subst (λ (e : FileReconstructionError). TermBlockCause before now query e) (sym h) (subst (λ (e : FileReconstructionError). FromSaid before now query (Err e)) h s)

  -- and one that gave this answer
  pub call_answered : (a : PlanAnswer) (answer : Answer) → PlanCall before now query.file query.range (Ok a) → IsAnswer query a answer → TermBlockCall before now query answer
  call_answered a (Ok o) c h = record {
    made = record { plan = a; asked = c.asked; said = c.said; unfailed = c.unfailed; honest = λ s e. c.honest s e; from = h.made };
    cause = tt;
    store = c.store;
    asks = inl (a, record { asked = c.asked; said = c.said; unfailed = c.unfailed; honest = λ s e. c.honest s e });
    unsaid = λ none. cc;
    served = c.served;
    faults = c.faults;
    expiries = c.expiries;
    link = c.link;
  }
  call_answered a (Err e) c h = record {
    made = tt;
    cause = go h.refused;
    store = c.store;
    asks = inl (a, record { asked = c.asked; said = c.said; unfailed = c.unfailed; honest = λ s e. c.honest s e });
    unsaid = λ none. let same : e ≡ error.ClientError = cc in absurd (not_client h.refused same);
    served = c.served;
    faults = c.faults;
    expiries = c.expiries;
    link = c.link;
  }
    where
      refused_client : Refused e → e ≡ error.ClientError → ⊥
      refused_client (inl h) none = cc
      refused_client (inr (k, h)) none = cc

      not_client : ((e ≡ error.OutOfMemory) ⊎ FromAnswer query a (Err e)) → e ≡ error.ClientError → ⊥
      not_client (inl h) none = cc
      not_client (inr h) none = refused_client (refused_by query a e h) none

      go : ((e ≡ error.OutOfMemory) ⊎ FromAnswer query a (Err e)) → TermBlockCause before now query e
      go (inl h) = subst (λ (e : FileReconstructionError). TermBlockCause before now query e) (sym h) tt
      go (inr h) = cause_of e (refused_by query a e h) (record { plan = a; asked = c.asked; said = c.said; unfailed = c.unfailed; honest = λ s e. c.honest s e; from = h })

  asked_once : (now.asked ≡ before.asked) ⊎ Grew before.asked now.asked (query.file, query.range) → now.said ≡ before.said → AskedAtMostOnce before now (query.file, query.range)
  asked_once (inl none) same = inr (inr (none, same))
  asked_once (inr grew) same = inr (inl (grew, same))

  cause_of_fault : (f : ClientError) → PlanCall before now query.file query.range (Err f) → TermBlockCause before now query (of_client_error f)
  cause_of_fault client_error.OutOfMemory c = tt
  cause_of_fault client_error.Failed c = c.failed refl

  -- and one that failed
  pub call_failed : (f : ClientError) → PlanCall before now query.file query.range (Err f) → TermBlockCall before now query (Err (of_client_error f))
  call_failed f c = record {
    made = tt;
    cause = cause_of_fault f c;
    store = c.store;
    asks = asked_once c.maybe_asked c.unsaid;
    unsaid = λ _. c.unsaid;
    served = c.served;
    faults = c.faults;
    expiries = c.expiries;
    link = c.link;
  }
