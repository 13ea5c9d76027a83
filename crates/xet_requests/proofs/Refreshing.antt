-- What the answer to the query of a refresh makes.
use Rattle.std.proofs.Common.{◌≡◌, ℕ, ◌+◌, ◌<◌, Bool, false, List, [], ◌∷◌, length, map, Some, None, Ok, Err, Option, Result, refl, sym, ◌∙◌, ap, subst, arith}
use Rattle.std.specs.Prelude.{option_map, nat_eq}
use Rattle.std.specs.List.{enumerate_from}
use Rattle.std.proofs.lemmas.Bool.{ne_eqb}
use Rattle.xet_base.specs.declared.cas_types.FileRange.{FileRange}
use Rattle.xet_base.specs.declared.unique_id.UniqueId.{UniqueId}
use Rattle.xet_base.specs.Lists.{first_some}
use Rattle.xet_outside.specs.declared.plan.Plan.{Plan}
use Rattle.xet_outside.specs.declared.plan.PlanAnswer.{PlanAnswer}
use Rattle.xet_outside.specs.declared.plan.PlanAnswer.TheVariants.{Found, PastEnd, NoFile}
use Rattle.xet_outside.specs.declared.plan.PlanTerm.{PlanTerm}
use Rattle.xet_outside.specs.Plan.{Shape, shape}
use Rattle.xet_outside.specs.Told.{ClientTold}
use Rattle.xet_error.specs.declared.error.Corruption.{Corruption}
use Rattle.xet_error.specs.declared.error.FileReconstructionError.{FileReconstructionError}
use Rattle.xet_error.specs.declared.error.FileReconstructionError.TheVariants as error
use Rattle.xet_blocks.specs.declared.reconstruction_terms.file_term.TermBlock.{TermBlock}
use Rattle.xet_offers.specs.declared.reconstruction_terms.retrieval_urls.RetrievalUrl.{RetrievalUrl}
use Rattle.xet_blocks.specs.PlanQuery.{PlanQuery}
use Rattle.xet_offers.specs.Blocks.{PlanBlock, block_ranges, blocks_of}
use Rattle.xet_requests.specs.Refreshes.{Answered, Extent, FreshCall, IsRefused, MayAsk, Refresh, RefreshCause, blocks_test, extent_of, plan_extents, range_test, refusal_of}
use Rattle.xet_blocks.specs.TermBlockCalls.{FromAnswer, FromSaid, FromTerms, FromTested, TermBlockCall, TermBlockCause}
use Rattle.xet_offers.specs.PlanChecks.{covered, failed_test}
use Rattle.xet_blocks.specs.TermBlocks.{IsTermBlock, xorb_block}

-- ---- extents

extents-numbered : (p : Shape) (multi : Bool) (n : ℕ) (bs : List PlanBlock) → map extent_of (map (xorb_block p multi) (enumerate_from n bs)) ≡ map (λ b. (b.xorb, block_ranges b)) bs
extents-numbered p multi n [] = refl
extents-numbered p multi n (b ∷ bs) = ap (λ l. (b.xorb, block_ranges b) ∷ l) (extents-numbered p multi (n + 1) bs)

-- the blocks made of a plan have the plan's extents
pub extents_are : (p : Plan) (query : PlanQuery) (b : TermBlock) → IsTermBlock p query b → map extent_of b.blocks ≡ plan_extents (shape p) query.multirange
extents_are p query b is = ap (map extent_of) is.blocks ∙ extents-numbered (shape p) query.multirange 0 (blocks_of (shape p) query.multirange)

-- ---- refusals

not_empty : (p : Plan) → 0 < length p.terms → nat_eq (length p.terms) 0 ≡ false
not_empty p h = ne_eqb (length p.terms) 0 (λ e. omega arith)

-- a plan with terms that passes the tests of a plan is refused by the two others
pub refused_after : (q : FileRange) (multi : Bool) (bs : List Extent) (p : Plan) → 0 < length p.terms → failed_test (shape p) q multi ≡ None
    → refusal_of q multi bs (Found p) ≡ option_map (λ k. error.CorruptedReconstruction k) (first_some (range_test q (covered (shape p) q) ∷ blocks_test bs (plan_extents (shape p) multi) ∷ []))
refused_after q multi bs p some passes = rw (not_empty p some, passes)

refused_first : (q : FileRange) (multi : Bool) (bs : List Extent) (p : Plan) (k : Corruption) → 0 < length p.terms → failed_test (shape p) q multi ≡ Some k
    → refusal_of q multi bs (Found p) ≡ Some (error.CorruptedReconstruction k)
refused_first q multi bs p k some fails = rw (not_empty p some, fails)

module _ (b n : ClientTold) (r : Refresh) (id : UniqueId) where
  -- the query of the refresh
  abbrev Q : PlanQuery
  Q = record { file = r.file; range = r.range; multirange = r.multirange; id = id }

  answered_by : (a : Result (Option TermBlock) FileReconstructionError) (s : FromSaid b n Q a) → Answered r b n s.plan
  answered_by a s = record { asked = s.asked; said = s.said; unfailed = s.unfailed; honest = λ t e. s.honest t e }

  may_ask : (a : Result (Option TermBlock) FileReconstructionError) → TermBlockCall b n Q a → MayAsk r b n
  may_ask a c = record { store = c.store; asks = c.asks; served = c.served; faults = c.faults; expiries = c.expiries; link = c.link }

  -- an error of the query
  refused_answer : (e : FileReconstructionError) (a : PlanAnswer) → FromAnswer Q a (Err e) → refusal_of r.range r.multirange r.blocks a ≡ Some e
  refused_answer e NoFile h = let same : e ≡ error.FileNotFound = cc in ap Some (sym same)
  refused_answer e PastEnd h = absurd (cc)
  refused_answer e (Found p) h = terms p.terms refl h
    where
      tested : (o : Option Corruption) → 0 < length p.terms → failed_test (shape p) r.range r.multirange ≡ o → FromTested p Q o (Err e) → refusal_of r.range r.multirange r.blocks (Found p) ≡ Some e
      tested None some passes (c, h, is) = absurd (cc)
      tested (Some k) some fails h = let same : e ≡ error.CorruptedReconstruction k = cc in refused_first r.range r.multirange r.blocks p k some fails ∙ ap Some (sym same)

      terms : (ts : List PlanTerm) → p.terms ≡ ts → FromTerms p Q ts (Err e) → refusal_of r.range r.multirange r.blocks (Found p) ≡ Some e
      terms [] same h = absurd (cc)
      terms (t ∷ ts) same h = tested (failed_test (shape p) r.range r.multirange) (let l = ap length same in omega arith) refl h

  refused_said : (e : FileReconstructionError) → FromSaid b n Q (Err e) → IsRefused r b n e
  refused_said e s = record { answer = s.plan; answered = answered_by (Err e) s; refused = refused_answer e s.plan s.from }

  cause_of : (e : FileReconstructionError) → TermBlockCause b n Q e → RefreshCause r b n e
  cause_of error.OutOfMemory h = tt
  cause_of error.ClientError h = h
  cause_of error.FileNotFound h = refused_said error.FileNotFound h
  cause_of error.UrlExpired h = h
  cause_of error.IoError h = h
  cause_of (error.CorruptedReconstruction k) h = refused_said (error.CorruptedReconstruction k) h
  cause_of (error.ConfigurationError s) h = h
  cause_of error.Cancelled h = h
  cause_of (error.InternalWriterError w) h = h

  pub fresh_err : (e : FileReconstructionError) → TermBlockCall b n Q (Err e) → FreshCall r b n (Err e)
  fresh_err e c = record { may = may_ask (Err e) c; unsaid = λ h. let same : e ≡ error.ClientError = cc in c.unsaid (ap (λ (e : FileReconstructionError). Err e) same); refreshed = tt; cause = cause_of e c.cause }

  -- terms
  record IsAsked (tb : TermBlock) : Type 0 where
    plan : Plan
    answered : Answered r b n (Found plan)
    some : 0 < length plan.terms
    passes : failed_test (shape plan) r.range r.multirange ≡ None
    is : IsTermBlock plan Q tb

  asked : (tb : TermBlock) → FromSaid b n Q (Ok (Some tb)) → IsAsked tb
  asked tb s = of_answer s.plan (answered_by (Ok (Some tb)) s) s.from
    where
      of_tested : (p : Plan) → Answered r b n (Found p) → 0 < length p.terms → (o : Option Corruption) → failed_test (shape p) r.range r.multirange ≡ o → FromTested p Q o (Ok (Some tb)) → IsAsked tb
      of_tested p a some (Some k) e h = absurd (cc)
      of_tested p a some None e (c, h, is) =
          let same : c ≡ tb = cc in
          record { plan = p; answered = a; some = some; passes = e; is = subst (λ (t : TermBlock). IsTermBlock p Q t) same is }

      of_terms : (p : Plan) → Answered r b n (Found p) → (ts : List PlanTerm) → p.terms ≡ ts → FromTerms p Q ts (Ok (Some tb)) → IsAsked tb
      of_terms p a [] same h = absurd (cc)
      of_terms p a (t ∷ ts) same h = of_tested p a (let l = ap length same in omega arith) (failed_test (shape p) r.range r.multirange) refl h

      of_answer : (a : PlanAnswer) → Answered r b n a → FromAnswer Q a (Ok (Some tb)) → IsAsked tb
      of_answer (Found p) a h = of_terms p a p.terms refl h
      of_answer PastEnd a h = absurd (cc)
      of_answer NoFile a h = absurd (cc)

  refusal_is : (tb : TermBlock) (a : IsAsked tb) (o : Option Corruption) → first_some (range_test r.range tb.byte_range ∷ blocks_test r.blocks (map extent_of tb.blocks) ∷ []) ≡ o
      → refusal_of r.range r.multirange r.blocks (Found a.plan) ≡ option_map (λ k. error.CorruptedReconstruction k) o
  refusal_is tb a o e =
      refused_after r.range r.multirange r.blocks a.plan a.some a.passes
      ∙ ap (λ (q : FileRange). option_map (λ k. error.CorruptedReconstruction k) (first_some (range_test r.range q ∷ blocks_test r.blocks (plan_extents (shape a.plan) r.multirange) ∷ []))) (sym a.is.range)
      ∙ ap (λ (xs : List Extent). option_map (λ k. error.CorruptedReconstruction k) (first_some (range_test r.range tb.byte_range ∷ blocks_test r.blocks xs ∷ []))) (sym (extents_are a.plan Q tb a.is))
      ∙ ap (option_map (λ k. error.CorruptedReconstruction k)) e

  pub fresh_fails : (tb : TermBlock) (k : Corruption) → TermBlockCall b n Q (Ok (Some tb))
      → first_some (range_test r.range tb.byte_range ∷ blocks_test r.blocks (map extent_of tb.blocks) ∷ []) ≡ Some k → FreshCall r b n (Err (error.CorruptedReconstruction k))
  fresh_fails tb k c e =
      let a = asked tb c.made in
      record {
        may = may_ask (Ok (Some tb)) c;
        unsaid = λ h. absurd (cc);
        refreshed = tt;
        cause = record { answer = Found a.plan; answered = a.answered; refused = refusal_is tb a (Some k) e };
      }

  pub fresh_ok : (tb : TermBlock) (us : List RetrievalUrl) → TermBlockCall b n Q (Ok (Some tb))
      → first_some (range_test r.range tb.byte_range ∷ blocks_test r.blocks (map extent_of tb.blocks) ∷ []) ≡ None → us ≡ tb.urls.retrieval_urls → FreshCall r b n (Ok us)
  fresh_ok tb us c e same =
      let a = asked tb c.made in
      record {
        may = may_ask (Ok (Some tb)) c;
        unsaid = λ h. absurd (cc);
        refreshed = record { plan = a.plan; answered = a.answered; passes = refusal_is tb a None e; urls = same ∙ a.is.urls };
        cause = tt;
      }
