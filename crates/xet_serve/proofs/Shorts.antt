-- The fetch of a short range by one plan and one block.
use Rattle.std.proofs.Common.{◌≡◌, ℕ, zero, suc, ◌+◌, ◌<◌, ◌++◌, Bool, true, List, [], ◌∷◌, None, Some, Ok, Err, refl, sym, subst, ◌∙◌, ap, arith, map, inl, inr, length}
use Rattle.std.specs.Prelude.{All, IfOk, IfSome, IsNone, IsSome, MatchOption, Option, Result, get_or, nat_lt, option_map, slice_get, slice_set, unwrap_or}
use Rattle.std.specs.List.{enumerate_from, flat_map}
use Rattle.std.proofs.lemmas.Bool.{lt-ltb, ltb-true}
use Rattle.std.proofs.lemmas.List.{append-nil}
use Rattle.std.proofs.lemmas.List.Elements.{All-head}
use Rattle.std.proofs.lemmas.Option.{slice_get_read}
use Rattle.xet_base.specs.declared.cas_types.FileRange.{FileRange}
use Rattle.xet_base.specs.declared.error.OutOfMemory.{OutOfMemory}
use Rattle.xet_base.specs.declared.merklehash.MerkleHash.{MerkleHash}
use Rattle.xet_base.specs.Store.{IsValid, Store, file_of, window}
use Rattle.xet_outside.specs.declared.block.BlockAnswer.{BlockAnswer}
use Rattle.xet_outside.specs.declared.block.BlockAnswer.TheVariants.{Bytes, Expired}
use Rattle.xet_outside.specs.declared.block.BlockBytes.{BlockBytes}
use Rattle.xet_outside.specs.declared.block.BlockRequest.{BlockRequest}
use Rattle.xet_outside.specs.declared.client.ClientError.{ClientError}
use Rattle.xet_outside.specs.declared.client.ClientError.TheVariants as client_error
use Rattle.xet_outside.specs.declared.plan.Plan.{Plan}
use Rattle.xet_outside.specs.declared.plan.PlanAnswer.{PlanAnswer}
use Rattle.xet_outside.specs.declared.plan.PlanAnswer.TheVariants.{Found, NoFile, PastEnd}
use Rattle.xet_outside.specs.declared.plan.PlanTerm.{PlanTerm}
use Rattle.xet_outside.specs.Plan.{Shape, block_of, plan_of, shape}
use Rattle.xet_outside.specs.Told.{BlockCall, CacheTold, ClientTold, Holds, IsHonest, Rose}
use Rattle.xet_error.specs.declared.error.Corruption.{Corruption}
use Rattle.xet_error.specs.declared.error.FileReconstructionError.{FileReconstructionError}
use Rattle.xet_error.specs.declared.error.FileReconstructionError.TheVariants as error
use Rattle.xet_error.specs.Errors.{of_client_error}
use Rattle.xet_offers.specs.BlockCalls.{failed_check}
use Rattle.xet_offers.specs.BlockChecks.{block_data}
use Rattle.xet_offers.specs.Blocks.{PlanBlock, block_ranges, blocks_of}
use Rattle.xet_offers.specs.PlanChecks.{failed_test}
use Rattle.xet_offers.specs.Refusals.{IsRefusal}
use Rattle.xet_offers.specs.declared.reconstruction_terms.retrieval_urls.RetrievalUrl.{RetrievalUrl}
use Rattle.xet_offers.specs.declared.reconstruction_terms.retrieval_urls.TermBlockRetrievalURLs.{TermBlockRetrievalURLs}
use Rattle.xet_offers.specs.declared.reconstruction_terms.xorb_block.XorbBlock.{XorbBlock}
use Rattle.xet_offers.specs.declared.reconstruction_terms.xorb_block.XorbBlockData.{XorbBlockData}
use Rattle.xet_blocks.specs.declared.reconstruction_terms.file_term.FileTerm.{FileTerm}
use Rattle.xet_blocks.specs.declared.reconstruction_terms.file_term.TermBlock.{TermBlock}
use Rattle.xet_blocks.specs.Extracts.{ExtractCall, term_bytes_in}
use Rattle.xet_blocks.specs.PlanQuery.{PlanQuery}
use Rattle.xet_blocks.specs.TermBlockCalls.{FromAnswer, FromTerms, FromTested, TermBlockCall}
use Rattle.xet_blocks.specs.TermBlocks.{xorb_block, xorb_blocks}
use Rattle.xet_blocks.specs.Terms.{piece_of, term_piece, terms_of}
use Rattle.xet_blocks.proofs.CallerLemmas.{IsHonestTerm, honest_terms, pieces_join}
use Rattle.xet_requests.specs.Asks.{AskCall, AskFails, Requested}
use Rattle.xet_requests.specs.declared.fetched_block.Fetched.{Fetched as FetchedBlock}
use Rattle.xet_ties.specs.Setup.{ClientGoesOn}
use Rattle.xet_serve_lines.specs.Replies.{bytes_text}
use Rattle.xet_serve.specs.declared.fetch.Fetched.{Fetched}
use Rattle.xet_serve.specs.declared.fetch.Fetched.TheVariants as fetched
use Rattle.xet_serve.specs.Replies.{range_text}
use Rattle.xet_serve.specs.steps.Fetching.{GoesOn, Lent, RangeCall, RangeDone}
use Rattle.xet_serve.specs.steps.Shorts.{AddedTerm, FirstCall, FoundTerm, MadeCall, OneCall, OneDone, OnlyTerm, PlannedCall, Shortly, TermCall, TermDone, UntoldAs, bytes_in_store}
use Rattle.xet_serve.proofs.Fails.{fails_from, first_fails}
use Rattle.xet_serve.proofs.Goings.{each_same, goes_same, goes_then, one_same, one_then, over_on}

-- what holds of an end that is told holds of another answer's, where it follows
each : (P Q : Fetched → Type 0) (answer : Shortly) → ((f : Fetched) → P f → Q f) → IfOk answer (λ o. IfSome o P)
    → IfOk answer (λ o. IfSome o Q)
each P Q (Ok (Some f)) g h = g f h
each P Q (Ok None) g h = tt
each P Q (Err e) g h = tt

-- ---- a term's bytes are added

pub added_whole : (t : FileTerm) (d : XorbBlockData) (start : ℕ) (text now bytes : List ℕ) → ExtractCall t d (Ok bytes)
    → now ≡ text ++ bytes_text start bytes → AddedTerm t d start text now (Ok (Some fetched.Whole))
added_whole t d start text now bytes h is = record {
  kept = λ z. absurd (cc);
  done = (refl, is ∙ ap (λ (w : List ℕ). text ++ bytes_text start w) h.bytes.1);
}

pub added_none : (t : FileTerm) (d : XorbBlockData) (start : ℕ) (text : List ℕ) → AddedTerm t d start text text (Ok None)
added_none t d start text = record { kept = λ z. refl; done = tt }

pub added_short : (t : FileTerm) (d : XorbBlockData) (start : ℕ) (text now : List ℕ) (e : OutOfMemory)
    → AddedTerm t d start text now (Err e)
added_short t d start text now e = record { kept = λ z. absurd (cc); done = tt }

-- ---- a block is asked for

call_goes : (b n : ClientTold) (r : BlockRequest) (answer : Result BlockAnswer ClientError) → BlockCall b n r answer
    → ClientGoesOn b n
call_goes b n r answer h = record { store = h.store; link = h.link; faults = h.faults; expiries = h.expiries }

-- a request has the block's xorb and chunks
own : (x : XorbBlock) (t : TermBlockRetrievalURLs) (r : BlockRequest) (o : Option RetrievalUrl)
    → MatchOption o ⊥ (λ (u : RetrievalUrl). r ≡ record {
      acquisition = t.acquisition_id;
      index = x.xorb_block_index;
      url = u.url;
      xorb = x.xorb_hash;
      chunks = x.chunk_ranges;
      bytes = u.ranges;
    }) → (r.xorb ≡ x.xorb_hash) × (r.chunks ≡ x.chunk_ranges)
own x t r None h = absurd h
own x t r (Some u) h = (ap (λ (q : BlockRequest). q.xorb) h, ap (λ (q : BlockRequest). q.chunks) h)

not_refused : (o : Option Corruption) → IsRefusal o error.ClientError → ⊥
not_refused o (inl e) = absurd (cc)
not_refused None (inr h) = h
not_refused (Some k) (inr h) = absurd (cc)

no_client : (f : ClientError) → error.FileNotFound ≡ of_client_error f → ⊥
no_client client_error.OutOfMemory e = absurd (cc)
no_client client_error.Failed e = absurd (cc)

no_refusal : (o : Option Corruption) → IsRefusal o error.FileNotFound → ⊥
no_refusal o (inl e) = absurd (cc)
no_refusal None (inr h) = h
no_refusal (Some k) (inr h) = absurd (cc)

module _ (x : XorbBlock) (urls : TermBlockRetrievalURLs) (t : FileTerm) (start : ℕ) (b n : ClientTold) where
  abbrev Asked : Result (Option FetchedBlock) FileReconstructionError → Type 0
  Asked answer = AskCall x urls b n answer

  fails_goes : (e : FileReconstructionError) → AskFails x urls b n e → ClientGoesOn b n
  fails_goes e (inl h) = subst (ClientGoesOn b) (sym h.1) (one_same b)
  fails_goes e (inr (inl h)) = call_goes b n h.1.request (Err h.0) h.1.call
  fails_goes e (inr (inr h)) = call_goes b n h.1.request (Ok (Bytes h.0)) h.1.call

  asked_goes : (answer : Result (Option FetchedBlock) FileReconstructionError) → Asked answer → ClientGoesOn b n
  asked_goes (Ok (Some f)) h = call_goes b n h.0.request (Ok (Bytes f.bytes)) h.0.call
  asked_goes (Ok None) h = call_goes b n h.request (Ok Expired) h.call
  asked_goes (Err e) h = fails_goes e h

  pub term_open : (answer : Result (Option FetchedBlock) FileReconstructionError) (text : List ℕ) → Asked answer
      → TermCall x t start b n text text (Ok None)
  term_open answer text h = record { goes_on = asked_goes answer h; kept = λ z. refl; done = tt }

  rose_by : (f : ClientError) → Requested x urls b n (Err f) → error.ClientError ≡ of_client_error f → Rose b.faults n.faults
  rose_by client_error.OutOfMemory h e = absurd (cc)
  rose_by client_error.Failed h e = h.call.failed refl

  rose : AskFails x urls b n error.ClientError → Rose b.faults n.faults
  rose (inl h) = let e = h.0 in absurd (cc)
  rose (inr (inl h)) = rose_by h.0 h.1 h.2
  rose (inr (inr h)) = absurd (not_refused (failed_check x h.0) h.2)

  pub term_failed : (text : List ℕ) → Asked (Err error.ClientError)
      → TermCall x t start b n text text (Ok (Some (fetched.Failed 2)))
  term_failed text h = record {
    goes_on = fails_goes error.ClientError h;
    kept = λ z. refl;
    done = (refl, rose h);
  }

  -- the bytes are the store's
  stored_bytes : (f : FetchedBlock) → Asked (Ok (Some f)) → (s : Store) → b.store ≡ Some s
      → Holds s x.xorb_hash x.chunk_ranges → f.bytes ≡ block_of s x.xorb_hash x.chunk_ranges
  stored_bytes f h s tells holds =
      let r = h.0.request in
      let a = own x urls r (slice_get urls.retrieval_urls x.xorb_block_index) h.0.own in
      let inside : Holds s r.xorb r.chunks = rw (a.0, a.1) holds in
      rw (a.0, a.1) at (h.0.call.honest s tells inside)

  pub term_added : (f : FetchedBlock) (text now : List ℕ) (answer : Shortly) → Asked (Ok (Some f))
      → AddedTerm t f.found start text now answer → TermCall x t start b n text now answer
  term_added f text now answer h a = record {
    goes_on = asked_goes (Ok (Some f)) h;
    kept = a.kept;
    done = each (λ (g : Fetched). (g ≡ fetched.Whole) × (now ≡ text ++ bytes_text start (term_bytes_in t f.found)))
        (TermDone x t start b n text now) answer whole a.done;
  }
    where
      whole : (g : Fetched) → (g ≡ fetched.Whole) × (now ≡ text ++ bytes_text start (term_bytes_in t f.found))
          → TermDone x t start b n text now g
      whole g z = subst (TermDone x t start b n text now) (sym z.0) (λ s tells holds.
          let d : f.found ≡ block_data x.chunk_ranges (block_of s x.xorb_hash x.chunk_ranges) =
          h.2 ∙ ap (λ (y : BlockBytes). block_data x.chunk_ranges y) (stored_bytes f h s tells holds) in
          z.1 ∙ ap (λ (y : XorbBlockData). text ++ bytes_text start (term_bytes_in t y)) d)

  -- whether it was found or not
  pub term_found : (o : Option FetchedBlock) (text now : List ℕ) (answer : Shortly) → Asked (Ok o)
      → FoundTerm t o start text now answer → TermCall x t start b n text now answer
  term_found (Some f) text now answer h a = term_added f text now answer h a
  term_found None text now answer h a =
      subst (λ (l : List ℕ). TermCall x t start b n text l answer) (sym a.1)
      (subst (λ (r : Shortly). TermCall x t start b n text text r) (sym a.0) (term_open (Ok None) text h))

  not_missing : AskFails x urls b n error.FileNotFound → ⊥
  not_missing (inl h) = let e = h.0 in absurd (cc)
  not_missing (inr (inl h)) = no_client h.0 h.2
  not_missing (inr (inr h)) = no_refusal (failed_check x h.0) h.2

  told : (e : FileReconstructionError) (o : Option Fetched) (text : List ℕ) → Asked (Err e) → o ≡ None
      → TermCall x t start b n text text (Ok o)
  told e o text h is =
      subst (λ (p : Option Fetched). TermCall x t start b n text text (Ok p)) (sym is) (term_open (Err e) text h)

  pub term_untold : (e : FileReconstructionError) (o : Option Fetched) (text : List ℕ) → Asked (Err e) → UntoldAs e o
      → TermCall x t start b n text text (Ok o)
  term_untold error.ClientError o text h is =
      subst (λ (p : Option Fetched). TermCall x t start b n text text (Ok p)) (sym is) (term_failed text h)
  term_untold error.FileNotFound o text h is = absurd (not_missing h)
  term_untold e o text h is = told e o text h is

-- nothing was asked
pub term_unasked : (x : XorbBlock) (t : FileTerm) (start : ℕ) (b : ClientTold) (text : List ℕ)
    → TermCall x t start b b text text (Ok None)
term_unasked x t start b text = record { goes_on = one_same b; kept = λ z. refl; done = tt }

-- ---- the only term of a plan

pub only_unasked : (p : TermBlock) (start : ℕ) (b : ClientTold) (text : List ℕ)
    → PlannedCall p start b b text text (Ok None)
only_unasked p start b text = record { goes_on = one_same b; kept = λ z. refl; done = tt }

pub only_term : (p : TermBlock) (t : FileTerm) (x : XorbBlock) (start : ℕ) (b n : ClientTold) (text now : List ℕ)
    (answer : Shortly) → p.terms ≡ t ∷ [] → slice_get p.blocks t.xorb_block ≡ Some x
    → TermCall x t start b n text now answer → PlannedCall p start b n text now answer
only_term p t x start b n text now answer only of_plan c = record {
  goes_on = c.goes_on;
  kept = c.kept;
  done = each (TermDone x t start b n text now) (OnlyTerm p start b n text now) answer
      (λ f h. record { term = t; only = only; block = x; of_plan = of_plan; done = h }) c.done;
}

-- a block that was found at a place
pub block_there : (xs bs : List XorbBlock) (k : ℕ) (x : XorbBlock) → xs ≡ bs → true ≡ nat_lt k (length xs)
    → x ≡ get_or xs k x → slice_get bs k ≡ Some x
block_there xs bs k x is inside at =
    ap (λ (l : List XorbBlock). slice_get l k) (sym is)
    ∙ slice_get_read xs (length xs) k x refl (ltb-true k (length xs) (sym inside)) at

-- the first of these terms, where they are one
pub only_first : (p : TermBlock) (ts : List FileTerm) (d : FileTerm) (x : XorbBlock) (start : ℕ) (b n : ClientTold)
    (text now : List ℕ) (answer : Shortly) → TermCall x (get_or ts 0 d) start b n text now answer → ts ≡ p.terms
    → length ts ≡ 1 → slice_get p.blocks (get_or ts 0 d).xorb_block ≡ Some x
    → PlannedCall p start b n text now answer
only_first p [] d x start b n text now answer c is one at = absurd (omega (arith, one))
only_first p (t ∷ []) d x start b n text now answer c is one at =
    only_term p t x start b n text now answer (sym is) at c
only_first p (t ∷ u ∷ us) d x start b n text now answer c is one at = absurd (omega (arith, one))

-- ---- a plan of a store

same_some : (c d : PlanBlock) → Some c ≡ Some d → c ≡ d
same_some c d h = cc

numbered_from : (p : Shape) (multi : Bool) (n : ℕ) (bs : List PlanBlock) (k : ℕ) (x : XorbBlock)
    → slice_get (map (xorb_block p multi) (enumerate_from n bs)) k ≡ Some x
    → (c : PlanBlock) × (slice_get bs k ≡ Some c) × (xorb_block p multi (n + k, c) ≡ x)
numbered_from p multi n [] k x h = absurd (cc)
numbered_from p multi n (c ∷ bs) zero x h = (
  c,
  refl,
  ap (λ (m : ℕ). xorb_block p multi (m, c)) (let z : n + 0 ≡ n = omega arith in z)
      ∙ (let z : xorb_block p multi (n, c) ≡ x = cc in z),
)
numbered_from p multi n (c ∷ bs) (suc k) x h =
    let r = numbered_from p multi (n + 1) bs k x h in
    (r.0, r.1, ap (λ (m : ℕ). xorb_block p multi (m, r.0)) (let z : n + suc k ≡ n + 1 + k = omega arith in z) ∙ r.2)

-- the bytes of its only term, in the term's block, are the window
only_is : (s : Store) → IsValid s → (file : MerkleHash) (r : FileRange) (multi : Bool) (t : FileTerm)
    → terms_of (plan_of s file r) r multi ≡ t ∷ [] → (x : XorbBlock)
    → slice_get (xorb_blocks (plan_of s file r) multi) t.xorb_block ≡ Some x
    → Holds s x.xorb_hash x.chunk_ranges × (bytes_in_store s x t ≡ window s file r)
only_is s v file r multi t only x at =
    let p = plan_of s file r in
    let h : IsHonestTerm s p multi t = All-head (IsHonestTerm s p multi) t []
    (subst (All (IsHonestTerm s p multi)) only (honest_terms s v file r multi)) in
    let c = numbered_from p multi 0 (blocks_of p multi) t.xorb_block x at in
    let same : c.0 ≡ h.block = same_some c.0 h.block (sym c.1 ∙ h.listed) in
    let is : xorb_block p multi (0 + t.xorb_block, h.block) ≡ x =
    ap (λ (y : PlanBlock). xorb_block p multi (0 + t.xorb_block, y)) (sym same) ∙ c.2 in
    let piece : bytes_in_store s x t ≡ piece_of (block_of s h.block.xorb (block_ranges h.block)) t =
    ap (λ (y : XorbBlock). bytes_in_store s y t) (sym is) ∙ h.piece in
    let of_plan : term_piece s p multi t ≡ piece_of (block_of s h.block.xorb (block_ranges h.block)) t =
    ap (λ (o : Option PlanBlock). unwrap_or (option_map (λ y. piece_of (block_of s y.xorb (block_ranges y)) t) o) [])
    h.listed in
    let joined : term_piece s p multi t ++ [] ≡ window s file r =
    ap (λ (ts : List FileTerm). flat_map (term_piece s p multi) ts) (sym only) ∙ pieces_join s v file r multi in (
      subst (λ (y : XorbBlock). Holds s y.xorb_hash y.chunk_ranges) is h.holds,
      piece ∙ sym of_plan ∙ sym (append-nil (term_piece s p multi t)) ∙ joined,
    )

-- terms and blocks that a connection's answer made are those of the store's plan
record IsOf (s : Store) (q : PlanQuery) (p : TermBlock) : Type 0 where
  stored : IsSome (file_of s q.file)
  terms : p.terms ≡ terms_of (plan_of s q.file q.range) q.range q.multirange
  blocks : p.blocks ≡ xorb_blocks (plan_of s q.file q.range) q.multirange

module _ (s : Store) (q : PlanQuery) (p : TermBlock) where
  by_test : (a : Plan) → shape a ≡ plan_of s q.file q.range → IsSome (file_of s q.file) → (o : Option Corruption)
      → FromTested a q o (Ok (Some p)) → IsOf s q p
  by_test a e st (Some k) h = absurd (cc)
  by_test a e st None h =
      let same : ◌≡◌ {A = Result (Option TermBlock) FileReconstructionError} (Ok (Some p)) (Ok (Some h.0)) = h.1 in
      let is : p ≡ h.0 = cc in
      record {
        stored = st;
        terms = ap (λ (y : TermBlock). y.terms) is ∙ h.2.terms
            ∙ ap (λ (z : Shape). terms_of z q.range q.multirange) e;
        blocks = ap (λ (y : TermBlock). y.blocks) is ∙ h.2.blocks
            ∙ ap (λ (z : Shape). xorb_blocks z q.multirange) e;
      }

  by_terms : (a : Plan) → shape a ≡ plan_of s q.file q.range → IsSome (file_of s q.file) → (ts : List PlanTerm)
      → FromTerms a q ts (Ok (Some p)) → IsOf s q p
  by_terms a e st [] h = absurd (cc)
  by_terms a e st (t ∷ ts) h = by_test a e st (failed_test (shape a) q.range q.multirange) h

  by_answer : (a : PlanAnswer) → IsHonest s q.file q.range a → FromAnswer q a (Ok (Some p)) → IsOf s q p
  by_answer (Found a) h f = by_terms a h.2 h.0 a.terms f
  by_answer PastEnd h f = absurd (cc)
  by_answer NoFile h f = absurd (cc)

  -- its only term was fetched
  module _ (v : IsValid s) (b m n : ClientTold) (text now : List ℕ) (call : TermBlockCall b m q (Ok (Some p)))
      (tells : b.store ≡ Some s) where
    one_done : (f : Fetched) → OnlyTerm p q.range.start m n text now f → OneDone s q.file q.range b n text now f
    one_done fetched.Whole h =
        let made = call.made in
        let is = by_answer made.plan (made.honest s tells) made.from in
        let x = only_is s v q.file q.range q.multirange h.term (sym is.terms ∙ h.only) h.block
        (ap (λ (xs : List XorbBlock). slice_get xs h.term.xorb_block) (sym is.blocks) ∙ h.of_plan) in (
          is.stored,
          h.done s (call.store ∙ tells) x.0 ∙ ap (λ (w : List ℕ). text ++ bytes_text q.range.start w) x.1,
        )
    one_done fetched.Missing h = absurd h.done
    one_done (fetched.Failed k) h =
        let d = h.done in
        let rose = d.1 in
        let on = call.faults in
        (d.0, omega (arith, rose, on))

-- no file was told of a stored one
no_file_tested : (a : Plan) (q : PlanQuery) (o : Option Corruption) → FromTested a q o (Err error.FileNotFound) → ⊥
no_file_tested a q (Some k) h = absurd (cc)
no_file_tested a q None h = let e = h.1 in absurd (cc)

no_file_terms : (a : Plan) (q : PlanQuery) (ts : List PlanTerm) → FromTerms a q ts (Err error.FileNotFound) → ⊥
no_file_terms a q [] h = absurd (cc)
no_file_terms a q (t ∷ ts) h = no_file_tested a q (failed_test (shape a) q.range q.multirange) h

no_file : (s : Store) (q : PlanQuery) (a : PlanAnswer) → IsHonest s q.file q.range a
    → FromAnswer q a (Err error.FileNotFound) → IsNone (file_of s q.file)
no_file s q (Found a) h f = absurd (no_file_terms a q a.terms f)
no_file s q PastEnd h f = absurd (cc)
no_file s q NoFile h f = h

module _ (q : PlanQuery) (b m : ClientTold) where
  abbrev Called : Result (Option TermBlock) FileReconstructionError → Type 0
  Called answer = TermBlockCall b m q answer

  query_goes : (answer : Result (Option TermBlock) FileReconstructionError) → Called answer → ClientGoesOn b m
  query_goes answer h = record { store = h.store; link = h.link; faults = h.faults; expiries = h.expiries }

  pub one_planned : (p : TermBlock) (n : ClientTold) (text now : List ℕ) (answer : Shortly) → Called (Ok (Some p))
      → PlannedCall p q.range.start m n text now answer → OneCall q.file q.range b n text now answer
  one_planned p n text now answer h c = record {
    goes_on = one_then b m n (query_goes (Ok (Some p)) h) c.goes_on;
    kept = c.kept;
    done = λ s v tells. each (OnlyTerm p q.range.start m n text now) (OneDone s q.file q.range b n text now) answer
        (one_done s q p v b m n text now h tells) c.done;
  }

  pub one_failed : (text : List ℕ) → Called (Err error.ClientError)
      → OneCall q.file q.range b m text text (Ok (Some (fetched.Failed 2)))
  one_failed text h = record {
    goes_on = query_goes (Err error.ClientError) h;
    kept = λ z. refl;
    done = λ s v tells. (refl, h.cause);
  }

  pub one_missing : (text : List ℕ) → Called (Err error.FileNotFound)
      → OneCall q.file q.range b m text text (Ok (Some fetched.Missing))
  one_missing text h = record {
    goes_on = query_goes (Err error.FileNotFound) h;
    kept = λ z. refl;
    done = λ s v tells. no_file s q h.cause.plan (h.cause.honest s tells) h.cause.from;
  }

  pub one_open : (answer : Result (Option TermBlock) FileReconstructionError) (text : List ℕ) → Called answer
      → OneCall q.file q.range b m text text (Ok None)
  one_open answer text h = record { goes_on = query_goes answer h; kept = λ z. refl; done = λ s v tells. tt }

  pub one_made : (o : Option TermBlock) (n : ClientTold) (text now : List ℕ) (answer : Shortly) → Called (Ok o)
      → MadeCall o q.range.start m n text now answer → OneCall q.file q.range b n text now answer
  one_made (Some p) n text now answer h c = one_planned p n text now answer h c
  one_made None n text now answer h c =
      subst (λ (k : ClientTold). OneCall q.file q.range b k text now answer) (sym c.2)
      (subst (λ (l : List ℕ). OneCall q.file q.range b m text l answer) (sym c.1)
      (subst (λ (r : Shortly). OneCall q.file q.range b m text text r) (sym c.0) (one_open (Ok None) text h)))

  told_one : (e : FileReconstructionError) (o : Option Fetched) (text : List ℕ) → Called (Err e) → o ≡ None
      → OneCall q.file q.range b m text text (Ok o)
  told_one e o text h is =
      subst (λ (p : Option Fetched). OneCall q.file q.range b m text text (Ok p)) (sym is) (one_open (Err e) text h)

  pub one_untold : (e : FileReconstructionError) (o : Option Fetched) (text : List ℕ) → Called (Err e) → UntoldAs e o
      → OneCall q.file q.range b m text text (Ok o)
  one_untold error.ClientError o text h is =
      subst (λ (p : Option Fetched). OneCall q.file q.range b m text text (Ok p)) (sym is) (one_failed text h)
  one_untold error.FileNotFound o text h is =
      subst (λ (p : Option Fetched). OneCall q.file q.range b m text text (Ok p)) (sym is) (one_missing text h)
  one_untold e o text h is = told_one e o text h is

-- ---- the first of all connections

abbrev lent : List ClientTold → CacheTold → Lent
lent clients cache = record { clients = clients; cache = cache }

pub first_unasked : (tries : ℕ) (file : MerkleHash) (r : FileRange) (b : Lent) (text : List ℕ)
    → FirstCall tries file r b b text text (Ok None)
first_unasked tries file r b text = record { goes_on = goes_same b; kept = λ z. refl; done = λ s o t. tt }

module _ (tries : ℕ) (file : MerkleHash) (r : FileRange) (text now : List ℕ) where
  module _ (c d : ClientTold) (cs : List ClientTold) (cache : CacheTold) (some : r.start < r.end)
      (goes : ClientGoesOn c d) where
    abbrev b : Lent
    b = lent (c ∷ cs) cache

    abbrev n : Lent
    n = lent (d ∷ cs) cache

    range_done : (s : Store) (f : Fetched) → OneDone s file r c d text now f → RangeDone s tries file r b n text now f
    range_done s fetched.Whole h = (inl h.0, h.1)
    range_done s fetched.Missing h = (lt-ltb r.start r.end some, h)
    range_done s (fetched.Failed k) h =
        subst (λ (j : ℕ). RangeDone s tries file r b n text now (fetched.Failed j)) (sym h.0)
        (inl refl, first_fails tries c d cs goes h.1)

  first_there : (c d : ClientTold) (cs : List ClientTold) (cache : CacheTold) (answer : Shortly) → r.start < r.end
      → OneCall file r c d text now answer
      → FirstCall tries file r (lent (c ∷ cs) cache) (lent (d ∷ cs) cache) text now answer
  first_there c d cs cache answer some h = record {
    goes_on = record { clients = (h.goes_on, each_same cs); cache = λ s o t. t };
    kept = h.kept;
    done = λ s o t. each (OneDone s file r c d text now)
        (RangeDone s tries file r (lent (c ∷ cs) cache) (lent (d ∷ cs) cache) text now) answer
        (range_done c d cs cache some h.goes_on s) (h.done s o.valid o.tell.0);
  }

  pub first_asked : {C : Type 0} (told : C → ClientTold) (cs : List C) (x next : C) (cache : CacheTold)
      (answer : Shortly) → 0 < length cs → r.start < r.end → OneCall file r (told (get_or cs 0 x)) (told next) text now answer
      → FirstCall tries file r (lent (map told cs) cache) (lent (map told (slice_set cs 0 next)) cache) text now answer
  first_asked {C} told [] x next cache answer there some h = absurd (omega (arith, there))
  first_asked {C} told (y ∷ cs) x next cache answer there some h =
      first_there (told y) (told next) (map told cs) cache answer some h

-- ---- and a run, where it is to tell

pub range_told : (tries : ℕ) (file : MerkleHash) (r : FileRange) (b n : Lent) (text now : List ℕ) (f : Fetched)
    → FirstCall tries file r b n text now (Ok (Some f)) → RangeCall tries file r b n text now (Ok f)
range_told tries file r b n text now f h = record { goes_on = h.goes_on; done = h.done }

pub range_untold : (tries : ℕ) (file : MerkleHash) (r : FileRange) (b n : Lent) (text now : List ℕ) (e : OutOfMemory)
    → FirstCall tries file r b n text now (Err e) → RangeCall tries file r b n text now (Err e)
range_untold tries file r b n text now e h = record { goes_on = h.goes_on; done = λ s o t. tt }

module _ (tries : ℕ) (file : MerkleHash) (r : FileRange) (b m n : Lent) (text mid now : List ℕ)
    (h : FirstCall tries file r b m text mid (Ok None)) where
  later : (s : Store) (f : Fetched) → GoesOn m n → RangeDone s tries file r m n mid now f
      → RangeDone s tries file r b n text now f
  later s fetched.Whole g d = (d.0, d.1 ∙ ap (λ (l : List ℕ). l ++ range_text s file r) (h.kept refl))
  later s fetched.Missing g d = d
  later s (fetched.Failed k) g d =
      (d.0, fails_from tries (k ∷ []) b.clients m.clients n.clients h.goes_on.clients g.clients d.1)

  pub then_run : (answer : Result Fetched OutOfMemory) → RangeCall tries file r m n mid now answer
      → RangeCall tries file r b n text now answer
  then_run (Ok f) c = record {
    goes_on = goes_then b m n h.goes_on c.goes_on;
    done = λ s o t. later s f c.goes_on
        (c.done s (over_on s b.clients m.clients h.goes_on.clients o) (h.goes_on.cache s o t));
  }
  then_run (Err e) c = record { goes_on = goes_then b m n h.goes_on c.goes_on; done = λ s o t. tt }
