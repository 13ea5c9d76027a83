-- Tries of a block, refreshes between them, and the data that they give.
use Rattle.std.proofs.Common.{◌≡◌, ℕ, zero, suc, ◌+◌, ◌-◌, ◌<◌, ◌≤◌, ◌⊎◌, Bool, true, false, cond, List, [], ◌∷◌, ◌++◌, length, map, Ok, Err, Some, None, Option, Result, refl, sym, ◌∙◌, ap, set, subst, inl, inr, arith, length-append}
use Rattle.std.specs.Prelude.{All, IsSome, MatchOption, option_map, nat_eq, slice_get}
use Rattle.std.proofs.lemmas.Bool.{eqb-false, eqb-true}
use Rattle.std.proofs.lemmas.Option.{same_Some}
use Rattle.std.proofs.lemmas.List.{length-map}
use Rattle.std.proofs.lemmas.List.Elements.{All-append, All-nil}
use Rattle.xet_base.specs.declared.cas_types.FileRange.{FileRange}
use Rattle.xet_base.specs.declared.unique_id.UniqueId.{UniqueId}
use Rattle.xet_base.specs.Lists.{first_some}
use Rattle.xet_base.specs.Store.{Store}
use Rattle.xet_outside.specs.declared.block.BlockAnswer.{BlockAnswer}
use Rattle.xet_outside.specs.declared.block.BlockAnswer.TheVariants.{Bytes, Expired}
use Rattle.xet_outside.specs.declared.block.BlockBytes.{BlockBytes}
use Rattle.xet_outside.specs.declared.block.BlockRequest.{BlockRequest}
use Rattle.xet_outside.specs.declared.client.ClientError.{ClientError}
use Rattle.xet_outside.specs.declared.client.ClientError.TheVariants as client_error
use Rattle.xet_outside.specs.declared.plan.Plan.{Plan}
use Rattle.xet_outside.specs.declared.plan.PlanAnswer.{PlanAnswer}
use Rattle.xet_outside.specs.declared.plan.PlanAnswer.TheVariants.{Found}
use Rattle.xet_outside.specs.declared.said.Said.{Said}
use Rattle.xet_outside.specs.declared.said.Said.TheVariants as said
use Rattle.xet_outside.specs.declared.served.Served.{Served}
use Rattle.xet_outside.specs.Answers.{AnswerTo, AnswerToQuery, bytes_in, plans_in}
use Rattle.xet_outside.specs.Plan.{block_of, shape}
use Rattle.xet_outside.specs.Told.{Added, BlockCall, CacheTold, ClientTold, Grew, Holds, IsHonest, Query, Rose, served_of}
use Rattle.xet_outside.proofs.CallerLemmas.{added_both, added_none}
use Rattle.xet_error.specs.declared.error.Corruption.{Corruption}
use Rattle.xet_error.specs.declared.error.Corruption.TheVariants.{RefreshBlocks, RefreshPastEnd}
use Rattle.xet_error.specs.declared.error.FileReconstructionError.{FileReconstructionError}
use Rattle.xet_error.specs.declared.error.FileReconstructionError.TheVariants as error
use Rattle.xet_error.specs.declared.error.Setting.TheVariants as setting
use Rattle.xet_error.specs.Errors.{of_client_error}
use Rattle.xet_offers.specs.declared.reconstruction_terms.retrieval_urls.RetrievalUrl.{RetrievalUrl}
use Rattle.xet_offers.specs.declared.reconstruction_terms.retrieval_urls.TermBlockRetrievalURLs.{TermBlockRetrievalURLs}
use Rattle.xet_offers.specs.declared.reconstruction_terms.xorb_block.XorbBlock.{XorbBlock}
use Rattle.xet_offers.specs.declared.reconstruction_terms.xorb_block.XorbBlockData.{XorbBlockData}
use Rattle.xet_offers.specs.Blocks.{block_ranges, blocks_of}
use Rattle.xet_offers.specs.BlockCalls.{IsRequestOf, failed_check}
use Rattle.xet_offers.specs.PlanChecks.{covered, failed_test}
use Rattle.xet_offers.specs.Refusals.{IsRefusal}
use Rattle.xet_blocks.specs.TermBlockCalls.{AskedAtMostOnce, QueryAnswered}
use Rattle.xet_requests.specs.declared.fetched_block.Fetched.{Fetched}
use Rattle.xet_fetch.specs.declared.fetch_settings.FetchSettings.{FetchSettings}
use Rattle.xet_fetch.specs.Fetches.{FetchesCall, FetchesFail, FetchesKeep, GaveBad, GaveBytes, GaveData, IsDishonest, Lapsed, PassesRefresh, Refused, Replied, RoseBy, TableKeeps, Tried, Unrefreshed, own_entry, refresh_queries, refresh_query, refreshed, renewed, renewed_by}
use Rattle.xet_requests.specs.Refreshes.{Extent, Refresh, RefreshCall, IsRefused, blocks_test, extent_of, failed_refresh, first_difference, next_id, plan_extents, range_test, refresh_of, refusal_of, same_extent}
use Rattle.xet_fetch.specs.RetrieveData.{DataCall, FetchTold, RetrieveCall}
use Rattle.xet_requests.specs.Asks.{AskCall, AskFails, Requested}
use Rattle.xet_fetch.specs.steps.Tries.{TryCall}

-- ---- tables

same_refresh : (t : TermBlockRetrievalURLs) (ps : List Plan) (xs : List XorbBlock) (multi : Bool) → refresh_of (renewed multi t ps) multi xs ≡ refresh_of t multi xs
same_refresh t [] xs multi = refl
same_refresh t (p ∷ ps) xs multi = same_refresh (renewed_by multi t p) ps xs multi

renewed_both : (multi : Bool) (t : TermBlockRetrievalURLs) (ps qs : List Plan) → renewed multi (renewed multi t ps) qs ≡ renewed multi t (ps ++ qs)
renewed_both multi t [] qs = refl
renewed_both multi t (p ∷ ps) qs = renewed_both multi (renewed_by multi t p) ps qs

renewed_plan : (multi : Bool) (t : TermBlockRetrievalURLs) (ps : List Plan) → (renewed multi t ps).acquisition_id.plan ≡ t.acquisition_id.plan
renewed_plan multi t [] = refl
renewed_plan multi t (p ∷ ps) = renewed_plan multi (renewed_by multi t p) ps

table_self : (r : Refresh) (t : TermBlockRetrievalURLs) → TableKeeps r t t
table_self r t = record { file = refl; range = refl; plan = refl; in_table = λ k w h. h }

table_both : (r : Refresh) (t u v : TermBlockRetrievalURLs) → TableKeeps r t u → TableKeeps r u v → TableKeeps r t v
table_both r t u v x y = record { file = y.file ∙ x.file; range = y.range ∙ x.range; plan = y.plan ∙ x.plan; in_table = λ k w h. y.in_table k w (x.in_table k w h) }

-- ---- lists of several tries

queries_both : (r : Refresh) (ps qs : List Plan) (ys : List Query) → (refresh_queries r ps ++ []) ++ (refresh_queries r qs ++ ys) ≡ refresh_queries r (ps ++ qs) ++ ys
queries_both r [] qs ys = refl
queries_both r (p ∷ ps) qs ys = ap (λ (l : List Query). refresh_query r ∷ l) (queries_both r ps qs ys)

saids_both : (e : Served) (ps qs : List Plan) (all : List Said) → (refreshed e ps ++ []) ++ (refreshed e qs ++ all) ≡ refreshed e (ps ++ qs) ++ all
saids_both e [] qs all = refl
saids_both e (p ∷ ps) qs all = ap (λ (l : List Said). said.Expired e ∷ said.Plan (Found p) ∷ l) (saids_both e ps qs all)

-- the first answer with bytes is the last one
pub bytes_own : (ps : List Plan) (e : Served) (bytes : BlockBytes) → AnswerTo (e ∷ []) (refreshed e ps ++ said.Block bytes ∷ []) e bytes
bytes_own ps e bytes = record { place = 0; entry = refl; bytes = go ps }
  where
    go : (ps : List Plan) → slice_get (bytes_in (refreshed e ps ++ said.Block bytes ∷ [])) 0 ≡ Some bytes
    go [] = refl
    go (p ∷ ps) = go ps

-- each answer to a query stands at its query's place
pub query_own : (r : Refresh) (e : Served) (ps : List Plan) (a : PlanAnswer) → AnswerToQuery (refresh_queries r ps ++ refresh_query r ∷ []) (refreshed e ps ++ said.Expired e ∷ said.Plan a ∷ []) (refresh_query r) a
query_own r e ps a = record { place = length ps; query = asked ps; answer = said_at ps }
  where
    asked : (ps : List Plan) → slice_get (refresh_queries r ps ++ refresh_query r ∷ []) (length ps) ≡ Some (refresh_query r)
    asked [] = refl
    asked (p ∷ ps) = asked ps

    said_at : (ps : List Plan) → slice_get (plans_in (refreshed e ps ++ said.Expired e ∷ said.Plan a ∷ [])) (length ps) ≡ Some a
    said_at [] = refl
    said_at (p ∷ ps) = said_at ps

pub plan_own : (r : Refresh) (e : Served) (ps : List Plan) (asked : List Query) (all : List Said) (k : ℕ) (p : Plan) → slice_get ps k ≡ Some p
    → AnswerToQuery (refresh_queries r ps ++ asked) (refreshed e ps ++ all) (refresh_query r) (Found p)
plan_own r e ps asked all k p h = record { place = k; query = asked_at ps k h; answer = said_at ps k h }
  where
    asked_at : (ps : List Plan) (k : ℕ) → slice_get ps k ≡ Some p → slice_get (refresh_queries r ps ++ asked) k ≡ Some (refresh_query r)
    asked_at [] k h = absurd (cc)
    asked_at (q ∷ ps) zero h = refl
    asked_at (q ∷ ps) (suc k) h = asked_at ps k h

    said_at : (ps : List Plan) (k : ℕ) → slice_get ps k ≡ Some p → slice_get (plans_in (refreshed e ps ++ all)) k ≡ Some (Found p)
    said_at [] k h = absurd (cc)
    said_at (q ∷ ps) zero h = ap (λ (p : Plan). Some (Found p)) (same_Some q p h)
    said_at (q ∷ ps) (suc k) h = said_at ps k h

all_one : {A : Type 0} (P : A → Type 0) (x : A) → P x → All P (x ∷ [])
all_one P x h zero d w = h
all_one P x h (suc k) d w = absurd (omega (arith, w))

-- ---- tries one after another

rose_later : (a b c : ℕ) → Rose a b → b ≤ c → Rose a c
rose_later a b c h k = omega arith

rose_before : (a b c : ℕ) → a ≤ b → Rose b c → Rose a c
rose_before a b c h k = omega arith

rose_more : (k j a b c : ℕ) → RoseBy k a b → RoseBy j b c → RoseBy (k + j) a c
rose_more k j a b c h w = omega arith

keeps_self : (b : ClientTold) → FetchesKeep b b
keeps_self b = record { store = refl; faults = omega arith; expiries = omega arith; link = refl }

keeps_both : (a b c : ClientTold) → FetchesKeep a b → FetchesKeep b c → FetchesKeep a c
keeps_both a b c x y =
    let xf = x.faults in let yf = y.faults in let xe = x.expiries in let ye = y.expiries in
    record { store = y.store ∙ x.store; faults = omega arith; expiries = omega arith; link = y.link ∙ x.link }

own_same : (x : XorbBlock) (t u : TermBlockRetrievalURLs) → u.acquisition_id.plan ≡ t.acquisition_id.plan → own_entry u x ≡ own_entry t x
own_same x t u e = ap (λ (k : ℕ). let s : Served = record { plan = k; index = x.xorb_block_index; xorb = x.xorb_hash; ranges = x.chunk_ranges } in s) e

module _ (r : Refresh) (x : XorbBlock) (t u v : TermBlockRetrievalURLs) (b m n : ClientTold) (ps qs : List Plan) (base : Tried r x t u b m ps [] [] []) where
  own_both : own_entry u x ≡ own_entry t x
  own_both = own_same x t u (ap (λ (w : TermBlockRetrievalURLs). w.acquisition_id.plan) base.table ∙ renewed_plan r.multirange t ps)

  tried_both : (asked : List Query) (all : List Said) (served : List Served) → Tried r x u v m n qs asked all served → Tried r x t v b n (ps ++ qs) asked all served
  tried_both asked all served y = record {
    keeps = keeps_both b m n base.keeps y.keeps;
    passes = All-append (PassesRefresh r) ps qs base.passes y.passes;
    honest = λ s told. All-append (λ (p : Plan). IsHonest s r.file r.range (Found p)) ps qs (base.honest s told) (y.honest s (base.keeps.store ∙ told));
    table = y.table ∙ ap (λ (w : TermBlockRetrievalURLs). renewed r.multirange w qs) base.table ∙ renewed_both r.multirange t ps qs;
    asks = subst (λ (l : List Query). Added b.asked n.asked l) (queries_both r ps qs asked) (added_both b.asked m.asked n.asked (refresh_queries r ps ++ []) (refresh_queries r qs ++ asked) base.asks y.asks);
    says = subst (λ (l : List Said). Added b.said n.said l) (saids_both (own_entry t x) ps qs all) (added_both b.said m.said n.said (refreshed (own_entry t x) ps ++ []) (refreshed (own_entry t x) qs ++ all) base.says (subst (λ (e : Served). Added m.said n.said (refreshed e qs ++ all)) own_both y.says));
    serves = added_both b.served m.served n.served [] served base.serves y.serves;
    rose = subst (λ (k : ℕ). RoseBy k b.expiries n.expiries) (sym (length-append ps qs)) (rose_more (length ps) (length qs) b.expiries m.expiries n.expiries base.rose y.rose);
  }

  gave_both : (bytes : BlockBytes) → GaveBytes r x u v m n qs bytes → GaveBytes r x t v b n (ps ++ qs) bytes
  gave_both bytes g = record {
    tried = tried_both [] (said.Block bytes ∷ []) (own_entry t x ∷ []) (subst (λ (e : Served). Tried r x u v m n qs [] (said.Block bytes ∷ []) (e ∷ [])) own_both g.tried);
    answer = bytes_own (ps ++ qs) (own_entry t x) bytes;
    honest = λ s told holds. g.honest s (base.keeps.store ∙ told) holds;
  }

  data_both : (g : Fetched) → GaveData r x u v m n qs g → GaveData r x t v b n (ps ++ qs) g
  data_both g y = record { gave = gave_both g.bytes y.gave; passes = y.passes; made = y.made }

  unrefreshed_both : Unrefreshed r x u v m n qs → Unrefreshed r x t v b n (ps ++ qs)
  unrefreshed_both y = record { asked = y.asked; may = y.may; tried = tried_both y.asked (said.Expired (own_entry t x) ∷ []) [] (subst (λ (e : Served). Tried r x u v m n qs y.asked (said.Expired e ∷ []) []) own_both y.tried) }

  replied_both : (a : PlanAnswer) → Replied r x u v m n qs a → Replied r x t v b n (ps ++ qs) a
  replied_both a y = record {
    tried = tried_both (refresh_query r ∷ []) (said.Expired (own_entry t x) ∷ said.Plan a ∷ []) [] (subst (λ (e : Served). Tried r x u v m n qs (refresh_query r ∷ []) (said.Expired e ∷ said.Plan a ∷ []) []) own_both y.tried);
    own = query_own r (own_entry t x) (ps ++ qs) a;
    honest = λ s told. y.honest s (base.keeps.store ∙ told);
  }

  refused_both : (e : FileReconstructionError) → Refused r x u v m n qs e → Refused r x t v b n (ps ++ qs) e
  refused_both e y = record { answer = y.answer; replied = replied_both y.answer y.replied; refused = y.refused }

  lapsed_both : Lapsed r x u v m n qs → Lapsed r x t v b n (ps ++ qs)
  lapsed_both y =
      let xr = base.rose in
      let yr = y.rose in
      let count = length-append ps qs in
      record { tried = tried_both [] (said.Expired (own_entry t x) ∷ []) [] (subst (λ (e : Served). Tried r x u v m n qs [] (said.Expired e ∷ []) []) own_both y.tried); rose = omega (arith, count) }

  dishonest_both : IsDishonest r x m → IsDishonest r x b
  dishonest_both d s told honest = d s (base.keeps.store ∙ told) honest

  fail_both : (left tries : ℕ) → 0 < left → length ps + left ≡ tries → (e : FileReconstructionError) → FetchesFail r x left u v m n qs e → FetchesFail r x tries t v b n (ps ++ qs) e
  fail_both left tries some sum error.OutOfMemory h = go h
    where
      go : ((length qs < left) × (Tried r x u v m n qs [] [] [] ⊎ ((bytes : BlockBytes) × GaveBytes r x u v m n qs bytes)))
          ⊎ ((length qs + 1 < left) × (Unrefreshed r x u v m n qs ⊎ ((a : PlanAnswer) × Replied r x u v m n qs a)))
          → ((length (ps ++ qs) < tries) × (Tried r x t v b n (ps ++ qs) [] [] [] ⊎ ((bytes : BlockBytes) × GaveBytes r x t v b n (ps ++ qs) bytes)))
          ⊎ ((length (ps ++ qs) + 1 < tries) × (Unrefreshed r x t v b n (ps ++ qs) ⊎ ((a : PlanAnswer) × Replied r x t v b n (ps ++ qs) a)))
      go (inl (few, inl y)) = let count = length-append ps qs in inl (omega (arith, count), inl (tried_both [] [] [] y))
      go (inl (few, inr (bytes, y))) = let count = length-append ps qs in inl (omega (arith, count), inr (bytes, gave_both bytes y))
      go (inr (few, inl y)) = let count = length-append ps qs in inr (omega (arith, count), inl (unrefreshed_both y))
      go (inr (few, inr (a, y))) = let count = length-append ps qs in inr (omega (arith, count), inr (a, replied_both a y))
  fail_both left tries some sum error.ClientError (rose, h) = (rose_before b.faults m.faults n.faults base.keeps.faults rose, go h)
    where
      go : ((length qs < left) × Tried r x u v m n qs [] [] []) ⊎ ((length qs + 1 < left) × Unrefreshed r x u v m n qs)
          → ((length (ps ++ qs) < tries) × Tried r x t v b n (ps ++ qs) [] [] []) ⊎ ((length (ps ++ qs) + 1 < tries) × Unrefreshed r x t v b n (ps ++ qs))
      go (inl (few, y)) = let count = length-append ps qs in inl (omega (arith, count), tried_both [] [] [] y)
      go (inr (few, y)) = let count = length-append ps qs in inr (omega (arith, count), unrefreshed_both y)
  fail_both left tries some sum error.FileNotFound (d, few, y) = let count = length-append ps qs in (dishonest_both d, omega (arith, count), refused_both error.FileNotFound y)
  fail_both left tries some sum error.UrlExpired (few, y) = let count = length-append ps qs in (omega (arith, count), lapsed_both y)
  fail_both left tries some sum error.IoError h = h
  fail_both left tries some sum (error.CorruptedReconstruction k) (d, h) = (dishonest_both d, go h)
    where
      go : ((length qs < left) × GaveBad r x u v m n qs k) ⊎ ((length qs + 1 < left) × Refused r x u v m n qs (error.CorruptedReconstruction k))
          → ((length (ps ++ qs) < tries) × GaveBad r x t v b n (ps ++ qs) k) ⊎ ((length (ps ++ qs) + 1 < tries) × Refused r x t v b n (ps ++ qs) (error.CorruptedReconstruction k))
      go (inl (few, y)) = let count = length-append ps qs in inl (omega (arith, count), record { bytes = y.bytes; gave = gave_both y.bytes y.gave; fails = y.fails })
      go (inr (few, y)) = let count = length-append ps qs in inr (omega (arith, count), refused_both (error.CorruptedReconstruction k) y)
  fail_both left tries some sum (error.ConfigurationError s) (e, none, same, kept) = absurd (omega (arith, none, some))
  fail_both left tries some sum error.Cancelled h = h
  fail_both left tries some sum (error.InternalWriterError w) h = h

-- ---- requests

record Asks (x : XorbBlock) (r : BlockRequest) : Type 0 where
  xorb : r.xorb ≡ x.xorb_hash
  chunks : r.chunks ≡ x.chunk_ranges

asks : (x : XorbBlock) (urls : TermBlockRetrievalURLs) (r : BlockRequest) → IsRequestOf x urls r → Asks x r
asks x urls r h = by_url (slice_get urls.retrieval_urls x.xorb_block_index) h
  where
    by_url : (o : Option RetrievalUrl) → MatchOption o ⊥ (λ u. r ≡ record { acquisition = urls.acquisition_id; index = x.xorb_block_index; url = u.url; xorb = x.xorb_hash; chunks = x.chunk_ranges; bytes = u.ranges }) → Asks x r
    by_url None h = absurd h
    by_url (Some u) h = record { xorb = ap (λ (r : BlockRequest). r.xorb) h; chunks = ap (λ (r : BlockRequest). r.chunks) h }

own_of : (x : XorbBlock) (urls : TermBlockRetrievalURLs) (r : BlockRequest) → IsRequestOf x urls r → served_of r ≡ own_entry urls x
own_of x urls r h = by_url (slice_get urls.retrieval_urls x.xorb_block_index) h
  where
    by_url : (o : Option RetrievalUrl) → MatchOption o ⊥ (λ u. r ≡ record { acquisition = urls.acquisition_id; index = x.xorb_block_index; url = u.url; xorb = x.xorb_hash; chunks = x.chunk_ranges; bytes = u.ranges }) → served_of r ≡ own_entry urls x
    by_url None h = absurd h
    by_url (Some u) h = ap served_of h

late_grew : (x : XorbBlock) (t : TermBlockRetrievalURLs) (b n : ClientTold) → (q : Requested x t b n (Ok Expired)) → Grew b.said n.said (said.Expired (own_entry t x))
late_grew x t b n q = subst (λ (e : Served). Grew b.said n.said (said.Expired e)) (own_of x t q.request q.own) q.call.said

module _ (r : Refresh) (x : XorbBlock) (t : TermBlockRetrievalURLs) (b n : ClientTold) where
  nothing : n ≡ b → Tried r x t t b n [] [] [] []
  nothing same = subst (λ (n : ClientTold). Tried r x t t b n [] [] [] []) (sym same) (record {
    keeps = keeps_self b;
    passes = All-nil (PassesRefresh r);
    honest = λ s told. All-nil (λ (p : Plan). IsHonest s r.file r.range (Found p));
    table = refl;
    asks = added_none b.asked b.asked refl;
    says = added_none b.said b.said refl;
    serves = added_none b.served b.served refl;
    rose = omega arith;
  })

  call_keeps : (q : BlockRequest) (a : Result BlockAnswer ClientError) → BlockCall b n q a → FetchesKeep b n
  call_keeps q a c = record { store = c.store; faults = c.faults; expiries = c.expiries; link = c.link }

  tried_call : (q : BlockRequest) (a : Result BlockAnswer ClientError) → BlockCall b n q a → (all : List Said) (served : List Served) → Added b.said n.said all → Added b.served n.served served → Tried r x t t b n [] [] all served
  tried_call q a c all served says serves =
      let later = c.expiries in
      record {
        keeps = call_keeps q a c;
        passes = All-nil (PassesRefresh r);
        honest = λ s told. All-nil (λ (p : Plan). IsHonest s r.file r.range (Found p));
        table = refl;
        asks = added_none b.asked n.asked c.asked;
        says = says;
        serves = serves;
        rose = omega arith;
      }

  unanswered : (f : ClientError) → Requested x t b n (Err f) → Tried r x t t b n [] [] [] []
  unanswered f q = tried_call q.request (Err f) q.call [] [] (added_none b.said n.said q.call.unsaid) (added_none b.served n.served q.call.unserved)

  gave : (bytes : BlockBytes) → Requested x t b n (Ok (Bytes bytes)) → GaveBytes r x t t b n [] bytes
  gave bytes q = record {
    tried = tried_call q.request (Ok (Bytes bytes)) q.call (said.Block bytes ∷ []) (own_entry t x ∷ []) q.call.said (subst (λ (e : Served). Grew b.served n.served e) (own_of x t q.request q.own) q.call.served);
    answer = bytes_own [] (own_entry t x) bytes;
    honest = λ s told holds.
        let a = asks x t q.request q.own in
        let inside : Holds s q.request.xorb q.request.chunks = rw (a.xorb, a.chunks) holds in
        rw (a.xorb, a.chunks) at (q.call.honest s told inside);
  }

  expired : Requested x t b n (Ok Expired) → Tried r x t t b n [] [] (said.Expired (own_entry t x) ∷ []) []
  expired q = tried_call q.request (Ok Expired) q.call (said.Expired (own_entry t x) ∷ []) [] (late_grew x t b n q) (added_none b.served n.served q.call.served)

  bad : (left : ℕ) → 0 < left → (bytes : BlockBytes) (e : FileReconstructionError) → GaveBytes r x t t b n [] bytes → (o : Option Corruption) → failed_check x bytes ≡ o → MatchOption o ⊥ (λ k. e ≡ error.CorruptedReconstruction k) → FetchesFail r x left t t b n [] e
  bad left some bytes e g None same h = absurd h
  bad left some bytes e g (Some k) same h = subst (λ (e : FileReconstructionError). FetchesFail r x left t t b n [] e) (sym h) (
    λ s told honest.
        let is : bytes ≡ block_of s x.xorb_hash x.chunk_ranges = g.honest s told honest.holds in
        let none : failed_check x bytes ≡ None = ap (failed_check x) is ∙ honest.passes in
        cc,
    inl (some, record { bytes = bytes; gave = g; fails = same }),
  )

  ask_fails : (left : ℕ) → 0 < left → (e : FileReconstructionError) → AskFails x t b n e → FetchesFail r x left t t b n [] e
  ask_fails left some e (inl (memory, same)) = subst (λ (e : FileReconstructionError). FetchesFail r x left t t b n [] e) (sym memory) (inl (some, inl (nothing same)))
  ask_fails left some e (inr (inl (f, q, same))) = subst (λ (e : FileReconstructionError). FetchesFail r x left t t b n [] e) (sym same) (go f q)
    where
      go : (f : ClientError) → Requested x t b n (Err f) → FetchesFail r x left t t b n [] (of_client_error f)
      go client_error.OutOfMemory q = inl (some, inl (unanswered client_error.OutOfMemory q))
      go client_error.Failed q = (q.call.failed refl, inl (some, unanswered client_error.Failed q))
  ask_fails left some e (inr (inr (bytes, q, refusal))) = go refusal
    where
      go : IsRefusal (failed_check x bytes) e → FetchesFail r x left t t b n [] e
      go (inl memory) = subst (λ (e : FileReconstructionError). FetchesFail r x left t t b n [] e) (sym memory) (inl (some, inr (bytes, gave bytes q)))
      go (inr h) = bad left some bytes e (gave bytes q) (failed_check x bytes) refl h

  ask_keeps : (e : FileReconstructionError) → AskFails x t b n e → FetchesKeep b n
  ask_keeps e (inl (memory, same)) = subst (λ (n : ClientTold). FetchesKeep b n) (sym same) (keeps_self b)
  ask_keeps e (inr (inl (f, q, same))) = call_keeps q.request (Err f) q.call
  ask_keeps e (inr (inr (bytes, q, refusal))) = call_keeps q.request (Ok (Bytes bytes)) q.call

  -- ---- tries

  pub try_some : (left : ℕ) (g : Fetched) → AskCall x t b n (Ok (Some g)) → TryCall r x left t t b n (Ok (Some g))
  try_some left g c = record {
    keeps = call_keeps c.0.request (Ok (Bytes g.bytes)) c.0.call;
    table = table_self r t;
    ends = record { gave = gave g.bytes c.0; passes = c.1; made = c.2 };
  }

  pub try_err : (left : ℕ) → 0 < left → (e : FileReconstructionError) → AskCall x t b n (Err e) → TryCall r x left t t b n (Err e)
  try_err left some e c = record { keeps = ask_keeps e c; table = table_self r t; ends = ask_fails left some e c }

  pub try_last : (left : ℕ) → left ≡ 1 → AskCall x t b n (Ok None) → TryCall r x left t t b n (Err error.UrlExpired)
  try_last left last c =
      let rose = c.call.expired refl in
      record {
        keeps = call_keeps c.request (Ok Expired) c.call;
        table = table_self r t;
        ends = (sym last, record { tried = expired c; rose = rose });
      }

-- ---- refreshes between tries

same_length : (xs ys : List Extent) → first_difference xs ys ≡ None → length xs ≡ length ys
same_length [] [] h = refl
same_length [] (y ∷ ys) h = absurd (cc)
same_length (x ∷ xs) [] h = absurd (cc)
same_length (x ∷ xs) (y ∷ ys) h = go (same_extent x y) h (λ k. same_length xs ys k)
  where
    none_of : (o : Option ℕ) → option_map (λ k. suc k) o ≡ None → o ≡ None
    none_of None h = refl
    none_of (Some k) h = absurd (cc)

    go : (b : Bool) → cond b (option_map (λ k. suc k) (first_difference xs ys)) (Some 0) ≡ None → (first_difference xs ys ≡ None → length xs ≡ length ys) → suc (length xs) ≡ suc (length ys)
    go true h next = ap suc (next (none_of (first_difference xs ys) h))
    go false h next = absurd (cc)

passes_blocks : (q : FileRange) (multi : Bool) (es : List Extent) (p : Plan) → refusal_of q multi es (Found p) ≡ None → length es ≡ length (blocks_of (shape p) multi)
passes_blocks q multi es p h = go (nat_eq (length p.terms) 0) h
  where
    third : (a b c : Option Corruption) → first_some (a ∷ b ∷ c ∷ []) ≡ None → c ≡ None
    third None None None h = refl
    third None None (Some k) h = absurd (cc)
    third None (Some k) c h = absurd (cc)
    third (Some k) b c h = absurd (cc)

    none_refused : (o : Option Corruption) → option_map (λ k. error.CorruptedReconstruction k) o ≡ None → o ≡ None
    none_refused None h = refl
    none_refused (Some k) h = absurd (cc)

    none_blocks : (o : Option ℕ) → option_map (λ k. RefreshBlocks k) o ≡ None → o ≡ None
    none_blocks None h = refl
    none_blocks (Some k) h = absurd (cc)

    go : (b : Bool) → cond b (Some (error.CorruptedReconstruction RefreshPastEnd)) (option_map (λ k. error.CorruptedReconstruction k) (failed_refresh q multi es (shape p))) ≡ None → length es ≡ length (blocks_of (shape p) multi)
    go true h = absurd (cc)
    go false h =
        let all = none_refused (failed_refresh q multi es (shape p)) h in
        let test = third (failed_test (shape p) q multi) (range_test q (covered (shape p) q)) (blocks_test es (plan_extents (shape p) multi)) all in
        same_length es (plan_extents (shape p) multi) (none_blocks (first_difference es (plan_extents (shape p) multi)) test) ∙ length-map (blocks_of (shape p) multi) (λ b. (b.xorb, block_ranges b))

module _ (x : XorbBlock) (left : ℕ) (t u : TermBlockRetrievalURLs) (b m n : ClientTold) (id : UniqueId) (xs : List XorbBlock) (multi : Bool) (more : 1 < left) (c : AskCall x t b m (Ok None)) where
  abbrev R : Refresh
  R = refresh_of t multi xs

  asked_keeps : (answer : Result (Unit {0}) FileReconstructionError) → RefreshCall t u m n id xs multi answer → FetchesKeep b n
  asked_keeps answer h = keeps_both b m n (call_keeps R x t b m c.request (Ok Expired) c.call) (record { store = h.may.store; faults = h.may.faults; expiries = h.may.expiries; link = h.may.link })

  told_later : (answer : Result (Unit {0}) FileReconstructionError) → RefreshCall t u m n id xs multi answer → (s : Store) → b.store ≡ Some s → m.store ≡ Some s
  told_later answer h s told = c.call.store ∙ told

  -- what was asked, said and served, where a refresh adds these
  tried_refresh : (answer : Result (Unit {0}) FileReconstructionError) → RefreshCall t u m n id xs multi answer → (asked : List Query) (answers : List Said)
      → Added m.asked n.asked asked → Added m.said n.said answers → Tried R x t t b n [] asked (said.Expired (own_entry t x) ∷ answers) []
  tried_refresh answer h asked answers asks says =
      let before = c.call.expiries in
      let later = h.may.expiries in
      record {
        keeps = asked_keeps answer h;
        passes = All-nil (PassesRefresh R);
        honest = λ s told. All-nil (λ (p : Plan). IsHonest s R.file R.range (Found p));
        table = refl;
        asks = added_both b.asked m.asked n.asked [] asked (added_none b.asked m.asked c.call.asked) asks;
        says = added_both b.said m.said n.said (said.Expired (own_entry t x) ∷ []) answers (late_grew x t b m c) says;
        serves = added_none b.served n.served (h.may.served ∙ c.call.served);
        rose = omega arith;
      }

  pub try_refreshed : t.acquisition_id ≡ id → RefreshCall t u m n id xs multi (Ok tt) → TryCall (refresh_of t multi xs) x left t u b n (Ok None)
  try_refreshed same h =
      let is = h.renewed same in
      let made = is.0 in
      let p : Plan = made.plan in
      let blocks = passes_blocks t.byte_range multi (map extent_of xs) p made.passes in
      let count : length u.retrieval_urls ≡ length (blocks_of (shape p) multi) = ap length made.urls ∙ length-map (blocks_of (shape p) multi) _ in
      let first = c.call.expired refl in
      let later : m.expiries ≤ n.expiries = h.may.expiries in
      record {
        keeps = asked_keeps (Ok tt) h;
        table = record {
          file = ap (λ (t : TermBlockRetrievalURLs). t.file_hash) is.1;
          range = ap (λ (t : TermBlockRetrievalURLs). t.byte_range) is.1;
          plan = ap (λ (t : TermBlockRetrievalURLs). t.acquisition_id.plan) is.1;
          in_table = λ k w g. omega (arith, w, count, blocks);
        };
        ends = (
          more,
          (
            p,
            record {
              keeps = asked_keeps (Ok tt) h;
              passes = all_one (PassesRefresh R) p made.passes;
              honest = λ s told. all_one (λ (p : Plan). IsHonest s R.file R.range (Found p)) p (made.answered.honest s (told_later (Ok tt) h s told));
              table = is.1 ∙ ap (λ (l : List RetrievalUrl). record t { acquisition_id = next_id t.acquisition_id; retrieval_urls = l }) made.urls;
              asks = added_both b.asked m.asked n.asked [] (refresh_query R ∷ []) (added_none b.asked m.asked c.call.asked) made.answered.asked;
              says = added_both b.said m.said n.said (said.Expired (own_entry t x) ∷ []) (said.Plan (Found p) ∷ []) (late_grew x t b m c) made.answered.said;
              serves = added_none b.served n.served (h.may.served ∙ c.call.served);
              rose = rose_later b.expiries m.expiries n.expiries first later;
            },
          ),
        );
      }

  asked_alone : (answer : Result (Unit {0}) FileReconstructionError) → RefreshCall t u m n id xs multi answer → Grew m.asked n.asked (refresh_query R) → n.said ≡ m.said → Unrefreshed R x t t b n []
  asked_alone answer h grew same = record { asked = refresh_query R ∷ []; may = inr refl; tried = tried_refresh answer h (refresh_query R ∷ []) [] grew (added_none m.said n.said same) }

  unasked : (answer : Result (Unit {0}) FileReconstructionError) → RefreshCall t u m n id xs multi answer → n.asked ≡ m.asked → n.said ≡ m.said → Unrefreshed R x t t b n []
  unasked answer h none same = record { asked = []; may = inl refl; tried = tried_refresh answer h [] [] (added_none m.asked n.asked none) (added_none m.said n.said same) }

  -- nothing was said
  unsaid : (answer : Result (Unit {0}) FileReconstructionError) → RefreshCall t u m n id xs multi answer → n.said ≡ m.said → Unrefreshed R x t t b n []
  unsaid answer h same = go h.may.asks
    where
      go : AskedAtMostOnce m n (refresh_query R) → Unrefreshed R x t t b n []
      go (inl (a, y)) = asked_alone answer h y.asked same
      go (inr (inl (grew, none))) = asked_alone answer h grew same
      go (inr (inr (none, also))) = unasked answer h none same

  replied : (answer : Result (Unit {0}) FileReconstructionError) → RefreshCall t u m n id xs multi answer → (a : PlanAnswer) → QueryAnswered m n (refresh_query R) a → Replied R x t t b n [] a
  replied answer h a y = record {
    tried = tried_refresh answer h (refresh_query R ∷ []) (said.Plan a ∷ []) y.asked y.said;
    own = query_own R (own_entry t x) [] a;
    honest = λ s told. y.honest s (told_later answer h s told);
  }

  refused : (answer : Result (Unit {0}) FileReconstructionError) (e : FileReconstructionError) → RefreshCall t u m n id xs multi answer → IsRefused R m n e → Refused R x t t b n [] e
  refused answer e h is = record { answer = is.answer; replied = replied answer h is.answer is.answered; refused = is.refused }

  dishonest : (e : FileReconstructionError) → Refused R x t t b n [] e → IsDishonest R x b
  dishonest e y s told honest =
      let none : refusal_of R.range R.multirange R.blocks y.answer ≡ None = honest.refreshes y.answer (y.replied.honest s told) in
      let some = y.refused in
      cc

  unrefreshed_ends : (e : FileReconstructionError) → RefreshCall t u m n id xs multi (Err e) → FetchesFail R x left t t b n [] e
  unrefreshed_ends error.OutOfMemory h = inr (more, go h.may.asks)
    where
      go : AskedAtMostOnce m n (refresh_query R) → Unrefreshed R x t t b n [] ⊎ ((a : PlanAnswer) × Replied R x t t b n [] a)
      go (inl (a, y)) = inr (a, replied (Err error.OutOfMemory) h a y)
      go (inr (inl (grew, same))) = inl (asked_alone (Err error.OutOfMemory) h grew same)
      go (inr (inr (none, same))) = inl (unasked (Err error.OutOfMemory) h none same)
  unrefreshed_ends error.ClientError h = (rose_before b.faults m.faults n.faults c.call.faults h.cause, inr (more, unsaid (Err error.ClientError) h (h.unsaid refl)))
  unrefreshed_ends error.FileNotFound h = let y = refused (Err error.FileNotFound) error.FileNotFound h h.cause in (dishonest error.FileNotFound y, more, y)
  unrefreshed_ends error.UrlExpired h = absurd h.cause
  unrefreshed_ends error.IoError h = absurd h.cause
  unrefreshed_ends (error.CorruptedReconstruction k) h = let y = refused (Err (error.CorruptedReconstruction k)) (error.CorruptedReconstruction k) h h.cause in (dishonest (error.CorruptedReconstruction k) y, inr (more, y))
  unrefreshed_ends (error.ConfigurationError s) h = absurd h.cause
  unrefreshed_ends error.Cancelled h = absurd h.cause
  unrefreshed_ends (error.InternalWriterError w) h = absurd h.cause

  pub try_unrefreshed : (e : FileReconstructionError) → RefreshCall t u m n id xs multi (Err e) → TryCall (refresh_of t multi xs) x left t u b n (Err e)
  try_unrefreshed e h = record {
    keeps = asked_keeps (Err e) h;
    table = subst (λ (u : TermBlockRetrievalURLs). TableKeeps (refresh_of t multi xs) t u) (sym h.kept) (table_self (refresh_of t multi xs) t);
    ends = subst (λ (u : TermBlockRetrievalURLs). FetchesFail (refresh_of t multi xs) x left t u b n [] e) (sym h.kept) (unrefreshed_ends e h);
  }

-- a refresh leaves a table with a URL for each of the blocks
pub refresh_fits : (t u : TermBlockRetrievalURLs) (b n : ClientTold) (id : UniqueId) (xs : List XorbBlock) (multi : Bool) (answer : Result (Unit {0}) FileReconstructionError) (k : ℕ)
    → RefreshCall t u b n id xs multi answer → k < length t.retrieval_urls → k < length xs → k < length u.retrieval_urls
refresh_fits t u b n id xs multi (Err e) k c h w = subst (λ (u : TermBlockRetrievalURLs). k < length u.retrieval_urls) (sym c.kept) h
refresh_fits t u b n id xs multi (Ok x) k c h w = go (nat_eq t.acquisition_id.plan id.plan) (nat_eq t.acquisition_id.refresh id.refresh) refl refl
  where
    other : (t.acquisition_id ≡ id → ⊥) → k < length u.retrieval_urls
    other ne = subst (λ (u : TermBlockRetrievalURLs). k < length u.retrieval_urls) (sym (c.stale ne).1) h

    go : (p q : Bool) → nat_eq t.acquisition_id.plan id.plan ≡ p → nat_eq t.acquisition_id.refresh id.refresh ≡ q → k < length u.retrieval_urls
    go false q e f = other (λ same. eqb-false t.acquisition_id.plan id.plan e (ap (λ (i : UniqueId). i.plan) same))
    go true false e f = other (λ same. eqb-false t.acquisition_id.refresh id.refresh f (ap (λ (i : UniqueId). i.refresh) same))
    go true true e f =
        let plan = eqb-true t.acquisition_id.plan id.plan e in
        let refresh = eqb-true t.acquisition_id.refresh id.refresh f in
        let same : t.acquisition_id ≡ id = λ i. record { plan = plan i; refresh = refresh i } in
        let made = (c.renewed same).0 in
        let blocks = passes_blocks t.byte_range multi (map extent_of xs) made.plan made.passes in
        let count : length u.retrieval_urls ≡ length (blocks_of (shape made.plan) multi) = ap length made.urls ∙ length-map (blocks_of (shape made.plan) multi) _ in
        let extents = length-map xs extent_of in
        omega arith

-- ---- all tries

pub record IsFetching (r : Refresh) (x : XorbBlock) (t u : TermBlockRetrievalURLs) (b n : ClientTold) (k tries : ℕ) : Type 0 where
  pub plans : List Plan
  pub tried : Tried r x t u b n plans [] [] []
  pub count : length plans ≡ k
  pub table : TableKeeps r t u
  pub in_table : x.xorb_block_index < length u.retrieval_urls
  pub some : (k ≡ 0) ⊎ (k < tries)
  pub unmoved : k ≡ 0 → (u ≡ t) × (n ≡ b)

pub fetch_start : (r : Refresh) (x : XorbBlock) (t : TermBlockRetrievalURLs) (b : ClientTold) (tries : ℕ) → x.xorb_block_index < length t.retrieval_urls → IsFetching r x t t b b 0 tries
fetch_start r x t b tries h = record { plans = []; tried = nothing r x t b b refl; count = refl; table = table_self r t; in_table = h; some = inl refl; unmoved = λ z. (refl, refl) }

module _ (x : XorbBlock) (t u v : TermBlockRetrievalURLs) (xs : List XorbBlock) (multi : Bool) (b m n : ClientTold) (k tries : ℕ) (is : IsFetching (refresh_of t multi xs) x t u b m k tries) (below : k < tries) where
  moved : (answer : Result (Option Fetched) FileReconstructionError) → TryCall (refresh_of u multi xs) x (tries - k) u v m n answer → TryCall (refresh_of t multi xs) x (tries - k) u v m n answer
  moved answer c = subst (λ (r : Refresh). TryCall r x (tries - k) u v m n answer) (ap (λ (w : TermBlockRetrievalURLs). refresh_of w multi xs) is.tried.table ∙ same_refresh t is.plans xs multi) c

  pub fetch_more : x.xorb_block_index < length xs → TryCall (refresh_of u multi xs) x (tries - k) u v m n (Ok None) → IsFetching (refresh_of t multi xs) x t v b n (k + 1) tries
  fetch_more within c' =
      let c = moved (Ok None) c' in
      let left = c.ends.0 in
      let p : Plan = c.ends.1.0 in
      let extents = length-map xs extent_of in
      record {
        plans = is.plans ++ p ∷ [];
        tried = tried_both (refresh_of t multi xs) x t u v b m n is.plans (p ∷ []) is.tried [] [] [] c.ends.1.1;
        count = length-append is.plans (p ∷ []) ∙ ap (λ (j : ℕ). j + 1) is.count;
        table = table_both (refresh_of t multi xs) t u v is.table c.table;
        in_table = c.table.in_table x.xorb_block_index (omega (arith, extents)) is.in_table;
        some = inr (omega arith);
        unmoved = λ z. absurd (omega (arith, z));
      }

  pub fetch_done : (g : Fetched) → TryCall (refresh_of u multi xs) x (tries - k) u v m n (Ok (Some g)) → FetchesCall (refresh_of t multi xs) x tries t v b n (Ok g)
  fetch_done g c' =
      let c = moved (Ok (Some g)) c' in
      let count = is.count in
      let all = length-append is.plans [] in
      record {
        keeps = keeps_both b m n is.tried.keeps c.keeps;
        table = table_both (refresh_of t multi xs) t u v is.table c.table;
        ends = (is.plans ++ [], omega (arith, all), data_both (refresh_of t multi xs) x t u v b m n is.plans [] is.tried g c.ends);
      }

  pub fetch_fails : (e : FileReconstructionError) → TryCall (refresh_of u multi xs) x (tries - k) u v m n (Err e) → FetchesCall (refresh_of t multi xs) x tries t v b n (Err e)
  fetch_fails e c' =
      let c = moved (Err e) c' in
      let count = is.count in
      record {
        keeps = keeps_both b m n is.tried.keeps c.keeps;
        table = table_both (refresh_of t multi xs) t u v is.table c.table;
        ends = (is.plans ++ [], fail_both (refresh_of t multi xs) x t u v b m n is.plans [] is.tried (tries - k) tries (omega arith) (omega arith) e c.ends);
      }

pub fetch_none : (r : Refresh) (x : XorbBlock) (t u : TermBlockRetrievalURLs) (b n : ClientTold) (k tries : ℕ) → IsFetching r x t u b n k tries → tries ≤ k → FetchesCall r x tries t u b n (Err (error.ConfigurationError setting.NoTries))
fetch_none r x t u b n k tries is h = record { keeps = is.tried.keeps; table = is.table; ends = (is.plans, (refl, none is.some, (is.unmoved (first is.some)).0, (is.unmoved (first is.some)).1)) }
  where
    none : (k ≡ 0) ⊎ (k < tries) → tries ≡ 0
    none (inl e) = omega arith
    none (inr l) = absurd (omega arith)

    first : (k ≡ 0) ⊎ (k < tries) → k ≡ 0
    first (inl e) = e
    first (inr l) = absurd (omega arith)

-- ---- a block of a list

pub retrieved : (xs : List XorbBlock) (index : ℕ) (c : FetchSettings) (t u : TermBlockRetrievalURLs) (b n : FetchTold) (v w y : XorbBlock) (d : XorbBlockData)
    → slice_get xs index ≡ Some v → slice_get xs index ≡ Some w → v.kept ≡ None → y ≡ record w { kept = Some d }
    → ((x : XorbBlock) → slice_get xs index ≡ Some x → DataCall (refresh_of t c.multirange xs) x c.tries t u b n (Ok d)) → RetrieveCall xs (set xs index y) index c t u b n (Ok tt)
retrieved xs index c t u b n v w y d first second empty made call = record {
  kept = λ x at some. absurd (let same : v ≡ x = same_Some v x (sym first ∙ at) in none_some x.kept (sym (ap (λ (x : XorbBlock). x.kept) same) ∙ empty) some);
  got = λ x at none. record {
    got = Ok d;
    call = call x at;
    keeps = (ap (set xs index) (let same : w ≡ x = same_Some w x (sym second ∙ at) in made ∙ ap (λ (x : XorbBlock). record x { kept = Some d }) same), refl);
  };
}
  where
    none_some : (o : Option XorbBlockData) → o ≡ None → IsSome o → ⊥
    none_some None e h = cc
    none_some (Some x) e h = cc
