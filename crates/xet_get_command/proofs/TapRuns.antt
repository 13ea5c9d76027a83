-- Runs over connections to a valid store behind taps.
use Rattle.std.proofs.Common.{◌≡◌, ℕ, ◌+◌, ◌<◌, ◌≤◌, zero, suc, true, false, cond, Bool, List, [], ◌∷◌, ◌++◌, length, take, Option, Some, None, IsNone, IsSome, Ok, Err, refl, sym, ap, ◌∙◌, arith, inl, inr, subst, ◌⊎◌, ⊎_elim}
use Rattle.std.specs.Prelude.{All, IfErr, IfOk, IfSome, Result, count_by, nat_eq, slice_get}
use Rattle.std.specs.List.{AllZip, concat}
use Rattle.std.specs.Result.{result_ok}
use Rattle.std.proofs.lemmas.Bool.{eqb-true, ne_eqb}
use Rattle.std.proofs.lemmas.List.{append-nil}
use Rattle.std.proofs.lemmas.List.Sums.{sum_by-append, sum_by-cons}
use Rattle.std.proofs.lemmas.List.Elements.{All-cons, All-head, All-nil, All-tail}
use Rattle.xet_base.specs.declared.cas_types.FileRange.{FileRange}
use Rattle.xet_base.specs.Store.{IsValid, Store, file_of}
use Rattle.xet_base.proofs.CallerLemmas.{take-nil}
use Rattle.xet_outside.specs.Answers.{plans_in}
use Rattle.xet_outside.specs.declared.block.BlockBytes.{BlockBytes}
use Rattle.xet_outside.specs.declared.block.BlockRequest.{BlockRequest}
use Rattle.xet_outside.specs.declared.plan.Plan.{Plan}
use Rattle.xet_outside.specs.declared.plan.PlanAnswer.{PlanAnswer}
use Rattle.xet_outside.specs.declared.plan.PlanAnswer.TheVariants.{Found, NoFile}
use Rattle.xet_outside.specs.declared.said.Said.{Said}
use Rattle.xet_outside.specs.declared.said.Said.TheVariants as said
use Rattle.xet_outside.specs.Told.{CacheTold, ClientTold, IsHonest, Query, Rose, SinkTold, Took}
use Rattle.xet_connections.specs.HonestPlans.{PlansAreHonest}
use Rattle.xet_connections.proofs.CallerLemmas.{honest_answer, with_block, with_plan}
use Rattle.xet_store.specs.declared.client_log.ClientLog.{ClientLog}
use Rattle.xet_error.specs.declared.error.Corruption.{Corruption}
use Rattle.xet_error.specs.declared.error.FileReconstructionError.{FileReconstructionError}
use Rattle.xet_error.specs.declared.error.FileReconstructionError.TheVariants as error
use Rattle.xet_error.specs.declared.error.Setting.TheVariants.{NoConnection}
use Rattle.xet_error.specs.Errors.{corruption_number}
use Rattle.xet_offers.specs.declared.reconstruction_terms.xorb_block.XorbBlock.{XorbBlock}
use Rattle.xet_reconstruct.specs.Laws.{AreHonest, HonestAnswersPass}
use Rattle.xet_ties.specs.Causes.{Cause, LaneFails, NoneAtEnd, NothingElse, LowestRose, SomeFailed, expired_answers, refused_setting, total_expiries}
use Rattle.xet_ties.specs.Cuts.{AskedCut, IsSaidPiece, SaidTerm, some_said}
use Rattle.xet_ties.specs.InCall.{Exchange, Look, SomeOne, all_exchanges, expired_said}
use Rattle.xet_ties.specs.Legal.{Legal}
use Rattle.xet_ties.specs.LegalWords.{FirstAsksFew, TookTested, TookWhole}
use Rattle.xet_ties.specs.Saids.{IsBlockAnswer, IsPlanAccepted, IsPlanSaid, IsQueryAnswer, ServedPassed}
use Rattle.xet_ties.proofs.CallerLemmas.{all_told, lane_block}
use Rattle.xet_ties.specs.Setup.{AllTell, RunTold}
use Rattle.xet_ties.specs.Ties.{CutsRange}
use Rattle.xet_terms.specs.Queries.{CutFrom}
use Rattle.xet_terms.specs.Settings.{failing_size}
use Rattle.xet_get_command.specs.declared.wanted.Wanted.{Wanted}
use Rattle.xet_get_command.specs.GetOptions.{greatest_of, lanes_of, least_of}
use Rattle.xet_get_command.specs.steps.PrintedDigits.{CountsOk, TapCause, status_of_answer, told_of}
use Rattle.xet_get_command.specs.steps.TapRuns.{BehindAll}
use Rattle.xet_get_command.specs.Taps.{BlockFailed, FirstBytes, IsMade}
use Rattle.xet_get_command.specs.Wanted.{unmet_setting, wanted_setup}

-- ---- small facts

pub no_some : {A : Type 0} (x : A) → ◌≡◌ {A = Option A} None (Some x) → ⊥
no_some x e = cc

pub took_same : (o : Option (List ℕ)) → Took o o []
took_same None = refl
took_same (Some xs) = ap (λ (l : List ℕ). Some l) (sym (append-nil xs))

-- of the number of connections it matters alone whether there are any
pub same_setting : (q : Wanted) (cs : List ClientTold) → (lanes_of q.options ≡ 0 → length cs ≡ 0) → (length cs ≡ 0 → lanes_of q.options ≡ 0) → refused_setting (wanted_setup q) cs ≡ unmet_setting q
same_setting q cs to from = ap (λ (v : Bool). cond v (Some NoConnection) (failing_size (least_of q.options) (greatest_of q.options))) (by (nat_eq (lanes_of q.options) 0) refl)
  where
    by : (v : Bool) → nat_eq (lanes_of q.options) 0 ≡ v → nat_eq (length cs) 0 ≡ v
    by true e = ap (λ (n : ℕ). nat_eq n 0) (to (eqb-true (lanes_of q.options) 0 e))
    by false e = ne_eqb (length cs) 0 (λ z. let t : nat_eq (lanes_of q.options) 0 ≡ true = ap (λ (n : ℕ). nat_eq n 0) (from z) in cc)

-- ---- connections that neither fail nor tell an expired answer

abbrev pub AreCalm : List ClientTold → Type 0
AreCalm [] = Unit {0}
AreCalm (c ∷ cs) = (c.faults ≡ 0) × (c.expiries ≡ 0) × AreCalm cs

none_rose : (Q : Exchange → Type 0) (cs ds : List ClientTold) (xs : List Exchange) → AreCalm ds → LowestRose Q cs ds xs → ⊥
none_rose Q [] ds xs calm h = h
none_rose Q (c ∷ cs) [] xs calm h = h
none_rose Q (c ∷ cs) (d ∷ ds) [] calm h = h
none_rose Q (c ∷ cs) (d ∷ ds) (x ∷ xs) calm h = ⊎_elim
    (λ (r : Rose c.faults d.faults). let z = calm.0 in absurd (omega (arith, z, r)))
    (λ (r : LowestRose Q cs ds xs). none_rose Q cs ds xs calm.2 r) h.1

none_at_end : (ds : List ClientTold) → AreCalm ds → NoneAtEnd ds
none_at_end [] calm = tt
none_at_end (d ∷ ds) calm = (let z = calm.1 in omega (arith, z), none_at_end ds calm.2)

none_expired : (ds : List ClientTold) → AreCalm ds → total_expiries ds ≡ 0
none_expired [] calm = refl
none_expired (d ∷ ds) calm = let z = calm.1 in let n = none_expired ds calm.2 in omega (arith, z, n)

-- ---- any connections

-- nothing was done for want of memory
pub behind_none : (s : Store) (q : Wanted) (H : Type 0) (k : CacheTold) (b : SinkTold) → BehindAll s q H k b b (Err error.OutOfMemory)
behind_none s q H k b = record {
  exact = λ honest cache. tt;
  prefix = λ honest cache. record { count = 0; within = omega arith; took = took_same b.took };
  cause = tt;
  settings = λ e f. (inr refl, refl);
  counts = tt;
  faults = omega arith;
  unfailed = tt;
  link = refl;
}

module _ (s : Store) (valid : IsValid s) (q : Wanted) (H : Type 0) (cs ds : List ClientTold) (k l : CacheTold) (b n : SinkTold)
    (tells : H → AllTell s cs) (calm : AreCalm ds) (same : refused_setting (wanted_setup q) cs ≡ unmet_setting q) where
  by_cause : (xs : List Exchange) (e : FileReconstructionError) → Cause (wanted_setup q) xs (told_of cs k b) (told_of ds l n) e → TapCause s q H b n e
  by_cause xs error.OutOfMemory h = tt
  by_cause xs error.ClientError h = none_rose (ServedPassed (wanted_setup q) xs) cs ds xs calm h
  by_cause xs error.FileNotFound h = λ honest. (h.some, h.unstored s (tells honest))
  by_cause xs error.UrlExpired h =
      let grew = h.counted (none_at_end ds calm) in
      let none = none_expired ds calm in
      omega (arith, grew, none)
  by_cause xs error.IoError h = h
  by_cause xs (error.CorruptedReconstruction c) h = λ honest. h.untrue s (record { tell = tells honest; valid = valid })
  by_cause xs (error.ConfigurationError e) h = sym same ∙ h
  by_cause xs error.Cancelled h = omega (arith, h)
  by_cause xs (error.InternalWriterError w) h = h

  counts_ok : (xs : List Exchange) (looks : List Look) (answer : Result ℕ FileReconstructionError) → IfOk answer (TookWhole (wanted_setup q) xs looks b n) → CountsOk b n answer
  counts_ok xs looks (Ok m) h = (concat h.pieces, h.took, h.total)
  counts_ok xs looks (Err e) h = tt

  causes_of : (xs : List Exchange) (answer : Result ℕ FileReconstructionError) → IfErr answer (Cause (wanted_setup q) xs (told_of cs k b) (told_of ds l n)) → IfErr answer (TapCause s q H b n)
  causes_of xs (Ok m) h = tt
  causes_of xs (Err e) h = by_cause xs e h

  pub behind_all : (answer : Result ℕ FileReconstructionError) → Legal (wanted_setup q) (told_of cs k b) (told_of ds l n) answer → BehindAll s q H k b n answer
  behind_all answer h = record {
    exact = λ honest cache. h.exact.exact s (record { tell = tells honest; valid = valid }) cache;
    prefix = λ honest cache. h.exact.prefix s (record { tell = tells honest; valid = valid }) cache;
    cause = causes_of h.told.heard answer h.cause;
    settings = λ e f. let r = h.first.settings e (same ∙ f) in (inl r.0, ap (λ (t : RunTold). t.sink.took) r.1);
    counts = counts_ok h.told.heard h.told.looks answer h.written.whole;
    faults = h.later.sink_later;
    unfailed = h.faults.unfailed;
    link = h.later.link;
  }

-- ---- no answer is an expired one

none_more : (xs : List Said) (x : Said) → expired_said x ≡ false → count_by expired_said xs ≡ 0 → count_by expired_said (xs ++ x ∷ []) ≡ 0
none_more xs x e h =
    let f : Said → ℕ = λ y. cond (expired_said y) 1 0 in
    let both = sum_by-append f xs (x ∷ []) in
    let one = sum_by-cons f x [] in
    let none : f x ≡ 0 = rw e refl in
    omega (arith, h, both, one, none)

pub unexpired_plan : (log after : ClientLog) (q : Query) (a : PlanAnswer) → after ≡ with_plan log q a → count_by expired_said log.said ≡ 0 → count_by expired_said after.said ≡ 0
unexpired_plan log after q a e h = rw e (none_more log.said (said.Plan a) refl h)

pub unexpired_block : (log after : ClientLog) (r : BlockRequest) (b : BlockBytes) → after ≡ with_block log r b → count_by expired_said log.said ≡ 0 → count_by expired_said after.said ≡ 0
unexpired_block log after r b e h = rw e (none_more log.said (said.Block b) refl h)

-- ---- answers that are the store's

-- the first connection's answers to queries are the store's
abbrev pub FirstHonest : Store → List Exchange → Type 0
FirstHonest s [] = Unit {0}
FirstHonest s (x ∷ xs) = PlansAreHonest s x.asked (plans_in x.said)

answer_honest : (s : Store) (q : Wanted) (xs : List Exchange) → FirstHonest s xs → (r : FileRange) (a : PlanAnswer) → IsQueryAnswer q.file xs r a → IsHonest s q.file r a
answer_honest s q [] plans r a h = absurd h
answer_honest s q (x ∷ xs) plans r a h = honest_answer s x.asked x.said (q.file, r) a plans h

-- a plan that was said is of a stored file
plan_stored : (s : Store) (q : Wanted) (xs : List Exchange) → FirstHonest s xs → (p : Plan) (r : FileRange) → IsPlanSaid (wanted_setup q) xs p r → IsSome (file_of s q.file)
plan_stored s q [] plans p r h = absurd h.answer
plan_stored s q (x ∷ xs) plans p r h = (honest_answer s x.asked x.said (q.file, r) (Found p) plans (record { place = h.answer.place; query = h.answer.query; answer = h.answer.answer })).0

-- a file that isn't stored has no pieces
no_pieces : (s : Store) (q : Wanted) (xs : List Exchange) → FirstHonest s xs → (looks : List Look) (ts : List SaidTerm) (pieces : List (List ℕ)) → IsNone (file_of s q.file) → AllZip (IsSaidPiece (wanted_setup q) xs looks) ts pieces → pieces ≡ []
no_pieces s q xs plans looks ts [] none h = refl
no_pieces s q xs plans looks [] (p ∷ pieces) none h = absurd h
no_pieces s q xs plans looks (t ∷ ts) (p ∷ pieces) none h =
    let accepted = h.0.of_plan.place.accepted in
    absurd (not_both (file_of s q.file) none (plan_stored s q xs plans h.0.of_plan.place.plan h.0.of_plan.place.query accepted.said))
  where
    not_both : {A : Type 0} (o : Option A) → IsNone o → IsSome o → ⊥
    not_both None n h = cc
    not_both (Some y) n h = cc

-- ---- queries that all cut the range

cut_within : (before : List FileRange) (qs : List Query) (cut : List FileRange) → AskedCut before qs cut → length cut ≤ length qs
cut_within before [] cut h = rw h (omega arith)
cut_within before (q ∷ qs) [] h = omega arith
cut_within before (q ∷ qs) (c ∷ cs) (inl h) = let z = cut_within (c ∷ before) qs cs h.1 in omega (arith, z)
cut_within before (q ∷ qs) (c ∷ cs) (inr h) = let z = cut_within before qs (c ∷ cs) h.1 in omega (arith, z)

-- these have bytes
abbrev Forward : List Query → Type 0
Forward qs = All (λ (q : Query). q.1.start < q.1.end) qs

forward : (before : List FileRange) (qs : List Query) (cut : List FileRange) (place end bound : ℕ) → AskedCut before qs cut → length qs ≤ length cut → CutFrom place end bound cut → Forward qs
forward before [] cut place end bound h few c = All-nil _
forward before (q ∷ qs) [] place end bound h few c = absurd (omega (arith, few))
forward before (q ∷ qs) (r ∷ rs) place end bound (inl h) few c =
    let here : q.1.start < q.1.end = rw h.0 c.1 in
    All-cons (λ (p : Query). p.1.start < p.1.end) q qs here (forward (r ∷ before) qs rs r.end end bound h.1 (omega (arith, few)) c.4)
forward before (q ∷ qs) (r ∷ rs) place end bound (inr h) few c =
    absurd (let z = cut_within before qs (r ∷ rs) h.1 in omega (arith, z, few))

at_place : (P : Query → Type 0) (qs : List Query) (k : ℕ) (q : Query) → All P qs → slice_get qs k ≡ Some q → P q
at_place P [] k q all e = absurd (cc)
at_place P (p ∷ qs) zero q all e = let same : p ≡ q = cc in rw (← same) (All-head P p qs all)
at_place P (p ∷ qs) (suc k) q all e = at_place P qs k q (All-tail P p qs all) e

-- ---- the tests of plans never fail

module _ (pass : HonestAnswersPass) (s : Store) (valid : IsValid s) (q : Wanted) (x : Exchange) (xs : List Exchange) (plans : PlansAreHonest s x.asked (plans_in x.said)) (has_bytes : Forward x.asked) where
  -- the first connection's queries and answers alone
  abbrev bare : Exchange
  bare = record { asked = x.asked; served = []; said = x.said }

  no_blocks : (p k : ℕ) (b : XorbBlock) (given : BlockBytes) → SomeOne (λ y. IsBlockAnswer y p k b given) (bare ∷ []) → ⊥
  no_blocks p k b given (inl h) = no_some _ h.entry
  no_blocks p k b given (inr h) = h

  honest : AreHonest s (wanted_setup q) (bare ∷ [])
  honest = record {
    plans = λ r a h. record {
      forward = at_place (λ (p : Query). p.1.start < p.1.end) x.asked h.place (q.file, r) has_bytes h.query;
      is = honest_answer s x.asked x.said (q.file, r) a plans (record { place = h.place; query = h.query; answer = h.answer });
    };
    blocks = λ p k b given h. absurd (no_blocks p k b given h);
  }

  said_by : (p : Plan) (r : FileRange) → IsPlanSaid (wanted_setup q) (x ∷ xs) p r → IsPlanSaid (wanted_setup q) (bare ∷ []) p r
  said_by p r h = record {
    number = h.number;
    answer = record { place = h.answer.place; some = h.answer.some; at = h.answer.at; query = h.answer.query; answer = h.answer.answer };
    some = h.some;
    from = h.from;
    to = h.to;
  }

  accepted_by : (p : Plan) (r : FileRange) → IsPlanAccepted (wanted_setup q) (x ∷ xs) p r → IsPlanAccepted (wanted_setup q) (bare ∷ []) p r
  accepted_by p r h = record { said = said_by p r h.said; passes = h.passes }

  answered_by : (r : FileRange) (a : PlanAnswer) → IsQueryAnswer q.file (x ∷ xs) r a → IsQueryAnswer q.file (bare ∷ []) r a
  answered_by r a h = record { place = h.place; query = h.query; answer = h.answer }

  block_failed : (k : Corruption) → SomeFailed (wanted_setup q) (x ∷ xs) k → BlockFailed (wanted_setup q) (x ∷ xs) (corruption_number k)
  block_failed k (inl f) = absurd (pass s valid (wanted_setup q) (bare ∷ []) honest k (inl (record { plan = f.plan; query = f.query; said = said_by f.plan f.query f.said; fails = f.fails })))
  block_failed k (inr (inl f)) = absurd (pass s valid (wanted_setup q) (bare ∷ []) honest k (inr (inl (record {
    plan = f.plan;
    query = f.query;
    accepted = accepted_by f.plan f.query f.accepted;
    answer = f.answer;
    answered = answered_by _ f.answer f.answered;
    fails = f.fails;
  }))))
  block_failed k (inr (inr (inl f))) = record { test = k; number_is = refl; fails = inl f }
  block_failed k (inr (inr (inr f))) = record { test = k; number_is = refl; fails = inr f }

-- ---- what was written

module _ (pass : HonestAnswersPass) (s : Store) (valid : IsValid s) (q : Wanted) (cs ds : List ClientTold) (k l : CacheTold) (b n : SinkTold)
    (same : refused_setting (wanted_setup q) cs ≡ unmet_setting q)
    (xs : List Exchange) (is : all_exchanges cs ds ≡ Some xs) (plans : FirstHonest s xs) (unexpired : expired_answers xs ≡ 0) where
  -- what was written, over these blocks
  abbrev Made : Result ℕ FileReconstructionError → List Look → Type 0
  Made answer looks = (bytes : List ℕ) × Took b.took n.took bytes × IfSome (result_ok answer) (λ m. m ≡ length bytes) × IsMade s q xs looks (status_of_answer answer) bytes

  -- what holds of what was heard holds of what is told
  here : (P : List Exchange → Type 0) (answer : Result ℕ FileReconstructionError) (h : Legal (wanted_setup q) (told_of cs k b) (told_of ds l n) answer) → P h.told.heard → P xs
  here P answer h p =
      let heard : xs ≡ h.told.heard = subst (λ (o : Option (List Exchange)). IfSome o (λ ys. ys ≡ h.told.heard)) is (all_told cs ds h.told.heard h.told.exchanges) in
      subst P (sym heard) p

  -- the test that failed is a block's or a term's
  block_is : (test : Corruption) → FirstAsksFew (wanted_setup q) xs → SomeFailed (wanted_setup q) xs test → BlockFailed (wanted_setup q) xs (corruption_number test)
  block_is test few failed = by xs plans unexpired few failed
    where
      by : (xs : List Exchange) → FirstHonest s xs → expired_answers xs ≡ 0 → FirstAsksFew (wanted_setup q) xs → SomeFailed (wanted_setup q) xs test → BlockFailed (wanted_setup q) xs (corruption_number test)
      by [] plans none few (inl f) = absurd f.said.answer
      by [] plans none few (inr (inl f)) = absurd f.answered
      by [] plans none few (inr (inr (inl f))) = absurd f.bytes
      by [] plans none few (inr (inr (inr f))) = absurd f.bytes
      by (x ∷ xs) plans none few failed =
          let count = few.few in
          let cuts : CutsRange (wanted_setup q) few.cut = few.cuts in
          block_failed pass s valid q x xs plans (forward [] x.asked few.cut q.range.start q.range.end (greatest_of q.options + least_of q.options) few.asked (omega (arith, count, none)) cuts.from) test failed

  -- so it is in the cause
  failed_is : (test : Corruption) → FirstAsksFew (wanted_setup q) xs → (SomeFailed (wanted_setup q) xs test × NothingElse (wanted_setup q) xs cs ds) ⊎ LaneFails (wanted_setup q) xs cs ds test → BlockFailed (wanted_setup q) xs (corruption_number test)
  failed_is test few (inl f) = block_is test few f.0
  failed_is test few (inr f) = record { test = test; number_is = refl; fails = inl (lane_block (wanted_setup q) xs cs ds test f) }

  pub made : (answer : Result ℕ FileReconstructionError) → (h : Legal (wanted_setup q) (told_of cs k b) (told_of ds l n) answer) → Made answer h.told.looks
  made (Ok m) h =
      let all : TookWhole (wanted_setup q) xs h.told.looks b n m = here (λ xs. TookWhole (wanted_setup q) xs h.told.looks b n m) (Ok m) h h.written.whole in
      (concat all.pieces, all.took, all.total, record { all = all.all; pieces = all.pieces; each = all.each; is = refl })
  made (Err e) h = by_error e (here (λ xs. Cause (wanted_setup q) xs (told_of cs k b) (told_of ds l n) e) (Err e) h h.cause)
    where
      some : TookTested (wanted_setup q) xs h.told.looks b n
      some = here (λ xs. TookTested (wanted_setup q) xs h.told.looks b n) (Err e) h h.written.tested

      bytes : List ℕ
      bytes = take some.took.count (concat some.pieces)

      first : FirstBytes (wanted_setup q) xs h.told.looks bytes
      first = inr (record { planning = some.planning; pieces = some.pieces; each = some.each; count = some.took.count; is = refl })

      by_error : (e : FileReconstructionError) → Cause (wanted_setup q) xs (told_of cs k b) (told_of ds l n) e → Made (Err e) h.told.looks
      by_error error.OutOfMemory h = (bytes, some.took.took, tt, first)
      by_error error.ClientError h = (bytes, some.took.took, tt, first)
      by_error error.FileNotFound cause =
          let said = cause.said in
          let none = answer_honest s q xs plans said.0 NoFile said.1 in
          let nothing = no_pieces s q xs plans h.told.looks (take (length some.pieces) (some_said (wanted_setup q) some.planning.parts)) some.pieces none some.each in
          (bytes, some.took.took, tt, ((cause.some, none), rw nothing (take-nil some.took.count)))
      by_error error.UrlExpired h = (bytes, some.took.took, tt, first)
      by_error error.IoError h = (bytes, some.took.took, tt, first)
      by_error (error.CorruptedReconstruction test) cause =
          (bytes, some.took.took, tt, (first, failed_is test (here (FirstAsksFew (wanted_setup q)) (Err e) h h.queries.few) cause.failed))
      by_error (error.ConfigurationError e) f =
          let took : n.took ≡ b.took = ap (λ (t : RunTold). t.sink.took) (h.first.settings e f).1 in
          ([], took ∙ took_same b.took, tt, (sym same ∙ f, refl))
      by_error error.Cancelled h = (bytes, some.took.took, tt, first)
      by_error (error.InternalWriterError w) h = (bytes, some.took.took, tt, first)
