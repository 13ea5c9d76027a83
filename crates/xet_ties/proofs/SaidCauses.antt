-- The causes that the answers which were said give.
use Rattle.std.proofs.Common.{◌≡◌, ℕ, zero, suc, ◌<◌, ◌≤◌, List, [], ◌∷◌, ◌++◌, length, refl, sym, subst, ◌∙◌, ap, arith, inl, inr, Some, None, Option}
use Rattle.std.specs.Prelude.{Result, Err, slice_get}
use Rattle.xet_base.specs.declared.cas_types.FileRange.{FileRange}
use Rattle.xet_base.specs.declared.unique_id.UniqueId.{UniqueId}
use Rattle.xet_outside.specs.Answers.{AnswerTo, bytes_in}
use Rattle.xet_outside.specs.Plan.{shape}
use Rattle.xet_outside.specs.Told.{ClientTold, served_of}
use Rattle.xet_outside.specs.declared.plan.Plan.{Plan}
use Rattle.xet_outside.specs.declared.plan.PlanAnswer.{PlanAnswer}
use Rattle.xet_outside.specs.declared.plan.PlanAnswer.TheVariants.{Found, PastEnd, NoFile}
use Rattle.xet_outside.specs.declared.plan.PlanTerm.{PlanTerm}
use Rattle.xet_outside.specs.declared.said.Said.{Said}
use Rattle.xet_outside.specs.declared.served.Served.{Served}
use Rattle.xet_outside.proofs.CallerLemmas.{answer_after}
use Rattle.xet_error.specs.declared.error.Corruption.{Corruption}
use Rattle.xet_error.specs.declared.error.FileReconstructionError.{FileReconstructionError}
use Rattle.xet_error.specs.declared.error.FileReconstructionError.TheVariants as error
use Rattle.xet_blocks.specs.declared.reconstruction_terms.file_term.TermBlock.{TermBlock}
use Rattle.xet_offers.specs.declared.reconstruction_terms.xorb_block.XorbBlock.{XorbBlock}
use Rattle.xet_offers.specs.BlockCalls.{failed_check}
use Rattle.xet_offers.specs.PlanChecks.{covered, failed_test}
use Rattle.xet_blocks.specs.TermBlockCalls.{FromAnswer, FromSaid, FromTerms, FromTested}
use Rattle.xet_fetch.specs.Refreshes.{plan_extents, refusal_of}
use Rattle.xet_ties.specs.Causes.{BlockFails, BlockFailsIn, LaneFails, SomeFailed, TermFailsIn}
use Rattle.xet_ties.specs.History.{entry_of}
use Rattle.xet_ties.specs.InCall.{Exchange, SomeOne}
use Rattle.xet_ties.specs.Lanes.{Ask, BytesFail, IsFor}
use Rattle.xet_ties.specs.Saids.{BlockOfPlan, IsCutAnswer, IsPlanAccepted, IsQueryAnswer, TermOfPlan, planned_of}
use Rattle.xet_ties.specs.Setup.{Setup}
use Rattle.xet_ties.specs.PartCalls.{plan_query}
use Rattle.xet_ties.proofs.SaidTies.{fetch_entry}

-- ---- failed tests

-- bytes that a lane's connection said in answer to a block's own request fail its tests
pub step_fails : (g : Setup) (xs : List Exchange) (place : BlockOfPlan g xs) (b : ClientTold) (x : Exchange) (h : List Served) (more : List Said) (a : Ask) (k : Corruption) → length x.served ≡ length (bytes_in x.said) → IsFor a
    → place.block ≡ a.block → place.number ≡ a.request.index → BytesFail b h more a k
    → BlockFailsIn g xs place a.request.acquisition.plan k (record { asked = x.asked; served = x.served ++ h; said = x.said ++ more })
step_fails g xs place b x h more a k same own block number t =
    let entry : served_of a.request ≡ entry_of a.request.acquisition.plan place.number (planned_of place.block) =
    fetch_entry a own ∙ ap (λ (i : ℕ). entry_of a.request.acquisition.plan i (planned_of a.block)) (sym number) ∙ ap (λ (y : XorbBlock). entry_of a.request.acquisition.plan place.number (planned_of y)) (sym block) in
    record {
      given = t.given;
      answer = subst (λ (e : Served). AnswerTo (x.served ++ h) (x.said ++ more) e t.given) entry (answer_after x.served h x.said more (served_of a.request) t.given same t.answer);
      fails = subst (λ (y : XorbBlock). failed_check y t.given ≡ Some k) (sym block) t.fails;
    }

some_at : (P : Exchange → Type 0) (xs : List Exchange) (i : ℕ) (x : Exchange) → slice_get xs i ≡ Some x → P x → SomeOne P xs
some_at P [] i x e h = absurd (cc)
some_at P (y ∷ xs) zero x e h = let same : y ≡ x = cc in inl (subst P (sym same) h)
some_at P (y ∷ xs) (suc i) x e h = inr (some_at P xs i x e h)

-- what fails in a lane is a block
pub lane_block : (g : Setup) (xs : List Exchange) (bs ns : List ClientTold) (k : Corruption) → LaneFails g xs bs ns k → BlockFails g xs k
lane_block g xs bs ns k f = record { place = f.place; number = f.number; own = f.own; bytes = some_at (BlockFailsIn g xs f.place f.number k) xs f.lane f.exchange f.at f.bytes }

pub term_fails : (g : Setup) (xs : List Exchange) (k : Corruption) (place : TermOfPlan g xs) (p : ℕ) → p ≡ place.place.accepted.said.number → SomeOne (TermFailsIn g xs place p k) xs → SomeFailed g xs k
term_fails g xs k place p own h = inr (inr (inr (record { place = place; number = p; own = own; bytes = h })))

plan_tested : (g : Setup) (xs : List Exchange) (n : ℕ) (p : Plan) (q : FileRange) (id : UniqueId) (k : Corruption) (o : Option Corruption) → g.range.start ≤ q.start → q.end ≤ g.range.end → IsCutAnswer g.file xs n q (Found p) → 0 < length p.terms → failed_test (shape p) q g.multirange ≡ o
    → FromTested p (plan_query g q id) o (Err (error.CorruptedReconstruction k)) → SomeFailed g xs k
plan_tested g xs n p q id k None from to c some e f = let same = f.1 in absurd (cc)
plan_tested g xs n p q id k (Some j) from to c some e f =
    let same : ◌≡◌ {A = Result (Option TermBlock) FileReconstructionError} (Err (error.CorruptedReconstruction k)) (Err (error.CorruptedReconstruction j)) = f in
    let is : j ≡ k = cc in
    inl (record { plan = p; query = q; said = record { number = n; answer = c; some = some; from = from; to = to }; fails = e ∙ ap (λ (z : Corruption). Some z) is })

plan_terms : (g : Setup) (xs : List Exchange) (n : ℕ) (p : Plan) (q : FileRange) (id : UniqueId) (k : Corruption) (ts : List PlanTerm) → g.range.start ≤ q.start → q.end ≤ g.range.end → IsCutAnswer g.file xs n q (Found p) → p.terms ≡ ts
    → FromTerms p (plan_query g q id) ts (Err (error.CorruptedReconstruction k)) → SomeFailed g xs k
plan_terms g xs n p q id k [] from to c e f = absurd (cc)
plan_terms g xs n p q id k (t ∷ ts) from to c e f =
    let m = ap (λ (l : List PlanTerm). length l) e in
    plan_tested g xs n p q id k (failed_test (shape p) q g.multirange) from to c (omega (arith, m)) refl f

-- a query in the range was answered with a plan that fails a test
pub plan_fails : (g : Setup) (xs : List Exchange) (n : ℕ) (q : FileRange) (id : UniqueId) (k : Corruption) (b to : ClientTold) → g.range.start ≤ q.start → q.end ≤ g.range.end → (from : FromSaid b to (plan_query g q id) (Err (error.CorruptedReconstruction k))) → IsCutAnswer g.file xs n q from.plan → SomeFailed g xs k
plan_fails g xs n q id k b to above below from c = by from.plan c from.from
  where
    by : (a : PlanAnswer) → IsCutAnswer g.file xs n q a → FromAnswer (plan_query g q id) a (Err (error.CorruptedReconstruction k)) → SomeFailed g xs k
    by NoFile c f = absurd (cc)
    by PastEnd c f = absurd (cc)
    by (Found p) c f = plan_terms g xs n p q id k p.terms above below c refl f

-- a file is missing only by an answer that says so
pub file_missing : (g : Setup) (q : FileRange) (id : UniqueId) (b n : ClientTold) → (from : FromSaid b n (plan_query g q id) (Err error.FileNotFound)) → from.plan ≡ NoFile
file_missing g q id b n from = by from.plan from.from
  where
    tested : (p : Plan) (o : Option Corruption) → FromTested p (plan_query g q id) o (Err error.FileNotFound) → ⊥
    tested p None h = let same = h.1 in cc
    tested p (Some j) h = cc

    terms : (p : Plan) (ts : List PlanTerm) → FromTerms p (plan_query g q id) ts (Err error.FileNotFound) → ⊥
    terms p [] h = cc
    terms p (t ∷ ts) h = tested p (failed_test (shape p) q g.multirange) h

    by : (a : PlanAnswer) → FromAnswer (plan_query g q id) a (Err error.FileNotFound) → a ≡ NoFile
    by NoFile h = refl
    by PastEnd h = absurd (cc)
    by (Found p) h = absurd (terms p p.terms h)

-- a plan's refresh was refused by a test
pub refresh_fails : (g : Setup) (xs : List Exchange) (p : Plan) (q : FileRange) (a : PlanAnswer) (k : Corruption) → IsPlanAccepted g xs p q → IsQueryAnswer g.file xs (covered (shape p) q) a
    → refusal_of (covered (shape p) q) g.multirange (plan_extents (shape p) g.multirange) a ≡ Some (error.CorruptedReconstruction k) → SomeFailed g xs k
refresh_fails g xs p q a k accepted answered fails = inr (inl (record { plan = p; query = q; accepted = accepted; answer = a; answered = answered; fails = fails }))
