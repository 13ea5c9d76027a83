-- What a connection behind a tap of its own tells of one call.
use Rattle.std.proofs.Common.{◌≡◌, inl, Bool, true, false, cond, refl, ◌∙◌, ap, arith}
use Rattle.std.specs.Prelude.{Option, Some, None, Result, Ok, Err}
use Rattle.xet_base.specs.Store.{Store}
use Rattle.xet_base.specs.declared.cas_types.FileRange.{FileRange}
use Rattle.xet_base.specs.declared.error.OutOfMemory.{OutOfMemory}
use Rattle.xet_base.specs.declared.merklehash.MerkleHash.{MerkleHash}
use Rattle.xet_outside.specs.Told.{BlockCall, IsHonest, IsHonestBlock, PlanCall, through_tap, to_store}
use Rattle.xet_outside.specs.declared.block.BlockAnswer.TheVariants.{Bytes, Expired}
use Rattle.xet_outside.specs.declared.block.BlockBytes.{BlockBytes}
use Rattle.xet_outside.specs.declared.block.BlockRequest.{BlockRequest}
use Rattle.xet_outside.specs.declared.client.ClientError.{ClientError}
use Rattle.xet_outside.specs.declared.client.ClientError.TheVariants as client_error
use Rattle.xet_outside.specs.declared.plan.PlanAnswer.{PlanAnswer}
use Rattle.xet_outside.specs.declared.said.Said.TheVariants as said
use Rattle.xet_store.specs.Taps.{PassCall, TapTold, given_count}
use Rattle.xet_store.specs.declared.client_log.ClientLog.{ClientLog}
use Rattle.xet_connections.proofs.CallerLemmas.{said_grew, with_block, with_plan}
use Rattle.xet_get_command.specs.steps.OwnTaps.{behind_own}

-- an answer is no error, nor another error
ok_err : {A P : Type 0} (a : A) (e : ClientError) → ◌≡◌ {A = Result A ClientError} (Ok a) (Err e) → P
ok_err a e f = absurd (cc)

memory_failed : {A P : Type 0} → ◌≡◌ {A = Result A ClientError} (Err client_error.OutOfMemory) (Err client_error.Failed) → P
memory_failed f = absurd (cc)

bytes_expired : {P : Type 0} (b : BlockBytes) → Bytes b ≡ Expired → P
bytes_expired b f = absurd (cc)

some_same : (s r : Store) → ◌≡◌ {A = Option Store} (Some s) (Some r) → s ≡ r
some_same s r e = cc

-- what is so of the store is so of the one that is told, where it is
told_store : (P : Store → Type 0) (v : Bool) (s : Store) → P s → (r : Store) → cond v (Some s) None ≡ Some r → P r
told_store P true s h r e = let same : s ≡ r = some_same s r e in rw (← same) h
told_store P false s h r e = absurd (cc)

-- a block of the store that an honest tap handed on
handed_on : (v : Bool) (s r : Store) (q : BlockRequest) (block a : BlockBytes) → (v ≡ true → a ≡ block) → IsHonestBlock s q (Bytes block) → cond v (Some s) None ≡ Some r → IsHonestBlock r q (Bytes a)
handed_on true s r q block a same h e = let is : s ≡ r = some_same s r e in rw (← is) (λ holds. same refl ∙ h holds)
handed_on false s r q block a same h e = absurd (cc)

module _ (s r : Store) (same : r ≡ s) (log : ClientLog) (start t : TapTold) where
  store_same : cond t.honest (Some r) None ≡ cond t.honest (Some s) None
  store_same = ap (λ (z : Store). cond t.honest (Some z) None) same

  link_same : through_tap 0 (through_tap (given_count start) (to_store r)) ≡ through_tap 0 (through_tap (given_count start) (to_store s))
  link_same = ap (λ (z : Store). through_tap 0 (through_tap (given_count start) (to_store z))) same

  module _ (file : MerkleHash) (range : FileRange) where
    -- the store gave no plan
    pub plan_refused : (e : ClientError) → e ≡ client_error.OutOfMemory → PlanCall (behind_own s log start t) (behind_own r log start t) file range (Err e)
    plan_refused e is = rw is (record {
      store = store_same;
      honest = λ z w. tt;
      asked = tt;
      maybe_asked = inl refl;
      said = tt;
      unsaid = refl;
      served = refl;
      faults = omega arith;
      failed = memory_failed;
      unfailed = tt;
      expiries = omega arith;
      link = link_same;
    })

    -- the store's plan
    pub plan_given : (after : ClientLog) (a : PlanAnswer) → after ≡ with_plan log (file, range) a → IsHonest s file range a → PlanCall (behind_own s log start t) (behind_own r after start t) file range (Ok a)
    plan_given after a grown h = record {
      store = store_same;
      honest = told_store (λ z. IsHonest z file range a) t.honest s h;
      asked = ap (λ (l : ClientLog). Some l.asked) grown;
      maybe_asked = tt;
      said = said_grew start log after (said.Plan a) (ap (λ (l : ClientLog). l.said) grown);
      unsaid = tt;
      served = refl;
      faults = omega arith;
      failed = ok_err a client_error.Failed;
      unfailed = refl;
      expiries = omega arith;
      link = link_same;
    }

  module _ (q : BlockRequest) where
    -- the store gave no block
    pub block_refused : (e : ClientError) → e ≡ client_error.OutOfMemory → BlockCall (behind_own s log start t) (behind_own r log start t) q (Err e)
    block_refused e is = rw is (record {
      store = store_same;
      honest = λ z w. tt;
      asked = refl;
      said = tt;
      unsaid = refl;
      served = tt;
      unserved = refl;
      faults = omega arith;
      failed = memory_failed;
      unfailed = tt;
      expiries = omega arith;
      link = link_same;
      expired = tt;
    })

    module _ (u : TapTold) (block : BlockBytes) where
      -- the tap handed none on
      pub block_kept : (e : OutOfMemory) → PassCall t u q block (Err e) → BlockCall (behind_own s log start t) (behind_own r log start u) q (Err client_error.OutOfMemory)
      block_kept e call = record {
        store = λ i. cond (call.honest i) (Some (same i)) None;
        honest = λ z w. tt;
        asked = refl;
        said = tt;
        unsaid = refl;
        served = tt;
        unserved = call.not_passed;
        faults = omega arith;
        failed = memory_failed;
        unfailed = tt;
        expiries = omega arith;
        link = link_same;
        expired = tt;
      }

      -- the block as the tap handed it on
      pub block_handed : (after : ClientLog) (a : BlockBytes) → after ≡ with_block log q a → PassCall t u q block (Ok a) → IsHonestBlock s q (Bytes block)
          → BlockCall (behind_own s log start t) (behind_own r after start u) q (Ok (Bytes a))
      block_handed after a grown call h = record {
        store = λ i. cond (call.honest i) (Some (same i)) None;
        honest = λ z w. handed_on t.honest s z q block a call.same h w;
        asked = ap (λ (l : ClientLog). Some l.asked) grown;
        said = said_grew start log after (said.Block a) (ap (λ (l : ClientLog). l.said) grown);
        unsaid = tt;
        served = call.passed;
        unserved = tt;
        faults = omega arith;
        failed = ok_err (Bytes a) client_error.Failed;
        unfailed = refl;
        expiries = omega arith;
        link = link_same;
        expired = bytes_expired a;
      }
