use Rattle.std.proofs.Common.{◌≡◌, Err, refl}
use Rattle.xet_base.proofs.CallerLemmas.{err-of}
use Rattle.xet_outside.specs.declared.client.ClientError.TheVariants as client_error
use Rattle.xet_uploader.proofs.ChunkFinds.{records-same}
use Rattle.xet_uploader.proofs.RefusedPuts.{shard_failed, shard_refused}
use Rattle.xet_uploader.proofs.mem_uploader.MemUploaderUploader.put_shard.Goals as goal

pub invariant_of-self-2 : goal.invariant_of-self-2
invariant_of-self-2 c =
    let old = c.args.self.now in
    record {
      indexed = rw (c.push_reserved.ensures.items, c.in_ok-reserve.ensures.same) (records-same old.log.items c.in_ok-copy.copy old.records old.indexed);
    }

pub returns-then-fails_now : goal.returns-then-fails_now
returns-then-fails_now c =
    let f = c.fails_now.ensures in
    record {
      call = shard_failed _ _ refl refl refl refl f.later c.args.shard.now (f.rose c.if-fails_now.true);
      sent = tt;
      fails = (λ _. f.is.0 c.if-fails_now.true, λ _. refl);
      counted = f.calls;
      faults = rw c.if-fails_now.true at f.faults;
      same = f.same;
      store = refl;
    }

pub returns-in_err-reserve : goal.returns-in_err-reserve
returns-in_err-reserve c =
    let f = c.fails_now.ensures in
    let e : c.from_residual.result ≡ Err client_error.OutOfMemory = err-of _ _ c.from_residual.ensures in
    let faults = rw c.if-fails_now.false at f.faults in
    rw e (record {
      call = shard_refused _ _ refl (rw c.reserve.ensures.same refl) refl refl f.later c.args.shard.now faults;
      sent = tt;
      fails = (λ x. cc, λ k. absurd (let t = f.is.1 k in let n = c.if-fails_now.false in cc));
      counted = f.calls;
      faults = faults;
      same = f.same;
      store = refl;
    })

pub returns-in_err-copy : goal.returns-in_err-copy
returns-in_err-copy c =
    let f = c.fails_now.ensures in
    let e : c.from_residual-in_err-copy.result ≡ Err client_error.OutOfMemory =
    err-of _ _ c.from_residual-in_err-copy.ensures in
    let faults = rw c.if-fails_now.false at f.faults in
    rw e (record {
      call = shard_refused _ _ refl (rw c.reserve.ensures.same refl) refl refl f.later c.args.shard.now faults;
      sent = tt;
      fails = (λ x. cc, λ k. absurd (let t = f.is.1 k in let n = c.if-fails_now.false in cc));
      counted = f.calls;
      faults = faults;
      same = f.same;
      store = refl;
    })
