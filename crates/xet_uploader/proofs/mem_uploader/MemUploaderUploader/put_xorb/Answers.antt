use Rattle.std.proofs.Common.{◌≡◌, Err, refl}
use Rattle.xet_base.proofs.CallerLemmas.{err-of}
use Rattle.xet_outside.specs.declared.client.ClientError.TheVariants as client_error
use Rattle.xet_uploader.proofs.ChunkFinds.{records-push}
use Rattle.xet_uploader.proofs.RefusedPuts.{xorb_failed, xorb_refused}
use Rattle.xet_uploader.proofs.mem_uploader.MemUploaderUploader.put_xorb.Goals as goal

pub invariant_of-self-2 : goal.invariant_of-self-2
invariant_of-self-2 c =
    let old = c.args.self.now in
    record {
      indexed =
          rw (c.push_reserved.ensures.items, c.in_ok-reserve.ensures.same, c.in_ok-add_record.ensures.ok, c.in_ok-copy.ensures)
          (records-push old.log.items c.args.xorb.now old.records old.indexed);
    }

pub returns-then-fails_now : goal.returns-then-fails_now
returns-then-fails_now c =
    let f = c.fails_now.ensures in
    record {
      call = xorb_failed _ _ refl refl refl refl f.later c.args.xorb.now (f.rose c.if-fails_now.true);
      fails = (λ _. f.is.0 c.if-fails_now.true, λ _. refl);
      counted = f.calls;
      faults = rw c.if-fails_now.true at f.faults;
      same = f.same;
      store = refl;
    }

pub returns-in_err-reserve : goal.returns-in_err-reserve
returns-in_err-reserve c =
    let f = c.fails_now.ensures in
    let e : c.from_residual.result ≡ Err client_error.OutOfMemory = err-of _ _ c.from_residual.ensures in
    let faults = rw c.if-fails_now.false at f.faults in
    rw e (record {
      call = xorb_refused _ _ refl (rw c.reserve.ensures.same refl) refl refl f.later c.args.xorb.now faults;
      fails = (λ x. cc, λ k. absurd (let t = f.is.1 k in let n = c.if-fails_now.false in cc));
      counted = f.calls;
      faults = faults;
      same = f.same;
      store = refl;
    })

pub returns-in_err-copy : goal.returns-in_err-copy
returns-in_err-copy c =
    let f = c.fails_now.ensures in
    let e : c.from_residual-in_err-copy.result ≡ Err client_error.OutOfMemory =
    err-of _ _ c.from_residual-in_err-copy.ensures in
    let faults = rw c.if-fails_now.false at f.faults in
    rw e (record {
      call = xorb_refused _ _ refl (rw c.reserve.ensures.same refl) refl refl f.later c.args.xorb.now faults;
      fails = (λ x. cc, λ k. absurd (let t = f.is.1 k in let n = c.if-fails_now.false in cc));
      counted = f.calls;
      faults = faults;
      same = f.same;
      store = refl;
    })

pub returns-in_err-add_record : goal.returns-in_err-add_record
returns-in_err-add_record c =
    let f = c.fails_now.ensures in
    let e : c.from_residual-in_err-add_record.result ≡ Err client_error.OutOfMemory =
    err-of _ _ c.from_residual-in_err-add_record.ensures in
    let faults = rw c.if-fails_now.false at f.faults in
    rw e (record {
      call = xorb_refused _ _ refl (rw c.reserve.ensures.same refl) refl refl f.later c.args.xorb.now faults;
      fails = (λ x. cc, λ k. absurd (let t = f.is.1 k in let n = c.if-fails_now.false in cc));
      counted = f.calls;
      faults = faults;
      same = f.same;
      store = refl;
    })
