use Rattle.std.proofs.Common.{rules, ◌≡◌, ◌+◌, ◌++◌, length}
use Rattle.std.proofs.Math.Seq.{take-append_seam}
use Rattle.xet_outside.specs.Places.{put_at}
use Rattle.xet_sinks.proofs.MemCalls.{mem_refused, mem_took}
use Rattle.xet_sinks.proofs.PutGrown.{mem_more}
use Rattle.xet_sinks.proofs.mem_file.MemFileSink.write.Goals as goal

pub invariant_of-self-in-Ok : goal.invariant_of-self-in-Ok
invariant_of-self-in-Ok c =
    let e : c.extend_from_slice.new.self.items ≡ c.args.self.now.taken.items ++ c.args.piece.now = search rules in
    let p : (c.in-Ok.end ≡ c.args.self.now.place + length c.args.piece.now)
    × (c.put.new.content.items ≡ put_at c.args.self.now.content.items c.args.self.now.place c.args.piece.now)
    = search rules in
    record {
      stands = rw e (mem_more c.args.self.now.content.items c.put.new.content.items c.args.self.now.taken.items
          c.args.self.now.set_content.value.items c.args.piece.now c.args.self.now.place c.in-Ok.end
          c.args.self.now.set_place.value c.args.self.now.set_taken.value c.args.self.now.stands p.1 p.0);
    }

pub invariant_of-self : goal.invariant_of-self
invariant_of-self c =
    let e : c.extend_from_slice.new.self.items ≡ c.args.self.now.taken.items = search rules in
    record { stands = rw e c.args.self.now.stands }

pub returns-then-is_err-clause-call : goal.returns-then-is_err-clause-call
returns-then-is_err-clause-call c =
    let e : c.extend_from_slice.new.self.items ≡ c.args.self.now.taken.items = search rules in
    mem_refused _ _ _ _ _ _ _ e

pub returns-in-Ok-clause-call : goal.returns-in-Ok-clause-call
returns-in-Ok-clause-call c =
    let e : c.extend_from_slice.new.self.items ≡ c.args.self.now.taken.items ++ c.args.piece.now = search rules in
    mem_took _ _ _ _ _ _ _ e

pub invariant_of-self-in-Err : goal.invariant_of-self-in-Err
invariant_of-self-in-Err c =
    let e : c.extend_from_slice.new.self.items ≡ c.args.self.now.taken.items ++ c.args.piece.now = search rules in
    let n : c.len-taken.result ≡ length c.args.self.now.taken.items = search rules in
    let t = rw (n, e, take-append_seam) at c.truncate.ensures.items in
    let k : c.put.new.content.items ≡ c.args.self.now.content.items = search rules in
    record { stands = rw (t, k) c.args.self.now.stands }

pub returns-in-Err-clause-call : goal.returns-in-Err-clause-call
returns-in-Err-clause-call c =
    let e : c.extend_from_slice.new.self.items ≡ c.args.self.now.taken.items ++ c.args.piece.now = search rules in
    let n : c.len-taken.result ≡ length c.args.self.now.taken.items = search rules in
    let t = rw (n, e, take-append_seam) at c.truncate.ensures.items in
    mem_refused _ _ _ _ _ _ _ t
