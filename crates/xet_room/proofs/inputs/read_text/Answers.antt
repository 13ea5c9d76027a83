use Rattle.std.proofs.Common.{inl, inr, refl}
use Rattle.xet_room.proofs.inputs.read_text.Goals as goal

pub returns-in-Ok-clause-over : goal.returns-in-Ok-clause-over
returns-in-Ok-clause-over g c =
    let read = rw c.in-Ok.is at c.read_to_end.ensures in
    record {
      most = read.most;
      read = λ t l. ((read.bytes t l).1, (read.bytes t l).2);
      text_is = λ t l. (read.bytes t l).0;
    }

pub returns-in-Err-OutOfMemory-clause-unread : goal.returns-in-Err-OutOfMemory-clause-unread
returns-in-Err-OutOfMemory-clause-unread g c = inr (inr c.say.ensures.text)

pub returns-in-Err-Fault-clause-unread : goal.returns-in-Err-Fault-clause-unread
returns-in-Err-Fault-clause-unread g c =
    let read = rw (c.in-Err-Fault.is, c.in-Err-Fault.field-0-is) at c.read_to_end.ensures in
    inl (read.fault refl, c.say-in-Err-Fault.ensures.text)

pub returns-in-Err-TooLong-clause-unread : goal.returns-in-Err-TooLong-clause-unread
returns-in-Err-TooLong-clause-unread g c =
    let read = rw (c.in-Err-TooLong.is, c.in-Err-TooLong.field-0-is) at c.read_to_end.ensures in
    inr (inl (λ text e. read.too_long text e refl, c.say-in-Err-TooLong.ensures.text))
