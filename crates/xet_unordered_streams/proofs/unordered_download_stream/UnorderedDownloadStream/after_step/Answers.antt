use Rattle.std.proofs.Common.{subst, sym, Err}
use Rattle.xet_stream_rules.specs.Streams.{IsOpen}
use Rattle.xet_stream_rules.specs.Unordered.{UnorderedView}
use Rattle.xet_unordered_streams.specs.Items.{AfterStep, FailsDue}
use Rattle.xet_unordered_streams.specs.steps.Giving.{AnyDue, DueFor, KeepsOn}
use Rattle.xet_unordered_streams.proofs.Gives.{fails_it, fails_plain, gives_after}
use Rattle.xet_unordered_streams.proofs.unordered_download_stream.UnorderedDownloadStream.after_step.Goals as goal

pub find_any-requires : goal.find_any-requires
find_any-requires g c = c.requires.still

pub give-requires-clause-still : goal.give-requires-clause-still
give-requires-clause-still g c =
    subst (λ (z : UnorderedView). IsOpen z.stream) (sym c.in-Ok-Some.ensures.same) c.requires.still

pub give-requires-clause-due : goal.give-requires-clause-due
give-requires-clause-due g c =
    subst (λ (z : UnorderedView). DueFor z c.in-Ok-Some.due) (sym c.in-Ok-Some.ensures.same)
    (rw c.in-Ok-Some.field-0-is at c.in-Ok-Some.ensures.any)

pub fail-requires-clause-still : goal.fail-requires-clause-still
fail-requires-clause-still g c =
    subst (λ (z : UnorderedView). IsOpen z.stream) (sym c.in-Err.ensures.same) c.requires.still

pub fail-requires-clause-plain : goal.fail-requires-clause-plain
fail-requires-clause-plain g c = fails_plain c.args.self.now c.in-Err.error c.in-Err.ensures.any

pub returns-in-Ok-Some-clause-after : goal.returns-in-Ok-Some-clause-after
returns-in-Ok-Some-clause-after g c =
    subst (λ (z : UnorderedView). AfterStep z c.give.new.self c.give.result) c.in-Ok-Some.ensures.same
    (gives_after c.find_any.new.self c.give.new.self c.give.result c.give.ensures.gives)

pub returns-in-Ok-Some-clause-stands : goal.returns-in-Ok-Some-clause-stands
returns-in-Ok-Some-clause-stands g c =
    subst (λ (z : UnorderedView). KeepsOn z c.give.new.self) c.in-Ok-Some.ensures.same c.give.ensures.stands

pub returns-in-Ok-None-clause-after : goal.returns-in-Ok-None-clause-after
returns-in-Ok-None-clause-after g c =
    (c.requires, rw c.in-Ok-None.field-0-is at c.in-Ok-None.ensures.any, c.in-Ok-None.ensures.same)

pub returns-in-Ok-None-clause-stands : goal.returns-in-Ok-None-clause-stands
returns-in-Ok-None-clause-stands g c =
    subst (KeepsOn c.args.self.now) (sym c.in-Ok-None.ensures.same) (λ store entries h. h)

pub returns-in-Err-clause-after : goal.returns-in-Err-clause-after
returns-in-Err-clause-after g c =
    subst (λ (z : UnorderedView). FailsDue z c.fail.new.self c.fail.result) c.in-Err.ensures.same
    (fails_it c.find_any.new.self c.fail.new.self c.in-Err.error c.fail.result
    (subst (λ (z : UnorderedView). AnyDue z (Err c.in-Err.error)) (sym c.in-Err.ensures.same) c.in-Err.ensures.any)
    c.fail.ensures.told)

pub returns-in-Err-clause-stands : goal.returns-in-Err-clause-stands
returns-in-Err-clause-stands g c =
    subst (λ (z : UnorderedView). KeepsOn z c.fail.new.self) c.in-Err.ensures.same c.fail.ensures.stands
