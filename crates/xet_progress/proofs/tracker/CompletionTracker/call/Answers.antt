use Rattle.xet_progress.proofs.tracker.CompletionTracker.call.Goals as goal

pub returns : goal.returns
returns g c = record {
  parts = c.step.ensures.parts;
  calls = c.step.ensures.calls;
  kind = c.step.ensures.kind;
  answer = c.step.ensures.answer;
}
