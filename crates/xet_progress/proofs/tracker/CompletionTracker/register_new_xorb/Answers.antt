use Rattle.xet_progress.proofs.tracker.CompletionTracker.register_new_xorb.Goals as goal

pub flag_answer-requires : goal.flag_answer-requires
flag_answer-requires g c = c.call.ensures.kind

pub returns : goal.returns
returns g c = record {
  parts = c.call.ensures.parts;
  calls = rw c.flag_answer.ensures at c.call.ensures.calls;
  answer = rw c.flag_answer.ensures at c.call.ensures.answer;
}
