use Rattle.xet_progress.proofs.tracker.CompletionTracker.register_xorb_upload_progress_background.Goals as goal

pub done_answer-requires : goal.done_answer-requires
done_answer-requires g c = c.call.ensures.kind

pub returns : goal.returns
returns g c = record {
  parts = c.call.ensures.parts;
  calls = rw c.done_answer.ensures at c.call.ensures.calls;
  answer = rw c.done_answer.ensures at c.call.ensures.answer;
}
