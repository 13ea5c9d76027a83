use Rattle.xet_progress.proofs.tracker.CompletionTracker.register_new_file.Goals as goal

pub id_answer-requires : goal.id_answer-requires
id_answer-requires g c = c.add_file-reply.ensures.kind

pub returns : goal.returns
returns g c = record {
  parts = c.add_file-reply.ensures.parts;
  calls = rw c.id_answer.ensures at c.add_file-reply.ensures.calls;
  answer = rw c.id_answer.ensures at c.add_file-reply.ensures.answer;
}
