use Rattle.std.proofs.Common.{rules, ◌≡◌, List, [], ◌∷◌, ◌++◌, ◌∙◌, ap}
use Rattle.xet_progress_state.specs.declared.step.TrackerStep.{TrackerStep}
use Rattle.xet_progress_state.specs.declared.step.TrackerReply.{TrackerReply}
use Rattle.xet_progress_state.specs.Replies.{gives, reply_of, steps_of}
use Rattle.xet_progress_history.proofs.Replay.{Made, replays_more, replied_more, reply_gives}
use Rattle.xet_progress_history.proofs.history.TrackerHistory.step.Goals as goal

pub invariant_of-self-2 : goal.invariant_of-self-2
invariant_of-self-2 g c =
    let old = c.args.self.now in
    let is = c.in_ok-reply.ensures.made in
    let made : Made old.state c.step.new.self c.args.step c.in_ok-reply.reply = record { replied = is.0; moved = is.1 } in
    let pushed : c.push.new.self.items ≡ old.history.items ++ record { step = c.args.step; reply = c.in_ok-reply.reply } ∷ [] = search rules in
    record {
      replays = rw pushed (replays_more old.state c.step.new.self old.history.items c.args.step c.in_ok-reply.reply made old.replays);
      replied = rw pushed (replied_more old.state c.step.new.self old.history.items c.args.step c.in_ok-reply.reply made old.replays old.replied);
      counted = search rules;
    }

pub returns-clause-kind : goal.returns-clause-kind
returns-clause-kind g c = ap (λ (r : TrackerReply). gives c.args.step r) c.in_ok-reply.ensures.made.0 ∙ reply_gives c.args.self.now.state c.args.step

pub returns-clause-answer : goal.returns-clause-answer
returns-clause-answer g c = record {
  calls = steps_of c.args.self.now.history.items;
  reply = c.in_ok-reply.ensures.made.0 ∙ ap (λ (cs : List TrackerStep). reply_of cs c.args.step) c.args.self.now.replays;
}
