use Rattle.std.proofs.Common.{rules, ◌++◌, List, sym, ap, ◌∙◌, append-nil, append_assoc, drop-drop, take, drop, arith}
use Rattle.xet_queue.specs.declared.queued_term.QueuedTerm.{QueuedTerm}
use Rattle.xet_queue.specs.Queues.{admissions}
use Rattle.xet_queue.proofs.Gone.{admissions_both}
use Rattle.xet_queue.proofs.leaving.let_go.Goals as goal

pub loop-gone-init : goal.loop-gone-init
loop-gone-init c = record { within = omega arith; queue = search rules; released = sym (append-nil c.args.released.now.items); room = c.requires }

pub loop-gone-preserved : goal.loop-gone-preserved
loop-gone-preserved c =
    let i = c.loop-gone.invariant in
    let n = c.let_one_go.ensures in
    let k = c.loop-gone.gone in
    let ts = c.args.queue.now.items in
    record {
      within = search (rules, arith);
      queue = n.queue ∙ ap (λ (l : List QueuedTerm). drop 1 l) i.queue ∙ drop-drop 1 k ts;
      released = n.released ∙ ap (λ l. l ++ admissions (take 1 c.loop-gone.queue.items)) i.released ∙ append_assoc c.args.released.now.items (admissions (take k ts)) (admissions (take 1 c.loop-gone.queue.items)) ∙ ap (λ (l : List QueuedTerm). c.args.released.now.items ++ (admissions (take k ts) ++ admissions (take 1 l))) i.queue ∙ ap (λ l. c.args.released.now.items ++ l) (sym (admissions_both k 1 ts));
      room = n.room;
    }
