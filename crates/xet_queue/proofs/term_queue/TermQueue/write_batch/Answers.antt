use Rattle.std.proofs.Common.{rules, ◌≡◌, ◌+◌, ◌<◌, ◌^◌, ◌++◌, true, false, List, ℕ, length, take, drop, sym, ap, ◌∙◌, subst, arith, length-drop}
use Rattle.std.specs.Result.{is_err}
use Rattle.std.specs.VecDeque.{deque_len}
use Rattle.xet_queue.specs.declared.queued_term.QueuedTerm.{QueuedTerm}
use Rattle.xet_queue.specs.Pieces.{bytes_before}
use Rattle.xet_queue.specs.Queues.{admissions, chain_end, ready, ready_bytes}
use Rattle.xet_queue.specs.Sequential.{Sequential}
use Rattle.xet_queue.specs.steps.Batches.{BatchCall}
use Rattle.xet_queue.specs.steps.Lending.{Lends}
use Rattle.xet_queue.specs.steps.WantedPlaces.{places_of}
use Rattle.xet_queue.proofs.Batches.{lent_room, lent_wrote, shorter}
use Rattle.xet_queue.proofs.Gone.{admissions_lent, behind, past_lent}
use Rattle.xet_queue.proofs.Lent.{lends_within}
use Rattle.xet_queue.proofs.Sending.{batch_count, batch_failed, batch_whole}
use Rattle.xet_queue.proofs.Terms.{chain_room, ready_within}
use Rattle.xet_queue.proofs.term_queue.TermQueue.write_batch.Goals as goal

pub write_list-sent-requires : goal.write_list-sent-requires
write_list-sent-requires g c =
    let i = c.self.inside in
    let h : length (ready_bytes i.queue.items) < 2 ^ 64 = subst (λ (w : Sequential g.row.S.Denot). length (ready_bytes w.queue) < 2 ^ 64) (sym c.self.view_is) c.requires.short in
    lent_room 0 c.lend-terms.result i.queue.items c.lend-terms.new.queue.items c.lend-terms.new.pieces.items (2 ^ 64) c.lend-terms.ensures.lent h

pub put_back-requires : goal.put_back-requires
put_back-requires g c = lends_within 0 c.lend-terms.result c.self.inside.queue.items c.lend-terms.new.queue.items c.lend-terms.new.pieces.items c.lend-terms.ensures.lent

pub invariant_of-self : goal.invariant_of-self
invariant_of-self g c =
    let i = c.self.inside in
    let q : c.put_back.new.queue.items ≡ i.queue.items = (c.put_back.ensures.back i.queue.items (subst (λ (ps : List (List ℕ)). Lends 0 c.lend-terms.result i.queue.items c.lend-terms.new.queue.items ps) (sym c.write_list-sent.ensures.pieces) c.lend-terms.ensures.lent)).0 in
    let a = c.put_back.ensures.len in
    let b = c.lend-terms.ensures.len in
    let r = c.self.invariant.1 in
    let s = c.self.invariant.3 in
    (ap (λ l. chain_end i.delivered l) q ∙ c.self.invariant.0, omega arith, c.self.invariant.2 ∙ ap (λ l. places_of i.passed l) (sym q), omega arith)

pub returns-then-is_err-clause-call : goal.returns-then-is_err-clause-call
returns-then-is_err-clause-call g c =
    let i = c.self.inside in
    let l = c.lend-terms.ensures.lent in
    let q : c.put_back.new.queue.items ≡ i.queue.items = (c.put_back.ensures.back i.queue.items (subst (λ (ps : List (List ℕ)). Lends 0 c.lend-terms.result i.queue.items c.lend-terms.new.queue.items ps) (sym c.write_list-sent.ensures.pieces) l)).0 in
    let w = lent_wrote (g.S.Sink.told i.sink) (g.S.Sink.told c.write_list-sent.new.sink) c.lend-terms.result i.queue.items c.lend-terms.new.queue.items c.lend-terms.new.pieces.items c.write_list-sent.result.count c.write_list-sent.result.end l c.write_list-sent.ensures.sent in
    let e : is_err c.write_list-sent.result.end ≡ true = search rules in
    let b : Sequential g.row.S.Denot = record { sink = i.sink; vectored = i.use_vectorized; queue = i.queue.items; released = i.released.items; expected = i.expected; delivered = i.delivered; kept = i.kept; finished = i.finished } in
    let z : BatchCall g.S.Sink.told b c.pass.new.self c.lend-terms.result c.write_list-sent.result.count c.write_list-sent.result.end = batch_failed g.S.Sink.told b c.pass.new.self c.write_list-sent.new.sink c.put_back.new.queue.items c.lend-terms.result c.write_list-sent.result.count c.write_list-sent.result.end e q l.within c.lend-terms.ensures.some w c.pass.ensures in
    subst (λ (v : Sequential g.row.S.Denot). BatchCall g.S.Sink.told v c.pass.new.self c.lend-terms.result c.write_list-sent.result.count c.write_list-sent.result.end) c.self.view_is z

pub returns-then-is_err-clause-pieces : goal.returns-then-is_err-clause-pieces
returns-then-is_err-clause-pieces g c =
    let i = c.self.inside in
    (c.put_back.ensures.back i.queue.items (subst (λ (ps : List (List ℕ)). Lends 0 c.lend-terms.result i.queue.items c.lend-terms.new.queue.items ps) (sym c.write_list-sent.ensures.pieces) c.lend-terms.ensures.lent)).1

pub overflow_add-self : goal.overflow_add-self
overflow_add-self g c =
    let i = c.self.inside in
    let l = c.lend-terms.ensures.lent in
    let w = lent_wrote (g.S.Sink.told i.sink) (g.S.Sink.told c.write_list-sent.new.sink) c.lend-terms.result i.queue.items c.lend-terms.new.queue.items c.lend-terms.new.pieces.items c.write_list-sent.result.count c.write_list-sent.result.end l c.write_list-sent.ensures.sent in
    let r = chain_room i.delivered i.queue.items i.expected c.self.invariant.0 in
    let s = shorter c.lend-terms.result (ready i.queue.items) in
    let k = w.within in
    let f : i.expected < 2 ^ 64 = search rules in
    omega arith

pub overflow_add-self-2 : goal.overflow_add-self-2
overflow_add-self-2 g c =
    let i = c.self.inside in
    let l = c.lend-terms.ensures.lent.within in
    let r = ready_within i.queue.items in
    let m : deque_len i.queue ≡ length i.queue.items = search rules in
    let s = c.self.invariant.3 in
    omega arith

pub invariant_of-self-2 : goal.invariant_of-self-2
invariant_of-self-2 g c =
    let i = c.self.inside in
    let l = c.lend-terms.ensures.lent in
    let k = c.lend-terms.result in
    let w = lent_wrote (g.S.Sink.told i.sink) (g.S.Sink.told c.write_list-sent.new.sink) k i.queue.items c.lend-terms.new.queue.items c.lend-terms.new.pieces.items c.write_list-sent.result.count c.write_list-sent.result.end l c.write_list-sent.ensures.sent in
    let e : is_err c.write_list-sent.result.end ≡ false = search rules in
    let n = batch_count (g.S.Sink.told i.sink) (g.S.Sink.told c.write_list-sent.new.sink) (ready i.queue.items) k c.write_list-sent.result.count c.write_list-sent.result.end e w in
    let x = l.end_is in
    let q : c.let_go.new.queue.items ≡ drop k i.queue.items = c.let_go.ensures.queue ∙ ap (λ (t : List QueuedTerm). drop k t) l.queue ∙ past_lent i.queue.items l.count k (omega arith) in
    let v = behind i.delivered i.expected i.passed k i.queue.items l.within c.self.invariant.0 in
    let d : deque_len c.let_go.new.queue ≡ length c.let_go.new.queue.items = search rules in
    let m : deque_len i.queue ≡ length i.queue.items = search rules in
    let y = ap length q in
    let z = length-drop k i.queue.items in
    let r = ready_within i.queue.items in
    let t = l.within in
    let s = c.self.invariant.3 in
    (ap (λ j. chain_end (i.delivered + j) c.let_go.new.queue.items) n ∙ ap (λ (t : List QueuedTerm). chain_end (i.delivered + bytes_before k (ready i.queue.items)) t) q ∙ v.chain, c.let_go.ensures.room, c.self.invariant.2 ∙ sym v.places ∙ ap (λ (t : List QueuedTerm). places_of (i.passed + k) t) (sym q), omega arith)

pub returns-clause-call : goal.returns-clause-call
returns-clause-call g c =
    let i = c.self.inside in
    let l = c.lend-terms.ensures.lent in
    let k = c.lend-terms.result in
    let w = lent_wrote (g.S.Sink.told i.sink) (g.S.Sink.told c.write_list-sent.new.sink) k i.queue.items c.lend-terms.new.queue.items c.lend-terms.new.pieces.items c.write_list-sent.result.count c.write_list-sent.result.end l c.write_list-sent.ensures.sent in
    let e : is_err c.write_list-sent.result.end ≡ false = search rules in
    let x = l.end_is in
    let b : Sequential g.row.S.Denot = record { sink = i.sink; vectored = i.use_vectorized; queue = i.queue.items; released = i.released.items; expected = i.expected; delivered = i.delivered; kept = i.kept; finished = i.finished } in
    let after : Sequential g.row.S.Denot = record { sink = c.write_list-sent.new.sink; vectored = i.use_vectorized; queue = c.let_go.new.queue.items; released = c.let_go.new.released.items; expected = i.expected; delivered = i.delivered + c.write_list-sent.result.count; kept = i.kept; finished = i.finished } in
    let q : c.let_go.new.queue.items ≡ drop k i.queue.items = c.let_go.ensures.queue ∙ ap (λ (t : List QueuedTerm). drop k t) l.queue ∙ past_lent i.queue.items l.count k (omega arith) in
    let a : c.let_go.new.released.items ≡ i.released.items ++ admissions (take k i.queue.items) = c.let_go.ensures.released ∙ ap (λ (t : List QueuedTerm). i.released.items ++ admissions (take k t)) l.queue ∙ ap (λ m. i.released.items ++ m) (admissions_lent i.queue.items l.count k) in
    let v = behind i.delivered i.expected i.passed k i.queue.items l.within c.self.invariant.0 in
    let h : after ≡ record b { sink = c.write_list-sent.new.sink; queue = drop k i.queue.items; released = i.released.items ++ admissions (take k i.queue.items); delivered = i.delivered + c.write_list-sent.result.count } = ap (λ (t : List QueuedTerm). record after { queue = t }) q ∙ ap (λ m. record after { queue = drop k i.queue.items; released = m }) a in
    let z : BatchCall g.S.Sink.told b after k c.write_list-sent.result.count c.write_list-sent.result.end = batch_whole g.S.Sink.told b after c.write_list-sent.new.sink k c.write_list-sent.result.count c.write_list-sent.result.end e l.within c.lend-terms.ensures.some w v.ready_is h in
    subst (λ (u : Sequential g.row.S.Denot). BatchCall g.S.Sink.told u after k c.write_list-sent.result.count c.write_list-sent.result.end) c.self.view_is z
