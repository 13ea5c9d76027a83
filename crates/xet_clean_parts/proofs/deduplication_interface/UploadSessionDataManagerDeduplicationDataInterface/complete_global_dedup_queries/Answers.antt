use Rattle.std.proofs.Common.{refl, rules, sym, ◌∙◌, ◌≡◌}
use Rattle.std.specs.Prelude.{[]}
use Rattle.xet_clean_parts.proofs.Learned.{completes-off, completes-on}
use Rattle.xet_upload_session.proofs.CallerLemmas.{has-listed}
use Rattle.xet_clean_parts.proofs.deduplication_interface.UploadSessionDataManagerDeduplicationDataInterface.complete_global_dedup_queries.Goals as goal

pub returns-then-not-asks_queries-clause-call : goal.returns-then-not-asks_queries-clause-call
returns-then-not-asks_queries-clause-call g c =
    completes-off _ _ _ _ refl refl (sym c.asks_queries.ensures ∙ c.if-not-asks_queries.true) (has-listed _ c.args.self.now.session.now.lists c.args.self.now.session.now.waits)

pub returns-clause-call : goal.returns-clause-call
returns-clause-call g c =
    let empty : c.replace-pending.new.dest.items ≡ [] = search rules in
    let all : c.as_slice.result.now ≡ c.args.self.now.pending.items = search rules in
    completes-on _ _ _ _ _ (sym c.asks_queries.ensures ∙ c.if-not-asks_queries.false) empty (rw all at c.ask_each.ensures.learns) c.ask_each.ensures.backs
