use Rattle.std.proofs.Common.{◌≡◌, Ok, Err, Option, subst}
use Rattle.xet_base.proofs.CallerLemmas.{err-of}
use Rattle.xet_error.specs.declared.error.FileReconstructionError.{FileReconstructionError}
use Rattle.xet_blocks.specs.declared.reconstruction_terms.file_term.TermBlock.{TermBlock}
use Rattle.xet_terms.specs.Managers.{Manager}
use Rattle.xet_terms.specs.NextTerms.{query_of}
use Rattle.xet_blocks.specs.TermBlockCalls.{TermBlockCall}
use Rattle.xet_terms.proofs.Asking.{ask_err, ask_taken}
use Rattle.xet_terms.proofs.manager.ReconstructionTermManager.ask.Goals as goal

pub returns-in_err-answer : goal.returns-in_err-answer
returns-in_err-answer g c =
    let told = g.C.Client.told in
    let b = told c.args.client.now in
    let n = told c.retrieve_file_term_block.new.client in
    let q = c.args.due.query in
    let id = c.args.due.id in
    let fault : FileReconstructionError = c.in_err-answer.field-0.0 in
    let e : c.from_residual.result ≡ Err fault = err-of _ _ c.from_residual.ensures in
    let call : TermBlockCall b n (record { file = c.self.inside.file_hash; range = q; multirange = c.self.inside.multirange; id = id }) (Err fault) = c.in_err-answer.ensures in
    rw e (ask_err c.args.self.now b n q id fault (subst (λ (m : Manager). TermBlockCall b n (query_of m q id) (Err fault)) c.self.view_is call))

pub returns : goal.returns
returns g c =
    let told = g.C.Client.told in
    let b = told c.args.client.now in
    let n = told c.retrieve_file_term_block.new.client in
    let q = c.args.due.query in
    let id = c.args.due.id in
    let o : Option TermBlock = c.in_ok-answer.answer in
    let call : TermBlockCall b n (record { file = c.self.inside.file_hash; range = q; multirange = c.self.inside.multirange; id = id }) (Ok o) = c.in_ok-answer.ensures in
    ask_taken c.args.self.now c.accept.new.self b n q id o c.accept.result
    (subst (λ (m : Manager). TermBlockCall b n (query_of m q id) (Ok o)) c.self.view_is call)
    c.accept.ensures.past c.accept.ensures.other c.accept.ensures.kept c.accept.ensures.ok
