use Rattle.std.proofs.Common.{◌≡◌, ◌∙◌, ap, inr, refl, subst, Err, None, Ok, Result}
use Rattle.xet_base.proofs.CallerLemmas.{err-of}
use Rattle.xet_outside.specs.declared.client.ClientError.{ClientError}
use Rattle.xet_outside.specs.declared.plan.PlanAnswer.{PlanAnswer}
use Rattle.xet_outside.specs.declared.plan.PlanAnswer.TheVariants.{Found, NoFile, PastEnd}
use Rattle.xet_outside.specs.Told.{PlanCall}
use Rattle.xet_error.specs.declared.error.FileReconstructionError.TheVariants as error
use Rattle.xet_error.specs.Errors.{of_client_error}
use Rattle.xet_blocks.specs.PlanQuery.{PlanQuery}
use Rattle.xet_blocks.proofs.TermBlockAnswers.{call_answered, call_failed}
use Rattle.xet_blocks.proofs.reconstruction_terms.file_term.retrieve_file_term_block.Goals as goal

pub returns-in_err-plan : goal.returns-in_err-plan
returns-in_err-plan g c =
    let before = g.C.Client.told c.args.client.now in
    let after = g.C.Client.told c.plan.new.self in
    let query : PlanQuery = record { file = c.args.file_hash; range = c.args.query_file_byte_range; multirange = c.args.multirange; id = c.args.id } in
    let fault : ClientError = c.in_err-plan.field-0.0 in
    let e : c.from_residual.result ≡ Err (of_client_error fault) = err-of _ _ c.from_residual.ensures in
    rw e (call_failed before after query fault c.in_err-plan.ensures)

pub returns-in-Found : goal.returns-in-Found
returns-in-Found g c =
    let before = g.C.Client.told c.args.client.now in
    let after = g.C.Client.told c.plan.new.self in
    let query : PlanQuery = record { file = c.args.file_hash; range = c.args.query_file_byte_range; multirange = c.args.multirange; id = c.args.id } in
    let call : PlanCall before after query.file query.range (Ok (Found c.in-Found.plan)) =
    subst (λ (r : Result PlanAnswer ClientError). PlanCall before after query.file query.range r) (c.in_ok-plan.was ∙ ap Ok c.in-Found.is) c.plan.ensures in
    call_answered before after query (Found c.in-Found.plan) c.answer_plan.result call (record { made = c.answer_plan.ensures.made; refused = c.answer_plan.ensures.refused })

pub returns-in-PastEnd : goal.returns-in-PastEnd
returns-in-PastEnd g c =
    let before = g.C.Client.told c.args.client.now in
    let after = g.C.Client.told c.plan.new.self in
    let query : PlanQuery = record { file = c.args.file_hash; range = c.args.query_file_byte_range; multirange = c.args.multirange; id = c.args.id } in
    let call : PlanCall before after query.file query.range (Ok PastEnd) =
    subst (λ (r : Result PlanAnswer ClientError). PlanCall before after query.file query.range r) (c.in_ok-plan.was ∙ ap Ok c.in-PastEnd.is) c.plan.ensures in
    call_answered before after query PastEnd (Ok None) call (record { made = refl; refused = tt })

pub returns-in-NoFile : goal.returns-in-NoFile
returns-in-NoFile g c =
    let before = g.C.Client.told c.args.client.now in
    let after = g.C.Client.told c.plan.new.self in
    let query : PlanQuery = record { file = c.args.file_hash; range = c.args.query_file_byte_range; multirange = c.args.multirange; id = c.args.id } in
    let call : PlanCall before after query.file query.range (Ok NoFile) =
    subst (λ (r : Result PlanAnswer ClientError). PlanCall before after query.file query.range r) (c.in_ok-plan.was ∙ ap Ok c.in-NoFile.is) c.plan.ensures in
    call_answered before after query NoFile (Err error.FileNotFound) call (record { made = tt; refused = inr refl })
