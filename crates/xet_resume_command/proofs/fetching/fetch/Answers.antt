use Rattle.std.proofs.Common.{ap, refl, Some}
use Rattle.xet_base.specs.Store.{Store}
use Rattle.xet_connections.specs.declared.mem_client.MemClient.{MemClient}
use Rattle.xet_outside.specs.Told.{ClientTold}
use Rattle.xet_resume_command.proofs.Filled.{fetched}
use Rattle.xet_resume_command.proofs.HonestParts.{all_calm, new_tells, stays_calm, told_client}
use Rattle.xet_resume_command.proofs.fetching.fetch.Goals as goal

pub returns : goal.returns
returns g c =
    let told : MemClient → ClientTold = λ x. told_client x.store.now x.log in
    let s = c.args.store.now in
    fetched s _ _ _ _ _ _ c.fetch_over.ensures.are
    (new_tells s _ _ _ (ap (λ (x : Store). Some x) c.new.ensures.store) c.new.ensures.valid)
    (stays_calm s _ _ _ (all_calm told (λ x. refl) (λ x. refl) _) refl) c.fetch_over.ensures.call
