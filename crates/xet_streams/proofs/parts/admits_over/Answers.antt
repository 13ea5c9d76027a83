use Rattle.std.proofs.Common.{refl, subst, sym, Option, Some, Ok}
use Rattle.std.specs.Prelude.{IfSome}
use Rattle.xet_leader.specs.Led.{Led, setup_of_job}
use Rattle.xet_stream_rules.specs.Streams.{Carries, nobody}
use Rattle.xet_streams.specs.steps.Ahead.{AdmitsOver}
use Rattle.xet_streams.proofs.AnyParts.{admits_by}
use Rattle.xet_streams.proofs.parts.admits_over.Goals as goal

pub returns-in-Some : goal.returns-in-Some
returns-in-Some g c =
    let carries = subst (λ (o : Option Led). IfSome o (Carries nobody (setup_of_job c.args.job) c.args.core.now))
    c.in-Some.is c.requires in
    subst (λ (o : Option Led). AdmitsOver (setup_of_job c.args.job) c.args.core.now c.admit_ahead.new.core o
    (Some c.admit_ahead.new.leader) (g.B.BudgetSource.told c.args.source.now)
    (g.B.BudgetSource.told c.admit_ahead.new.source) c.admit_ahead.result) (sym c.in-Some.is)
    (admits_by (setup_of_job c.args.job) _ _ _ _ _ _ c.admit_ahead.result
    (λ cs k. c.admit_ahead.ensures (setup_of_job c.args.job) carries cs k))

pub returns-in-None : goal.returns-in-None
returns-in-None g c =
    subst (λ (o : Option Led). AdmitsOver (setup_of_job c.args.job) c.args.core.now c.args.core.now o o
    (g.B.BudgetSource.told c.args.source.now) (g.B.BudgetSource.told c.args.source.now) (Ok tt)) (sym c.in-None.is)
    (refl, refl, refl)
