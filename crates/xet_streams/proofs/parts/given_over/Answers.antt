use Rattle.std.proofs.Common.{refl, subst, sym, ◌∙◌, Option, Some}
use Rattle.std.specs.Prelude.{IfSome}
use Rattle.xet_leader.specs.Led.{Led, setup_of_job}
use Rattle.xet_stream_rules.specs.Streams.{Carries, nobody}
use Rattle.xet_stream_terms.specs.Handing.{IsOpenNext}
use Rattle.xet_streams.specs.steps.Ahead.{GivenOver}
use Rattle.xet_streams.proofs.AnyParts.{given_by}
use Rattle.xet_streams.proofs.parts.given_over.Goals as goal

pub record_given-requires-clause-carries : goal.record_given-requires-clause-carries
record_given-requires-clause-carries g c = (
  setup_of_job c.args.job,
  subst (λ (o : Option Led). IfSome o (Carries nobody (setup_of_job c.args.job) c.args.core.now)) c.in-Some.is
      c.requires.held,
)

pub record_given-requires-clause-next : goal.record_given-requires-clause-next
record_given-requires-clause-next g c =
    subst (λ (o : Option Led). IfSome o (λ l. IsOpenNext l c.args.next)) c.in-Some.is c.requires.next

pub returns-in-Some : goal.returns-in-Some
returns-in-Some g c =
    subst (λ (o : Option Led). GivenOver c.args.core.now c.record_given.new.core o (Some c.record_given.new.leader)
    c.args.next c.record_given.result) (sym c.in-Some.is)
    (given_by _ _ _ _ c.args.next c.record_given.result c.record_given.ensures)

pub returns-in-None : goal.returns-in-None
returns-in-None g c = (refl, refl, λ l e x. absurd (let z = sym c.in-None.is ∙ e in cc))
