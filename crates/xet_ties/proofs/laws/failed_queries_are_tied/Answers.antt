use Rattle.xet_ties.proofs.FailedQueries.{ask_said, ask_short, refresh_said, refresh_short}
use Rattle.xet_ties.proofs.laws.failed_queries_are_tied.Goals as goal

pub returns : goal.returns
returns c = record {
  plan = ask_short;
  refresh = refresh_short;
  plan_said = ask_said;
  refresh_said = refresh_said;
}
