-- What proofs of the crates above may cite of this crate's words.

pub use Rattle.xet_stream_rules.proofs.CausesFrom.{cause_among, cause_from, spent_among, tells_everybody, tells_nobody}
pub use Rattle.xet_stream_rules.proofs.Lasting.{each_same, each_then, goes_both, goes_nowhere, goes_same, lasts_quiet, lasts_same, lasts_still, lasts_then, set_goes, starts_still, tells_on, true_more, true_still}
pub use Rattle.xet_stream_rules.proofs.Logs.{last_at, logged, plans_asked}
pub use Rattle.xet_stream_rules.proofs.NextTasks.{next_is, none_next, none_some, rest_tasks, some_next}
pub use Rattle.xet_stream_rules.proofs.NoCounts.{no_counts}
pub use Rattle.xet_stream_rules.proofs.Places.{starts_at}
pub use Rattle.xet_stream_rules.proofs.Running.{admits_run, admits_running, running_both}
pub use Rattle.xet_stream_rules.proofs.Staying.{IsStill, carries_late, same_rest, still_delivered, still_planned, still_queries}
pub use Rattle.xet_stream_rules.proofs.Terms.{count_by-append, flat_one, get_none, no_writes, pieces_some, some-append, take_one, written-append}
