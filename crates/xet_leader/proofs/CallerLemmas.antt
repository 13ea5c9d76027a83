-- What proofs of the crates above may cite of this crate's words.

pub use Rattle.xet_leader.proofs.Admitting.{led_admits}
pub use Rattle.xet_leader.proofs.AlikePlans.{IsAlike, alike_begins, alike_follow, alike_number, alike_terms}
pub use Rattle.xet_leader.proofs.AskedBlocks.{IsAsked, asked, can_request, fetch_leads, fetches_own, memory_fails, request_parts}
pub use Rattle.xet_leader.proofs.AsksLeads.{looked_led}
pub use Rattle.xet_leader.proofs.AwaitedBlocks.{IsAwaited, TermOf, all_terms, awaited, awaited_request, some_plan}
pub use Rattle.xet_leader.proofs.ChangedPlans.{alike_changed, change_all, change_is_set, only_is, placed}
pub use Rattle.xet_leader.proofs.ExpiredEvents.{led_expired, missing_left, tries_used}
pub use Rattle.xet_leader.proofs.FetchFacts.{is_at, kept_is, none_within}
pub use Rattle.xet_leader.proofs.Halts.{calm_halted, memory_halted, stopped_halted, stopped_under, unspent_faultless}
pub use Rattle.xet_leader.proofs.HonestBlocks.{IsHonestOf, led_honest}
pub use Rattle.xet_leader.proofs.KeptEvents.{IsKeeping, IsKeptData, cached_keeps, fetched_keeps, led_kept}
pub use Rattle.xet_leader.proofs.KeptSteps.{kept-append, kept_here}
pub use Rattle.xet_leader.proofs.LedPlanned.{PlanTaken, led_planned}
pub use Rattle.xet_leader.proofs.LookSteps.{index_set, same_found, set_own}
pub use Rattle.xet_leader.proofs.LookTies.{found_data, found_honest, looks_more_told}
pub use Rattle.xet_leader.proofs.MoreTold.{TellsMore, led_more, tells_more_heard, tells_more_looks}
pub use Rattle.xet_leader.proofs.NewPlans.{any_filter, any_take, none_later}
pub use Rattle.xet_leader.proofs.NextQueries.{IsDue, cut_last, due_allowed, due_cuts, due_first, due_place, led_due}
pub use Rattle.xet_leader.proofs.OpenTerms.{open_is}
pub use Rattle.xet_leader.proofs.PlainEvents.{IsPlain, plain_manager, plain_plans, plain_running, plain_stale}
pub use Rattle.xet_leader.proofs.PlanFacts.{block_is, each_append, each_weaker, led_block, terms_within}
pub use Rattle.xet_leader.proofs.PlanPlaces.{numbered_at}
pub use Rattle.xet_leader.proofs.PlannedEvents.{HeardMore}
pub use Rattle.xet_leader.proofs.QuietEvents.{IsQuiet, quiet_counted, quiet_kept, quiet_manager, quiet_numbered, quiet_recorded, quiet_running, quiet_under}
pub use Rattle.xet_leader.proofs.Reaching.{covered_reaches, ends_are}
pub use Rattle.xet_leader.proofs.RefreshTables.{asks_again, honest_query, is_made, made_block, made_query, refresh_passes}
pub use Rattle.xet_leader.proofs.RefreshedEvents.{led_refreshed}
pub use Rattle.xet_leader.proofs.Starting.{led_start, tries_some}
pub use Rattle.xet_leader.proofs.TermPlaces.{NextIs, next_is, next_there, no_file_term, past_all}
pub use Rattle.xet_leader.proofs.WindowPieces.{each_filter, fails_said, honest_bytes, is_kept_there, is_piece, is_tested, of_a_plan, pieces_honest, pieces_kept, pieces_tested, sound_passes, term_at, unkept_there}
pub use Rattle.xet_leader.proofs.WindowTasks.{IsLedTerm, led_each, length_tasks, next_tasks, next_terms, sizes_are, some_tasks}
pub use Rattle.xet_leader.proofs.WriterFaults.{any_unfailed, sink_unfailed, stopped_unfailed}
pub use Rattle.xet_leader.proofs.WroteEvents.{are_writes, led_wrote, planned_same, sizes_sum}
