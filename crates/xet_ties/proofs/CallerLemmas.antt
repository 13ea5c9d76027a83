-- What proofs of the crates above may cite of this crate's words.

-- words on histories after one more event
pub use Rattle.xet_ties.proofs.Telling.{count-append, count-same, count-more}
pub use Rattle.xet_ties.proofs.Telling.{first_stays, block_at-push, range_at-push, expired-push}
-- the ties at the start, while a run goes on, and at its end
pub use Rattle.xet_ties.proofs.Starts.{tie_start, runs, tie_stop, tie_flush}
pub use Rattle.xet_ties.proofs.Starts.{none_hidden, short_leaves, steady_leaves, steady_ends, refused_is}
pub use Rattle.xet_ties.proofs.Starts.{admits_none, admits_one, admits_asked}
-- what connections said of expired URLs
pub use Rattle.xet_ties.proofs.Lates.{none_late}
-- the ties after one step
pub use Rattle.xet_ties.proofs.Moves.{tie_window, tie_short}
pub use Rattle.xet_ties.proofs.Recording.{tie_rest}
-- the ties after a part of a turn
pub use Rattle.xet_ties.proofs.PartTies.{poll_ties, stop_ties, look_up_ties, look_short_ties}
pub use Rattle.xet_ties.proofs.PartTies.{offers_none, offers_one}
-- the entries that a cache gained
pub use Rattle.xet_ties.proofs.ServedChunks.{looks_gained}
pub use Rattle.xet_ties.proofs.AskTies.{answer_makes, first_tells}
pub use Rattle.xet_ties.proofs.AskTies.{ask_ties, refresh_ties}
pub use Rattle.xet_ties.proofs.FailedQueries.{ask_short, ask_said, refresh_short, refresh_said}
pub use Rattle.xet_ties.proofs.PastEnds.{past_none}
pub use Rattle.xet_ties.proofs.EarlyEnds.{early_back, goes_same}
pub use Rattle.xet_ties.proofs.WindowTies.{tie_written}
-- the terms from the first unfinished one on, and a window of them
pub use Rattle.xet_ties.proofs.Windows.{wanted_is, wrote_allowed}
pub use Rattle.xet_ties.proofs.WindowTests.{window_tested}
pub use Rattle.xet_ties.proofs.Wholes.{tasks_sized, some_sum}
-- lanes and rounds
pub use Rattle.xet_ties.proofs.LaneMore.{step_did, one_more}
pub use Rattle.xet_ties.proofs.LowestLanes.{all_passed, below_passed, others_passed, rose_since, some_rose}
pub use Rattle.xet_ties.proofs.Pairs.{fetched_once}
pub use Rattle.xet_ties.proofs.NewPairs.{none_fetched, fetched_before, new_pairs}
pub use Rattle.xet_ties.proofs.RoundTies.{round_tied}
pub use Rattle.xet_ties.proofs.RoundShorts.{round_short, written_short}
pub use Rattle.xet_ties.proofs.RoundData.{tells_now}
pub use Rattle.xet_ties.proofs.RoundAllowed.{round_allowed}
pub use Rattle.xet_ties.proofs.RoundTries.{round_may_expire}
-- missing blocks, and events that are recorded one after another
pub use Rattle.xet_ties.proofs.Missing.{IsStill, missing-push, running-push}
pub use Rattle.xet_ties.proofs.Records.{allowed_first, allowed_rest, drop_at, take_at}
pub use Rattle.xet_ties.proofs.Records.{SoFar, so_none, so_next, so_more, so_all, so_short, short_at}
-- what was heard and said
pub use Rattle.xet_ties.proofs.Heard.{grew_none, grew_first, step_start}
pub use Rattle.xet_ties.proofs.Heard.{accepted_more, served_more, tested_data_more}
pub use Rattle.xet_ties.proofs.SaidTies.{fetch_entry}
pub use Rattle.xet_ties.proofs.SaidCauses.{lane_block, term_fails, plan_fails}
pub use Rattle.xet_ties.proofs.SaidCauses.{file_missing, refresh_fails}
pub use Rattle.xet_ties.proofs.NextPlaces.{asked_own}
pub use Rattle.xet_ties.proofs.CutPlaces.{own_answer}
pub use Rattle.xet_ties.proofs.FileCauses.{missing_file}
pub use Rattle.xet_ties.proofs.FirstCauses.{corrupted, is_check}
pub use Rattle.xet_ties.proofs.Told.{told_new, if_some, all_told}
-- the answer and the measure
pub use Rattle.xet_ties.proofs.Expiries.{have_expired}
pub use Rattle.xet_ties.proofs.Legals.{legal_of}
pub use Rattle.xet_ties.proofs.Measures.{left-push, left_fetched, left_expired}
