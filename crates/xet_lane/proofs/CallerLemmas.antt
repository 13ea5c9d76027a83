-- What proofs of the crates above may cite of this crate's words.

-- one more step of a lane, and fetches that it didn't make
pub use Rattle.xet_lane.proofs.LaneSteps.{more_drawn, none_yet, one_more}
-- steps of which none failed, or none but the last one, and the error of the last one
pub use Rattle.xet_lane.proofs.LaneSteps.{before_none, before_snoc, last_snoc, none_snoc}
-- the request of a block that has a URL, that each request is its block's own, and one more fetch
pub use Rattle.xet_lane.proofs.Requests.{asks_more, made_by, own_request}
-- where the error of a join comes from, and what holds where it has none
pub use Rattle.xet_lane.proofs.ErrorCauses.{FailedLane, NoErrorBelow, error_cause, no_error}
