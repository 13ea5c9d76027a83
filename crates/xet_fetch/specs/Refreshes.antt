-- The words of refreshes that are cited above.
pub use Rattle.xet_requests.specs.Refreshes.{Answered, Extent, IsRefreshed, MayAsk, Refresh, RefreshCause}
pub use Rattle.xet_requests.specs.Refreshes.{blocks_test, extent_of, failed_refresh, first_difference, next_id}
pub use Rattle.xet_requests.specs.Refreshes.{plan_extents, range_test, refresh_of, refusal_of, same_extent}
