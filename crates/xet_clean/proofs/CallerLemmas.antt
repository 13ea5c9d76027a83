-- What proofs of the crates above may cite of this crate's words.

-- the end of a file
pub use Rattle.xet_clean.proofs.Completing.{backs-both, none-missing}
-- what is fed, in two calls
pub use Rattle.xet_clean.proofs.Feeding.{counts-both, feeds-both, cut-stands, feeds-none, feeds-so, never, never-failed}
-- records that go on standing
pub use Rattle.xet_clean.proofs.Holding.{left-holds}
-- chunks that stay one with what waits
pub use Rattle.xet_clean.proofs.Taking.{stay-picked, waits-still}
-- the end of a session
pub use Rattle.xet_clean.proofs.Accepting.{end-accepts}
