-- What proofs of the crates above may cite of this crate's words.

-- what goes on through a part's run
pub use Rattle.xet_resume.proofs.GoingOn.{goes_run, same_count, still_over}
