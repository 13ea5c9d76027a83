-- What proofs of the crates above may cite of this crate's words.

-- what `find`, `list_any` and `firsts` answer
pub use Rattle.xet_mirror_parts.proofs.Finds.{any-map, any_contained, contained-firsts, contained_any, found-none, found_all, found_passes, is_some-found, none-is, none-some_not, or-none, some-is}
-- moments, and parts of a call one after another
pub use Rattle.xet_mirror_parts.proofs.Moments.{moment-more, moment-shown, step-answer, step-err, step-none, step-then}
-- calls of shelf and target as such parts
pub use Rattle.xet_mirror_parts.proofs.LookCalls.{client-lost, copying-same, log-same, mapped, step-asked, step-has}
-- what a call has put of what it looked at
pub use Rattle.xet_mirror_parts.proofs.Copyings.{looked-same, looked-stored}
-- terms in a store that has the same xorbs
pub use Rattle.xet_mirror_parts.proofs.Stored.{HaveSame, same-terms, term-in, xorb_in}
