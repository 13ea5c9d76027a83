-- What proofs of the crates above may cite of this crate's words.

-- what one chunk and several do, and why they fail
pub use Rattle.xet_clean_parts.proofs.Cleaning.{chunk-later, chunk-memory, chunk-tracks, cleans-both, fails-later, fails-memory, leaves-both, leaves-refl, sent-both, steady-left, still-cleans}
-- what the tracker is told, of two calls in a row and of one that fails
pub use Rattle.xet_clean_parts.proofs.FileCalls.{end-refused, grows-first, growth-none, growth-some, part-for, refuses-wider, tells-both, tells-err, tells-late, tells-memory, tells-none, tells-ok, tells-own, tells-wider, tracks-tells, tracks-why}
-- what queries of the uploader keep
pub use Rattle.xet_clean_parts.proofs.Learned.{learns-sound, learns-tells}
-- chunks that are picked from others
pub use Rattle.xet_clean_parts.proofs.Picked.{bytes-later, into-both, into-same, picked-all, picked-behind, picked-both, picked-bytes, picked-count, picked-first, picked-front, picked-later, picked-none, picked-same, picked-trans, picked-within}
-- where chunks end
pub use Rattle.xet_clean_parts.proofs.Places.{at-both, at-joined, at-one, fixed-cuts-file, pieces-more, pieces-none}
-- what is put, and what is said of a put that failed
pub use Rattle.xet_clean_parts.proofs.Puts.{end-after, end-behind, grew-both, grew-cut, grew-moved, grew-none, last-moved, made-before, made-behind, made-both, made-cut, made-less, made-more, made-moved, made-still, made-then, none-both, none-same, on-any, says-err, says-none, so-any, so-both, so-err, so-still, so-turn, some-any, some-behind, some-err, some-one, some-still, turn-made}
-- two lists in turn
pub use Rattle.xet_clean_parts.proofs.Turns.{turns-all}
-- calls of a session, one after another
pub use Rattle.xet_clean_parts.proofs.SessionCalls.{calls-both, calls-leave, calls-moved, calls-none, group-both, of-both}
-- members of lists, worlds that grow, and sessions that are open
pub use Rattle.xet_clean_parts.proofs.Worlds.{Contains-cons, Contains-head, Contains-map, agree-again, agree-alone, agree-made, agree-put, clash-after, clash-before, found-agrees, hashes-before, listed-stored, ok-err, opened, world-grew, world-has}
