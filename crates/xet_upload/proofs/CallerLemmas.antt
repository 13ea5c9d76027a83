-- What proofs of the crates above may cite of this crate's words.

-- what terms and parts stand for
pub use Rattle.xet_upload.proofs.Standing.{stand-grown, stand-behind, stand-before, stand-named}
pub use Rattle.xet_upload.proofs.FileDatas.{parts-nil, parts-own, parts-found}
pub use Rattle.xet_upload.proofs.Resolved.{agreed, cut_stands, parts_cut, resolved}
pub use Rattle.xet_upload.proofs.SameHashes.{same_bytes, later_resolved}
-- the order of a log
pub use Rattle.xet_upload.proofs.Orders.{there-grown, ordered-none, ordered-xorb, ordered-shard, put-there, backed-more, backed-known}
