-- The queries by which a range is asked for: those of a manager.
pub use Rattle.xet_terms.specs.Queries.{CutFrom}
