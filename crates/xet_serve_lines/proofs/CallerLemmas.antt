-- What proofs of the crates above may cite of this crate's words.

-- the lines of bytes: the first one, whole or as far as it was read, and the last one
pub use Rattle.xet_serve_lines.proofs.Lines.{FirstLine, line_first, lines_last, lines_more}
