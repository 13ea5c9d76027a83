-- The plan that waits last.
use Rattle.std.proofs.Common.{◌≡◌, ℕ, ◌-◌, ◌<◌, List, [], length, get_or, Option, Some, None, Bor, refl, arith}
use Rattle.std.specs.Prelude.{MatchOption, slice_get}
use Rattle.std.specs.Slice.{IsGetResult}
use Rattle.std.proofs.lemmas.List.{nil_from_length}
use Rattle.std.proofs.lemmas.Option.{slice_get_read}
use Rattle.xet_blocks.specs.declared.reconstruction_terms.file_term.TermBlock.{TermBlock}

pub newest_is : (ws : List TermBlock) (n : ℕ) (o : Option (Bor TermBlock)) → n ≡ length ws → IsGetResult ws 0 (n - 1) o
    → MatchOption o (ws ≡ []) (λ b. slice_get ws (length ws - 1) ≡ Some b.now)
newest_is ws n None len got = nil_from_length ws (omega (arith, got.3))
newest_is ws n (Some b) len got =
    let some : 0 < length ws = got.3.0 in
    let at : b.now ≡ get_or ws (length ws - 1) b.now = cc (got.1, len) in
    slice_get_read ws (length ws) (length ws - 1) b.now refl (omega arith) at
