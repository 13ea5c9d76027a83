use Rattle.std.proofs.Common.{◌≡◌, ◌==◌, drop, false, get_or, true, sym, ap, ◌∙◌, subst, arith, take_all, length-drop}
use Rattle.fast_float.specs.Text.{scan}
use Rattle.xet_document.specs.steps.Reads.{IsWhole}
use Rattle.xet_document.proofs.Floats.{whole_negative, whole_some}
use Rattle.xet_document.proofs.ignored.is_whole.Goals as goal

pub returns-in-Some : goal.returns-in-Some
returns-in-Some c = λ yes.
    let s = c.as_bytes-bytes.result.now in
    let signed : (get_or s 0 0 == 45) ≡ true = sym c.if-has_minus.ensures.value in
    let parts : c.scan.result ≡ scan (drop 1 s) = c.scan.ensures.parts ∙ ap scan (take_all _ (drop 1 s) (omega (arith, length-drop 1 s))) in
    let found = rw (c.in-Some.is, parts) at c.to_u64.ensures in
    let below = rw found.1 at c.fits_below_zero.ensures yes in
    subst IsWhole c.as_bytes-bytes.ensures.value (whole_negative s signed found.0.0 below.0 below.1)

pub returns-else-has_minus : goal.returns-else-has_minus
returns-else-has_minus c = λ yes.
    let s = c.as_bytes-bytes.result.now in
    let unsigned : (get_or s 0 0 == 45) ≡ false = sym c.if-has_minus.ensures.value in
    subst IsWhole c.as_bytes-bytes.ensures.value (whole_some s c.to_u64-else-has_minus.result unsigned (rw c.scan-else-has_minus.ensures.parts at c.to_u64-else-has_minus.ensures) (sym c.is_some.ensures ∙ yes))
