use Rattle.std.proofs.Common.{refl}
use Rattle.xet_unordered_streams.proofs.awaited_terms.all_awaited.Goals as goal

pub untold_awaited-requires : goal.untold_awaited-requires
untold_awaited-requires g c = c.is_untold.ensures.yes c.if-not-is_untold.false

pub returns-then-not-is_untold : goal.returns-then-not-is_untold
returns-then-not-is_untold g c =
    let no = c.is_untold.ensures.no c.if-not-is_untold.true in
    record { terms = λ h. absurd (no h); bytes = λ h. absurd (no h); failed = λ h. (refl, refl) }

pub returns : goal.returns
returns g c =
    let yes_it = c.is_untold.ensures.yes c.if-not-is_untold.false in
    let a = c.untold_awaited.ensures in
    record { terms = λ h. a.terms; bytes = λ h. a.bytes; failed = λ h. absurd (h yes_it) }
