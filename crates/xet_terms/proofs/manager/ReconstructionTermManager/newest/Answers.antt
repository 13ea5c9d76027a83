use Rattle.std.proofs.Common.{◌≡◌, ◌-◌, [], length, Some, subst}
use Rattle.std.specs.Prelude.{MatchOption, slice_get}
use Rattle.xet_terms.specs.Managers.{Manager}
use Rattle.xet_terms.proofs.Newest.{newest_is}
use Rattle.xet_terms.proofs.manager.ReconstructionTermManager.newest.Goals as goal

pub returns : goal.returns
returns g c =
    subst (λ (m : Manager). MatchOption c.back.result (m.waiting ≡ []) (λ b. slice_get m.waiting (length m.waiting - 1) ≡ Some b.now)) c.self.view_is
    (newest_is c.self.inside.waiting.items c.self.inside.waiting.len c.back.result c.self.inside.waiting.ok.0 c.back.ensures.item)
