use Rattle.std.proofs.Common.{◌∙◌, refl, map}
use Rattle.xet_progress_state.specs.declared.part.Part.{Part}
use Rattle.xet_progress_state.proofs.Indexed.{numbered}
use Rattle.xet_progress_state.proofs.part.Parts.number_of.Goals as goal

pub returns : goal.returns
returns c = rw (← c.self.view_is) (c.number_of.ensures (map (λ (p : Part). p.file) c.self.inside.list.items) c.self.invariant ∙ numbered (λ (p : Part). p.file) c.args.file c.self.inside.list.items (map (λ (p : Part). p.file) c.self.inside.list.items) refl)
