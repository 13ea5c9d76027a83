-- Parts of a turn one after another.
use Rattle.std.proofs.Common.{Ok}
use Rattle.std.specs.Prelude.{Result}
use Rattle.xet_error.specs.declared.error.FileReconstructionError.{FileReconstructionError}
use Rattle.xet_ties.specs.Setup.{Setup}
use Rattle.xet_leader.specs.Led.{Led}
use Rattle.xet_leader.specs.Steady.{LeadPart, Loose, Moment}

-- a part that answered Ok, and the next one
pub lead_more : {A B : Type 0} (g : Setup) (m n p : Moment) (o u v : Loose) (l k j : Led) (x : A)
    (answer : Result B FileReconstructionError) → LeadPart g m n o u l k (Ok x) → LeadPart g n p u v k j answer
    → LeadPart g m p o v l j answer
lead_more g m n p o u v l k j x answer a c = record { ok = λ b s. c.ok b (a.ok b s); err = λ b s. c.err b (a.ok b s) }
