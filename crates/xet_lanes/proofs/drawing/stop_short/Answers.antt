use Rattle.xet_lanes.proofs.Draws.{told_or_same}
use Rattle.xet_lanes.proofs.drawing.stop_short.Goals as goal

pub returns-clause-told : goal.returns-clause-told
returns-clause-told g c =
    told_or_same c.stop_others.result _ _ _ (λ short. (c.stop_others.ensures.short short).1)
    c.stop_others.ensures.told
