use Rattle.xet_lanes.proofs.BothHalves.{all_drew, ready_halves}
use Rattle.xet_lanes.proofs.halves.+drawers.Goals as goal

pub draw_from-draw_both-requires-clause-front : goal.draw_from-draw_both-requires-clause-front
draw_from-draw_both-requires-clause-front g t c κs within =
    (ready_halves _ c.args.shared.now.claims.now _ _ _ c.split_at_mut-front_jobs.ensures.value c.requires.ready).0

pub draw_from-draw_both-requires-clause-back : goal.draw_from-draw_both-requires-clause-back
draw_from-draw_both-requires-clause-back g t c κs within =
    (ready_halves _ c.args.shared.now.claims.now _ _ _ c.split_at_mut-front_jobs.ensures.value c.requires.ready).1

pub draw_from-returns : goal.draw_from-returns
draw_from-returns g t c =
    all_drew g.C.Client.told _ c.args.shared.now.claims.now _ _ _ _ _ _ _ _ c.split_at_mut-front.ensures.value
    c.draw_both.ensures.front c.draw_both.ensures.back
