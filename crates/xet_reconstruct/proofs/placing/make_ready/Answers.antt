use Rattle.xet_reconstruct.proofs.Placings.{made_ready}
use Rattle.xet_reconstruct.proofs.placing.make_ready.Goals as goal

pub returns-in-Ok-set_place : goal.returns-in-Ok-set_place
returns-in-Ok-set_place g c =
    made_ready c.args.truncate c.args.place _ _ _ c.in-Ok.ensures c.in-Ok-set_place.ensures.seek
    c.in-Ok-set_place.ensures.follows
