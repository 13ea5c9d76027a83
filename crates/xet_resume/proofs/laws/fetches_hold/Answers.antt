use Rattle.xet_resume.proofs.Sequences.{done_is_whole, fetches_hold, fetches_shrink, fetches_tell}
use Rattle.xet_resume.proofs.laws.fetches_hold.Goals as goal

pub returns : goal.returns
returns c = record { hold = fetches_hold; tell = fetches_tell; shrink = fetches_shrink; done = done_is_whole }
