use Rattle.xet_leader.proofs.looks.look_up_one.Goals as goal

pub look_up_block-requires : goal.look_up_block-requires
look_up_block-requires g c = c.requires

pub returns-in-Ok : goal.returns-in-Ok
returns-in-Ok g c = record {
  looked = (c.in-Ok.ensures.looked.looked, c.is_some.ensures);
  short = tt;
  memory = tt;
  entries = c.in-Ok.ensures.looked.entries;
}

pub returns-in-Err : goal.returns-in-Err
returns-in-Err g c = record {
  looked = tt;
  short = c.in-Err.ensures.looked.short;
  memory = c.in-Err.ensures.looked.memory;
  entries = c.in-Err.ensures.looked.entries;
}
