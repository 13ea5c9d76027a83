-- Blocks by their places.
use Rattle.xet_ties.specs.Recordings.{Place}
use Rattle.xet_leader.specs.declared.missing_blocks.BlockAt.{BlockAt}

-- a plan's number, and the block's number in it
abbrev pub place_at : BlockAt → Place
place_at b = (b.plan, b.block)
