use Rattle.std.proofs.Common.{refl}
use Rattle.std.specs.Prelude.{OnOk}
use Rattle.xet_lane.specs.Fetches.{ask_of}
use Rattle.xet_stream_blocks.proofs.LaneAsks.{lane_asked_so}
use Rattle.xet_stream_blocks.proofs.asking.ask_lane.Goals as goal

pub returns-clause-asked : goal.returns-clause-asked
returns-clause-asked g c = lane_asked_so g.C.Client.told c.args.clients.now c.args.lane c.index-clients-lane.result
    c.ask_block.new.client (ask_of c.args.wanted.now) c.ask_block.result c.requires.within c.requires.own
    c.ask_block.ensures.did
