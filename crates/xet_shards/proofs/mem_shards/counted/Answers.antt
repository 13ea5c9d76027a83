use Rattle.std.proofs.Common.{◌≡◌, ◌-◌, ◌^◌, min, length, arith}
use Rattle.xet_shards.proofs.Runs.{counted_cut}
use Rattle.xet_shards.proofs.mem_shards.counted.Goals as goal

pub returns : goal.returns
returns c =
    let most : c.min.result ≡ min (2 ^ 32 - 1) (length c.as_slice-chunks.result.now) = omega (arith, c.min.ensures) in
    counted_cut c.args.xorb.now c.min.result c.as_slice-chunks.result.now c.as_slice-chunks.ensures most
