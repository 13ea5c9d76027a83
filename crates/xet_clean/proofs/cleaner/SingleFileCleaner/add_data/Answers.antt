use Rattle.xet_clean.specs.Showing.{cleaner_of}
use Rattle.xet_clean.proofs.cleaner.SingleFileCleaner.add_data.Goals as goal

pub returns : goal.returns
returns g c =
    let before = cleaner_of g.T.Cutter.told c.args.self.now in
    record {
      adds = c.add_taken.ensures.adds before c.args.bytes.now c.take_in-taken.ensures;
      tells = c.add_taken.ensures.tells before c.args.bytes.now c.take_in-taken.ensures;
      grows = c.add_taken.ensures.grows before c.args.bytes.now c.take_in-taken.ensures;
      calls = c.add_taken.ensures.calls;
      group = c.add_taken.ensures.group;
    }
