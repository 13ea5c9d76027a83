use Rattle.xet_gaps.proofs.gap_record.GapRecord.to_text.Goals as goal

pub returns-clause-is : goal.returns-clause-is
returns-clause-is c =
    rw (← c.self.view_is) (record {
      hash = c.write_text.ensures.hash.0;
      hash_bytes = c.write_text.ensures.hash.1;
      short = c.write_text.ensures.short;
      gaps_are = c.self.invariant.1;
    })
