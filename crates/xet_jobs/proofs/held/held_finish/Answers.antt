use Rattle.xet_jobs.specs.Telling.{seen_of}
use Rattle.xet_jobs.proofs.held.held_finish.Goals as goal

pub returns : goal.returns
returns g c = record {
  found = seen_of c.deref_mut-found.result.now;
  left = seen_of c.finish.new.session;
  listed = c.is_finalized-is_finalized.ensures.listed;
  ends = record {
    finishes = c.finish.ensures.ends;
    refused = c.finish.ensures.refused;
    so = c.finish.ensures.so;
  };
}
