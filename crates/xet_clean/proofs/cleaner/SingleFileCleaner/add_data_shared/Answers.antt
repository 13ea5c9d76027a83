use Rattle.xet_upload_session.specs.Telling.{told_by}
use Rattle.xet_clean.specs.Showing.{cleaner_of}
use Rattle.xet_clean.proofs.cleaner.SingleFileCleaner.add_data_shared.Goals as goal

pub returns : goal.returns
returns g c =
    let cleaner = cleaner_of g.T.Cutter.told c.args.self.now in
    record {
      found = told_by c.deref_mut-found.result.now;
      left = told_by c.add_taken.new.session;
      before = c.deref_mut-found.result.now.files.tracker;
      after = c.add_taken.new.session.files.tracker;
      listed = c.is_finalized-is_finalized.ensures.listed;
      adds = c.add_taken.ensures.adds cleaner c.args.bytes.now c.take_in-taken.ensures;
      tells = c.add_taken.ensures.tells cleaner c.args.bytes.now c.take_in-taken.ensures;
      grows = c.add_taken.ensures.grows cleaner c.args.bytes.now c.take_in-taken.ensures;
      calls = c.add_taken.ensures.calls;
    }
