use Rattle.xet_upload_session.proofs.Completions.{backs-taken}
use Rattle.xet_upload_session.proofs.Tests.{has-listed, tested-storable}
use Rattle.xet_upload_session.proofs.session.FileUploadSession.register_single_file_clean_completion.Goals as goal

pub returns-then-fit : goal.returns-then-fit
returns-then-fit g c =
    let call = c.join_waiting.ensures.call c.args.now in
    record {
      call = call;
      tracks = c.join_waiting.ensures.tracks;
      group = c.join_waiting.ensures.group;
      backs = backs-taken _ _ _ _ c.join_waiting.result (has-listed _ c.args.self.now.lists c.args.self.now.waits) c.requires.named call (tested-storable _ c.join_waiting.new.self.waits);
    }

pub returns-clause-backs : goal.returns-clause-backs
returns-clause-backs g c =
    backs-taken _ _ _ _ c.cut_waiting.result (has-listed _ c.args.self.now.lists c.args.self.now.waits) c.requires.named c.cut_waiting.ensures.call (tested-storable _ c.cut_waiting.new.self.waits)

pub returns-then-num_bytes-clause-backs : goal.returns-then-num_bytes-clause-backs
returns-then-num_bytes-clause-backs g c =
    backs-taken _ _ _ _ c.cut_file.result (has-listed _ c.args.self.now.lists c.args.self.now.waits) c.requires.named c.cut_file.ensures.call (tested-storable _ c.cut_file.new.self.waits)
