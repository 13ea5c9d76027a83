use Rattle.std.proofs.Common.{ap}
use Rattle.xet_shelves.specs.Shelves.{ShelfTold}
use Rattle.xet_uploader.specs.Uploads.{UploaderTold}
use Rattle.xet_mirror_command.proofs.Copies.{ends_of}
use Rattle.xet_mirror_command.proofs.run.run.Goals as goal

pub returns : goal.returns
returns c =
    ends_of c.args.stores.source c.args.stores.target c.args.verify c.args.files.now _ _ _ _ c.mirror_files-answer.result
    c.recall_valid.ensures c.recall_valid-2.ensures c.requires (ap (λ (r : ShelfTold). r.store) c.new-shelf.ensures)
    (ap (λ (r : UploaderTold). r.first) c.new-target.ensures.told) (ap (λ (r : UploaderTold). r.puts) c.new-target.ensures.told)
    c.mirror_files-answer.ensures
