use Rattle.std.proofs.Common.{◌∙◌}
use Rattle.xet_upload_laws.proofs.SentContents.{first-told, made-memory}
use Rattle.xet_upload_laws.proofs.sending.new_session.Goals as goal

pub returns : goal.returns
returns c = made-memory _ c.new-7.result _ _ _ _ c.new-7.ensures.told (c.new-uploader.ensures.told
    ∙ first-told _ c.new.ensures) c.new-3.ensures c.new-4.ensures c.new-5.ensures
