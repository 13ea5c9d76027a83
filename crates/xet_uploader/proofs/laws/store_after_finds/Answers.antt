use Rattle.xet_uploader.proofs.AfterLogs.{after_finds_files, after_finds_xorbs}
use Rattle.xet_uploader.proofs.laws.store_after_finds.Goals as goal

pub returns : goal.returns
returns c = record { xorbs = after_finds_xorbs; files = after_finds_files }
