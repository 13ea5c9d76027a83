use Rattle.xet_upload_laws.proofs.Stores.{store-shards, store-xorbs}
use Rattle.xet_upload_laws.proofs.laws.stores_after_logs.Goals as goal

pub returns : goal.returns
returns c = record { xorbs = store-xorbs; shards = store-shards }
