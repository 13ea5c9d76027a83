-- What a session tells, by what its uploader and its stores tell.
use Rattle.std.specs.Prelude.{◌≡◌, map}
use Rattle.xet_uploader.specs.declared.uploader.Uploader as uploader
use Rattle.xet_shards.specs.declared.shard_store.ShardStore as shard_store
use Rattle.xet_shard_interface.specs.Interfaces.{shards_told}
use Rattle.xet_upload_session.specs.Sessions.{SessionTold}
use Rattle.xet_upload_session.specs.declared.session.FileUploadSession.{FileUploadSession}

abbrev pub told_by : {U R : Type 0} {G : uploader.Ghosts U} {H : shard_store.Ghosts R}
    → FileUploadSession U R G H → SessionTold
told_by {G = G} {H = H} s = record {
  uploader = G.told s.uploader;
  shards = shards_told H.told s.shards;
  waiting = s.waiting;
  finished = map (λ p. p.info) s.finished.items;
  listed = s.listed.hashes.items;
  registered = s.registered.hashes.items;
  repeated = s.repeated.told;
  metrics = s.metrics;
  failed = s.failed;
  finalized = s.finalized;
  queries = s.queries_enabled;
  thresholds = s.thresholds;
}

-- the source of ids and the group are as before
abbrev pub KeepsGroup : {U R : Type 0} {G : uploader.Ghosts U} {H : shard_store.Ghosts R}
    → FileUploadSession U R G H → FileUploadSession U R G H → Type 0
KeepsGroup b n = (n.ids ≡ b.ids) × (n.progress ≡ b.progress)
