-- What a download session and a job tell, by what connections and cache tell.
use Rattle.std.specs.Prelude.{map, option_map}
use Rattle.std.specs.Arc.{arc_value}
use Rattle.xet_outside.specs.Told.{CacheTold, ClientTold}
use Rattle.xet_events.specs.declared.budget_book.BudgetBook.{BudgetBook}
use Rattle.xet_download.specs.Calls.{JobTold}
use Rattle.xet_download.specs.Downloads.{DownloadsTold, limits_under}
use Rattle.xet_download.specs.declared.job.DownloadJob.{DownloadJob}
use Rattle.xet_download.specs.declared.session.FileDownloadSession.{FileDownloadSession}

-- the session at this moment
abbrev pub told_by : {C K : Type 0} → (C → ClientTold) → (K → CacheTold) → FileDownloadSession C K → DownloadsTold
told_by c k s = record {
  clients = map c s.connections.clients.items;
  cache = k s.connections.chunk_cache;
  config = s.config;
  limits = limits_under (option_map (λ b. (arc_value {X = BudgetBook} b).settings.limit) s.book) s.config;
  ids = s.ids;
  streams = s.streams;
  finalized = s.finalized;
}

-- the job
abbrev pub job_of : DownloadJob → JobTold
job_of j = record {
  file = j.file_hash;
  range = j.range;
  config = j.config;
  limits = limits_under (option_map (λ b. (arc_value {X = BudgetBook} b).settings.limit) j.book) j.config;
  expected = j.expected;
  id = j.updater;
}
