-- A leader at the start of its run.
use Rattle.std.specs.Prelude.{◌≡◌, ◌<◌, [], None, Option}
use Rattle.xet_base.specs.declared.item_id.UniqueID.{UniqueID}
use Rattle.xet_terms.specs.Managers.{begun}
use Rattle.xet_ties.specs.Causes.{refused_setting}
use Rattle.xet_ties.specs.Setup.{RunTold}
use Rattle.xet_leader.specs.declared.leader.Job.{Job}
use Rattle.xet_leader.specs.Led.{Led, setup_of_job}
use Rattle.xet_leader.specs.Steady.{IsGoing, no_loose}

-- nothing is planned, and the first queries are scheduled; what is planned is reported to this item, where there is one
abbrev pub first_led : Job → Option UniqueID → Led
first_led j progress = record {
  manager = begun j.file_hash j.byte_range j.config progress;
  plans = [];
  planned = 0;
  admitted = 0;
  finished = 0;
  fetches = 0;
}

-- over any arguments with which the settings can be met, a run of a range that has bytes goes on from no events
abbrev pub LeadStarts : Job → Led → Type 0
LeadStarts j l = (b : RunTold) → refused_setting (setup_of_job j) b.clients ≡ None
    → j.byte_range.start < j.byte_range.end → IsGoing (setup_of_job j) b (record { told = b; events = [] }) no_loose l
