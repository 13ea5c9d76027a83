use Rattle.std.proofs.Common.{◌∙◌}
use Rattle.xet_base.specs.Store.{IsValid}
use Rattle.xet_audit.specs.Raws.{store_of_raw}
use Rattle.xet_compact.proofs.Compacting.{all_files, kept_files_apart}
use Rattle.std.proofs.lemmas.Result.{IfOk-weaker}
use Rattle.xet_compact.proofs.compaction.ascending_files.Goals as goal

pub sorted_files-requires : goal.sorted_files-requires
sorted_files-requires c =
    kept_files_apart (store_of_raw c.args.kept.now.raw.now) c.in_ok-files.files.items c.requires.valid c.in_ok-files.ensures

pub returns : goal.returns
returns c =
    IfOk-weaker c.sorted_files.result _ _ (λ sorted are. all_files (store_of_raw c.args.kept.now.raw.now)
    c.in_ok-files.files.items sorted c.in_ok-files.ensures are) c.sorted_files.ensures
