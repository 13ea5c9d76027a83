use Rattle.std.proofs.Common.{◌≡◌, ◌∙◌, List, ap, rules}
use Rattle.std.specs.BTreeMap.{insert_entry}
use Rattle.std.specs.Map.{keys_of}
use Rattle.xet_base.specs.declared.item_id.UniqueID.{UniqueID}
use Rattle.xet_progress_state.specs.Group.{id_cmp}
use Rattle.xet_download.specs.Streams.{with_id}
use Rattle.xet_download.proofs.Flags.{keys_inserted}
use Rattle.xet_download.proofs.stream_flags.StreamFlags.add.Goals as goal

pub returns-clause-ok : goal.returns-clause-ok
returns-clause-ok c =
    let es = c.self.inside.flags.entries in
    let added : c.insert.new.self.entries ≡ insert_entry id_cmp es c.args.id c.args.flag = search rules in
    ap keys_of added ∙ keys_inserted es c.args.id c.args.flag
    ∙ ap (λ (ids : List UniqueID). with_id ids c.args.id) c.self.view_is
