use Rattle.std.proofs.Common.{◌≡◌, ◌∙◌, List, ap, rules}
use Rattle.std.specs.Map.{keys_of, remove_entry}
use Rattle.xet_base.specs.declared.item_id.UniqueID.{UniqueID}
use Rattle.xet_progress_state.specs.Group.{is_id}
use Rattle.xet_download.specs.Streams.{without_id}
use Rattle.xet_download.proofs.Flags.{keys_removed}
use Rattle.xet_download.proofs.stream_flags.StreamFlags.remove.Goals as goal

pub returns : goal.returns
returns c =
    let es = c.self.inside.flags.entries in
    let taken : c.remove.new.self.entries ≡ remove_entry (is_id c.args.id) es = search rules in
    ap keys_of taken ∙ keys_removed es c.args.id
    ∙ ap (λ (ids : List UniqueID). without_id ids c.args.id) c.self.view_is
