use Rattle.std.proofs.Common.{◌∙◌, List, ap, map}
use Rattle.std.specs.Prelude.{position}
use Rattle.std.specs.Ordering.{is_eq}
use Rattle.xet_progress_state.specs.declared.hash_key.HashKey.{HashKey}
use Rattle.xet_progress_state.specs.declared.xorb.TrackedXorb.{TrackedXorb}
use Rattle.xet_progress_state.specs.steps.Keys.{key_cmp, key_of}
use Rattle.xet_progress_state.proofs.Remembering.{key_look}
use Rattle.xet_progress_state.proofs.xorb.Xorbs.number_of.Goals as goal

pub returns : goal.returns
returns c =
    let items = c.self.inside.list.items in
    let keys : List HashKey = map (λ (x : TrackedXorb). key_of x.hash) items in
    rw (← c.self.view_is)
    (c.number_of.ensures keys c.self.invariant
    ∙ ap (λ (k : HashKey). position (λ y. is_eq (key_cmp y k)) keys) c.of.ensures
    ∙ key_look (λ (x : TrackedXorb). x.hash) items c.args.hash.now)
