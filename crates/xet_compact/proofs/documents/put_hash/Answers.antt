use Rattle.std.proofs.Common.{◌≡◌, ◌∙◌, ap, sym, subst, List, ℕ}
use Rattle.hex.specs.Hex.{encode_lower}
use Rattle.serde_json.specs.Data.{put}
use Rattle.serde_json.specs.View.{members_view, view}
use Rattle.serde_json.proofs.Views.{members_view-insert_entry}
use Rattle.xet_compact.proofs.documents.put_hash.Goals as goal

pub returns-clause-put : goal.returns-clause-put
returns-clause-put c =
    let old = c.args.members.now.entries in
    ap members_view c.in_ok-insert.ensures.entries
    ∙ members_view-insert_entry old c.in_ok-key.key c.args.value
    ∙ ap (λ (k : List ℕ). put k (view c.args.value) (members_view old)) (c.in_ok-key.ensures.text ∙ ap encode_lower c.as_slice.ensures)
