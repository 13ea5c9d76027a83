use Rattle.std.proofs.Common.{rules, ◌≡◌, sym, ◌∙◌}
use Rattle.std.specs.Prelude.{Some, codes, option_and_then}
use Rattle.serde_json.specs.Find.{as_object, get}
use Rattle.serde_json.specs.View.{view, members_view}
use Rattle.xet_document.proofs.DocumentMembers.{stored_document}
use Rattle.xet_document.proofs.value_store.store_of.Goals as goal

pub returns : goal.returns
returns c =
    let d = view c.args.value.now in
    let xorbs = members_view c.in-Some.xorbs.now.entries in
    let files = members_view c.in-Some-and_then.files.now.entries in
    let is : Some xorbs ≡ option_and_then as_object (get (codes "xorbs") d) = search rules in
    let are : Some files ≡ option_and_then as_object (get (codes "files") d) = search rules in
    stored_document d xorbs files c.listed_store.result is are (sym c.holds_float.ensures ∙ c.if-holds_float.false) c.listed_store.ensures
