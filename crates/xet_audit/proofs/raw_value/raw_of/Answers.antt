use Rattle.std.proofs.Common.{rules, ◌≡◌, sym, ◌∙◌}
use Rattle.std.specs.Prelude.{Some, codes, option_and_then}
use Rattle.serde_json.specs.Find.{as_object, get}
use Rattle.serde_json.specs.View.{members_view, view}
use Rattle.xet_audit.proofs.Members.{float_lists_none, of_members}
use Rattle.xet_audit.proofs.raw_value.raw_of.Goals as goal

pub returns-then-holds_float-clause-listed : goal.returns-then-holds_float-clause-listed
returns-then-holds_float-clause-listed c = float_lists_none (view c.args.value.now) (sym c.holds_float.ensures ∙ c.if-holds_float.true)

pub returns-clause-listed : goal.returns-clause-listed
returns-clause-listed c =
    let d = view c.args.value.now in
    let xorbs = members_view c.in-Some.xorbs.now.entries in
    let files = members_view c.in-Some-and_then.files.now.entries in
    let is : Some xorbs ≡ option_and_then as_object (get (codes "xorbs") d) = search rules in
    let are : Some files ≡ option_and_then as_object (get (codes "files") d) = search rules in
    of_members d xorbs files is are c.raw_listed.result (sym c.holds_float.ensures ∙ c.if-holds_float.false) c.raw_listed.ensures.listed
