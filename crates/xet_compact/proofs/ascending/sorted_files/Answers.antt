use Rattle.std.proofs.Common.{◌∙◌, rules, subst, sym, List}
use Rattle.std.proofs.lemmas.List.Sorted.{answers_always}
use Rattle.xet_audit.specs.declared.raw_store.RawFile.{RawFile}
use Rattle.xet_compact.specs.steps.Ascending.{AreFiles}
use Rattle.xet_compact.proofs.AscendingLists.{sorted_files_ascend}
use Rattle.xet_compact.proofs.ascending.sorted_files.Goals as goal

pub returns : goal.returns
returns c =
    let keys = answers_always _ _ _ (λ f a r next called. search rules) in
    let sorted = c.in_ok-sort_by_key.ensures.sorted (λ (f : RawFile). f.hash) keys in
    subst (λ (fs : List RawFile). AreFiles c.args.files.items fs) (sym c.from_vec.ensures) (sorted_files_ascend
    c.args.files.items c.sort_by_key.new.self.items c.sort_by_key.ensures.permutation sorted c.requires)
