use Rattle.std.proofs.Common.{◌≡◌, ◌∙◌, ◌+◌, ◌<◌, ◌++◌, ◌∷◌, Err, List, ap, drop, get_or, length, subst, sym, take}
use Rattle.std.proofs.lemmas.List.{drop_more, take-append-drop, take_more}
use Rattle.xet_base.proofs.CallerLemmas.{err-of}
use Rattle.xet_base.specs.declared.cas_types.FileRange.{FileRange}
use Rattle.xet_resume_command.specs.Words.{ranges_of}
use Rattle.xet_resume_command.specs.steps.Filling.{RangeAnswer, RangeDone, SomeDone}
use Rattle.xet_resume_command.proofs.Filled.{all_failed, none_done, one_more, told_file}
use Rattle.xet_resume_command.proofs.fetching.fetch_all.Goals as goal

abbrev none : FileRange
none = record { start = 0; end = 0 }

pub loop-range-init : goal.loop-range-init
loop-range-init g c =
    none_done c.args.store.now c.args.wanted.now c.args.gaps.now (told_file c.args.file.now) c.requires.gaps
    c.requires.empty

pub loop-range-preserved : goal.loop-range-preserved
loop-range-preserved g c =
    let s = c.args.store.now in
    let w = c.args.wanted.now in
    let now = c.loop-range in
    let i = now.range-index in
    let n = c.fetch.new in
    let k = c.in_ok-count.field-0 in
    let items = c.ranges-range-items.ensures in
    let within = subst (λ (l : List FileRange). i < length l) items c.loop-range-test.true in
    subst (λ (l : List FileRange). SomeDone s w l n.gaps (told_file n.file) (now.count + k))
    (sym (take_more (ranges_of w) i none within))
    (one_more s w (take i (ranges_of w)) (get_or (ranges_of w) i none) now.gaps (told_file now.file) now.count now.invariant
    n.gaps (told_file n.file) k
    (subst (λ (l : List FileRange). RangeDone s (get_or l i none) now.gaps n.gaps (told_file now.file) (told_file n.file) k)
    items c.in_ok-count.ensures))

pub returns-in_err-count : goal.returns-in_err-count
returns-in_err-count g c =
    let s = c.args.store.now in
    let w = c.args.wanted.now in
    let now = c.loop-range in
    let i = now.range-index in
    let n = c.fetch.new in
    let e = c.in_err-count.field-0.0 in
    let same : c.from_residual.result ≡ Err e = err-of _ _ c.from_residual.ensures in
    let items = c.ranges-range-items.ensures in
    let within = subst (λ (l : List FileRange). i < length l) items c.loop-range-test.true in
    let split : ranges_of w ≡ take i (ranges_of w) ++ get_or (ranges_of w) i none ∷ drop (i + 1) (ranges_of w) =
    sym (take-append-drop i (ranges_of w))
    ∙ ap (λ (l : List FileRange). take i (ranges_of w) ++ l) (drop_more (ranges_of w) i none within) in
    rw same (all_failed s w (take i (ranges_of w)) (drop (i + 1) (ranges_of w)) (get_or (ranges_of w) i none) now.gaps
    n.gaps (told_file now.file) (told_file n.file) now.count now.invariant split e
    (subst (λ (l : List FileRange). RangeAnswer s (get_or l i none) now.gaps n.gaps (told_file now.file)
    (told_file n.file) (Err e)) items c.in_err-count.ensures))
