use Rattle.std.proofs.Common.{◌<◌, ◌≡◌, ◌^◌, ◌∙◌, List, ap, get_or, length, refl, subst, sym, All}
use Rattle.std.proofs.lemmas.List.{take_all}
use Rattle.xet_base.specs.declared.stored.StoredFile.{StoredFile}
use Rattle.xet_agree.specs.steps.Alike.{HasBytes, bytes_in}
use Rattle.xet_agree.proofs.Agreeing.{short_at}
use Rattle.xet_agree.proofs.agreement.files_agree.Goals as goal

pub has_bytes-requires-clause-short : goal.has_bytes-requires-clause-short
has_bytes-requires-clause-short c =
    let s = c.args.s.now in
    let f = c.file-item.result in
    let i = c.loop-file.file-index in
    let all = c.files-file-items.ensures in
    let at : get_or s.files i f ≡ f = sym (c.file-item.is ∙ ap (λ (l : List StoredFile). get_or l i f) all) in
    let within : i < length s.files = subst (λ (l : List StoredFile). i < length l) all c.loop-file-test.true in
    subst (λ (g : StoredFile). length (bytes_in s g.terms) < 2 ^ 64) at (short_at s c.recall_valid.ensures i f within)

pub returns : goal.returns
returns c =
    let l = c.loop-file in
    let items = c.files-file-items.result.now in (
      λ _. subst (λ (fs : List StoredFile). All (HasBytes c.args.s.now c.args.t.now) fs)
          (take_all l.file-index items c.loop-file-test.false ∙ c.files-file-items.ensures) l.invariant,
      λ _. refl,
    )
