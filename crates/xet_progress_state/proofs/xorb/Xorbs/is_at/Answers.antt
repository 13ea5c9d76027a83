use Rattle.std.proofs.Common.{◌≡◌, ◌∙◌, List, Some, ap, length, refl, sym, true}
use Rattle.std.specs.Prelude.{position, slice_get}
use Rattle.std.specs.Ordering.{is_eq}
use Rattle.std.proofs.lemmas.Bool.{ltb-true}
use Rattle.std.proofs.lemmas.Option.{slice_get_read}
use Rattle.xet_base.specs.Hashes.{hash_eq}
use Rattle.xet_progress_state.specs.declared.xorb.TrackedXorb.{TrackedXorb}
use Rattle.xet_progress_state.specs.steps.Keys.{key_cmp, key_of}
use Rattle.xet_progress_state.proofs.Remembering.{key_at}
use Rattle.xet_progress_state.proofs.xorb.Xorbs.is_at.Goals as goal

pub returns-in-Some : goal.returns-in-Some
returns-in-Some c h =
    let items = c.self.inside.list.items in
    let place = c.args.place in
    let xorb = c.in-Some.xorb.now in
    let read = c.deref.result.now in
    let got : slice_get items place ≡ Some xorb =
    ap (λ (l : List TrackedXorb). slice_get l place) (sym c.deref.ensures.value)
    ∙ slice_get_read read (length read) place xorb refl (ltb-true place (length read) (sym c.in-Some.ensures.lookup.0)) c.in-Some.ensures.lookup.1 in
    let same : is_eq (key_cmp (key_of xorb.hash) (key_of c.args.hash.now)) ≡ true =
    (λ i. is_eq (key_cmp (sym c.of.ensures i) (sym c.requires i))) ∙ ap is_eq (sym c.cmp.ensures) ∙ sym c.is_eq.ensures ∙ h in
    ap (λ (l : List TrackedXorb). position (λ (x : TrackedXorb). hash_eq x.hash c.args.hash.now) l) (sym c.self.view_is)
    ∙ key_at (λ (x : TrackedXorb). x.hash) items c.self.inside.places c.args.hash.now place xorb c.self.invariant got same
