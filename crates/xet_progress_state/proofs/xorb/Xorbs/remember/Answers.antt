use Rattle.std.proofs.Common.{◌≡◌, ◌∙◌, List, ap, map, Some}
use Rattle.std.specs.Prelude.{position}
use Rattle.std.specs.Ordering.{is_eq}
use Rattle.xet_base.specs.Hashes.{hash_eq}
use Rattle.xet_progress_state.specs.declared.hash_key.HashKey.{HashKey}
use Rattle.xet_progress_state.specs.declared.xorb.TrackedXorb.{TrackedXorb}
use Rattle.xet_progress_state.specs.steps.Keys.{key_cmp, key_of}
use Rattle.xet_progress_state.proofs.Remembering.{key_look}
use Rattle.xet_progress_state.proofs.xorb.Xorbs.remember.Goals as goal

abbrev keys_of : List TrackedXorb → List HashKey
keys_of xs = map (λ (x : TrackedXorb). key_of x.hash) xs

pub invariant_of-self : goal.invariant_of-self
invariant_of-self c =
    let items = c.self.inside.list.items in
    let there : position (λ (x : TrackedXorb). hash_eq x.hash c.args.hash.now) items ≡ Some c.next-next.result =
    ap (λ (l : List TrackedXorb). position (λ (x : TrackedXorb). hash_eq x.hash c.args.hash.now) l) c.self.view_is ∙ c.is_at.ensures c.if-is_at.true in
    let at : position (λ y. is_eq (key_cmp y c.of-key.result)) (keys_of items) ≡ Some c.next-next.result =
    ap (λ (k : HashKey). position (λ y. is_eq (key_cmp y k)) (keys_of items)) c.of-key.ensures ∙ key_look (λ (x : TrackedXorb). x.hash) items c.args.hash.now ∙ there in
    c.remember_at.ensures (keys_of items) c.self.invariant at

pub invariant_of-self-2 : goal.invariant_of-self-2
invariant_of-self-2 c = c.remember.ensures (keys_of c.self.inside.list.items) c.self.invariant
