use Rattle.std.proofs.Common.{◌≡◌, ◌∙◌, ◌+◌, ◌-◌, ◌<◌, ap, sym, subst, arith, List, ℕ, [], ◌∷◌, length, drop, All}
use Rattle.std.proofs.lemmas.List.{drop_all, drop_more}
use Rattle.std.proofs.lemmas.List.Elements.{All-cons, All-nil}
use Rattle.hex.specs.Hex.{encode_lower}
use Rattle.serde_json.specs.Data.{Data, Members, array, object, put}
use Rattle.serde_json.specs.View.{members_view}
use Rattle.serde_json.proofs.Views.{view-Object}
use Rattle.xet_base.specs.declared.mdb_shard.Xorb.{Xorb}
use Rattle.xet_compact.specs.Documents.{IsListableXorb, chunk_items, xorb_members}
use Rattle.xet_compact.proofs.documents.xorbs_value.Goals as goal

pub loop-i-init : goal.loop-i-init
loop-i-init c =
    let xs = c.args.xorbs.now in
    let none = drop_all (length xs) xs (omega arith) in
    record {
      put = ap members_view c.new-members.ensures.empty ∙ sym (ap xorb_members none);
      told = subst (λ (l : List Xorb). All IsListableXorb l) (sym none) (All-nil IsListableXorb);
    }

pub loop-i-preserved : goal.loop-i-preserved
loop-i-preserved c =
    let xs = c.args.xorbs.now in
    let k = c.loop-i.i in
    let x = c.index-xorbs-i.result in
    let w = c.loop-i.invariant in
    let here : k - 1 < length xs = omega arith in
    let back : k - 1 + 1 ≡ k = omega arith in
    let more : drop (k - 1) xs ≡ x ∷ drop k xs = drop_more xs (k - 1) x here ∙ ap (λ (y : Xorb). y ∷ drop (k - 1 + 1) xs)
    (sym c.index-xorbs-i.is) ∙ ap (λ (n : ℕ). x ∷ drop n xs) back in
    let value = c.in_ok-chunks.ensures.value ∙ ap (λ (cs : List (List ℕ)). array (chunk_items cs)) c.as_slice.ensures in
    let bytes = subst (λ (cs : List (List ℕ)). All (λ b. All (λ n. n < 256) b) cs) c.as_slice.ensures c.in_ok-chunks.ensures.told in
    record {
      put = c.in_ok-put_hash.ensures.put
          ∙ ap (λ (d : Data). put (encode_lower x.hash.0) d (members_view c.loop-i.members.entries)) value
          ∙ ap (λ (ms : Members). put (encode_lower x.hash.0) (array (chunk_items x.chunks)) ms) w.put
          ∙ sym (ap xorb_members more);
      told = subst (λ (l : List Xorb). All IsListableXorb l) (sym more) (All-cons IsListableXorb x (drop k xs)
          (c.put_hash.ensures.told, bytes) w.told);
    }

pub returns-clause-value : goal.returns-clause-value
returns-clause-value c =
    let none : c.loop-i.i ≡ 0 = omega arith in
    view-Object c.loop-i.members ∙ ap object (c.loop-i.invariant.put ∙ ap (λ (n : ℕ). xorb_members (drop n c.args.xorbs.now)) none)

pub returns-clause-told : goal.returns-clause-told
returns-clause-told c =
    let none : c.loop-i.i ≡ 0 = omega arith in
    subst (λ (n : ℕ). All IsListableXorb (drop n c.args.xorbs.now)) none c.loop-i.invariant.told
