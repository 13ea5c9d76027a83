use Rattle.std.proofs.Common.{◌≡◌, ◌∙◌, ap, sym}
use Rattle.hex.specs.Hex.{encode_lower}
use Rattle.xet_base.specs.declared.merklehash.MerkleHash.{MerkleHash}
use Rattle.xet_gaps.proofs.TextPieces.{Cut, hash_read, no_hash, none_cut, same_cut}
use Rattle.xet_gaps.proofs.reading.read_hash.Goals as goal

pub returns-in_err-word : goal.returns-in_err-word
returns-in_err-word c =
    rw c.from_residual.ensures (no_hash c.args.text.now c.split_once.result c.split_once.ensures.cases
    (λ x e h is w. none_cut c.split_once.result c.in_err-word.was x e))

pub returns-in_err-hash : goal.returns-in_err-hash
returns-in_err-hash c =
    rw c.from_residual-in_err-hash.ensures (no_hash c.args.text.now c.split_once.result c.split_once.ensures.cases
    (λ x e h is w.
    let same = same_cut c.split_once.result x (c.in_ok-word.word, c.in_ok-word.rest) e c.in_ok-word.was in
    let word : c.in_ok-word.word.now ≡ encode_lower h.0 = ap (λ (y : Cut). y.0.now) (sym same) ∙ w in
    none_cut c.ok.result c.in_err-hash.was h
    (c.ok.ensures.value ∙ c.from_hex.ensures.value ∙ hash_read h c.in_ok-word.word.now is word)))

pub returns-then-not-is_hash : goal.returns-then-not-is_hash
returns-then-not-is_hash c =
    no_hash c.args.text.now c.split_once.result c.split_once.ensures.cases
    (λ x e h is w.
    let same = same_cut c.split_once.result x (c.in_ok-word.word, c.in_ok-word.rest) e c.in_ok-word.was in
    let word : c.in_ok-word.word.now ≡ encode_lower h.0 = ap (λ (y : Cut). y.0.now) (sym same) ∙ w in
    let hash = same_cut c.ok.result h c.in_ok-hash.hash
    (c.ok.ensures.value ∙ c.from_hex.ensures.value ∙ hash_read h c.in_ok-word.word.now is word) c.in_ok-hash.was in
    let same_word = c.if-not-is_hash.ensures.1 (word ∙ ap (λ (z : MerkleHash). encode_lower z.0) hash) in absurd (cc))
