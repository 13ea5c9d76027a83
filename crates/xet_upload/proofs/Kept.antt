-- What the parts of a file keep: own terms that lie within the chunks.
use Rattle.std.proofs.Common.{◌≡◌, ℕ, ◌+◌, List, [], ◌∷◌, ◌++◌, map, sym, subst, arith, inl, inr}
use Rattle.std.specs.Prelude.{All}
use Rattle.std.proofs.lemmas.List.Elements.{All-nil, All-cons, All-head, All-append}
use Rattle.xet_base.specs.declared.merklehash.MerkleHash.{MerkleHash}
use Rattle.xet_waiting.specs.declared.waiting.TermXorb.{TermXorb}
use Rattle.xet_waiting.specs.declared.waiting.TermXorb.TheVariants.{Own, Stored}
use Rattle.xet_waiting.specs.declared.waiting.WaitingTerm.{WaitingTerm}
use Rattle.xet_waiting.specs.Waitings.{IsCounted, LiesIn}
use Rattle.xet_waiting.proofs.CallerLemmas.{counted-more}
use Rattle.xet_upload.specs.FileDatas.{renamed}
use Rattle.xet_upload.specs.Standing.{Added, continue}
use Rattle.xet_upload.proofs.Parts.{All-append_left, All-append_right}

lies-joined : (n : ℕ) (x : TermXorb) (a b c d : ℕ) → b ≡ c → LiesIn n x a b → LiesIn n x c d → LiesIn n x a d
lies-joined n Own a b c d e h k = let low = h.0 in let high = k.0 in (omega (arith, e, low, high), k.1)
lies-joined n (Stored x) a b c d e h k = tt

-- one term more, which may continue the last one
pub counted-added : (n : ℕ) (ts us : List WaitingTerm) (t : WaitingTerm) → Added ts t us → All (IsCounted n) ts → IsCounted n t → All (IsCounted n) us
counted-added n ts us t (inl e) h k =
    let P : List WaitingTerm → Type 0 = λ xs. All (IsCounted n) xs in subst P (sym e) (All-append (IsCounted n) ts (t ∷ []) h (All-cons (IsCounted n) t [] k (All-nil (IsCounted n))))
counted-added n ts us t (inr c) h k =
    let P : List WaitingTerm → Type 0 = λ xs. All (IsCounted n) xs in
    let each = subst P c.before h in
    let front = All-append_left (IsCounted n) c.front (c.last ∷ []) each in
    let last = All-head (IsCounted n) c.last [] (All-append_right (IsCounted n) c.front (c.last ∷ []) each) in
    let Q : TermXorb → Type 0 = λ x. LiesIn n x t.from t.to in
    let next = subst Q (sym c.xorb) k in
    let both : IsCounted n (continue c.last t) = lies-joined n c.last.xorb c.last.from c.last.to t.from t.to c.starts last next in
    subst P (sym c.after) (All-append (IsCounted n) c.front (continue c.last t ∷ []) front (All-cons (IsCounted n) (continue c.last t) [] both (All-nil (IsCounted n))))

-- a term of the chunk that is added, behind those that were counted before
pub counted-own : (n m : ℕ) (ts us : List WaitingTerm) (t : WaitingTerm) → m ≡ n + 1 → t.xorb ≡ Own → t.from ≡ n → t.to ≡ n + 1 → Added ts t us → All (IsCounted n) ts → All (IsCounted m) us
counted-own n m ts us t e x a b added h =
    let P : TermXorb → Type 0 = λ z. LiesIn m z t.from t.to in
    counted-added m ts us t added (counted-more n m ts (omega (arith, e)) h) (subst P (sym x) (omega (arith, a, b), omega (arith, e, b)))

-- terms that name stored xorbs
pub counted-renamed : (n : ℕ) (h : MerkleHash) (ts : List WaitingTerm) → All (IsCounted n) (map (renamed h) ts)
counted-renamed n h [] = All-nil (IsCounted n)
counted-renamed n h (t ∷ ts) = All-cons (IsCounted n) (renamed h t) (map (renamed h) ts) tt (counted-renamed n h ts)
