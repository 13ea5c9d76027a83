-- What waited is finished, and its xorbs are on the list.
use Rattle.std.proofs.Common.{◌≡◌, ℕ, ◌⊎◌, inl, inr, List, [], ◌∷◌, ◌++◌, length, map, refl, sym, ◌∙◌, ap, subst, arith}
use Rattle.std.specs.Prelude.{All, Contains}
use Rattle.std.specs.List.{flat_map}
use Rattle.std.proofs.lemmas.List.Concat.{flat_map-append}
use Rattle.std.proofs.lemmas.List.Elements.{All-nil, All-cons, All-head, All-tail, All-append, All-same, All-weaker, Contains-append_left}
use Rattle.xet_base.specs.declared.merklehash.MerkleHash.{MerkleHash}
use Rattle.xet_base.specs.declared.mdb_shard.MDBFileInfo.{MDBFileInfo}
use Rattle.xet_upload.specs.Orders.{names_of}
use Rattle.xet_upload.specs.Standing.{named, named_xorb, shifted}
use Rattle.xet_upload.specs.Waitings.{AreCounted, IsCounted, LiesIn, Waiting, file_shifted, merged, no_waiting, record_of_file}
use Rattle.xet_waiting.specs.declared.waiting.TermXorb.{TermXorb}
use Rattle.xet_waiting.specs.declared.waiting.TermXorb.TheVariants.{Own, Stored}
use Rattle.xet_waiting.specs.declared.waiting.WaitingFile.{WaitingFile}
use Rattle.xet_waiting.specs.declared.waiting.WaitingTerm.{WaitingTerm}
use Rattle.xet_shard_interface.proofs.CallerLemmas.{All-append_left, All-append_right}
use Rattle.xet_upload_session.specs.Sessions.{IsListed, SessionTold, named_by, waiting_names}

-- the xorb of what waits is on the list, or the term does not count in it
abbrev pub IsFine : List MerkleHash → MerkleHash → WaitingTerm → Type 0
IsFine l h t = Contains l h ⊎ IsCounted 0 t

abbrev pub AreFine : List MerkleHash → MerkleHash → List WaitingFile → Type 0
AreFine l h fs = All (λ (f : WaitingFile). All (IsFine l h) f.terms) fs

module _ (l : List MerkleHash) (h : MerkleHash) where
  terms-known : Contains l h → (ts : List WaitingTerm) → All (IsFine l h) ts
  terms-known c [] = All-nil (IsFine l h)
  terms-known c (t ∷ ts) = All-cons (IsFine l h) t ts (inl c) (terms-known c ts)

  pub fine-known : Contains l h → (fs : List WaitingFile) → AreFine l h fs
  fine-known c [] = All-nil (λ (f : WaitingFile). All (IsFine l h) f.terms)
  fine-known c (f ∷ fs) = All-cons (λ (f : WaitingFile). All (IsFine l h) f.terms) f fs (terms-known c f.terms) (fine-known c fs)

  pub fine-empty : (fs : List WaitingFile) → AreCounted 0 fs → AreFine l h fs
  fine-empty fs a =
      All-weaker (λ (f : WaitingFile). All (IsCounted 0) f.terms) (λ (f : WaitingFile). All (IsFine l h) f.terms) (λ f k. All-weaker (IsCounted 0) (IsFine l h) (λ t q. inr q) f.terms k) fs a

  one-listed : (x : TermXorb) (a b : ℕ) → Contains l h ⊎ LiesIn 0 x a b → All (Contains l) (named_by x) → Contains l (named_xorb h x)
  one-listed Own a b (inl c) w = c
  one-listed Own a b (inr e) w = absurd (omega (arith, e.0, e.1))
  one-listed (Stored y) a b o w = All-head (Contains l) y [] w

  terms-listed : (ts : List WaitingTerm) → All (IsFine l h) ts → All (Contains l) (flat_map (λ (t : WaitingTerm). named_by t.xorb) ts) → All (Contains l) (map (λ e. e.xorb) (map (named h) ts))
  terms-listed [] o w = All-nil (Contains l)
  terms-listed (t ∷ ts) o w =
      All-cons (Contains l) (named_xorb h t.xorb) (map (λ e. e.xorb) (map (named h) ts))
      (one-listed t.xorb t.from t.to (All-head (IsFine l h) t ts o) (All-append_left (Contains l) (named_by t.xorb) (flat_map (λ (t : WaitingTerm). named_by t.xorb) ts) w))
      (terms-listed ts (All-tail (IsFine l h) t ts o) (All-append_right (Contains l) (named_by t.xorb) (flat_map (λ (t : WaitingTerm). named_by t.xorb) ts) w))

  pub names-listed : (fs : List WaitingFile) → AreFine l h fs → All (Contains l) (waiting_names fs) → All (Contains l) (names_of (map (record_of_file h) fs))
  names-listed [] o w = All-nil (Contains l)
  names-listed (f ∷ fs) o w =
      All-append (Contains l) (map (λ e. e.xorb) (map (named h) f.terms)) (names_of (map (record_of_file h) fs))
      (terms-listed f.terms (All-head (λ (f : WaitingFile). All (IsFine l h) f.terms) f fs o) (All-append_left (Contains l) (flat_map (λ (t : WaitingTerm). named_by t.xorb) f.terms) (waiting_names fs) w))
      (names-listed fs (All-tail (λ (f : WaitingFile). All (IsFine l h) f.terms) f fs o) (All-append_right (Contains l) (flat_map (λ (t : WaitingTerm). named_by t.xorb) f.terms) (waiting_names fs) w))

-- a move of terms leaves the xorbs that they name
terms-shifted : (n : ℕ) (ts : List WaitingTerm) → flat_map (λ (t : WaitingTerm). named_by t.xorb) (map (shifted n) ts) ≡ flat_map (λ (t : WaitingTerm). named_by t.xorb) ts
terms-shifted n [] = refl
terms-shifted n (t ∷ ts) = ap (λ (hs : List MerkleHash). named_by t.xorb ++ hs) (terms-shifted n ts)

names-shifted : (n : ℕ) (fs : List WaitingFile) → waiting_names (map (file_shifted n) fs) ≡ waiting_names fs
names-shifted n [] = refl
names-shifted n (f ∷ fs) = let a = terms-shifted n f.terms in let b = names-shifted n fs in cc

-- data joined what waits
pub names-merged : (l : List MerkleHash) (w v : Waiting) → All (Contains l) (waiting_names w.files) → All (Contains l) (waiting_names v.files) → All (Contains l) (waiting_names (merged w v).files)
names-merged l w v a k =
    let moved = map (file_shifted (length w.chunks)) v.files in
    let split = flat_map-append (λ (f : WaitingFile). flat_map (λ (t : WaitingTerm). named_by t.xorb) f.terms) w.files moved in
    All-same (Contains l) (waiting_names (w.files ++ moved)) (waiting_names w.files ++ waiting_names moved) split
    (All-append (Contains l) (waiting_names w.files) (waiting_names moved) a (All-same (Contains l) (waiting_names moved) (waiting_names v.files) (names-shifted (length w.chunks) v.files) k))

-- more on the list
module _ (b n : SessionTold) (extra : List MerkleHash) (el : n.listed ≡ b.listed ++ extra) where
  pub more-listed : (x : MerkleHash) → Contains b.listed x → Contains n.listed x
  more-listed x c = subst (λ (l : List MerkleHash). Contains l x) (sym el) (Contains-append_left b.listed extra x c)

  all-more : (hs : List MerkleHash) → All (Contains b.listed) hs → All (Contains n.listed) hs
  all-more hs a = All-weaker (Contains b.listed) (Contains n.listed) more-listed hs a

  put-more : (puts : List MerkleHash) → n.registered ≡ b.registered ++ puts → All (Contains n.listed) puts → All (Contains b.listed) b.registered → All (Contains n.listed) n.registered
  put-more puts er a k = All-same (Contains n.listed) n.registered (b.registered ++ puts) er (All-append (Contains n.listed) b.registered puts (all-more b.registered k) a)

  -- what waited is finished
  pub listed-after : (h : MerkleHash) (puts : List MerkleHash) → n.waiting ≡ no_waiting → n.finished ≡ b.finished ++ map (record_of_file h) b.waiting.files → AreFine n.listed h b.waiting.files
      → n.registered ≡ b.registered ++ puts → All (Contains n.listed) puts → IsListed b → IsListed n
  listed-after h puts w ef o er a k =
      let names = names-listed n.listed h b.waiting.files o (all-more (waiting_names b.waiting.files) k.waiting) in
      let all = All-append (Contains n.listed) (names_of b.finished) (names_of (map (record_of_file h) b.waiting.files)) (all-more (names_of b.finished) k.finished) names in
      let split = flat_map-append (λ (f : MDBFileInfo). map (λ e. e.xorb) f.entries) b.finished (map (record_of_file h) b.waiting.files) in
      let Q : Waiting → Type 0 = λ v. All (Contains n.listed) (waiting_names v.files) in
      record {
        finished = All-same (Contains n.listed) (names_of n.finished) (names_of b.finished ++ names_of (map (record_of_file h) b.waiting.files)) (ap names_of ef ∙ split) all;
        waiting = subst Q (sym w) (All-nil (Contains n.listed));
        put = put-more puts er a k.put;
      }

  -- the same files
  pub listed-more : (puts : List MerkleHash) → n.waiting ≡ b.waiting → n.finished ≡ b.finished → n.registered ≡ b.registered ++ puts → All (Contains n.listed) puts → IsListed b → IsListed n
  listed-more puts ew ef er a k = record {
    finished = subst (λ (fs : List MDBFileInfo). All (Contains n.listed) (names_of fs)) (sym ef) (all-more (names_of b.finished) k.finished);
    waiting = subst (λ (w : Waiting). All (Contains n.listed) (waiting_names w.files)) (sym ew) (all-more (waiting_names b.waiting.files) k.waiting);
    put = put-more puts er a k.put;
  }
