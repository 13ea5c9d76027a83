-- The pieces of a record's text: each ends at a letter that it doesn't have.
use Rattle.std.proofs.Common.{◌≡◌, ◌≢◌, ℕ, zero, suc, ◌+◌, ◌-◌, ◌*◌, ◌^◌, ◌<◌, ◌≤◌, ◌/◌, ◌%◌, ◌&&◌, not, eqb, true, List, [], ◌∷◌}
use Rattle.std.proofs.Common.{◌++◌, All, length, get_or, codes, refl, sym, ap, ◌∙◌, arith, append_assoc, length-append, rules, ⊎_elim}
use Rattle.std.proofs.Common.{Bor, MatchOption, None, Ok, Option, Result, Some, option_map}
use Rattle.std.specs.Result.{result_ok}
use Rattle.std.specs.Fmt.{decimal}
use Rattle.std.specs.List.{list_all}
use Rattle.std.specs.Str.{all_ascii_digits}
use Rattle.std.proofs.lemmas.Bool.{and_parts, cases_lt, eqb-false, not-true}
use Rattle.std.proofs.lemmas.Fmt.{decimal_injective, digits_decimal}
use Rattle.std.proofs.lemmas.List.{append_cancel_left, get_or_at, get_or_past}
use Rattle.std.proofs.lemmas.Str.Parse.{IsNumeralModel, not_in_digits, numerals_by_fold}
use Rattle.std.proofs.lemmas.Str.Pattern.{IsSplitOnceResult, split_after}
use Rattle.hex.specs.Hex.{IsBytes, decode_of, encode_lower, encode_with, lower_digits}
use Rattle.hex.specs.declared.error.FromHexError.{FromHexError}
use Rattle.hex.proofs.HexLemmas.{decode_of-encode_lower, decode_sized-encode_lower}
use Rattle.xet_base.specs.declared.cas_types.FileRange.{FileRange}
use Rattle.xet_base.specs.declared.merklehash.MerkleHash.{MerkleHash}
use Rattle.xet_gaps.specs.Texts.{gap_line, head_text, line_of}
use Rattle.xet_base.specs.HashText.{hash_of_text}
use Rattle.xet_gaps.specs.steps.Reading.{IsHash, IsSmall, NoGap, NoHash, NoHead, NoNumber}

-- ---- a letter that stands in no word

abbrev pub NoneIs : ℕ → List ℕ → Type 0
NoneIs c [] = Unit {0}
NoneIs c (x ∷ xs) = (x ≡ c → ⊥) × NoneIs c xs

-- two texts that have the same letter behind such words
pub unique : (c : ℕ) (xs ys us vs : List ℕ) → NoneIs c xs → NoneIs c us → xs ++ c ∷ ys ≡ us ++ c ∷ vs
    → (xs ≡ us) × (ys ≡ vs)
unique c [] ys [] vs a b e = (refl, cc)
unique c [] ys (u ∷ us) vs a b e = let h : c ≡ u = cc in absurd (b.0 (sym h))
unique c (x ∷ xs) ys [] vs a b e = let h : x ≡ c = cc in absurd (a.0 h)
unique c (x ∷ xs) ys (u ∷ us) vs a b e =
    let h : x ≡ u = cc in
    let t : xs ++ c ∷ ys ≡ us ++ c ∷ vs = cc in
    let r = unique c xs ys us vs a.1 b.1 t in
    (ap (λ (l : List ℕ). x ∷ l) r.0 ∙ ap (λ (z : ℕ). z ∷ us) h, r.1)

pub none_at : (c : ℕ) (xs : List ℕ) → ((i : ℕ) → i < length xs → get_or xs i 0 ≡ c → ⊥) → NoneIs c xs
none_at c [] h = tt
none_at c (x ∷ xs) h = (h 0 (omega arith), none_at c xs (λ i l. h (suc i) (omega (arith, l))))

-- a text without the letter has no such word
pub no_word : (c : ℕ) (text xs rest : List ℕ) → ((i : ℕ) → i < length text → get_or text i 0 ≡ c → ⊥)
    → text ≡ xs ++ c ∷ rest → ⊥
no_word c text xs rest h e =
    let l = length-append xs (c ∷ rest) in
    let size : length text ≡ length xs + length (c ∷ rest) = ap length e ∙ l in
    h (length xs) (omega (arith, size))
    (ap (λ (t : List ℕ). get_or t (length xs) 0) e ∙ get_or_at xs c rest 0 (length xs) refl)

-- ---- numbers

abbrev read_on : ℕ → List ℕ → ℕ
read_on n [] = n
read_on n (c ∷ cs) = read_on (10 * n + (c - 48)) cs

own : IsNumeralModel (λ ds. all_ascii_digits ds ≡ true) (read_on 0)
own = numerals_by_fold _ (search rules) read_on (search rules)

not_in_decimal : (c n : ℕ) → c < 48 → n < 2 ^ 64 → (i : ℕ) → i < length (decimal n) → get_or (decimal n) i 0 ≢ c
not_in_decimal c n low h = not_in_digits own (decimal n) c (digits_decimal own n h) (λ r. let a = r.0 in omega (arith, a, low))

pub none_in_decimal : (c n : ℕ) → c < 48 → n < 2 ^ 64 → NoneIs c (decimal n)
none_in_decimal c n low h = none_at c (decimal n) (not_in_decimal c n low h)

-- a text whose first word isn't a number begins with none
abbrev pub Cut : Type 0
Cut = Bor (List ℕ) × Bor (List ℕ)

pub no_number : (c : ℕ) (text : List ℕ) (r : Option Cut) → IsSplitOnceResult c text r → c < 48
    → ((x : Cut) → r ≡ Some x → (n : ℕ) → n < 2 ^ 64 → x.0.now ≡ decimal n → ⊥) → NoNumber c text
no_number c text r cases low wrong n rest h e =
    by r refl (split_after c text (decimal n) rest r cases (omega (arith, low)) e (not_in_decimal c n low h))
  where
    by : (o : Option Cut) → r ≡ o → MatchOption o ⊥ (λ x. (x.0.now ≡ decimal n) × (x.1.now ≡ rest)) → ⊥
    by None z m = m
    by (Some x) z m = wrong x z n h m.0

-- where it is a word it is that one
pub none_cut : {A : Type 0} (r : Option A) → r ≡ None → (x : A) → r ≡ Some x → ⊥
none_cut {A = A} r n x e = let z : ◌≡◌ {A = Option A} None (Some x) = sym n ∙ e in absurd (cc)

pub same_cut : {A : Type 0} (r : Option A) (x y : A) → r ≡ Some x → r ≡ Some y → x ≡ y
same_cut {A = A} r x y a b = let z : ◌≡◌ {A = Option A} (Some x) (Some y) = sym a ∙ b in cc

-- ---- hashes

none_by_test : (c : ℕ) (xs : List ℕ) → list_all (λ x. not (eqb x c)) xs ≡ true → NoneIs c xs
none_by_test c [] h = tt
none_by_test c (x ∷ xs) h =
    let b = and_parts (not (eqb x c)) (list_all (λ x. not (eqb x c)) xs) h in
    (eqb-false x c (not-true (eqb x c) b.0), none_by_test c xs b.1)

not_at : (c : ℕ) (xs : List ℕ) (k : ℕ) → 0 < c → NoneIs c xs → get_or xs k 0 ≡ c → ⊥
not_at c [] k some h e = omega (arith, some, e)
not_at c (x ∷ xs) zero some h e = h.0 e
not_at c (x ∷ xs) (suc k) some h e = not_at c xs k some h.1 e

digits_none : NoneIs 32 lower_digits
digits_none = none_by_test 32 lower_digits refl

none_in_hex : (bytes : List ℕ) → NoneIs 32 (encode_with lower_digits bytes)
unfolding encode_with
none_in_hex [] = tt
none_in_hex (b ∷ bytes) = (
  not_at 32 lower_digits (b / 16) (omega arith) digits_none,
  (not_at 32 lower_digits (b % 16) (omega arith) digits_none, none_in_hex bytes),
)

bytes_of_hash : (h : MerkleHash) → IsHash h → IsBytes h.0
bytes_of_hash h is i =
    ⊎_elim (λ (l : i < length h.0). is.1 i 0 l)
    (λ (l : length h.0 ≤ i). let e = get_or_past h.0 i 0 l in omega (arith, e))
    (cases_lt i (length h.0))

pub same_hash : (f h : MerkleHash) → IsHash f → IsHash h → encode_lower f.0 ≡ encode_lower h.0 → f ≡ h
same_hash f h a b e =
    let x : ◌≡◌ {A = Result (List ℕ) FromHexError} (Ok f.0) (Ok h.0) =
    sym (decode_of-encode_lower f.0 (bytes_of_hash f a)) ∙ ap decode_of e
    ∙ decode_of-encode_lower h.0 (bytes_of_hash h b) in
    let y : f.0 ≡ h.0 = cc in
    ap (λ (l : List ℕ). let z : MerkleHash = record { 0 = l } in z) y

-- a text whose first word isn't a hash begins with none
not_in_hex : (bytes : List ℕ) (i : ℕ) → i < length (encode_lower bytes) → get_or (encode_lower bytes) i 0 ≢ 32
not_in_hex bytes i l = not_at 32 (encode_lower bytes) i (omega arith) (none_in_hex bytes)

pub no_hash : (text : List ℕ) (r : Option Cut) → IsSplitOnceResult 32 text r
    → ((x : Cut) → r ≡ Some x → (h : MerkleHash) → IsHash h → x.0.now ≡ encode_lower h.0 → ⊥) → NoHash text
no_hash text r cases wrong h rest is e =
    by r refl (split_after 32 text (encode_lower h.0) rest r cases (omega arith) e (not_in_hex h.0))
  where
    by : (o : Option Cut) → r ≡ o → MatchOption o ⊥ (λ x. (x.0.now ≡ encode_lower h.0) × (x.1.now ≡ rest)) → ⊥
    by None z m = m
    by (Some x) z m = wrong x z h is m.0

-- the word of a hash is read as it
pub hash_read : (h : MerkleHash) (word : List ℕ) → IsHash h → word ≡ encode_lower h.0 → hash_of_text word ≡ Some h
hash_read h word is e =
    ap hash_of_text e
    ∙ ap (λ (r : Result (List ℕ) FromHexError). option_map (λ bytes. let z : MerkleHash = record { 0 = bytes } in z) (result_ok r))
    (decode_sized-encode_lower h.0 32 is.0 (bytes_of_hash h is))

-- ---- lines

-- a line and what stands behind it
pub line_then : (a b rest : List ℕ) → line_of a b ++ rest ≡ a ++ 32 ∷ (b ++ 10 ∷ rest)
line_then a b rest =
    append_assoc a (32 ∷ (b ++ 10 ∷ [])) rest
    ∙ ap (λ (l : List ℕ). a ++ 32 ∷ l) (append_assoc b (10 ∷ []) rest)

-- two lines that begin one text
pub same_line : (a b c d rest more : List ℕ) → NoneIs 32 a → NoneIs 32 c → NoneIs 10 b → NoneIs 10 d
    → line_of a b ++ rest ≡ line_of c d ++ more → (a ≡ c) × (b ≡ d) × (rest ≡ more)
same_line a b c d rest more na nc nb nd e =
    let x = unique 32 a (b ++ 10 ∷ rest) c (d ++ 10 ∷ more) na nc (sym (line_then a b rest) ∙ e ∙ line_then c d more) in
    let y = unique 10 b rest d more nb nd x.1 in
    (x.0, y.0, y.1)

abbrev range : ℕ → ℕ → FileRange
range a b = record { start = a; end = b }

pub same_gap : (g h : FileRange) (rest more : List ℕ) → IsSmall g → IsSmall h → gap_line g ++ rest ≡ gap_line h ++ more
    → (g ≡ h) × (rest ≡ more)
same_gap g h rest more sg sh e =
    let x =
    same_line (decimal g.start) (decimal g.end) (decimal h.start) (decimal h.end) rest more
    (none_in_decimal 32 g.start (omega arith) sg.0) (none_in_decimal 32 h.start (omega arith) sh.0)
    (none_in_decimal 10 g.end (omega arith) sg.1) (none_in_decimal 10 h.end (omega arith) sh.1) e in
    let s = decimal_injective g.start h.start sg.0 sh.0 x.0 in
    let t = decimal_injective g.end h.end sg.1 sh.1 x.1 in
    (ap (λ (n : ℕ). range n g.end) s ∙ ap (λ (n : ℕ). range h.start n) t, x.2)

-- a text that begins with no number and a space, or with none and a line end behind it, begins with no gap
pub no_start : (text : List ℕ) → NoNumber 32 text → NoGap text
no_start text none g rest is e =
    none g.start (decimal g.end ++ 10 ∷ rest) is.0 (e ∙ line_then (decimal g.start) (decimal g.end) rest)

pub no_end : (text behind : List ℕ) (n : ℕ) → n < 2 ^ 64 → text ≡ decimal n ++ 32 ∷ behind → NoNumber 10 behind → NoGap text
no_end text behind n small at none g rest is e =
    let x =
    unique 32 (decimal n) behind (decimal g.start) (decimal g.end ++ 10 ∷ rest) (none_in_decimal 32 n (omega arith) small)
    (none_in_decimal 32 g.start (omega arith) is.0) (sym at ∙ e ∙ line_then (decimal g.start) (decimal g.end) rest) in
    none g.end rest is.1 x.1

pub gap_then : (text behind rest : List ℕ) (g : FileRange) → text ≡ decimal g.start ++ 32 ∷ behind
    → behind ≡ decimal g.end ++ 10 ∷ rest → text ≡ gap_line g ++ rest
gap_then text behind rest g a b =
    a ∙ ap (λ (l : List ℕ). decimal g.start ++ 32 ∷ l) b ∙ sym (line_then (decimal g.start) (decimal g.end) rest)

-- a head and what stands behind it
pub head_then : (f : MerkleHash) (n : ℕ) (rest : List ℕ)
    → head_text f n ++ rest ≡ codes "xet-gaps 1\n" ++ (line_of (encode_lower f.0) (decimal n) ++ rest)
head_then f n rest = refl

pub record SameHead (f h : MerkleHash) (m n : ℕ) (rest more : List ℕ) : Type 0 where
  pub hash : encode_lower f.0 ≡ encode_lower h.0
  pub size : m ≡ n
  pub behind : rest ≡ more

-- two heads that begin one text
pub same_head : (f h : MerkleHash) (m n : ℕ) (rest more : List ℕ) → m < 2 ^ 64 → n < 2 ^ 64
    → head_text f m ++ rest ≡ head_text h n ++ more → SameHead f h m n rest more
same_head f h m n rest more sm sn e =
    let lines =
    append_cancel_left (codes "xet-gaps 1\n") (line_of (encode_lower f.0) (decimal m) ++ rest)
    (line_of (encode_lower h.0) (decimal n) ++ more) (sym (head_then f m rest) ∙ e ∙ head_then h n more) in
    let x =
    same_line (encode_lower f.0) (decimal m) (encode_lower h.0) (decimal n) rest more (none_in_hex f.0) (none_in_hex h.0)
    (none_in_decimal 10 m (omega arith) sm) (none_in_decimal 10 n (omega arith) sn) lines in
    record { hash = x.0; size = decimal_injective m n sm sn x.1; behind = x.2 }

-- nor with a head
pub no_head_hash : (text words : List ℕ) → text ≡ codes "xet-gaps 1\n" ++ words → NoHash words → NoHead text
no_head_hash text words at none h n rest is small e =
    let lines =
    append_cancel_left (codes "xet-gaps 1\n") words (line_of (encode_lower h.0) (decimal n) ++ rest)
    (sym at ∙ e ∙ head_then h n rest) in
    none h (decimal n ++ 10 ∷ rest) is (lines ∙ line_then (encode_lower h.0) (decimal n) rest)

pub no_head_size : (text words behind : List ℕ) (f : MerkleHash) → text ≡ codes "xet-gaps 1\n" ++ words
    → words ≡ encode_lower f.0 ++ 32 ∷ behind → NoNumber 10 behind → NoHead text
no_head_size text words behind f at word none h n rest is small e =
    let lines =
    append_cancel_left (codes "xet-gaps 1\n") words (line_of (encode_lower h.0) (decimal n) ++ rest)
    (sym at ∙ e ∙ head_then h n rest) in
    let x =
    unique 32 (encode_lower f.0) behind (encode_lower h.0) (decimal n ++ 10 ∷ rest) (none_in_hex f.0) (none_in_hex h.0)
    (sym word ∙ lines ∙ line_then (encode_lower h.0) (decimal n) rest) in
    none n rest small x.1

-- no line is empty
pub no_nil : (xs ys : List ℕ) (c : ℕ) → [] ≡ xs ++ c ∷ ys → ⊥
no_nil [] ys c e = absurd (cc)
no_nil (x ∷ xs) ys c e = absurd (cc)

pub no_gap_in_nil : (g : FileRange) (rest : List ℕ) → [] ≡ gap_line g ++ rest → ⊥
no_gap_in_nil g rest e =
    no_nil (decimal g.start) (decimal g.end ++ 10 ∷ rest) 32 (e ∙ line_then (decimal g.start) (decimal g.end) rest)
