-- Texts of records: what is read of them, and that they differ.
use Rattle.std.proofs.Common.{◌≡◌, ℕ, ◌+◌, ◌^◌, ◌<◌, ◌≤◌, List, [], ◌∷◌, ◌++◌, Option, None, Some, refl, sym, ap, subst, ◌∙◌, arith}
use Rattle.std.proofs.Common.{Err, IfOk, Ok, Result, append-nil, append_assoc}
use Rattle.std.specs.List.{flat_map}
use Rattle.std.proofs.lemmas.Grind.{flat_map-append}
use Rattle.xet_base.specs.declared.cas_types.FileRange.{FileRange}
use Rattle.xet_base.specs.declared.merklehash.MerkleHash.{MerkleHash}
use Rattle.xet_gaps.specs.Gaps.{AreGaps, Gaps, IsGapRecord}
use Rattle.xet_gaps.specs.Laws.{TextsDiffer}
use Rattle.xet_gaps.specs.Texts.{IsNoText, gap_line, head_text, record_text}
use Rattle.xet_gaps.specs.steps.Reading.{IsSmall, LeftOf, NoGap, NoGaps, NoHead, ReadUpTo, low_of}
use Rattle.xet_gaps.proofs.TextPieces.{no_gap_in_nil, same_gap, same_hash, same_head}

-- ---- gaps have small numbers

small_first : (low end : ℕ) (g : FileRange) (gs : List FileRange) → end < 2 ^ 64 → AreGaps low end (g ∷ gs) → IsSmall g
small_first low end g gs short a =
    let some : g.start < g.end = a.1 in
    let last : g.end ≤ end = a.2 in
    (omega (arith, some, last, short), omega (arith, last, short))

-- ---- the lines of gaps differ

lines_differ : (low lo end : ℕ) (gs hs : List FileRange) → end < 2 ^ 64 → AreGaps low end gs → AreGaps lo end hs
    → flat_map gap_line gs ≡ flat_map gap_line hs → gs ≡ hs
lines_differ low lo end [] [] short a b e = refl
lines_differ low lo end [] (h ∷ hs) short a b e = absurd (no_gap_in_nil h (flat_map gap_line hs) e)
lines_differ low lo end (g ∷ gs) [] short a b e = absurd (no_gap_in_nil g (flat_map gap_line gs) (sym e))
lines_differ low lo end (g ∷ gs) (h ∷ hs) short a b e =
    let x =
    same_gap g h (flat_map gap_line gs) (flat_map gap_line hs) (small_first low end g gs short a)
    (small_first lo end h hs short b) e in
    let rest = lines_differ (g.end + 1) (h.end + 1) end gs hs short a.3 b.3 x.1 in
    ap (λ (z : FileRange). z ∷ gs) x.0 ∙ ap (λ (l : List FileRange). h ∷ l) rest

abbrev made : MerkleHash → ℕ → List FileRange → Gaps
made f n gs = record { file = f; length_is = n; gaps = gs }

pub texts_differ : TextsDiffer
texts_differ g h a b e =
    let x =
    same_head g.file h.file g.length_is h.length_is (flat_map gap_line g.gaps) (flat_map gap_line h.gaps) a.short b.short e in
    let file = same_hash g.file h.file (a.hash, a.hash_bytes) (b.hash, b.hash_bytes) x.hash in
    let are : AreGaps 0 g.length_is h.gaps = subst (λ (n : ℕ). AreGaps 0 n h.gaps) (sym x.size) b.gaps_are in
    let gaps = lines_differ 0 0 g.length_is g.gaps h.gaps a.short a.gaps_are are x.behind in
    ap (λ (f : MerkleHash). made f g.length_is g.gaps) file
    ∙ ap (λ (n : ℕ). made h.file n g.gaps) x.size
    ∙ ap (λ (l : List FileRange). made h.file h.length_is l) gaps

-- ---- gap by gap

pub read_none : (size : ℕ) (text : List ℕ) → ReadUpTo size text text [] None
read_none size text = record {
  text_is = refl;
  more = λ others a. a;
  all = λ gs a e. record { others = gs; joined = refl; are = a; text = e };
}

module _ (size : ℕ) (text rest behind : List ℕ) (read : List FileRange) (last : Option ℕ) (g : FileRange)
    (short : size < 2 ^ 64) (small : IsSmall g) (is : rest ≡ gap_line g ++ behind) where
  -- the others begin with the gap that was read
  others_first : (gs others : List FileRange) → gs ≡ read ++ others → AreGaps (low_of last) size others
      → rest ≡ flat_map gap_line others → LeftOf size behind (read ++ g ∷ []) (Some g.end) gs
  others_first gs [] j a t = absurd (no_gap_in_nil g behind (sym t ∙ is))
  others_first gs (h ∷ hs) j a t =
      let x =
      same_gap g h behind (flat_map gap_line hs) small (small_first (low_of last) size h hs short a) (sym is ∙ t) in
      record {
        others = hs;
        joined = j ∙ ap (λ (z : FileRange). read ++ z ∷ hs) (sym x.0) ∙ sym (append_assoc read (g ∷ []) hs);
        are = subst (λ (z : FileRange). AreGaps (z.end + 1) size hs) (sym x.0) a.3;
        text = x.1;
      }

  -- and are not in order if that gap isn't
  others_order : (others : List FileRange) → AreGaps (low_of last) size others → rest ≡ flat_map gap_line others
      → (low_of last ≤ g.start) × (g.start < g.end) × (g.end ≤ size)
  others_order [] a t = absurd (no_gap_in_nil g behind (sym t ∙ is))
  others_order (h ∷ hs) a t =
      let x =
      same_gap g h behind (flat_map gap_line hs) small (small_first (low_of last) size h hs short a) (sym is ∙ t) in
      subst (λ (z : FileRange). (low_of last ≤ z.start) × (z.start < z.end) × (z.end ≤ size)) (sym x.0) (a.0, a.1, a.2)

  pub read_more : ReadUpTo size text rest read last → (low_of last ≤ g.start) × (g.start < g.end) × (g.end ≤ size)
      → ReadUpTo size text behind (read ++ g ∷ []) (Some g.end)
  read_more r order = record {
    text_is = r.text_is ∙ ap (λ (l : List ℕ). flat_map gap_line read ++ l) is
        ∙ sym (append_assoc (flat_map gap_line read) (gap_line g) behind)
        ∙ ap (λ (l : List ℕ). l ++ behind)
        (sym (flat_map-append gap_line read (g ∷ [])
        ∙ ap (λ (l : List ℕ). flat_map gap_line read ++ l) (append-nil (gap_line g))));
    more = λ others a. subst (AreGaps 0 size) (sym (append_assoc read (g ∷ []) others))
        (r.more (g ∷ others) (order.0, order.1, order.2, a));
    all = λ gs a e. let l = r.all gs a e in others_first gs l.others l.joined l.are l.text;
  }

  -- no record has a gap out of order
  pub out_of_order : ReadUpTo size text rest read last
      → ((low_of last ≤ g.start) × (g.start < g.end) × (g.end ≤ size) → ⊥) → NoGaps size text
  out_of_order r wrong gs a e = let l = r.all gs a e in wrong (others_order l.others l.are l.text)

-- nor anything but gaps
no_line : (size : ℕ) (rest : List ℕ) (low : ℕ) (others : List FileRange) → size < 2 ^ 64 → (rest ≡ [] → ⊥) → NoGap rest
    → AreGaps low size others → rest ≡ flat_map gap_line others → ⊥
no_line size rest low [] short some none a t = some t
no_line size rest low (h ∷ hs) short some none a t =
    none h (flat_map gap_line hs) (small_first low size h hs short a) t

pub no_gap : (size : ℕ) (text rest : List ℕ) (read : List FileRange) (last : Option ℕ) → size < 2 ^ 64
    → ReadUpTo size text rest read last → (rest ≡ [] → ⊥) → NoGap rest → NoGaps size text
no_gap size text rest read last short r some none gs a e =
    let l = r.all gs a e in
    no_line size rest (low_of last) l.others short some none l.are l.text

-- all was read
pub read_text : (size : ℕ) (text rest : List ℕ) (read : List FileRange) (last : Option ℕ)
    → ReadUpTo size text rest read last → rest ≡ [] → text ≡ flat_map gap_line read
read_text size text rest read last r e =
    r.text_is ∙ ap (λ (l : List ℕ). flat_map gap_line read ++ l) e ∙ append-nil (flat_map gap_line read)

pub read_are : (size : ℕ) (text rest : List ℕ) (read : List FileRange) (last : Option ℕ)
    → ReadUpTo size text rest read last → AreGaps 0 size read
read_are size text rest read last r = subst (AreGaps 0 size) (append-nil read) (r.more [] tt)

-- ---- the whole text

pub no_head : (text : List ℕ) → NoHead text → IsNoText text
no_head text none g is e =
    none g.file g.length_is (flat_map gap_line g.gaps) (is.hash, is.hash_bytes) is.short e

pub no_gaps : (text rest : List ℕ) (f : MerkleHash) (n : ℕ) → n < 2 ^ 64 → text ≡ head_text f n ++ rest → NoGaps n rest
    → IsNoText text
no_gaps text rest f n short head none g is e =
    let x = same_head f g.file n g.length_is rest (flat_map gap_line g.gaps) short is.short (sym head ∙ e) in
    none g.gaps (subst (λ (k : ℕ). AreGaps 0 k g.gaps) (sym x.size) is.gaps_are) x.behind

pub whole_text : (text rest : List ℕ) (f : MerkleHash) (n : ℕ) (gs : List FileRange) → text ≡ head_text f n ++ rest
    → rest ≡ flat_map gap_line gs → text ≡ record_text (made f n gs)
whole_text text rest f n gs head e = head ∙ ap (λ (l : List ℕ). head_text f n ++ l) e

-- what is read of a record's text is that record
pub read_back : {E : Type 0} (g : Gaps) (text : List ℕ) (r : Result Gaps E) → IsGapRecord g → text ≡ record_text g
    → IfOk r (λ back. text ≡ record_text back) → IfOk r (λ back. IsGapRecord back) → IfOk r (λ back. back ≡ g)
read_back g text (Ok back) is e t b = texts_differ back g b is (sym t ∙ e)
read_back g text (Err x) is e t b = tt
