-- Parts of the bytes that were read.
use Rattle.std.proofs.Common.{◌≡◌, ℕ, suc, ◌+◌, ◌-◌, ◌<◌, ◌≤◌, ◌==◌, Bool, false, cond, not, List, [], ◌∷◌, ◌++◌, length, take, drop, get_or, None, Some, Ok, Err, refl, sym, ◌∙◌, ap, subst, arith, inl, inr}
use Rattle.std.specs.Prelude.{IfSome, Option, option_map, slice_range}
use Rattle.std.specs.List.{after_first, before_first, copy_within, position_or_len}
use Rattle.std.proofs.lemmas.Bool.{eqb-true, le-ltb, lt-ltb}
use Rattle.std.proofs.lemmas.List.{drop-drop, drop-take, get_or-take, length-drop, length-take, length-take-le, take-append-drop, take-append-le, take-take, take_all, take_at}
use Rattle.std.proofs.lemmas.List.Sums.{fails_before_first, passes_at_first, prefix_len-le-length, split_at_first}
use Rattle.xet_outside.specs.declared.source.SourceFault.{SourceFault}
use Rattle.xet_outside.specs.Told.{ReadCall, SourceTold}
use Rattle.xet_serve_lines.specs.declared.cutting.Front.TheVariants as front
use Rattle.xet_serve_lines.specs.declared.line_reader.LineFault.{LineFault}
use Rattle.xet_serve_lines.specs.declared.line_reader.LineFault.TheVariants as line_fault
use Rattle.xet_serve_lines.specs.Lines.{HasNoEnd, most_bytes, session_limit}
use Rattle.xet_serve_lines.specs.Reading.{BeginsLong, FillCall, HasNoLine, Held, TookLine}
use Rattle.xet_serve_lines.specs.Requests.{cut_at}
use Rattle.xet_serve_lines.specs.steps.Buffers.{FrontOf, ReadBehind, end_of}

-- ---- the first such byte

abbrev place : ℕ → List ℕ → ℕ
place sep text = position_or_len (λ b. b == sep) text

pub place_within : (sep : ℕ) (text : List ℕ) → place sep text ≤ length text
place_within sep text = prefix_len-le-length (λ (b : ℕ). not (b == sep)) text

pub cut_none : (sep k : ℕ) (text : List ℕ) → k ≡ place sep text → length text ≤ k → None ≡ cut_at sep text
cut_none sep k text e h =
    sym (ap (λ (c : Bool). cond c (Some (before_first (λ b. b == sep) text, after_first (λ b. b == sep) text)) None)
    (le-ltb (place sep text) (length text) (omega (arith, e, h))))

pub cut_some : (sep k : ℕ) (text : List ℕ) → k ≡ place sep text → k < length text
    → Some (take k text, drop (k + 1) text) ≡ cut_at sep text
cut_some sep k text e h =
    ap (λ (n : ℕ). Some (take n text, drop (n + 1) text)) e
    ∙ sym (ap (λ (c : Bool). cond c (Some (before_first (λ b. b == sep) text, after_first (λ b. b == sep) text)) None)
    (lt-ltb (place sep text) (length text) (omega (arith, e, h))))

-- ---- a line

no_end : (bytes : List ℕ) (k : ℕ) → k ≤ end_of bytes → HasNoEnd (take k bytes)
no_end bytes k h = λ j d i.
    let l = length-take k bytes in
    let n : j < k = omega (arith, l, i) in
    subst (λ (x : ℕ). (x == 10) ≡ false) (sym (get_or-take k bytes j d n))
    (fails_before_first (λ (b : ℕ). b == 10) bytes j d (omega (arith, n, h)))

pub line_taken : (bytes : List ℕ) (k : ℕ) → k ≡ end_of bytes → k < length bytes
    → (bytes ≡ take k bytes ++ 10 ∷ drop (k + 1) bytes) × HasNoEnd (take k bytes)
line_taken bytes k e h =
    let inside : end_of bytes < length bytes = omega (arith, e, h) in
    let at : get_or bytes (end_of bytes) 0 ≡ 10 =
    eqb-true (get_or bytes (end_of bytes) 0) 10 (passes_at_first (λ (b : ℕ). b == 10) bytes 0 inside) in (
      split_at_first (λ (b : ℕ). b == 10) bytes 0 inside
          ∙ ap (λ (x : ℕ). take (end_of bytes) bytes ++ x ∷ drop (end_of bytes + 1) bytes) at
          ∙ ap (λ (n : ℕ). take n bytes ++ 10 ∷ drop (n + 1) bytes) (sym e),
      no_end bytes k (omega (arith, e)),
    )

pub begins_long : (bytes : List ℕ) → most_bytes < end_of bytes → BeginsLong bytes
begins_long bytes h = record {
  front = take (end_of bytes) bytes;
  more = drop (end_of bytes) bytes;
  is = sym (take-append-drop (end_of bytes) bytes);
  whole = no_end bytes (end_of bytes) (omega arith);
  long = (let l = length-take-le (end_of bytes) bytes (place_within 10 bytes) in omega (arith, l, h));
}

pub no_line : (bytes : List ℕ) → end_of bytes ≡ length bytes → length bytes ≤ most_bytes → HasNoLine bytes
no_line bytes e h = record {
  none = subst HasNoEnd (take_all (length bytes) bytes (omega arith)) (no_end bytes (length bytes) (omega (arith, e)));
  short = h;
}

-- ---- parts of a buffer

pub part_length : (bytes : List ℕ) (start end : ℕ) → end ≤ length bytes → length (slice_range bytes start end) ≡ end - start
part_length bytes start end h =
    let a = length-take (end - start) (drop start bytes) in
    let b = length-drop start bytes in
    omega (arith, a, b, h)

-- the front of a part
part_front : (bytes : List ℕ) (start end k : ℕ) → k ≤ end - start
    → slice_range bytes start (start + k) ≡ take k (slice_range bytes start end)
part_front bytes start end k h =
    ap (λ (n : ℕ). take n (drop start bytes)) (let z : (start + k) - start ≡ k = omega arith in z)
    ∙ sym (take-take k (end - start) (drop start bytes) h)

-- what stands behind it
part_behind : (bytes : List ℕ) (start end k : ℕ) → k ≤ end - start
    → slice_range bytes (start + k) end ≡ drop k (slice_range bytes start end)
part_behind bytes start end k h =
    ap (λ (l : List ℕ). take (end - (start + k)) l) (sym (drop-drop k start bytes))
    ∙ sym (drop-take k (end - (start + k)) (drop start bytes))
    ∙ ap (λ (n : ℕ). drop k (take n (drop start bytes)))
    (let z : k + (end - (start + k)) ≡ end - start = omega (arith, h) in z)

pub no_part : (bytes : List ℕ) (k : ℕ) → slice_range bytes k k ≡ []
no_part bytes k = ap (λ (n : ℕ). take n (drop k bytes)) (let z : k - k ≡ 0 = omega arith in z)

-- a line was taken off
pub cut_line : (h : Held) (bytes : List ℕ) (start end k : ℕ) → FrontOf (slice_range bytes start end) (front.Line k)
    → end ≤ length bytes → h.pending ≡ slice_range bytes start end
    → TookLine h (record {
      line = slice_range bytes start (start + k);
      pending = slice_range bytes (start + k + 1) end;
      read = h.read;
    })
cut_line h bytes start end k f within is =
    let size = part_length bytes start end within in
    let inside : k < length (slice_range bytes start end) = f.1 in
    let fits : k ≤ end - start = omega (arith, size, inside) in
    let more : k + 1 ≤ end - start = omega (arith, size, inside) in
    let line = part_front bytes start end k fits in
    let behind : slice_range bytes (start + k + 1) end ≡ drop (k + 1) (slice_range bytes start end) =
    ap (λ (n : ℕ). slice_range bytes n end) (let z : start + k + 1 ≡ start + (k + 1) = omega arith in z)
    ∙ part_behind bytes start end (k + 1) more in
    let taken = line_taken (slice_range bytes start end) k f.0 inside in
    record {
      is = is ∙ taken.0 ∙ ap (λ (l : List ℕ). l ++ 10 ∷ drop (k + 1) (slice_range bytes start end)) (sym line)
          ∙ ap (λ (l : List ℕ). slice_range bytes start (start + k) ++ 10 ∷ l) (sym behind);
      whole = subst HasNoEnd (sym line) taken.1;
      short = (let a = length-take k (slice_range bytes start end) in
          let b = ap (λ (l : List ℕ). length l) line in
          let c = f.2 in omega (arith, a, b, c, inside));
      read = refl;
    }

-- ---- bytes that are read

-- bytes that were moved to the front
pub moved : (bytes : List ℕ) (start end : ℕ) → start ≤ end → end ≤ length bytes
    → take (end - start) (copy_within bytes start end 0) ≡ slice_range bytes start end
moved bytes start end h k =
    let a = length-drop start bytes in
    take_at (take (end - start) (drop start bytes)) (drop (0 + (end - start)) bytes) (end - start)
    (length-take-le (end - start) (drop start bytes) (omega (arith, a, h, k)))

-- the front of two lists, past the first
take_past : (xs ys : List ℕ) (k : ℕ) → take (length xs + k) (xs ++ ys) ≡ xs ++ take k ys
take_past [] ys k = ap (λ (n : ℕ). take n ys) (let z : 0 + k ≡ k = omega arith in z)
take_past (x ∷ xs) ys k =
    ap (λ (n : ℕ). take n (x ∷ (xs ++ ys))) (let z : length (x ∷ xs) + k ≡ suc (length xs + k) = omega arith in z)
    ∙ ap (λ (l : List ℕ). x ∷ l) (take_past xs ys k)

-- bytes that were read behind the first so many
behind_front : (bytes into post : List ℕ) (end k : ℕ) → end ≤ length bytes → k ≤ length into
    → take (end + k) (take end bytes ++ (into ++ post)) ≡ take end bytes ++ take k into
behind_front bytes into post end k h i =
    let l = length-take-le end bytes h in
    ap (λ (n : ℕ). take (n + k) (take end bytes ++ (into ++ post))) (sym l)
    ∙ take_past (take end bytes) (into ++ post) k
    ∙ ap (λ (xs : List ℕ). take end bytes ++ xs) (take-append-le k into post i)

empty_left : (o : Option (List ℕ)) → o ≡ option_map (λ r. [] ++ r) o
empty_left None = refl
empty_left (Some r) = refl

ended : (b n : Option (List ℕ)) (k : ℕ) (into : List ℕ) → k ≡ 0 → b ≡ option_map (λ r. take k into ++ r) n
    → IfSome b (λ r. r ≡ []) → IfSome n (λ r. r ≡ [])
ended b n k into none e h =
    subst (λ (o : Option (List ℕ)). IfSome o (λ r. r ≡ []))
    (e ∙ ap (λ (j : ℕ). option_map (λ r. take j into ++ r) n) none ∙ sym (empty_left n)) h

module _ (b n : SourceTold) (bytes into post : List ℕ) (end most : ℕ) (some : 0 < most) (size : length into ≡ most)
    (room : end + most ≤ length bytes) where
  abbrev now : List ℕ
  now = take end bytes ++ (into ++ post)

  pub read_ok : (k : ℕ) → ReadCall {E = SourceFault} b n into (Ok k) → ReadBehind b n bytes now end most (Ok k)
  read_ok k r =
      let few : k ≤ length into = r.count in
      let l : length (take k into) ≡ k = length-take-le k into few in
      record {
        bytes = take k into;
        count = sym l;
        within = omega (arith, l, few, size);
        none = tt;
        why = tt;
        took = r.took;
        front = ap (λ (j : ℕ). take (end + j) now) l ∙ behind_front bytes into post end k (omega (arith, room)) few;
        last = λ e. ended b.left n.left k into (let z : k ≡ 0 = cc in z) r.took
            (r.end (omega (arith, some, size)) (let z : k ≡ 0 = cc in ap (λ (j : ℕ). Ok j) z));
        failed = tt;
        unfailed = r.unfailed;
      }

  pub read_err : (e : SourceFault) → ReadCall {E = SourceFault} b n into (Err e)
      → ReadBehind b n bytes now end most (Err line_fault.ReadFault)
  read_err e r = record {
    bytes = [];
    count = tt;
    within = omega arith;
    none = refl;
    why = refl;
    took = subst (λ (o : Option (List ℕ)). o ≡ option_map (λ q. [] ++ q) n.left) r.kept (empty_left n.left);
    front = behind_front bytes into post end 0 (omega (arith, room)) (omega arith);
    last = λ z. absurd (cc);
    failed = r.failed;
    unfailed = tt;
  }

-- ---- one call of `fill`

module _ (b n : SourceTold) (h i : Held) (xs ys : List ℕ) (end most : ℕ) (was : h.pending ≡ take end xs) where
  pub filled : (k : ℕ) → ReadBehind b n xs ys end most (Ok k) → i.pending ≡ take (end + k) ys → i.read ≡ h.read + k
      → i.read ≤ session_limit → FillCall b n h i (Ok k)
  filled k r is read within =
      let c : k ≡ length r.bytes = r.count in
      record {
        bytes = r.bytes;
        took = r.took;
        pending = is ∙ ap (λ (j : ℕ). take (end + j) ys) c ∙ r.front ∙ ap (λ (l : List ℕ). l ++ r.bytes) (sym was);
        read = omega (arith, read, c);
        count = c;
        within = within;
        end = r.last;
        fault = λ z. absurd (cc);
        limit = λ z. absurd (cc);
        unfailed = inl r.unfailed;
      }

  pub overfilled : (k : ℕ) → ReadBehind b n xs ys end most (Ok k) → i.pending ≡ take (end + k) ys → i.read ≡ h.read + k
      → session_limit < i.read → FillCall b n h i (Err line_fault.InputLimit)
  overfilled k r is read past =
      let c : k ≡ length r.bytes = r.count in
      record {
        bytes = r.bytes;
        took = r.took;
        pending = is ∙ ap (λ (j : ℕ). take (end + j) ys) c ∙ r.front ∙ ap (λ (l : List ℕ). l ++ r.bytes) (sym was);
        read = omega (arith, read, c);
        count = tt;
        within = tt;
        end = λ z. absurd (cc);
        fault = λ z. absurd (cc);
        limit = λ z. past;
        unfailed = inl r.unfailed;
      }

  pub unfilled : (e : LineFault) → ReadBehind b n xs ys end most (Err e) → i.pending ≡ take end ys → i.read ≡ h.read
      → FillCall b n h i (Err e)
  unfilled e r is read =
      let c : length r.bytes ≡ 0 = r.none in
      let why : e ≡ line_fault.ReadFault = r.why in
      record {
        bytes = r.bytes;
        took = r.took;
        pending = is ∙ ap (λ (j : ℕ). take j ys) (let z : end ≡ end + length r.bytes = omega (arith, c) in z) ∙ r.front
            ∙ ap (λ (l : List ℕ). l ++ r.bytes) (sym was);
        read = omega (arith, read, c);
        count = tt;
        within = tt;
        end = λ z. absurd (cc);
        fault = λ z. (r.failed, c);
        limit = λ z. absurd (cc);
        unfailed = inr (ap (λ (v : LineFault). Err v) why);
      }
