-- Chunks that are added behind others, and xorbs at their places.
use Rattle.std.proofs.Common.{◌≡◌, ℕ, ◌+◌, ◌-◌, ◌≤◌, List, [], ◌∷◌, ◌++◌, length, refl, sym, ◌∙◌, ap, subst, append_assoc, append-nil, length-append, arith}
use Rattle.std.specs.Prelude.{Some, option_and_then, slice_range}
use Rattle.serde_json.specs.Data.{Data}
use Rattle.serde_json.specs.Find.{as_array}
use Rattle.xet_base.specs.HashText.{hash_of_text}
use Rattle.xet_store.specs.Parts.{AreEnds}
use Rattle.xet_document.specs.Document.{chunks_of_items}
use Rattle.xet_document.specs.declared.joined_chunks.JoinedChunks.{JoinedChunks}
use Rattle.xet_document.specs.declared.joined_chunks.XorbPlace.{XorbPlace}
use Rattle.xet_document.specs.steps.Placed.{AddsChunks, IsPlaced, placed_xorb}
use Rattle.xet_document.specs.steps.Reads.{ListsXorb}
use Rattle.xet_document.proofs.ChunkEnds.{ends-push, parts-push, part-front, part-back}

pub adds_none : (j : JoinedChunks) → AddsChunks j j []
adds_none j = record {
  own = [];
  places = [];
  bytes = sym (append-nil j.bytes.items);
  ends = sym (append-nil j.ends.items);
  fill = refl;
  chunks_are = refl;
}

pub adds_more : (a b c : JoinedChunks) (chunks : List (List ℕ)) (chunk : List ℕ) → AddsChunks a b chunks → c.bytes.items ≡ b.bytes.items ++ chunk
    → c.ends.items ≡ b.ends.items ++ (length c.bytes.items - length a.bytes.items) ∷ [] → AddsChunks a c (chunks ++ chunk ∷ [])
adds_more a b c chunks chunk s bytes ends =
    let size : length c.bytes.items - length a.bytes.items ≡ length s.own + length chunk =
    omega (arith, ap length bytes, length-append b.bytes.items chunk, ap length s.bytes, length-append a.bytes.items s.own) in
    let whole : length (s.own ++ chunk) ≡ length s.own + length chunk = length-append s.own chunk in record {
      own = s.own ++ chunk;
      places = s.places ++ (length s.own + length chunk) ∷ [];
      bytes = bytes ∙ ap (λ xs. xs ++ chunk) s.bytes ∙ append_assoc a.bytes.items s.own chunk;
      ends = ends ∙ ap (λ (n : ℕ). b.ends.items ++ n ∷ []) size ∙ ap (λ xs. xs ++ (length s.own + length chunk) ∷ []) s.ends ∙ append_assoc a.ends.items s.places ((length s.own + length chunk) ∷ []);
      fill = subst (λ n. AreEnds 0 (s.places ++ (length s.own + length chunk) ∷ []) n) (sym whole) (ends-push 0 s.places (length s.own) (length s.own + length chunk) s.fill (omega arith));
      chunks_are = ap (λ cs. cs ++ chunk ∷ []) s.chunks_are ∙ sym (parts-push s.own chunk 0 s.places s.fill);
    }

-- a part of the front is the part of the whole
front : (xs ys zs : List ℕ) (p e : ℕ) → zs ≡ xs ++ ys → p ≤ e → e ≤ length xs → slice_range zs p e ≡ slice_range xs p e
front xs ys zs p e is le within = ap (λ ws. slice_range ws p e) is ∙ part-front xs ys p e le within

-- what was added is the part from the old end to the new one
back : (xs ys zs : List ℕ) → zs ≡ xs ++ ys → slice_range zs (length xs) (length zs) ≡ ys
back xs ys zs is =
    let size : length zs ≡ length xs + length ys = ap length is ∙ length-append xs ys in
    rw (size, is) (part-back xs ys (length xs) refl)

-- the place of what was added
pub place_of : (a b : JoinedChunks) (chunks : List (List ℕ)) (p : XorbPlace) → AddsChunks a b chunks → p.start ≡ length a.bytes.items → p.end ≡ length b.bytes.items → p.first ≡ length a.ends.items → p.last ≡ length b.ends.items
    → IsPlaced b.bytes.items b.ends.items p × ((placed_xorb b.bytes.items b.ends.items p).chunks ≡ chunks)
place_of a b chunks p s start end first last =
    let bytes : slice_range b.bytes.items p.start p.end ≡ s.own = rw (start, end) (back a.bytes.items s.own b.bytes.items s.bytes) in
    let ends : slice_range b.ends.items p.first p.last ≡ s.places = rw (first, last) (back a.ends.items s.places b.ends.items s.ends) in
    let size : p.end - p.start ≡ length s.own = omega (arith, start, end, ap length s.bytes, length-append a.bytes.items s.own) in (
      record {
        within = omega (arith, end);
        ascends = omega (arith, start, end, ap length s.bytes, length-append a.bytes.items s.own);
        ends_within = omega (arith, last);
        ends_ascend = omega (arith, first, last, ap length s.ends, length-append a.ends.items s.places);
        fill = rw (ends, size) s.fill;
      },
      rw (bytes, ends) (sym s.chunks_are),
    )

-- a xorb keeps its place where chunks are added behind
pub still_placed : (a b : JoinedChunks) (chunks : List (List ℕ)) (p : XorbPlace) → AddsChunks a b chunks → IsPlaced a.bytes.items a.ends.items p
    → IsPlaced b.bytes.items b.ends.items p × (placed_xorb b.bytes.items b.ends.items p ≡ placed_xorb a.bytes.items a.ends.items p)
still_placed a b chunks p s placed =
    let bytes = front a.bytes.items s.own b.bytes.items p.start p.end s.bytes placed.ascends placed.within in
    let ends = front a.ends.items s.places b.ends.items p.first p.last s.ends placed.ends_ascend placed.ends_within in (
      record {
        within = omega (arith, placed.within, ap length s.bytes, length-append a.bytes.items s.own);
        ascends = placed.ascends;
        ends_within = omega (arith, placed.ends_within, ap length s.ends, length-append a.ends.items s.places);
        ends_ascend = placed.ends_ascend;
        fill = rw ends placed.fill;
      },
      rw (bytes, ends) refl,
    )

-- and so it stays listed
pub still_lists : (a b : JoinedChunks) (chunks : List (List ℕ)) → AddsChunks a b chunks → (k : List ℕ) (d : Data) (p : XorbPlace) → ListsXorb a k d p → ListsXorb b k d p
still_lists a b chunks s k d p h = let still = still_placed a b chunks p s h.0 in (still.0, h.1 ∙ ap Some (sym still.1))

-- the member of a hash and of chunks lists the xorb of both
pub lists_xorb : (j : JoinedChunks) (k : List ℕ) (d : Data) (p : XorbPlace) → IsPlaced j.bytes.items j.ends.items p → hash_of_text k ≡ Some p.hash
    → option_and_then chunks_of_items (as_array d) ≡ Some (placed_xorb j.bytes.items j.ends.items p).chunks → ListsXorb j k d p
lists_xorb j k d p placed hash chunks = (placed, rw (hash, chunks) refl)
