-- What a call that mirrored says of two stores in memory.
use Rattle.std.proofs.Common.{◌≡◌, ◌⊎◌, ℕ, Bool, true, false, List, [], ◌∷◌, All, Err, Ok, Some, ap, arith, get_or, inl, inr, length, map, refl, subst, sym, ◌∙◌}
use Rattle.std.proofs.lemmas.List.Elements.{All-head, All-tail}
use Rattle.std.proofs.lemmas.List.Sums.{sum_by-cons}
use Rattle.std.specs.Prelude.{IsNone, IsSome, Option, Result, is_some, option_map, unwrap_or}
use Rattle.std.specs.List.{concat, sum_by}
use Rattle.xet_base.specs.declared.merklehash.MerkleHash.{MerkleHash}
use Rattle.xet_base.specs.declared.mdb_shard.Xorb.{Xorb}
use Rattle.xet_base.specs.Digests.{infos_of, xorb_hash_of}
use Rattle.xet_base.specs.Store.{IsValid, Store, chunks_of, file_of}
use Rattle.xet_uploader.specs.Uploads.{UploaderTold, xorbs_in}
use Rattle.xet_uploader.specs.declared.uploader.Put.{Put}
use Rattle.xet_shelves.specs.After.{Agree}
use Rattle.xet_shelves.specs.After.{Between, after}
use Rattle.xet_shelves.specs.Shelves.{ShelfTold}
use Rattle.xet_mirror_parts.specs.declared.report.MirrorError.{MirrorError}
use Rattle.xet_mirror_parts.specs.declared.report.MirrorError.TheVariants as mirror_error
use Rattle.xet_mirror_parts.specs.declared.report.MirrorReport.{MirrorReport}
use Rattle.xet_mirror_parts.specs.Copying.{IsSentFrom}
use Rattle.xet_mirror_parts.specs.Looked.{counted}
use Rattle.xet_mirror.specs.Calls.{MirrorCall}
use Rattle.xet_mirror.specs.Mirrored.{IsMirrored}
use Rattle.xet_mirror_command.specs.steps.Ends.{Copied, Ends}

module _ (s t : Store) where
  -- a file that is there at the end, and that the target had where the source lacks it, was in one of both
  was_there : (end : Store) (f : MerkleHash) → IsSome (file_of end f)
      → (IsNone (file_of s f) → file_of end f ≡ file_of t f) → IsSome (file_of s f) ⊎ IsSome (file_of t f)
  was_there end f has left = go (is_some (file_of s f)) refl
    where
      go : (b : Bool) → is_some (file_of s f) ≡ b → IsSome (file_of s f) ⊎ IsSome (file_of t f)
      go true e = inl e
      go false e = inr (sym (ap is_some (left e)) ∙ has)

  -- ---- the bytes of the xorbs that were put

  abbrev own_length : Xorb → ℕ
  own_length x = length (concat x.chunks)

  abbrev stored_length : MerkleHash → ℕ
  stored_length h = length (concat (chunks_of s h))

  same_length : (x : Xorb) → IsSentFrom s t x → own_length x ≡ stored_length x.hash
  same_length x sent =
      ap (λ (o : Option Xorb). length (concat (unwrap_or (option_map (λ (y : Xorb). y.chunks) o) []))) (sym sent.stored)

  bytes_sent : (xs : List Xorb) → All (IsSentFrom s t) xs
      → sum_by own_length xs ≡ sum_by stored_length (map (λ (x : Xorb). x.hash) xs)
  bytes_sent [] all = refl
  bytes_sent (x ∷ xs) all =
      let here = same_length x (All-head (IsSentFrom s t) x xs all) in
      let rest = bytes_sent xs (All-tail (IsSentFrom s t) x xs all) in
      let first = sum_by-cons own_length x xs in
      let second = sum_by-cons stored_length x.hash (map (λ (y : Xorb). y.hash) xs) in
      omega (arith, here, rest, first, second)

  module _ (verify : Bool) (files : List MerkleHash) where
    -- the hash is that of the xorb's chunks
    abbrev IsHashOfChunks : MerkleHash → Type 0
    IsHashOfChunks h = xorb_hash_of (infos_of (chunks_of s h)) ≡ h

    -- all was copied
    copied_of : (puts : List Put) (report : MirrorReport) → IsMirrored s t files puts report → All (IsSentFrom s t) (xorbs_in puts)
        → (verify ≡ true → All IsHashOfChunks (map (λ (x : Xorb). x.hash) (xorbs_in puts)))
        → Copied verify s t files report
    copied_of puts report m sent named = record {
      present = λ k d l. was_there (after t puts) (get_or files k d) (m.has k d l) (m.left k d l);
      verified = λ asked. subst (λ (hs : List MerkleHash). All IsHashOfChunks hs) m.sent (named asked);
      files_copied = m.files_copied;
      files_present = m.files_present;
      xorbs_sent = m.xorbs_sent;
      xorbs_present = m.xorbs_present;
      bytes_sent = m.bytes_sent ∙ ap counted (bytes_sent (xorbs_in puts) sent ∙ ap (λ (hs : List MerkleHash). sum_by stored_length hs) m.sent);
    }

    module _ (sb sa : ShelfTold) (tb ta : UploaderTold) (between : Between s t sb tb) where
      ends_between : (answer : Result MirrorReport MirrorError) → MirrorCall verify files sb sa tb ta answer → Ends verify s t files answer
      ends_between (Ok report) call =
          copied_of call.puts report (call.mirrored s t between) (call.sent s t between) (λ asked. call.verified asked s t between)
      ends_between (Err (mirror_error.FileMissing place)) call = call.cause s t between.shown
      ends_between (Err (mirror_error.HashDiffers xorb)) call = (call.cause.0, call.cause.1 s t between.shown)
      ends_between (Err _) call = tt

  -- a call over a shelf and a target in memory
  pub ends_of : (verify : Bool) (files : List MerkleHash) (sb sa : ShelfTold) (tb ta : UploaderTold)
      (answer : Result MirrorReport MirrorError) → IsValid s → IsValid t → Agree s t → sb.store ≡ Some s → tb.first ≡ Some t
      → tb.puts ≡ Some [] → MirrorCall verify files sb sa tb ta answer → Ends verify s t files answer
  ends_of verify files sb sa tb ta answer from to agree store first puts call =
      ends_between verify files sb sa tb ta
      (record {
        shown = record { shelf_is = store; first = t; first_is = first; log = []; log_is = puts; now = refl };
        from = from;
        to = to;
        agree = agree;
      }) answer call
