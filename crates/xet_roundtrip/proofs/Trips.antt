-- The made file in a store, and out of it.
use Rattle.std.proofs.Common.{◌≡◌, ℕ, ◌≤◌, ◌-◌, ◌^◌, List, [], ◌∷◌, ◌++◌, Some, arith, inl, length, sym, ap, ◌∙◌}
use Rattle.std.specs.Prelude.{slice_range}
use Rattle.std.proofs.lemmas.List.{append-nil, length-append}
use Rattle.xet_base.specs.Digests.{file_hash_of, infos_of}
use Rattle.xet_base.specs.HashText.{hash_of_text}
use Rattle.xet_base.specs.Store.{Store}
use Rattle.xet_outside.specs.Told.{SinkTold, SourceTold}
use Rattle.xet_pointer.specs.declared.xet_file_info.XetFileInfo.{XetFileInfo}
use Rattle.xet_upload_laws.specs.Sending.{Clashes, Sends}
use Rattle.xet_download.specs.Downloads.{whole}
use Rattle.xet_pattern.specs.Patterns.{pattern}
use Rattle.xet_roundtrip.specs.steps.Trips.{Downloaded, GivesBack}
use Rattle.xet_roundtrip.proofs.HashTexts.{read_back}
use Rattle.xet_roundtrip.proofs.Patterns.{pattern_length, pattern_whole, within}

-- the source of the file
abbrev pub made_source : ℕ → SourceTold
made_source size = record { left = Some (pattern size); faults = 0 }

-- as many bytes from the front of a list as it has are all of it
all_of : (bytes rest whole : List ℕ) → whole ≡ bytes ++ rest → length bytes ≡ length whole → bytes ≡ whole
all_of bytes [] whole is size = sym (is ∙ append-nil bytes)
all_of bytes (x ∷ rest) whole is size =
    let counts = ap length is ∙ length-append bytes (x ∷ rest) in
    absurd (omega (arith, counts, size))

-- what was sent gives the file back
given : (size : ℕ) (info : XetFileInfo) (store : Store) → size ≤ 1000000
    → Sends (made_source size) size 1000 info store → GivesBack size info store
given size info store few sent =
    let bytes : sent.bytes ≡ pattern size =
    all_of sent.bytes sent.content.came.0 (pattern size) sent.content.came.1
    (sent.content.count ∙ sym (pattern_length size)) in
    let cut = rw bytes at sent.content.cut in
    let fits = within size sent.chunks few cut in
    record {
      chunks = sent.chunks;
      cut = cut;
      pointer = sent.pointer;
      stored = (sent.gives (inl fits)).stored;
      gives = (sent.gives (inl fits)).ranges whole ∙ ap (λ xs. slice_range xs 0 (2 ^ 64 - 1)) bytes
          ∙ pattern_whole size (omega arith);
    }

pub gives_back : (size : ℕ) (source : SourceTold) (info : XetFileInfo) (store : Store) → size ≤ 1000000
    → Sends source size 1000 info store → source ≡ made_source size → GivesBack size info store
gives_back size source info store few sent is = given size info store few (rw is at sent)

-- no clash of contents comes in the way
clashes : (size : ℕ) → size ≤ 1000000 → Clashes (made_source size) size 1000 → ⊥
clashes size few c =
    let bytes : c.bytes ≡ pattern size =
    all_of c.bytes c.content.came.0 (pattern size) c.content.came.1 (c.content.count ∙ sym (pattern_length size)) in
    c.clash (inl (within size c.chunks few (rw bytes at c.content.cut)))

pub no_clash : (size : ℕ) (source : SourceTold) → size ≤ 1000000 → Clashes source size 1000
    → source ≡ made_source size → ⊥
no_clash size source few c is = clashes size few (rw is at c)

-- the hash of its pointer record
pub hash_is : (size : ℕ) (info : XetFileInfo) (store : Store) (back : GivesBack size info store)
    → hash_of_text info.hash ≡ Some (file_hash_of (infos_of back.chunks))
hash_is size info store back =
    ap (λ (i : XetFileInfo). hash_of_text i.hash) back.pointer ∙ read_back (infos_of back.chunks)

-- a writer that took the file of its pointer record took the pattern
pub took_pattern : (size : ℕ) (info : XetFileInfo) (store : Store) (before after : SinkTold)
    → GivesBack size info store → Downloaded store info before after → before.took ≡ Some []
    → after.took ≡ Some (pattern size)
took_pattern size info store before after back came none =
    rw (none, back.gives) at (came _ (hash_is size info store back))
