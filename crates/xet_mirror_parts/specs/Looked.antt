-- The xorbs that were looked at, and what a report counts of them.
use Rattle.std.specs.Prelude.{ℕ, ◌≡◌, ◌≢◌, ◌<◌, ◌+◌, ◌-◌, ◌^◌, min, Bool, true, false, ◌&&◌, nat_lt, nat_le, List, []}
use Rattle.std.specs.Prelude.{◌∷◌, ◌++◌, length, map, find, is_some, Option, option_map}
use Rattle.std.specs.List.{concat, filter_map}
use Rattle.std.specs.Option.{option_map_or}
use Rattle.xet_base.specs.declared.merklehash.MerkleHash.{MerkleHash}
use Rattle.xet_base.specs.declared.mdb_shard.FileDataSequenceEntry.{FileDataSequenceEntry}
use Rattle.xet_base.specs.declared.mdb_shard.MDBXorbInfo.{MDBXorbInfo}
use Rattle.xet_base.specs.declared.mdb_shard.Xorb.{Xorb}
use Rattle.xet_base.specs.Digests.{xorb_hash_of}
use Rattle.xet_base.specs.Hashes.{hash_eq}
use Rattle.xet_base.specs.Lists.{firsts}
use Rattle.xet_uploader.specs.Uploads.{record_of}
use Rattle.xet_mirror_parts.specs.declared.copied.Copied.{Copied}
use Rattle.xet_mirror_parts.specs.declared.copied.LookedXorb.{LookedXorb}
use Rattle.xet_mirror_parts.specs.declared.report.MirrorError.{MirrorError}
use Rattle.xet_mirror_parts.specs.declared.report.MirrorError.TheVariants as mirror_error
use Rattle.xet_mirror_parts.specs.declared.report.MirrorReport.{MirrorReport}

-- ---- reports

-- a count as a report has it
abbrev pub counted : ℕ → ℕ
counted n = min n (2 ^ 64 - 1)

-- nothing was counted
abbrev pub no_report : MirrorReport
no_report = record { files_copied = 0; files_present = 0; xorbs_sent = 0; xorbs_present = 0; bytes_sent = 0 }

-- one xorb more, which the target held, or which was sent
abbrev pub report_with : MirrorReport → Xorb → Bool → MirrorReport
report_with r x true = record r { xorbs_present = counted (r.xorbs_present + 1) }
report_with r x false =
    record r { xorbs_sent = counted (r.xorbs_sent + 1); bytes_sent = counted (r.bytes_sent + length (concat x.chunks)) }

-- one file more, which was copied
abbrev pub with_copied : MirrorReport → MirrorReport
with_copied r = record r { files_copied = counted (r.files_copied + 1) }

-- and one that the target had
abbrev pub with_present : MirrorReport → MirrorReport
with_present r = record r { files_present = counted (r.files_present + 1) }

-- ---- xorbs that were looked at

-- the hash of the xorb is that of its chunks, of which one of 2^32 bytes or more counts with 2^32 - 1
abbrev pub IsNamed : Xorb → Type 0
IsNamed x = xorb_hash_of (record_of x).chunks ≡ x.hash

-- the xorb has chunks, and where hashes are compared its own is that of its chunks
pub record IsWholeXorb (verify : Bool) (x : Xorb) : Type 0 where
  pub some : 0 < length x.chunks
  pub named : verify ≡ true → IsNamed x

-- the term is from below to inside the xorb
abbrev pub is_inside : FileDataSequenceEntry → Xorb → Bool
is_inside t x = nat_lt t.from t.to && nat_le t.to (length x.chunks)

-- their hashes, in the order in which they were looked at
abbrev pub looked_hashes : List LookedXorb → List MerkleHash
looked_hashes xs = map (λ x. x.info.hash) xs

-- the one with this hash, and whether there is one
abbrev pub looked_at : List LookedXorb → MerkleHash → Option LookedXorb
looked_at xs h = find (λ x. hash_eq x.info.hash h) xs

abbrev pub is_looked : List LookedXorb → MerkleHash → Bool
is_looked xs h = is_some (looked_at xs h)

-- the term is from below to inside one of them
abbrev pub is_within : List LookedXorb → FileDataSequenceEntry → Bool
is_within xs t =
    option_map_or (λ x. nat_lt t.from t.to && nat_le t.to (length x.info.chunks)) (looked_at xs t.xorb) false

-- the records of those with these hashes, each once
abbrev pub looked_records : List LookedXorb → List MerkleHash → List MDBXorbInfo
looked_records xs hs = filter_map (λ h. option_map (λ x. x.info) (looked_at xs h)) (firsts hash_eq hs)

-- ---- a xorb more

-- the xorb was noted: its record stands at the end, and it is counted; where hashes are compared, one that is sent has
-- the hash of its chunks
pub record Notes (verify : Bool) (before after : Copied) (x : Xorb) (held : Bool) : Type 0 where
  pub xorbs : after.xorbs ≡ before.xorbs ++ (record { info = record_of x }) ∷ []
  pub report : after.report ≡ report_with before.report x held
  pub named : verify ≡ true → held ≡ false → IsNamed x

-- why it was not: hashes are compared, and its own isn't that of its chunks; want of memory is free
abbrev pub NoteCause : Bool → Xorb → Bool → MirrorError → Type 0
NoteCause verify x held mirror_error.OutOfMemory = Unit {0}
NoteCause verify x held (mirror_error.HashDiffers h) =
    (verify ≡ true) × (held ≡ false) × (h ≡ x.hash) × (xorb_hash_of (record_of x).chunks ≢ x.hash)
NoteCause verify x held mirror_error.ClientError = ⊥
NoteCause verify x held (mirror_error.FileMissing p) = ⊥
NoteCause verify x held (mirror_error.XorbMissing h) = ⊥
NoteCause verify x held (mirror_error.BadTerm p e) = ⊥
