-- Records and waiting files go on standing while xorbs are put, data is joined, and files are finished.
use Rattle.std.proofs.Common.{◌≡◌, ℕ, ◌<◌, ◌^◌, List, [], ◌∷◌, ◌++◌, length, map, refl, sym, ◌∙◌, ap, subst, arith}
use Rattle.std.proofs.lemmas.List.{append-nil, append_assoc}
use Rattle.std.proofs.lemmas.List.Elements.{All-append, All-map, All-weaker}
use Rattle.xet_base.specs.declared.merklehash.MerkleHash.{MerkleHash}
use Rattle.xet_base.specs.declared.mdb_shard.MDBFileInfo.{MDBFileInfo}
use Rattle.xet_base.specs.declared.mdb_shard.ShardRecord.{ShardRecord}
use Rattle.xet_base.specs.declared.mdb_shard.Xorb.{Xorb}
use Rattle.xet_base.specs.Store.{Store, chunks_of}
use Rattle.xet_uploader.specs.declared.uploader.Put.{Put}
use Rattle.xet_uploader.specs.declared.uploader.Put.TheVariants as put
use Rattle.xet_uploader.specs.StoresAfter.{files_in}
use Rattle.xet_uploader.specs.Uploads.{xorbs_in}
use Rattle.xet_shard_interface.proofs.CallerLemmas.{files_of}
use Rattle.xet_upload.specs.Standing.{AgreeOn, Stand, named, term_of, world}
use Rattle.xet_upload.specs.Waitings.{IsWithin, Waiting, file_shifted, merged, record_of_file, xorb_of_chunks}
use Rattle.xet_upload.proofs.CallerLemmas.{cut_stands, stand-before, stand-behind, stand-grown, stand-named}
use Rattle.xet_waiting.specs.declared.waiting.WaitingFile.{WaitingFile}
use Rattle.xet_waiting.specs.declared.waiting.WaitingTerm.{WaitingTerm}
use Rattle.xet_clean_parts.proofs.CallerLemmas.{world-grew}
use Rattle.xet_upload_laws.specs.RecordsStand.{AreRecords, AreWaiting, IsRecord, IsWaiting}

-- ---- a world that grows

module _ (k : Store) (log after more : List Put) (grown : after ≡ log ++ more) where
  record-grown : (r : MDBFileInfo) → IsRecord (world k log) r → IsRecord (world k after) r
  record-grown r a = record {
    chunks = a.chunks;
    hash = a.hash;
    stand = stand-grown (world k log) (world k after) (xorbs_in more) (world-grew k log after more grown) []
        (map term_of r.entries) a.chunks a.stand;
    short = a.short;
  }

  pub records-grown : (rs : List MDBFileInfo) → AreRecords (world k log) rs → AreRecords (world k after) rs
  records-grown rs a = All-weaker (IsRecord (world k log)) (IsRecord (world k after)) record-grown rs a

  pub waiting-grown : (w : Waiting) → AreWaiting (world k log) w → AreWaiting (world k after) w
  waiting-grown w a = All-weaker (IsWaiting (world k log) w.chunks) (IsWaiting (world k after) w.chunks) one w.files a
    where
      one : (f : WaitingFile) → IsWaiting (world k log) w.chunks f → IsWaiting (world k after) w.chunks f
      one f r = record {
        chunks = r.chunks;
        hash = r.hash;
        stand = stand-grown (world k log) (world k after) (xorbs_in more) (world-grew k log after more grown) w.chunks
            f.terms r.chunks r.stand;
        short = r.short;
      }

-- ---- waiting files that become records

-- what terms stand for, once they have a name for the waiting chunks
abbrev Names : Store → Store → List (List ℕ) → MerkleHash → Type 0
Names s t own h = (ts : List WaitingTerm) (cs : List (List ℕ)) → Stand s own ts cs
    → Stand t [] (map term_of (map (named h) ts)) cs

named-records : (s t : Store) (h : MerkleHash) (w : Waiting) → Names s t w.chunks h → AreWaiting s w
    → AreRecords t (map (record_of_file h) w.files)
named-records s t h w names a = All-map (IsRecord t) (record_of_file h) w.files
    (All-weaker (IsWaiting s w.chunks) (λ (f : WaitingFile). IsRecord t (record_of_file h f)) one w.files a)
  where
    one : (f : WaitingFile) → IsWaiting s w.chunks f → IsRecord t (record_of_file h f)
    one f r = record { chunks = r.chunks; hash = r.hash; stand = names f.terms r.chunks r.stand; short = r.short }

-- no chunk waits
pub records-empty : (s : Store) (h : MerkleHash) (w : Waiting) → w.chunks ≡ [] → AreWaiting s w
    → AreRecords s (map (record_of_file h) w.files)
records-empty s h w none a = named-records s s h w names a
  where
    names : Names s s w.chunks h
    names ts cs r = stand-named s (chunks_of s h) h refl ts cs (stand-behind s [] (chunks_of s h) ts cs
        (subst (λ (own : List (List ℕ)). Stand s own ts cs) none r))

-- a xorb of the hash is there, and has these chunks
pub records-old : (s : Store) (h : MerkleHash) (w : Waiting) → chunks_of s h ≡ w.chunks → AreWaiting s w
    → AreRecords s (map (record_of_file h) w.files)
records-old s h w is a = named-records s s h w (stand-named s w.chunks h is) a

-- the chunks were put as a xorb
pub records-put : (k : Store) (log after : List Put) (w : Waiting)
    → after ≡ log ++ put.Xorb (xorb_of_chunks w.chunks) ∷ []
    → AgreeOn (world k after).xorbs (xorb_of_chunks w.chunks).hash w.chunks → AreWaiting (world k log) w
    → AreRecords (world k after) (map (record_of_file (xorb_of_chunks w.chunks).hash) w.files)
records-put k log after w grown agree a =
    let x = xorb_of_chunks w.chunks in
    named-records (world k log) (world k after) x.hash w (λ ts cs r. cut_stands k log after x ts cs grown agree r) a

-- ---- a merge

pub waiting-merged : (s : Store) (v w : Waiting) → IsWithin (v.chunks ++ w.chunks) → AreWaiting s v → AreWaiting s w
    → AreWaiting s (merged v w)
waiting-merged s v w within a b =
    let all = v.chunks ++ w.chunks in
    All-append (IsWaiting s all) v.files (map (file_shifted (length v.chunks)) w.files)
    (All-weaker (IsWaiting s v.chunks) (IsWaiting s all) first v.files a)
    (All-map (IsWaiting s all) (file_shifted (length v.chunks)) w.files (All-weaker (IsWaiting s w.chunks)
    (λ (f : WaitingFile). IsWaiting s all (file_shifted (length v.chunks) f)) second w.files b))
  where
    few : length (v.chunks ++ w.chunks) < 2 ^ 32
    few = let count = within.0 in omega arith

    first : (f : WaitingFile) → IsWaiting s v.chunks f → IsWaiting s (v.chunks ++ w.chunks) f
    first f r = record {
      chunks = r.chunks;
      hash = r.hash;
      stand = stand-behind s v.chunks w.chunks f.terms r.chunks r.stand;
      short = r.short;
    }

    second : (f : WaitingFile) → IsWaiting s w.chunks f
        → IsWaiting s (v.chunks ++ w.chunks) (file_shifted (length v.chunks) f)
    second f r = record {
      chunks = r.chunks;
      hash = r.hash;
      stand = stand-before s v.chunks w.chunks few f.terms r.chunks r.stand;
      short = r.short;
    }

-- ---- what a log has

pub files_in-append : (log more : List Put) → files_in (log ++ more) ≡ files_in log ++ files_in more
files_in-append [] more = refl
files_in-append (put.Xorb x ∷ ps) more = files_in-append ps more
files_in-append (put.Shard r ∷ ps) more =
    ap (λ (fs : List MDBFileInfo). r.files ++ fs) (files_in-append ps more)
    ∙ sym (append_assoc r.files (files_in ps) (files_in more))

pub files_in-xorbs : (xs : List Xorb) → files_in (map put.Xorb xs) ≡ []
files_in-xorbs [] = refl
files_in-xorbs (x ∷ xs) = files_in-xorbs xs

pub files_in-shards : (ss : List ShardRecord) → files_in (map put.Shard ss) ≡ files_of ss
files_in-shards [] = refl
files_in-shards (s ∷ ss) = ap (λ (fs : List MDBFileInfo). s.files ++ fs) (files_in-shards ss)

-- the file records of a log that grew by xorbs
pub logged-xorbs : (k : Store) (log after : List Put) (xs : List Xorb) → after ≡ log ++ map put.Xorb xs
    → AreRecords (world k log) (files_in log) → AreRecords (world k after) (files_in after)
logged-xorbs k log after xs grown a =
    let same : files_in after ≡ files_in log = ap files_in grown ∙ files_in-append log (map put.Xorb xs)
    ∙ ap (λ (fs : List MDBFileInfo). files_in log ++ fs) (files_in-xorbs xs) ∙ append-nil (files_in log) in
    subst (λ (fs : List MDBFileInfo). AreRecords (world k after) fs) (sym same)
    (records-grown k log after (map put.Xorb xs) grown (files_in log) a)

-- and of one that grew by shards
pub logged-shards : (k : Store) (log after : List Put) (ss : List ShardRecord) → after ≡ log ++ map put.Shard ss
    → AreRecords (world k log) (files_of ss) → AreRecords (world k log) (files_in log)
    → AreRecords (world k after) (files_in after)
logged-shards k log after ss grown new a =
    let same : files_in after ≡ files_in log ++ files_of ss = ap files_in grown
    ∙ files_in-append log (map put.Shard ss) ∙ ap (λ (fs : List MDBFileInfo). files_in log ++ fs) (files_in-shards ss) in
    subst (λ (fs : List MDBFileInfo). AreRecords (world k after) fs) (sym same)
    (records-grown k log after (map put.Shard ss) grown (files_in log ++ files_of ss)
    (All-append (IsRecord (world k log)) (files_in log) (files_of ss) a new))
