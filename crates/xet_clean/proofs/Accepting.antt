-- Records of a session that ended are in its log, and a download gives their files.
use Rattle.std.proofs.Common.{◌≡◌, ℕ, ◌⊎◌, inl, inr, Bool, true, false, List, [], ◌++◌, map, refl, sym, ◌∙◌, ap, subst}
use Rattle.std.specs.Prelude.{Contains, None, Some, Result, Ok, Option, slice_range, unwrap_or}
use Rattle.std.proofs.lemmas.List.Elements.{Contains-append_cases, Contains-append_left, Contains-append_right}
use Rattle.xet_base.specs.declared.mdb_shard.MDBFileInfo.{MDBFileInfo}
use Rattle.xet_base.specs.declared.mdb_shard.Xorb.{Xorb}
use Rattle.xet_base.specs.declared.merklehash.MerkleHash.{MerkleHash}
use Rattle.xet_base.specs.Store.{Store, bytes_of, file_of}
use Rattle.xet_outside.specs.declared.client.ClientError.{ClientError}
use Rattle.xet_upload.specs.DataErrors.{of_client_error}
use Rattle.xet_uploader.specs.declared.uploader.Put.{Put}
use Rattle.xet_uploader.specs.declared.uploader.Put.TheVariants as put
use Rattle.xet_uploader.specs.StoresAfter.{file_of_record}
use Rattle.xet_shard_interface.specs.declared.shard_interface.ShardRules.{ShardRules}
use Rattle.xet_shard_interface.specs.Puts.{shards_of}
use Rattle.xet_upload.specs.Standing.{StandsFor, world}
use Rattle.xet_upload.specs.Waitings.{Waiting, no_waiting}
use Rattle.xet_upload.specs.declared.data_error.DataError.{DataError}
use Rattle.xet_upload.proofs.CallerLemmas.{resolved, stand-grown}
use Rattle.xet_uploader.specs.Uploads.{xorbs_in}
use Rattle.xet_upload_session.specs.Calls.{Cut, EndsCut, EndsSo, EndsUncut, Finalizes, IsPut, as_finalized, finalized_error}
use Rattle.xet_upload_session.specs.Sessions.{SessionTold, Tells, log_of}
use Rattle.xet_clean_parts.specs.Learnings.{Learns}
use Rattle.xet_clean_parts.proofs.CallerLemmas.{learns-sound, learns-tells}
use Rattle.xet_clean.specs.Cleaners.{Cleaner, CleanerStands}
use Rattle.xet_clean.specs.Laws.{AcceptedReads, CallsKeepSteady, CountsKeepRecords, CutKeepsRecords, EndAccepts, FileKeepsRecords, KeepsCleaners, LearningKeepsCleaners, LearningKeepsRecords, LearningKeepsSteady, LeavesRecords, RegisterKeepsRecords, SearchKeepsRecords}
use Rattle.xet_clean_parts.specs.Premises.{HashesAgree, IsSteady}
use Rattle.xet_clean.specs.Records.{CleanedFile, HasRecord, IsAccepted, IsRecorded, WaitsFor}
use Rattle.xet_clean.proofs.Holding.{cut-holds, cut-recorded, cut-waited, left-holds, recorded-grown, takes-holds}
use Rattle.xet_clean_parts.proofs.CallerLemmas.{opened}
use Rattle.xet_clean_parts.proofs.CallerLemmas.{ok-err, world-grew, world-has}

-- ---- other calls

pub leaves-keeps : LeavesRecords
leaves-keeps k b n f l s o r = left-holds k b n no_waiting 0 s o f l.keeps l.waiting l.finished r

pub cut-keeps : CutKeepsRecords
cut-keeps k b n now answer f c s o a r =
    let before = opened b n c.keeps o in
    cut-holds k b n now s.tells f s.sound (s.backed before.unfailed before.unfinished)
    (s.listed.all before.unfailed before.unfinished).put a answer c o.unfailed r

pub cleaner-grown : KeepsCleaners
cleaner-grown k b n c bytes keeps s a =
    let g = keeps.grew s.tells in
    let more = map put.Xorb g.xorbs in
    record {
      front = a.front;
      parts = record {
        chunks = a.parts.chunks;
        stand = stand-grown (world k (log_of b)) (world k (log_of n)) (xorbs_in more) (world-grew k (log_of b)
            (log_of n) more g.grown) c.parts.own.chunks c.parts.terms a.parts.chunks a.parts.stand;
        infos_are = a.parts.infos_are;
        bytes_are = a.parts.bytes_are;
      };
      bytes_are = a.bytes_are;
      fed = a.fed;
    }

-- a given xorb, and a search
pub register-keeps : RegisterKeepsRecords
register-keeps k b n x now answer f q s o r = left-holds k b n no_waiting 0 s o f q.keeps
    (ap (λ (t : SessionTold). t.waiting) q.same) (ap (λ (t : SessionTold). t.finished) q.same) r

pub search-keeps : SearchKeepsRecords
search-keeps k b n hashes answer f q s o r = left-holds k b n no_waiting 0 s o f q.keeps
    (ap (λ (t : SessionTold). t.waiting) q.same) (ap (λ (t : SessionTold). t.finished) q.same) r

-- counts that are added
pub counts-keep : CountsKeepRecords
counts-keep k b n counts f e r = subst (λ (t : SessionTold). HasRecord k t f) (sym e) r

-- the data of another file
pub file-keeps : FileKeepsRecords
file-keeps k b n w now answer f t s o a r = takes-holds k b n w now s o f a answer t r

-- queries of the uploader
module _ (k : Store) (b n : SessionTold) (hashes : List MerkleHash) (answer : Result Bool DataError)
    (l : Learns b n hashes answer) where
  log-same : log_of n ≡ log_of b
  log-same = ap (λ (o : Option (List Put)). unwrap_or o []) l.puts

  learned-record : (f : CleanedFile) → HasRecord k b f → HasRecord k n f
  learned-record f (inl a) =
      let P : List Put → Type 0 = λ ps. WaitsFor (world k ps) n.waiting f in
      let Q : Waiting → Type 0 = λ w. WaitsFor (world k (log_of b)) w f in
      inl (subst P (sym log-same) (subst Q (sym (ap (λ (t : SessionTold). t.waiting) l.same)) a))
  learned-record f (inr a) =
      let P : List Put → Type 0 = λ ps. IsRecorded (world k ps) n.finished f in
      let Q : List MDBFileInfo → Type 0 = λ fs. IsRecorded (world k (log_of b)) fs f in
      inr (subst P (sym log-same) (subst Q (sym (ap (λ (t : SessionTold). t.finished) l.same)) a))

  learned-cleaner : (c : Cleaner) (bytes : List ℕ) → CleanerStands (world k (log_of b)) c bytes
      → CleanerStands (world k (log_of n)) c bytes
  learned-cleaner c bytes a =
      let P : List Put → Type 0 = λ ps. CleanerStands (world k ps) c bytes in
      subst P (sym log-same) a

pub learning-keeps : LearningKeepsRecords
learning-keeps k b n hashes answer f l r = learned-record k b n hashes answer l f r

pub learning-cleaners : LearningKeepsCleaners
learning-cleaners k b n hashes answer c bytes l a = learned-cleaner k b n hashes answer l c bytes a

-- ---- sessions that stay steady

pub calls-steady : CallsKeepSteady
calls-steady k b n keeps backs agree s = record {
  tells = keeps.tells s.tells;
  backed = backs.backed s.tells s.backed;
  listed = backs.listed;
  sound = keeps.sound k s.tells agree s.sound;
}

pub learning-steady : LearningKeepsSteady
learning-steady k b n hashes answer l backs more s = record {
  tells = learns-tells b n hashes answer l s.tells;
  backed = backs.backed s.tells s.backed;
  listed = backs.listed;
  sound = learns-sound b n hashes answer l k s.tells more s.sound;
}

-- ---- the end of a session

module _ {A : Type 0} (k : Store) (b n : SessionTold) (now : ℕ) (counts : A) (f : CleanedFile)
    (z : Finalizes b n now (Ok counts)) (s : IsSteady k b) (dry : b.shards.rules.dry_run ≡ false)
    (agree : HashesAgree k n) (r : HasRecord k b f) where
  -- it was not finalized
  first : b.finalized ≡ false
  first = go b.finalized refl
    where
      go : (x : Bool) → b.finalized ≡ x → b.finalized ≡ false
      go false e = e
      go true e = let q = z.again e in ok-err counts finalized_error q.0

  begun : Tells (as_finalized b)
  begun = record { puts = s.tells.puts; shards = s.tells.shards }

  unfailed_before : b.failed ≡ None
  unfailed_before = go b.failed refl
    where
      go : (x : Option ClientError) → b.failed ≡ x → b.failed ≡ None
      go None e = e
      go (Some x) e = ok-err counts (of_client_error x) (z.refused first x e)

  accepted-in : IsRecorded (world k (log_of n)) n.finished f → IsAccepted k (log_of n) f
  accepted-in a =
      let p : IsPut (log_of n) a.info = z.put s.tells dry a.info a.is_there in
      record {
        shard = p.shard;
        is_there = p.is_there;
        recorded = record {
          info = a.info;
          is_there = p.has;
          hash = a.hash;
          sha256 = a.sha256;
          chunks =
              a.chunks;
          has = a.has;
          stand = a.stand;
        };
      }

  module _ (m : SessionTold) (cut : Cut (as_finalized b) m now (Ok tt)) (ends : EndsCut m n (Ok counts)) where
    tells_middle : Tells m
    tells_middle = cut.keeps.tells begun

    grown : log_of n ≡ log_of m ++ map put.Shard (shards_of n.shards)
    grown = (ends.all tells_middle (ap (λ (x : ShardRules). x.dry_run) cut.keeps.rules ∙ dry)).0

    -- the hashes agree before the shards too
    agree_middle : HashesAgree k m
    agree_middle x y c d = agree x y (more x c) (more y d)
      where
        more : (x : Xorb) → Contains ((world k (log_of m)).xorbs ++ m.repeated) x
            → Contains ((world k (log_of n)).xorbs ++ n.repeated) x
        more x c = go (Contains-append_cases (world k (log_of m)).xorbs m.repeated x c)
          where
            go : Contains (world k (log_of m)).xorbs x ⊎ Contains m.repeated x
                → Contains ((world k (log_of n)).xorbs ++ n.repeated) x
            go (inl e) = Contains-append_left (world k (log_of n)).xorbs n.repeated x
                (world-has k (log_of m) (log_of n) (map put.Shard (shards_of n.shards)) grown x e)
            go (inr e) =
                let same : n.repeated ≡ m.repeated = ap (λ (t : SessionTold). t.repeated) ends.same in
                Contains-append_right (world k (log_of n)).xorbs n.repeated x
                (subst (λ (xs : List Xorb). Contains xs x) (sym same) e)

    in-middle : IsRecorded (world k (log_of m)) m.finished f
    in-middle = go r
      where
        go : HasRecord k b f → IsRecorded (world k (log_of m)) m.finished f
        go (inl a) = cut-waited k (as_finalized b) m now begun f s.sound (s.backed unfailed_before first)
            (s.listed.all unfailed_before first).put agree_middle tt cut a
        go (inr a) = cut-recorded k (as_finalized b) m now begun f (Ok tt) cut a

    accepted-after : IsAccepted k (log_of n) f
    accepted-after =
        let same : n.finished ≡ m.finished = ap (λ (t : SessionTold). t.finished) ends.same in
        accepted-in (recorded-grown k (log_of m) (log_of n) (map put.Shard
        (shards_of n.shards)) grown m.finished n.finished f (λ g c. subst (λ
        (fs : List MDBFileInfo). Contains fs g) (sym same) c) in-middle)

  accepted-end : IsAccepted k (log_of n) f
  accepted-end = go (z.ends first)
    where
      go : EndsUncut b n now (Ok counts) ⊎ EndsSo b n now (Ok counts) → IsAccepted k (log_of n) f
      go (inl e) = ok-err counts e.0 e.1
      go (inr e) = accepted-after e.0 e.1 e.2

pub end-accepts : {A : Type 0} → EndAccepts A
end-accepts k b n now counts f z s dry agree r = accepted-end k b n now counts f z s dry agree r

-- ---- downloads

pub accepted-reads : AcceptedReads
accepted-reads k s log f range has accepted file =
    let a = accepted.recorded in
    let P : MerkleHash → Type 0 = λ h. file_of s h ≡ Some (file_of_record a.info) in
    let stands : StandsFor (world k log) a.info.entries f.bytes = record {
      chunks = a.chunks;
      stand =
          a.stand;
      bytes_are = a.has.bytes;
    } in
    let bytes : bytes_of s a.info.hash ≡ f.bytes = resolved (world k log) s a.info f.bytes stands has (subst P
    (sym a.hash) file) in
    let Q : MerkleHash → Type 0 = λ h. bytes_of s h ≡ f.bytes in
    ap (λ (bs : List ℕ). slice_range bs range.start range.end) (subst Q a.hash bytes)
