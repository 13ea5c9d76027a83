-- How many files a session holds after an upload.
use Rattle.std.proofs.Common.{◌≡◌, ℕ, ◌+◌, ◌⊎◌, inl, inr, List, length, map, ap, arith}
use Rattle.std.specs.Prelude.{Ok}
use Rattle.std.proofs.lemmas.List.{length-append, length-map}
use Rattle.xet_progress_state.specs.declared.step.TrackerStep.{TrackerStep}
use Rattle.xet_upload.specs.Waitings.{Waiting, file_shifted, record_of_file}
use Rattle.xet_upload_session.specs.Calls.{waiting_hash}
use Rattle.xet_upload_session.specs.Completions.{CutsFile, CutsWaiting, Joins, TakesFile, with_waiting}
use Rattle.xet_upload_session.specs.Sessions.{SessionTold}
use Rattle.xet_clean_parts.specs.SessionCalls.{Calls}
use Rattle.xet_clean.specs.Cleaners.{Cleaner}
use Rattle.xet_clean.specs.FileEnds.{EndsFile}
use Rattle.xet_upload_files.specs.Uploads.{EndsUpload, FileTold}
use Rattle.xet_upload_laws.proofs.Uploads.{all-still, same-counts}

-- the files that wait and those that are finished
abbrev pub file_count : SessionTold → ℕ
file_count t = length t.finished + length t.waiting.files

same-count : (b n : SessionTold) → n.finished ≡ b.finished → n.waiting ≡ b.waiting → file_count n ≡ file_count b
same-count b n f w =
    let one = ap length f in
    let two = ap (λ (v : Waiting). length v.files) w in
    omega arith

calls-count : (now : ℕ) (b n : SessionTold) → Calls now b n → file_count n ≡ file_count b
calls-count now b n c =
    let s = all-still now c.0 b n c.1 in
    same-count b n s.finished s.waiting

-- data that is taken adds its files
module _ (b n : SessionTold) (w : Waiting) (now : ℕ) where
  joins-count : Joins b n w (Ok tt) → file_count n ≡ file_count b + length w.files
  joins-count j =
      let one = ap (λ (t : SessionTold). length t.finished) j.ok in
      let two = ap (λ (t : SessionTold). length t.waiting.files) j.ok in
      let both = length-append b.waiting.files (map (file_shifted (length b.waiting.chunks)) w.files) in
      let size = length-map w.files (file_shifted (length b.waiting.chunks)) in
      omega arith

  file-count : CutsFile b n w now (Ok tt) → file_count n ≡ file_count b + length w.files
  file-count c =
      let h = waiting_hash (with_waiting b w) in
      let one = ap (λ (t : SessionTold). length t.finished) c.same in
      let two = ap (λ (t : SessionTold). length t.waiting.files) c.same in
      let cut = ap length c.cut.finished in
      let both = length-append b.finished (map (record_of_file h) w.files) in
      let size = length-map w.files (record_of_file h) in
      omega arith

  waiting-count : CutsWaiting b n w now (Ok tt) → file_count n ≡ file_count b + length w.files
  waiting-count c =
      let h = waiting_hash b in
      let one = ap (λ (t : SessionTold). length t.finished) c.ok in
      let two = ap (λ (t : SessionTold). length t.waiting.files) c.ok in
      let cut = ap length c.cut.finished in
      let both = length-append b.finished (map (record_of_file h) b.waiting.files) in
      let size = length-map b.waiting.files (record_of_file h) in
      omega arith

  take-count : TakesFile b n w now (Ok tt) → file_count n ≡ file_count b + length w.files
  take-count t = go t.exits
    where
      go : Joins b n w (Ok tt) ⊎ CutsFile b n w now (Ok tt) ⊎ CutsWaiting b n w now (Ok tt)
          → file_count n ≡ file_count b + length w.files
      go (inl j) = joins-count j
      go (inr (inl c)) = file-count c
      go (inr (inr c)) = waiting-count c

-- the end of a file adds one
ends-count : (b n : SessionTold) (c : Cleaner) (now : ℕ) (before after : List TrackerStep)
    → EndsFile {A = Unit {0}} b n c now before after (Ok tt) → file_count n ≡ file_count b + 1
ends-count b n c now before after e =
    let k = e.ok.took in
    let calls = calls-count now b e.middle e.calls in
    let took = take-count e.middle k.later k.taken now k.takes in
    let one = ap length k.files in
    let same = same-counts {A = Unit {0}} e.middle n e.ended now e.told after (Ok tt) k in
    let last = same-count k.later n (ap (λ (t : SessionTold). t.finished) same)
    (ap (λ (t : SessionTold). t.waiting) same) in
    omega arith

pub upload-count : (now : ℕ) (b n : SessionTold) (f : FileTold) (bytes : List ℕ) → EndsUpload now b n f bytes (Ok tt)
    → file_count n ≡ file_count b + 1
upload-count now b n f bytes e =
    let calls = calls-count now b e.middle e.calls in
    let ends = ends-count e.middle n e.fed now e.told e.after e.ends in
    omega arith
