-- What the tracker keeps of a list of accepted calls.
use Rattle.std.specs.Prelude.{ℕ, ◌≡◌, ◌<◌, ◌≤◌, false, cond, nat_eq, List, map, find, length, Option, Some, None}
use Rattle.std.specs.Prelude.{is_some, All, AllPairs}
use Rattle.std.specs.List.{sum_by, list_any}
use Rattle.xet_base.specs.declared.merklehash.MerkleHash.{MerkleHash}
use Rattle.xet_base.specs.Hashes.{hash_eq}
use Rattle.xet_progress_state.specs.declared.step.TrackerStep.{TrackerStep}
use Rattle.xet_progress_state.specs.declared.file.TrackedFile.{TrackedFile}
use Rattle.xet_progress_state.specs.declared.xorb.TrackedXorb.{TrackedXorb}
use Rattle.xet_progress_state.specs.declared.part.Part.{Part}
use Rattle.xet_progress_state.specs.declared.marks.Marks.{Marks}
use Rattle.xet_progress_state.specs.steps.Open.{Marked, NamesStand}
use Rattle.xet_progress_state.specs.Counts.{sizes, files, grown, total_of, size_of, size_or_zero, registered, part}
use Rattle.xet_progress_state.specs.Counts.{counted}
use Rattle.xet_progress_state.specs.Counts.{completed_of, is_completed, progress, progresses, all_total, all_completed}
use Rattle.xet_progress_state.specs.Counts.{all_sizes}

-- a file as the tracker keeps it
abbrev pub tracked : List TrackerStep → ℕ × Option ℕ → TrackedFile
tracked cs f = record {
  fixed = is_some f.1;
  total = total_of cs f;
  registered = registered cs f.0;
  completed = completed_of cs f.0;
}

abbrev pub waiting_in : ℕ → Part → ℕ
waiting_in f p = cond (nat_eq p.file f) p.waiting 0

abbrev pub credited_in : ℕ → Part → ℕ
credited_in f p = cond (nat_eq p.file f) p.credited 0

-- a xorb, and the parts of files that wait for it
pub record XorbStands (cs : List TrackerStep) (h : MerkleHash) (x : TrackedXorb) : Type 0 where
  pub size_is : x.size ≡ size_of cs h
  pub completed_is : x.completed ≡ is_completed cs h
  pub sent_is : x.completed ≡ false → x.sent ≡ progress cs h
  pub waits : (f : ℕ) → sum_by (waiting_in f) x.parts ≡ part cs f h
  pub credits : (f : ℕ) → sum_by (credited_in f) x.parts ≡ counted cs f h
  pub known : All (λ p. p.file < length (sizes cs)) x.parts
  pub differ : AllPairs (λ p q. nat_eq p.file q.file ≡ false) x.parts

-- a xorb that the tracker has not met
pub record XorbAbsent (cs : List TrackerStep) (h : MerkleHash) : Type 0 where
  pub no_size : size_of cs h ≡ None
  pub no_part : (f : ℕ) → part cs f h ≡ 0

abbrev pub XorbIs : List TrackerStep → MerkleHash → Option TrackedXorb → Type 0
XorbIs cs h None = XorbAbsent cs h
XorbIs cs h (Some x) = XorbStands cs h x

-- what holds of each list of accepted calls
pub record IsPlain (cs : List TrackerStep) : Type 0 where
  pub no_growth : (f : ℕ) → length (sizes cs) ≤ f → grown cs f ≡ 0
  pub no_dependency : (f : ℕ) → length (sizes cs) ≤ f → registered cs f ≡ 0
  pub no_completion : (h : MerkleHash) → size_of cs h ≡ None → is_completed cs h ≡ false
  pub fits : (h : MerkleHash) → is_completed cs h ≡ false → progress cs h ≤ size_or_zero cs h
  pub no_progress : (h : MerkleHash) → size_of cs h ≡ None → list_any (progresses h) cs ≡ false

pub record IsKept (cs : List TrackerStep) (fs : List TrackedFile) (xs : List TrackedXorb) (t c s : ℕ) : Type 0 where
  pub files_are : fs ≡ map (tracked cs) (files cs)
  pub total_is : t ≡ all_total cs
  pub completed_is : c ≡ all_completed cs
  pub sizes_are : s ≡ all_sizes cs
  pub xorbs_are : (h : MerkleHash) → XorbIs cs h (find (λ x. hash_eq x.hash h) xs)
  pub within : All (λ f. f.registered ≤ f.total) fs
  pub plain : IsPlain cs

-- the state: what it keeps of the calls, the names of xorbs that may be open, and which files may be
pub record IsState (cs : List TrackerStep) (fs : List TrackedFile) (xs : List TrackedXorb) (ns : List MerkleHash)
    (m : Marks) (t c s : ℕ) : Type 0 where
  pub kept : IsKept cs fs xs t c s
  pub names : NamesStand cs ns
  pub marked : Marked fs m
