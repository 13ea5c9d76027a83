-- What a tracker answers to a list of calls, one after another.
use Rattle.std.specs.Prelude.{ℕ, ◌≡◌, IfOk, IfErr, ◌+◌, ◌-◌, ◌^◌, min, Bool, true, false, cond, not, nat_eq, List, []}
use Rattle.std.specs.Prelude.{◌∷◌, ◌++◌, map, filter, length, Option, Some, None, is_some, Result, Ok, Err}
use Rattle.std.specs.List.{flat_map}
use Rattle.std.specs.Ordering.{nat_cmp, is_lt}
use Rattle.std.specs.Cmp.Lexicographic.{slice_cmp}
use Rattle.xet_base.specs.declared.merklehash.MerkleHash.{MerkleHash}
use Rattle.xet_base.specs.declared.invalid.Invalid.{Invalid}
use Rattle.xet_base.specs.Lists.{first_some}
use Rattle.xet_base.specs.declared.error.OutOfMemory.{OutOfMemory as NoMemory}
use Rattle.xet_progress_state.specs.declared.error.ProgressError.{ProgressError}
use Rattle.xet_progress_state.specs.declared.error.ProgressError.TheVariants.{OutOfMemory, InvalidOperation}
use Rattle.xet_progress_state.specs.declared.error.Incomplete.{Incomplete}
use Rattle.xet_progress_state.specs.declared.error.Incomplete.TheVariants.{File, Xorb}
use Rattle.xet_progress_state.specs.declared.step.TrackerStep.{TrackerStep}
use Rattle.xet_progress_state.specs.declared.step.TrackerStep.TheVariants.{RegisterNewFile, RegisterNewXorb, Status}
use Rattle.xet_progress_state.specs.declared.step.TrackerStep.TheVariants.{IsComplete, AssertComplete}
use Rattle.xet_progress_state.specs.declared.step.TrackerReply.{TrackerReply}
use Rattle.xet_progress_state.specs.declared.step.TrackerReply.TheVariants.{Done, FileId, Flag, Sums, Unfinished}
use Rattle.xet_progress_state.specs.declared.step.TrackerReply.TheVariants.{Refused}
use Rattle.xet_progress_state.specs.declared.step.TrackerCall.{TrackerCall}
use Rattle.xet_progress_state.specs.Counts.{sizes, named, files, total_of, completed_of, size_of, is_completed}
use Rattle.xet_progress_state.specs.Counts.{all_completed}
use Rattle.xet_progress_state.specs.Counts.{all_total}
use Rattle.xet_progress_state.specs.Accepted.{refusal_of, or_else}

-- the first file that is not complete
abbrev pub open_file : List TrackerStep → ℕ × Option ℕ → Option Incomplete
open_file cs f = cond (nat_eq (completed_of cs f.0) (total_of cs f)) None
    (Some (File f.0 (completed_of cs f.0) (total_of cs f)))

-- a hash comes before another
abbrev pub hash_lt : MerkleHash → MerkleHash → Bool
hash_lt a b = is_lt (slice_cmp nat_cmp a.0 b.0)

-- the lesser of a hash and another, where there is one
abbrev pub lesser : MerkleHash → Option MerkleHash → Option MerkleHash
lesser h None = Some h
lesser h (Some g) = Some (cond (hash_lt g h) g h)

-- the least of some hashes
abbrev pub least : List MerkleHash → Option MerkleHash
least [] = None
least (h ∷ hs) = lesser h (least hs)

-- a xorb that is not completed
abbrev pub open_xorb : Option MerkleHash → Option Incomplete
open_xorb None = None
open_xorb (Some h) = Some (Xorb h)

-- what is not complete: the first file, then the first xorb by hash
abbrev pub incomplete_of : List TrackerStep → Option Incomplete
incomplete_of cs = or_else (first_some (map (open_file cs) (files cs)))
    (open_xorb (least (filter (λ h. not (is_completed cs h)) (flat_map named cs))))

-- the answer of a call that asks for it
abbrev pub complete_or : Option Incomplete → Result (Unit {0}) Incomplete
complete_or None = Ok tt
complete_or (Some i) = Err i

-- the reply to a call that asks for it
abbrev pub finished : Option Incomplete → TrackerReply
finished None = Done
finished (Some i) = Unfinished i

-- the reply to an accepted call
abbrev pub accepted_reply : List TrackerStep → TrackerStep → TrackerReply
accepted_reply cs (RegisterNewFile n) = FileId (length (sizes cs))
accepted_reply cs (RegisterNewXorb h s) = Flag (not (is_some (size_of cs h)))
accepted_reply cs Status = Sums (all_completed cs) (all_total cs)
accepted_reply cs IsComplete = Flag (nat_eq (all_completed cs) (all_total cs))
accepted_reply cs AssertComplete = finished (incomplete_of cs)
accepted_reply cs _ = Done

-- a reply, or the refusal
abbrev pub reply_by : TrackerReply → Option Invalid → TrackerReply
reply_by reply None = reply
reply_by reply (Some why) = Refused why

-- the reply to a call over the accepted calls before it
abbrev pub reply_of : List TrackerStep → TrackerStep → TrackerReply
reply_of cs c = reply_by (accepted_reply cs c) (refusal_of cs c)

-- a call that asks changes nothing
abbrev pub asks : TrackerStep → Bool
asks Status = true
asks IsComplete = true
asks AssertComplete = true
asks _ = false

-- the accepted calls after one more call
abbrev pub after : List TrackerStep → TrackerStep → List TrackerStep
after cs c = cond (is_some (refusal_of cs c)) cs (cond (asks c) cs (cs ++ c ∷ []))

-- and after a list of calls
abbrev pub after_all : List TrackerStep → List TrackerStep → List TrackerStep
after_all cs [] = cs
after_all cs (c ∷ rest) = after_all (after cs c) rest

-- the replies to a list of calls
abbrev pub replies_of : List TrackerStep → List TrackerStep → List TrackerReply
replies_of cs [] = []
replies_of cs (c ∷ rest) = reply_of cs c ∷ replies_of (after cs c) rest

-- the calls of a history
abbrev pub steps_of : List TrackerCall → List TrackerStep
steps_of h = map (λ c. c.step) h

-- the reply that stands for an answer, or want of memory
abbrev pub said : {A : Type 0} → (A → TrackerReply) → Result A ProgressError → Result TrackerReply NoMemory
said to (Ok a) = Ok (to a)
said to (Err (InvalidOperation why)) = Ok (Refused why)
said to (Err OutOfMemory) = Err (record {})

-- the reply to a call that asks what is missing
abbrev pub said_complete : Result (Unit {0}) Incomplete → TrackerReply
said_complete (Ok _) = Done
said_complete (Err i) = Unfinished i

-- one call over the accepted calls before and after it, and its reply: none for want of memory, which changes nothing
pub record StepOf (before now : List TrackerStep) (c : TrackerStep)
    (answer : Result TrackerReply NoMemory) : Type 0 where
  pub made : IfOk answer (λ r. (r ≡ reply_of before c) × (now ≡ after before c))
  pub memory : IfErr answer (λ _. now ≡ before)

-- a call has the reply that a new tracker gives it after some calls, of which it accepted some
pub record Answered (c : TrackerStep) (answer : Result TrackerReply NoMemory) : Type 0 where
  pub calls : List TrackerStep
  pub reply : IfOk answer (λ r. r ≡ reply_of (after_all [] calls) c)

-- the replies that a call may have: of its own kind, or a refusal
abbrev pub gives_id : TrackerReply → Bool
gives_id (FileId n) = true
gives_id (Refused why) = true
gives_id _ = false

-- true, false or a refusal
abbrev pub gives_flag : TrackerReply → Bool
gives_flag (Flag b) = true
gives_flag (Refused why) = true
gives_flag _ = false

-- true or false
abbrev pub gives_plain : TrackerReply → Bool
gives_plain (Flag b) = true
gives_plain _ = false

-- done or a refusal
abbrev pub gives_done : TrackerReply → Bool
gives_done Done = true
gives_done (Refused why) = true
gives_done _ = false

-- the two sums
abbrev pub gives_sums : TrackerReply → Bool
gives_sums (Sums c t) = true
gives_sums _ = false

-- done, or what is open
abbrev pub gives_whole : TrackerReply → Bool
gives_whole Done = true
gives_whole (Unfinished i) = true
gives_whole _ = false

-- the replies that a call may have
abbrev pub gives : TrackerStep → TrackerReply → Bool
gives (RegisterNewFile n) = gives_id
gives (RegisterNewXorb h s) = gives_flag
gives Status = gives_sums
gives IsComplete = gives_plain
gives AssertComplete = gives_whole
gives _ = gives_done

-- a call counts where it has a reply
pub record Counted (before now : ℕ) (answer : Result TrackerReply NoMemory) : Type 0 where
  pub made : IfOk answer (λ _. now ≡ min (before + 1) (2 ^ 64 - 1))
  pub memory : IfErr answer (λ _. now ≡ before)

-- and is kept
pub record KeptCall (before now : List TrackerCall) (c : TrackerStep)
    (answer : Result TrackerReply NoMemory) : Type 0 where
  pub made : IfOk answer (λ r. now ≡ before ++ record { step = c; reply = r } ∷ [])
  pub memory : IfErr answer (λ _. now ≡ before)

-- an answer with its value changed
abbrev pub map_ok : {A B E : Type 0} → (A → B) → Result A E → Result B E
map_ok f (Ok a) = Ok (f a)
map_ok f (Err e) = Err e
