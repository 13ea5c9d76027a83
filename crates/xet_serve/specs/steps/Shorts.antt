-- What the fetch of a short range by one plan and one block says.
use Rattle.std.specs.Prelude.{ℕ, ◌≡◌, ◌++◌, List, [], ◌∷◌, None, Some, IfOk, IfSome, IsNone, IsSome, Ok, Option, Result}
use Rattle.std.specs.Prelude.{slice_get}
use Rattle.xet_base.specs.declared.cas_types.FileRange.{FileRange}
use Rattle.xet_base.specs.declared.error.OutOfMemory.{OutOfMemory}
use Rattle.xet_base.specs.declared.merklehash.MerkleHash.{MerkleHash}
use Rattle.xet_base.specs.Store.{IsValid, Store, file_of}
use Rattle.xet_outside.specs.Plan.{block_of}
use Rattle.xet_outside.specs.Told.{ClientTold, Holds, Rose}
use Rattle.xet_error.specs.declared.error.FileReconstructionError.{FileReconstructionError}
use Rattle.xet_error.specs.declared.error.FileReconstructionError.TheVariants as error
use Rattle.xet_offers.specs.BlockChecks.{block_data}
use Rattle.xet_offers.specs.declared.reconstruction_terms.xorb_block.XorbBlock.{XorbBlock}
use Rattle.xet_offers.specs.declared.reconstruction_terms.xorb_block.XorbBlockData.{XorbBlockData}
use Rattle.xet_blocks.specs.declared.reconstruction_terms.file_term.FileTerm.{FileTerm}
use Rattle.xet_blocks.specs.declared.reconstruction_terms.file_term.TermBlock.{TermBlock}
use Rattle.xet_blocks.specs.Extracts.{term_bytes_in}
use Rattle.xet_requests.specs.declared.fetched_block.Fetched.{Fetched as FetchedBlock}
use Rattle.xet_ties.specs.Setup.{ClientGoesOn}
use Rattle.xet_serve_lines.specs.Replies.{bytes_text}
use Rattle.xet_serve.specs.declared.fetch.Fetched.{Fetched}
use Rattle.xet_serve.specs.declared.fetch.Fetched.TheVariants as fetched
use Rattle.xet_serve.specs.Replies.{range_text}
use Rattle.xet_serve.specs.steps.Fetching.{GoesOn, Lent, OverStore, RangeDone}

-- how the fetch ended, or nothing where a run is to tell
abbrev pub Shortly : Type 0
Shortly = Result (Option Fetched) OutOfMemory

-- nothing was added where a run is to tell
abbrev pub IsKept : List ℕ → List ℕ → Shortly → Type 0
IsKept text now answer = answer ≡ Ok None → now ≡ text

-- ---- one connection

-- the bytes of a term in its block's data were added, or nothing
pub record AddedTerm (t : FileTerm) (d : XorbBlockData) (start : ℕ) (text now : List ℕ)
    (answer : Shortly) : Type 0 where
  pub kept : IsKept text now answer
  pub done : IfOk answer (λ o. IfSome o (λ f. (f ≡ fetched.Whole)
      × (now ≡ text ++ bytes_text start (term_bytes_in t d))))

-- so where the block was found, else nothing
abbrev pub FoundTerm : FileTerm → Option FetchedBlock → (start : ℕ) (text now : List ℕ) → Shortly → Type 0
FoundTerm t None start text now answer = (answer ≡ Ok None) × (now ≡ text)
FoundTerm t (Some x) start text now answer = AddedTerm t x.found start text now answer

-- what an error comes to before a run
abbrev pub UntoldAs : FileReconstructionError → Option Fetched → Type 0
UntoldAs error.ClientError o = o ≡ Some (fetched.Failed 2)
UntoldAs error.FileNotFound o = o ≡ Some fetched.Missing
UntoldAs _ o = o ≡ None

-- the bytes of a term in its block of a store
abbrev pub bytes_in_store : Store → XorbBlock → FileTerm → List ℕ
bytes_in_store s x t = term_bytes_in t (block_data x.chunk_ranges (block_of s x.xorb_hash x.chunk_ranges))

-- how a term was fetched by its block
abbrev pub TermDone : XorbBlock → FileTerm → (start : ℕ) (b n : ClientTold) (text now : List ℕ) → Fetched → Type 0
TermDone x t start b n text now fetched.Whole = (s : Store) → b.store ≡ Some s
    → Holds s x.xorb_hash x.chunk_ranges → now ≡ text ++ bytes_text start (bytes_in_store s x t)
TermDone x t start b n text now fetched.Missing = ⊥
TermDone x t start b n text now (fetched.Failed k) = (k ≡ 2) × Rose b.faults n.faults

pub record TermCall (x : XorbBlock) (t : FileTerm) (start : ℕ) (b n : ClientTold) (text now : List ℕ)
    (answer : Shortly) : Type 0 where
  pub goes_on : ClientGoesOn b n
  pub kept : IsKept text now answer
  pub done : IfOk answer (λ o. IfSome o (TermDone x t start b n text now))

-- how the only term of a plan was fetched
pub record OnlyTerm (p : TermBlock) (start : ℕ) (b n : ClientTold) (text now : List ℕ) (f : Fetched) : Type 0 where
  pub term : FileTerm
  pub only : p.terms ≡ term ∷ []
  pub block : XorbBlock
  pub of_plan : slice_get p.blocks term.xorb_block ≡ Some block
  pub done : TermDone block term start b n text now f

pub record PlannedCall (p : TermBlock) (start : ℕ) (b n : ClientTold) (text now : List ℕ)
    (answer : Shortly) : Type 0 where
  pub goes_on : ClientGoesOn b n
  pub kept : IsKept text now answer
  pub done : IfOk answer (λ o. IfSome o (OnlyTerm p start b n text now))

-- so of a plan, where there is one, else nothing was asked
abbrev pub MadeCall : Option TermBlock → (start : ℕ) (b n : ClientTold) (text now : List ℕ) → Shortly → Type 0
MadeCall None start b n text now answer = (answer ≡ Ok None) × (now ≡ text) × (n ≡ b)
MadeCall (Some p) start b n text now answer = PlannedCall p start b n text now answer

-- how a range was fetched over a store
abbrev pub OneDone : (s : Store) (file : MerkleHash) (r : FileRange) (b n : ClientTold) (text now : List ℕ)
    → Fetched → Type 0
OneDone s file r b n text now fetched.Whole = IsSome (file_of s file) × (now ≡ text ++ range_text s file r)
OneDone s file r b n text now fetched.Missing = IsNone (file_of s file)
OneDone s file r b n text now (fetched.Failed k) = (k ≡ 2) × Rose b.faults n.faults

pub record OneCall (file : MerkleHash) (r : FileRange) (b n : ClientTold) (text now : List ℕ)
    (answer : Shortly) : Type 0 where
  pub goes_on : ClientGoesOn b n
  pub kept : IsKept text now answer
  pub done : (s : Store) → IsValid s → b.store ≡ Some s
      → IfOk answer (λ o. IfSome o (OneDone s file r b n text now))

-- ---- all connections

pub record FirstCall (tries : ℕ) (file : MerkleHash) (r : FileRange) (b n : Lent) (text now : List ℕ)
    (answer : Shortly) : Type 0 where
  pub goes_on : GoesOn b n
  pub kept : IsKept text now answer
  pub done : OverStore b (λ s. IfOk answer (λ o. IfSome o (RangeDone s tries file r b n text now)))
