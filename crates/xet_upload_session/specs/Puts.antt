-- What calls put of the xorbs that they made.
use Rattle.std.specs.Prelude.{ℕ, ◌≡◌, ◌⊎◌, ◌<◌, ◌≤◌, List, [], ◌∷◌, ◌++◌, map, All, Contains, Result, OnOk}
use Rattle.xet_base.specs.declared.mdb_shard.Xorb.{Xorb}
use Rattle.xet_uploader.specs.declared.uploader.Put.TheVariants as put
use Rattle.xet_upload.specs.Waitings.{Waiting, xorb_of_chunks}
use Rattle.xet_upload.specs.declared.data_error.DataError.{DataError}
use Rattle.xet_upload_parts.specs.Thresholds.{FitTogether, waiting_bytes}
use Rattle.xet_upload_session.specs.Sessions.{SessionTold, log_of}

-- the log grew by xorbs alone, each one of these; each of these that was not put is told as repeated, and on Ok none
-- was left out
pub record Puts {A : Type 0} (b n : SessionTold) (made : List Xorb) (answer : Result A DataError) : Type 0 where
  pub xorbs : List Xorb
  pub grown : log_of n ≡ log_of b ++ map put.Xorb xorbs
  pub again : List Xorb
  pub repeated : n.repeated ≡ b.repeated ++ again
  pub put_made : All (Contains made) xorbs
  pub again_made : All (Contains made) again
  pub all : OnOk answer (All (λ x. Contains xorbs x ⊎ Contains again x) made)

-- what is made of chunks that are cut: their xorb, where there is a chunk
abbrev pub made_of : List (List ℕ) → List Xorb
made_of [] = []
made_of (c ∷ cs) = xorb_of_chunks (c ∷ cs) ∷ []

-- what the end of a file makes: nothing where its data joins what waits, else what is made of the larger side
pub record MadeAtEnd (b : SessionTold) (w : Waiting) (made : List Xorb) : Type 0 where
  pub joins : FitTogether b.thresholds b.waiting w → made ≡ []
  pub cuts_file : (FitTogether b.thresholds b.waiting w → ⊥) → waiting_bytes b.waiting ≤ waiting_bytes w
      → made ≡ made_of w.chunks
  pub cuts_waiting : (FitTogether b.thresholds b.waiting w → ⊥) → waiting_bytes w < waiting_bytes b.waiting
      → made ≡ made_of b.waiting.chunks
