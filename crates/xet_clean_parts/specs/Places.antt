-- Where the chunks of a file end, by what its cutter tells.
use Rattle.std.specs.Prelude.{ℕ, ◌≡◌, ◌<◌, ◌≤◌, ◌⊎◌, Bool, true, false, List, [], ◌∷◌, ◌++◌, length, All, Option, None}
use Rattle.std.specs.Prelude.{Some, IfSome}
use Rattle.std.specs.List.{concat}
use Rattle.xet_upload.specs.Cuts.{clamped, fixed_cut}
use Rattle.xet_waiting.specs.Limits.{most_chunk_bytes}

-- what a cutter tells of its answer to some pending bytes
abbrev pub Telling : Type 0
Telling = List ℕ → Bool → Option (Option ℕ)

-- where the cutter tells its answer, this is what is cut of the pending bytes
abbrev pub IsNextCut : Telling → Bool → List ℕ → Option ℕ → Type 0
IsNextCut tell last pending cut = IfSome (tell pending last) (λ a. clamped a (length pending) last ≡ cut)

-- nothing more is cut: no bytes wait, or the cutter waits for more
abbrev pub IsCutUp : Telling → Bool → List ℕ → Type 0
IsCutUp tell last pending = (pending ≡ []) ⊎ IsNextCut tell last pending None

-- these chunks, none of them empty, come off the front, each where the cutter says so of what is left
abbrev pub CutAt : Telling → Bool → List ℕ → List (List ℕ) → List ℕ → Type 0
CutAt tell last pending [] rest = rest ≡ pending
CutAt tell last pending (c ∷ cs) rest = (0 < length c) × IsNextCut tell last pending (Some (length c))
    × ((more : List ℕ) × (pending ≡ c ++ more) × CutAt tell last more cs rest)

-- so it is, up to where nothing more is cut
abbrev pub CutBy : Telling → Bool → List ℕ → List (List ℕ) → List ℕ → Type 0
CutBy tell last pending cut rest = CutAt tell last pending cut rest × IsCutUp tell last rest

-- bytes came in pieces, and after each of them chunks were cut
abbrev pub CutPieces : Telling → List (List ℕ) → List ℕ → List (List ℕ) → List ℕ → Type 0
CutPieces tell [] pending cut rest = (cut ≡ []) × (rest ≡ pending)
CutPieces tell (p ∷ ps) pending cut rest = (one : List (List ℕ)) × (more : List (List ℕ)) × (mid : List ℕ)
    × (cut ≡ one ++ more)
    × CutBy tell false (pending ++ p) one mid × CutPieces tell ps mid more rest

-- the bytes of a file came in some pieces, and at its end what was left was cut
pub record CutFile (tell : Telling) (bytes : List ℕ) (cut : List (List ℕ)) : Type 0 where
  pub pieces : List (List ℕ)
  pub bytes_are : bytes ≡ concat pieces
  pub front : List (List ℕ)
  pub rest : List ℕ
  pub fed : CutPieces tell pieces [] front rest
  pub last : List (List ℕ)
  pub ended : CutAt tell true rest last []
  pub cut_are : cut ≡ front ++ last

-- ---- a cutter of one size

abbrev pub fixed_telling : ℕ → Telling
fixed_telling size pending last = Some (fixed_cut size (length pending))

-- chunks of this size, and then a rest that is shorter
pub record AreWhole (size : ℕ) (cut : List (List ℕ)) (rest : List ℕ) : Type 0 where
  pub whole : All (λ c. length c ≡ size) cut
  pub short : length rest < size

-- the bytes as chunks of one size; the last may be shorter
pub record IsInChunks (size : ℕ) (bytes : List ℕ) (cut : List (List ℕ)) : Type 0 where
  pub front : List (List ℕ)
  pub rest : List ℕ
  pub are : AreWhole size front rest
  pub bytes_are : bytes ≡ concat front ++ rest
  pub cut_are : ((rest ≡ []) × (cut ≡ front)) ⊎ ((0 < length rest) × (cut ≡ front ++ rest ∷ []))

-- a cutter of one size cuts a file into chunks of that size, in whatever pieces its bytes come
abbrev pub FixedCutsFile : Type 0
FixedCutsFile = (size : ℕ) (bytes : List ℕ) (cut : List (List ℕ)) → 0 < size → size ≤ most_chunk_bytes
    → CutFile (fixed_telling size) bytes cut → IsInChunks size bytes cut
