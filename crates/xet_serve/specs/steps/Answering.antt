-- What the answer to one line says.
use Rattle.std.specs.Prelude.{ℕ, zero, suc, ◌≡◌, ◌⊎◌, ◌++◌, List, ◌∷◌, [], All, IfOk, IsTrue, OnOk, Option, Result}
use Rattle.std.specs.Prelude.{codes}
use Rattle.std.specs.List.{flat_map}
use Rattle.xet_base.specs.declared.error.OutOfMemory.{OutOfMemory}
use Rattle.xet_base.specs.Store.{Store}
use Rattle.xet_serve_lines.specs.Replies.{number_line}
use Rattle.xet_serve_lines.specs.Requests.{Asked}
use Rattle.xet_serve.specs.declared.fetch.Fetched.{Fetched}
use Rattle.xet_serve.specs.declared.fetch.Fetched.TheVariants as fetched
use Rattle.xet_serve.specs.Replies.{asks_missing, is_run_request, range_text, request_reply}
use Rattle.xet_serve.specs.Sessions.{FewFail, MayAnswer, answer_text}
use Rattle.xet_serve.specs.steps.Fetching.{GoesOn, IsConnectionError, IsGiven, Lent, OverStore}

-- how the ranges of a request were fetched over a store, with the reply before them and after them
abbrev pub RangesDone : (s : Store) (tries : ℕ) (q : Asked) (b n : Lent) (text now : List ℕ) → Fetched → Type 0
RangesDone s tries q b n text now fetched.Whole =
    All (IsGiven s q.file) q.ranges × (now ≡ text ++ flat_map (range_text s q.file) q.ranges)
RangesDone s tries q b n text now fetched.Missing = IsTrue (asks_missing s q)
RangesDone s tries q b n text now (fetched.Failed k) =
    IsConnectionError k × FewFail tries (k ∷ []) b.clients n.clients

-- one fetch of all ranges
pub record RangesCall (tries : ℕ) (q : Asked) (b n : Lent) (text now : List ℕ)
    (answer : Result Fetched OutOfMemory) : Type 0 where
  pub goes_on : GoesOn b n
  pub done : OverStore b (λ s. IfOk answer (RangesDone s tries q b n text now))

-- the text of an answer to a request, or to a line that spells none
abbrev pub request_answer : Store → Option Asked → ℕ → List ℕ
request_answer s o zero = request_reply s o
request_answer s o (suc k) = number_line (codes "FAIL") (suc k)

-- it is the reply, or a connections' error in its place
pub record RequestReplied (s : Store) (tries : ℕ) (o : Option Asked) (b n : Lent) (text : List ℕ) : Type 0 where
  pub k : ℕ
  pub may : (k ≡ 0) ⊎ (IsTrue (is_run_request o) × IsConnectionError k)
  pub is : text ≡ request_answer s o k
  pub few : FewFail tries (k ∷ []) b.clients n.clients

-- the answer to one request
pub record RequestCall (tries : ℕ) (o : Option Asked) (b n : Lent) (text : List ℕ)
    (answer : Result (Unit {0}) OutOfMemory) : Type 0 where
  pub goes_on : GoesOn b n
  pub done : OverStore b (λ s. OnOk answer (RequestReplied s tries o b n text))

-- so of a line
pub record LineReplied (s : Store) (tries : ℕ) (line : List ℕ) (b n : Lent) (text : List ℕ) : Type 0 where
  pub k : ℕ
  pub may : MayAnswer line k
  pub is : text ≡ answer_text s line k
  pub few : FewFail tries (k ∷ []) b.clients n.clients

-- the answer to one line
pub record LineCall (tries : ℕ) (line : List ℕ) (b n : Lent) (text : List ℕ)
    (answer : Result (Unit {0}) OutOfMemory) : Type 0 where
  pub goes_on : GoesOn b n
  pub done : OverStore b (λ s. OnOk answer (LineReplied s tries line b n text))
