-- What one session says.
use Rattle.std.specs.Prelude.{ℕ, zero, suc, ◌≡◌, ◌⊎◌, ◌+◌, ◌*◌, ◌^◌, ◌-◌, ◌<◌, ◌≤◌, ◌==◌, false, cond, List, [], ◌∷◌}
use Rattle.std.specs.Prelude.{◌++◌, All, Some, Option, IsTrue, IfOk, IfErr, IfSome, OnOk, OnErr, Result, Err, codes}
use Rattle.std.specs.Prelude.{count_by, length, option_map}
use Rattle.std.specs.List.{list_any}
use Rattle.xet_base.specs.Store.{Store}
use Rattle.xet_outside.specs.Told.{CacheTold, ClientTold, Rose, SinkTold, SourceTold, Took, TookPrefix}
use Rattle.xet_error.specs.declared.error.Setting.{Setting}
use Rattle.xet_terms.specs.declared.reconstruction_config.ReconstructionConfig.{ReconstructionConfig}
use Rattle.xet_ties.specs.Causes.{NoneAtEnd, refused_setting, total_expiries}
use Rattle.xet_ties.specs.Setup.{CacheTells, EachGoesOn, IsOver, Setup, setup_of}
use Rattle.xet_serve_lines.specs.Lines.{is_too_long, lines_of, session_limit}
use Rattle.xet_serve_lines.specs.Reading.{TookBytes}
use Rattle.xet_serve_lines.specs.Replies.{number_line, word_line}
use Rattle.xet_serve.specs.declared.serve_error.ServeError.{ServeError}
use Rattle.xet_serve.specs.declared.serve_error.ServeError.TheVariants as serve_error
use Rattle.xet_serve.specs.Replies.{is_run, reply, served_lines}

-- what a session is lent, at one moment
pub record SessionTold : Type 0 where
  pub source : SourceTold
  pub sink : SinkTold
  pub clients : List ClientTold
  pub cache : CacheTold

-- ---- answers in place of replies

-- the number of an answer: 0 where it is the reply, else that of the connections' error that stands in its place, a
-- fault or expired URLs
abbrev pub MayAnswer : List ℕ → ℕ → Type 0
MayAnswer line k = (k ≡ 0) ⊎ (IsTrue (is_run line) × ((k ≡ 2) ⊎ (k ≡ 4)))

-- the text of an answer
abbrev pub answer_text : Store → List ℕ → ℕ → List ℕ
answer_text s line zero = reply s line
answer_text s line (suc k) = number_line (codes "FAIL") (suc k)

-- the answers to lines, one after another
abbrev pub Answers : Store → List (List ℕ) → List ℕ → List ℕ → Type 0
Answers s [] [] text = text ≡ []
Answers s [] (k ∷ ks) text = ⊥
Answers s (l ∷ ls) [] text = ⊥
Answers s (l ∷ ls) (k ∷ ks) text =
    MayAnswer l k × (rest : List ℕ) × (text ≡ answer_text s l k ++ rest) × Answers s ls ks rest

-- ---- how many answers may be such

-- the faults of all connections
abbrev pub total_faults : List ClientTold → ℕ
total_faults [] = 0
total_faults (c ∷ cs) = c.faults + total_faults cs

-- no count of faults stands at its last value
abbrev pub NoFaultsAtEnd : List ClientTold → Type 0
NoFaultsAtEnd [] = Unit {0}
NoFaultsAtEnd (c ∷ cs) = (c.faults < 2 ^ 64 - 1) × NoFaultsAtEnd cs

-- no more than the connections' counts grew by, unless one stands at its last value: of faults one for each, and of
-- expired answers as many as a block has tries
pub record FewFail (tries : ℕ) (ks : List ℕ) (before after : List ClientTold) : Type 0 where
  pub faults : NoFaultsAtEnd after
      → total_faults before + count_by (λ k. k == 2) ks ≤ total_faults after
  pub expired : NoneAtEnd after
      → total_expiries before + count_by (λ k. k == 4) ks * tries ≤ total_expiries after

-- ---- what was read

-- these bytes have a line that ends the session, with its line end
pub record HasQuit (bytes : List ℕ) : Type 0 where
  pub front : List ℕ
  pub more : List ℕ
  pub is : bytes ≡ front ++ (codes "QUIT" ++ 10 ∷ more)
  pub begins : (front ≡ []) ⊎ ((line : List ℕ) × (front ≡ line ++ 10 ∷ []))

-- nothing is left, where that is told, or it was read past the line end of a line that ends the session
abbrev pub IsReadOut : SourceTold → List ℕ → Type 0
IsReadOut after bytes = IfSome after.left (λ rest. rest ≡ []) ⊎ HasQuit bytes

-- ---- the answer, over all that was left at first

-- the lines that are answered
abbrev pub lines_to_serve : List ℕ → List (List ℕ)
lines_to_serve all = served_lines (lines_of all)

-- the answers to all lines up to and with the first that ends the session were written, so many; none is too long
pub record Served (s : Store) (tries : ℕ) (before after : SessionTold) (all : List ℕ) (count : ℕ) : Type 0 where
  pub ks : List ℕ
  pub text : List ℕ
  pub answers : Answers s (lines_to_serve all) ks text
  pub took : Took before.sink.took after.sink.took text
  pub counted : count ≡ length ks
  pub short : All (λ l. is_too_long l ≡ false) (lines_to_serve all)
  pub few : FewFail tries ks before.clients after.clients

-- where the next line is too long
abbrev pub over_line : List (List ℕ) → List ℕ
over_line [] = []
over_line (l ∷ ls) = cond (is_too_long l) (word_line (codes "OVER")) []

-- a prefix of such answers to some first lines, and of `OVER` behind them where a line is too long
pub record ServedPart (s : Store) (tries : ℕ) (before after : SessionTold) (all : List ℕ) : Type 0 where
  pub lines : List (List ℕ)
  pub more : List (List ℕ)
  pub first : lines_to_serve all ≡ lines ++ more
  pub ks : List ℕ
  pub text : List ℕ
  pub answers : Answers s lines ks text
  pub short : All (λ l. is_too_long l ≡ false) lines
  pub took : TookPrefix before.sink.took after.sink.took (text ++ over_line more)
  pub few : FewFail tries ks before.clients after.clients

-- the answers to the lines before one that is too long, and `OVER`, were written whole
pub record ServedOver (s : Store) (tries : ℕ) (before after : SessionTold) (all : List ℕ) : Type 0 where
  pub lines : List (List ℕ)
  pub line : List ℕ
  pub more : List (List ℕ)
  pub first : lines_to_serve all ≡ lines ++ line ∷ more
  pub long : IsTrue (is_too_long line)
  pub ks : List ℕ
  pub text : List ℕ
  pub answers : Answers s lines ks text
  pub short : All (λ l. is_too_long l ≡ false) lines
  pub took : Took before.sink.took after.sink.took (text ++ word_line (codes "OVER"))
  pub few : FewFail tries ks before.clients after.clients

-- a line that is to be answered has 1,025 bytes or more
abbrev pub HasLongLine : SessionTold → Type 0
HasLongLine before =
    (all : List ℕ) → before.source.left ≡ Some all → IsTrue (list_any is_too_long (lines_to_serve all))

-- the cause of each error, by what was read; want of memory is free
abbrev pub ServeCause : Option Setting → SessionTold → SessionTold → List ℕ → ServeError → Type 0
ServeCause setting before after bytes serve_error.OutOfMemory = Unit {0}
ServeCause setting before after bytes serve_error.ReadFault = Rose before.source.faults after.source.faults
ServeCause setting before after bytes serve_error.WriteFault = Rose before.sink.faults after.sink.faults
ServeCause setting before after bytes serve_error.LineTooLong = HasLongLine before
ServeCause setting before after bytes serve_error.InputLimit = session_limit < length bytes
ServeCause setting before after bytes (serve_error.ConfigurationError e) = setting ≡ Some e

-- the settings of a session's runs, whatever their files and ranges are
abbrev pub any_setup : ReconstructionConfig → Setup
any_setup config = setup_of (record { 0 = [] }) (record { start = 0; end = 0 }) config

-- one session, with the settings of its runs
pub record SessionCall (setup : Setup) (before after : SessionTold) (answer : Result ℕ ServeError) : Type 0 where
  -- a failing setting is told before all else
  pub settings : (e : Setting) → refused_setting setup before.clients ≡ Some e
      → (answer ≡ Err (serve_error.ConfigurationError e)) × (after ≡ before)
  -- what was read, within the limit but where that is the error; on Ok all, or past the line that ends the session
  pub bytes : List ℕ
  pub read : TookBytes before.source after.source bytes
  pub within : (length bytes ≤ session_limit) ⊎ (answer ≡ Err serve_error.InputLimit)
  pub read_out : OnOk answer (IsReadOut after.source bytes)
  -- over connections and a cache that tell one valid store, on Ok the answers to the lines were written
  pub served : (s : Store) → IsOver s before.clients → CacheTells s before.cache
      → (all : List ℕ) → before.source.left ≡ Some all → IfOk answer (Served s setup.tries before after all)
  -- and with an error a prefix of these; `LineTooLong` comes behind its line
  pub part : (s : Store) → IsOver s before.clients → CacheTells s before.cache
      → (all : List ℕ) → before.source.left ≡ Some all → OnErr answer (ServedPart s setup.tries before after all)
  pub over : (s : Store) → IsOver s before.clients → CacheTells s before.cache
      → (all : List ℕ) → before.source.left ≡ Some all
      → answer ≡ Err serve_error.LineTooLong → ServedOver s setup.tries before after all
  pub cause : IfErr answer (ServeCause (refused_setting setup before.clients) before after bytes)
  -- no call of source or sink failed, unless the answer says so
  pub source_unfailed : (after.source.faults ≡ before.source.faults) ⊎ (answer ≡ Err serve_error.ReadFault)
  pub sink_unfailed : (after.sink.faults ≡ before.sink.faults) ⊎ (answer ≡ Err serve_error.WriteFault)
  -- all that was written is flushed on Ok, and behind a line that is too long
  pub flushed : OnOk answer (after.sink.flushed ≡ option_map length after.sink.took)
  pub over_flushed : answer ≡ Err serve_error.LineTooLong → after.sink.flushed ≡ option_map length after.sink.took
  pub goes_on : EachGoesOn before.clients after.clients
  pub cache_later : (s : Store) → IsOver s before.clients → CacheTells s before.cache → CacheTells s after.cache
