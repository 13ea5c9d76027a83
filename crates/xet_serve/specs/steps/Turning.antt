-- What one turn of a session does.
use Rattle.std.specs.Prelude.{ℕ, ◌≡◌, ◌⊎◌, ◌+◌, ◌<◌, ◌≤◌, ◌++◌, List, [], ◌∷◌, All, Err, IfErr, IfSome, OnErr, OnOk}
use Rattle.std.specs.Prelude.{Ok, Result, codes, false, true, length, option_map}
use Rattle.std.specs.List.{flat_map}
use Rattle.xet_base.specs.Store.{Store}
use Rattle.xet_outside.specs.Told.{Rose, SinkTold, SourceTold, Took, TookPrefix}
use Rattle.xet_serve_lines.specs.Lines.{HasNoEnd, is_quit, is_too_long, session_limit}
use Rattle.xet_serve_lines.specs.Reading.{BeginsLong, Held, TookBytes, TookLine}
use Rattle.xet_serve_lines.specs.Replies.{word_line}
use Rattle.xet_serve.specs.declared.serve_error.ServeError.{ServeError}
use Rattle.xet_serve.specs.declared.serve_error.ServeError.TheVariants as serve_error
use Rattle.xet_serve.specs.declared.turn.Turn.{Turn}
use Rattle.xet_serve.specs.declared.turn.Turn.TheVariants as turn
use Rattle.xet_serve.specs.Sessions.{Answers, FewFail, MayAnswer, SessionTold, answer_text}
use Rattle.xet_serve.specs.steps.Fetching.{GoesOn, Lent, OverStore}

-- the connections and the cache of a session
abbrev pub lent_in : SessionTold → Lent
lent_in b = record { clients = b.clients; cache = b.cache }

-- all that a sink took is flushed
abbrev pub IsAllFlushed : SinkTold → Type 0
IsAllFlushed sink = sink.flushed ≡ option_map length sink.took

-- no call failed, by the counts
abbrev pub SinkHolds : SinkTold → SinkTold → Type 0
SinkHolds o p = p.faults ≡ o.faults

abbrev pub SourceHolds : SourceTold → SourceTold → Type 0
SourceHolds s t = t.faults ≡ s.faults

-- the cause of an error of a sink's call, or want of memory, with which none failed
abbrev pub WriteCause : SinkTold → SinkTold → ServeError → Type 0
WriteCause o p serve_error.OutOfMemory = SinkHolds o p
WriteCause o p serve_error.WriteFault = Rose o.faults p.faults
WriteCause o p e = ⊥

-- ---- one line

-- an answer to a line, which was written whole, or a prefix of it after an error
pub record LineWritten (s : Store) (tries : ℕ) (line : List ℕ) (o p : SinkTold) (b n : Lent)
    (answer : Result (Unit {0}) ServeError) : Type 0 where
  pub k : ℕ
  pub may : MayAnswer line k
  pub few : FewFail tries (k ∷ []) b.clients n.clients
  pub took : OnOk answer (Took o.took p.took (answer_text s line k))
  pub prefix : OnErr answer (TookPrefix o.took p.took (answer_text s line k))

-- a line that is answered
pub record LineServed (tries : ℕ) (line : List ℕ) (o p : SinkTold) (b n : Lent)
    (answer : Result (Unit {0}) ServeError) : Type 0 where
  pub goes_on : GoesOn b n
  pub done : OverStore b (λ s. LineWritten s tries line o p b n answer)
  pub cause : IfErr answer (WriteCause o p)
  pub unfailed : OnOk answer (p.faults ≡ o.faults)

-- what was written of the answer to a line: nothing more than a prefix of it, after an error
pub record LineCut (tries : ℕ) (line : List ℕ) (o p : SinkTold) (b n : Lent) (e : ServeError) : Type 0 where
  pub cause : WriteCause o p e
  pub done : OverStore b (λ s. LineWritten s tries line o p b n (Err e))

-- all of it
pub record LineWhole (tries : ℕ) (line : List ℕ) (o p : SinkTold) (b n : Lent) : Type 0 where
  pub done : OverStore b (λ s. LineWritten s tries line o p b n (Ok tt))
  pub unfailed : p.faults ≡ o.faults

-- a line that is answered, and then flushed where it ends the session
abbrev pub DidLine : (tries : ℕ) (line : List ℕ) (o p : SinkTold) (b n : Lent) → Result Turn ServeError → Type 0
DidLine tries line o p b n (Ok turn.Answered) = LineWhole tries line o p b n × (is_quit line ≡ false)
DidLine tries line o p b n (Ok turn.Quit) =
    LineWhole tries line o p b n × (is_quit line ≡ true) × IsAllFlushed p
DidLine tries line o p b n (Ok k) = ⊥
DidLine tries line o p b n (Err e) = LineCut tries line o p b n e

pub record LineTurn (tries : ℕ) (line : List ℕ) (o p : SinkTold) (b n : Lent)
    (answer : Result Turn ServeError) : Type 0 where
  pub goes_on : GoesOn b n
  pub did : DidLine tries line o p b n answer

-- what is left of an input is answered, where anything is, and flushed
abbrev pub DidLast : (tries : ℕ) (line : List ℕ) (o p : SinkTold) (b n : Lent) → Result Turn ServeError → Type 0
DidLast tries line o p b n (Ok (turn.Last k)) = IsAllFlushed p
    × (((k ≡ 0) × (line ≡ []) × (p ≡ o) × (n ≡ b))
    ⊎ ((k ≡ 1) × (0 < length line) × LineWhole tries line o p b n))
DidLast tries line o p b n (Ok k) = ⊥
DidLast tries line o p b n (Err e) = (0 < length line) × LineCut tries line o p b n e

pub record LastTurn (tries : ℕ) (line : List ℕ) (o p : SinkTold) (b n : Lent)
    (answer : Result Turn ServeError) : Type 0 where
  pub goes_on : GoesOn b n
  pub did : DidLast tries line o p b n answer

-- `OVER` is written and flushed
abbrev pub DidOver : SinkTold → SinkTold → ServeError → Type 0
DidOver o p serve_error.LineTooLong = Took o.took p.took (word_line (codes "OVER")) × IsAllFlushed p × SinkHolds o p
DidOver o p e = WriteCause o p e × TookPrefix o.took p.took (word_line (codes "OVER"))

pub record OverTurn (o p : SinkTold) (answer : Result Turn ServeError) : Type 0 where
  pub fails : OnOk answer ⊥
  pub did : IfErr answer (DidOver o p)

-- ---- one turn

-- more bytes were read, and nothing was written
pub record ReadMore (b n : SessionTold) (h i : Held) : Type 0 where
  pub bytes : List ℕ
  pub some : 0 < length bytes
  pub took : TookBytes b.source n.source bytes
  pub pending : i.pending ≡ h.pending ++ bytes
  pub read : i.read ≡ h.read + length bytes
  pub within : i.read ≤ session_limit
  pub source : n.source.faults ≡ b.source.faults
  pub sink_took : n.sink.took ≡ b.sink.took
  pub sink : n.sink.faults ≡ b.sink.faults
  pub clients : n.clients ≡ b.clients
  pub cache : n.cache ≡ b.cache

-- a line was taken off and its answer written
pub record AnsweredLine (tries : ℕ) (b n : SessionTold) (h i : Held) : Type 0 where
  pub line : TookLine h i
  pub source : n.source ≡ b.source
  pub done : OverStore (lent_in b) (λ s. LineWritten s tries i.line b.sink n.sink (lent_in b) (lent_in n) (Ok tt))
  pub sink : n.sink.faults ≡ b.sink.faults

-- the input had ended, and what was left of it was answered as a line, if there was any
pub record EndedInput (tries : ℕ) (b n : SessionTold) (h : Held) (count : ℕ) : Type 0 where
  pub took : TookBytes b.source n.source []
  pub end : IfSome n.source.left (λ rest. rest ≡ [])
  pub none : HasNoEnd h.pending
  pub short : is_too_long h.pending ≡ false
  pub source : n.source.faults ≡ b.source.faults
  pub sink : n.sink.faults ≡ b.sink.faults
  pub flushed : IsAllFlushed n.sink
  pub rest : ((count ≡ 0) × (h.pending ≡ []) × (n.sink.took ≡ b.sink.took))
      ⊎ ((count ≡ 1) × (0 < length h.pending) × OverStore (lent_in b)
      (λ s. LineWritten s tries h.pending b.sink n.sink (lent_in b) (lent_in n) (Ok tt)))

-- the next line, whose answer was cut: one with a line end, or the last of an input that had ended
abbrev pub IsNextLine : SessionTold → Held → List ℕ → Type 0
IsNextLine b h line = HasNoEnd line × (is_too_long line ≡ false)
    × (((rest : List ℕ) × (h.pending ≡ line ++ 10 ∷ rest))
    ⊎ ((h.pending ≡ line) × (0 < length line) × IfSome b.source.left (λ rest. rest ≡ [])))

-- a prefix of its answer was written
pub record CutLine (tries : ℕ) (b n : SessionTold) (h : Held) (s : Store) (e : ServeError) : Type 0 where
  pub line : List ℕ
  pub next : IsNextLine b h line
  pub written : LineWritten s tries line b.sink n.sink (lent_in b) (lent_in n) (Err e)

-- a prefix of `OVER`, of a line that is too long
pub record CutOver (b n : SessionTold) (h : Held) : Type 0 where
  pub long : BeginsLong h.pending
  pub took : TookPrefix b.sink.took n.sink.took (word_line (codes "OVER"))

-- what was written in a turn that failed: nothing, a prefix of the next line's answer, or one of `OVER`
abbrev pub WroteCut : (tries : ℕ) (b n : SessionTold) (h : Held) (e : ServeError) → Store → Type 0
WroteCut tries b n h e s = (n.sink.took ≡ b.sink.took) ⊎ (CutLine tries b n h s e ⊎ CutOver b n h)

-- the cause of an error in one turn, by the bytes that were read in it
abbrev pub TurnCause : SessionTold → SessionTold → Held → List ℕ → ServeError → Type 0
TurnCause b n h bytes serve_error.OutOfMemory = SourceHolds b.source n.source × SinkHolds b.sink n.sink
TurnCause b n h bytes serve_error.ReadFault = Rose b.source.faults n.source.faults × SinkHolds b.sink n.sink
TurnCause b n h bytes serve_error.WriteFault = SourceHolds b.source n.source × Rose b.sink.faults n.sink.faults
TurnCause b n h bytes serve_error.LineTooLong =
    SourceHolds b.source n.source × SinkHolds b.sink n.sink × BeginsLong h.pending
TurnCause b n h bytes serve_error.InputLimit =
    SourceHolds b.source n.source × SinkHolds b.sink n.sink × (session_limit < h.read + length bytes)
TurnCause b n h bytes (serve_error.ConfigurationError e) = ⊥

-- a line that is too long was answered by `OVER`, whole and flushed
pub record WroteOver (b n : SessionTold) (h : Held) : Type 0 where
  pub long : BeginsLong h.pending
  pub took : Took b.sink.took n.sink.took (word_line (codes "OVER"))
  pub flushed : IsAllFlushed n.sink

-- a turn that failed
pub record FailedTurn (tries : ℕ) (b n : SessionTold) (h : Held) (e : ServeError) : Type 0 where
  pub bytes : List ℕ
  pub took : TookBytes b.source n.source bytes
  pub within : (h.read + length bytes ≤ session_limit) ⊎ (e ≡ serve_error.InputLimit)
  pub cause : TurnCause b n h bytes e
  pub wrote : OverStore (lent_in b) (WroteCut tries b n h e)
  pub over : e ≡ serve_error.LineTooLong → WroteOver b n h

-- what a turn did, by its answer
abbrev pub DidTurn : (tries : ℕ) (b n : SessionTold) (h i : Held) → Result Turn ServeError → Type 0
DidTurn tries b n h i (Ok turn.Read) = ReadMore b n h i
DidTurn tries b n h i (Ok turn.Answered) = AnsweredLine tries b n h i × (is_quit i.line ≡ false)
DidTurn tries b n h i (Ok turn.Quit) =
    AnsweredLine tries b n h i × (is_quit i.line ≡ true) × IsAllFlushed n.sink
DidTurn tries b n h i (Ok (turn.Last k)) = EndedInput tries b n h k
DidTurn tries b n h i (Err e) = FailedTurn tries b n h e

-- one turn, of a reader that stands so before it and after it
pub record TurnCall (tries : ℕ) (b n : SessionTold) (h i : Held) (answer : Result Turn ServeError) : Type 0 where
  pub goes_on : GoesOn (lent_in b) (lent_in n)
  pub did : DidTurn tries b n h i answer

-- ---- all turns so far

-- a line that is neither too long nor the end of the session
pub record IsPlain (line : List ℕ) : Type 0 where
  pub whole : HasNoEnd line
  pub short : is_too_long line ≡ false
  pub going : is_quit line ≡ false

-- the answers to some lines were written
pub record AnsweredLines (s : Store) (tries : ℕ) (b n : SessionTold) (lines : List (List ℕ)) : Type 0 where
  pub ks : List ℕ
  pub text : List ℕ
  pub answers : Answers s lines ks text
  pub took : Took b.sink.took n.sink.took text
  pub few : FewFail tries ks b.clients n.clients

-- how a session stands between two turns
pub record Standing (tries : ℕ) (b n : SessionTold) (h : Held) (count : ℕ) : Type 0 where
  pub lines : List (List ℕ)
  pub plain : All IsPlain lines
  pub counted : count ≡ length lines
  pub read : TookBytes b.source n.source (flat_map (λ l. l ++ 10 ∷ []) lines ++ h.pending)
  pub total : h.read ≡ length (flat_map (λ l. l ++ 10 ∷ []) lines ++ h.pending)
  pub within : h.read ≤ session_limit
  pub goes_on : GoesOn (lent_in b) (lent_in n)
  pub answered : OverStore (lent_in b) (λ s. AnsweredLines s tries b n lines)
  pub source : n.source.faults ≡ b.source.faults
  pub sink : n.sink.faults ≡ b.sink.faults
