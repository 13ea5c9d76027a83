-- What turns do, by what their calls did.
use Rattle.std.proofs.Common.{◌≡◌, ◌⊎◌, ℕ, ◌+◌, ◌<◌, ◌≤◌, false, true, List, [], ◌∷◌, ◌++◌, length, None, Some, Ok, Err, refl, sym, subst, ◌∙◌, ap, arith, inl, inr, ⊎_elim}
use Rattle.std.specs.Prelude.{IfSome, OnErr, OnOk, Option, Result, codes, option_map}
use Rattle.std.proofs.lemmas.List.{append-nil}
use Rattle.xet_base.specs.declared.error.OutOfMemory.{OutOfMemory}
use Rattle.xet_base.specs.Store.{Store}
use Rattle.xet_outside.specs.declared.sink.SinkError.{SinkError}
use Rattle.xet_outside.specs.declared.sink.SinkError.TheVariants as sink_error
use Rattle.xet_outside.specs.Told.{FlushCall, SinkTold, SourceTold, Took, TookPrefix}
use Rattle.xet_outside.specs.Written.{WroteAll}
use Rattle.xet_outside.proofs.CallerLemmas.{whole_prefix}
use Rattle.xet_ties.specs.Setup.{CacheTells, EachGoesOn}
use Rattle.xet_serve_lines.specs.declared.line_reader.LineFault.{LineFault}
use Rattle.xet_serve_lines.specs.declared.line_reader.LineFault.TheVariants as line_fault
use Rattle.xet_serve_lines.specs.Lines.{is_quit, session_limit}
use Rattle.xet_serve_lines.specs.Reading.{BeginsLong, FillCall, HasNoLine, Held, TookBytes, TookLine, TookRest}
use Rattle.xet_serve_lines.specs.Replies.{word_line}
use Rattle.xet_serve.specs.declared.serve_error.ServeError.{ServeError}
use Rattle.xet_serve.specs.declared.serve_error.ServeError.TheVariants as serve_error
use Rattle.xet_serve.specs.declared.turn.Turn.{Turn}
use Rattle.xet_serve.specs.declared.turn.Turn.TheVariants as turn
use Rattle.xet_serve.specs.Sessions.{SessionTold, answer_text}
use Rattle.xet_serve.specs.steps.Answering.{LineCall}
use Rattle.xet_serve.specs.steps.Errors.{of_line_fault, of_sink_error}
use Rattle.xet_serve.specs.steps.Fetching.{GoesOn, Lent, OverStore}
use Rattle.xet_serve.specs.steps.Turning.{DidOver, IsAllFlushed, IsNextLine, LastTurn}
use Rattle.xet_serve.specs.steps.Turning.{LineCut, LineServed, LineTurn, LineWhole, LineWritten, OverTurn, TurnCall}
use Rattle.xet_serve.specs.steps.Turning.{TurnCause, WriteCause, WroteCut, WroteOver, lent_in}
use Rattle.xet_serve.proofs.Fails.{no_fail}
use Rattle.xet_serve.proofs.Goings.{each_same, goes_same}
use Rattle.xet_serve.proofs.Standings.{read_nothing, short_line, took_nothing}

-- ---- errors of a sink

pub write_cause : (o p : SinkTold) (text : List ℕ) (e : SinkError) → WroteAll o p text (Err e) → WriteCause o p (of_sink_error e)
write_cause o p text sink_error.OutOfMemory h = h.short refl
write_cause o p text sink_error.Failed h = h.failed refl

flush_cause : (o q p : SinkTold) (e : SinkError) → q.faults ≡ o.faults → FlushCall q p (Err e) → WriteCause o p (of_sink_error e)
flush_cause o q p sink_error.OutOfMemory u h = h.short refl ∙ u
flush_cause o q p sink_error.Failed u h = let r = h.failed refl in omega (arith, u, r)

not_over : (e : SinkError) → of_sink_error e ≡ serve_error.LineTooLong → ⊥
not_over sink_error.OutOfMemory h = absurd (cc)
not_over sink_error.Failed h = absurd (cc)

-- a read that answered left the count
source_held : (a b k : ℕ) → (b ≡ a) ⊎ (◌≡◌ {A = Result ℕ LineFault} (Ok k) (Err line_fault.ReadFault)) → b ≡ a
source_held a b k h = ⊎_elim (λ (u : b ≡ a). u)
    (λ (u : ◌≡◌ {A = Result ℕ LineFault} (Ok k) (Err line_fault.ReadFault)). absurd (cc)) h

-- ---- one line

module _ (tries : ℕ) (line : List ℕ) (o p : SinkTold) (b n : Lent) (text : List ℕ) where
  -- nothing of it
  pub line_memory : (e : OutOfMemory) → p ≡ o → LineCall tries line b n text (Err e)
      → LineServed tries line o p b n (Err serve_error.OutOfMemory)
  line_memory e same c = record {
    goes_on = c.goes_on;
    done = λ s i t. record {
      k = 0;
      may = inl refl;
      few = no_fail tries b.clients n.clients c.goes_on.clients;
      took = tt;
      prefix = record {
        count = 0;
        within = omega arith;
        took = ap (λ (v : SinkTold). v.took) same ∙ took_nothing o.took;
      };
    };
    cause = ap (λ (v : SinkTold). v.faults) same;
    unfailed = tt;
  }

  pub line_failed : (e : SinkError) → LineCall tries line b n text (Ok tt) → WroteAll o p text (Err e)
      → LineServed tries line o p b n (Err (of_sink_error e))
  line_failed e c w = record {
    goes_on = c.goes_on;
    done = λ s i t.
        let r = c.done s i t in
        record {
          k = r.k;
          may = r.may;
          few = r.few;
          took = tt;
          prefix = subst (TookPrefix o.took p.took) r.is w.prefix;
        };
    cause = write_cause o p text e w;
    unfailed = tt;
  }

  pub line_done : LineCall tries line b n text (Ok tt) → WroteAll o p text (Ok tt)
      → LineServed tries line o p b n (Ok tt)
  line_done c w = record {
    goes_on = c.goes_on;
    done = λ s i t.
        let r = c.done s i t in
        record { k = r.k; may = r.may; few = r.few; took = subst (Took o.took p.took) r.is w.took; prefix = tt };
    cause = tt;
    unfailed = w.unfailed;
  }

-- an answer that was written whole, and then flushed or not
module _ (tries : ℕ) (line : List ℕ) (o q p : SinkTold) (b n : Lent) (h : LineServed tries line o q b n (Ok tt)) where
  flushed_line : FlushCall q p (Ok tt) → LineWhole tries line o p b n
  flushed_line f = record {
    done = λ s i t.
        let r = h.done s i t in
        record { k = r.k; may = r.may; few = r.few; took = f.took ∙ r.took; prefix = tt };
    unfailed = f.unfailed ∙ h.unfailed;
  }

  unflushed_line : (e : SinkError) → FlushCall q p (Err e) → LineCut tries line o p b n (of_sink_error e)
  unflushed_line e f = record {
    cause = flush_cause o q p e h.unfailed f;
    done = λ s i t.
        let r = h.done s i t in
        record {
          k = r.k;
          may = r.may;
          few = r.few;
          took = tt;
          prefix = whole_prefix o.took p.took (answer_text s line r.k) (f.took ∙ r.took);
        };
  }

  pub turn_quit : FlushCall q p (Ok tt) → is_quit line ≡ true → LineTurn tries line o p b n (Ok turn.Quit)
  turn_quit f z = record { goes_on = h.goes_on; did = (flushed_line f, z, f.flushed) }

  pub turn_unflushed : (e : SinkError) → FlushCall q p (Err e) → LineTurn tries line o p b n (Err (of_sink_error e))
  turn_unflushed e f = record { goes_on = h.goes_on; did = unflushed_line e f }

  pub last_one : FlushCall q p (Ok tt) → 0 < length line → LastTurn tries line o p b n (Ok (turn.Last 1))
  last_one f z = record { goes_on = h.goes_on; did = (f.flushed, inr (refl, z, flushed_line f)) }

  pub last_unflushed : (e : SinkError) → FlushCall q p (Err e) → 0 < length line
      → LastTurn tries line o p b n (Err (of_sink_error e))
  last_unflushed e f z = record { goes_on = h.goes_on; did = (z, unflushed_line e f) }

module _ (tries : ℕ) (line : List ℕ) (o p : SinkTold) (b n : Lent) where
  cut_line : (e : ServeError) → LineServed tries line o p b n (Err e) → LineCut tries line o p b n e
  cut_line e h = record { cause = h.cause; done = h.done }

  pub turn_cut : (e : ServeError) → LineServed tries line o p b n (Err e) → LineTurn tries line o p b n (Err e)
  turn_cut e h = record { goes_on = h.goes_on; did = cut_line e h }

  pub turn_answered : LineServed tries line o p b n (Ok tt) → is_quit line ≡ false → LineTurn tries line o p b n (Ok turn.Answered)
  turn_answered h z = record { goes_on = h.goes_on; did = (record { done = h.done; unfailed = h.unfailed }, z) }

  pub last_cut : (e : ServeError) → LineServed tries line o p b n (Err e) → 0 < length line
      → LastTurn tries line o p b n (Err e)
  last_cut e h z = record { goes_on = h.goes_on; did = (z, cut_line e h) }

pub last_none : (tries : ℕ) (line : List ℕ) (o : SinkTold) (b : Lent) → line ≡ [] → IsAllFlushed o
    → LastTurn tries line o o b b (Ok (turn.Last 0))
last_none tries line o b e f = record { goes_on = goes_same b; did = (f, inl (refl, e, refl, refl)) }

-- ---- `OVER`

abbrev over_text : List ℕ
over_text = word_line (codes "OVER")

pub over_cut : (o p : SinkTold) (e : SinkError) → WroteAll o p over_text (Err e) → DidOver o p (of_sink_error e)
over_cut o p sink_error.OutOfMemory h = (h.short refl, h.prefix)
over_cut o p sink_error.Failed h = (h.failed refl, h.prefix)

pub over_unflushed : (o q p : SinkTold) (e : SinkError) → WroteAll o q over_text (Ok tt) → FlushCall q p (Err e)
    → DidOver o p (of_sink_error e)
over_unflushed o q p sink_error.OutOfMemory w f =
    (f.short refl ∙ w.unfailed, whole_prefix o.took p.took over_text (f.took ∙ w.took))
over_unflushed o q p sink_error.Failed w f = (
  let r = f.failed refl in let u = w.unfailed in omega (arith, r, u),
  whole_prefix o.took p.took over_text (f.took ∙ w.took),
)

pub over_done : (o q p : SinkTold) → WroteAll o q over_text (Ok tt) → FlushCall q p (Ok tt)
    → DidOver o p serve_error.LineTooLong
over_done o q p w f = (f.took ∙ w.took, f.flushed, f.unfailed ∙ w.unfailed)

-- ---- a turn

module _ (tries : ℕ) (b n : SessionTold) (h i : Held) (within : h.read ≤ session_limit) where
  stays_within : (e : ServeError) → (h.read + 0 ≤ session_limit) ⊎ (e ≡ serve_error.InputLimit)
  stays_within e = inl (omega (arith, within))

  source_stays : n.source ≡ b.source → TookBytes b.source n.source []
  source_stays same = subst (λ (v : SourceTold). TookBytes b.source v []) (sym same) (read_nothing b.source.left)

  source_holds : n.source ≡ b.source → n.source.faults ≡ b.source.faults
  source_holds same = ap (λ (v : SourceTold). v.faults) same

  -- the answer to a line that was taken off
  cut_by : (line : List ℕ) (e : ServeError) → n.source ≡ b.source
      → LineCut tries line b.sink n.sink (lent_in b) (lent_in n) e → TurnCause b n h [] e
  cut_by line serve_error.OutOfMemory same c = (source_holds same, c.cause)
  cut_by line serve_error.WriteFault same c = (source_holds same, c.cause)
  cut_by line serve_error.ReadFault same c = absurd c.cause
  cut_by line serve_error.LineTooLong same c = absurd c.cause
  cut_by line serve_error.InputLimit same c = absurd c.cause
  cut_by line (serve_error.ConfigurationError v) same c = absurd c.cause

  not_long : (line : List ℕ) (e : ServeError) → LineCut tries line b.sink n.sink (lent_in b) (lent_in n) e
      → e ≡ serve_error.LineTooLong → ⊥
  not_long line e c same = absurd (subst (WriteCause b.sink n.sink) same c.cause)

  is_next : TookLine h i → (line : List ℕ) → line ≡ i.line → IsNextLine b h line
  is_next t line e = subst (IsNextLine b h) (sym e) (t.whole, short_line i.line t.short, inl (i.pending, t.is))

  pub line_turned : (answer : Result Turn ServeError) → TookLine h i → n.source ≡ b.source
      → LineTurn tries i.line b.sink n.sink (lent_in b) (lent_in n) answer → TurnCall tries b n h i answer
  line_turned (Ok turn.Read) t same c = absurd c.did
  line_turned (Ok turn.Answered) t same c = record {
    goes_on = c.goes_on;
    did = (record { line = t; source = same; done = c.did.0.done; sink = c.did.0.unfailed }, c.did.1);
  }
  line_turned (Ok turn.Quit) t same c = record {
    goes_on = c.goes_on;
    did = (record { line = t; source = same; done = c.did.0.done; sink = c.did.0.unfailed }, c.did.1, c.did.2);
  }
  line_turned (Ok (turn.Last k)) t same c = absurd c.did
  line_turned (Err e) t same c = record {
    goes_on = c.goes_on;
    did = record {
      bytes = [];
      took = source_stays same;
      within = stays_within e;
      cause = cut_by i.line e same c.did;
      wrote = λ s o k. inr (inl (record { line = i.line; next = is_next t i.line refl; written = c.did.done s o k }));
      over = λ z. absurd (not_long i.line e c.did z);
    };
  }

  -- `OVER`
  over_cause : (e : ServeError) → n.source ≡ b.source → BeginsLong h.pending → DidOver b.sink n.sink e
      → TurnCause b n h [] e
  over_cause serve_error.OutOfMemory same l d = (source_holds same, d.0)
  over_cause serve_error.WriteFault same l d = (source_holds same, d.0)
  over_cause serve_error.LineTooLong same l d = (source_holds same, d.2, l)
  over_cause serve_error.ReadFault same l d = absurd d.0
  over_cause serve_error.InputLimit same l d = absurd d.0
  over_cause (serve_error.ConfigurationError v) same l d = absurd d.0

  over_took : (e : ServeError) → DidOver b.sink n.sink e → TookPrefix b.sink.took n.sink.took (word_line (codes "OVER"))
  over_took serve_error.OutOfMemory d = d.1
  over_took serve_error.WriteFault d = d.1
  over_took serve_error.LineTooLong d = whole_prefix b.sink.took n.sink.took (word_line (codes "OVER")) d.0
  over_took serve_error.ReadFault d = d.1
  over_took serve_error.InputLimit d = d.1
  over_took (serve_error.ConfigurationError v) d = d.1

  over_whole : (e : ServeError) → BeginsLong h.pending → DidOver b.sink n.sink e → e ≡ serve_error.LineTooLong
      → WroteOver b n h
  over_whole e l d z =
      let w = subst (DidOver b.sink n.sink) z d in record { long = l; took = w.0; flushed = w.1 }

  pub over_turned : (answer : Result Turn ServeError) → BeginsLong h.pending → n.source ≡ b.source
      → n.clients ≡ b.clients → n.cache ≡ b.cache → OverTurn b.sink n.sink answer → TurnCall tries b n h i answer
  over_turned (Ok t) l same f g c = absurd c.fails
  over_turned (Err e) l same f g c = record {
    goes_on = record {
      clients = subst (EachGoesOn b.clients) (sym f) (each_same b.clients);
      cache = λ s o k. subst (CacheTells s) (sym g) k;
    };
    did = record {
      bytes = [];
      took = source_stays same;
      within = stays_within e;
      cause = over_cause e same l c.did;
      wrote = λ s o k. inr (inr (record { long = l; took = over_took e c.did }));
      over = over_whole e l c.did;
    };
  }

  -- nothing was written
  nothing_written : (e : ServeError) → n.sink.took ≡ b.sink.took → OverStore (lent_in b) (WroteCut tries b n h e)
  nothing_written e same s o k = inl same

  stays : n.clients ≡ b.clients → n.cache ≡ b.cache → GoesOn (lent_in b) (lent_in n)
  stays f g = record {
    clients = subst (EachGoesOn b.clients) (sym f) (each_same b.clients);
    cache = λ s o k. subst (CacheTells s) (sym g) k;
  }

  pub read_unflushed : (e : SinkError) → FlushCall b.sink n.sink (Err e) → n.source ≡ b.source → n.clients ≡ b.clients
      → n.cache ≡ b.cache → TurnCall tries b n h i (Err (of_sink_error e))
  read_unflushed e f same x y = record {
    goes_on = stays x y;
    did = record {
      bytes = [];
      took = source_stays same;
      within = stays_within (of_sink_error e);
      cause = flush_turn e f;
      wrote = nothing_written (of_sink_error e) f.took;
      over = λ z. absurd (not_over e z);
    };
  }
    where
      flush_turn : (v : SinkError) → FlushCall b.sink n.sink (Err v) → TurnCause b n h [] (of_sink_error v)
      flush_turn sink_error.OutOfMemory f = (source_holds same, f.short refl)
      flush_turn sink_error.Failed f = (source_holds same, f.failed refl)

  pub read_failed : (e : LineFault) → FlushCall b.sink n.sink (Ok tt) → FillCall b.source n.source h i (Err e)
      → n.clients ≡ b.clients → n.cache ≡ b.cache → TurnCall tries b n h i (Err (of_line_fault e))
  read_failed e f c x y = record {
    goes_on = stays x y;
    did = record {
      bytes = c.bytes;
      took = c.took;
      within = fits e c;
      cause = caused e c;
      wrote = nothing_written (of_line_fault e) f.took;
      over = λ z. absurd (other e z);
    };
  }
    where
      fits : (v : LineFault) → FillCall b.source n.source h i (Err v)
          → (h.read + length c.bytes ≤ session_limit) ⊎ (of_line_fault v ≡ serve_error.InputLimit)
      fits line_fault.ReadFault d =
          let a = (d.fault refl).1 in let r = c.read in inl (omega (arith, within, a, r))
      fits line_fault.InputLimit d = inr refl

      caused : (v : LineFault) → FillCall b.source n.source h i (Err v) → TurnCause b n h c.bytes (of_line_fault v)
      caused line_fault.ReadFault d = ((d.fault refl).0, f.unfailed)
      caused line_fault.InputLimit d = (
        ⊎_elim (λ (u : n.source.faults ≡ b.source.faults). u)
            (λ (u : ◌≡◌ {A = Result ℕ LineFault} (Err line_fault.InputLimit) (Err line_fault.ReadFault)). absurd (cc)) d.unfailed,
        f.unfailed,
        let a = d.limit refl in let r = c.read in omega (arith, a, r),
      )

      other : (v : LineFault) → of_line_fault v ≡ serve_error.LineTooLong → ⊥
      other line_fault.ReadFault z = absurd (cc)
      other line_fault.InputLimit z = absurd (cc)

  pub read_more : (k : ℕ) → 0 < k → FlushCall b.sink n.sink (Ok tt) → FillCall b.source n.source h i (Ok k)
      → n.clients ≡ b.clients → n.cache ≡ b.cache → TurnCall tries b n h i (Ok turn.Read)
  read_more k some f c x y = record {
    goes_on = stays x y;
    did = record {
      bytes = c.bytes;
      some = (let a = c.count in omega (arith, some, a));
      took = c.took;
      pending = c.pending;
      read = c.read;
      within = c.within;
      source = source_held b.source.faults n.source.faults k c.unfailed;
      sink_took = f.took;
      sink = f.unfailed;
      clients = x;
      cache = y;
    };
  }

-- the input had ended
module _ (tries : ℕ) (b n : SessionTold) (o : SinkTold) (h i j : Held) (k : ℕ) (within : h.read ≤ session_limit)
    (wait : HasNoLine h.pending) (f : FlushCall b.sink o (Ok tt)) (c : FillCall b.source n.source h i (Ok k)) (none : k ≡ 0)
    (t : TookRest i j) where
  no_bytes : c.bytes ≡ []
  no_bytes = empty_list c.bytes (let a = c.count in omega (arith, a, none))
    where
      empty_list : (xs : List ℕ) → length xs ≡ 0 → xs ≡ []
      empty_list [] e = refl
      empty_list (x ∷ xs) e = absurd (omega (arith, e))

  took : TookBytes b.source n.source []
  took = subst (TookBytes b.source n.source) no_bytes c.took

  line_is : j.line ≡ h.pending
  line_is = t.line ∙ c.pending ∙ ap (λ (l : List ℕ). h.pending ++ l) no_bytes ∙ append-nil h.pending

  ended : IfSome n.source.left (λ rest. rest ≡ [])
  ended = c.end (ap (λ (m : ℕ). Ok m) none)

  ended_before : IfSome b.source.left (λ rest. rest ≡ [])
  ended_before = subst (λ (v : Option (List ℕ)). IfSome v (λ rest. rest ≡ [])) (sym (took ∙ same n.source.left)) ended
    where
      same : (v : Option (List ℕ)) → option_map (λ r. [] ++ r) v ≡ v
      same None = refl
      same (Some r) = refl

  fits : (e : ServeError) → (h.read + 0 ≤ session_limit) ⊎ (e ≡ serve_error.InputLimit)
  fits e = inl (omega (arith, within))

  -- what was written is written since the flush
  since : (s : Store) (answer : Result (Unit {0}) ServeError)
      → LineWritten s tries j.line o n.sink (lent_in b) (lent_in n) answer
      → LineWritten s tries h.pending b.sink n.sink (lent_in b) (lent_in n) answer
  since s answer w =
      subst (λ (l : List ℕ). LineWritten s tries l b.sink n.sink (lent_in b) (lent_in n) answer) line_is
      (record {
        k = w.k;
        may = w.may;
        few = w.few;
        took = subst (λ (v : Option (List ℕ)). OnOk answer (Took v n.sink.took (answer_text s j.line w.k))) f.took w.took;
        prefix =
            subst (λ (v : Option (List ℕ)). OnErr answer (TookPrefix v n.sink.took (answer_text s j.line w.k))) f.took
            w.prefix;
      })

  last_cause : (e : ServeError) → WriteCause o n.sink e → TurnCause b n h [] e
  last_cause serve_error.OutOfMemory w = (source_held b.source.faults n.source.faults k c.unfailed, w ∙ f.unfailed)
  last_cause serve_error.WriteFault w =
      (source_held b.source.faults n.source.faults k c.unfailed, let u = f.unfailed in omega (arith, u, w))
  last_cause serve_error.ReadFault w = absurd w
  last_cause serve_error.LineTooLong w = absurd w
  last_cause serve_error.InputLimit w = absurd w
  last_cause (serve_error.ConfigurationError v) w = absurd w

  next : 0 < length j.line → IsNextLine b h h.pending
  next some = (wait.none, short_line h.pending wait.short, inr (refl, subst (λ (l : List ℕ). 0 < length l) line_is some, ended_before))

  pub last_turned : (answer : Result Turn ServeError) → LastTurn tries j.line o n.sink (lent_in b) (lent_in n) answer
      → TurnCall tries b n h j answer
  last_turned (Ok turn.Read) d = absurd d.did
  last_turned (Ok turn.Answered) d = absurd d.did
  last_turned (Ok turn.Quit) d = absurd d.did
  last_turned (Ok (turn.Last m)) d = record {
    goes_on = d.goes_on;
    did = record {
      took = took;
      end = ended;
      none = wait.none;
      short = short_line h.pending wait.short;
      source = source_held b.source.faults n.source.faults k c.unfailed;
      sink = unfailed;
      flushed = d.did.0;
      rest = rest;
    };
  }
    where
      unfailed : n.sink.faults ≡ b.sink.faults
      unfailed = ⊎_elim
          (λ (x : (m ≡ 0) × (j.line ≡ []) × (n.sink ≡ o) × (lent_in n ≡ lent_in b)).
          ap (λ (v : SinkTold). v.faults) x.2 ∙ f.unfailed)
          (λ (x : (m ≡ 1) × (0 < length j.line) × LineWhole tries j.line o n.sink (lent_in b) (lent_in n)).
          x.2.unfailed ∙ f.unfailed) d.did.1

      rest : ((m ≡ 0) × (h.pending ≡ []) × (n.sink.took ≡ b.sink.took))
          ⊎ ((m ≡ 1) × (0 < length h.pending) × OverStore (lent_in b)
          (λ s. LineWritten s tries h.pending b.sink n.sink (lent_in b) (lent_in n) (Ok tt)))
      rest = ⊎_elim
          (λ (x : (m ≡ 0) × (j.line ≡ []) × (n.sink ≡ o) × (lent_in n ≡ lent_in b)).
          inl (x.0, sym line_is ∙ x.1, ap (λ (v : SinkTold). v.took) x.2 ∙ f.took))
          (λ (x : (m ≡ 1) × (0 < length j.line) × LineWhole tries j.line o n.sink (lent_in b) (lent_in n)).
          inr (x.0, subst (λ (l : List ℕ). 0 < length l) line_is x.1, λ s v w. since s (Ok tt) (x.2.done s v w)))
          d.did.1
  last_turned (Err e) d = record {
    goes_on = d.goes_on;
    did = record {
      bytes = [];
      took = took;
      within = fits e;
      cause = last_cause e d.did.1.cause;
      wrote = λ s v w.
          inr (inl (record { line = h.pending; next = next d.did.0; written = since s (Err e) (d.did.1.done s v w) }));
      over = λ z. absurd (subst (WriteCause o n.sink) z d.did.1.cause);
    };
  }
