-- How the command ends behind a session over new connections to a store.
use Rattle.std.proofs.Common.{◌≡◌, ◌⊎◌, ℕ, Bool, true, false, List, length, Option, None, Some, Result, Ok, Err, refl, sym, ap, subst, ◌∙◌, inl, inr, ⊎_elim, arith}
use Rattle.std.proofs.lemmas.List.Folds.{list_any_none}
use Rattle.xet_base.specs.Store.{Store}
use Rattle.xet_outside.specs.Told.{SinkTold, TookPrefix}
use Rattle.xet_error.specs.declared.error.Setting.{Setting}
use Rattle.xet_get_command.specs.declared.options.Options.{Options}
use Rattle.xet_get_command.specs.GetOptions.{config_of, lanes_of}
use Rattle.xet_room.specs.declared.status.Status.{Status}
use Rattle.xet_room.specs.declared.status.Status.TheVariants as status
use Rattle.xet_room.specs.Texts.{line}
use Rattle.xet_serve.specs.declared.serve_error.ServeError.{ServeError}
use Rattle.xet_serve.specs.declared.serve_error.ServeError.TheVariants as serve_error
use Rattle.xet_serve.specs.Laws.{AreCalm, CalmSessionsBegin, CalmSessionsEnd, CalmSessionsReply}
use Rattle.xet_serve.specs.Replies.{replies}
use Rattle.xet_serve.specs.Sessions.{SessionCall, SessionTold, any_setup, lines_to_serve}
use Rattle.xet_serve_lines.specs.Lines.{is_too_long}
use Rattle.xet_terms.specs.Settings.{failing_setting}
use Rattle.xet_ties.specs.Causes.{refused_setting}
use Rattle.xet_ties.specs.Setup.{CacheTells, IsOver}
use Rattle.xet_serve_command.specs.Serve.{StorePrints, has_long_line, unmet_setting}
use Rattle.xet_serve_command.specs.steps.Sessions.{Ended, LinePrinted, Printed}

-- the laws of sessions where no connection fails
pub record CalmLaws : Type 0 where
  pub reply : CalmSessionsReply
  pub end : CalmSessionsEnd
  pub begin : CalmSessionsBegin

module _ (laws : CalmLaws) (o : Options) (s : Store) (session : List ℕ) (b n : SessionTold)
    (left : b.source.left ≡ Some session) (over : IsOver s b.clients) (tells : CacheTells s b.cache)
    (lanes : length b.clients ≡ lanes_of o) (calm : AreCalm b.clients n.clients) where
  abbrev Prints : Status → List ℕ → Type 0
  Prints = StorePrints o s session

  abbrev Call : Result ℕ ServeError → Type 0
  Call = SessionCall (any_setup (config_of o)) b n

  -- the setting that fails is that of the options
  same : refused_setting (any_setup (config_of o)) b.clients ≡ unmet_setting o
  same = ap (λ (k : ℕ). failing_setting k (config_of o).tries (config_of o).min_reconstruction_fetch_size
      (config_of o).max_reconstruction_fetch_size) lanes

  -- none does, where the answer is another
  met : (answer : Result ℕ ServeError) → Call answer
      → ((e : Setting) → answer ≡ Err (serve_error.ConfigurationError e) → ⊥) → unmet_setting o ≡ None
  met answer c other = by (unmet_setting o) refl
    where
      by : (u : Option Setting) → unmet_setting o ≡ u → unmet_setting o ≡ None
      by None u = u
      by (Some e) u = absurd (other e (c.settings e (same ∙ u)).0)

  -- ---- what was printed

  -- the text that belongs to the session, with its status
  own_text : unmet_setting o ≡ None → (own : Status) × Prints own (replies s session)
  own_text none = by (has_long_line session) refl
    where
      by : (long : Bool) → has_long_line session ≡ long → (own : Status) × Prints own (replies s session)
      by true e = (status.LineTooLong, (record { settings = none; whole_is = refl }, e))
      by false e = (status.Done, (record { settings = none; whole_is = refl }, e))

  -- a beginning of it was printed
  begun : (e : ServeError) → Call (Err e) → TookPrefix b.sink.took n.sink.took (replies s session)
  begun e c =
      laws.begin s (any_setup (config_of o)).tries b n session (omega arith) calm (c.part s over tells session left)

  -- ---- how the command ends

  whole : (k : ℕ) → Call (Ok k) → Printed Prints b.sink n.sink status.Done
  whole k c =
      let told = c.served s over tells session left in
      let took = laws.reply s (any_setup (config_of o)).tries b n session k (omega arith) calm told in
      let none = met (Ok k) c (λ e z. absurd (cc)) in
      let held : n.sink.faults ≡ b.sink.faults = ⊎_elim (λ z. z) (λ z. absurd (cc)) c.sink_unfailed in
      record {
        printed = inl (
          status.Done,
          replies s session,
          (record { settings = none; whole_is = refl }, list_any_none is_too_long (lines_to_serve session) told.short),
          inl (refl, took),
        );
        flushed = inl c.flushed;
        unfailed = inl held;
        short = inl held;
      }

  over_long : Call (Err serve_error.LineTooLong) → Printed Prints b.sink n.sink status.LineTooLong
  over_long c =
      let took = laws.end s (any_setup (config_of o)).tries b n session (omega arith) calm
      (c.over s over tells session left refl) in
      let none = met (Err serve_error.LineTooLong) c (λ e z. absurd (cc)) in
      let held : n.sink.faults ≡ b.sink.faults = ⊎_elim (λ z. z) (λ z. absurd (cc)) c.sink_unfailed in
      record {
        printed = inl (
          status.LineTooLong,
          replies s session,
          (record { settings = none; whole_is = refl }, c.cause session left),
          inl (refl, took),
        );
        flushed = inl (c.over_flushed refl);
        unfailed = inl held;
        short = inl held;
      }

  stopped : Call (Err serve_error.WriteFault) → Printed Prints b.sink n.sink status.WriteFault
  stopped c =
      let own = own_text (met (Err serve_error.WriteFault) c (λ e z. absurd (cc))) in
      record {
        printed = inl (own.0, replies s session, own.1, inr (inl (refl, c.cause, begun serve_error.WriteFault c)));
        flushed = inr (inl refl);
        unfailed = inr (inl refl);
        short = inr refl;
      }

  short_of_memory : (e : ServeError) → Call (Err e) → (e ≡ serve_error.WriteFault → ⊥)
      → ((d : Setting) → e ≡ serve_error.ConfigurationError d → ⊥) → Printed Prints b.sink n.sink status.NoMemory
  short_of_memory e c unlike other =
      let own = own_text (met (Err e) c (λ d z. other d (cc))) in
      let held : n.sink.faults ≡ b.sink.faults = ⊎_elim (λ z. z) (λ z. absurd (unlike (cc))) c.sink_unfailed in
      record {
        printed = inl (own.0, replies s session, own.1, inr (inr (refl, begun e c)));
        flushed = inr (inr refl);
        unfailed = inr (inr refl);
        short = inl held;
      }

  refused : (e : Setting) → Call (Err (serve_error.ConfigurationError e)) → (m : SinkTold) (end : Status)
      → LinePrinted (status.BadSettings e) n.sink m end → Printed Prints b.sink m end
  refused e c m end p =
      let as_before = (c.settings e c.cause).1 in
      let q : LinePrinted (status.BadSettings e) b.sink m end =
      subst (λ (x : SessionTold). LinePrinted (status.BadSettings e) x.sink m end) as_before p in
      record {
        printed = inl (status.BadSettings e, line (status.BadSettings e), (sym same ∙ c.cause, refl), q.text);
        flushed = q.flushed;
        unfailed = q.unfailed;
        short = q.short;
      }

  ends_as : (own : Status) (m : SinkTold) (end : Status) → Printed Prints b.sink n.sink own
      → (end ≡ own) × (m ≡ n.sink) → Printed Prints b.sink m end
  ends_as own m end p e =
      subst (λ (x : SinkTold). Printed Prints b.sink x end) (sym e.1)
      (subst (λ (x : Status). Printed Prints b.sink n.sink x) (sym e.0) p)

  pub ended : (answer : Result ℕ ServeError) → Call answer → (m : SinkTold) (end : Status)
      → Ended answer n.sink m end → Printed Prints b.sink m end
  ended (Ok k) c m end e = ends_as status.Done m end (whole k c) e
  ended (Err serve_error.LineTooLong) c m end e = ends_as status.LineTooLong m end (over_long c) e
  ended (Err serve_error.WriteFault) c m end e = ends_as status.WriteFault m end (stopped c) e
  ended (Err (serve_error.ConfigurationError d)) c m end e = refused d c m end e
  ended (Err serve_error.OutOfMemory) c m end e =
      ends_as status.NoMemory m end
      (short_of_memory serve_error.OutOfMemory c (λ z. absurd (cc)) (λ d z. absurd (cc))) e
  ended (Err serve_error.ReadFault) c m end e =
      ends_as status.NoMemory m end (short_of_memory serve_error.ReadFault c (λ z. absurd (cc)) (λ d z. absurd (cc))) e
  ended (Err serve_error.InputLimit) c m end e =
      ends_as status.NoMemory m end (short_of_memory serve_error.InputLimit c (λ z. absurd (cc)) (λ d z. absurd (cc))) e
