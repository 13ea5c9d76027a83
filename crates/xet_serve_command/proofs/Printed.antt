-- What is printed of a document and a session.
use Rattle.std.proofs.Common.{ℕ, List, refl, inl, inr}
use Rattle.xet_base.specs.Store.{Store}
use Rattle.xet_document.specs.Document.{HasStore, NoStore}
use Rattle.xet_outside.specs.Told.{SinkTold}
use Rattle.xet_get_command.specs.declared.options.Options.{Options}
use Rattle.xet_room.specs.declared.status.Status.{Status}
use Rattle.xet_room.specs.declared.status.Status.TheVariants as status
use Rattle.xet_room.specs.Inputs.{SomePrinted}
use Rattle.xet_serve_command.specs.Serve.{PartsPrint, StorePrints}
use Rattle.xet_serve_command.specs.steps.Sessions.{LinePrinted, Printed}

-- memory ended before anything was printed
pub memory_printed : (P : Status → List ℕ → Type 0) (b n : SinkTold) (end : Status)
    → LinePrinted status.NoMemory b n end → Printed P b n end
memory_printed P b n end p =
    record { printed = inr p.text; flushed = p.flushed; unfailed = p.unfailed; short = p.short }

module _ (o : Options) (document session : List ℕ) (b n : SinkTold) (end : Status) where
  -- the document lists this store
  pub listed_printed : (s : Store) → HasStore document s → Printed (StorePrints o s session) b n end
      → Printed (PartsPrint o document session) b n end
  listed_printed s has p =
      record { printed = by p.printed; flushed = p.flushed; unfailed = p.unfailed; short = p.short }
    where
      by_status : (own : Status) (whole : List ℕ) → StorePrints o s session own whole
          → PartsPrint o document session own whole
      by_status status.Done whole q = (s, has, q)
      by_status status.LineTooLong whole q = (s, has, q)
      by_status (status.BadSettings e) whole q = (s, has, q)
      by_status _ whole q = absurd q

      by : SomePrinted (StorePrints o s session) b n end → SomePrinted (PartsPrint o document session) b n end
      by (inr h) = inr h
      by (inl h) = inl (h.0, h.1, by_status h.0 h.1 h.2, h.3)

  -- it lists none
  pub unlisted_printed : NoStore document → LinePrinted status.BadStore b n end
      → Printed (PartsPrint o document session) b n end
  unlisted_printed none p = record {
    printed = inl (status.BadStore, Rattle.xet_room.specs.Texts.line status.BadStore, (none, refl), p.text);
    flushed = p.flushed;
    unfailed = p.unfailed;
    short = p.short;
  }
