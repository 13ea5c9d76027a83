-- The words after `serve`, and what the command prints.
use Rattle.std.specs.Prelude.{ℕ, ◌≡◌, ◌==◌, ◌||◌, Bool, false, true, cond, List, Option, None, Some, is_some}
use Rattle.std.specs.Prelude.{option_and_then}
use Rattle.std.specs.List.{after_first, before_first, list_any}
use Rattle.xet_base.specs.Store.{Store}
use Rattle.xet_document.specs.Document.{HasStore, NoStore}
use Rattle.xet_error.specs.declared.error.Setting.{Setting}
use Rattle.xet_get_command.specs.declared.options.Options.{Options}
use Rattle.xet_get_command.specs.GetOptions.{config_of, lanes_of, options_of}
use Rattle.xet_room.specs.declared.status.Status.{Status}
use Rattle.xet_room.specs.declared.status.Status.TheVariants.{BadSettings, BadStore, Done, LineTooLong}
use Rattle.xet_room.specs.Texts.{line}
use Rattle.xet_serve.specs.Replies.{replies}
use Rattle.xet_serve.specs.Sessions.{lines_to_serve}
use Rattle.xet_serve_lines.specs.Lines.{is_too_long}
use Rattle.xet_terms.specs.Settings.{failing_setting_of}

-- ---- words

-- these options, unless they have one of a book of running downloads
abbrev pub without_book : Options → Option Options
without_book o = cond (is_some o.per_file || is_some o.limit) None (Some o)

-- the options of `get` but `perfile` and `limit`
abbrev pub serve_options : List (List ℕ) → Option Options
serve_options words = option_and_then without_book (options_of words)

-- the setting of the runs that fails first
abbrev pub unmet_setting : Options → Option Setting
unmet_setting o = failing_setting_of (lanes_of o) (config_of o)

-- ---- the input

-- what stands before the first line end, which is to be a document
abbrev pub document_of : List ℕ → List ℕ
document_of text = before_first (λ b. b == 10) text

-- what stands behind it, which is a session
abbrev pub session_of : List ℕ → List ℕ
session_of text = after_first (λ b. b == 10) text

-- a line of the session that is to be answered is too long
abbrev pub has_long_line : List ℕ → Bool
has_long_line session = list_any is_too_long (lines_to_serve session)

-- ---- by the status

-- no setting fails, and the replies are those to the lines, up to and with one that ends the session or is too long
pub record IsServed (o : Options) (s : Store) (session whole : List ℕ) : Type 0 where
  pub settings : unmet_setting o ≡ None
  pub whole_is : whole ≡ replies s session

-- what has to be printed over a store, with which status: the replies with 0, with 11 where a line is too long, or the
-- line of 7
abbrev pub StorePrints : Options → Store → List ℕ → Status → List ℕ → Type 0
StorePrints o s session Done whole = IsServed o s session whole × (has_long_line session ≡ false)
StorePrints o s session LineTooLong whole = IsServed o s session whole × (has_long_line session ≡ true)
StorePrints o s session (BadSettings e) whole = (unmet_setting o ≡ Some e) × (whole ≡ line (BadSettings e))
StorePrints o s session _ whole = ⊥

-- over a document: 2 with its line where it lists no store
abbrev pub PartsPrint : Options → List ℕ → List ℕ → Status → List ℕ → Type 0
PartsPrint o document session BadStore whole = NoStore document × (whole ≡ line BadStore)
PartsPrint o document session own whole = (s : Store) × HasStore document s × StorePrints o s session own whole

-- by an input, of which the first line is the document
abbrev pub ServePrints : Options → List ℕ → Status → List ℕ → Type 0
ServePrints o text own whole = PartsPrint o (document_of text) (session_of text) own whole
