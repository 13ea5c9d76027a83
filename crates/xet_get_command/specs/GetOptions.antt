-- The options of `get` and `bench`, and the words that spell them.
use Rattle.std.specs.Prelude.{ℕ, ◌-◌, ◌^◌, ◌==◌, true, false, cond, nat_lt, nat_le, List, [], ◌∷◌, length, Option, Some}
use Rattle.std.specs.Prelude.{None, option_and_then, unwrap_or, codes}
use Rattle.std.specs.List.{after_first, before_first, position_or_len}
use Rattle.std.specs.Str.{bytes_eq}
use Rattle.xet_events.specs.declared.budget_book.BudgetSettings.{BudgetSettings}
use Rattle.xet_terms.specs.declared.reconstruction_config.ReconstructionConfig.{ReconstructionConfig}
use Rattle.xet_terms.specs.Settings.{first_config}
use Rattle.xet_get_command.specs.declared.options.GetOption.{GetOption}
use Rattle.xet_get_command.specs.declared.options.GetOption.TheVariants as word
use Rattle.xet_get_command.specs.declared.options.Options.{Options}
use Rattle.xet_room.specs.Numbers.{number_of_text}

-- ---- one word

-- the option of this name that has this number; there are at most 64 lanes
abbrev pub option_of_name : List ℕ → ℕ → Option GetOption
option_of_name name n =
    cond (bytes_eq name (codes "lanes")) (cond (nat_le n 64) (Some (word.Lanes n)) None)
    (cond (bytes_eq name (codes "least")) (Some (word.Least n))
    (cond (bytes_eq name (codes "greatest")) (Some (word.Greatest n))
    (cond (bytes_eq name (codes "budget")) (Some (word.Budget n))
    (cond (bytes_eq name (codes "perfile")) (Some (word.PerFile n))
    (cond (bytes_eq name (codes "limit")) (Some (word.Limit n)) None)))))

-- the option that has no number
abbrev pub option_of_flag : List ℕ → Option GetOption
option_of_flag w =
    cond (bytes_eq w (codes "multi")) (Some word.Multi)
    (cond (bytes_eq w (codes "vectored")) (Some word.Vectored)
    (cond (bytes_eq w (codes "cache")) (Some word.Cache) None))

-- the option that a word spells: a name, `=` and a number, or a name alone
abbrev pub option_of_word : List ℕ → Option GetOption
option_of_word w =
    cond (nat_lt (position_or_len (λ b. b == 61) w) (length w))
    (option_and_then (option_of_name (before_first (λ b. b == 61) w)) (number_of_text (after_first (λ b. b == 61) w)))
    (option_of_flag w)

-- ---- all words

-- the options where no word says one
abbrev pub no_options : Options
no_options = record {
  lanes = None;
  least = None;
  greatest = None;
  budget = None;
  per_file = None;
  limit = None;
  multirange = false;
  vectored = false;
  cache = false;
}

-- these options, unless the number was given before
abbrev pub unless_given : Option ℕ → Options → Option Options
unless_given None next = Some next
unless_given (Some n) next = None

-- the options with one more, each at most once
abbrev pub with_option : Options → GetOption → Option Options
with_option o word.Multi = cond o.multirange None (Some (record o { multirange = true }))
with_option o word.Vectored = cond o.vectored None (Some (record o { vectored = true }))
with_option o word.Cache = cond o.cache None (Some (record o { cache = true }))
with_option o (word.Lanes n) = unless_given o.lanes (record o { lanes = Some n })
with_option o (word.Least n) = unless_given o.least (record o { least = Some n })
with_option o (word.Greatest n) = unless_given o.greatest (record o { greatest = Some n })
with_option o (word.Budget n) = unless_given o.budget (record o { budget = Some n })
with_option o (word.PerFile n) = unless_given o.per_file (record o { per_file = Some n })
with_option o (word.Limit n) = unless_given o.limit (record o { limit = Some n })

-- the options with those of one more word
abbrev pub with_word : Options → List ℕ → Option Options
with_word o w = option_and_then (with_option o) (option_of_word w)

-- the options with those of more words, in any order
abbrev pub options_from : Options → List (List ℕ) → Option Options
options_from o [] = Some o
options_from o (w ∷ ws) = option_and_then (λ next. options_from next ws) (with_word o w)

abbrev pub options_of : List (List ℕ) → Option Options
options_of ws = options_from no_options ws

-- ---- what holds where a word is left out

-- how many connections there are
abbrev pub lanes_of : Options → ℕ
lanes_of o = unwrap_or o.lanes 1

-- the least and the greatest size of a query, in bytes
abbrev pub least_of : Options → ℕ
least_of o = unwrap_or o.least first_config.min_reconstruction_fetch_size

abbrev pub greatest_of : Options → ℕ
greatest_of o = unwrap_or o.greatest first_config.max_reconstruction_fetch_size

-- how many bytes may be admitted and not yet written
abbrev pub budget_bytes : Options → ℕ
budget_bytes o = unwrap_or o.budget first_config.download_buffer_size

-- the settings of a run
abbrev pub config_of : Options → ReconstructionConfig
config_of o = record {
  min_reconstruction_fetch_size = least_of o;
  max_reconstruction_fetch_size = greatest_of o;
  min_prefetch_buffer = first_config.min_prefetch_buffer;
  download_buffer_size = budget_bytes o;
  use_vectored_write = o.vectored;
  enable_multirange_fetching = o.multirange;
  tries = first_config.tries;
}

-- the settings of the book that it asks for its limit
abbrev pub budget_of : Options → BudgetSettings
budget_of o = record {
  base = budget_bytes o;
  per_file = unwrap_or o.per_file 0;
  limit = unwrap_or o.limit (2 ^ 64 - 1);
}
