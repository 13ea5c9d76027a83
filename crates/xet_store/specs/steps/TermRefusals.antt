-- Why the terms of a file are refused.
use Rattle.std.specs.Prelude.{◌^◌, not, if◌then◌else◌, List, Option, Some, None, nat_le}
use Rattle.std.specs.List.{list_all, sum_by}
use Rattle.xet_base.specs.declared.mdb_shard.FileDataSequenceEntry.{FileDataSequenceEntry}
use Rattle.xet_base.specs.Store.{Store}
use Rattle.xet_store.specs.Refusals.{is_term_in, stored_term, term_length}
use Rattle.xet_store.specs.declared.mem_store.StoreRefused.{StoreRefused}
use Rattle.xet_store.specs.declared.mem_store.StoreRefused.TheVariants.{TooLong, BadTerm}

-- why a store refuses a file of these terms whose hash is not there, where it does
abbrev pub terms_refusal : Store → List FileDataSequenceEntry → Option StoreRefused
terms_refusal s ts =
    if not (list_all (λ t. is_term_in s (stored_term t)) ts) then Some BadTerm
    else (if nat_le (2 ^ 64) (sum_by (λ t. term_length s (stored_term t)) ts) then Some TooLong
    else None)
