-- What is written of a store in order, token by token.
use Rattle.std.specs.Prelude.{ℕ, ◌≡◌, ◌++◌, List, [], ◌∷◌, codes, decimal}
use Rattle.std.specs.List.{flat_map}
use Rattle.hex.specs.Hex.{encode_lower}
use Rattle.json.specs.Token.{Token, begin_array, begin_object, end_array, end_object, key, number, string}
use Rattle.json.specs.Written.{Written}
use Rattle.xet_base.specs.declared.mdb_shard.Xorb.{Xorb}
use Rattle.xet_base.specs.declared.stored.StoredFile.{StoredFile}
use Rattle.xet_base.specs.declared.stored.StoredTerm.{StoredTerm}
use Rattle.xet_base.specs.Store.{Store}

-- behind what was written these tokens are
pub record Adds (old new : Written) (ts : List Token) : Type 0 where
  pub before : new.before ≡ old.before
  pub tokens : new.tokens ≡ old.tokens ++ ts

-- a chunk, a term
abbrev pub chunk_tokens : List ℕ → List Token
chunk_tokens c = string (encode_lower c) ∷ []

abbrev pub term_tokens : StoredTerm → List Token
term_tokens t =
    begin_array ∷ string (encode_lower t.xorb.0) ∷ number (decimal t.from) ∷ number (decimal t.to) ∷ end_array ∷ []

-- a xorb, a file: the hash, and the list
abbrev pub xorb_tokens : Xorb → List Token
xorb_tokens x = key (encode_lower x.hash.0) ∷ begin_array ∷ (flat_map chunk_tokens x.chunks ++ end_array ∷ [])

abbrev pub file_tokens : StoredFile → List Token
file_tokens f = key (encode_lower f.hash.0) ∷ begin_array ∷ (flat_map term_tokens f.terms ++ end_array ∷ [])

-- the two objects, with what is in them
abbrev pub within_tokens : List ℕ → List Token → List Token
within_tokens name ts = key name ∷ begin_object ∷ (ts ++ end_object ∷ [])

abbrev pub store_tokens : Store → List Token
store_tokens s =
    begin_object ∷ (within_tokens (codes "files") (flat_map file_tokens s.files)
    ++ (within_tokens (codes "xorbs") (flat_map xorb_tokens s.xorbs) ++ end_object ∷ []))
