-- The made store, and what is printed of its file.
use Rattle.std.specs.Prelude.{ℕ, ◌+◌, ◌*◌, ◌%◌, List, [], ◌∷◌, ◌++◌, length, map, sum, codes, replicate}
use Rattle.std.specs.Fmt.{decimal}
use Rattle.std.specs.List.{range_with_len}
use Rattle.hex.specs.Hex.{encode_lower}
use Rattle.sha2.specs.Sha256.{sha256}
use Rattle.xet_base.specs.declared.merklehash.MerkleHash.{MerkleHash}
use Rattle.xet_base.specs.declared.mdb_shard.Xorb.{Xorb}
use Rattle.xet_base.specs.declared.stored.StoredFile.{StoredFile}
use Rattle.xet_base.specs.declared.stored.StoredTerm.{StoredTerm}
use Rattle.xet_base.specs.Store.{Store, bytes_of}

-- ---- the store

-- chunk number c has the bytes c, c + 1 and so on, from 1 to 64 of them
abbrev pub bench_chunk : ℕ → List ℕ
bench_chunk c = range_with_len c (1 + c % 64)

-- the hash with this number: 32 times the same byte
abbrev pub numbered : ℕ → MerkleHash
numbered n = record { 0 = replicate 32 n }

-- xorb number i has 16 chunks, whose numbers go on from one xorb to the next
abbrev pub bench_xorb : ℕ → Xorb
bench_xorb i = record { hash = numbered i; chunks = map bench_chunk (range_with_len (16 * i) 16) }

-- term number k is of xorb k mod 8, from chunk k mod 13 on, of 1 to 3 chunks
abbrev pub bench_term : ℕ → StoredTerm
bench_term k = record { xorb = numbered (k % 8); from = k % 13; to = k % 13 + 1 + k % 3 }

-- a store of the first so many xorbs, without a file
abbrev pub first_xorbs : ℕ → Store
first_xorbs n = record { xorbs = map bench_xorb (range_with_len 0 n); files = [] }

-- the hash of the one file
abbrev pub bench_file : MerkleHash
bench_file = numbered 255

-- the file of the first so many terms
abbrev pub file_of_terms : ℕ → StoredFile
file_of_terms n = record { hash = bench_file; terms = map bench_term (range_with_len 0 n) }

-- a store of 8 such xorbs, with a file of so many terms
abbrev pub bench_store : ℕ → Store
bench_store n = record { xorbs = map bench_xorb (range_with_len 0 8); files = file_of_terms n ∷ [] }

-- the bytes of the file
abbrev pub bench_bytes : ℕ → List ℕ
bench_bytes n = bytes_of (bench_store n) bench_file

-- ---- what is printed

-- a line of a name and its value
abbrev pub named_line : List ℕ → List ℕ → List ℕ
named_line name value = name ++ 32 ∷ value ++ 10 ∷ []

-- four lines: so many terms, and of these bytes their number, their sum and their SHA-256
abbrev pub summary_of : ℕ → List ℕ → List ℕ
summary_of n bytes = named_line (codes "terms") (decimal n) ++ named_line (codes "bytes") (decimal (length bytes))
    ++ named_line (codes "sum") (decimal (sum bytes)) ++ named_line (codes "sha256") (encode_lower (sha256 bytes))

-- those of a file of so many terms
abbrev pub bench_text : ℕ → List ℕ
bench_text n = summary_of n (bench_bytes n)
