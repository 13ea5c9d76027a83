-- Laws of the store after a log.
use Rattle.std.specs.Prelude.{◌≡◌, ◌++◌, List, Some, find, is_some, option_map}
use Rattle.std.specs.Option.{option_or}
use Rattle.xet_base.specs.declared.merklehash.MerkleHash.{MerkleHash}
use Rattle.xet_base.specs.Hashes.{hash_eq}
use Rattle.xet_base.specs.Store.{Store, file_of, xorb_of}
use Rattle.xet_uploader.specs.StoresAfter.{file_of_record, files_in, store_after}
use Rattle.xet_uploader.specs.Uploads.{xorbs_in}
use Rattle.xet_uploader.specs.declared.uploader.Put.{Put}
use Rattle.xet_shelves.specs.After.{after}
use Rattle.xet_shelves.specs.Shelves.{has_file, has_xorb}

-- the store after two logs is that after the second, begun with that after the first
abbrev pub AfterMore : Type 0
AfterMore = (s : Store) (a b : List Put) → after s (a ++ b) ≡ after (after s a) b

-- it finds the xorb that the store had, or else the first of the log
abbrev pub AfterHasXorbs : Type 0
AfterHasXorbs = (s : Store) (log : List Put) (h : MerkleHash)
    → xorb_of (after s log) h ≡ option_or (xorb_of s h) (find (λ x. hash_eq x.hash h) (xorbs_in log))

-- and the file that the store had, or else that of the first record of the log
abbrev pub AfterHasFiles : Type 0
AfterHasFiles = (s : Store) (log : List Put) (h : MerkleHash)
    → file_of (after s log) h
    ≡ option_or (file_of s h) (option_map file_of_record (find (λ f. hash_eq f.hash h) (files_in log)))

-- a look tells what it has
abbrev pub LooksTell : Type 0
LooksTell = (s : Store) (log : List Put) (h : MerkleHash)
    → (has_xorb s log h ≡ is_some (xorb_of (after s log) h)) × (has_file s log h ≡ is_some (file_of (after s log) h))

-- it is the store that a log gives whose records stand behind the xorbs that they name
abbrev pub AfterGives : Type 0
AfterGives = (s t : Store) (log : List Put) → store_after s log ≡ Some t → t ≡ after s log
