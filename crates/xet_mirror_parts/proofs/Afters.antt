-- Puts without files leave the files of a store as they are.
use Rattle.std.proofs.Common.{◌≡◌, List, [], ◌++◌, ◌∙◌, ap}
use Rattle.std.specs.Prelude.{find, option_map}
use Rattle.std.specs.Option.{option_or}
use Rattle.xet_base.specs.declared.merklehash.MerkleHash.{MerkleHash}
use Rattle.xet_base.specs.declared.mdb_shard.MDBFileInfo.{MDBFileInfo}
use Rattle.xet_base.specs.Hashes.{hash_eq}
use Rattle.xet_base.specs.Store.{Store, file_of}
use Rattle.xet_uploader.specs.declared.uploader.Put.{Put}
use Rattle.xet_uploader.specs.StoresAfter.{file_of_record, files_in}
use Rattle.xet_shelves.specs.After.{after}
use Rattle.xet_shelves.proofs.CallerLemmas.{after-append, after_finds_files}
use Rattle.xet_mirror_parts.proofs.Finds.{or-none}

pub after-file-same : (t : Store) (ps qs : List Put) (h : MerkleHash) → files_in qs ≡ []
    → file_of (after t (ps ++ qs)) h ≡ file_of (after t ps) h
after-file-same t ps qs h none =
    ap (λ (u : Store). file_of u h) (after-append t ps qs) ∙ after_finds_files (after t ps) qs h
    ∙ ap (λ fs. option_or (file_of (after t ps) h) (option_map file_of_record (find (λ (f : MDBFileInfo). hash_eq f.hash h) fs))) none
    ∙ or-none (file_of (after t ps) h)
