-- What a document lists, as a store.
use Rattle.std.specs.Prelude.{map}
use Rattle.xet_base.specs.declared.stored.StoredFile.{StoredFile}
use Rattle.xet_base.specs.Store.{Store}
use Rattle.xet_store.specs.Refusals.{stored_term}
use Rattle.xet_document.specs.declared.listing.Listing.{Listing}
use Rattle.xet_document.specs.declared.plain_files.ListedFile.{ListedFile}

-- a listed file as a store has it, without its terms' counts of bytes
abbrev pub stored_file : ListedFile → StoredFile
stored_file f = record { hash = f.hash; terms = map stored_term f.terms }

-- the store of what is listed, which may not be valid
abbrev pub listing_store : Listing → Store
listing_store l = record { xorbs = l.xorbs; files = map stored_file l.files }
