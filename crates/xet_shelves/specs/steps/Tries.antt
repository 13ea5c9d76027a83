-- Adding the xorbs and the file records of a log to a store, one of the two kinds after the other.
use Rattle.std.specs.Prelude.{List, [], ◌∷◌, Option, Some, option_and_then}
use Rattle.xet_base.specs.Store.{Store}
use Rattle.xet_uploader.specs.StoresAfter.{with_files, with_xorb}
use Rattle.xet_uploader.specs.declared.uploader.Put.{Put}
use Rattle.xet_uploader.specs.declared.uploader.Put.TheVariants as put

-- the store with a put's xorb, and with its file records, or none where one is refused for another cause than a taken
-- hash
abbrev pub put_xorb : Store → Put → Option Store
put_xorb s (put.Xorb x) = with_xorb s x
put_xorb s (put.Shard r) = Some s

abbrev pub put_files : Store → Put → Option Store
put_files s (put.Xorb x) = Some s
put_files s (put.Shard r) = with_files s r.files

-- the same put after put
abbrev pub each_put : (Store → Put → Option Store) → Store → List Put → Option Store
each_put step s [] = Some s
each_put step s (p ∷ ps) = option_and_then (λ t. each_put step t ps) (step s p)
