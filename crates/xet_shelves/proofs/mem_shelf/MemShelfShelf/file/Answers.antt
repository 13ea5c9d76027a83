use Rattle.std.proofs.Common.{refl}
use Rattle.xet_store.proofs.CallerLemmas.{found_terms}
use Rattle.xet_shelves.proofs.mem_shelf.MemShelfShelf.file.Goals as goal

pub record_of-requires : goal.record_of-requires
record_of-requires c =
    let kept = c.in-Some.kept.now in
    let found = c.in-Some.ensures in
    found_terms c.args.self.now.store found.valid c.args.file.now kept kept.terms found.found refl
