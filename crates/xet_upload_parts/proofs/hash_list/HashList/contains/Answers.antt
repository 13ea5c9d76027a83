use Rattle.xet_upload_parts.proofs.Hashes.{known-contains, looked, none-contains, rest-contains}
use Rattle.xet_upload_parts.proofs.hash_list.HashList.contains.Goals as goal

pub returns-then-is_some-clause-yes : goal.returns-then-is_some-clause-yes
returns-then-is_some-clause-yes c =
    let s = c.args.self.now in
    λ e. known-contains c.args.hash.now s.known s.hashes.items s.indexed s.found (looked c.args.hash.now s.known s.hashes.items s.indexed s.found _ _ _ c.number_of.ensures c.is_some.ensures e)

pub returns-else-is_some-clause-yes : goal.returns-else-is_some-clause-yes
returns-else-is_some-clause-yes c =
    let s = c.args.self.now in
    λ e. rest-contains c.args.hash.now s.known s.hashes.items s.indexed s.found ((rw (c.rest.ensures, c.as_slice.ensures.value) at c.is_among.ensures.yes) e)

pub returns-else-is_some-clause-no : goal.returns-else-is_some-clause-no
returns-else-is_some-clause-no c =
    let s = c.args.self.now in
    λ e. none-contains c.args.hash.now s.known s.hashes.items s.indexed s.found (looked c.args.hash.now s.known s.hashes.items s.indexed s.found _ _ _ c.number_of.ensures c.is_some.ensures c.if-is_some.false) ((rw (c.rest.ensures, c.as_slice.ensures.value) at c.is_among.ensures.no) e)
