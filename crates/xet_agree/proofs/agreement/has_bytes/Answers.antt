use Rattle.xet_store.proofs.CallerLemmas.{found_short, found_terms}
use Rattle.xet_agree.proofs.agreement.has_bytes.Goals as goal

pub have_equal_bytes-requires-clause-second : goal.have_equal_bytes-requires-clause-second
have_equal_bytes-requires-clause-second c =
    let e = c.in-Some.ensures in
    found_terms c.args.t.now e.valid c.hash.result c.in-Some.other.now c.terms-in-Some.result.now e.found c.terms-in-Some.ensures

pub have_equal_bytes-requires-clause-second_short : goal.have_equal_bytes-requires-clause-second_short
have_equal_bytes-requires-clause-second_short c =
    let e = c.in-Some.ensures in
    found_short c.args.t.now e.valid c.hash.result c.in-Some.other.now c.terms-in-Some.result.now e.found c.terms-in-Some.ensures
