use Rattle.std.proofs.Common.{◌≡◌, ◌-◌, ◌≤◌, ◌∙◌, Some, arith, get_or, length, refl, sym, ap}
use Rattle.xet_findings.proofs.Sizes.{is_between, not_between, past_between, place, place_is, places_apart, places_count}
use Rattle.xet_findings.proofs.chunk_places.bytes_between.Goals as goal

pub returns-then-from-to : goal.returns-then-from-to
returns-then-from-to c = λ cs are. sym (not_between cs c.args.from c.args.to c.if-from-to.true)

pub returns-then-to-places : goal.returns-then-to-places
returns-then-to-places c = λ cs are.
    let past = c.if-to-places.true in
    let count = places_count cs c.args.places.now are in
    sym (past_between cs c.args.from c.args.to (omega (arith, past, count)))

pub returns : goal.returns
returns c = λ cs are.
    let from = c.args.from in
    let to = c.args.to in
    let count = places_count cs c.args.places.now are in
    let within : to ≤ length cs = omega (arith, count) in
    let a = place_is cs c.args.places.now are from 0 (omega arith) in
    let b = place_is cs c.args.places.now are to 0 within in
    let size : c.saturating_sub.result ≡ place cs to - place cs from = c.saturating_sub.ensures ∙ (let e : get_or c.args.places.now to 0 - get_or c.args.places.now from 0 ≡ place cs to - place cs from = rw (a, b) refl in e) in
    ap Some (size ∙ places_apart cs from to (omega arith)) ∙ sym (is_between cs from to (omega arith) within)
