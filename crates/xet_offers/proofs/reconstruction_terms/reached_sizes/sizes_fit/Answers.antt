use Rattle.std.proofs.Common.{◌≡◌, ◌^◌, ◌<◌, [], ap, arith, drop, map, sym}
use Rattle.std.specs.Prelude.{sum}
use Rattle.std.proofs.lemmas.Bool.{lt-ltb}
use Rattle.std.proofs.lemmas.List.{drop_all}
use Rattle.xet_offers.proofs.ReachedSums.{size}
use Rattle.xet_offers.proofs.reconstruction_terms.reached_sizes.sizes_fit.Goals as goal

pub returns : goal.returns
returns c =
    let terms = c.args.terms.now in
    let none : drop c.loop-term.term-index terms ≡ [] = drop_all c.loop-term.term-index terms c.loop-term-test.false in
    let rest : sum (map size (drop c.loop-term.term-index terms)) ≡ 0 = ap (λ l. sum (map size l)) none in
    let fits : sum (map size terms) < 2 ^ 64 = omega (arith, c.loop-term.invariant.rest, c.loop-term.invariant.fits, rest) in
    sym (lt-ltb (sum (map size terms)) (2 ^ 64) fits)
