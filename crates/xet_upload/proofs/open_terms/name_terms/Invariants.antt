use Rattle.std.proofs.Common.{◌≡◌, map, take, drop}
use Rattle.xet_upload.specs.FileDatas.{renamed}
use Rattle.xet_upload.proofs.open_terms.name_terms.Given as goal

abbrev pub invariant-loop-term : goal.invariant-loop-term
invariant-loop-term l =
    (take l.term-index l.terms ≡ map (renamed l.hash) (take l.term-index l.initial.terms))
    × (drop l.term-index l.terms ≡ drop l.term-index l.initial.terms)
