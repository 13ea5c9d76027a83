-- Laws of managers.
use Rattle.xet_terms.specs.Managers.{IsCovered, IsManager, Manager, ReachesEnd}

-- where all queries of a manager are answered up to the known end, they reach the range's end or an answer was past it
abbrev pub QueriesReach : Type 0
QueriesReach = (m : Manager) → IsManager m → IsCovered m → ReachesEnd m
