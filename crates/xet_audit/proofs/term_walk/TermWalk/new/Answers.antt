use Rattle.xet_audit.proofs.Marking.{none_marked}
use Rattle.xet_audit.proofs.term_walk.TermWalk.new.Goals as goal

pub returns-clause-named : goal.returns-clause-named
returns-clause-named c = λ keys len. none_marked keys c.in_ok-no_marks.field-0.items c.args.count c.in_ok-no_marks.ensures len
