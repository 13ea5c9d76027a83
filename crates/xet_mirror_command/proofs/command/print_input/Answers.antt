use Rattle.xet_mirror_command.proofs.command.print_input.Goals as goal

pub returns-clause-printed : goal.returns-clause-printed
returns-clause-printed g c =
    let s = c.args.input.stores.source in
    let t = c.args.input.stores.target in
    let ends = rw c.as_slice.ensures at c.run-answer.ensures in
    rw c.as_slice-2.ensures at (c.print_answer.ensures.printed c.args.verify s t (rw c.as_slice-2.ensures ends))
