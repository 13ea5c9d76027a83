use Rattle.xet_bench.proofs.running.run_over.Goals as goal

pub returns : goal.returns
returns g c =
    rw (c.with_budget_book.ensures, c.with_config.ensures, c.new.ensures) at c.reconstruct_to_writer.ensures.legal
