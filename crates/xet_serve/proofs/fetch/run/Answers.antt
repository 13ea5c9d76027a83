use Rattle.xet_serve.proofs.fetch.run.Goals as goal

pub returns : goal.returns
returns g c = rw (c.with_config.ensures, c.with_byte_range.ensures, c.new.ensures) at c.reconstruct_to_writer.ensures.legal
