use Rattle.xet_upload.proofs.Named.{renamed-written}
use Rattle.xet_upload.proofs.open_terms.name_rest.Goals as goal

pub returns : goal.returns
returns c = renamed-written c.args.hash c.args.from c.args.terms.now c.name_terms.new.terms c.requires.within c.requires.named c.name_terms.ensures
