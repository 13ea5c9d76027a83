use Rattle.std.proofs.Common.{◌<◌, arith}
use Rattle.std.proofs.lemmas.List.{get_or_default}
use Rattle.std.proofs.lemmas.List.Elements.{All-take}
use Rattle.xet_document.proofs.text_key.lead.Goals as goal

pub returns-clause-small : goal.returns-clause-small
returns-clause-small c =
    All-take (λ b. b < 256) 8 c.args.bytes.now (λ k d inside. let fits = c.type_inv.bytes k in rw (get_or_default c.args.bytes.now k d 0 inside) (omega (arith, fits)))
