use Rattle.std.proofs.Common.{sym, ◌∙◌}
use Rattle.xet_audit.proofs.Tables.{added_found, added_new}
use Rattle.xet_audit.proofs.first_places.FirstPlaces.add.Goals as goal

pub returns-then-is_some : goal.returns-then-is_some
returns-then-is_some c = λ hs t len.
    added_found hs c.args.self.now.hashes c.number_or_add.new.self c.args.self.now.places.items c.args.hash c.in_ok-number_or_add.field-0 t
    c.in_ok-number_or_add.ensures.number c.in_ok-number_or_add.ensures.list (sym c.is_some.ensures ∙ c.if-is_some.true)

pub returns : goal.returns
returns c = λ hs t len.
    added_new hs c.args.self.now.hashes c.number_or_add.new.self c.args.self.now.places.items c.push.new.self.items c.args.hash c.args.place c.in_ok-number_or_add.field-0 t
    c.in_ok-number_or_add.ensures.number c.in_ok-number_or_add.ensures.list (sym c.is_some.ensures ∙ c.if-is_some.false) len c.in_ok-push.ensures.items
