use Rattle.std.proofs.Common.{◌≡◌, ◌<◌, ◌∙◌, ap, get_or, length, rules}
use Rattle.std.specs.Prelude.{Some}
use Rattle.std.specs.Ordering.{is_eq}
use Rattle.std.proofs.lemmas.Option.{slice_get-get_or}
use Rattle.xet_base.proofs.Lookups.{position-found}
use Rattle.xet_base.proofs.Positions.{numbers_set}
use Rattle.xet_base.proofs.keyed_list.KeyedList.replace.Goals as goal

pub index_mut-requires : goal.index_mut-requires
index_mut-requires g c =
    let asked = rw (← c.self.view_is) at c.requires in
    let within : c.args.number < length c.self.inside.values.items = (position-found (λ v. is_eq (g.K.Ord.cmp (g.V.Keyed.key_of v) (g.V.Keyed.key_of c.args.value))) c.self.inside.values.items c.args.number asked).0 in
    search (rules, within)

pub invariant_of-self : goal.invariant_of-self
invariant_of-self g c =
    let values = c.self.inside.values.items in
    let old = c.replace.result in
    let key = g.V.Keyed.key_of in
    let there : get_or values c.args.number old ≡ old = search rules in
    let asked = rw (← c.self.view_is) at c.requires in
    let same = (position-found (λ v. is_eq (g.K.Ord.cmp (key v) (key c.args.value))) values c.args.number asked).1 old in
    rw c.replace.ensures.after (numbers_set g.met.K.Ord.total key values c.self.inside.numbers c.args.number old c.args.value c.self.invariant there (rw there at same))

pub returns-clause-old : goal.returns-clause-old
returns-clause-old g c =
    let values = c.self.inside.values.items in
    let old = c.replace.result in
    let there : get_or values c.args.number old ≡ old = search rules in
    let asked = rw (← c.self.view_is) at c.requires in
    let found = position-found (λ v. is_eq (g.K.Ord.cmp (g.V.Keyed.key_of v) (g.V.Keyed.key_of c.args.value))) values c.args.number asked in
    rw (← c.self.view_is) (slice_get-get_or values c.args.number old found.0 ∙ ap Some there)
