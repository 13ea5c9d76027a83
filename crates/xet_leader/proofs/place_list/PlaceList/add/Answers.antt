use Rattle.std.proofs.Common.{rules}
use Rattle.xet_leader.proofs.PlaceLists.{listed_before, listed_below, listed_one}
use Rattle.xet_leader.proofs.place_list.PlaceList.add.Goals as goal

pub invariant_of-self : goal.invariant_of-self
invariant_of-self c =
    listed_before c.self.inside.first c.self.inside.low c.self.inside.listed c.self.inside.places.items
    c.add_below.new.places.items c.args.place c.add_below.result c.self.invariant (search rules)
    c.add_below.ensures.ok c.add_below.ensures.err

pub invariant_of-self-in_default-checked_sub : goal.invariant_of-self-in_default-checked_sub
invariant_of-self-in_default-checked_sub c =
    let below = c.add_below-in_default-checked_sub in
    listed_below c.self.inside.first c.self.inside.low c.in-Some.plan c.self.inside.listed c.self.inside.places.items
    below.new.places.items c.args.place below.result c.self.invariant (search rules) (search rules) below.ensures.ok
    below.ensures.err

pub invariant_of-self-2 : goal.invariant_of-self-2
invariant_of-self-2 c =
    listed_one c.self.inside.first c.self.inside.low c.self.inside.listed c.keep.new.self _
    c.self.inside.places.items c.push_reserved.new.self.items c.args.place c.self.invariant c.in_ok-keep.ensures.ok
    (search rules) (search rules) (search rules)
