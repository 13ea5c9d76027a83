use Rattle.std.proofs.Common.{◌≡◌, ◌∙◌, ◌+◌, ◌∷◌, ◌++◌, [], None, Some, ap, true, rules}
use Rattle.std.specs.BTreeMap.{insert_entry, is_at, Updates}
use Rattle.std.specs.Map.{lookup, values_of}
use Rattle.std.specs.Ordering.{nat_cmp}
use Rattle.xet_queue.specs.steps.Indexed.{all_below, pair_cmp}
use Rattle.xet_queue.proofs.Indexes.{below_more, insert_last, no_number, tied_back, tied_more, values_more}
use Rattle.xet_queue.proofs.waiting.Waiting.add.Goals as goal

pub invariant_of-self-then-is_err-2 : goal.invariant_of-self-then-is_err-2
invariant_of-self-then-is_err-2 g c =
    let key = g.V.Keyed.key_of in
    let i = c.self.inside in
    let n = i.next in
    let same : c.insert-2.new.self.entries ≡ i.values.entries = search rules in
    let v : Updates pair_cmp i.index c.insert.new.self (key c.args.value, n) (Some tt) = search rules in
    let w : Updates pair_cmp c.insert.new.self c.remove.new.self (key c.args.value, n) None = rw c.key.ensures at c.remove.ensures.updates in
    let absent = no_number n i.values.entries c.self.invariant.0 in
    let below : all_below n c.insert-2.new.self.entries ≡ true = rw same c.self.invariant.0 in
    (below, tied_back key i.values c.insert-2.new.self i.index c.insert.new.self c.remove.new.self (key c.args.value) n c.self.invariant.1 absent (λ q. ap (λ es. lookup (is_at (nat_cmp q)) es) same) v.0 w.0)

pub invariant_of-self-2 : goal.invariant_of-self-2
invariant_of-self-2 g c =
    let key = g.V.Keyed.key_of in
    let i = c.self.inside in
    let n = i.next in
    let added : c.insert-2.new.self.entries ≡ insert_entry nat_cmp i.values.entries n c.args.value = search rules in
    let e = added ∙ insert_last n c.args.value i.values.entries c.self.invariant.0 in
    let u : Updates nat_cmp i.values c.insert-2.new.self n (Some c.args.value) = search rules in
    let v : Updates pair_cmp i.index c.insert.new.self (key c.args.value, n) (Some tt) = search rules in
    let z : c.in-Some.next ≡ n + 1 = search rules in
    let absent = no_number n i.values.entries c.self.invariant.0 in
    let below : all_below c.in-Some.next c.insert-2.new.self.entries ≡ true = rw (z, e) (below_more n c.args.value i.values.entries c.self.invariant.0) in
    (below, tied_more key i.values c.insert-2.new.self i.index c.insert.new.self c.args.value n c.self.invariant.1 absent u.0 v.0)

pub returns-clause-ok : goal.returns-clause-ok
returns-clause-ok g c =
    let i = c.self.inside in
    let added : c.insert-2.new.self.entries ≡ insert_entry nat_cmp i.values.entries i.next c.args.value = search rules in
    ap values_of (added ∙ insert_last i.next c.args.value i.values.entries c.self.invariant.0) ∙ values_more i.next c.args.value i.values.entries ∙ ap (λ l. l ++ c.args.value ∷ []) c.self.view_is
