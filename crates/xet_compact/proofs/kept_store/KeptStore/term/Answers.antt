use Rattle.std.proofs.Common.{◌≡◌, ◌∙◌, ℕ, ap, sym, arith, List, length, is_some, get_or}
use Rattle.std.proofs.lemmas.Option.{same_Some}
use Rattle.xet_base.specs.declared.stored.StoredTerm.{StoredTerm}
use Rattle.xet_store.specs.Refusals.{stored_term}
use Rattle.xet_compact.specs.declared.kept_xorb.KeptXorb.{KeptXorb}
use Rattle.xet_compact.proofs.KeptXorbs.{kept_term_of}
use Rattle.xet_compact.proofs.kept_store.KeptStore.term.Goals as goal

pub unwrap-place-requires : goal.unwrap-place-requires
unwrap-place-requires c =
    let me = c.args.self.now in
    let k = kept_term_of me.raw.now me.index me.kept (stored_term c.args.term.now) c.requires.kept c.requires.inside in
    ap is_some (c.number_of.ensures ∙ k.found)

pub bounds-numbers-term : goal.bounds-numbers-term
bounds-numbers-term c =
    let me = c.args.self.now in
    let k = kept_term_of me.raw.now me.index me.kept (stored_term c.args.term.now) c.requires.kept c.requires.inside in
    let place = same_Some c.unwrap-place.result k.place (sym c.unwrap-place.ensures ∙ c.number_of.ensures ∙ k.found) in
    let r = c.index-as_slice-place.result in
    let at = c.index-as_slice-place.is ∙ ap (λ (l : List KeptXorb). get_or l c.unwrap-place.result r) c.as_slice.ensures
    ∙ ap (λ (n : ℕ). get_or me.kept n r) place in
    let long = ap length c.as_slice-numbers.ensures ∙ ap (λ (y : KeptXorb). length y.numbers) at ∙ k.long r in
    let inside = k.from_in in
    omega (arith, long, inside)

pub bounds-numbers-term-2 : goal.bounds-numbers-term-2
bounds-numbers-term-2 c =
    let me = c.args.self.now in
    let k = kept_term_of me.raw.now me.index me.kept (stored_term c.args.term.now) c.requires.kept c.requires.inside in
    let place = same_Some c.unwrap-place.result k.place (sym c.unwrap-place.ensures ∙ c.number_of.ensures ∙ k.found) in
    let r = c.index-as_slice-place.result in
    let at = c.index-as_slice-place.is ∙ ap (λ (l : List KeptXorb). get_or l c.unwrap-place.result r) c.as_slice.ensures
    ∙ ap (λ (n : ℕ). get_or me.kept n r) place in
    let long = ap length c.as_slice-numbers.ensures ∙ ap (λ (y : KeptXorb). length y.numbers) at ∙ k.long r in
    let inside = k.to_in in
    omega (arith, long, inside)

pub returns-clause-renumbered : goal.returns-clause-renumbered
returns-clause-renumbered c =
    let me = c.args.self.now in
    let t = stored_term c.args.term.now in
    let k = kept_term_of me.raw.now me.index me.kept t c.requires.kept c.requires.inside in
    let place = same_Some c.unwrap-place.result k.place (sym c.unwrap-place.ensures ∙ c.number_of.ensures ∙ k.found) in
    let r = c.index-as_slice-place.result in
    let at = c.index-as_slice-place.is ∙ ap (λ (l : List KeptXorb). get_or l c.unwrap-place.result r) c.as_slice.ensures
    ∙ ap (λ (n : ℕ). get_or me.kept n r) place in
    let numbers = c.as_slice-numbers.ensures ∙ ap (λ (y : KeptXorb). y.numbers) at in
    let hash = ap (λ (y : KeptXorb). y.hash) at ∙ k.hash r in
    let from = ap (λ (l : List ℕ). get_or l t.from 0) numbers ∙ k.from r in
    let to = ap (λ (l : List ℕ). get_or l t.to 0) numbers ∙ k.to r in
    λ i. let u : StoredTerm = record { xorb = hash i; from = from i; to = to i } in u
