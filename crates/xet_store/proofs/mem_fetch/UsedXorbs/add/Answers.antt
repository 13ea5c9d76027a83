use Rattle.std.proofs.Common.{arith, sym, ◌≡◌, ◌∙◌, ◌≤◌, ◌++◌, ◌∷◌, List, [], length, take, get_or, ap, subst, Bool, None}
use Rattle.std.proofs.lemmas.List.{take_more}
use Rattle.std.proofs.lemmas.List.Quantifiers.{position-Some}
use Rattle.xet_base.specs.Hashes.{hash_eq}
use Rattle.xet_base.specs.Store.{chunks_of}
use Rattle.xet_base.proofs.CallerLemmas.{hash_eq-true}
use Rattle.xet_outside.specs.declared.plan.PlanTerm.{PlanTerm}
use Rattle.xet_store.specs.steps.UsedXorbs.{IsTouched}
use Rattle.xet_store.proofs.UsedXorbs.{used_found, used_new}
use Rattle.xet_store.proofs.mem_fetch.UsedXorbs.add.Goals as goal

-- the default of a read
abbrev no_term : PlanTerm
no_term = record { xorb = record { 0 = [] }; unpacked_length = 0; range = record { start = 0; end = 0 } }

pub mark-requires : goal.mark-requires
mark-requires c =
    let hs = c.args.self.now.hashes in
    let before = take c.args.number c.args.terms.now in
    let t = get_or c.args.terms.now c.args.number no_term in
    let is = position-Some (λ y. hash_eq y t.xorb) hs c.in-Some.known t.xorb (sym c.in_ok-known.ensures.number
    ∙ c.in-Some.is) in
    let same = hash_eq-true (get_or hs c.in-Some.known t.xorb) t.xorb is.1 in
    let touched : IsTouched c.args.store.now before (get_or hs c.in-Some.known t.xorb) c.index_mut.result.now =
    subst (λ (m : List Bool). IsTouched c.args.store.now before (get_or hs c.in-Some.known t.xorb) m)
    (sym c.index_mut.ensures.value) (c.requires.before.touched c.in-Some.known t.xorb c.index_mut.result.now is.0) in
    let n = touched.count in
    let fits : t.range.end ≤ length (chunks_of c.args.store.now t.xorb) = c.requires.inside c.args.number no_term
    c.requires.some in
    omega (arith, n, fits, ap (λ h. length (chunks_of c.args.store.now h)) same)

pub returns-in-Some : goal.returns-in-Some
returns-in-Some c =
    let ts = c.args.terms.now in
    let i = c.args.number in
    let t = get_or ts i no_term in
    let h = c.args.self.now.hashes in
    let same : c.number_near.new.hashes ≡ h = rw c.in-Some.is at c.in_ok-known.ensures.list in
    rw (same, take_more ts i no_term c.requires.some)
    (used_found c.args.store.now (take i ts) t h c.args.self.now.touched.items c.in-Some.known c.index_mut.result.now
    c.mark.new.self c.requires.before (sym c.in_ok-known.ensures.number ∙ c.in-Some.is) c.index_mut.ensures.value
    c.mark.ensures.length c.mark.ensures.marks)

pub returns : goal.returns
returns c =
    let ts = c.args.terms.now in
    let i = c.args.number in
    let t = get_or ts i no_term in
    let h = c.args.self.now.hashes in
    let none : c.in_ok-known.field-0 ≡ None = c.in_default.is in
    let longer : c.number_near.new.hashes ≡ h ++ t.xorb ∷ [] = rw none at c.in_ok-known.ensures.list in
    rw (longer, take_more ts i no_term c.requires.some, c.in_ok-push.ensures.items)
    (used_new c.args.store.now (take i ts) t h c.args.self.now.touched.items c.in_ok-chunks.chunks
    c.requires.before (sym c.in_ok-known.ensures.number ∙ none)
    (c.in_ok-chunks.ensures.length ∙ c.chunk_count-count.ensures) c.in_ok-chunks.ensures.marks)
