use Rattle.std.proofs.Common.{◌≡◌, ◌∙◌, ◌+◌, ap, sym, subst, List, ◌++◌, ◌∷◌, [], All, flat_map, get_or, map, take}
use Rattle.std.proofs.lemmas.List.{get_or_default, take_all, take_more}
use Rattle.std.proofs.lemmas.List.Elements.{All-nil, All-push}
use Rattle.std.proofs.lemmas.List.Folds.{flat_map-map}
use Rattle.json.specs.Token.{Token}
use Rattle.xet_base.specs.declared.mdb_shard.FileDataSequenceEntry.{FileDataSequenceEntry}
use Rattle.xet_store.specs.Refusals.{stored_term}
use Rattle.xet_compact.specs.Documents.{IsListableTerm}
use Rattle.xet_compact.specs.steps.Writes.{Adds, term_tokens}
use Rattle.xet_compact.proofs.Writes.{adds_next, adds_none}
use Rattle.xet_compact.proofs.writing.write_terms.Goals as goal

-- the default of a read
abbrev no_term : FileDataSequenceEntry
no_term = record { xorb = record { 0 = [] }; from = 0; to = 0; bytes = 0 }

abbrev own_tokens : FileDataSequenceEntry → List Token
own_tokens t = term_tokens (stored_term t)

pub loop-term-init : goal.loop-term-init
loop-term-init c = record { written = adds_none c.args.out.now; told = All-nil (λ (r : FileDataSequenceEntry). IsListableTerm (stored_term r)) }

pub loop-term-preserved : goal.loop-term-preserved
loop-term-preserved c =
    let ts = c.args.terms.now in
    let i = c.loop-term.term-index in
    let t = get_or ts i no_term in
    let w = c.loop-term.invariant in
    let more = take_more ts i no_term c.loop-term-test.true in
    record {
      written = adds_next own_tokens ts i t c.loop-term-test.true (get_or_default ts i no_term t
          c.loop-term-test.true) w.written c.in_ok-write_term.ensures.written;
      told = subst (λ (l : List FileDataSequenceEntry). All (λ r. IsListableTerm (stored_term r)) l) (sym more) (All-push
          (λ (r : FileDataSequenceEntry). IsListableTerm (stored_term r)) (take i ts) t w.told c.in_ok-write_term.ensures.told);
    }

pub returns : goal.returns
returns c =
    let ts = c.args.terms.now in
    let w = c.loop-term.invariant in
    let all = take_all c.loop-term.term-index ts c.loop-term-test.false in
    record {
      written = subst (λ (us : List Token). Adds c.args.out.now c.loop-term.out us) (ap (flat_map own_tokens) all
          ∙ sym (flat_map-map term_tokens stored_term ts)) w.written;
      told = subst (λ (l : List FileDataSequenceEntry). All (λ r. IsListableTerm (stored_term r)) l) all w.told;
    }
