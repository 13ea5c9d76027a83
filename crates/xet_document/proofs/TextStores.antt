-- The store of a text, by its value.
use Rattle.std.proofs.Common.{◌≡◌, [], ◌∷◌, ℕ, List, true, refl, sym, ap, ◌∙◌, subst}
use Rattle.std.specs.Prelude.{Option, Some, None, Result, Ok, Err, IfOk, MatchOption, is_some}
use Rattle.std.proofs.lemmas.Bool.{false≢true}
use Rattle.json.specs.Json.{skip_value, value}
use Rattle.json.specs.Lex.{tokens}
use Rattle.json.specs.Reads.{token_of}
use Rattle.json.specs.Token.{Token}
use Rattle.json.specs.declared.token.Token.{Token as Handed}
use Rattle.json.proofs.Grammar.{left_none, left_some}
use Rattle.serde_json.specs.Data.{Data}
use Rattle.serde_json.specs.Read.{read}
use Rattle.xet_base.specs.Store.{Store}
use Rattle.xet_document.specs.Document.{HasStore, IsDocumentOf, IsNoDocument, NoStore, Reads}

same_data : (x y : Data) → ◌≡◌ {A = Option Data} (Some x) (Some y) → x ≡ y
same_data x y e = cc

-- a text reads as one value, so its store is that of this value
pub by_value : {E : Type 0} (text : List ℕ) (d : Data) (r : Result (Option Store) E) → Reads text d → IfOk r (λ o. MatchOption o (IsNoDocument d) (IsDocumentOf d)) → IfOk r (λ o. MatchOption o (NoStore text) (HasStore text))
by_value text d (Err e) reads h = tt
by_value text d (Ok None) reads h = λ s has. h s (subst (λ (x : Data). IsDocumentOf x s) (same_data has.data_of d (sym has.reads.value ∙ reads.value)) has.store)
by_value text d (Ok (Some s)) reads h = record { data_of = d; reads = reads; store = h }

-- ---- a text without a value

-- where the tokens give none
pub no_value : (text : List ℕ) → skip_value 127 (tokens text) ≡ None → read text ≡ None
no_value text none = rw (left_none (value 127 (tokens text)) none) refl

-- and where some are left behind it
pub left_over : (text : List ℕ) (now new : List Token) (o : Option Handed) → skip_value 127 (tokens text) ≡ Some now → MatchOption o ((now ≡ []) × (new ≡ [])) (λ t. now ≡ token_of t ∷ new)
    → is_some o ≡ true → read text ≡ None
left_over text now new None some next e = absurd (false≢true e)
left_over text now new (Some t) some next e =
    let found = left_some (value 127 (tokens text)) (token_of t ∷ new) (some ∙ ap Some next) in
    rw found.1 refl
