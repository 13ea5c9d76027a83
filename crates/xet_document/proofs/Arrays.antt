-- Arrays that are read an item at a time.
use Rattle.std.proofs.Common.{◌≡◌, ℕ, ◌-◌, ◌<◌, ◌≤◌, Bool, List, [], ◌∷◌, ◌++◌, length, Option, Some, None, option_map, option_and_then, refl, ◌∙◌, ap, arith}
use Rattle.json.specs.Token.{Token}
use Rattle.json.specs.Json as json
use Rattle.json.specs.Json.{parse_map, after_end_array, items, value}
use Rattle.json.proofs.Grammar.{value_is, value-begin_array, items_end, items_more}
use Rattle.serde_json.specs.Data.{Data, array, boolean, null, string, number, Num, Items, no_items, item}
use Rattle.serde_json.specs.Find.{as_array}
use Rattle.serde_json.specs.Read.{of_json, of_items, number_of}
use Rattle.xet_base.specs.declared.stored.StoredTerm.{StoredTerm}
use Rattle.xet_document.specs.Document.{chunk_of, chunks_of_items, term_of_items, terms_of_items}
use Rattle.xet_document.specs.steps.Reads.{ReadsItems, ReadsValue}

-- ---- values of one token, and arrays that open

pub reads_string : (depth : ℕ) (text : List ℕ) (rest : List Token) → ReadsValue depth (Token.string text ∷ rest) (string text) rest
reads_string depth text rest = record { found = json.string text; reads = value_is depth (Token.string text ∷ rest); is = refl }

pub reads_number : (depth : ℕ) (text : List ℕ) (n : Num) (rest : List Token) → number_of text ≡ Some n → ReadsValue depth (Token.number text ∷ rest) (number n) rest
reads_number depth text n rest e = record { found = json.number text; reads = value_is depth (Token.number text ∷ rest); is = rw e refl }

pub reads_boolean : (depth : ℕ) (b : Bool) (rest : List Token) → ReadsValue depth (Token.boolean b ∷ rest) (boolean b) rest
reads_boolean depth b rest = record { found = json.boolean b; reads = value_is depth (Token.boolean b ∷ rest); is = refl }

pub reads_null : (depth : ℕ) (rest : List Token) → ReadsValue depth (Token.null ∷ rest) null rest
reads_null depth rest = record { found = json.null; reads = value_is depth (Token.null ∷ rest); is = refl }

pub reads_array : (depth : ℕ) (before after : List Token) (ds : Items) → 0 < depth → ReadsItems (depth - 1) before ds after → ReadsValue depth (Token.begin_array ∷ before) (array ds) after
reads_array depth before after ds some e = record {
  found = json.array e.found;
  reads = value-begin_array depth before some ∙ ap (parse_map json.array) e.reads;
  is = rw e.are refl;
}

-- ---- items so far

-- these values, and then the items
abbrev pub behind : List Data → Items → Items
behind [] rest = rest
behind (d ∷ ds) rest = item d (behind ds rest)

-- the same of the grammar's values
abbrev raw_behind : List json.Json → json.Items → json.Items
raw_behind [] rest = rest
raw_behind (j ∷ js) rest = json.item j (raw_behind js rest)

raw-push : (js : List json.Json) (j : json.Json) (r : Option (json.Items × List Token)) → parse_map (raw_behind js) (parse_map (json.item j) r) ≡ parse_map (raw_behind (js ++ j ∷ [])) r
raw-push js j None = refl
raw-push js j (Some p) = ap (λ rest. Some (rest, p.1)) (go js)
  where
    go : (ks : List json.Json) → raw_behind ks (json.item j p.0) ≡ raw_behind (ks ++ j ∷ []) p.0
    go [] = refl
    go (k ∷ ks) = ap (json.item k) (go ks)

data-push : (js : List json.Json) (j : json.Json) (ds : List Data) (d : Data) → of_items (raw_behind js json.no_items) ≡ Some (behind ds no_items) → of_json j ≡ Some d
    → of_items (raw_behind (js ++ j ∷ []) json.no_items) ≡ Some (behind (ds ++ d ∷ []) no_items)
data-push [] j [] d e f = rw f refl
data-push [] j (c ∷ ds) d e f = absurd (cc)
data-push (i ∷ js) j ds d e f = go ds (of_json i) (of_items (raw_behind js json.no_items)) refl refl e (λ cs h. data-push js j cs d h f)
  where
    go : (cs : List Data) (o : Option Data) (p : Option Items) → of_json i ≡ o → of_items (raw_behind js json.no_items) ≡ p → option_and_then (λ c. option_map (item c) p) o ≡ Some (behind cs no_items)
        → ((bs : List Data) → of_items (raw_behind js json.no_items) ≡ Some (behind bs no_items) → of_items (raw_behind (js ++ j ∷ []) json.no_items) ≡ Some (behind (bs ++ d ∷ []) no_items))
        → of_items (raw_behind ((i ∷ js) ++ j ∷ []) json.no_items) ≡ Some (behind (cs ++ d ∷ []) no_items)
    go cs None p g h k again = absurd (cc)
    go cs (Some c) None g h k again = absurd (cc)
    go [] (Some c) (Some xs) g h k again = absurd (cc)
    go (b ∷ cs) (Some c) (Some xs) g h k again =
        let first : c ≡ b = cc in
        let rest : xs ≡ behind cs no_items = cc in
        rw (g, again cs (h ∙ ap Some rest), first) refl

-- of an array's items these were read, and these tokens are left
pub record ItemsSoFar (depth : ℕ) (before after : List Token) (read : List Data) : Type 0 where
  pub raw : List json.Json
  pub turns : ℕ
  pub enough : length after ≤ turns
  pub left : items (value depth) (length before) before ≡ parse_map (raw_behind raw) (items (value depth) turns after)
  pub are : of_items (raw_behind raw json.no_items) ≡ Some (behind read no_items)
  pub shorter : length after ≤ length before

same_items : (o : Option (json.Items × List Token)) → o ≡ parse_map (λ r. r) o
same_items None = refl
same_items (Some p) = refl

pub no_items_yet : (depth : ℕ) (before : List Token) → ItemsSoFar depth before before []
no_items_yet depth before = record {
  raw = [];
  turns = length before;
  enough = omega arith;
  left = same_items (items (value depth) (length before) before);
  are = refl;
  shorter = omega arith;
}

pub item_more : (depth : ℕ) (before now rest : List Token) (read : List Data) (d : Data) → ItemsSoFar depth before now read → after_end_array now ≡ None → length rest < length now
    → ReadsValue depth now d rest → ItemsSoFar depth before rest (read ++ d ∷ [])
item_more depth before now rest read d s going less e = record {
  raw = s.raw ++ e.found ∷ [];
  turns = s.turns - 1;
  enough = omega (arith, s.enough);
  left = s.left ∙ ap (parse_map (raw_behind s.raw)) (items_more (value depth) s.turns now rest e.found (omega (arith, s.enough)) going e.reads)
      ∙ raw-push s.raw e.found (items (value depth) (s.turns - 1) rest);
  are = data-push s.raw e.found read d s.are e.is;
  shorter = omega (arith, s.shorter);
}

pub items_read : (depth : ℕ) (before now after : List Token) (read : List Data) → ItemsSoFar depth before now read → after_end_array now ≡ Some after → ReadsItems depth before (behind read no_items) after
items_read depth before now after read s over = record {
  found = raw_behind s.raw json.no_items;
  reads = s.left ∙ ap (parse_map (raw_behind s.raw)) (items_end (value depth) s.turns now after s.enough over);
  are = s.are;
}

-- ---- what the items so far list

pub chunks_so_far : (read : List Data) (d : Data) (chunks : List (List ℕ)) (chunk : List ℕ) → chunks_of_items (behind read no_items) ≡ Some chunks → chunk_of d ≡ Some chunk
    → chunks_of_items (behind (read ++ d ∷ []) no_items) ≡ Some (chunks ++ chunk ∷ [])
chunks_so_far [] d chunks chunk e f = let none : [] ≡ chunks = cc in rw (f, ← none) refl
chunks_so_far (c ∷ read) d chunks chunk e f = go (chunk_of c) (chunks_of_items (behind read no_items)) refl refl e (λ xs h. chunks_so_far read d xs chunk h f)
  where
    go : (o : Option (List ℕ)) (p : Option (List (List ℕ))) → chunk_of c ≡ o → chunks_of_items (behind read no_items) ≡ p → option_and_then (λ x. option_map (λ xs. x ∷ xs) p) o ≡ Some chunks
        → ((xs : List (List ℕ)) → chunks_of_items (behind read no_items) ≡ Some xs → chunks_of_items (behind (read ++ d ∷ []) no_items) ≡ Some (xs ++ chunk ∷ []))
        → chunks_of_items (behind ((c ∷ read) ++ d ∷ []) no_items) ≡ Some (chunks ++ chunk ∷ [])
    go None p g h i again = absurd (cc)
    go (Some x) None g h i again = absurd (cc)
    go (Some x) (Some xs) g h i again =
        let same : x ∷ xs ≡ chunks = cc in
        rw (g, again xs h, ← same) refl

pub terms_so_far : (read : List Data) (d : Data) (terms : List StoredTerm) (term : StoredTerm) → terms_of_items (behind read no_items) ≡ Some terms → option_and_then term_of_items (as_array d) ≡ Some term
    → terms_of_items (behind (read ++ d ∷ []) no_items) ≡ Some (terms ++ term ∷ [])
terms_so_far [] d terms term e f = let none : [] ≡ terms = cc in rw (f, ← none) refl
terms_so_far (c ∷ read) d terms term e f = go (option_and_then term_of_items (as_array c)) (terms_of_items (behind read no_items)) refl refl e (λ xs h. terms_so_far read d xs term h f)
  where
    go : (o : Option StoredTerm) (p : Option (List StoredTerm)) → option_and_then term_of_items (as_array c) ≡ o → terms_of_items (behind read no_items) ≡ p → option_and_then (λ x. option_map (λ xs. x ∷ xs) p) o ≡ Some terms
        → ((xs : List StoredTerm) → terms_of_items (behind read no_items) ≡ Some xs → terms_of_items (behind (read ++ d ∷ []) no_items) ≡ Some (xs ++ term ∷ []))
        → terms_of_items (behind ((c ∷ read) ++ d ∷ []) no_items) ≡ Some (terms ++ term ∷ [])
    go None p g h i again = absurd (cc)
    go (Some x) None g h i again = absurd (cc)
    go (Some x) (Some xs) g h i again =
        let same : x ∷ xs ≡ terms = cc in
        rw (g, again xs h, ← same) refl
