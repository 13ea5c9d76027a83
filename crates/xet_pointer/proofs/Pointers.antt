-- The text of a pointer record, its parts, and how it is read.
use Rattle.std.proofs.Common.{◌≡◌, ℕ, ◌<◌, ◌≤◌, ◌^◌, List, [], ◌∷◌, ◌++◌, Option, Some, None, option_and_then, codes, decimal, refl, sym, ap, ◌∙◌, arith, append_assoc, append-nil}
use Rattle.std.specs.Prelude.{IfSome}
use Rattle.json.specs.Token.{Token}
use Rattle.json.specs.Lex.{tokens}
use Rattle.json.specs.Json as json
use Rattle.json.specs.Print.{quoted}
use Rattle.json.specs.Tree as tree
use Rattle.json.specs.Tree.{json_tokens, HasNumbers}
use Rattle.json.proofs.Printed.Tokens.{tokens-print}
use Rattle.json.proofs.Printed.Trees.{value-json_tokens, ArePrintable-json_tokens}
use Rattle.json.proofs.Printed.Decimals.{IsNumber-decimal}
use Rattle.serde_json.specs.Data.{Data, number, string, object, unsigned, no_members, member}
use Rattle.serde_json.specs.Read.{read, max_depth, of_json}
use Rattle.serde_json.specs.Written.{outline, compact_text}
use Rattle.serde_json.proofs.Numbers.{number_of-decimal}
use Rattle.serde_json.proofs.OnLiterals.{serde_json_on_literals}
use Rattle.serde_json.proofs.Texts.{print-outline}
use Rattle.xet_pointer.specs.declared.xet_file_info.XetFileInfo.{XetFileInfo}
use Rattle.xet_pointer.specs.Pointers.{info_of, pointer_data, pointer_of, pointer_text}
use Rattle.xet_pointer.specs.steps.WrittenFields.{sha256_text, size_text}

-- what all tokens of a text read as
abbrev whole : Option (json.Json × List Token) → Option Data
whole r = option_and_then of_json (option_and_then (λ p. json.if_last p.0 p.1) r)

-- the text of a value is read as what its outline reads as, in whichever order its members stand
read-compact_text : (d e : Data) → of_json (outline d) ≡ Some e → HasNumbers (outline d)
    → tree.depth (outline d) ≤ max_depth → read (compact_text d) ≡ Some e
read-compact_text d e same numbers shallow =
    let ts = json_tokens (outline d) in
    let text : tokens (compact_text d) ≡ ts =
    ap tokens (sym (print-outline d)) ∙ tokens-print ts (ArePrintable-json_tokens (outline d) numbers) in
    ap whole (ap (json.value max_depth) (text ∙ sym (append-nil ts))
    ∙ value-json_tokens (outline d) max_depth [] shallow) ∙ same

abbrev info : List ℕ → Option ℕ → Option (List ℕ) → XetFileInfo
info h n s = record { hash = h; file_size = n; sha256 = s }

reads : (h : List ℕ) (n : Option ℕ) (s : Option (List ℕ)) → IfSome n (λ k. k < 2 ^ 64)
    → pointer_of (pointer_text (info h n s)) ≡ Some (info h n s)
unfolding serde_json_on_literals
reads h None None small =
    ap (option_and_then info_of)
    (read-compact_text (pointer_data (info h None None)) _ refl (tt, tt) (omega arith))
reads h None (Some s) small =
    ap (option_and_then info_of)
    (read-compact_text (pointer_data (info h None (Some s))) _ refl (tt, (tt, tt)) (omega arith))
reads h (Some n) None small =
    let of_hash = member (codes "hash") (string h) no_members in
    let e = object (member (codes "file_size") (number (unsigned n)) of_hash) in
    ap (option_and_then info_of)
    (read-compact_text (pointer_data (info h (Some n) None)) e
    (rw (number_of-decimal n small)) (tt, (IsNumber-decimal n small, tt)) (omega arith))
reads h (Some n) (Some s) small =
    let of_texts = member (codes "hash") (string h) (member (codes "sha256") (string s) no_members) in
    let e = object (member (codes "file_size") (number (unsigned n)) of_texts) in
    ap (option_and_then info_of)
    (read-compact_text (pointer_data (info h (Some n) (Some s))) e
    (rw (number_of-decimal n small)) (tt, (IsNumber-decimal n small, (tt, tt))) (omega arith))

-- the text of a record is read as that record
pub pointer_of-pointer_text : (x : XetFileInfo) → IfSome x.file_size (λ n. n < 2 ^ 64)
    → pointer_of (pointer_text x) ≡ Some x
pointer_of-pointer_text x small = reads x.hash x.file_size x.sha256 small

-- ---- the text part by part; the keys, the quoted texts and the digits are any lists

hash_key : quoted (codes "hash") ≡ codes "\"hash\""
unfolding serde_json_on_literals
hash_key = refl

size_key : quoted (codes "file_size") ≡ codes "\"file_size\""
unfolding serde_json_on_literals
size_key = refl

sha256_key : quoted (codes "sha256") ≡ codes "\"sha256\""
unfolding serde_json_on_literals
sha256_key = refl

flat_1 : (a q e : List ℕ) → (((a ++ q) ++ []) ++ []) ++ e ≡ a ++ (q ++ e)
flat_1 a q e =
    ap (λ x. (x ++ []) ++ e) (append-nil (a ++ q)) ∙ ap (λ x. x ++ e) (append-nil (a ++ q)) ∙ append_assoc a q e

flat_2 : (a q b d e : List ℕ) → ((a ++ q) ++ (b ++ d)) ++ e ≡ a ++ (q ++ (b ++ (d ++ e)))
flat_2 a q b d e =
    append_assoc (a ++ q) (b ++ d) e ∙ append_assoc a q ((b ++ d) ++ e)
    ∙ ap (λ x. a ++ (q ++ x)) (append_assoc b d e)

flat_3 : (a q b d c t e : List ℕ)
    → (((a ++ q) ++ (b ++ d)) ++ (c ++ t)) ++ e ≡ a ++ (q ++ (b ++ (d ++ (c ++ (t ++ e)))))
flat_3 a q b d c t e =
    append_assoc ((a ++ q) ++ (b ++ d)) (c ++ t) e ∙ flat_2 a q b d ((c ++ t) ++ e)
    ∙ ap (λ x. a ++ (q ++ (b ++ (d ++ x)))) (append_assoc c t e)

hash_alone : (k q : List ℕ) → k ≡ codes "\"hash\""
    → (((codes "{\"hash\":" ++ q) ++ []) ++ []) ++ codes "}" ≡ 123 ∷ (k ++ 58 ∷ (q ++ 125 ∷ []))
hash_alone k q e = rw e (flat_1 (codes "{\"hash\":") q (codes "}"))

with_sha256 : (k q l t : List ℕ) → k ≡ codes "\"hash\"" → l ≡ codes "\"sha256\""
    → (((codes "{\"hash\":" ++ q) ++ []) ++ (codes ",\"sha256\":" ++ t)) ++ codes "}"
    ≡ 123 ∷ (k ++ 58 ∷ (q ++ 44 ∷ (l ++ 58 ∷ (t ++ 125 ∷ []))))
with_sha256 k q l t e f =
    ap (λ x. (x ++ (codes ",\"sha256\":" ++ t)) ++ codes "}") (append-nil (codes "{\"hash\":" ++ q))
    ∙ rw (e, f) (flat_2 (codes "{\"hash\":") q (codes ",\"sha256\":") t (codes "}"))

with_size : (k q l d : List ℕ) → k ≡ codes "\"hash\"" → l ≡ codes "\"file_size\""
    → (((codes "{\"hash\":" ++ q) ++ (codes ",\"file_size\":" ++ d)) ++ []) ++ codes "}"
    ≡ 123 ∷ (k ++ 58 ∷ (q ++ 44 ∷ (l ++ 58 ∷ (d ++ 125 ∷ []))))
with_size k q l d e f =
    ap (λ x. x ++ codes "}") (append-nil ((codes "{\"hash\":" ++ q) ++ (codes ",\"file_size\":" ++ d)))
    ∙ rw (e, f) (flat_2 (codes "{\"hash\":") q (codes ",\"file_size\":") d (codes "}"))

with_both : (k q l d m t : List ℕ) → k ≡ codes "\"hash\""
    → l ≡ codes "\"file_size\"" → m ≡ codes "\"sha256\""
    → (((codes "{\"hash\":" ++ q) ++ (codes ",\"file_size\":" ++ d)) ++ (codes ",\"sha256\":" ++ t)) ++ codes "}"
    ≡ 123 ∷ (k ++ 58 ∷ (q ++ 44 ∷ (l ++ 58 ∷ (d ++ 44 ∷ (m ++ 58 ∷ (t ++ 125 ∷ []))))))
with_both k q l d m t e f g =
    rw (e, f, g) (flat_3 (codes "{\"hash\":") q (codes ",\"file_size\":") d (codes ",\"sha256\":") t (codes "}"))

joined : (h : List ℕ) (n : Option ℕ) (s : Option (List ℕ))
    → (((codes "{\"hash\":" ++ compact_text (string h)) ++ size_text n) ++ sha256_text s) ++ codes "}"
    ≡ pointer_text (info h n s)
joined h None None = hash_alone _ (quoted h) hash_key
joined h None (Some s) = with_sha256 _ (quoted h) _ (quoted s) hash_key sha256_key
joined h (Some n) None = with_size _ (quoted h) _ (decimal n) hash_key size_key
joined h (Some n) (Some s) = with_both _ (quoted h) _ (decimal n) _ (quoted s) hash_key size_key sha256_key

-- the text of a record, part by part
pub pointer_text-parts : (x : XetFileInfo)
    → (((codes "{\"hash\":" ++ compact_text (string x.hash)) ++ size_text x.file_size) ++ sha256_text x.sha256)
    ++ codes "}" ≡ pointer_text x
pointer_text-parts x = joined x.hash x.file_size x.sha256
