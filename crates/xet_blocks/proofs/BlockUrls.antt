-- The URL of a block is that of the first entry in which its first term lies.
use Rattle.std.proofs.Common.{◌≡◌, ℕ, Bool, true, false, cond, ◌&&◌, ◌||◌, List, [], ◌∷◌, refl, sym, ◌∙◌, ap, map, subst, get_or}
use Rattle.std.specs.Prelude.{Some, None, Option, find, is_none, option_and_then, option_map, unwrap_or, position, All, nat_le, nat_lt}
use Rattle.std.specs.List.{flat_map, list_any}
use Rattle.std.specs.Option.{option_or}
use Rattle.std.proofs.lemmas.Bool.{false≢true, or_parts}
use Rattle.std.proofs.lemmas.List.Elements.{All-nil, All-cons, All-head, All-tail, All-append, All-map, All-weaker}
use Rattle.std.proofs.lemmas.List.Folds.{find-append, list_any_at}
use Rattle.std.proofs.lemmas.Option.{same_Some}
use lib.Pointwise.{pointwise}
use Rattle.xet_base.specs.declared.cas_types.ChunkRange.{ChunkRange}
use Rattle.xet_base.specs.declared.merklehash.MerkleHash.{MerkleHash}
use Rattle.xet_base.specs.Hashes.{hash_eq}
use Rattle.xet_base.proofs.CallerLemmas.{eq-hash_eq, find_some, hash_eq-true, position_no}
use Rattle.xet_outside.specs.declared.plan.FetchEntry.{FetchEntry}
use Rattle.xet_outside.specs.declared.plan.FetchRange.{FetchRange}
use Rattle.xet_outside.specs.declared.plan.Plan.{Plan}
use Rattle.xet_outside.specs.declared.plan.PlanTerm.{PlanTerm}
use Rattle.xet_outside.specs.declared.plan.PlanXorb.{PlanXorb}
use Rattle.xet_outside.specs.Plan.{XorbShape, shape, xorb_shape}
use Rattle.xet_error.specs.declared.error.Corruption.TheVariants.{NoRange}
use Rattle.xet_offers.specs.Blocks.{PlanBlock, block_of_term, block_ranges, blocks_of, entry_blocks, lies_in, range_eq, same_block, term_block}
use Rattle.xet_blocks.specs.Laws.{UrlOfFirst, entry_of_term, first_term}
use Rattle.xet_blocks.specs.TermBlocks.{block_url}
use Rattle.xet_offers.proofs.CallerLemmas.{any-map, eq-same_block, find-map, find_passes, firsts_all, same_block-true}
use Rattle.xet_blocks.proofs.TrimmedTerms.{none_from_map, tested}

-- ---- what is found

find_none : {A : Type 0} (p : A → Bool) (xs : List A) → All (λ x. p x ≡ false) xs → find p xs ≡ None
find_none p [] a = refl
find_none p (x ∷ xs) a = let next = find_none p xs (All-tail (λ x. p x ≡ false) x xs a) in rw (All-head (λ x. p x ≡ false) x xs a) next

find_among : {A : Type 0} (P : A → Type 0) (p : A → Bool) (xs : List A) (x : A) → All P xs → find p xs ≡ Some x → P x
find_among P p [] x a e = cc
find_among P p (y ∷ ys) x a e = go (p y) e (find_among P p ys x (All-tail P y ys a))
  where
    go : (b : Bool) → cond b (Some y) (find p ys) ≡ Some x → (find p ys ≡ Some x → P x) → P x
    go true e next = subst P (same_Some y x e) (All-head P y ys a)
    go false e next = next e

any_found : {A : Type 0} (q p : A → Bool) (xs : List A) (x : A) → find p xs ≡ Some x → q x ≡ true → list_any q xs ≡ true
any_found q p [] x e h = cc
any_found q p (y ∷ ys) x e h = go (p y) e (λ k. any_found q p ys x k h)
  where
    or_right : (a b : Bool) → b ≡ true → (a || b) ≡ true
    or_right true b e = refl
    or_right false b e = e

    go : (b : Bool) → cond b (Some y) (find p ys) ≡ Some x → (find p ys ≡ Some x → list_any q ys ≡ true) → (q y || list_any q ys) ≡ true
    go true e next = ap (λ b. b || list_any q ys) (ap q (same_Some y x e) ∙ h)
    go false e next = or_right (q y) (list_any q ys) (next e)

none_pass : {A : Type 0} (p : A → Bool) (xs : List A) → list_any p xs ≡ false → All (λ x. p x ≡ false) xs
none_pass p [] h = All-nil (λ x. p x ≡ false)
none_pass p (x ∷ xs) h = let parts = or_parts (p x) (list_any p xs) h in All-cons (λ x. p x ≡ false) x xs parts.0 (none_pass p xs parts.1)

-- ---- the blocks of an entry

-- the term lies in a range of these chunks
abbrev has_term : PlanTerm → ChunkRange → Bool
has_term t r = nat_le r.start t.range.start && (nat_lt t.range.start t.range.end && nat_le t.range.end r.end)

-- the term lies in one of the block's ranges
abbrev in_block : PlanTerm → PlanBlock → Bool
in_block t b = list_any (lies_in t) b.ranges

same_in_block : (t : PlanTerm) (b c : PlanBlock) → block_ranges b ≡ block_ranges c → in_block t b ≡ in_block t c
same_in_block t b c e =
    sym (any-map (λ (r : FetchRange). r.chunks) (has_term t) b.ranges) ∙ ap (list_any (has_term t)) e ∙ any-map (λ (r : FetchRange). r.chunks) (has_term t) c.ranges

in_entry : (multi : Bool) (x : MerkleHash) (t : PlanTerm) (rs : List FetchRange) → list_any (in_block t) (entry_blocks multi x rs) ≡ list_any (lies_in t) rs
in_entry true x t rs = or_false (list_any (lies_in t) rs)
  where
    or_false : (b : Bool) → (b || false) ≡ b
    or_false true = refl
    or_false false = refl
in_entry false x t [] = refl
in_entry false x t (r ∷ rs) = let next = in_entry false x t rs in both (lies_in t r) next
  where
    both : (b : Bool) {c d : Bool} → c ≡ d → ((b || false) || c) ≡ (b || d)
    both true e = refl
    both false e = e

entry_xorb : (multi : Bool) (x : MerkleHash) (rs : List FetchRange) → All (λ b. b.xorb ≡ x) (entry_blocks multi x rs)
entry_xorb true x rs = All-cons (λ b. b.xorb ≡ x) (record { xorb = x; ranges = rs }) [] refl (All-nil (λ b. b.xorb ≡ x))
entry_xorb false x rs = All-map (λ (b : PlanBlock). b.xorb ≡ x) (λ r. record { xorb = x; ranges = r ∷ [] }) rs (λ k d h. refl)

-- the blocks of an entry and of a xorb, each with the entry's URL
abbrev with_url : Bool → MerkleHash → FetchEntry → List (List ℕ × PlanBlock)
with_url multi x e = map (λ b. (e.url, b)) (entry_blocks multi x e.ranges)

abbrev all_with_url : Bool → PlanXorb → List (List ℕ × PlanBlock)
all_with_url multi x = flat_map (with_url multi x.xorb) x.fetch

abbrev offers : PlanBlock → List ℕ × PlanBlock → Bool
offers b c = same_block c.1 b

-- the first entry that offers a block of a term's ranges is the first one in which the term lies
record IsOffered (multi : Bool) (x : MerkleHash) (t : PlanTerm) (b : PlanBlock) (es : List FetchEntry) : Type 0 where
  entry : FetchEntry
  block : PlanBlock
  of_xorb : b.xorb ≡ x
  first : find (λ e. list_any (lies_in t) e.ranges) es ≡ Some entry
  offered : find (offers b) (flat_map (with_url multi x) es) ≡ Some (entry.url, block)

offered : (multi : Bool) (x : MerkleHash) (t : PlanTerm) (b : PlanBlock) (es : List FetchEntry)
    → find (in_block t) (flat_map (entry_blocks multi x) (map (λ e. e.ranges) es)) ≡ Some b → IsOffered multi x t b es
offered multi x t b [] h = cc
offered multi x t b (e ∷ es) h = go (list_any (lies_in t) e.ranges) refl (sym (find-append (in_block t) bs rest) ∙ h) (λ k. offered multi x t b es k)
  where
    bs : List PlanBlock
    bs = entry_blocks multi x e.ranges

    rest : List PlanBlock
    rest = flat_map (entry_blocks multi x) (map (λ e. e.ranges) es)

    url_of : (o : Option PlanBlock) → find (λ c. same_block c b) bs ≡ o → find (offers b) (with_url multi x e) ≡ option_map (λ c. (e.url, c)) o
    url_of o f = find-map (λ c. (e.url, c)) (offers b) bs ∙ ap (λ (o : Option PlanBlock). option_map (λ c. (e.url, c)) o) f

    differs : (c : PlanBlock) → in_block t b ≡ true → in_block t c ≡ false → (k : Bool) → same_block c b ≡ k → same_block c b ≡ false
    differs c h n false g = g
    differs c h n true g = absurd (false≢true (sym n ∙ same_in_block t c b (same_block-true c b g).1 ∙ h))

    go : (c : Bool) → list_any (lies_in t) e.ranges ≡ c → option_or (find (in_block t) bs) (find (in_block t) rest) ≡ Some b
        → (find (in_block t) rest ≡ Some b → IsOffered multi x t b es) → IsOffered multi x t b (e ∷ es)
    go true f k next =
        let found = find_some (in_block t) bs (in_entry multi x t e.ranges ∙ f) in
        let is : found.0 ≡ b = same_Some found.0 b (sym (ap (λ o. option_or o (find (in_block t) rest)) found.1) ∙ k) in
        let same = find_some (λ c. same_block c b) bs
        (any_found (λ c. same_block c b) (in_block t) bs found.0 found.1 (eq-same_block found.0 b (ap (λ (b : PlanBlock). b.xorb) is) (ap block_ranges is))) in
        record {
          entry = e;
          block = same.0;
          of_xorb = sym (ap (λ (b : PlanBlock). b.xorb) is) ∙ find_among (λ b. b.xorb ≡ x) (in_block t) bs found.0 (entry_xorb multi x e.ranges) found.1;
          first = ap (λ c. cond c (Some e) (find (λ e. list_any (lies_in t) e.ranges) es)) f;
          offered = find-append (offers b) (with_url multi x e) (flat_map (with_url multi x) es)
              ∙ ap (λ o. option_or o (find (offers b) (flat_map (with_url multi x) es))) (url_of (Some same.0) same.1);
        }
    go false f k next =
        let none = none_pass (in_block t) bs (in_entry multi x t e.ranges ∙ f) in
        let later : find (in_block t) rest ≡ Some b = sym (ap (λ o. option_or o (find (in_block t) rest)) (find_none (in_block t) bs none)) ∙ k in
        let holds = find_passes (in_block t) rest b later in
        let is = next later in
        let other = All-weaker (λ c. in_block t c ≡ false) (λ c. same_block c b ≡ false) (λ c n. differs c holds n (same_block c b) refl) bs none in
        record {
          entry = is.entry;
          block = is.block;
          of_xorb = is.of_xorb;
          first = ap (λ c. cond c (Some e) (find (λ e. list_any (lies_in t) e.ranges) es)) f ∙ is.first;
          offered = find-append (offers b) (with_url multi x e) (flat_map (with_url multi x) es)
              ∙ ap (λ o. option_or o (find (offers b) (flat_map (with_url multi x) es))) (url_of None (find_none (λ c. same_block c b) bs other))
              ∙ is.offered;
        }

-- ---- the blocks of a plan

not_offered : (multi : Bool) (x : MerkleHash) (b : PlanBlock) → hash_eq x b.xorb ≡ false → (es : List FetchEntry) → All (λ c. offers b c ≡ false) (flat_map (with_url multi x) es)
not_offered multi x b n [] = All-nil (λ c. offers b c ≡ false)
not_offered multi x b n (e ∷ es) =
    All-append (λ c. offers b c ≡ false) (with_url multi x e) (flat_map (with_url multi x) es)
    (All-map (λ c. offers b c ≡ false) (λ c. (e.url, c)) (entry_blocks multi x e.ranges)
    (All-weaker (λ c. c.xorb ≡ x) (λ c. same_block c b ≡ false) (λ c f. differs c f (same_block c b) refl) (entry_blocks multi x e.ranges) (entry_xorb multi x e.ranges)))
    (not_offered multi x b n es)
  where
    differs : (c : PlanBlock) → c.xorb ≡ x → (k : Bool) → same_block c b ≡ k → same_block c b ≡ false
    differs c f false g = g
    differs c f true g = absurd (false≢true (sym n ∙ eq-hash_eq x b.xorb (sym f ∙ (same_block-true c b g).0)))

-- the xorbs before the block's do not offer it
among_xorbs : (multi : Bool) (b : PlanBlock) (xs : List PlanXorb) (x : PlanXorb) (c : List ℕ × PlanBlock) → find (λ y. hash_eq y.xorb b.xorb) xs ≡ Some x
    → find (offers b) (all_with_url multi x) ≡ Some c → find (offers b) (flat_map (all_with_url multi) xs) ≡ Some c
among_xorbs multi b [] x c e h = cc
among_xorbs multi b (y ∷ ys) x c e h =
    find-append (offers b) (all_with_url multi y) (flat_map (all_with_url multi) ys) ∙ go (hash_eq y.xorb b.xorb) refl e (λ k. among_xorbs multi b ys x c k h)
  where
    later : Option (List ℕ × PlanBlock)
    later = find (offers b) (flat_map (all_with_url multi) ys)

    go : (k : Bool) → hash_eq y.xorb b.xorb ≡ k → cond k (Some y) (find (λ y. hash_eq y.xorb b.xorb) ys) ≡ Some x
        → (find (λ y. hash_eq y.xorb b.xorb) ys ≡ Some x → later ≡ Some c) → option_or (find (offers b) (all_with_url multi y)) later ≡ Some c
    go true f e next = ap (λ o. option_or o later) (ap (λ (y : PlanXorb). find (offers b) (all_with_url multi y)) (same_Some y x e) ∙ h)
    go false f e next = ap (λ o. option_or o later) (find_none (offers b) (all_with_url multi y) (not_offered multi y.xorb b f y.fetch)) ∙ next e

-- equal blocks have one URL
same_url : (p : Plan) (multi : Bool) (b c : PlanBlock) → b.xorb ≡ c.xorb → block_ranges b ≡ block_ranges c → block_url p multi b ≡ block_url p multi c
same_url p multi b c e f =
    ap (λ (x : MerkleHash). at x (block_ranges b)) e ∙ ap (λ (rs : List ChunkRange). at c.xorb rs) f
  where
    at : MerkleHash → List ChunkRange → List ℕ
    at x rs = unwrap_or (option_map (λ (c : List ℕ × PlanBlock). c.0) (find (λ c. hash_eq c.1.xorb x && pointwise range_eq (block_ranges c.1) rs) (flat_map (all_with_url multi) p.xorbs))) []

-- the URL of a term's block is that of the first entry in which the term lies
term_url : (p : Plan) (multi : Bool) (t : PlanTerm) (b : PlanBlock) → block_of_term (shape p) multi t ≡ Some b → option_map (λ e. e.url) (entry_of_term p t) ≡ Some (block_url p multi b)
term_url p multi t b h = go (find (λ x. hash_eq x.xorb t.xorb) p.xorbs) refl
  where
    block_in : XorbShape → Option PlanBlock
    block_in x = find (in_block t) (flat_map (entry_blocks multi x.xorb) x.entries)

    shaped : (o : Option PlanXorb) → find (λ x. hash_eq x.xorb t.xorb) p.xorbs ≡ o → option_and_then block_in (option_map xorb_shape o) ≡ Some b
    shaped o e = sym (ap (option_and_then block_in) (find-map xorb_shape (λ (y : XorbShape). hash_eq y.xorb t.xorb) p.xorbs ∙ ap (option_map xorb_shape) e)) ∙ h

    go : (o : Option PlanXorb) → find (λ x. hash_eq x.xorb t.xorb) p.xorbs ≡ o → option_map (λ e. e.url) (entry_of_term p t) ≡ Some (block_url p multi b)
    go None e = let n = shaped None e in cc
    go (Some x) e =
        let is = offered multi x.xorb t b x.fetch (shaped (Some x) e) in
        let same : t.xorb ≡ b.xorb = sym (hash_eq-true x.xorb t.xorb (find_passes (λ x. hash_eq x.xorb t.xorb) p.xorbs x e)) ∙ sym is.of_xorb in
        let url = among_xorbs multi b p.xorbs x (is.entry.url, is.block) (ap (λ (h : MerkleHash). find (λ x. hash_eq x.xorb h) p.xorbs) (sym same) ∙ e) is.offered in
        ap (λ (o : Option PlanXorb). option_map (λ e. e.url) (option_and_then (λ (x : PlanXorb). find (λ e. list_any (lies_in t) e.ranges) x.fetch) o)) e
        ∙ ap (option_map (λ (e : FetchEntry). e.url)) is.first
        ∙ sym (ap (λ (o : Option (List ℕ × PlanBlock)). Some (unwrap_or (option_map (λ (c : List ℕ × PlanBlock). c.0) o) [])) url)

pub url_of_first : UrlOfFirst
url_of_first p q multi a =
    All-weaker HasTerm (λ b. option_map (λ e. e.url) (option_and_then (entry_of_term p) (first_term (shape p) multi b)) ≡ Some (block_url p multi b)) at_first (blocks_of (shape p) multi)
    (firsts_all same_block HasTerm (map (term_block (shape p) multi) p.terms) (All-map HasTerm (term_block (shape p) multi) p.terms own))
  where
    HasTerm : PlanBlock → Type 0
    HasTerm b = list_any (λ t. same_block b (term_block (shape p) multi t)) p.terms ≡ true

    own : All (λ t. HasTerm (term_block (shape p) multi t)) p.terms
    own = λ k d h. list_any_at (λ t. same_block (term_block (shape p) multi (get_or p.terms k d)) (term_block (shape p) multi t)) p.terms k d h
        (eq-same_block (term_block (shape p) multi (get_or p.terms k d)) (term_block (shape p) multi (get_or p.terms k d)) refl refl)

    all_found : All (λ t. is_none (block_of_term (shape p) multi t) ≡ false) p.terms
    all_found =
        none_pass (λ t. is_none (block_of_term (shape p) multi t)) p.terms
        (position_no (λ t. is_none (block_of_term (shape p) multi t)) p.terms (none_from_map NoRange (position (λ t. is_none (block_of_term (shape p) multi t)) p.terms) (tested (shape p) q multi a).blocks))

    at_first : (b : PlanBlock) → HasTerm b → option_map (λ e. e.url) (option_and_then (entry_of_term p) (first_term (shape p) multi b)) ≡ Some (block_url p multi b)
    at_first b h =
        let found = find_some (λ t. same_block b (term_block (shape p) multi t)) p.terms h in
        let t = found.0 in
        ap (λ (o : Option PlanTerm). option_map (λ e. e.url) (option_and_then (entry_of_term p) o)) found.1
        ∙ of_block t (block_of_term (shape p) multi t) refl (find_among (λ t. is_none (block_of_term (shape p) multi t) ≡ false) (λ t. same_block b (term_block (shape p) multi t)) p.terms t all_found found.1) found.2
      where
        of_block : (t : PlanTerm) (o : Option PlanBlock) → block_of_term (shape p) multi t ≡ o → is_none (block_of_term (shape p) multi t) ≡ false → same_block b (term_block (shape p) multi t) ≡ true
            → option_map (λ e. e.url) (entry_of_term p t) ≡ Some (block_url p multi b)
        of_block t None e n same = absurd (false≢true (sym n ∙ ap is_none e))
        of_block t (Some c) e n same =
            let is : term_block (shape p) multi t ≡ c = ap (λ (o : Option PlanBlock). unwrap_or o (record { xorb = t.xorb; ranges = [] })) e in
            let parts = same_block-true b (term_block (shape p) multi t) same in
            term_url p multi t c e
            ∙ ap Some (sym (same_url p multi b c (parts.0 ∙ ap (λ (b : PlanBlock). b.xorb) is) (parts.1 ∙ ap block_ranges is)))
