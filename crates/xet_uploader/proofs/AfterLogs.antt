-- What the store after a log finds: what the store had, and then what the log has.
use Rattle.std.proofs.Common.{◌≡◌, Bool, true, false, cond, List, [], ◌∷◌, ◌++◌, refl, sym, ◌∙◌, ap, subst, ◌⊎◌, inl, inr}
use Rattle.std.specs.Prelude.{Option, Some, None, find, option_map, option_and_then, is_some}
use Rattle.std.specs.Option.{option_or}
use Rattle.std.proofs.lemmas.Bool.{false≢true}
use Rattle.std.proofs.lemmas.List.Folds.{find-append}
use Rattle.std.proofs.lemmas.Option.{none-some, same_Some}
use Rattle.xet_base.specs.declared.merklehash.MerkleHash.{MerkleHash}
use Rattle.xet_base.specs.declared.mdb_shard.MDBFileInfo.{MDBFileInfo}
use Rattle.xet_base.specs.declared.mdb_shard.Xorb.{Xorb}
use Rattle.xet_base.specs.declared.stored.StoredFile.{StoredFile}
use Rattle.xet_base.specs.Hashes.{hash_eq}
use Rattle.xet_base.specs.Store.{Store, file_of, xorb_of}
use Rattle.xet_base.proofs.CallerLemmas.{hash_eq-true}
use Rattle.xet_store.specs.declared.mem_store.StoreRefused.{StoreRefused}
use Rattle.xet_store.specs.declared.mem_store.StoreRefused.TheVariants.{OutOfMemory, Taken, EmptyChunk, TooManyChunks, TooLong, BadTerm}
use Rattle.xet_uploader.specs.declared.uploader.Put.TheVariants as put
use Rattle.xet_store.specs.Refusals.{xorb_refusal, file_refusal}
use Rattle.xet_uploader.specs.StoresAfter.{after_refusal, with_xorb, with_file, with_files, store_after, file_of_record, files_in, AfterFindsXorbs, AfterFindsFiles}
use Rattle.xet_uploader.specs.Uploads.{xorbs_in}

-- ---- options

or_added : {A : Type 0} (a : Option A) (b : Bool) (x : A) (r : Option A) → option_or (option_or a (cond b (Some x) None)) r ≡ option_or a (cond b (Some x) r)
or_added (Some y) b x r = refl
or_added None true x r = refl
or_added None false x r = refl

-- what stands behind something that is there is not found
or_behind : {A : Type 0} (a : Option A) (b : Bool) (x r : Option A) → (b ≡ true → is_some a ≡ true) → option_or a r ≡ option_or a (cond b x r)
or_behind (Some y) b x r h = refl
or_behind None true x r h = absurd (false≢true (h refl))
or_behind None false x r h = refl

or_chain : {A : Type 0} (a b c : Option A) → option_or (option_or a b) c ≡ option_or a (option_or b c)
or_chain (Some x) b c = refl
or_chain None b c = refl

map_or : {A B : Type 0} (f : A → B) (a b : Option A) → option_map f (option_or a b) ≡ option_or (option_map f a) (option_map f b)
map_or f (Some x) b = refl
map_or f None b = refl

map_cond : {A B : Type 0} (f : A → B) (b : Bool) (x : A) (r : Option A) → option_map f (cond b (Some x) r) ≡ cond b (Some (f x)) (option_map f r)
map_cond f true x r = refl
map_cond f false x r = refl

-- ---- one xorb

xorb_taken : (b c d e : Bool) → cond b (Some Taken) (cond c (Some EmptyChunk) (cond d (Some TooManyChunks) (cond e (Some TooLong) None))) ≡ Some Taken → b ≡ true
xorb_taken true c d e h = refl
xorb_taken false true d e h = absurd (let f : EmptyChunk ≡ Taken = same_Some EmptyChunk Taken h in cc)
xorb_taken false false true e h = absurd (let f : TooManyChunks ≡ Taken = same_Some TooManyChunks Taken h in cc)
xorb_taken false false false true h = absurd (let f : TooLong ≡ Taken = same_Some TooLong Taken h in cc)
xorb_taken false false false false h = absurd (none-some Taken h)

-- a store is left alone, where the hash is taken, or has more
abbrev AfterOne : Store → Store → Store → Bool → Type 0
AfterOne s grown t taken = ((t ≡ s) × (taken ≡ true)) ⊎ (t ≡ grown)

after_one : (s grown t : Store) (o : Option StoreRefused) (taken : Bool) → (o ≡ Some Taken → taken ≡ true) → after_refusal s grown o ≡ Some t → AfterOne s grown t taken
after_one s grown t None taken k h = inr (sym (same_Some grown t h))
after_one s grown t (Some Taken) taken k h = inl (sym (same_Some s t h), k refl)
after_one s grown t (Some OutOfMemory) taken k h = absurd (none-some t h)
after_one s grown t (Some EmptyChunk) taken k h = absurd (none-some t h)
after_one s grown t (Some TooManyChunks) taken k h = absurd (none-some t h)
after_one s grown t (Some TooLong) taken k h = absurd (none-some t h)
after_one s grown t (Some BadTerm) taken k h = absurd (none-some t h)

with_xorb-is : (s t : Store) (x : Xorb) → with_xorb s x ≡ Some t → AfterOne s (record s { xorbs = s.xorbs ++ x ∷ [] }) t (is_some (xorb_of s x.hash))
with_xorb-is s t x h =
    after_one s (record s { xorbs = s.xorbs ++ x ∷ [] }) t (xorb_refusal s x) (is_some (xorb_of s x.hash)) (xorb_taken (is_some (xorb_of s x.hash)) _ _ _) h

-- ---- one file

file_taken : (b c d : Bool) → cond b (Some Taken) (cond c (Some BadTerm) (cond d (Some TooLong) None)) ≡ Some Taken → b ≡ true
file_taken true c d h = refl
file_taken false true d h = absurd (let f : BadTerm ≡ Taken = same_Some BadTerm Taken h in cc)
file_taken false false true h = absurd (let f : TooLong ≡ Taken = same_Some TooLong Taken h in cc)
file_taken false false false h = absurd (none-some Taken h)

with_file-is : (s t : Store) (f : MDBFileInfo) → with_file s f ≡ Some t → AfterOne s (record s { files = s.files ++ file_of_record f ∷ [] }) t (is_some (file_of s f.hash))
with_file-is s t f h =
    after_one s (record s { files = s.files ++ file_of_record f ∷ [] }) t (file_refusal s f.hash f.entries) (is_some (file_of s f.hash)) (file_taken (is_some (file_of s f.hash)) _ _) h

-- ---- files of a shard

-- after the first step the rest follows
and_then : {A : Type 0} (f : A → Option A) (o : Option A) (t : A) → option_and_then f o ≡ Some t → (u : A) × (o ≡ Some u) × (f u ≡ Some t)
and_then f None t h = absurd (none-some t h)
and_then f (Some u) t h = (u, refl, h)

file-xorbs : (s t : Store) (f : MDBFileInfo) → with_file s f ≡ Some t → t.xorbs ≡ s.xorbs
file-xorbs s t f h = go (with_file-is s t f h)
  where
    go : AfterOne s (record s { files = s.files ++ file_of_record f ∷ [] }) t (is_some (file_of s f.hash)) → t.xorbs ≡ s.xorbs
    go (inl k) = ap (λ (z : Store). z.xorbs) k.0
    go (inr k) = ap (λ (z : Store). z.xorbs) k

files-xorbs : (fs : List MDBFileInfo) (s t : Store) → with_files s fs ≡ Some t → t.xorbs ≡ s.xorbs
files-xorbs [] s t h = ap (λ (z : Store). z.xorbs) (sym (same_Some s t h))
files-xorbs (f ∷ fs) s t h =
    let next = and_then (λ u. with_files u fs) (with_file s f) t h in
    files-xorbs fs next.0 t next.2 ∙ file-xorbs s next.0 f next.1

-- what a file with this hash is, where the store had it
same-taken : (a h : MerkleHash) (s : Store) → is_some (file_of s a) ≡ true → hash_eq a h ≡ true → is_some (file_of s h) ≡ true
same-taken a h s k e = let P : MerkleHash → Type 0 = λ z. is_some (file_of s z) ≡ true in subst P (hash_eq-true a h e) k

file-finds : (s t : Store) (f : MDBFileInfo) (h : MerkleHash) (r : Option StoredFile) → with_file s f ≡ Some t
    → option_or (file_of t h) r ≡ option_or (file_of s h) (cond (hash_eq f.hash h) (Some (file_of_record f)) r)
file-finds s t f h r k = go (with_file-is s t f k)
  where
    go : AfterOne s (record s { files = s.files ++ file_of_record f ∷ [] }) t (is_some (file_of s f.hash)) → option_or (file_of t h) r ≡ option_or (file_of s h) (cond (hash_eq f.hash h) (Some (file_of_record f)) r)
    go (inl k) =
        ap (λ (z : Store). option_or (file_of z h) r) k.0 ∙ or_behind (file_of s h) (hash_eq f.hash h) (Some (file_of_record f)) r (same-taken f.hash h s k.1)
    go (inr k) =
        ap (λ (z : Store). option_or (file_of z h) r) k
        ∙ ap (λ (o : Option StoredFile). option_or o r) (find-append (λ x. hash_eq x.hash h) s.files (file_of_record f ∷ []))
        ∙ or_added (file_of s h) (hash_eq f.hash h) (file_of_record f) r

files-finds : (fs : List MDBFileInfo) (s t : Store) (h : MerkleHash) → with_files s fs ≡ Some t
    → file_of t h ≡ option_or (file_of s h) (option_map file_of_record (find (λ f. hash_eq f.hash h) fs))
files-finds [] s t h k = ap (λ (z : Store). file_of z h) (sym (same_Some s t k)) ∙ or_none (file_of s h)
  where
    or_none : {A : Type 0} (a : Option A) → a ≡ option_or a None
    or_none None = refl
    or_none (Some x) = refl
files-finds (f ∷ fs) s t h k =
    let next = and_then (λ u. with_files u fs) (with_file s f) t k in
    let rest = option_map file_of_record (find (λ f. hash_eq f.hash h) fs) in
    files-finds fs next.0 t h next.2 ∙ file-finds s next.0 f h rest next.1
    ∙ ap (option_or (file_of s h)) (sym (map_cond file_of_record (hash_eq f.hash h) f (find (λ f. hash_eq f.hash h) fs)))

-- ---- a log

xorb-finds : (s t : Store) (x : Xorb) (h : MerkleHash) (r : Option Xorb) → with_xorb s x ≡ Some t
    → option_or (xorb_of t h) r ≡ option_or (xorb_of s h) (cond (hash_eq x.hash h) (Some x) r)
xorb-finds s t x h r k = go (with_xorb-is s t x k)
  where
    taken : is_some (xorb_of s x.hash) ≡ true → hash_eq x.hash h ≡ true → is_some (xorb_of s h) ≡ true
    taken k e = let P : MerkleHash → Type 0 = λ z. is_some (xorb_of s z) ≡ true in subst P (hash_eq-true x.hash h e) k

    go : AfterOne s (record s { xorbs = s.xorbs ++ x ∷ [] }) t (is_some (xorb_of s x.hash)) → option_or (xorb_of t h) r ≡ option_or (xorb_of s h) (cond (hash_eq x.hash h) (Some x) r)
    go (inl k) =
        ap (λ (z : Store). option_or (xorb_of z h) r) k.0 ∙ or_behind (xorb_of s h) (hash_eq x.hash h) (Some x) r (taken k.1)
    go (inr k) =
        ap (λ (z : Store). option_or (xorb_of z h) r) k
        ∙ ap (λ (o : Option Xorb). option_or o r) (find-append (λ y. hash_eq y.hash h) s.xorbs (x ∷ []))
        ∙ or_added (xorb_of s h) (hash_eq x.hash h) x r

xorb-files : (s t : Store) (x : Xorb) → with_xorb s x ≡ Some t → t.files ≡ s.files
xorb-files s t x h = go (with_xorb-is s t x h)
  where
    go : AfterOne s (record s { xorbs = s.xorbs ++ x ∷ [] }) t (is_some (xorb_of s x.hash)) → t.files ≡ s.files
    go (inl k) = ap (λ (z : Store). z.files) k.0
    go (inr k) = ap (λ (z : Store). z.files) k

pub after_finds_xorbs : AfterFindsXorbs
after_finds_xorbs s t [] h k = ap (λ (z : Store). xorb_of z h) (sym (same_Some s t k)) ∙ or_none (xorb_of s h)
  where
    or_none : {A : Type 0} (a : Option A) → a ≡ option_or a None
    or_none None = refl
    or_none (Some x) = refl
after_finds_xorbs s t (put.Xorb x ∷ ps) h k =
    let next = and_then (λ u. store_after u ps) (with_xorb s x) t k in
    after_finds_xorbs next.0 t ps h next.2 ∙ xorb-finds s next.0 x h (find (λ y. hash_eq y.hash h) (xorbs_in ps)) next.1
after_finds_xorbs s t (put.Shard r ∷ ps) h k =
    let next = and_then (λ u. store_after u ps) (with_files s r.files) t k in
    after_finds_xorbs next.0 t ps h next.2
    ∙ ap (λ (xs : List Xorb). option_or (find (λ y. hash_eq y.hash h) xs) (find (λ y. hash_eq y.hash h) (xorbs_in ps))) (files-xorbs r.files s next.0 next.1)

pub after_finds_files : AfterFindsFiles
after_finds_files s t [] h k = files-finds [] s t h k
after_finds_files s t (put.Xorb x ∷ ps) h k =
    let next = and_then (λ u. store_after u ps) (with_xorb s x) t k in
    let rest = option_map file_of_record (find (λ f. hash_eq f.hash h) (files_in ps)) in
    after_finds_files next.0 t ps h next.2 ∙ ap (λ (fs : List StoredFile). option_or (find (λ f. hash_eq f.hash h) fs) rest) (xorb-files s next.0 x next.1)
after_finds_files s t (put.Shard r ∷ ps) h k =
    let next = and_then (λ u. store_after u ps) (with_files s r.files) t k in
    let q : MDBFileInfo → Bool = λ f. hash_eq f.hash h in
    let rest = option_map file_of_record (find q (files_in ps)) in
    after_finds_files next.0 t ps h next.2
    ∙ ap (λ (o : Option StoredFile). option_or o rest) (files-finds r.files s next.0 h next.1)
    ∙ or_chain (file_of s h) (option_map file_of_record (find q r.files)) rest
    ∙ ap (option_or (file_of s h)) (sym (map_or file_of_record (find q r.files) (find q (files_in ps))) ∙ ap (option_map file_of_record) (sym (find-append q r.files (files_in ps))))
