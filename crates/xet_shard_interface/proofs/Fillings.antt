-- What is filled into shards is all there, in order.
use Rattle.std.proofs.Common.{◌≡◌, ℕ, ◌⊎◌, inl, inr, Bool, true, false, if◌then◌else◌, List, [], ◌∷◌, ◌++◌, length, refl, sym, ◌∙◌, ap, arith}
use Rattle.std.specs.Prelude.{Contains, ltb}
use Rattle.std.specs.List.{flat_map}
use Rattle.std.proofs.lemmas.Bool.{true≢false, lt-ltb, or_right}
use Rattle.std.proofs.lemmas.List.{append-nil, append_assoc}
use Rattle.std.proofs.lemmas.List.Concat.{flat_map-append}
use Rattle.std.proofs.lemmas.List.Elements.{Contains-append_left, Contains-append_right, Contains-append_cases, Contains-push}
use Rattle.xet_base.specs.declared.mdb_shard.MDBXorbInfo.{MDBXorbInfo}
use Rattle.xet_base.specs.declared.mdb_shard.MDBFileInfo.{MDBFileInfo}
use Rattle.xet_base.specs.declared.mdb_shard.ShardRecord.{ShardRecord}
use Rattle.xet_shard_interface.specs.declared.shard_filler.ShardFiller.{ShardFiller}
use Rattle.xet_shard_interface.specs.Fillings.{has_some, is_full, closed, room, xorb_filled, file_filled, xorbs_filled, files_filled, shards_in, no_shards}

-- the file records of shards
abbrev pub files_of : List ShardRecord → List MDBFileInfo
files_of ss = flat_map (λ (s : ShardRecord). s.files) ss

abbrev held : ShardFiller → List MDBFileInfo
held f = files_of f.done ++ f.next.files

files-push : (ss : List ShardRecord) (s : ShardRecord) → files_of (ss ++ s ∷ []) ≡ files_of ss ++ s.files
files-push ss s = flat_map-append (λ (s : ShardRecord). s.files) ss (s ∷ []) ∙ ap (λ (fs : List MDBFileInfo). files_of ss ++ fs) (append-nil s.files)

held-closed : (f : ShardFiller) → held (closed f) ≡ held f
held-closed f = append-nil (files_of (f.done ++ f.next ∷ [])) ∙ files-push f.done f.next

held-if : (b : Bool) (f : ShardFiller) → held (if b then closed f else f) ≡ held f
held-if true f = held-closed f
held-if false f = refl

held-xorbs : (m : ℕ) (f : ShardFiller) (xs : List MDBXorbInfo) → held (xorbs_filled m f xs) ≡ held f
held-xorbs m f [] = refl
held-xorbs m f (x ∷ xs) = held-xorbs m (xorb_filled m f x) xs ∙ held-if (is_full m f _) f

held-files : (m : ℕ) (f : ShardFiller) (xs : List MDBFileInfo) → held (files_filled m f xs) ≡ held f ++ xs
held-files m f [] = sym (append-nil (held f))
held-files m f (x ∷ xs) =
    let g = room m f _ in
    held-files m (file_filled m f x) xs ∙ ap (λ (fs : List MDBFileInfo). fs ++ xs) (sym (append_assoc (files_of g.done) g.next.files (x ∷ []))) ∙ append_assoc (held g) (x ∷ []) xs
    ∙ ap (λ (fs : List MDBFileInfo). fs ++ x ∷ xs) (held-if (is_full m f _) f)

none-there : (xs : List MDBXorbInfo) (fs : List MDBFileInfo) → has_some (record { xorbs = xs; files = fs }) ≡ false → fs ≡ []
none-there xs [] e = refl
none-there xs (f ∷ fs) e = absurd (true≢false (sym (or_right (ltb 0 (length xs)) (ltb 0 (length (f ∷ fs))) (lt-ltb 0 (length (f ∷ fs)) (omega arith))) ∙ e))

held-all : (b : Bool) (f : ShardFiller) → has_some f.next ≡ b → files_of (if b then f.done ++ f.next ∷ [] else f.done) ≡ held f
held-all true f e = files-push f.done f.next
held-all false f e = sym (append-nil (files_of f.done)) ∙ ap (λ (fs : List MDBFileInfo). files_of f.done ++ fs) (sym (none-there f.next.xorbs f.next.files e))

-- the file records are all there
pub files-in : (m : ℕ) (r : ShardRecord) → files_of (shards_in m r) ≡ r.files
files-in m r =
    let f = files_filled m (xorbs_filled m no_shards r.xorbs) r.files in
    held-all (has_some f.next) f refl ∙ held-files m (xorbs_filled m no_shards r.xorbs) r.files ∙ ap (λ (fs : List MDBFileInfo). fs ++ r.files) (held-xorbs m no_shards r.xorbs)

-- a file record among those of some shards is in one of them
pub in-shard : (ss : List ShardRecord) (f : MDBFileInfo) → Contains (files_of ss) f → (s : ShardRecord) × Contains ss s × Contains s.files f
in-shard [] f c = absurd (let lt = c.1 in omega arith)
in-shard (s ∷ ss) f c = go (Contains-append_cases s.files (files_of ss) f c) (λ k. in-shard ss f k)
  where
    go : Contains s.files f ⊎ Contains (files_of ss) f → (Contains (files_of ss) f → (t : ShardRecord) × Contains ss t × Contains t.files f) → (t : ShardRecord) × Contains (s ∷ ss) t × Contains t.files f
    go (inl k) later = (s, Contains-append_left (s ∷ []) ss s (Contains-push [] s), k)
    go (inr k) later = let h = later k in (h.0, Contains-append_right (s ∷ []) ss h.0 h.1, h.2)
