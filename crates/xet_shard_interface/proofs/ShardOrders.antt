-- A log stays ordered while several shards are put whose xorbs are there.
use Rattle.std.proofs.Common.{◌≡◌, ℕ, zero, suc, List, [], ◌∷◌, ◌++◌, length, map, take, refl, sym, ◌∙◌, ap, subst}
use Rattle.std.specs.Prelude.{All, Option, Some, None, IsSome, option_map, unwrap_or, Result}
use Rattle.std.proofs.lemmas.Bool.{false≢true}
use Rattle.std.proofs.lemmas.List.{append-nil, append_assoc}
use Rattle.std.proofs.lemmas.List.Concat.{flat_map-append}
use Rattle.std.proofs.lemmas.List.Elements.{All-nil, All-append, All-same, All-weaker}
use Rattle.xet_base.specs.declared.merklehash.MerkleHash.{MerkleHash}
use Rattle.xet_base.specs.declared.mdb_shard.MDBFileInfo.{MDBFileInfo}
use Rattle.xet_base.specs.declared.mdb_shard.ShardRecord.{ShardRecord}
use Rattle.xet_outside.specs.declared.client.ClientError.{ClientError}
use Rattle.xet_uploader.specs.declared.uploader.Put.{Put}
use Rattle.xet_uploader.specs.declared.uploader.Put.TheVariants as put
use Rattle.xet_uploader.specs.Uploads.{UploaderTold}
use Rattle.xet_upload.specs.declared.data_error.DataError.{DataError}
use Rattle.xet_upload.specs.Orders.{names_of, IsThere, IsOrdered}
use Rattle.xet_upload.proofs.CallerLemmas.{there-grown, ordered-none, ordered-shard}
use Rattle.xet_shard_interface.specs.Interfaces.{InterfaceTold, records_of}
use Rattle.xet_shard_interface.specs.Puts.{PutsInOrder, Uploads, puts_of, shards_of}
use Rattle.xet_shard_interface.proofs.Fillings.{files_of, files-in}
use Rattle.xet_shard_interface.proofs.Splits.{All-append_left, All-append_right}

pub log-grown : (o : Option (List Put)) (more : List Put) → IsSome o → unwrap_or (option_map (λ (ps : List Put). ps ++ more) o) [] ≡ unwrap_or o [] ++ more
log-grown (Some ps) more s = refl
log-grown None more s = absurd (false≢true s)

names-split : (s : ShardRecord) (ss : List ShardRecord) → names_of (s.files ++ files_of ss) ≡ names_of s.files ++ names_of (files_of ss)
names-split s ss = flat_map-append (λ (f : MDBFileInfo). map (λ e. e.xorb) f.entries) s.files (files_of ss)

-- several shards, whose xorbs are there
pub ordered-shards : (ss : List ShardRecord) (log : List Put) (first : ℕ) (known : List MerkleHash) → IsOrdered log first known → All (IsThere log known) (names_of (files_of ss)) → IsOrdered (log ++ map put.Shard ss) first known
ordered-shards [] log first known h a = let P : List Put → Type 0 = λ ps. IsOrdered ps first known in subst P (sym (append-nil log)) h
ordered-shards (s ∷ ss) log first known h a =
    let P : List Put → Type 0 = λ ps. IsOrdered ps first known in
    let both = All-same (IsThere log known) (names_of s.files ++ names_of (files_of ss)) (names_of (s.files ++ files_of ss)) (sym (names-split s ss)) a in
    let rest = All-weaker (IsThere log known) (IsThere (log ++ put.Shard s ∷ []) known) (there-grown log (put.Shard s ∷ []) known) (names_of (files_of ss)) (All-append_right (IsThere log known) (names_of s.files) (names_of (files_of ss)) both) in
    subst P (append_assoc log (put.Shard s ∷ []) (map put.Shard ss))
    (ordered-shards ss (log ++ put.Shard s ∷ []) first known (ordered-shard log first known s h (All-append_left (IsThere log known) (names_of s.files) (names_of (files_of ss)) both)) rest)

-- the first of several shards name no more than all of them
pub names-take : (P : MerkleHash → Type 0) (k : ℕ) (ss : List ShardRecord) → All P (names_of (files_of ss)) → All P (names_of (files_of (take k ss)))
names-take P zero ss a = All-nil P
names-take P (suc k) [] a = a
names-take P (suc k) (s ∷ ss) a =
    let both = All-same P (names_of s.files ++ names_of (files_of ss)) (names_of (s.files ++ files_of ss)) (sym (names-split s ss)) a in
    let rest = names-take P k ss (All-append_right P (names_of s.files) (names_of (files_of ss)) both) in
    All-same P (names_of (s.files ++ files_of (take k ss))) (names_of s.files ++ names_of (files_of (take k ss))) (names-split s (take k ss))
    (All-append P (names_of s.files) (names_of (files_of (take k ss))) (All-append_left P (names_of s.files) (names_of (files_of ss)) both) rest)

-- what is put of the records of a session is in order
pub uploads-ordered : (u v : UploaderTold) (b n : InterfaceTold) (x z : Option ClientError) (a : Result ℕ DataError) → Uploads u v b n x z a → PutsInOrder u v b
uploads-ordered u v b n x z a h known puts session there =
    let P : List Put → Type 0 = λ ps. IsOrdered ps (length (puts_of u)) known in
    let ss = shards_of b in
    let named = All-same (IsThere (puts_of u) known) (names_of (files_of ss)) (names_of (records_of b.session).files) (ap names_of (files-in b.rules.shard_max_target_size (records_of b.session))) there in
    let is : puts_of v ≡ puts_of u ++ map put.Shard (take h.count ss) = ap (λ (o : Option (List Put)). unwrap_or o []) (h.some session) ∙ log-grown u.puts (map put.Shard (take h.count ss)) puts in
    subst P (sym is) (ordered-shards (take h.count ss) (puts_of u) (length (puts_of u)) known (ordered-none (puts_of u) known) (names-take (IsThere (puts_of u) known) h.count ss named))
