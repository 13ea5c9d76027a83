-- Of which chunks a call makes xorbs, and what it leaves of a file's own.
use Rattle.std.specs.Prelude.{ℕ, ◌≡◌, ◌⊎◌, ◌<◌, ◌≤◌, List, [], ◌∷◌, ◌++◌, length, map, All, None, Result, OnOk}
use Rattle.std.specs.List.{concat, flat_map, sum_by}
use Rattle.xet_base.specs.declared.mdb_shard.Xorb.{Xorb}
use Rattle.xet_base.specs.Digests.{infos_of}
use Rattle.xet_uploader.specs.declared.uploader.Put.TheVariants as put
use Rattle.xet_upload.specs.FileDatas.{Parts}
use Rattle.xet_upload.specs.Waitings.{IsWithin, xorb_of_chunks}
use Rattle.xet_upload.specs.declared.data_error.DataError.{DataError}
use Rattle.xet_upload_parts.specs.Storable.{IsStorable}
use Rattle.xet_upload_session.specs.Calls.{Says}
use Rattle.xet_upload_session.specs.Puts.{made_of}
use Rattle.xet_upload_session.specs.Sessions.{SessionTold, Tells, log_of}

-- the first list is the second, of which some elements may be left out
abbrev pub IsPickedFrom : List (List ℕ) → List (List ℕ) → Type 0
IsPickedFrom xs [] = xs ≡ []
IsPickedFrom xs (y ∷ ys) = IsPickedFrom xs ys ⊎ ((zs : List (List ℕ)) × (xs ≡ y ∷ zs) × IsPickedFrom zs ys)

-- the hash of a xorb is that of its chunks, which are picked from these; it has some, and can be stored
pub record IsMadeOf (chunks : List (List ℕ)) (x : Xorb) : Type 0 where
  pub honest : x ≡ xorb_of_chunks x.chunks
  pub picked : IsPickedFrom x.chunks chunks
  pub some : 0 < length x.chunks
  pub storable : IsStorable x.chunks

-- these chunks were cut behind the parts of a file: its own chunks afterwards are picked from its own and from them; it
-- has the hash and length of each of them more
pub record CutInto (p q : Parts) (cut : List (List ℕ)) : Type 0 where
  pub own : IsPickedFrom q.own.chunks (p.own.chunks ++ cut)
  pub infos : q.infos ≡ p.infos ++ infos_of cut

-- ---- what is put

-- the chunks of these xorbs, of one after the other
abbrev pub joined_chunks : List Xorb → List (List ℕ)
joined_chunks xs = flat_map (λ x. x.chunks) xs

-- no chunk is more often among the first than among the second: whatever chunks weigh, the first weigh no more
abbrev pub AreNoMore : List (List ℕ) → List (List ℕ) → Type 0
AreNoMore xs ys = (weight : List ℕ → ℕ) → sum_by weight xs ≤ sum_by weight ys

-- the log grew by xorbs alone, and those that were not put, since one of their hash was put before, are told as
-- repeated. Each of both is made of these chunks, each of which is in one of them at most, or still left
pub record PutsMade (b n : SessionTold) (chunks left : List (List ℕ)) : Type 0 where
  pub xorbs : List Xorb
  pub grown : log_of n ≡ log_of b ++ map put.Xorb xorbs
  pub again : List Xorb
  pub repeated : n.repeated ≡ b.repeated ++ again
  pub put_made : All (IsMadeOf chunks) xorbs
  pub again_made : All (IsMadeOf chunks) again
  pub once : AreNoMore (joined_chunks (xorbs ++ again) ++ left) chunks

-- no xorb was made
abbrev pub PutsNone : SessionTold → SessionTold → Type 0
PutsNone b n = Tells b → (log_of n ≡ log_of b) × (n.repeated ≡ b.repeated)

-- ---- xorbs that are made one after the other

-- these are the two lists together, each in its order
abbrev pub AreInTurn : List Xorb → List Xorb → List Xorb → Type 0
AreInTurn xs ys [] = (xs ≡ []) × (ys ≡ [])
AreInTurn xs ys (z ∷ zs) = ((us : List Xorb) × (xs ≡ z ∷ us) × AreInTurn us ys zs)
    ⊎ ((us : List Xorb) × (ys ≡ z ∷ us) × AreInTurn xs us zs)

-- there is a next chunk, and it doesn't fit one xorb with these
abbrev pub IsNextUnfit : List (List ℕ) → List (List ℕ) → Type 0
IsNextUnfit own [] = ⊥
IsNextUnfit own (c ∷ cs) = IsWithin (own ++ c ∷ []) → ⊥

-- each of these xorbs was cut since the next chunk didn't fit, of the later xorbs and of those that are left
abbrev pub AreFull : List Xorb → List (List ℕ) → Type 0
AreFull [] left = Unit {0}
AreFull (x ∷ xs) left = IsNextUnfit x.chunks (joined_chunks xs ++ left) × AreFull xs left

-- these xorbs are made one after the other, each since the next chunk didn't fit: their chunks, and then those that are
-- left, are a file's own and some of those that were cut
pub record AreMadeInTurn (own cut left : List (List ℕ)) (made : List Xorb) : Type 0 where
  pub are : All (IsMadeOf (own ++ cut)) made
  pub more : List (List ℕ)
  pub picked : IsPickedFrom more cut
  pub joined : joined_chunks made ++ left ≡ own ++ more
  pub full : AreFull made left

-- the log grew by xorbs alone, and those that were not put, since one of their hash was put before, are told as
-- repeated; both together are these, in turn
pub record GrewInTurn (b n : SessionTold) (made : List Xorb) : Type 0 where
  pub xorbs : List Xorb
  pub grown : log_of n ≡ log_of b ++ map put.Xorb xorbs
  pub again : List Xorb
  pub repeated : n.repeated ≡ b.repeated ++ again
  pub turns : AreInTurn xorbs again made

-- the same of xorbs that are made in turn of a file's chunks
pub record PutsInTurn (b n : SessionTold) (own cut left : List (List ℕ)) : Type 0 where
  pub made : List Xorb
  pub grew : GrewInTurn b n made
  pub so : AreMadeInTurn own cut left made

-- what a call puts is made of a file's own chunks and of those that were cut, and nothing where all these fit one
-- xorb; on Ok it leaves these of them, and after an error some; a put that failed in the call is told as the uploader
-- answered it
pub record PutsSo {A : Type 0} (b n : SessionTold) (own cut after : List (List ℕ)) (answer : Result A DataError)
    : Type 0 where
  pub left : List (List ℕ)
  pub left_are : OnOk answer (left ≡ after)
  pub puts : Tells b → PutsInTurn b n own cut left
  pub full : IsWithin (own ++ cut) → PutsNone b n
  pub said : b.failed ≡ None → Says n answer

-- the same of chunks that came off the front of these bytes
pub record PutsSome {A : Type 0} (b n : SessionTold) (own : List (List ℕ)) (bytes : List ℕ) (after : List (List ℕ))
    (answer : Result A DataError) : Type 0 where
  pub cut : List (List ℕ)
  pub rest : List ℕ
  pub bytes_are : bytes ≡ concat cut ++ rest
  pub so : PutsSo b n own cut after answer

-- ---- the end of a file

-- what is left of a file joins what waited, or one of both became a xorb, and the other waits
abbrev pub IsLast : List (List ℕ) → List (List ℕ) → List Xorb → List (List ℕ) → Type 0
IsLast waited left last waits = ((last ≡ []) × (waits ≡ waited ++ left))
    ⊎ ((last ≡ made_of left) × (waits ≡ waited)) ⊎ ((last ≡ made_of waited) × (waits ≡ left))

-- the data of a file was taken, with these chunks
pub record PutsLast (b n : SessionTold) (own : List (List ℕ)) : Type 0 where
  pub last : List Xorb
  pub grew : GrewInTurn b n last
  pub is_last : IsLast b.waiting.chunks own last n.waiting.chunks

-- xorbs were made in turn of a file's own chunks and of those that were cut, and then the data was taken of those left
pub record PutsToEnd (b n : SessionTold) (own cut : List (List ℕ)) : Type 0 where
  pub made : List Xorb
  pub left : List (List ℕ)
  pub so : AreMadeInTurn own cut left made
  pub last : List Xorb
  pub grew : GrewInTurn b n (made ++ last)
  pub is_last : IsLast b.waiting.chunks left last n.waiting.chunks

-- these chunks stay one with what waits: both together pass no threshold of the session, and keep the limits of a xorb
pub record StayOne (t : SessionTold) (chunks : List (List ℕ)) : Type 0 where
  pub bytes : length (concat (t.waiting.chunks ++ chunks)) ≤ t.thresholds.bytes
  pub count : length (t.waiting.chunks ++ chunks) ≤ t.thresholds.chunks
  pub within : IsWithin (t.waiting.chunks ++ chunks)
