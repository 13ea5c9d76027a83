-- What connections were asked, served and said in a call, by the lists that they tell before and after.
use Rattle.std.specs.Prelude.{ℕ, zero, suc, ◌≡◌, ◌⊎◌, Bool, false, true, List, [], ◌∷◌, ◌++◌, drop, length, map, Option}
use Rattle.std.specs.Prelude.{Some, None}
use Rattle.std.specs.List.{flat_map}
use Rattle.xet_base.specs.declared.cas_types.ChunkRange.{ChunkRange}
use Rattle.xet_base.specs.declared.merklehash.MerkleHash.{MerkleHash}
use Rattle.xet_outside.specs.declared.block.BlockBytes.{BlockBytes}
use Rattle.xet_outside.specs.declared.said.Said.{Said}
use Rattle.xet_outside.specs.declared.said.Said.TheVariants as said
use Rattle.xet_outside.specs.declared.served.Served.{Served}
use Rattle.xet_outside.specs.Answers.{bytes_in, late_in}
use Rattle.xet_outside.specs.Told.{Added, ClientTold, Query}

-- what one connection was asked, served and said in a call
pub record Exchange : Type 0 where
  pub asked : List Query
  pub served : List Served
  pub said : List Said

-- it was said that a URL has expired
abbrev pub expired_said : Said → Bool
expired_said (said.Plan a) = false
expired_said (said.Block b) = false
expired_said (said.Expired e) = true

-- a plan's number and the block's number in it
abbrev pub Place : Type 0
Place = ℕ × ℕ

-- the place of the block that an entry is of
abbrev pub place_of : Served → Place
place_of e = (e.plan, e.index)

-- the places of the blocks whose requests were answered as expired, in order
abbrev pub late_places : List Said → List Place
late_places all = map place_of (late_in all)

-- this holds of one of these connections
abbrev pub SomeOne : (Exchange → Type 0) → List Exchange → Type 0
SomeOne P [] = ⊥
SomeOne P (x ∷ xs) = P x ⊎ SomeOne P xs

-- this holds of the first of these connections, so many
abbrev pub AllBelow : (Exchange → Type 0) → ℕ → List Exchange → Type 0
AllBelow P zero xs = Unit {0}
AllBelow P (suc i) [] = ⊥
AllBelow P (suc i) (x ∷ xs) = P x × AllBelow P i xs

-- the lists of a connection, each where it is told, grew by these, and it said an answer with bytes for each served
-- block
pub record IsExchange (before after : ClientTold) (x : Exchange) : Type 0 where
  pub asks : Added before.asked after.asked x.asked
  pub serves : Added before.served after.served x.served
  pub says : Added before.said after.said x.said
  pub paired : length x.served ≡ length (bytes_in x.said)

-- so of each connection
abbrev pub EachExchange : List ClientTold → List ClientTold → List Exchange → Type 0
EachExchange [] [] [] = Unit {0}
EachExchange (b ∷ bs) (n ∷ ns) (x ∷ xs) = IsExchange b n x × EachExchange bs ns xs
EachExchange bs ns xs = ⊥

-- the lists of one connection have grown
pub record ExchangeGrew (x y : Exchange) : Type 0 where
  pub asked : List Query
  pub served : List Served
  pub said : List Said
  pub is_asked : y.asked ≡ x.asked ++ asked
  pub is_served : y.served ≡ x.served ++ served
  pub is_said : y.said ≡ x.said ++ said

-- so of each connection
abbrev pub EachGrew : List Exchange → List Exchange → Type 0
EachGrew [] [] = Unit {0}
EachGrew [] (y ∷ ys) = ⊥
EachGrew (x ∷ xs) [] = ⊥
EachGrew (x ∷ xs) (y ∷ ys) = ExchangeGrew x y × EachGrew xs ys

-- what all connections together served
abbrev pub served_of_all : List Exchange → List Served
served_of_all xs = flat_map (λ x. x.served) xs

-- ---- of connections that tell

-- what was added to a list, where it is told before and after
abbrev pub new_in : {A : Type 0} → Option (List A) → Option (List A) → Option (List A)
new_in (Some xs) (Some all) = Some (drop (length xs) all)
new_in (Some xs) None = None
new_in None after = None

-- two lists joined, where both are told
abbrev pub joined : {A : Type 0} → Option (List A) → Option (List A) → Option (List A)
joined (Some xs) (Some ys) = Some (xs ++ ys)
joined (Some xs) None = None
joined None ys = None

-- these three lists, where each is told
abbrev pub exchange : Option (List Query) → Option (List Served) → Option (List Said) → Option Exchange
exchange (Some qs) (Some es) (Some all) = Some (record { asked = qs; served = es; said = all })
exchange (Some qs) (Some es) None = None
exchange (Some qs) None all = None
exchange None es all = None

-- what was added to the lists of one connection, where it tells them
abbrev pub exchange_of : ClientTold → ClientTold → Option Exchange
exchange_of before after = exchange (new_in before.asked after.asked) (new_in before.served after.served)
    (new_in before.said after.said)

-- what one connection was asked and said, where it tells that
abbrev pub answers_of : ClientTold → ClientTold → Option Exchange
answers_of before after = exchange (new_in before.asked after.asked) (Some []) (new_in before.said after.said)

-- one more, where all are told
abbrev pub with_exchange : Option Exchange → Option (List Exchange) → Option (List Exchange)
with_exchange (Some x) (Some xs) = Some (x ∷ xs)
with_exchange (Some x) None = None
with_exchange None xs = None

-- what was added to the lists of each connection, where each tells its own
abbrev pub all_exchanges : List ClientTold → List ClientTold → Option (List Exchange)
all_exchanges (b ∷ bs) (n ∷ ns) = with_exchange (exchange_of b n) (all_exchanges bs ns)
all_exchanges [] [] = Some []
all_exchanges [] (n ∷ ns) = None
all_exchanges (b ∷ bs) [] = None

-- ---- the cache

-- a look into the cache: the xorb, the range, and the entry that was given, or nothing
abbrev pub Look : Type 0
Look = MerkleHash × ChunkRange × Option BlockBytes
