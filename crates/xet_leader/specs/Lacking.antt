-- The blocks that the open terms of a leader's plans lack.
use Rattle.std.specs.Prelude.{ℕ, ◌≡◌, ◌+◌, ◌-◌, ◌==◌, ◌&&◌, Bool, false, cond, is_none, nat_lt, List, [], ◌∷◌, ◌++◌}
use Rattle.std.specs.Prelude.{take, drop, length, Option, Some, None, slice_get}
use Rattle.std.specs.List.{flat_map, list_any}
use Rattle.xet_base.specs.declared.cas_types.FileRange.{FileRange}
use Rattle.xet_blocks.specs.declared.reconstruction_terms.file_term.FileTerm.{FileTerm}
use Rattle.xet_offers.specs.declared.reconstruction_terms.xorb_block.XorbBlock.{XorbBlock}
use Rattle.xet_events.specs.declared.block_table.BlockTable.{BlockTable}
use Rattle.xet_events.specs.BlockTables.{kept_in}
use Rattle.xet_leader.specs.declared.leader.LedPlan.{LedPlan}
use Rattle.xet_leader.specs.declared.missing_blocks.BlockAt.{BlockAt}
use Rattle.xet_leader.specs.Led.{Led}

-- ---- lists of blocks without repetition

abbrev pub same_place : BlockAt → BlockAt → Bool
same_place a b = a.plan == b.plan && a.block == b.block

-- the place is listed
abbrev pub lists : List BlockAt → BlockAt → Bool
lists cs c = list_any (λ d. same_place d c) cs

-- with one more place, where it isn't listed yet
abbrev pub with_place : List BlockAt → BlockAt → List BlockAt
with_place cs c = cond (lists cs c) cs (cs ++ c ∷ [])

-- with these places, in their order
abbrev pub with_places : List BlockAt → List BlockAt → List BlockAt
with_places cs [] = cs
with_places cs (d ∷ ds) = with_places (with_place cs d) ds

-- from which block on a table counts those of a plan: from this one those of the first plan, from 0 those of others
abbrev pub base_of : ℕ → ℕ → ℕ
base_of low p = cond (p == 0) low 0

-- a table has the places that are listed, with plans that are counted from a number on and blocks from their base on
abbrev pub AreListed : ℕ → ℕ → BlockTable → List BlockAt → Type 0
AreListed first low t cs = (p b : ℕ)
    → kept_in t p b ≡ lists cs (record { plan = p + first; block = b + base_of low p })

-- ---- terms

abbrev pub is_bare : Option XorbBlock → Bool
is_bare None = false
is_bare (Some x) = is_none x.kept

abbrev pub has_some : FileRange → Bool
has_some r = nat_lt 0 (r.end - r.start)

-- the term has bytes, and its block keeps nothing
abbrev pub lacks : LedPlan → FileTerm → Bool
lacks l t = has_some t.byte_range && is_bare (slice_get l.block.blocks t.xorb_block)

abbrev pub lacked_in : LedPlan → FileTerm → List BlockAt
lacked_in l t = cond (lacks l t) (record { plan = l.number; block = t.xorb_block } ∷ []) []

abbrev pub lacked_by : LedPlan → List FileTerm → List BlockAt
lacked_by l ts = flat_map (lacked_in l) ts

-- the blocks that the terms of these plans lack, of which some are passed over, and then so many are taken
abbrev pub lacked : ℕ → ℕ → List LedPlan → List BlockAt
lacked skip count [] = []
lacked skip count (l ∷ ls) = lacked_by l (take count (drop skip l.block.terms))
    ++ lacked (skip - length l.block.terms) (count - (length l.block.terms - skip)) ls

-- how many planned terms come before those of the first plan
abbrev pub first_of : List LedPlan → ℕ
first_of [] = 0
first_of (l ∷ ls) = l.first

-- the blocks that the admitted terms which aren't written lack
abbrev pub missing_of : Led → List BlockAt
missing_of l = with_places [] (lacked (l.finished - first_of l.plans) (l.admitted - l.finished) l.plans)
