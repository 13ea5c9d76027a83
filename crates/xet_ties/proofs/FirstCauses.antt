-- A failed test by what the first connection alone tells.
use Rattle.std.proofs.Common.{◌≡◌, ◌⊎◌, ℕ, ◌+◌, ◌-◌, ◌^◌, Bool, true, false, cond, List, [], ◌∷◌, sym, subst, inl, inr, ⊎_elim, Some, None, Option}
use Rattle.std.specs.Prelude.{length, min, nat_eq, nat_lt, option_map, slice_get}
use Rattle.xet_base.specs.Lists.{first_some}
use Rattle.xet_base.specs.Store.{Store}
use Rattle.xet_base.specs.declared.cas_types.ChunkRange.{ChunkRange}
use Rattle.xet_base.specs.declared.cas_types.FileRange.{FileRange}
use Rattle.xet_outside.specs.Told.{ClientTold, Query}
use Rattle.xet_outside.specs.declared.block.BlockBytes.{BlockBytes}
use Rattle.xet_outside.specs.declared.plan.Plan.{Plan}
use Rattle.xet_outside.specs.declared.plan.PlanAnswer.{PlanAnswer}
use Rattle.xet_outside.specs.declared.plan.PlanAnswer.TheVariants.{Found}
use Rattle.xet_error.specs.declared.error.Corruption.{Corruption}
use Rattle.xet_error.specs.declared.error.Corruption.TheVariants.{BlockLength, OffsetCount, OffsetOrder, TermPastBlock}
use Rattle.xet_blocks.specs.declared.reconstruction_terms.file_term.FileTerm.{FileTerm}
use Rattle.xet_offers.specs.declared.reconstruction_terms.xorb_block.XorbBlock.{XorbBlock}
use Rattle.xet_offers.specs.declared.reconstruction_terms.xorb_block.XorbBlockData.{XorbBlockData}
use Rattle.xet_offers.specs.BlockCalls.{failed_check}
use Rattle.xet_offers.specs.BlockChecks.{chunk_total, count_test, length_test, misplaced_after, order_test}
use Rattle.xet_blocks.specs.Extracts.{begin_at, failed_term_test, term_size, test_at}
use Rattle.xet_events.specs.declared.event.Event.{Event}
use Rattle.xet_ties.specs.Causes.{BlockFails, BlockFailsIn, FirstFailed, IsBlockTest, IsCorrupted, PlanFails, QueryFailed, RefreshFails, SomeFailed, TermFails, TermFailsIn}
use Rattle.xet_ties.specs.InCall.{EachExchange, Exchange, SomeOne, answers_of}
use Rattle.xet_ties.specs.Saids.{AnswerOf, FirstSaid, IsPlanAccepted, IsPlanSaid}
use Rattle.xet_ties.specs.Setup.{IsOver, RunTold, Setup}
use Rattle.xet_ties.specs.Ties.{FirstUnfailed, IsQuiet, Slack, Stop, Ties}
use Rattle.xet_ties.proofs.LowestLanes.{all_passed}
use Rattle.xet_ties.proofs.Told.{answers_told, bare, if_some}

-- ---- the tests of a block

is_order : (k : Corruption) (o : Option ℕ) → option_map (λ (i : ℕ). OffsetOrder i) o ≡ Some k → IsBlockTest k
is_order k None h = absurd (cc)
is_order k (Some i) h = let same : OffsetOrder i ≡ k = cc in subst IsBlockTest same tt

is_length : (k : Corruption) (o : Option ℕ) (b : BlockBytes) → length_test o b ≡ Some k → IsBlockTest k
is_length k None b h = absurd (cc)
is_length k (Some n) b h = by (nat_eq n (length b.bytes)) h
  where
    by : (v : Bool) → cond {A = Option Corruption} v None (Some (BlockLength n (length b.bytes))) ≡ Some k → IsBlockTest k
    by true e = absurd (cc)
    by false e = let same : BlockLength n (length b.bytes) ≡ k = cc in subst IsBlockTest same tt

is_count : (k : Corruption) (rs : List ChunkRange) (b : BlockBytes) → count_test rs b ≡ Some k → IsBlockTest k
is_count k rs b h = by (nat_eq (chunk_total rs) (length b.offsets)) h
  where
    by : (v : Bool) → cond {A = Option Corruption} v None (Some (OffsetCount (chunk_total rs) (length b.offsets))) ≡ Some k → IsBlockTest k
    by true e = absurd (cc)
    by false e = let same : OffsetCount (chunk_total rs) (length b.offsets) ≡ k = cc in subst IsBlockTest same tt

one_of : (P : Corruption → Type 0) (k : Corruption) (a b c : Option Corruption) → (a ≡ Some k → P k) → (b ≡ Some k → P k) → (c ≡ Some k → P k) → first_some (a ∷ b ∷ c ∷ []) ≡ Some k → P k
one_of P k (Some x) b c f g h e = f e
one_of P k None (Some x) c f g h e = g e
one_of P k None None (Some x) f g h e = h e
one_of P k None None None f g h e = absurd (cc)

-- a test of a block's bytes
pub is_check : (k : Corruption) (x : XorbBlock) (b : BlockBytes) → failed_check x b ≡ Some k → IsBlockTest k
is_check k x b h =
    one_of IsBlockTest k (count_test x.chunk_ranges b) (order_test b) (length_test x.uncompressed_size_if_known b)
    (is_count k x.chunk_ranges b)
    (is_order k (misplaced_after (length b.bytes) None b.offsets))
    (is_length k x.uncompressed_size_if_known b)
    h

is_term : (k : Corruption) (t : FileTerm) (d : XorbBlockData) → failed_term_test t d ≡ Some k → IsBlockTest k
is_term k t d h = by (slice_get d.chunk_offsets t.xorb_block_start_index) h
  where
    ends : (place : ℕ) (v : Bool) → cond {A = Option Corruption} v (Some (TermPastBlock (min (begin_at t place + term_size t) (2 ^ 64 - 1)) (length d.bytes))) None ≡ Some k → IsBlockTest k
    ends place false e = absurd (cc)
    ends place true e = let same : TermPastBlock (min (begin_at t place + term_size t) (2 ^ 64 - 1)) (length d.bytes) ≡ k = cc in subst IsBlockTest same tt

    by : (o : Option (ℕ × ℕ)) → test_at t d o ≡ Some k → IsBlockTest k
    by None e = let same : OffsetCount (min (t.xorb_block_start_index + 1) (2 ^ 64 - 1)) (length d.chunk_offsets) ≡ k = cc in subst IsBlockTest same tt
    by (Some c) e = ends c.1 (nat_lt (length d.bytes) (begin_at t c.1 + term_size t)) e

some_of_all : (P : Exchange → Type 0) (Q : Type 0) (xs : List Exchange) → ((x : Exchange) → P x → Q) → SomeOne P xs → Q
some_of_all P Q [] f h = absurd h
some_of_all P Q (x ∷ xs) f h = ⊎_elim (λ (p : P x). f x p) (λ (s : SomeOne P xs). some_of_all P Q xs f s) h

-- ---- by the first connection alone

bare_answer : (x : Exchange) (n : ℕ) (q : Query) (a : PlanAnswer) → AnswerOf x n q a → AnswerOf (bare x) n q a
bare_answer x n q a h = record { place = h.place; some = h.some; at = h.at; query = h.query; answer = h.answer }

first_said : (g : Setup) (x : Exchange) (xs : List Exchange) (p : Plan) (q : FileRange) → IsPlanSaid g (x ∷ xs) p q → IsPlanSaid g (bare x ∷ []) p q
first_said g x xs p q h = record { number = h.number; answer = bare_answer x h.number (g.file, q) (Found p) h.answer; some = h.some; from = h.from; to = h.to }

first_accepted : (g : Setup) (x : Exchange) (xs : List Exchange) (p : Plan) (q : FileRange) → IsPlanAccepted g (x ∷ xs) p q → IsPlanAccepted g (bare x ∷ []) p q
first_accepted g x xs p q h = record { said = first_said g x xs p q h.said; passes = h.passes }

first_fails : (g : Setup) (x : Exchange) (xs : List Exchange) (k : Corruption) → SomeFailed g (x ∷ xs) k → QueryFailed g (bare x ∷ []) k ⊎ IsBlockTest k
first_fails g x xs k h = ⊎_elim plan (⊎_elim refresh (⊎_elim block term)) h
  where
    plan : PlanFails g (x ∷ xs) k → QueryFailed g (bare x ∷ []) k ⊎ IsBlockTest k
    plan f = inl (inl (record { plan = f.plan; query = f.query; said = first_said g x xs f.plan f.query f.said; fails = f.fails }))

    refresh : RefreshFails g (x ∷ xs) k → QueryFailed g (bare x ∷ []) k ⊎ IsBlockTest k
    refresh f = inl (inr (record { plan = f.plan; query = f.query; accepted = first_accepted g x xs f.plan f.query f.accepted; answer = f.answer; answered = f.answered; fails = f.fails }))

    block : BlockFails g (x ∷ xs) k → QueryFailed g (bare x ∷ []) k ⊎ IsBlockTest k
    block f = inr (some_of_all (BlockFailsIn g (x ∷ xs) f.place f.number k) (IsBlockTest k) (x ∷ xs) (λ y b. is_check k f.place.block b.given b.fails) f.bytes)

    term : TermFails g (x ∷ xs) k → QueryFailed g (bare x ∷ []) k ⊎ IsBlockTest k
    term f = inr (some_of_all (TermFailsIn g (x ∷ xs) f.place f.number k) (IsBlockTest k) (x ∷ xs) (λ y b. is_term k f.place.term _ b.fails) f.bytes)

first_failed : (g : Setup) (es : List Event) (k : Corruption) (bs ns : List ClientTold) (xs : List Exchange) → EachExchange bs ns xs → FirstSaid g es xs → SomeFailed g xs k → FirstFailed g bs ns k
first_failed g es k bs ns [] h s f = absurd s
first_failed g es k [] [] (x ∷ xs) h s f = absurd h
first_failed g es k [] (n ∷ ns) (x ∷ xs) h s f = absurd h
first_failed g es k (b ∷ bs) [] (x ∷ xs) h s f = absurd h
first_failed g es k (b ∷ bs) (n ∷ ns) (x ∷ xs) h s f =
    if_some (answers_of b n) (λ y. y ≡ bare x) (λ y. QueryFailed g (y ∷ []) k ⊎ IsBlockTest k)
    (λ y e. subst (λ (v : Exchange). QueryFailed g (v ∷ []) k ⊎ IsBlockTest k) (sym e) (first_fails g x xs k f))
    (answers_told b n x h.0)

-- where the connections don't tell one valid store, an answer that fails a test is the cause
pub corrupted : (g : Setup) (b n : RunTold) (es : List Event) (stop : Stop) (sl : Slack) (k : Corruption) → Ties g b n es stop sl → IsQuiet b.clients sl → ((s : Store) → IsOver s b.clients → ⊥) → SomeFailed g sl.heard k → IsCorrupted g sl.heard b.clients n.clients k
corrupted g b n es stop sl k t quiet untrue failed = record {
  untrue = untrue;
  failed = inl (failed, record { passed = all_passed g es sl.heard sl.hidden quiet.hidden t.heard_served t.passed; unfailed = subst (λ (i : ℕ). FirstUnfailed i b.clients n.clients) quiet.calm t.unfailed });
  first = first_failed g es k b.clients n.clients sl.heard t.heard t.said failed;
}
