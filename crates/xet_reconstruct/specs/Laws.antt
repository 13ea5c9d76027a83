-- Laws of answers that are a valid store's: what they mean for a run.
use Rattle.std.specs.Prelude.{ℕ, ◌≡◌, ◌<◌, List, All, IfSome}
use Rattle.std.specs.List.{AllZip, concat}
use Rattle.xet_base.specs.declared.cas_types.FileRange.{FileRange}
use Rattle.xet_base.specs.declared.merklehash.MerkleHash.{MerkleHash}
use Rattle.xet_base.specs.Store.{IsValid, Store, window}
use Rattle.xet_outside.specs.declared.block.BlockBytes.{BlockBytes}
use Rattle.xet_outside.specs.declared.plan.Plan.{Plan}
use Rattle.xet_outside.specs.declared.plan.PlanAnswer.{PlanAnswer}
use Rattle.xet_outside.specs.Plan.{block_of, shape}
use Rattle.xet_outside.specs.Told.{Holds, IsHonest}
use Rattle.xet_error.specs.declared.error.Corruption.{Corruption}
use Rattle.xet_blocks.specs.declared.reconstruction_terms.file_term.FileTerm.{FileTerm}
use Rattle.xet_offers.specs.declared.reconstruction_terms.xorb_block.XorbBlock.{XorbBlock}
use Rattle.xet_blocks.specs.Terms.{terms_of}
use Rattle.xet_ties.specs.Causes.{SomeFailed}
use Rattle.xet_ties.specs.InCall.{Exchange, Look, SomeOne}
use Rattle.xet_ties.specs.Saids.{IsBlockAnswer, IsPiece, IsPlanAccepted, IsQueryAnswer, TermOfPlan}
use Rattle.xet_ties.specs.Setup.{IsHonestEntry, Setup}

-- ---- a valid store's answers

-- a query has bytes, and the answer to it is the store's
pub record IsHonestAnswer (s : Store) (file : MerkleHash) (q : FileRange) (a : PlanAnswer) : Type 0 where
  pub forward : q.start < q.end
  pub is : IsHonest s file q a

-- bytes of chunks that are stored are the store's
abbrev pub IsHonestData : Store → XorbBlock → BlockBytes → Type 0
IsHonestData s b given =
    Holds s b.xorb_hash b.chunk_ranges → given ≡ block_of s b.xorb_hash b.chunk_ranges

-- so are the answers to queries, and those to requests for blocks
pub record AreHonest (s : Store) (g : Setup) (xs : List Exchange) : Type 0 where
  pub plans : (q : FileRange) (a : PlanAnswer) → IsQueryAnswer g.file xs q a → IsHonestAnswer s g.file q a
  pub blocks : (p k : ℕ) (b : XorbBlock) (given : BlockBytes) → SomeOne (λ x. IsBlockAnswer x p k b given) xs
      → IsHonestData s b given

-- and the entries that looks gave
abbrev pub AreHonestLooks : Store → List Look → Type 0
AreHonestLooks s looks = All (λ l. IfSome l.2 (λ e. IsHonestEntry s (l.0, l.1, e))) looks

-- of honest answers none fails a test, whichever block it is of
abbrev pub HonestAnswersPass : Type 0
HonestAnswersPass = (s : Store) → IsValid s → (g : Setup) (xs : List Exchange) → AreHonest s g xs
    → (k : Corruption) → SomeFailed g xs k → ⊥

-- the bytes of this term of a plan, by the answers to requests for its block under some number
pub record PieceOf (g : Setup) (xs : List Exchange) (looks : List Look) (plan : Plan) (q : FileRange) (t : FileTerm)
    (piece : List ℕ) : Type 0 where
  pub of_plan : TermOfPlan g xs
  pub plan_is : of_plan.place.plan ≡ plan
  pub query_is : of_plan.place.query ≡ q
  pub term_is : of_plan.term ≡ t
  pub number : ℕ
  pub piece_of : IsPiece g xs looks number of_plan piece

-- the pieces of all terms of an honest plan join to the window of its query
abbrev pub HonestPiecesJoin : Type 0
HonestPiecesJoin = (s : Store) → IsValid s → (g : Setup) (xs : List Exchange) (looks : List Look) → AreHonest s g xs
    → AreHonestLooks s looks → (plan : Plan) (q : FileRange) → IsPlanAccepted g xs plan q → (pieces : List (List ℕ))
    → AllZip (PieceOf g xs looks plan q) (terms_of (shape plan) q g.multirange) pieces
    → concat pieces ≡ window s g.file q
