-- The calls of its session that a cleaner makes, one after another.
use Rattle.std.proofs.Common.{◌≡◌, ℕ, inl, inr, Bool, List, [], ◌∷◌, ◌++◌, refl, sym, ◌∙◌, ap, subst}
use Rattle.std.specs.Prelude.{Option, Result}
use Rattle.xet_base.specs.declared.merklehash.MerkleHash.{MerkleHash}
use Rattle.xet_base.specs.declared.mdb_shard.FileDataSequenceEntry.{FileDataSequenceEntry}
use Rattle.xet_base.specs.declared.mdb_shard.Xorb.{Xorb}
use Rattle.xet_upload.specs.declared.data_error.DataError.{DataError}
use Rattle.xet_upload_session.specs.Calls.{Keeps, Queries, Registers}
use Rattle.xet_upload_session.specs.Sessions.{SessionTold}
use Rattle.xet_upload_session.proofs.CallerLemmas.{keeps-both, keeps-refl}
use Rattle.xet_clean_parts.specs.SessionCalls.{Calls, CallsAll, CallsOf, CallsOnce}

module _ (Once : SessionTold → SessionTold → Type 0) where
  all-both : (ms ks : List SessionTold) (b m n : SessionTold) → CallsAll Once ms b m → CallsAll Once ks m n
      → CallsAll Once (ms ++ ks) b n
  all-both [] ks b m n one two = subst (λ (t : SessionTold). CallsAll Once ks t n) one two
  all-both (x ∷ ms) ks b m n one two = (one.0, all-both ms ks x m n one.1 two)

  pub of-both : (b m n : SessionTold) → CallsOf Once b m → CallsOf Once m n → CallsOf Once b n
  of-both b m n one two = (one.0 ++ two.0, all-both one.0 two.0 b m n one.1 two.1)

pub calls-none : (now : ℕ) (b n : SessionTold) → n ≡ b → Calls now b n
calls-none now b n e = ([], e)

pub calls-both : (now : ℕ) (b m n : SessionTold) → Calls now b m → Calls now m n → Calls now b n
calls-both now b m n one two = of-both (CallsOnce now) b m n one two

-- what is told beside the session's words changes none of them
pub calls-told : (now : ℕ) (b m n : SessionTold) → n ≡ m → Calls now b m → Calls now b n
calls-told now b m n e c = subst (λ (t : SessionTold). Calls now b t) (sym e) c

pub calls-moved : (now : ℕ) (b m n : SessionTold) → m ≡ b → Calls now m n → Calls now b n
calls-moved now b m n e c = subst (λ (t : SessionTold). Calls now t n) e c

pub calls-search : (now : ℕ) (b n : SessionTold) (hashes : List MerkleHash)
    (answer : Result (Option (ℕ × FileDataSequenceEntry × Bool)) DataError) → Queries b n hashes answer → Calls now b n
calls-search now b n hashes answer q = (n ∷ [], (inl (hashes, answer, q), refl))

pub calls-xorb : (now : ℕ) (b n : SessionTold) (x : Xorb) (answer : Result Bool DataError)
    → Registers b n x now answer → Calls now b n
calls-xorb now b n x answer r = (n ∷ [], (inr (x, answer, r), refl))

-- the ids and the group of a session
pub group-both : {A B : Type 0} {a b c : A} {x y z : B} → (b ≡ a) × (y ≡ x) → (c ≡ b) × (z ≡ y) → (c ≡ a) × (z ≡ x)
group-both one two = (two.0 ∙ one.0, two.1 ∙ one.1)

-- searches and given xorbs leave what waits, what is finished, and the thresholds
pub calls-leave : (now : ℕ) (b n : SessionTold) → Calls now b n
    → Keeps b n × (n.waiting ≡ b.waiting) × (n.finished ≡ b.finished) × (n.thresholds ≡ b.thresholds)
calls-leave now b n (ms, c) = go ms b c
  where
    Left : SessionTold → SessionTold → Type 0
    Left a z = Keeps a z × (z.waiting ≡ a.waiting) × (z.finished ≡ a.finished) × (z.thresholds ≡ a.thresholds)

    one : (a m : SessionTold) → CallsOnce now a m → Left a m
    one a m (inl (hs, r, q)) = (
      q.keeps,
      ap (λ (t : SessionTold). t.waiting) q.same,
      ap (λ (t : SessionTold). t.finished) q.same,
      ap (λ (t : SessionTold). t.thresholds) q.same,
    )
    one a m (inr (x, r, q)) = (
      q.keeps,
      ap (λ (t : SessionTold). t.waiting) q.same,
      ap (λ (t : SessionTold). t.finished) q.same,
      ap (λ (t : SessionTold). t.thresholds) q.same,
    )

    go : (ms : List SessionTold) (a : SessionTold) → CallsAll (CallsOnce now) ms a n → Left a n
    go [] a e = (
      keeps-refl a n e,
      ap (λ (t : SessionTold). t.waiting) e,
      ap (λ (t : SessionTold). t.finished) e,
      ap (λ (t : SessionTold). t.thresholds) e,
    )
    go (m ∷ ms) a c =
        let first = one a m c.0 in
        let rest = go ms m c.1 in
        (keeps-both a m n first.0 rest.0, rest.1 ∙ first.1, rest.2 ∙ first.2, rest.3 ∙ first.3)
