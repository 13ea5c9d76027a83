use Rattle.std.proofs.Common.{rules, ◌≡◌, ℕ, ◌+◌, false, cond, List, refl, ◌∙◌, ap, Some, arith}
use Rattle.std.specs.Prelude.{Option}
use Rattle.xet_base.specs.declared.merklehash.MerkleHash.{MerkleHash}
use Rattle.xet_base.specs.declared.invalid.Invalid.TheVariants.{UnknownXorb, XorbCompleted, PastTotal}
use Rattle.xet_progress_state.specs.declared.step.TrackerStep.{TrackerStep}
use Rattle.xet_progress_state.specs.declared.step.TrackerStep.TheVariants.{RegisterXorbUploadProgress}
use Rattle.xet_progress_state.specs.Counts.{progress, size_of, is_completed}
use Rattle.xet_progress_state.specs.Accepted.{refusal_of, progress_test, past_total}
use Rattle.xet_progress_state.proofs.Looked.{looked, missed, refused_by, accepted_by, past_total_no, past_total_yes}
use Rattle.xet_progress_state.proofs.Steps.{IsProgress}
use Rattle.xet_progress_state.proofs.Advance.{progress_can, progress_at}
use Rattle.xet_progress_state.proofs.NewFile.{kept_to}
use Rattle.xet_progress_state.proofs.Marking.{marked_risen, risen_credited}
use Rattle.xet_progress_state.proofs.Named.{same_names}
use Rattle.xet_progress_state.proofs.state.TrackerState.send.Goals as goal

reports : (h : MerkleHash) (k : ℕ) → IsProgress h k (RegisterXorbUploadProgress h k)
reports h k = record { no_file = refl; no_growth = λ f. refl; no_xorb = refl; no_dependency = refl; no_completion = λ g. refl; reports = λ g. refl; bytes = λ g. refl }

-- the test of a registered xorb
tested : (cs : List TrackerStep) (h : MerkleHash) (k z : ℕ) → size_of cs h ≡ Some z → refusal_of cs (RegisterXorbUploadProgress h k) ≡ cond (is_completed cs h) (Some (XorbCompleted h)) (past_total z (progress cs h) k)
tested cs h k z e = ap (λ (o : Option ℕ). progress_test cs h k (Some (XorbCompleted h)) o) e

tested_open : (cs : List TrackerStep) (h : MerkleHash) (k z n : ℕ) → size_of cs h ≡ Some z → is_completed cs h ≡ false → progress cs h ≡ n → refusal_of cs (RegisterXorbUploadProgress h k) ≡ past_total z n k
tested_open cs h k z n e d p = tested cs h k z e ∙ ap (λ b. cond b (Some (XorbCompleted h)) (past_total z (progress cs h) k)) d ∙ ap (λ m. past_total z m k) p

pub returns-in_default : goal.returns-in_default
returns-in_default c =
    let s = c.self.inside in
    let none = missed s.calls.items c.args.xorb_hash s.files.items s.xorbs s.total s.completed s.sizes c.self.invariant.kept c.in_default.ensures.none in
    rw (← c.self.view_is) (refused_by s.calls.items (RegisterXorbUploadProgress c.args.xorb_hash c.args.new_byte_progress) tt (UnknownXorb c.args.xorb_hash) (ap (λ (o : Option ℕ). progress_test s.calls.items c.args.xorb_hash c.args.new_byte_progress (Some (XorbCompleted c.args.xorb_hash)) o) none))

pub returns-then-found : goal.returns-then-found
returns-then-found c =
    let s = c.self.inside in
    let l = looked s.calls.items c.args.xorb_hash s.files.items s.xorbs s.total s.completed s.sizes c.in-Some.found c.self.invariant.kept c.in-Some.ensures.some in
    rw (← c.self.view_is) (refused_by s.calls.items (RegisterXorbUploadProgress c.args.xorb_hash c.args.new_byte_progress) tt (XorbCompleted c.args.xorb_hash)
    (tested s.calls.items c.args.xorb_hash c.args.new_byte_progress c.in-Some.found.size l.size ∙ ap (λ b. cond b (Some (XorbCompleted c.args.xorb_hash)) (past_total c.in-Some.found.size (progress s.calls.items c.args.xorb_hash) c.args.new_byte_progress)) (l.done ∙ c.if-found.true)))

pub overflow_sub-found : goal.overflow_sub-found
overflow_sub-found c =
    let s = c.self.inside in
    let l = looked s.calls.items c.args.xorb_hash s.files.items s.xorbs s.total s.completed s.sizes c.in-Some.found c.self.invariant.kept c.in-Some.ensures.some in
    l.fits c.if-found.false

pub returns-then-new_byte_progress-found : goal.returns-then-new_byte_progress-found
returns-then-new_byte_progress-found c =
    let s = c.self.inside in
    let l = looked s.calls.items c.args.xorb_hash s.files.items s.xorbs s.total s.completed s.sizes c.in-Some.found c.self.invariant.kept c.in-Some.ensures.some in
    rw (← c.self.view_is) (refused_by s.calls.items (RegisterXorbUploadProgress c.args.xorb_hash c.args.new_byte_progress) tt (PastTotal c.in-Some.found.size c.in-Some.found.sent c.args.new_byte_progress)
    (tested_open s.calls.items c.args.xorb_hash c.args.new_byte_progress c.in-Some.found.size c.in-Some.found.sent l.size (l.done ∙ c.if-found.false) (l.sent c.if-found.false)
    ∙ past_total_yes c.in-Some.found.size c.in-Some.found.sent c.args.new_byte_progress (omega arith)))

pub advance-requires-clause-can : goal.advance-requires-clause-can
advance-requires-clause-can c =
    let s = c.self.inside in
    let l = looked s.calls.items c.args.xorb_hash s.files.items s.xorbs s.total s.completed s.sizes c.in-Some.found c.self.invariant.kept c.in-Some.ensures.some in
    let low = l.fits c.if-found.false in
    λ x at. progress_can s.calls.items c.args.xorb_hash s.files.items s.xorbs s.total s.completed s.sizes c.in-Some.found c.self.invariant.kept c.in-Some.ensures.some c.if-found.false x at
    c.args.new_byte_progress (RegisterXorbUploadProgress c.args.xorb_hash c.args.new_byte_progress) (reports c.args.xorb_hash c.args.new_byte_progress) (omega arith) (search rules)

pub invariant_of-self : goal.invariant_of-self
invariant_of-self c =
    let s = c.self.inside in
    let l = looked s.calls.items c.args.xorb_hash s.files.items s.xorbs s.total s.completed s.sizes c.in-Some.found c.self.invariant.kept c.in-Some.ensures.some in
    let low = l.fits c.if-found.false in
    record {
      kept = kept_to (progress_at s.calls.items c.args.xorb_hash s.files.items s.xorbs s.total s.completed s.sizes c.in-Some.found c.self.invariant.kept c.in-Some.ensures.some c.if-found.false
          c.args.new_byte_progress (RegisterXorbUploadProgress c.args.xorb_hash c.args.new_byte_progress) (reports c.args.xorb_hash c.args.new_byte_progress) (omega arith) c.advance.new.self c.advance.new.files.items c.advance.new.completed c.advance.ensures.xorb c.advance.ensures.count c.advance.ensures.sum)
          c.and-self-inside.ensures refl refl refl refl refl;
      names = same_names s.calls.items c.and-self-inside.result.items (RegisterXorbUploadProgress c.args.xorb_hash c.args.new_byte_progress) s.names c.self.invariant.names c.and-self-inside.ensures refl;
      marked = marked_risen s.files.items c.advance.new.files.items s.marks (risen_credited s.files.items c.advance.new.files.items c.advance.ensures.xorb.old.parts (c.in-Some.found.sent + c.args.new_byte_progress) c.in-Some.found.size c.advance.ensures.count c.advance.ensures.xorb.credited) c.self.invariant.marked;
    }

pub returns : goal.returns
returns c =
    let s = c.self.inside in
    let l = looked s.calls.items c.args.xorb_hash s.files.items s.xorbs s.total s.completed s.sizes c.in-Some.found c.self.invariant.kept c.in-Some.ensures.some in
    let low = l.fits c.if-found.false in
    rw (← c.self.view_is) (accepted_by s.calls.items c.and-self-inside.result.items (RegisterXorbUploadProgress c.args.xorb_hash c.args.new_byte_progress) tt tt
    (tested_open s.calls.items c.args.xorb_hash c.args.new_byte_progress c.in-Some.found.size c.in-Some.found.sent l.size (l.done ∙ c.if-found.false) (l.sent c.if-found.false)
    ∙ past_total_no c.in-Some.found.size c.in-Some.found.sent c.args.new_byte_progress (omega arith)) refl c.and-self-inside.ensures)
