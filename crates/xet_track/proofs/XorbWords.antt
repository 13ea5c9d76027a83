-- Lines of three words that name a xorb.
use Rattle.std.proofs.Common.{◌≡◌, ℕ, Bool, true, false, cond, List, refl, sym, ◌∙◌, ap}
use Rattle.std.specs.Prelude.{Option, Some, None, option_and_then, option_map, codes}
use Rattle.std.specs.Str.{bytes_eq}
use Rattle.xet_base.specs.declared.merklehash.MerkleHash.{MerkleHash}
use Rattle.xet_progress_state.specs.declared.step.TrackerStep.{TrackerStep}
use Rattle.xet_progress_state.specs.declared.step.TrackerStep.TheVariants.{RegisterNewXorb}
use Rattle.xet_progress_state.specs.declared.step.TrackerStep.TheVariants.{RegisterXorbUploadProgress}
use Rattle.xet_progress_state.specs.declared.step.TrackerStep.TheVariants.{RegisterXorbUploadProgressBackground}
use Rattle.xet_track.specs.Numbers.{number_of_text, name_of_text}
use Rattle.xet_track.specs.Script.{grow_call, xorb_call, progress_call, background_call, three_words}
use Rattle.xet_track.specs.steps.Spelling.{xorb_step_of}

-- each of the words takes the name and the number alike
alike : (p q r : Bool) (h : Option MerkleHash) (n : Option ℕ)
    → cond p (option_and_then (λ x. option_map (λ k. RegisterNewXorb x k) n) h)
    (cond q (option_and_then (λ x. option_map (λ k. RegisterXorbUploadProgress x k) n) h)
    (cond r (option_and_then (λ x. option_map (λ k. RegisterXorbUploadProgressBackground x k) n) h) None))
    ≡ option_and_then (λ x. option_and_then (λ k. cond p (Some (RegisterNewXorb x k))
    (cond q (Some (RegisterXorbUploadProgress x k))
    (cond r (Some (RegisterXorbUploadProgressBackground x k)) None))) n) h
alike true q r None n = refl
alike true q r (Some h) None = refl
alike true q r (Some h) (Some n) = refl
alike false true r None n = refl
alike false true r (Some h) None = refl
alike false true r (Some h) (Some n) = refl
alike false false true None n = refl
alike false false true (Some h) None = refl
alike false false true (Some h) (Some n) = refl
alike false false false None n = refl
alike false false false (Some h) None = refl
alike false false false (Some h) (Some n) = refl

module _ (w a b : List ℕ) (other : bytes_eq w (codes "grow") ≡ false) where
  taken : three_words w a b
      ≡ option_and_then (λ h. option_and_then (λ n. xorb_step_of w h n) (number_of_text b)) (name_of_text a)
  taken =
      ap (λ (g : Bool). cond g (grow_call a b) (cond (bytes_eq w (codes "xorb")) (xorb_call a b)
      (cond (bytes_eq w (codes "progress")) (progress_call a b)
      (cond (bytes_eq w (codes "background")) (background_call a b) None)))) other
      ∙ alike (bytes_eq w (codes "xorb")) (bytes_eq w (codes "progress")) (bytes_eq w (codes "background"))
      (name_of_text a) (number_of_text b)

  abbrev with_number : Option ℕ → MerkleHash → Option TrackerStep
  with_number o h = option_and_then (λ n. xorb_step_of w h n) o

  -- the second word is no name
  pub no_name : name_of_text a ≡ None → None ≡ three_words w a b
  no_name e =
      sym (taken ∙ ap (λ (o : Option MerkleHash). option_and_then (λ h. with_number (number_of_text b) h) o) e)

  -- it is a name, and this is the call where the third one is a number
  named : (h : MerkleHash) (o : Option ℕ) → name_of_text a ≡ Some h → number_of_text b ≡ o
      → three_words w a b ≡ with_number o h
  named h o e f =
      taken ∙ ap (λ (s : Option MerkleHash). option_and_then (λ x. with_number (number_of_text b) x) s) e
      ∙ ap (λ (s : Option ℕ). with_number s h) f

  pub no_number : (h : MerkleHash) → name_of_text a ≡ Some h → number_of_text b ≡ None → None ≡ three_words w a b
  no_number h e f = sym (named h None e f)

  pub both : (h : MerkleHash) (n : ℕ) → name_of_text a ≡ Some h → number_of_text b ≡ Some n
      → xorb_step_of w h n ≡ three_words w a b
  both h n e f = sym (named h (Some n) e f)
