-- Calls one after another.
use Rattle.std.proofs.Common.{◌≡◌, ◌⊎◌, ℕ, ◌+◌, ◌-◌, ◌<◌, ◌≤◌, ◌&&◌, ◌||◌, not, min, nat_lt, cond, Bool, true, false, List, [], ◌∷◌, length, take, get_or, Option}
use Rattle.std.proofs.Common.{None, Some, IfSome, IsSome, refl, sym, ap, subst, ◌∙◌, ⊎_elim, inl, inr, arith, length-take, slice_get, get_or-take}
use Rattle.std.proofs.Common.{ext_get_or}
use Rattle.std.proofs.lemmas.Bool.{and_parts, cases_lt, ltb-false, ltb-true}
use Rattle.xet_base.specs.declared.cas_types.FileRange.{FileRange}
use Rattle.xet_base.specs.declared.merklehash.MerkleHash.{MerkleHash}
use Rattle.xet_base.specs.Store.{Store, bytes_of}
use Rattle.xet_outside.specs.Places.{Placed, placed_of}
use Rattle.xet_ties.specs.Causes.{refused_setting}
use Rattle.xet_ties.specs.Setup.{CacheTells, IsOver, RunTold, setup_of}
use Rattle.xet_gaps.specs.Gaps.{Gaps, IsGapRecord, is_in, is_missing, less, new_gaps, parts_of, some_range}
use Rattle.xet_gaps.proofs.CallerLemmas.{is_inside, less_exact}
use Rattle.xet_resume.specs.declared.resume_error.ResumeError.{ResumeError}
use Rattle.xet_resume.specs.declared.resume_error.ResumeError.TheVariants as resume_error
use Rattle.xet_error.specs.declared.error.FileReconstructionError.TheVariants as error
use Rattle.xet_error.specs.declared.error.Setting.{Setting}
use Rattle.xet_resume.specs.Fetches.{AskedNothing, FetchCall, stop_of}
use Rattle.xet_resume.specs.Fills.{Fills}
use Rattle.xet_resume.specs.Holding.{GapsHold, HoldTold}
use Rattle.xet_resume.specs.Laws.{DoneIsWhole, Fetched, Fetches, FetchesHold, FetchesShrink, FetchesTell, gaps_after, told_after}
use Rattle.xet_resume.proofs.Contents.{got_within, same_got}
use Rattle.xet_resume.proofs.GoingOn.{still_over}
use Rattle.xet_resume.proofs.Held.{fill_placed, still_some}

abbrev range : ℕ → ℕ → FileRange
range a b = record { start = a; end = b }

-- ---- from a new record on

-- all bytes are missing
new_missing : (n p : ℕ) → p < n → is_missing p (some_range 0 n) ≡ true
new_missing n p h = by (nat_lt 0 n) refl
  where
    by : (v : Bool) → nat_lt 0 n ≡ v
        → is_missing p (cond v (range 0 n ∷ []) []) ≡ true
    by true e =
        ap (λ (b : Bool). b || false) (is_inside p (range 0 n) (omega arith) h)
    by false e = let z = ltb-false 0 n e in absurd (omega (arith, z, h))

new_holds : (s : Store) (file : MerkleHash) (n : ℕ) (content : List ℕ) → IsGapRecord (new_gaps file n)
    → length (bytes_of s file) ≡ n → GapsHold (new_gaps file n) s content
new_holds s file n content is len = record {
  is = is;
  length_of = len;
  filled = λ p inside e. absurd (let z : true ≡ false = sym (new_missing n p inside) ∙ e in cc);
}

new_told : (s : Store) (file : MerkleHash) (n : ℕ) (told : RunTold) → IsGapRecord (new_gaps file n)
    → length (bytes_of s file) ≡ n → HoldTold (new_gaps file n) s told
new_told s file n told is len = by (placed_of told.sink)
  where
    by : (o : Option Placed) → IfSome o (λ p. GapsHold (new_gaps file n) s p.content)
    by None = tt
    by (Some q) = new_holds s file n q.content is len

-- any calls keep it
calls_hold : (s : Store) (g : Gaps) (told : RunTold) (fs : List Fetched) → IsOver s told.clients
    → CacheTells s told.cache → HoldTold g s told → Fetches g told fs
    → HoldTold (gaps_after g fs) s (told_after told fs)
calls_hold s g told [] over cache h c = h
calls_hold s g told (f ∷ fs) over cache h c =
    let later = c.0.later in
    calls_hold s f.gaps f.told fs (still_over s told.clients f.told.clients later.goes_on over)
    (later.cache_later s over cache) (c.0.holds s over cache h) c.1

pub fetches_hold : FetchesHold
fetches_hold s file n told fs is over cache len some c =
    calls_hold s (new_gaps file n) told fs over cache (new_told s file n told is len) c

-- a setting failed, and nothing was asked
abbrev Refused : Gaps → RunTold → Fetched → ℕ → Type 0
Refused g told f reached = (e : Setting) × (refused_setting (setup_of g.file f.range f.config) told.clients ≡ Some e)
    × AskedNothing f.range reached told f.told f.answer (resume_error.Run (error.ConfigurationError e))

-- and the content stays told
call_tells : (g h : Gaps) (f : Fetched) (told : RunTold) → IsSome (placed_of told.sink)
    → FetchCall f.config f.range g h told f.told f.answer → IsSome (placed_of f.told.sink)
call_tells g h f told some c =
    ⊎_elim
    (λ (x : Fills f.config g.file (parts_of g.gaps f.range) f.range.end told f.told c.reached (stop_of f.answer)).
    still_some (placed_of told.sink) (placed_of f.told.sink)
    (fill_placed f.config g.file f.range.end (parts_of g.gaps f.range) told f.told c.reached (stop_of f.answer) x) some)
    (λ (y : AskedNothing f.range c.reached told f.told f.answer resume_error.OutOfMemory
    ⊎ Refused g told f c.reached). ⊎_elim (λ (z : AskedNothing f.range c.reached told f.told f.answer resume_error.OutOfMemory). same z.same)
    (λ (z : Refused g told f c.reached). same z.2.same) y)
    c.fills
  where
    same : f.told ≡ told → IsSome (placed_of f.told.sink)
    same e = subst (λ (t : RunTold). IsSome (placed_of t.sink)) (sym e) some

pub fetches_tell : FetchesTell
fetches_tell g told [] some c = some
fetches_tell g told (f ∷ fs) some c = fetches_tell f.gaps f.told fs (call_tells g f.gaps f told some c.0) c.1

-- ---- gaps never grow

call_shrinks : (g h : Gaps) (r : FileRange) (reached p : ℕ)
    → h ≡ record g { gaps = less g.gaps (range r.start reached) } → is_missing p h.gaps ≡ true
    → is_missing p g.gaps ≡ true
call_shrinks g h r reached p e m =
    let same : h.gaps ≡ less g.gaps (range r.start reached) = ap (λ (x : Gaps). x.gaps) e in
    let both : (is_missing p g.gaps && not (is_in p (range r.start reached))) ≡ true =
    sym (less_exact g.gaps (range r.start reached) p) ∙ ap (λ (l : List FileRange). is_missing p l) (sym same) ∙ m in
    (and_parts (is_missing p g.gaps) (not (is_in p (range r.start reached))) both).0

pub fetches_shrink : FetchesShrink
fetches_shrink g told [] c p h = h
fetches_shrink g told (f ∷ fs) c p h =
    call_shrinks g f.gaps f.range c.0.reached p c.0.marks.marked (fetches_shrink f.gaps f.told fs c.1 p h)

-- ---- done

pub done_is_whole : DoneIsWhole
done_is_whole g s content h none = by (bytes_of s g.file) h.length_of each
  where
    each : (p : ℕ) → p < g.length_is → slice_get content p ≡ slice_get (bytes_of s g.file) p
    each p inside =
        h.filled p inside (ap (λ (l : List FileRange). is_missing p l) none)

    by : (bytes : List ℕ) → length bytes ≡ g.length_is
        → ((p : ℕ) → p < g.length_is → slice_get content p ≡ slice_get bytes p) → take g.length_is content ≡ bytes
    by bytes len got =
        let within : g.length_is ≤ length content = all_within g.length_is content bytes len got in
        let size = length-take g.length_is content in
        ext_get_or 0 (take g.length_is content) bytes (omega (arith, size, within, len))
        (λ i l. get_or-take g.length_is content i 0 (omega (arith, size, l))
        ∙ same_got content bytes i i (omega (arith, size, within, l)) (omega (arith, size, len, l))
        (got i (omega (arith, size, l))))
      where
        all_within : (n : ℕ) (xs ys : List ℕ) → length ys ≡ n
            → ((p : ℕ) → p < n → slice_get xs p ≡ slice_get ys p) → n ≤ length xs
        all_within n xs ys e f =
            ⊎_elim
            (λ (k : length xs < n).
            let z = got_within xs ys (length xs) (length xs) (omega (arith, e, k)) (f (length xs) k) in
            absurd (omega (arith, z)))
            (λ (k : n ≤ length xs). k)
            (cases_lt (length xs) n)
