-- Parts of a file over a connection to a valid store that neither fails nor tells an expired answer.
use Rattle.std.proofs.Common.{◌≡◌, ◌⊎◌, ℕ, ◌+◌, ◌-◌, ◌<◌, ◌≤◌, ◌^◌, ◌++◌, Bool, true, false, cond, List, [], ◌∷◌, length, Option, None, Some}
use Rattle.std.proofs.Common.{Ok, Err, Result, refl, sym, ap, subst, ◌∙◌, inl, inr, ⊎_elim, arith, nat_lt, option_map}
use Rattle.std.specs.Prelude.{IsNone, IsSome, find}
use Rattle.std.specs.List.{fold}
use Rattle.std.proofs.lemmas.Bool.{le-ltb, lt-ltb}
use Rattle.std.proofs.lemmas.List.Elements.{All-nil}
use Rattle.xet_base.specs.declared.cas_types.FileRange.{FileRange}
use Rattle.xet_base.specs.declared.merklehash.MerkleHash.{MerkleHash}
use Rattle.xet_base.specs.Store.{IsValid, Store, file_of, window}
use Rattle.xet_outside.specs.Places.{Placed, placed_of, put_at, written as put}
use Rattle.xet_outside.specs.Told.{ClientTold, Rose, SinkTold, Took}
use Rattle.xet_store.specs.declared.client_log.ClientLog.{ClientLog}
use Rattle.xet_error.specs.declared.error.FileReconstructionError.{FileReconstructionError}
use Rattle.xet_error.specs.declared.error.FileReconstructionError.TheVariants as error
use Rattle.xet_reconstruct.specs.ToFile.{ready_at}
use Rattle.xet_terms.specs.Settings.{failing_setting, first_config}
use Rattle.xet_ties.specs.Causes.{Cause, LowestRose, NoneAtEnd, refused_setting, total_expiries}
use Rattle.xet_ties.specs.InCall.{Exchange}
use Rattle.xet_ties.specs.LegalWords.{IsExact}
use Rattle.xet_ties.specs.Saids.{ServedPassed}
use Rattle.xet_ties.specs.Setup.{AllTell, CacheTells, IsHonestEntry, IsOver, RunTold, setup_of}
use Rattle.xet_gaps.specs.Gaps.{AreGaps}
use Rattle.xet_resume.specs.declared.resume_error.ResumeError.{ResumeError}
use Rattle.xet_resume.specs.declared.resume_error.ResumeError.TheVariants as resume_error
use Rattle.xet_resume.specs.Fills.{EndsBy, Fills, IsUnplaced, PartDone, PartEnds, PartRun}
use Rattle.xet_resume.proofs.CallerLemmas.{goes_run, same_count, still_over}
use Rattle.xet_resume_command.specs.Resume.{is_short, with_part}
use Rattle.xet_resume_command.specs.steps.Filling.{ContentIs, told_of}

-- ---- connections that neither fail nor tell an expired answer

-- what a connection to this store tells that did this
abbrev pub told_client : Store → ClientLog → ClientTold
told_client s log = record {
  store = Some s;
  asked = Some log.asked;
  said = Some log.said;
  served = Some log.served;
  faults = 0;
  expiries = 0;
  link = [];
}

abbrev pub AreCalm : List ClientTold → Type 0
AreCalm [] = Unit {0}
AreCalm (c ∷ cs) = (c.faults ≡ 0) × (c.expiries ≡ 0) × AreCalm cs

pub all_calm : {X : Type 0} (told : X → ClientTold) → ((x : X) → (told x).faults ≡ 0) → ((x : X) → (told x).expiries ≡ 0)
    → (xs : List X) → AreCalm (Rattle.std.proofs.Common.map told xs)
all_calm told f e [] = tt
all_calm told f e (x ∷ xs) = (f x, e x, all_calm told f e xs)

none_rose : (Q : Exchange → Type 0) (cs ds : List ClientTold) (xs : List Exchange) → AreCalm ds → LowestRose Q cs ds xs → ⊥
none_rose Q [] ds xs calm h = h
none_rose Q (c ∷ cs) [] xs calm h = h
none_rose Q (c ∷ cs) (d ∷ ds) [] calm h = h
none_rose Q (c ∷ cs) (d ∷ ds) (x ∷ xs) calm h = ⊎_elim
    (λ (r : Rose c.faults d.faults). let z = calm.0 in absurd (omega (arith, z, r)))
    (λ (r : LowestRose Q cs ds xs). none_rose Q cs ds xs calm.2 r) h.1

none_at_end : (ds : List ClientTold) → AreCalm ds → NoneAtEnd ds
none_at_end [] calm = tt
none_at_end (d ∷ ds) calm = (let z = calm.1 in omega (arith, z), none_at_end ds calm.2)

none_expired : (ds : List ClientTold) → AreCalm ds → total_expiries ds ≡ 0
none_expired [] calm = refl
none_expired (d ∷ ds) calm = let z = calm.1 in let n = none_expired ds calm.2 in omega (arith, z, n)

-- ---- one part

-- a content that is told, after bytes were put at a place
content_put : (place : ℕ) (bytes c : List ℕ) (o p : Option Placed)
    → p ≡ option_map (λ q. put bytes (ready_at false place q)) o → option_map (λ q. q.content) o ≡ Some c
    → option_map (λ q. q.content) p ≡ Some (put_at c place bytes)
content_put place bytes c None p e h = let z : ◌≡◌ {A = Option (List ℕ)} None (Some c) = h in absurd (cc)
content_put place bytes c (Some q) p e h =
    let same : q.content ≡ c = cc in
    ap (option_map (λ q. q.content)) e ∙ ap (λ (l : List ℕ). Some (put_at l place bytes)) same

module _ (s : Store) (f : MerkleHash) where
  -- the store and the cache are told, by one connection
  pub record Tells (b : RunTold) : Type 0 where
    pub over : IsOver s b.clients
    pub cache : CacheTells s b.cache
    pub one : length b.clients ≡ 1

  -- nothing has failed
  pub record Calm (n : RunTold) : Type 0 where
    pub clients : AreCalm n.clients
    pub sink : n.sink.faults ≡ 0
    pub signal : n.signal.yes ≡ 0

  met : (p : FileRange) (cs : List ClientTold) → length cs ≡ 1 → refused_setting (setup_of f p first_config) cs ≡ None
  met p cs one = ap (λ (k : ℕ). failing_setting k 3 1048576 67108864) one

  tells_on : (p : FileRange) (b n : RunTold) (count : ℕ) (answer : Result ℕ FileReconstructionError)
      → PartRun first_config f p b n count answer → Tells b → Tells n
  tells_on p b n count answer r t =
      let g = goes_run first_config f p b n count answer r in
      record {
        over = still_over s b.clients n.clients g.goes_on t.over;
        cache = g.cache_later s t.over t.cache;
        one = same_count b.clients n.clients g.goes_on ∙ t.one;
      }

  exact : (p : FileRange) (b n : RunTold) (count k : ℕ) (r : PartRun first_config f p b n count (Ok k)) → Tells b
      → IsExact s (setup_of f p first_config) r.ready n.sink k
  exact p b n count k r t = r.legal.exact.exact s t.over t.cache

  is_stored : (p : FileRange) → p.start < p.end → IsSome (file_of s f) ⊎ (p.end ≤ p.start) → IsSome (file_of s f)
  is_stored p some (inl h) = h
  is_stored p some (inr h) = absurd (omega (arith, some, h))

  -- a part that was read whole
  done_whole : (p : FileRange) (b n : RunTold) → PartDone first_config f p b n → Tells b → is_short s f p ≡ false
  done_whole p b n r t =
      let size = (exact p b n (p.end - p.start) (p.end - p.start) r t).total in
      le-ltb (length (window s f p)) (p.end - p.start) (omega (arith, size))

  done_content : (p : FileRange) (b n : RunTold) (c : List ℕ) → PartDone first_config f p b n → Tells b → ContentIs b.sink c
      → ContentIs n.sink (with_part s f c p)
  done_content p b n c r t h =
      let took : Took b.sink.took n.sink.took (window s f p) =
      subst (λ (o : Option (List ℕ)). Took o n.sink.took (window s f p)) r.placed.took
      (exact p b n (p.end - p.start) (p.end - p.start) r t).took in
      content_put p.start (window s f p) c (placed_of b.sink) (placed_of n.sink) (r.took.stands (window s f p) took) h

  -- a run that failed found no file
  by_cause : (p : FileRange) (xs : List Exchange) (b n : RunTold) (e : FileReconstructionError) → Tells b → Calm n
      → ((e ≡ error.OutOfMemory) → ⊥) → Cause (setup_of f p first_config) xs b n e → IsNone (file_of s f)
  by_cause p xs b n error.OutOfMemory t m other h = absurd (other refl)
  by_cause p xs b n error.ClientError t m other h =
      absurd (none_rose (ServedPassed (setup_of f p first_config) xs) b.clients n.clients xs m.clients h)
  by_cause p xs b n error.FileNotFound t m other h = h.unstored s t.over.tell
  by_cause p xs b n error.UrlExpired t m other h =
      let grew = h.counted (none_at_end n.clients m.clients) in
      let none = none_expired n.clients m.clients in
      absurd (omega (arith, grew, none))
  by_cause p xs b n error.IoError t m other h = let z = m.sink in absurd (omega (arith, h, z))
  by_cause p xs b n (error.CorruptedReconstruction c) t m other h = absurd (h.untrue s t.over)
  by_cause p xs b n (error.ConfigurationError e) t m other h =
      absurd (let z : None ≡ Some e = sym (met p b.clients t.one) ∙ h in cc)
  by_cause p xs b n error.Cancelled t m other h = let z = m.signal in absurd (omega (arith, h, z))
  by_cause p xs b n (error.InternalWriterError w) t m other h = absurd h

  unplaced : (p : FileRange) (b n : RunTold) (e : FileReconstructionError) → Calm n → ((e ≡ error.OutOfMemory) → ⊥)
      → IsUnplaced p b n e → ⊥
  unplaced p b n e m other u =
      let z = m.sink in
      let same : n.sink.faults ≡ u.sink.faults = ap (λ (t : RunTold). t.sink.faults) u.rest in
      ⊎_elim (λ (h : (e ≡ error.OutOfMemory) × (u.sink.faults ≡ b.sink.faults)). other h.0)
      (λ (h : (e ≡ error.IoError) × Rose b.sink.faults u.sink.faults). let r = h.1 in omega (arith, r, z, same)) u.is

  by_end : (p : FileRange) (b n : RunTold) (count : ℕ) (e : FileReconstructionError) → Tells b → Calm n
      → ((e ≡ error.OutOfMemory) → ⊥) → EndsBy first_config f p b n count e → IsNone (file_of s f)
  by_end p b n count e t m other (inl r) =
      by_cause p r.legal.told.heard (record b { sink = r.ready }) n e
      (record { over = t.over; cache = t.cache; one = t.one }) m other r.legal.cause
  by_end p b n count e t m other (inr u) = absurd (unplaced p b n e m other u.0)

  -- ---- all parts

  -- what parts come to
  abbrev pub Outcome : List FileRange → SinkTold → SinkTold → Option ResumeError → Type 0
  Outcome ps b n None =
      (find (is_short s f) ps ≡ None) × ((ps ≡ []) ⊎ IsSome (file_of s f))
      × ((c : List ℕ) → ContentIs b c → ContentIs n (fold (with_part s f) c ps))
  Outcome ps b n (Some resume_error.OutOfMemory) = Unit {0}
  Outcome ps b n (Some (resume_error.Run e)) = (0 < length ps) × IsNone (file_of s f)
  Outcome ps b n (Some (resume_error.Short expected actual)) =
      (p : FileRange) × (find (is_short s f) ps ≡ Some p) × (actual ≡ length (window s f p)) × IsSome (file_of s f)

  next_find : (p : FileRange) (ps : List FileRange) (o : Option FileRange) → is_short s f p ≡ false
      → find (is_short s f) ps ≡ o → find (is_short s f) (p ∷ ps) ≡ o
  next_find p ps o e h = ap (λ (v : Bool). cond v (Some p) (find (is_short s f) ps)) e ∙ h

  -- one part more before them
  more : (p : FileRange) (ps : List FileRange) (b m n : RunTold) (stop : Option ResumeError) → p.start < p.end
      → PartDone first_config f p b m → Tells b → Outcome ps m.sink n.sink stop → Outcome (p ∷ ps) b.sink n.sink stop
  more p ps b m n None some r t o =
      let stored = is_stored p some (exact p b m (p.end - p.start) (p.end - p.start) r t).stored in
      (next_find p ps None (done_whole p b m r t) o.0, inr stored, λ c h. o.2 (with_part s f c p) (done_content p b m c r t h))
  more p ps b m n (Some resume_error.OutOfMemory) some r t o = tt
  more p ps b m n (Some (resume_error.Run e)) some r t o = (omega arith, o.1)
  more p ps b m n (Some (resume_error.Short expected actual)) some r t o =
      (o.0, next_find p ps (Some o.0) (done_whole p b m r t) o.1, o.2, o.3)

  -- the one that ended the call
  last : (p : FileRange) (ps : List FileRange) (b n : RunTold) (count : ℕ) (e : ResumeError) → p.start < p.end → Tells b
      → Calm n → PartEnds first_config f p b n count e → Outcome (p ∷ ps) b.sink n.sink (Some e)
  last p ps b n count resume_error.OutOfMemory some t m x = tt
  last p ps b n count (resume_error.Run e) some t m x = (omega arith, by_end p b n count e t m x.0 x.1)
  last p ps b n count (resume_error.Short expected actual) some t m x =
      let is = x.0 in
      let other = x.1 in
      let same = x.2 in
      let within = x.3.took.within in
      let size = (exact p b n count actual x.3 t).total in
      let short : is_short s f p ≡ true =
      lt-ltb (length (window s f p)) (p.end - p.start) (omega (arith, is, other, same, within, size)) in (
        p,
        ap (λ (v : Bool). cond v (Some p) (find (is_short s f) ps)) short,
        size,
        is_stored p some (exact p b n count actual x.3 t).stored,
      )

  pub outcome : (low end last_end : ℕ) (ps : List FileRange) (b n : RunTold) (reached : ℕ) (stop : Option ResumeError)
      → AreGaps low end ps → Tells b → Calm n → Fills first_config f ps last_end b n reached stop
      → Outcome ps b.sink n.sink stop
  outcome low end last_end [] b n reached None a t m x =
      (refl, inl refl, λ c h. subst (λ (r : RunTold). ContentIs r.sink c) (sym x.0) h)
  outcome low end last_end [] b n reached (Some e) a t m x = absurd x
  outcome low end last_end (p ∷ ps) b n reached stop a t m (inl d) =
      more p ps b d.0 n stop a.1 d.1 t
      (outcome (p.end + 1) end last_end ps d.0 n reached stop a.3
      (tells_on p b d.0 (p.end - p.start) (Ok (p.end - p.start)) d.1 t) m d.2)
  outcome low end last_end (p ∷ ps) b n reached stop a t m (inr x) =
      subst (Outcome (p ∷ ps) b.sink n.sink) (sym x.1) (last p ps b n x.2 x.0 a.1 t m x.4)

-- ---- one new connection to a store in memory

pub new_tells : (s : Store) (f : MerkleHash) (c : ClientTold) (b : SinkTold) → c.store ≡ Some s → IsValid s
    → Tells s f (told_of (c ∷ []) b)
new_tells s f c b e v = record {
  over = record { tell = (e, tt); valid = v };
  cache = All-nil (IsHonestEntry s);
  one = refl;
}

pub stays_calm : (s : Store) (f : MerkleHash) (cs : List ClientTold) (n : SinkTold) → AreCalm cs → n.faults ≡ 0
    → Calm s f (told_of cs n)
stays_calm s f cs n calm e = record { clients = calm; sink = e; signal = refl }
