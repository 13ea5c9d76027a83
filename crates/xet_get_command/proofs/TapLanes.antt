-- Runs behind the taps of the lanes.
use Rattle.std.proofs.Common.{◌≡◌, ℕ, suc, Bool, true, false, cond, List, [], ◌∷◌, ◌++◌, length, map, min, drop, take, Option, Some, None, Ok, Err, refl, sym, ap, ◌∙◌, arith, inl, inr, subst}
use Rattle.std.specs.Prelude.{All, Contains, IfSome, OnOk, Result, count_by, option_map}
use Rattle.std.specs.List.{AllZip, drop-map, take-map}
use Rattle.std.specs.Result.{result_ok}
use Rattle.std.proofs.Math.Seq.{drop-length}
use Rattle.std.proofs.lemmas.List.{append-nil, drop_at, length-map, map-append, take-append-drop}
use Rattle.std.proofs.lemmas.List.Sums.{sum_by-cons}
use Rattle.std.proofs.lemmas.List.Elements.{All-cons, All-head, All-nil, All-tail, All-weaker}
use Rattle.xet_base.specs.Store.{IsValid, Store}
use Rattle.xet_outside.specs.Answers.{bytes_in, plans_in}
use Rattle.xet_outside.specs.declared.block.BlockBytes.{BlockBytes}
use Rattle.xet_outside.specs.declared.said.Said.{Said}
use Rattle.xet_outside.specs.declared.said.Said.TheVariants as said
use Rattle.xet_outside.specs.declared.served.Served.{Served}
use Rattle.xet_outside.specs.Told.{CacheEntry, CacheTold, ClientTold, SinkTold}
use Rattle.xet_connections.specs.HonestPlans.{PlansAreHonest}
use Rattle.xet_store.specs.declared.client_log.ClientLog.{ClientLog}
use Rattle.xet_store.specs.Taps.{AreGiven, TapTold, given_count, said_behind}
use Rattle.xet_connections.proofs.CallerLemmas.{same_link}
use Rattle.xet_error.specs.declared.error.FileReconstructionError.{FileReconstructionError}
use Rattle.xet_error.specs.declared.error.FileReconstructionError.TheVariants as error
use Rattle.xet_error.specs.declared.error.Setting.{Setting}
use Rattle.xet_blocks.specs.ServedChunks.{AllServed}
use Rattle.xet_reconstruct.specs.Laws.{HonestAnswersPass}
use Rattle.xet_ties.specs.Causes.{expired_answers, refused_setting}
use Rattle.xet_ties.specs.InCall.{Exchange, Look, EachExchange, all_exchanges, exchange_of, expired_said, joined, new_in, served_of_all}
use Rattle.xet_ties.proofs.CallerLemmas.{all_told, if_some, looks_gained, told_new}
use Rattle.xet_ties.specs.Gains.{GaveServed}
use Rattle.xet_ties.specs.Ties.{IsEntryOf}
use Rattle.xet_ties.specs.Legal.{Legal}
use Rattle.xet_ties.specs.LegalWords.{AllPlanned, FirstAsksFew, IsPlannedServed, ServedOnce, requests_of}
use Rattle.xet_ties.specs.Setup.{AllTell, CacheTells, EachGoesOn, RunTold, Setup}
use Rattle.xet_get_command.specs.declared.wanted.Wanted.{Wanted}
use Rattle.xet_room.specs.declared.status.Status.TheVariants.{NoMemory}
use Rattle.xet_get_command.specs.GetOptions.{lanes_of}
use Rattle.xet_get_command.specs.steps.OwnTaps.{behind_own}
use Rattle.xet_get_command.specs.steps.PrintedDigits.{AllPassed, Tapped, Wrote, status_of_answer, told_of}
use Rattle.xet_get_command.specs.steps.TapRuns.{BehindAll, BehindTaps, IsNew}
use Rattle.xet_get_command.specs.Taps.{FromTaps, GaveNothing, gave, gave_some, IsPassed, LanesHonest, MadeOf, Passage, all_passages, all_passed, lane_taps, passage}
use Rattle.xet_get_command.specs.Wanted.{unmet_setting, wanted_setup}
use Rattle.xet_get_command.proofs.TapMoves.{first_same}
use Rattle.xet_get_command.proofs.TapRuns.{AreCalm, FirstHonest, behind_all, behind_none, made, no_some, same_setting, took_same}

-- ---- one lane

-- the blocks that were given, as answers that were said
abbrev pub front : List BlockBytes → List Said
front gave = map (λ b. said.Block b) gave

length-front : (gave : List BlockBytes) → length (front gave) ≡ length gave
length-front [] = refl
length-front (b ∷ gave) = ap suc (length-front gave)

bytes_in-front : (gave : List BlockBytes) (rest : List Said) → bytes_in (front gave ++ rest) ≡ gave ++ bytes_in rest
bytes_in-front [] rest = refl
bytes_in-front (b ∷ gave) rest = ap (λ (l : List BlockBytes). b ∷ l) (bytes_in-front gave rest)

-- blocks that were given, as answers and back
given_again : (o : Option (List BlockBytes)) → option_map bytes_in (option_map (λ gave. front gave ++ []) o) ≡ o
given_again None = refl
given_again (Some gave) = ap (λ (l : List BlockBytes). Some l) (bytes_in-front gave [] ∙ append-nil gave)

some_same : {A : Type 0} (x y : A) → ◌≡◌ {A = Option A} (Some x) (Some y) → x ≡ y
some_same x y e = cc

cons_same : {A : Type 0} (x y : A) (xs ys : List A) → x ∷ xs ≡ y ∷ ys → (x ≡ y) × (xs ≡ ys)
cons_same x y xs ys e = (cc, cc)

abbrev new_log : ClientLog
new_log = record { asked = []; said = []; served = [] }

module _ (s : Store) where
  -- a connection to the store behind its tap, before a run and after it
  pub record Lane : Type 0 where
    -- the tap
    pub t : TapTold
    pub u : TapTold
    -- what the connection has of the start and of the run
    pub start : TapTold
    pub log : ClientLog
    pub count : given_count start ≡ given_count t
    pub given : AreGiven (said_behind start log) u
    pub plans : PlansAreHonest s log.asked (plans_in log.said)
    pub unexpired : count_by expired_said log.said ≡ 0
    pub honest : u.honest ≡ t.honest

  abbrev pub client_before : Lane → ClientTold
  client_before a = behind_own s new_log a.t a.t

  abbrev pub client_after : Lane → ClientTold
  client_after a = behind_own s a.log a.start a.u

  -- what was added to its lists, where the tap tells what passed
  abbrev side : Lane → Passage → Exchange
  side a p = record { asked = a.log.asked; served = p.served; said = a.log.said }

  record HasSide (a : Lane) (p : Passage) : Type 0 where
    is : exchange_of (client_before a) (client_after a) ≡ Some (side a p)
    passed : IsPassed s p (side a p)

  has_side : (a : Lane) (p : Passage) → passage (new_in a.t.passed a.u.passed) (new_in a.t.gave a.u.gave) ≡ Some p → HasSide a p
  has_side a p e = by a.t.passed a.u.passed a.t.gave a.start.gave a.u.gave refl refl refl refl refl
    where
      by : (tp up : Option (List Served)) (tg sg ug : Option (List BlockBytes)) → a.t.passed ≡ tp → a.u.passed ≡ up → a.t.gave ≡ tg → a.start.gave ≡ sg → a.u.gave ≡ ug → HasSide a p
      by None up tg sg ug e1 e2 e3 e4 e5 = absurd (no_some p (rw e1 at e))
      by (Some xs) None tg sg ug e1 e2 e3 e4 e5 = absurd (no_some p (rw (e1, e2) at e))
      by (Some xs) (Some es) None sg ug e1 e2 e3 e4 e5 = absurd (no_some p (rw (e1, e2, e3) at e))
      by (Some xs) (Some es) (Some gs) sg None e1 e2 e3 e4 e5 = absurd (no_some p (rw (e1, e2, e3, e5) at e))
      by (Some xs) (Some es) (Some gs) None (Some hs) e1 e2 e3 e4 e5 = absurd (no_some hs (rw (e4, e5) at a.given))
      by (Some xs) (Some es) (Some gs) (Some fs) (Some hs) e1 e2 e3 e4 e5 =
          let whole : Passage = record { served = drop (length xs) es; blocks = drop (length gs) hs } in
          let p_is : whole ≡ p = some_same whole p (rw (e1, e2, e3, e5) at e) in
          let size : length fs ≡ length gs = rw (e3, e4) at a.count in
          let all_given : bytes_in (front fs ++ a.log.said) ≡ hs = some_same _ hs (rw (e4, e5) at a.given) in
          let place : length (front fs) ≡ length (front gs ++ []) = length-front fs ∙ size ∙ sym (length-front gs) ∙ ap length (sym (append-nil (front gs))) in
          let new_said : drop (length (front gs ++ [])) (front fs ++ a.log.said) ≡ a.log.said = drop_at (front fs) a.log.said (length (front gs ++ [])) place in
          let new_given : bytes_in a.log.said ≡ drop (length gs) hs = rw (← all_given, bytes_in-front fs a.log.said) (sym (drop_at fs (bytes_in a.log.said) (length gs) size)) in
          rw (← p_is) (record {
            is = rw (e1, e2, e3, e4, new_said) refl;
            passed = record { served_is = refl; blocks_are = new_given; plans = a.plans };
          })

  -- ---- all lanes

  abbrev pub befores : List Lane → List ClientTold
  befores lanes = map client_before lanes

  abbrev pub afters : List Lane → List ClientTold
  afters lanes = map client_after lanes

  abbrev pub taps_before : List Lane → List TapTold
  taps_before lanes = map (λ a. a.t) lanes

  abbrev pub taps_after : List Lane → List TapTold
  taps_after lanes = map (λ a. a.u) lanes

  tell : (lanes : List Lane) → All (λ (t : TapTold). t.honest ≡ true) (taps_before lanes) → AllTell s (befores lanes)
  tell [] h = tt
  tell (a ∷ lanes) h =
      let P : TapTold → Type 0 = λ t. t.honest ≡ true in
      let one : a.t.honest ≡ true = All-head P a.t (taps_before lanes) h in
      (rw one refl, tell lanes (All-tail P a.t (taps_before lanes) h))

  calm : (lanes : List Lane) → AreCalm (afters lanes)
  calm [] = tt
  calm (a ∷ lanes) = (refl, refl, calm lanes)

  -- what passed the taps is what was served
  served : (lanes : List Lane) (xs : List Exchange) → EachExchange (befores lanes) (afters lanes) xs → IfSome (all_passed (taps_before lanes) (taps_after lanes)) (λ es. es ≡ served_of_all xs)
  served [] [] h = refl
  served [] (x ∷ xs) h = absurd h
  served (a ∷ lanes) [] h = absurd h
  served (a ∷ lanes) (x ∷ xs) h = both (new_in a.t.passed a.u.passed) (all_passed (taps_before lanes) (taps_after lanes)) (told_new a.t.passed a.u.passed x.served h.0.serves) (served lanes xs h.1)
    where
      both : (o r : Option (List Served)) → IfSome o (λ es. es ≡ x.served) → IfSome r (λ es. es ≡ served_of_all xs) → IfSome (joined o r) (λ es. es ≡ served_of_all (x ∷ xs))
      both None r e f = tt
      both (Some es) None e f = tt
      both (Some es) (Some fs) e f = rw (e, f) refl

  honest : (lanes : List Lane) → map (λ (t : TapTold). t.honest) (taps_after lanes) ≡ map (λ (t : TapTold). t.honest) (taps_before lanes)
  honest [] = refl
  honest (a ∷ lanes) = rw (a.honest, honest lanes) refl

  -- where a connection tells what it told before, its tap does
  tap_same : (a : Lane) → client_after a ≡ client_before a → a.u ≡ a.t
  tap_same a e =
      let passed : a.u.passed ≡ a.t.passed = ap (λ (c : ClientTold). c.served) e in
      let all : said_behind a.start a.log ≡ said_behind a.t new_log = ap (λ (c : ClientTold). c.said) e in
      let gave : a.u.gave ≡ a.t.gave = sym a.given ∙ ap (λ (o : Option (List Said)). option_map bytes_in o) all ∙ given_again a.t.gave in
      ap (λ (o : Option (List Served)). let y : TapTold = record { passed = o; gave = a.u.gave; honest = a.u.honest } in y) passed
      ∙ ap (λ (o : Option (List BlockBytes)). let y : TapTold = record { passed = a.t.passed; gave = o; honest = a.u.honest } in y) gave
      ∙ ap (λ (v : Bool). let y : TapTold = record { passed = a.t.passed; gave = a.t.gave; honest = v } in y) a.honest

  -- so of all
  taps_same : (lanes : List Lane) → afters lanes ≡ befores lanes → taps_after lanes ≡ taps_before lanes
  taps_same [] e = refl
  taps_same (a ∷ lanes) e =
      let both = cons_same (client_after a) (client_before a) (afters lanes) (befores lanes) e in
      rw (tap_same a both.0, taps_same lanes both.1) refl

  -- what was added to the lists of all
  record HaveSides (lanes : List Lane) (ps : List Passage) : Type 0 where
    xs : List Exchange
    is : all_exchanges (befores lanes) (afters lanes) ≡ Some xs
    passed : AllZip (IsPassed s) ps xs
    first : FirstHonest s xs
    unexpired : expired_answers xs ≡ 0

  have_sides : (lanes : List Lane) (ps : List Passage) → all_passages (taps_before lanes) (taps_after lanes) ≡ Some ps → HaveSides lanes ps
  have_sides [] ps e = rw (← some_same [] ps e) (record { xs = []; is = refl; passed = tt; first = tt; unexpired = refl })
  have_sides (a ∷ lanes) ps e = by (have_sides lanes) (passage (new_in a.t.passed a.u.passed) (new_in a.t.gave a.u.gave)) (all_passages (taps_before lanes) (taps_after lanes)) refl refl
    where
      by : ((qs : List Passage) → all_passages (taps_before lanes) (taps_after lanes) ≡ Some qs → HaveSides lanes qs) → (o : Option Passage) (r : Option (List Passage)) → passage (new_in a.t.passed a.u.passed) (new_in a.t.gave a.u.gave) ≡ o → all_passages (taps_before lanes) (taps_after lanes) ≡ r → HaveSides (a ∷ lanes) ps
      by others None r f g = absurd (no_some ps (rw f at e))
      by others (Some p) None f g = absurd (no_some ps (rw (f, g) at e))
      by others (Some p) (Some qs) f g =
          let one = has_side a p f in
          let rest = others qs g in
          let more = rest.unexpired in
          let here = a.unexpired in
          rw (← some_same (p ∷ qs) ps (rw (f, g) at e)) (record {
            xs = side a p ∷ rest.xs;
            is = rw (one.is, rest.is) refl;
            passed = (one.passed, rest.passed);
            first = a.plans;
            unexpired = omega (arith, more, here);
          })

-- ---- a run

-- what a run over connections, each behind one of these taps, leaves
pub record BehindLanes (s : Store) (q : Wanted) (ts us : List TapTold) (k l : CacheTold) (b n : SinkTold)
    (answer : Result ℕ FileReconstructionError) : Type 0 where
  pub all : BehindAll s q (All (λ t. t.honest ≡ true) ts) k b n answer
  pub chunks : All (λ t. t.honest ≡ true) ts → k.entries ≡ Some [] → OnOk answer (IfSome (all_passed ts us) (AllServed s q.file q.range))
  pub any : k.entries ≡ Some [] → (q.options.cache ≡ false → l.entries ≡ Some [])
      → Wrote (λ status bytes. IfSome (all_passages ts us) (λ ps. MadeOf s q ps status bytes)) b n (status_of_answer answer) (result_ok answer)
  pub honest : map (λ t. t.honest) us ≡ map (λ t. t.honest) ts
  pub unasked : (e : Setting) → unmet_setting q ≡ Some e → us ≡ ts

-- no look gave an entry of a cache that has none
none_given : (looks : List Look) (entries : Option (List CacheEntry)) → entries ≡ Some [] → All (IsEntryOf entries) looks → count_by gave looks ≡ 0
none_given [] entries e h = refl
none_given (l ∷ looks) entries e h =
    let f : Look → ℕ = λ y. cond (gave y) 1 0 in
    let both = sum_by-cons f l looks in
    let rest = none_given looks entries e (All-tail (IsEntryOf entries) l looks h) in
    let none : f l ≡ 0 = one l.2 (subst (λ (es : Option (List CacheEntry)). IsEntryOf es l) e (All-head (IsEntryOf entries) l looks h)) in
    omega (arith, both, rest, none)
  where
    one : (o : Option BlockBytes) → IfSome o (λ b. Contains {X = CacheEntry} [] (l.0, l.1, b)) → ◌≡◌ {A = ℕ} (cond (gave_some o) 1 0) 0
    one None w = refl
    one (Some b) w = absurd (let c = w.1 in omega (arith, c))

behind_lanes : (pass : HonestAnswersPass) (s : Store) (valid : IsValid s) (q : Wanted) (lanes : List (Lane s)) (k l : CacheTold) (b n : SinkTold) (answer : Result ℕ FileReconstructionError)
    → refused_setting (wanted_setup q) (befores s lanes) ≡ unmet_setting q → Legal (wanted_setup q) (told_of (befores s lanes) k b) (told_of (afters s lanes) l n) answer
    → BehindLanes s q (taps_before s lanes) (taps_after s lanes) k l b n answer
behind_lanes pass s valid q lanes k l b n answer same h = record {
  all = behind_all s valid q (All (λ (t : TapTold). t.honest ≡ true) (taps_before s lanes)) (befores s lanes) (afters s lanes) k l b n (tell s lanes) (calm s lanes) same answer h;
  chunks = λ honest none. on_ok answer (h.blocks.chunks s (record { tell = tell s lanes honest; valid = valid }) none);
  any = λ empty none. by empty (λ plain. none_given h.told.looks l.entries (none plain) h.told.given) (all_passages (taps_before s lanes) (taps_after s lanes)) refl;
  honest = honest s lanes;
  unasked = λ e f. taps_same s lanes (ap (λ (t : RunTold). t.clients) (h.first.settings e (same ∙ f)).1);
}
  where
    on_ok : (a : Result ℕ FileReconstructionError) → OnOk a (AllServed s q.file q.range (served_of_all h.told.heard)) → OnOk a (IfSome (all_passed (taps_before s lanes) (taps_after s lanes)) (AllServed s q.file q.range))
    on_ok (Ok m) w =
        if_some (all_passed (taps_before s lanes) (taps_after s lanes)) (λ es. es ≡ served_of_all h.told.heard) (AllServed s q.file q.range)
        (λ es e. subst (AllServed s q.file q.range) (sym e) w) (served s lanes h.told.heard h.told.exchanges)
    on_ok (Err e) w = tt

    by : k.entries ≡ Some [] → GaveNothing q h.told.looks → (o : Option (List Passage)) → all_passages (taps_before s lanes) (taps_after s lanes) ≡ o → Wrote (λ status bytes. IfSome (all_passages (taps_before s lanes) (taps_after s lanes)) (λ ps. MadeOf s q ps status bytes)) b n (status_of_answer answer) (result_ok answer)
    by empty nothing None e = inr (λ status bytes. rw e tt)
    by empty nothing (Some ps) e =
        let sides = have_sides s lanes ps e in
        let heard : sides.xs ≡ h.told.heard = subst (λ (o : Option (List Exchange)). IfSome o (λ ys. ys ≡ h.told.heard)) sides.is (all_told (befores s lanes) (afters s lanes) h.told.heard h.told.exchanges) in
        let given : GaveServed (wanted_setup q) sides.xs h.told.looks = rw heard (looks_gained (wanted_setup q) h.told.heard k l h.told.looks empty h.cached.gained h.told.given) in
        let once : ServedOnce (served_of_all sides.xs) = subst (λ (ys : List Exchange). ServedOnce (served_of_all ys)) (sym heard) h.blocks.served in
        let planned : AllPlanned (wanted_setup q) sides.xs = subst (AllPlanned (wanted_setup q)) (sym heard) h.blocks.planned in
        let asked : FirstAsksFew (wanted_setup q) sides.xs = subst (FirstAsksFew (wanted_setup q)) (sym heard) h.queries.few in
        let m = made pass s valid q (befores s lanes) (afters s lanes) k l b n same sides.xs sides.is sides.first sides.unexpired answer h in
        inl (record {
          bytes = m.0;
          took = m.1;
          total = m.2;
          from = rw e (record {
            xs = sides.xs;
            passed = sides.passed;
            asked = asked;
            once = once;
            planned = planned;
            looks = h.told.looks;
            looked = nothing;
            given = given;
            made = m.3;
          });
        })

-- ---- want of memory before it

-- exchanges of which nothing was served, and nothing asked
record NonePassed (s : Store) (ps : List Passage) : Type 0 where
  xs : List Exchange
  passed : AllZip (IsPassed s) ps xs
  none : served_of_all xs ≡ []
  each : All (λ x. requests_of x ≡ []) xs
  few : (g : Setup) → FirstAsksFew g xs

none_passed : (ts : List TapTold) (ps : List Passage) → all_passages ts ts ≡ Some ps → (s : Store) → NonePassed s ps
none_passed [] ps e s = rw (← some_same [] ps e) (record { xs = []; passed = tt; none = refl; each = All-nil _; few = λ g. tt })
none_passed (t ∷ ts) ps e s = by (λ qs f. none_passed ts qs f s) t.passed t.gave (all_passages ts ts) refl refl refl
  where
    by : ((qs : List Passage) → all_passages ts ts ≡ Some qs → NonePassed s qs) → (o : Option (List Served)) (g : Option (List BlockBytes)) (r : Option (List Passage)) → t.passed ≡ o → t.gave ≡ g → all_passages ts ts ≡ r → NonePassed s ps
    by others None g r e1 e2 e3 = absurd (no_some ps (rw e1 at e))
    by others (Some es) None r e1 e2 e3 = absurd (no_some ps (rw (e1, e2) at e))
    by others (Some es) (Some bs) None e1 e2 e3 = absurd (no_some ps (rw (e1, e2, e3) at e))
    by others (Some es) (Some bs) (Some qs) e1 e2 e3 =
        let p : Passage = record { served = drop (length es) es; blocks = drop (length bs) bs } in
        let rest = others qs e3 in
        let x : Exchange = record { asked = []; served = []; said = [] } in
        let one : IsPassed s p x = record { served_is = sym (drop-length es); blocks_are = sym (drop-length bs); plans = tt } in
        rw (← some_same (p ∷ qs) ps (rw (e1, e2, e3) at e)) (record {
          xs = x ∷ rest.xs;
          passed = (one, rest.passed);
          none = rest.none;
          each = All-cons (λ (y : Exchange). requests_of y ≡ []) x rest.xs refl rest.each;
          few = λ g. record { cut = []; cuts = record { from = tt; long = All-nil _ }; asked = refl; few = omega arith };
        })

-- so no block of a plan was served twice
once_of_none : (xs : List Exchange) → served_of_all xs ≡ [] → ServedOnce (served_of_all xs)
once_of_none xs e = subst ServedOnce (sym e) (λ p k. omega arith)

-- and each is a block of a plan
planned_of_none : (q : Wanted) (xs : List Exchange) → All (λ x. requests_of x ≡ []) xs → AllPlanned (wanted_setup q) xs
planned_of_none q xs each =
    All-weaker (λ (x : Exchange). requests_of x ≡ []) (λ (x : Exchange). All (IsPlannedServed (wanted_setup q) xs) (requests_of x))
    (λ x e. subst (All (IsPlannedServed (wanted_setup q) xs)) (sym e) (All-nil (IsPlannedServed (wanted_setup q) xs))) xs each

pub unbehind : (s : Store) (q : Wanted) (ts : List TapTold) (k : CacheTold) (b : SinkTold) → BehindTaps s q ts ts k k b b (Err error.OutOfMemory)
unbehind s q ts k b = record {
  all = behind_none s q (LanesHonest q ts) k b;
  chunks = λ honest none. tt;
  any = λ empty none. by (all_passages (lane_taps q ts) (lane_taps q ts)) refl;
  go_on = record { honest = refl; past = refl; unasked = λ e f. refl };
}
  where
    by : (o : Option (List Passage)) → all_passages (lane_taps q ts) (lane_taps q ts) ≡ o → Wrote (FromTaps s q ts ts) b b NoMemory None
    by None e = inr (λ status bytes. rw e tt)
    by (Some ps) e =
        let sides = none_passed (lane_taps q ts) ps e s in
        inl (record { bytes = []; took = took_same b.took; total = tt; from = rw e (record { xs = sides.xs; passed = sides.passed; asked = sides.few (wanted_setup q); once = once_of_none sides.xs sides.none; planned = planned_of_none q sides.xs sides.each; looks = []; looked = λ plain. refl; given = All-nil _; made = inl refl }) })

-- ---- connections that own their taps

same_honest : (v w : Bool) (r s : Store) → ◌≡◌ {A = Option Store} (cond v (Some r) None) (cond w (Some s) None) → v ≡ w
same_honest true true r s e = refl
same_honest false false r s e = refl
same_honest true false r s e = absurd (no_some r (sym e))
same_honest false true r s e = absurd (no_some s e)

honest_both : (n : ℕ) (ts us : List TapTold) → map (λ (t : TapTold). t.honest) (take n us) ≡ map (λ (t : TapTold). t.honest) (take n ts) → drop n us ≡ drop n ts → map (λ (t : TapTold). t.honest) us ≡ map (λ (t : TapTold). t.honest) ts
honest_both n ts us e f =
    let h : TapTold → Bool = λ t. t.honest in
    let same : map h (take n us) ++ map h (drop n us) ≡ map h (take n ts) ++ map h (drop n ts) = rw (e, f) refl in
    ap (map h) (sym (take-append-drop n us)) ∙ map-append h (take n us) (drop n us) ∙ same ∙ sym (map-append h (take n ts) (drop n ts)) ∙ ap (map h) (take-append-drop n ts)

whole_same : (n : ℕ) (ts us : List TapTold) → take n us ≡ take n ts → drop n us ≡ drop n ts → us ≡ ts
whole_same n ts us e f =
    let same : take n us ++ drop n us ≡ take n ts ++ drop n ts = rw (e, f) refl in
    sym (take-append-drop n us) ∙ same ∙ take-append-drop n ts

module _ {X T : Type 0} (told : T → TapTold) (tap : X → T) (store : X → Store) (log : X → ClientLog) (start : X → TapTold)
    (given : (x : X) → AreGiven (said_behind (start x) (log x)) (told (tap x)))
    (plans : (x : X) → PlansAreHonest (store x) (log x).asked (plans_in (log x).said))
    (unexpired : (x : X) → count_by expired_said (log x).said ≡ 0) where
  abbrev client : X → ClientTold
  client x = behind_own (store x) (log x) (start x) (told (tap x))

  -- the lanes of a run, by its connections before it and after it
  record AreLanes (s : Store) (xs ys : List X) : Type 0 where
    lanes : List (Lane s)
    before_is : map client xs ≡ befores s lanes
    after_is : map client ys ≡ afters s lanes
    t_is : map told (map tap xs) ≡ taps_before s lanes
    u_is : map told (map tap ys) ≡ taps_after s lanes

  are_lanes : (s : Store) (xs ys : List X) → All (λ x. IsNew s (told (tap x)) (client x)) xs → EachGoesOn (map client xs) (map client ys) → AreLanes s xs ys
  are_lanes s [] [] new h = record { lanes = []; before_is = refl; after_is = refl; t_is = refl; u_is = refl }
  are_lanes s [] (y ∷ ys) new h = absurd h
  are_lanes s (x ∷ xs) [] new h = absurd h
  are_lanes s (x ∷ xs) (y ∷ ys) new h =
      let P : X → Type 0 = λ x. IsNew s (told (tap x)) (client x) in
      let is : IsNew s (told (tap x)) (client x) = All-head P x xs new in
      let link = same_link _ _ _ _ _ _ (h.0.link ∙ ap (λ (c : ClientTold). c.link) is) in
      let same : store y ≡ s = link.2 in
      let rest = are_lanes s xs ys (All-tail P x xs new) h.1 in
      let one : Lane s = record {
        t = told (tap x);
        u = told (tap y);
        start = start y;
        log = log y;
        count = link.1;
        given = given y;
        plans = subst (λ (r : Store). PlansAreHonest r (log y).asked (plans_in (log y).said)) same (plans y);
        unexpired = unexpired y;
        honest = same_honest (told (tap y)).honest (told (tap x)).honest (store y) s (h.0.store ∙ ap (λ (c : ClientTold). c.store) is);
      } in
      record {
        lanes = one ∷ rest.lanes;
        before_is = ap (λ (c : ClientTold). c ∷ map client xs) is ∙ ap (λ (l : List ClientTold). client_before s one ∷ l) rest.before_is;
        after_is = ap (λ (r : Store). behind_own r (log y) (start y) (told (tap y)) ∷ map client ys) same ∙ ap (λ (l : List ClientTold). client_after s one ∷ l) rest.after_is;
        t_is = ap (λ (l : List TapTold). told (tap x) ∷ l) rest.t_is;
        u_is = ap (λ (l : List TapTold). told (tap y) ∷ l) rest.u_is;
      }

  pub behind_taps : (pass : HonestAnswersPass) (s : Store) (valid : IsValid s) (q : Wanted) (olds rest : List T) (xs ys : List X) (k l : CacheTold) (b n : SinkTold) (answer : Result ℕ FileReconstructionError)
      → map tap xs ++ rest ≡ olds → length olds ≡ 64 → length xs ≡ min (lanes_of q.options) 64 → length ys ≡ length xs → All (λ x. IsNew s (told (tap x)) (client x)) xs
      → Legal (wanted_setup q) (told_of (map client xs) k b) (told_of (map client ys) l n) answer
      → BehindTaps s q (map told olds) (map told (map tap ys ++ rest)) k l b n answer
  behind_taps pass s valid q olds rest xs ys k l b n answer is count few same new h =
      let c : ℕ = lanes_of q.options in
      let nows : List T = map tap ys ++ rest in
      let some = are_lanes s xs ys new h.later.goes_on in
      let run : BehindLanes s q (taps_before s some.lanes) (taps_after s some.lanes) k l b n answer =
      behind_lanes pass s valid q some.lanes k l b n answer
      (subst (λ (cs : List ClientTold). refused_setting (wanted_setup q) cs ≡ unmet_setting q) some.before_is settings)
      (subst (λ (ds : List ClientTold). Legal (wanted_setup q) (told_of (befores s some.lanes) k b) (told_of ds l n) answer) some.after_is
      (subst (λ (cs : List ClientTold). Legal (wanted_setup q) (told_of cs k b) (told_of (map client ys) l n) answer) some.before_is h)) in
      let a = length-map xs tap in
      let d = length-map ys tap in
      let parts = first_same c olds nows (map tap xs) (map tap ys) rest (sym is) refl count (omega (arith, a, few)) (omega (arith, a, d, same)) in
      let first : lane_taps q (map told olds) ≡ taps_before s some.lanes = take-map told c olds ∙ ap (map told) parts.0 ∙ some.t_is in
      let last : lane_taps q (map told nows) ≡ taps_after s some.lanes = take-map told c nows ∙ ap (map told) parts.1 ∙ some.u_is in
      let both : BehindLanes s q (lane_taps q (map told olds)) (lane_taps q (map told nows)) k l b n answer = rw (first, last) run in
      let others : drop c (map told nows) ≡ drop c (map told olds) = drop-map told c nows ∙ ap (map told) parts.2 ∙ sym (drop-map told c olds) in
      record {
        all = both.all;
        chunks = both.chunks;
        any = both.any;
        go_on = record {
          honest = honest_both c (map told olds) (map told nows) both.honest others;
          past = others;
          unasked = λ e f. whole_same c (map told olds) (map told nows) (both.unasked e f) others;
        };
      }
    where
      size : length (map client xs) ≡ min (lanes_of q.options) 64
      size = let a = length-map xs client in omega (arith, a, few)

      settings : refused_setting (wanted_setup q) (map client xs) ≡ unmet_setting q
      settings = same_setting q (map client xs) (λ e. let z = size in omega (arith, z, e)) (λ e. let z = size in omega (arith, z, e))

-- ---- with a cache of the run's own

pub true_not : (v : Bool) → v ≡ true → v ≡ false → ⊥
true_not v e f = cc

pub tapped : (s : Store) (q : Wanted) (ts us : List TapTold) (k l : CacheTold) (b n : SinkTold) (a : Result ℕ FileReconstructionError)
    → BehindTaps s q ts us k l b n a → k.entries ≡ Some [] → (q.options.cache ≡ false → l.entries ≡ Some []) → Tapped s q ts us b n a
tapped s q ts us k l b n a h empty none = record {
  exact = λ honest. h.all.exact honest tells;
  prefix = λ honest. h.all.prefix honest tells;
  cause = h.all.cause;
  settings = h.all.settings;
  chunks = λ honest. by_answer a (h.chunks honest empty);
  counts = h.all.counts;
  any = h.any empty none;
  go_on = h.go_on;
  faults = h.all.faults;
  unfailed = h.all.unfailed;
  link = h.all.link;
}
  where
    tells : CacheTells s k
    tells = rw empty (All-nil _)

    by_answer : (a : Result ℕ FileReconstructionError) → OnOk a (IfSome (all_passed (lane_taps q ts) (lane_taps q us)) (AllServed s q.file q.range)) → OnOk a (AllPassed s q ts us)
    by_answer (Ok m) h = h
    by_answer (Err e) h = tt
