-- A block that was to be provided in vain.
use Rattle.std.proofs.Common.{◌≡◌, ◌⊎◌, ◌+◌, false, List, [], ◌∷◌, ◌++◌, length, refl, sym, subst, ◌∙◌, ap, arith, ⊎_elim, Option, None}
use Rattle.std.specs.Prelude.{IfSome, min}
use Rattle.std.proofs.lemmas.List.{append-nil}
use Rattle.std.proofs.lemmas.List.Elements.{All-nil}
use Rattle.xet_base.specs.declared.cas_types.ChunkRange.{ChunkRange}
use Rattle.xet_outside.specs.Told.{CacheTold, ClientTold}
use Rattle.xet_outside.specs.declared.block.BlockBytes.{BlockBytes}
use Rattle.xet_error.specs.declared.error.FileReconstructionError.{FileReconstructionError}
use Rattle.xet_error.specs.declared.error.FileReconstructionError.TheVariants as error
use Rattle.xet_offers.specs.declared.reconstruction_terms.xorb_block.XorbBlock.{XorbBlock}
use Rattle.xet_fetch.specs.CachedBlocks.{LookKeeps, Looked, MaybeLooked}
use Rattle.xet_events.specs.declared.event.Event.{Event}
use Rattle.xet_ties.specs.InCall.{Look}
use Rattle.xet_ties.specs.Setup.{CacheTells, EachGoesOn, IsOver, Setup, most_lanes}
use Rattle.xet_parts.proofs.CallerLemmas.{look_tells}
use Rattle.xet_leader.specs.declared.missing_blocks.BlockAt.{BlockAt}
use Rattle.xet_leader.specs.Led.{Led}
use Rattle.xet_leader.specs.Looks.{EndsShort, ShortLook}
use Rattle.xet_base.specs.Store.{Store}
use Rattle.xet_stream_rules.specs.StepTold.{IsOf, IsTurn, LooksOnce, MayAskLane}
use Rattle.xet_stream_rules.specs.MomentCauses.{CauseAt}
use Rattle.xet_stream_rules.specs.Moments.{At, at}
use Rattle.xet_stream_rules.proofs.CallerLemmas.{cause_from, each_same, lasts_quiet, lasts_then, no_counts}
use Rattle.xet_stream_blocks.specs.BlockParts.{BlockFails, BlockPart}
use Rattle.xet_stream_blocks.specs.steps.FetchParts.{FetchFails}
use Rattle.xet_stream_blocks.specs.steps.Looking.{Looks}
use Rattle.xet_stream_blocks.proofs.FetchFailing.{none_spent}
use Rattle.xet_stream_blocks.proofs.LaneAsks.{same_list}
use Rattle.xet_stream_blocks.proofs.ProvidedBlocks.{no_offers}

-- ---- the look itself

-- whatever came of it, the cache was asked once at most
pub record ShortOnce (t u : CacheTold) : Type 0 where
  pub looks : List Look
  pub once : LooksOnce looks t u

unlooked : (t u : CacheTold) → LookKeeps t u → u.looked ≡ t.looked → ShortOnce t u
unlooked t u k h = record {
  looks = [];
  once = record {
    looked = h ∙ same_list t.looked;
    few = omega arith;
    offers = k.offers;
    entries = k.entries;
    faults = k.faults;
  };
}

looked_once : (x : XorbBlock) (r : ChunkRange) (t u : CacheTold) (o : Option BlockBytes) → Looked x r t u o
    → ShortOnce t u
looked_once x r t u o h = record {
  looks = (x.xorb_hash, r, o) ∷ [];
  once = record { looked = h.0; few = omega arith; offers = h.1; entries = h.2; faults = h.3 };
}

short_once : (x : XorbBlock) (rs : List ChunkRange) (t u : CacheTold) → MaybeLooked x rs t u → LookKeeps t u
    → ShortOnce t u
short_once x [] t u h k = unlooked t u k h
short_once x (r ∷ []) t u h k =
    ⊎_elim (λ (e : u.looked ≡ t.looked). unlooked t u k e)
    (λ (z : (o : Option BlockBytes) × Looked x r t u o). looked_once x r t u z.0 z.1) h
short_once x (r ∷ q ∷ rs) t u h k = unlooked t u k h

-- nothing was asked of a connection, and nothing recorded
abbrev quiet_part : (g : Setup) (x y : At) → (once : ShortOnce x.cache y.cache) → y.events ≡ x.events
    → y.clients ≡ x.clients → ((s : Store) → IsOver s x.clients → CacheTells s x.cache → CacheTells s y.cache)
    → BlockPart g x y
quiet_part g x y once events clients tells = record {
  block = None;
  again = None;
  new = [];
  added = events ∙ sym (append-nil x.events);
  lane = 0;
  turn = tt;
  fetched = x.clients;
  asked = refl;
  renewed = clients;
  cached = 0;
  served = 0;
  late = 0;
  refreshed = 0;
  counts = no_counts;
  few = omega arith;
  of_block = omega arith;
  of_again = omega arith;
  of_it = λ plan. All-nil (IsOf 0 (record { plan = plan; block = None; again = None }));
  no_limits = refl;
  cache = record {
    looks = once.looks;
    looked = y.cache;
    look = once.once;
    offer = no_offers y.cache;
    cached = omega arith;
  };
  lasts = lasts_quiet g x y events (subst (λ (ds : List ClientTold). EachGoesOn x.clients ds) (sym clients)
      (each_same x.clients)) tells;
}

pub same_cache : (t u : CacheTold) → u ≡ t → ShortOnce t u
same_cache t u e = subst (λ (c : CacheTold). ShortOnce t c) (sym e) (record {
  looks = [];
  once = record {
    looked = same_list t.looked;
    few = omega arith;
    offers = refl;
    entries = refl;
    faults = omega arith;
  };
})

-- nothing was asked for
abbrev pub nothing_provided : (g : Setup) (x : At) → BlockPart g x x
nothing_provided g x = quiet_part g x x (same_cache x.cache x.cache refl) refl refl (λ s o h. h)

-- ---- a look failed

module _ (g : Setup) (es : List Event) (l : Led) (cs : List ClientTold) (t u : CacheTold) (fs : List Event) (k : Led)
  where
    short_cache : EndsShort t u es fs → ShortOnce t u
    short_cache short =
        ⊎_elim (λ (h : (u ≡ t) × (fs ≡ es)). same_cache t u h.0)
        (λ (h : ShortLook t u es fs). short_once h.block h.block.chunk_ranges t u h.short.looked h.short.keeps) short

    short_events : EndsShort t u es fs → fs ≡ es
    short_events short =
        ⊎_elim (λ (h : (u ≡ t) × (fs ≡ es)). h.1) (λ (h : ShortLook t u es fs). h.short.same) short

    short_tells : EndsShort t u es fs → (s : Store) → IsOver s cs → CacheTells s t → CacheTells s u
    short_tells short s over tells =
        ⊎_elim (λ (h : (u ≡ t) × (fs ≡ es)). subst (CacheTells s) (sym h.0) tells)
        (λ (h : ShortLook t u es fs). look_tells s t u h.entries tells) short

    pub look_fails : (e : FileReconstructionError) → e ≡ error.OutOfMemory → EndsShort t u es fs
        → BlockFails g (at es l cs t) (at fs k cs u) e
    look_fails e memory short =
        let x = at es l cs t in
        let y = at fs k cs u in
        record {
          part = quiet_part g x y (short_cache short) (short_events short) refl (short_tells short);
          cause = subst (CauseAt g x y [] (record { plan = None; block = None; again = None })) (sym memory) tt;
          spent = λ s. absurd (none_spent g fs s);
        }

-- ---- a fetch failed after a look

module _ (g : Setup) (x m y : At) (c : BlockAt) (same : m.clients ≡ x.clients) (l : Looks g x m c false)
    (e : FileReconstructionError) (f : FetchFails g m y e) where
  none : m.events ≡ x.events
  none = l.added ∙ append-nil x.events

  abbrev block_part : BlockPart g x y
  block_part =
      let p = f.part in
      let few = p.few in
      let fetches : m.led.fetches ≡ x.led.fetches = ap (λ (z : Led). z.fetches) l.led in
      record {
        block = p.block;
        again = p.again;
        new = p.new;
        added = p.added ∙ ap (λ (v : List Event). v ++ p.new) none;
        lane = p.lane;
        turn = subst (λ (n : _). IfSome p.block (λ _. IsTurn n (min (length x.clients) most_lanes) p.lane)) fetches
            (subst (λ (cs : List ClientTold). IfSome p.block
            (λ _. IsTurn m.led.fetches (min (length cs) most_lanes) p.lane)) same p.turn);
        fetched = p.fetched;
        asked = subst (λ (cs : List ClientTold). MayAskLane p.lane p.block cs p.fetched) same p.asked;
        renewed = p.renewed;
        cached = 0;
        served = p.served;
        late = p.late;
        refreshed = p.refreshed;
        counts = p.counts;
        few = omega (arith, few);
        of_block = p.of_block;
        of_again = p.of_again;
        of_it = p.of_it;
        no_limits = p.no_limits;
        cache = (let n = p.counts.cached_are in record {
          looks = l.looks;
          looked = m.cache;
          look = l.looked;
          offer = p.offer;
          cached = omega (arith, n);
        });
        lasts = lasts_then g x m y l.goes.lasts p.lasts;
      }

  -- the cause from before the look
  earlier : (o : FileReconstructionError)
      → CauseAt g m y f.part.new (record { plan = None; block = f.part.block; again = f.part.again }) o
      → CauseAt g x y f.part.new (record { plan = None; block = f.part.block; again = f.part.again }) o
  earlier o h = cause_from g x m y l.goes f.part.new
      (record { plan = None; block = f.part.block; again = f.part.again }) o h

  pub fetch_fails : BlockFails g x y e
  fetch_fails = record { part = block_part; cause = earlier e f.cause; spent = f.spent }
