-- The ties after a part of a turn that touches one object.
use Rattle.std.proofs.Common.{inl, inr, ◌≡◌, ℕ, ◌+◌, ◌-◌, ◌≤◌, ◌^◌, ◌==◌, ◌&&◌, min, Bool, true, false, not, cond, List, [], ◌∷◌, ◌++◌, length, refl, sym, subst, ◌∙◌, ap, arith, ⊎_elim, Some, None, Option}
use Rattle.std.specs.Prelude.{IfSome, count_by, nat_eq, option_map, Ok, ◌⊎◌}
use Rattle.std.proofs.lemmas.Bool.{and_parts, eqb-true}
use Rattle.xet_base.specs.declared.cas_types.ChunkRange.{ChunkRange}
use Rattle.xet_base.specs.declared.merklehash.MerkleHash.{MerkleHash}
use Rattle.xet_base.specs.Hashes.{hash_eq}
use Rattle.xet_base.specs.Store.{Store}
use Rattle.xet_outside.proofs.CallerLemmas.{count_by-cons}
use Rattle.xet_outside.specs.declared.block.BlockBytes.{BlockBytes}
use Rattle.xet_outside.specs.Plan.{block_of}
use Rattle.xet_outside.specs.Told.{AskCall, CacheTold, Grew, Rose, SignalTold}
use Rattle.xet_offers.specs.declared.reconstruction_terms.xorb_block.XorbBlock.{XorbBlock}
use Rattle.xet_offers.specs.declared.reconstruction_terms.xorb_block.XorbBlockData.{XorbBlockData}
use Rattle.xet_fetch.specs.CachedBlocks.{FoundIn, IsOffered, Looked, LookedFor, entry_of, passes_cached, MaybeLooked}
use Rattle.xet_events.specs.declared.event.Event.{Event}
use Rattle.xet_events.specs.declared.event.PlannedBlock.{PlannedBlock}
use Rattle.xet_events.proofs.CallerLemmas.{count_by-push}
use Rattle.xet_ties.specs.History.{block_at}
use Rattle.xet_ties.specs.Gains.{GrewBy, IsOfferOf, MayOffer}
use Rattle.xet_ties.specs.Moves.{LookStep, PutEntry}
use Rattle.xet_ties.specs.PartCalls.{FoundBlock, LookedShort, LookedUp, OfferOneCall, OffersCall, PollCall, offers_in, looks_after, pending_after}
use Rattle.xet_ties.specs.Saids.{planned_of}
use Rattle.xet_ties.specs.Setup.{IsOver, RunTold, Setup}
use Rattle.xet_ties.specs.Ties.{IsEntryOf, Slack, Ties, gave, has_one, is_look, is_one, is_range, lacks, missed, same_bytes}
use Rattle.xet_ties.proofs.CacheMoves.{entries_more, entries_same, tie_cached, tie_missed, tie_put, looked_more, taken_grew}
use Rattle.xet_ties.proofs.Gains.{gained_same}
use Rattle.xet_ties.proofs.Moves.{tie_poll}
use Rattle.xet_ties.proofs.Pushes.{reaches_more}
use Rattle.xet_ties.proofs.Recording.{tie_rest}
use lib.Pointwise.{pointwise}
use Rattle.std.proofs.lemmas.List.{append-nil}
use Rattle.xet_ties.specs.InCall.{Look}
use Rattle.xet_ties.proofs.Heard.{grew_none}

-- ---- the signal

pub poll_ties : (g : Setup) (b at : RunTold) (es : List Event) (sl : Slack) (m n : SignalTold) → at.signal ≡ m → PollCall m n (Ok tt) → Ties g b at es None sl → Ties g b (record at { signal = n }) es None (record sl { spare = sl.spare + 1 })
poll_ties g b at es sl m n is c t = tie_poll g b at es sl n (subst (λ (k : SignalTold). AskCall k n false) (sym is) c.calm) t

-- it said yes
pub stop_ties : (g : Setup) (b at : RunTold) (es : List Event) (sl : Slack) (m n : SignalTold) → at.signal ≡ m → AskCall m n true → Ties g b at es None sl → Ties g b (record at { signal = n }) es None sl × Rose b.signal.yes n.yes
stop_ties g b at es sl m n is c t =
    let a : AskCall at.signal n true = subst (λ (k : SignalTold). AskCall k n true) (sym is) c in (
      record {
        heard = t.heard;
        true_of = t.true_of;
        cuts = t.cuts;
        within = t.within;
        starts = t.starts;
        ends = t.ends;
        numbers = t.numbers;
        stored = t.stored;
        served = t.served;
        expired = t.expired;
        late_planned = t.late_planned;
        heard_served = t.heard_served;
        unfailed = t.unfailed;
        asked = t.asked;
        heard_asked = t.heard_asked;
        lost = t.lost;
        said = t.said;
        tried = t.tried;
        renewed = t.renewed;
        refreshes = t.refreshes;
        passed = t.passed;
        one_cached = t.one_cached;
        looked = t.looked;
        looked_entries = t.looked_entries;
        gained = t.gained;
        offered = t.offered;
        polled = record {
          polls = t.polled.polls + 1;
          asks = reaches_more b.signal.asks at.signal.asks n.asks t.polled.polls a.counted t.polled.asks;
          cover = let c = t.polled.cover in omega (arith, c);
          later = let c = t.polled.later in let d = a.later in omega (arith, c, d);
        };
        limited = t.limited;
        taken = t.taken;
        recorded = t.recorded;
      },
      rose b.signal.yes at.signal.yes n.yes t.polled.later (a.yes refl),
    )
  where
    rose : (x y z : ℕ) → x ≤ y → Rose y z → Rose x z
    rose x y z h r = omega arith

-- ---- looks

same_numbers : (xs ys : List ℕ) → pointwise nat_eq xs ys ≡ true → xs ≡ ys
same_numbers [] [] h = refl
same_numbers [] (y ∷ ys) h = absurd (cc)
same_numbers (x ∷ xs) [] h = absurd (cc)
same_numbers (x ∷ xs) (y ∷ ys) h =
    let p = and_parts (x == y) (pointwise nat_eq xs ys) h in
    ap (λ (z : ℕ). z ∷ xs) (eqb-true x y p.0) ∙ ap (λ (l : List ℕ). y ∷ l) (same_numbers xs ys p.1)

same_is : (a b : BlockBytes) → same_bytes a b ≡ true → a ≡ b
same_is a b h =
    let p = and_parts (pointwise nat_eq a.offsets b.offsets) (pointwise nat_eq a.bytes b.bytes) h in
    ap (λ (l : List ℕ). let r : BlockBytes = record { offsets = l; bytes = a.bytes } in r) (same_numbers a.offsets b.offsets p.0) ∙ ap (λ (l : List ℕ). let r : BlockBytes = record { offsets = b.offsets; bytes = l } in r) (same_numbers a.bytes b.bytes p.1)

-- an entry that fails the tests isn't the store's block, which passes
fails_lacks : (x : XorbBlock) (e d : BlockBytes) → passes_cached x e ≡ false → passes_cached x d ≡ true → lacks d (Some e) ≡ true
fails_lacks x e d no_pass pass = go (same_bytes e d) refl
  where
    go : (v : Bool) → same_bytes e d ≡ v → not v ≡ true
    go false h = refl
    go true h = let same : e ≡ d = same_is e d h in let yes : passes_cached x e ≡ true = ap (passes_cached x) same ∙ pass in absurd (cc)

-- a block of several ranges counts for no key
many_count : (X : MerkleHash) (r : ChunkRange) (x : PlannedBlock) (ps : List PlannedBlock) → is_range r x.ranges ≡ false → count_by (is_one X r) (x ∷ ps) ≤ count_by (is_one X r) ps
many_count X r x ps h =
    let c = count_by-cons (is_one X r) x ps in
    let off : is_one X r x ≡ false = ap (λ v. hash_eq x.xorb X && v) h ∙ and_false (hash_eq x.xorb X) in
    let z = ap {B = ℕ} (λ (v : Bool). cond v 1 0) off in
    omega (arith, c, z)
  where
    and_false : (v : Bool) → (v && false) ≡ false
    and_false true = refl
    and_false false = refl

-- a look that is in no event
pub tie_looked : (g : Setup) (b n : RunTold) (es : List Event) (sl : Slack) (to : CacheTold) (x : PlannedBlock) (r : ChunkRange) (given : Option BlockBytes) → LookStep n.cache to x r given → Ties g b n es None sl → Ties g b (record n { cache = to }) es None (record sl { looks = sl.looks ++ (x.xorb, r, given) ∷ [] })
tie_looked g b n es sl to x r given l t = record {
  heard = t.heard;
  true_of = t.true_of;
  cuts = t.cuts;
  within = t.within;
  starts = t.starts;
  ends = t.ends;
  numbers = t.numbers;
  stored = t.stored;
  served = t.served;
  expired = t.expired;
  late_planned = t.late_planned;
  heard_served = t.heard_served;
  unfailed = t.unfailed;
  asked = t.asked;
  heard_asked = t.heard_asked;
  lost = t.lost;
  said = t.said;
  tried = t.tried;
  renewed = t.renewed;
  refreshes = t.refreshes;
  passed = t.passed;
  one_cached = t.one_cached;
  looked = record {
    looked = looked_more b.cache n.cache to sl.looks (x.xorb, r, given) t.looked.looked l.looked;
    cover = λ X q.
        let c = t.looked.cover X q in
        let look = count_by-push (is_look X q) sl.looks (x.xorb, r, given) in
        let give = count_by-push (gave X q) sl.looks (x.xorb, r, given) in
        let c0 = c.kept in
        let c1 = c.cached in
        record {
          kept = omega (arith, c0, look);
          cached = omega (arith, c1, give);
          honest = λ s o. let c2 = c.honest s o in let m = count_by-push (missed s X q) sl.looks (x.xorb, r, given) in omega (arith, c2, m);
        };
  };
  looked_entries = entries_more n.cache to sl.looks (x.xorb, r, given) l.entries l.among t.looked_entries;
  gained = gained_same g sl.heard b.cache n.cache to l.entries t.gained;
  offered = record { puts = t.offered.puts; offers = subst (λ (o : Option ℕ). GrewBy b.cache.offers o t.offered.puts) (sym l.offers) t.offered.offers; cover = t.offered.cover; faults = let f = t.offered.faults in let h = l.faults in omega (arith, f, h) };
  polled = t.polled;
  limited = t.limited;
  taken = taken_grew g es sl.heard sl.heard sl.looks ((x.xorb, r, given) ∷ []) sl.ahead b.clients b.cache b.sink n.sink (grew_none sl.heard) t.taken;
  recorded = t.recorded;
}

-- the same cache, by what it tells of looks and offers
tie_cache_same : (g : Setup) (b n : RunTold) (es : List Event) (sl : Slack) (to : CacheTold) → to.looked ≡ n.cache.looked → to.offers ≡ n.cache.offers → to.entries ≡ n.cache.entries → n.cache.faults ≤ to.faults → Ties g b n es None sl → Ties g b (record n { cache = to }) es None sl
tie_cache_same g b n es sl to looked offers entries faults t = record {
  heard = t.heard;
  true_of = t.true_of;
  cuts = t.cuts;
  within = t.within;
  starts = t.starts;
  ends = t.ends;
  numbers = t.numbers;
  stored = t.stored;
  served = t.served;
  expired = t.expired;
  late_planned = t.late_planned;
  heard_served = t.heard_served;
  unfailed = t.unfailed;
  asked = t.asked;
  heard_asked = t.heard_asked;
  lost = t.lost;
  said = t.said;
  tried = t.tried;
  renewed = t.renewed;
  refreshes = t.refreshes;
  passed = t.passed;
  one_cached = t.one_cached;
  looked = record { looked = looked ∙ t.looked.looked; cover = t.looked.cover };
  looked_entries = entries_same n.cache to sl.looks entries t.looked_entries;
  gained = gained_same g sl.heard b.cache n.cache to entries t.gained;
  offered = record { puts = t.offered.puts; offers = subst (λ (o : Option ℕ). GrewBy b.cache.offers o t.offered.puts) (sym offers) t.offered.offers; cover = t.offered.cover; faults = let f = t.offered.faults in omega (arith, f, faults) };
  polled = t.polled;
  limited = t.limited;
  taken = t.taken;
  recorded = t.recorded;
}

-- after a look for a block: it is cached, or waits to be fetched
pub look_up_ties : (g : Setup) (b at : RunTold) (es fs : List Event) (sl : Slack) (m n : CacheTold) (x y : XorbBlock) (p : ℕ) → at.cache ≡ m → (l : LookedUp x y p m n es fs) → block_at es p x.xorb_block_index ≡ planned_of x ∷ []
    → ((s : Store) → IsOver s b.clients → passes_cached x (block_of s x.xorb_hash x.chunk_ranges) ≡ true)
    → Ties g b at es None sl → Ties g b (record at { cache = n }) fs None (record sl { looks = looks_after x x.chunk_ranges l.look.given sl.looks; pending = pending_after l.found (planned_of x) sl.pending })
look_up_ties g b at es fs sl m n x y p is l planned honest t = by_ranges x.chunk_ranges refl l.look.given l.found l.look.looked l.look.found_in l.is
  where
    step : (r : ChunkRange) (given : Option BlockBytes) → x.chunk_ranges ≡ r ∷ [] → LookedFor x (r ∷ []) m n given → LookStep at.cache n (planned_of x) r given
    step r given e k = record {
      one = e;
      looked = subst (λ (c : CacheTold). Grew c.looked n.looked (x.xorb_hash, r, given)) (sym is) k.0;
      offers = k.1 ∙ ap (λ (c : CacheTold). c.offers) (sym is);
      entries = k.2 ∙ ap (λ (c : CacheTold). c.entries) (sym is);
      among = subst (λ (c : CacheTold). IsEntryOf c.entries (x.xorb_hash, r, given)) (sym is) k.4;
      faults = subst (λ (c : CacheTold). c.faults ≤ n.faults) (sym is) k.3;
    }

    unlooked : (found : Option XorbBlockData) → n ≡ m → ((r : ChunkRange) → is_range r x.chunk_ranges ≡ false) → found ≡ None → FoundBlock x y p es fs found → Ties g b (record at { cache = n }) fs None (record sl { pending = pending_after found (planned_of x) sl.pending })
    unlooked (Some d) e many none i = absurd (cc)
    unlooked None e many none i =
        subst (λ (h : List Event). Ties g b (record at { cache = n }) h None (record sl { pending = planned_of x ∷ sl.pending })) (sym i.1)
        (tie_rest g b (record at { cache = n }) es sl (planned_of x ∷ sl.pending) sl.spare (λ X r. many_count X r (planned_of x) sl.pending (many r)) (omega arith)
        (tie_cache_same g b at es sl n (ap (λ (c : CacheTold). c.looked) (e ∙ sym is)) (ap (λ (c : CacheTold). c.offers) (e ∙ sym is)) (ap (λ (c : CacheTold). c.entries) (e ∙ sym is)) (let same = ap (λ (c : CacheTold). c.faults) (e ∙ sym is) in omega (arith, same)) t))

    one : (r : ChunkRange) (given : Option BlockBytes) (found : Option XorbBlockData) → x.chunk_ranges ≡ r ∷ [] → LookedFor x (r ∷ []) m n given → FoundIn x given found → FoundBlock x y p es fs found
        → Ties g b (record at { cache = n }) fs None (record sl { looks = sl.looks ++ (x.xorb_hash, r, given) ∷ []; pending = pending_after found (planned_of x) sl.pending })
    one r None None e k f i =
        subst (λ (h : List Event). Ties g b (record at { cache = n }) h None (record sl { looks = sl.looks ++ (x.xorb_hash, r, None) ∷ []; pending = planned_of x ∷ sl.pending })) (sym i.1)
        (tie_missed g b at es sl n (planned_of x) r None (step r None e k) (λ s o. refl) t)
    one r None (Some d) e k f i = absurd (cc)
    one r (Some v) None e k f i =
        subst (λ (h : List Event). Ties g b (record at { cache = n }) h None (record sl { looks = sl.looks ++ (x.xorb_hash, r, Some v) ∷ []; pending = planned_of x ∷ sl.pending })) (sym i.1)
        (tie_missed g b at es sl n (planned_of x) r (Some v) (step r (Some v) e k) (λ s o. fails_lacks x v (block_of s x.xorb_hash (r ∷ [])) f (subst (λ (rs : List ChunkRange). passes_cached x (block_of s x.xorb_hash rs) ≡ true) e (honest s o))) t)
    one r (Some v) (Some d) e k f i =
        subst (λ (h : List Event). Ties g b (record at { cache = n }) h None (record sl { looks = sl.looks ++ (x.xorb_hash, r, Some v) ∷ [] })) (sym i.1)
        (tie_cached g b at es sl n p x.xorb_block_index (planned_of x) r v (step r (Some v) e k) planned t)

    none_given : (given : Option BlockBytes) (found : Option XorbBlockData) → given ≡ None → FoundIn x given found → found ≡ None
    none_given None found e f = f
    none_given (Some v) found e f = absurd (cc)

    by_ranges : (rs : List ChunkRange) → x.chunk_ranges ≡ rs → (given : Option BlockBytes) (found : Option XorbBlockData) → LookedFor x x.chunk_ranges m n given → FoundIn x given found → FoundBlock x y p es fs found
        → Ties g b (record at { cache = n }) fs None (record sl { looks = looks_after x rs given sl.looks; pending = pending_after found (planned_of x) sl.pending })
    by_ranges [] e given found k f i =
        let h : LookedFor x [] m n given = subst (λ (rs : List ChunkRange). LookedFor x rs m n given) e k in
        unlooked found h.0 (λ r. ap (is_range r) e) (none_given given found h.1 f) i
    by_ranges (r ∷ []) e given found k f i = one r given found e (subst (λ (rs : List ChunkRange). LookedFor x rs m n given) e k) f i
    by_ranges (r ∷ q ∷ rs) e given found k f i =
        let h : LookedFor x (r ∷ q ∷ rs) m n given = subst (λ (ss : List ChunkRange). LookedFor x ss m n given) e k in
        unlooked found h.0 (λ v. ap (is_range v) e) (none_given given found h.1 f) i

-- after one that memory was wanting for
pub look_short_ties : (g : Setup) (b at : RunTold) (es fs : List Event) (sl : Slack) (m n : CacheTold) (x : XorbBlock) → at.cache ≡ m → LookedShort x m n es fs → Ties g b at es None sl
    → (more : List Look) × Ties g b (record at { cache = n }) fs None (record sl { looks = sl.looks ++ more })
look_short_ties g b at es fs sl m n x is l t = by_ranges x.chunk_ranges refl l.looked
  where
    at_events : (more : List Look) → Ties g b (record at { cache = n }) es None (record sl { looks = sl.looks ++ more }) → Ties g b (record at { cache = n }) fs None (record sl { looks = sl.looks ++ more })
    at_events more u = subst (λ (h : List Event). Ties g b (record at { cache = n }) h None (record sl { looks = sl.looks ++ more })) (sym l.same) u

    offers : n.offers ≡ at.cache.offers
    offers = l.keeps.offers ∙ ap (λ (c : CacheTold). c.offers) (sym is)

    entries : n.entries ≡ at.cache.entries
    entries = l.keeps.entries ∙ ap (λ (c : CacheTold). c.entries) (sym is)

    faults : at.cache.faults ≤ n.faults
    faults = subst (λ (c : CacheTold). c.faults ≤ n.faults) (sym is) l.keeps.faults

    still : n.looked ≡ m.looked → (more : List Look) × Ties g b (record at { cache = n }) fs None (record sl { looks = sl.looks ++ more })
    still e = ([], at_events [] (subst (λ (ls : List Look). Ties g b (record at { cache = n }) es None (record sl { looks = ls })) (sym (append-nil sl.looks)) (tie_cache_same g b at es sl n (e ∙ ap (λ (c : CacheTold). c.looked) (sym is)) offers entries faults t)))

    by_ranges : (rs : List ChunkRange) → x.chunk_ranges ≡ rs → MaybeLooked x x.chunk_ranges m n → (more : List Look) × Ties g b (record at { cache = n }) fs None (record sl { looks = sl.looks ++ more })
    by_ranges [] e k = still (subst (λ (rs : List ChunkRange). MaybeLooked x rs m n) e k)
    by_ranges (r ∷ []) e k =
        ⊎_elim still
        (λ (h : (o : Option BlockBytes) × Looked x r m n o). (
          (x.xorb_hash, r, h.0) ∷ [],
          at_events ((x.xorb_hash, r, h.0) ∷ []) (tie_looked g b at es sl n (planned_of x) r h.0 (record {
            one = e;
            looked = subst (λ (c : CacheTold). Grew c.looked n.looked (x.xorb_hash, r, h.0)) (sym is) h.1.0;
            offers = offers;
            entries = entries;
            among = subst (λ (c : CacheTold). IsEntryOf c.entries (x.xorb_hash, r, h.0)) (sym is) h.1.4;
            faults = faults;
          }) t),
        ))
        (subst (λ (rs : List ChunkRange). MaybeLooked x rs m n) e k)
    by_ranges (r ∷ q ∷ rs) e k = still (subst (λ (ss : List ChunkRange). MaybeLooked x ss m n) e k)

-- ---- offers

pub offers_none : (x : XorbBlock) (m : CacheTold) → OffersCall m m x 0
offers_none x m g b at es sl due is d may t =
    let h : sl.due ≡ due + 0 = d in
    subst (λ (c : CacheTold). Ties g b (record at { cache = c }) es None (record sl { due = due })) is (less g b at es sl due (omega (arith, h)) t)
  where
    less : (g : Setup) (b at : RunTold) (es : List Event) (sl : Slack) (due : ℕ) → sl.due ≡ due → Ties g b at es None sl → Ties g b at es None (record sl { due = due })
    less g b at es sl due d t = record {
      heard = t.heard;
      true_of = t.true_of;
      cuts = t.cuts;
      within = t.within;
      starts = t.starts;
      ends = t.ends;
      numbers = t.numbers;
      stored = t.stored;
      served = t.served;
      expired = t.expired;
      late_planned = t.late_planned;
      heard_served = t.heard_served;
      unfailed = t.unfailed;
      asked = t.asked;
      heard_asked = t.heard_asked;
      lost = t.lost;
      said = t.said;
      tried = t.tried;
      renewed = t.renewed;
      refreshes = t.refreshes;
      passed = t.passed;
      one_cached = t.one_cached;
      looked = t.looked;
      looked_entries = t.looked_entries;
      gained = t.gained;
      offered = record { puts = t.offered.puts; offers = t.offered.offers; cover = let c = t.offered.cover in omega (arith, c, d); faults = t.offered.faults };
      polled = t.polled;
      limited = t.limited;
      taken = t.taken;
      recorded = t.recorded;
    }

-- the data that a block keeps was offered
pub offers_one : (x : XorbBlock) (m n : CacheTold) (d : XorbBlockData) → x.kept ≡ Some d → IsOffered x x.chunk_ranges m n (entry_of d) → OffersCall m n x (cond (has_one (planned_of x)) 1 0)
offers_one x m n d kept o = by_ranges x.chunk_ranges refl
  where
    none : n ≡ m → OffersCall m n x 0
    none same = subst (λ (c : CacheTold). OffersCall m c x 0) (sym same) (offers_none x m)

    -- the entry that was put
    entry : (g : Setup) (at : RunTold) (sl : Slack) (r : ChunkRange) → x.chunk_ranges ≡ r ∷ [] → at.cache ≡ m → MayOffer g sl.heard x → (n.entries ≡ m.entries) ⊎ Grew m.entries n.entries (x.xorb_hash, r, entry_of d) → (n.entries ≡ at.cache.entries) ⊎ PutEntry g sl.heard at.cache n
    entry g at sl r h is may k =
        ⊎_elim
        (λ (v : n.entries ≡ m.entries). inl (v ∙ ap (λ (c : CacheTold). c.entries) (sym is)))
        (λ (v : Grew m.entries n.entries (x.xorb_hash, r, entry_of d)). inr (record {
          entry = (x.xorb_hash, r, entry_of d);
          grew = subst (λ (c : CacheTold). Grew c.entries n.entries (x.xorb_hash, r, entry_of d)) (sym is) v;
          served = subst (λ (y : Option XorbBlockData). IfSome y (λ z. (q : ChunkRange) → x.chunk_ranges ≡ q ∷ [] → IsOfferOf g sl.heard x q z)) kept may r h;
        }))
        k

    one : (r : ChunkRange) → x.chunk_ranges ≡ r ∷ [] → IsOffered x (r ∷ []) m n (entry_of d) → OffersCall m n x 1
    one r h q g b at es sl due is k may t = tie_put g b at es sl n due (record {
      looked = q.1 ∙ ap (λ (c : CacheTold). c.looked) (sym is);
      offers = q.2 ∙ ap (λ (c : CacheTold). option_map (λ i. min (i + 1) (2 ^ 64 - 1)) c.offers) (sym is);
      entries = entry g at sl r h is may q.0;
      faults = subst (λ (c : CacheTold). c.faults ≤ n.faults) (sym is) q.3;
    }) k t

    by_ranges : (rs : List ChunkRange) → x.chunk_ranges ≡ rs → OffersCall m n x (cond (nat_eq (length x.chunk_ranges) 1) 1 0)
    by_ranges [] h = subst (λ (rs : List ChunkRange). OffersCall m n x (cond (nat_eq (length rs) 1) 1 0)) (sym h) (none (subst (λ (rs : List ChunkRange). IsOffered x rs m n (entry_of d)) h o))
    by_ranges (r ∷ []) h = subst (λ (rs : List ChunkRange). OffersCall m n x (cond (nat_eq (length rs) 1) 1 0)) (sym h) (one r h (subst (λ (rs : List ChunkRange). IsOffered x rs m n (entry_of d)) h o))
    by_ranges (r ∷ s ∷ rs) h =
        let many : cond {A = ℕ} (nat_eq (length x.chunk_ranges) 1) 1 0 ≡ 0 = (let k : length x.chunk_ranges ≡ length rs + 2 = ap (λ (l : List ChunkRange). length l) h ∙ omega arith in off (length x.chunk_ranges) (length rs) k) in
        subst (λ (c : ℕ). OffersCall m n x c) (sym many) (none (subst (λ (ss : List ChunkRange). IsOffered x ss m n (entry_of d)) h o))
      where
        off : (a c : ℕ) → a ≡ c + 2 → cond {A = ℕ} (nat_eq a 1) 1 0 ≡ 0
        off a c k = by (a == 1) refl
          where
            by : (v : Bool) → (a == 1) ≡ v → cond {A = ℕ} v 1 0 ≡ 0
            by false z = refl
            by true z = let w = eqb-true a 1 z in absurd (omega (arith, k, w))

-- a block with its data was offered
pub offered_block : (x : XorbBlock) (m n : CacheTold) (d : XorbBlockData) → x.kept ≡ Some d → IsOffered x x.chunk_ranges m n (entry_of d) → OfferOneCall m n x (Ok tt)
offered_block x m n d e o = record { done = subst (λ (k : Option XorbBlockData). OffersCall m n x (offers_in x k)) (sym e) (offers_one x m n d e o); kept = tt; memory = tt }
