-- The ties after a step of the cache.
use Rattle.std.proofs.Common.{◌≡◌, ℕ, ◌+◌, ◌==◌, ◌&&◌, Bool, true, false, cond, List, [], ◌∷◌, ◌++◌, length, refl, sym, subst, ◌∙◌, ap, arith, append_assoc, ◌⊎◌, ⊎_elim, Some, None, Option}
use Rattle.std.specs.Prelude.{All, Contains, IfSome, count_by, option_map}
use Rattle.std.proofs.lemmas.Bool.{and_parts, eqb-true}
use Rattle.xet_base.specs.declared.cas_types.ChunkRange.{ChunkRange}
use Rattle.xet_base.specs.declared.merklehash.MerkleHash.{MerkleHash}
use Rattle.xet_base.specs.Hashes.{hash_eq}
use Rattle.xet_base.proofs.CallerLemmas.{hash_eq-true}
use Rattle.xet_base.specs.Store.{Store}
use Rattle.xet_outside.proofs.CallerLemmas.{count_by-cons}
use Rattle.xet_outside.specs.declared.block.BlockBytes.{BlockBytes}
use Rattle.xet_outside.specs.Plan.{block_of}
use Rattle.xet_outside.specs.Told.{CacheEntry, CacheTold, Grew, Added, ClientTold, SinkTold}
use Rattle.xet_offers.specs.Blocks.{range_eq}
use Rattle.xet_events.specs.declared.event.Event.{Event}
use Rattle.xet_events.specs.declared.event.Event.TheVariants.{Cached}
use Rattle.xet_events.specs.declared.event.PlannedBlock.{PlannedBlock}
use Rattle.xet_events.proofs.CallerLemmas.{count_by-push}
use Rattle.xet_ties.specs.History.{IsNumberedNext, IsOneCached, IsRenewed, block_at, cached_in, fetched_in, kept_in, telling, IsWithin}
use Rattle.xet_ties.specs.Moves.{LookStep, PutEntry, PutStep}
use Rattle.xet_ties.specs.Saids.{EventPassed}
use Rattle.xet_ties.specs.Setup.{IsOver, RunTold, Setup, download_of}
use Rattle.xet_ties.specs.InCall.{Look, EachGrew, Exchange}
use Rattle.xet_ties.specs.Gains.{GrewBy}
use Rattle.xet_ties.specs.Ties.{IsEntryOf, Slack, Ties, gave, is_look, is_one, is_range, lacks, missed, IsTaken}
use Rattle.xet_ties.proofs.Lanes.{served_same}
use Rattle.xet_ties.proofs.Lates.{expired_same, late_push}
use Rattle.xet_ties.proofs.Pushes.{first_push, limited_same, offered_push, polled_push, grew_by_more, recorded_same, stored_same, taken_push, tried_push, true_same, cuts_same, lost_push, starts_same}
use Rattle.xet_ties.proofs.Numbers.{heard_push}
use Rattle.xet_ties.proofs.Told.{if_some}
use Rattle.xet_ties.proofs.Telling.{each-push, telling-push, telling-same}
use Rattle.std.proofs.lemmas.List.{append-nil}
use Rattle.std.proofs.lemmas.List.Elements.{All-push, All-weaker, Contains-append_left}
use Rattle.xet_ties.proofs.Heard.{grew_none, said_push, tested_grew}
use Rattle.xet_ties.proofs.Gains.{gained_put, gained_same}
use Rattle.xet_ties.proofs.EarlyEnds.{ends_same}
use Rattle.xet_ties.proofs.HeardServed.{heard_served_same}

range_eq-true : (a b : ChunkRange) → range_eq a b ≡ true → a ≡ b
range_eq-true a b h =
    let p = and_parts (a.start == b.start) (a.end == b.end) h in
    let x : a.start ≡ b.start = eqb-true a.start b.start p.0 in
    let y : a.end ≡ b.end = eqb-true a.end b.end p.1 in
    ap (λ (n : ℕ). let r : ChunkRange = record { start = n; end = a.end } in r) x ∙ ap (λ (n : ℕ). let r : ChunkRange = record { start = b.start; end = n } in r) y

-- a key and a block that are the same
key_is : (X : MerkleHash) (g : ChunkRange) (x : PlannedBlock) (r : ChunkRange) (given : Option BlockBytes) → x.ranges ≡ r ∷ [] → is_one X g x ≡ is_look X g (x.xorb, r, given)
key_is X g x r given one = ap (λ (rs : List ChunkRange). hash_eq x.xorb X && is_range g rs) one

pub looked_more : (b m n : CacheTold) (xs : List Look) (l : Look) → Added b.looked m.looked xs → Grew m.looked n.looked l → Added b.looked n.looked (xs ++ l ∷ [])
looked_more b m n xs l a h = h ∙ ap (λ (o : Option (List Look)). option_map (λ ls. ls ++ l ∷ []) o) a ∙ twice b.looked
  where
    twice : (o : Option (List Look)) → option_map (λ ls. ls ++ l ∷ []) (option_map (λ ys. ys ++ xs) o) ≡ option_map (λ ys. ys ++ (xs ++ l ∷ [])) o
    twice None = refl
    twice (Some ys) = ap (λ (z : List Look). Some z) (append_assoc ys xs (l ∷ []))

-- what was taken, where more was heard and looked for
pub taken_grew : (g : Setup) (es : List Event) (xs ys : List Exchange) (looks more : List Look) (ahead : ℕ) (bs : List ClientTold) (cache : CacheTold) (b n : SinkTold) → EachGrew xs ys
    → IsTaken g es xs looks ahead bs cache b n → IsTaken g es ys (looks ++ more) ahead bs cache b n
taken_grew g es xs ys looks more ahead bs cache b n w t = record {
  taken = t.taken;
  took = t.took;
  counted = t.counted;
  pieces = t.pieces;
  tested = tested_grew g xs ys looks more es t.taken w t.tested;
  faults = t.faults;
  link = t.link;
}

-- where more was heard
pub taken_heard : (g : Setup) (es : List Event) (xs ys : List Exchange) (looks : List Look) (ahead : ℕ) (bs : List ClientTold) (cache : CacheTold) (b n : SinkTold) → EachGrew xs ys
    → IsTaken g es xs looks ahead bs cache b n → IsTaken g es ys looks ahead bs cache b n
taken_heard g es xs ys looks ahead bs cache b n w t = subst (λ (l : List Look). IsTaken g es ys l ahead bs cache b n) (append-nil looks) (taken_grew g es xs ys looks [] ahead bs cache b n w t)

-- where a look for a block lacks it, the look counts as one that lacks it
lacks_key : (s : Store) (X : MerkleHash) (g : ChunkRange) (x : PlannedBlock) (r : ChunkRange) (given : Option BlockBytes) → lacks (block_of s x.xorb (r ∷ [])) given ≡ true
    → is_look X g (x.xorb, r, given) ≡ missed s X g (x.xorb, r, given)
lacks_key s X g x r given h = go (is_look X g (x.xorb, r, given)) refl
  where
    go : (t : Bool) → is_look X g (x.xorb, r, given) ≡ t → t ≡ (t && lacks (block_of s X (g ∷ [])) given)
    go false e = refl
    go true e =
        let p = and_parts (hash_eq x.xorb X) (range_eq r g) e in
        let hash : x.xorb ≡ X = hash_eq-true x.xorb X p.0 in
        let range : r ≡ g = range_eq-true r g p.1 in
        sym (ap (λ (y : MerkleHash). lacks (block_of s y (g ∷ [])) given) (sym hash) ∙ ap (λ (q : ChunkRange). lacks (block_of s x.xorb (q ∷ [])) given) (sym range) ∙ h)

-- ---- the entries that looks gave

contains_more : (o : Option (List CacheEntry)) (c : CacheEntry) (k : CacheEntry) → IfSome o (λ es. Contains es k) → IfSome (option_map (λ es. es ++ c ∷ []) o) (λ es. Contains es k)
contains_more None c k h = tt
contains_more (Some es) c k h = Contains-append_left es (c ∷ []) k h

entry_more : (o : Option (List CacheEntry)) (c : CacheEntry) (l : Look) → IsEntryOf o l → IsEntryOf (option_map (λ es. es ++ c ∷ []) o) l
entry_more o c l h = if_some l.2 (λ e. IfSome o (λ es. Contains es (l.0, l.1, e))) (λ e. IfSome (option_map (λ es. es ++ c ∷ []) o) (λ es. Contains es (l.0, l.1, e))) (λ e k. contains_more o c (l.0, l.1, e) k) h

pub entries_same : (before after : CacheTold) (looks : List Look) → after.entries ≡ before.entries → All (IsEntryOf before.entries) looks → All (IsEntryOf after.entries) looks
entries_same before after looks e a = subst (λ (o : Option (List CacheEntry)). All (IsEntryOf o) looks) (sym e) a

-- one more look
pub entries_more : (before after : CacheTold) (looks : List Look) (l : Look) → after.entries ≡ before.entries → IsEntryOf before.entries l → All (IsEntryOf before.entries) looks → All (IsEntryOf after.entries) (looks ++ l ∷ [])
entries_more before after looks l e h a = entries_same before after (looks ++ l ∷ []) e (All-push (IsEntryOf before.entries) looks l a h)

-- one more entry, or none
entries_put : (g : Setup) (xs : List Exchange) (before after : CacheTold) (looks : List Look) → (after.entries ≡ before.entries) ⊎ PutEntry g xs before after → All (IsEntryOf before.entries) looks → All (IsEntryOf after.entries) looks
entries_put g xs before after looks h a =
    ⊎_elim
    (λ (e : after.entries ≡ before.entries). entries_same before after looks e a)
    (λ (p : PutEntry g xs before after).
    subst (λ (o : Option (List CacheEntry)). All (IsEntryOf o) looks) (sym p.grew)
    (All-weaker (IsEntryOf before.entries) (IsEntryOf (option_map (λ es. es ++ p.entry ∷ []) before.entries)) (λ l k. entry_more before.entries p.entry l k) looks a))
    h

-- a look that didn't find the block
pub tie_missed : (g : Setup) (b n : RunTold) (es : List Event) (sl : Slack) (to : CacheTold) (x : PlannedBlock) (r : ChunkRange) (given : Option BlockBytes) → LookStep n.cache to x r given
    → ((s : Store) → IsOver s b.clients → lacks (block_of s x.xorb (r ∷ [])) given ≡ true) → Ties g b n es None sl → Ties g b (record n { cache = to }) es None (record sl { looks = sl.looks ++ (x.xorb, r, given) ∷ []; pending = x ∷ sl.pending })
tie_missed g b n es sl to x r given l miss t = record {
  heard = t.heard;
  true_of = t.true_of;
  cuts = t.cuts;
  within = t.within;
  starts = t.starts;
  ends = t.ends;
  numbers = t.numbers;
  stored = t.stored;
  served = t.served;
  expired = t.expired;
  late_planned = t.late_planned;
  heard_served = t.heard_served;
  unfailed = t.unfailed;
  asked = t.asked;
  heard_asked = t.heard_asked;
  lost = t.lost;
  said = t.said;
  tried = t.tried;
  renewed = t.renewed;
  refreshes = t.refreshes;
  passed = t.passed;
  one_cached = t.one_cached;
  looked = record {
    looked = looked_more b.cache n.cache to sl.looks (x.xorb, r, given) t.looked.looked l.looked;
    cover = λ X q.
        let c = t.looked.cover X q in
        let one = count_by-cons (is_one X q) x sl.pending in
        let look = count_by-push (is_look X q) sl.looks (x.xorb, r, given) in
        let give = count_by-push (gave X q) sl.looks (x.xorb, r, given) in
        let key = ap {B = ℕ} (λ (v : Bool). cond v 1 0) (key_is X q x r given l.one) in
        let c0 = c.kept in
        let c1 = c.cached in
        record {
          kept = omega (arith, c0, one, look, key);
          cached = omega (arith, c1, give);
          honest = λ s o.
              let c2 = c.honest s o in
              let m = count_by-push (missed s X q) sl.looks (x.xorb, r, given) in
              let k = ap {B = ℕ} (λ (v : Bool). cond v 1 0) (lacks_key s X q x r given (miss s o)) in
              omega (arith, c2, one, m, key, k);
        };
  };
  looked_entries = entries_more n.cache to sl.looks (x.xorb, r, given) l.entries l.among t.looked_entries;
  gained = gained_same g sl.heard b.cache n.cache to l.entries t.gained;
  offered = record { puts = t.offered.puts; offers = subst (λ (o : Option ℕ). GrewBy b.cache.offers o t.offered.puts) (sym l.offers) t.offered.offers; cover = t.offered.cover; faults = let f = t.offered.faults in let h = l.faults in omega (arith, f, h) };
  polled = t.polled;
  limited = t.limited;
  taken = taken_grew g es sl.heard sl.heard sl.looks ((x.xorb, r, given) ∷ []) sl.ahead b.clients b.cache b.sink n.sink (grew_none sl.heard) t.taken;
  recorded = t.recorded;
}

-- a look that gave the block, which is recorded as cached
pub tie_cached : (g : Setup) (b n : RunTold) (es : List Event) (sl : Slack) (to : CacheTold) (p k : ℕ) (x : PlannedBlock) (r : ChunkRange) (e : BlockBytes) → LookStep n.cache to x r (Some e) → block_at es p k ≡ x ∷ []
    → Ties g b n es None sl → Ties g b (record n { cache = to }) (es ++ Cached p k ∷ []) None (record sl { looks = sl.looks ++ (x.xorb, r, Some e) ∷ [] })
tie_cached g b n es sl to p k x r entry l at t =
    let e : Event = Cached p k in
    record {
      heard = t.heard;
      true_of = λ s o. true_same s (download_of g) es e refl tt (t.true_of s o);
      cuts = cuts_same g es e refl t.cuts;
      within = All-push IsWithin es e t.within tt;
      starts = starts_same g.range.start es e refl t.starts;
      ends = ends_same es e refl t.ends;
      numbers = each-push IsNumberedNext es e t.numbers tt;
      stored = stored_same g.file es e b.clients refl t.stored;
      served = served_same es e sl.hidden sl.late b.clients n.clients (λ l. refl) (λ l. refl) (λ p k. refl) (λ m. tt) t.served;
      expired = expired_same es e 0 sl.heard sl.late (λ l w. refl) t.expired;
      late_planned = late_push es e sl.heard t.late_planned;
      heard_served = heard_served_same es e 0 sl.heard sl.hidden (λ l w. refl) t.heard_served;
      unfailed = t.unfailed;
      asked = first_push g.file es e sl.lost sl.lost b.clients n.clients refl t.asked;
      heard_asked = heard_push g.file es e sl.lost sl.lost sl.heard refl t.heard_asked;
      lost = lost_push g es e sl.lost [] sl.lost refl refl refl t.lost;
      said = said_push g es e sl.heard (λ x. tt) t.said;
      tried = tried_push g.tries es e sl.late (λ p k. let a = t.tried.at_most p k in omega (arith, a));
      renewed = each-push IsRenewed es e t.renewed tt;
      refreshes = t.refreshes;
      passed = All-push (EventPassed g sl.heard) es e t.passed tt;
      one_cached = each-push IsOneCached es e t.one_cached (x, at, ap (λ (rs : List ChunkRange). length rs) l.one);
      looked = record {
        looked = looked_more b.cache n.cache to sl.looks (x.xorb, r, Some entry) t.looked.looked l.looked;
        cover = λ X q.
            let c = t.looked.cover X q in
            let here : kept_in es e ≡ x ∷ [] = at in
            let kept = ap (λ (v : List PlannedBlock). count_by (is_one X q) v) (telling-push kept_in es e ∙ ap (λ (v : List PlannedBlock). telling kept_in [] es ++ v) here) ∙ count_by-push (is_one X q) (telling kept_in [] es) x in
            let cached = ap (λ (v : List PlannedBlock). count_by (is_one X q) v) (telling-push cached_in es e ∙ ap (λ (v : List PlannedBlock). telling cached_in [] es ++ v) at) ∙ count_by-push (is_one X q) (telling cached_in [] es) x in
            let fetched = ap (λ (v : List PlannedBlock). count_by (is_one X q) v) (telling-same fetched_in es e refl) in
            let look = count_by-push (is_look X q) sl.looks (x.xorb, r, Some entry) in
            let give = count_by-push (gave X q) sl.looks (x.xorb, r, Some entry) in
            let key = ap {B = ℕ} (λ (v : Bool). cond v 1 0) (key_is X q x r (Some entry) l.one) in
            let also = ap {B = ℕ} (λ (v : Bool). cond v 1 0) (and_yes (is_look X q (x.xorb, r, Some entry))) in
            let c0 = c.kept in
            let c1 = c.cached in
            record {
              kept = omega (arith, c0, kept, look, key);
              cached = omega (arith, c1, cached, give, key, also);
              honest = λ s o. let c2 = c.honest s o in let m = count_by-push (missed s X q) sl.looks (x.xorb, r, Some entry) in omega (arith, c2, fetched, m);
            };
      };
      looked_entries = entries_more n.cache to sl.looks (x.xorb, r, Some entry) l.entries l.among t.looked_entries;
      gained = gained_same g sl.heard b.cache n.cache to l.entries t.gained;
      offered = offered_push es e sl.due sl.due b.cache to (omega arith) (record { puts = t.offered.puts; offers = subst (λ (o : Option ℕ). GrewBy b.cache.offers o t.offered.puts) (sym l.offers) t.offered.offers; cover = t.offered.cover; faults = let f = t.offered.faults in let h = l.faults in omega (arith, f, h) });
      polled = polled_push es e sl.spare sl.spare b.signal n.signal (omega arith) t.polled;
      limited = limited_same es e b.limits n.limits refl t.limited;
      taken = taken_push g es e sl.heard (sl.looks ++ (x.xorb, r, Some entry) ∷ []) sl.ahead sl.ahead b.clients b.cache b.sink n.sink (omega arith) (taken_grew g es sl.heard sl.heard sl.looks ((x.xorb, r, Some entry) ∷ []) sl.ahead b.clients b.cache b.sink n.sink (grew_none sl.heard) t.taken);
      recorded = recorded_same es e refl t.recorded;
    }
  where
    and_yes : (v : Bool) → (v && true) ≡ v
    and_yes true = refl
    and_yes false = refl

-- an entry was offered
pub tie_put : (g : Setup) (b n : RunTold) (es : List Event) (sl : Slack) (to : CacheTold) (due : ℕ) → PutStep g sl.heard n.cache to → sl.due ≡ due + 1 → Ties g b n es None sl → Ties g b (record n { cache = to }) es None (record sl { due = due })
tie_put g b n es sl to due p d t = record {
  heard = t.heard;
  true_of = t.true_of;
  cuts = t.cuts;
  within = t.within;
  starts = t.starts;
  ends = t.ends;
  numbers = t.numbers;
  stored = t.stored;
  served = t.served;
  expired = t.expired;
  late_planned = t.late_planned;
  heard_served = t.heard_served;
  unfailed = t.unfailed;
  asked = t.asked;
  heard_asked = t.heard_asked;
  lost = t.lost;
  said = t.said;
  tried = t.tried;
  renewed = t.renewed;
  refreshes = t.refreshes;
  passed = t.passed;
  one_cached = t.one_cached;
  looked = record { looked = p.looked ∙ t.looked.looked; cover = t.looked.cover };
  looked_entries = entries_put g sl.heard n.cache to sl.looks p.entries t.looked_entries;
  gained = gained_put g sl.heard b.cache n.cache to p.entries t.gained;
  offered = record {
    puts = t.offered.puts + 1;
    offers = grew_by_more b.cache.offers n.cache.offers to.offers t.offered.puts p.offers t.offered.offers;
    cover = let c = t.offered.cover in omega (arith, c, d);
    faults = let f = t.offered.faults in let h = p.faults in omega (arith, f, h);
  };
  polled = t.polled;
  limited = t.limited;
  taken = t.taken;
  recorded = t.recorded;
}
