-- A stream's leader after a block was found in the cache, and after one was fetched.
use Rattle.std.proofs.Common.{◌≡◌, ℕ, ◌+◌, false, List, [], ◌∷◌, ◌++◌, length, take, refl, sym, subst, ◌∙◌, ap, arith, Some, None, inl, inr, length-append}
use Rattle.std.specs.Prelude.{filter, map, slice_get}
use Rattle.std.proofs.lemmas.List.{append-nil}
use Rattle.xet_base.specs.declared.cas_types.FileRange.{FileRange}
use Rattle.xet_base.specs.Store.{Store}
use Rattle.xet_outside.specs.Answers.{bytes_in, plans_in}
use Rattle.xet_outside.specs.declared.block.BlockBytes.{BlockBytes}
use Rattle.xet_outside.specs.declared.said.Said.TheVariants as said
use Rattle.xet_outside.specs.declared.served.Served.{Served}
use Rattle.xet_outside.proofs.CallerLemmas.{bytes_both, plans_both}
use Rattle.xet_offers.specs.BlockCalls.{failed_check}
use Rattle.xet_offers.specs.BlockChecks.{block_data}
use Rattle.xet_offers.specs.declared.reconstruction_terms.xorb_block.XorbBlock.{XorbBlock}
use Rattle.xet_offers.specs.declared.reconstruction_terms.xorb_block.XorbBlockData.{XorbBlockData}
use Rattle.xet_events.specs.declared.event.Event.{Event}
use Rattle.xet_events.specs.declared.event.Event.TheVariants.{Cached, Fetched}
use Rattle.xet_events.specs.Events.{Task, is_kept}
use Rattle.xet_ties.specs.History.{entry_of, fetches}
use Rattle.xet_ties.specs.InCall.{EachGrew, Exchange, ExchangeGrew, Look}
use Rattle.xet_ties.specs.Saids.{IsLookedData, IsServedData, has_bytes, planned_of}
use Rattle.xet_ties.specs.Setup.{CacheTells, IsOver, RunTold, Setup}
use Rattle.xet_ties.specs.Ties.{Slack}
use Rattle.xet_ties.proofs.CallerLemmas.{count-same, none_fetched}
use Rattle.xet_leader.specs.declared.leader.LedPlan.{LedPlan}
use Rattle.xet_leader.specs.KeptBlocks.{kept_in_plans}
use Rattle.xet_leader.specs.Led.{Led, bare, true_data}
use Rattle.xet_leader.proofs.CallerLemmas.{IsKeeping, IsKeptData, TellsMore, cached_keeps, fetched_keeps, led_kept, tells_more_heard, tells_more_looks}
use Rattle.xet_stream_rules.specs.Streams.{Carries}
use Rattle.xet_stream_rules.proofs.CallerLemmas.{last_at}
use Rattle.xet_stream_rules.proofs.CallerLemmas.{IsStill, still_delivered, still_planned, still_queries}

-- a block keeps this data from now on, by what is told then
module _ (b : RunTold) (g : Setup) (es : List Event) (l : Led) (c : Carries b g es l) (i k : ℕ) (p : LedPlan)
    (x : XorbBlock) (d : XorbBlockData) (at : slice_get l.plans i ≡ Some p)
    (is : slice_get p.block.blocks k ≡ Some x) where
  keeps : (e : Event) (to : Slack) (log : Exchange) → IsStill e → IsKeeping p.number k e → TellsMore c.slack to
      → to.heard ≡ log ∷ [] → log.asked ≡ c.log.asked → plans_in log.said ≡ plans_in c.log.said
      → length log.served ≡ length (bytes_in log.said) → IsKeptData b es e to p.number k x d
      → Carries b g (es ++ e ∷ []) (record l { plans = kept_in_plans l.plans i p k x d })
  keeps e to log s n more heard asks plans pairs h =
      let qs = still_queries es e s in
      let answers = ap length plans in
      let asked = ap length asks in
      let had = c.answered in
      record {
        slack = to;
        log = log;
        heard = heard;
        asked = asks ∙ c.asked ∙ sym (ap (λ (xs : List FileRange). map (λ q. (g.file, q)) xs) qs);
        answered = omega (arith, asked, answers, had);
        paired = pairs;
        led = led_kept g b es e c.slack to [] l i k p x d n more at is h c.led;
        whole = ap (λ (ts : List Task). length (filter has_bytes (take l.finished ts))) (still_planned es e s)
            ∙ c.whole ∙ sym (still_delivered es e s);
      }

  -- a look gave it
  pub carries_cached : (new : List Look) → IsLookedData (c.slack.looks ++ new) (bare x) d
      → ((s : Store) → IsOver s b.clients → CacheTells s b.cache → d ≡ true_data s x)
      → is_kept es p.number k ≡ false
      → Carries b g (es ++ Cached p.number k ∷ []) (record l { plans = kept_in_plans l.plans i p k x d })
  carries_cached new looked honest absent =
      let to : Slack = record c.slack { looks = c.slack.looks ++ new } in
      let same = count-same (fetches p.number k) es (Cached p.number k) refl in
      let none = none_fetched p.number k es absent in
      keeps (Cached p.number k) to c.log (record { tasks = refl; query = refl; wrote = refl })
      (cached_keeps p.number k) (tells_more_looks c.slack to new refl refl) c.heard refl refl c.paired
      (record {
        data_is = record {
          tested = inr looked;
          sound = λ s o. inl looked;
          honest = honest;
        };
        fetched = λ f. absurd (omega (arith, f, same, none));
      })

  -- a connection answered the block's own request with bytes that pass its tests
  pub carries_fetched : (lane : ℕ) (given : BlockBytes) → failed_check (bare x) given ≡ None
      → d ≡ block_data (bare x).chunk_ranges given
      → ((s : Store) → IsOver s b.clients → d ≡ true_data s x)
      → Carries b g (es ++ Fetched lane p.number k ∷ []) (record l { plans = kept_in_plans l.plans i p k x d })
  carries_fetched lane given passes made honest =
      let entry : Served = entry_of p.number k (planned_of (bare x)) in
      let log : Exchange = record {
        asked = c.log.asked;
        served = c.log.served ++ entry ∷ [];
        said = c.log.said ++ said.Block given ∷ [];
      } in
      let to : Slack = record c.slack { heard = log ∷ [] } in
      let more : ExchangeGrew c.log log = record {
        asked = [];
        served = entry ∷ [];
        said = said.Block given ∷ [];
        is_asked = sym (append-nil c.log.asked);
        is_served = refl;
        is_said = refl;
      } in
      let grew : EachGrew c.slack.heard (log ∷ []) =
      subst (λ (xs : List Exchange). EachGrew xs (log ∷ [])) (sym c.heard) (more, tt) in
      let bytes : bytes_in log.said ≡ bytes_in c.log.said ++ given ∷ [] =
      bytes_both c.log.said (said.Block given ∷ []) in
      let counted = ap length bytes in
      let one = length-append (bytes_in c.log.said) (given ∷ []) in
      let served = length-append c.log.served (entry ∷ []) in
      let pairs = c.paired in
      let answer : IsServedData log p.number k (bare x) d = record {
        given = given;
        answer = record {
          place = length c.log.served;
          entry = last_at c.log.served entry;
          bytes = subst (λ (l : List BlockBytes). slice_get l (length c.log.served) ≡ Some given) (sym bytes)
              (subst (λ (n : ℕ). slice_get (bytes_in c.log.said ++ given ∷ []) n ≡ Some given) (sym c.paired)
              (last_at (bytes_in c.log.said) given));
        };
        passes = passes;
        made = made;
      } in
      keeps (Fetched lane p.number k) to log (record { tasks = refl; query = refl; wrote = refl })
      (fetched_keeps lane p.number k) (tells_more_heard c.slack to grew refl) refl refl
      (plans_both c.log.said (said.Block given ∷ []) ∙ append-nil (plans_in c.log.said))
      (omega (arith, counted, one, served, pairs))
      (record {
        data_is = record {
          tested = inl (inl answer);
          sound = λ s o. inr (honest s o);
          honest = λ s o t. honest s o;
        };
        fetched = λ f. inl answer;
      })
