-- Each call of a session keeps that all its records stand.
use Rattle.std.proofs.Common.{◌≡◌, ℕ, ◌<◌, ◌⊎◌, inl, inr, Bool, true, false, List, [], ◌++◌, length, map, refl, sym, ◌∙◌, ap, subst}
use Rattle.std.specs.Prelude.{All, Option, Result, Ok, Err, unwrap_or}
use Rattle.std.proofs.lemmas.List.{append-nil}
use Rattle.std.proofs.lemmas.List.Elements.{All-nil, All-weaker}
use Rattle.xet_base.specs.declared.mdb_shard.Xorb.{Xorb}
use Rattle.xet_base.specs.Store.{IsValidXorb, Store}
use Rattle.xet_uploader.specs.declared.uploader.Put.{Put}
use Rattle.xet_uploader.specs.declared.uploader.Put.TheVariants as put
use Rattle.xet_uploader.specs.StoresAfter.{files_in}
use Rattle.xet_shard_interface.specs.Interfaces.{InterfaceTold, records_of}
use Rattle.xet_shard_interface.specs.Puts.{puts_of}
use Rattle.xet_upload.specs.Standing.{world}
use Rattle.xet_upload.specs.Waitings.{xorb_of_chunks}
use Rattle.xet_upload.specs.declared.data_error.DataError.{DataError}
use Rattle.xet_upload_session.specs.Calls.{Keeps, RegisterStopped, Registers, WasPut}
use Rattle.xet_upload_session.specs.Sessions.{SessionTold, Tells, log_of}
use Rattle.xet_clean_parts.specs.Made.{IsMadeOf}
use Rattle.xet_clean_parts.specs.Premises.{IsOpen, waiting_xorb}
use Rattle.xet_clean_parts.proofs.CallerLemmas.{opened, turn-made}
use Rattle.xet_upload_laws.specs.AllStand.{AllStand, HoldsRecords}
use Rattle.xet_upload_laws.specs.Laws.{AskStands, CountsStand, CutStands, FeedStands, FileStands, LearningStands, NewStands, RegisterStands, SearchStands}
use Rattle.xet_upload_laws.specs.RecordsStand.{AreRecords, IsRecord, IsWaiting}
use Rattle.xet_upload_laws.specs.StoreAfter.{HasStore}
use Rattle.xet_upload_laws.proofs.Cuts.{GrewByOne, cut-any-held, cut-log, held-grown, logged-one, storable-valid, stored-one}
use Rattle.xet_upload_laws.proofs.Records.{logged-xorbs}
use Rattle.xet_upload_laws.proofs.Stores.{store-xorbs}
use Rattle.xet_upload_laws.proofs.Takes.{take-grew, take-held}

pub new-stands : NewStands
new-stands k u i queries t stored logged recorded = record {
  stored = stored;
  logged = logged;
  held = λ o. record {
    waiting = All-nil (IsWaiting (world k (puts_of u)) []);
    finished = All-nil (IsRecord (world k (puts_of u)));
    recorded = recorded;
  };
}

-- ---- a log that grew, and what is held as before

module _ (k : Store) (b n : SessionTold) (keeps : Keeps b n) (tells : Tells b) (waiting : n.waiting ≡ b.waiting)
    (finished : n.finished ≡ b.finished) (a : AllStand k b) where
  held-left : IsOpen n → HoldsRecords k n
  held-left o =
      let g = keeps.grew tells in
      held-grown k b n (map put.Xorb g.xorbs) g.grown waiting finished keeps.files (a.held (opened b n keeps o))

  -- by one xorb
  one-stands : (x : Xorb) → IsValidXorb x → GrewByOne b n x → AllStand k n
  one-stands x valid grew = record {
    stored = stored-one k b n x valid grew a.stored;
    logged = logged-one k b n x grew a.logged;
    held = held-left;
  }

  -- by xorbs
  pub xorbs-stand : (xs : List Xorb) → log_of n ≡ log_of b ++ map put.Xorb xs → All IsValidXorb xs → AllStand k n
  xorbs-stand xs grown valid = record {
    stored = subst (λ (log : List Put). HasStore k log) (sym grown) (store-xorbs k (log_of b) xs a.stored valid);
    logged = logged-xorbs k (log_of b) (log_of n) xs grown a.logged;
    held = held-left;
  }

-- ---- the session's own calls

register-grew : (b n : SessionTold) (x : Xorb) (now : ℕ) (answer : Result Bool DataError) → Tells b
    → Registers b n x now answer → GrewByOne b n x
register-grew b n x now (Err e) tells q = go q.err
  where
    go : RegisterStopped b n x now e → GrewByOne b n x
    go (inl s) = inl (ap log_of s)
    go (inr (inl r)) = inl r.log
    go (inr (inr p)) = inr (p.log tells)
register-grew b n x now (Ok false) tells q = inl (ap log_of (q.again refl).1)
register-grew b n x now (Ok true) tells q = go (q.new refl).put
  where
    go : ((x.chunks ≡ []) × (n ≡ b)) ⊎ ((0 < length x.chunks) × WasPut b n x [] now (Ok tt)) → GrewByOne b n x
    go (inl s) = inl (ap log_of s.1)
    go (inr p) = inr (p.1.log tells)

pub register-stands : RegisterStands
register-stands k b n x now answer q s valid a =
    one-stands k b n q.keeps s.tells (ap (λ (t : SessionTold). t.waiting) q.same)
    (ap (λ (t : SessionTold). t.finished) q.same) a x valid (register-grew b n x now answer s.tells q)

pub search-stands : SearchStands
search-stands k b n hashes answer q s a =
    xorbs-stand k b n q.keeps s.tells (ap (λ (t : SessionTold). t.waiting) q.same)
    (ap (λ (t : SessionTold). t.finished) q.same) a [] (ap log_of q.same ∙ sym (append-nil (log_of b)))
    (All-nil IsValidXorb)

pub counts-stand : CountsStand
counts-stand k b n counts e a = subst (λ (t : SessionTold). AllStand k t) (sym e) (record {
  stored = a.stored;
  logged = a.logged;
  held = λ o. let h = a.held (record { unfailed = o.unfailed; unfinished = o.unfinished }) in record {
    waiting = h.waiting;
    finished = h.finished;
    recorded = h.recorded;
  };
})

pub learning-stands : LearningStands
learning-stands k b n hashes answer l a = record {
  stored = subst (λ (log : List Put). HasStore k log) (sym log) a.stored;
  logged = subst (λ (log : List Put). AreRecords (world k log) (files_in log)) (sym log) a.logged;
  held = λ o. held-grown k b n [] (log ∙ sym (append-nil (log_of b))) (ap (λ (t : SessionTold). t.waiting) l.same)
      (ap (λ (t : SessionTold). t.finished) l.same)
      (ap (λ (i : InterfaceTold). (records_of i.session).files) l.stores) (a.held (was o));
}
  where
    log : log_of n ≡ log_of b
    log = ap (λ (o : Option (List Put)). unwrap_or o []) l.puts

    was : IsOpen n → IsOpen b
    was o = record {
      unfailed = sym (ap (λ (t : SessionTold). t.failed) l.same) ∙ o.unfailed;
      unfinished = sym (ap (λ (t : SessionTold). t.finalized) l.same) ∙ o.unfinished;
    }

pub ask-stands : AskStands
ask-stands k b n chunk answer q a = record {
  stored = subst (λ (log : List Put). HasStore k log) (sym log) a.stored;
  logged = subst (λ (log : List Put). AreRecords (world k log) (files_in log)) (sym log) a.logged;
  held = λ o. held-grown k b n [] (log ∙ sym (append-nil (log_of b))) (ap (λ (t : SessionTold). t.waiting) q.same)
      (ap (λ (t : SessionTold). t.finished) q.same)
      (ap (λ (i : InterfaceTold). (records_of i.session).files) q.asks.same) (a.held (was o));
}
  where
    log : log_of n ≡ log_of b
    log = ap (λ (o : Option (List Put)). unwrap_or o []) q.asks.puts

    was : IsOpen n → IsOpen b
    was o = record {
      unfailed = sym (ap (λ (t : SessionTold). t.failed) q.same) ∙ o.unfailed;
      unfinished = sym (ap (λ (t : SessionTold). t.finalized) q.same) ∙ o.unfinished;
    }

pub cut-stands : CutStands
cut-stands k b n now answer c s clash a =
    let grew = cut-log b n now answer s.tells c in
    record {
      stored = stored-one k b n (waiting_xorb b) (storable-valid b.waiting.chunks c.storable) grew a.stored;
      logged = logged-one k b n (waiting_xorb b) grew a.logged;
      held = λ o. let was = opened b n c.keeps o in cut-any-held k b n now s.tells c.keeps clash.xorbs (a.held was) s.sound
          (s.backed was.unfailed was.unfinished) (s.listed.all was.unfailed was.unfinished).put answer o.unfailed c;
    }

pub file-stands : FileStands
file-stands k b n w now answer t s clash taken a =
    let g = take-grew b n w now s.tells answer t in
    let x = xorb_of_chunks g.chunks in
    record {
      stored = stored-one k b n x (storable-valid g.chunks g.storable) g.grew a.stored;
      logged = logged-one k b n x g.grew a.logged;
      held = λ o. let was = opened b n t.keeps o in take-held k b n w now s.tells clash.xorbs s.sound
          (s.backed was.unfailed was.unfinished) (s.listed.all was.unfailed was.unfinished).put o.unfailed (a.held was)
          taken answer t;
    }

-- ---- cleaners

-- xorbs that are made of chunks that can be stored are valid
pub made-valid : (chunks : List (List ℕ)) (xs : List Xorb) → All (IsMadeOf chunks) xs → All IsValidXorb xs
made-valid chunks xs a = All-weaker (IsMadeOf chunks) IsValidXorb one xs a
  where
    one : (x : Xorb) → IsMadeOf chunks x → IsValidXorb x
    one x m = subst IsValidXorb (sym m.honest) (storable-valid x.chunks m.storable)

pub feed-stands : FeedStands
feed-stands k b n c d bytes answer f s a =
    let p = turn-made b n c.parts.own.chunks f.puts.cut f.puts.so.left (f.puts.so.puts s.tells) in
    xorbs-stand k b n f.leaves.keeps s.tells f.leaves.waiting f.leaves.finished a p.xorbs p.grown
    (made-valid (c.parts.own.chunks ++ f.puts.cut) p.xorbs p.put_made)
