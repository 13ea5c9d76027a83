-- What the texts, and the command `get` over an input, print.
use Rattle.std.proofs.Common.{◌≡◌, ℕ, ◌≤◌, List, [], ◌∷◌, take, length, None, refl, sym, ◌∙◌, inl, inr}
use Rattle.std.proofs.Math.Seq.{take-length}
use Rattle.hex.specs.Hex.{encode_lower}
use Rattle.xet_base.specs.Store.{Store}
use Rattle.xet_outside.specs.declared.sink.SinkError.{SinkError}
use Rattle.xet_outside.specs.declared.sink.SinkError.TheVariants as sink_error
use Rattle.xet_outside.specs.Told.{Rose, SinkTold, Took, TookPrefix}
use Rattle.xet_outside.proofs.CallerLemmas.{prefix_front, whole_prefix}
use Rattle.xet_store.specs.Taps.{TapTold}
use Rattle.xet_error.specs.declared.error.Setting.{Setting}
use Rattle.xet_get_command.specs.declared.digits.Printed.TheVariants.{All, NoFile, Part, Stopped}
use Rattle.xet_get_command.specs.declared.digits.Printed.TheVariants as printed
use Rattle.xet_get_command.specs.declared.wanted.Wanted.{Wanted}
use Rattle.xet_room.specs.declared.status.Status.{Status}
use Rattle.xet_room.specs.declared.status.Status.TheVariants.{Done, BadStore, NotFound, ReadFault, WriteFault, NoMemory, TooLong, BadBlock, BadSettings}
use Rattle.xet_get_command.specs.AnyBytes.{AnyCut, AnyGet, IsOfRun, last_line}
use Rattle.xet_document.specs.Document.{HasStore, NoStore}
use Rattle.xet_get_command.specs.Document.{OfNoDocument}
use Rattle.xet_room.specs.Ends.{IsTooLong, Told, WasReadToEnd}
use Rattle.xet_get_command.specs.Get.{GetOutcome, IsCut, IsCutGet, OverStore, memory_text}
use Rattle.xet_room.specs.Outcome.{Finished, status_of}
use Rattle.xet_room.proofs.CallerLemmas.{IsWhole, finished_more, read_to_end}
use Rattle.xet_get_command.specs.steps.PrintedDigits.{DigitsBehind, DigitsOf}
use Rattle.xet_get_command.specs.steps.Printing.{GetFrom, GotFrom, PrintedWithin, SettingsFrom}
use Rattle.xet_get_command.specs.Taps.{FromTaps, LanesHonest}
use Rattle.xet_room.specs.Texts.{block_line, get_text, line, ok_line}
use Rattle.xet_get_command.specs.Wanted.{unmet_setting, wanted_bytes}
use Rattle.xet_get_command.proofs.PrintedDigits.{encode-nil, from_memory}

-- the digits of some bytes, and then a line, which is a text of the store
lined : (s : Store) (q : Wanted) (b m n : SinkTold) (xs last : List ℕ) (whole status : Status) → Took b.took m.took (encode_lower xs) → b.faults ≤ m.faults → Finished (10 ∷ last) whole m n status → (Took b.took n.took (get_text xs last) → GetFrom s q b n whole) → (TookPrefix b.took n.took (get_text xs last) → IsCutGet s q b n) → GetFrom s q b n status
lined s q b m n xs last whole status t f h done cut =
    by_case (finished_more b m n (encode_lower xs) (10 ∷ last) whole status t f h)
  where
    by_case : Finished (get_text xs last) whole b n status → GetFrom s q b n status
    by_case (inl h) = rw h.0 (done h.1)
    by_case (inr (inl h)) = rw h.0 (h.1, cut h.2)
    by_case (inr (inr h)) = rw h.0 (cut h.1)

-- all digits, and the last line
pub got_all : (s : Store) (q : Wanted) (b m n : SinkTold) (k : ℕ) (status : Status) → unmet_setting q ≡ None → DigitsOf s q b m (All k) → Finished (10 ∷ ok_line k) Done m n status → GetFrom s q b n status
got_all s q b m n k status fit d h =
    let w = wanted_bytes s q in
    let e : k ≡ length w = d.digits.2 in
    lined s q b m n w (ok_line k) Done status d.digits.1 d.faults h
    (λ t. record { found = d.digits.0; took = rw e at t })
    (λ p. inl (fit, d.digits.0, rw e at p))

-- the digits of some first bytes, and want of memory
memory_after : (s : Store) (q : Wanted) (b m n : SinkTold) (k : ℕ) (status : Status) → Took b.took m.took (encode_lower (take k (wanted_bytes s q))) → b.faults ≤ m.faults → Finished (10 ∷ line NoMemory) NoMemory m n status → GetFrom s q b n status
memory_after s q b m n k status t f h =
    lined s q b m n (take k (wanted_bytes s q)) (line NoMemory) NoMemory status t f h
    (λ t. inr (inl (k, whole_prefix b.took n.took (memory_text s q k) t)))
    (λ p. inr (inl (k, p)))

-- all digits, and want of memory
pub got_all_cut : (s : Store) (q : Wanted) (b m n : SinkTold) (k : ℕ) (status : Status) → DigitsOf s q b m (All k) → Finished (10 ∷ line NoMemory) NoMemory m n status → GetFrom s q b n status
got_all_cut s q b m n k status d h =
    let w = wanted_bytes s q in
    memory_after s q b m n (length w) status (rw (take-length w) d.digits.1) d.faults h

-- some digits, and want of memory
pub got_part : (s : Store) (q : Wanted) (b m n : SinkTold) (status : Status) → DigitsOf s q b m Part → Finished (10 ∷ line NoMemory) NoMemory m n status → GetFrom s q b n status
got_part s q b m n status d h = memory_after s q b m n d.digits.count status d.digits.took d.faults h

-- no file
pub got_no_file : (s : Store) (q : Wanted) (b m n : SinkTold) (status : Status) → unmet_setting q ≡ None → DigitsOf s q b m NoFile → Finished (10 ∷ line NotFound) NotFound m n status → GetFrom s q b n status
got_no_file s q b m n status fit d h =
    lined s q b m n [] (line NotFound) NotFound status (rw encode-nil d.digits.1) d.faults h
    (λ t. record { missing = d.digits.0; took = t })
    (λ p. inr (inr (inl (fit, d.digits.0, p))))

-- a write of digits failed
pub got_stopped : (s : Store) (q : Wanted) (b n : SinkTold) (e : SinkError) → DigitsOf s q b n (Stopped e) → GetFrom s q b n (status_of e)
got_stopped s q b n e d =
    let w = wanted_bytes s q in
    by_error e d.digits.0 (inr (inl (length w, rw (take-length w) (prefix_front b.took n.took (encode_lower w) (10 ∷ line NoMemory) d.digits.1))))
  where
    by_error : (e : SinkError) → (e ≡ sink_error.Failed → Rose b.faults n.faults) → IsCutGet s q b n → GetFrom s q b n (status_of e)
    by_error sink_error.OutOfMemory rose cut = cut
    by_error sink_error.Failed rose cut = (rose refl, cut)

-- ---- over one tap

-- the digits of some bytes of which this holds, and then the last line
lined_any : (P : Status → List ℕ → Type 0) (b m n : SinkTold) (p : List ℕ) (whole status : Status) → IsOfRun whole → P whole p → Took b.took m.took (encode_lower p) → b.faults ≤ m.faults → Finished (10 ∷ last_line whole p) whole m n status → (Took b.took n.took (get_text p (last_line whole p)) → AnyGet P b n whole) → AnyGet P b n status
lined_any P b m n p whole status of_run from t f h done =
    by_case (finished_more b m n (encode_lower p) (10 ∷ last_line whole p) whole status t f h)
  where
    by_case : Finished (get_text p (last_line whole p)) whole b n status → AnyGet P b n status
    by_case (inl h) = rw h.0 (done h.1)
    by_case (inr (inl h)) = rw h.0 (h.1, record { status = whole; of_run = of_run; some = record { bytes = p; from = from }; took = h.2 })
    by_case (inr (inr h)) = rw h.0 (record { status = whole; of_run = of_run; some = record { bytes = p; from = from }; took = h.1 })

-- and then the line for want of memory
lined_memory : (P : Status → List ℕ → Type 0) (b m n : SinkTold) (p : List ℕ) (status : Status) → P NoMemory p → Took b.took m.took (encode_lower p) → b.faults ≤ m.faults → Finished (10 ∷ line NoMemory) NoMemory m n status → AnyGet P b n status
lined_memory P b m n p status from t f h =
    lined_any P b m n p NoMemory status tt from t f h
    (λ w. record { status = NoMemory; of_run = tt; some = record { bytes = p; from = from }; took = whole_prefix b.took n.took (get_text p (line NoMemory)) w })

-- another status than 0
not_done : (b n : SinkTold) (xs : List ℕ) (whole status : Status) → (whole ≡ Done → ⊥) → Finished xs whole b n status → status ≡ Done → ⊥
not_done b n xs whole status other (inl h) e = other (sym h.0 ∙ e)
not_done b n xs whole status other (inr (inl h)) e = wrong (sym h.0 ∙ e)
  where
    wrong : WriteFault ≡ Done → ⊥
    wrong e = cc
not_done b n xs whole status other (inr (inr h)) e = wrong (sym h.0 ∙ e)
  where
    wrong : NoMemory ≡ Done → ⊥
    wrong e = cc

no_memory : NoMemory ≡ Done → ⊥
no_memory e = cc

-- the settings, after a last line
fits : (q : Wanted) (b m n : SinkTold) (xs : List ℕ) (whole status : Status) → Finished xs whole m n status → (Took m.took n.took xs → SettingsFrom q b n whole) → SettingsFrom q b n status
fits q b m n xs whole status (inl h) done = rw h.0 (done h.1)
fits q b m n xs whole status (inr (inl h)) done = rw h.0 tt
fits q b m n xs whole status (inr (inr h)) done = rw h.0 tt

module _ (s : Store) (q : Wanted) (ts us : List TapTold) where
  abbrev P : Status → List ℕ → Type 0
  P = FromTaps s q ts us

  -- all digits, and the last line
  pub tap_all : (b m n : SinkTold) (k : ℕ) (status : Status) → DigitsBehind s q ts us b m (All k) → Finished (10 ∷ ok_line k) Done m n status → GotFrom s q ts us b n status
  tap_all b m n k status d h =
      let e : k ≡ length d.any.bytes = d.any.count in
      record {
        honest = λ honest. got_all s q b m n k status d.settings (d.digits honest) h;
        settings = fits q b m n _ Done status h (λ _. d.settings);
        any = lined_any P b m n d.any.bytes Done status tt d.any.from d.any.took d.faults (rw e at h)
            (λ w. (record { bytes = d.any.bytes; from = d.any.from }, w));
        chunks = λ honest _. d.chunks honest;
        go_on = d.go_on;
      }

  -- all digits, and want of memory
  pub tap_all_cut : (b m n : SinkTold) (k : ℕ) (status : Status) → DigitsBehind s q ts us b m (All k) → Finished (10 ∷ line NoMemory) NoMemory m n status → GotFrom s q ts us b n status
  tap_all_cut b m n k status d h = record {
    honest = λ honest. got_all_cut s q b m n k status (d.digits honest) h;
    settings = fits q b m n _ NoMemory status h (λ _. tt);
    any = lined_memory P b m n d.any.bytes status (from_memory s q ts us Done d.any.bytes d.any.from) d.any.took d.faults h;
    chunks = λ honest e. absurd (not_done m n (10 ∷ line NoMemory) NoMemory status no_memory h e);
    go_on = d.go_on;
  }

  -- some digits, and want of memory
  pub tap_part : (b m n : SinkTold) (status : Status) → DigitsBehind s q ts us b m Part → Finished (10 ∷ line NoMemory) NoMemory m n status → GotFrom s q ts us b n status
  tap_part b m n status d h = record {
    honest = λ honest. got_part s q b m n status (d.digits honest) h;
    settings = fits q b m n _ NoMemory status h (λ _. tt);
    any = lined_memory P b m n d.any.bytes status d.any.from d.any.took d.faults h;
    chunks = λ honest e. absurd (not_done m n (10 ∷ line NoMemory) NoMemory status no_memory h e);
    go_on = d.go_on;
  }

  -- no file
  pub tap_no_file : (b m n : SinkTold) (status : Status) → DigitsBehind s q ts us b m NoFile → Finished (10 ∷ line NotFound) NotFound m n status → GotFrom s q ts us b n status
  tap_no_file b m n status d h = record {
    honest = λ honest. got_no_file s q b m n status d.settings (d.digits honest) h;
    settings = fits q b m n _ NotFound status h (λ _. d.settings);
    any = lined_any P b m n d.any.bytes NotFound status tt d.any.from d.any.took d.faults h
        (λ w. (record { bytes = d.any.bytes; from = d.any.from }, w));
    chunks = λ honest e. absurd (not_done m n (10 ∷ line NotFound) NotFound status wrong h e);
    go_on = d.go_on;
  }
    where
      wrong : NotFound ≡ Done → ⊥
      wrong e = cc

  -- a block failed a test
  pub tap_bad : (b m n : SinkTold) (k : ℕ) (status : Status) → DigitsBehind s q ts us b m (printed.BadBlock k) → Finished (10 ∷ block_line k) (BadBlock k) m n status → GotFrom s q ts us b n status
  tap_bad b m n k status d h = record {
    honest = λ honest. absurd ((d.digits honest).digits);
    settings = fits q b m n _ (BadBlock k) status h (λ _. d.settings);
    any = lined_any P b m n d.any.bytes (BadBlock k) status tt d.any.from d.any.took d.faults h
        (λ w. (record { bytes = d.any.bytes; from = d.any.from }, w));
    chunks = λ honest e. absurd (not_done m n (10 ∷ block_line k) (BadBlock k) status wrong h e);
    go_on = d.go_on;
  }
    where
      wrong : BadBlock k ≡ Done → ⊥
      wrong e = cc

  -- a block failed a test, and want of memory
  pub tap_bad_cut : (b m n : SinkTold) (k : ℕ) (status : Status) → DigitsBehind s q ts us b m (printed.BadBlock k) → Finished (10 ∷ line NoMemory) NoMemory m n status → GotFrom s q ts us b n status
  tap_bad_cut b m n k status d h = record {
    honest = λ honest. absurd ((d.digits honest).digits);
    settings = fits q b m n _ NoMemory status h (λ _. tt);
    any = lined_memory P b m n d.any.bytes status (from_memory s q ts us (BadBlock k) d.any.bytes d.any.from) d.any.took d.faults h;
    chunks = λ honest e. absurd (not_done m n (10 ∷ line NoMemory) NoMemory status no_memory h e);
    go_on = d.go_on;
  }

  -- a setting fails
  pub tap_settings : (b m n : SinkTold) (e : Setting) (status : Status) → DigitsBehind s q ts us b m (printed.BadSettings e) → Finished (10 ∷ line (BadSettings e)) (BadSettings e) m n status → GotFrom s q ts us b n status
  tap_settings b m n e status d h =
      let all = finished_more b m n [] (10 ∷ line (BadSettings e)) (BadSettings e) status d.nothing d.faults h in
      record {
        honest = λ honest. by_case all;
        settings = fits q b b n _ (BadSettings e) status all (λ t. (d.settings, rw encode-nil t));
        any = lined_any P b m n d.any.bytes (BadSettings e) status tt d.any.from d.any.took d.faults h
            (λ w. (record { bytes = d.any.bytes; from = d.any.from }, w));
        chunks = λ honest w. absurd (not_done m n (10 ∷ line (BadSettings e)) (BadSettings e) status wrong h w);
        go_on = d.go_on;
      }
    where
      wrong : BadSettings e ≡ Done → ⊥
      wrong w = cc

      cut : TookPrefix b.took n.took (10 ∷ line (BadSettings e)) → IsCutGet s q b n
      cut p = inr (inr (inr (e, d.settings, rw encode-nil p)))

      by_case : Finished (10 ∷ line (BadSettings e)) (BadSettings e) b n status → GetFrom s q b n status
      by_case (inl h) = rw h.0 tt
      by_case (inr (inl h)) = rw h.0 (h.1, cut h.2)
      by_case (inr (inr h)) = rw h.0 (cut h.1)

  -- a write of digits failed
  pub tap_stopped : (b n : SinkTold) (e : SinkError) → DigitsBehind s q ts us b n (Stopped e) → GotFrom s q ts us b n (status_of e)
  tap_stopped b n e d = record {
    honest = λ honest. got_stopped s q b n e (d.digits honest);
    settings = fit e;
    any = by_error e d.stops;
    chunks = λ honest w. absurd (wrong e w);
    go_on = d.go_on;
  }
    where
      fit : (e : SinkError) → SettingsFrom q b n (status_of e)
      fit sink_error.OutOfMemory = tt
      fit sink_error.Failed = tt

      cut : AnyCut P b n
      cut = record {
        status = NoMemory;
        of_run = tt;
        some = record { bytes = d.any.bytes; from = d.any.from };
        took = prefix_front b.took n.took (encode_lower d.any.bytes) (10 ∷ line NoMemory) d.any.took;
      }

      by_error : (e : SinkError) → (e ≡ sink_error.Failed → Rose b.faults n.faults) → AnyGet P b n (status_of e)
      by_error sink_error.OutOfMemory rose = cut
      by_error sink_error.Failed rose = (rose refl, cut)

      wrong : (e : SinkError) → status_of e ≡ Done → ⊥
      wrong sink_error.OutOfMemory w = cc
      wrong sink_error.Failed w = cc

-- ---- the command over an input

-- a line alone
said : (limit : ℕ) (q : Wanted) (b n : Told) (whole status : Status) → Finished (line whole) whole b.sink n.sink status → (Took b.sink.took n.sink.took (line whole) → GetOutcome limit q b n whole) → (TookPrefix b.sink.took n.sink.took (line whole) → IsCut limit q b n) → GetOutcome limit q b n status
said limit q b n whole status (inl h) done cut = rw h.0 (done h.1)
said limit q b n whole status (inr (inl h)) done cut = rw h.0 (h.1, cut h.2)
said limit q b n whole status (inr (inr h)) done cut = rw h.0 (cut h.1)

-- want of memory before a store was there
pub got_no_memory : (limit : ℕ) (q : Wanted) (b n : Told) (status : Status) → n.taps ≡ b.taps → Finished (line NoMemory) NoMemory b.sink n.sink status → GetOutcome limit q b n status
got_no_memory limit q b n status unasked h =
    said limit q b n NoMemory status h (λ t. inl (record { unasked = unasked; text = inl (whole_prefix b.sink.took n.sink.took (line NoMemory) t) }))
    (λ p. inl (record { unasked = unasked; text = inl p }))

-- the input failed
pub got_read_fault : (limit : ℕ) (q : Wanted) (b n : Told) (status : Status) → Rose b.source.faults n.source.faults → n.taps ≡ b.taps → Finished (line ReadFault) ReadFault b.sink n.sink status → GetOutcome limit q b n status
got_read_fault limit q b n status rose unasked h =
    said limit q b n ReadFault status h (λ t. record { rose = rose; unasked = unasked; took = t })
    (λ p. inl (record { unasked = unasked; text = inr (inl (rose, p)) }))

-- the input is longer than the limit
pub got_too_long : (limit : ℕ) (q : Wanted) (b n : Told) (status : Status) → IsTooLong limit b.source → n.taps ≡ b.taps → Finished (line TooLong) TooLong b.sink n.sink status → GetOutcome limit q b n status
got_too_long limit q b n status long unasked h =
    said limit q b n TooLong status h (λ t. record { too_long = long; unasked = unasked; took = t })
    (λ p. inl (record { unasked = unasked; text = inr (inr (inl (long, p))) }))

-- a text that is a document of no store
pub got_no_store : (limit : ℕ) (q : Wanted) (b n : Told) (text : List ℕ) (status : Status) → IsWhole limit b.source n.source text → NoStore text → n.taps ≡ b.taps → Finished (line BadStore) BadStore b.sink n.sink status → GetOutcome limit q b n status
got_no_store limit q b n text status w none unasked h =
    let read = read_to_end limit b.source n.source text w in
    said limit q b n BadStore status h (λ t. record { read = read; no_document = here; unasked = unasked; took = t })
    (λ p. inl (record { unasked = unasked; text = inr (inr (inr (read, here, p))) }))
  where
    here : OfNoDocument b.source
    here t l = rw (w t l).0 at none

-- a text that is a document of a store
pub got_from : (limit : ℕ) (q : Wanted) (b n : Told) (text : List ℕ) (s : Store) (status : Status) → IsWhole limit b.source n.source text → HasStore text s → PrintedWithin s q b.taps n.taps b.sink n.sink status → GetOutcome limit q b n status
got_from limit q b n text s status w d (inr h) = got_no_memory limit q b n status h.0 h.1
got_from limit q b n text s status w d (inl g) = by_status status g
  where
    read : WasReadToEnd limit b.source n.source
    read = read_to_end limit b.source n.source text w

    over : OverStore limit s q b n
    over = record { read = read; document = λ t l. rw (w t l).0 at d; go_on = g.go_on }

    cut : (LanesHonest q b.taps → IsCutGet s q b.sink n.sink) → AnyCut (FromTaps s q b.taps n.taps) b.sink n.sink → IsCut limit q b n
    cut honest any = inr (record { store = s; over = over; honest = honest; any = any })

    by_status : (status : Status) → GotFrom s q b.taps n.taps b.sink n.sink status → GetOutcome limit q b n status
    by_status Done g = record {
      store = s;
      over = over;
      settings = g.settings;
      honest = λ all. record { printed = g.honest all; passed = g.chunks all refl };
      any = g.any;
    }
    by_status NotFound g = record { store = s; over = over; settings = g.settings; honest = g.honest; any = g.any }
    by_status WriteFault g = (g.any.0, cut (λ all. (g.honest all).1) g.any.1)
    by_status NoMemory g = cut g.honest g.any
    by_status (BadBlock k) g = record { store = s; over = over; settings = g.settings; dishonest = g.honest; any = g.any }
    by_status (BadSettings e) g = record {
      store = s;
      over = over;
      failing = g.settings.0;
      unasked = g.go_on.unasked e g.settings.0;
      took = g.settings.1;
      any = g.any;
    }
    by_status _ g = absurd g.any
