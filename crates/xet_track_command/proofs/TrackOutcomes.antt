-- What the command `track` prints over an input.
use Rattle.std.proofs.Common.{◌≡◌, ℕ, List, [], ◌∷◌, ◌++◌, false, Err, refl, ap, sym, ◌∙◌, arith, inl, inr}
use Rattle.std.specs.Prelude.{◌⊎◌}
use Rattle.std.proofs.lemmas.List.{append_assoc}
use Rattle.xet_outside.specs.declared.sink.SinkError.{SinkError}
use Rattle.xet_outside.specs.declared.sink.SinkError.TheVariants as sink_error
use Rattle.xet_outside.specs.Told.{SinkTold, Took, TookPrefix}
use Rattle.xet_outside.specs.Written.{WroteAll}
use Rattle.xet_outside.proofs.CallerLemmas.{prefix_after, prefix_front, took_both, whole_prefix}
use Rattle.xet_track.specs.Lines.{lines_of}
use Rattle.xet_track.specs.Texts.{lines_text, track_reads, track_text}
use Rattle.xet_track.specs.Turns.{PrintsLine, ScriptLeft, reads_left, text_left}
use Rattle.xet_room.specs.declared.status.Status.{Status}
use Rattle.xet_room.specs.declared.status.Status.TheVariants.{Done, BadScript, WriteFault, NoMemory}
use Rattle.xet_room.specs.Ends.{Told}
use Rattle.xet_room.specs.Outcome.{Finished, status_of}
use Rattle.xet_room.specs.Texts.{line}
use Rattle.xet_track_command.specs.Track.{FirstLines, IsCutScript, IsCutTrack, OverScript, ScriptFrom, TrackStatus}
use Rattle.xet_room.proofs.CallerLemmas.{IsWhole, finished_more, read_to_end}

-- the lines that were printed of a script, and what is left of it
pub record Printing (script : List ℕ) (run : ScriptLeft) (b n : SinkTold) : Type 0 where
  pub lines : List ℕ
  pub took : Took b.took n.took lines
  pub unfailed : n.faults ≡ b.faults
  pub text : lines ++ text_left run ≡ track_text script
  pub whole : (lines ≡ []) ⊎ ((front : List ℕ) × (lines ≡ front ++ 10 ∷ []))
  pub reads : reads_left run ≡ track_reads script

module _ (script : List ℕ) (run : ScriptLeft) (b m n : SinkTold) (p : Printing script run b m) where
  first : FirstLines script p.lines
  first = record { rest = text_left run; first = p.text; whole = p.whole }

  -- a line more
  pub printing_line : (next : ScriptLeft) (now : List ℕ) → PrintsLine run next [] now → Took m.took n.took now → n.faults ≡ m.faults → Printing script next b n
  printing_line next now t w k = record {
    lines = p.lines ++ now;
    took = took_both b.took m.took n.took p.lines now p.took w;
    unfailed = k ∙ p.unfailed;
    text = append_assoc p.lines now (text_left next) ∙ ap (λ (l : List ℕ). p.lines ++ l) t.text ∙ p.text;
    whole = inr (p.lines ++ t.whole.0, ap (λ (l : List ℕ). p.lines ++ l) t.whole.1 ∙ sym (append_assoc p.lines t.whole.0 (10 ∷ [])));
    reads = t.reads ∙ p.reads;
  }

  -- a line was not written whole
  pub printing_stopped : (next : ScriptLeft) (now : List ℕ) (e : SinkError) → PrintsLine run next [] now → WroteAll m n now (Err e) → ScriptFrom script b n (status_of e)
  printing_stopped next now e t w = by_error e w
    where
      cut : TookPrefix m.took n.took now → IsCutScript script b n
      cut h =
          let c = prefix_front b.took n.took (p.lines ++ now) (text_left next) (prefix_after b.took m.took n.took p.lines now p.took h) in
          let whole : (p.lines ++ now) ++ text_left next ≡ track_text script =
          append_assoc p.lines now (text_left next) ∙ ap (λ (l : List ℕ). p.lines ++ l) t.text ∙ p.text in
          inl (rw whole at c)

      by_error : (e : SinkError) → WroteAll m n now (Err e) → ScriptFrom script b n (status_of e)
      by_error sink_error.OutOfMemory w = cut w.prefix
      by_error sink_error.Failed w = (let l = p.unfailed in let r = w.failed refl in omega arith, cut w.prefix)

  -- the last text of a script
  last : (text : List ℕ) (whole status : Status) → text ≡ text_left run → Finished text whole m n status → (Took b.took n.took (track_text script) → ScriptFrom script b n whole) → ScriptFrom script b n status
  last text whole status e h done =
      let all : p.lines ++ text ≡ track_text script = ap (λ (l : List ℕ). p.lines ++ l) e ∙ p.text in
      by_case (rw all at (finished_more b m n p.lines text whole status p.took (let l = p.unfailed in omega arith) h))
    where
      by_case : Finished (track_text script) whole b n status → ScriptFrom script b n status
      by_case (inl h) = rw h.0 (done h.1)
      by_case (inr (inl h)) = rw h.0 (h.1, inl h.2)
      by_case (inr (inr h)) = rw h.0 (inl h.1)

  -- a line that doesn't read
  pub printing_unread : (next : ScriptLeft) (now : List ℕ) (status : Status) → (now ≡ [] ++ text_left run) × (reads_left run ≡ false) × (next.rest ≡ []) → Finished now BadScript m n status → ScriptFrom script b n status
  printing_unread next now status t h = last now BadScript status t.0 h (λ w. (sym p.reads ∙ t.1, w))

  -- no line left
  pub printing_end : (status : Status) → run.rest ≡ [] → Finished [] Done m n status → ScriptFrom script b n status
  printing_end status e h =
      last [] Done status (sym (ap (λ (l : List ℕ). lines_text run.calls (lines_of l)) e)) h
      (λ w. (sym p.reads ∙ ap (λ (l : List ℕ). reads_left (record { calls = run.calls; rest = l })) e, w))

  -- want of memory
  pub printing_memory : (status : Status) → Finished (line NoMemory) NoMemory m n status → ScriptFrom script b n status
  printing_memory status h = by_case (finished_more b m n p.lines (line NoMemory) NoMemory status p.took (let l = p.unfailed in omega arith) h)
    where
      by_case : Finished (p.lines ++ line NoMemory) NoMemory b n status → ScriptFrom script b n status
      by_case (inl h) = rw h.0 (inr (p.lines, first, whole_prefix b.took n.took (p.lines ++ line NoMemory) h.1))
      by_case (inr (inl h)) = rw h.0 (h.1, inr (p.lines, first, h.2))
      by_case (inr (inr h)) = rw h.0 (inr (p.lines, first, h.1))

-- ---- the command over an input

-- a script
pub tracked_from : (limit : ℕ) (b n : Told) (text : List ℕ) (status : Status) → IsWhole limit b.source n.source text → ScriptFrom text b.sink n.sink status → TrackStatus limit b n status
tracked_from limit b n text status w f = by_status status f
  where
    over : OverScript limit text b n
    over = record { read = read_to_end limit b.source n.source text w; script_is = λ t l. (w t l).0 }

    cut : IsCutScript text b.sink n.sink → IsCutTrack limit b n
    cut c = inr (inr (inr (record { script = text; over = over; cut = c })))

    by_status : (status : Status) → ScriptFrom text b.sink n.sink status → TrackStatus limit b n status
    by_status Done f = record { script = text; over = over; from = f }
    by_status BadScript f = record { script = text; over = over; from = f }
    by_status WriteFault f = (f.0, cut f.1)
    by_status NoMemory f = cut f
    by_status _ f = absurd f
