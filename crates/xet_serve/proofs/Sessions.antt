-- How a session ends.
use Rattle.std.proofs.Common.{◌≡◌, ◌⊎◌, ℕ, ◌+◌, ◌<◌, ◌≤◌, Bool, true, false, cond, List, [], ◌∷◌, ◌++◌, length, None, Some, Ok, Err, refl, sym, subst, ◌∙◌, ap, arith, inl, inr, map, ⊎_elim}
use Rattle.std.proofs.Common.{append_assoc, length-append}
use Rattle.std.specs.Prelude.{All, IfSome, Option, Result, codes, option_map}
use Rattle.std.specs.List.{list_any}
use Rattle.std.proofs.lemmas.Bool.{or_left, or_right}
use Rattle.std.proofs.lemmas.List.{append-nil, length-map}
use Rattle.std.proofs.lemmas.List.Elements.{All-append, All-cons, All-nil}
use Rattle.std.proofs.lemmas.List.Folds.{list_any-append}
use Rattle.std.proofs.lemmas.Option.{none-some, same_Some}
use Rattle.std.proofs.lemmas.Slice.Eq.{bytes_eq-Decides}
use Rattle.xet_base.specs.Store.{Store}
use Rattle.xet_outside.specs.Told.{ClientTold, SourceTold, TookPrefix}
use Rattle.xet_outside.proofs.CallerLemmas.{prefix_after, prefix_front, took_both, whole_prefix}
use Rattle.xet_error.specs.declared.error.Setting.{Setting}
use Rattle.xet_terms.specs.declared.reconstruction_config.ReconstructionConfig.{ReconstructionConfig}
use Rattle.xet_terms.specs.Settings.{failing_setting_of}
use Rattle.xet_ties.specs.Causes.{refused_setting}
use Rattle.xet_ties.specs.Setup.{CacheTells, IsOver}
use Rattle.xet_serve_lines.specs.Lines.{is_quit, is_too_long, lines_of, session_limit}
use Rattle.xet_serve_lines.specs.Reading.{BeginsLong, Held, TookBytes}
use Rattle.xet_serve_lines.specs.Replies.{word_line}
use Rattle.xet_serve_lines.proofs.CallerLemmas.{lines_last, lines_more}
use Rattle.xet_serve.specs.declared.serve_error.ServeError.{ServeError}
use Rattle.xet_serve.specs.declared.serve_error.ServeError.TheVariants as serve_error
use Rattle.xet_serve.specs.Replies.{served_lines}
use Rattle.xet_serve.specs.Sessions.{Answers, HasLongLine, HasQuit, ServeCause, Served, ServedOver, ServedPart, SessionCall}
use Rattle.xet_serve.specs.Sessions.{SessionTold, answer_text, any_setup, lines_to_serve, over_line}
use Rattle.xet_serve.specs.steps.Fetching.{GoesOn, OverStore}
use Rattle.xet_serve.specs.steps.Turning.{AnsweredLine, AnsweredLines, CutLine, CutOver, EndedInput, FailedTurn, IsAllFlushed}
use Rattle.xet_serve.specs.steps.Turning.{IsNextLine, LineWritten, WroteOver}
use Rattle.xet_serve.specs.steps.Turning.{IsPlain, Standing, TurnCause, lent_in}
use Rattle.xet_serve.proofs.Fails.{fails_both, fails_to, none_fail}
use Rattle.xet_serve.proofs.Goings.{each_same, goes_then, over_on}
use Rattle.xet_serve.proofs.Lines.{LongLine, answers_count, answers_push, joined, joined_ends, served_behind, served_long}
use Rattle.xet_serve.proofs.Lines.{served_next}
use Rattle.xet_serve.proofs.Standings.{lines_push, read_nothing, read_then, short_line, took_nothing}

-- what is left, by what was taken
pub record Rest (all bytes : List ℕ) (left : Option (List ℕ)) : Type 0 where
  pub rest : List ℕ
  pub is : left ≡ Some rest
  pub all_is : all ≡ bytes ++ rest

rest_of : (all bytes : List ℕ) (left : Option (List ℕ)) → Some all ≡ option_map (λ r. bytes ++ r) left → Rest all bytes left
rest_of all bytes None e = absurd (none-some all (sym e))
rest_of all bytes (Some r) e = record { rest = r; is = refl; all_is = same_Some all (bytes ++ r) e }

nothing_left : (o : Option (List ℕ)) (rest : List ℕ) → o ≡ Some rest → IfSome o (λ xs. xs ≡ []) → rest ≡ []
nothing_left None rest e h = absurd (none-some rest e)
nothing_left (Some xs) rest e h = sym (same_Some xs rest e) ∙ h

short_lines : (ls : List (List ℕ)) → All IsPlain ls → All (λ l. is_too_long l ≡ false) ls
short_lines ls h = λ k d i. (h k d i).short

-- what is answered behind a line
abbrev behind : List ℕ → List (List ℕ) → List (List ℕ)
behind line more = cond (is_quit line) [] (served_lines more)

apart_by : (line : List ℕ) (more : List (List ℕ)) (c : Bool)
    → cond c (line ∷ []) (line ∷ served_lines more) ≡ line ∷ cond c [] (served_lines more)
apart_by line more true = refl
apart_by line more false = refl

-- the next line is the first of those that are left
next_is : (b : SessionTold) (h : Held) (rest : List ℕ) → b.source.left ≡ Some rest → (line : List ℕ) → IsNextLine b h line
    → (more : List (List ℕ)) × (lines_of (h.pending ++ rest) ≡ line ∷ more)
next_is b h rest e line next = ⊎_elim
    (λ (c : (more : List ℕ) × (h.pending ≡ line ++ 10 ∷ more)). (
      lines_of (c.0 ++ rest),
      ap (λ (l : List ℕ). lines_of (l ++ rest)) c.1 ∙ ap lines_of (append_assoc line (10 ∷ c.0) rest)
          ∙ lines_more line (c.0 ++ rest) next.0,
    ))
    (λ (c : (h.pending ≡ line) × (0 < length line) × IfSome b.source.left (λ xs. xs ≡ [])).
    let none : rest ≡ [] = nothing_left b.source.left rest e c.2 in (
      [],
      ap (λ (l : List ℕ). lines_of (l ++ rest)) c.0 ∙ ap (λ (l : List ℕ). lines_of (line ++ l)) none
          ∙ ap lines_of (append-nil line) ∙ lines_last line next.0 c.1,
    ))
    next.2

module _ (config : ReconstructionConfig) (b m n : SessionTold) (h i : Held) (count : ℕ)
    (x : Standing config.tries b m h count) (g : GoesOn (lent_in m) (lent_in n))
    (met : refused_setting (any_setup config) b.clients ≡ None) where
  abbrev bytes : List ℕ
  bytes = joined x.lines ++ h.pending

  no_setting : (e : Setting) → refused_setting (any_setup config) b.clients ≡ Some e → ⊥
  no_setting e r = none-some e (sym met ∙ r)

  -- ---- Ok

  -- all lines up to this one were answered, by what is left of all
  answered_all : (line all : List ℕ) → is_too_long line ≡ false
      → lines_to_serve all ≡ x.lines ++ line ∷ []
      → (s : Store) → AnsweredLines s config.tries b n (x.lines ++ line ∷ []) → Served s config.tries b n all (count + 1)
  answered_all line all short is s a = record {
    ks = a.ks;
    text = a.text;
    answers = subst (λ (ls : List (List ℕ)). Answers s ls a.ks a.text) (sym is) a.answers;
    took = a.took;
    counted = (let c = answers_count s (x.lines ++ line ∷ []) a.ks a.text a.answers in
        let d = length-append x.lines (line ∷ []) in let e = x.counted in omega (arith, c, d, e));
    short = subst (All (λ l. is_too_long l ≡ false)) (sym is)
        (All-append (λ l. is_too_long l ≡ false) x.lines (line ∷ []) (short_lines x.lines x.plain)
        (All-cons (λ l. is_too_long l ≡ false) line [] short (All-nil (λ l. is_too_long l ≡ false))));
    few = a.few;
  }

  pub session_quit : AnsweredLine config.tries m n h i → is_quit i.line ≡ true → IsAllFlushed n.sink
      → SessionCall (any_setup config) b n (Ok (count + 1))
  session_quit a quit flushed = record {
    settings = λ e r. absurd (no_setting e r);
    bytes = bytes;
    read = taken;
    within = inl (let c = x.total in let d = x.within in omega (arith, c, d));
    read_out = inr has_quit;
    served = λ s o t all e.
        let r = rest_of all bytes n.source.left (sym e ∙ taken) in
        answered_all i.line all (short_line i.line a.line.short) (serves all r) s
        (lines_push config.tries b m n h i count x i.line g a.done s o t);
    part = λ s o t all e. tt;
    over = λ s o t all e f. absurd (cc);
    cause = tt;
    source_unfailed = inl (ap (λ (v : SourceTold). v.faults) a.source ∙ x.source);
    sink_unfailed = inl (a.sink ∙ x.sink);
    flushed = flushed;
    over_flushed = λ f. absurd (cc);
    goes_on = (goes_then (lent_in b) (lent_in m) (lent_in n) x.goes_on g).clients;
    cache_later = (goes_then (lent_in b) (lent_in m) (lent_in n) x.goes_on g).cache;
  }
    where
      taken : TookBytes b.source n.source bytes
      taken = subst (λ (v : SourceTold). TookBytes b.source v bytes) (sym a.source) x.read

      is : i.line ≡ codes "QUIT"
      is = (bytes_eq-Decides i.line (codes "QUIT")).0 quit

      has_quit : HasQuit bytes
      has_quit = record {
        front = joined x.lines;
        more = i.pending;
        is = ap (λ (l : List ℕ). joined x.lines ++ l) (a.line.is ∙ ap (λ (l : List ℕ). l ++ 10 ∷ i.pending) is);
        begins = joined_ends x.lines;
      }

      serves : (all : List ℕ) → Rest all bytes n.source.left → lines_to_serve all ≡ x.lines ++ i.line ∷ []
      serves all r =
          ap lines_to_serve r.all_is
          ∙ served_next x.lines h.pending r.rest i.line (lines_of (i.pending ++ r.rest)) x.plain
          (ap (λ (l : List ℕ). lines_of (l ++ r.rest)) a.line.is
          ∙ ap lines_of (append_assoc i.line (10 ∷ i.pending) r.rest)
          ∙ lines_more i.line (i.pending ++ r.rest) a.line.whole)
          ∙ ap (λ (c : Bool). x.lines ++ cond c (i.line ∷ []) (i.line ∷ served_lines (lines_of (i.pending ++ r.rest)))) quit

  -- the input had ended
  pub session_ended : (k : ℕ) → EndedInput config.tries m n h k → SessionCall (any_setup config) b n (Ok (count + k))
  session_ended k a = record {
    settings = λ e r. absurd (no_setting e r);
    bytes = bytes;
    read = taken;
    within = inl (let c = x.total in let d = x.within in omega (arith, c, d));
    read_out = inl a.end;
    served = λ s o t all e. serves s o t all (rest_of all bytes n.source.left (sym e ∙ taken));
    part = λ s o t all e. tt;
    over = λ s o t all e f. absurd (cc);
    cause = tt;
    source_unfailed = inl (a.source ∙ x.source);
    sink_unfailed = inl (a.sink ∙ x.sink);
    flushed = a.flushed;
    over_flushed = λ f. absurd (cc);
    goes_on = (goes_then (lent_in b) (lent_in m) (lent_in n) x.goes_on g).clients;
    cache_later = (goes_then (lent_in b) (lent_in m) (lent_in n) x.goes_on g).cache;
  }
    where
      taken : TookBytes b.source n.source bytes
      taken =
          subst (TookBytes b.source n.source) (append-nil bytes)
          (read_then b.source m.source n.source bytes [] x.read a.took)

      lines_are : (all : List ℕ) → Rest all bytes n.source.left
          → lines_to_serve all ≡ x.lines ++ served_lines (lines_of h.pending)
      lines_are all r =
          let none : r.rest ≡ [] = nothing_left n.source.left r.rest r.is a.end in
          ap lines_to_serve r.all_is ∙ served_behind x.lines h.pending r.rest x.plain
          ∙ ap (λ (l : List ℕ). x.lines ++ served_lines (lines_of (h.pending ++ l))) none
          ∙ ap (λ (l : List ℕ). x.lines ++ served_lines (lines_of l)) (append-nil h.pending)

      either : (c : Bool) → cond c (h.pending ∷ []) (h.pending ∷ []) ≡ h.pending ∷ []
      either true = refl
      either false = refl

      serves : (s : Store) → IsOver s b.clients → CacheTells s b.cache → (all : List ℕ) → Rest all bytes n.source.left
          → Served s config.tries b n all (count + k)
      serves s o t all r = ⊎_elim
          (λ (c : (k ≡ 0) × (h.pending ≡ []) × (n.sink.took ≡ m.sink.took)).
          let p = x.answered s o t in
          let is : lines_to_serve all ≡ x.lines =
          lines_are all r ∙ ap (λ (l : List ℕ). x.lines ++ served_lines (lines_of l)) c.1 ∙ append-nil x.lines in
          record {
            ks = p.ks;
            text = p.text;
            answers = subst (λ (ls : List (List ℕ)). Answers s ls p.ks p.text) (sym is) p.answers;
            took = c.2 ∙ p.took;
            counted = (let d = answers_count s x.lines p.ks p.text p.answers in let e = x.counted in let z = c.0 in
                omega (arith, d, e, z));
            short = subst (All (λ l. is_too_long l ≡ false)) (sym is) (short_lines x.lines x.plain);
            few = fails_to config.tries p.ks b.clients m.clients n.clients g.clients p.few;
          })
          (λ (c : (k ≡ 1) × (0 < length h.pending)
          × OverStore (lent_in m) (λ v. LineWritten v config.tries h.pending m.sink n.sink (lent_in m) (lent_in n) (Ok tt))).
          let is : lines_to_serve all ≡ x.lines ++ h.pending ∷ [] =
          lines_are all r
          ∙ ap (λ (ls : List (List ℕ)). x.lines ++ served_lines ls) (lines_last h.pending a.none c.1)
          ∙ ap (λ (ls : List (List ℕ)). x.lines ++ ls) (either (is_quit h.pending)) in
          subst (λ (j : ℕ). Served s config.tries b n all (count + j)) (sym c.0)
          (answered_all h.pending all a.short is s
          (lines_push config.tries b m n h i count x h.pending g c.2 s o t)))
          a.rest

  -- ---- errors

  pub session_failed : (e : ServeError) → FailedTurn config.tries m n h e → SessionCall (any_setup config) b n (Err e)
  session_failed e f = record {
    settings = λ v r. absurd (no_setting v r);
    bytes = bytes ++ f.bytes;
    read = taken;
    within = ⊎_elim
        (λ (w : h.read + length f.bytes ≤ session_limit). inl (let c = size in omega (arith, c, w)))
        (λ (w : e ≡ serve_error.InputLimit). inr (ap (λ (v : ServeError). Err v) w)) f.within;
    read_out = tt;
    served = λ s o t all z. tt;
    part = λ s o t all z. part_of s o t all (rest_at all z);
    over = λ s o t all z w. over_of s o t all (rest_at all z) (f.over (own w));
    cause = cause_of e f.cause;
    source_unfailed = source_of e f.cause;
    sink_unfailed = sink_of e f.cause;
    flushed = tt;
    over_flushed = λ w. (f.over (own w)).flushed;
    goes_on = (goes_then (lent_in b) (lent_in m) (lent_in n) x.goes_on g).clients;
    cache_later = (goes_then (lent_in b) (lent_in m) (lent_in n) x.goes_on g).cache;
  }
    where
      own : ◌≡◌ {A = Result ℕ ServeError} (Err e) (Err serve_error.LineTooLong) → e ≡ serve_error.LineTooLong
      own w = cc

      taken : TookBytes b.source n.source (bytes ++ f.bytes)
      taken = read_then b.source m.source n.source bytes f.bytes x.read f.took

      size : length (bytes ++ f.bytes) ≡ h.read + length f.bytes
      size = let c = length-append bytes f.bytes in let d = x.total in omega (arith, c, d)

      -- what was left when the turn began
      rest_at : (all : List ℕ) → b.source.left ≡ Some all → Rest all bytes m.source.left
      rest_at all z = rest_of all bytes m.source.left (sym z ∙ x.read)

      long_of : (all : List ℕ) → Rest all bytes m.source.left → BeginsLong h.pending → LongLine x.lines all
      long_of all r l =
          subst (LongLine x.lines) (sym r.all_is) (served_long x.lines h.pending r.rest x.plain l)

      has_long : BeginsLong h.pending → HasLongLine b
      has_long l all z =
          let k = long_of all (rest_at all z) l in
          ap (λ (ls : List (List ℕ)). list_any is_too_long ls) k.first
          ∙ list_any-append is_too_long x.lines (k.line ∷ k.more)
          ∙ or_right (list_any is_too_long x.lines) (list_any is_too_long (k.line ∷ k.more))
          (or_left (is_too_long k.line) (list_any is_too_long k.more) k.long)

      cause_of : (v : ServeError) → TurnCause m n h f.bytes v
          → ServeCause (refused_setting (any_setup config) b.clients) b n (bytes ++ f.bytes) v
      cause_of serve_error.OutOfMemory c = tt
      cause_of serve_error.ReadFault c = let z = x.source in let r = c.0 in omega (arith, r, z)
      cause_of serve_error.WriteFault c = let z = x.sink in let r = c.1 in omega (arith, r, z)
      cause_of serve_error.LineTooLong c = has_long c.2
      cause_of serve_error.InputLimit c = let z = size in let r = c.2 in omega (arith, r, z)
      cause_of (serve_error.ConfigurationError v) c = absurd c

      source_of : (v : ServeError) → TurnCause m n h f.bytes v
          → (n.source.faults ≡ b.source.faults) ⊎ (◌≡◌ {A = Result ℕ ServeError} (Err v) (Err serve_error.ReadFault))
      source_of serve_error.OutOfMemory c = inl (c.0 ∙ x.source)
      source_of serve_error.ReadFault c = inr refl
      source_of serve_error.WriteFault c = inl (c.0 ∙ x.source)
      source_of serve_error.LineTooLong c = inl (c.0 ∙ x.source)
      source_of serve_error.InputLimit c = inl (c.0 ∙ x.source)
      source_of (serve_error.ConfigurationError v) c = absurd c

      sink_of : (v : ServeError) → TurnCause m n h f.bytes v
          → (n.sink.faults ≡ b.sink.faults) ⊎ (◌≡◌ {A = Result ℕ ServeError} (Err v) (Err serve_error.WriteFault))
      sink_of serve_error.OutOfMemory c = inl (c.1 ∙ x.sink)
      sink_of serve_error.ReadFault c = inl (c.1 ∙ x.sink)
      sink_of serve_error.WriteFault c = inr refl
      sink_of serve_error.LineTooLong c = inl (c.1 ∙ x.sink)
      sink_of serve_error.InputLimit c = inl (c.1 ∙ x.sink)
      sink_of (serve_error.ConfigurationError v) c = absurd c

      over_of : (s : Store) → IsOver s b.clients → CacheTells s b.cache → (all : List ℕ) → Rest all bytes m.source.left
          → WroteOver m n h → ServedOver s config.tries b n all
      over_of s o t all r w =
          let k = long_of all r w.long in
          let p = x.answered s o t in
          record {
            lines = x.lines;
            line = k.line;
            more = k.more;
            first = k.first;
            long = k.long;
            ks = p.ks;
            text = p.text;
            answers = p.answers;
            short = short_lines x.lines x.plain;
            took = took_both b.sink.took m.sink.took n.sink.took p.text (word_line (codes "OVER")) p.took w.took;
            few = fails_to config.tries p.ks b.clients m.clients n.clients g.clients p.few;
          }

      part_of : (s : Store) → IsOver s b.clients → CacheTells s b.cache → (all : List ℕ) → Rest all bytes m.source.left
          → ServedPart s config.tries b n all
      part_of s o t all r = ⊎_elim nothing (λ (w : CutLine config.tries m n h s e ⊎ CutOver m n h). ⊎_elim cut over w)
          (f.wrote s (over_on s b.clients m.clients x.goes_on.clients o) (x.goes_on.cache s o t))
        where
          p : AnsweredLines s config.tries b m x.lines
          p = x.answered s o t

          nothing : n.sink.took ≡ m.sink.took → ServedPart s config.tries b n all
          nothing w = record {
            lines = x.lines;
            more = served_lines (lines_of (h.pending ++ r.rest));
            first = ap lines_to_serve r.all_is ∙ served_behind x.lines h.pending r.rest x.plain;
            ks = p.ks;
            text = p.text;
            answers = p.answers;
            short = short_lines x.lines x.plain;
            took = prefix_front b.sink.took n.sink.took p.text (over_line (served_lines (lines_of (h.pending ++ r.rest))))
                (whole_prefix b.sink.took n.sink.took p.text (w ∙ p.took));
            few = fails_to config.tries p.ks b.clients m.clients n.clients g.clients p.few;
          }

          over : CutOver m n h → ServedPart s config.tries b n all
          over w =
              let k = long_of all r w.long in
              record {
                lines = x.lines;
                more = k.line ∷ k.more;
                first = k.first;
                ks = p.ks;
                text = p.text;
                answers = p.answers;
                short = short_lines x.lines x.plain;
                took = subst (λ (l : List ℕ). TookPrefix b.sink.took n.sink.took (p.text ++ l))
                    (sym (ap (λ (c : Bool). cond c (word_line (codes "OVER")) []) k.long))
                    (prefix_after b.sink.took m.sink.took n.sink.took p.text (word_line (codes "OVER")) p.took w.took);
                few = fails_to config.tries p.ks b.clients m.clients n.clients g.clients p.few;
              }

          cut : CutLine config.tries m n h s e → ServedPart s config.tries b n all
          cut w =
              let next = next_is m h r.rest r.is w.line w.next in
              record {
                lines = x.lines ++ w.line ∷ [];
                more = behind w.line next.0;
                first =
                    ap lines_to_serve r.all_is
                    ∙ served_next x.lines h.pending r.rest w.line next.0 x.plain next.1
                    ∙ ap (λ (ls : List (List ℕ)). x.lines ++ ls) (apart_by w.line next.0 (is_quit w.line))
                    ∙ sym (append_assoc x.lines (w.line ∷ []) (behind w.line next.0));
                ks = p.ks ++ w.written.k ∷ [];
                text = p.text ++ answer_text s w.line w.written.k;
                answers = answers_push s x.lines p.ks p.text w.line w.written.k p.answers w.written.may;
                short = All-append (λ l. is_too_long l ≡ false) x.lines (w.line ∷ []) (short_lines x.lines x.plain)
                    (All-cons (λ l. is_too_long l ≡ false) w.line [] w.next.1 (All-nil (λ l. is_too_long l ≡ false)));
                took = prefix_front b.sink.took n.sink.took (p.text ++ answer_text s w.line w.written.k)
                    (over_line (behind w.line next.0))
                    (prefix_after b.sink.took m.sink.took n.sink.took p.text (answer_text s w.line w.written.k) p.took
                    w.written.prefix);
                few = fails_both config.tries p.ks (w.written.k ∷ []) b.clients m.clients n.clients g.clients p.few
                    w.written.few;
              }

-- ---- a session that was not begun

module _ (config : ReconstructionConfig) (b : SessionTold) where
  nothing_served : (s : Store) (all : List ℕ) → ServedPart s config.tries b b all
  nothing_served s all = record {
    lines = [];
    more = lines_to_serve all;
    first = refl;
    ks = [];
    text = [];
    answers = refl;
    short = All-nil (λ l. is_too_long l ≡ false);
    took = record { count = 0; within = omega arith; took = took_nothing b.sink.took };
    few = none_fail config.tries b.clients b.clients (each_same b.clients);
  }

  unbegun : (e : ServeError)
      → ((v : Setting) → refused_setting (any_setup config) b.clients ≡ Some v
      → ◌≡◌ {A = Result ℕ ServeError} (Err e) (Err (serve_error.ConfigurationError v)))
      → ServeCause (refused_setting (any_setup config) b.clients) b b [] e → (e ≡ serve_error.LineTooLong → ⊥)
      → SessionCall (any_setup config) b b (Err e)
  unbegun e settings cause other = record {
    settings = λ v r. (settings v r, refl);
    bytes = [];
    read = read_nothing b.source.left;
    within = inl (omega arith);
    read_out = tt;
    served = λ s o t all z. tt;
    part = λ s o t all z. nothing_served s all;
    over = λ s o t all z w. absurd (other (cc));
    cause = cause;
    source_unfailed = inl refl;
    sink_unfailed = inl refl;
    flushed = tt;
    over_flushed = λ w. absurd (other (cc));
    goes_on = each_same b.clients;
    cache_later = λ s o t. t;
  }

  pub session_refused : (e : Setting) → refused_setting (any_setup config) b.clients ≡ Some e
      → SessionCall (any_setup config) b b (Err (serve_error.ConfigurationError e))
  session_refused e r =
      unbegun (serve_error.ConfigurationError e)
      (λ v w. let same : e ≡ v = same_Some e v (sym r ∙ w) in cc) r (λ w. absurd (cc))

  pub session_short : refused_setting (any_setup config) b.clients ≡ None
      → SessionCall (any_setup config) b b (Err serve_error.OutOfMemory)
  session_short r =
      unbegun serve_error.OutOfMemory (λ v w. absurd (none-some v (sym r ∙ w))) tt (λ w. absurd (cc))

-- the settings by how many connections there are
pub settings_are : {C : Type 0} (told : C → ClientTold) (config : ReconstructionConfig) (cs : List C)
    → refused_setting (any_setup config) (map told cs) ≡ failing_setting_of (length cs) config
settings_are told config cs =
    ap (λ (m : ℕ). failing_setting_of m config) (length-map cs told)

-- at most one line is left at the input's end
pub last_few : (tries : ℕ) (b n : SessionTold) (h : Held) (k : ℕ) → EndedInput tries b n h k → k ≤ 1
last_few tries b n h k a = ⊎_elim
    (λ (c : (k ≡ 0) × (h.pending ≡ []) × (n.sink.took ≡ b.sink.took)). let z = c.0 in omega (arith, z))
    (λ (c : (k ≡ 1) × (0 < length h.pending)
    × OverStore (lent_in b) (λ v. LineWritten v tries h.pending b.sink n.sink (lent_in b) (lent_in n) (Ok tt))).
    let z = c.0 in omega (arith, z))
    a.rest
