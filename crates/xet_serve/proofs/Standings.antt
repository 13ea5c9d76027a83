-- A session between two turns.
use Rattle.std.proofs.Common.{◌≡◌, ℕ, ◌+◌, ◌-◌, ◌*◌, ◌<◌, ◌≤◌, false, List, [], ◌∷◌, ◌++◌, length, None, Some, Ok, refl, sym, subst, ◌∙◌, ap, arith}
use Rattle.std.proofs.Common.{append_assoc, length-append}
use Rattle.std.specs.Prelude.{Option, option_map}
use Rattle.std.proofs.lemmas.Bool.{le-ltb}
use Rattle.std.proofs.lemmas.List.{append-nil}
use Rattle.std.proofs.lemmas.List.Elements.{All-append, All-cons, All-nil}
use Rattle.xet_outside.specs.Told.{ClientTold, SourceTold, Took}
use Rattle.xet_outside.proofs.CallerLemmas.{took_both}
use Rattle.xet_ties.specs.Setup.{CacheTells, EachGoesOn}
use Rattle.xet_serve_lines.specs.Lines.{is_quit, is_too_long, most_bytes, session_limit}
use Rattle.xet_serve_lines.specs.Reading.{Held, TookBytes, TookLine}
use Rattle.xet_serve.specs.Sessions.{FewFail, SessionTold, answer_text}
use Rattle.xet_serve.specs.steps.Fetching.{GoesOn, OverStore}
use Rattle.xet_serve.specs.steps.Turning.{AnsweredLine, AnsweredLines, IsPlain, LineWritten, ReadMore, Standing, lent_in}
use Rattle.xet_serve.proofs.Fails.{fails_both, none_fail}
use Rattle.xet_serve.proofs.Goings.{each_same, goes_same, goes_then, over_on}
use Rattle.xet_serve.proofs.Lines.{answers_push, joined, joined_push, lines_fit}

-- ---- what was read

left_then : (xs ys : List ℕ) (o : Option (List ℕ))
    → option_map (λ r. xs ++ r) (option_map (λ r. ys ++ r) o) ≡ option_map (λ r. (xs ++ ys) ++ r) o
left_then xs ys None = refl
left_then xs ys (Some r) = ap (λ (l : List ℕ). Some l) (sym (append_assoc xs ys r))

pub read_then : (a b c : SourceTold) (xs ys : List ℕ) → TookBytes a b xs → TookBytes b c ys → TookBytes a c (xs ++ ys)
read_then a b c xs ys p q =
    p ∙ ap (λ (o : Option (List ℕ)). option_map (λ r. xs ++ r) o) q ∙ left_then xs ys c.left

pub read_nothing : (o : Option (List ℕ)) → o ≡ option_map (λ r. [] ++ r) o
read_nothing None = refl
read_nothing (Some r) = refl

pub took_nothing : (o : Option (List ℕ)) → Took o o []
took_nothing None = refl
took_nothing (Some r) = ap (λ (l : List ℕ). Some l) (sym (append-nil r))

-- a line with at most so many bytes is not too long
pub short_line : (line : List ℕ) → length line ≤ most_bytes → is_too_long line ≡ false
short_line line h = le-ltb most_bytes (length line) h

-- ---- standing

pub standing_start : (tries : ℕ) (b : SessionTold) → Standing tries b b (record { line = []; pending = []; read = 0 }) 0
standing_start tries b = record {
  lines = [];
  plain = All-nil IsPlain;
  counted = refl;
  read = read_nothing b.source.left;
  total = refl;
  within = omega arith;
  goes_on = goes_same (lent_in b);
  answered = λ s o t. record {
    ks = [];
    text = [];
    answers = refl;
    took = took_nothing b.sink.took;
    few = none_fail tries b.clients b.clients (each_same b.clients);
  };
  source = refl;
  sink = refl;
}

module _ (tries : ℕ) (b m n : SessionTold) (h i : Held) (count : ℕ) (x : Standing tries b m h count) where
  pub standing_read : ReadMore m n h i → Standing tries b n i count
  standing_read r =
      let same : (joined x.lines ++ h.pending) ++ r.bytes ≡ joined x.lines ++ i.pending =
      append_assoc (joined x.lines) h.pending r.bytes
      ∙ ap (λ (l : List ℕ). joined x.lines ++ l) (sym r.pending) in
      record {
        lines = x.lines;
        plain = x.plain;
        counted = x.counted;
        read = subst (TookBytes b.source n.source) same
            (read_then b.source m.source n.source (joined x.lines ++ h.pending) r.bytes x.read r.took);
        total = (let a = x.total in let c = r.read in let d = length-append (joined x.lines ++ h.pending) r.bytes in
            let e = ap length same in omega (arith, a, c, d, e));
        within = r.within;
        goes_on = record {
          clients = subst (EachGoesOn b.clients) (sym r.clients) x.goes_on.clients;
          cache = λ s o t. subst (CacheTells s) (sym r.cache) (x.goes_on.cache s o t);
        };
        answered = λ s o t.
            let a = x.answered s o t in
            record {
              ks = a.ks;
              text = a.text;
              answers = a.answers;
              took = r.sink_took ∙ a.took;
              few = subst (λ (cs : List ClientTold). FewFail tries a.ks b.clients cs) (sym r.clients) a.few;
            };
        source = r.source ∙ x.source;
        sink = r.sink ∙ x.sink;
      }

  -- the answer to one more line
  pub lines_push : (line : List ℕ) → GoesOn (lent_in m) (lent_in n)
      → OverStore (lent_in m) (λ s. LineWritten s tries line m.sink n.sink (lent_in m) (lent_in n) (Ok tt))
      → OverStore (lent_in b) (λ s. AnsweredLines s tries b n (x.lines ++ line ∷ []))
  lines_push line g w s o t =
      let a = x.answered s o t in
      let k = w s (over_on s b.clients m.clients x.goes_on.clients o) (x.goes_on.cache s o t) in
      record {
        ks = a.ks ++ k.k ∷ [];
        text = a.text ++ answer_text s line k.k;
        answers = answers_push s x.lines a.ks a.text line k.k a.answers k.may;
        took = took_both b.sink.took m.sink.took n.sink.took a.text (answer_text s line k.k) a.took k.took;
        few = fails_both tries a.ks (k.k ∷ []) b.clients m.clients n.clients g.clients a.few k.few;
      }

  pub standing_answered : GoesOn (lent_in m) (lent_in n) → AnsweredLine tries m n h i → is_quit i.line ≡ false
      → Standing tries b n i (count + 1)
  standing_answered g a going =
      let same : joined x.lines ++ h.pending ≡ joined (x.lines ++ i.line ∷ []) ++ i.pending =
      ap (λ (l : List ℕ). joined x.lines ++ l)
      (a.line.is ∙ sym (append_assoc i.line (10 ∷ []) i.pending))
      ∙ sym (append_assoc (joined x.lines) (i.line ++ 10 ∷ []) i.pending)
      ∙ ap (λ (l : List ℕ). l ++ i.pending) (sym (joined_push x.lines i.line)) in
      let plain : IsPlain i.line = record { whole = a.line.whole; short = short_line i.line a.line.short; going = going } in
      record {
        lines = x.lines ++ i.line ∷ [];
        plain = All-append IsPlain x.lines (i.line ∷ []) x.plain (All-cons IsPlain i.line [] plain (All-nil IsPlain));
        counted = (let c = x.counted in let d = length-append x.lines (i.line ∷ []) in omega (arith, c, d));
        read = subst (TookBytes b.source n.source) same
            (subst (λ (v : SourceTold). TookBytes b.source v (joined x.lines ++ h.pending)) (sym a.source) x.read);
        total = (let c = x.total in let d = a.line.read in let e = ap length same in omega (arith, c, d, e));
        within = (let c = x.within in let d = a.line.read in omega (arith, c, d));
        goes_on = goes_then (lent_in b) (lent_in m) (lent_in n) x.goes_on g;
        answered = lines_push i.line g a.done;
        source = ap (λ (v : SourceTold). v.faults) a.source ∙ x.source;
        sink = a.sink ∙ x.sink;
      }

-- each line adds one to a count that fits
pub count_fits : (tries : ℕ) (b m : SessionTold) (h : Held) (count : ℕ) → Standing tries b m h count → count ≤ h.read
count_fits tries b m h count x =
    let a = x.counted in let c = x.total in let d = lines_fit x.lines in
    let e = length-append (joined x.lines) h.pending in omega (arith, a, c, d, e)

-- ---- what is left gets less

abbrev left_over : Held → ℕ
left_over h = 2 * (session_limit + 1 - h.read) + length h.pending

pub read_smaller : (b n : SessionTold) (h i : Held) → ReadMore b n h i → left_over i < left_over h
read_smaller b n h i r =
    let a = r.some in
    let c = r.read in
    let w = r.within in
    let l = ap length r.pending in
    let m = length-append h.pending r.bytes in
    omega (arith, a, c, w, l, m)

pub line_smaller : (h i : Held) → TookLine h i → left_over i < left_over h
line_smaller h i t =
    let c = t.read in
    let l = ap length t.is in
    let m = length-append i.line (10 ∷ i.pending) in
    grind (arith, c, l, m)
