-- The lines that a session answers.
use Rattle.std.proofs.Common.{◌≡◌, ◌⊎◌, ℕ, ◌<◌, ◌≤◌, Bool, true, false, cond, List, [], ◌∷◌, ◌++◌, length, refl, sym, ◌∙◌, ap, arith, inl, inr}
use Rattle.std.proofs.Common.{append_assoc, length-append}
use Rattle.std.specs.Prelude.{All, codes}
use Rattle.std.specs.List.{flat_map}
use Rattle.std.proofs.lemmas.Bool.{lt-ltb}
use Rattle.std.proofs.lemmas.List.{append-nil, flat_map_more}
use Rattle.std.proofs.lemmas.List.Elements.{All-head, All-tail}
use Rattle.std.proofs.lemmas.Slice.Eq.{bytes_eq-Decides}
use Rattle.xet_base.specs.Store.{Store}
use Rattle.xet_serve_lines.specs.Lines.{is_quit, is_too_long, lines_of, most_bytes}
use Rattle.xet_serve_lines.specs.Reading.{BeginsLong}
use Rattle.xet_serve_lines.proofs.CallerLemmas.{line_first, lines_more}
use Rattle.xet_serve.specs.Replies.{served_lines}
use Rattle.xet_serve.specs.Sessions.{Answers, MayAnswer, answer_text, lines_to_serve}
use Rattle.xet_serve.specs.steps.Turning.{IsPlain}

-- lines with their line ends
abbrev pub joined : List (List ℕ) → List ℕ
joined ls = flat_map (λ l. l ++ 10 ∷ []) ls

pub joined_push : (ls : List (List ℕ)) (l : List ℕ) → joined (ls ++ l ∷ []) ≡ joined ls ++ (l ++ 10 ∷ [])
joined_push ls l = sym (flat_map_more (λ (x : List ℕ). x ++ 10 ∷ []) [] ls l)

-- there are no more lines than bytes
pub lines_fit : (ls : List (List ℕ)) → length ls ≤ length (joined ls)
lines_fit [] = omega arith
lines_fit (l ∷ ls) =
    let a = length-append (l ++ 10 ∷ []) (joined ls) in
    let b = length-append l (10 ∷ []) in
    let c = lines_fit ls in
    omega (arith, a, b, c)

-- they are nothing, or end with a line end
pub joined_ends : (ls : List (List ℕ)) → (joined ls ≡ []) ⊎ ((line : List ℕ) × (joined ls ≡ line ++ 10 ∷ []))
joined_ends [] = inl refl
joined_ends (l ∷ ls) = go (joined_ends ls)
  where
    go : (joined ls ≡ []) ⊎ ((line : List ℕ) × (joined ls ≡ line ++ 10 ∷ []))
        → (joined (l ∷ ls) ≡ []) ⊎ ((line : List ℕ) × (joined (l ∷ ls) ≡ line ++ 10 ∷ []))
    go (inl e) = inr (l, ap (λ (x : List ℕ). (l ++ 10 ∷ []) ++ x) e ∙ append-nil (l ++ 10 ∷ []))
    go (inr e) = inr (
      (l ++ 10 ∷ []) ++ e.0,
      ap (λ (x : List ℕ). (l ++ 10 ∷ []) ++ x) e.1 ∙ sym (append_assoc (l ++ 10 ∷ []) e.0 (10 ∷ [])),
    )

lines_joined : (ls : List (List ℕ)) (rest : List ℕ) → All IsPlain ls → lines_of (joined ls ++ rest) ≡ ls ++ lines_of rest
lines_joined [] rest h = refl
lines_joined (l ∷ ls) rest h =
    let p = All-head IsPlain l ls h in
    ap lines_of (append_assoc (l ++ 10 ∷ []) (joined ls) rest ∙ append_assoc l (10 ∷ []) (joined ls ++ rest))
    ∙ lines_more l (joined ls ++ rest) p.whole
    ∙ ap (λ (x : List (List ℕ)). l ∷ x) (lines_joined ls rest (All-tail IsPlain l ls h))

served_on : (ls more : List (List ℕ)) → All IsPlain ls → served_lines (ls ++ more) ≡ ls ++ served_lines more
served_on [] more h = refl
served_on (l ∷ ls) more h =
    let p = All-head IsPlain l ls h in
    ap (λ (b : Bool). cond b (l ∷ []) (l ∷ served_lines (ls ++ more))) p.going
    ∙ ap (λ (x : List (List ℕ)). l ∷ x) (served_on ls more (All-tail IsPlain l ls h))

-- what is answered of lines and what stands behind them
pub served_behind : (ls : List (List ℕ)) (pending rest : List ℕ) → All IsPlain ls
    → lines_to_serve ((joined ls ++ pending) ++ rest) ≡ ls ++ served_lines (lines_of (pending ++ rest))
served_behind ls pending rest h =
    ap lines_to_serve (append_assoc (joined ls) pending rest)
    ∙ ap served_lines (lines_joined ls (pending ++ rest) h)
    ∙ served_on ls (lines_of (pending ++ rest)) h

-- the next line first
pub served_next : (ls : List (List ℕ)) (pending rest line : List ℕ) (more : List (List ℕ)) → All IsPlain ls
    → lines_of (pending ++ rest) ≡ line ∷ more
    → lines_to_serve ((joined ls ++ pending) ++ rest) ≡ ls ++ cond (is_quit line) (line ∷ []) (line ∷ served_lines more)
served_next ls pending rest line more h e =
    served_behind ls pending rest h ∙ ap (λ (x : List (List ℕ)). ls ++ served_lines x) e

-- a line that is too long ends no session
long_going : (line : List ℕ) → is_too_long line ≡ true → is_quit line ≡ false
long_going line long = go (is_quit line) refl
  where
    go : (b : Bool) → is_quit line ≡ b → is_quit line ≡ false
    go false e = e
    go true e =
        let same : line ≡ codes "QUIT" = (bytes_eq-Decides line (codes "QUIT")).0 e in
        let short : is_too_long line ≡ false = ap is_too_long same in
        absurd (cc)

pub record LongLine (ls : List (List ℕ)) (all : List ℕ) : Type 0 where
  pub line : List ℕ
  pub more : List (List ℕ)
  pub first : lines_to_serve all ≡ ls ++ line ∷ more
  pub long : is_too_long line ≡ true

pub served_long : (ls : List (List ℕ)) (pending rest : List ℕ) → All IsPlain ls → BeginsLong pending
    → LongLine ls ((joined ls ++ pending) ++ rest)
served_long ls pending rest h b =
    let some : 0 < length b.front = (let l = b.long in omega (arith, l)) in
    let f = line_first b.front (b.more ++ rest) b.whole some in
    let long : is_too_long (b.front ++ f.more) ≡ true =
    (let l = b.long in let a = length-append b.front f.more in
    lt-ltb most_bytes (length (b.front ++ f.more)) (omega (arith, l, a))) in
    let is : lines_of (pending ++ rest) ≡ (b.front ++ f.more) ∷ f.others =
    ap (λ (x : List ℕ). lines_of (x ++ rest)) b.is ∙ ap lines_of (append_assoc b.front b.more rest) ∙ f.is in
    record {
      line = b.front ++ f.more;
      more = served_lines f.others;
      first =
          served_next ls pending rest (b.front ++ f.more) f.others h is
          ∙ ap (λ (c : Bool). ls ++ cond c ((b.front ++ f.more) ∷ []) ((b.front ++ f.more) ∷ served_lines f.others))
          (long_going (b.front ++ f.more) long);
      long = long;
    }

-- ---- answers

pub answers_push : (s : Store) (ls : List (List ℕ)) (ks : List ℕ) (text l : List ℕ) (k : ℕ) → Answers s ls ks text
    → MayAnswer l k → Answers s (ls ++ l ∷ []) (ks ++ k ∷ []) (text ++ answer_text s l k)
answers_push s [] [] text l k h m =
    (m, [], ap (λ (x : List ℕ). x ++ answer_text s l k) h ∙ sym (append-nil (answer_text s l k)), refl)
answers_push s [] (j ∷ ks) text l k h m = absurd h
answers_push s (x ∷ ls) [] text l k h m = absurd h
answers_push s (x ∷ ls) (j ∷ ks) text l k h m = (
  h.0,
  h.1 ++ answer_text s l k,
  ap (λ (t : List ℕ). t ++ answer_text s l k) h.2 ∙ append_assoc (answer_text s x j) h.1 (answer_text s l k),
  answers_push s ls ks h.1 l k h.3 m,
)

pub answers_count : (s : Store) (ls : List (List ℕ)) (ks : List ℕ) (text : List ℕ) → Answers s ls ks text
    → length ks ≡ length ls
answers_count s [] [] text h = refl
answers_count s [] (j ∷ ks) text h = absurd h
answers_count s (x ∷ ls) [] text h = absurd h
answers_count s (x ∷ ls) (j ∷ ks) text h = let a = answers_count s ls ks h.1 h.3 in omega (arith, a)
