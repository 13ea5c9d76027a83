-- Sessions over connections that didn't fail.
use Rattle.std.proofs.Common.{◌≡◌, ◌⊎◌, ℕ, zero, suc, ◌*◌, ◌<◌, ◌==◌, Bool, true, false, cond, List, [], ◌∷◌, ◌++◌, refl, sym, subst, ◌∙◌, ap, arith, ⊎_elim}
use Rattle.std.proofs.Common.{append_assoc}
use Rattle.std.specs.Prelude.{All, IsTrue, codes, count_by}
use Rattle.std.proofs.lemmas.List.{append-nil}
use Rattle.std.proofs.lemmas.List.Elements.{All-head, All-tail}
use Rattle.std.proofs.lemmas.List.Sums.{sum_by-cons}
use Rattle.xet_base.specs.Store.{Store}
use Rattle.xet_outside.specs.Told.{Took, TookPrefix}
use Rattle.xet_outside.proofs.CallerLemmas.{prefix_front}
use Rattle.xet_serve_lines.specs.Lines.{is_too_long}
use Rattle.xet_serve_lines.specs.Replies.{word_line}
use Rattle.xet_serve.specs.Laws.{CalmSessionsBegin, CalmSessionsEnd, CalmSessionsReply}
use Rattle.xet_serve.specs.Replies.{is_run, replies, replies_to, reply as reply_of}
use Rattle.xet_serve.specs.Sessions.{Answers, MayAnswer, answer_text, lines_to_serve, over_line}

no_times : (a tries : ℕ) → 0 < tries → a * tries ≡ 0 → a ≡ 0
no_times zero tries h e = refl
no_times (suc a) tries h e = grind (arith, h, e)

-- no answer stands in place of a reply
abbrev NoFail : List ℕ → Type 0
NoFail ks = (count_by (λ k. k == 2) ks ≡ 0) × (count_by (λ k. k == 4) ks ≡ 0)

own_reply : (l : List ℕ) (k : ℕ) → ◌≡◌ {A = ℕ} (cond (k == 2) 1 0) 0 → ◌≡◌ {A = ℕ} (cond (k == 4) 1 0) 0 → MayAnswer l k
    → k ≡ 0
own_reply l k two four m = ⊎_elim (λ (e : k ≡ 0). e)
    (λ (c : IsTrue (is_run l) × ((k ≡ 2) ⊎ (k ≡ 4))). ⊎_elim
    (λ (e : k ≡ 2). absurd (let z = sym (ap (λ (j : ℕ). cond {A = ℕ} (j == 2) 1 0) e) ∙ two in omega (arith, z)))
    (λ (e : k ≡ 4). absurd (let z = sym (ap (λ (j : ℕ). cond {A = ℕ} (j == 4) 1 0) e) ∙ four in omega (arith, z)))
    c.1) m

-- the answers to lines of which none is too long are the first replies
replied : (s : Store) (ls more : List (List ℕ)) (ks text : List ℕ) → Answers s ls ks text → NoFail ks
    → All (λ l. is_too_long l ≡ false) ls → replies_to s (ls ++ more) ≡ text ++ replies_to s more
replied s [] more [] text h z p = sym (ap (λ (t : List ℕ). t ++ replies_to s more) h)
replied s [] more (k ∷ ks) text h z p = absurd h
replied s (l ∷ ls) more [] text h z p = absurd h
replied s (l ∷ ls) more (k ∷ ks) text h z p =
    let a = z.0 in
    let b = z.1 in
    let c = sum_by-cons (λ (j : ℕ). cond {A = ℕ} (j == 2) 1 0) k ks in
    let d = sum_by-cons (λ (j : ℕ). cond {A = ℕ} (j == 4) 1 0) k ks in
    let two : cond {A = ℕ} (k == 2) 1 0 ≡ 0 = omega (arith, a, c) in
    let four : cond {A = ℕ} (k == 4) 1 0 ≡ 0 = omega (arith, b, d) in
    let rest : NoFail ks = (omega (arith, a, c), omega (arith, b, d)) in
    let is : k ≡ 0 = own_reply l k two four h.0 in
    let next = replied s ls more ks h.1 h.3 rest (All-tail (λ l. is_too_long l ≡ false) l ls p) in
    ap (λ (c : Bool). cond c (word_line (codes "OVER")) (reply_of s l ++ replies_to s (ls ++ more)))
    (All-head (λ l. is_too_long l ≡ false) l ls p)
    ∙ ap (λ (t : List ℕ). reply_of s l ++ t) next
    ∙ sym (append_assoc (reply_of s l) h.1 (replies_to s more))
    ∙ ap (λ (t : List ℕ). t ++ replies_to s more)
    (sym (h.2 ∙ ap (λ (j : ℕ). answer_text s l j ++ h.1) is))

pub reply : CalmSessionsReply
reply s tries b n all count some calm h =
    let f = h.few.faults calm.faults in
    let g = h.few.expired calm.expiries in
    let x = calm.same_faults in
    let y = calm.same_expiries in
    let two : count_by (λ k. k == 2) h.ks ≡ 0 = omega (arith, f, x) in
    let four : count_by (λ k. k == 4) h.ks ≡ 0 =
    no_times (count_by (λ k. k == 4) h.ks) tries some (omega (arith, g, y)) in
    let is : h.text ≡ replies s all =
    sym (ap (λ (ls : List (List ℕ)). replies_to s ls) (sym (append-nil (lines_to_serve all)))
    ∙ replied s (lines_to_serve all) [] h.ks h.text h.answers (two, four) h.short ∙ append-nil h.text) in
    subst (λ (t : List ℕ). Took b.sink.took n.sink.took t) is h.took

pub end : CalmSessionsEnd
end s tries b n all some calm h =
    let f = h.few.faults calm.faults in
    let g = h.few.expired calm.expiries in
    let x = calm.same_faults in
    let y = calm.same_expiries in
    let two : count_by (λ k. k == 2) h.ks ≡ 0 = omega (arith, f, x) in
    let four : count_by (λ k. k == 4) h.ks ≡ 0 =
    no_times (count_by (λ k. k == 4) h.ks) tries some (omega (arith, g, y)) in
    let is : h.text ++ word_line (codes "OVER") ≡ replies s all =
    sym (ap (λ (ls : List (List ℕ)). replies_to s ls) h.first
    ∙ replied s h.lines (h.line ∷ h.more) h.ks h.text h.answers (two, four) h.short
    ∙ ap (λ (c : Bool). h.text ++ cond c (word_line (codes "OVER")) (reply_of s h.line ++ replies_to s h.more))
    h.long) in
    subst (λ (t : List ℕ). Took b.sink.took n.sink.took t) is h.took

-- what stands in place of a reply to a line that is too long is the front of the replies to it and the others
over_front : (s : Store) (ls : List (List ℕ)) → (rest : List ℕ) × (replies_to s ls ≡ over_line ls ++ rest)
over_front s [] = ([], refl)
over_front s (l ∷ ls) = go (is_too_long l)
  where
    go : (c : Bool) → (rest : List ℕ) × (cond c (word_line (codes "OVER")) (reply_of s l ++ replies_to s ls)
        ≡ cond c (word_line (codes "OVER")) [] ++ rest)
    go true = ([], sym (append-nil (word_line (codes "OVER"))))
    go false = (reply_of s l ++ replies_to s ls, refl)

pub begin : CalmSessionsBegin
begin s tries b n all some calm h =
    let f = h.few.faults calm.faults in
    let g = h.few.expired calm.expiries in
    let x = calm.same_faults in
    let y = calm.same_expiries in
    let two : count_by (λ k. k == 2) h.ks ≡ 0 = omega (arith, f, x) in
    let four : count_by (λ k. k == 4) h.ks ≡ 0 =
    no_times (count_by (λ k. k == 4) h.ks) tries some (omega (arith, g, y)) in
    let over = over_front s h.more in
    let is : (h.text ++ over_line h.more) ++ over.0 ≡ replies s all =
    append_assoc h.text (over_line h.more) over.0
    ∙ sym (ap (λ (ls : List (List ℕ)). replies_to s ls) h.first
    ∙ replied s h.lines h.more h.ks h.text h.answers (two, four) h.short
    ∙ ap (λ (t : List ℕ). h.text ++ t) over.1) in
    subst (λ (t : List ℕ). TookPrefix b.sink.took n.sink.took t) is
    (prefix_front b.sink.took n.sink.took (h.text ++ over_line h.more) over.0 h.took)
