-- One more call at the end of a history.
use Rattle.std.proofs.Common.{◌≡◌, List, [], ◌∷◌, ◌++◌, refl, sym, ap, ◌∙◌}
use Rattle.xet_events.specs.declared.run_book.RunBook.{RunBook}
use Rattle.xet_events.specs.declared.run_call.RunCall.{RunCall}
use Rattle.xet_events.specs.RunReplay.{book_after, book_after_all, all_replied, replied}

after_last : (b : RunBook) (cs : List RunCall) (c : RunCall) → book_after_all b (cs ++ c ∷ []) ≡ book_after (book_after_all b cs) c
after_last b [] c = refl
after_last b (x ∷ cs) c = after_last (book_after b x) cs c

replied_last : (b : RunBook) (cs : List RunCall) (c : RunCall) → all_replied b (cs ++ c ∷ []) ≡ all_replied b cs ++ replied (book_after_all b cs) c ∷ []
replied_last b [] c = refl
replied_last b (x ∷ cs) c = ap (λ l. replied b x ∷ l) (replied_last (book_after b x) cs c)

-- what a kept call leaves
pub kept_state : (b now next : RunBook) (cs ds : List RunCall) (c : RunCall) → now ≡ book_after_all b cs → next ≡ book_after now c → ds ≡ cs ++ c ∷ [] → next ≡ book_after_all b ds
kept_state b now next cs ds c e f g = f ∙ (ap (λ (s : RunBook). book_after s c) e ∙ (sym (after_last b cs c) ∙ ap (book_after_all b) (sym g)))

pub kept_legal : (b now : RunBook) (cs ds : List RunCall) (c : RunCall) → now ≡ book_after_all b cs → all_replied b cs ≡ cs → replied now c ≡ c → ds ≡ cs ++ c ∷ [] → all_replied b ds ≡ ds
kept_legal b now cs ds c e h r g =
    let here : replied (book_after_all b cs) c ≡ c = ap (λ (s : RunBook). replied s c) (sym e) ∙ r in
    ap (all_replied b) g ∙ (replied_last b cs c ∙ (ap (λ l. l ++ replied (book_after_all b cs) c ∷ []) h ∙ (ap (λ x. cs ++ x ∷ []) here ∙ sym g)))
