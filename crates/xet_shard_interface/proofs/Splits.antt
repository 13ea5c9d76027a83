-- Parts of a list of which all members have a property.
use Rattle.std.proofs.Common.{List, [], ◌∷◌, ◌++◌}
use Rattle.std.specs.Prelude.{All}
use Rattle.std.proofs.lemmas.List.Elements.{All-nil, All-cons, All-head, All-tail}

pub All-append_left : {X : Type 0} (P : X → Type 0) → (xs ys : List X) → All P (xs ++ ys) → All P xs
All-append_left P [] ys a = All-nil P
All-append_left P (x ∷ xs) ys a = All-cons P x xs (All-head P x (xs ++ ys) a) (All-append_left P xs ys (All-tail P x (xs ++ ys) a))

pub All-append_right : {X : Type 0} (P : X → Type 0) → (xs ys : List X) → All P (xs ++ ys) → All P ys
All-append_right P [] ys a = a
All-append_right P (x ∷ xs) ys a = All-append_right P xs ys (All-tail P x (xs ++ ys) a)
