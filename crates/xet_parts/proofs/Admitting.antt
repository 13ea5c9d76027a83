-- The loop that admits planned terms.
use Rattle.std.proofs.Common.{◌≡◌, ℕ, ◌+◌, ◌-◌, ◌<◌, List, [], ◌∷◌, ◌++◌, length, Ok, Err, refl, sym, subst, ◌∙◌, ap, arith, append_assoc}
use Rattle.std.proofs.lemmas.List.{append-nil, map-append, length-append}
use Rattle.xet_error.specs.declared.error.FileReconstructionError.TheVariants as error
use Rattle.xet_events.specs.declared.event.Event.{Event}
use Rattle.xet_events.specs.declared.event.Event.TheVariants.{Admit}
use Rattle.xet_events.specs.Allowed.{IsAllowed}
use Rattle.xet_events.specs.Limits.{LimitCall, LimitTold}
use Rattle.xet_parts.specs.Admissions.{AdmitTermsCall, GaveLimits, admits}

-- one limit more was given
pub limits_push : (b m n : LimitTold) (ls : List ℕ) (l : ℕ) → GaveLimits b m ls → LimitCall m n l → GaveLimits b n (ls ++ l ∷ [])
limits_push b m n [] l g c = (n, subst (λ (x : LimitTold). LimitCall x n l) g c, refl)
limits_push b m n (k ∷ ls) l g c = (g.0, g.1, limits_push g.0 m n ls l g.2 c)

-- so many terms of those that waited are left, and one was admitted under each limit that was given
pub record IsAdmitting (before now : LimitTold) (es fs : List Event) (waiting left : ℕ) : Type 0 where
  pub limits : List ℕ
  pub given : GaveLimits before now limits
  pub events : fs ≡ es ++ admits limits
  pub counted : length limits + left ≡ waiting

pub admitting_start : (m : LimitTold) (es : List Event) (w : ℕ) → IsAdmitting m m es es w w
admitting_start m es w = record { limits = []; given = refl; events = sym (append-nil es); counted = omega arith }

pub admitting_more : (b m n : LimitTold) (es fs hs : List Event) (w left l : ℕ) → IsAdmitting b m es fs w left → LimitCall m n l → hs ≡ fs ++ Admit l ∷ [] → 0 < left → IsAdmitting b n es hs w (left - 1)
admitting_more b m n es fs hs w left l i c e some = record {
  limits = i.limits ++ l ∷ [];
  given = limits_push b m n i.limits l i.given c;
  events = e ∙ ap (λ (x : List Event). x ++ Admit l ∷ []) i.events ∙ append_assoc es (admits i.limits) (Admit l ∷ []) ∙ ap (λ (x : List Event). es ++ x) (sym (map-append (λ (k : ℕ). Admit k) i.limits (l ∷ [])));
  counted = let h = i.counted in let k = length-append i.limits (l ∷ []) in omega (arith, h, k, some);
}

-- none waits any more
pub admitting_done : (b m : LimitTold) (es fs : List Event) (w left : ℕ) → IsAdmitting b m es fs w left → left ≡ 0 → AdmitTermsCall b m es fs w (Ok left)
admitting_done b m es fs w left i none = record {
  ok = record {
    unused = [];
    admitted = record { limits = i.limits; given = subst (GaveLimits b m) (sym (append-nil i.limits)) i.given; events = i.events };
    counted = i.counted;
    waits = none;
  };
  err = tt;
}

-- the next term may not be admitted
pub admitting_stuck : (b m n : LimitTold) (es fs hs : List Event) (w left l : ℕ) → IsAdmitting b m es fs w left → LimitCall m n l → hs ≡ fs → 0 < left → (IsAllowed fs (Admit l) → ⊥) → AdmitTermsCall b n es hs w (Ok left)
admitting_stuck b m n es fs hs w left l i c e some refused = record {
  ok = record {
    unused = l ∷ [];
    admitted = record { limits = i.limits; given = limits_push b m n i.limits l i.given c; events = e ∙ i.events };
    counted = i.counted;
    waits = (some, subst (λ (x : List Event). IsAllowed x (Admit l) → ⊥) (sym e) refused);
  };
  err = tt;
}

-- memory was wanting
pub admitting_short : (b m n : LimitTold) (es fs hs : List Event) (w left l : ℕ) → IsAdmitting b m es fs w left → LimitCall m n l → hs ≡ fs → AdmitTermsCall b n es hs w (Err error.OutOfMemory)
admitting_short b m n es fs hs w left l i c e = record {
  ok = tt;
  err = record { memory = refl; last = l; admitted = record { limits = i.limits; given = limits_push b m n i.limits l i.given c; events = e ∙ i.events } };
}
