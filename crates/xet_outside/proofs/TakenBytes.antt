-- What several writes took together.
use Rattle.std.proofs.Common.{◌≡◌, ℕ, ◌+◌, ◌-◌, ◌≤◌, List, ◌++◌, take, drop, length, Option, Some, None, Err, refl, sym, ap, ◌∙◌, arith, append_assoc, length-append, length-drop}
use Rattle.std.specs.Prelude.{option_map}
use Rattle.std.proofs.Math.Seq.{take-add, take-append-add, take-length}
use Rattle.std.proofs.lemmas.List.{take-append-le}
use Rattle.xet_outside.specs.declared.sink.SinkError.{SinkError}
use Rattle.xet_outside.specs.declared.sink.SinkError.TheVariants as sink_error
use Rattle.xet_outside.specs.Told.{SinkTold, Took, TookPrefix, WriteCall}
use Rattle.xet_outside.specs.Written.{WroteAll}

-- two growths, one after the other
pub took_both : (a b c : Option (List ℕ)) (xs ys : List ℕ) → Took a b xs → Took b c ys → Took a c (xs ++ ys)
took_both None b c xs ys e h = rw e at h
took_both (Some zs) b c xs ys e h = (rw e at h) ∙ ap Some (append_assoc zs xs ys)

-- the first bytes of a piece, and then the next
pub took_more : (a b c : Option (List ℕ)) (piece : List ℕ) (at k : ℕ) → Took a b (take at piece) → Took b c (take k (drop at piece)) → Took a c (take (at + k) piece)
took_more a b c piece at k e h = rw (take-add at k piece) (took_both a b c (take at piece) (take k (drop at piece)) e h)

-- all of it is a prefix
pub whole_prefix : (a b : Option (List ℕ)) (xs : List ℕ) → Took a b xs → TookPrefix a b xs
whole_prefix a b xs e = record { count = length xs; within = omega arith; took = e ∙ ap (λ (us : List ℕ). option_map (λ ys. ys ++ us) a) (sym (take-length xs)) }

-- the first bytes of a piece, and then a prefix of what is left of it
pub prefix_more : (a b c : Option (List ℕ)) (piece : List ℕ) (at : ℕ) → at ≤ length piece → Took a b (take at piece) → TookPrefix b c (drop at piece) → TookPrefix a c piece
prefix_more a b c piece at i e h = record {
  count = at + h.count;
  within = let n = length-drop at piece in let w = h.within in omega arith;
  took = took_more a b c piece at h.count e h.took;
}

-- the first bytes of a piece, and then nothing
pub prefix_here : (a b c : Option (List ℕ)) (piece : List ℕ) (at : ℕ) → at ≤ length piece → Took a b (take at piece) → c ≡ b → TookPrefix a c piece
prefix_here a b c piece at i e h = record { count = at; within = i; took = h ∙ e }

-- a first text, and then a prefix of a second one
pub prefix_after : (a b c : Option (List ℕ)) (xs ys : List ℕ) → Took a b xs → TookPrefix b c ys → TookPrefix a c (xs ++ ys)
prefix_after a b c xs ys t p = record {
  count = length xs + p.count;
  within = let l = length-append xs ys in let w = p.within in omega arith;
  took = rw (take-append-add xs ys p.count) (took_both a b c xs (take p.count ys) t p.took);
}

-- a prefix of the first of two texts
pub prefix_front : (a c : Option (List ℕ)) (xs ys : List ℕ) → TookPrefix a c xs → TookPrefix a c (xs ++ ys)
prefix_front a c xs ys p = record {
  count = p.count;
  within = let l = length-append xs ys in let w = p.within in omega arith;
  took = rw (take-append-le p.count xs ys p.within) p.took;
}

-- what `&piece[at..]` is
pub rest_is : (piece : List ℕ) (at : ℕ) → take (length piece - at) (drop at piece) ≡ drop at piece
rest_is piece at = rw (← length-drop at piece) (take-length (drop at piece))

-- a write of the rest that failed, after the first bytes were taken
pub wrote_err : (a b c : SinkTold) (piece : List ℕ) (at : ℕ) (e : SinkError) → at ≤ length piece → Took a.took b.took (take at piece) → b.flushed ≡ a.flushed → b.link ≡ a.link → b.faults ≡ a.faults → WriteCall b c (take (length piece - at) (drop at piece)) (Err e) → WroteAll a c piece (Err e)
wrote_err a b c piece at sink_error.OutOfMemory i t f g l h = record {
  took = tt;
  prefix = prefix_here a.took b.took c.took piece at i t (h.memory refl);
  flushed = h.flushed ∙ f;
  link = h.link ∙ g;
  faults = let m = h.faults in omega arith;
  failed = λ x. cc;
  unfailed = tt;
  short = λ _. h.short refl ∙ l;
}
wrote_err a b c piece at sink_error.Failed i t f g l h = record {
  took = tt;
  prefix = prefix_more a.took b.took c.took piece at i t (let p = h.prefix refl in rw rest_is at p);
  flushed = h.flushed ∙ f;
  link = h.link ∙ g;
  faults = let m = h.faults in omega arith;
  failed = λ _. let r = h.failed refl in omega arith;
  unfailed = tt;
  short = λ x. cc;
}
