-- The texts of a list's elements, written one after another.
use Rattle.std.proofs.Common.{◌≡◌, ℕ, ◌+◌, ◌<◌, ◌≤◌, List, [], ◌++◌, take, drop, length, get_or, Option, Some, None, Ok, Err, refl, ap, sym, subst, ◌∙◌, arith}
use Rattle.std.specs.Prelude.{Result}
use Rattle.std.specs.List.{flat_map}
use Rattle.std.proofs.lemmas.List.{append-nil, flat_map_more, take-append-drop, take_all, take_more}
use Rattle.std.proofs.lemmas.List.Concat.{flat_map-append}
use Rattle.xet_outside.specs.declared.sink.SinkError.{SinkError}
use Rattle.xet_outside.specs.declared.sink.SinkError.TheVariants as sink_error
use Rattle.xet_outside.specs.Told.{SinkTold, Took}
use Rattle.xet_outside.specs.Written.{WroteAll}
use Rattle.xet_outside.proofs.CallerLemmas.{prefix_after, prefix_front, took_both, whole_prefix}

le_self : (n : ℕ) → n ≤ n
le_self n = omega arith

took_nothing : (a : Option (List ℕ)) → Took a a []
took_nothing None = refl
took_nothing (Some xs) = ap Some (sym (append-nil xs))

-- memory ended before the first byte of a text
pub wrote_nothing : (b : SinkTold) (text : List ℕ) → WroteAll b b text (Err sink_error.OutOfMemory)
wrote_nothing b text = record {
  took = tt;
  prefix = prefix_front b.took b.took [] text (whole_prefix b.took b.took [] (took_nothing b.took));
  flushed = refl;
  link = refl;
  faults = le_self b.faults;
  failed = λ z. cc;
  unfailed = tt;
  short = λ z. refl;
}

-- two texts, the second of which may not be written whole
pub wrote_second : (b m n : SinkTold) (xs ys : List ℕ) (e : SinkError) → WroteAll b m xs (Ok tt) → WroteAll m n ys (Err e) → WroteAll b n (xs ++ ys) (Err e)
wrote_second b m n xs ys e v w = record {
  took = tt;
  prefix = prefix_after b.took m.took n.took xs ys v.took w.prefix;
  flushed = w.flushed ∙ v.flushed;
  link = w.link ∙ v.link;
  faults = rw v.unfailed at w.faults;
  failed = λ z. rw v.unfailed at (w.failed z);
  unfailed = tt;
  short = λ z. w.short z ∙ v.unfailed;
}

pub wrote_both : (b m n : SinkTold) (xs ys : List ℕ) → WroteAll b m xs (Ok tt) → WroteAll m n ys (Ok tt) → WroteAll b n (xs ++ ys) (Ok tt)
wrote_both b m n xs ys v w = record {
  took = took_both b.took m.took n.took xs ys v.took w.took;
  prefix = tt;
  flushed = w.flushed ∙ v.flushed;
  link = w.link ∙ v.link;
  faults = rw v.unfailed at w.faults;
  failed = λ z. cc;
  unfailed = w.unfailed ∙ v.unfailed;
  short = λ z. cc;
}

pub wrote_then : (b m n : SinkTold) (xs ys : List ℕ) (answer : Result (Unit {0}) SinkError) → WroteAll b m xs (Ok tt) → WroteAll m n ys answer → WroteAll b n (xs ++ ys) answer
wrote_then b m n xs ys (Ok tt) v w = wrote_both b m n xs ys v w
wrote_then b m n xs ys (Err e) v w = wrote_second b m n xs ys e v w

-- the first of two texts was not written whole
pub wrote_first : (b n : SinkTold) (xs ys : List ℕ) (e : SinkError) → WroteAll b n xs (Err e) → WroteAll b n (xs ++ ys) (Err e)
wrote_first b n xs ys e w = record {
  took = tt;
  prefix = prefix_front b.took n.took xs ys w.prefix;
  flushed = w.flushed;
  link = w.link;
  faults = w.faults;
  failed = w.failed;
  unfailed = tt;
  short = w.short;
}

-- ---- the texts of a list's first elements

pub wrote_none : (b : SinkTold) → WroteAll b b [] (Ok tt)
wrote_none b = record {
  took = took_nothing b.took;
  prefix = tt;
  flushed = refl;
  link = refl;
  faults = le_self b.faults;
  failed = λ z. cc;
  unfailed = refl;
  short = λ z. cc;
}

module _ {A : Type 0} (f : A → List ℕ) (xs : List A) where
  -- those before an element, and its own
  one_more : (i : ℕ) (d : A) → i < length xs → flat_map f (take i xs) ++ f (get_or xs i d) ≡ flat_map f (take (i + 1) xs)
  one_more i d h = flat_map_more f [] (take i xs) (get_or xs i d) ∙ ap (flat_map f) (sym (take_more xs i d h))

  -- those of the first elements, and of the others
  all_of : (i : ℕ) → flat_map f (take i xs) ++ flat_map f (drop i xs) ≡ flat_map f xs
  all_of i = sym (flat_map-append f (take i xs) (drop i xs)) ∙ ap (flat_map f) (take-append-drop i xs)

  -- an element more
  pub wrote_one : (i : ℕ) (d : A) (b m n : SinkTold) → i < length xs → WroteAll b m (flat_map f (take i xs)) (Ok tt) → WroteAll m n (f (get_or xs i d)) (Ok tt)
      → WroteAll b n (flat_map f (take (i + 1) xs)) (Ok tt)
  wrote_one i d b m n h v w =
      subst (λ (l : List ℕ). WroteAll b n l (Ok tt)) (one_more i d h) (wrote_both b m n (flat_map f (take i xs)) (f (get_or xs i d)) v w)

  -- an element was not written whole
  pub wrote_part : (i : ℕ) (d : A) (b m n : SinkTold) (e : SinkError) → i < length xs → WroteAll b m (flat_map f (take i xs)) (Ok tt) → WroteAll m n (f (get_or xs i d)) (Err e)
      → WroteAll b n (flat_map f xs) (Err e)
  wrote_part i d b m n e h v w =
      let one = subst (λ (l : List ℕ). WroteAll b n l (Err e)) (one_more i d h) (wrote_second b m n (flat_map f (take i xs)) (f (get_or xs i d)) e v w) in
      subst (λ (l : List ℕ). WroteAll b n l (Err e)) (all_of (i + 1)) (wrote_first b n (flat_map f (take (i + 1) xs)) (flat_map f (drop (i + 1) xs)) e one)

  -- all elements
  pub wrote_each : (i : ℕ) (b n : SinkTold) → length xs ≤ i → WroteAll b n (flat_map f (take i xs)) (Ok tt) → WroteAll b n (flat_map f xs) (Ok tt)
  wrote_each i b n h v = subst (λ (ys : List A). WroteAll b n (flat_map f ys) (Ok tt)) (take_all i xs h) v
