-- Connections and a cache that go on.
use Rattle.std.proofs.Common.{◌≡◌, List, [], ◌∷◌, length, refl, ◌∙◌, ap, arith, suc}
use Rattle.xet_base.specs.Store.{Store}
use Rattle.xet_outside.specs.Told.{ClientTold}
use Rattle.xet_ties.specs.Setup.{AllTell, ClientGoesOn, EachGoesOn, IsOver}
use Rattle.xet_serve.specs.steps.Fetching.{GoesOn, Lent}

pub one_same : (c : ClientTold) → ClientGoesOn c c
one_same c = record { store = refl; link = refl; faults = omega arith; expiries = omega arith }

pub one_then : (b m n : ClientTold) → ClientGoesOn b m → ClientGoesOn m n → ClientGoesOn b n
one_then b m n p q = record {
  store = q.store ∙ p.store;
  link = q.link ∙ p.link;
  faults = (let x = p.faults in let y = q.faults in omega (arith, x, y));
  expiries = (let x = p.expiries in let y = q.expiries in omega (arith, x, y));
}

pub each_same : (cs : List ClientTold) → EachGoesOn cs cs
each_same [] = tt
each_same (c ∷ cs) = (one_same c, each_same cs)

pub each_then : (cs ds es : List ClientTold) → EachGoesOn cs ds → EachGoesOn ds es → EachGoesOn cs es
each_then [] [] [] p q = tt
each_then [] [] (e ∷ es) p q = q
each_then [] (d ∷ ds) es p q = absurd p
each_then (c ∷ cs) [] es p q = absurd p
each_then (c ∷ cs) (d ∷ ds) [] p q = absurd q
each_then (c ∷ cs) (d ∷ ds) (e ∷ es) p q = (one_then c d e p.0 q.0, each_then cs ds es p.1 q.1)

pub same_length : (cs ds : List ClientTold) → EachGoesOn cs ds → length ds ≡ length cs
same_length [] [] g = refl
same_length [] (d ∷ ds) g = absurd g
same_length (c ∷ cs) [] g = absurd g
same_length (c ∷ cs) (d ∷ ds) g = ap suc (same_length cs ds g.1)

all_tell : (s : Store) (cs ds : List ClientTold) → EachGoesOn cs ds → AllTell s cs → AllTell s ds
all_tell s [] [] g t = tt
all_tell s [] (d ∷ ds) g t = absurd g
all_tell s (c ∷ cs) [] g t = absurd g
all_tell s (c ∷ cs) (d ∷ ds) g t = (g.0.store ∙ t.0, all_tell s cs ds g.1 t.1)

pub over_on : (s : Store) (cs ds : List ClientTold) → EachGoesOn cs ds → IsOver s cs → IsOver s ds
over_on s cs ds g o = record { tell = all_tell s cs ds g o.tell; valid = o.valid }

pub goes_same : (b : Lent) → GoesOn b b
goes_same b = record { clients = each_same b.clients; cache = λ s o h. h }

pub goes_then : (b m n : Lent) → GoesOn b m → GoesOn m n → GoesOn b n
goes_then b m n p q = record {
  clients = each_then b.clients m.clients n.clients p.clients q.clients;
  cache = λ s o h. q.cache s (over_on s b.clients m.clients p.clients o) (p.cache s o h);
}
