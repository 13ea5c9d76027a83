use Rattle.std.proofs.Common.{ap, ◌≡◌, ◌∷◌}
use Rattle.std.specs.Prelude.{List, ℕ}
use Rattle.xet_clean.specs.Cleaners.{Cleaner}
use Rattle.xet_clean.specs.Showing.{cleaner_of}
use Rattle.xet_clean.proofs.Feeding.{next-some}
use Rattle.xet_clean.proofs.FoundCuts.{front-of}
use Rattle.xet_clean.proofs.cleaner.SingleFileCleaner.next_chunk.Goals as goal

pub take-requires : goal.take-requires
take-requires g c =
    let items : c.args.cuts.now.items ≡ c.in-Some.info ∷ c.pop_front.new.self.items =
    rw c.in-Some.is at c.pop_front.ensures.items in
    (front-of _ _ _ _ _ (rw items at c.requires)).within

pub returns-in_ok-chunk-in-Some-clause-next : goal.returns-in_ok-chunk-in-Some-clause-next
returns-in_ok-chunk-in-Some-clause-next g c =
    let items : c.args.cuts.now.items ≡ c.in-Some.info ∷ c.pop_front.new.self.items =
    rw c.in-Some.is at c.pop_front.ensures.items in
    let front = front-of _ _ _ _ _ (rw items at c.requires) in
    let before : Cleaner = cleaner_of g.T.Cutter.told c.args.self.now in
    next-some _ _ _ _ _ (ap (λ (xs : List ℕ). record before { pending = xs }) c.in_ok-chunk-in-Some.ensures.rest)
    c.in_ok-chunk-in-Some.ensures.front front.within front.place

pub returns-in_ok-chunk-in-Some-clause-some : goal.returns-in_ok-chunk-in-Some-clause-some
returns-in_ok-chunk-in-Some-clause-some g c =
    let items : c.args.cuts.now.items ≡ c.in-Some.info ∷ c.pop_front.new.self.items =
    rw c.in-Some.is at c.pop_front.ensures.items in
    rw c.in_ok-chunk-in-Some.ensures.front (front-of _ _ _ _ _ (rw items at c.requires)).some

pub returns-in_ok-chunk-in-Some-clause-short : goal.returns-in_ok-chunk-in-Some-clause-short
returns-in_ok-chunk-in-Some-clause-short g c =
    let items : c.args.cuts.now.items ≡ c.in-Some.info ∷ c.pop_front.new.self.items =
    rw c.in-Some.is at c.pop_front.ensures.items in
    rw c.in_ok-chunk-in-Some.ensures.front (front-of _ _ _ _ _ (rw items at c.requires)).short

pub returns-in_ok-chunk-in-Some-clause-hashed : goal.returns-in_ok-chunk-in-Some-clause-hashed
returns-in_ok-chunk-in-Some-clause-hashed g c =
    let items : c.args.cuts.now.items ≡ c.in-Some.info ∷ c.pop_front.new.self.items =
    rw c.in-Some.is at c.pop_front.ensures.items in
    rw c.in_ok-chunk-in-Some.ensures.front (front-of _ _ _ _ _ (rw items at c.requires)).hashed

pub returns-in_ok-chunk-in-Some-clause-cuts : goal.returns-in_ok-chunk-in-Some-clause-cuts
returns-in_ok-chunk-in-Some-clause-cuts g c =
    let items : c.args.cuts.now.items ≡ c.in-Some.info ∷ c.pop_front.new.self.items =
    rw c.in-Some.is at c.pop_front.ensures.items in
    rw c.in_ok-chunk-in-Some.ensures.rest (front-of _ _ _ _ _ (rw items at c.requires)).left
