-- A missing file by what the first connection said.
use Rattle.std.proofs.Common.{◌≡◌, ℕ, ◌<◌, List, [], ◌∷◌, ◌∙◌, ap, Some}
use Rattle.std.specs.Prelude.{IsNone, slice_get}
use Rattle.xet_base.specs.Store.{Store, file_of}
use Rattle.xet_base.specs.declared.cas_types.FileRange.{FileRange}
use Rattle.xet_base.specs.declared.merklehash.MerkleHash.{MerkleHash}
use Rattle.xet_outside.specs.Answers.{plans_in}
use Rattle.xet_outside.specs.Told.{ClientTold}
use Rattle.xet_outside.specs.declared.plan.PlanAnswer.TheVariants.{NoFile}
use Rattle.xet_outside.specs.declared.said.Said.{Said}
use Rattle.xet_events.specs.declared.event.Event.{Event}
use Rattle.xet_ties.specs.Causes.{FirstSaysNone, IsMissingFile}
use Rattle.xet_ties.specs.InCall.{EachExchange, Exchange, new_in}
use Rattle.xet_ties.specs.Saids.{IsQueryAnswer}
use Rattle.xet_ties.specs.Setup.{AllTell, RunTold, Setup}
use Rattle.xet_ties.specs.Ties.{Slack, Stop, Ties}
use Rattle.xet_ties.proofs.Told.{if_some, told_new}

first_none : (f : MerkleHash) (q : FileRange) (bs ns : List ClientTold) (xs : List Exchange) → EachExchange bs ns xs → IsQueryAnswer f xs q NoFile → FirstSaysNone bs ns
first_none f q bs ns [] h a = absurd a
first_none f q [] [] (x ∷ xs) h a = absurd h
first_none f q [] (n ∷ ns) (x ∷ xs) h a = absurd h
first_none f q (b ∷ bs) [] (x ∷ xs) h a = absurd h
first_none f q (b ∷ bs) (n ∷ ns) (x ∷ xs) h a =
    if_some (new_in b.said n.said) (λ all. all ≡ x.said) (λ all. (i : ℕ) × (slice_get (plans_in all) i ≡ Some NoFile))
    (λ all e. (a.place, ap (λ (l : List Said). slice_get (plans_in l) a.place) e ∙ a.answer))
    (told_new b.said n.said x.said h.0.says)

-- a query was answered that there is no such file
pub missing_file : (g : Setup) (b n : RunTold) (es : List Event) (stop : Stop) (sl : Slack) (q : FileRange) → Ties g b n es stop sl → g.range.start < g.range.end → IsQueryAnswer g.file sl.heard q NoFile
    → ((s : Store) → AllTell s b.clients → IsNone (file_of s g.file)) → IsMissingFile g sl.heard b.clients n.clients
missing_file g b n es stop sl q t some answer none = record {
  some = some;
  said = (q, answer);
  first = first_none g.file q b.clients n.clients sl.heard t.heard answer;
  unstored = none;
}
