-- The entries that a cache gained, after one more step.
use Rattle.std.proofs.Common.{◌≡◌, ◌⊎◌, List, [], ◌∷◌, ◌++◌, refl, subst, ◌∙◌, inl, inr}
use Rattle.std.specs.Prelude.{All}
use Rattle.std.proofs.lemmas.List.Elements.{All-nil, All-push, All-weaker}
use Rattle.xet_outside.specs.Told.{CacheEntry, CacheTold}
use Rattle.xet_outside.proofs.CallerLemmas.{added_both, added_none}
use Rattle.xet_ties.specs.Gains.{GainedServed, IsServedEntry}
use Rattle.xet_ties.specs.InCall.{EachGrew, Exchange}
use Rattle.xet_ties.specs.Setup.{Setup}
use Rattle.xet_ties.specs.Moves.{PutEntry}
use Rattle.xet_ties.proofs.Heard.{block_more, served_more}

-- an entry of a served block stays one
pub served_entry_more : (g : Setup) (xs ys : List Exchange) (e : CacheEntry) → EachGrew xs ys → IsServedEntry g xs e
    → IsServedEntry g ys e
served_entry_more g xs ys e w h = record {
  place = block_more g xs ys w h.place;
  range = h.range;
  one = h.one;
  data_of = h.data_of;
  served = served_more xs ys h.place.accepted.said.number h.place.number h.place.block h.data_of w h.served;
  is = h.is;
}

-- nothing was gained
pub gained_none : (g : Setup) (xs : List Exchange) (c : CacheTold) → GainedServed g xs c c
gained_none g xs c = record {
  gained = [];
  added = added_none c.entries c.entries refl;
  served = All-nil (IsServedEntry g xs);
}

-- the cache tells the same entries
pub gained_same : (g : Setup) (xs : List Exchange) (b n to : CacheTold) → to.entries ≡ n.entries → GainedServed g xs b n
    → GainedServed g xs b to
gained_same g xs b n to e t = record { gained = t.gained; added = e ∙ t.added; served = t.served }

-- more was heard
pub gained_more : (g : Setup) (xs ys : List Exchange) (b n : CacheTold) → EachGrew xs ys → GainedServed g xs b n
    → GainedServed g ys b n
gained_more g xs ys b n w t = record {
  gained = t.gained;
  added = t.added;
  served = All-weaker (IsServedEntry g xs) (IsServedEntry g ys) (λ e h. served_entry_more g xs ys e w h) t.gained
      t.served;
}

-- the same was heard
pub gained_as : (g : Setup) (xs ys : List Exchange) (b n : CacheTold) → xs ≡ ys → GainedServed g xs b n
    → GainedServed g ys b n
gained_as g xs ys b n e t = record {
  gained = t.gained;
  added = t.added;
  served = subst (λ (zs : List Exchange). All (IsServedEntry g zs) t.gained) e t.served;
}

-- one more entry, or none
pub gained_put : (g : Setup) (xs : List Exchange) (b n to : CacheTold) → (to.entries ≡ n.entries) ⊎ PutEntry g xs n to
    → GainedServed g xs b n → GainedServed g xs b to
gained_put g xs b n to (inl e) t = gained_same g xs b n to e t
gained_put g xs b n to (inr p) t = record {
  gained = t.gained ++ p.entry ∷ [];
  added = added_both b.entries n.entries to.entries t.gained (p.entry ∷ []) t.added p.grew;
  served = All-push (IsServedEntry g xs) t.gained p.entry t.served p.served;
}
