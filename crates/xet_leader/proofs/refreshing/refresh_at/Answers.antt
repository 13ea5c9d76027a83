use Rattle.std.proofs.Common.{ℕ, ◌<◌, length, refl, subst, sym}
use Rattle.std.proofs.lemmas.Option.{slice_get_read}
use Rattle.xet_leader.proofs.refreshing.refresh_at.Goals as goal

pub returns : goal.returns
returns g c = record {
  plan = c.index_mut.result.now;
  block = c.refresh_table.new.block;
  at = slice_get_read c.args.plans.now.items (length c.args.plans.now.items) c.args.place c.index_mut.result.now refl
      c.requires.within c.index_mut.ensures.value;
  call = c.refresh_table.ensures;
  plans = refl;
}

pub index_mut-requires : goal.index_mut-requires
index_mut-requires g c =
    subst (λ (n : ℕ). c.args.place < n) (sym c.args.plans.now.ok.0) c.requires.within

pub refresh_table-requires : goal.refresh_table-requires
refresh_table-requires g c = c.requires.allowed
