use Rattle.std.proofs.Common.{◌≡◌, ◌∙◌, ap, map, refl, rules}
use Rattle.xet_base.specs.Store.{IsValid}
use Rattle.xet_outside.specs.Told.{ClientTold}
use Rattle.xet_connections.specs.declared.mem_client.MemClient.{MemClient}
use Rattle.xet_bench.specs.Bench.{bench_store}
use Rattle.xet_bench.proofs.Fetching.{all_calm, fetched, told_client}
use Rattle.xet_bench.proofs.running.run.Goals as goal

pub returns : goal.returns
returns g c =
    let told : MemClient → ClientTold = λ x. told_client x.store.now x.log in
    let valid : IsValid (bench_store c.args.bench.terms) = rw c.requires.store at c.recall_valid.ensures in
    let same : c.as_mut_slice.result.now ≡ c.in-Ok.clients.items = search rules in
    let connected = rw (c.in-Ok.is, c.requires.store) at c.connect.ensures in
    fetched c.calls_are_complete.ensures c.args.bench valid (map told c.as_mut_slice.result.now)
    (map told c.run_over.new.clients) _ _ _ _ (ap (map told) same ∙ connected) c.requires.cache c.requires.out
    (all_calm told (λ x. refl) (λ x. refl) _) refl c.run_over.result c.run_over.ensures
