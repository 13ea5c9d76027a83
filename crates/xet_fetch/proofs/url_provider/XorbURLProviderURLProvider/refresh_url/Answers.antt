use Rattle.std.proofs.Common.{rules}
use Rattle.xet_fetch.proofs.Fetching.{refresh_fits}
use Rattle.xet_fetch.proofs.url_provider.XorbURLProviderURLProvider.refresh_url.Goals as goal

pub invariant_of-self-clause-in_table : goal.invariant_of-self-clause-in_table
invariant_of-self-clause-in_table g c =
    let s = c.args.self.now in
    refresh_fits s.url_info.now c.refresh_retrieval_urls.new.table (g.C.Client.told s.client.now) (g.C.Client.told c.refresh_retrieval_urls.new.client) s.last s.blocks.now s.multirange c.refresh_retrieval_urls.result s.xorb_block_index
    c.refresh_retrieval_urls.ensures (search rules) (search rules)
