use Rattle.std.proofs.Common.{◌≡◌, ◌∷◌, [], Ok, Err, Some, None, map, rules}
use Rattle.xet_base.specs.Lists.{first_some}
use Rattle.xet_base.proofs.CallerLemmas.{err-of}
use Rattle.xet_error.specs.declared.error.FileReconstructionError.{FileReconstructionError}
use Rattle.xet_blocks.specs.declared.reconstruction_terms.file_term.TermBlock.{TermBlock}
use Rattle.xet_requests.specs.Refreshes.{Refresh, blocks_test, extent_of, range_test}
use Rattle.xet_blocks.specs.TermBlockCalls.{TermBlockCall}
use Rattle.xet_requests.proofs.Refreshing.{fresh_err, fresh_fails, fresh_ok}
use Rattle.xet_requests.proofs.retrieval_urls.fresh_urls.Goals as goal

pub returns-in_err-made : goal.returns-in_err-made
returns-in_err-made g c =
    let b = g.C.Client.told c.args.client.now in
    let n = g.C.Client.told c.retrieve_file_term_block.new.client in
    let r : Refresh = record { file = c.args.file_hash; range = c.args.byte_range; multirange = c.args.multirange; blocks = map extent_of c.args.blocks.now } in
    let fault : FileReconstructionError = c.in_err-made.field-0.0 in
    let e : c.from_residual.result ≡ Err fault = err-of _ _ c.from_residual.ensures in
    rw e (fresh_err b n r c.null-id.result fault c.in_err-made.ensures)

pub returns-in-Some-failed_refresh : goal.returns-in-Some-failed_refresh
returns-in-Some-failed_refresh g c =
    let b = g.C.Client.told c.args.client.now in
    let n = g.C.Client.told c.retrieve_file_term_block.new.client in
    let r : Refresh = record { file = c.args.file_hash; range = c.args.byte_range; multirange = c.args.multirange; blocks = map extent_of c.args.blocks.now } in
    let block : TermBlock = c.in-Some.block in
    let call : TermBlockCall b n (record { file = r.file; range = r.range; multirange = r.multirange; id = c.null-id.result }) (Ok (Some block)) = rw c.in-Some.is at c.in_ok-made.ensures in
    let fails : first_some (range_test r.range block.byte_range ∷ blocks_test r.blocks (map extent_of block.blocks) ∷ []) ≡ Some c.in-Some-failed_refresh.fault = search rules in
    fresh_fails b n r c.null-id.result block c.in-Some-failed_refresh.fault call fails

pub returns : goal.returns
returns g c =
    let b = g.C.Client.told c.args.client.now in
    let n = g.C.Client.told c.retrieve_file_term_block.new.client in
    let r : Refresh = record { file = c.args.file_hash; range = c.args.byte_range; multirange = c.args.multirange; blocks = map extent_of c.args.blocks.now } in
    let block : TermBlock = c.in-Some.block in
    let call : TermBlockCall b n (record { file = r.file; range = r.range; multirange = r.multirange; id = c.null-id.result }) (Ok (Some block)) = rw c.in-Some.is at c.in_ok-made.ensures in
    let passes : first_some (range_test r.range block.byte_range ∷ blocks_test r.blocks (map extent_of block.blocks) ∷ []) ≡ None = search rules in
    fresh_ok b n r c.null-id.result block c.into_retrieval_urls.result call passes (search rules)
