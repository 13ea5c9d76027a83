use Rattle.std.proofs.Common.{rules, ◌≡◌, List, ◌∙◌, sym, ap, map}
use Rattle.std.specs.Map.Iter.{deref_pair}
use Rattle.std.proofs.lemmas.Simd.{map-map}
use Rattle.std.proofs.lemmas.Map.Iter.{btree_map_turn, iter_end, rest_so_far}
use Rattle.xet_base.specs.declared.item_id.UniqueID.{UniqueID}
use Rattle.xet_base.specs.contracts.item_id.UniqueIDOrd.TheImpl.Laws.{total-law}
use Rattle.xet_progress_state.specs.declared.item.ItemProgress.{ItemProgress}
use Rattle.xet_progress_state.specs.Items.{report_of}
use Rattle.xet_progress_state.proofs.Groups.{reports_more}
use Rattle.xet_progress_state.proofs.group.add_reports.Goals as goal

pub loop-id-preserved : goal.loop-id-preserved
loop-id-preserved c =
    let start : c.into_iter-id-iterator.result ≡ c.args.items.now.entries = search rules in
    let turn = btree_map_turn (deref_pair {K = UniqueID} {X = ItemProgress}) c.loop-id.yielded _ _ _ c.next.result (c.in-Some.id, c.in-Some.item) c.loop-id.yielded_by c.in-Some.is c.next.ensures.steps total-law c.args.items.now start c.iter-id-items.ensures.ordered in
    let so_far = rest_so_far (deref_pair {K = UniqueID} {X = ItemProgress}) c.loop-id.yielded _ c.loop-id.id-iterator c.loop-id.yielded_by in
    reports_more c.args.items.now.entries c.loop-id.id-iterator c.loop-id.yielded (c.in-Some.id, c.in-Some.item) c.loop-id.reports.entries c.add_report.new.reports.entries (report_of c.in-Some.item.now) (sym start ∙ so_far) c.loop-id.invariant turn.2 (search rules) (search rules)

pub returns : goal.returns
returns c =
    let start : c.into_iter-id-iterator.result ≡ c.args.items.now.entries = search rules in
    let all = iter_end (deref_pair {K = UniqueID} {X = ItemProgress}) c.args.items.now.entries c.loop-id.yielded _ _ _ c.next.result start c.loop-id.yielded_by c.in-None.is c.next.ensures.steps in
    c.loop-id.invariant
    ∙ sym (map-map (λ (e : UniqueID × ItemProgress). (e.0, report_of e.1)) (deref_pair {K = UniqueID} {X = ItemProgress}) c.loop-id.yielded)
    ∙ ap (λ (l : List (UniqueID × ItemProgress)). map (λ e. (e.0, report_of e.1)) l) all.0
