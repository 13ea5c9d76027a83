use Rattle.xet_blocks.specs.PlanQuery.{PlanQuery}
use Rattle.xet_serve.proofs.Shorts.{one_made, one_untold}
use Rattle.xet_serve.proofs.short_range.fetch_once.Goals as goal

pub returns-in-Ok : goal.returns-in-Ok
returns-in-Ok g c =
    let q : PlanQuery = record {
      file = c.args.file;
      range = c.args.range;
      multirange = c.args.multirange;
      id = record { plan = 1; refresh = 0 };
    } in
    one_made q _ _ c.in-Ok.made _ _ _ _ c.in-Ok.ensures c.fetch_made.ensures

pub returns-in-Err : goal.returns-in-Err
returns-in-Err g c =
    let q : PlanQuery = record {
      file = c.args.file;
      range = c.args.range;
      multirange = c.args.multirange;
      id = record { plan = 1; refresh = 0 };
    } in
    one_untold q _ _ c.in-Err.error _ _ c.in-Err.ensures c.untold.ensures
