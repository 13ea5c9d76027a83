use Rattle.std.proofs.lemmas.Result.{err_from_is_err_and}
use Rattle.xet_serve.proofs.Turns.{over_cut, over_done, over_unflushed}
use Rattle.xet_serve.proofs.turn.over_turn.Goals as goal

pub returns-in_err-write_plainly : goal.returns-in_err-write_plainly
returns-in_err-write_plainly g c =
    let p = err_from_is_err_and c.from_residual.result c.from_residual.ensures.1 in
    rw (p.1, p.2) (record { fails = tt; did = over_cut _ _ _ (rw c.in_err-write_plainly.was at c.write_plainly.ensures) })

pub returns-in_err-flush : goal.returns-in_err-flush
returns-in_err-flush g c =
    let p = err_from_is_err_and c.from_residual-in_err-flush.result c.from_residual-in_err-flush.ensures.1 in
    rw (p.1, p.2) (record {
      fails = tt;
      did = over_unflushed _ _ _ _ (rw c.in_ok-write_plainly.was at c.write_plainly.ensures)
          (rw c.in_err-flush.was at c.flush.ensures);
    })

pub returns : goal.returns
returns g c = record {
  fails = tt;
  did = over_done _ _ _ (rw c.in_ok-write_plainly.was at c.write_plainly.ensures)
      (rw c.in_ok-flush.was at c.flush.ensures);
}
