-- The table's answer is that of its questions; over an accepted table all its rows are taken.
use Rattle.monitor.proofs.Names.{Accepted, ◌∙◌, after, ap, arith, monitor_of, never, play, refl, rows_length, rows_of, take_all}
use Rattle.constraint.proofs.Refusals.{exit_is}
use Rattle.monitor.proofs.{Demand.accepted_few, Demand.accepted_sound, FittingRows.sound_place}
use Rattle.monitor.proofs.Monitor.fresh_in.Goals as goal

pub over-requires : goal.over-requires
over-requires c =
    let table = c.args.table in
    let accepted : Accepted (rows_of table) = (_, c.in_ok-validate.ensures) in (
      omega arith,
      omega (arith, accepted_few (rows_of table) accepted, rows_length table),
      λ i h. (sound_place (rows_of table) (accepted_sound (rows_of table) accepted) i (omega (arith, rows_length table))).known,
    )

pub returns-in_err-validate : goal.returns-in_err-validate
unfolding after play
returns-in_err-validate c =
    rw (exit_is c.from_residual.result _ c.from_residual.ensures.1)
    (record { judged = c.in_err-validate.ensures; made = λ e. never (cc); refused = λ n e. refl })

pub returns : goal.returns
unfolding after play
returns c =
    let table = c.args.table in
    record {
      judged = c.in_ok-validate.ensures;
      made = λ e. c.over.ensures ∙ ap monitor_of (take_all table.count (rows_of table) (omega (arith, rows_length table)));
      refused = λ n e. never (cc);
    }
