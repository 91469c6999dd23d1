-- Memory of zeros, and the monitor that lies in it: closed, and without rows (§15.13).
use Rattle.std.specs.Prelude.{replicate}
use Rattle.constraint.specs.Limits.{row_limit, stream_count}
use Rattle.row_type.specs.declared.Parameters.{Parameters}
use Rattle.row.specs.Machine.{row_from}
use Rattle.row.specs.Undo.{no_state, no_row_undo}
use Rattle.row.specs.declared.Row.{Row}
use Rattle.questions.specs.Questions.{no_undo}
use Rattle.monitor.specs.declared.Monitor.{Monitor}
use Rattle.in_place.specs.Layout.{Words}

-- §15.13
abbrev pub zeros : Words
zeros = replicate 35 (replicate 2 (replicate 64 0))

abbrev pub zero_parameters : Parameters
zero_parameters =
    record { tag = 0; first = 0; second = 0; third = 0; fourth = 0; fifth = 0; span = 0; lower = 0; upper = 0; jitter = 0; minimum = 0 }

abbrev pub zero_row : Row
zero_row = row_from zero_parameters (replicate 64 0) no_state

-- §15.13
abbrev pub zero_monitor : Monitor
zero_monitor =
    record {
      rows = replicate row_limit zero_row;
      next = replicate stream_count 0;
      clock = 0;
      count = 0;
      closed = 1;
      len = 0;
      before = replicate row_limit no_row_undo;
      undo = no_undo;
    }
