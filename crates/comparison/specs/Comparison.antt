-- Comparison: the row has no kind, so no event reaches its machine.
use Rattle.row_type.specs.Machine.{Machine, no_machine}

abbrev pub machine_comparison : Machine
machine_comparison = no_machine
