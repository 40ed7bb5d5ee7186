-- How a run ends.
use Rattle.std.specs.Prelude.{ℕ}
use Rattle.sfs.specs.declared.ending.Ending.{Ending}
use Rattle.sfs.specs.declared.ending.Ending.TheVariants as ending
use Rattle.sfs.specs.declared.status.Status.{Status}
use Rattle.sfs.specs.declared.status.Status.TheVariants as status
use Rattle.line_stream.specs.declared.stop.Stop.{Stop}
use Rattle.line_stream.specs.declared.stop.Stop.TheVariants as stop

-- the exit status
abbrev pub code_of : Status → ℕ
code_of status.Done = 0
code_of status.Differs = 1
code_of status.Usage = 2
code_of status.Refused = 3
code_of status.ReadFault = 4
code_of status.WriteFault = 5
code_of status.NoMemory = 6
code_of status.DiskFault = 7
code_of status.PortFault = 8

-- the status of a replay that came to its end
abbrev pub ended_as : Ending → Status
ended_as ending.Ended = status.Done
ended_as ending.Refused = status.Refused

-- the status of one that was stopped
abbrev pub stopped_as : Stop → Status
stopped_as stop.ReadFault = status.ReadFault
stopped_as stop.WriteFault = status.WriteFault
stopped_as stop.NoMemory = status.NoMemory
