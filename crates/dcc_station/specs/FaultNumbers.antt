-- The numbers of the error codes.
use Rattle.std.specs.Prelude.{ℕ}
use Rattle.dcc_station.specs.declared.fault.StationFault.{StationFault}
use Rattle.dcc_station.specs.declared.fault.StationFault.TheVariants.{Limit, NoMemory}
use Rattle.dcc_station.specs.declared.fault.Refused.{Refused}
use Rattle.dcc_station.specs.declared.fault.Refused.TheVariants.{NotSendable, QueueFull}

-- the number of an error of a new station, 1 or 2 for the error codes C1 and C2
abbrev pub station_fault_number : StationFault → ℕ
station_fault_number Limit = 1
station_fault_number NoMemory = 2

-- the number of an error of a command, 3 or 4 for the error codes C3 and C4
abbrev pub refused_number : Refused → ℕ
refused_number NotSendable = 3
refused_number QueueFull = 4
