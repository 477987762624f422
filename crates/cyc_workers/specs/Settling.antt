-- How a CPU is asked whether it has settled.
use Rattle.std.specs.Prelude.{List, Bool}
use Rattle.std.specs.List.{FoldsTo}
use Rattle.cyc_types.specs.declared.Raise.{Ghosts as Raise}
use Rattle.cyc_cpu.specs.Cpu.{CpuView}
use Rattle.cyc_cpu.specs.Laws.{IsLawful}
use Rattle.cyc_cpu.specs.Calls.{CpuChanges, AskSettled}

-- it was asked once, and is lawful after it
abbrev pub AsksSettled : {R : Type 0} → Raise R → CpuView R → Bool → CpuView R → Type 0
AsksSettled firing v answer w = CpuChanges firing v (AskSettled answer) w × IsLawful firing.view w

-- it was asked so often, with these answers, and nothing else was done
abbrev pub Settles : {R : Type 0} → Raise R → CpuView R → CpuView R → Type 0
Settles firing v w = (answers : List Bool) × FoldsTo (AsksSettled firing) v answers w
