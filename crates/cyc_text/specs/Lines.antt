-- The lines of a replay: words separated by one space, numbers in decimal, and a newline at the end. Our own rule.
use Rattle.std.specs.Prelude.{ℕ, List, ◌++◌, codes, decimal, Bool, if◌then◌else◌}
use Rattle.cyc_types.specs.declared.refusal.JuggleReport.{JuggleReport}
use Rattle.cyc_text.specs.declared.lines.Counts.{Counts}

-- a step that was accepted
unfoldable pub accepted : ℕ → List ℕ
accepted step = decimal step ++ codes " ok\n"

-- a step that was refused, with the number of its refusal
unfoldable pub refused : ℕ → ℕ → List ℕ
refused step number = decimal step ++ (codes " refused " ++ (decimal number ++ codes "\n"))

-- an advance of the clock: the expirations that it made, and those of them that were lost
unfoldable pub fired : ℕ → ℕ → ℕ → List ℕ
fired step expired lost = decimal step ++ (codes " fired "
    ++ (decimal expired ++ (codes " lost " ++ (decimal lost ++ codes "\n"))))

-- a soft interrupt found nothing more to do, or used up its budget
abbrev pub ending : Bool → List ℕ
ending idle = if idle then codes " idle" else codes " more"

-- a soft interrupt: the calls that it made
unfoldable pub ran : ℕ → ℕ → Bool → List ℕ
ran step calls idle = decimal step ++ (codes " ran " ++ (decimal calls ++ (ending idle ++ codes "\n")))

-- a removal that has answered, with all calls of its cyclic
unfoldable pub removed : ℕ → List ℕ → ℕ → List ℕ
removed step name calls = decimal step ++ (codes " removed " ++ (name ++ (codes " " ++ (decimal calls ++ codes "\n"))))

-- a removal that waits for the calls that are kept
unfoldable pub kept : ℕ → ℕ → List ℕ
kept step calls = decimal step ++ (codes " kept " ++ (decimal calls ++ codes "\n"))

-- what became of the cyclics of a CPU, after a verb
abbrev pub shared : ℕ → List ℕ → JuggleReport → List ℕ
shared step verb r = decimal step ++ (verb
    ++ (decimal r.moved ++ (codes " bound " ++ (decimal r.bound
    ++ (codes " pending " ++ (decimal r.pending ++ (codes " refused " ++ (decimal r.refused ++ codes "\n"))))))))

-- a juggle
unfoldable pub moved : ℕ → JuggleReport → List ℕ
moved step r = shared step (codes " moved ") r

-- a CPU that stays online, since cyclics are left on it
unfoldable pub cyclics_left : ℕ → JuggleReport → List ℕ
cyclics_left step r = shared step (codes " left moved ") r

-- the report of a name: its expirations, and of them the calls made, lost and outstanding
unfoldable pub reported : List ℕ → Counts → List ℕ
reported name c = name ++ (codes " expired "
    ++ (decimal c.expired ++ (codes " called "
    ++ (decimal c.called ++ (codes " lost " ++ (decimal c.lost ++ (codes " pending " ++ (decimal c.pending ++ codes "\n"))))))))
