-- The numbers by which programs tell a refusal (our own rule).
use Rattle.std.specs.Prelude.{ℕ}
use Rattle.cyc_types.specs.declared.refusal.Refusal.{Refusal}
use Rattle.cyc_types.specs.declared.refusal.Refusal.TheVariants.{Memory, BadWhen, BadInterval, BadNow, Full, Expanding, Busy}
use Rattle.cyc_types.specs.declared.refusal.Refusal.TheVariants.{NoCyclic, Pending, IdsSpent, CountSpent, HandlerRefused, NoCpu}
use Rattle.cyc_types.specs.declared.refusal.Refusal.TheVariants.{Offline, LastCpu, Omnipresent, Left, ScriptSyntax, ScriptShape}
use Rattle.cyc_types.specs.declared.refusal.Refusal.TheVariants.{TimeBack, NameTwice, NoName, Online}
use Rattle.cyc_types.specs.declared.refusal.Refusal.TheVariants.{Suspended, NotSuspended}

-- the number of each refusal; none has 18
abbrev pub number_of : Refusal → ℕ
number_of Memory = 1
number_of BadWhen = 2
number_of BadInterval = 3
number_of BadNow = 4
number_of Full = 5
number_of Expanding = 6
number_of (Busy id) = 7
number_of NoCyclic = 8
number_of Pending = 9
number_of IdsSpent = 10
number_of (CountSpent id) = 11
number_of (HandlerRefused id) = 12
number_of NoCpu = 13
number_of Offline = 14
number_of LastCpu = 15
number_of Omnipresent = 16
number_of (Left report) = 17
number_of ScriptSyntax = 19
number_of (ScriptShape step) = 20
number_of (TimeBack step) = 21
number_of (NameTwice step) = 22
number_of (NoName step) = 23
number_of Online = 24
number_of Suspended = 25
number_of NotSuspended = 26
