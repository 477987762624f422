-- suspend: no fire is made until a resume (cyclic_suspend). The mark stands once for all CPUs, offline ones too.
use Rattle.std.specs.Prelude.{ℕ, true, Option}
use Rattle.cyc_types.specs.declared.refusal.Refusal.{Refusal}
use Rattle.cyc_types.specs.declared.refusal.Refusal.TheVariants.{Suspended}
use Rattle.cyc_types.specs.Reasons.{when}
use Rattle.cyc_text.specs.Lines.{accepted}
use Rattle.cyc_model.specs.State.{State, Outcome, nothing, told}

abbrev pub suspend_refusal : State → Option Refusal
suspend_refusal s = when s.suspended Suspended

abbrev pub suspend : ℕ → State → Outcome
suspend step s = told (accepted step) (nothing (record s { suspended = true }))
