-- resume: fires are made again; the next one makes all that is due by then (cyclic_resume).
use Rattle.std.specs.Prelude.{ℕ, not, false, Option}
use Rattle.cyc_types.specs.declared.refusal.Refusal.{Refusal}
use Rattle.cyc_types.specs.declared.refusal.Refusal.TheVariants.{NotSuspended}
use Rattle.cyc_types.specs.Reasons.{when}
use Rattle.cyc_text.specs.Lines.{accepted}
use Rattle.cyc_model.specs.State.{State, Outcome, nothing, told}

abbrev pub resume_refusal : State → Option Refusal
resume_refusal s = when (not s.suspended) NotSuspended

abbrev pub resume : ℕ → State → Outcome
resume step s = told (accepted step) (nothing (record s { suspended = false }))
