-- How the answer of a function stands to what a definition gives: it is that, or memory ran out.
use Rattle.std.specs.Prelude.{◌≡◌, ◌⊎◌, ℕ, Result, Ok, Err}
use Rattle.cyc_types.specs.declared.refusal.Refusal.{Refusal}
use Rattle.cyc_types.specs.declared.refusal.Refusal.TheVariants as refusal
use Rattle.cyc_script.specs.declared.cause.Cause.{Cause}
use Rattle.cyc_script.specs.declared.cause.Cause.TheVariants as cause
use Rattle.cyc_script.specs.declared.stop.Stop.{Stop}
use Rattle.cyc_script.specs.declared.stop.Stop.TheVariants as stop

-- the refusal of the step of this number
abbrev pub refusal_of_step : ℕ → Cause → Refusal
refusal_of_step step cause.Memory = refusal.Memory
refusal_of_step step cause.Shape = refusal.ScriptShape step
refusal_of_step step cause.NameTwice = refusal.NameTwice step
refusal_of_step step cause.NoName = refusal.NoName step
refusal_of_step step cause.TimeBack = refusal.TimeBack step

-- the refusal of a text that is read no further
abbrev pub refusal_of_text : Stop → Refusal
refusal_of_text stop.Memory = refusal.Memory
refusal_of_text stop.NoJson = refusal.ScriptSyntax

-- the error is the wanted one, or memory
abbrev pub Fails : {E Y : Type 0} → E → E → Result Y E → Type 0
Fails memory error wanted = (error ≡ memory) ⊎ (wanted ≡ Err error)

-- the answer, as `view` sees it, is the wanted one, or memory
abbrev pub Gives : {X Y : Type 0} → (X → Y) → Result X Cause → Result Y Cause → Type 0
Gives view (Ok x) wanted = wanted ≡ Ok (view x)
Gives view (Err e) wanted = Fails cause.Memory e wanted

-- the answer, as `view` sees it, is the wanted one, or memory
abbrev pub Answers : {X Y : Type 0} → (X → Y) → Result X Refusal → Result Y Refusal → Type 0
Answers view (Ok x) wanted = wanted ≡ Ok (view x)
Answers view (Err e) wanted = Fails refusal.Memory e wanted
