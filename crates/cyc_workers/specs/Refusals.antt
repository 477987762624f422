-- Refusals of handlers.
use Rattle.std.specs.Prelude.{◌≡◌, ℕ}
use Rattle.cyc_types.specs.declared.refusal.Refusal.{Refusal}
use Rattle.cyc_types.specs.declared.refusal.Refusal.TheVariants.{HandlerRefused}

-- A handler may refuse its call of this cyclic at some moment: in a state of the handlers that need be none that the run came to.
-- So it says of an id that its handler can refuse, and not that one did.
abbrev pub CanRefuse : {C : Type 0} → (C → ℕ → Type 0) → ℕ → Type 0
CanRefuse {C} may_refuse id = (at : C) × may_refuse at id

-- the refusal is HandlerRefused of a cyclic whose handler can refuse
abbrev pub HandlerRefuses : {C : Type 0} → (C → ℕ → Type 0) → Refusal → Type 0
HandlerRefuses may_refuse e = (id : ℕ) × (e ≡ HandlerRefused id) × CanRefuse may_refuse id
