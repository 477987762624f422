-- bind and unbind: a cyclic that stays on its CPU, and one that may be moved (cyclic_bind).
use Rattle.std.specs.Prelude.{ℕ, ◌==◌, ◌||◌, nat_lt, Bool, true, false, List, [], ◌∷◌, Option, Some, None}
use Rattle.cyc_types.specs.declared.refusal.Refusal.{Refusal}
use Rattle.cyc_types.specs.declared.refusal.Refusal.TheVariants.{NoCyclic, Pending, Omnipresent}
use Rattle.cyc_text.specs.Lines.{accepted}
use Rattle.cyc_script.specs.declared.step.Bind.{Bind as BindStep}
use Rattle.cyc_model.specs.Cpu.{CyclicState, cyclic_with_id}
use Rattle.cyc_model.specs.Moving.{take_here}
use Rattle.cyc_model.specs.Questions.{Questions}
use Rattle.cyc_model.specs.State.{State, Outcome, On, cpu_of, on_number, nothing, told, followed_by}
use Rattle.cyc_model.specs.Places.{id_of, is_no_cyclic, is_being_removed, is_omni, is_bound, home_of, put_at}
use Rattle.cyc_types.specs.Reasons.{first_refusal, when, busy}
use Rattle.cyc_model.specs.Refusals.{is_no_cpu, cpu_is_offline, no_room}
use Rattle.cyc_model.specs.Add.{enter}

-- there is no such cyclic, or its removal is open
abbrev pub cyclic_is_absent : ℕ → State → Option Refusal
cyclic_is_absent id s = when (is_no_cyclic id s || is_being_removed id s) NoCyclic

abbrev pub cyclic_is_omni : ℕ → State → Option Refusal
cyclic_is_omni id s = when (is_omni id s) Omnipresent

abbrev pub pending : Questions → ℕ → ℕ → State → Option Refusal
pending q n id s = when (nat_lt 0 (q.outstanding n id (cpu_of n s))) Pending

-- a cyclic that was taken from its CPU comes to another
abbrev pub bring : (ℕ → ℕ) → ℕ → Option CyclicState → State → Outcome
bring indexes target None s = nothing s
bring indexes target (Some x) s = enter indexes target x s

-- the cyclic moves with its id, its moment and its counts (cyclic_juggle_one_to)
abbrev pub move : (ℕ → ℕ) → ℕ → ℕ → ℕ → State → Outcome
move indexes id source target s = followed_by (on_number source (take_here source id) s)
    (λ t. bring indexes target (cyclic_with_id id (cpu_of source s)) (put_at id (On target (is_bound id t)) t))

-- why a cyclic of this CPU can't go to that one
abbrev pub move_refusals : Questions → ℕ → ℕ → ℕ → State → List (Option Refusal)
move_refusals q id source target s = busy (q.removal source (cpu_of source s)) ∷ pending q source id s
    ∷ no_room q target id 1 (cpu_of target s) ∷ []

-- these, where there is a move
abbrev pub unless_there : Bool → List (Option Refusal) → List (Option Refusal)
unless_there true whys = []
unless_there false whys = whys

abbrev pub bind_id_refusal : Questions → ℕ → ℕ → State → Option Refusal
bind_id_refusal q id n s = first_refusal (cyclic_is_absent id s ∷ cyclic_is_omni id s ∷ is_no_cpu n s ∷ cpu_is_offline n s
    ∷ unless_there (home_of id s == n) (move_refusals q id (home_of id s) n s))

abbrev pub bind_refusal : Questions → BindStep → State → Option Refusal
bind_refusal q b s = bind_id_refusal q (id_of b.name s) b.cpu s

abbrev pub move_unless_there : Bool → (ℕ → ℕ) → ℕ → ℕ → State → Outcome
move_unless_there true indexes id n s = nothing s
move_unless_there false indexes id n s = move indexes id (home_of id s) n s

abbrev pub bind_id : (ℕ → ℕ) → ℕ → ℕ → State → Outcome
bind_id indexes id n s =
    followed_by (move_unless_there (home_of id s == n) indexes id n s) (λ t. nothing (put_at id (On n true) t))

abbrev pub bind : (ℕ → ℕ) → ℕ → BindStep → State → Outcome
bind indexes step b s = told (accepted step) (bind_id indexes (id_of b.name s) b.cpu s)

abbrev pub unbind_refusal : ℕ → State → Option Refusal
unbind_refusal name s = first_refusal (cyclic_is_absent (id_of name s) s ∷ cyclic_is_omni (id_of name s) s ∷ [])

abbrev pub unbind : ℕ → ℕ → State → Outcome
unbind step name s = told (accepted step) (nothing (put_at (id_of name s) (On (home_of (id_of name s) s) false) s))
