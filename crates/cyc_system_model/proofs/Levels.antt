-- What the calls of a level's firing side make of it.
use Rattle.std.proofs.Common.{◌≡◌, ℕ, List, [], ◌∷◌, map, Bool, true, false, cond, Some, None, refl, ap, sym, ◌∙◌}
use Rattle.cyc_types.specs.Firing.{Admits, Loads, Marks, Polls, Expands, Looks}
use Rattle.cyc_types.specs.Runs.{Taught, Goes}
use Rattle.cyc_types.specs.declared.firing.Sent.{Sent}
use Rattle.cyc_types.specs.declared.level.Level.{Level}
use Rattle.cyc_types.specs.declared.level.Level.TheVariants.{Low, Lock, High}
use Rattle.cyc_level.specs.declared.Event.{Event}
use Rattle.cyc_level.specs.declared.Event.TheVariants.{Admit, Mark, Clear, Switch}
use Rattle.cyc_level.specs.Level.{SoftLevel}
use Rattle.cyc_level.specs.Events.{after}
use Rattle.cyc_core.specs.Tables.{Tables, level_of}
use Rattle.cyc_timers.specs.Acts.{same_level}
use Rattle.cyc_timers.specs.Quiet.{OnlyLooks}
use Rattle.cyc_cpu.specs.Soft.{raise_tables}
use Rattle.cyc_model.specs.Acts.{at_own, calls_of}
use Rattle.cyc_model.specs.Cpu.{Cpu, happen}

-- looks change nothing
pub looked : (answers : List Bool) (d e : Tables) → Goes raise_tables d (map Looks answers) e → level_of e ≡ level_of d
looked [] d e goes = ap level_of (sym goes)
looked (answer ∷ answers) d e (x, (step, learns), rest) = looked answers x e rest ∙ step.1

pub only_looked : (d e : Tables) → OnlyLooks raise_tables d e → level_of e ≡ level_of d
only_looked d e (answers, goes) = looked answers d e goes

-- loads change nothing
pub loaded : (asked : List (ℕ × ℕ)) (d e : Tables) → Goes raise_tables d (map (λ a. Loads a.0 a.1) asked) e
    → level_of e ≡ level_of d
loaded [] d e goes = ap level_of (sym goes)
loaded (a ∷ asked) d e (x, (step, learns), rest) = loaded asked x e rest ∙ step.1

-- the level where an event happened at it, and else as it was
abbrev pub where_own : Bool → Event → SoftLevel → SoftLevel
where_own own event l = cond own (after event l) l

pub asked_level : (own : Bool) (id pend : ℕ) (d e : Tables) → Goes raise_tables d (cond own (Loads id pend ∷ []) []) e
    → level_of e ≡ level_of d
asked_level true id pend d e (x, (step, learns), last) = ap level_of (sym last) ∙ step.1
asked_level false id pend d e goes = ap level_of (sym goes)

pub admitted_level : (own : Bool) (id index : ℕ) (d e : Tables) → Goes raise_tables d (cond own (Admits id index ∷ []) []) e
    → level_of e ≡ where_own own (Admit id index) (level_of d)
admitted_level true id index d e (x, (step, learns), last) = ap level_of (sym last) ∙ step.1
admitted_level false id index d e goes = ap level_of (sym goes)

pub marked_level : (own : Bool) (id pend : ℕ) (d e : Tables) → Goes raise_tables d (cond own (Marks id pend ∷ []) []) e
    → level_of e ≡ where_own own (Mark id) (level_of d)
marked_level true id pend d e (x, (step, learns), last) = ap level_of (sym last) ∙ step.1.1
marked_level false id pend d e goes = ap level_of (sym goes)

pub cleared_level : (own : Bool) (id : ℕ) (counts : Sent) (d e : Tables)
    → Goes raise_tables d (cond own (Polls id (Some counts) ∷ []) []) e
    → level_of e ≡ where_own own (Clear id) (level_of d)
cleared_level true id counts d e (x, (step, learns), last) = ap level_of (sym last) ∙ step.1.1
cleared_level false id counts d e goes = ap level_of (sym goes)

pub waiting_level : (own : Bool) (id : ℕ) (d e : Tables) → Goes raise_tables d (cond own (Polls id None ∷ []) []) e
    → level_of e ≡ level_of d
waiting_level true id d e (x, (step, learns), last) = ap level_of (sym last) ∙ step.1
waiting_level false id d e goes = ap level_of (sym goes)

-- marked and cleared
pub ended_level : (own : Bool) (id : ℕ) (counts : Sent) (d e : Tables)
    → Goes raise_tables d (cond own (Marks id 0 ∷ Polls id (Some counts) ∷ []) []) e
    → level_of e ≡ where_own own (Clear id) (where_own own (Mark id) (level_of d))
ended_level true id counts d e (x, (first, learns), (y, (second, learns_more), last)) =
    ap level_of (sym last) ∙ second.1.1 ∙ ap (after (Clear id)) first.1.1
ended_level false id counts d e goes = ap level_of (sym goes)

-- the same after a load
pub taken_level : (own : Bool) (id : ℕ) (counts : Sent) (d e : Tables)
    → Goes raise_tables d (cond own (Loads id 0 ∷ Marks id 0 ∷ Polls id (Some counts) ∷ []) []) e
    → level_of e ≡ where_own own (Clear id) (where_own own (Mark id) (level_of d))
taken_level true id counts d e (w, (load, learnt), (x, (first, learns), (y, (second, learns_more), last))) =
    ap level_of (sym last) ∙ second.1.1 ∙ ap (after (Clear id)) (first.1.1 ∙ ap (after (Mark id)) load.1)
taken_level false id counts d e goes = ap level_of (sym goes)

-- where the size grew the end was switched
pub grown_level : (grows : Bool) (bank : ℕ) (d e : Tables) → (grows ≡ false → e ≡ d) → (grows ≡ true
    → Taught raise_tables d (Expands bank) e)
    → level_of e ≡ where_own grows (Switch bank) (level_of d)
grown_level false bank d e kept grew = ap level_of (kept refl)
grown_level true bank d e kept grew = (grew refl).0.1

-- ---- one event on a CPU

-- an event at the level of a cyclic changes that level
pub own_cpu : (level : Level) (n : ℕ) (event : Event) (c : Cpu) → happen (at_own n level event) c ≡ record c {
  lock = where_own (same_level Lock level) event c.lock;
  low = where_own (same_level Low level) event c.low;
}
own_cpu High n event c = refl
own_cpu Lock n event c = refl
own_cpu Low n event c = refl

-- it calls no handler
pub own_calls : (level : Level) (n id : ℕ) (event : Event) → calls_of id (at_own n level event) ≡ 0
own_calls High n id event = refl
own_calls Lock n id event = refl
own_calls Low n id event = refl
