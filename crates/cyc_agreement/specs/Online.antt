-- How a CPU takes part again, with a component of each omnipresent cyclic (`cyclic_online`).
use Rattle.std.specs.Prelude.{◌≡◌, ℕ, ◌&&◌, not, cond, Bool, true, List, [], ◌∷◌, ◌++◌, map, filter, length, slice_set, ◌⊎◌}
use Rattle.std.specs.Prelude.{Option, Result, Ok, Err}
use Rattle.std.specs.List.{list_any}
use Rattle.cyc_types.specs.declared.Raise.{Ghosts as Raise}
use Rattle.cyc_types.specs.declared.firing.Sent.{Sent}
use Rattle.cyc_types.specs.declared.level.Level.{Level}
use Rattle.cyc_types.specs.declared.refusal.Refusal.{Refusal}
use Rattle.cyc_types.specs.declared.refusal.Refusal.TheVariants.{Memory, Expanding, Online}
use Rattle.cyc_types.specs.Reasons.{when}
use Rattle.cyc_types.specs.Counting.{no_counts}
use Rattle.cyc_cpu.specs.Calls.{Reserve, Widen, Place as PlaceCall}
use Rattle.cyc_places.specs.declared.record.Placement.{Placement}
use Rattle.cyc_places.specs.declared.record.Placement.TheVariants.{On, Everywhere}
use Rattle.cyc_places.specs.declared.record.Record.{Record}
use Rattle.cyc_places.specs.Places.{ended_on, with_ended}
use Rattle.cyc_agreement.specs.Cpus.{CpusView, CallOn, on, Works}
use Rattle.cyc_agreement.specs.System.{SystemView, is_online, is_everywhere, is_leaving_here}
use Rattle.cyc_agreement.specs.Adding.{OnlyWorks}
use Rattle.cyc_agreement.specs.Omni.{component_first}

-- the CPU takes part already
abbrev pub online_cpu : {R : Type 0} → ℕ → SystemView R → Option Refusal
online_cpu n s = when (is_online n s.cpus) Online

-- the cyclic is omnipresent, and its removal is not open
abbrev pub is_staying : {R : Type 0} → CpusView R → Record → Bool
is_staying v r = is_everywhere r.placement && not (list_any (is_leaving_here r.id) v.cpus)

-- these cyclics, by rising ids
abbrev pub staying : {R : Type 0} → SystemView R → List Record
staying s = filter (is_staying s.cpus) s.records

-- the component begins again from its start, with the counts that its earlier stays left on this CPU
abbrev pub return_at : ℕ → ℕ → ℕ → Level → Sent → Placement → List CallOn
return_at n now id level counts (On m bound) = []
return_at n now id level counts (Everywhere first skew) =
    on n (PlaceCall id level first.interval (component_first n first skew now) counts) ∷ []

-- each of these in turn
abbrev pub returns : ℕ → ℕ → List Record → List CallOn
returns n now [] = []
returns n now (r ∷ rs) = return_at n now r.id r.level (ended_on n r) r.placement ++ returns n now rs

-- the counts of its stays there have gone over to the component
abbrev pub after_return : {R : Type 0} → ℕ → CpusView R → Record → Record
after_return n v r = cond (is_staying v r) (with_ended n no_counts r) r

-- the CPU of this number takes part again
abbrev pub switched_on : {R : Type 0} → ℕ → CpusView R → CpusView R
switched_on n v = record v { online = slice_set v.online n true }

-- The CPU grows once for all of them and takes its components, and then it takes part. Or its last switch is not over, or
-- there is no memory. It can't be full, and no removal is open there.
abbrev pub GoesOnline : {R : Type 0} → Raise R
    → ℕ → ℕ → Result (Unit {0}) Refusal → SystemView R → SystemView R → Type 0
GoesOnline {R} firing n now (Ok done) s t =
    ((w : CpusView R) × Works firing (on n (Reserve (length (staying s)) (Ok tt)) ∷ on n (Widen (length (staying s)))
    ∷ returns n now (staying s)) s.cpus w × (t.cpus ≡ switched_on n w))
    × (t.records ≡ map (after_return n s.cpus) s.records) × (t.last ≡ s.last)
GoesOnline firing n now (Err e) s t =
    ((e ≡ Expanding) ⊎ (e ≡ Memory)) × OnlyWorks firing (on n (Reserve (length (staying s)) (Err e)) ∷ []) s t
