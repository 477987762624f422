-- Calls on CPUs that neither suspend nor resume one.
use Rattle.cyc_cpu.specs.Cpu.{CpuView}
use Rattle.std.specs.Option.{option_map}
use Rattle.cyc_agreement.specs.Agreement.{suspended_on}
use Rattle.cyc_agreement.proofs.Who.{kept_at}
use Rattle.cyc_cpu.proofs.Calling.{LeavesMark, changes_suspended}
use Rattle.std.proofs.Common.{◌≡◌, ◌∙◌, ℕ, Some}
use Rattle.std.proofs.Common.{List, [], ◌∷◌, ◌++◌, map, sym, ap}
use Rattle.cyc_types.specs.declared.Raise.{Ghosts as Raise}
use Rattle.cyc_types.specs.declared.firing.Sent.{Sent}
use Rattle.cyc_types.specs.declared.level.Level.{Level}
use Rattle.cyc_types.specs.declared.moment.When.{When}
use Rattle.cyc_types.specs.Series.{first}
use Rattle.cyc_places.specs.declared.record.Placement.{Placement}
use Rattle.cyc_places.specs.declared.record.Placement.TheVariants as stands
use Rattle.cyc_places.specs.declared.record.Record.{Record}
use Rattle.cyc_agreement.specs.Cpus.{CpusView, CallOn, Works}
use Rattle.cyc_agreement.specs.Reserving.{rooms, reserves}
use Rattle.cyc_system.specs.Counting.{Counted, asked}
use Rattle.cyc_system.specs.GoingOffline.{quiet}
use Rattle.cyc_system.specs.Omni.{entering_each}
use Rattle.cyc_system.specs.Online.{returns, return_at}

abbrev pub Unmarked : List CallOn → Type 0
Unmarked [] = Unit {0}
Unmarked (c ∷ way) = LeavesMark c.call × Unmarked way

pub unmarked_on : (xs ys : List CallOn) → Unmarked xs → Unmarked ys → Unmarked (xs ++ ys)
unmarked_on [] ys a b = b
unmarked_on (x ∷ xs) ys a b = (a.0, unmarked_on xs ys a.1 b)

pub unmarked_rooms : (more : ℕ) (ns : List ℕ) → Unmarked (rooms more ns)
unmarked_rooms more [] = tt
unmarked_rooms more (n ∷ ns) = (tt, unmarked_rooms more ns)

pub unmarked_reserves : (more : ℕ) (ns : List ℕ) → Unmarked (reserves more ns)
unmarked_reserves more [] = tt
unmarked_reserves more (n ∷ ns) = (tt, unmarked_reserves more ns)

pub unmarked_quiet : (n : ℕ) (ids : List ℕ) → Unmarked (quiet n ids)
unmarked_quiet n [] = tt
unmarked_quiet n (x ∷ xs) = (tt, unmarked_quiet n xs)

pub unmarked_asked : (own : ℕ) (way : List Counted) → Unmarked (map (asked own) way)
unmarked_asked own [] = tt
unmarked_asked own (a ∷ way) = (tt, unmarked_asked own way)

pub unmarked_entering : (ns : List ℕ) (own : ℕ) (level : Level) (when : When) (skew now : ℕ)
    → Unmarked (entering_each ns own level when skew now)
unmarked_entering [] own level when skew now = tt
unmarked_entering (n ∷ ns) own level when skew now = (tt, (tt, unmarked_entering ns own level when skew now))

pub unmarked_return : (n now own : ℕ) (level : Level) (counts : Sent) (placement : Placement)
    → Unmarked (return_at n now own level counts placement)
unmarked_return n now own level counts (stands.On m bound) = tt
unmarked_return n now own level counts (stands.Everywhere first skew) = (tt, tt)

pub unmarked_returns : (n now : ℕ) (rs : List Record) → Unmarked (returns n now rs)
unmarked_returns n now [] = tt
unmarked_returns n now (r ∷ rs) = unmarked_on (return_at n now r.id r.level _ r.placement) (returns n now rs)
    (unmarked_return n now r.id r.level _ r.placement) (unmarked_returns n now rs)

module _ {R : Type 0} (firing : Raise R) where
  -- each CPU is suspended where it was
  abbrev pub SameMarks : CpusView R → CpusView R → Type 0
  SameMarks v w = (n : ℕ) → suspended_on n w ≡ suspended_on n v

  pub marks_kept : (way : List CallOn) (v w : CpusView R) → Unmarked way → Works firing way v w → SameMarks v w
  marks_kept [] v w plain last n = ap (λ u. suspended_on n u) (sym last)
  marks_kept (c ∷ way) v w plain (u, d, rest) n = marks_kept way u w plain.1 rest n ∙ (ap (λ x. suspended_on n x) d.rest
      ∙ kept_at v c.cpu d.before d.after d.here (λ o. option_map (λ (cpu : CpuView R). cpu.suspended) o)
      (ap Some (changes_suspended firing d.before d.after c.call plain.0 d.change)) n)
