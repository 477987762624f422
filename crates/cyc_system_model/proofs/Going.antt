-- Outcomes in order: each tells what became of the machine, and what it puts in is free.
use Rattle.std.proofs.Common.{◌≡◌, ℕ, ◌-◌, ◌<◌, ◌≤◌, List, [], ◌++◌, length, refl, ap, sym, ◌∙◌, subst, arith}
use Rattle.std.specs.Prelude.{slice_index_or}
use Rattle.std.proofs.lemmas.List.{get_or_past}
use mathlib.Core.Logic.{dite}
use native.Mathlib.Decide.{ℕ_discrete}
use Rattle.cyc_types.specs.declared.level.Soft.{Soft}
use Rattle.cyc_model.specs.Acts.{calls_of, events_at}
use Rattle.cyc_model.specs.Cpu.{Cpu, Here}
use Rattle.cyc_model.specs.Serving.{level_at}
use Rattle.cyc_model.specs.State.{State, Outcome, absent, cpu_of, nothing, followed_by, on_number}
use Rattle.cyc_model.specs.Free.{AllCanBeAdmitted}
use Rattle.cyc_model.specs.Laws.{ActsTell}
use Rattle.cyc_model.proofs.Events.{calls_append, events_append}
use Rattle.cyc_model.proofs.Local.{Local, other_events}
use Rattle.cyc_model.proofs.Telling.{Alike, told_alike, told_from, told_to, told_append, told_on}
use Rattle.cyc_system_model.proofs.Entering.{free_on}
use Rattle.cyc_system_model.proofs.Free.{can_append}

pub record Goes (s : State) (o : Outcome) : Type 0 where
  pub tells : ActsTell o.acts s o.state
  pub outside : (m : ℕ) → length s.cpus ≤ m → (soft : Soft) → events_at m soft o.acts ≡ []
  pub free : (m : ℕ) (soft : Soft) → AllCanBeAdmitted (events_at m soft o.acts) (level_at soft (cpu_of m s))
  pub quiet : (q : ℕ) → calls_of q o.acts ≡ 0

-- nothing happens, but in the books
pub goes_alike : (s t : State) → Alike s t → Goes s (nothing t)
goes_alike s t same = record {
  tells = told_alike s t same;
  outside = λ m past soft. refl;
  free = λ m soft. tt;
  quiet = λ q. refl;
}

-- other books before it
pub goes_from : (s r : State) (o : Outcome) → Alike s r → Goes r o → Goes s o
goes_from s r o same g = record {
  tells = told_from o.acts s r o.state same g.tells;
  outside = λ m past soft. g.outside m (let l = ap length same.0 in omega (arith, past, l)) soft;
  free = λ m soft. subst (λ (cs : List Cpu). AllCanBeAdmitted (events_at m soft o.acts)
      (level_at soft (slice_index_or cs m absent))) same.0 (g.free m soft);
  quiet = g.quiet;
}

-- and after it, or another line
pub goes_to : (s : State) (o : Outcome) (line : List ℕ) (t : State) → Alike o.state t → Goes s o
    → Goes s (record { line = line; acts = o.acts; state = t })
goes_to s o line t same g = record {
  tells = told_to o.acts s o.state t g.tells same;
  outside = g.outside;
  free = g.free;
  quiet = g.quiet;
}

-- one after the other
pub goes_then : (s : State) (o : Outcome) (f : State → Outcome) → Goes s o → Goes o.state (f o.state) → Goes s (followed_by o f)
goes_then s o f one two = record {
  tells = told_append o.acts (f o.state).acts s o.state (f o.state).state one.tells two.tells;
  outside = λ m past soft. events_append m soft o.acts (f o.state).acts
      ∙ (λ z. one.outside m past soft z ++ two.outside m (let l = one.tells.as_many in omega (arith, past, l)) soft z);
  free = λ m soft. subst (λ es. AllCanBeAdmitted es (level_at soft (cpu_of m s)))
      (sym (events_append m soft o.acts (f o.state).acts)) (both m soft);
  quiet = λ q. let a = calls_append q o.acts (f o.state).acts in let b = one.quiet q in let c = two.quiet q in
      omega (arith, a, b, c);
}
  where
    both : (m : ℕ) (soft : Soft) → AllCanBeAdmitted (events_at m soft o.acts ++ events_at m soft (f o.state).acts)
        (level_at soft (cpu_of m s))
    both m soft = dite (ℕ_discrete (length s.cpus - m) 0)
        (λ past.
        let here = get_or_past s.cpus m absent (omega (arith, past)) in
        let l = one.tells.as_many in
        let there = get_or_past o.state.cpus m absent (omega (arith, past, l)) in
        subst (λ es. AllCanBeAdmitted (es ++ events_at m soft (f o.state).acts) (level_at soft (cpu_of m s)))
        (sym (one.outside m (omega (arith, past)) soft))
        (subst (λ c. AllCanBeAdmitted (events_at m soft (f o.state).acts) (level_at soft c)) (there ∙ sym here)
        (two.free m soft)))
        (λ low. can_append (events_at m soft o.acts) (events_at m soft (f o.state).acts) (level_at soft (cpu_of m s))
        (one.free m soft)
        (subst (λ l. AllCanBeAdmitted (events_at m soft (f o.state).acts) l) (one.tells.levels m (omega (arith, low)) soft)
        (two.free m soft)))

-- on one CPU
pub goes_on : (n : ℕ) (f : Cpu → Here) (s : State) → ((c : Cpu) → Local n c (f c)) → n < length s.cpus
    → ((soft : Soft) → AllCanBeAdmitted (events_at n soft (f (cpu_of n s)).acts) (level_at soft (cpu_of n s)))
    → ((q : ℕ) → calls_of q (f (cpu_of n s)).acts ≡ 0)
    → Goes s (on_number n f s)
goes_on n f s local low free quiet = record {
  tells = told_on n f local s;
  outside = λ m past soft. other_events (f (cpu_of n s)).acts n m soft (local (cpu_of n s)).on (λ e. omega (arith, past, low, e));
  free = free_on n (f (cpu_of n s)).acts s (local (cpu_of n s)).on free;
  quiet = quiet;
}
