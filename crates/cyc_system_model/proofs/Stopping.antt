-- A fire and a soft interrupt that were stopped keep what is tied.
use Rattle.std.proofs.Common.{ℕ, Bool, true, false, List, [], ◌∷◌, ◌++◌, map, inl, inr, ap}
use Rattle.std.proofs.Common.{sym, ◌∙◌, subst}
use Rattle.std.specs.Prelude.{⊤, ◌==◌, Err}
use Rattle.std.specs.List.{FoldsTo}
use Rattle.cyc_types.specs.declared.Calls.{Ghosts as Calls}
use Rattle.cyc_types.specs.Draining.{DrainCall, Takes, Finishes}
use Rattle.cyc_types.specs.Runs.{DrainGoes}
use Rattle.cyc_types.specs.Levels.{at_level}
use Rattle.cyc_types.specs.declared.level.Level.TheVariants.{High}
use Rattle.cyc_types.specs.declared.level.Soft.{Soft}
use Rattle.cyc_types.specs.declared.level.Soft.TheVariants.{Low, Lock}
use Rattle.cyc_level.specs.declared.Event.{Event}
use Rattle.cyc_level.specs.declared.Event.TheVariants.{Finish}
use Rattle.cyc_level.specs.Level.{SoftLevel}
use Rattle.cyc_core.specs.Tables.{Tables, level_of}
use Rattle.cyc_core.specs.DrainingSide.{Drains, take_events}
use Rattle.cyc_core.specs.Reached.{Happens}
use Rattle.cyc_types.specs.Expirations.{Expiration}
use Rattle.cyc_timers.specs.declared.fire.FireRefused.{FireRefused}
use Rattle.cyc_soft.specs.declared.SoftRefused.{SoftRefused}
use Rattle.cyc_cpu.specs.Cpu.{CpuView, Running, HasRisingCyclics}
use Rattle.cyc_cpu.specs.Soft.{raise_tables, drain_tables, end_at, SoftKept, Interrupts}
use Rattle.cyc_cpu.specs.Calls.{CpuCall, Fire, SoftInterrupt, CpuDoes}
use Rattle.cyc_model.specs.Cpu.{CyclicState}
use Rattle.cyc_model.specs.Serving.{level_at}
use Rattle.cyc_system_model.specs.ShownCpu.{shown_cyclic, shown_cpu}
use Rattle.cyc_system_model.specs.Tied.{HasOwn, IsTied}
use Rattle.cyc_system_model.proofs.Firing.{AllHere, due_are_here, fires_these}
use Rattle.cyc_system_model.proofs.Rising.{rises_fired}
use Rattle.cyc_system_model.proofs.Free.{IsNoAdmit}
use Rattle.cyc_system_model.proofs.Tying.{Has, event_has, kept, same_cyclics, these_ties}
use Rattle.cyc_system_model.proofs.Tied.{tied}

-- ---- a fire

first_here : (made rest : List Expiration) (cs : List CyclicState) → AllHere (made ++ rest) cs → AllHere made cs
first_here [] rest cs all = tt
first_here (p ∷ made) rest cs all = (all.0, first_here made rest cs all.1)

module _ {C : Type 0} (handler : Calls C) where
  fire_stopped : (now : ℕ) (e : FireRefused) (s t : Running C Tables)
      → CpuDoes handler raise_tables (Interrupts handler) s (Fire now (Err e)) t → IsTied s.cpu
      → IsTied t.cpu
  fire_stopped now e s t (inl (late, why, same)) h = subst (λ (x : Running C Tables). IsTied x.cpu) (sym same) h
  fire_stopped now e s t (inr (early, kept_cpu, stopped)) h = record {
    rising = rises_fired now stopped.made s.cpu.cyclics t.cpu.cyclics stopped.makes.timers_are h.rising;
    own = λ online.
        let here = first_here stopped.made (stopped.last ∷ stopped.rest) (map shown_cyclic s.cpu.cyclics)
        (subst (λ ps. AllHere ps (map shown_cyclic s.cpu.cyclics)) stopped.listed (due_are_here now s.cpu.cyclics)) in
        let is = fires_these (at_level handler.called High) handler.count 0 now e.lost online stopped.made s.cpu t.cpu s.calls
        stopped.at here
        stopped.makes kept_cpu in
        subst HasOwn (sym is.0) (these_ties 0 now stopped.made (shown_cpu online s.cpu) (h.own online));
  }

-- ---- a soft interrupt

abbrev NoAdmits : List Event → Type 0
NoAdmits [] = ⊤
NoAdmits (e ∷ es) = IsNoAdmit e × NoAdmits es

take_none : (old new : List ℕ) (followed : Bool) → NoAdmits (take_events old new followed)
take_none [] [] true = tt
take_none [] [] false = (tt, tt)
take_none [] (y ∷ ys) true = (tt, tt)
take_none [] (y ∷ ys) false = (tt, (tt, tt))
take_none (x ∷ xs) [] true = tt
take_none (x ∷ xs) [] false = (tt, tt)
take_none (x ∷ xs) (y ∷ ys) true = (tt, tt)
take_none (x ∷ xs) (y ∷ ys) false = (tt, tt)

happen_has : (es : List Event) (l m : SoftLevel) (q : ℕ) → NoAdmits es → FoldsTo Happens l es m → Has q m → Has q l
happen_has [] l m q none same is = subst (Has q) (sym same) is
happen_has (e ∷ es) l m q none (k, (enabled, after_it), rest) is =
    event_has e l q none.0 (subst (Has q) after_it (happen_has es k m q none.1 rest is))

drain_has : (call : DrainCall) (l m : SoftLevel) (q : ℕ) → Drains l call m → Has q m → Has q l
drain_has (Takes answer) l m q (happened, found) is =
    happen_has (take_events l.old_list l.new_list (l.hard_bank == l.soft_bank)) l m q
    (take_none l.old_list l.new_list (l.hard_bank == l.soft_bank)) happened is
drain_has (Finishes id answer) l m q (held, (enabled, after_it), found) is = event_has Finish l q tt (subst (Has q) after_it is)

-- the soft side puts nothing in
way_has : (way : List DrainCall) (d e : Tables) (q : ℕ) → DrainGoes drain_tables d way e → Has q (level_of e) → Has q (level_of d)
way_has [] d e q same is = subst (λ (x : Tables). Has q (level_of x)) (sym same) is
way_has (call ∷ way) d e q (j, first, rest) is = drain_has call (level_of d) (level_of j) q first (way_has way j e q rest is)

fewer : (own other : Soft) (online : Bool) (v w : CpuView Tables) (q : ℕ) → SoftKept own v w
    → (Has q (level_of (end_at own w)) → Has q (level_of (end_at own v)))
    → Has q (level_at other (shown_cpu online w)) → Has q (level_at other (shown_cpu online v))
fewer Low Low online v w q kept_it less is = less is
fewer Low Lock online v w q kept_it less is = subst (λ (x : Tables). Has q (level_of x)) kept_it.beside is
fewer Lock Low online v w q kept_it less is = subst (λ (x : Tables). Has q (level_of x)) kept_it.beside is
fewer Lock Lock online v w q kept_it less is = less is

module _ {C : Type 0} (handler : Calls C) where
  soft_stopped : (level : Soft) (budget : ℕ) (e : SoftRefused) (s t : Running C Tables)
      → CpuDoes handler raise_tables (Interrupts handler) s (SoftInterrupt level budget (Err e)) t
      → IsTied s.cpu → IsTied t.cpu
  soft_stopped level budget e s t (did, kept_it) h =
      let (ran, at, long, less, serves, may, counted, held) = did.refused in
      record {
        rising = subst HasRisingCyclics (sym kept_it.cyclics) h.rising;
        own = λ online. kept (shown_cpu online s.cpu) (shown_cpu online t.cpu)
            (same_cyclics (shown_cpu online s.cpu) (shown_cpu online t.cpu) (ap (map shown_cyclic) kept_it.cyclics))
            (λ soft q is. fewer level soft online s.cpu t.cpu q kept_it
            (way_has _ (end_at level s.cpu) (end_at level t.cpu) q serves.way) is)
            (λ id is. sym kept_it.kept.removal ∙ is) (h.own online);
      }

  -- every call does
  pub tied_always : (call : CpuCall) (s t : Running C Tables)
      → CpuDoes handler raise_tables (Interrupts handler) s call t → IsTied s.cpu → IsTied t.cpu
  tied_always (Fire now (Err e)) s t did h = fire_stopped handler now e s t did h
  tied_always (SoftInterrupt level budget (Err e)) s t did h = soft_stopped level budget e s t did h
  tied_always call s t did h = tied handler call s t (λ stopped. absurd stopped) did h
