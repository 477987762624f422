-- A run leaves each CPU its two rings.
use Rattle.std.proofs.Common.{ℕ, List, sym, ap, subst, ◌∙◌, length}
use Rattle.cyc_types.specs.declared.Calls.{Ghosts as Calls}
use Rattle.cyc_ring.specs.declared.ends.RaiseEnd.{RaiseEnd}
use Rattle.cyc_ring.specs.Ends.{raise_end, end_view}
use Rattle.cyc_script.specs.declared.step.Step.{Step}
use Rattle.cyc_system_workers.specs.Calls.{SystemCall}
use Rattle.cyc_system_workers.specs.declared.side.SystemSide.{SystemSide}
use Rattle.cyc_threads.specs.SameSeats.{HaveSameSeats}
use Rattle.cyc_threads.proofs.KeepingSeats.{same_all, then_all, called_all, asked_all, fired_all, same_long}
use Rattle.cyc_threads.specs.declared.progress.Progress.{Progress}
use Rattle.cyc_threads.specs.declared.counting.Line.{Line}
use Rattle.cyc_system_laws.specs.Sound.{IsSound}
use Rattle.cyc_threads.specs.StepCalls.{HasLeads, CallsFor, SettlesAll, Fires}
use Rattle.cyc_threads.specs.Counting.{Reports}
use Rattle.cyc_threads.specs.Steps.{Runs}
use Rattle.cyc_threads.proofs.Following.{runs_all, reports_all}

-- the lead is ready, and its system sound
pub record IsWell {C : Type 0} (s : Progress RaiseEnd C) : Type 0 where
  pub ready : HasLeads s
  pub sound : IsSound end_view s.side.system

-- and so it is then, with the seats of the same rings
pub record Keeps {C : Type 0} (s t : Progress RaiseEnd C) : Type 0 where
  pub well : IsWell t
  pub seats : HaveSameSeats s.side.system.cpus.cpus t.side.system.cpus.cpus

abbrev pub KeepsWell : {C : Type 0} → Progress RaiseEnd C → Progress RaiseEnd C → Type 0
KeepsWell s t = IsWell s → Keeps s t

module _ {C : Type 0} (handler : Calls C) where
  keeps_same : (s : Progress RaiseEnd C) → KeepsWell s s
  keeps_same s w = record { well = w; seats = same_all s.side.system.cpus.cpus }

  keeps_joined : (s t u : Progress RaiseEnd C) → KeepsWell s t → KeepsWell t u → KeepsWell s u
  keeps_joined s t u p q w = let a = p w in let b = q a.well in
      record {
        well = b.well;
        seats = then_all s.side.system.cpus.cpus t.side.system.cpus.cpus u.side.system.cpus.cpus a.seats
            b.seats;
      }

  keeps_calls : (name : ℕ) (call : SystemCall) (s t : Progress RaiseEnd C) → CallsFor raise_end name call s t
      → KeepsWell s t
  keeps_calls name call s t c w = let seats = called_all s.side.system t.side.system call c.did in record {
    well = record {
      ready = ap (λ (l : _). length l.items) c.leads ∙ w.ready
          ∙ sym (same_long s.side.system.cpus.cpus t.side.system.cpus.cpus seats);
      sound = c.sound;
    };
    seats = seats;
  }

  keeps_settles : (s t : Progress RaiseEnd C) → SettlesAll raise_end s t → KeepsWell s t
  keeps_settles s t c w = record {
    well = record { ready = ap (λ (l : _). length l.items) c.asked.leads ∙ w.ready ∙ sym c.asked.cpus.long; sound = c.sound };
    seats = asked_all s.side.system.cpus.cpus t.side.system.cpus.cpus c.asked.cpus;
  }

  keeps_sets : (now : ℕ) (s : Progress RaiseEnd C) → KeepsWell s (record s { clock = now })
  keeps_sets now s w = record {
    well = record { ready = w.ready; sound = w.sound };
    seats = same_all s.side.system.cpus.cpus;
  }

  keeps_fires : (now : ℕ) (s t : Progress RaiseEnd C) → Fires handler raise_end now s t → KeepsWell s t
  keeps_fires now s t f w = record {
    well = record {
      ready = ap (λ (z : SystemSide RaiseEnd C). length z.leads.items) f.side ∙ f.fired.long_leads ∙ w.ready
          ∙ sym f.fired.long ∙ ap (λ (z : SystemSide RaiseEnd C). length z.system.cpus.cpus) (sym f.side);
      sound = f.sound;
    };
    seats = subst (λ (z : SystemSide RaiseEnd C). HaveSameSeats s.side.system.cpus.cpus z.system.cpus.cpus) (sym f.side)
        (fired_all handler now s.side f.after w.sound.agrees.long w.ready f.fired);
  }

  pub runs_keep : (all : List Step) (s t : Progress RaiseEnd C) → Runs handler raise_end s all t → KeepsWell s t
  runs_keep = runs_all handler raise_end KeepsWell keeps_same keeps_joined keeps_calls keeps_settles keeps_sets keeps_fires

  pub reports_keep : (lines : List Line) (s t : Progress RaiseEnd C) → Reports raise_end lines s t → KeepsWell s t
  reports_keep = reports_all handler raise_end KeepsWell keeps_same keeps_joined keeps_calls keeps_settles keeps_sets keeps_fires
