-- What a run of a script in threads is, from the opening of its rings to their closing.
use Rattle.std.specs.Prelude.{◌≡◌, ℕ, List, [], All, map, flat_map, length, replicate, string_bytes}
use Rattle.cyc_types.specs.declared.Calls.{Ghosts as Calls}
use Rattle.cyc_types.specs.Levels.{at_level}
use Rattle.cyc_types.specs.declared.level.Level.{Level}
use Rattle.cyc_types.specs.declared.level.Level.TheVariants.{Low, Lock}
use Rattle.cyc_types.specs.Pairs.{EachTwo}
use Rattle.cyc_ring.specs.declared.ends.RaiseEnd.{RaiseEnd}
use Rattle.cyc_ring.specs.declared.closed.Closed.{Closed}
use Rattle.cyc_ring.specs.Ends.{raise_end, seat_made}
use Rattle.cyc_agreement.specs.Cpus.{new_cpus}
use Rattle.cyc_script.specs.declared.script.Script.{Script}
use Rattle.cyc_workers.specs.Serving.{HasServed}
use Rattle.cyc_thread_rings.specs.declared.levels.Levels.{Levels}
use Rattle.cyc_thread_rings.specs.declared.levels.Seated.{Seated}
use Rattle.cyc_thread_rings.specs.Laid.{three, two}
use Rattle.cyc_thread_rings.specs.Rings.{AreNew, AreClosed, seats_of_ends, firing_seats, seats_on}
use Rattle.cyc_words.specs.declared.named.Named.TheVariants.{Nothing}
use Rattle.cyc_threads.specs.declared.progress.Progress.{Progress}
use Rattle.cyc_threads.specs.declared.counting.Line.{Line}
use Rattle.cyc_threads.specs.Steps.{Runs}
use Rattle.cyc_threads.specs.Counting.{Reports}
use Rattle.cyc_threads.specs.declared.running.Ended.{Ended}
use Rattle.cyc_threads.specs.Reporting.{report_text}

-- no script reaches so many expirations
abbrev pub most : ℕ
most = 18446744073709551615

-- all handlers of a system, CPU after CPU: firing, lock, low
abbrev pub all_handlers : {C : Type 0} → List (Seated C) → List C
all_handlers all = flat_map three (map (λ s. s.calls) all)

-- The lead before the first step: the system has no cyclic, its CPUs are over ends of these seats, and all of them are online. No
-- id was given yet, the clock stands at 0, no name has anything, and each CPU fires with its own high handlers.
pub record IsAtFirst {C : Type 0} (names : ℕ) (all : List (Seated C)) (p : Progress RaiseEnd C) : Type 0 where
  pub ends : List (RaiseEnd × RaiseEnd)
  pub own : map seats_of_ends ends ≡ map firing_seats all
  pub cpus : p.side.system.cpus ≡ new_cpus most ends
  pub records : p.side.system.records ≡ []
  pub last : p.side.system.last ≡ 0
  pub clock : p.clock ≡ 0
  pub names_are : p.names ≡ replicate names Nothing
  pub high : map (λ l. l.calls) p.side.leads.items ≡ map (λ s. s.calls.high) all

-- the lead at last: its CPUs have these seats, and these are their high handlers
pub record IsAtLast {C : Type 0} (all : List (Seated C)) (p : Progress RaiseEnd C) : Type 0 where
  pub firing : map firing_seats all ≡ map seats_on p.side.system.cpus.cpus
  pub high : map (λ s. s.calls.high) all ≡ map (λ l. l.calls) p.side.leads.items

-- The two draining workers of a CPU made the calls that the soft sides of its rings finished, each at its own level and on its
-- own handlers.
pub record HaveServed {C : Type 0} (called : C → ℕ → Level → C → Type 0) (count : C → ℕ → ℕ) (a b : Seated C) : Type 0 where
  pub lock : HasServed (at_level called Lock) count (seat_made b.seats.lock.drain) a.calls.lock b.calls.lock
  pub low : HasServed (at_level called Low) count (seat_made b.seats.low.drain) a.calls.low b.calls.low

-- What the workers of a script make of seats and handlers, by the numbers of the CPUs: the lead took the steps of the script, and
-- each CPU has settled; then each name was reported, with these lines.
pub record HasPlayed {C : Type 0} (handler : Calls C)
    (script : Script) (before after : List (Seated C)) (lines : List Line) : Type 0 where
  pub first : Progress RaiseEnd C
  pub last : Progress RaiseEnd C
  pub told : Progress RaiseEnd C
  pub begins : IsAtFirst (length script.names.items) before first
  pub runs : Runs handler raise_end first script.steps.items last
  pub reports : Reports raise_end lines last told
  -- the firing sides and the high handlers at last are those that are left
  pub ends : IsAtLast after told
  -- so are the soft sides and their handlers
  pub served : EachTwo (HaveServed handler.called handler.count) before after

-- these rings, CPU after CPU, lock and low, were closed with these seats
pub record AreAllClosed {C : Type 0} (all : List (Seated C)) (rings : List Closed) : Type 0 where
  pub by_cpu : List (Levels Closed)
  pub laid : rings ≡ flat_map two by_cpu
  pub closed : EachTwo AreClosed (map (λ s. s.seats) all) by_cpu

-- What a run of a script ends with, and its text.
pub record HasRun {C : Type 0} (handler : Calls C) (script : Script) (calls : List C) (e : Ended C) (text : List ℕ) : Type 0 where
  -- by the numbers of the CPUs: the seats of their rings and their handlers, before and after
  pub before : List (Seated C)
  pub after : List (Seated C)
  pub many : length before ≡ script.cpus
  pub given : all_handlers before ≡ calls
  pub back : e.calls.items ≡ all_handlers after
  -- on the rings nothing was done before
  pub new : All (AreNew script.ceiling) (map (λ s. s.seats) before)
  pub lines : List Line
  pub played : HasPlayed handler script before after lines
  pub text_is : text ≡ report_text (map string_bytes script.names.items) lines
  -- the rings that come back were closed with the seats that were used
  pub closed : AreAllClosed after e.rings.items
