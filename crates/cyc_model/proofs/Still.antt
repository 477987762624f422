-- Which steps leave the clock, the mark of a suspension, the names and the ids that were given.
use Rattle.std.proofs.Common.{◌≡◌, ℕ, Bool, true, false, List, [], ◌∷◌, length, Option, Some, None, refl, ◌∙◌, ◌==◌}
use Rattle.cyc_script.specs.declared.step.Bind.{Bind as BindStep}
use Rattle.cyc_model.specs.Cpu.{CyclicState, cyclic_with_id}
use Rattle.cyc_model.specs.Moving.{take_here, mark_here}
use Rattle.cyc_model.specs.Firing.{fire_here}
use Rattle.cyc_model.specs.State.{
  State,
  Outcome,
  Placement,
  On,
  OnAll,
  Everywhere,
  numbers,
  cpus_having,
  cpu_of,
  on_number,
  followed_by,
}
use Rattle.cyc_model.specs.State.{each}
use Rattle.cyc_model.specs.Places.{id_of, home_of, put_at, is_bound, keep_counts}
use Rattle.cyc_model.specs.Bind.{bring, move, move_unless_there, bind, unbind}
use Rattle.cyc_script.specs.declared.step.Softint.{Softint as SoftintStep}
use Rattle.cyc_model.specs.Add.{enter}
use Rattle.cyc_model.specs.Omni.{component}
use Rattle.cyc_model.specs.Moving.{widen_here}
use Rattle.cyc_model.specs.Questions.{Questions, plain}
use Rattle.cyc_model.specs.Remove.{clear_if, poll, begin, begun, remove}
use Rattle.cyc_model.specs.Softint.{interrupt, text_of_id, is_open, polled, poll_id, leaving_ids, softint}
use Rattle.cyc_model.specs.Juggle.{Turn, IsBound, IsPending, IsRefused, Moves, turn, take_turn, Juggled, juggle_each, juggled}
use Rattle.cyc_model.specs.Juggle.{juggle, single_ids_of}
use Rattle.cyc_model.specs.Offline.{ids_of_cpu, retire, retire_all, any_pending, last_part, leaving, offline}
use Rattle.cyc_model.specs.Online.{staying_omni, return_here, return_of, online}

pub record Still (s t : State) : Type 0 where
  pub clock : t.clock ≡ s.clock
  pub suspended : t.suspended ≡ s.suspended
  pub names : t.names ≡ s.names
  pub last : t.last_id ≡ s.last_id

abbrev pub IsStill : (State → Outcome) → Type 0
IsStill f = (s : State) → Still s (f s).state

pub still_same : (s : State) → Still s s
still_same s = record { clock = refl; suspended = refl; names = refl; last = refl }

pub still_then : (s t u : State) → Still s t → Still t u → Still s u
still_then s t u one two = record {
  clock = two.clock ∙ one.clock;
  suspended = two.suspended ∙ one.suspended;
  names = two.names ∙ one.names;
  last = two.last ∙ one.last;
}

pub still_follows : (o : Outcome) (f : State → Outcome) (s : State) → Still s o.state → IsStill f
    → Still s (followed_by o f).state
still_follows o f s one next = still_then s o.state (f o.state).state one (next o.state)

pub still_each : {A : Type 0} → (f : A → State → Outcome) → ((x : A) → IsStill (f x)) → (xs : List A) → IsStill (each f xs)
still_each f one [] s = still_same s
still_each f one (x ∷ xs) s = still_follows (f x s) (each f xs) s (one x s) (still_each f one xs)

still_bring : (indexes : ℕ → ℕ) (target : ℕ) (o : Option CyclicState) → IsStill (bring indexes target o)
still_bring indexes target None s = still_same s
still_bring indexes target (Some x) s = record { clock = refl; suspended = refl; names = refl; last = refl }

pub still_move : (indexes : ℕ → ℕ) (id source target : ℕ) → IsStill (move indexes id source target)
still_move indexes id source target s =
    let t = (on_number source (take_here source id) s).state in
    let u = put_at id (On target (is_bound id t)) t in
    let v = still_bring indexes target (cyclic_with_id id (cpu_of source s)) u in
    record { clock = v.clock; suspended = v.suspended; names = v.names; last = v.last }

still_unless : (there : Bool) (indexes : ℕ → ℕ) (id n : ℕ) → IsStill (move_unless_there there indexes id n)
still_unless true indexes id n s = still_same s
still_unless false indexes id n s = still_move indexes id (home_of id s) n s

pub still_bind : (indexes : ℕ → ℕ) (step : ℕ) (b : BindStep) → IsStill (bind indexes step b)
still_bind indexes step b s =
    let id = id_of b.name s in
    let one = still_unless (home_of id s == b.cpu) indexes id b.cpu s in
    record { clock = one.clock; suspended = one.suspended; names = one.names; last = one.last }

pub still_unbind : (step name : ℕ) → IsStill (unbind step name)
still_unbind step name s = record { clock = refl; suspended = refl; names = refl; last = refl }

pub still_fires : (now : ℕ) (ns : List ℕ) → IsStill (each (λ n. on_number n (fire_here n now)) ns)
still_fires now = still_each (λ n. on_number n (fire_here n now))
    (λ n s. record { clock = refl; suspended = refl; names = refl; last = refl })

-- ---- omnipresent cyclics

pub still_enters : (indexes : ℕ → ℕ) (id : ℕ) (e : Everywhere) (ns : List ℕ)
    → IsStill (each (λ n s. enter indexes n (component id n e s.clock) s) ns)
still_enters indexes id e = still_each (λ n s. enter indexes n (component id n e s.clock) s)
    (λ n s. record { clock = refl; suspended = refl; names = refl; last = refl })

-- ---- juggle

still_turn : (indexes : ℕ → ℕ) (source id : ℕ) (t : Turn) → IsStill (take_turn indexes source id t)
still_turn indexes source id IsBound s = still_same s
still_turn indexes source id IsPending s = still_same s
still_turn indexes source id IsRefused s = still_same s
still_turn indexes source id (Moves target) s = still_move indexes id source target s

still_turns : (q : Questions) (indexes : ℕ → ℕ) (source : ℕ) (ids : List ℕ) (s : State)
    → Still s (juggle_each q indexes source ids s).outcome.state
still_turns q indexes source [] s = still_same s
still_turns q indexes source (id ∷ ids) s =
    let o = take_turn indexes source id (turn q source id s) s in
    still_then s o.state (juggle_each q indexes source ids o.state).outcome.state (still_turn indexes source id
    (turn q source id s) s)
    (still_turns q indexes source ids o.state)

pub juggle_still : (q : Questions) (indexes : ℕ → ℕ) (step n : ℕ) → IsStill (juggle q indexes step n)
juggle_still q indexes step n s =
    let h = still_turns q indexes n (single_ids_of n s) s in
    record { clock = h.clock; suspended = h.suspended; names = h.names; last = h.last }

pub still_juggle : (indexes : ℕ → ℕ) (step n : ℕ) → IsStill (juggle plain indexes step n)
still_juggle = juggle_still plain

-- ---- offline and online

still_kept : (n : ℕ) (o : Option CyclicState) (s : State) → Still s (keep_counts n o s)
still_kept n None s = still_same s
still_kept n (Some x) s = record { clock = refl; suspended = refl; names = refl; last = refl }

still_retire : (n id : ℕ) → IsStill (retire n id)
still_retire n id s =
    let k = still_kept n (cyclic_with_id id (cpu_of n s)) s in
    record { clock = k.clock; suspended = k.suspended; names = k.names; last = k.last }

still_retired : (n : ℕ) → IsStill (retire_all n)
still_retired n s =
    let k = still_each (retire n) (still_retire n) (ids_of_cpu n s) s in
    record { clock = k.clock; suspended = k.suspended; names = k.names; last = k.last }

pub offline_still : (q : Questions) (indexes : ℕ → ℕ) (step n : ℕ) → IsStill (offline q indexes step n)
offline_still q indexes step n s = by (single_ids_of n j.outcome.state)
  where
    j : Juggled
    j = juggled q indexes n s

    moved : Still s (juggled q indexes n s).outcome.state
    moved = still_turns q indexes n (single_ids_of n s) s

    last : (b : Bool) → Still s (last_part b step n (juggled q indexes n s).outcome).state
    last true = moved
    last false = still_then s (juggled q indexes n s).outcome.state (retire_all n
        (juggled q indexes n s).outcome.state).state moved
        (still_retired n (juggled q indexes n s).outcome.state)

    by : (ids : List ℕ) → Still s (leaving q step n ids (juggled q indexes n s)).state
    by (id ∷ ids) = moved
    by [] = last (any_pending q n (ids_of_cpu n (juggled q indexes n s).outcome.state)
        (juggled q indexes n s).outcome.state)

pub still_offline : (indexes : ℕ → ℕ) (step n : ℕ) → IsStill (offline plain indexes step n)
still_offline = offline_still plain

still_return : (indexes : ℕ → ℕ) (n id : ℕ) (placement : Placement) → IsStill (return_here indexes n id placement)
still_return indexes n id (On m bound) s = still_same s
still_return indexes n id (OnAll e) s = record { clock = refl; suspended = refl; names = refl; last = refl }

pub still_online : (indexes : ℕ → ℕ) (step n : ℕ) → IsStill (online indexes step n)
still_online indexes step n s =
    let t = (on_number n (widen_here n (length (staying_omni s))) s).state in
    let k = still_each (return_of indexes n) (λ p u. still_return indexes n p.id p.placement u) (staying_omni s) t in
    record { clock = k.clock; suspended = k.suspended; names = k.names; last = k.last }

-- ---- removals

still_clear : (b : Bool) (id n : ℕ) → IsStill (clear_if b id n)
still_clear true id n s =
    let k = still_kept n (cyclic_with_id id (cpu_of n s)) s in
    record { clock = k.clock; suspended = k.suspended; names = k.names; last = k.last }
still_clear false id n s = still_same s

still_poll : (q : Questions) (id n : ℕ) → IsStill (poll q id n)
still_poll q id n s = still_clear (q.outstanding n id (cpu_of n s) == 0) id n s

still_begin : (q : Questions) (id n : ℕ) → IsStill (begin q id n)
still_begin q id n s =
    let k = still_poll q id n (on_number n (mark_here n id) s).state in
    record { clock = k.clock; suspended = k.suspended; names = k.names; last = k.last }

pub remove_still : (q : Questions) (step : ℕ) (text : List ℕ) (name : ℕ) → IsStill (remove q step text name)
remove_still q step text name s = by (cpus_having (id_of name s) (each (begin q (id_of name s)) (cpus_having
    (id_of name s) s) s).state)
  where
    begins : Still s (each (begin q (id_of name s)) (cpus_having (id_of name s) s) s).state
    begins = still_each (begin q (id_of name s)) (still_begin q (id_of name s)) (cpus_having (id_of name s) s) s

    by : (ns : List ℕ) → Still s (begun q step text (id_of name s) ns (each (begin q (id_of name s)) (cpus_having
        (id_of name s) s) s)).state
    by [] = record { clock = begins.clock; suspended = begins.suspended; names = begins.names; last = begins.last }
    by (n ∷ ns) = record { clock = begins.clock; suspended = begins.suspended; names = begins.names; last = begins.last }

still_polled : (q : Questions) (texts : List (List ℕ)) (step id : ℕ) → IsStill (poll_id q texts step id)
still_polled q texts step id s = by (cpus_having id (each (poll q id) (numbers (is_open id) s) s).state)
  where
    polls : Still s (each (poll q id) (numbers (is_open id) s) s).state
    polls = still_each (poll q id) (still_poll q id) (numbers (is_open id) s) s

    by : (ns : List ℕ) → Still s (polled step (text_of_id id texts s.names) id ns (each (poll q id) (numbers
        (is_open id) s) s)).state
    by [] = record { clock = polls.clock; suspended = polls.suspended; names = polls.names; last = polls.last }
    by (n ∷ ns) = polls

pub polls_still : (q : Questions) (texts : List (List ℕ)) (step : ℕ) (ids : List ℕ) → IsStill (each (poll_id q texts step) ids)
polls_still q texts step = still_each (poll_id q texts step) (still_polled q texts step)

pub softint_still : (q : Questions) (texts : List (List ℕ)) (step : ℕ) (i : SoftintStep) → IsStill (softint q texts step i)
softint_still q texts step i s =
    let t = (interrupt step i s).state in
    let k = polls_still q texts step (leaving_ids t) t in
    record { clock = k.clock; suspended = k.suspended; names = k.names; last = k.last }

-- ---- over plain levels

pub still_remove : (step : ℕ) (text : List ℕ) (name : ℕ) → IsStill (remove plain step text name)
still_remove = remove_still plain

pub still_polls : (texts : List (List ℕ)) (step : ℕ) (ids : List ℕ) → IsStill (each (poll_id plain texts step) ids)
still_polls = polls_still plain

pub still_softint : (texts : List (List ℕ)) (step : ℕ) (i : SoftintStep) → IsStill (softint plain texts step i)
still_softint = softint_still plain
