-- What the parts of a run add up to.
use Rattle.std.proofs.Common.{◌≡◌, ℕ, ◌≤◌, ◌<◌, ◌⊎◌, List, [], sym, ap, subst, ◌∙◌, inl, inr, map, length, arith}
use Rattle.std.specs.Prelude.{All, replicate, Result, Ok, Err, IfOk}
use Rattle.std.proofs.lemmas.List.{length-map}
use Rattle.cyc_types.specs.declared.Calls.{Ghosts as Calls}
use Rattle.cyc_types.specs.declared.refusal.Refusal.{Refusal}
use Rattle.cyc_types.specs.declared.refusal.Refusal.TheVariants.{Memory}
use Rattle.cyc_types.specs.Pairs.{EachTwo}
use Rattle.cyc_ring.specs.declared.ring.Ring.{Ring}
use Rattle.cyc_ring.specs.declared.ends.RaiseEnd.{RaiseEnd}
use Rattle.cyc_ring.specs.declared.ends.DrainEnd.{DrainEnd}
use Rattle.cyc_ring.specs.Ends.{raise_end, end_view, drain_end}
use Rattle.cyc_cpu.specs.Cpu.{IsFresh}
use Rattle.cyc_workers.specs.declared.settling.Lead.{Lead}
use Rattle.cyc_workers.specs.Refusals.{HandlerRefuses}
use Rattle.cyc_agreement.specs.Cpus.{CpusView, new_cpus}
use Rattle.cyc_script.specs.declared.script.Script.{Script}
use Rattle.cyc_threads.specs.SameSeats.{HaveSameSeats}
use Rattle.cyc_threads.proofs.KeepingSeats.{then_all, same_long}
use Rattle.cyc_soft.specs.declared.SoftSide.{SoftSide}
use Rattle.cyc_thread_rings.specs.declared.levels.Levels.{Levels}
use Rattle.cyc_thread_rings.specs.declared.levels.Seated.{Seated}
use Rattle.cyc_thread_rings.specs.declared.attaching.Attached.{Attached}
use Rattle.cyc_thread_rings.specs.Rings.{AreSeated, AreNew, IsAttached, seats_of_ends, firing_seats, seats_on, soft_seats}
use Rattle.cyc_thread_rings.specs.Rings.{soft_seats_on}
use Rattle.cyc_thread_rings.proofs.Each.{each_long}
use Rattle.cyc_words.specs.declared.named.Named.TheVariants.{Nothing}
use Rattle.cyc_threads.specs.declared.halt.Halt.TheVariants as halt
use Rattle.cyc_threads.specs.declared.progress.Progress.{Progress}
use Rattle.cyc_threads.specs.Steps.{IsHalted}
use Rattle.cyc_threads.specs.declared.counting.Line.{Line}
use Rattle.cyc_threads.specs.Counting.{Reports}
use Rattle.cyc_threads.specs.declared.running.Played.{Played}
use Rattle.cyc_threads.specs.declared.working.Worked.{Worked}
use Rattle.cyc_threads.specs.Working.{Work, HaveMade, HasWorked, HaveRefused, WhyRefused}
use Rattle.cyc_threads.specs.Running.{IsAtFirst, IsAtLast, HasPlayed, most}
use Rattle.cyc_threads.specs.Refusing.{PlayRefuses, WhyNotPlayed}
use Rattle.cyc_threads.proofs.Workers.{why_refused}
use Rattle.cyc_threads.proofs.Expiring.{HasExpired, halted_by_handler}
use Rattle.cyc_threads.proofs.First.{many_cpus}
use Rattle.cyc_threads.proofs.Seats.{IsWell, Keeps, runs_keep, reports_keep}
use Rattle.cyc_threads.proofs.Playing.{each_same, same_firing, same_high, same_soft, fresh_all, served_all, seated_all}

-- as many ends as CPUs
pub many_ends : {C : Type 0} (all : List (Seated C)) (att : List (Attached C)) (ends : List (RaiseEnd × RaiseEnd))
    → EachTwo IsAttached all att →
    ends ≡ map (λ a. a.ends) att → length ends ≡ length all
many_ends all att ends e is = ap (λ (x : List (RaiseEnd × RaiseEnd)). length x) is ∙ length-map att (λ a. a.ends)
    ∙ each_long IsAttached all att e

pub some_cpus : (n m k : ℕ) → n ≡ m → m ≡ k → 1 ≤ k → 0 < n
some_cpus n m k e f low = omega (arith, e, f, low)

pub few_cpus : (n m k : ℕ) → n ≡ m → m ≡ k → k ≤ 16 → n ≤ 16
few_cpus n m k e f few = omega (arith, e, f, few)

pub many_leads : {C : Type 0} (leads : List (Lead C)) (att : List (Attached C)) (ends : List (RaiseEnd × RaiseEnd)) →
    map (λ l. l.calls) leads ≡ map (λ a. a.high) att → ends ≡ map (λ a. a.ends) att → length leads ≡ length ends
many_leads leads att ends e is = sym (length-map leads (λ l. l.calls)) ∙ ap (λ (x : List _). length x) e
    ∙ length-map att (λ a. a.high)
    ∙ sym (length-map att (λ a. a.ends)) ∙ ap (λ (x : List (RaiseEnd × RaiseEnd)). length x) (sym is)

pub fresh_ends : {C : Type 0} (k : ℕ) (all : List (Seated C)) (att : List (Attached C)) (ends : List (RaiseEnd × RaiseEnd)) →
    All (AreNew k) (map (λ s. s.seats) all) → EachTwo IsAttached all att → ends ≡ map (λ a. a.ends) att →
    All (λ (e : RaiseEnd × RaiseEnd). IsFresh (end_view e.0) × IsFresh (end_view e.1)) ends
fresh_ends k all att ends new e is = subst
    (λ (x : List (RaiseEnd × RaiseEnd)). All (λ (e : RaiseEnd × RaiseEnd). IsFresh (end_view e.0) × IsFresh (end_view e.1)) x)
    (sym is) (fresh_all k all att new e)

-- the lead before the first step
pub begins : {C : Type 0} (names : ℕ) (all : List (Seated C)) (att : List (Attached C)) (ends : List (RaiseEnd × RaiseEnd))
    (first : Progress RaiseEnd C) →
    EachTwo IsAttached all att → ends ≡ map (λ a. a.ends) att → map (λ l. l.calls) first.side.leads.items ≡ map (λ a. a.high) att
    →
    first.side.system.cpus ≡ new_cpus most ends → first.side.system.records ≡ [] → first.side.system.last ≡ 0 → first.clock ≡ 0 →
    first.names ≡ replicate names Nothing → IsAtFirst names all first
begins names all att ends first e is high cpus records last clock named = record {
  ends = ends;
  own = ap (λ (x : List (RaiseEnd × RaiseEnd)). map seats_of_ends x) is ∙ same_firing all att e;
  cpus = cpus;
  records = records;
  last = last;
  clock = clock;
  names_are = named;
  high = high ∙ same_high all att e;
}

module _ {C : Type 0} (handler : Calls C) where
  -- why the workers of a script were refused, which begin over these seats
  module _ (script : Script) (all : List (Seated C)) (att : List (Attached C)) (first : Progress RaiseEnd C)
      (sides : List (Levels (SoftSide DrainEnd C))) (is : sides ≡ map (λ a. a.soft) att) (attached : EachTwo IsAttached all att)
      (b : IsAtFirst (length script.names.items) all first) (none : HasExpired raise_end 0 first.side) where
    abbrev given : Work C RaiseEnd DrainEnd
    given = record { steps = script.steps.items; lead = first; sides = sides }

    play_refuses : (e : Refusal) → HaveRefused handler raise_end drain_end given e → PlayRefuses handler script all e
    play_refuses e w = record {
      first = first;
      sides = sides;
      begins = b;
      own = ap (λ (x : List (Levels (SoftSide DrainEnd C))). map soft_seats_on x) is ∙ same_soft all att attached;
      refused = w;
    }

    pub not_played : (e : Refusal) → WhyRefused handler raise_end drain_end given e → WhyNotPlayed handler script all e
    not_played e (inl m) = inl m
    not_played e (inr w) = by (why_refused handler raise_end drain_end script.steps.items first sides w.drained w.ended.each
        w.taken e w.ended.halted w.first)
      where
        by : (e ≡ Memory) ⊎ (HandlerRefuses handler.may_refuse e
            ⊎ ((n : ℕ) × IsHalted handler raise_end first script.steps.items (halt.Fired n e)))
            → WhyNotPlayed handler script all e
        by (inl m) = inl m
        by (inr (inl h)) = inr (h, play_refuses e w)
        by (inr (inr (n, h))) = inr (
          halted_by_handler handler raise_end script.steps.items (length script.names.items) first n e
              script.well_formed none h,
          play_refuses e w,
        )

  module _ (script : Script) (all : List (Seated C)) (att : List (Attached C)) (first : Progress RaiseEnd C)
      (sides : List (Levels (SoftSide DrainEnd C)))
      (worked : Worked RaiseEnd DrainEnd C) (is : sides ≡ map (λ a. a.soft) att)
      (w : HasWorked handler raise_end drain_end (record { steps = script.steps.items; lead = first; sides = sides }) worked)
      (well : IsWell first) where
    pub kept : Keeps first worked.lead
    kept = runs_keep handler script.steps.items first worked.lead w.runs well

    -- as many soft sides as CPUs
    pub many_soft : (ends : List (RaiseEnd × RaiseEnd)) → ends ≡ map (λ a. a.ends) att
        → first.side.system.cpus ≡ new_cpus most ends →
        length worked.soft.items ≡ length worked.lead.side.system.cpus.cpus
    many_soft ends own cpus = each_long (HaveMade drain_end handler) sides worked.soft.items
        w.makes ∙ ap (λ (x : List (Levels (SoftSide DrainEnd C))). length x) is ∙ length-map att (λ a. a.soft)
        ∙ sym (length-map att (λ a. a.ends))
        ∙ ap (λ (x : List (RaiseEnd × RaiseEnd)). length x) (sym own) ∙ sym (many_cpus ends first.side.system.cpus cpus)
        ∙ sym (same_long first.side.system.cpus.cpus worked.lead.side.system.cpus.cpus kept.seats)

    module _ (k : ℕ) (after : List (Seated C)) (lines : List Line) (told : Progress RaiseEnd C)
        (reports : Reports raise_end lines worked.lead told)
        (ends : IsAtLast after told) (left : map soft_seats after ≡ map soft_seats_on worked.soft.items)
        (attached : EachTwo IsAttached all att) where
      made : EachTwo (HaveMade drain_end handler) (map (λ a. a.soft) att) worked.soft.items
      made = subst (λ (x : List (Levels (SoftSide DrainEnd C))). EachTwo
          (HaveMade drain_end handler) x worked.soft.items) is w.makes

      pub played : IsAtFirst (length script.names.items) all first → All (AreNew k) (map (λ s. s.seats) all)
          → HasPlayed handler script all after lines
      played b new = record {
        first = first;
        last = worked.lead;
        told = told;
        begins = b;
        runs = w.runs;
        reports = reports;
        ends = ends;
        served = served_all handler k all att worked.soft.items after new attached made
            (each_same soft_seats soft_seats_on after worked.soft.items left);
      }

      pub seated : (rs : List (Levels Ring)) (own : List (RaiseEnd × RaiseEnd)) → own ≡ map (λ a. a.ends) att
          → first.side.system.cpus ≡ new_cpus most own →
          EachTwo AreSeated rs (map (λ s. s.seats) all) → EachTwo AreSeated rs (map (λ s. s.seats) after)
      seated rs own e cpus s = seated_all handler rs all att told.side.system.cpus.cpus worked.soft.items
          after s attached
          (subst (λ (x : List (RaiseEnd × RaiseEnd)). HaveSameSeats (new_cpus most x).cpus told.side.system.cpus.cpus) e
          (subst (λ (x : CpusView RaiseEnd). HaveSameSeats x.cpus told.side.system.cpus.cpus) cpus
          (then_all first.side.system.cpus.cpus worked.lead.side.system.cpus.cpus told.side.system.cpus.cpus kept.seats
          (reports_keep handler lines worked.lead told reports kept.well).seats)))
          (each_same firing_seats seats_on after told.side.system.cpus.cpus ends.firing) made
          (each_same soft_seats soft_seats_on after worked.soft.items left)

    -- the seats and the lines that are left
    abbrev Left : Played C → Type 0
    Left p = (told : Progress RaiseEnd C) × Reports raise_end p.lines.items worked.lead told
        × IsAtLast p.all.items told

    abbrev Same : Played C → Type 0
    Same p = map soft_seats p.all.items ≡ map soft_seats_on worked.soft.items

    pub played_ok : (k : ℕ) (r : Result (Played C) Refusal) → IfOk r Left → IfOk r Same → EachTwo IsAttached all att
        → IsAtFirst (length script.names.items) all first →
        All (AreNew k) (map (λ s. s.seats) all) → IfOk r
        (λ p. HasPlayed handler script all p.all.items p.lines.items)
    played_ok k (Ok p) l same attached b new = played k p.all.items p.lines.items l.0 l.1 l.2 same attached b new
    played_ok k (Err e) l same attached b new = tt

    pub seated_ok : (k : ℕ) (r : Result (Played C) Refusal) → IfOk r Left → IfOk r Same → EachTwo IsAttached all att
        → (rs : List (Levels Ring))
        (own : List (RaiseEnd × RaiseEnd)) → own ≡ map (λ a. a.ends) att → first.side.system.cpus ≡ new_cpus most own →
        EachTwo AreSeated rs (map (λ s. s.seats) all) → IfOk r (λ p. EachTwo AreSeated rs (map (λ s. s.seats) p.all.items))
    seated_ok k (Ok p) l same attached rs own e cpus s =
        seated k p.all.items p.lines.items l.0 l.1 l.2 same attached rs own e cpus s
    seated_ok k (Err e') l same attached rs own e cpus s = tt
