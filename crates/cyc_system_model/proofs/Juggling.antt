-- A juggle of a system is what the definition says.
use Rattle.std.proofs.Common.{◌≡◌, ℕ, zero, suc, ◌+◌, ◌≤◌, inl, inr, Bool, not, List, [], ◌∷◌, ◌++◌, length, map}
use Rattle.std.proofs.Common.{filter, get_or, Some, None, refl, ap, sym, ◌∙◌, subst, arith}
use Rattle.std.specs.Prelude.{nat_le, Result, Ok, Err}
use Rattle.std.specs.List.{slice_get}
use Rattle.std.specs.Option.{option_map_or}
use Rattle.cyc_types.specs.declared.refusal.JuggleReport.{JuggleReport}
use Rattle.cyc_types.specs.declared.refusal.Refusal.{Refusal}
use Rattle.cyc_types.specs.declared.refusal.Refusal.TheVariants.{NoCpu, Offline, LastCpu}
use Rattle.cyc_system_model.specs.Rows.{Cyclic as Timed}
use Rattle.cyc_core.specs.Tables.{Tables}
use Rattle.cyc_script.specs.declared.step.Step.TheVariants as steps
use Rattle.cyc_text.specs.Lines.{moved}
use Rattle.cyc_cpu.specs.Cpu.{CpuView}
use Rattle.cyc_cpu.specs.Soft.{raise_tables}
use Rattle.cyc_system.specs.Agreement.{Agrees}
use Rattle.cyc_system.specs.System.{SystemView, ids_of, ids_on}
use Rattle.cyc_system.specs.declared.turning.Turn.{Turn as TurnThere}
use Rattle.cyc_system.specs.declared.turning.Turn.TheVariants as there
use Rattle.cyc_system.specs.Juggling.{Turns, MovesAway, counted as counted_there, single_ids as single_there}
use Rattle.cyc_system.specs.Juggling.{last_cpu as last_there, juggle_refusals}
use Rattle.cyc_system.specs.Calls.{Changes, Juggle}
use Rattle.cyc_model.specs.Cpu.{CyclicState, Cpu}
use Rattle.cyc_model.specs.Questions.{plain}
use Rattle.cyc_model.specs.State.{State, absent, cpu_of, cpus_from}
use Rattle.cyc_types.specs.Reasons.{first_refusal, or_else, when, busy}
use Rattle.cyc_model.specs.Refusals.{is_no_cpu, cpu_is_offline, is_last_online}
use Rattle.cyc_model.specs.Juggle.{
  Juggled,
  counted_turn,
  take_turn,
  one_turn,
  juggle_each,
  single_ids_of,
  juggled,
  juggle_refusal,
}
use Rattle.cyc_system_model.specs.ShownCpu.{shown_cyclic}
use Rattle.cyc_system_model.specs.Shown.{shown_list, ShowsSystem, IsSystem}
use Rattle.cyc_system_model.specs.SystemWords.{GivesIndexes, IsDoneWith, IsRefusedFor}
use Rattle.cyc_system_model.specs.Room.{HaveRoomFor}
use Rattle.cyc_system_model.proofs.Asking.{NoMemory, omnipresent_shown, same_no_cpu, same_offline, no_memory_when}
use Rattle.cyc_system_model.proofs.Asking.{no_memory_else}
use Rattle.cyc_system_model.proofs.Asking.{is_refused, same_error}
use Rattle.cyc_system_model.proofs.Removals.{same_removal, no_memory_busy}
use Rattle.cyc_system_model.proofs.Destinations.{same_numbers}
use Rattle.cyc_system_model.proofs.Half.{Half, half}
use Rattle.cyc_system_model.proofs.Agreeing.{turn_agrees, turn_records}
use Rattle.cyc_system_model.proofs.Keeping.{kept_turn}
use Rattle.cyc_system_model.proofs.Going.{Goes, goes_alike, goes_then}
use Rattle.cyc_system_model.proofs.Turning.{as_turn, turned}

-- ---- the indexes of one part, and of the rest

len_both : (xs ys : List ℕ) → length (xs ++ ys) ≡ length xs + length ys
len_both [] ys = omega arith
len_both (x ∷ xs) ys = let rest = len_both xs ys in omega (arith, rest)

gives_first : (indexes : ℕ → ℕ) (k : ℕ) (xs ys : List ℕ) → GivesIndexes indexes k (xs ++ ys) → GivesIndexes indexes k xs
gives_first indexes k [] ys gives = tt
gives_first indexes k (x ∷ xs) ys gives = (gives.0, gives_first indexes (k + 1) xs ys gives.1)

gives_rest : (indexes : ℕ → ℕ) (k : ℕ) (xs ys : List ℕ) → GivesIndexes indexes k (xs ++ ys)
    → GivesIndexes indexes (k + length xs) ys
gives_rest indexes k [] ys gives = subst (λ m. GivesIndexes indexes m ys) (none k) gives
  where
    none : (k : ℕ) → k ≡ k + 0
    none k = omega arith
gives_rest indexes k (x ∷ xs) ys gives =
    subst (λ m. GivesIndexes indexes m ys) (next k (length xs)) (gives_rest indexes (k + 1) xs ys gives.1)
  where
    next : (a b : ℕ) → a + 1 + b ≡ a + suc b
    next a b = omega arith

-- ---- the turns

pub record JugglesTo (report : JuggleReport) (given : List ℕ) (s : State) (j : Juggled) (w : SystemView Tables) : Type 0 where
  pub told : j.report ≡ report
  pub shows : ShowsSystem j.outcome.state w
  pub goes : Goes s j.outcome
  pub admissions : j.outcome.state.admissions ≡ s.admissions + length given

counted_as : (t : TurnThere) (d : ℕ) (a b : JuggleReport) → a ≡ b → counted_turn (as_turn d t) a ≡ counted_there t b
counted_as there.StaysBound d a b same = ap (λ (r : JuggleReport). record r { bound = r.bound + 1 }) same
counted_as there.StaysPending d a b same = ap (λ (r : JuggleReport). record r { pending = r.pending + 1 }) same
counted_as there.StaysRefused d a b same = ap (λ (r : JuggleReport). record r { refused = r.refused + 1 }) same
counted_as there.Moves d a b same = ap (λ (r : JuggleReport). record r { moved = r.moved + 1 }) same

all_turns : (source : ℕ) (ids : List ℕ) (report : JuggleReport) (v w : SystemView Tables) → Half v → Agrees v
    → (wanted : ℕ) → length v.records ≤ wanted → HaveRoomFor wanted v.cpus
    → Turns raise_tables source ids report v w → (given : List ℕ) × ((s : State) (indexes : ℕ → ℕ) → ShowsSystem s v
    → GivesIndexes indexes s.admissions given → JugglesTo report given s (juggle_each plain indexes source ids s) w)
all_turns source [] report v w hv agrees wanted few all (is, same) = (
  [],
  λ s indexes h gives. record {
    told = sym is;
    shows = subst (ShowsSystem s) (sym same) h;
    goes = goes_alike s s (refl, refl);
    admissions = omega arith;
  },
)
all_turns source (id ∷ ids) report v w hv agrees wanted few all (t, u, rest, takes, is, more) =
    let one = turned source id t v u hv agrees wanted few all takes in
    let long = turn_records source id t v u takes in
    let kept = kept_turn source id t v u hv takes in
    let later = all_turns source ids rest u w kept.half (turn_agrees source id t v u hv agrees takes) wanted
    (omega (arith, long, few)) (kept.room wanted all) more in (
      one.0 ++ later.0,
      λ s indexes h gives.
          let first = one.1 s indexes h (gives_first indexes s.admissions one.0 later.0 gives) in
          let o = take_turn indexes source id (as_turn first.target t) s in
          let next = later.1 o.state indexes first.shows
          (subst (λ k. GivesIndexes indexes k later.0) (sym first.admissions) (gives_rest indexes s.admissions one.0 later.0
          gives)) in
          subst (λ x. JugglesTo report (one.0 ++ later.0) s
          (one_turn indexes source id x s (juggle_each plain indexes source ids)) w)
          (sym first.is) (record {
            told = counted_as t first.target (juggle_each plain indexes source ids o.state).report rest next.told ∙ sym is;
            shows = next.shows;
            goes = goes_then s o (λ y. (juggle_each plain indexes source ids y).outcome) first.goes next.goes;
            admissions = (let a = first.admissions in let b = next.admissions in let l = len_both one.0 later.0 in
                omega (arith, a, b, l));
          }),
    )

-- ---- what is asked first

ids_shown : (cs : List Timed) → map (λ (x : CyclicState). x.timer.id) (map shown_cyclic cs) ≡ map (λ (c : Timed). c.timer.id) cs
ids_shown [] = refl
ids_shown (c ∷ cs) = ap (λ ids. c.timer.id ∷ ids) (ids_shown cs)

ids_at : (os : List Bool) (vs : List (CpuView Tables)) (n : ℕ) → length os ≡ length vs
    → map (λ (x : CyclicState). x.timer.id) (get_or (shown_list os vs) n absent).cyclics ≡ option_map_or ids_of (slice_get vs
    n) []
ids_at [] [] zero long = refl
ids_at [] [] (suc n) long = refl
ids_at [] (v ∷ vs) n long = absurd (omega (arith, long))
ids_at (o ∷ os) [] n long = absurd (omega (arith, long))
ids_at (o ∷ os) (v ∷ vs) zero long = ids_shown v.cyclics
ids_at (o ∷ os) (v ∷ vs) (suc n) long = ids_at os vs n (omega (arith, long))

module _ (n : ℕ) (s : State) (v : SystemView Tables) (h : ShowsSystem s v) (hv : Half v) where
  same_last : is_last_online n s ≡ last_there v
  same_last = ap (λ ns. when (nat_le (length ns) 1) LastCpu)
      (ap (cpus_from 0 (λ (c : Cpu). c.online)) h.cpus ∙ same_numbers 0 v.cpus.online v.cpus.cpus hv.long)

  -- why no cyclic leaves
  pub same_whys : juggle_refusal plain n s ≡ first_refusal (juggle_refusals n v)
  same_whys = λ z. or_else (same_no_cpu s v h hv.long n z) (or_else (same_offline s v h hv.long n z)
      (or_else (same_last z) (or_else (busy (same_removal s v h hv.long n z)) None)))

  pub no_memory : NoMemory (juggle_refusal plain n s)
  no_memory = no_memory_else (is_no_cpu n s) _ (no_memory_when _ NoCpu tt)
      (no_memory_else (cpu_is_offline n s) _ (no_memory_when _ Offline tt)
      (no_memory_else (is_last_online n s) _ (no_memory_when _ LastCpu tt)
      (no_memory_else (busy (cpu_of n s).removal) None (no_memory_busy (cpu_of n s).removal) tt)))

  -- the cyclics of the CPU
  pub same_ids : map (λ (x : CyclicState). x.timer.id) (cpu_of n s).cyclics ≡ ids_on n v.cpus
  same_ids = ap (λ cs. map (λ (x : CyclicState). x.timer.id) (get_or cs n absent).cyclics) h.cpus
      ∙ ids_at v.cpus.online v.cpus.cpus n hv.long

  pub same_single : single_ids_of n s ≡ single_there n v
  same_single = λ z. filter (λ id. not (omnipresent_shown id s v h z)) (same_ids z)

  -- all that may leave have their turns
  pub juggles : (report : JuggleReport) (w : SystemView Tables) → Agrees v → HaveRoomFor (length v.records) v.cpus
      → MovesAway raise_tables n report v w
      → (given : List ℕ) × ((indexes : ℕ → ℕ) → GivesIndexes indexes s.admissions given
      → JugglesTo report given s (juggled plain indexes n s) w)
  juggles report w agrees all turns =
      let f = all_turns n (single_there n v) report v w hv agrees (length v.records) (omega arith) all turns in (
        f.0,
        λ indexes gives. subst (λ ids. JugglesTo report f.0 s (juggle_each plain indexes n ids s) w) (sym same_single)
            (f.1 s indexes h gives),
      )

-- ---- the word juggle

abbrev report_of : JuggleReport → Result JuggleReport Refusal → JuggleReport
report_of d (Ok report) = report
report_of d (Err e) = d

module _ (n : ℕ) (s : State) (v w : SystemView Tables) (sys : IsSystem v) (h : ShowsSystem s v) where
  pub juggle_accepted : HaveRoomFor (length v.records) v.cpus → (report : JuggleReport)
      → Changes raise_tables v (Juggle n (Ok report)) w
      → IsDoneWith (λ step. moved step report) (steps.Juggle n) s w
  juggle_accepted all report (inl (e, some, answer, same)) = absurd (let isnt : Ok report ≡ Err e = answer in cc)
  juggle_accepted all report (inr (none, (own, answer, turns))) =
      let same : report ≡ own = ap (report_of report) answer in
      let (given, j) = juggles n s v h (half v sys) own w sys.agrees all turns in
      record {
        done = record {
          accepted = same_whys n s v h (half v sys) ∙ none;
          given = given;
          comes = λ texts indexes step gives.
              let d = j indexes gives in
              record { shows = d.shows; admissions = d.admissions; free = d.goes.free };
          quiet = λ texts indexes step gives. (j indexes gives).goes.quiet;
        };
        said = λ texts indexes step gives. ap (moved step) ((j indexes gives).told ∙ sym same);
      }

  pub juggle_refused : (e : Refusal) → Changes raise_tables v (Juggle n (Err e)) w → IsRefusedFor e (steps.Juggle n) s w
  juggle_refused e (inl (own, some, answer, same)) = (
    is_refused e (juggle_refusal plain n s) (same_whys n s v h (half v sys) ∙ some
        ∙ ap Some (sym (same_error JuggleReport e own (Err e) (Err own) refl refl answer))) (no_memory n s v h (half v sys)),
    subst (ShowsSystem s) (sym same) h,
  )
  juggle_refused e (inr (none, (own, answer, turns))) = absurd (let isnt : Err e ≡ Ok own = answer in cc)
