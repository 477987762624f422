-- A CPU that goes offline is what the definition says.
use Rattle.std.proofs.Common.{◌≡◌, ◌≢◌, ℕ, zero, suc, ◌<◌, ◌||◌, inl, inr, Bool, true, false, List, [], ◌∷◌, ◌++◌, length, get_or}
use Rattle.std.proofs.Common.{Option, Some, None, refl, ap, sym, ◌∙◌, subst, arith}
use Rattle.std.specs.Prelude.{slice_set, nat_lt, Ok, Err}
use Rattle.std.specs.List.{FoldsTo, list_any}
use Rattle.std.proofs.lemmas.Bool.{or_right}
use Rattle.cyc_types.specs.Refusals.{number_of}
use Rattle.cyc_types.specs.declared.refusal.JuggleReport.{JuggleReport}
use Rattle.cyc_types.specs.declared.refusal.Refusal.{Refusal}
use Rattle.cyc_types.specs.declared.refusal.Refusal.TheVariants.{NoCpu, Offline, LastCpu, Pending, Left}
use Rattle.cyc_core.specs.Tables.{Tables}
use Rattle.cyc_script.specs.declared.step.Step.TheVariants as steps
use Rattle.cyc_text.specs.Lines.{accepted, refused, cyclics_left}
use Rattle.cyc_cpu.specs.Cpu.{CpuView}
use Rattle.cyc_cpu.specs.Soft.{raise_tables}
use Rattle.cyc_cpu.specs.Calls.{AskPending, TakeNow}
use Rattle.cyc_system.specs.Cpus.{CpusView, Works, on as on_cpu}
use Rattle.cyc_system.specs.System.{SystemView, ids_on as ids_there}
use Rattle.cyc_system.specs.Juggling.{single_ids as single_there, juggle_refusals}
use Rattle.cyc_system.specs.GoingOffline.{quiet, Retires, offline_at}
use Rattle.cyc_system.specs.Calls.{Changes, Offline as GoOffline}
use Rattle.cyc_model.specs.Acts.{calls_of}
use Rattle.cyc_model.specs.Cpu.{Cpu, cyclic_with_id, nothing_here}
use Rattle.cyc_model.specs.Moving.{take_here}
use Rattle.cyc_model.specs.Questions.{plain, outstanding_here}
use Rattle.cyc_model.specs.State.{State, Outcome, absent, cpu_of, on_number, each, before, followed_by, told}
use Rattle.cyc_model.specs.Places.{keep_counts, keeping_counts}
use Rattle.cyc_types.specs.Reasons.{first_refusal, or_else, when, busy}
use Rattle.cyc_model.specs.Refusals.{is_no_cpu, cpu_is_offline, is_last_online}
use Rattle.cyc_model.specs.Add.{cyclic_that_expired}
use Rattle.cyc_model.specs.Juggle.{Juggled, juggled, juggle_refusal, single_ids_of}
use Rattle.cyc_model.specs.Offline.{ids_of_cpu, retire, go_offline, retire_all, any_pending, last_part, leaving, offline}
use Rattle.cyc_model.proofs.Agreement.{agrees_with}
use Rattle.cyc_model.proofs.Local.{Local, same_low_lock, local_nothing, local_take}
use Rattle.cyc_model.proofs.Refusing.{is_cpu}
use Rattle.cyc_system_model.proofs.Free.{none_admitted, take_none}
use Rattle.cyc_system_model.specs.ShownCpu.{shown_cpu}
use Rattle.cyc_system_model.specs.Shown.{shown_list, shown_cpus, ShowsSystem, AreTied, IsSystem}
use Rattle.cyc_system_model.specs.SystemWords.{GivesIndexes, IsDoneWith, IsRefusedFor, IsAtOnce, ComesTo}
use Rattle.cyc_system_model.specs.Room.{HaveRoomFor}
use Rattle.cyc_system_model.proofs.Cpus.{cpu_at, done_at, long_shown}
use Rattle.cyc_system_model.proofs.Asking.{both_none, is_refused, same_error}
use Rattle.cyc_system_model.proofs.Entering.{unchanged, same_shown}
use Rattle.cyc_system_model.proofs.Going.{Goes, goes_alike, goes_from, goes_then, goes_on}
use Rattle.cyc_system_model.proofs.Half.{Half, half}
use Rattle.cyc_system_model.proofs.Keeping.{kept_only, kept_ended, kept_turns, kept_retires}
use Rattle.cyc_system_model.proofs.Binding.{taken_is, is_less}
use Rattle.cyc_system_model.proofs.Ending.{ended_shows}
use Rattle.cyc_system_model.proofs.Juggling.{JugglesTo, juggles, same_whys, no_memory, same_ids, same_single}

-- ---- the calls that are outstanding

abbrev has_out : ℕ → CpusView Tables → ℕ → Bool
has_out n v id = nat_lt 0 (outstanding_here id (cpu_at v n))

-- the CPU was asked for each of these, and none is outstanding
none_out : (n : ℕ) (ids : List ℕ) (v w : CpusView Tables) → length v.online ≡ length v.cpus → AreTied v
    → Works raise_tables (quiet n ids) v w → (shown_cpus w ≡ shown_cpus v) × (list_any (has_out n v) ids ≡ false)
none_out n [] v w long ties same = (ap shown_cpus (sym same), refl)
none_out n (id ∷ ids) v w long ties (u, ask, rest) =
    let a = done_at n (AskPending id (Some 0)) v u long ties ask in
    let same = unchanged v u n a.cpus in
    let more = none_out n ids u w a.long a.tied rest in (
      more.0 ∙ same,
      (λ z. nat_lt 0 (sym (a.answered tt).1 z) || list_any (λ i. nat_lt 0 (outstanding_here i (get_or (sym same z) n absent)))
          ids) ∙ more.1,
    )

-- it was asked up to one with calls outstanding
some_out : (n : ℕ) (before : List ℕ) (id found : ℕ) (v w : CpusView Tables) → length v.online ≡ length v.cpus → AreTied v
    → 0 < found
    → Works raise_tables (quiet n before ++ on_cpu n (AskPending id (Some found)) ∷ []) v w
    → (shown_cpus w ≡ shown_cpus v) × (has_out n v id ≡ true)
some_out n [] id found v w long ties some (u, ask, same) =
    let a = done_at n (AskPending id (Some found)) v u long ties ask in
    (ap shown_cpus (sym same) ∙ unchanged v u n a.cpus, ap (nat_lt 0) (sym (a.answered tt).1) ∙ is_less found some)
some_out n (b ∷ before) id found v w long ties some (u, ask, rest) =
    let a = done_at n (AskPending b (Some 0)) v u long ties ask in
    let same = unchanged v u n a.cpus in
    let more = some_out n before id found u w a.long a.tied some rest in
    (more.0 ∙ same, ap (λ cs. nat_lt 0 (outstanding_here id (get_or cs n absent))) (sym same) ∙ more.1)

any_after : (test : ℕ → Bool) (before rest : List ℕ) (id : ℕ) → test id ≡ true → list_any test (before ++ id ∷ rest) ≡ true
any_after test [] rest id is = ap (λ b. b || list_any test rest) is
any_after test (b ∷ before) rest id is = ap (λ x. test b || x) (any_after test before rest id is) ∙ or_right (test b) true refl

-- ---- the components end

record Retired (s : State) (o : Outcome) (w : SystemView Tables) : Type 0 where
  goes : Goes s o
  shows : ShowsSystem o.state w
  admissions : o.state.admissions ≡ s.admissions

all_retire : (n : ℕ) (ids : List ℕ) (v w : SystemView Tables) → Half v → FoldsTo (Retires raise_tables n) v ids w → (s : State)
    → ShowsSystem s v
    → Retired s (each (retire n) ids s) w
all_retire n [] v w hv same s h = record {
  goes = goes_alike s s (refl, refl);
  shows = subst
      (ShowsSystem s) same h;
  admissions = refl;
}
all_retire n (id ∷ ids) v w hv (u, (taken, did, k, r, is, named, records, last), rest) s h =
    let d = done_at n (TakeNow id (Ok taken)) v.cpus u.cpus hv.long hv.tied did in
    let x = cyclic_that_expired id taken.level taken.interval taken.moment taken.sent.sent taken.sent.lost in
    let found : cyclic_with_id id (cpu_of n s) ≡ Some x =
    ap (λ cs. cyclic_with_id id (get_or cs n absent)) h.cpus ∙ taken_is id taken (cpu_at v.cpus n) (d.answered tt).1 in
    let o = on_number n (take_here n id) (keeping_counts n x s) in
    let low : n < length v.cpus.cpus = (let a = d.within in let l = long_shown v.cpus.online v.cpus.cpus hv.long in
    omega (arith, a, l)) in
    let cpus : o.state.cpus ≡ shown_cpus u.cpus =
    ap (λ cs. slice_set cs n (take_here n id (get_or cs n absent)).cpu) h.cpus ∙ sym d.cpus in
    let shows = ended_shows n id x taken.sent k r s v u h hv low is named refl refl refl records last o.state cpus refl refl
    (λ q j. refl) in
    let goes : Goes s o = goes_from s (keeping_counts n x s) o (refl, refl)
    (goes_on n (take_here n id) (keeping_counts n x s) (local_take n id) (subst (λ cs. n < length cs) (sym h.cpus) d.within)
    (λ soft. none_admitted (take_here n id (cpu_of n s)).acts n soft _ (take_none n id (cpu_of n s)))
    (λ q. ap (λ cs. calls_of q (take_here n id (get_or cs n absent)).acts) h.cpus ∙ d.quiet q)) in
    let hu = (kept_ended n (TakeNow id (Ok taken)) taken.sent k r v u hv did is records last).half in
    let more = all_retire n ids u w hu rest o.state shows in
    subst (λ p. Retired s (followed_by p (each (retire n) ids)) w)
    (sym (ap (λ c. on_number n (take_here n id) (keep_counts n c s)) found)) (record {
      goes = goes_then s o (each (retire n) ids) goes more.goes;
      shows = more.shows;
      admissions = more.admissions;
    })

-- ---- the CPU takes no further part

switched_off : (os : List Bool) (vs : List (CpuView Tables)) (n : ℕ) → length os ≡ length vs
    → slice_set (shown_list os vs) n (go_offline (get_or (shown_list os vs) n absent)) ≡ shown_list (slice_set os n false) vs
switched_off [] [] n long = refl
switched_off [] (v ∷ vs) n long = absurd (omega (arith, long))
switched_off (o ∷ os) [] n long = absurd (omega (arith, long))
switched_off (o ∷ os) (v ∷ vs) zero long = refl
switched_off (o ∷ os) (v ∷ vs) (suc n) long = ap (λ cs. shown_cpu o v ∷ cs) (switched_off os vs n (omega (arith, long)))

local_offline : (n : ℕ) (c : Cpu) → Local n c (nothing_here (go_offline c))
local_offline n c = local_nothing n c (go_offline c) (same_low_lock c (go_offline c) refl refl)
    (λ h. agrees_with c (go_offline c) refl refl refl (λ id. refl) h)

abbrev taken_off : ℕ → State → Outcome
taken_off n s = on_number n (λ c. nothing_here (go_offline c)) s

offline_shows : (n : ℕ) (s : State) (v : SystemView Tables) → Half v → ShowsSystem s v
    → ShowsSystem (taken_off n s).state (offline_at n v)
offline_shows n s v hv h = record {
  cpus = ap (λ cs. slice_set cs n (go_offline (get_or cs n absent))) h.cpus ∙ switched_off v.cpus.online v.cpus.cpus n hv.long;
  placed = h.placed;
  ended = h.ended;
  fresh = h.fresh;
  last = h.last;
}

-- ---- the reasons that come at once

abbrev AtOnce : Option Refusal → Type 0
AtOnce None = Unit {0}
AtOnce (Some e) = IsAtOnce e

at_once_when : (b : Bool) (e : Refusal) → IsAtOnce e → AtOnce (when b e)
at_once_when true e once = once
at_once_when false e once = tt

at_once_else : (a b : Option Refusal) → AtOnce a → AtOnce b → AtOnce (or_else a b)
at_once_else None b first later = later
at_once_else (Some e) b first later = first

at_once_busy : (o : Option ℕ) → AtOnce (busy o)
at_once_busy None = tt
at_once_busy (Some id) = tt

all_at_once : (n : ℕ) (s : State) → AtOnce (juggle_refusal plain n s)
all_at_once n s = at_once_else (is_no_cpu n s) _ (at_once_when _ NoCpu tt)
    (at_once_else (cpu_is_offline n s) _ (at_once_when _ Offline tt)
    (at_once_else (is_last_online n s) _ (at_once_when _ LastCpu tt)
    (at_once_else (busy (cpu_of n s).removal) None (at_once_busy (cpu_of n s).removal) tt)))

-- ---- what follows the turns

left_as : (step n : ℕ) (ids : List ℕ) (j : Juggled) → ids ≢ []
    → leaving plain step n ids j ≡ told (cyclics_left step j.report) j.outcome
left_as step n [] j some = absurd (some refl)
left_as step n (id ∷ ids) j some = refl

emptied_as : (step n : ℕ) (ids : List ℕ) (b : Bool) (j : Juggled) → ids ≡ []
    → any_pending plain n (ids_of_cpu n j.outcome.state) j.outcome.state ≡ b
    → leaving plain step n ids j ≡ last_part b step n j.outcome
emptied_as step n ids b j none is = ap (λ i. leaving plain step n i j) none ∙ ap (λ c. last_part c step n j.outcome) is

-- what an outcome without its line comes to
record DoesSo (given : List ℕ) (s : State) (o : Outcome) (w : SystemView Tables) : Type 0 where
  comes : ComesTo given s o w
  quiet : (id : ℕ) → calls_of id o.acts ≡ 0

-- the components end after the turns, and the CPU takes no further part
retired_so : (n : ℕ) (given : List ℕ) (report : JuggleReport) (s : State) (j : Juggled) (m gone w : SystemView Tables)
    → JugglesTo report given s j m
    → (ids : List ℕ) → ids_of_cpu n j.outcome.state ≡ ids → Retired j.outcome.state (each (retire n) ids j.outcome.state) gone
    → Half gone
    → n < length s.cpus → w ≡ offline_at n gone → DoesSo given s (followed_by j.outcome (retire_all n)) w
retired_so n given report s j m gone w d ids same r hg low is =
    let s1 = j.outcome.state in
    let o = each (retire n) ids s1 in
    let low_now : n < length o.state.cpus = (let x = d.goes.tells.as_many in let y = r.goes.tells.as_many in
    omega (arith, low, x, y)) in
    let goes = goes_then s j.outcome (λ t. followed_by (each (retire n) ids t) (taken_off n)) d.goes
    (goes_then s1 o (taken_off n) r.goes
    (goes_on n (λ c. nothing_here (go_offline c)) o.state (local_offline n) low_now (λ soft. tt) (λ q. refl))) in
    subst (λ i. DoesSo given s (before j.outcome (followed_by (each (retire n) i s1) (taken_off n))) w) (sym same) (record {
      comes = record {
        shows = subst (ShowsSystem (taken_off n o.state).state) (sym is) (offline_shows n o.state gone hg r.shows);
        admissions = (let x = r.admissions in let y = d.admissions in omega (arith, x, y));
        free = goes.free;
      };
      quiet = goes.quiet;
    })

module _ (n : ℕ) (s : State) (v w : SystemView Tables) (sys : IsSystem v) (h : ShowsSystem s v) where
  -- where each step's outcome is so
  with_line : (given : List ℕ) (line : ℕ → List ℕ) (o : (ℕ → ℕ) → Outcome) → first_refusal (juggle_refusals n v) ≡ None
      → ((indexes : ℕ → ℕ) → GivesIndexes indexes s.admissions given → DoesSo given s (o indexes) w)
      → ((indexes : ℕ → ℕ) (step : ℕ) → GivesIndexes indexes s.admissions given
      → offline plain indexes step n s ≡ told (line step) (o indexes))
      → IsDoneWith line (steps.Offline n) s w
  with_line given line o none does same = record {
    done = record {
      accepted = same_whys n s v h (half v sys) ∙ none;
      given = given;
      comes = λ texts indexes step gives.
          let d = (does indexes gives).comes in
          subst (λ p. ComesTo given s p w) (sym (same indexes step gives))
          (record { shows = d.shows; admissions = d.admissions; free = d.free });
      quiet = λ texts indexes step gives id. ap (λ (p : Outcome). calls_of id p.acts) (same indexes step gives)
          ∙ (does indexes gives).quiet id;
    };
    said = λ texts indexes step gives. ap (λ (p : Outcome). p.line) (same indexes step gives);
  }

  -- where nothing of the system is shown otherwise than after the turns
  stays_so : (given : List ℕ) (report : JuggleReport) (m : SystemView Tables) (j : Juggled) → JugglesTo report given s j m
      → (ShowsSystem j.outcome.state m → ShowsSystem j.outcome.state w) → DoesSo given s j.outcome w
  stays_so given report m j d shows = record {
    comes = record { shows = shows d.shows; admissions = d.admissions; free = d.goes.free };
    quiet = d.goes.quiet;
  }

  not_late : (e own : Refusal) → first_refusal (juggle_refusals n v) ≡ Some own → e ≡ own → IsAtOnce e
  not_late e own some same = subst AtOnce (same_whys n s v h (half v sys) ∙ some ∙ ap Some (sym same)) (all_at_once n s)

  pub offline_refused : (e : Refusal) → IsAtOnce e → Changes raise_tables v (GoOffline n (Err e)) w
      → IsRefusedFor e (steps.Offline n) s w
  offline_refused e once (inl (own, some, answer, same)) = (
    is_refused e (juggle_refusal plain n s) (same_whys n s v h (half v sys) ∙ some
        ∙ ap Some (sym (same_error (Unit {0}) e own (Err e) (Err own) refl refl answer))) (no_memory n s v h (half v sys)),
    subst (ShowsSystem s) (sym same) h,
  )
  offline_refused e once (inr (none, (report, m, turns, inl (some, answer, same)))) =
      absurd (subst IsAtOnce (same_error (Unit {0}) e (Left report) (Err e) (Err (Left report)) refl refl answer) once)
  offline_refused e once (inr (none, (report, m, turns, inr (inl (empty, answer, finds))))) =
      absurd (subst IsAtOnce (same_error (Unit {0}) e Pending (Err e) (Err Pending) refl refl answer) once)
  offline_refused e once (inr (none, (report, m, turns, inr (inr (empty, answer, retires))))) =
      absurd (let isnt : Err e ≡ Ok tt = answer in cc)

abbrev report_in : JuggleReport → Refusal → JuggleReport
report_in d (Left report) = report
report_in d e = d

module _ (n : ℕ) (s : State) (v w : SystemView Tables) (sys : IsSystem v) (h : ShowsSystem s v)
    (all : HaveRoomFor (length v.records) v.cpus) where
  -- cyclics are left that are not omnipresent
  pub offline_left : (report : JuggleReport) → Changes raise_tables v (GoOffline n (Err (Left report))) w
      → IsDoneWith (λ step. cyclics_left step report) (steps.Offline n) s w
  offline_left report (inl (own, some, answer, same)) = absurd (not_late n s v w sys h (Left report) own some
      (same_error (Unit {0}) (Left report) own (Err (Left report)) (Err own) refl refl answer))
  offline_left report (inr (none, (own, m, turns, inl (some, answer, same)))) =
      let hv = half v sys in
      let hm = (kept_turns n (single_there n v) own v m hv turns).half in
      let is : report ≡ own = ap (report_in report)
      (same_error (Unit {0}) (Left report) (Left own) (Err (Left report)) (Err (Left own)) refl refl answer) in
      let (given, j) = juggles n s v h hv own m sys.agrees all turns in
      with_line n s v w sys h given (λ step. cyclics_left step report) (λ indexes. (juggled plain indexes n s).outcome) none
      (λ indexes gives. stays_so n s v w sys h given own m (juggled plain indexes n s) (j indexes gives)
      (λ shows. subst (ShowsSystem _) (sym same) shows))
      (λ indexes step gives.
      let d = j indexes gives in
      let x = juggled plain indexes n s in
      left_as step n (single_ids_of n x.outcome.state) x (λ e. some (sym (same_single n x.outcome.state m d.shows hm) ∙ e))
      ∙ ap (λ r. told (cyclics_left step r) x.outcome) (d.told ∙ sym is))
  offline_left report (inr (none, (own, m, turns, inr (inl (empty, answer, finds))))) =
      absurd (let isnt : Left report ≡ Pending =
      same_error (Unit {0}) (Left report) Pending (Err (Left report)) (Err Pending) refl refl answer in cc)
  offline_left report (inr (none, (own, m, turns, inr (inr (empty, answer, retires))))) =
      absurd (let isnt : Err (Left report) ≡ Ok tt = answer in cc)

  -- a component has calls outstanding
  pub offline_pending : Changes raise_tables v (GoOffline n (Err Pending)) w
      → IsDoneWith (λ step. refused step (number_of Pending)) (steps.Offline n) s w
  offline_pending (inl (own, some, answer, same)) = absurd (not_late n s v w sys h Pending own some
      (same_error (Unit {0}) Pending own (Err Pending) (Err own) refl refl answer))
  offline_pending (inr (none, (own, m, turns, inl (some, answer, same)))) =
      absurd (let isnt : Pending ≡ Left own = same_error (Unit {0}) Pending (Left own) (Err Pending)
      (Err (Left own)) refl refl answer in cc)
  offline_pending (inr (
    none,
    (
      own,
      m,
      turns,
      inr (inl (empty, answer, (before, id, (rest, is), found, some, (works, records, last)))),
    ),
  )) =
      let hv = half v sys in
      let hm = (kept_turns n (single_there n v) own v m hv turns).half in
      let out = some_out n before id found m.cpus w.cpus hm.long hm.tied some works in
      let any : list_any (has_out n m.cpus) (ids_there n m.cpus) ≡ true =
      ap (list_any (has_out n m.cpus)) is ∙ any_after (has_out n m.cpus) before rest id out.1 in
      let (given, j) = juggles n s v h hv own m sys.agrees all turns in
      with_line n s v w sys h given (λ step. refused step (number_of Pending))
      (λ indexes. (juggled plain indexes n s).outcome) none
      (λ indexes gives. stays_so n s v w sys h given own m (juggled plain indexes n s) (j indexes gives)
      (λ shows. same_shown _ m w shows out.0 records last))
      (λ indexes step gives.
      let d = j indexes gives in
      let x = juggled plain indexes n s in
      emptied_as step n (single_ids_of n x.outcome.state) true x (same_single n x.outcome.state m d.shows hm ∙ empty)
      ((λ z. list_any (λ i. nat_lt 0 (outstanding_here i (get_or (d.shows.cpus z) n absent)))
      (same_ids n x.outcome.state m d.shows hm z)) ∙ any))
  offline_pending (inr (none, (own, m, turns, inr (inr (empty, answer, retires))))) =
      absurd (let isnt : Err Pending ≡ Ok tt = answer in cc)

  -- all have left
  pub offline_accepted : Changes raise_tables v (GoOffline n (Ok tt)) w → IsDoneWith accepted (steps.Offline n) s w
  offline_accepted (inl (own, some, answer, same)) = absurd (let isnt : Ok tt ≡ Err own = answer in cc)
  offline_accepted (inr (none, (own, m, turns, inl (some, answer, same)))) =
      absurd (let isnt : Ok tt ≡ Err (Left own) = answer in cc)
  offline_accepted (inr (none, (own, m, turns, inr (inl (empty, answer, finds))))) =
      absurd (let isnt : Ok tt ≡ Err Pending = answer in cc)
  offline_accepted (inr (none, (own, m, turns, inr (inr (empty, answer, (a, (works, records, last), gone, retires, same)))))) =
      let hv = half v sys in
      let hm = (kept_turns n (single_there n v) own v m hv turns).half in
      let asked = none_out n (ids_there n m.cpus) m.cpus a.cpus hm.long hm.tied works in
      let ha = (kept_only (quiet n (ids_there n m.cpus)) m a hm (works, records, last)).half in
      let hg = (kept_retires n (ids_there n m.cpus) a gone ha retires).half in
      let (given, j) = juggles n s v h hv own m sys.agrees all turns in
      let low : n < length s.cpus = is_cpu n s (both_none (is_no_cpu n s) _ (same_whys n s v h hv ∙ none)).0 in
      with_line n s v w sys h given accepted (λ indexes. followed_by (juggled plain indexes n s).outcome (retire_all n)) none
      (λ indexes gives.
      let d = j indexes gives in
      let x = juggled plain indexes n s in
      retired_so n given own s x m gone w d (ids_there n m.cpus) (same_ids n x.outcome.state m d.shows hm)
      (all_retire n (ids_there n m.cpus) a gone ha retires x.outcome.state
      (same_shown x.outcome.state m a d.shows asked.0 records last)) hg low same)
      (λ indexes step gives.
      let d = j indexes gives in
      let x = juggled plain indexes n s in
      emptied_as step n (single_ids_of n x.outcome.state) false x (same_single n x.outcome.state m d.shows hm ∙ empty)
      ((λ z. list_any (λ i. nat_lt 0 (outstanding_here i (get_or (d.shows.cpus z) n absent)))
      (same_ids n x.outcome.state m d.shows hm z)) ∙ asked.1))
