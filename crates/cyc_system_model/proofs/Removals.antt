-- A removal is the word remove.
use Rattle.std.proofs.Common.{◌≡◌, ◌≢◌, ℕ, zero, suc, ◌+◌, ◌-◌, ◌<◌, inl, inr, Bool, true, false, List, [], ◌∷◌, length, map}
use Rattle.std.proofs.Common.{sum_by, get_or, Option, Some, None, refl, ap, sym, ◌∙◌, subst, arith}
use Rattle.std.specs.Prelude.{not, is_some, Ok, Err}
use Rattle.std.specs.List.{slice_get}
use Rattle.std.specs.Option.{option_and_then}
use Rattle.cyc_types.specs.declared.receipt.Receipt.{Receipt}
use Rattle.cyc_types.specs.declared.refusal.Refusal.{Refusal}
use Rattle.cyc_types.specs.declared.refusal.Refusal.TheVariants.{NoCyclic}
use Rattle.cyc_core.specs.Tables.{Tables}
use Rattle.cyc_script.specs.declared.step.Step.TheVariants as steps
use Rattle.cyc_text.specs.Lines.{kept, removed}
use Rattle.cyc_cpu.specs.Cpu.{CpuView}
use Rattle.cyc_cpu.specs.Soft.{raise_tables}
use Rattle.cyc_system.specs.System.{SystemView, removal_on}
use Rattle.cyc_system.specs.SystemRemoval.{SystemRemoval}
use Rattle.cyc_system.specs.SystemRemoval.TheVariants as system
use Rattle.cyc_system.specs.Removing.{cpus_with as cpus_with_in, Begun, BeginsOn, BeginsEach, BeginsRemoval, kept_in}
use Rattle.cyc_system.specs.Removing.{unknown_cyclic, busy_on_each as busy_in}
use Rattle.cyc_model.specs.Acts.{calls_of}
use Rattle.cyc_model.specs.Report.{counts_of}
use Rattle.cyc_model.specs.Cpu.{CyclicState, has_cyclic, cyclic_with_id}
use Rattle.cyc_model.specs.Questions.{plain, outstanding_here}
use Rattle.cyc_model.specs.State.{State, Outcome, absent, cpu_of, cpus_having, each, told}
use Rattle.cyc_model.specs.Places.{id_of, is_no_cyclic}
use Rattle.cyc_types.specs.Reasons.{first_refusal, when, busy}
use Rattle.cyc_model.specs.Remove.{busy_on_any, remove_id_refusal, begin, answered, begun, with_answer, kept_on}
use Rattle.cyc_model.specs.Script.{text_in}
use Rattle.cyc_model.proofs.Placing.{placement_forgotten}
use Rattle.cyc_model.proofs.Numbers.{Has, RiseFrom, numbers_rise, numbers_pass}
use Rattle.cyc_model.proofs.Rising.{found, any_found}
use Rattle.cyc_system_model.proofs.Free.{none_admitted}
use Rattle.cyc_system_model.specs.Shown.{shown_list, ShowsSystem, IsSystem}
use Rattle.cyc_system_model.specs.SystemWords.{ComesTo, IsRefusedFor}
use Rattle.cyc_system_model.specs.Removal.{told_by_receipt, IsRemovedAtOnce, IsKept}
use Rattle.cyc_system_model.proofs.Cpus.{cpu_at, long_shown}
use Rattle.cyc_system_model.proofs.Asking.{unknown_shown, NoMemory, no_memory_when, no_memory_else, is_refused, same_error}
use Rattle.cyc_system_model.proofs.Sums.{sum_numbers}
use Rattle.cyc_system_model.proofs.Half.{Half, half}
use Rattle.cyc_system_model.proofs.Ending.{none_out, own_at}
use Rattle.cyc_system_model.proofs.Coming.{Came, CameToAll, all_come, sum_own}
use Rattle.cyc_system_model.proofs.SystemRemoving.{begins_on}
use Rattle.cyc_system_model.proofs.Answering.{same_with, nowhere, forgotten_shows, all_expired, all_lost, counts_left}

-- ---- the reasons for a refusal

removal_at : (os : List Bool) (vs : List (CpuView Tables)) (n : ℕ) → length os ≡ length vs
    → (get_or (shown_list os vs) n absent).removal ≡ option_and_then (λ (c : CpuView Tables). c.removal) (slice_get vs n)
removal_at [] [] zero long = refl
removal_at [] [] (suc n) long = refl
removal_at [] (v ∷ vs) n long = absurd (omega (arith, long))
removal_at (o ∷ os) [] n long = absurd (omega (arith, long))
removal_at (o ∷ os) (v ∷ vs) zero long = refl
removal_at (o ∷ os) (v ∷ vs) (suc n) long = removal_at os vs n (omega (arith, long))

-- the open removal on the CPU of a number
pub same_removal : (m : State) (v : SystemView Tables) → ShowsSystem m v → length v.cpus.online ≡ length v.cpus.cpus
    → (n : ℕ) → (cpu_of n m).removal ≡ removal_on n v.cpus
same_removal m v h long n = ap (λ cs. (get_or cs n absent).removal) h.cpus ∙ removal_at v.cpus.online v.cpus.cpus n long

busy_all : (f g : ℕ → Option ℕ) (ns : List ℕ) → ((n : ℕ) → f n ≡ g n) → map (λ n. busy (f n)) ns ≡ map (λ n. busy (g n)) ns
busy_all f g [] same = refl
busy_all f g (n ∷ ns) same = (λ z. busy (same n z) ∷ busy_all f g ns same z)

module _ (id : ℕ) (m : State) (v : SystemView Tables) (h : ShowsSystem m v)
    (long : length v.cpus.online ≡ length v.cpus.cpus) where
  same_whys : remove_id_refusal plain id m ≡ first_refusal (unknown_cyclic id v ∷ busy_in id v)
  same_whys = λ z. first_refusal (when (unknown_shown id m v h z) NoCyclic
      ∷ (ap (λ ns. busy_on_any plain ns m) (same_with id m v h long)
      ∙ busy_all (λ n. (cpu_of n m).removal) (λ n. removal_on n v.cpus) (cpus_with_in id v.cpus)
      (same_removal m v h long)) z)

pub no_memory_busy : (o : Option ℕ) → NoMemory (busy o)
no_memory_busy None = tt
no_memory_busy (Some id) = tt

no_memory_each : (ns : List ℕ) (s : State) → NoMemory (first_refusal (busy_on_any plain ns s))
no_memory_each [] s = tt
no_memory_each (n ∷ ns) s = no_memory_else (busy (cpu_of n s).removal) _ (no_memory_busy (cpu_of n s).removal)
    (no_memory_each ns s)

-- ---- on all CPUs

abbrev cpu_in : Begun → ℕ
cpu_in b = b.cpu

abbrev left_in : Begun → ℕ
left_in b = kept_in b.found

module _ (id : ℕ) (way : List Begun) (m : State) (v u : SystemView Tables) (h : ShowsSystem m v) (hv : Half v)
    (ns : map cpu_in way ≡ cpus_with_in id v.cpus) (each_begins : BeginsEach raise_tables id way v u) where
  abbrev parts : Outcome
  parts = each (begin plain id) (cpus_having id m) m

  all_ns : map cpu_in way ≡ cpus_having id m
  all_ns = ns ∙ sym (same_with id m v h hv.long)

  begun_all : CameToAll cpu_in (λ b c. outstanding_here id c ≡ left_in b) way m parts u
  begun_all = subst (λ ks. CameToAll cpu_in (λ b c. outstanding_here id c ≡ left_in b) way m (each (begin plain id) ks m) u)
      all_ns
      (all_come (begin plain id) cpu_in (λ c. Unit {0}) (λ b c. outstanding_here id c ≡ left_in b)
      (λ x b y. BeginsOn raise_tables id b.cpu b.found x y)
      (λ b n x y hx shows ready did. begins_on id b n x y hx shows ready did) 0 way m v u
      (subst (RiseFrom 0) (sym all_ns) (numbers_rise (has_cyclic id) 0 m.cpus)) hv h (λ k has. tt) each_begins)

  came : Came m parts u
  came = begun_all.came

  -- a CPU that has no such cyclic now has no call of it
  none_now : (i : ℕ) → i < length parts.state.cpus → has_cyclic id (cpu_of i parts.state) ≡ false
      → outstanding_here id (cpu_of i parts.state) ≡ 0
  none_now i low none =
      let l = ap (λ cs. length cs) came.shows.cpus ∙ long_shown u.cpus.online u.cpus.cpus came.half.long in
      let same : cpu_of i parts.state ≡ cpu_at u.cpus i = ap (λ cs. get_or cs i absent) came.shows.cpus in
      ap (outstanding_here id) same ∙ none_out id (cpu_at u.cpus i) (own_at u i came.half (omega (arith, low, l)))
      (ap (cyclic_with_id id) (sym same) ∙ not_found (found id (cpu_of i parts.state).cyclics)
      (sym (any_found id (cpu_of i parts.state).cyclics) ∙ none))
    where
      not_found : (o : Option CyclicState) → is_some o ≡ false → o ≡ None
      not_found None is = refl
      not_found (Some x) is = absurd (let isnt : true ≡ false = is in cc)

  -- the calls that are kept
  pub kept_is : kept_on plain id (cpus_having id parts.state) parts.state ≡ sum_by left_in way
  kept_is =
      sum_numbers (λ n. outstanding_here id (cpu_of n parts.state)) (outstanding_here id)
      (has_cyclic id) 0 parts.state.cpus parts.state.cpus refl
      (λ i low. ap (λ j. outstanding_here id (cpu_of j parts.state)) (zero_plus i)) none_now
      ∙ sym (sum_numbers (λ n. outstanding_here id (cpu_of n parts.state)) (outstanding_here id)
      (has_cyclic id) 0 m.cpus parts.state.cpus (sym came.as_many)
      (λ i low. ap (λ j. outstanding_here id (cpu_of j parts.state)) (zero_plus i))
      (λ i low none. none_now i low (ap (has_cyclic id)
      (begun_all.beside i (λ has. was_there i none (subst (λ ks. Has i ks) all_ns has))) ∙ none)))
      ∙ ap (λ ks. sum_by (λ n. outstanding_here id (cpu_of n parts.state)) ks) (sym all_ns)
      ∙ sum_own cpu_in left_in (outstanding_here id) way parts.state begun_all.own
    where
      zero_plus : (i : ℕ) → 0 + i ≡ i
      zero_plus i = omega arith

      was_there : (i : ℕ) → has_cyclic id (cpu_of i m) ≡ false → Has i (cpus_having id m) → ⊥
      was_there i none has = absurd (let isnt : true ≡ false = sym (numbers_pass (has_cyclic id) i m has).1 ∙ none in cc)

begun_some : (step id : ℕ) (text ns : List ℕ) (o : Outcome) → ns ≢ []
    → begun plain step text id ns o ≡ told (kept step (kept_on plain id ns o.state)) o
begun_some step id text [] o some = absurd (some refl)
begun_some step id text (n ∷ ns) o some = refl

module _ (name : ℕ) (m : State) (v w : SystemView Tables) (sys : IsSystem v) (h : ShowsSystem m v) where
  abbrev own_id : ℕ
  own_id = id_of name m

  pub remove_done : (receipt : Receipt) → BeginsRemoval raise_tables (id_of name m) (Ok (system.Done receipt)) v w
      → IsRemovedAtOnce name receipt m w
  remove_done receipt (inl (e, some, answer, same)) = absurd (let isnt : Ok (system.Done receipt) ≡ Err e = answer in cc)
  remove_done receipt (inr (none, (way, u, ns, begins, answers))) =
      let o = parts own_id way m v u h (half v sys) ns begins in
      let c = came own_id way m v u h (half v sys) ns begins in
      let there = nowhere own_id receipt o.state u w c.shows c.half answers in
      let is : (step : ℕ) (text : List ℕ) → with_answer plain step text own_id o ≡ answered step text own_id o =
      λ step text. ap (λ ks. begun plain step text own_id ks o) there in
      let shows = forgotten_shows own_id receipt o.state u w c.shows c.half answers in
      let expired = all_expired own_id receipt o.state u w c.shows c.half answers in
      let lost = all_lost own_id receipt o.state u w c.shows c.half answers in
      record {
        done = record {
          accepted = same_whys own_id m v h sys.agrees.long ∙ none;
          given = [];
          comes = λ texts indexes step at. subst (λ p. ComesTo [] m p w) (sym (is step (text_in texts name))) (record {
            shows = shows;
            admissions = (let a = c.admissions in omega (arith, a));
            free = λ n soft. none_admitted o.acts n soft _ c.none;
          });
          quiet = λ texts indexes step at q. ap (λ (p : Outcome). calls_of q p.acts) (is step (text_in texts name)) ∙ c.quiet q;
        };
        line = λ texts indexes step. ap (λ (p : Outcome). p.line) (is step (text_in texts name))
            ∙ (λ z. removed step (text_in texts name) (expired z - lost z));
        counts = λ texts indexes step. ap (λ (p : Outcome). counts_of own_id p.state) (is step (text_in texts name))
            ∙ counts_left own_id receipt o.state u w c.shows c.half answers ∙ ap (told_by_receipt receipt) (c.called own_id);
      }

  -- the definition knows the cyclic no more, and the receipt is its own
  pub remove_forgets : (receipt : Receipt) → BeginsRemoval raise_tables (id_of name m) (Ok (system.Done receipt)) v w
      → (step : ℕ) (text : List ℕ) → is_no_cyclic own_id (with_answer plain step text own_id
      (each (begin plain own_id) (cpus_having own_id m) m)).state ≡ true
  remove_forgets receipt (inl (e, some, answer, same)) step text =
      absurd (let isnt : Ok (system.Done receipt) ≡ Err e = answer in cc)
  remove_forgets receipt (inr (none, (way, u, ns, begins, answers))) step text =
      let o = parts own_id way m v u h (half v sys) ns begins in
      let c = came own_id way m v u h (half v sys) ns begins in
      ap (λ ks. is_no_cyclic own_id (begun plain step text own_id ks o).state)
      (nowhere own_id receipt o.state u w c.shows c.half answers)
      ∙ ap (λ p. not (is_some p)) (placement_forgotten own_id o.state)

  pub remove_kept : (waits : ℕ) → BeginsRemoval raise_tables (id_of name m) (Ok (system.Kept waits)) v w → IsKept name waits m w
  remove_kept waits (inl (e, some, answer, same)) = absurd (let isnt : Ok (system.Kept waits) ≡ Err e = answer in cc)
  remove_kept waits (inr (none, (way, ns, begins, some, is_kept))) =
      let o = parts own_id way m v w h (half v sys) ns begins in
      let c = came own_id way m v w h (half v sys) ns begins in
      let still : cpus_having own_id o.state ≢ [] = λ e. some (sym (same_with own_id o.state w c.shows c.half.long) ∙ e) in
      let is : (step : ℕ) (text : List ℕ) → with_answer plain step text own_id o
      ≡ told (kept step (kept_on plain own_id (cpus_having own_id o.state) o.state)) o =
      λ step text. begun_some step own_id text (cpus_having own_id o.state) o still in
      record {
        done = record {
          accepted = same_whys own_id m v h sys.agrees.long ∙ none;
          given = [];
          comes = λ texts indexes step at. subst (λ p. ComesTo [] m p w) (sym (is step (text_in texts name))) (record {
            shows = c.shows;
            admissions = (let a = c.admissions in omega (arith, a));
            free = λ n soft. none_admitted o.acts n soft _ c.none;
          });
          quiet = λ texts indexes step at q. ap (λ (p : Outcome). calls_of q p.acts) (is step (text_in texts name)) ∙ c.quiet q;
        };
        line = λ texts indexes step. ap (λ (p : Outcome). p.line) (is step (text_in texts name))
            ∙ ap (kept step) (kept_is own_id way m v w h (half v sys) ns begins ∙ sym is_kept);
      }

  pub remove_refused : (e : Refusal) → BeginsRemoval raise_tables (id_of name m) (Err e) v w
      → IsRefusedFor e (steps.Remove name) m w
  remove_refused e (inl (own, some, answer, same)) = (
    is_refused e (remove_id_refusal plain own_id m)
        (same_whys own_id m v h sys.agrees.long ∙ some
        ∙ ap Some (sym (same_error SystemRemoval e own (Err e) (Err own) refl refl answer)))
        (no_memory_else (when (is_no_cyclic own_id m) NoCyclic) _ (no_memory_when _ NoCyclic tt)
        (no_memory_each (cpus_having own_id m) m)),
    subst (ShowsSystem m) (sym same) h,
  )
  remove_refused e (inr (none, did)) = absurd did

pub receipt_removed : (id : ℕ) (receipt : Receipt) (v w : SystemView Tables)
    → BeginsRemoval raise_tables id (Ok (system.Done receipt)) v w → receipt.id ≡ id
receipt_removed id receipt v w (inl (e, some, answer, same)) =
    absurd (let isnt : Ok (system.Done receipt) ≡ Err e = answer in cc)
receipt_removed id receipt v w (inr (none, (way, u, ns, begins, answers))) = answers.counts.id ∙ answers.named
