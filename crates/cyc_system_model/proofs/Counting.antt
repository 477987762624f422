-- What the calls of a CPU find: its cyclics, and the calls of them that are outstanding.
use Rattle.std.proofs.Common.{◌≡◌, ℕ, zero, suc, ◌<◌, List, [], ◌∷◌, map, find, Bool, true, false, cond, Option, Some, None, refl}
use Rattle.std.proofs.Common.{ap, sym, ◌∙◌, subst, arith}
use Rattle.std.specs.Prelude.{◌||◌, is_some}
use Rattle.std.specs.List.{list_any}
use Rattle.std.specs.Option.{option_map_or}
use Rattle.std.proofs.lemmas.Bool.{or_right}
use Rattle.cyc_types.specs.Firing.{Loads, Marks, Polls}
use Rattle.cyc_types.specs.Runs.{Goes}
use Rattle.cyc_types.specs.declared.firing.Sent.{Sent}
use Rattle.cyc_types.specs.declared.level.Level.{Level}
use Rattle.cyc_types.specs.declared.level.Level.TheVariants.{Low, Lock, High}
use Rattle.cyc_level.specs.Level.{AdmittedCyclic, count, count_in}
use Rattle.cyc_core.specs.Tables.{Tables, level_of}
use Rattle.cyc_timers.specs.Rows.{Cyclic as Timed}
use Rattle.cyc_cpu.specs.Cpu.{CpuView, IsCyclic, HasNoCyclic, HasRisingCyclics}
use Rattle.cyc_system_model.specs.Tied.{HasOwn, IsTied}
use Rattle.cyc_cpu.specs.Soft.{raise_tables}
use Rattle.cyc_model.specs.Cpu.{CyclicState, Cpu, is_of, handler_level_of}
use Rattle.cyc_model.specs.Serving.{level_at}
use Rattle.cyc_types.specs.Levels.{as_level}
use Rattle.cyc_types.specs.declared.level.Soft.{Soft}
use Rattle.cyc_types.specs.declared.level.Soft.TheVariants as soft
use Rattle.cyc_model.specs.Questions.{outstanding_here}
use Rattle.cyc_system_model.specs.ShownCpu.{shown_cyclic, shown_cpu}
use Rattle.cyc_system_model.proofs.CpuLists.{find_shown, named, not_named}

-- ---- whether the CPU has the cyclic

pub has_shown : (cs : List Timed) (k : ℕ) (x : Timed) → IsCyclic cs k x → list_any (is_of x.timer.id) (map shown_cyclic cs) ≡ true
has_shown [] k x is = absurd (let low = is.0 in omega (arith, low))
has_shown (c ∷ cs) zero x is =
    ap (λ b. b || list_any (is_of x.timer.id) (map shown_cyclic cs)) (named x.timer.id c (ap (λ (y : Timed). y.timer.id) is.1))
has_shown (c ∷ cs) (suc k) x is =
    ap (λ b. is_of x.timer.id (shown_cyclic c) || b) (has_shown cs k x (let low = is.0 in omega (arith, low), is.1))
    ∙ or_right (is_of x.timer.id (shown_cyclic c)) true refl

pub has_it : (id : ℕ) (cs : List Timed) (k : ℕ) (x : Timed) → IsCyclic cs k x → x.timer.id ≡ id
    → list_any (is_of id) (map shown_cyclic cs) ≡ true
has_it id cs k x is same = subst (λ i. list_any (is_of i) (map shown_cyclic cs) ≡ true) same (has_shown cs k x is)

pub has_not : (id : ℕ) (cs : List Timed) → HasNoCyclic id cs → list_any (is_of id) (map shown_cyclic cs) ≡ false
has_not id [] none = refl
has_not id (c ∷ cs) none =
    ap (λ b. b || list_any (is_of id) (map shown_cyclic cs)) (not_named id c (none 0 c (omega arith)))
    ∙ has_not id cs (λ k d low. none (suc k) d (omega (arith, low)))

-- the cyclic of the id is this one
pub found_as : (id : ℕ) (cs : List Timed) (k : ℕ) (x : Timed) → HasRisingCyclics cs → IsCyclic cs k x → x.timer.id ≡ id
    → find (is_of id) (map shown_cyclic cs) ≡ Some (shown_cyclic x)
found_as id cs k x rising is same = subst (λ i. find (is_of i) (map shown_cyclic cs) ≡ Some (shown_cyclic x)) same (find_shown
    cs k x rising is)

-- ---- the calls that are outstanding

none_at : (id : ℕ) (soft : Soft) (level : Level) (c : Cpu) → HasOwn c → handler_level_of id c ≡ level
    → (level ≡ as_level soft → ⊥)
    → (o : Option AdmittedCyclic) → (level_at soft c).cyclics id ≡ o → count_in o ≡ 0
none_at id soft level c h is other None at = refl
none_at id soft level c h is other (Some x) at = absurd (other (sym is ∙ h.known soft id (ap is_some at)))

-- a cyclic of another level has no call outstanding at this one
none_here : (id : ℕ) (soft : Soft) (level : Level) (c : Cpu) → HasOwn c → handler_level_of id c ≡ level
    → (level ≡ as_level soft → ⊥) → count (level_at soft c) id ≡ 0
none_here id soft level c h is other = none_at id soft level c h is other ((level_at soft c).cyclics id) refl

-- where this is what was found at its own end, it is what is outstanding
pub outstanding_is : (id n k : ℕ) (x : Timed) (online : Bool) (v : CpuView Tables) → IsTied v → IsCyclic v.cyclics k x
    → x.timer.id ≡ id
    → (x.timer.level ≡ High → n ≡ 0) → (x.timer.level ≡ Lock → n ≡ count (level_of v.lock) id) → (x.timer.level ≡ Low
    → n ≡ count (level_of v.low) id)
    → n ≡ outstanding_here id (shown_cpu online v)
outstanding_is id n k x online v tied is same high lock low = pick x.timer.level refl
  where
    found : handler_level_of id (shown_cpu online v) ≡ x.timer.level
    found = ap (λ (o : Option CyclicState). option_map_or (λ y. y.timer.level) o High) (found_as id v.cyclics k x tied.rising
        is same)

    none_lock : (x.timer.level ≡ Lock → ⊥) → count (level_of v.lock) id ≡ 0
    none_lock other = none_here id soft.Lock x.timer.level (shown_cpu online v) (tied.own online) found other

    none_low : (x.timer.level ≡ Low → ⊥) → count (level_of v.low) id ≡ 0
    none_low other = none_here id soft.Low x.timer.level (shown_cpu online v) (tied.own online) found other

    pick : (level : Level) → x.timer.level ≡ level → n ≡ outstanding_here id (shown_cpu online v)
    pick High at =
        let a = high at in
        let b = none_lock (λ e. let both : High ≡ Lock = sym at ∙ e in cc) in
        let c = none_low (λ e. let both : High ≡ Low = sym at ∙ e in cc) in
        omega (arith, a, b, c)
    pick Lock at = let a = lock at in let c = none_low (λ e. let both : Lock ≡ Low = sym at ∙ e in cc) in omega (arith, a, c)
    pick Low at = let a = low at in let b = none_lock (λ e. let both : Low ≡ Lock = sym at ∙ e in cc) in omega (arith, a, b)

-- what a load, a mark and a poll find at their end
pub loads : (own : Bool) (id n : ℕ) (d e : Tables) → Goes raise_tables d (cond own (Loads id n ∷ []) []) e → own ≡ true
    → n ≡ count (level_of d) id
loads true id n d e (x, (step, learns), last) is = step.0
loads false id n d e goes is = absurd (let no : false ≡ true = is in cc)

pub marks : (own : Bool) (id n : ℕ) (d e : Tables) → Goes raise_tables d (cond own (Marks id n ∷ []) []) e → own ≡ true
    → n ≡ count (level_of d) id
marks true id n d e (x, (step, learns), last) is = step.0
marks false id n d e goes is = absurd (let no : false ≡ true = is in cc)

pub ends_at : (own : Bool) (id : ℕ) (counts : Sent) (d e : Tables)
    → Goes raise_tables d (cond own (Marks id 0 ∷ Polls id (Some counts) ∷ []) []) e → own ≡ true → 0 ≡ count (level_of d) id
ends_at true id counts d e (x, (step, learns), rest) is = step.0
ends_at false id counts d e goes is = absurd (let no : false ≡ true = is in cc)

pub takes : (own : Bool) (id : ℕ) (counts : Sent) (d e : Tables)
    → Goes raise_tables d (cond own (Loads id 0 ∷ Marks id 0 ∷ Polls id (Some counts) ∷ []) []) e → own ≡ true
    → 0 ≡ count (level_of d) id
takes true id counts d e (x, (step, learns), rest) is = step.0
takes false id counts d e goes is = absurd (let no : false ≡ true = is in cc)

pub clears : (own : Bool) (id : ℕ) (counts : Sent) (d e : Tables)
    → Goes raise_tables d (cond own (Polls id (Some counts) ∷ []) []) e → own ≡ true → 0 ≡ count (level_of d) id
clears true id counts d e (x, (step, learns), rest) is = sym step.1.0.2
clears false id counts d e goes is = absurd (let no : false ≡ true = is in cc)

pub waits : (own : Bool) (id : ℕ) (d e : Tables) → Goes raise_tables d (cond own (Polls id None ∷ []) []) e → own ≡ true
    → 0 < count (level_of d) id
waits true id d e (x, (step, learns), rest) is = step.0
waits false id d e goes is = absurd (let no : false ≡ true = is in cc)
