-- Nothing of an id is raised, lost or called at a level that is not its own.
use Rattle.std.proofs.Common.{◌≡◌, ◌∙◌, ◌==◌, ℕ, zero, suc, ◌+◌, ◌≤◌, ◌⊎◌, inl, inr, length, Bool, true, false, cond, Option}
use Rattle.std.proofs.Common.{Some, None}
use Rattle.std.proofs.Common.{Result, Ok, Err, List, [], ◌∷◌, map, refl, sym, ap, subst, arith}
use Rattle.std.specs.Prelude.{sum_by}
use Rattle.std.specs.List.{slice_get, FoldsTo}
use Rattle.std.proofs.lemmas.List.Sums.{sum_by-cons}
use Rattle.std.proofs.lemmas.Option.{slice_get_within}
use Rattle.cyc_types.specs.declared.Calls.{Ghosts as Calls}
use Rattle.cyc_types.specs.declared.Raise.{Ghosts as Raise}
use Rattle.cyc_types.specs.Firing.{FiringCall}
use Rattle.cyc_types.specs.Runs.{Goes, raised_by, lost_by}
use Rattle.cyc_types.specs.declared.level.Level.{Level}
use Rattle.cyc_types.specs.declared.level.Level.TheVariants.{Low, Lock, High}
use Rattle.cyc_types.specs.declared.level.Soft.{Soft}
use Rattle.cyc_types.specs.declared.level.Soft.TheVariants as soft
use Rattle.cyc_types.specs.Expirations.{Expiration, times_of, after_expirations, all_after}
use Rattle.cyc_types.specs.Timers.{Timer}
use Rattle.cyc_timers.specs.Rows.{Cyclic, timers}
use Rattle.cyc_timers.specs.declared.fire.Fired.{Fired}
use Rattle.cyc_timers.specs.declared.fire.FireRefused.{FireRefused}
use Rattle.cyc_timers.specs.Acts.{timer_of, is_of_level, same_level}
use Rattle.cyc_timers.specs.Shares.{share}
use Rattle.cyc_cpu.specs.Cpu.{CpuView, Running, running}
use Rattle.cyc_cpu.specs.Laws.{IsLawful}
use Rattle.cyc_cpu.specs.Calls.{CpuDoes as CpuDoes, Fire, no_interrupts}
use Rattle.cyc_system_laws.specs.Accounts.{made_by, account_of, Proceeds}
use Rattle.cyc_system_laws.proofs.Accounting.{proceeds_one}
use Rattle.cyc_system_laws.proofs.Ways.{passes_few}
use Rattle.cyc_system_workers.specs.Lead.{Lead}
use Rattle.cyc_system_laws.proofs.Lists.{eq_true, false_ne}
use Rattle.cyc_system_laws.proofs.Spots.{same_some, none_some}
use Rattle.cyc_system_laws.proofs.Sums.{sum_none}
use Rattle.cyc_system_laws.proofs.Pieces.{made_of}
use Rattle.cyc_system_laws.specs.SystemCalls.{SystemCall, Changes, Add, AddOmni}
use Rattle.cyc_system_laws.specs.Sound.{IsSound}
use Rattle.cyc_system_laws.proofs.Flow.{weigh}
use Rattle.cyc_system_workers.specs.declared.side.SystemSide.{SystemSide}
use Rattle.cyc_system_workers.specs.declared.advancing.Advanced.{Advanced}
use Rattle.cyc_system_workers.specs.Advancing.{AllFire, moment_asked, FiresIf}
use Rattle.cyc_system_workers.specs.Settling.{OnlyAsked}
use Rattle.cyc_system_rings.specs.Leading.{LeadCall, Make, FireAll, AskAll, Leads, LeadSteps}
use Rattle.cyc_system_rings.specs.Rings.{first_ring, counted_by}
use Rattle.cyc_system_rings.specs.ByLevel.{level_given, level_in, is_own}
use Rattle.cyc_system_rings.proofs.Raising.{sums_same, stands, asked_cyclics, raised_end, dropped_end, SameEnds, changes_end}
use Rattle.cyc_system_rings.proofs.Raising.{asked_end, leads_long, maps_same}
use Rattle.cyc_system_rings.proofs.Elsewhere.{one_at, at_it, here, recorded, IsElsewhere, GivesNot, changes_elsewhere}

-- where a sum is 0 each of its parts is
zero_each : {A : Type 0} (h : A → ℕ) (xs : List A) (n : ℕ) (x : A) → sum_by h xs ≡ 0 → slice_get xs n ≡ Some x → h x ≡ 0
zero_each h [] n x none at = absurd (none_some at)
zero_each h (y ∷ xs) zero x none at =
    let a = sum_by-cons h y xs in let b = ap h (same_some at) in omega (arith, a, b, none)
zero_each h (y ∷ xs) (suc n) x none at = let a = sum_by-cons h y xs in zero_each h xs n x (omega (arith, a, none)) at

-- ---- a fire of one CPU
module _ (level : Level) (id : ℕ) where
  -- one for a timer of the id at this level
  abbrev timer_here : Timer → ℕ
  timer_here t = cond (t.id == id) (one_at level id t.level) 0

  here_timers : (cs : List Cyclic) → sum_by (weigh (at_it level id) id) cs ≡ sum_by timer_here (timers cs)
  here_timers [] = refl
  here_timers (c ∷ cs) =
      let a = sum_by-cons (weigh (at_it level id) id) c cs in let b = sum_by-cons timer_here c.timer (timers cs) in
      let r = here_timers cs in omega (arith, a, b, r)

  timers_after : (now : ℕ) (made : List Expiration) (ts : List Timer)
      → sum_by timer_here (map (after_expirations now made) ts) ≡ sum_by timer_here ts
  unfolding after_expirations
  timers_after now made [] = refl
  timers_after now made (t ∷ ts) =
      let a = sum_by-cons timer_here (after_expirations now made t) (map (after_expirations now made) ts) in let b =
      sum_by-cons timer_here t ts in
      let r = timers_after now made ts in
      let e : timer_here (after_expirations now made t) ≡ timer_here t = refl in omega (arith, a, b, r, e)

  -- a fire changes the level of no cyclic
  fired_here : (now : ℕ) (made : List Expiration) (cs cs' : List Cyclic) → timers cs' ≡ all_after now made (timers cs)
      → sum_by (weigh (at_it level id) id) cs' ≡ sum_by (weigh (at_it level id) id) cs
  unfolding all_after
  fired_here now made cs cs' are =
      let a = here_timers cs in let b = here_timers cs' in let c = ap (sum_by timer_here) are in
      let d = timers_after now made (timers cs) in omega (arith, a, b, c, d)

  no_own : (own : Level) → one_at level id own ≡ 0 → same_level level own ≡ false
  no_own own = by (same_level level own)
    where
      by : (b : Bool) → cond {A = ℕ} b 1 0 ≡ 0 → b ≡ false
      by true e = absurd (omega (arith, e))
      by false e = refl

  -- the cyclic of the id is of another level, or there is none
  other_timer : (cs : List Cyclic) → sum_by (weigh (at_it level id) id) cs ≡ 0
      → is_of_level level (timer_of id (timers cs)) ≡ false
  other_timer [] none = refl
  other_timer (c ∷ cs) none = let a = sum_by-cons (weigh (at_it level id) id) c cs in
      by (c.timer.id == id) (omega (arith, a, none)) (other_timer cs (omega (arith, a, none)))
    where
      by : (b : Bool) → cond b (one_at level id c.timer.level) 0 ≡ 0 → is_of_level level (timer_of id (timers cs)) ≡ false
          → is_of_level level (cond b (Some c.timer) (timer_of id (timers cs))) ≡ false
      by true e rest = no_own c.timer.level e
      by false e rest = rest

  pub none_shared : (cs : List Cyclic) (made : List Expiration) → sum_by (weigh (at_it level id) id) cs ≡ 0
      → share level (timers cs) made id ≡ 0
  none_shared cs made none = ap (λ b. cond {A = ℕ} b (times_of id made) 0) (other_timer cs none)

its_id : (id new : ℕ) (l own : Level) → cond (new == id) (Some l) None ≡ Some own → new ≡ id
its_id id new l own given = by (new == id) refl given
  where
    by : (b : Bool) → (new == id) ≡ b → cond b (Some l) None ≡ Some own → new ≡ id
    by true is given = eq_true new id is
    by false is given = absurd (none_some given)

module _ {C R : Type 0} (handler : Calls C)
    (firing : Raise R) (raised dropped : ℕ → R → ℕ)
    (adds : (e f : R) (way : List FiringCall) → Goes firing e way f → (id : ℕ)
    → (raised id f ≡ raised id e + raised_by id way) × (dropped id f ≡ dropped id e + lost_by id way)) (id : ℕ) where
  -- what was done of the id at a level: raises at the end, or calls
  abbrev deeds : Level → Running C R → ℕ
  deeds Low r = raised id r.cpu.low
  deeds Lock r = raised id r.cpu.lock
  deeds High r = handler.count r.calls id

  abbrev drops : Level → CpuView R → ℕ
  drops Low cpu = dropped id cpu.low
  drops Lock cpu = dropped id cpu.lock
  drops High cpu = 0

  grows : (own : Level) (s t : Running C R) (now : ℕ) (answer : Result Fired FireRefused)
      → Proceeds handler.count firing (account_of (Fire now answer) s.cpu.cyclics) s t
      → share own (timers s.cpu.cyclics) (made_by (Fire now answer) s.cpu.cyclics) id ≡ 0
      → (deeds own t ≡ deeds own s) × (drops own t.cpu ≡ drops own s.cpu)
  grows Lock s t now answer p z =
      let (a, b) = adds s.cpu.lock t.cpu.lock p.lock.way p.lock.goes id in let r = p.lock.raises id in let l = p.lock.losses id in
      let few = passes_few firing _ p.lock_lost _ _ p.lock id in (omega (arith, a, r, z), omega (arith, b, l, few, z))
  grows Low s t now answer p z =
      let (a, b) = adds s.cpu.low t.cpu.low p.low.way p.low.goes id in let r = p.low.raises id in let l = p.low.losses id in
      let few = passes_few firing _ p.low_lost _ _ p.low id in (omega (arith, a, r, z), omega (arith, b, l, few, z))
  grows High s t now answer p z = let h = p.called id in (omega (arith, h, z), refl)

  -- ---- all CPUs

  abbrev pub all_deeds : Level → SystemSide R C → ℕ
  all_deeds Low s = sum_by (raised_end firing raised dropped adds id soft.Low) s.system.cpus.cpus
  all_deeds Lock s = sum_by (raised_end firing raised dropped adds id soft.Lock) s.system.cpus.cpus
  all_deeds High s = counted_by handler.count id s.leads.items

  abbrev pub all_drops : Level → SystemSide R C → ℕ
  all_drops Low s = sum_by (dropped_end firing raised dropped adds id soft.Low) s.system.cpus.cpus
  all_drops Lock s = sum_by (dropped_end firing raised dropped adds id soft.Lock) s.system.cpus.cpus
  all_drops High s = 0

  -- a call that reaches no handler, and a question
  still_leads : (own : Level) (s t : SystemSide R C)
      → ((at : Soft) → SameEnds firing raised dropped adds id at s.system.cpus.cpus t.system.cpus.cpus) → t.leads ≡ s.leads
      → (all_deeds own t ≡ all_deeds own s) × (all_drops own t ≡ all_drops own s)
  still_leads Low s t ends same = ends soft.Low
  still_leads Lock s t ends same = ends soft.Lock
  still_leads High s t ends same = (λ i. counted_by handler.count id (same i).items, refl)

  -- ---- an advance

  -- this is the same of each CPU and what leads it after an advance
  abbrev Each : SystemSide R C → Advanced R C → (Running C R → ℕ) → Type 0
  Each s b h = (n : ℕ) (x y : CpuView R) (l m : Lead C) → slice_get s.system.cpus.cpus n ≡ Some x
      → slice_get b.side.system.cpus.cpus n ≡ Some y → slice_get s.leads.items n ≡ Some l
      → slice_get b.side.leads.items n ≡ Some m → h (running m.calls y) ≡ h (running l.calls x)

  module _ (now : ℕ) (s : SystemSide R C) (b : Advanced R C) (f : AllFire handler firing now s b)
      (ready : length s.leads.items ≡ length s.system.cpus.cpus) where
    on_cpus_as : (h : CpuView R → ℕ) → Each s b (λ r. h r.cpu) → sum_by h b.side.system.cpus.cpus ≡ sum_by h s.system.cpus.cpus
    on_cpus_as h same = sums_same h s.system.cpus.cpus b.side.system.cpus.cpus f.long
        (λ n x y p q. (let low = slice_get_within s.system.cpus.cpus n x p in let k = f.long_leads in
        let (l, u) = stands s.leads.items n (omega (arith, low, ready)) in
        let (m, v) = stands b.side.leads.items n (omega (arith, low, ready, k)) in same n x y l m p q u v))

    leads_each : Each s b (deeds High) → (n : ℕ) (l m : Lead C) → slice_get s.leads.items n ≡ Some l
        → slice_get b.side.leads.items n ≡ Some m → handler.count m.calls id ≡ handler.count l.calls id
    leads_each same n l m u v =
        let low = slice_get_within s.leads.items n l u in let e = f.long in
        let (x, p) = stands s.system.cpus.cpus n (omega (arith, low, ready)) in
        let (y, q) = stands b.side.system.cpus.cpus n (omega (arith, low, ready, e)) in same n x y l m p q u v

    deeds_as : (own : Level) → Each s b (deeds own) → all_deeds own b.side ≡ all_deeds own s
    deeds_as Low same = on_cpus_as (raised_end firing raised dropped adds id soft.Low) same
    deeds_as Lock same = on_cpus_as (raised_end firing raised dropped adds id soft.Lock) same
    deeds_as High same = sums_same (λ (l : Lead C). handler.count l.calls id) s.leads.items b.side.leads.items f.long_leads
        (leads_each same)

    drops_as : (own : Level) → Each s b (λ r. drops own r.cpu) → all_drops own b.side ≡ all_drops own s
    drops_as Low same = on_cpus_as (dropped_end firing raised dropped adds id soft.Low) same
    drops_as Lock same = on_cpus_as (dropped_end firing raised dropped adds id soft.Lock) same
    drops_as High same = refl

  -- ---- where the id is not at this level
  module _ (level : Level) where
    record NoneFired (s t : Running C R) : Type 0 where
      pub none : here level id t.cpu ≡ 0
      pub deeds_same : deeds level t ≡ deeds level s
      pub drops_same : drops level t.cpu ≡ drops level s.cpu

    -- a CPU in an advance
    none_fired : (up : Bool) (now : ℕ) (s t : Running C R) (answer : Option (Result Fired FireRefused))
        → IsLawful firing.view s.cpu
        → FiresIf handler firing (moment_asked up now) s answer t → here level id s.cpu ≡ 0 → NoneFired s t
    none_fired true now s t (Some answer) law d none =
        let p = proceeds_one handler firing s t (Fire now answer) law d in
        let z = none_shared level id s.cpu.cyclics (made_by (Fire now answer) s.cpu.cyclics) none in
        let (a, b) = grows level s t now answer p z in
        record { none = by answer d; deeds_same = a; drops_same = b }
      where
        by : (answer : Result Fired FireRefused) → CpuDoes handler firing no_interrupts s (Fire now answer) t
            → here level id t.cpu ≡ 0
        by (Ok r) (early, kept, expired, next, makes) =
            fired_here level id now _ s.cpu.cyclics t.cpu.cyclics makes.timers_are ∙ none
        by (Err e) (inl (late, is, same)) = ap (λ (x : Running C R). here level id x.cpu) same ∙ none
        by (Err e) (inr (early, kept, f)) = fired_here level id now _ s.cpu.cyclics t.cpu.cyclics f.makes.timers_are ∙ none
    none_fired true now s t None law d none = absurd d
    none_fired false now s t (Some answer) law d none = absurd d
    none_fired false now s t None law e none = record {
      none = ap (λ (x : Running C R). here level id x.cpu) e ∙ none;
      deeds_same = ap (λ (x : Running C R). deeds level x) e;
      drops_same = ap (λ (x : Running C R). drops level x.cpu) e;
    }

    -- each lead's handlers had as many calls of the id
    abbrev pub SameCalls : Level → SystemSide R C → SystemSide R C → Type 0
    SameCalls Low s t = Unit {0}
    SameCalls Lock s t = Unit {0}
    SameCalls High s t =
        map (λ (l : Lead C). handler.count l.calls id) t.leads.items ≡ map (λ (l : Lead C). handler.count l.calls id)
        s.leads.items

    calls_as : (own : Level) (s t : SystemSide R C) → t.leads ≡ s.leads → SameCalls own s t
    calls_as Low s t same = tt
    calls_as Lock s t same = tt
    calls_as High s t same = λ i. map (λ (l : Lead C). handler.count l.calls id) (same i).items

    calls_on : (own : Level) (s t u : SystemSide R C) → SameCalls own s t → SameCalls own t u → SameCalls own s u
    calls_on Low s t u a b = tt
    calls_on Lock s t u a b = tt
    calls_on High s t u a b = b ∙ a

    -- the id is still not at this level, and nothing of it was done there
    pub record IsApart (s t : SystemSide R C) : Type 0 where
      pub elsewhere : IsElsewhere level id t.system
      pub deeds_same : all_deeds level t ≡ all_deeds level s
      pub drops_same : all_drops level t ≡ all_drops level s
      pub calls_same : SameCalls level s t

    apart_on : (s t u : SystemSide R C) → IsApart s t → IsApart t u → IsApart s u
    apart_on s t u a b = record {
      elsewhere = b.elsewhere;
      deeds_same = b.deeds_same ∙ a.deeds_same;
      drops_same = b.drops_same ∙ a.drops_same;
      calls_same = calls_on level s t u a.calls_same b.calls_same;
    }

    makes_apart : (s t : SystemSide R C) (call : SystemCall) → IsSound firing.view s.system → IsSound firing.view t.system
        → Changes firing s.system call t.system → t.leads ≡ s.leads → GivesNot level id call → IsElsewhere level id s.system
        → IsApart s t
    makes_apart s t call a b d same not o =
        let (p, q) = still_leads level s t
        (λ at. changes_end firing raised dropped adds id at s.system t.system call d) same in
        record {
          elsewhere = changes_elsewhere level id firing s.system t.system call a b d not o;
          deeds_same = p;
          drops_same = q;
          calls_same = calls_as level s t same;
        }

    asks_apart : (s t : SystemSide R C) → OnlyAsked firing s t → IsElsewhere level id s.system → IsApart s t
    asks_apart s t a o =
        let (p, q) = still_leads level s t (λ low. asked_end firing raised dropped adds id low s.system.cpus.cpus
        t.system.cpus.cpus a.cpus) a.leads in let none = o.none in
        let e = sums_same (here level id) s.system.cpus.cpus t.system.cpus.cpus a.cpus.long (λ n x y p q. (let w =
        a.cpus.each n x y p q in ap (λ cs. sum_by (weigh (at_it level id) id) cs) (asked_cyclics firing w.0 x y w.1))) in
        record {
          elsewhere = record {
            none = omega (arith, e, none);
            unrecorded = ap (recorded level id) a.records ∙ o.unrecorded;
          };
          deeds_same = p;
          drops_same = q;
          calls_same = calls_as level s t a.leads;
        }

    fires_apart : (now : ℕ) (s : SystemSide R C) (b : Advanced R C) → IsSound firing.view s.system
        → length s.leads.items ≡ length s.system.cpus.cpus → AllFire handler firing now s b
        → IsElsewhere level id s.system → IsApart s b.side
    fires_apart now s b sound ready f o = record {
      elsewhere = record {
        none = sum_none (here level id) b.side.system.cpus.cpus (λ n y q. (let low =
            slice_get_within b.side.system.cpus.cpus n y q in
            let e = f.long in let (x, p) = stands s.system.cpus.cpus n (omega (arith, low, e)) in let k = f.long_leads in
            let (l, u) = stands s.leads.items n (omega (arith, low, e, ready)) in
            let (m, v) = stands b.side.leads.items n (omega (arith, low, e, ready, k)) in (each n x y l m p q u v).none));
        unrecorded = ap (recorded level id) f.records ∙ o.unrecorded;
      };
      deeds_same = deeds_as now s b f ready level (λ n x y l m p q u v. (each n x y l m p q u v).deeds_same);
      drops_same = drops_as now s b f ready level (λ n x y l m p q u v. (each n x y l m p q u v).drops_same);
      calls_same = same_calls level (λ n x y l m p q u v. (each n x y l m p q u v).deeds_same);
    }
      where
        same_calls : (own : Level) → Each s b (deeds own) → SameCalls own s b.side
        same_calls Low same = tt
        same_calls Lock same = tt
        same_calls High same = maps_same (λ (l : Lead C). handler.count l.calls id) s.leads.items b.side.leads.items f.long_leads
            (leads_each now s b f ready same)

        each : (n : ℕ) (x y : CpuView R) (l m : Lead C) → slice_get s.system.cpus.cpus n ≡ Some x
            → slice_get b.side.system.cpus.cpus n ≡ Some y → slice_get s.leads.items n ≡ Some l
            → slice_get b.side.leads.items n ≡ Some m → NoneFired (running l.calls x) (running m.calls y)
        each n x y l m p q u v =
            let low = slice_get_within s.system.cpus.cpus n x p in let g = sound.agrees.long in let w = f.long_answers in
            let (up, at) = stands s.system.cpus.online n (omega (arith, low, g)) in
            let (answer, told) = stands b.answers.items n (omega (arith, low, w)) in
            none_fired up now (running l.calls x) (running m.calls y) answer (sound.lawful n x p)
            (f.each n up x y l m answer at p q u v told) (zero_each (here level id) s.system.cpus.cpus n x o.none p)

    leads_apart : (s t : SystemSide R C) (call : LeadCall) → Leads handler firing s call t
        → IsSound firing.view s.system → IsSound firing.view t.system → length s.leads.items ≡ length s.system.cpus.cpus
        → is_own level (level_given id call) ≡ false → IsElsewhere level id s.system → IsApart s t
    leads_apart s t (Make call) (d, same) a b ready not o = makes_apart s t call a b d same not o
    leads_apart s t (FireAll now) (after_expirations, f, same) a b ready not o =
        subst (λ (x : SystemSide R C). IsApart s x) (sym same) (fires_apart now s after_expirations a ready f o)
    leads_apart s t AskAll d a b ready not o = asks_apart s t d o

    -- an id that was given is not given again
    not_again : (s t : SystemSide R C) (call : LeadCall) → Leads handler firing s call t
        → id ≤ s.system.last → is_own level (level_given id call) ≡ false
    not_again s t (Make (Add own when now (Ok new))) (inl (e, why, is, same), leads) low =
        absurd (let odd : Ok new ≡ Err e = is in cc)
    not_again s t (Make (Add own when now (Ok new))) (inr (clear, (d, chosen, next, works, records, last)), leads) low =
        ap (λ b. is_own level (cond b (Some own) None)) (false_ne new id (λ e. omega (arith, e, next, low)))
    not_again s t (Make (AddOmni own when skew now (Ok new))) (inl (e, why, is, same), leads) low =
        absurd (let odd : Ok new ≡ Err e = is in cc)
    not_again s t (Make (AddOmni own when skew now (Ok new))) (inr (clear, (next, works, records, last)), leads) low =
        ap (λ b. is_own level (cond b (Some own) None)) (false_ne new id (λ e. omega (arith, e, next, low)))
    not_again s t call d low = refl

    last_grows : (s t : SystemSide R C) (call : LeadCall) → Leads handler firing s call t → s.system.last ≤ t.system.last
    last_grows s t (Make call) (d, same) = (made_of firing s.system t.system call d).last
    last_grows s t (FireAll now) (after_expirations, f, same) =
        let a = f.last in let b = ap (λ (x : SystemSide R C). x.system.last) same in omega (arith, a, b)
    last_grows s t AskAll a = let e = a.last in omega (arith, e)

    -- one that a call gave is not above the last
    now_given : (s t : SystemSide R C) (call : LeadCall) (own : Level) → Leads handler firing s call t
        → level_given id call ≡ Some own → id ≤ t.system.last
    now_given s t (Make (Add l when now (Ok new))) own (inl (e, why, is, same), leads) given =
        absurd (let odd : Ok new ≡ Err e = is in cc)
    now_given s t (Make (Add l when now (Ok new))) own (inr (clear, (d, chosen, next, works, records, last)), leads) given =
        let e = its_id id new l own given in omega (arith, e, last)
    now_given s t (Make (AddOmni l when skew now (Ok new))) own (inl (e, why, is, same), leads) given =
        absurd (let odd : Ok new ≡ Err e = is in cc)
    now_given s t (Make (AddOmni l when skew now (Ok new))) own (inr (clear, (next, works, records, last)), leads) given =
        let e = its_id id new l own given in omega (arith, e, last)
    now_given s t call own d given = absurd (none_some given)

    -- it was given before, or no call gives it with this level
    abbrev IsBarred : SystemSide R C → List LeadCall → Type 0
    IsBarred s way = (id ≤ s.system.last) ⊎ (is_own level (level_in id way) ≡ false)

    barred_on : (s u : SystemSide R C) (call : LeadCall) (way : List LeadCall) → Leads handler firing s call u
        → IsBarred s (call ∷ way) → (is_own level (level_given id call) ≡ false) × IsBarred u way
    barred_on s u call way d (inl low) =
        let g = last_grows s u call d in (not_again s u call d low, inl (omega (arith, g, low)))
    barred_on s u call way d (inr e) = by (level_given id call) refl e
      where
        by : (o : Option Level) → level_given id call ≡ o → is_own level (first_ring o (level_in id way)) ≡ false
            → (is_own level (level_given id call) ≡ false) × IsBarred u way
        by None is e = (ap (is_own level) is, inr e)
        by (Some own) is e = (ap (is_own level) is ∙ e, inl (now_given s u call own d is))

    pub run_apart : (s t : SystemSide R C) (way : List LeadCall) → FoldsTo (LeadSteps handler firing) s way t
        → IsSound firing.view s.system → length s.leads.items ≡ length s.system.cpus.cpus → IsBarred s way
        → IsElsewhere level id s.system → IsApart s t
    run_apart s t [] run a ready barred o = subst (λ (x : SystemSide R C). IsApart s x) run
        (record { elsewhere = o; deeds_same = refl; drops_same = refl; calls_same = calls_as level s s refl })
    run_apart s t (call ∷ way) (u, (d, sound), rest) a ready barred o =
        let (not, still) = barred_on s u call way d barred in
        let first = leads_apart s u call d a sound ready not o in
        apart_on s u t first (run_apart u t way rest sound
        (leads_long handler firing s u call d ready) still first.elsewhere)
