-- What a lead does adds up for each id.
use Rattle.std.proofs.Common.{◌≡◌, ◌∙◌, ◌==◌, ℕ, ◌+◌, length, Bool, true, false, cond, inl, inr, Option, Some}
use Rattle.std.proofs.Common.{None, Result, Ok, Err, List, [], ◌∷◌, get_or, refl, sym, ap, subst, arith}
use Rattle.std.specs.Prelude.{sum_by}
use Rattle.std.specs.List.{slice_get, FoldsTo}
use Rattle.std.specs.Option.{option_map_or}
use Rattle.std.proofs.lemmas.Option.{slice_get_within, slice_get-get_or}
use Rattle.cyc_types.specs.declared.Calls.{Ghosts as Calls}
use Rattle.cyc_types.specs.declared.Raise.{Ghosts as Raise}
use Rattle.cyc_types.specs.Firing.{FiringCall}
use Rattle.cyc_types.specs.Runs.{Goes, raised_by, lost_by}
use Rattle.cyc_types.specs.declared.firing.Sent.{Sent}
use Rattle.cyc_types.specs.declared.receipt.Receipt.{Receipt}
use Rattle.cyc_types.specs.declared.level.Level.TheVariants.{Low, Lock, High}
use Rattle.cyc_timers.specs.declared.fire.Fired.{Fired}
use Rattle.cyc_timers.specs.declared.fire.FireRefused.{FireRefused}
use Rattle.cyc_timers.specs.Rows.{Cyclic, timers}
use Rattle.cyc_cpu.specs.Cpu.{CpuView, Running, running, HasNoCyclic}
use Rattle.cyc_cpu.specs.Laws.{IsLawful}
use Rattle.cyc_cpu.specs.Calls.{CpuDoes as CpuDoes, Fire, no_interrupts}
use Rattle.cyc_system_laws.specs.Accounts.{account_of, made_by, Proceeds}
use Rattle.cyc_cpu.specs.Carried.{expired_of, lost_of}
use Rattle.cyc_system_laws.proofs.Accounting.{proceeds_one}
use Rattle.cyc_system_laws.proofs.Fires.{no_share, no_cyclic, fired_away}
use Rattle.cyc_system_laws.proofs.Ways.{passes_few}
use Rattle.cyc_places.specs.Places.{HasNoRecord}
use Rattle.cyc_system_laws.proofs.Lists.{eq_true, true_eq}
use Rattle.cyc_system_laws.proofs.Spots.{same_some, none_some}
use Rattle.cyc_system_laws.proofs.Recording.{found}
use Rattle.cyc_system_laws.specs.SystemRemoval.TheVariants.{Done, Kept}
use Rattle.cyc_system_laws.specs.System.{SystemView, running_system}
use Rattle.cyc_system_laws.specs.Laws.{cyclic_in}
use Rattle.cyc_system_laws.specs.Counts.{all_expired, all_lost}
use Rattle.cyc_system_laws.specs.SystemCalls.{SystemCall, Changes, Does, Add, AddOmni, Bind, BeginRemove, PollRemove, AskTotals}
use Rattle.cyc_system_laws.specs.SystemCalls.{Suspend, Resume, Reprogram, ReprogramOn, Juggle, Offline, Online, FireOne}
use Rattle.cyc_system_laws.specs.SystemCalls.{SoftInterrupt}
use Rattle.cyc_system_laws.proofs.Sums.{sum_none}
use Rattle.cyc_system_laws.proofs.Receipts.{begun_done, poll_done}
use Rattle.cyc_system_laws.specs.Gone.{IsOver}
use Rattle.cyc_system_laws.proofs.Over.{begun_over, polled_over}
use Rattle.cyc_system_laws.proofs.Stays.{stays_over}
use Rattle.cyc_system_laws.specs.Sound.{IsSound}
use Rattle.cyc_system_laws.specs.Keeping.{EndsRemoval}
use Rattle.cyc_system_laws.proofs.Flow.{on_cpu}
use Rattle.cyc_system_laws.proofs.Found.{stays_found}
use Rattle.cyc_system_laws.proofs.Counts.{counts_same}
use Rattle.cyc_system_workers.specs.Lead.{Lead}
use Rattle.cyc_system_workers.specs.declared.side.SystemSide.{SystemSide}
use Rattle.cyc_system_workers.specs.declared.advancing.Advanced.{Advanced}
use Rattle.cyc_system_workers.specs.Advancing.{AllFire, moment_asked, FiresIf}
use Rattle.cyc_system_workers.specs.Settling.{OnlyAsked}
use Rattle.cyc_system_rings.specs.Leading.{LeadCall, Make, FireAll, AskAll, Leads, LeadSteps}
use Rattle.cyc_system_rings.specs.Rings.{counted_by, receipt_of, receipt_in, first_ring}
use Rattle.cyc_system_rings.proofs.Raising.{sums_same, sums_even, stands, raised_at, dropped_at, Same, changes_raise}
use Rattle.cyc_system_rings.proofs.Raising.{leads_long, asked_cyclics, asked_raise}

abbrev sent : Sent → ℕ
sent e = e.sent

abbrev lost : Sent → ℕ
lost e = e.lost

-- a call that has no receipt for the id doesn't end its removal, and one that has one does
no_end : (id own : ℕ) (r : Receipt) → cond (own == id) (Some r) None ≡ None → own ≡ id → ⊥
no_end id own r e same = none_some (sym e ∙ ap (λ (b : Bool). cond b (Some r) None) (true_eq own id same))

its_own : (id own : ℕ) (r q : Receipt) → cond (own == id) (Some r) None ≡ Some q → (own ≡ id) × (r ≡ q)
its_own id own r q e = by (own == id) refl e
  where
    by : (b : Bool) → (own == id) ≡ b → cond b (Some r) None ≡ Some q → (own ≡ id) × (r ≡ q)
    by true is e = (eq_true own id is, same_some e)
    by false is e = absurd (none_some e)

module _ {C R : Type 0} (handler : Calls C)
    (firing : Raise R) (raised dropped : ℕ → R → ℕ)
    (adds : (e f : R) (way : List FiringCall) → Goes firing e way f → (id : ℕ)
    → (raised id f ≡ raised id e + raised_by id way) × (dropped id f ≡ dropped id e + lost_by id way)) (id : ℕ) where
  abbrev up : SystemView R → ℕ
  up s = sum_by (raised_at firing raised dropped adds id) s.cpus.cpus

  abbrev down : SystemView R → ℕ
  down s = sum_by (dropped_at firing raised dropped adds id) s.cpus.cpus

  -- from s to t the id has come to these counts
  pub record Even (s t : SystemSide R C) (counts : Sent) : Type 0 where
    pub expired : counts.sent + up s.system + counted_by handler.count id s.leads.items
        ≡ all_expired id s.system + up t.system + counted_by handler.count id t.leads.items
    pub losses : counts.lost + down s.system ≡ all_lost id s.system + down t.system

  abbrev totals : SystemView R → Sent
  totals t = record { sent = all_expired id t; lost = all_lost id t }

  even_same : (s t : SystemSide R C) → all_expired id t.system ≡ all_expired id s.system
      → all_lost id t.system ≡ all_lost id s.system
      → Same firing raised dropped adds id s.system.cpus.cpus t.system.cpus.cpus → t.leads ≡ s.leads
      → Even s t (totals t.system)
  even_same s t a b (c, d) e = let f : counted_by handler.count id t.leads.items ≡ counted_by handler.count id s.leads.items =
      λ i. counted_by handler.count id (e i).items in
      record { expired = omega (arith, a, c, f); losses = omega (arith, b, d) }

  quietly : (s t : SystemSide R C) (call : SystemCall) → IsSound firing.view s.system → IsSound firing.view t.system
      → Changes firing s.system call t.system × (t.leads ≡ s.leads) → (EndsRemoval id call → ⊥)
      → Even s t (totals t.system)
  quietly s t call a b (d, same) still = even_same s t
      (counts_same firing sent refl (λ x y. refl) id s.system t.system call a b d still)
      (counts_same firing lost refl (λ x y. refl) id s.system t.system call a b d still)
      (changes_raise firing raised dropped adds id s.system t.system call d) same

  -- a fire of one CPU
  one_fire : (s t : Running C R) (now : ℕ) (answer : Result Fired FireRefused)
      → Proceeds handler.count firing (account_of (Fire now answer) s.cpu.cyclics) s t
      → (expired_of id t.cpu.cyclics + raised_at firing raised dropped adds id s.cpu + handler.count s.calls id
      ≡ expired_of id s.cpu.cyclics + raised_at firing raised dropped adds id t.cpu + handler.count t.calls id)
      × (lost_of id t.cpu.cyclics + dropped_at firing raised dropped adds id s.cpu
      ≡ lost_of id s.cpu.cyclics + dropped_at firing raised dropped adds id t.cpu)
  one_fire s t now answer p =
      let (a, b) = adds s.cpu.lock t.cpu.lock p.lock.way p.lock.goes id in
      let (c, d) = adds s.cpu.low t.cpu.low p.low.way p.low.goes id in
      let r = p.lock.raises id in let r2 = p.low.raises id in let l = p.lock.losses id in let l2 = p.low.losses id in
      let e = p.expired id in let f = p.lost id in let h = p.called id in
      (omega (arith, a, c, r, r2, e, h), omega (arith, b, d, l, l2, f))

  -- a CPU in an advance
  if_fired : (up : Bool) (now : ℕ) (s t : Running C R) (answer : Option (Result Fired FireRefused)) → IsLawful firing.view s.cpu
      → FiresIf handler firing (moment_asked up now) s answer t
      → (expired_of id t.cpu.cyclics + raised_at firing raised dropped adds id s.cpu + handler.count s.calls id
      ≡ expired_of id s.cpu.cyclics + raised_at firing raised dropped adds id t.cpu + handler.count t.calls id)
      × (lost_of id t.cpu.cyclics + dropped_at firing raised dropped adds id s.cpu + 0
      ≡ lost_of id s.cpu.cyclics + dropped_at firing raised dropped adds id t.cpu + 0)
  if_fired true now s t (Some answer) law d =
      let (a, b) = one_fire s t now answer (proceeds_one handler firing s t (Fire now answer) law d) in
      (a, omega (arith, b))
  if_fired true now s t None law d = absurd d
  if_fired false now s t (Some answer) law d = absurd d
  if_fired false now s t None law e =
      let x = ap (λ (r : Running C R). expired_of id r.cpu.cyclics) e in
      let y = ap (λ (r : Running C R). raised_at firing raised dropped adds id r.cpu) e in
      let z = ap (λ (r : Running C R). handler.count r.calls id) e in
      let p = ap (λ (r : Running C R). lost_of id r.cpu.cyclics) e in
      let q = ap (λ (r : Running C R). dropped_at firing raised dropped adds id r.cpu) e in
      (omega (arith, x, y, z), omega (arith, p, q))

  fires_even : (now : ℕ) (s : SystemSide R C) (b : Advanced R C) → IsSound firing.view s.system
      → IsSound firing.view b.side.system
      → length s.leads.items ≡ length s.system.cpus.cpus → AllFire handler firing now s b
      → Even s b.side (totals b.side.system)
  fires_even now s b sound after ready f =
      let x0 = stays_found firing.view id (λ t. t.sent.sent) s.system sound.lawful in
      let x1 = stays_found firing.view id (λ t. t.sent.sent) b.side.system after.lawful in
      let y0 = stays_found firing.view id (λ t. t.sent.lost) s.system sound.lawful in
      let y1 = stays_found firing.view id (λ t. t.sent.lost) b.side.system after.lawful in
      let r = ap (λ rs. option_map_or (λ r. sum_by (λ e. e.sent) r.ended) (found id rs) 0) f.records in
      let m = ap (λ rs. option_map_or (λ r. sum_by (λ e. e.lost) r.ended) (found id rs) 0) f.records in
      let e = sums_even (on_cpu (λ t. t.sent.sent) id) (raised_at firing raised dropped adds id)
      (λ (l : Lead C). handler.count l.calls id) s.system.cpus.cpus b.side.system.cpus.cpus s.leads.items b.side.leads.items
      f.long
      ready (f.long_leads ∙ ready) (λ n x y l m p q u v. (each n x y l m p q u v).0) in
      let l = sums_even (on_cpu (λ t. t.sent.lost) id) (dropped_at firing raised dropped adds id)
      (λ (l : Lead C). 0) s.system.cpus.cpus b.side.system.cpus.cpus s.leads.items b.side.leads.items f.long
      ready (f.long_leads ∙ ready) (λ n x y l m p q u v. (each n x y l m p q u v).1) in
      let z = sum_none (λ (l : Lead C). 0) s.leads.items (λ n x at. refl) in
      let z2 = sum_none (λ (l : Lead C). 0) b.side.leads.items (λ n x at. refl) in
      record { expired = omega (arith, x0, x1, r, e); losses = omega (arith, y0, y1, m, l, z, z2) }
    where
      each : (n : ℕ) (x y : CpuView R) (l m : Lead C) → slice_get s.system.cpus.cpus n ≡ Some x
          → slice_get b.side.system.cpus.cpus n ≡ Some y → slice_get s.leads.items n ≡ Some l
          → slice_get b.side.leads.items n ≡ Some m
          → (expired_of id y.cyclics + raised_at firing raised dropped adds id x + handler.count l.calls id
          ≡ expired_of id x.cyclics + raised_at firing raised dropped adds id y + handler.count m.calls id)
          × (lost_of id y.cyclics + dropped_at firing raised dropped adds id x + 0
          ≡ lost_of id x.cyclics + dropped_at firing raised dropped adds id y + 0)
      each n x y l m p q u v =
          let low = slice_get_within s.system.cpus.cpus n x p in let o = sound.agrees.long in let w = f.long_answers in
          let (up, at) = stands s.system.cpus.online n (omega (arith, low, o)) in
          let (answer, told) = stands b.answers.items n (omega (arith, low, w)) in
          if_fired up now (running l.calls x) (running m.calls y) answer (sound.lawful n x p)
          (f.each n up x y l m answer at p q u v told)

  asks_even : (s t : SystemSide R C) → OnlyAsked firing s t → Even s t (totals t.system)
  asks_even s t a = even_same s t
      (let x = sums_same (λ (cpu : CpuView R). option_map_or (λ (c : Cyclic). c.timer.expired) (cyclic_in id cpu) 0)
      s.system.cpus.cpus t.system.cpus.cpus a.cpus.long (λ n x y p q. ap
      (λ cs. option_map_or (λ (c : Cyclic). c.timer.expired) (cyclic_in id (record x { cyclics = cs })) 0) (same n x y p q)) in
      let r = ap (λ rs. option_map_or (λ r. sum_by (λ e. e.sent) r.ended) (found id rs) 0) a.records in omega (arith, x, r))
      (let x = sums_same (λ (cpu : CpuView R). option_map_or (λ (c : Cyclic). c.lost) (cyclic_in id cpu) 0)
      s.system.cpus.cpus t.system.cpus.cpus a.cpus.long (λ n x y p q. ap
      (λ cs. option_map_or (λ (c : Cyclic). c.lost) (cyclic_in id (record x { cyclics = cs })) 0) (same n x y p q)) in
      let r = ap (λ rs. option_map_or (λ r. sum_by (λ e. e.lost) r.ended) (found id rs) 0) a.records in omega (arith, x, r))
      (asked_raise firing raised dropped adds id s.system.cpus.cpus t.system.cpus.cpus a.cpus) a.leads
    where
      same : (n : ℕ) (x y : CpuView R) → slice_get s.system.cpus.cpus n ≡ Some x → slice_get t.system.cpus.cpus n ≡ Some y
          → y.cyclics ≡ x.cyclics
      same n x y p q = let w = a.cpus.each n x y p q in asked_cyclics firing w.0 x y w.1

  -- one of a run, that doesn't end the removal of the id
  step_even : (s t : SystemSide R C) (call : LeadCall) → Leads handler firing s call t → IsSound firing.view s.system
      → IsSound firing.view t.system → length s.leads.items ≡ length s.system.cpus.cpus → receipt_of id call ≡ None
      → Even s t (totals t.system)
  step_even s t (Make (Add level when now answer)) d a b ready none = quietly s t (Add level when now answer) a b d (λ x. x)
  step_even s t (Make (AddOmni level when skew now answer)) d a b ready none =
      quietly s t (AddOmni level when skew now answer) a b d
      (λ x. x)
  step_even s t (Make (Bind own cpu answer)) d a b ready none = quietly s t (Bind own cpu answer) a b d (λ x. x)
  step_even s t (Make (BeginRemove own (Ok (Done r)))) d a b ready none = quietly s t (BeginRemove own (Ok (Done r))) a b d
      (no_end id own r none)
  step_even s t (Make (BeginRemove own (Ok (Kept kept)))) d a b ready none = quietly s t (BeginRemove own (Ok (Kept kept))) a b d
      (λ x. x)
  step_even s t (Make (BeginRemove own (Err e))) d a b ready none = quietly s t (BeginRemove own (Err e)) a b d (λ x. x)
  step_even s t (Make (PollRemove own (Ok (Some r)))) d a b ready none = quietly s t (PollRemove own (Ok (Some r))) a b d
      (no_end id own r none)
  step_even s t (Make (PollRemove own (Ok None))) d a b ready none = quietly s t (PollRemove own (Ok None)) a b d (λ x. x)
  step_even s t (Make (PollRemove own (Err e))) d a b ready none = quietly s t (PollRemove own (Err e)) a b d (λ x. x)
  step_even s t (Make (AskTotals own answer)) d a b ready none = quietly s t (AskTotals own answer) a b d (λ x. x)
  step_even s t (Make (Suspend answer)) d a b ready none = quietly s t (Suspend answer) a b d (λ x. x)
  step_even s t (Make (Resume answer)) d a b ready none = quietly s t (Resume answer) a b d (λ x. x)
  step_even s t (Make (Reprogram own moment answer)) d a b ready none = quietly s t (Reprogram own moment answer) a b d (λ x. x)
  step_even s t (Make (ReprogramOn own n moment answer)) d a b ready none = quietly s t (ReprogramOn own n moment answer) a b d
      (λ x. x)
  step_even s t (Make (Juggle n answer)) d a b ready none = quietly s t (Juggle n answer) a b d (λ x. x)
  step_even s t (Make (Offline n answer)) d a b ready none = quietly s t (Offline n answer) a b d (λ x. x)
  step_even s t (Make (Online n now answer)) d a b ready none = quietly s t (Online n now answer) a b d (λ x. x)
  step_even s t (Make (FireOne n now answer)) d a b ready none = absurd d.0
  step_even s t (Make (SoftInterrupt n level budget answer)) d a b ready none = absurd d.0
  step_even s t (FireAll now) (after, fires, same) a b ready none =
      subst (λ (x : SystemSide R C). Even s x (totals x.system)) (sym same)
      (fires_even now s after a (subst (λ (x : SystemSide R C). IsSound firing.view x.system) same b) ready fires)
  step_even s t AskAll d a b ready none = asks_even s t d

  -- ---- an id whose removal has answered

  -- it is still over, and nothing of it was raised or called
  record StillOver (s t : SystemSide R C) : Type 0 where
    pub is_over : IsOver id t.system
    pub same : Same firing raised dropped adds id s.system.cpus.cpus t.system.cpus.cpus
    pub uncalled : counted_by handler.count id t.leads.items ≡ counted_by handler.count id s.leads.items

  -- a CPU has no cyclic of the id, and nothing of it was raised or called
  record NoneFired (s t : Running C R) : Type 0 where
    pub none : HasNoCyclic id t.cpu.cyclics
    pub raised_same : raised_at firing raised dropped adds id t.cpu ≡ raised_at firing raised dropped adds id s.cpu
    pub dropped_same : dropped_at firing raised dropped adds id t.cpu ≡ dropped_at firing raised dropped adds id s.cpu
    pub uncalled : handler.count t.calls id ≡ handler.count s.calls id

  abbrev no_calls : Calls ℕ
  no_calls = record { count = λ c j. 0; called = λ c j level d. ⊥; may_refuse = λ c j. ⊥ }

  -- a call that reaches no handler, with none
  over_quiet : (s t : SystemView R) (call : SystemCall)
      → Does no_calls firing no_interrupts (running_system 0 s) call (running_system 0 t)
      → IsOver id s → IsOver id t
  over_quiet s t call d a = (stays_over no_calls firing id (running_system 0 s) (running_system 0 t) (call ∷ []) a
      (running_system 0 t, d, refl)).0

  over_changed : (s t : SystemSide R C) (call : SystemCall)
      → Does no_calls firing no_interrupts (running_system 0 s.system) call (running_system 0 t.system)
      → Changes firing s.system call t.system → t.leads ≡ s.leads → IsOver id s.system → StillOver s t
  over_changed s t call quiet d same a = record {
    is_over = over_quiet s.system t.system call quiet a;
    same = changes_raise firing raised dropped adds id s.system t.system call d;
    uncalled = λ i. counted_by handler.count id (same i).items;
  }

  -- a CPU without the id, in an advance
  none_fired : (up : Bool) (now : ℕ) (s t : Running C R) (answer : Option (Result Fired FireRefused)) → IsLawful firing.view s.cpu
      → FiresIf handler firing (moment_asked up now) s answer t → HasNoCyclic id s.cpu.cyclics → NoneFired s t
  none_fired true now s t (Some answer) law d none =
      let p = proceeds_one handler firing s t (Fire now answer) law d in
      let gone = no_cyclic id s.cpu.cyclics none in let made = made_by (Fire now answer) s.cpu.cyclics in
      let z = no_share Lock id (timers s.cpu.cyclics) made gone in
      let z2 = no_share Low id (timers s.cpu.cyclics) made gone in
      let z3 = no_share High id (timers s.cpu.cyclics) made gone in
      let (b, c) = adds s.cpu.lock t.cpu.lock p.lock.way p.lock.goes id in
      let (g, e) = adds s.cpu.low t.cpu.low p.low.way p.low.goes id in
      let r = p.lock.raises id in let r2 = p.low.raises id in let l = p.lock.losses id in let l2 = p.low.losses id in
      let few = passes_few firing _ p.lock_lost _ _ p.lock id in
      let few2 = passes_few firing _ p.low_lost _ _ p.low id in let h = p.called id in record {
        none = by answer d;
        raised_same = omega (arith, b, g, r, r2, z, z2);
        dropped_same = omega (arith, c, e, l, l2, few, few2, z, z2);
        uncalled = omega (arith, h, z3);
      }
    where
      by : (answer : Result Fired FireRefused) → CpuDoes handler firing no_interrupts s (Fire now answer) t
          → HasNoCyclic id t.cpu.cyclics
      by (Ok r) (early, kept, expired, next, makes) = fired_away id now _ s.cpu.cyclics t.cpu.cyclics makes.timers_are none
      by (Err e) (inl (late, is, same)) = subst (λ (x : Running C R). HasNoCyclic id x.cpu.cyclics) (sym same) none
      by (Err e) (inr (early, kept, f)) = fired_away id now _ s.cpu.cyclics t.cpu.cyclics f.makes.timers_are none
  none_fired true now s t None law d none = absurd d
  none_fired false now s t (Some answer) law d none = absurd d
  none_fired false now s t None law e none = record {
    none = subst (λ (x : Running C R). HasNoCyclic id x.cpu.cyclics) (sym e) none;
    raised_same = ap (λ (r : Running C R). raised_at firing raised dropped adds id r.cpu) e;
    dropped_same = ap (λ (r : Running C R). dropped_at firing raised dropped adds id r.cpu) e;
    uncalled = ap (λ (r : Running C R). handler.count r.calls id) e;
  }

  over_fired : (now : ℕ) (s : SystemSide R C) (b : Advanced R C) → IsSound firing.view s.system
      → length s.leads.items ≡ length s.system.cpus.cpus → AllFire handler firing now s b
      → IsOver id s.system → StillOver s b.side
  over_fired now s b sound ready f is_over = record {
    is_over = record {
      given = (let g = is_over.given in let l = f.last in omega (arith, g, l));
      unknown = subst (λ rs. HasNoRecord id rs) (sym f.records) is_over.unknown;
      nowhere = λ n y q. (let low = slice_get_within b.side.system.cpus.cpus n y q in let e = f.long in
          let (x, p) = stands s.system.cpus.cpus n (omega (arith, low, e)) in let k = f.long_leads in
          let (l, u) = stands s.leads.items n (omega (arith, low, e, ready)) in
          let (m, v) = stands b.side.leads.items n (omega (arith, low, e, ready, k)) in (each n x y l m p q u v).none);
    };
    same = (
      sums_same (raised_at firing raised dropped adds id) s.system.cpus.cpus b.side.system.cpus.cpus f.long
          (λ n x y p q. (let low = slice_get_within s.system.cpus.cpus n x p in let k = f.long_leads in
          let (l, u) = stands s.leads.items n (omega (arith, low, ready)) in
          let (m, v) = stands b.side.leads.items n (omega (arith, low, ready, k)) in (each n x y l m p q u v).raised_same)),
      sums_same (dropped_at firing raised dropped adds id) s.system.cpus.cpus b.side.system.cpus.cpus f.long
          (λ n x y p q. (let low = slice_get_within s.system.cpus.cpus n x p in let k = f.long_leads in
          let (l, u) = stands s.leads.items n (omega (arith, low, ready)) in
          let (m, v) = stands b.side.leads.items n (omega (arith, low, ready, k)) in (each n x y l m p q u v).dropped_same)),
    );
    uncalled = sums_same (λ (l : Lead C). handler.count l.calls id) s.leads.items b.side.leads.items f.long_leads
        (λ n l m u v. (let low = slice_get_within s.leads.items n l u in let e = f.long in
        let (x, p) = stands s.system.cpus.cpus n (omega (arith, low, ready)) in
        let (y, q) = stands b.side.system.cpus.cpus n (omega (arith, low, ready, e)) in (each n x y l m p q u v).uncalled));
  }
    where
      each : (n : ℕ) (x y : CpuView R) (l m : Lead C) → slice_get s.system.cpus.cpus n ≡ Some x
          → slice_get b.side.system.cpus.cpus n ≡ Some y → slice_get s.leads.items n ≡ Some l
          → slice_get b.side.leads.items n ≡ Some m → NoneFired (running l.calls x) (running m.calls y)
      each n x y l m p q u v =
          let low = slice_get_within s.system.cpus.cpus n x p in let o = sound.agrees.long in let w = f.long_answers in
          let (up, at) = stands s.system.cpus.online n (omega (arith, low, o)) in
          let (answer, told) = stands b.answers.items n (omega (arith, low, w)) in
          none_fired up now (running l.calls x) (running m.calls y) answer (sound.lawful n x p)
          (f.each n up x y l m answer at p q u v told) (is_over.nowhere n x p)

  over_asked : (s t : SystemSide R C) → OnlyAsked firing s t → IsOver id s.system → StillOver s t
  over_asked s t a is_over = record {
    is_over = record {
      given = (let g = is_over.given in let l = a.last in omega (arith, g, l));
      unknown = subst (λ rs. HasNoRecord id rs) (sym a.records) is_over.unknown;
      nowhere = λ n y q. (let (x, p) = there n y q in let w = a.cpus.each n x y p q in
          subst (λ cs. HasNoCyclic id cs) (sym (asked_cyclics firing w.0 x y w.1)) (is_over.nowhere n x p));
    };
    same = asked_raise firing raised dropped adds id s.system.cpus.cpus t.system.cpus.cpus a.cpus;
    uncalled = λ i. counted_by handler.count id (a.leads i).items;
  }
    where
      there : (n : ℕ) (y : CpuView R) → slice_get t.system.cpus.cpus n ≡ Some y
          → (x : CpuView R) × (slice_get s.system.cpus.cpus n ≡ Some x)
      there n y q = (
        get_or s.system.cpus.cpus n y,
        slice_get-get_or s.system.cpus.cpus n y
            (let low = slice_get_within t.system.cpus.cpus n y q in let e = a.cpus.long in omega (arith, low, e)),
      )

  step_over : (s t : SystemSide R C) (call : LeadCall) → Leads handler firing s call t → IsSound firing.view s.system
      → length s.leads.items ≡ length s.system.cpus.cpus → IsOver id s.system → StillOver s t
  step_over s t (Make (Add level when now answer)) (d, e) a ready o = over_changed s t (Add level when now answer) (d, refl) d e o
  step_over s t (Make (AddOmni level when skew now answer)) (d, e) a ready o = over_changed s t
      (AddOmni level when skew now answer) (d, refl) d e o
  step_over s t (Make (Bind own cpu answer)) (d, e) a ready o = over_changed s t (Bind own cpu answer) (d, refl) d e o
  step_over s t (Make (BeginRemove own answer)) (d, e) a ready o = over_changed s t (BeginRemove own answer) (d, refl) d e o
  step_over s t (Make (PollRemove own answer)) (d, e) a ready o = over_changed s t (PollRemove own answer) (d, refl) d e o
  step_over s t (Make (AskTotals own answer)) (d, e) a ready o = over_changed s t (AskTotals own answer) (d, refl) d e o
  step_over s t (Make (Suspend answer)) (d, e) a ready o = over_changed s t (Suspend answer) (d, refl) d e o
  step_over s t (Make (Resume answer)) (d, e) a ready o = over_changed s t (Resume answer) (d, refl) d e o
  step_over s t (Make (Reprogram own moment answer)) (d, e) a ready o =
      over_changed s t (Reprogram own moment answer) (d, refl) d e o
  step_over s t (Make (ReprogramOn own n moment answer)) (d, e) a ready o = over_changed s t
      (ReprogramOn own n moment answer) (d, refl) d e o
  step_over s t (Make (Juggle n answer)) (d, e) a ready o = over_changed s t (Juggle n answer) (d, refl) d e o
  step_over s t (Make (Offline n answer)) (d, e) a ready o = over_changed s t (Offline n answer) (d, refl) d e o
  step_over s t (Make (Online n now answer)) (d, e) a ready o = over_changed s t (Online n now answer) (d, refl) d e o
  step_over s t (Make (FireOne n now answer)) (d, e) a ready o = absurd d
  step_over s t (Make (SoftInterrupt n level budget answer)) (d, e) a ready o = absurd d
  step_over s t (FireAll now) (after, fires, same) a ready o = subst (λ (x : SystemSide R C). StillOver s x) (sym same)
      (over_fired now s after a ready fires o)
  step_over s t AskAll d a ready o = over_asked s t d o

  abbrev D : SystemSide R C → LeadCall → SystemSide R C → Type 0
  D = LeadSteps handler firing

  run_over : (s t : SystemSide R C) (way : List LeadCall) → FoldsTo D s way t → IsSound firing.view s.system
      → length s.leads.items ≡ length s.system.cpus.cpus → IsOver id s.system
      → Same firing raised dropped adds id s.system.cpus.cpus t.system.cpus.cpus
      × (counted_by handler.count id t.leads.items ≡ counted_by handler.count id s.leads.items)
  run_over s t [] run a ready o = (
    (ap (λ (x : SystemSide R C). up x.system) (sym run), ap (λ (x : SystemSide R C). down x.system) (sym run)),
    ap (λ (x : SystemSide R C). counted_by handler.count id x.leads.items) (sym run),
  )
  run_over s t (call ∷ way) (u, (d, sound), rest) a ready o =
      let k = step_over s u call d a ready o in
      let ((p, q), h) = run_over u t way rest sound (leads_long handler firing s u call d ready) k.is_over in
      ((p ∙ k.same.0, q ∙ k.same.1), h ∙ k.uncalled)

  -- ---- a whole run

  abbrev pub counts : List LeadCall → SystemView R → Sent
  counts way t = option_map_or (λ r. record { sent = r.sent; lost = r.lost }) (receipt_in id way) (totals t)

  -- the removal answers: its receipt has all counts
  record Ends (s u : SystemSide R C) (r : Receipt) : Type 0 where
    pub is_over : IsOver id u.system
    pub same : Same firing raised dropped adds id s.system.cpus.cpus u.system.cpus.cpus
    pub uncalled : counted_by handler.count id u.leads.items ≡ counted_by handler.count id s.leads.items
    pub expired : r.sent ≡ all_expired id s.system
    pub losses : r.lost ≡ all_lost id s.system

  begun_ends : (s u : SystemSide R C) (r : Receipt) → Changes firing s.system (BeginRemove id (Ok (Done r))) u.system
      → u.leads ≡ s.leads → IsSound firing.view s.system → Ends s u r
  begun_ends s u r d calls a = record {
    is_over = begun_over firing id r s.system u.system a.agrees a.fit.rising d;
    same = changes_raise firing raised dropped adds id s.system u.system (BeginRemove id (Ok (Done r))) d;
    uncalled = λ i. counted_by handler.count id (calls i).items;
    expired = begun_done firing sent id (λ a b. refl) r s.system u.system a.fit a.lawful d (λ q sent lost. sent);
    losses = begun_done firing lost id (λ a b. refl) r s.system u.system a.fit a.lawful d (λ q sent lost. lost);
  }

  polled_ends : (s u : SystemSide R C) (r : Receipt) → Changes firing s.system (PollRemove id (Ok (Some r))) u.system
      → u.leads ≡ s.leads → IsSound firing.view s.system → Ends s u r
  polled_ends s u r d calls a = record {
    is_over = polled_over firing id r s.system u.system a.agrees a.fit.rising d;
    same = changes_raise firing raised dropped adds id s.system u.system (PollRemove id (Ok (Some r))) d;
    uncalled = λ i. counted_by handler.count id (calls i).items;
    expired = poll_done firing sent id (λ a b. refl) r s.system u.system a.fit a.lawful d (λ q sent lost. sent);
    losses = poll_done firing lost id (λ a b. refl) r s.system u.system a.fit a.lawful d (λ q sent lost. lost);
  }

  ends : (s u : SystemSide R C) (call : LeadCall) (r : Receipt) → Leads handler firing s call u
      → IsSound firing.view s.system → receipt_of id call ≡ Some r → Ends s u r
  ends s u (Make (BeginRemove own (Ok (Done q)))) r (d, calls) a e =
      let (named, is) = its_own id own q r e in subst (Ends s u) is (begun_ends s u q
      (subst (λ (j : ℕ). Changes firing s.system (BeginRemove j (Ok (Done q))) u.system) named d) calls a)
  ends s u (Make (BeginRemove own (Ok (Kept kept)))) r d a e = absurd (none_some e)
  ends s u (Make (BeginRemove own (Err why))) r d a e = absurd (none_some e)
  ends s u (Make (PollRemove own (Ok (Some q)))) r (d, calls) a e =
      let (named, is) = its_own id own q r e in subst (Ends s u) is (polled_ends s u q
      (subst (λ (j : ℕ). Changes firing s.system (PollRemove j (Ok (Some q))) u.system) named d) calls a)
  ends s u (Make (PollRemove own (Ok None))) r d a e = absurd (none_some e)
  ends s u (Make (PollRemove own (Err why))) r d a e = absurd (none_some e)
  ends s u (Make (Add level when now answer)) r d a e = absurd (none_some e)
  ends s u (Make (AddOmni level when skew now answer)) r d a e = absurd (none_some e)
  ends s u (Make (Bind own cpu answer)) r d a e = absurd (none_some e)
  ends s u (Make (AskTotals own answer)) r d a e = absurd (none_some e)
  ends s u (Make (Suspend answer)) r d a e = absurd (none_some e)
  ends s u (Make (Resume answer)) r d a e = absurd (none_some e)
  ends s u (Make (Reprogram own moment answer)) r d a e = absurd (none_some e)
  ends s u (Make (ReprogramOn own n moment answer)) r d a e = absurd (none_some e)
  ends s u (Make (Juggle n answer)) r d a e = absurd (none_some e)
  ends s u (Make (Offline n answer)) r d a e = absurd (none_some e)
  ends s u (Make (Online n now answer)) r d a e = absurd (none_some e)
  ends s u (Make (FireOne n now answer)) r d a e = absurd (none_some e)
  ends s u (Make (SoftInterrupt n level budget answer)) r d a e = absurd (none_some e)
  ends s u (FireAll now) r d a e = absurd (none_some e)
  ends s u AskAll r d a e = absurd (none_some e)

  pub run_even : (s t : SystemSide R C) (way : List LeadCall) → FoldsTo D s way t → IsSound firing.view s.system
      → length s.leads.items ≡ length s.system.cpus.cpus → Even s t (counts way t.system)
  run_even s t [] run a ready = subst (λ (x : SystemSide R C). Even s x (totals x.system)) run
      (even_same s s refl refl (refl, refl) refl)
  run_even s t (call ∷ way) (u, (d, sound), rest) a ready = by (receipt_of id call) refl
      (run_even u t way rest sound (leads_long handler firing s u call d ready))
    where
      by : (o : Option Receipt) → receipt_of id call ≡ o → Even u t (counts way t.system) → Even s t (option_map_or
          (λ r. record { sent = r.sent; lost = r.lost }) (first_ring o (receipt_in id way)) (totals t.system))
      by None e y = let x = step_even s u call d a sound ready e in
          let p = x.expired in let q = y.expired in let l = x.losses in let m = y.losses in
          record { expired = omega (arith, p, q); losses = omega (arith, l, m) }
      by (Some r) e y = let x = ends s u call r d a e in let ((p, q), h) =
          run_over u t way rest sound (leads_long handler firing s u call d ready) x.is_over in
          let (b, c) = x.same in let k = x.uncalled in let m = x.expired in let n = x.losses in
          record { expired = omega (arith, p, h, b, k, m); losses = omega (arith, q, c, n) }
