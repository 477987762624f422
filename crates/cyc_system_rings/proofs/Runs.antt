-- A run that leads a system, from the call that gives an id.
use Rattle.std.proofs.Common.{◌≡◌, ◌≢◌, ◌∙◌, ◌==◌, ℕ, suc, ◌+◌, inl, inr, All, Bool, true, false, cond, Option}
use Rattle.std.proofs.Common.{Some, None, Result, Ok, Err, List, [], ◌∷◌, length, refl, sym, ap, subst, arith}
use Rattle.std.specs.Prelude.{sum_by, not, ◌&&◌}
use Rattle.std.specs.List.{slice_get, FoldsTo}
use Rattle.std.specs.Option.{option_map_or}
use Rattle.std.proofs.lemmas.Option.{slice_get_within}
use Rattle.cyc_types.specs.declared.Calls.{Ghosts as Calls}
use Rattle.cyc_types.specs.declared.Raise.{Ghosts as Raise}
use Rattle.cyc_types.specs.Series.{first, due, next}
use Rattle.cyc_types.specs.declared.level.Level.{Level}
use Rattle.cyc_types.specs.declared.moment.When.{When}
use Rattle.cyc_types.specs.declared.refusal.Refusal.{Refusal}
use Rattle.cyc_types.specs.declared.refusal.Refusal.TheVariants.{NoCyclic}
use Rattle.cyc_system_laws.specs.SystemRemoval.TheVariants.{Done, Kept}
use mathlib.Core.Logic.{dite}
use native.Mathlib.Decide.{ℕ_discrete}
use Rattle.cyc_timers.specs.declared.fire.Fired.{Fired}
use Rattle.cyc_timers.specs.declared.fire.FireRefused.{FireRefused}
use Rattle.cyc_types.specs.Reasons.{first_refusal, or_else, when as if_so}
use Rattle.cyc_cpu.specs.Cpu.{CpuView, Running, running}
use Rattle.cyc_cpu.specs.Laws.{IsLawful}
use Rattle.cyc_system_laws.proofs.Lists.{among, true_eq, false_ne}
use Rattle.cyc_system_laws.proofs.Spots.{none_some}
use Rattle.cyc_system_laws.proofs.Recording.{found}
use Rattle.cyc_system_laws.proofs.Sums.{none_found}
use Rattle.cyc_places.specs.declared.record.Record.{Record}
use Rattle.cyc_places.specs.Places.{is_everywhere}
use Rattle.cyc_system_workers.specs.WorkersSettling.{AsksSettled}
use Rattle.cyc_system_laws.specs.System.{SystemView, has, ids_of, is_online, is_omnipresent}
use Rattle.cyc_system_laws.specs.Laws.{cyclic_in}
use Rattle.cyc_system_laws.specs.Counts.{all_expired}
use Rattle.cyc_system_workers.specs.Refusals.{no_cyclic, no_cpu, offline_cpu, no_component}
use Rattle.cyc_system_laws.specs.SystemCalls.{SystemCall, Changes, Add, AddOmni, Bind, BeginRemove, PollRemove, AskTotals}
use Rattle.cyc_system_laws.specs.SystemCalls.{Suspend, Resume, Reprogram, ReprogramOn, Juggle, Offline, Online, FireOne}
use Rattle.cyc_system_laws.specs.SystemCalls.{SoftInterrupt}
use Rattle.cyc_system_workers.specs.declared.side.SystemSide.{SystemSide}
use Rattle.cyc_system_workers.specs.declared.advancing.Advanced.{Advanced}
use Rattle.cyc_system_workers.specs.Advancing.{AllFire, moment_asked, FiresIf}
use Rattle.cyc_system_workers.specs.Settling.{OnlyAsked}
use Rattle.cyc_expected.specs.Course.{
  component_begins_at,
  with_component,
  course_at,
  due_everywhere,
  course_after,
  Event,
  Begins,
  BeginsOnAll,
}
use Rattle.cyc_expected.specs.Course.{IsSet, IsSetOn, Ends, Fires, Leaves, Returns, Passes, Course, Single, Told, told_after}
use Rattle.cyc_expected.specs.Course.{told_by}
use Rattle.cyc_system_laws.specs.Sound.{IsSound}
use Rattle.cyc_system_laws.specs.Keeping.{over_stays, stay_on}
use Rattle.cyc_system_laws.proofs.Flow.{on_cpu}
use Rattle.cyc_system_laws.proofs.Found.{stays_found}
use Rattle.cyc_system_laws.proofs.Given.{receipt_all}
use Rattle.cyc_types.specs.declared.receipt.Receipt.{Receipt}
use Rattle.cyc_system_rings.specs.Leading.{LeadCall, Make, FireAll, AskAll}
use Rattle.cyc_system_laws.proofs.Lengths.{changes_long}
use Rattle.cyc_system_rings.proofs.Raising.{sums_same, stands}
use Rattle.cyc_system_rings.specs.Events.{given_everywhere, if_own, event_in, events_in, AllAccepted, AcceptedSteps, KeepsIt}
use Rattle.cyc_system_rings.proofs.Fires.{sums_into, later, fired_later, none_weigh}
use Rattle.cyc_system_rings.proofs.Singles.{ok_err, of_stay, IsSingle, single_kept, single_added, single_set}

-- of two reasons neither holds
pub neither : (a b : Option Refusal) → or_else a b ≡ None → (a ≡ None) × (b ≡ None)
neither None b e = (refl, e)
neither (Some why) b e = absurd (none_some (sym e))

-- a reason that doesn't hold
pub not_so : (b : Bool) (why : Refusal) → if_so (not b) why ≡ None → b ≡ true
not_so true why e = refl
not_so false why e = absurd (none_some (sym e))

left_true : (a b : Bool) → (a && b) ≡ true → a ≡ true
left_true true b e = refl
left_true false b e = absurd (let odd : false ≡ true = e in cc)

module _ {C R : Type 0} (handler : Calls C) (firing : Raise R) (id : ℕ) where
  -- what is told of it is so
  pub record IsTold (t : Told) (s : SystemView R) : Type 0 where
    pub moment : ℕ
    pub interval : ℕ
    pub course : t.course ≡ Single moment interval
    pub so : IsSingle firing id moment interval t.expired s

  -- ---- an advance

  -- a CPU in it
  pub if_fired : (now : ℕ) (k : ℕ → ℕ → ℕ → ℕ) (up : Bool) (s t : Running C R) (answer : Option (Result Fired FireRefused))
      → IsLawful firing.view s.cpu → FiresIf handler firing (moment_asked up now) s answer t
      → ((e : FireRefused) → answer ≡ Some (Err e) → ⊥) → (up ≡ false → cyclic_in id s.cpu ≡ None)
      → on_cpu (of_stay k) id t.cpu ≡ on_cpu (of_stay (later id now k)) id s.cpu
  if_fired now k true s t (Some (Ok r)) law (early, kept, expired, after, makes) accepted off =
      fired_later id now k s.cpu.cyclics t.cpu.cyclics law.distinct makes.timers_are
  if_fired now k true s t (Some (Err e)) law d accepted off = absurd (accepted e refl)
  if_fired now k true s t None law d accepted off = absurd d
  if_fired now k false s t (Some answer) law d accepted off = absurd d
  if_fired now k false s t None law e accepted off =
      let x = ap (λ (r : Running C R). on_cpu (of_stay k) id r.cpu) e in
      let y : on_cpu (of_stay k) id s.cpu ≡ 0 = none_weigh id k s.cpu.cyclics (off refl) in
      let z : on_cpu (of_stay (later id now k)) id s.cpu ≡ 0 = none_weigh id (later id now k) s.cpu.cyclics (off refl) in
      omega (arith, x, y, z)

  pub no_cyclic_off : (n : ℕ) (x : CpuView R) (up has' : Bool) (s : SystemView R) → IsSound firing.view s
      → slice_get s.cpus.cpus n ≡ Some x → slice_get s.cpus.online n ≡ Some up → up ≡ false → has n id s.cpus ≡ has'
      → cyclic_in id x ≡ None
  no_cyclic_off n x up false s sound p at off e = none_found x.cyclics id
      (sym (ap (λ o. among id (option_map_or ids_of o [])) p) ∙ e)
  no_cyclic_off n x up true s sound p at off e = (let (k, r, is, named, stand, on) = sound.agrees.known n id e in
      let here : is_online n s.cpus ≡ up = ap (λ o. option_map_or (λ (b : Bool). b) o false) at in
      absurd (let odd : false ≡ true = sym off ∙ (sym here ∙ on) in cc))

  -- all of them
  pub all_fired : (now : ℕ) (k : ℕ → ℕ → ℕ → ℕ) (s : SystemSide R C) (b : Advanced R C) → IsSound firing.view s.system
      → IsSound firing.view b.side.system → length s.leads.items ≡ length s.system.cpus.cpus
      → AllFire handler firing now s b → AllAccepted b
      → over_stays (of_stay k) id b.side.system ≡ over_stays (of_stay (later id now k)) id s.system
  all_fired now k s b sound after ready f accepted =
      let x = stays_found firing.view id (of_stay (later id now k)) s.system sound.lawful in
      let y = stays_found firing.view id (of_stay k) b.side.system after.lawful in
      let z = sums_into (on_cpu (of_stay k) id) (on_cpu (of_stay (later id now k)) id) s.system.cpus.cpus
      b.side.system.cpus.cpus f.long (λ n x y p q.
      (let low = slice_get_within s.system.cpus.cpus n x p in let o = sound.agrees.long in let w = f.long_answers in
      let k2 = f.long_leads in
      let (up, at) = stands s.system.cpus.online n (omega (arith, low, o)) in
      let (answer, told) = stands b.answers.items n (omega (arith, low, w)) in
      let (l, u) = stands s.leads.items n (omega (arith, low, ready)) in
      let (m, v) = stands b.side.leads.items n (omega (arith, low, ready, k2)) in
      if_fired now k up (running l.calls x) (running m.calls y) answer (sound.lawful n x p)
      (f.each n up x y l m answer at p q u v told)
      (λ e is. accepted n e (told ∙ ap (λ (o : Option (Result Fired FireRefused)). Some o) is))
      (λ off. no_cyclic_off n x up (has n id s.system.cpus) s.system sound p at off refl))) in omega (arith, x, y, z)

  pub fires_single : (now m i e : ℕ) (s : SystemSide R C) (b : Advanced R C) → IsSound firing.view s.system
      → IsSound firing.view b.side.system
      → length s.leads.items ≡ length s.system.cpus.cpus → AllFire handler firing now s b → AllAccepted b
      → IsSingle firing id m i e s.system → IsSingle firing id (next m i now) i (e + due m i now) b.side.system
  fires_single now m i e s b sound after ready f accepted h = record {
    stays = λ k. all_fired now k s b sound after ready f accepted ∙ h.stays (later id now k);
    all = (
        let x = all_fired now (λ a b c. c) s b sound after ready f accepted in
        let x2 = h.stays (later id now (λ a b c. c)) in let y = h.stays (λ a b c. c) in let z = h.all in
        let r = ap (λ rs. option_map_or (λ r. sum_by (λ e. e.sent) r.ended) (found id rs) 0) f.records in
        omega (arith, x, x2, y, z, r));
    given = (let g = h.given in let l = f.last in omega (arith, g, l));
    single = ap (λ rs. option_map_or (λ (r : Record). is_everywhere r.placement) (found id rs) false) f.records ∙ h.single;
  }

  -- ---- a question

  pub asked_cyclics : (answers : List Bool) (x y : CpuView R) → FoldsTo (AsksSettled firing) x answers y → y.cyclics ≡ x.cyclics
  asked_cyclics [] x y e = ap (λ (z : CpuView R). z.cyclics) (sym e)
  asked_cyclics (true ∷ answers) x y (z, (first, lawful), rest) = asked_cyclics answers z y rest ∙ first.0.cyclics
  asked_cyclics (false ∷ answers) x y (z, (first, lawful), rest) = asked_cyclics answers z y rest ∙ first.0.cyclics

  pub all_asked : (k : ℕ → ℕ → ℕ → ℕ) (s t : SystemSide R C) → IsSound firing.view s.system → IsSound firing.view t.system
      → OnlyAsked firing s t → over_stays (of_stay k) id t.system ≡ over_stays (of_stay k) id s.system
  all_asked k s t sound after a =
      let x = stays_found firing.view id (of_stay k) s.system sound.lawful in
      let y = stays_found firing.view id (of_stay k) t.system after.lawful in
      let z = sums_same (on_cpu (of_stay k) id) s.system.cpus.cpus t.system.cpus.cpus a.cpus.long (λ n x y p q.
      (let w = a.cpus.each n x y p q in ap (λ cs. sum_by (λ c. cond (c.timer.id == id) (of_stay k (stay_on c)) 0) cs)
      (asked_cyclics w.0 x y w.1))) in omega (arith, x, y, z)

  pub asks_single : (m i e : ℕ) (s t : SystemSide R C) → IsSound firing.view s.system → IsSound firing.view t.system
      → OnlyAsked firing s t
      → IsSingle firing id m i e s.system → IsSingle firing id m i e t.system
  asks_single m i e s t sound after a h = record {
    stays = λ k. all_asked k s t sound after a ∙ h.stays k;
    all = (
        let x = all_asked (λ a b c. c) s t sound after a in let z = h.all in
        let r = ap (λ rs. option_map_or (λ r. sum_by (λ e. e.sent) r.ended) (found id rs) 0) a.records in
        omega (arith, x, z, r));
    given = (let g = h.given in let l = a.last in omega (arith, g, l));
    single = ap (λ rs. option_map_or (λ (r : Record). is_everywhere r.placement) (found id rs) false) a.records ∙ h.single;
  }

  -- ---- a call

  same_told : (t u : Told) (s s' : SystemView R) → u ≡ t
      → ((m i e : ℕ) → IsSingle firing id m i e s → IsSingle firing id m i e s') → IsTold t s → IsTold u s'
  same_told t u s s' is keeps h = subst (λ (x : Told). IsTold x s') (sym is)
      (record { moment = h.moment; interval = h.interval; course = h.course; so = keeps h.moment h.interval t.expired h.so })

  -- an event of another cyclic is none
  pub others_pass : (own : ℕ) (event : Event) (t : Told) → own ≢ id → told_after (if_own own id event) t ≡ t
  others_pass own event t ne = ap (λ (b : Bool). told_after (cond b event Passes) t) (false_ne own id ne)

  pub its_own : (own : ℕ) (event : Event) (t : Told) → own ≡ id → told_after (if_own own id event) t ≡ told_after event t
  its_own own event t e = ap (λ (b : Bool). told_after (cond b event Passes) t) (true_eq own id e)

  -- what a CPU's coming and going is to a cyclic that is on one CPU
  comes_or_goes : (t u : Told) (s s' : SystemView R) → u.expired ≡ t.expired
      → ((m i : ℕ) → t.course ≡ Single m i → u.course ≡ Single m i)
      → ((m i e : ℕ) → IsSingle firing id m i e s → IsSingle firing id m i e s') → IsTold t s → IsTold u s'
  comes_or_goes t u s s' same course keeps h = record {
    moment = h.moment;
    interval = h.interval;
    course = course h.moment h.interval h.course;
    so = subst (λ (e : ℕ). IsSingle firing id h.moment h.interval e s') (sym same)
        (keeps h.moment h.interval t.expired h.so);
  }

  not_omni : (t : Told) (s : SystemView R) → IsTold t s → is_omnipresent id s ≡ true → ⊥
  not_omni t s h e = (let odd : false ≡ true = sym h.so.single ∙ e in cc)

  -- the id that an add gives is a new one
  new_id : (own : ℕ) (t : Told) (s : SystemView R) → IsTold t s → own ≡ s.last + 1 → own ≢ id
  new_id own t s h next same = (let g = h.so.given in absurd (omega (arith, g, next, same)))

  pub add_next : (level : Level) (when : When) (now own : ℕ) (s t : SystemView R)
      → Changes firing s (Add level when now (Ok own)) t → own ≡ s.last + 1
  add_next level when now own s t (inl (e, why, is, same)) = absurd (ok_err is)
  add_next level when now own s t (inr (clear, (d, chosen, is, works, records, last))) = is

  pub omni_next : (level : Level) (when : When) (skew now own : ℕ) (s t : SystemView R)
      → Changes firing s (AddOmni level when skew now (Ok own)) t → own ≡ s.last + 1
  omni_next level when skew now own s t (inl (e, why, is, same)) = absurd (ok_err is)
  omni_next level when skew now own s t (inr (clear, (is, works, records, last))) = is

  pub refused_begin : (own : ℕ) (e : Refusal) (s t : SystemView R) → Changes firing s (BeginRemove own (Err e)) t → t ≡ s
  refused_begin own e s t (inl (why, whys, is, same)) = same
  refused_begin own e s t (inr (clear, wrong)) = absurd wrong

  pub refused_poll : (own : ℕ) (e : Refusal) (s t : SystemView R) → Changes firing s (PollRemove own (Err e)) t → t ≡ s
  refused_poll own e s t (inl (why, whys, is, same)) = same
  refused_poll own e s t (inr (clear, wrong)) = absurd wrong

  pub refused_set : (own moment : ℕ) (e : Refusal) (s t : SystemView R) → Changes firing s (Reprogram own moment (Err e)) t
      → t ≡ s
  refused_set own moment e s t (inl (why, whys, is, same)) = same
  refused_set own moment e s t (inr (clear, (n, home, (is, only)))) =
      absurd (ok_err (sym is))

  pub refused_set_on : (own n moment : ℕ) (e : Refusal) (s t : SystemView R)
      → Changes firing s (ReprogramOn own n moment (Err e)) t → t ≡ s
  refused_set_on own n moment e s t (inl (why, whys, is, same)) = same
  refused_set_on own n moment e s t (inr (clear, (is, only))) = absurd (ok_err (sym is))

  set_on_omni : (own n moment : ℕ) (s t : SystemView R) → Changes firing s (ReprogramOn own n moment (Ok tt)) t
      → is_omnipresent own s ≡ true
  set_on_omni own n moment s t (inl (why, whys, is, same)) = absurd (ok_err is)
  set_on_omni own n moment s t (inr (clear, rest)) =
      let a = (neither (no_cyclic own s) (first_refusal (no_cpu n s ∷ offline_cpu n s ∷ no_component own n s ∷ [])) clear).1 in
      let b = (neither (no_cpu n s) (first_refusal (offline_cpu n s ∷ no_component own n s ∷ [])) a).1 in
      let c = (neither (offline_cpu n s) (first_refusal (no_component own n s ∷ [])) b).1 in
      let d = (neither (no_component own n s) None c).0 in
      left_true (is_omnipresent own s) (has n own s.cpus) (not_so (is_omnipresent own s && has n own s.cpus) NoCyclic d)

  abbrev untouched : (s t : SystemView R) → Type 0
  untouched s t = (m i e : ℕ) → IsSingle firing id m i e s → IsSingle firing id m i e t

  as_it_was : (s t : SystemView R) → t ≡ s → untouched s t
  as_it_was s t same m i e h = subst (λ (x : SystemView R). IsSingle firing id m i e x) (sym same) h

  pub make_told : (s t : SystemView R) (call : SystemCall) (told : Told) → IsSound firing.view s → IsSound firing.view t
      → Changes firing s call t → KeepsIt id (Make call) → IsTold told s
      → IsTold (told_after (event_in id (Make call)) told) t
  make_told s t (Add level when now (Ok own)) told a b d keeps h =
      let ne = new_id own told s h (add_next level when now own s t d) in
      same_told told _ s t (others_pass own (Begins when.start when.interval now) told ne)
      (λ m i e. single_kept firing id m i e s t (Add level when now (Ok own)) a b d ne ne (λ x. x)) h
  make_told s t (Add level when now (Err why)) told a b d keeps h = same_told told told s t refl
      (λ m i e. single_kept firing id m i e s t (Add level when now (Err why)) a b d (λ x. x) (λ x. x) (λ x. x)) h
  make_told s t (AddOmni level when skew now (Ok own)) told a b d keeps h =
      let ne = new_id own told s h (omni_next level when skew now own s t d) in
      same_told told _ s t (others_pass own (BeginsOnAll (given_everywhere level when skew) now) told ne)
      (λ m i e. single_kept firing id m i e s t (AddOmni level when skew now (Ok own)) a b d ne ne (λ x. x)) h
  make_told s t (AddOmni level when skew now (Err why)) told a b d keeps h = same_told told told s t refl
      (λ m i e. single_kept firing id m i e s t (AddOmni level when skew now (Err why)) a b d (λ x. x) (λ x. x) (λ x. x)) h
  make_told s t (Bind own cpu answer) told a b d keeps h = same_told told told s t refl
      (λ m i e. single_kept firing id m i e s t (Bind own cpu answer) a b d (λ x. x) (λ x. x) (λ x. x)) h
  make_told s t (BeginRemove own (Ok (Done r))) told a b d keeps h = same_told told _ s t (others_pass own Ends told keeps)
      (λ m i e. single_kept firing id m i e s t (BeginRemove own (Ok (Done r))) a b d keeps keeps keeps) h
  make_told s t (BeginRemove own (Ok (Kept kept))) told a b d keeps h =
      same_told told _ s t (others_pass own Ends told keeps)
      (λ m i e. single_kept firing id m i e s t (BeginRemove own (Ok (Kept kept))) a b d keeps (λ x. x) (λ x. x)) h
  make_told s t (BeginRemove own (Err why)) told a b d keeps h = same_told told told s t refl
      (as_it_was s t (refused_begin own why s t d)) h
  make_told s t (PollRemove own (Ok (Some r))) told a b d keeps h = same_told told told s t refl
      (λ m i e. single_kept firing id m i e s t (PollRemove own (Ok (Some r))) a b d keeps keeps keeps) h
  make_told s t (PollRemove own (Ok None)) told a b d keeps h = same_told told told s t refl
      (λ m i e. single_kept firing id m i e s t (PollRemove own (Ok None)) a b d keeps (λ x. x) (λ x. x)) h
  make_told s t (PollRemove own (Err why)) told a b d keeps h = same_told told told s t refl
      (as_it_was s t (refused_poll own why s t d)) h
  make_told s t (AskTotals own answer) told a b d keeps h = same_told told told s t refl
      (λ m i e. single_kept firing id m i e s t (AskTotals own answer) a b d (λ x. x) (λ x. x) (λ x. x)) h
  make_told s t (Suspend answer) told a b d keeps h = same_told told told s t refl
      (λ m i e. single_kept firing id m i e s t (Suspend answer) a b d (λ x. x) (λ x. x) (λ x. x)) h
  make_told s t (Resume answer) told a b d keeps h = same_told told told s t refl
      (λ m i e. single_kept firing id m i e s t (Resume answer) a b d (λ x. x) (λ x. x) (λ x. x)) h
  make_told s t (Reprogram own moment (Ok done)) told a b d keeps h = dite (ℕ_discrete own id)
      (λ same. subst (λ (x : Told). IsTold x t) (sym (its_own own (IsSet moment) told same)) (record {
        moment = moment;
        interval = h.interval;
        course = ap (course_at moment) h.course;
        so = single_set firing id moment h.moment h.interval told.expired s t a b
            (subst (λ (j : ℕ). Changes firing s (Reprogram j moment (Ok tt)) t) same d) h.so;
      }))
      (λ ne. same_told told _ s t (others_pass own (IsSet moment) told ne)
      (λ m i e. single_kept firing id m i e s t (Reprogram own moment (Ok done)) a b d ne (λ x. x) (λ x. x)) h)
  make_told s t (Reprogram own moment (Err why)) told a b d keeps h = same_told told told s t refl
      (as_it_was s t (refused_set own moment why s t d)) h
  make_told s t (ReprogramOn own n moment (Ok done)) told a b d keeps h = dite (ℕ_discrete own id)
      (λ same. absurd (not_omni told s h (subst (λ (j : ℕ). is_omnipresent j s ≡ true) same (set_on_omni own n moment s t d))))
      (λ ne. same_told told _ s t (others_pass own (IsSetOn n moment) told ne)
      (λ m i e. single_kept firing id m i e s t (ReprogramOn own n moment (Ok done)) a b d ne (λ x. x) (λ x. x)) h)
  make_told s t (ReprogramOn own n moment (Err why)) told a b d keeps h = same_told told told s t refl
      (as_it_was s t (refused_set_on own n moment why s t d)) h
  make_told s t (Juggle n answer) told a b d keeps h = same_told told told s t refl
      (λ m i e. single_kept firing id m i e s t (Juggle n answer) a b d (λ x. x) (λ x. x) (λ x. x)) h
  make_told s t (Offline n (Ok done)) told a b d keeps h = comes_or_goes told (told_after (Leaves n) told) s t refl
      (λ m i e. ap (with_component n (λ e. None)) e)
      (λ m i e. single_kept firing id m i e s t (Offline n (Ok done)) a b d (not_omni told s h) (λ x. x) (λ x. x)) h
  make_told s t (Offline n (Err why)) told a b d keeps h = same_told told told s t refl
      (λ m i e. single_kept firing id m i e s t (Offline n (Err why)) a b d (not_omni told s h) (λ x. x) (λ x. x)) h
  make_told s t (Online n now (Ok done)) told a b d keeps h = comes_or_goes told (told_after (Returns n now) told) s t refl
      (λ m i e. ap (with_component n (λ e. Some (component_begins_at n e now))) e)
      (λ m i e. single_kept firing id m i e s t (Online n now (Ok done)) a b d (not_omni told s h) (λ x. x) (λ x. x)) h
  make_told s t (Online n now (Err why)) told a b d keeps h = same_told told told s t refl
      (λ m i e. single_kept firing id m i e s t (Online n now (Err why)) a b d (not_omni told s h) (λ x. x) (λ x. x)) h
  make_told s t (FireOne n now answer) told a b d keeps h = absurd d
  make_told s t (SoftInterrupt n level budget answer) told a b d keeps h = absurd d

  -- ---- one of a run, and all of it

  abbrev D : SystemSide R C → LeadCall → SystemSide R C → Type 0
  D = AcceptedSteps handler firing

  pub sound_after : (s t : SystemSide R C) (call : LeadCall) → D s call t → IsSound firing.view t.system
  sound_after s t (Make call) d = d.1
  sound_after s t (FireAll now) (after, fires, accepted, same, sound) = sound
  sound_after s t AskAll d = d.1

  pub step_ready : (s t : SystemSide R C) (call : LeadCall) → D s call t → length s.leads.items ≡ length s.system.cpus.cpus
      → length t.leads.items ≡ length t.system.cpus.cpus
  step_ready s t (Make call) ((d, e), sound) ready =
      let a = changes_long firing s.system t.system call d in
      let b : length t.leads.items ≡ length s.leads.items = λ i. length (e i).items in omega (arith, a, b, ready)
  step_ready s t (FireAll now) (after, f, accepted, same, sound) ready = let a = f.long in let b = f.long_leads in
      subst (λ (x : SystemSide R C). length x.leads.items ≡ length x.system.cpus.cpus) (sym same) (omega (arith, a, b, ready))
  step_ready s t AskAll (a, sound) ready =
      let b : length t.leads.items ≡ length s.leads.items = λ i. length (a.leads i).items in let c = a.cpus.long in
      omega (arith, b, c, ready)

  step_told : (s t : SystemSide R C) (call : LeadCall) (told : Told) → IsSound firing.view s.system
      → length s.leads.items ≡ length s.system.cpus.cpus → D s call t → KeepsIt id call → IsTold told s.system
      → IsTold (told_after (event_in id call) told) t.system
  step_told s t (Make call) told a ready ((d, e), b) keeps h = make_told s.system t.system call told a b d keeps h
  step_told s t (FireAll now) told a ready (after, fires, accepted, same, b) keeps h =
      subst (λ (x : SystemSide R C). IsTold (told_after (Fires now) told) x.system) (sym same) (record {
        moment = next h.moment h.interval now;
        interval = h.interval;
        course = ap (course_after now) h.course;
        so = subst (λ (e : ℕ). IsSingle firing id (next h.moment h.interval now) h.interval e after.side.system)
            (ap (λ (c : Course). told.expired + due_everywhere now c) (sym h.course))
            (fires_single now h.moment h.interval told.expired s after a
            (subst (λ (x : SystemSide R C). IsSound firing.view x.system) same b) ready fires accepted h.so);
      })
  step_told s t AskAll told a ready (d, b) keeps h = same_told told told s.system t.system refl
      (λ m i e. asks_single m i e s t a b d) h

  pub run_told : (s t : SystemSide R C) (way : List LeadCall) (told : Told) → IsSound firing.view s.system
      → length s.leads.items ≡ length s.system.cpus.cpus → FoldsTo D s way t → All (KeepsIt id) way → IsTold told s.system
      → IsTold (told_by (events_in id way) told) t.system
  run_told s t [] told a ready run keeps h = subst (λ (x : SystemSide R C). IsTold told x.system) run h
  run_told s t (call ∷ way) told a ready (u, d, rest) keeps h =
      run_told u t way (told_after (event_in id call) told) (sound_after s u call d) (step_ready s u call d ready) rest
      (λ k e low. keeps (suc k) e (omega (arith, low)))
      (step_told s u call told a ready d (keeps 0 call (omega arith)) h)

  pub expected_from : (level : Level) (when : When) (now : ℕ) (before : SystemView R) (s t : SystemSide R C)
      (way : List LeadCall) (told : Told) → IsSound firing.view before
      → Changes firing before (Add level when now (Ok id)) s.system
      → IsSound firing.view s.system → length s.leads.items ≡ length s.system.cpus.cpus → FoldsTo D s way t → All (KeepsIt id) way
      → all_expired id t.system ≡ (told_by (Begins when.start when.interval now ∷ events_in id way) told).expired
  expected_from level when now before s t way told a d b ready run keeps =
      (run_told s t way (told_after (Begins when.start when.interval now) told) b ready run keeps (record {
        moment = first when.start when.interval now;
        interval = when.interval;
        course = refl;
        so = single_added firing id level when now before s.system a b d;
      })).so.all

  -- where the removal is done as it begins, the receipt says it
  pub receipt_from : (level : Level) (when : When) (now : ℕ) (before after : SystemView R) (s t : SystemSide R C)
      (way : List LeadCall) (told : Told) (receipt : Receipt) → IsSound firing.view before
      → Changes firing before (Add level when now (Ok id)) s.system → IsSound firing.view s.system
      → length s.leads.items ≡ length s.system.cpus.cpus → FoldsTo D s way t → All (KeepsIt id) way
      → Changes firing t.system (BeginRemove id (Ok (Done receipt))) after
      → receipt.sent ≡ (told_by (Begins when.start when.interval now ∷ events_in id way) told).expired
  receipt_from level when now before after s t way told receipt a d b ready run keeps done =
      (receipt_all firing id receipt t.system after (sound_at_end s t way b run) (inl done)).0
      ∙ expected_from level when now before s t way told a d b ready run keeps
    where
      sound_at_end : (s t : SystemSide R C) (way : List LeadCall) → IsSound firing.view s.system → FoldsTo D s way t
          → IsSound firing.view t.system
      sound_at_end s t [] a run = subst (λ (x : SystemSide R C). IsSound firing.view x.system) run a
      sound_at_end s t (call ∷ way) a (u, d, rest) = sound_at_end u t way (sound_after s u call d) rest
