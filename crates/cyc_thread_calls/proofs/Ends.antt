-- What holds of each end that calls lead to, holds of each end of a system's CPUs after a run.
use Rattle.std.proofs.Common.{◌≡◌, ℕ, zero, suc, length, inl, inr, List, [], ◌∷◌, Option, Some, None, sym, subst, arith}
use Rattle.std.specs.Prelude.{Bool, true, false, Result, Ok, Err, slice_set}
use Rattle.std.specs.List.{slice_get, FoldsTo}
use Rattle.std.proofs.lemmas.Option.{slice_get_within}
use Rattle.cyc_types.specs.declared.Calls.{Ghosts as Calls}
use Rattle.cyc_types.specs.declared.Raise.{Ghosts as Raise}
use Rattle.cyc_types.specs.Firing.{FiringCall}
use Rattle.cyc_types.specs.Runs.{Goes}
use Rattle.cyc_timers.specs.declared.fire.Fired.{Fired}
use Rattle.cyc_timers.specs.declared.fire.FireRefused.{FireRefused}
use Rattle.cyc_threads.proofs.Spots.{same_some, none_some, get_some}
use Rattle.cyc_cpu.specs.Cpu.{CpuView, Running, running}
use Rattle.cyc_cpu.specs.Calls.{CpuCall, CpuChanges as CpuChanges, CpuDoes, Fire, AskSettled, no_interrupts}
use Rattle.cyc_threads.proofs.Stills.{changes_still}
use Rattle.cyc_agreement.specs.Cpus.{CpusView}
use Rattle.cyc_threads.specs.Settling.{AsksSettled}
use Rattle.cyc_threads.specs.Settled.{AllAsked}
use Rattle.cyc_threads.specs.System.{SystemView}
use Rattle.cyc_threads.specs.Calls.{SystemCall, Changes}
use Rattle.cyc_threads.specs.Sound.{IsSound}
use Rattle.cyc_threads.specs.Parts.{CpusCall, OnCpu, SetOnline, DoesPart}
use Rattle.cyc_threads.proofs.Pieces.{made_of}
use Rattle.cyc_threads.specs.SystemSide.{SystemSide}
use Rattle.cyc_threads.specs.Advanced.{Advanced}
use Rattle.cyc_threads.specs.Advancing.{AllFire, moment_asked, FiresIf}
use Rattle.cyc_system_rings.specs.Leading.{LeadCall, Make, FireAll, AskAll, LeadSteps}
use Rattle.cyc_threads.proofs.Lengths.{changes_long}

module _ {R : Type 0} (firing : Raise R) (P : R → Type 0)
    (goes_on : (e f : R) (way : List FiringCall) → Goes firing e way f → P e → P f) where
  -- of both ends of a CPU, and of all CPUs
  abbrev pub OfBoth : CpuView R → Type 0
  OfBoth cpu = P cpu.lock × P cpu.low

  abbrev pub OfAll : List (CpuView R) → Type 0
  OfAll xs = (n : ℕ) (x : CpuView R) → slice_get xs n ≡ Some x → OfBoth x

  both_changed : (x y : CpuView R) (call : CpuCall) → CpuChanges firing x call y → OfBoth x → OfBoth y
  both_changed x y call d (a, b) = let st = changes_still firing x y call d in
      (goes_on x.lock y.lock st.lock.way st.lock.goes a, goes_on x.low y.low st.low.way st.low.goes b)

  set_all : (xs : List (CpuView R)) (k : ℕ) (y : CpuView R) → OfBoth y → OfAll xs → OfAll (slice_set xs k y)
  set_all [] k y own all n x at = absurd (none_some at)
  set_all (z ∷ xs) zero y own all zero x at = subst OfBoth (same_some at) own
  set_all (z ∷ xs) zero y own all (suc n) x at = all (suc n) x at
  set_all (z ∷ xs) (suc k) y own all zero x at = all 0 x at
  set_all (z ∷ xs) (suc k) y own all (suc n) x at = set_all xs k y own (λ m w is. all (suc m) w is) n x at

  parts_all : (way : List CpusCall) (v w : CpusView R) → FoldsTo (DoesPart firing) v way w → OfAll v.cpus → OfAll w.cpus
  parts_all [] v w e all = subst (λ (u : CpusView R). OfAll u.cpus) e all
  parts_all (OnCpu c ∷ way) v w (u, d, rest) all = parts_all way u w rest (subst (λ (z : CpusView R). OfAll z.cpus) (sym d.rest)
      (set_all v.cpus c.cpu d.after (both_changed d.before d.after c.call d.change (all c.cpu d.before d.here)) all))
  parts_all (SetOnline n online ∷ way) v w (u, e, rest) all =
      parts_all way u w rest (subst (λ (z : CpusView R). OfAll z.cpus) (sym e) all)

  changed_all : (s t : SystemView R) (call : SystemCall) → Changes firing s call t → OfAll s.cpus.cpus → OfAll t.cpus.cpus
  changed_all s t call d all = let m = made_of firing s t call d in parts_all m.way s.cpus t.cpus m.works all

  asks_both : (answers : List Bool) (x y : CpuView R) → FoldsTo (AsksSettled firing) x answers y → OfBoth x → OfBoth y
  asks_both [] x y e own = subst OfBoth e own
  asks_both (answer ∷ answers) x y (z, (first, lawful), rest) own =
      asks_both answers z y rest (both_changed x z (AskSettled answer) first own)

  asked_all : (xs ys : List (CpuView R)) → AllAsked firing xs ys → OfAll xs → OfAll ys
  asked_all xs ys a all n y at =
      let long = a.long in let low = slice_get_within ys n y at in
      let (x, was) = get_some xs n (omega (arith, low, long)) in
      let s = a.each n x y was at in asks_both s.0 x y s.1 (all n x was)

  module _ {C : Type 0} (handler : Calls C) where
    fired_both : (s t : Running C R) (now : ℕ) (answer : Result Fired FireRefused)
        → CpuDoes handler firing no_interrupts s (Fire now answer) t → OfBoth s.cpu → OfBoth t.cpu
    fired_both s t now (Ok r) (early, kept, expired, next, m) (a, b) = (
      goes_on s.cpu.lock t.cpu.lock m.acts.lock_way m.acts.lock_goes a,
      goes_on s.cpu.low t.cpu.low m.acts.low_way m.acts.low_goes b,
    )
    fired_both s t now (Err e) (inl (early, why, same)) own = subst (λ (x : Running C R). OfBoth x.cpu) (sym same) own
    fired_both s t now (Err e) (inr (early, kept, f)) (a, b) = let m = f.makes in (
      goes_on s.cpu.lock t.cpu.lock m.acts.lock_way m.acts.lock_goes a,
      goes_on s.cpu.low t.cpu.low m.acts.low_way m.acts.low_goes b,
    )

    fires_if : (up : Bool) (now : ℕ) (s t : Running C R) (answer : Option (Result Fired FireRefused))
        → FiresIf handler firing (moment_asked up now) s answer t → OfBoth s.cpu → OfBoth t.cpu
    fires_if true now s t (Some answer) d own = fired_both s t now answer d own
    fires_if true now s t None d own = absurd d
    fires_if false now s t (Some answer) d own = absurd d
    fires_if false now s t None d own = subst (λ (x : Running C R). OfBoth x.cpu) (sym d) own

    fired_all : (now : ℕ) (a : SystemSide R C) (b : Advanced R C) → IsSound firing.view a.system
        → length a.leads.items ≡ length a.system.cpus.cpus → AllFire handler firing now a b
        → OfAll a.system.cpus.cpus → OfAll b.side.system.cpus.cpus
    fired_all now a b sound many f all n y at =
        let low = slice_get_within b.side.system.cpus.cpus n y at in
        let long = f.long in let leads = f.long_leads in let answers = f.long_answers in let online = sound.agrees.long in
        let (x, was) = get_some a.system.cpus.cpus n (omega (arith, low, long)) in
        let (up, here) = get_some a.system.cpus.online n (omega (arith, low, long, online)) in
        let (l, lead) = get_some a.leads.items n (omega (arith, low, long, many)) in
        let (m, after) = get_some b.side.leads.items n (omega (arith, low, long, many, leads)) in
        let (answer, told) = get_some b.answers.items n (omega (arith, low, long, answers)) in
        fires_if up now (running l.calls x) (running m.calls y) answer (f.each n up x y l m answer here was at lead after told)
        (all n x was)

    -- a run of calls
    pub led_all : (way : List LeadCall) (s t : SystemSide R C) → IsSound firing.view s.system
        → length s.leads.items ≡ length s.system.cpus.cpus → FoldsTo (LeadSteps handler firing) s way t
        → OfAll s.system.cpus.cpus → OfAll t.system.cpus.cpus
    led_all [] s t sound many e all = subst (λ (x : SystemSide R C). OfAll x.system.cpus.cpus) e all
    led_all (Make call ∷ way) s t sound many (u, ((d, leads), after), rest) all =
        led_all way u t after (let a = changes_long firing s.system u.system call d in
        let b : length u.leads.items ≡ length s.leads.items = λ i. length (leads i).items in omega (arith, a, b, many)) rest
        (changed_all s.system u.system call d all)
    led_all (FireAll now ∷ way) s t sound many (u, ((b, f, is), after), rest) all =
        led_all way u t after (let x = f.long in let y = f.long_leads in
        subst (λ (z : SystemSide R C). length z.leads.items ≡ length z.system.cpus.cpus) (sym is) (omega
        (arith, x, y, many))) rest
        (subst (λ (z : SystemSide R C). OfAll z.system.cpus.cpus) (sym is) (fired_all now s b sound many f all))
    led_all (AskAll ∷ way) s t sound many (u, (a, after), rest) all =
        led_all way u t after (let x = a.cpus.long in let y : length u.leads.items ≡ length s.leads.items =
        λ i. length (a.leads i).items in omega (arith, x, y, many)) rest
        (asked_all s.system.cpus.cpus u.system.cpus.cpus a.cpus all)
