-- What is done to a system over rings leaves each CPU its rings.
use Rattle.std.proofs.Common.{◌≡◌, ℕ, zero, suc, ◌<◌, List, [], ◌∷◌, refl, sym, ap, subst, ◌∙◌, arith, inl, inr, Bool, true}
use Rattle.std.proofs.Common.{false, length}
use Rattle.std.specs.Prelude.{Option, Some, None, Result, Ok, Err, is_some, slice_set}
use mathlib.Core.Bool.{true≢false}
use Rattle.std.specs.List.{slice_get, FoldsTo}
use Rattle.cyc_types.specs.declared.Calls.{Ghosts as Calls}
use Rattle.cyc_timers.specs.declared.fire.Fired.{Fired}
use Rattle.cyc_timers.specs.declared.fire.FireRefused.{FireRefused}
use Rattle.cyc_ring.specs.declared.ends.RaiseEnd.{RaiseEnd}
use Rattle.cyc_ring.specs.Ends.{raise_end}
use Rattle.cyc_ring.proofs.Ways.{raise_ways}
use Rattle.cyc_system_laws.specs.Cpu.{CpuView, Running, running}
use Rattle.cyc_system_laws.specs.Calls.{CpuCall, CpuChanges, CpuDoes, Fire, AskSettled, no_interrupts}
use Rattle.cyc_system_laws.proofs.Stills.{changes_still}
use Rattle.cyc_system_laws.specs.Cpus.{CpusView, ChangesAt}
use Rattle.cyc_system_workers.specs.WorkersSettling.{AsksSettled}
use Rattle.cyc_system_workers.specs.Settled.{AllAsked}
use Rattle.cyc_system_workers.specs.System.{SystemView}
use Rattle.cyc_system_workers.specs.Calls.{SystemCall, Changes as SystemChanges}
use Rattle.cyc_system_laws.specs.Parts.{CpusCall, OnCpu, SetOnline, DoesPart}
use Rattle.cyc_system_laws.proofs.Pieces.{made_of}
use Rattle.cyc_system_laws.proofs.Spots.{same_some}
use Rattle.cyc_system_workers.specs.declared.side.SystemSide.{SystemSide}
use Rattle.cyc_system_workers.specs.declared.advancing.Advanced.{Advanced}
use Rattle.cyc_system_workers.specs.Advancing.{AllFire, moment_asked, FiresIf}
use Rattle.cyc_threads.specs.SameSeats.{HasSameSeats, HaveSameSeats}

same_one : (x : CpuView RaiseEnd) → HasSameSeats x x
same_one x = ((refl, refl), (refl, refl))

then_one : (x y z : CpuView RaiseEnd) → HasSameSeats x y → HasSameSeats y z → HasSameSeats x z
then_one x y z p q = ((q.0.0 ∙ p.0.0, q.0.1 ∙ p.0.1), (q.1.0 ∙ p.1.0, q.1.1 ∙ p.1.1))

pub same_all : (xs : List (CpuView RaiseEnd)) → HaveSameSeats xs xs
same_all [] = tt
same_all (x ∷ xs) = (same_one x, same_all xs)

pub then_all : (xs ys zs : List (CpuView RaiseEnd)) → HaveSameSeats xs ys → HaveSameSeats ys zs → HaveSameSeats xs zs
then_all [] [] [] p q = tt
then_all [] [] (z ∷ zs) p q = absurd q
then_all [] (y ∷ ys) zs p q = absurd p
then_all (x ∷ xs) [] zs p q = absurd p
then_all (x ∷ xs) (y ∷ ys) [] p q = absurd q
then_all (x ∷ xs) (y ∷ ys) (z ∷ zs) p q = (then_one x y z p.0 q.0, then_all xs ys zs p.1 q.1)

-- ---- calls of a system

changed_one : (x y : CpuView RaiseEnd) (call : CpuCall) → CpuChanges raise_end x call y → HasSameSeats x y
changed_one x y call d = let st = changes_still raise_end x y call d in
    ((raise_ways x.lock y.lock st.lock.way st.lock.goes).0, (raise_ways x.low y.low st.low.way st.low.goes).0)

set_one : (xs : List (CpuView RaiseEnd)) (n : ℕ) (x y : CpuView RaiseEnd) → slice_get xs n ≡ Some x → HasSameSeats x y →
    HaveSameSeats xs (slice_set xs n y)
set_one [] n x y here p = tt
set_one (z ∷ xs) zero x y here p = (subst (λ (w : CpuView RaiseEnd). HasSameSeats w y) (sym (same_some here)) p, same_all xs)
set_one (z ∷ xs) (suc n) x y here p = (same_one z, set_one xs n x y here p)

at_one : (n : ℕ) (D : CpuView RaiseEnd → CpuView RaiseEnd → Type 0) (v w : CpusView RaiseEnd) →
    ((x y : CpuView RaiseEnd) → D x y → HasSameSeats x y) → ChangesAt n D v w → HaveSameSeats v.cpus w.cpus
at_one n D v w f c = subst (λ (u : CpusView RaiseEnd). HaveSameSeats v.cpus u.cpus) (sym c.rest)
    (set_one v.cpus n c.before c.after c.here (f c.before c.after c.change))

part : (v w : CpusView RaiseEnd) (p : CpusCall) → DoesPart raise_end v p w → HaveSameSeats v.cpus w.cpus
part v w (OnCpu c) d = at_one c.cpu (λ x y. CpuChanges raise_end x c.call y) v w (λ x y e. changed_one x y c.call e) d
part v w (SetOnline n online) d = subst (λ (u : CpusView RaiseEnd). HaveSameSeats v.cpus u.cpus) (sym d) (same_all v.cpus)

parts : (v w : CpusView RaiseEnd) (way : List CpusCall) → FoldsTo (DoesPart raise_end) v way w →
    HaveSameSeats v.cpus w.cpus
parts v w [] e = subst (λ (u : CpusView RaiseEnd). HaveSameSeats v.cpus u.cpus) e (same_all v.cpus)
parts v w (p ∷ way) (m, a, rest) = then_all v.cpus m.cpus w.cpus (part v m p a) (parts m w way rest)

pub called_all : (s t : SystemView RaiseEnd) (call : SystemCall) → SystemChanges raise_end s call t →
    HaveSameSeats s.cpus.cpus t.cpus.cpus
called_all s t call d = let m = made_of raise_end s t call d in parts s.cpus t.cpus m.way m.works

-- ---- questions, and fires

settle_one : (x y : CpuView RaiseEnd) (answers : List Bool) → FoldsTo (AsksSettled raise_end) x answers y → HasSameSeats x y
settle_one x y [] e = subst (λ (z : CpuView RaiseEnd). HasSameSeats x z) e (same_one x)
settle_one x y (answer ∷ answers) (m, d, rest) =
    then_one x m y (changed_one x m (AskSettled answer) d.0) (settle_one m y answers rest)

each_of : (xs ys : List (CpuView RaiseEnd)) → length ys ≡ length xs →
    ((n : ℕ) (x y : CpuView RaiseEnd) → slice_get xs n ≡ Some x → slice_get ys n ≡ Some y → HasSameSeats x y) →
    HaveSameSeats xs ys
each_of [] [] long f = tt
each_of [] (y ∷ ys) long f = absurd (omega (arith, long))
each_of (x ∷ xs) [] long f = absurd (omega (arith, long))
each_of (x ∷ xs) (y ∷ ys) long f = (f zero x y refl refl, each_of xs ys (omega (arith, long)) (λ n a b p q. f (suc n) a b p q))

pub asked_all : (v w : List (CpuView RaiseEnd)) → AllAsked raise_end v w → HaveSameSeats v w
asked_all v w a = each_of v w a.long (λ n x y p q. (let s = a.each n x y p q in settle_one x y s.0 s.1))

-- each position below the length has its element
below : {A : Type 0} (xs : List A) (n : ℕ) (x : A) → slice_get xs n ≡ Some x → n < length xs
below [] n x here = absurd (true≢false (ap is_some (sym here)))
below (y ∷ xs) zero x here = omega arith
below (y ∷ xs) (suc n) x here = let r = below xs n x here in omega (arith, r)

has_at : {A : Type 0} (xs : List A) (n : ℕ) → n < length xs → (x : A) × (slice_get xs n ≡ Some x)
has_at [] n low = absurd (omega (arith, low))
has_at (x ∷ xs) zero low = (x, refl)
has_at (x ∷ xs) (suc n) low = has_at xs n (omega (arith, low))

module _ {C : Type 0} (handler : Calls C) where
  fired_one : (s t : Running C RaiseEnd) (now : ℕ) (answer : Result Fired FireRefused) →
      CpuDoes handler raise_end no_interrupts s (Fire now answer) t → HasSameSeats s.cpu t.cpu
  fired_one s t now (Ok r) (early, kept, expired, next, m) = (
    (raise_ways s.cpu.lock t.cpu.lock m.acts.lock_way m.acts.lock_goes).0,
    (raise_ways s.cpu.low t.cpu.low m.acts.low_way m.acts.low_goes).0,
  )
  fired_one s t now (Err e) (inl (early, why, same)) =
      subst (λ (x : Running C RaiseEnd). HasSameSeats s.cpu x.cpu) (sym same) (same_one s.cpu)
  fired_one s t now (Err e) (inr (early, kept, f)) = let m = f.makes in (
    (raise_ways s.cpu.lock t.cpu.lock m.acts.lock_way m.acts.lock_goes).0,
    (raise_ways s.cpu.low t.cpu.low m.acts.low_way m.acts.low_goes).0,
  )

  fires_if : (up : Bool) (now : ℕ) (s t : Running C RaiseEnd) (answer : Option (Result Fired FireRefused)) →
      FiresIf handler raise_end (moment_asked up now) s answer t → HasSameSeats s.cpu t.cpu
  fires_if true now s t (Some answer) d = fired_one s t now answer d
  fires_if true now s t None d = absurd d
  fires_if false now s t (Some answer) d = absurd d
  fires_if false now s t None d = subst (λ (x : Running C RaiseEnd). HasSameSeats s.cpu x.cpu) (sym d) (same_one s.cpu)

  pub fired_all : (now : ℕ) (a : SystemSide RaiseEnd C) (b : Advanced RaiseEnd C) →
      length a.system.cpus.online ≡ length a.system.cpus.cpus →
      length a.leads.items ≡ length a.system.cpus.cpus → AllFire handler raise_end now a b →
      HaveSameSeats a.system.cpus.cpus b.side.system.cpus.cpus
  fired_all now a b long many f = each_of a.system.cpus.cpus b.side.system.cpus.cpus f.long (λ n x y p q. (
      let low = below a.system.cpus.cpus n x p in let leads = f.long_leads in let answers = f.long_answers in
      let up = has_at a.system.cpus.online n (omega (arith, low, long)) in
      let l = has_at a.leads.items n (omega (arith, low, many)) in
      let m = has_at b.side.leads.items n (omega (arith, low, many, leads)) in
      let answer = has_at b.answers.items n (omega (arith, low, answers)) in
      fires_if up.0 now (running l.0.calls x) (running m.0.calls y) answer.0 (f.each n up.0 x y l.0 m.0 answer.0 up.1 p q l.1
      m.1 answer.1)))

pub same_long : (xs ys : List (CpuView RaiseEnd)) → HaveSameSeats xs ys → length ys ≡ length xs
same_long [] [] p = refl
same_long [] (y ∷ ys) p = absurd p
same_long (x ∷ xs) [] p = absurd p
same_long (x ∷ xs) (y ∷ ys) p = ap (λ (n : ℕ). suc n) (same_long xs ys p.1)
