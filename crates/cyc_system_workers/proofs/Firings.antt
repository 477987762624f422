-- An advance is one fire after another.
use Rattle.std.proofs.Common.{◌≡◌, ℕ, suc, ◌+◌, inr, Bool, true, false, not, List, [], ◌∷◌, ◌++◌, map, length}
use Rattle.std.proofs.Common.{slice_set, Option, Some, None, Result, refl, sym, ap, ◌∙◌, subst, arith, append_assoc}
use Rattle.std.specs.List.{slice_get, FoldsTo}
use Rattle.std.specs.Option.{option_map_or}
use Rattle.std.proofs.lemmas.List.{length-append}
use Rattle.std.proofs.lemmas.Option.{slice_get_within}
use Rattle.cyc_types.specs.declared.Calls.{Ghosts as Calls}
use Rattle.cyc_types.specs.declared.Raise.{Ghosts as Raise}
use Rattle.cyc_types.specs.declared.refusal.Refusal.TheVariants.{Offline}
use Rattle.cyc_timers.specs.declared.fire.Fired.{Fired}
use Rattle.cyc_timers.specs.declared.fire.FireRefused.{FireRefused}
use Rattle.cyc_types.specs.Reasons.{first_refusal, when}
use Rattle.cyc_cpu.specs.Cpu.{CpuView, Running, running}
use Rattle.cyc_cpu.specs.Calls.{CpuDoes, Fire, no_interrupts}
use Rattle.cyc_agreement.specs.Cpus.{numbers_from}
use Rattle.cyc_places.specs.declared.record.Record.{Record}
use Rattle.cyc_system.specs.Agreement.{Agrees}
use Rattle.cyc_system.specs.System.{SystemView}
use Rattle.cyc_system.specs.Refusals.{no_cpu, offline_cpu}
use Rattle.cyc_agreement.proofs.Presence.{cpu_clear}
use Rattle.cyc_agreement.proofs.Spots.{get_some}
use Rattle.cyc_workers.specs.declared.settling.Lead.{Lead}
use Rattle.cyc_system_workers.specs.declared.side.SystemSide.{SystemSide}
use Rattle.cyc_system_workers.specs.declared.advancing.Advanced.{Advanced}
use Rattle.cyc_system_workers.specs.Advancing.{moment_asked, FiresIf, AllFire}
use Rattle.cyc_system_workers.specs.Fires.{FireOn, FiresOne, IsFires, firings_of}

get_mid : {A : Type 0} (pre xs : List A) (x : A) → slice_get (pre ++ x ∷ xs) (length pre) ≡ Some x
get_mid [] xs x = refl
get_mid (p ∷ pre) xs x = get_mid pre xs x

set_mid : {A : Type 0} (pre xs : List A) (x y : A) → slice_set (pre ++ x ∷ xs) (length pre) y ≡ pre ++ y ∷ xs
set_mid [] xs x y = refl
set_mid (p ∷ pre) xs x y = ap (λ l. p ∷ l) (set_mid pre xs x y)

module _ {C R : Type 0} (handler : Calls C)
    (firing : Raise R) (leads leads' : List (Lead C)) (now : ℕ)
    (online : List Bool) (records : List Record) (last : ℕ) where
  abbrev sys : List (CpuView R) → SystemView R
  sys cpus = record { cpus = record { cpus = cpus; online = online }; records = records; last = last }

  abbrev D : SystemView R → FireOn → SystemView R → Type 0
  D = FiresOne handler firing (record { now = now; leads = leads; leads_after = leads' })

  -- what becomes of the CPU of a number, with its own handlers
  record At (n : ℕ) (up : Bool) (x y : CpuView R) : Type 0 where
    pub before : Lead C
    pub after : Lead C
    pub answer : Option (Result Fired FireRefused)
    pub before_is : slice_get leads n ≡ Some before
    pub after_is : slice_get leads' n ≡ Some after
    pub fires : FiresIf handler firing (moment_asked up now) (running before.calls x) answer (running after.calls y)

  fires_one : (pre xs : List (CpuView R)) (x y : CpuView R) (l m : Lead C) (answer : Result Fired FireRefused)
      → slice_get online (length pre) ≡ Some true →
      slice_get leads (length pre) ≡ Some l → slice_get leads' (length pre) ≡ Some m →
      CpuDoes handler firing no_interrupts (running l.calls x) (Fire now answer) (running m.calls y) →
      D (sys (pre ++ x ∷ xs)) (record { cpu = length pre; answer = answer }) (sys (pre ++ y ∷ xs))
  fires_one pre xs x y l m answer up l_is m_is does =
      let n = length pre in let s = sys (pre ++ x ∷ xs) in
      let long = length-append pre (x ∷ xs) in
      let there : no_cpu n s ≡ None = cpu_clear s n (omega (arith, long)) in
      let clear : offline_cpu n s ≡ None = ap (λ (o : Option Bool). when (not (option_map_or (λ b. b) o false)) Offline) up in
      record {
        before = l;
        after = m;
        before_is = l_is;
        after_is = m_is;
        does = inr (
          ap (λ o. first_refusal (o ∷ offline_cpu n s ∷ [])) there ∙ ap (λ o. first_refusal (o ∷ [])) clear,
          (
            record {
              before = x;
              after = y;
              here = get_mid pre xs x;
              change = does;
              rest = ap (λ (cpus : List (CpuView R)). record { cpus = cpus; online = online }) (sym (set_mid pre xs x y));
            },
            refl,
            refl,
          ),
        );
      }

  abbrev From : ℕ → List Bool → List (CpuView R) → List (CpuView R) → Type 0
  From n ups cpus cpus' = (fires : List FireOn) × FoldsTo D (sys cpus) fires (sys cpus')
      × (map (λ f. f.cpu) fires ≡ numbers_from n ups)

  one_more : (up : Bool) (ups : List Bool) (pre xs ys : List (CpuView R)) (x y : CpuView R)
      → slice_get online (length pre) ≡ Some up → At (length pre) up x y →
      From (length pre + 1) ups ((pre ++ y ∷ []) ++ xs) ((pre ++ y ∷ []) ++ ys)
      → From (length pre) (up ∷ ups) (pre ++ x ∷ xs) (pre ++ y ∷ ys)
  one_more up ups pre xs ys x y on at rest = by up at.answer on at.fires
    where
      then : FoldsTo D (sys (pre ++ y ∷ xs)) rest.0 (sys (pre ++ y ∷ ys))
      then = subst (λ cpus. FoldsTo D (sys cpus) rest.0 (sys (pre ++ y ∷ ys))) (append_assoc pre (y ∷ []) xs)
          (subst (λ cpus. FoldsTo D (sys ((pre ++ y ∷ []) ++ xs)) rest.0 (sys cpus)) (append_assoc pre (y ∷ []) ys) rest.1)

      by : (b : Bool) (o : Option (Result Fired FireRefused)) → slice_get online (length pre) ≡ Some b →
          FiresIf handler firing (moment_asked b now) (running at.before.calls x) o (running at.after.calls y)
          → From (length pre) (b ∷ ups) (pre ++ x ∷ xs) (pre ++ y ∷ ys)
      by true (Some answer) on f = (
        record { cpu = length pre; answer = answer } ∷ rest.0,
        (sys (pre ++ y ∷ xs), fires_one pre xs x y at.before at.after answer on at.before_is at.after_is f, then),
        ap (λ ns. length pre ∷ ns) rest.2,
      )
      by true None on f = absurd f
      by false (Some answer) on f = absurd f
      by false None on f = (
        rest.0,
        subst (λ (z : CpuView R). FoldsTo D (sys (pre ++ z ∷ xs)) rest.0 (sys (pre ++ y ∷ ys)))
            (ap (λ (r : Running C R). r.cpu) f) then,
        rest.2,
      )

  from : (ups : List Bool) (pre xs ys : List (CpuView R)) → length xs ≡ length ups → length ys ≡ length ups →
      ((i : ℕ) → slice_get online (length pre + i) ≡ slice_get ups i) →
      ((i : ℕ) (up : Bool) (x y : CpuView R) → slice_get ups i ≡ Some up → slice_get xs i ≡ Some x → slice_get ys i ≡ Some y
      → At (length pre + i) up x y) →
      From (length pre) ups (pre ++ xs) (pre ++ ys)
  from [] pre [] [] a b on each = ([], refl, refl)
  from [] pre (x ∷ xs) ys a b on each = absurd (omega (arith, a))
  from [] pre [] (y ∷ ys) a b on each = absurd (omega (arith, b))
  from (up ∷ ups) pre [] ys a b on each = absurd (omega (arith, a))
  from (up ∷ ups) pre (x ∷ xs) [] a b on each = absurd (omega (arith, b))
  from (up ∷ ups) pre (x ∷ xs) (y ∷ ys) a b on each =
      let long : length (pre ++ y ∷ []) ≡ length pre + 1 = length-append pre (y ∷ []) in
      let nil : length pre + 0 ≡ length pre = omega arith in
      let next = λ (i : ℕ). (let e : length (pre ++ y ∷ []) + i ≡ length pre + suc i = omega (arith, long) in e) in
      one_more up ups pre xs ys x y (ap (slice_get online) (sym nil) ∙ on 0)
      (subst (λ n. At n up x y) nil (each 0 up x y refl refl refl))
      (subst (λ n. From n ups ((pre ++ y ∷ []) ++ xs) ((pre ++ y ∷ []) ++ ys)) long
      (from ups (pre ++ y ∷ []) xs ys (omega (arith, a)) (omega (arith, b))
      (λ i. ap (slice_get online) (next i) ∙ on (suc i))
      (λ i up' x' y' p q r. subst (λ n. At n up' x' y') (sym (next i)) (each (suc i) up' x' y' p q r))))

module _ {C R : Type 0} (handler : Calls C) (firing : Raise R) where
  pub are_fires : (now : ℕ) (a : SystemSide R C) (b : Advanced R C) → Agrees a.system
      → length a.leads.items ≡ length a.system.cpus.cpus →
      AllFire handler firing now a b → IsFires handler firing now a b
  are_fires now a b agrees many f =
      let long = agrees.long in let long' = f.long in let leads' = f.long_leads in let answers = f.long_answers in
      let made = from handler firing a.leads.items b.side.leads.items now a.system.cpus.online a.system.records
      a.system.last
      a.system.cpus.online [] a.system.cpus.cpus b.side.system.cpus.cpus (sym long) (f.long ∙ sym long)
      (λ i. ap (slice_get a.system.cpus.online) (let e : 0 + i ≡ i = omega arith in e))
      (λ i up x y p q r.
      let low = slice_get_within a.system.cpus.cpus i x q in
      let l = get_some a.leads.items i (omega (arith, low, many)) in
      let m = get_some b.side.leads.items i (omega (arith, low, many, leads')) in
      let o = get_some b.answers.items i (omega (arith, low, answers)) in
      let e : 0 + i ≡ i = omega arith in
      record {
        before = l.0;
        after = m.0;
        answer = o.0;
        before_is = ap (slice_get a.leads.items) e ∙ l.1;
        after_is = ap (slice_get b.side.leads.items) e ∙ m.1;
        fires = f.each i up x y l.0 m.0 o.0 p q r l.1 m.1 o.1;
      }) in
      record {
        fires = made.0;
        made = subst (λ (t : SystemView R). FoldsTo
            (FiresOne handler firing (firings_of now a b)) a.system made.0 t)
            (λ z. record {
              cpus = record { cpus = b.side.system.cpus.cpus; online = sym f.online z };
              records =
                  sym f.records z;
              last = sym f.last z;
            }) made.1;
        all = made.2;
      }
