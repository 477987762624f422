-- The fires of an advance, CPU by CPU.
use Rattle.std.proofs.Common.{◌≡◌, ℕ, suc, ◌+◌, ◌<◌, inl, inr, ⊎_elim, Bool, true, false, not, List, [], ◌∷◌, ◌++◌, length, take}
use Rattle.std.proofs.Common.{Some, None, refl, ap, sym, ◌∙◌, subst, arith}
use Rattle.std.specs.Prelude.{Ok}
use Rattle.std.proofs.Math.Seq.{take-suc, take-length}
use Rattle.std.proofs.lemmas.List.{length-take-le, get_or-set_other, length-set, append_assoc, append-nil}
use Rattle.std.proofs.lemmas.List.Sums.{sum_by-append}
use Rattle.cyc_types.specs.declared.Calls.{Ghosts as Calls}
use Rattle.cyc_types.specs.declared.refusal.Refusal.TheVariants.{Offline}
use Rattle.cyc_core.specs.Tables.{Tables}
use Rattle.cyc_cpu.specs.Soft.{raise_tables}
use Rattle.cyc_cpu.specs.Calls.{no_interrupts}
use Rattle.cyc_cpu.specs.Fired.{Fired}
use Rattle.cyc_system.specs.System.{SystemView, RunningSystem, is_online}
use Rattle.cyc_system.specs.Refusals as why
use Rattle.cyc_system.specs.Calls.{Does, FireOne}
use Rattle.cyc_text.specs.Lines.{fired as fired_line}
use Rattle.cyc_model.specs.Acts.{Act, At, Call, calls_of, all_losses}
use Rattle.cyc_model.specs.Cpu.{Cpu}
use Rattle.cyc_model.specs.Firing.{due_here, fire_here}
use Rattle.cyc_model.specs.State.{State, Outcome, absent, cpu_of, kept_if, cpus_from, cpus_online, before, followed_by, on_number}
use Rattle.cyc_model.specs.State.{each}
use Rattle.cyc_types.specs.Reasons.{when}
use Rattle.cyc_model.specs.Refusals.{is_no_cpu, cpu_is_offline}
use Rattle.cyc_model.specs.Advance.{due_on}
use Rattle.cyc_model.proofs.Events.{calls_append}
use Rattle.cyc_model.proofs.Numbers.{Has}
use Rattle.cyc_model.proofs.Refusing.{none_first, is_cpu, is_online as online_there}
use Rattle.cyc_system_model.proofs.Free.{HasNoAdmit, none_admitted, no_more, fire_none}
use Rattle.cyc_system_model.specs.Shown.{ShowsSystem, IsSystem}
use Rattle.cyc_system_model.specs.SystemWords.{ComesTo}
use Rattle.cyc_system_model.specs.SystemAdvancing.{at_clock, online_below, fire_each, fired_and_lost, HaveFired, HasFired}
use Rattle.cyc_system_model.specs.SystemAdvancing.{IsAdvanced}
use Rattle.cyc_system_model.proofs.Asking.{same_offline}
use Rattle.cyc_system_model.proofs.SystemRunning.{fire_accepted}

-- ---- the numbers of the online CPUs

kept_append : (b : Bool) (k : ℕ) (xs ys : List ℕ) → kept_if b k (xs ++ ys) ≡ kept_if b k xs ++ ys
kept_append true k xs ys = refl
kept_append false k xs ys = refl

numbers_append : (k : ℕ) (test : Cpu → Bool) (xs : List Cpu) (c : Cpu)
    → cpus_from k test (xs ++ c ∷ []) ≡ cpus_from k test xs ++ kept_if (test c) (k + length xs) []
numbers_append k test [] c = ap (λ j. kept_if (test c) j []) (same k)
  where
    same : (j : ℕ) → j ≡ j + 0
    same j = omega arith
numbers_append k test (x ∷ xs) c =
    ap (kept_if (test x) k) (numbers_append (k + 1) test xs c)
    ∙ kept_append (test x) k (cpus_from (k + 1) test xs) (kept_if (test c) (k + 1 + length xs) [])
    ∙ ap (λ j. kept_if (test x) k (cpus_from (k + 1) test xs) ++ kept_if (test c) j []) (next k (length xs))
  where
    next : (a b : ℕ) → a + 1 + b ≡ a + suc b
    next a b = omega arith

kept_has : (b : Bool) (j k : ℕ) (ns : List ℕ) → Has j (kept_if b k ns) → (low : ℕ) → k < low → (Has j ns → j < low) → j < low
kept_has true j k ns has low own rest = ⊎_elim (λ e. omega (arith, e, own)) rest has
kept_has false j k ns has low own rest = rest has

numbers_low : (j k : ℕ) (test : Cpu → Bool) (cs : List Cpu) → Has j (cpus_from k test cs) → j < k + length cs
numbers_low j k test [] has = absurd has
numbers_low j k test (c ∷ cs) has = kept_has (test c) j k (cpus_from (k + 1) test cs) has (k + suc (length cs)) (omega arith)
    (λ h. let r = numbers_low j (k + 1) test cs h in omega (arith, r))

not_below : (n : ℕ) (m : State) → n < length m.cpus → Has n (online_below n m) → ⊥
not_below n m low has =
    let r = numbers_low n 0 (λ c. c.online) (take n m.cpus) has in
    let l = length-take-le n m.cpus (omega (arith, low)) in
    omega (arith, r, l)

below_next : (n : ℕ) (m : State) → n < length m.cpus
    → online_below (n + 1) m ≡ online_below n m ++ kept_if (cpu_of n m).online n []
below_next n m low =
    ap (λ j. cpus_from 0 (λ (c : Cpu). c.online) (take j m.cpus)) (one_more n)
    ∙ ap (cpus_from 0 (λ (c : Cpu). c.online)) (take-suc m.cpus n absent low)
    ∙ numbers_append 0 (λ c. c.online) (take n m.cpus) (cpu_of n m)
    ∙ ap (λ j. online_below n m ++ kept_if (cpu_of n m).online j []) (zero_plus (length (take n m.cpus))
    ∙ length-take-le n m.cpus (omega (arith, low)))
  where
    one_more : (j : ℕ) → j + 1 ≡ suc j
    one_more j = omega arith

    zero_plus : (j : ℕ) → 0 + j ≡ j
    zero_plus j = omega arith

-- ---- outcomes in order

pub each_append : {A : Type 0} → (f : A → State → Outcome) → (xs ys : List A) → (s : State)
    → each f (xs ++ ys) s ≡ followed_by (each f xs s) (each f ys)
each_append f [] ys s = refl
each_append f (x ∷ xs) ys s =
    let o = f x s in
    let p = each f xs o.state in
    let q = each f ys p.state in
    ap (before o) (each_append f xs ys o.state)
    ∙ (λ z. record {
      line = sym (append_assoc o.line p.line q.line) z;
      acts = sym (append_assoc o.acts p.acts q.acts) z;
      state =
          q.state;
    })

losses_append : (xs ys : List Act) → all_losses (xs ++ ys) ≡ all_losses xs + all_losses ys
losses_append [] ys = zero_plus (all_losses ys)
  where
    zero_plus : (n : ℕ) → n ≡ 0 + n
    zero_plus n = omega arith
losses_append (At n soft e ∷ xs) ys = let h = losses_append xs ys in omega (arith, h)
losses_append (Call id ∷ xs) ys = losses_append xs ys

-- ---- fires at one moment

abbrev fires_at : ℕ → List ℕ → State → Outcome
fires_at now ns s = each (λ n. on_number n (fire_here n now)) ns s

fires_clock : (now : ℕ) (ns : List ℕ) (s : State) → (fires_at now ns s).state.clock ≡ s.clock
fires_clock now [] s = refl
fires_clock now (n ∷ ns) s = fires_clock now ns (on_number n (fire_here n now) s).state

fires_admissions : (now : ℕ) (ns : List ℕ) (s : State) → (fires_at now ns s).state.admissions ≡ s.admissions
fires_admissions now [] s = refl
fires_admissions now (n ∷ ns) s = fires_admissions now ns (on_number n (fire_here n now) s).state

fires_long : (now : ℕ) (ns : List ℕ) (s : State) → length (fires_at now ns s).state.cpus ≡ length s.cpus
fires_long now [] s = refl
fires_long now (n ∷ ns) s = fires_long now ns (on_number n (fire_here n now) s).state
    ∙ length-set s.cpus n (fire_here n now (cpu_of n s)).cpu

fires_none : (now : ℕ) (ns : List ℕ) (s : State) → HasNoAdmit (fires_at now ns s).acts
fires_none now [] s = tt
fires_none now (n ∷ ns) s = no_more (fire_here n now (cpu_of n s)).acts _ (fire_none n now (cpu_of n s))
    (fires_none now ns (on_number n (fire_here n now) s).state)

-- a CPU that didn't fire is as it was
fires_beside : (now k : ℕ) (ns : List ℕ) (s : State) → (Has k ns → ⊥) → cpu_of k (fires_at now ns s).state ≡ cpu_of k s
fires_beside now k [] s out = refl
fires_beside now k (n ∷ ns) s out =
    fires_beside now k ns (on_number n (fire_here n now) s).state (λ h. out (inr h))
    ∙ get_or-set_other s.cpus n k (fire_here n now (cpu_of n s)).cpu absent (λ e. out (inl e))

-- ---- one more CPU

abbrev after_one : List ℕ → ℕ → State → Outcome
after_one ns n m = followed_by (fire_each ns m) (fires_at m.clock (n ∷ []))

one_after : (ns : List ℕ) (n : ℕ) (m : State) → fire_each (ns ++ n ∷ []) m ≡ after_one ns n m
one_after ns n m = each_append (λ k. on_number k (fire_here k m.clock)) ns (n ∷ []) m

each_free : (ns : List ℕ) (m : State) (s : SystemView Tables) → ShowsSystem (fire_each ns m).state s
    → ComesTo [] m (fire_each ns m) s
each_free ns m s h = record {
  shows = h;
  admissions = (let r = fires_admissions m.clock ns m in omega (arith, r));
  free = λ n soft. none_admitted (fire_each ns m).acts n soft _ (fires_none m.clock ns m);
}

module _ {C : Type 0} (handler : Calls C) where
  pub has_begun : (now : ℕ) (m : State) (s : RunningSystem C Tables) → ShowsSystem m s.system
      → HasFired handler.count 0 (fired_and_lost 0 0) (at_clock now m) s s
  has_begun now m s h = record {
    comes = each_free [] (at_clock now m) s.system
        (record { cpus = h.cpus; placed = h.placed; ended = h.ended; fresh = h.fresh; last = h.last });
    expired = refl;
    lost = refl;
    called = λ id. no_more_calls (handler.count s.calls id);
  }
    where
      no_more_calls : (n : ℕ) → n ≡ n + 0
      no_more_calls n = omega arith

  pub has_fired : (n expired lost : ℕ) (fired : Fired) (m : State) (s t u : RunningSystem C Tables) → IsSystem t.system
      → HasFired handler.count n (fired_and_lost expired lost) m s t → Does handler raise_tables no_interrupts t
      (FireOne n m.clock (Ok fired)) u
      → HasFired handler.count (n + 1) (fired_and_lost (expired + fired.expired) (lost + fired.lost)) m s u
  has_fired n expired lost fired m s t u sys h did =
      let ns = online_below n m in
      let o = fire_each ns m in
      let clock : o.state.clock ≡ m.clock = fires_clock m.clock ns m in
      let f = fire_accepted handler o.state t u sys h.comes.shows n fired
      (subst (λ c. Does handler raise_tables no_interrupts t (FireOne n c (Ok fired)) u) (sym clock) did) in
      let is = none_first (is_no_cpu n o.state) (cpu_is_offline n o.state ∷ []) f.accepted in
      let there = is_cpu n o.state is.0 in
      let long = fires_long m.clock ns m in
      let low : n < length m.cpus = omega (arith, there, long) in
      let same : cpu_of n o.state ≡ cpu_of n m = fires_beside m.clock n ns m (not_below n m low) in
      let is_on : (cpu_of n m).online ≡ true = sym (ap (λ (c : Cpu). c.online) same)
      ∙ online_there n o.state (none_first (cpu_is_offline n o.state) [] is.1).0 in
      let next : online_below (n + 1) m ≡ ns ++ n ∷ [] = below_next n m low ∙ ap (λ b. ns ++ kept_if b n []) is_on in
      let whole : fire_each (online_below (n + 1) m) m ≡ after_one ns n m = ap (λ ks. fire_each ks m) next ∙ one_after ns n m in
      let own = (fire_here n m.clock (cpu_of n o.state)).acts in
      record {
        comes = each_free (online_below (n + 1) m) m u.system
            (subst (λ (x : Outcome). ShowsSystem x.state u.system) (sym whole)
            (subst (λ c. ShowsSystem (on_number n (fire_here n c) o.state).state u.system) clock f.comes.shows));
        expired =
            let a = h.expired in
            let b : fired.expired ≡ length (due_here m.clock (cpu_of n m)) = f.expired
            ∙ (λ z. length (due_here (clock z) (same z))) in
            let c = ap (λ ks. due_on m.clock ks m) next in
            let d = sum_by-append (λ k. length (due_here m.clock (cpu_of k m))) ns (n ∷ []) in
            omega (arith, a, b, c, d);
        lost =
            let a = h.lost in
            let b : fired.lost ≡ all_losses own = f.lost ∙ (λ z. all_losses (fire_here n (clock z) (cpu_of n o.state)).acts) in
            let c = ap (λ (x : Outcome). all_losses x.acts) whole in
            let d = losses_append o.acts (own ++ []) in
            let e = losses_append own [] in
            omega (arith, a, b, c, d, e);
        called = λ q.
            let a = h.called q in
            let b : handler.count u.calls q ≡ handler.count t.calls q + calls_of q own = f.called q
            ∙ (λ z. handler.count t.calls q + calls_of q (fire_here n (clock z) (cpu_of n o.state)).acts) in
            let c = ap (λ (x : Outcome). calls_of q x.acts) whole in
            let d = calls_append q o.acts (own ++ []) in
            let e = calls_append q own [] in
            omega (arith, a, b, c, d, e);
      }

  -- a CPU that is offline does not fire
  pub has_passed : (n expired lost : ℕ) (m : State) (s t : RunningSystem C Tables) → IsSystem t.system → n < length m.cpus
      → HasFired handler.count n (fired_and_lost expired lost) m s t → is_online n t.system.cpus ≡ false
      → HasFired handler.count (n + 1) (fired_and_lost expired lost) m s t
  has_passed n expired lost m s t sys low h off =
      let ns = online_below n m in
      let o = fire_each ns m in
      let same : cpu_of n o.state ≡ cpu_of n m = fires_beside m.clock n ns m (not_below n m low) in
      let asked : cpu_is_offline n o.state ≡ why.offline_cpu n t.system =
      same_offline o.state t.system h.comes.shows sys.agrees.long n in
      let is_off : (cpu_of n m).online ≡ false = sym (ap (λ (c : Cpu). c.online) same)
      ∙ offline_then (cpu_of n o.state).online (is_online n t.system.cpus) off asked in
      let next : online_below (n + 1) m ≡ ns = below_next n m low ∙ ap (λ b. ns ++ kept_if b n []) is_off ∙ append-nil ns in
      subst (λ ks. HaveFired handler.count ks (fired_and_lost expired lost) m s t) (sym next) h
    where
      offline_then : (a b : Bool) → b ≡ false → when (not a) Offline ≡ when (not b) Offline → a ≡ false
      offline_then a true off same = absurd (let isnt : true ≡ false = off in cc)
      offline_then true false off same = absurd (let isnt : None ≡ Some Offline = same in cc)
      offline_then false false off same = refl

  pub has_ended : (now n expired lost : ℕ) (m : State) (s t : RunningSystem C Tables) → n ≡ length m.cpus
      → HasFired handler.count n (fired_and_lost expired lost) (at_clock now m) s t
      → IsAdvanced handler.count now (fired_and_lost expired lost) m s t
  has_ended now n expired lost m s t end h =
      let all : online_below n m ≡ cpus_online m = ap (λ j. cpus_from 0 (λ (c : Cpu). c.online) (take j m.cpus)) end
      ∙ ap (cpus_from 0 (λ (c : Cpu). c.online)) (take-length m.cpus) in
      let done : HaveFired handler.count (cpus_online m) (fired_and_lost expired lost) (at_clock now m) s t =
      subst (λ ks. HaveFired handler.count ks (fired_and_lost expired lost) (at_clock now m) s t) all h in
      record {
        comes = λ step. record { shows = done.comes.shows; admissions = done.comes.admissions; free = done.comes.free };
        line = λ step. (λ z. fired_line step (sym done.expired z) (sym done.lost z));
        called = λ step id. done.called id;
      }
