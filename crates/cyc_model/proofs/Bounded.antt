-- How many ids and expirations the steps of a run can have brought.
use Rattle.std.proofs.Common.{◌≡◌, ℕ, zero, suc, ◌+◌, ◌*◌, ◌<◌, ◌≤◌, ◌==◌, true, false, cond, List, [], ◌∷◌, length, sum_by}
use Rattle.std.proofs.Common.{Option, Some, None, refl, ap, ◌∙◌, arith}
use Rattle.std.specs.Prelude.{slice_index_or, replicate}
use Rattle.std.proofs.lemmas.List.Sums.{sum_by-cons}
use Rattle.cyc_types.specs.declared.refusal.Refusal.{Refusal}
use Rattle.cyc_text.specs.declared.lines.Counts.{Counts}
use Rattle.cyc_script.specs.declared.step.Step.{Step}
use Rattle.cyc_script.specs.declared.step.Step.TheVariants.{Add, Omni, Bind, Unbind, Reprogram, Remove, Advance, Softint, Juggle}
use Rattle.cyc_script.specs.declared.step.Step.TheVariants.{Offline, Online, Suspend, Resume}
use Rattle.cyc_model.specs.Cpu.{CyclicState, Cpu, begun_cpu}
use Rattle.cyc_model.specs.Serving.{serve_here}
use Rattle.cyc_model.specs.Questions.{plain}
use Rattle.cyc_model.specs.State.{State, On, OnAll, Everywhere, absent, cpu_of, each, cpus_from, cpus_online}
use Rattle.cyc_model.specs.Places.{id_of, destination_of, given}
use Rattle.cyc_model.specs.Refusals.{unless, magnitude}
use Rattle.cyc_model.specs.Add.{added, enter}
use Rattle.cyc_model.specs.Omni.{component, everywhere}
use Rattle.cyc_model.specs.Reprogram.{cpu_meant}
use Rattle.cyc_model.specs.Softint.{interrupt, leaving_ids}
use Rattle.cyc_model.specs.Report.{expired_here, counts_of}
use Rattle.cyc_model.specs.Script.{refusal_of, does, word, steps_from, start, text_in, run_on}
use Rattle.cyc_model.specs.Bounds.{CountsStaySmall, ScriptsStayBelow}
use Rattle.cyc_model.proofs.Rising.{tally_found, of_found}
use Rattle.cyc_model.proofs.Serves.{same_serve}
use Rattle.cyc_model.proofs.Refusing.{fires_before}
use Rattle.cyc_model.proofs.Numbers.{numbers_pass, numbers_few}
use Rattle.cyc_model.proofs.Totals.{expired_in, expired_of}
use Rattle.cyc_model.proofs.Spread.{Good}
use Rattle.cyc_model.proofs.Calm.{good_clock, well_interrupt}
use Rattle.cyc_model.proofs.Answering.{counts_removed, counts_polls}
use Rattle.cyc_model.proofs.Reaching.{safe_does, well_word, length_new, start_good, run_good, none_ended, sum_of_none}
use Rattle.cyc_model.proofs.Still.{Still, still_bind, still_fires, still_enters, still_juggle, still_offline, still_online}
use Rattle.cyc_model.proofs.Still.{still_remove, still_softint}
use Rattle.cyc_model.proofs.Growing.{grows_on, grows_enter, grows_reprogram, grows_fires}

-- a step brings at most one id, and so many expirations of each
pub record Grows (s t : State) : Type 0 where
  pub last : t.last_id ≤ s.last_id + 1
  pub expired : (id : ℕ) → expired_in id t ≤ expired_in id s + 16000000032

-- where no count changes
grows_kept : (s t : State) → Still s t → ((id : ℕ) → counts_of id t ≡ counts_of id s) → Grows s t
grows_kept s t still same = record {
  last = let h = still.last in omega (arith, h);
  expired = λ id. let h = ap (λ (c : Counts). c.expired) (same id) in omega (arith, h);
}

-- ---- cyclics that come

grows_enters : (indexes : ℕ → ℕ) (id j : ℕ) (e : Everywhere) (ns : List ℕ) (s : State)
    → expired_in id (each (λ n u. enter indexes n (component j n e u.clock) u) ns s).state ≤ expired_in id s + 0
grows_enters indexes id j e [] s = omega arith
grows_enters indexes id j e (n ∷ ns) s =
    let one = grows_enter id n (indexes s.admissions) (component j n e s.clock) s refl in
    let rest = grows_enters indexes id j e ns (enter indexes n (component j n e s.clock) s).state in
    omega (arith, one, rest)

-- ---- the words

module _ (texts : List (List ℕ)) (f : ℕ → ℕ) (step : ℕ) (s : State) (g : Good s) (few : length s.cpus ≤ 16) where
  grows_does : (x : Step) → refusal_of plain x s ≡ None → Grows s (does plain texts f step x s).state
  grows_does (Add a) why = record {
    last = omega arith;
    expired = λ id.
        let n = destination_of None s in
        let h = grows_enter id n (f s.admissions) (added a s) (given a.name (On n false) s) refl in
        let before : expired_in id (given a.name (On n false) s) ≡ expired_in id s = refl in
        omega (arith, h, before);
  }
  grows_does (Omni a) why =
      let t = given a.name (OnAll (everywhere a)) s in
      record {
        last = let h = (still_enters f (s.last_id + 1) (everywhere a) (cpus_online t) t).last in omega (arith, h);
        expired = λ id.
            let h = grows_enters f id (s.last_id + 1) (everywhere a) (cpus_online t) t in
            let before : expired_in id (given a.name (OnAll (everywhere a)) s) ≡ expired_in id s = refl in
            omega (arith, h, before);
      }
  grows_does (Bind b) why =
      grows_kept s (does plain texts f step (Bind b) s).state (still_bind f step b s) (safe_does texts f step
      (Bind b) s tt g why).counts
  grows_does (Unbind name) why = record { last = omega arith; expired = λ id. omega arith }
  grows_does (Reprogram r) why = record {
    last = omega arith;
    expired = λ id. let h = grows_reprogram id (cpu_meant r.cpu (id_of r.name s) s) (id_of r.name s)
        (magnitude r.moment) s in omega (arith, h);
  }
  grows_does (Remove name) why =
      grows_kept s (does plain texts f step (Remove name) s).state (still_remove step (text_in texts name) name s)
      (counts_removed name s g why step (text_in texts name))
  grows_does (Advance now) why = record {
    last = let h = (still_fires now (cpus_online s) (record s { clock = now })).last in omega (arith, h);
    expired = λ id.
        let h = (grows_fires now (cpus_online s) (record s { clock = now }) (good_clock now s g) (fires_before now s why)
        (λ m has. (numbers_pass (λ (c : Cpu). c.online) m s has).0)).1 id in
        let n = numbers_few (λ (c : Cpu). c.online) 0 s.cpus in
        let before : expired_in id (record s { clock = now }) ≡ expired_in id s = refl in
        omega (arith, h, n, few, before);
  }
  grows_does (Softint i) why =
      let o = interrupt step i s in
      record {
        last = let h = (still_softint texts step i s).last in omega (arith, h);
        expired = λ id.
            let a = ap (λ (c : Counts). c.expired) (counts_polls texts step (leaving_ids o.state) o.state
            (well_interrupt step i s g why).1 id) in
            let same = ap (λ cs. sum_by (λ (x : CyclicState). cond (x.timer.id == id) x.timer.expired 0) cs)
            (same_serve i.cpu i.budget i.level (cpu_of i.cpu s)).cyclics in
            let b = grows_on id i.cpu 0 (serve_here i.cpu i.level i.budget) s (omega (arith, same)) in
            omega (arith, a, b);
      }
  grows_does (Juggle n) why =
      grows_kept s (does plain texts f step (Juggle n) s).state (still_juggle f step n s) (safe_does texts f step
      (Juggle n) s tt g why).counts
  grows_does (Offline n) why =
      grows_kept s (does plain texts f step (Offline n) s).state (still_offline f step n s) (safe_does texts f step
      (Offline n) s tt g why).counts
  grows_does (Online n) why =
      grows_kept s (does plain texts f step (Online n) s).state (still_online f step n s) (safe_does texts f step
      (Online n) s tt g why).counts
  grows_does Suspend why = record { last = omega arith; expired = λ id. omega arith }
  grows_does Resume why = record { last = omega arith; expired = λ id. omega arith }

  pub grows_word : (x : Step) → Grows s (word plain texts f step x s).state
  grows_word x = by (refusal_of plain x s) refl
    where
      by : (o : Option Refusal) → refusal_of plain x s ≡ o → Grows s (unless o step x (does plain texts f step x) s).state
      by None is = grows_does x is
      by (Some why) is = record { last = omega arith; expired = λ id. omega arith }

-- so many steps
abbrev pub FewMore : ℕ → State → State → Type 0
FewMore steps s t = (t.last_id ≤ s.last_id + steps) × ((id : ℕ) → expired_in id t ≤ expired_in id s + steps * 16000000032)

pub few_steps : (texts : List (List ℕ)) (f : ℕ → ℕ) (step : ℕ) (xs : List Step) (s : State) → Good s → length s.cpus ≤ 16
    → FewMore (length xs) s (steps_from plain texts f step xs s).state
few_steps texts f step [] s g few = (omega arith, λ id. omega arith)
few_steps texts f step (x ∷ xs) s g few =
    let w = well_word texts f step x s g in let t = (word plain texts f step x s).state in
    let long = w.0.tells.as_many in
    let one = grows_word texts f step s g few x in
    let rest = few_steps texts f (step + 1) xs t w.1 (omega (arith, long, few)) in (
      let a = one.last in let b = rest.0 in omega (arith, a, b),
      λ id. let a = one.expired id in let b = rest.1 id in omega (arith, a, b),
    )

-- ---- the whole

pub none_at_first : (cpus ceiling names id : ℕ) → expired_in id (start cpus ceiling names) ≡ 0
none_at_first cpus ceiling names id =
    let e = none_ended (cpus_from 0 (λ c. true) (replicate cpus (begun_cpu ceiling))) in
    let a = sum_of_none (expired_here id) ceiling cpus refl in omega (arith, e, a)

pub sum_at : (id n : ℕ) (cs : List Cpu) → expired_here id (slice_index_or cs n absent) ≤ sum_by (expired_here id) cs
sum_at id n [] = omega arith
sum_at id zero (c ∷ cs) = let a = sum_by-cons (expired_here id) c cs in omega (arith, a)
sum_at id (suc n) (c ∷ cs) = let a = sum_by-cons (expired_here id) c cs in let r = sum_at id n cs in omega (arith, a, r)

pub run_few : (f : ℕ → ℕ) (cpus ceiling : ℕ) (texts : List (List ℕ)) (steps : List Step) → 0 < cpus → cpus ≤ 16
    → ((run_on f cpus ceiling texts steps).state.last_id ≤ length steps)
    × ((id : ℕ) → expired_in id (run_on f cpus ceiling texts steps).state ≤ length steps * 16000000032)
run_few f cpus ceiling texts steps some few =
    let s = start cpus ceiling (length texts) in
    let long = length_new cpus ceiling in
    let h = few_steps texts f 1 steps s (start_good cpus ceiling (length texts) some) (omega (arith, long, few)) in (
      let a = h.0 in omega (arith, a),
      λ id. let a = h.1 id in let z = none_at_first cpus ceiling (length texts) id in omega (arith, a, z),
    )

pub counts_stay_small : CountsStaySmall
counts_stay_small f cpus ceiling texts steps some few =
    let s = (run_on f cpus ceiling texts steps).state in
    let h = run_few f cpus ceiling texts steps some few in
    let g = run_good f cpus ceiling texts steps some in
    record {
      ids = h.0;
      expired = h.1;
      called = λ id. let a = h.1 id in let b = g.base.books id in omega (arith, a, b);
      stays = λ id n x is.
          let own = tally_found expired_of 0 id (cpu_of n s).cyclics (g.base.whole n).rising ∙ ap (of_found expired_of) is in
          let all = sum_at id n s.cpus in let a = h.1 id in omega (arith, own, all, a);
    }

pub scripts_stay_below : ScriptsStayBelow
scripts_stay_below steps few = omega (arith, few)
