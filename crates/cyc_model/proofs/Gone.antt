-- What is told of a removed cyclic stays what it was.
use Rattle.std.proofs.Common.{◌≡◌, ℕ, ◌+◌, true, List, [], ◌∷◌, length, sum_by, Option, Some, None, refl, ap, sym, ◌∙◌, subst}
use Rattle.std.proofs.Common.{arith}
use Rattle.cyc_types.specs.declared.refusal.Refusal.{Refusal}
use Rattle.cyc_script.specs.declared.step.Step.{Step}
use Rattle.cyc_script.specs.declared.step.Step.TheVariants.{Add, Omni, Bind, Unbind, Reprogram, Remove, Advance, Softint, Juggle}
use Rattle.cyc_script.specs.declared.step.Step.TheVariants.{Offline, Online, Suspend, Resume}
use Rattle.cyc_model.specs.Acts.{calls_of}
use Rattle.cyc_model.specs.Cpu.{Cpu}
use Rattle.cyc_model.specs.Firing.{fire_here}
use Rattle.cyc_model.specs.Questions.{plain, outstanding_here}
use Rattle.cyc_model.specs.State.{State, Outcome, Ended, OnAll, cpu_of, on_number, each, cpus_from, cpus_online}
use Rattle.cyc_model.specs.Places.{given}
use Rattle.cyc_model.specs.Refusals.{unless}
use Rattle.cyc_model.specs.Add.{enter}
use Rattle.cyc_model.specs.Omni.{component, everywhere}
use Rattle.cyc_model.specs.Remove.{all_cpus, ended_expired, ended_lost}
use Rattle.cyc_script.specs.declared.step.Softint.{Softint as SoftintStep}
use Rattle.cyc_model.specs.Softint.{softint_refusal, interrupt, leaving_ids}
use Rattle.cyc_model.specs.Report.{expired_here, lost_here, counts_of}
use Rattle.cyc_model.specs.Script.{refusal_of, does, word, steps_from, text_in}
use Rattle.cyc_model.specs.Numbers.{RemovedCountsStay}
use Rattle.cyc_model.proofs.Whole.{none_outstanding}
use Rattle.cyc_model.proofs.Totals.{expired_of, lost_of}
use Rattle.cyc_model.proofs.Base.{Base, IsGone, gone_away}
use Rattle.cyc_model.proofs.Spread.{Good}
use Rattle.cyc_model.proofs.Calm.{Well, well_interrupt}
use Rattle.cyc_model.proofs.Ending.{nothing_here, none_in_all}
use Rattle.cyc_model.proofs.Removing.{same_counts}
use Rattle.cyc_model.proofs.Answering.{counts_removed, counts_polls}
use Rattle.cyc_model.proofs.Printing.{unknown_gone}
use Rattle.cyc_model.proofs.Reaching.{safe_does, well_does, well_word, run_good}

same_numbers : (k : ℕ) (cs ds : List Cpu) → length cs ≡ length ds → cpus_from k (λ c. true) cs ≡ cpus_from k (λ c. true) ds
same_numbers k [] [] long = refl
same_numbers k [] (d ∷ ds) long = absurd (omega (arith, long))
same_numbers k (c ∷ cs) [] long = absurd (omega (arith, long))
same_numbers k (c ∷ cs) (d ∷ ds) long = ap (λ ns. k ∷ ns) (same_numbers (k + 1) cs ds (omega (arith, long)))

-- no CPU has it, so its ended stays have all of it
module _ (id : ℕ) (s : State) (b : Base None s) (gone : IsGone id s) where
  none_expired : sum_by (expired_here id) s.cpus ≡ 0
  none_expired = none_in_all (expired_here id) s.cpus
      (λ m within. nothing_here expired_of id (cpu_of m s) (b.whole m) (gone_away None s b id gone.1 m))

  none_lost : sum_by (lost_here id) s.cpus ≡ 0
  none_lost = none_in_all (lost_here id) s.cpus
      (λ m within. nothing_here lost_of id (cpu_of m s) (b.whole m) (gone_away None s b id gone.1 m))

  none_pending : sum_by (outstanding_here id) s.cpus ≡ 0
  none_pending = none_in_all (outstanding_here id) s.cpus
      (λ m within. none_outstanding id (cpu_of m s) (b.whole m) (gone_away None s b id gone.1 m))

-- where no stay ends, what is told of it is the same
pub counts_gone : (id : ℕ) (o : Outcome) (s : State) → Good s → Well o s → IsGone id s → o.state.ended ≡ s.ended
    → counts_of id o.state ≡ counts_of id s
counts_gone id o s g w gone same =
    let t = o.state in let after = w.0.gone id gone in
    let long = w.0.tells.as_many in
    let es = none_expired id s g.base gone in let et = none_expired id t w.1.base after in
    let ls = none_lost id s g.base gone in let lt = none_lost id t w.1.base after in
    let ps = none_pending id s g.base gone in let pt = none_pending id t w.1.base after in
    let told = w.0.tells.called id in let quiet = w.0.quiet id gone in
    let e = ap (λ (f : (i n : ℕ) → Ended). sum_by (λ n. (f id n).expired) (all_cpus t)) same
    ∙ ap (λ ns. sum_by (λ n. (s.ended id n).expired) ns) (same_numbers 0 t.cpus s.cpus long) in
    let l = ap (λ (f : (i n : ℕ) → Ended). sum_by (λ n. (f id n).lost) (all_cpus t)) same
    ∙ ap (λ ns. sum_by (λ n. (s.ended id n).lost) ns) (same_numbers 0 t.cpus s.cpus long) in
    same_counts id t s (
      sums (ended_expired id t) (ended_expired id s) (sum_by (expired_here id) t.cpus) (sum_by (expired_here id) s.cpus) e et es,
      calls (t.called id) (s.called id) (calls_of id o.acts) told quiet,
      sums (ended_lost id t) (ended_lost id s) (sum_by (lost_here id) t.cpus) (sum_by (lost_here id) s.cpus) l lt ls,
      both (sum_by (outstanding_here id) t.cpus) (sum_by (outstanding_here id) s.cpus) pt ps,
    )
  where
    sums : (a b c d : ℕ) → a ≡ b → c ≡ 0 → d ≡ 0 → a + c ≡ b + d
    sums a b c d h i k = omega (arith, h, i, k)

    calls : (a b c : ℕ) → a ≡ b + c → c ≡ 0 → a ≡ b
    calls a b c h i = omega (arith, h, i)

    both : (a b : ℕ) → a ≡ 0 → b ≡ 0 → a ≡ b
    both a b h i = omega (arith, h, i)

ended_each : {A : Type 0} → (f : A → State → Outcome) → ((x : A) (s : State) → (f x s).state.ended ≡ s.ended)
    → (xs : List A) (s : State)
    → (each f xs s).state.ended ≡ s.ended
ended_each f same [] s = refl
ended_each f same (x ∷ xs) s = ended_each f same xs (f x s).state ∙ same x s

-- ---- the words

pub gone_interrupt : (step : ℕ) (i : SoftintStep) (id : ℕ) (s : State) → Good s → IsGone id s → softint_refusal i s ≡ None
    → counts_of id (interrupt step i s).state ≡ counts_of id s
gone_interrupt step i id s g gone why = counts_gone id (interrupt step i s) s g (well_interrupt step i s g why) gone refl

module _ (texts : List (List ℕ)) (indexes : ℕ → ℕ) (step id : ℕ) (s : State) (g : Good s) (gone : IsGone id s) where
  alike : (x : Step) → refusal_of plain x s ≡ None → (does plain texts indexes step x s).state.ended ≡ s.ended
      → counts_of id (does plain texts indexes step x s).state ≡ counts_of id s
  alike x why same = counts_gone id (does plain texts indexes step x s) s g (well_does texts indexes step x s g why) gone same

  pub gone_does : (x : Step) → refusal_of plain x s ≡ None
      → counts_of id (does plain texts indexes step x s).state ≡ counts_of id s
  gone_does (Add a) why = alike (Add a) why refl
  gone_does (Omni a) why =
      let t = given a.name (OnAll (everywhere a)) s in
      alike (Omni a) why
      (ended_each (λ n u. enter indexes n (component (s.last_id + 1) n (everywhere a) u.clock) u) (λ n u. refl) (cpus_online t) t)
  gone_does (Bind b) why = (safe_does texts indexes step (Bind b) s tt g why).counts id
  gone_does (Unbind name) why = (safe_does texts indexes step (Unbind name) s tt g why).counts id
  gone_does (Reprogram r) why = alike (Reprogram r) why refl
  gone_does (Remove name) why = counts_removed name s g why step (text_in texts name) id
  gone_does (Advance now) why =
      alike (Advance now) why (ended_each (λ n. on_number n (fire_here n now)) (λ n u. refl) (cpus_online s) (record s {
        clock
            = now;
      }))
  gone_does (Softint i) why =
      let o = interrupt step i s in
      counts_polls texts step (leaving_ids o.state) o.state (well_interrupt step i s g why).1 id
      ∙ gone_interrupt step i id s g gone why
  gone_does (Juggle n) why = (safe_does texts indexes step (Juggle n) s tt g why).counts id
  gone_does (Offline n) why = (safe_does texts indexes step (Offline n) s tt g why).counts id
  gone_does (Online n) why = (safe_does texts indexes step (Online n) s tt g why).counts id
  gone_does Suspend why = refl
  gone_does Resume why = refl

  pub gone_word : (x : Step) → counts_of id (word plain texts indexes step x s).state ≡ counts_of id s
  gone_word x = by (refusal_of plain x s) refl
    where
      by : (o : Option Refusal) → refusal_of plain x s ≡ o
          → counts_of id (unless o step x (does plain texts indexes step x) s).state ≡ counts_of id s
      by None is = gone_does x is
      by (Some why) is = refl

pub gone_steps : (texts : List (List ℕ)) (indexes : ℕ → ℕ) (step id : ℕ) (xs : List Step) (s : State) → Good s → IsGone id s
    → counts_of id (steps_from plain texts indexes step xs s).state ≡ counts_of id s
gone_steps texts indexes step id [] s g gone = refl
gone_steps texts indexes step id (x ∷ xs) s g gone =
    let w = well_word texts indexes step x s g in
    gone_steps texts indexes (step + 1) id xs (word plain texts indexes step x s).state w.1 (w.0.gone id gone)
    ∙ gone_word texts indexes step id s g gone x

pub removed_counts_stay : RemovedCountsStay
removed_counts_stay indexes further cpus ceiling texts others before after step id s some is given unknown =
    gone_steps others further step id after s (subst (λ r. Good r) (sym is) (run_good indexes cpus ceiling texts before some))
    (given, unknown_gone id s unknown)
