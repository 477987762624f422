-- How many expirations the steps of a run have brought.
use Rattle.std.proofs.Common.{eq-eqb, ◌≡◌, ℕ, zero, suc, ◌*◌, ◌≤◌, Bool, List, [], ◌∷◌, length, map, sum_by, refl, ap}
use Rattle.std.proofs.Common.{sym, ◌∙◌, subst, cond}
use Rattle.std.proofs.Common.{arith}
use Rattle.std.specs.Prelude.{slice_index_or}
use Rattle.std.proofs.lemmas.List.Sums.{sum_by-cons}
use Rattle.cyc_model.specs.Cpu.{CyclicState, Cpu}
use Rattle.cyc_model.specs.Questions.{plain}
use Rattle.cyc_model.specs.State.{State, absent, cpu_of}
use Rattle.cyc_model.specs.Laws.{AtMost, AllAtMost}
use Rattle.cyc_model.specs.Script.{start}
use Rattle.cyc_model.proofs.Given.{given_from_start}
use Rattle.cyc_model.proofs.Telling.{tells_steps}
use Rattle.cyc_model.proofs.Rising.{Rising}
use Rattle.cyc_model.proofs.Totals.{expired_in}
use Rattle.cyc_model.proofs.Reaching.{length_new}
use Rattle.cyc_model.proofs.Growing.{expired_by}
use Rattle.cyc_model.proofs.Bounded.{run_few, sum_at}
use Rattle.cyc_replay.specs.Machine.{IsReached}
use Rattle.cyc_replay.proofs.Named.{reached_good}
use Rattle.cyc_replay.proofs.Unrefused.{IsFew, EachTimer}

pub few_reached : (step : ℕ) (s : State) → IsReached step s → step ≤ 65536
    → (id : ℕ) → expired_in id s ≤ 65535 * 16000000032
few_reached step s r low =
    let few = run_few r.indexes r.cpus r.ceiling r.texts r.steps r.some r.few in
    let short = r.short in λ id. let a = few.1 id in let b = ap (expired_in id) r.is in omega (arith, a, b, short, low)

-- ---- the timers of a CPU

few_cyclics : (low last most : ℕ) (cs : List CyclicState) → Rising low cs → AtMost last cs
    → ((id : ℕ) → sum_by (expired_by id) cs ≤ most)
    → EachTimer (IsFew last most) (map (λ c. c.timer) cs)
few_cyclics low last most [] rise at all = tt
few_cyclics low last most (x ∷ xs) rise at all =
    let one = sum_by-cons (expired_by x.timer.id) x xs in
    let own : expired_by x.timer.id x ≡ x.timer.expired = ap (λ (b : Bool). cond b x.timer.expired 0)
    (eq-eqb x.timer.id x.timer.id refl) in
    let bound = all x.timer.id in let above = rise.0 in (
      record { given = omega (arith, above); id = at.0; expired = omega (arith, one, own, bound) },
      few_cyclics x.timer.id last most xs rise.1 at.1 (λ id. let a = sum_by-cons (expired_by id) x xs in let b = all id in
          omega (arith, a, b)),
    )

at_most : (last n : ℕ) (cs : List Cpu) → AllAtMost last cs → AtMost last (slice_index_or cs n absent).cyclics
at_most last n [] all = tt
at_most last zero (c ∷ cs) all = all.0
at_most last (suc n) (c ∷ cs) all = at_most last n cs all.1

pub few_timers : (step n : ℕ) (s : State) → IsReached step s → step ≤ 65536
    → EachTimer (IsFew s.last_id (65535 * 16000000032)) (map (λ c. c.timer) (cpu_of n s).cyclics)
few_timers step n s r low =
    let few = few_reached step s r low in
    let g = reached_good step s r in
    let all = (subst (λ t. AllAtMost t.last_id t.cpus) (sym r.is)
    (given_from_start plain r.texts r.indexes r.cpus r.ceiling (length r.texts) 1 r.steps []).cyclics) in
    few_cyclics 0 s.last_id (65535 * 16000000032) (cpu_of n s).cyclics (g.base.whole n).rising (at_most s.last_id n s.cpus all)
    (λ id. let a = sum_at id n s.cpus in let b = few id in omega (arith, a, b))

pub many_reached : (step : ℕ) (s : State) → IsReached step s → length s.cpus ≤ 16
many_reached step s r = let few = r.few in
    subst (λ k. k ≤ 16) (sym (ap (λ (t : State). length t.cpus) r.is
    ∙ (tells_steps plain r.texts r.indexes 1 r.steps (start r.cpus r.ceiling (length r.texts))).tells.as_many
    ∙ length_new r.cpus r.ceiling)) few
