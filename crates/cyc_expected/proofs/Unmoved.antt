-- No move touches an omnipresent cyclic.
use Rattle.std.proofs.Common.{◌≡◌, ◌≢◌, ℕ, Bool, true, false, List, [], ◌∷◌, refl, ap, sym, ◌∙◌, Option, Some, None}
use Rattle.std.proofs.Common.{◌==◌, inl, inr}
use Rattle.std.specs.Prelude.{not}
use Rattle.std.proofs.lemmas.Bool.{not-true}
use Rattle.cyc_script.specs.declared.step.Bind.{Bind as BindStep}
use Rattle.cyc_model.specs.Cpu.{CyclicState, cyclic_with_id}
use Rattle.cyc_model.specs.Moving.{take_here}
use Rattle.cyc_model.specs.Questions.{plain}
use Rattle.cyc_model.specs.State.{State, On, cpu_of, on_number}
use Rattle.cyc_model.specs.Places.{id_of, is_omni, home_of, is_bound, put_at}
use Rattle.cyc_model.specs.Refusals.{is_no_cpu, cpu_is_offline}
use Rattle.cyc_model.specs.Bind.{
  cyclic_is_absent,
  cyclic_is_omni,
  bring,
  move,
  move_refusals,
  move_unless_there,
  unless_there,
  bind,
}
use Rattle.cyc_model.specs.Bind.{bind_refusal, unbind, unbind_refusal}
use Rattle.cyc_model.specs.Juggle.{
  Turn,
  IsBound,
  IsPending,
  IsRefused,
  Moves,
  turn,
  take_turn,
  juggle_each,
  juggled,
  single_ids_of,
}
use Rattle.cyc_model.proofs.Rising.{found, found_id, found_others}
use Rattle.cyc_model.proofs.Placing.{placement_put_other}
use Rattle.cyc_model.proofs.Leaves.{taken_cpu}
use Rattle.cyc_model.proofs.Numbers.{Has}
use Rattle.cyc_model.proofs.Refusing.{none_first, not_omnipresent}
use Rattle.cyc_model.proofs.Juggling.{filtered, ids_in}
use Rattle.cyc_expected.proofs.Seen.{on_same, removal_of, removal_alike, same_leaving, keeps_enter}
use Rattle.cyc_expected.proofs.Running.{found_in, found_enter, Left, left_same, left_then}

module _ (id : ℕ) where
  left_put : (j n : ℕ) (bound : Bool) (s : State) → id ≢ j → Left id s (put_at j (On n bound) s)
  left_put j n bound s ne = record { found_ = refl; shut = λ no. no; placement = placement_put_other j id (On n bound) s ne }

  left_bring : (indexes : ℕ → ℕ) (target : ℕ) (o : Option CyclicState) (s : State) → ((x : CyclicState) → o ≡ Some x
      → x.timer.id ≢ id)
      → Left id s (bring indexes target o s).state
  left_bring indexes target None s ne = left_same id s
  left_bring indexes target (Some x) s ne = record {
    found_ = found_enter id indexes target x s (ne x refl);
    shut = λ no. same_leaving id s (bring indexes target (Some x) s).state
        (keeps_enter removal_of removal_alike indexes target x s) ∙ no;
    placement = refl;
  }

  left_move : (indexes : ℕ → ℕ) (j source target : ℕ) (s : State) → id ≢ j → Left id s (move indexes j source target s).state
  left_move indexes j source target s ne =
      let c = cpu_of source s in
      let t = (on_number source (take_here source j) s).state in
      let u = put_at j (On target (is_bound j t)) t in
      let taken = taken_cpu source j c in
      left_then id s t (move indexes j source target s).state (record {
        found_ = on_same (found_in id) source (take_here source j) s
            (ap (found id) taken.0 ∙ found_others id j c.cyclics ne);
        shut = λ no. same_leaving id s t (on_same removal_of source (take_here source j) s taken.1) ∙ no;
        placement = refl;
      })
      (left_then id t u (move indexes j source target s).state (left_put j target (is_bound j t) t ne)
      (left_bring indexes target (cyclic_with_id j c) u (λ x is e. ne (sym e ∙ found_id j x c.cyclics is))))

  left_turn : (indexes : ℕ → ℕ) (source j : ℕ) (t : Turn) (s : State) → id ≢ j → Left id s (take_turn indexes source j t s).state
  left_turn indexes source j IsBound s ne = left_same id s
  left_turn indexes source j IsPending s ne = left_same id s
  left_turn indexes source j IsRefused s ne = left_same id s
  left_turn indexes source j (Moves target) s ne = left_move indexes j source target s ne

  left_turns : (indexes : ℕ → ℕ) (source : ℕ) (ids : List ℕ) (s : State) → ((j : ℕ) → Has j ids → id ≢ j)
      → Left id s (juggle_each plain indexes source ids s).outcome.state
  left_turns indexes source [] s ne = left_same id s
  left_turns indexes source (j ∷ ids) s ne =
      let t = (take_turn indexes source j (turn plain source j s) s).state in
      left_then id s t (juggle_each plain indexes source ids t).outcome.state
      (left_turn indexes source j (turn plain source j s) s (ne j (inl refl)))
      (left_turns indexes source ids t (λ i has. ne i (inr has)))

  -- a cyclic that is on one CPU is another one
  other_single : (j : ℕ) (s : State) → is_omni id s ≡ true → is_omni j s ≡ false → id ≢ j
  other_single j s all single e =
      let no : true ≡ false = sym all ∙ (ap (λ i. is_omni i s) e ∙ single) in absurd (cc)

  pub left_juggled : (indexes : ℕ → ℕ) (n : ℕ) (s : State) → is_omni id s ≡ true
      → Left id s (juggled plain indexes n s).outcome.state
  left_juggled indexes n s all = left_turns indexes n (single_ids_of n s) s
      (λ j has. other_single j s all (not-true (is_omni j s)
      (filtered (λ i. not (is_omni i s)) j (ids_in (cpu_of n s).cyclics) has).1))

  left_unless : (there : Bool) (indexes : ℕ → ℕ) (j n : ℕ) (s : State) → id ≢ j
      → Left id s (move_unless_there there indexes j n s).state
  left_unless true indexes j n s ne = left_same id s
  left_unless false indexes j n s ne = left_move indexes j (home_of j s) n s ne

  pub left_bind : (indexes : ℕ → ℕ) (step : ℕ) (b : BindStep) (s : State) → bind_refusal plain b s ≡ None
      → is_omni id s ≡ true → Left id s (bind indexes step b s).state
  left_bind indexes step b s why all =
      let j = id_of b.name s in
      let n = b.cpu in
      let rest = unless_there (home_of j s == n) (move_refusals plain j (home_of j s) n s) in
      let one = none_first (cyclic_is_absent j s) (cyclic_is_omni j s ∷ is_no_cpu n s ∷ cpu_is_offline n s ∷ rest) why in
      let two = none_first (cyclic_is_omni j s) (is_no_cpu n s ∷ cpu_is_offline n s ∷ rest) one.1 in
      let ne = other_single j s all (not_omnipresent j s two.0) in
      let t = (move_unless_there (home_of j s == n) indexes j n s).state in
      left_then id s t (bind indexes step b s).state (left_unless (home_of j s == n) indexes j n s ne) (left_put j n true t ne)

  pub left_unbind : (step name : ℕ) (s : State) → unbind_refusal name s ≡ None → is_omni id s ≡ true
      → Left id s (unbind step name s).state
  left_unbind step name s why all =
      let j = id_of name s in
      let one = none_first (cyclic_is_absent j s) (cyclic_is_omni j s ∷ []) why in
      left_put j (home_of j s) false s
      (other_single j s all (not_omnipresent j s (none_first (cyclic_is_omni j s) [] one.1).0))
