-- A cyclic that came to each online CPU is on these and no other, and no other cyclic came or went.
use Rattle.std.proofs.Common.{◌≡◌, ℕ, ◌+◌, Bool, true, false, List, [], ◌∷◌, ◌++◌, refl, sym, ap, ◌∙◌, subst, arith}
use Rattle.std.specs.Prelude.{◌||◌, ◌==◌}
use Rattle.std.specs.List.{FoldsTo}
use Rattle.cyc_types.specs.declared.Raise.{Ghosts as Raise}
use Rattle.cyc_types.specs.declared.level.Level.{Level}
use Rattle.cyc_types.specs.declared.moment.When.{When}
use Rattle.cyc_places.specs.declared.record.Placement.TheVariants.{On, Everywhere}
use Rattle.cyc_places.specs.Places.{new_record}
use Rattle.cyc_agreement.specs.Cpus.{CpusView, online_cpus, Works, DoesAt}
use Rattle.cyc_agreement.specs.System.{SystemView, ids_on, has, is_online}
use Rattle.cyc_agreement.specs.Agreement.{Agrees}
use Rattle.cyc_agreement.specs.Adding.{entering}
use Rattle.cyc_agreement.proofs.Lists.{among, true_eq, eq_true, false_true}
use Rattle.cyc_agreement.proofs.Who.{SameBut, SameWho, but_same, but_then, same_none, has_same}
use Rattle.cyc_agreement.proofs.Given.{online_same, agrees_given}
use Rattle.cyc_agreement.proofs.Entering.{entered, not_given}
use Rattle.cyc_agreement.specs.Omni.{component_first, entering_each}
use Rattle.cyc_agreement.proofs.Numbers.{among_online}

-- a run of two parts goes through the state between them
pub between : {P A : Type 0} (R : P → A → P → Type 0) (p : P) (xs ys : List A) (r : P) → FoldsTo R p (xs ++ ys) r
    → (q : P) × FoldsTo R p xs q × FoldsTo R q ys r
between R p [] ys r h = (p, refl, h)
between R p (x ∷ xs) ys r (j, one, rest) = let (q, a, b) = between R j xs ys r rest in (q, (j, one, a), b)

-- the cyclic came to these CPUs alone
pub record Arrives {R : Type 0} (id : ℕ) (ns : List ℕ) (v w : CpusView R) : Type 0 where
  pub but : SameBut id v w
  pub there : (n : ℕ) → among n ns ≡ true → has n id w ≡ true
  pub elsewhere : (n : ℕ) → among n ns ≡ false → ids_on n w ≡ ids_on n v

module _ {R : Type 0} (firing : Raise R) (id : ℕ) (level : Level) (when : When)
    (skew now : ℕ) where
  pub arrives : (ns : List ℕ) (v w : CpusView R) → Works firing (entering_each ns id level when skew now) v w
      → Arrives id ns v w
  arrives [] v w e = subst (λ u. Arrives id [] v u) e (record {
    but = but_same id v v (same_none v);
    there = λ n h. absurd (false_true h);
    elsewhere = λ n h. refl;
  })
  arrives (m ∷ ns) v w works =
      let (u, first, rest) = between (DoesAt firing) v (entering m id level when.interval (component_first m when skew now))
      (entering_each ns id level when skew now) w works in
      let (but, here, beside) = entered firing m id level when.interval (component_first m when skew now) v u first in
      let r = arrives ns u w rest in record {
        but = but_then id v u w but r.but;
        there = λ n h. by_there n u here r (among n ns) refl h;
        elsewhere = λ n h. (let (apart, out) = neither (m == n) (among n ns) h in
            r.elsewhere n out ∙ beside n (λ e. false_true (sym apart ∙ true_eq m n (sym e))));
      }
    where
      neither : (a b : Bool) → (a || b) ≡ false → (a ≡ false) × (b ≡ false)
      neither false b h = (refl, h)
      neither true b h = absurd (false_true (sym h))

      by_there : (n : ℕ) (u : CpusView R) → has m id u ≡ true → Arrives id ns u w → (b : Bool) → among n ns ≡ b
          → ((m == n) || among n ns) ≡ true → has n id w ≡ true
      by_there n u here r true e h = r.there n e
      by_there n u here r false e h = let same = eq_true m n (only (m == n) (among n ns) e h) in
          ap (λ ids. among id ids) (r.elsewhere n e) ∙ ap (λ k. has k id u) (sym same) ∙ here
        where
          only : (a b : Bool) → b ≡ false → (a || b) ≡ true → a ≡ true
          only true b p q = refl
          only false b p q = absurd (false_true (sym p ∙ q))

  -- the system after an omnipresent cyclic came
  pub agrees_omni : (s : SystemView R) (u w : CpusView R) → Agrees s → id ≡ s.last + 1 → SameWho s.cpus u
      → Works firing (entering_each (online_cpus s.cpus) id level when skew now) u w
      → Agrees (record { cpus = w; records = s.records ++ new_record id level (Everywhere when skew) ∷ []; last = id })
  agrees_omni s u w a next same works = agrees_given s id level (Everywhere when skew) w next a but (record {
    stands = λ n h. (tt, by_stands n (is_online n s.cpus) refl h);
    home = λ n bound e. absurd (no_home n bound e);
    everywhere = λ n e on. r.there n (among_online s.cpus n ∙ (sym (online_same s.cpus w n but.online) ∙ on));
  })
    where
      r : Arrives id (online_cpus s.cpus) u w
      r = arrives (online_cpus s.cpus) u w works

      but : SameBut id s.cpus w
      but = but_then id s.cpus u w (but_same id s.cpus u same) r.but

      no_home : (n : ℕ) (bound : Bool) → Everywhere when skew ≡ On n bound → ⊥
      no_home n bound e = cc

      by_stands : (n : ℕ) (b : Bool) → is_online n s.cpus ≡ b → has n id w ≡ true → is_online n w ≡ true
      by_stands n true on h = online_same s.cpus w n but.online ∙ on
      by_stands n false off h = absurd (not_given s id n a (omega (arith, next))
          (sym (has_same s.cpus u same n id) ∙ sym (ap (λ ids. among id ids) (r.elsewhere n (among_online s.cpus n ∙ off))) ∙ h))
