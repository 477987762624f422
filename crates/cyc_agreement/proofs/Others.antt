-- What a removal leaves of the other cyclics, and of its own once it has answered.
use Rattle.std.proofs.Common.{◌≡◌, ◌≢◌, ◌==◌, ℕ, ◌+◌, inl, inr, true, find, Option, Some, None, Ok, Err, Result, List, [], ◌∷◌}
use Rattle.std.proofs.Common.{map, slice_set, refl, sym, ap, ◌∙◌, subst, arith}
use Rattle.std.specs.List.{slice_get}
use Rattle.std.specs.Option.{option_map, option_and_then}
use Rattle.std.proofs.lemmas.Option.{slice_get-map, slice_get-get_or}
use Rattle.cyc_types.specs.Series.{never}
use Rattle.cyc_types.specs.declared.Raise.{Ghosts as Raise}
use Rattle.cyc_types.specs.Firing.{FiringCall}
use Rattle.cyc_types.specs.declared.receipt.Receipt.{Receipt}
use Rattle.cyc_types.specs.declared.refusal.Refusal.{Refusal}
use Rattle.cyc_cpu.specs.Rows.{Cyclic}
use Rattle.cyc_cpu.specs.declared.hard.Totals.{Totals}
use Rattle.cyc_cpu.specs.declared.removing.Removal.{Removal}
use Rattle.cyc_cpu.specs.declared.removing.Removal.TheVariants.{Done, Kept}
use Rattle.cyc_cpu.specs.Cpu.{CpuView, IsCyclic, with_moment}
use Rattle.cyc_cpu.specs.Removal.{Leaves}
use Rattle.cyc_cpu.specs.Calls.{CpuChanges, BeginRemove, PollRemove, AskTotals}
use Rattle.cyc_places.specs.declared.record.Record.{Record}
use Rattle.cyc_places.specs.Places.{IsRecord, with_ended, ended_on, summed}
use Rattle.cyc_agreement.specs.Cpus.{CpusView, IsCpu, ChangesAt, Works}
use Rattle.cyc_agreement.proofs.CpuSpots.{get_set_other}
use Rattle.cyc_agreement.specs.System.{SystemView, removal_on, record_of, is_leaving_here}
use Rattle.cyc_agreement.proofs.Spots.{same_some, none_some}
use Rattle.cyc_agreement.proofs.Lists.{false_ne}
use Rattle.cyc_agreement.proofs.Recording.{found}
use Rattle.cyc_agreement.specs.Removing.{Begun, BeginsOn, BeginsEach, BeginsRemoval, AnswersRemoval, counts_of_receipt}
use Rattle.cyc_agreement.specs.Polling.{Polled, PollsOn, PollsEach, PollsRemoval, leaving_cpus}
use Rattle.cyc_agreement.specs.Counting.{Counted, asked, AsksTotals}
use Rattle.cyc_agreement.specs.declared.removing.SystemRemoval.{SystemRemoval}
use Rattle.cyc_agreement.specs.declared.removing.SystemRemoval.TheVariants as system
use Rattle.cyc_agreement.specs.declared.totals.SystemTotals.{SystemTotals}
use Rattle.cyc_agreement.specs.RemovalLaws.{cyclic_in, cyclic_on, IsUntouched}
use Rattle.cyc_agreement.proofs.One.{is_leaving_open}
use Rattle.cyc_agreement.proofs.Withdrawing.{at_each}
use Rattle.cyc_agreement.proofs.Folds.{find_set, find_remove, folds_known, folds_keep, Known}

-- ---- one CPU

-- another cyclic is as it was, and so is whether its removal is open
record Beside {R : Type 0} (q : ℕ) (x y : CpuView R) : Type 0 where
  pub cyclics : cyclic_in q y ≡ cyclic_in q x
  pub stay : x.removal ≡ Some q → y.removal ≡ Some q
  pub was : y.removal ≡ Some q → x.removal ≡ Some q

-- a cyclic at its position
pub at_position : (cs : List Cyclic) (k : ℕ) (c : Cyclic) → IsCyclic cs k c → slice_get cs k ≡ Some c
at_position cs k c (low, is) = slice_get-get_or cs k c low ∙ ap Some is

module _ {R : Type 0} (firing : Raise R) (id q : ℕ) (x y : CpuView R)
    (other : q ≢ id) where
  leaves_beside : (way : List FiringCall) (c : Cyclic) → Leaves firing id way c x y → cyclic_in q y ≡ cyclic_in q x
  leaves_beside way c l = ap (λ cs. find (λ (e : Cyclic). e.timer.id == q) cs) l.cyclics
      ∙ find_remove (λ (e : Cyclic). e.timer.id == q) x.cyclics l.position c (at_position x.cyclics l.position c l.here)
      (false_ne c.timer.id q (λ e. other (sym e ∙ l.named)))

  begun_beside : (found : Removal) → CpuChanges firing x (BeginRemove id (Ok found)) y → Beside q x y
  begun_beside (Done receipt) (still, (c, counts, is, polled, l)) = record {
    cyclics = leaves_beside _ c l;
    stay = λ e. absurd (none_some (sym still ∙ e));
    was = λ e. absurd (none_some (sym l.removal ∙ e));
  }
  begun_beside (Kept kept) (still, o) = record {
    cyclics = ap (λ cs. find (λ (e : Cyclic). e.timer.id == q) cs) o.cyclics
        ∙ find_set (λ (e : Cyclic). e.timer.id == q) x.cyclics o.position o.cyclic (with_moment never o.cyclic)
        (at_position x.cyclics o.position o.cyclic o.here)
        (false_ne o.cyclic.timer.id q (λ e. other (sym e ∙ o.named)))
        (false_ne o.cyclic.timer.id q (λ e. other (sym e ∙ o.named)));
    stay = λ e. absurd (none_some (sym still ∙ e));
    was = λ e. absurd (other (same_some (sym e ∙ o.removal)));
  }

polled_beside : {R : Type 0} (firing : Raise R) (id q : ℕ) (x y : CpuView R) → q ≢ id
    → (answer : Option Receipt) → x.removal ≡ Some id
    → CpuChanges firing x (PollRemove answer) y → Beside q x y
polled_beside firing id q x y other (Some receipt) open_here e = record {
  cyclics = leaves_beside firing receipt.id q x y (λ p. other (p ∙ same_some (sym e.was_open ∙ open_here))) _ e.cyclic
      e.leaves;
  stay = λ f. absurd (other (same_some (sym f ∙ open_here)));
  was = λ f. absurd (none_some (sym e.leaves.removal ∙ f));
}
polled_beside firing id q x y other None open_here (inl (none, same)) = absurd (none_some (sym none ∙ open_here))
polled_beside firing id q x y other None open_here (inr (own, is, w)) = record {
  cyclics = ap (λ cs. find (λ (e : Cyclic). e.timer.id == q) cs) w.cyclics;
  stay = λ e. w.kept.removal ∙ e;
  was = λ e. sym w.kept.removal ∙ e;
}

asked_beside : {R : Type 0} (firing : Raise R) (id q : ℕ) (x y : CpuView R) (t : Totals)
    → CpuChanges firing x (AskTotals id (Some t)) y → Beside q x y
asked_beside firing id q x y t d = record {
  cyclics = ap (λ cs. find (λ (e : Cyclic). e.timer.id == q) cs) d.0.cyclics;
  stay = λ e. d.0.kept.removal ∙ e;
  was = λ e. sym d.0.kept.removal ∙ e;
}

-- ---- all CPUs

-- the same over all of them
record AllBeside {R : Type 0} (q : ℕ) (v w : CpusView R) : Type 0 where
  pub cyclics : (n : ℕ) → cyclic_on n q w ≡ cyclic_on n q v
  pub stay : (n : ℕ) → removal_on n v ≡ Some q → removal_on n w ≡ Some q
  pub was : (n : ℕ) → removal_on n w ≡ Some q → removal_on n v ≡ Some q

beside_at : {R : Type 0} (q n : ℕ) (D : CpuView R → CpuView R → Type 0) (v w : CpusView R) (c : ChangesAt n D v w)
    → Beside q c.before c.after → AllBeside q v w
beside_at q n D v w c b = subst (λ u. AllBeside q v u) (sym c.rest) (record {
  cyclics = at_each v n c.before c.after c.here (λ x y. option_and_then (cyclic_in q) y ≡ option_and_then (cyclic_in q) x)
      b.cyclics (λ o. refl);
  stay = at_each v n c.before c.after c.here (λ x y. option_and_then (λ cpu. cpu.removal) x ≡ Some q
      → option_and_then (λ cpu. cpu.removal) y ≡ Some q) b.stay (λ o h. h);
  was = at_each v n c.before c.after c.here (λ x y. option_and_then (λ cpu. cpu.removal) y ≡ Some q
      → option_and_then (λ cpu. cpu.removal) x ≡ Some q) b.was (λ o h. h);
})

untouched : {R : Type 0} (q : ℕ) (s t : SystemView R) → AllBeside q s.cpus t.cpus → record_of q t ≡ record_of q s
    → IsUntouched q s t
untouched q s t b own = record { cyclics = b.cyclics; own = own; stays_open = b.stay; was_open = b.was }

pub untouched_none : {R : Type 0} (q : ℕ) (s : SystemView R) → IsUntouched q s s
untouched_none q s = record { cyclics = λ n. refl; own = refl; stays_open = λ n e. e; was_open = λ n e. e }

pub untouched_then : {R : Type 0} (q : ℕ) (s t u : SystemView R) → IsUntouched q s t → IsUntouched q t u → IsUntouched q s u
untouched_then q s t u a b = record {
  cyclics = λ n. b.cyclics n ∙ a.cyclics n;
  own = b.own ∙ a.own;
  stays_open = λ n e. b.stays_open n (a.stays_open n e);
  was_open = λ n e. a.was_open n (b.was_open n e);
}

pub untouched_same : {R : Type 0} (q : ℕ) (s t : SystemView R) → t ≡ s → IsUntouched q s t
untouched_same q s t e = subst (λ u. IsUntouched q s u) (sym e) (untouched_none q s)

-- counts were kept in another record
own_kept : {R : Type 0} (id q n : ℕ) (receipt : Receipt) (s t : SystemView R) (k : ℕ) (r : Record) → q ≢ id
    → IsRecord s.records k r → r.id ≡ id
    → t.records ≡ slice_set s.records k (with_ended n (summed (ended_on n r) (counts_of_receipt receipt)) r)
    → record_of q t ≡ record_of q s
own_kept id q n receipt s t k r other is named e = ap (λ rs. found q rs) e
    ∙ find_set (λ (x : Record). x.id == q) s.records k r (with_ended n (summed (ended_on n r) (counts_of_receipt receipt)) r) is
    (false_ne r.id q (λ f. other (sym f ∙ named))) (false_ne r.id q (λ f. other (sym f ∙ named)))

module _ {R : Type 0} (firing : Raise R) (id q : ℕ) (other : q ≢ id) where
  begins_untouched : (n : ℕ) (found : Removal) (s t : SystemView R) → BeginsOn firing id n found s t → IsUntouched q s t
  begins_untouched n (Done receipt) s t (does, k, r, is, named, records, last) =
      untouched q s t (beside_at q n _ s.cpus t.cpus does
      (begun_beside firing id q does.before does.after other (Done receipt) does.change))
      (own_kept id q n receipt s t k r other is named records)
  begins_untouched n (Kept kept) s t (does, records, last) =
      untouched q s t (beside_at q n _ s.cpus t.cpus does
      (begun_beside firing id q does.before does.after other (Kept kept) does.change)) (ap (λ rs. found q rs) records)

  pub each_begins_untouched : (way : List Begun) (s t : SystemView R) → BeginsEach firing id way s t → IsUntouched q s t
  each_begins_untouched = folds_keep (λ u (b : Begun) w. BeginsOn firing id b.cpu b.found u w) (IsUntouched q)
      (untouched_none q) (untouched_then q) (λ s b t. begins_untouched b.cpu b.found s t)

  polls_untouched : (n : ℕ) (answer : Option Receipt) (s t : SystemView R) → PollsOn firing id n answer s t
      → ((x : CpuView R) → IsCpu n x s.cpus → x.removal ≡ Some id) → IsUntouched q s t
  polls_untouched n (Some receipt) s t (does, k, r, is, named, records, last) open_here =
      untouched q s t (beside_at q n _ s.cpus t.cpus does
      (polled_beside firing id q does.before does.after other (Some receipt)
      (open_here does.before does.here) does.change))
      (own_kept id q n receipt s t k r other is named records)
  polls_untouched n None s t (does, records, last) open_here =
      untouched q s t (beside_at q n _ s.cpus t.cpus does
      (polled_beside firing id q does.before does.after other None (open_here does.before does.here) does.change))
      (ap (λ rs. found q rs) records)

  pub answers_untouched : (receipt : Receipt) (s t : SystemView R) → AnswersRemoval id receipt s t → IsUntouched q s t
  answers_untouched receipt s t a = untouched q s t
      (subst (λ v. AllBeside q s.cpus v) (sym a.cpus) (record { cyclics = λ n. refl; stay = λ n e. e; was = λ n e. e }))
      (ap (λ rs. found q rs) a.records ∙ find_remove (λ (x : Record). x.id == q) s.records a.position a.own a.here
      (false_ne a.own.id q (λ f. other (sym f ∙ a.named))))

-- only the CPU that is polled changes
pub polls_elsewhere : {R : Type 0} (firing : Raise R) (id : ℕ) (p : Polled)
    (s t : SystemView R) → PollsOn firing id p.cpu p.answer s t
    → (m : ℕ) → m ≢ p.cpu → slice_get t.cpus.cpus m ≡ slice_get s.cpus.cpus m
polls_elsewhere firing id p s t on m ne = by p.answer on
  where
    by : (answer : Option Receipt) → PollsOn firing id p.cpu answer s t → slice_get t.cpus.cpus m ≡ slice_get s.cpus.cpus m
    by (Some receipt) d = ap (λ u. slice_get u.cpus m) d.0.rest ∙ get_set_other s.cpus.cpus p.cpu m d.0.after ne
    by None d = ap (λ u. slice_get u.cpus m) d.0.rest ∙ get_set_other s.cpus.cpus p.cpu m d.0.after ne

pub each_polls_untouched : {R : Type 0} (firing : Raise R) (id q : ℕ) (other : q ≢ id)
    (way : List Polled) (s t : SystemView R)
    → map (λ p. p.cpu) way ≡ leaving_cpus id s.cpus → PollsEach firing id way s t → IsUntouched q s t
each_polls_untouched firing id q other way s t cpus f =
    folds_keep (λ u (p : Polled) w. Known (λ (a : Polled) x y. PollsOn firing id a.cpu a.answer x y) (λ a. a.cpu)
    (λ x. is_leaving_here id x ≡ true) (polls_elsewhere firing id) p u w)
    (IsUntouched q) (untouched_none q) (untouched_then q)
    (λ u p w k. polls_untouched firing id q other p.cpu p.answer u w k.0 (λ x is. is_leaving_open id x (k.1 x is))) way s t
    (folds_known (λ (a : Polled) x y. PollsOn firing id a.cpu a.answer x y) (λ a. a.cpu) (λ x. is_leaving_here id x ≡ true)
    (polls_elsewhere firing id) 0
    (map (is_leaving_here id) s.cpus.cpus) way s t cpus
    (λ j x is at. same_some (sym (ap (λ o. option_map (is_leaving_here id) o) (at' j x at))
    ∙ sym (slice_get-map (is_leaving_here id) s.cpus.cpus j) ∙ is)) f)
  where
    at' : (j : ℕ) (x : CpuView _) → IsCpu (0 + j) x s.cpus → slice_get s.cpus.cpus j ≡ Some x
    at' j x at = subst (λ n. IsCpu n x s.cpus) (let z : 0 + j ≡ j = omega arith in z) at

-- ---- the calls

-- a question changes no cyclic
asks_untouched : {R : Type 0} (firing : Raise R) (id q : ℕ) (way : List Counted)
    (v w : CpusView R)
    → Works firing (map (asked id) way) v w → AllBeside q v w
asks_untouched firing id q [] v w f =
    subst (λ u. AllBeside q v u) f (record { cyclics = λ n. refl; stay = λ n e. e; was = λ n e. e })
asks_untouched firing id q (a ∷ way) v w (u, does, rest) =
    let b = beside_at q a.cpu _ v u does (asked_beside firing id q does.before does.after a.totals does.change) in
    let d = asks_untouched firing id q way u w rest in record {
      cyclics = λ n. d.cyclics n ∙ b.cyclics n;
      stay = λ n e. d.stay n (b.stay n e);
      was = λ n e. b.was n (d.was n e);
    }

module _ {R : Type 0} (firing : Raise R) (id q : ℕ) where
  pub begins_others : (answer : Result SystemRemoval Refusal) (s t : SystemView R) → q ≢ id
      → BeginsRemoval firing id answer s t → IsUntouched q s t
  begins_others answer s t other (inl (e, why, is, same)) = untouched_same q s t same
  begins_others (Ok (system.Done receipt)) s t other (inr (clear, (way, u, cpus, each, answers))) =
      untouched_then q s u t (each_begins_untouched firing id q other way s u each)
      (answers_untouched firing id q other receipt u t answers)
  begins_others (Ok (system.Kept kept)) s t other (inr (clear, (way, cpus, each, some, sum))) =
      each_begins_untouched firing id q other way s t each
  begins_others (Err e) s t other (inr (clear, wrong)) = absurd wrong

  pub polls_others : (answer : Result (Option Receipt) Refusal) (s t : SystemView R) → q ≢ id
      → PollsRemoval firing id answer s t → IsUntouched q s t
  polls_others answer s t other (inl (e, why, is, same)) = untouched_same q s t same
  polls_others (Ok (Some receipt)) s t other (inr (clear, (way, u, cpus, each, answers))) =
      untouched_then q s u t (each_polls_untouched firing id q other way s u cpus each)
      (answers_untouched firing id q other receipt u t answers)
  polls_others (Ok None) s t other (inr (clear, (way, cpus, each, some))) =
      each_polls_untouched firing id q other way s t cpus each
  polls_others (Err e) s t other (inr (clear, wrong)) = absurd wrong

  pub asks_others : (answer : Option SystemTotals) (s t : SystemView R) → AsksTotals firing id answer s t → IsUntouched q s t
  asks_others (Some totals) s t (way, r, is, cpus, works, sums) =
      untouched q s t (asks_untouched firing id q way s.cpus t.cpus works.0) (ap (λ rs. found q rs) works.1)
  asks_others None s t (none, same) = untouched_same q s t same
