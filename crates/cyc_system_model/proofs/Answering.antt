-- A removal that begins on all CPUs that have the cyclic, and what it comes to.
use Rattle.std.proofs.Common.{◌≡◌, ◌≢◌, ℕ, zero, suc, ◌+◌, ◌<◌, ◌==◌, eq-eqb, ne_eqb, Bool, true, false, cond, not, List, [], ◌∷◌}
use Rattle.std.proofs.Common.{length, map, filter, sum_by, get_or, None, refl, ap, sym, ◌∙◌, subst, arith}
use Rattle.std.specs.Prelude.{remove as without}
use Rattle.std.specs.List.{list_any}
use Rattle.cyc_types.specs.declared.firing.Sent.{Sent}
use Rattle.cyc_types.specs.declared.receipt.Receipt.{Receipt}
use Rattle.cyc_core.specs.Tables.{Tables}
use Rattle.cyc_cpu.specs.Cpu.{CpuView}
use Rattle.cyc_places.specs.declared.record.Record.{Record}
use Rattle.cyc_places.specs.Places.{IsRecord, HasRisingIds, ended_on}
use Rattle.cyc_system.specs.Cpus.{numbers_from as online_from}
use Rattle.cyc_system.specs.System.{SystemView, ids_of, is_leaving_here}
use Rattle.cyc_system.proofs.Spots.{same_some, none_some}
use Rattle.cyc_system.proofs.Recording.{tail_rises}
use Rattle.cyc_system.specs.Removing.{cpus_with as cpus_with_in, AnswersRemoval}
use Rattle.cyc_system.specs.Polling.{leaving_cpus}
use Rattle.cyc_model.specs.Cpu.{Cpu, is_of, has_cyclic, cyclic_with_id}
use Rattle.cyc_model.specs.Questions.{outstanding_here}
use Rattle.cyc_model.specs.State.{State, Ended, Placed, absent, cpu_of, kept_if, cpus_from, numbers, cpus_having}
use Rattle.cyc_model.specs.Places.{forgotten}
use Rattle.cyc_model.specs.Remove.{ended_expired, ended_lost}
use Rattle.cyc_model.specs.Softint.{is_open}
use Rattle.cyc_model.specs.Report.{counts_of}
use Rattle.cyc_model.proofs.Removing.{none_with}
use Rattle.cyc_system_model.specs.ShownCpu.{shown_cpu}
use Rattle.cyc_system_model.specs.Shown.{shown_list, shown_cpus, shown_record, shown_counts, ShowsSystem}
use Rattle.cyc_system_model.specs.Removal.{told_by_receipt}
use Rattle.cyc_system_model.proofs.Cpus.{cpu_at, long_shown}
use Rattle.cyc_system_model.proofs.Asking.{any_id}
use Rattle.cyc_system_model.proofs.Sums.{tally_none, sum_ended, none_in_all}
use Rattle.cyc_system_model.proofs.Half.{Half, stood}
use Rattle.cyc_system_model.proofs.Ending.{none_out, own_at}

-- ---- the CPUs of which a test holds

online_kept : (b : Bool) (k : ℕ) (tests : List Bool) → online_from k (b ∷ tests) ≡ kept_if b k (online_from (k + 1) tests)
online_kept true k tests = refl
online_kept false k tests = refl

same_numbers : (test : Cpu → Bool) (own : CpuView Tables → Bool)
    → ((o : Bool) (v : CpuView Tables) → test (shown_cpu o v) ≡ own v)
    → (k : ℕ) (os : List Bool) (vs : List (CpuView Tables)) → length os ≡ length vs
    → cpus_from k test (shown_list os vs) ≡ online_from k (map own vs)
same_numbers test own same k [] [] long = refl
same_numbers test own same k [] (v ∷ vs) long = absurd (omega (arith, long))
same_numbers test own same k (o ∷ os) [] long = absurd (omega (arith, long))
same_numbers test own same k (o ∷ os) (v ∷ vs) long =
    (λ z. kept_if (same o v z) k (same_numbers test own same (k + 1) os vs (omega (arith, long)) z))
    ∙ sym (online_kept (own v) k (map own vs))

module _ (id : ℕ) (m : State) (v : SystemView Tables) (h : ShowsSystem m v)
    (long : length v.cpus.online ≡ length v.cpus.cpus) where
  pub same_with : cpus_having id m ≡ cpus_with_in id v.cpus
  same_with = ap (cpus_from 0 (has_cyclic id)) h.cpus
      ∙ same_numbers (has_cyclic id) (λ cpu. list_any (λ own. own == id) (ids_of cpu))
      (λ o x. any_id id x.cyclics) 0 v.cpus.online v.cpus.cpus long

  pub same_open : numbers (is_open id) m ≡ leaving_cpus id v.cpus
  same_open = ap (cpus_from 0 (is_open id)) h.cpus
      ∙ same_numbers (is_open id) (is_leaving_here id) (λ o x. refl) 0 v.cpus.online v.cpus.cpus long

-- ---- the record that goes

named_no : (id : ℕ) (p : Placed) (ps : List Placed) → p.id ≡ id
    → filter (λ (q : Placed). not (q.id == id)) (p ∷ ps) ≡ filter (λ (q : Placed). not (q.id == id)) ps
named_no id p ps e = ap (λ b. cond (not b) (p ∷ filter (λ (q : Placed). not (q.id == id)) ps)
    (filter (λ (q : Placed). not (q.id == id)) ps)) (eq-eqb p.id id e)

other_yes : (id : ℕ) (p : Placed) (ps : List Placed) → p.id ≢ id
    → filter (λ (q : Placed). not (q.id == id)) (p ∷ ps) ≡ p ∷ filter (λ (q : Placed). not (q.id == id)) ps
other_yes id p ps ne = ap (λ b. cond (not b) (p ∷ filter (λ (q : Placed). not (q.id == id)) ps)
    (filter (λ (q : Placed). not (q.id == id)) ps)) (ne_eqb p.id id ne)

none_goes : (id : ℕ) (rs : List Record) → ((j : ℕ) (q : Record) → IsRecord rs j q → q.id ≢ id)
    → filter (λ (p : Placed). not (p.id == id)) (map shown_record rs) ≡ map shown_record rs
none_goes id [] none = refl
none_goes id (x ∷ rs) none =
    other_yes id (shown_record x) (map shown_record rs) (none 0 x refl)
    ∙ ap (λ ps. shown_record x ∷ ps) (none_goes id rs (λ j q is. none (suc j) q is))

one_goes : (id k : ℕ) (r : Record) (rs : List Record) → HasRisingIds rs → IsRecord rs k r → r.id ≡ id
    → filter (λ (p : Placed). not (p.id == id)) (map shown_record rs) ≡ map shown_record (without rs k)
one_goes id k r [] rising is named = absurd (none_some is)
one_goes id zero r (x ∷ rs) rising is named =
    let own : x.id ≡ id = ap (λ (q : Record). q.id) (same_some is) ∙ named in
    named_no id (shown_record x) (map shown_record rs) own
    ∙ none_goes id rs (λ j q there e. let less = rising 0 (suc j) x q (omega arith) refl there in omega (arith, less, e, own))
one_goes id (suc k) r (x ∷ rs) rising is named =
    let less = rising 0 (suc k) x r (omega arith) refl is in
    other_yes id (shown_record x) (map shown_record rs) (λ e. omega (arith, less, e, named))
    ∙ ap (λ ps. shown_record x ∷ ps) (one_goes id k r rs (tail_rises x rs rising) is named)

-- ---- what its record has of ended stays

module _ (id k : ℕ) (r : Record) (m : State) (u : SystemView Tables) (h : ShowsSystem m u) (hu : Half u)
    (is : IsRecord u.records k r)
    (named : r.id ≡ id) where
  pub as_few : length m.cpus ≡ length u.cpus.cpus
  as_few = ap length h.cpus ∙ long_shown u.cpus.online u.cpus.cpus hu.long

  ended_here : (n : ℕ) → m.ended id n ≡ shown_counts (ended_on n r)
  ended_here n = ap (λ i. m.ended i n) (sym named) ∙ h.ended k r is n

  pub ended_sent : ended_expired id m ≡ sum_by (λ (s : Sent). s.sent) r.ended
  ended_sent =
      let full = hu.full k r is in
      let few = hu.few in let l = full.0 in let e = as_few in
      sum_ended (λ n. (m.ended id n).expired) (λ s. s.sent) 0 m.cpus r.ended (omega (arith, few, l, e))
      (λ i. ap (λ j. (m.ended id j).expired) (zero_plus i) ∙ ap (λ (x : Ended). x.expired) (ended_here i))
      (λ i past. ap (λ (x : Sent). x.sent) (full.1 i (omega (arith, past, e))))
    where
      zero_plus : (i : ℕ) → 0 + i ≡ i
      zero_plus i = omega arith

  pub ended_gone : ended_lost id m ≡ sum_by (λ (s : Sent). s.lost) r.ended
  ended_gone =
      let full = hu.full k r is in
      let few = hu.few in let l = full.0 in let e = as_few in
      sum_ended (λ n. (m.ended id n).lost) (λ s. s.lost) 0 m.cpus r.ended (omega (arith, few, l, e))
      (λ i. ap (λ j. (m.ended id j).lost) (zero_plus i) ∙ ap (λ (x : Ended). x.lost) (ended_here i))
      (λ i past. ap (λ (x : Sent). x.lost) (full.1 i (omega (arith, past, e))))
    where
      zero_plus : (i : ℕ) → 0 + i ≡ i
      zero_plus i = omega arith

-- ---- where it answers

module _ (id : ℕ) (receipt : Receipt) (m : State) (u t : SystemView Tables) (h : ShowsSystem m u) (hu : Half u)
    (a : AnswersRemoval id receipt u t) where
  pub nowhere : cpus_having id m ≡ []
  nowhere = same_with id m u h hu.long ∙ a.nowhere

  pub forgotten_shows : ShowsSystem (forgotten id m) t
  forgotten_shows = record {
    cpus = h.cpus ∙ ap shown_cpus (sym a.cpus);
    placed = ap (filter (λ (p : Placed). not (p.id == id))) h.placed
        ∙ one_goes id a.position a.own u.records hu.rising a.here a.named
        ∙ ap (map shown_record) (sym a.records);
    ended = λ k r is n. let (j, there, rest) = stood u.records a.position k r (subst (λ rs. IsRecord rs k r) a.records is) in
        h.ended j r there n;
    fresh = h.fresh;
    last = h.last ∙ sym a.last;
  }

  pub all_expired : ended_expired id m ≡ receipt.sent
  all_expired = ended_sent id a.position a.own m u h hu a.here a.named ∙ sym a.counts.sent

  pub all_lost : ended_lost id m ≡ receipt.lost
  all_lost = ended_gone id a.position a.own m u h hu a.here a.named ∙ sym a.counts.lost

  none_there : (n : ℕ) → cyclic_with_id id (cpu_of n m) ≡ None
  none_there n = none_with id m nowhere n

  none_outstanding : (n : ℕ) → n < length m.cpus → outstanding_here id (cpu_of n m) ≡ 0
  none_outstanding n low =
      let e = as_few id a.position a.own m u h hu a.here a.named in
      let same : cpu_of n m ≡ cpu_at u.cpus n = ap (λ cs. get_or cs n absent) h.cpus in
      ap (outstanding_here id) same ∙ none_out id (cpu_at u.cpus n) (own_at u n hu (omega (arith, low, e)))
      (ap (cyclic_with_id id) (sym same) ∙ none_there n)

  -- all that is left to be told of it
  pub counts_left : counts_of id (forgotten id m) ≡ told_by_receipt receipt (m.called id)
  counts_left =
      let e = all_expired in
      let x = none_in_all (λ c. sum_by (λ y. cond (is_of id y) y.timer.expired 0) c.cyclics) m.cpus
      (λ n low. tally_none (λ y. y.timer.expired) id (cpu_of n m).cyclics (none_there n)) in
      let l = all_lost in
      let y = none_in_all (λ c. sum_by (λ y. cond (is_of id y) y.lost 0) c.cyclics) m.cpus
      (λ n low. tally_none (λ y. y.lost) id (cpu_of n m).cyclics (none_there n)) in
      let p = none_in_all (outstanding_here id) m.cpus none_outstanding in
      let expired : (counts_of id (forgotten id m)).expired ≡ receipt.sent = omega (arith, e, x) in
      let lost : (counts_of id (forgotten id m)).lost ≡ receipt.lost = omega (arith, l, y) in
      (λ z. record { expired = expired z; called = m.called id; lost = lost z; pending = p z })
