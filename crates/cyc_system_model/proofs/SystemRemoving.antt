-- A removal that begins, or is polled, on one CPU.
use Rattle.std.proofs.Common.{◌≡◌, ℕ, ◌<◌, ◌⊎◌, inl, inr, eq-eqb, ne_eqb, Bool, true, false, cond, [], ◌++◌, length, find, get_or}
use Rattle.std.proofs.Common.{Option, Some, None, option_map, refl, ap, sym, ◌∙◌, subst, arith}
use Rattle.std.specs.Prelude.{slice_set, Ok}
use Rattle.std.proofs.lemmas.List.{get_or-set_other}
use Rattle.cyc_types.specs.Series.{never}
use Rattle.cyc_types.specs.declared.receipt.Receipt.{Receipt}
use Rattle.cyc_core.specs.Tables.{Tables}
use Rattle.cyc_cpu.specs.declared.removing.Removal.{Removal}
use Rattle.cyc_cpu.specs.declared.removing.Removal.TheVariants.{Done, Kept}
use Rattle.cyc_cpu.specs.Soft.{raise_tables}
use Rattle.cyc_cpu.specs.Calls.{BeginRemove, PollRemove}
use Rattle.cyc_places.specs.declared.record.Record.{Record}
use Rattle.cyc_places.specs.Places.{IsRecord, summed, ended_on, with_ended}
use Rattle.cyc_system.specs.System.{SystemView}
use Rattle.cyc_system.proofs.Spots.{same_some, none_some}
use Rattle.cyc_system.specs.Removing.{counts_of_receipt, BeginsOn, Begun, kept_in}
use Rattle.cyc_system.specs.Polling.{PollsOn, Polled}
use Rattle.cyc_model.specs.Acts.{calls_of}
use Rattle.cyc_model.specs.Cpu.{CyclicState, Cpu, is_of, cyclic_with_id}
use Rattle.cyc_model.specs.Moving.{mark_here, clear_here, moment_at}
use Rattle.cyc_model.specs.Questions.{plain, outstanding_here}
use Rattle.cyc_model.specs.State.{State, Outcome, absent, cpu_of, on_number, nothing, before}
use Rattle.cyc_model.specs.Places.{keep_counts, keeping_counts as with_ended_in}
use Rattle.cyc_model.specs.Remove.{clear, clear_if, poll, begin}
use Rattle.cyc_model.proofs.Agreement.{moment_same}
use Rattle.cyc_model.proofs.Events.{calls_append}
use Rattle.cyc_model.proofs.Rising.{found_map, found_gone, found_id}
use Rattle.cyc_model.proofs.Stays.{cleared_cpu}
use Rattle.cyc_model.proofs.Leaves.{marked_same}
use Rattle.cyc_system_model.proofs.Free.{no_more, mark_none, clear_none}
use Rattle.cyc_system_model.specs.Shown.{shown_cpus, ShowsSystem}
use Rattle.cyc_system_model.proofs.Lists.{set_twice, get_set, length_set}
use Rattle.cyc_system_model.proofs.Cpus.{cpu_at, done_at, DoneAt, long_shown}
use Rattle.cyc_system_model.proofs.Entering.{at_set, unchanged, same_shown}
use Rattle.cyc_system_model.proofs.SystemRunning.{on_shows}
use Rattle.cyc_system_model.proofs.Half.{Half, half_done, half_parts, as_many}
use Rattle.cyc_system_model.proofs.Ending.{mark_out, none_out, own_at, ended_shows, ended_half}
use Rattle.cyc_system_model.proofs.Coming.{CameTo}

-- ---- a stay that ends

-- the CPU was cleared, and the counts were kept
abbrev cleared : ℕ → ℕ → CyclicState → State → Outcome
cleared id n x s = on_number n (clear_here n id) (with_ended_in n x s)

clear_is : (id n : ℕ) (x : CyclicState) (s : State) → cyclic_with_id id (cpu_of n s) ≡ Some x → clear id n s ≡ cleared id n x s
clear_is id n x s is = ap (λ o. on_number n (clear_here n id) (keep_counts n o s)) is

-- nothing of it is outstanding on its CPU after that
cleared_out : (id n : ℕ) (c : Cpu) (w : SystemView Tables) → Half w → n < length w.cpus.cpus
    → cpu_at w.cpus n ≡ (clear_here n id c).cpu
    → outstanding_here id (cpu_at w.cpus n) ≡ 0
cleared_out id n c w h low is =
    none_out id (cpu_at w.cpus n) (own_at w n h low)
    (ap (cyclic_with_id id) is ∙ ap (λ cs. find (is_of id) cs) (cleared_cpu n id c).0 ∙ found_gone id c.cyclics)

moment_expired : (id moment : ℕ) (x : CyclicState) → ((moment_at id moment x).timer.expired ≡ x.timer.expired)
    × ((moment_at id moment x).lost ≡ x.lost)
moment_expired id moment x = pick (is_of id x)
  where
    pick : (b : Bool) → ((cond b (record x { timer = record x.timer { moment = moment } }) x).timer.expired ≡ x.timer.expired)
        × ((cond b (record x { timer = record x.timer { moment = moment } }) x).lost ≡ x.lost)
    pick true = (refl, refl)
    pick false = (refl, refl)

module _ (id n : ℕ) (m : State) (v w : SystemView Tables) (hv : Half v) (h : ShowsSystem m v) where
  -- the CPU, as the definition has it
  same_cpu : cpu_of n m ≡ cpu_at v.cpus n
  same_cpu = ap (λ cs. get_or cs n absent) h.cpus

  abbrev marked : Cpu
  marked = (mark_here n id (cpu_of n m)).cpu

  abbrev opened : State
  opened = (on_number n (mark_here n id) m).state

  at_opened : n < length (shown_cpus v.cpus) → cpu_of n opened ≡ marked
  at_opened low = get_set m.cpus n marked absent (subst (λ cs. n < length cs) (sym h.cpus) low)

  -- ---- it begins, and is kept

  begin_kept : (left : ℕ) → n < length (shown_cpus v.cpus) → 0 < left → left ≡ outstanding_here id (cpu_at v.cpus n)
      → begin plain id n m ≡ before (on_number n (mark_here n id) m) (nothing opened)
  begin_kept left low some is =
      let out : outstanding_here id (cpu_of n opened) ≡ left = ap (outstanding_here id) (at_opened low)
      ∙ mark_out n id (cpu_of n m) ∙ ap (outstanding_here id) same_cpu ∙ sym is in
      ap (λ b. before (on_number n (mark_here n id) m) (clear_if b id n opened))
      (ne_eqb (outstanding_here id (cpu_of n opened)) 0 (λ e. omega (arith, e, out, some)))

  kept_comes : (left : ℕ) → (d : DoneAt n (BeginRemove id (Ok (Kept left))) v.cpus w.cpus) → w.records ≡ v.records
      → w.last ≡ v.last
      → CameTo n (λ c. outstanding_here id c ≡ left) m (begin plain id n m) w
  kept_comes left d records last =
      let (why, some, is) = d.answered tt in
      subst (λ o. CameTo n (λ c. outstanding_here id c ≡ left) m o w) (sym (begin_kept left d.within some is)) (record {
        came = record {
          shows = on_shows n (mark_here n id) m v w h d.cpus records last;
          half = half_parts (record v { cpus = w.cpus }) w (half_done n (BeginRemove id (Ok (Kept left))) v w.cpus hv d) refl
              records last;
          none = no_more (mark_here n id (cpu_of n m)).acts [] (mark_none n id (cpu_of n m)) tt;
          quiet = λ q. let x = calls_append q (mark_here n id (cpu_of n m)).acts [] in let y = d.quiet q in
              let z = ap (λ c. calls_of q (mark_here n id c).acts) same_cpu in omega (arith, x, y, z);
          called = λ q. let y = d.quiet q in let z = ap (λ c. calls_of q (mark_here n id c).acts) same_cpu in omega (arith, y, z);
          admissions = refl;
          names = refl;
          line = refl;
          as_many = length_set m.cpus n marked;
        };
        own = ap (outstanding_here id) (at_opened d.within) ∙ mark_out n id (cpu_of n m) ∙ ap (outstanding_here id) same_cpu
            ∙ sym is;
        beside = λ k ne. get_or-set_other m.cpus n k marked absent ne;
      })

  -- ---- it begins, and is over on this CPU

  n_there : n < length (shown_cpus v.cpus) → n < length v.cpus.cpus
  n_there low = let l = long_shown v.cpus.online v.cpus.cpus hv.long in omega (arith, low, l)

  begin_done : (x : CyclicState) → n < length (shown_cpus v.cpus) → outstanding_here id (cpu_at v.cpus n) ≡ 0
      → cyclic_with_id id (cpu_at v.cpus n) ≡ Some x
      → begin plain id n m ≡ before (on_number n (mark_here n id) m) (cleared id n (moment_at id never x) opened)
  begin_done x low none is =
      let out : outstanding_here id (cpu_of n opened) ≡ 0 = ap (outstanding_here id) (at_opened low) ∙ mark_out n id (cpu_of n m)
      ∙ ap (outstanding_here id) same_cpu ∙ none in
      let there : cyclic_with_id id (cpu_of n opened) ≡ Some (moment_at id never x) =
      ap (cyclic_with_id id) (at_opened low) ∙ ap (λ cs. find (is_of id) cs) (marked_same n id (cpu_of n m)).0
      ∙ found_map (moment_at id never) (λ y. (moment_same id never y).0) id (cpu_of n m).cyclics
      ∙ ap (option_map (moment_at id never)) (ap (cyclic_with_id id) same_cpu ∙ is) in
      ap (λ b. before (on_number n (mark_here n id) m) (clear_if b id n opened)) (eq-eqb (outstanding_here id (cpu_of n
      opened)) 0 out)
      ∙ ap (before (on_number n (mark_here n id) m)) (clear_is id n (moment_at id never x) opened there)

  done_comes : (receipt : Receipt) (k : ℕ) (r : Record) → (d : DoneAt n (BeginRemove id (Ok (Done receipt))) v.cpus w.cpus)
      → IsRecord v.records k r
      → r.id ≡ id → w.records ≡ slice_set v.records k (with_ended n (summed (ended_on n r) (counts_of_receipt receipt)) r)
      → w.last ≡ v.last
      → CameTo n (λ c. outstanding_here id c ≡ 0) m (begin plain id n m) w
  done_comes receipt k r d is named records last =
      let (why, none, (x, found, own, sent, lost)) = d.answered tt in
      let y = moment_at id never x in
      let same_counts = moment_expired id never x in
      let named_y : y.timer.id ≡ id = (moment_same id never x).0 ∙ found_id id x (cpu_at v.cpus n).cyclics found in
      let low = n_there d.within in
      let o = before (on_number n (mark_here n id) m) (cleared id n y opened) in
      let acts : o.acts ≡ (mark_here n id (cpu_at v.cpus n)).acts
      ++ (clear_here n id (mark_here n id (cpu_at v.cpus n)).cpu).acts =
      ap (λ c. (mark_here n id (cpu_of n m)).acts ++ (clear_here n id c).acts) (at_opened d.within)
      ∙ ap (λ c. (mark_here n id c).acts ++ (clear_here n id (mark_here n id c).cpu).acts) same_cpu in
      let cpus : o.state.cpus ≡ shown_cpus w.cpus =
      ap (λ c. slice_set opened.cpus n (clear_here n id c).cpu) (at_opened d.within)
      ∙ set_twice m.cpus n marked (clear_here n id marked).cpu
      ∙ ap (λ cs. slice_set cs n (clear_here n id (mark_here n id (get_or cs n absent)).cpu).cpu) h.cpus ∙ sym d.cpus in
      let hw = half_done n (BeginRemove id (Ok (Done receipt))) v w.cpus hv d in
      let many = as_many n _ v.cpus w.cpus hv.long d.long d.cpus in
      let ended = ended_half n id y (counts_of_receipt receipt) k r m v w h hv low is named named_y (sent ∙ sym same_counts.0)
      (lost ∙ sym same_counts.1) records last hw many in
      let shows = ended_shows n id y (counts_of_receipt receipt) k r m v w h hv low is named named_y (sent ∙ sym same_counts.0)
      (lost ∙ sym same_counts.1) records last
      o.state cpus refl refl (λ q j. refl) in
      let quiet : (q : ℕ) → calls_of q o.acts ≡ 0 = λ q. ap (calls_of q) acts ∙ d.quiet q in
      subst (λ p. CameTo n (λ c. outstanding_here id c ≡ 0) m p w) (sym (begin_done x d.within none found)) (record {
        came = record {
          shows = shows;
          half = ended;
          none = no_more (mark_here n id (cpu_of n m)).acts _ (mark_none n id (cpu_of n m)) (clear_none n id (cpu_of n opened));
          quiet = quiet;
          called = λ q. let a = quiet q in let b =
              calls_append q (mark_here n id (cpu_of n m)).acts (clear_here n id (cpu_of n opened)).acts in omega (arith, a, b);
          admissions = refl;
          names = refl;
          line = refl;
          as_many = length_set opened.cpus n _ ∙ length_set m.cpus n marked;
        };
        own = ap (λ cs. outstanding_here id (get_or cs n absent)) cpus
            ∙ cleared_out id n (mark_here n id (cpu_at v.cpus n)).cpu w ended (omega (arith, low, many))
            (at_set v.cpus w.cpus n _ d.within d.cpus);
        beside = λ k ne. get_or-set_other opened.cpus n k _ absent ne ∙ get_or-set_other m.cpus n k marked absent ne;
      })

  -- ---- it is polled

  poll_done : (x : CyclicState) → outstanding_here id (cpu_at v.cpus n) ≡ 0 → cyclic_with_id id (cpu_at v.cpus n) ≡ Some x
      → poll plain id n m ≡ cleared id n x m
  poll_done x none is =
      ap (λ b. clear_if b id n m) (eq-eqb (outstanding_here id (cpu_of n m)) 0 (ap (outstanding_here id) same_cpu ∙ none))
      ∙ clear_is id n x m (ap (cyclic_with_id id) same_cpu ∙ is)

  ended_comes : (receipt : Receipt) (k : ℕ) (r : Record) → (d : DoneAt n (PollRemove (Some receipt)) v.cpus w.cpus)
      → receipt.id ≡ id → IsRecord v.records k r
      → r.id ≡ id → w.records ≡ slice_set v.records k (with_ended n (summed (ended_on n r) (counts_of_receipt receipt)) r)
      → w.last ≡ v.last
      → CameTo n (λ c. Unit {0}) m (poll plain id n m) w
  ended_comes receipt k r d same is named records last =
      let (open_there, none, (x, found, own, sent, lost)) = d.answered tt in
      let found_it : cyclic_with_id id (cpu_at v.cpus n) ≡ Some x = ap (λ i. cyclic_with_id i (cpu_at v.cpus n)) (sym same)
      ∙ found in
      let named_x = found_id id x (cpu_at v.cpus n).cyclics found_it in
      let low = n_there d.within in
      let o = cleared id n x m in
      let cpus : o.state.cpus ≡ shown_cpus w.cpus =
      ap (λ cs. slice_set cs n (clear_here n id (get_or cs n absent)).cpu) h.cpus
      ∙ ap (λ i. slice_set (shown_cpus v.cpus) n (clear_here n i (cpu_at v.cpus n)).cpu) (sym same) ∙ sym d.cpus in
      let hw = half_done n (PollRemove (Some receipt)) v w.cpus hv d in
      let many = as_many n _ v.cpus w.cpus hv.long d.long d.cpus in
      let quiet : (q : ℕ) → calls_of q o.acts ≡ 0 = λ q. ap (λ c. calls_of q (clear_here n id c).acts) same_cpu
      ∙ ap (λ i. calls_of q (clear_here n i (cpu_at v.cpus n)).acts) (sym same) ∙ d.quiet q in
      subst (λ p. CameTo n (λ c. Unit {0}) m p w)
      (sym (poll_done x (ap (λ i. outstanding_here i (cpu_at v.cpus n)) (sym same) ∙ none) found_it)) (record {
        came = record {
          shows = ended_shows n id x (counts_of_receipt receipt) k r m v w h hv low is named named_x sent lost records last
              o.state cpus
              refl refl (λ q j. refl);
          half = ended_half n id x (counts_of_receipt receipt) k r m v w h hv low is named named_x sent lost records last hw many;
          none = clear_none n id (cpu_of n m);
          quiet = quiet;
          called = λ q. let a = quiet q in omega (arith, a);
          admissions = refl;
          names = refl;
          line = refl;
          as_many = length_set m.cpus n _;
        };
        own = tt;
        beside = λ k ne. get_or-set_other m.cpus n k _ absent ne;
      })

  poll_waits : (left : ℕ) → 0 < left → outstanding_here id (cpu_at v.cpus n) ≡ left → poll plain id n m ≡ nothing m
  poll_waits left some is =
      let out : outstanding_here id (cpu_of n m) ≡ left = ap (outstanding_here id) same_cpu ∙ is in
      ap (λ b. clear_if b id n m) (ne_eqb (outstanding_here id (cpu_of n m)) 0 (λ e. omega (arith, e, out, some)))

  waits_comes : (d : DoneAt n (PollRemove None) v.cpus w.cpus) → 0 < outstanding_here id (cpu_at v.cpus n) → w.records ≡ v.records
      → w.last ≡ v.last
      → CameTo n (λ c. Unit {0}) m (poll plain id n m) w
  waits_comes d some records last =
      subst (λ p. CameTo n (λ c. Unit {0}) m p w) (sym (poll_waits (outstanding_here id (cpu_at v.cpus n)) some refl)) (record {
        came = record {
          shows = same_shown m v w h (unchanged v.cpus w.cpus n d.cpus) records last;
          half = half_parts (record v { cpus = w.cpus }) w (half_done n (PollRemove None) v w.cpus hv d) refl records last;
          none = tt;
          quiet = λ q. refl;
          called = λ q. refl;
          admissions = refl;
          names = refl;
          line = refl;
          as_many = refl;
        };
        own = tt;
        beside = λ k ne. refl;
      })

-- ---- by what was found

pub begins_on : (id : ℕ) (b : Begun) (m : State) (v w : SystemView Tables) → Half v → ShowsSystem m v → Unit {0}
    → BeginsOn raise_tables id b.cpu b.found v w
    → CameTo b.cpu (λ c. outstanding_here id c ≡ kept_in b.found) m (begin plain id b.cpu m) w
begins_on id b m v w hv h ready did = by b.found did
  where
    by : (found : Removal) → BeginsOn raise_tables id b.cpu found v w
        → CameTo b.cpu (λ c. outstanding_here id c ≡ kept_in found) m (begin plain id b.cpu m) w
    by (Done receipt) (did, k, r, is, named, records, last) =
        done_comes id b.cpu m v w hv h receipt k r
        (done_at b.cpu (BeginRemove id (Ok (Done receipt))) v.cpus w.cpus hv.long hv.tied did) is named records last
    by (Kept left) (did, records, last) =
        kept_comes id b.cpu m v w hv h left (done_at b.cpu (BeginRemove id (Ok (Kept left))) v.cpus w.cpus hv.long hv.tied did)
        records last

pub polls_on : (id : ℕ) (p : Polled) (m : State) (v w : SystemView Tables) → Half v → ShowsSystem m v
    → (cpu_of p.cpu m).removal ≡ Some id
    → PollsOn raise_tables id p.cpu p.answer v w → CameTo p.cpu (λ c. Unit {0}) m (poll plain id p.cpu m) w
polls_on id p m v w hv h open_there did = by p.answer did
  where
    removal_is : (cpu_at v.cpus p.cpu).removal ≡ Some id
    removal_is = sym (ap (λ (c : Cpu). c.removal) (same_cpu id p.cpu m v w hv h)) ∙ open_there

    waits : (d : DoneAt p.cpu (PollRemove None) v.cpus w.cpus) → ((cpu_at v.cpus p.cpu).removal ≡ None)
        ⊎ ((i : ℕ) × ((cpu_at v.cpus p.cpu).removal ≡ Some i) × (0 < outstanding_here i (cpu_at v.cpus p.cpu)))
        → w.records ≡ v.records → w.last ≡ v.last
        → CameTo p.cpu (λ c. Unit {0}) m (poll plain id p.cpu m) w
    waits d (inl none) records last = absurd (none_some (sym none ∙ removal_is))
    waits d (inr (i, is, some)) records last =
        waits_comes id p.cpu m v w hv h d (subst (λ j. 0 < outstanding_here j (cpu_at v.cpus p.cpu))
        (same_some (sym is ∙ removal_is)) some) records last

    by : (answer : Option Receipt) → PollsOn raise_tables id p.cpu answer v w
        → CameTo p.cpu (λ c. Unit {0}) m (poll plain id p.cpu m) w
    by (Some receipt) (did, k, r, is, named, records, last) =
        let d = done_at p.cpu (PollRemove (Some receipt)) v.cpus w.cpus hv.long hv.tied did in
        ended_comes id p.cpu m v w hv h receipt k r d (same_some (sym (d.answered tt).0 ∙ removal_is)) is named records last
    by None (did, records, last) =
        let d = done_at p.cpu (PollRemove None) v.cpus w.cpus hv.long hv.tied did in
        waits d (d.answered tt) records last
