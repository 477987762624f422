-- An omnipresent cyclic, by the components that its CPUs have.
use Rattle.std.proofs.Common.{◌≡◌, ◌≢◌, ◌∙◌, ◌==◌, ℕ, zero, suc, ◌+◌, ◌<◌, ◌≤◌, inl, inr, Bool, true, false, cond, Option, Some}
use Rattle.std.proofs.Common.{None, Ok, Err, List, [], ◌∷◌, length, get_or, slice_set, option_map, refl, sym, ap, subst, arith}
use Rattle.std.specs.Prelude.{◌&&◌, not}
use Rattle.std.specs.List.{slice_get, list_any}
use Rattle.std.specs.Option.{option_map_or, option_and_then}
use Rattle.std.proofs.lemmas.List.{length-set, get_or-set_same}
use Rattle.std.proofs.lemmas.Option.{slice_get_within, slice_get-get_or}
use mathlib.Core.Logic.{dite}
use native.Mathlib.Decide.{ℕ_discrete}
use Rattle.cyc_types.specs.declared.Raise.{Ghosts as Raise}
use Rattle.cyc_types.specs.declared.level.Level.{Level}
use Rattle.cyc_types.specs.declared.moment.When.{When}
use Rattle.cyc_types.specs.declared.refusal.Refusal.TheVariants.{Omnipresent}
use Rattle.cyc_types.specs.Reasons.{when as if_so, bad_now}
use Rattle.cyc_model.specs.State.{Everywhere}
use Rattle.cyc_timers.specs.Rows.{Cyclic}
use Rattle.cyc_cpu.specs.Cpu.{CpuView, IsCyclic, with_moment}
use Rattle.cyc_cpu.specs.Calls.{CpuChanges as CpuChanges, Reprogram as CpuReprogram}
use Rattle.cyc_places.specs.declared.record.Placement.{Placement}
use Rattle.cyc_places.specs.declared.record.Placement.TheVariants as stands
use Rattle.cyc_places.specs.declared.record.Record.{Record}
use Rattle.cyc_places.specs.Places.{is_everywhere, new_record, with_placement}
use Rattle.cyc_agreement.specs.Cpus.{CpusView}
use Rattle.cyc_agreement.proofs.CpuSpots.{get_set_same, get_set_other, cpu_there}
use Rattle.cyc_system_laws.proofs.Lists.{true_eq}
use Rattle.cyc_system_laws.proofs.Recording.{found, record_none}
use Rattle.cyc_system_workers.proofs.Removals.{leaving_here}
use Rattle.cyc_system_laws.proofs.Spots.{same_some, none_some, get_some}
use Rattle.cyc_system_laws.proofs.Sums.{cyclic_found}
use Rattle.cyc_system_laws.proofs.Where.{open_somewhere}
use Rattle.cyc_agreement.proofs.Visits.{each_one}
use Rattle.cyc_agreement.proofs.Regained.{all_back}
use Rattle.cyc_system_laws.specs.System.{SystemView, has, removal_on, is_online, is_leaving_here, is_omnipresent}
use Rattle.cyc_system_workers.specs.Refusals.{omnipresent}
use Rattle.cyc_system_laws.specs.Laws.{cyclic_in, cyclic_on}
use Rattle.cyc_agreement.specs.Omni.{component_first as cpu_first}
use Rattle.cyc_agreement.specs.Online.{online_cpu}
use Rattle.cyc_system_laws.specs.SystemCalls.{SystemCall, Changes, Add, AddOmni, Bind, BeginRemove, PollRemove, AskTotals}
use Rattle.cyc_system_laws.specs.SystemCalls.{Suspend, Resume, Reprogram, ReprogramOn, Juggle, Offline, Online, FireOne}
use Rattle.cyc_system_laws.specs.SystemCalls.{SoftInterrupt}
use Rattle.cyc_system_laws.proofs.Pieces.{made_of}
use Rattle.cyc_expected.specs.Course.{component_begins_at, components_from}
use Rattle.cyc_system_laws.specs.Sound.{IsSound}
use Rattle.cyc_system_laws.specs.Keeping.{TouchesRecord}
use Rattle.cyc_system_laws.proofs.Counts.{within}
use Rattle.cyc_system_laws.proofs.Looked.{look_kept}
use Rattle.cyc_system_laws.proofs.Lengths.{changes_long}
use Rattle.cyc_system_rings.specs.Events.{given_everywhere}
use Rattle.cyc_system_rings.proofs.Singles.{ok_err, find_end}
use Rattle.cyc_system_rings.proofs.Beside.{IsPlain, removals_same, online_after, HereNeeds, here_may, here_same, single_has}
use Rattle.cyc_system_rings.proofs.Beside.{not_there, found_at}
use Rattle.cyc_expected.proofs.Spread.{components_long}

-- ---- the component on a CPU

-- its next expiration, where the CPU has one
abbrev pub moment_on : ℕ → List (Option ℕ) → Option ℕ
moment_on n ms = option_map_or (λ m. m) (slice_get ms n) None

moment_set : (ms : List (Option ℕ)) (n : ℕ) (m : Option ℕ) → n < length ms → moment_on n (slice_set ms n m) ≡ m
moment_set ms n m low = ap (λ o. option_map_or (λ (x : Option ℕ). x) o None) (get_set_same ms n m low)

moment_beside : (ms : List (Option ℕ)) (n k : ℕ) (m : Option ℕ) → k ≢ n → moment_on k (slice_set ms n m) ≡ moment_on k ms
moment_beside ms n k m ne = ap (λ o. option_map_or (λ (x : Option ℕ). x) o None) (get_set_other ms n k m ne)

moment_gone : (ms : List (Option ℕ)) (n : ℕ) → moment_on n (slice_set ms n None) ≡ None
moment_gone [] n = refl
moment_gone (m ∷ ms) zero = refl
moment_gone (m ∷ ms) (suc n) = moment_gone ms n

off_now : (ups : List Bool) (n : ℕ) → option_map_or (λ (up : Bool). up) (slice_get (slice_set ups n false) n) false ≡ false
off_now [] n = refl
off_now (up ∷ ups) zero = refl
off_now (up ∷ ups) (suc n) = off_now ups n

components_at : (k : ℕ) (e : Everywhere) (now : ℕ) (ups : List Bool) (n : ℕ) → moment_on n (components_from k e now ups)
    ≡ cond (option_map_or (λ (up : Bool). up) (slice_get ups n) false) (Some (component_begins_at (k + n) e now)) None
components_at k e now [] n = refl
components_at k e now (true ∷ ups) zero = let z : k ≡ k + 0 = omega arith in ap (λ (j : ℕ). Some (component_begins_at j e now)) z
components_at k e now (false ∷ ups) zero = refl
components_at k e now (up ∷ ups) (suc n) = components_at (k + 1) e now ups n
    ∙ (let z : k + 1 + n ≡ k + suc n = omega arith in
    ap (λ (j : ℕ). cond (option_map_or (λ (up : Bool). up) (slice_get ups n) false) (Some (component_begins_at j e now)) None) z)

-- what is seen of a cyclic: its next expiration and its interval
abbrev pub seen : Cyclic → ℕ × ℕ
seen c = (c.timer.moment, c.timer.interval)

-- the series of a record, where it is of an omnipresent cyclic
abbrev pub placement_series : Placement → Option (When × ℕ)
placement_series (stands.On n bound) = None
placement_series (stands.Everywhere when skew) = Some (when, skew)

abbrev pub series_of : Record → Option (When × ℕ)
series_of r = placement_series r.placement

series_placed : (r : Record) (n : ℕ) (bound : Bool) → is_everywhere r.placement ≡ false
    → series_of (with_placement (stands.On n bound) r) ≡ series_of r
series_placed r n bound e = by r.placement e
  where
    by : (placement : Placement) → is_everywhere placement ≡ false → None ≡ placement_series placement
    by (stands.On m b) e = refl
    by (stands.Everywhere when skew) e = absurd (let odd : true ≡ false = e in cc)

module _ {R : Type 0} (firing : Raise R) (id : ℕ) where
  -- each CPU has just the component of the id that is told, and no removal of it is open
  pub record IsSpread (when : When) (skew : ℕ) (ms : List (Option ℕ)) (s : SystemView R) : Type 0 where
    pub here : (n : ℕ) → option_map seen (cyclic_on n id s.cpus) ≡ option_map (λ m. (m, when.interval)) (moment_on n ms)
    pub long : length ms ≡ length s.cpus.cpus
    pub series : option_map_or series_of (found id s.records) None ≡ Some (when, skew)
    pub still : (n : ℕ) → removal_on n s.cpus ≢ Some id
    pub given : id ≤ s.last

  -- its record
  module _ (when : When) (skew : ℕ) (ms : List (Option ℕ)) (s : SystemView R) (h : IsSpread when skew ms s) where
    its_record : (r : Record) × (found id s.records ≡ Some r) × (r.placement ≡ stands.Everywhere when skew)
    its_record = by (found id s.records) refl h.series
      where
        placed : (r : Record) (placement : Placement) → r.placement ≡ placement → placement_series placement ≡ Some (when, skew)
            → r.placement ≡ stands.Everywhere when skew
        placed r (stands.On n bound) e is = absurd (none_some is)
        placed r (stands.Everywhere w k) e is = (let p = same_some is in e ∙ (λ i. stands.Everywhere (p i).0 (p i).1))

        by : (o : Option Record) → found id s.records ≡ o → option_map_or series_of o None ≡ Some (when, skew)
            → (r : Record) × (found id s.records ≡ Some r) × (r.placement ≡ stands.Everywhere when skew)
        by None e is = absurd (none_some is)
        by (Some r) e is = (r, e, placed r r.placement refl is)

    pub spread_omni : is_omnipresent id s ≡ true
    spread_omni = (let (r, is, placement) = its_record in
        ap (λ o. option_map_or (λ (r : Record). is_everywhere r.placement) o false) is ∙ ap is_everywhere placement)

    not_own : (own : ℕ) → is_omnipresent own s ≡ false → own ≢ id
    not_own own e same = (let odd : true ≡ false = sym spread_omni ∙ (ap (λ (j : ℕ). is_omnipresent j s) (sym same) ∙ e) in cc)

    not_single : (own : ℕ) → omnipresent own s ≡ None → own ≢ id
    not_single own clear same = none_some (sym clear ∙ (ap (λ (j : ℕ). omnipresent j s) same
        ∙ ap (λ (b : Bool). if_so b Omnipresent) spread_omni))

    -- the call touches no component of it on this CPU
    abbrev pub Elsewhere : ℕ → SystemCall → Type 0
    Elsewhere m (ReprogramOn own n moment (Ok done)) = own ≡ id → n ≢ m
    Elsewhere m (Offline n (Ok done)) = n ≢ m
    Elsewhere m (Online n now (Ok done)) = n ≢ m
    Elsewhere m call = Unit {0}

    needs : (m : ℕ) (call : SystemCall) → IsPlain call → (TouchesRecord id call → ⊥) → Elsewhere m call
        → HereNeeds firing m id call s
    needs m (Add level when now (Ok own)) plain other away = here_may firing m id own other
    needs m (Add level when now (Err e)) plain other away = tt
    needs m (AddOmni level when skew now (Ok own)) plain other away = here_may firing m id own other
    needs m (AddOmni level when skew now (Err e)) plain other away = tt
    needs m (Bind own cpu answer) plain other away = λ clear single. here_may firing m id own (not_single own single)
    needs m (BeginRemove own answer) plain other away = absurd plain
    needs m (PollRemove own answer) plain other away = absurd plain
    needs m (AskTotals own answer) plain other away = tt
    needs m (Suspend answer) plain other away = tt
    needs m (Resume answer) plain other away = tt
    needs m (Reprogram own moment (Ok done)) plain other away = λ clear single n e. not_single own single
    needs m (Reprogram own moment (Err e)) plain other away = tt
    needs m (ReprogramOn own n moment (Ok done)) plain other away = λ clear component e same. away same e
    needs m (ReprogramOn own n moment (Err e)) plain other away = tt
    needs m (Juggle n answer) plain other away =
        λ still p own at. here_may firing m id own (not_own own (single_has n p own s at).0)
    needs m (Offline n (Ok done)) plain other away = (
      λ still p own at. here_may firing m id own (not_own own (single_has n p own s at).0),
      λ still v same p own taken at here. absurd (away here),
    )
    needs m (Offline n (Err e)) plain other away =
        λ still p own at. here_may firing m id own (not_own own (single_has n p own s at).0)
    needs m (Online n now (Ok done)) plain other away = λ k r at level i mo carried here. absurd (away here)
    needs m (Online n now (Err e)) plain other away = tt
    needs m (FireOne n now answer) plain other away = tt
    needs m (SoftInterrupt n level budget answer) plain other away = tt

    -- a call, with what is so of the components after it
    module _ (t : SystemView R) (call : SystemCall) (a : IsSound firing.view s) (plain : IsPlain call)
        (d : Changes firing s call t)
        (other : TouchesRecord id call → ⊥) where
      pub around : (m : ℕ) → Elsewhere m call → cyclic_on m id t.cpus ≡ cyclic_on m id s.cpus
      around m away = here_same firing m id s t call d (needs m call plain other away)

      pub spread_by : (ms' : List (Option ℕ)) → length ms' ≡ length ms
          → ((n : ℕ) → option_map seen (cyclic_on n id t.cpus) ≡ option_map (λ m. (m, when.interval)) (moment_on n ms'))
          → IsSpread when skew ms' t
      spread_by ms' long here = record {
        here = here;
        long = long ∙ (h.long ∙ sym (changes_long firing s t call d));
        series = look_kept firing series_of None series_placed (λ r n c. refl) id s t call a.fit.rising d other ∙ h.series;
        still = λ n e. h.still n (sym (removals_same firing s t call plain d n) ∙ e);
        given = (let l = (made_of firing s t call d).last in let g = h.given in omega (arith, l, g));
      }

      pub spread_kept : ((m : ℕ) → Elsewhere m call) → IsSpread when skew ms t
      spread_kept away = spread_by ms refl (λ n. ap (option_map seen) (around n (away n)) ∙ h.here n)

  -- ---- one component is set

  the_interval : (c : Cyclic) (i : ℕ) (o : Option ℕ) → Some (seen c) ≡ option_map (λ m. (m, i)) o → c.timer.interval ≡ i
  the_interval c i None e = absurd (none_some (sym e))
  the_interval c i (Some m) e = ap (λ p. p.1) (same_some e)

  pub spread_set : (n moment : ℕ) (when : When) (skew : ℕ) (ms : List (Option ℕ)) (s t : SystemView R) → IsSound firing.view s
      → IsSound firing.view t → Changes firing s (ReprogramOn id n moment (Ok tt)) t → IsSpread when skew ms s
      → IsSpread when skew (slice_set ms n (Some moment)) t
  spread_set n moment when skew ms s t a b (inl (why, whys, is, same)) h = absurd (ok_err is)
  spread_set n moment when skew ms s t a b (inr (clear, (is, ((u, d, last), records, given)))) h =
      spread_by when skew ms s h t (ReprogramOn id n moment (Ok tt)) a tt (inr (clear, (is, ((u, d, last), records, given))))
      (λ x. x) (slice_set ms n (Some moment)) (length-set ms n (Some moment))
      (λ m. dite (ℕ_discrete m n)
      (λ e. subst (λ (j : ℕ). option_map seen (cyclic_on j id t.cpus)
      ≡ option_map (λ m. (m, when.interval)) (moment_on j (slice_set ms n (Some moment)))) (sym e) (at_it d.change))
      (λ ne. ap (option_map seen) (around when skew ms s h t (ReprogramOn id n moment (Ok tt)) a tt
      (inr (clear, (is, ((u, d, last), records, given)))) (λ x. x) m (λ same e. ne (sym e)))
      ∙ (h.here m ∙ ap (option_map (λ m. (m, when.interval))) (sym (moment_beside ms n m (Some moment) ne)))))
    where
      there : slice_get t.cpus.cpus n ≡ Some d.after
      there = ap (λ (v : CpusView R). slice_get v.cpus n) (sym last) ∙ (ap (λ (v : CpusView R). slice_get v.cpus n) d.rest
          ∙ cpu_there n d.before d.after s.cpus d.here)

      at_it : CpuChanges firing d.before (CpuReprogram id moment (Ok tt)) d.after
          → option_map seen (cyclic_on n id t.cpus)
          ≡ option_map (λ m. (m, when.interval)) (moment_on n (slice_set ms n (Some moment)))
      at_it (k, c, here, named, still, w) =
          let low = slice_get_within s.cpus.cpus n d.before d.here in let l = h.long in
          let was = cyclic_found d.before.cyclics id k c (a.lawful n d.before d.here).rising here named in
          let i = the_interval c when.interval (moment_on n ms) (sym (ap (option_map seen)
          (ap (λ o. option_and_then (cyclic_in id) o) d.here ∙ was)) ∙ h.here n) in
          let now : IsCyclic (slice_set d.before.cyclics k (with_moment moment c)) k (with_moment moment c) = (
            (let x = length-set d.before.cyclics k (with_moment moment c) in let y = here.0 in omega (arith, x, y)),
            get_or-set_same d.before.cyclics k (with_moment moment c) (with_moment moment c) here.0,
          ) in
          let is' = cyclic_found d.after.cyclics id k (with_moment moment c) (b.lawful n d.after there).rising
          (subst (λ (v : CpuView R). IsCyclic v.cyclics k (with_moment moment c)) (sym w) now) named in
          ap (option_map seen) (ap (λ o. option_and_then (cyclic_in id) o) there ∙ is')
          ∙ (ap (λ (j : ℕ). Some (moment, j)) i
          ∙ sym (ap (option_map (λ m. (m, when.interval))) (moment_set ms n (Some moment) (omega (arith, low, l)))))

  -- ---- a CPU goes offline

  nowhere_off : (n : ℕ) (t : SystemView R) → IsSound firing.view t → is_online n t.cpus ≡ false → cyclic_on n id t.cpus ≡ None
  nowhere_off n t b off = by (has n id t.cpus) refl
    where
      by : (x : Bool) → has n id t.cpus ≡ x → cyclic_on n id t.cpus ≡ None
      by false e = not_there n id t.cpus e
      by true e = (let (k, r, is, named, stands, up) = b.agrees.known n id e in
          absurd (let odd : false ≡ true = sym off ∙ up in cc))

  pub spread_off : (n : ℕ) (when : When) (skew : ℕ) (ms : List (Option ℕ)) (s t : SystemView R) → IsSound firing.view s
      → IsSound firing.view t → Changes firing s (Offline n (Ok tt)) t → IsSpread when skew ms s
      → IsSpread when skew (slice_set ms n None) t
  spread_off n when skew ms s t a b d h = spread_by when skew ms s h t (Offline n (Ok tt)) a tt d (λ x. x)
      (slice_set ms n None) (length-set ms n None) (λ m. dite (ℕ_discrete m n)
      (λ e. subst (λ (j : ℕ). option_map seen (cyclic_on j id t.cpus)
      ≡ option_map (λ m. (m, when.interval)) (moment_on j (slice_set ms n None))) (sym e)
      (ap (option_map seen) (nowhere_off n t b
      (ap (λ ups. option_map_or (λ (up : Bool). up) (slice_get ups n) false) (online_after firing s t (Offline n (Ok tt)) d)
      ∙ off_now s.cpus.online n)) ∙ sym (ap (option_map (λ m. (m, when.interval))) (moment_gone ms n))))
      (λ ne. ap (option_map seen) (around when skew ms s h t (Offline n (Ok tt)) a tt d (λ x. x) m (λ e. ne (sym e)))
      ∙ (h.here m ∙ ap (option_map (λ m. (m, when.interval))) (sym (moment_beside ms n m None ne)))))

  -- ---- a CPU comes back

  pub spread_on : (n now : ℕ) (when : When) (skew : ℕ) (ms : List (Option ℕ)) (s t : SystemView R) → IsSound firing.view s
      → IsSound firing.view t → Changes firing s (Online n now (Ok tt)) t → IsSpread when skew ms s
      → IsSpread when skew (slice_set ms n (Some (cpu_first n when skew now))) t
  spread_on n now when skew ms s t a b (inl (why, whys, is, same)) h = absurd (ok_err is)
  spread_on n now when skew ms s t a b (inr (clear, goes)) h =
      spread_by when skew ms s h t (Online n now (Ok tt)) a tt (inr (clear, goes)) (λ x. x)
      (slice_set ms n (Some (cpu_first n when skew now))) (length-set ms n (Some (cpu_first n when skew now)))
      (λ m. dite (ℕ_discrete m n)
      (λ e. subst (λ (j : ℕ). option_map seen (cyclic_on j id t.cpus)
      ≡ option_map (λ m. (m, when.interval)) (moment_on j (slice_set ms n (Some (cpu_first n when skew now))))) (sym e) at_it)
      (λ ne. ap (option_map seen)
      (around when skew ms s h t (Online n now (Ok tt)) a tt (inr (clear, goes)) (λ x. x) m (λ e. ne (sym e)))
      ∙ (h.here m ∙ ap (option_map (λ m. (m, when.interval)))
      (sym (moment_beside ms n m (Some (cpu_first n when skew now)) ne)))))
    where
      low : n < length s.cpus.cpus
      low = within n s (online_cpu n s ∷ bad_now now ∷ []) clear

      stays : (j : ℕ) → j ≡ id → not (list_any (is_leaving_here j) s.cpus.cpus) ≡ true
      stays j e = by (list_any (is_leaving_here j) s.cpus.cpus) refl
        where
          by : (x : Bool) → list_any (is_leaving_here j) s.cpus.cpus ≡ x → not x ≡ true
          by false is = refl
          by true is = (let (m, x, at, there, own) = open_somewhere j s.cpus is in absurd (h.still m (there ∙ ap Some e)))

      both : (p q : Bool) → p ≡ true → q ≡ true → (p && q) ≡ true
      both p q e f = ap (λ (x : Bool). x && q) e ∙ f

      at_it : option_map seen (cyclic_on n id t.cpus)
          ≡ option_map (λ m. (m, when.interval)) (moment_on n (slice_set ms n (Some (cpu_first n when skew now))))
      at_it =
          let (r, found_it, placement) = its_record when skew ms s h in let (k, is, named) = found_at id s.records r found_it in
          let l = changes_long firing s t (Online n now (Ok tt)) (inr (clear, goes)) in let l2 = h.long in
          let (y, at) = get_some t.cpus.cpus n (omega (arith, low, l)) in
          let (p, there, one) = all_back firing s t n now goes k r when skew is placement
          (both (is_everywhere r.placement) _ (ap is_everywhere placement) (stays r.id named)) y at in
          ap (option_map seen) (ap (λ o. option_and_then (cyclic_in id) o) at
          ∙ cyclic_found y.cyclics id p _ (b.lawful n y at).rising there named)
          ∙ sym (ap (option_map (λ m. (m, when.interval)))
          (moment_set ms n (Some (cpu_first n when skew now)) (omega (arith, low, l2))))

  -- ---- it is added

  -- no removal of a new id is open
  pub new_still : (s t : SystemView R) (call : SystemCall) → IsSound firing.view s → IsPlain call → Changes firing s call t
      → s.last < id → (n : ℕ) → removal_on n t.cpus ≢ Some id
  new_still s t call a plain d new n e =
      (let (k, r, is, named, stands, up) = a.agrees.known n id
      (leaving_here firing.view s.cpus n id a.lawful (sym (removals_same firing s t call plain d n) ∙ e)) in
      let low = a.agrees.given k r is in absurd (omega (arith, low, named, new)))

  pub spread_added : (level : Level) (when : When) (skew now : ℕ) (s t : SystemView R) → IsSound firing.view s
      → IsSound firing.view t
      → Changes firing s (AddOmni level when skew now (Ok id)) t
      → IsSpread when skew (components_from 0 (given_everywhere level when skew) now s.cpus.online) t
  spread_added level when skew now s t a b (inl (e, why, is, same)) = absurd (ok_err is)
  spread_added level when skew now s t a b (inr (clear, (own, (u, reserved, works), records, last))) = record {
    here = λ n. here n (is_online n s.cpus) refl;
    long = components_long 0 (given_everywhere level when skew) now s.cpus.online
        ∙ (a.agrees.long ∙ sym (changes_long firing s t (AddOmni level when skew now (Ok id)) d));
    series =
        let x = new_record id level (stands.Everywhere when skew) in
        let none = record_none id s.records (λ k q low same. (let g = a.agrees.given k (get_or s.records k q)
        (slice_get-get_or s.records k q low) in omega (arith, g, same, own))) in
        ap (λ rs. option_map_or series_of (found id rs) None) records
        ∙ (ap (λ o. option_map_or series_of o None) (find_end (λ (r : Record). r.id == id) s.records x none)
        ∙ ap (λ (b : Bool). option_map_or series_of (cond b (Some x) None) None) (true_eq id id refl));
    still = new_still s t (AddOmni level when skew now (Ok id)) a tt d (omega (arith, own));
    given = omega (arith, last);
  }
    where
      d : Changes firing s (AddOmni level when skew now (Ok id)) t
      d = inr (clear, (own, (u, reserved, works), records, last))

      told : (n : ℕ) (up : Bool) → is_online n s.cpus ≡ up
          → moment_on n (components_from 0 (given_everywhere level when skew) now s.cpus.online)
          ≡ cond up (Some (cpu_first n when skew now)) None
      told n up e = components_at 0 (given_everywhere level when skew) now s.cpus.online n
          ∙ ((λ i. cond (e i) (Some (component_begins_at (0 + n) (given_everywhere level when skew) now)) None)
          ∙ (let z : 0 + n ≡ n = omega arith in
          ap (λ (j : ℕ). cond up (Some (component_begins_at j (given_everywhere level when skew) now)) None) z))

      low : (n : ℕ) → is_online n s.cpus ≡ true → n < length s.cpus.online
      low n e = by (slice_get s.cpus.online n) refl e
        where
          by : (o : Option Bool) → slice_get s.cpus.online n ≡ o → option_map_or (λ (up : Bool). up) o false ≡ true
              → n < length s.cpus.online
          by None at e = absurd (let odd : false ≡ true = e in cc)
          by (Some up) at e = slice_get_within s.cpus.online n up at

      here : (n : ℕ) (up : Bool) → is_online n s.cpus ≡ up → option_map seen (cyclic_on n id t.cpus)
          ≡ option_map (λ m. (m, when.interval))
          (moment_on n (components_from 0 (given_everywhere level when skew) now s.cpus.online))
      here n true up =
          let l = changes_long firing s t (AddOmni level when skew now (Ok id)) d in let l2 = a.agrees.long in
          let l3 = low n up in
          let (y, at) = get_some t.cpus.cpus n (omega (arith, l, l2, l3)) in
          let (p, there, one) = each_one firing s t level when skew now id
          (own, (u, reserved, works), records, last) n up y at in
          ap (option_map seen) (ap (λ o. option_and_then (cyclic_in id) o) at
          ∙ cyclic_found y.cyclics id p _ (b.lawful n y at).rising there refl)
          ∙ sym (ap (option_map (λ m. (m, when.interval))) (told n true up))
      here n false off = ap (option_map seen) (nowhere_off n t b
          (ap (λ ups. option_map_or (λ (up : Bool). up) (slice_get ups n) false)
          (online_after firing s t (AddOmni level when skew now (Ok id)) d) ∙ off))
          ∙ sym (ap (option_map (λ m. (m, when.interval))) (told n false off))
