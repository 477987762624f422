-- An id of which no CPU fires anything: each CPU that has its cyclic has its removal open.
use Rattle.std.proofs.Common.{◌≡◌, ◌≢◌, ◌∙◌, ◌==◌, ℕ, zero, suc, ◌+◌, ◌⊎◌, inl, inr, Bool, true, false, Option, Some, None, Ok}
use Rattle.std.proofs.Common.{Err, List, [], ◌∷◌, map, option_map, refl, sym, ap, subst, arith}
use Rattle.std.specs.Prelude.{not, ◌&&◌}
use Rattle.std.specs.List.{slice_get, list_any, FoldsTo}
use Rattle.std.specs.Option.{option_map_or, option_and_then}
use Rattle.std.proofs.lemmas.Option.{slice_get-map}
use mathlib.Core.Logic.{dite}
use native.Mathlib.Decide.{ℕ_discrete}
use Rattle.cyc_types.specs.declared.Raise.{Ghosts as Raise}
use Rattle.cyc_types.specs.declared.receipt.Receipt.{Receipt}
use Rattle.cyc_cpu.specs.declared.removing.Removal.{Removal}
use Rattle.cyc_cpu.specs.declared.removing.Removal.TheVariants as removal
use Rattle.cyc_cpu.specs.Cpu.{CpuView}
use Rattle.cyc_cpu.specs.Laws.{IsLawful}
use Rattle.cyc_places.specs.declared.record.Placement.{Placement}
use Rattle.cyc_places.specs.declared.record.Placement.TheVariants as stands
use Rattle.cyc_places.specs.declared.record.Record.{Record}
use Rattle.cyc_places.specs.Places.{IsRecord, is_everywhere}
use Rattle.cyc_agreement.specs.Cpus.{CpusView, IsCpu, ChangesAt, numbers_from}
use Rattle.cyc_agreement.proofs.CpuSpots.{get_set_other}
use Rattle.cyc_system_laws.proofs.Lists.{among}
use Rattle.cyc_system_workers.proofs.Presence.{is_absent, is_removed, has_low}
use Rattle.cyc_system_workers.proofs.Removals.{no_removal}
use Rattle.cyc_system_laws.proofs.Spots.{same_some, none_some, get_some}
use Rattle.cyc_system_laws.proofs.Who.{ids_now, ids_elsewhere, removal_now}
use Rattle.cyc_system_laws.proofs.One.{LeavesCpu, begun, polled, is_leaving_open}
use Rattle.cyc_system_laws.proofs.Folds.{Known, folds_known}
use Rattle.cyc_system_laws.proofs.Others.{polls_elsewhere}
use Rattle.cyc_system_laws.specs.System.{SystemView, has, ids_of, removal_on, is_leaving_here, record_of}
use Rattle.cyc_system_workers.specs.Refusals.{no_cyclic}
use Rattle.cyc_system.specs.Juggling.{single_ids}
use Rattle.cyc_agreement.specs.Online.{is_staying}
use Rattle.cyc_system_laws.specs.Laws.{IsUntouched}
use Rattle.cyc_system_laws.specs.Removing.{Begun, BeginsOn, BeginsRemoval, cpus_with}
use Rattle.cyc_system_laws.specs.Polling.{Polled, PollsOn, PollsRemoval}
use Rattle.cyc_system_laws.specs.SystemRemoval.TheVariants as over
use Rattle.cyc_system_laws.specs.SystemCalls.{SystemCall, Changes, Add, AddOmni, Bind, BeginRemove, PollRemove, AskTotals}
use Rattle.cyc_system_laws.specs.SystemCalls.{Suspend, Resume, Reprogram, ReprogramOn, Juggle, Offline, Online, FireOne}
use Rattle.cyc_system_laws.specs.SystemCalls.{SoftInterrupt}
use Rattle.cyc_system_laws.specs.Sound.{IsSound}
use Rattle.cyc_system_laws.specs.Keeping.{TouchesRecord}
use Rattle.cyc_system_rings.proofs.Singles.{ok_err}
use Rattle.cyc_system_rings.proofs.Beside.{IsPlain, removals_same, HereNeeds, here_may, here_same, has_same, single_has}
use Rattle.cyc_system_rings.proofs.Beside.{on_has, in_filter, found_at, SameHere}

-- the number of a test that is true
numbers_at : (k : ℕ) (tests : List Bool) (j : ℕ) → slice_get tests j ≡ Some true
    → (p : ℕ) × (slice_get (numbers_from k tests) p ≡ Some (k + j))
numbers_at k [] j e = absurd (none_some e)
numbers_at k (true ∷ tests) zero e = (0, (let z : k ≡ k + 0 = omega arith in ap Some z))
numbers_at k (true ∷ tests) (suc j) e = (let (p, at) = numbers_at (k + 1) tests j e in
    (suc p, at ∙ (let z : k + 1 + j ≡ k + suc j = omega arith in ap Some z)))
numbers_at k (false ∷ tests) zero e = absurd (let odd : false ≡ true = same_some e in cc)
numbers_at k (false ∷ tests) (suc j) e = (let (p, at) = numbers_at (k + 1) tests j e in
    (p, at ∙ (let z : k + 1 + j ≡ k + suc j = omega arith in ap Some z)))

-- a CPU that has the cyclic is among those that do
with_at : {R : Type 0} (id n : ℕ) (v : CpusView R) → has n id v ≡ true → (p : ℕ) × (slice_get (cpus_with id v) p ≡ Some n)
with_at {R} id n v h = let (x, at) = get_some v.cpus n (has_low v n id h) in
    let (p, there) = numbers_at 0 (map (λ cpu. list_any (λ own. own == id) (ids_of cpu)) v.cpus) n
    (slice_get-map (λ cpu. list_any (λ own. own == id) (ids_of cpu)) v.cpus n
    ∙ (ap (λ o. option_map (λ cpu. list_any (λ own. own == id) (ids_of cpu)) o) at
    ∙ ap Some (sym (ap (λ o. among id (option_map_or ids_of o [])) at) ∙ h))) in
    (p, there ∙ (let z : 0 + n ≡ n = omega arith in ap Some z))

both_right : (a b : Bool) → (a && b) ≡ true → b ≡ true
both_right true b e = e
both_right false b e = absurd (let odd : false ≡ true = e in cc)

not_false : (b : Bool) → not b ≡ true → b ≡ false
not_false true e = absurd (let odd : false ≡ true = e in cc)
not_false false e = refl

-- an open removal is found
pub is_open : {R : Type 0} (id n : ℕ) (v : CpusView R) → removal_on n v ≡ Some id → list_any (is_leaving_here id) v.cpus ≡ true
is_open id n v e = by (list_any (is_leaving_here id) v.cpus) refl
  where
    by : (b : Bool) → list_any (is_leaving_here id) v.cpus ≡ b → b ≡ true
    by true is = refl
    by false is = absurd (no_removal v id is n e)

module _ {R : Type 0} (firing : Raise R) (id : ℕ) where
  abbrev pub IsQuiet : SystemView R → Type 0
  IsQuiet s = (n : ℕ) → has n id s.cpus ≡ true → removal_on n s.cpus ≡ Some id

  -- where it has a record, its removal is open
  leaving : (s : SystemView R) (k : ℕ) (r : Record) → IsSound firing.view s → IsQuiet s → IsRecord s.records k r → r.id ≡ id
      → (n : ℕ) × (removal_on n s.cpus ≡ Some id)
  leaving s k r a quiet is named = by r.placement refl
    where
      there : (n : ℕ) → has n r.id s.cpus ≡ true → removal_on n s.cpus ≡ Some id
      there n h = quiet n (subst (λ (j : ℕ). has n j s.cpus ≡ true) named h)

      on_each : (n : ℕ) → (has n r.id s.cpus ≡ true) ⊎ ((m : ℕ) × (removal_on m s.cpus ≡ Some r.id))
          → (n : ℕ) × (removal_on n s.cpus ≡ Some id)
      on_each n (inl h) = (n, there n h)
      on_each n (inr (m, e)) = (m, e ∙ ap Some named)

      by : (placement : Placement) → r.placement ≡ placement → (n : ℕ) × (removal_on n s.cpus ≡ Some id)
      by (stands.On n bound) e = (n, there n (a.agrees.home k n bound r is e))
      by (stands.Everywhere when skew) e = (let (n, up) = a.agrees.some in
          on_each n (a.agrees.everywhere k n r is (ap is_everywhere e) up))

  -- and so what is asked for it is refused
  refused : (s : SystemView R) → IsSound firing.view s → IsQuiet s → no_cyclic id s ≡ None → ⊥
  refused s a quiet clear = by (record_of id s) refl
    where
      by : (o : Option Record) → record_of id s ≡ o → ⊥
      by None e = none_some (sym clear ∙ is_absent s id e)
      by (Some r) e = (let (k, is, named) = found_at id s.records r e in let (n, there) = leaving s k r a quiet is named in
          none_some (sym clear ∙ is_removed s id (is_open id n s.cpus there)))

  refused_own : (own : ℕ) (s : SystemView R) → IsSound firing.view s → IsQuiet s → no_cyclic own s ≡ None → own ≢ id
  refused_own own s a quiet clear e = refused s a quiet (subst (λ (j : ℕ). no_cyclic j s ≡ None) e clear)

  -- a CPU that is juggled doesn't have it
  not_single : (n p own : ℕ) (s : SystemView R) → IsQuiet s → removal_on n s.cpus ≡ None
      → slice_get (single_ids n s) p ≡ Some own → own ≢ id
  not_single n p own s quiet still at e = none_some (sym still
      ∙ quiet n (subst (λ (j : ℕ). has n j s.cpus ≡ true) e (single_has n p own s at).1))

  needs : (m : ℕ) (s : SystemView R) (call : SystemCall) → IsSound firing.view s → IsQuiet s → IsPlain call
      → (TouchesRecord id call → ⊥) → HereNeeds firing m id call s
  needs m s (Add level when now (Ok own)) a quiet plain other = here_may firing m id own other
  needs m s (Add level when now (Err e)) a quiet plain other = tt
  needs m s (AddOmni level when skew now (Ok own)) a quiet plain other = here_may firing m id own other
  needs m s (AddOmni level when skew now (Err e)) a quiet plain other = tt
  needs m s (Bind own cpu answer) a quiet plain other =
      λ clear single. here_may firing m id own (refused_own own s a quiet clear)
  needs m s (BeginRemove own answer) a quiet plain other = absurd plain
  needs m s (PollRemove own answer) a quiet plain other = absurd plain
  needs m s (AskTotals own answer) a quiet plain other = tt
  needs m s (Suspend answer) a quiet plain other = tt
  needs m s (Resume answer) a quiet plain other = tt
  needs m s (Reprogram own moment (Ok done)) a quiet plain other = λ clear single n e. refused_own own s a quiet clear
  needs m s (Reprogram own moment (Err e)) a quiet plain other = tt
  needs m s (ReprogramOn own n moment (Ok done)) a quiet plain other = λ clear component e. refused_own own s a quiet clear
  needs m s (ReprogramOn own n moment (Err e)) a quiet plain other = tt
  needs m s (Juggle n answer) a quiet plain other =
      λ still p own at. here_may firing m id own (not_single n p own s quiet still at)
  needs m s (Offline n (Ok done)) a quiet plain other = (
    λ still p own at. here_may firing m id own (not_single n p own s quiet still at),
    λ still v same p own taken at here e. none_some (sym still
        ∙ quiet n (sym (has_same n id s.cpus v (subst (λ (j : ℕ). SameHere firing j id s.cpus v) (sym here) same))
        ∙ subst (λ (j : ℕ). has n j v ≡ true) e (on_has n own p v at))),
  )
  needs m s (Offline n (Err e)) a quiet plain other =
      λ still p own at. here_may firing m id own (not_single n p own s quiet still at)
  needs m s (Online n now (Ok done)) a quiet plain other = λ k r at level i mo carried here named.
      (let (j, there, stays) = in_filter (is_staying s.cpus) s.records k r at in
      let (c, e) = leaving s j r a quiet there named in
      let still = not_false (list_any (is_leaving_here r.id) s.cpus.cpus) (both_right (is_everywhere r.placement) _ stays) in
      no_removal s.cpus r.id still c (e ∙ ap Some (sym named)))
  needs m s (Online n now (Err e)) a quiet plain other = tt
  needs m s (FireOne n now answer) a quiet plain other = tt
  needs m s (SoftInterrupt n level budget answer) a quiet plain other = tt

  -- a call that begins no removal of it, and doesn't give it
  pub quiet_plain : (s t : SystemView R) (call : SystemCall) → IsSound firing.view s → IsPlain call → Changes firing s call t
      → (TouchesRecord id call → ⊥) → IsQuiet s → IsQuiet t
  quiet_plain s t call a plain d other quiet n h = removals_same firing s t call plain d n
      ∙ quiet n (sym (has_same n id s.cpus t.cpus
      (here_same firing n id s t call d (needs n s call a quiet plain other))) ∙ h)

  pub quiet_untouched : (s t : SystemView R) → IsUntouched id s t → IsQuiet s → IsQuiet t
  quiet_untouched s t u quiet n h =
      u.stays_open n (quiet n (sym (has_same n id s.cpus t.cpus (u.cyclics n)) ∙ h))

  -- ---- its removal begins

  -- the CPU has its removal open, if it has it
  abbrev IsLeft : ℕ → SystemView R → Type 0
  IsLeft n s = has n id s.cpus ≡ true → removal_on n s.cpus ≡ Some id

  left_at : (n c : ℕ) (s t : SystemView R) (D : CpuView R → CpuView R → Type 0) (d : ChangesAt c D s.cpus t.cpus)
      → LeavesCpu id d.before d.after
      → IsLeft n s ⊎ (n ≡ c) → IsLeft n t
  left_at n c s t D d l was = dite (ℕ_discrete n c)
      (λ e. subst (λ (j : ℕ). IsLeft j t) (sym e) (λ h. ap (λ (u : CpusView R). removal_on c u) d.rest
      ∙ (removal_now s.cpus c d.before d.after d.here
      ∙ l.leaving (sym (ap (among id) (ids_now s.cpus c d.before d.after d.here))
      ∙ (sym (ap (λ (u : CpusView R). has c id u) d.rest) ∙ h)))))
      (λ ne. λ h. ap (λ (u : CpusView R). removal_on n u) d.rest
      ∙ (ap (λ o. option_and_then (λ (x : CpuView R). x.removal) o) (get_set_other s.cpus.cpus c n d.after ne)
      ∙ before ne was (sym (ap (among id) (ids_elsewhere s.cpus c d.before d.after d.here n ne))
      ∙ (sym (ap (λ (u : CpusView R). has n id u) d.rest) ∙ h))))
    where
      before : n ≢ c → IsLeft n s ⊎ (n ≡ c) → IsLeft n s
      before ne (inl was) = was
      before ne (inr e) = absurd (ne e)

  begun_left : (n : ℕ) (b : Begun) (s t : SystemView R) → BeginsOn firing id b.cpu b.found s t
      → ((x : CpuView R) → IsCpu b.cpu x s.cpus → IsLawful firing.view x) → IsLeft n s ⊎ (n ≡ b.cpu) → IsLeft n t
  begun_left n b s t d lawful was = by b.found d
    where
      by : (found : Removal) → BeginsOn firing id b.cpu found s t → IsLeft n t
      by (removal.Done receipt) (does, k, r, here, named, records, last) = left_at n b.cpu s t _ does
          (begun firing id does.before does.after (lawful does.before does.here) (removal.Done receipt) does.change) was
      by (removal.Kept kept) (does, records, last) = left_at n b.cpu s t _ does
          (begun firing id does.before does.after (lawful does.before does.here) (removal.Kept kept) does.change) was

  begins_elsewhere : (b : Begun) (s t : SystemView R) → BeginsOn firing id b.cpu b.found s t
      → (m : ℕ) → m ≢ b.cpu → slice_get t.cpus.cpus m ≡ slice_get s.cpus.cpus m
  begins_elsewhere b s t d m ne = by b.found d
    where
      by : (found : Removal) → BeginsOn firing id b.cpu found s t → slice_get t.cpus.cpus m ≡ slice_get s.cpus.cpus m
      by (removal.Done receipt) d = ap (λ u. slice_get u.cpus m) d.0.rest ∙ get_set_other s.cpus.cpus b.cpu m d.0.after ne
      by (removal.Kept kept) d = ap (λ u. slice_get u.cpus m) d.0.rest ∙ get_set_other s.cpus.cpus b.cpu m d.0.after ne

  all_begun : (n : ℕ) (way : List Begun) (s t : SystemView R)
      → FoldsTo (λ u (b : Begun) w. Known (λ (a : Begun) x y. BeginsOn firing id a.cpu a.found x y) (λ a. a.cpu)
      (λ x. IsLawful firing.view x) begins_elsewhere b u w) s way t
      → IsLeft n s ⊎ ((p : ℕ) × (slice_get (map (λ (b : Begun). b.cpu) way) p ≡ Some n)) → IsLeft n t
  all_begun n [] s t e (inl was) = subst (λ (u : SystemView R). IsLeft n u) e was
  all_begun n [] s t e (inr (p, at)) = absurd (none_some at)
  all_begun n (b ∷ way) s t (u, k, rest) (inl was) = all_begun n way u t rest (inl (begun_left n b s u k.0 k.1 (inl was)))
  all_begun n (b ∷ way) s t (u, k, rest) (inr (zero, at)) =
      all_begun n way u t rest (inl (begun_left n b s u k.0 k.1 (inr (sym (same_some at)))))
  all_begun n (b ∷ way) s t (u, k, rest) (inr (suc p, at)) = all_begun n way u t rest (inr (p, at))

  pub quiet_begun : (kept : ℕ) (s t : SystemView R) → IsSound firing.view s → BeginsRemoval firing id (Ok (over.Kept kept)) s t
      → IsQuiet t
  quiet_begun kept s t a (inl (e, why, is, same)) n = absurd (ok_err is)
  quiet_begun kept s t a (inr (clear, (way, cpus, each, some, sum))) n = all_begun n way s t
      (folds_known (λ (b : Begun) x y. BeginsOn firing id b.cpu b.found x y) (λ b. b.cpu) (λ x. IsLawful firing.view x)
      begins_elsewhere 0
      (map (λ cpu. list_any (λ own. own == id) (ids_of cpu)) s.cpus.cpus) way s t cpus (λ j x is at. a.lawful (0 + j) x at) each)
      (by (has n id s.cpus) refl)
    where
      by : (b : Bool) → has n id s.cpus ≡ b
          → IsLeft n s ⊎ ((p : ℕ) × (slice_get (map (λ (b : Begun). b.cpu) way) p ≡ Some n))
      by true h = (let (p, at) = with_at id n s.cpus h in inr (p, ap (λ ns. slice_get ns p) cpus ∙ at))
      by false h = inl (λ yes. absurd (let odd : false ≡ true = sym h ∙ yes in cc))

  -- ---- it goes on

  polled_left : (n : ℕ) (p : Polled) (s t : SystemView R) → PollsOn firing id p.cpu p.answer s t
      → ((x : CpuView R) → IsCpu p.cpu x s.cpus → IsLawful firing.view x × (x.removal ≡ Some id)) → IsLeft n s → IsLeft n t
  polled_left n p s t d known was = by p.answer d
    where
      by : (answer : Option Receipt) → PollsOn firing id p.cpu answer s t → IsLeft n t
      by (Some receipt) (does, k, r, here, named, records, last) =
          (let (law, still) = known does.before does.here in left_at n p.cpu s t _ does
          (polled firing id does.before does.after law (Some receipt) still does.change) (inl was))
      by None (does, records, last) =
          (let (law, still) = known does.before does.here in left_at n p.cpu s t _ does
          (polled firing id does.before does.after law None still does.change) (inl was))

  all_polled : (n : ℕ) (way : List Polled) (s t : SystemView R)
      → FoldsTo (λ u (p : Polled) w. Known (λ (a : Polled) x y. PollsOn firing id a.cpu a.answer x y) (λ a. a.cpu)
      (λ x. IsLawful firing.view x × (x.removal ≡ Some id)) (polls_elsewhere firing id) p u w) s way t → IsLeft n s → IsLeft n t
  all_polled n [] s t e was = subst (λ (u : SystemView R). IsLeft n u) e was
  all_polled n (p ∷ way) s t (u, k, rest) was = all_polled n way u t rest (polled_left n p s u k.0 k.1 was)

  pub quiet_polled : (s t : SystemView R) → IsSound firing.view s → PollsRemoval firing id (Ok None) s t → IsQuiet s → IsQuiet t
  quiet_polled s t a (inl (e, why, is, same)) quiet n = absurd (ok_err is)
  quiet_polled s t a (inr (clear, (way, cpus, each, some))) quiet n = all_polled n way s t
      (folds_known (λ (p : Polled) x y. PollsOn firing id p.cpu p.answer x y) (λ p. p.cpu)
      (λ x. IsLawful firing.view x × (x.removal ≡ Some id)) (polls_elsewhere firing id) 0
      (map (is_leaving_here id) s.cpus.cpus) way s t cpus
      (λ j x is at. (
        a.lawful (0 + j) x at,
        is_leaving_open id x (same_some (sym (ap (λ o. option_map (is_leaving_here id) o) (beginning j x at))
            ∙ sym (slice_get-map (is_leaving_here id) s.cpus.cpus j) ∙ is)),
      )) each) (quiet n)
    where
      beginning : (j : ℕ) (x : CpuView R) → IsCpu (0 + j) x s.cpus → slice_get s.cpus.cpus j ≡ Some x
      beginning j x at = subst (λ n. IsCpu n x s.cpus) (let z : 0 + j ≡ j = omega arith in z) at
