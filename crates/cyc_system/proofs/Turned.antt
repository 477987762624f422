-- What a juggle keeps beside the agreement: the removals, and where the omnipresent cyclics are.
use Rattle.std.proofs.Common.{◌≡◌, ◌≢◌, ◌∙◌, ℕ, Result, zero, suc, ◌⊎◌, inl, inr, Bool, true, false, Some, None, Ok, Err, List}
use Rattle.std.proofs.Common.{[], ◌∷◌, ◌++◌, map, slice_set, option_map, refl, sym, ap, subst, arith}
use Rattle.std.specs.Prelude.{◌||◌, ◌==◌, remove}
use Rattle.std.specs.List.{FoldsTo, slice_get, list_any}
use Rattle.std.proofs.lemmas.Option.{slice_get_within}
use mathlib.Core.Logic.{dite}
use native.Mathlib.Decide.{ℕ_discrete}
use Rattle.cyc_types.specs.declared.Raise.{Ghosts as Raise}
use Rattle.cyc_types.specs.declared.refusal.JuggleReport.{JuggleReport}
use Rattle.cyc_agreement.specs.Rows.{Cyclic}
use Rattle.cyc_cpu.specs.Cpu.{CpuView}
use Rattle.cyc_cpu.specs.Gone.{PutsNot}
use Rattle.cyc_cpu.specs.Laws.{IsLawful}
use Rattle.cyc_cpu.specs.Calls.{CpuCall, CpuChanges, Fire, SoftInterrupt, Add, Place, Reprogram, AskPending, AskTotals, AskRoom}
use Rattle.cyc_cpu.specs.Calls.{Suspend, Resume}
use Rattle.cyc_cpu.specs.Calls.{Reserve, Widen, BeginRemove, PollRemove, TakeNow, AskSettled}
use Rattle.cyc_places.specs.declared.record.Placement.TheVariants as stands
use Rattle.cyc_places.specs.declared.record.Record.{Record}
use Rattle.cyc_places.specs.Places.{IsRecord, HasRisingIds, ended_on, summed, with_ended, with_placement}
use Rattle.cyc_agreement.specs.Cpus.{CpusView, IsCpu, CallOn, on, DoesAt, Works, with_cpu}
use Rattle.cyc_agreement.specs.Shifting.{moving}
use Rattle.cyc_agreement.proofs.Calling.{LeavesMark, changes_most, changes_suspended}
use Rattle.cyc_agreement.proofs.CpuSpots.{get_set_same, get_set_other}
use Rattle.cyc_agreement.specs.System.{SystemView, ids_on, ids_of, has, removal_on, is_everywhere}
use Rattle.cyc_agreement.specs.Agreement.{Agrees, Stands, most_on, suspended_on}
use Rattle.cyc_agreement.specs.Holding.{LeaveWhole}
use Rattle.cyc_types.specs.declared.refusal.Refusal.{Refusal}
use Rattle.cyc_agreement.specs.Adding.{OnlyWorks}
use Rattle.cyc_agreement.specs.Binding.{Records}
use Rattle.cyc_agreement.proofs.Lists.{among, any_insert, any_map, false_ne, false_true}
use Rattle.cyc_agreement.proofs.Spots.{same_some}
use Rattle.cyc_agreement.proofs.Who.{id_in, ids_there, ids_now, ids_elsewhere, ids_set, kept_at}
use Rattle.cyc_agreement.proofs.Recording.{one_record}
use Rattle.cyc_agreement.proofs.Removals.{IsSteady, AreSteady, steady_on, removals_kept, leaving_here}
use Rattle.cyc_system.specs.declared.turning.Turn.{Turn}
use Rattle.cyc_system.specs.declared.turning.Turn.TheVariants.{StaysBound, StaysPending, StaysRefused, Moves}
use Rattle.cyc_system.specs.GoingOffline.{quiet, Retires, EndsOffline, offline_at}
use Rattle.cyc_system.specs.Juggling.{TakesTurn, Turns}

-- ---- calls that put in no cyclic of an id

or_back : (a b : Bool) → a ≡ false → (a || b) ≡ true → b ≡ true
or_back true b e h = absurd (false_true (sym e))
or_back false b e h = h

any_less : {A : Type 0} (p : A → Bool) (xs : List A) (k : ℕ) → list_any p (remove xs k) ≡ true → list_any p xs ≡ true
any_less p [] zero h = h
any_less p [] (suc k) h = h
any_less p (x ∷ xs) zero h = by (p x)
  where
    by : (b : Bool) → (b || list_any p xs) ≡ true
    by true = refl
    by false = h
any_less p (x ∷ xs) (suc k) h = by (p x) h (any_less p xs k)
  where
    by : (b : Bool) → (b || list_any p (remove xs k)) ≡ true → (list_any p (remove xs k) ≡ true → list_any p xs ≡ true)
        → (b || list_any p xs) ≡ true
    by true e rest = refl
    by false e rest = rest e

abbrev Puts : ℕ → List CallOn → Type 0
Puts id [] = Unit {0}
Puts id (c ∷ way) = PutsNot id c.call × Puts id way

module _ {R : Type 0} (firing : Raise R) where
  same_ids : (x y : CpuView R) (id : ℕ) → y.cyclics ≡ x.cyclics → among id (ids_of y) ≡ true → among id (ids_of x) ≡ true
  same_ids x y id e h = ap (λ cs. among id (map id_in cs)) (sym e) ∙ h

  less_ids : (x y : CpuView R) (id k : ℕ) → y.cyclics ≡ remove x.cyclics k → among id (ids_of y) ≡ true
      → among id (ids_of x) ≡ true
  less_ids x y id k e h = any_map id_in (λ own. own == id) x.cyclics
      ∙ any_less (λ (c : Cyclic). c.timer.id == id) x.cyclics k (sym (any_map id_in (λ own. own == id) (remove x.cyclics k))
      ∙ ap (λ cs. among id (map id_in cs)) (sym e) ∙ h)

  back_one : (x y : CpuView R) (call : CpuCall) (id : ℕ) → IsSteady call → PutsNot id call → CpuChanges firing x call y
      → among id (ids_of y) ≡ true → among id (ids_of x) ≡ true
  back_one x y (Place own level interval moment carried) id s p d h = any_map id_in (λ q. q == id) x.cyclics
      ∙ or_back (own == id) (list_any (λ (c : Cyclic). c.timer.id == id) x.cyclics) (false_ne own id p)
      (sym (any_insert (λ (c : Cyclic). c.timer.id == id) x.cyclics d.1.position _)
      ∙ (ap (λ cs. list_any (λ (c : Cyclic). c.timer.id == id) cs) (sym d.1.cyclics)
      ∙ (sym (any_map id_in (λ q. q == id) y.cyclics) ∙ h)))
  back_one x y (Reprogram own moment (Ok done)) id s p (k, c, is, named, still, e) h =
      ap (λ ids. among id ids) (sym (ap ids_of e ∙ ids_set x.cyclics k moment c is)) ∙ h
  back_one x y (Reprogram own moment (Err e)) id s p d h = same_ids x y id (ap (λ (v : CpuView R). v.cyclics) d.2) h
  back_one x y (AskPending own (Some n)) id s p d h = same_ids x y id d.0.cyclics h
  back_one x y (AskPending own None) id s p d h = same_ids x y id (ap (λ (v : CpuView R). v.cyclics) d.1) h
  back_one x y (AskTotals own (Some t)) id s p d h = same_ids x y id d.0.cyclics h
  back_one x y (AskTotals own None) id s p d h = same_ids x y id (ap (λ (v : CpuView R). v.cyclics) d.1) h
  back_one x y (AskRoom more (Ok done)) id s p d h = same_ids x y id d.0.cyclics h
  back_one x y (AskRoom more (Err e)) id s p d h = same_ids x y id d.0.cyclics h
  back_one x y (Reserve more (Ok done)) id s p d h = same_ids x y id d.0.cyclics h
  back_one x y (Reserve more (Err e)) id s p d h = same_ids x y id d.0.cyclics h
  back_one x y (Widen more) id s p d h = same_ids x y id d.1.cyclics h
  back_one x y (TakeNow own (Ok taken)) id s p (none, (c, counts, is, polled, leaves)) h =
      less_ids x y id leaves.position leaves.cyclics h
  back_one x y (TakeNow own (Err e)) id s p d h = absurd s
  back_one x y (AskSettled true) id s p d h = same_ids x y id d.0.cyclics h
  back_one x y (AskSettled false) id s p d h = same_ids x y id d.0.cyclics h
  back_one x y Suspend id s p d h = absurd s
  back_one x y Resume id s p d h = absurd s
  back_one x y (BeginRemove own answer) id s p d h = absurd s
  back_one x y (PollRemove answer) id s p d h = absurd s
  back_one x y (Add own level when now answer) id s p d h = absurd s
  back_one x y (Fire now answer) id s p d h = absurd s
  back_one x y (SoftInterrupt level budget answer) id s p d h = absurd s

  -- a steady call neither suspends nor resumes its CPU
  steady_plain : (call : CpuCall) → IsSteady call → LeavesMark call
  steady_plain Suspend s = absurd s
  steady_plain Resume s = absurd s
  steady_plain call s = tt

  back_done : (v w : CpusView R) (c : CallOn) (id n : ℕ) → IsSteady c.call → PutsNot id c.call → DoesAt firing v c w
      → has n id w ≡ true → has n id v ≡ true
  back_done v w c id n s p d h = dite (ℕ_discrete n c.cpu)
      (λ e. ap (λ k. has k id v) e ∙ (ap (λ ids. among id ids) (ids_there v c.cpu d.before d.after d.here)
      ∙ back_one d.before d.after c.call id s p d.change
      (ap (λ ids. among id ids) (sym (ids_now v c.cpu d.before d.after d.here))
      ∙ (ap (λ k. has k id (with_cpu v c.cpu d.after)) (sym e) ∙ (ap (λ u. has n id u) (sym d.rest) ∙ h)))))
      (λ ne. ap (λ ids. among id ids) (sym (ids_elsewhere v c.cpu d.before d.after d.here n ne))
      ∙ (ap (λ u. has n id u) (sym d.rest) ∙ h))

  pub has_back : (v w : CpusView R) (way : List CallOn) (id n : ℕ) → AreSteady way → Puts id way → Works firing way v w
      → has n id w ≡ true → has n id v ≡ true
  has_back v w [] id n s p last h = ap (λ u. has n id u) last ∙ h
  has_back v w (c ∷ way) id n s p (u, does, rest) h = back_done v u c id n s.0 p.0 does (has_back u w way id n s.1 p.1 rest h)

  pub mosts_kept : (v w : CpusView R) (way : List CallOn) → AreSteady way → Works firing way v w → (n : ℕ)
      → most_on n w ≡ most_on n v
  mosts_kept v w [] s last n = ap (λ u. most_on n u) (sym last)
  mosts_kept v w (c ∷ way) s (u, d, rest) n = mosts_kept u w way s.1 rest n ∙ (ap (λ x. most_on n x) d.rest
      ∙ kept_at v c.cpu d.before d.after d.here (λ o. option_map (λ cpu. cpu.most) o)
      (ap Some (changes_most firing d.before d.after c.call d.change)) n)

  pub suspensions_kept : (v w : CpusView R) (way : List CallOn) → AreSteady way → Works firing way v w → (n : ℕ)
      → suspended_on n w ≡ suspended_on n v
  suspensions_kept v w [] s last n = ap (λ u. suspended_on n u) (sym last)
  suspensions_kept v w (c ∷ way) s (u, d, rest) n = suspensions_kept u w way s.1 rest n ∙ (ap (λ x. suspended_on n x) d.rest
      ∙ kept_at v c.cpu d.before d.after d.here (λ o. option_map (λ cpu. cpu.suspended) o)
      (ap Some (changes_suspended firing d.before d.after c.call (steady_plain c.call s.0) d.change)) n)

  -- ---- what turns keep

  pub record StillHolds (s t : SystemView R) : Type 0 where
    pub removals : (n : ℕ) → removal_on n t.cpus ≡ removal_on n s.cpus
    pub most : (n : ℕ) → most_on n t.cpus ≡ most_on n s.cpus
    pub suspended : (n : ℕ) → suspended_on n t.cpus ≡ suspended_on n s.cpus
    pub rising : HasRisingIds s.records → HasRisingIds t.records
    -- an omnipresent cyclic was one, and has no CPU that it had not
    pub omni : HasRisingIds s.records → (k : ℕ) (r : Record) → IsRecord t.records k r → is_everywhere r.placement ≡ true
        → (j : ℕ) × (q : Record) × IsRecord s.records j q × (q.id ≡ r.id) × (is_everywhere q.placement ≡ true)
        × ((n : ℕ) → has n r.id t.cpus ≡ true → has n r.id s.cpus ≡ true)

  pub still_then : (s t u : SystemView R) → StillHolds s t → StillHolds t u → StillHolds s u
  still_then s t u a b = record {
    removals = λ n. b.removals n ∙ a.removals n;
    most = λ n. b.most n ∙ a.most n;
    suspended = λ n. b.suspended n ∙ a.suspended n;
    rising = λ h. b.rising (a.rising h);
    omni = λ h k r is e. (let (j, q, at, named, every, less) = b.omni (a.rising h) k r is e in
        let (i, p, own, same, whole, before) = a.omni h j q at every in (
          i,
          p,
          own,
          same ∙ named,
          whole,
          λ n now. ap (λ id. has n id s.cpus) (sym named)
              ∙ before n (ap (λ id. has n id t.cpus) named ∙ less n now),
        ));
  }

  -- calls that put in nothing, and no record changed
  pub still_calls : (s t : SystemView R) (way : List CallOn) → AreSteady way → ((id : ℕ) → Puts id way)
      → OnlyWorks firing way s t → StillHolds s t
  still_calls s t way steady puts (works, records, last) = record {
    removals = removals_kept firing s.cpus t.cpus way steady works;
    most = mosts_kept s.cpus t.cpus way steady works;
    suspended = suspensions_kept s.cpus t.cpus way steady works;
    rising = λ h. subst HasRisingIds (sym records) h;
    omni = λ h k r is every. (
      k,
      r,
      subst (λ rs. IsRecord rs k r) records is,
      refl,
      every,
      λ n now. has_back s.cpus t.cpus way r.id n steady (puts r.id) works now,
    );
  }

  still_same : (s t : SystemView R) → t ≡ s → StillHolds s t
  still_same s t e = still_calls s t [] tt (λ id. tt)
      (ap (λ (x : SystemView R). x.cpus) (sym e), ap (λ (x : SystemView R). x.records) e, ap (λ (x : SystemView R). x.last) e)

  -- a record before it was changed
  pub was : (rs : List Record) (k j : ℕ) (r x q : Record) → IsRecord rs k r → x.id ≡ r.id → IsRecord (slice_set rs k x) j q
      → ((j ≡ k) × (q ≡ x)) ⊎ ((j ≢ k) × IsRecord rs j q)
  was rs k j r x q is same at = dite (ℕ_discrete j k)
      (λ e. inl (
        e,
        same_some (sym at ∙ (ap (λ i. slice_get (slice_set rs k x) i) e
            ∙ get_set_same rs k x (slice_get_within rs k r is))),
      ))
      (λ ne. inr (ne, sym (get_set_other rs k j x ne) ∙ at))

  pub rising_set : (rs : List Record) (k : ℕ) (r x : Record) → IsRecord rs k r → x.id ≡ r.id → HasRisingIds rs
      → HasRisingIds (slice_set rs k x)
  rising_set rs k r x is same h i j p q less at bt =
      let (p', pa, pe) = old i p (was rs k i r x p is same at) in let (q', qa, qe) = old j q (was rs k j r x q is same bt) in
      let l = h i j p' q' less pa qa in omega (arith, l, pe, qe)
    where
      old : (m : ℕ) (a : Record) → ((m ≡ k) × (a ≡ x)) ⊎ ((m ≢ k) × IsRecord rs m a) → (b : Record) × IsRecord rs m b
          × (a.id ≡ b.id)
      old m a (inl (e, f)) = (r, subst (λ n. IsRecord rs n r) (sym e) is, ap (λ (z : Record). z.id) f ∙ same)
      old m a (inr (ne, at)) = (a, at, refl)

  still_moved : (s t : SystemView R) (id d source : ℕ) (taken : _) → Works firing (moving id source d taken) s.cpus t.cpus
      → Records id (stands.On d false) s t → StillHolds s t
  still_moved s t id d source taken works (k, r, here, named, records, last) = record {
    removals = removals_kept firing s.cpus t.cpus (moving id source d taken) steady works;
    most = mosts_kept s.cpus t.cpus (moving id source d taken) steady works;
    suspended = suspensions_kept s.cpus t.cpus (moving id source d taken) steady works;
    rising = λ h. subst HasRisingIds (sym records) (rising_set s.records k r (with_placement (stands.On d false) r) here refl h);
    omni = λ h j q is every. omni h j q every
        (was s.records k j r (with_placement (stands.On d false) r) q here refl (subst (λ rs. IsRecord rs j q) records is));
  }
    where
      steady : AreSteady (moving id source d taken)
      steady = (tt, (tt, (tt, (tt, (tt, tt)))))

      omni : HasRisingIds s.records → (j : ℕ) (q : Record) → is_everywhere q.placement ≡ true
          → ((j ≡ k) × (q ≡ with_placement (stands.On d false) r)) ⊎ ((j ≢ k) × IsRecord s.records j q)
          → (i : ℕ) × (p : Record) × IsRecord s.records i p × (p.id ≡ q.id) × (is_everywhere p.placement ≡ true)
          × ((n : ℕ) → has n q.id t.cpus ≡ true → has n q.id s.cpus ≡ true)
      omni h j q every (inl (e, f)) = absurd (false_true (sym (ap (λ (p : Record). is_everywhere p.placement) f) ∙ every))
      omni h j q every (inr (ne, at)) =
          let other : id ≢ q.id = λ same. ne (one_record s.records k j r q h here at (sym (named ∙ same))) in (
            j,
            q,
            at,
            refl,
            every,
            λ n now. has_back s.cpus t.cpus (moving id source d taken) q.id n steady
                (tt, (tt, (tt, (tt, (other, tt))))) works now,
          )

  pub still_turn : (n id : ℕ) (turn : Turn) (s t : SystemView R) → TakesTurn firing n id turn s t → StillHolds s t
  still_turn n id StaysBound s t (placement, same) = still_same s t same
  still_turn n id StaysPending s t (placement, found, some, only) =
      still_calls s t (on n (AskPending id (Some found)) ∷ []) (tt, tt) (λ q. (tt, tt)) only
  still_turn n id StaysRefused s t (placement, d, chosen, e, only) =
      still_calls s t (on n (AskPending id (Some 0)) ∷ on d (Reserve 1 (Err e)) ∷ []) (tt, (tt, tt)) (λ q. (tt, (tt, tt))) only
  still_turn n id Moves s t (placement, d, chosen, (taken, works), records) = still_moved s t id d n taken works records

  pub still_turns : (n : ℕ) (ids : List ℕ) (report : JuggleReport) (s t : SystemView R) → Turns firing n ids report s t
      → StillHolds s t
  still_turns n [] report s t (none, same) = still_same s t same
  still_turns n (id ∷ ids) report s t (turn, u, rest, first, counted, more) =
      still_then s u t (still_turn n id turn s u first) (still_turns n ids rest u t more)

  -- a removal that was open on every CPU of its cyclic still is
  pub whole_still : (s t : SystemView R) → StillHolds s t → Agrees t → HasRisingIds s.records → HasRisingIds t.records
      → ((n : ℕ) (cpu : CpuView R) → IsCpu n cpu t.cpus → IsLawful firing.view cpu) → LeaveWhole s.cpus → LeaveWhole t.cpus
  whole_still s t h agrees rising now lawful whole m n id e here =
      let (k, r, is, named, there, on) = agrees.known n id here in by k r is named there (is_everywhere r.placement) refl
    where
      same_placement : (a b : ℕ) (r q : Record) → Stands a r.placement → Stands b q.placement → r ≡ q
          → is_everywhere r.placement ≡ false → a ≡ b
      same_placement a b r q p x same single = alike r.placement p (subst (λ (z : Record). Stands b z.placement) (sym same) x)
          single
        where
          alike : (placement : _) → Stands a placement → Stands b placement → is_everywhere placement ≡ false → a ≡ b
          alike (stands.On c bound) p x single = sym p ∙ x
          alike (stands.Everywhere first skew) p x single = absurd (false_true (sym single))

      by : (k : ℕ) (r : Record) → IsRecord t.records k r → r.id ≡ id → Stands n r.placement → (b : Bool)
          → is_everywhere r.placement ≡ b
          → removal_on n t.cpus ≡ Some id
      by k r is named there true every =
          let (j, q, at, same, whole_before, back) = h.omni rising k r is every in
          h.removals n ∙ whole m n id (sym (h.removals m) ∙ e) (ap (λ i. has n i s.cpus) (sym named)
          ∙ back n (ap (λ i. has n i t.cpus) named ∙ here))
      by k r is named there false single =
          let (j, q, at, known, stands_m, up) = agrees.known m id (leaving_here firing.view t.cpus m id lawful e) in
          let position = one_record t.records k j r q now is at (known ∙ sym named) in
          let same : r ≡ q = same_some (sym (subst (λ i. IsRecord t.records i r) (sym position) is) ∙ at) in
          ap (λ i. removal_on i t.cpus) (same_placement n m r q there stands_m same single) ∙ e

  pub still_retired : (n id : ℕ) (s t : SystemView R) → Retires firing n s id t → StillHolds s t
  still_retired n id s t (taken, does, k, r, here, named, records, last) = record {
    removals = removals_kept firing s.cpus t.cpus (on n (TakeNow id (Ok taken)) ∷ []) (tt, tt) (t.cpus, does, refl);
    most = mosts_kept s.cpus t.cpus (on n (TakeNow id (Ok taken)) ∷ []) (tt, tt) (t.cpus, does, refl);
    suspended = suspensions_kept s.cpus t.cpus (on n (TakeNow id (Ok taken)) ∷ []) (tt, tt) (t.cpus, does, refl);
    rising = λ h. subst HasRisingIds (sym records) (rising_set s.records k r _ here refl h);
    omni = λ h j q is every. by j q every (was s.records k j r _ q here refl (subst (λ rs. IsRecord rs j q) records is));
  }
    where
      back : (i m : ℕ) → has m i t.cpus ≡ true → has m i s.cpus ≡ true
      back i m now = has_back s.cpus t.cpus (on n (TakeNow id (Ok taken)) ∷ []) i m (tt, tt) (tt, tt) (t.cpus, does, refl) now

      by : (j : ℕ) (q : Record) → is_everywhere q.placement ≡ true
          → ((j ≡ k) × (q ≡ with_ended n (summed (ended_on n r) taken.sent) r)) ⊎ ((j ≢ k) × IsRecord s.records j q)
          → (i : ℕ) × (p : Record) × IsRecord s.records i p × (p.id ≡ q.id) × (is_everywhere p.placement ≡ true)
          × ((m : ℕ) → has m q.id t.cpus ≡ true → has m q.id s.cpus ≡ true)
      by j q every (inl (e, f)) = (
        k,
        r,
        here,
        sym (ap (λ (p : Record). p.id) f),
        sym (ap (λ (p : Record). is_everywhere p.placement) f) ∙ every,
        λ m now. back q.id m now,
      )
      by j q every (inr (ne, at)) = (j, q, at, refl, every, λ m now. back q.id m now)

  pub still_retires : (n : ℕ) (ids : List ℕ) (s t : SystemView R) → FoldsTo (Retires firing n) s ids t → StillHolds s t
  still_retires n [] s t e = still_same s t (sym e)
  still_retires n (id ∷ ids) s t (u, first, rest) = still_then s u t (still_retired n id s u first) (still_retires n ids u t rest)

  -- the CPU goes offline
  still_switched : (n : ℕ) (s t : SystemView R) → t ≡ offline_at n s → StillHolds s t
  still_switched n s t e = record {
    removals = λ m. ap (λ (x : SystemView R). removal_on m x.cpus) e;
    most = λ m. ap (λ (x : SystemView R). most_on m x.cpus) e;
    suspended = λ m. ap (λ (x : SystemView R). suspended_on m x.cpus) e;
    rising = λ h. subst HasRisingIds (sym (ap (λ (x : SystemView R). x.records) e)) h;
    omni = λ h k r is every. (
      k,
      r,
      subst (λ rs. IsRecord rs k r) (ap (λ (x : SystemView R). x.records) e) is,
      refl,
      every,
      λ m now. sym (ap (λ (x : SystemView R). has m r.id x.cpus) e) ∙ now,
    );
  }

  outs_quiet : (id n : ℕ) (ids : List ℕ) → Puts id (quiet n ids)
  outs_quiet id n [] = tt
  outs_quiet id n (q ∷ ids) = (tt, outs_quiet id n ids)

  steady_quiet : (n : ℕ) (ids : List ℕ) → AreSteady (quiet n ids)
  steady_quiet n [] = tt
  steady_quiet n (q ∷ ids) = (tt, steady_quiet n ids)

  outs_found : (id n : ℕ) (ids : List ℕ) (q found : ℕ) → Puts id (quiet n ids ++ on n (AskPending q (Some found)) ∷ [])
  outs_found id n [] q found = (tt, tt)
  outs_found id n (x ∷ ids) q found = (tt, outs_found id n ids q found)

  pub still_asked : (n : ℕ) (s t : SystemView R) → OnlyWorks firing (quiet n (ids_on n s.cpus)) s t → StillHolds s t
  still_asked n s t only = still_calls s t (quiet n (ids_on n s.cpus)) (steady_quiet n (ids_on n s.cpus))
      (λ id. outs_quiet id n (ids_on n s.cpus)) only

  pub still_left : (n : ℕ) (report : JuggleReport) (answer : Result (Unit {0}) Refusal) (s t : SystemView R)
      → EndsOffline firing n report answer s t → StillHolds s t
  still_left n report answer s t (inl (left, is, same)) = still_same s t same
  still_left n report answer s t (inr (inl (none, is, (before, id, after, found, some, only)))) =
      still_calls s t (quiet n before ++ on n (AskPending id (Some found)) ∷ [])
      (steady_on (quiet n before) _ (steady_quiet n before) (tt, tt)) (λ q. outs_found q n before id found) only
  still_left n report answer s t (inr (inr (none, is, (u, only, empty, each, off)))) =
      still_then s u t (still_asked n s u only)
      (still_then u empty t (still_retires n (ids_on n s.cpus) u empty each) (still_switched n empty t off))
