-- Components leave the source, one after the other.
use Rattle.std.proofs.Common.{◌≡◌, ◌≢◌, ℕ, zero, suc, ◌+◌, ◌≤◌, Bool, true, false, cond, eqb, not, Option, Some, None, Ok, List}
use Rattle.std.proofs.Common.{[], ◌∷◌, length, map, filter, take, drop, slice_set, refl, sym, ap, ◌∙◌, subst, arith}
use Rattle.std.specs.Prelude.{remove}
use Rattle.std.specs.List.{slice_get, FoldsTo}
use Rattle.std.specs.Option.{option_and_then, option_map}
use Rattle.std.proofs.lemmas.Option.{slice_get-map, slice_get-get_or, slice_get_within}
use Rattle.std.proofs.lemmas.List.{length-set, get_or-set_other}
use mathlib.Core.Logic.{dite}
use native.Mathlib.Decide.{ℕ_discrete}
use Rattle.cyc_types.specs.declared.Raise.{Ghosts as Raise}
use Rattle.cyc_types.specs.Firing.{FiringView, Stay, Loads, Marks, Polls, seen_in, seen_of, saw}
use Rattle.cyc_types.specs.Runs.{Goes}
use Rattle.cyc_types.specs.declared.firing.Sent.{Sent}
use Rattle.cyc_types.specs.declared.level.Level.TheVariants.{Low, Lock}
use Rattle.cyc_types.proofs.Runs.{folds_more}
use Rattle.cyc_types.specs.Counting.{no_counts}
use Rattle.cyc_types.proofs.Facts.{not_false}
use Rattle.cyc_cpu.specs.Rows.{Cyclic}
use Rattle.cyc_cpu.specs.Acts.{same_level}
use Rattle.cyc_cpu.specs.Cpu.{CpuView, IsCyclic, seen_at}
use Rattle.cyc_cpu.specs.declared.moving.Taken.{Taken}
use Rattle.cyc_cpu.specs.Moving.{TakesNow}
use Rattle.cyc_cpu.specs.Calls.{TakeNow}
use Rattle.cyc_cpu.proofs.Inquiring.{load_lowers}
use Rattle.cyc_places.specs.declared.record.Record.{Record}
use Rattle.cyc_places.specs.Places.{RecordsView, IsRecord, HasRisingIds, ended_on, summed, with_ended}
use Rattle.cyc_agreement.specs.Cpus.{CpusView, IsCpu, OfCpu, with_cpu, on, DoesAt}
use Rattle.cyc_agreement.specs.Shifting.{MayLeave}
use Rattle.cyc_agreement.proofs.CpuSpots.{of_cpu, cpu_there, get_set_same, get_set_other}
use Rattle.cyc_agreement.specs.System.{ids_of, ids_on, removal_on, is_everywhere, is_omnipresent}
use Rattle.cyc_agreement.specs.Agreement.{Agrees, most_on, suspended_on}
use Rattle.cyc_agreement.proofs.Lists.{false_true}
use Rattle.cyc_agreement.proofs.Spots.{same_some, none_some}
use Rattle.cyc_agreement.proofs.Who
use Rattle.cyc_agreement.proofs.Shifted.{Rise, map_remove}
use Rattle.cyc_system.specs.Juggling.{system_of, single_ids}
use Rattle.cyc_system.specs.GoingOffline.{Retires}
use Rattle.cyc_system.specs.Walking.{HaveNoCalls}
use Rattle.cyc_system.proofs.Here.{omni_is}
use Rattle.cyc_system.proofs.ListsUpTo.{one_position, take_more, first_at, rest_after}
use Rattle.cyc_system.proofs.Places.{has_at, cyclic_of}
use Rattle.cyc_system.proofs.Stepped.{Left, beside, sized}

-- ---- what was seen where a cyclic is taken

clear_less : (b : Bool) (o : Option Stay) → seen_in (cond b None o) ≤ seen_in o
clear_less true o = omega arith
clear_less false o = omega arith

module _ {R : Type 0} (firing : Raise R) where
  end_lowers : (b : Bool) (id j : ℕ) (counts : Sent) (e f : R)
      → Goes firing e (cond b (Loads id 0 ∷ Marks id 0 ∷ Polls id (Some counts) ∷ []) []) f
      → seen_of j (firing.view f) ≤ seen_of j (firing.view e)
  end_lowers false id j counts e f same = let x = ap (λ r. seen_of j (firing.view r)) same in omega (arith, x)
  end_lowers true id j counts e f (k, (s1, l1), (m, (s2, l2), (n, (s3, l3), last))) =
      let a = load_lowers (firing.view e) (firing.view k) id 0 j l1 in
      let b = load_lowers (firing.view k) (saw id 0 (firing.view k)) id 0 j (l2.0, refl) in
      let c : seen_of j (firing.view m) ≡ seen_of j (saw id 0 (firing.view k)) = ap (λ (v : FiringView). seen_of j v) l2.1 in
      let d = clear_less (eqb j id) ((firing.view m).stays j) in
      let g : seen_of j (firing.view n) ≡ seen_in (cond (eqb j id) None ((firing.view m).stays j)) =
      ap (λ (v : FiringView). seen_of j v) l3.1
      in
      let h = ap (λ r. seen_of j (firing.view r)) last in
      omega (arith, a, b, c, d, g, h)

  pub taken_lowers : (id j : ℕ) (taken : Taken) (x y : CpuView R) → TakesNow firing id taken x y
      → seen_at firing.view j y ≤ seen_at firing.view j x
  taken_lowers id j taken x y (c, counts, is, polled, l) =
      let lock = end_lowers (same_level Lock c.timer.level) id j counts x.lock y.lock l.goes.0 in
      let low = end_lowers (same_level Low c.timer.level) id j counts x.low y.low l.goes.1 in omega (arith, lock, low)

-- a cyclic that is still there was there
pub removed_was : (cs : List Cyclic) (p k : ℕ) (c : Cyclic) → IsCyclic (remove cs p) k c → (j : ℕ) × IsCyclic cs j c
removed_was [] zero k c (low, is) = absurd (omega (arith, low))
removed_was [] (suc p) k c (low, is) = absurd (omega (arith, low))
removed_was (x ∷ cs) zero k c (low, is) = (suc k, (omega (arith, low), is))
removed_was (x ∷ cs) (suc p) zero c (low, is) = (0, (omega arith, is))
removed_was (x ∷ cs) (suc p) (suc k) c (low, is) = let (j, (less, same)) = removed_was cs p k c (omega (arith, low), is) in
    (suc j, (omega (arith, less), same))

-- the source after a component was taken
pub taken_off : {R : Type 0} (firing : Raise R) (source position id : ℕ) (taken : Taken)
    (v w : CpusView R) → Rise (ids_on source v)
    → slice_get (ids_on source v) position ≡ Some id → DoesAt firing v (on source (TakeNow id (Ok taken))) w
    → Left source position v w
taken_off firing source position id taken v w rise spot takes =
    let (c, counts, is, polled, l) = takes.change.1 in
    let before : ids_on source v ≡ ids_of takes.before = Who.ids_there v source takes.before takes.after takes.here in
    let spot2 : slice_get (ids_on source v) l.position ≡ Some id = ap (λ ids. slice_get ids l.position) before
    ∙ slice_get-map Who.id_in takes.before.cyclics l.position
    ∙ ap (option_map Who.id_in) (slice_get-get_or takes.before.cyclics l.position c l.here.0 ∙ ap Some l.here.1)
    ∙ ap Some l.named in
    let own : l.position ≡ position = one_position (ids_on source v) l.position position id rise spot2 spot in record {
      ids = ap (λ u. ids_on source u) takes.rest ∙ Who.ids_now v source takes.before takes.after takes.here
          ∙ ap (λ cs. map Who.id_in cs) l.cyclics ∙ map_remove Who.id_in takes.before.cyclics l.position
          ∙ (λ i. remove (sym before i) (own i));
      still = ap (λ u. removal_on source u) takes.rest ∙ Who.removal_now v source takes.before takes.after takes.here ∙ l.removal;
      online = ap (λ (u : CpusView _). u.online) takes.rest;
      there = sized source _ v w takes;
    }

-- none of a list passes
pub filtered_none : {A : Type 0} (p : A → Bool) (xs : List A) (k : ℕ) (x : A) → filter p xs ≡ [] → slice_get xs k ≡ Some x
    → p x ≡ false
filtered_none p [] k x e at = absurd (none_some at)
filtered_none {A} p (y ∷ ys) k x e at = by (p y) refl e k (filtered_none p ys) at
  where
    by : (b : Bool) → p y ≡ b → cond b (y ∷ filter p ys) (filter p ys) ≡ [] → (k : ℕ)
        → ((k : ℕ) (z : A) → filter p ys ≡ [] → slice_get ys k ≡ Some z → p z ≡ false)
        → slice_get (y ∷ ys) k ≡ Some x → p x ≡ false
    by true is odd k others at = absurd (let impossible : y ∷ filter p ys ≡ [] = odd in cc)
    by false is rest zero others at = ap p (sym (same_some at)) ∙ is
    by false is rest (suc k) others at = others k x rest at

-- a record of which at most the counts of the source have changed, where it is omnipresent
pub record SameBeside (source : ℕ) (r q : Record) : Type 0 where
  pub id : q.id ≡ r.id
  pub placement : q.placement ≡ r.placement
  pub ended : (m : ℕ) → m ≢ source → ended_on m q ≡ ended_on m r
  pub single : is_everywhere r.placement ≡ false → q ≡ r

module _ {R : Type 0} (firing : Raise R) (source : ℕ) (v : CpusView R)
    (rs : RecordsView) where
  -- the first `done` components of the source have left it
  pub record Retired (done : ℕ) (w : CpusView R) (qs : RecordsView) : Type 0 where
    pub run : (last : ℕ) → FoldsTo (Retires firing source) (system_of v rs last) (take done (ids_on source v))
        (system_of w qs last)
    pub ids : ids_on source w ≡ drop done (ids_on source v)
    pub elsewhere : (m : ℕ) → m ≢ source → slice_get w.cpus m ≡ slice_get v.cpus m
    pub online : w.online ≡ v.online
    pub there : length w.cpus ≡ length v.cpus
    pub still : removal_on source w ≡ None
    pub most : (n : ℕ) → most_on n w ≡ most_on n v
    pub suspended : (n : ℕ) → suspended_on n w ≡ suspended_on n v
    pub quiet_here : OfCpu source (HaveNoCalls firing.view) w
    pub long : length qs.list ≡ length rs.list
    pub forth : (j : ℕ) (r : Record) → IsRecord rs.list j r → (q : Record) × IsRecord qs.list j q × SameBeside source r q
    pub fresh : (j p : ℕ) (q : Record) → IsRecord qs.list j q → slice_get (ids_on source w) p ≡ Some q.id
        → ended_on source q ≡ no_counts

  pub retired_none : (last : ℕ) → Agrees (system_of v rs last) → removal_on source v ≡ None
      → OfCpu source (HaveNoCalls firing.view) v
      → Retired 0 v rs
  retired_none last a still quiet = record {
    run = λ l. refl;
    ids = refl;
    elsewhere = λ m ne. refl;
    online = refl;
    there = refl;
    still = still;
    most = λ n. refl;
    suspended = λ n. refl;
    quiet_here = quiet;
    long = refl;
    forth = λ j r is. (r, is, record { id = refl; placement = refl; ended = λ m ne. refl; single = λ e. refl });
    fresh = λ j p q is spot. a.ended j source q is (has_at v source p q.id spot);
  }

  -- the next component can leave, and its record has no counts of the source
  module _ (done id : ℕ) (w : CpusView R) (qs : RecordsView) (i : Retired done w qs)
      (spot : slice_get (ids_on source w) 0 ≡ Some id) where
    pub may_leave : (cpu : CpuView R) → IsCpu source cpu w → MayLeave firing.view id cpu
    may_leave cpu at = (let (k, c, is, named) = cyclic_of w source 0 id cpu at spot in record {
      here = (k, c, is, named);
      still = sym (ap (λ o. option_and_then (λ (x : CpuView R). x.removal) o) at) ∙ i.still;
      quiet = ap (λ j. seen_at firing.view j cpu) (sym named) ∙ i.quiet_here cpu at k c is;
    })

    pub record_there : (last : ℕ) → Agrees (system_of v rs last) → (k : ℕ) × (q : Record) × IsRecord qs.list k q × (q.id ≡ id)
        × (ended_on source q ≡ no_counts)
    record_there last a =
        let (k, r, is, named, stands, on) = a.known source id
        (has_at v source done id (first_at (ids_on source w) (ids_on source v) 0 done id i.ids spot)) in
        let (q, at, same) = i.forth k r is in
        (k, q, at, same.id ∙ named, i.fresh k 0 q at (spot ∙ ap Some (sym (same.id ∙ named))))

  module _ (components : single_ids source (system_of v rs 0) ≡ []) (rising : HasRisingIds rs.list) where
    -- each cyclic of the source is omnipresent
    pub omni_here : (p id : ℕ) → slice_get (ids_on source v) p ≡ Some id → is_omnipresent id (system_of v rs 0) ≡ true
    omni_here p id spot = not_false (is_omnipresent id (system_of v rs 0))
        (filtered_none (λ j. not (is_omnipresent j (system_of v rs 0))) (ids_on source v) p id components spot)

    pub everywhere_here : (p k : ℕ) (r : Record) → slice_get (ids_on source v) p ≡ Some r.id → IsRecord rs.list k r
        → is_everywhere r.placement ≡ true
    everywhere_here p k r spot is = sym (omni_is (system_of v rs 0) r.id k r rising is refl) ∙ omni_here p r.id spot

    module _ (done id : ℕ) (w x : CpusView R) (qs ps : RecordsView) (i : Retired done w qs) (rise : Rise (ids_on source w))
        (spot : slice_get (ids_on source w) 0 ≡ Some id)
        (did : (last : ℕ) → Retires firing source (system_of w qs last) id (system_of x ps last)) where
      first : slice_get (ids_on source v) done ≡ Some id
      first = first_at (ids_on source w) (ids_on source v) 0 done id i.ids spot

      pub retired_more : Retired (done + 1) x ps
      retired_more =
          let (taken, takes, k, r, is, named, list, last) = did 0 in
          let off = taken_off firing source 0 id taken w x rise spot takes in
          let (c, counts, is_taken, polled, l) = takes.change.1 in
          let ids_now : ids_on source x ≡ drop 1 (ids_on source w) = off.ids ∙ cut (ids_on source w) in
          let kept : (m : ℕ) → most_on m x ≡ most_on m w = λ m. ap (λ u. most_on m u) takes.rest
          ∙ Who.kept_at w source takes.before takes.after takes.here (λ o. option_map (λ (cpu : CpuView R). cpu.most) o)
          (ap Some l.most) m in
          let kept_mark : (m : ℕ) → suspended_on m x ≡ suspended_on m w = λ m. ap (λ u. suspended_on m u) takes.rest
          ∙ Who.kept_at w source takes.before takes.after takes.here (λ o. option_map (λ (cpu : CpuView R). cpu.suspended) o)
          (ap Some l.suspended) m in
          record {
            run = λ n. subst (λ ids. FoldsTo (Retires firing source) (system_of v rs n) ids (system_of x ps n))
                (sym (take_more (ids_on source v) done id first))
                (folds_more (Retires firing source) (system_of v rs n) (take done (ids_on source v)) (system_of w qs n) id
                (system_of x ps n) (i.run n) (did n));
            ids = ids_now ∙ rest_after (ids_on source w) (ids_on source v) 0 done id i.ids spot;
            elsewhere = λ m ne. beside source m _ w x ne takes ∙ i.elsewhere m ne;
            online = off.online ∙ i.online;
            there = off.there ∙ i.there;
            still = off.still;
            most = λ n. kept n ∙ i.most n;
            suspended = λ n. kept_mark n ∙ i.suspended n;
            quiet_here = subst (λ u. OfCpu source (HaveNoCalls firing.view) u) (sym takes.rest)
                (of_cpu source (HaveNoCalls firing.view) takes.after (with_cpu w source takes.after)
                (cpu_there source takes.before takes.after w takes.here)
                (λ j d at. (let (b, was) = removed_was takes.before.cyclics l.position j d
                (subst (λ cs. IsCyclic cs j d) l.cyclics at) in
                let z = i.quiet_here takes.before takes.here b d was in let low =
                taken_lowers firing id d.timer.id taken takes.before takes.after takes.change.1 in
                omega (arith, z, low))));
            long = ap length list ∙ length-set qs.list k _ ∙ i.long;
            forth = λ j q at. forth_at k r (summed (ended_on source r) taken.sent) is named list j q at (i.forth j q at);
            fresh = λ j p q at spot2. fresh_at k r (summed (ended_on source r) taken.sent) is named list j p q at (sym (past p)
                ∙ ap (λ ids. slice_get ids p) (sym ids_now) ∙ spot2);
          }
        where
          cut : (ids : List ℕ) → remove ids 0 ≡ drop 1 ids
          cut [] = refl
          cut (y ∷ ys) = refl

          past : (p : ℕ) → slice_get (drop 1 (ids_on source w)) p ≡ slice_get (ids_on source w) (suc p)
          past p = by (ids_on source w)
            where
              by : (ids : List ℕ) → slice_get (drop 1 ids) p ≡ slice_get ids (suc p)
              by [] = refl
              by (y ∷ ys) = refl

          changed_is : (k : ℕ) (r : Record) (counts : Sent) → IsRecord qs.list k r
              → ps.list ≡ slice_set qs.list k (with_ended source counts r) → IsRecord ps.list k (with_ended source counts r)
          changed_is k r counts is list = ap (λ rs. slice_get rs k) list
              ∙ get_set_same qs.list k (with_ended source counts r) (slice_get_within qs.list k r is)

          other_is : (k j : ℕ) (r : Record) (counts : Sent) → j ≢ k → ps.list ≡ slice_set qs.list k (with_ended source counts r)
              → slice_get ps.list j ≡ slice_get qs.list j
          other_is k j r counts ne list = ap (λ rs. slice_get rs j) list
              ∙ get_set_other qs.list k j (with_ended source counts r) ne

          forth_at : (k : ℕ) (r : Record) (counts : Sent) → IsRecord qs.list k r → r.id ≡ id
              → ps.list ≡ slice_set qs.list k (with_ended source counts r)
              → (j : ℕ) (q : Record) → IsRecord rs.list j q → ((b : Record) × IsRecord qs.list j b × SameBeside source q b)
              → (b : Record) × IsRecord ps.list j b × SameBeside source q b
          forth_at k r counts is named list j q at (b, here, same) = dite (ℕ_discrete j k)
              (λ e. (let own : b ≡ r = same_some (sym here ∙ ap (λ n. slice_get qs.list n) e ∙ is) in
              let all : is_everywhere q.placement ≡ true =
              everywhere_here done j q (first ∙ ap Some (sym named ∙ ap (λ (y : Record). y.id) (sym own) ∙ same.id)) at in (
                with_ended source counts r,
                ap (λ n. slice_get ps.list n) e ∙ changed_is k r counts is list,
                record {
                  id = ap (λ (y : Record). y.id) (sym own) ∙ same.id;
                  placement = ap (λ (y : Record). y.placement) (sym own) ∙ same.placement;
                  ended = λ m ne. get_or-set_other r.ended source m counts no_counts ne
                      ∙ ap (λ (y : Record). ended_on m y) (sym own) ∙ same.ended m ne;
                  single = λ f. absurd (false_true (sym f ∙ all));
                },
              )))
              (λ ne. (b, other_is k j r counts ne list ∙ here, same))

          fresh_at : (k : ℕ) (r : Record) (counts : Sent) → IsRecord qs.list k r → r.id ≡ id
              → ps.list ≡ slice_set qs.list k (with_ended source counts r)
              → (j p : ℕ) (q : Record) → IsRecord ps.list j q → slice_get (ids_on source w) (suc p) ≡ Some q.id
              → ended_on source q ≡ no_counts
          fresh_at k r counts is named list j p q at spot2 = dite (ℕ_discrete j k)
              (λ e. (let own : with_ended source counts r ≡ q =
              same_some (sym (changed_is k r counts is list) ∙ ap (λ n. slice_get ps.list n) (sym e) ∙ at) in
              let odd = one_position (ids_on source w) 0 (suc p) id rise spot
              (spot2 ∙ ap Some (ap (λ (y : Record). y.id) (sym own) ∙ named)) in
              absurd (omega (arith, odd))))
              (λ ne. i.fresh j (suc p) q (sym (other_is k j r counts ne list) ∙ at) spot2)
