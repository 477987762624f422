-- No call changes the counts of an id but a fire and the answer of its removal.
use Rattle.std.proofs.Common.{◌≡◌, ◌∙◌, ◌==◌, ℕ, suc, ◌+◌, ◌<◌, inl, inr, Bool, true, false, cond, Some, Result, Ok, Err, List}
use Rattle.std.proofs.Common.{[], ◌∷◌, ◌++◌, length, map, filter, replicate, slice_set, refl, sym, ap, subst, arith}
use Rattle.std.specs.Prelude.{sum_by}
use Rattle.std.specs.List.{slice_get, FoldsTo}
use Rattle.std.proofs.lemmas.List.{length-set}
use Rattle.std.proofs.lemmas.List.Sums.{sum_by-cons, sum_by-append}
use Rattle.std.proofs.lemmas.List.Folds.{sum_by-replicate}
use Rattle.std.proofs.lemmas.Option.{slice_get-get_or, slice_get_within}
use Rattle.std.proofs.lemmas.Bool.{and_parts}
use mathlib.Core.Logic.{dite}
use native.Mathlib.Decide.{ℕ_discrete}
use Rattle.cyc_types.specs.declared.Raise.{Ghosts as Raise}
use Rattle.cyc_types.specs.Series.{first}
use Rattle.cyc_types.specs.declared.firing.Sent.{Sent}
use Rattle.cyc_types.specs.declared.level.Level.{Level}
use Rattle.cyc_types.specs.declared.moment.When.{When}
use Rattle.cyc_types.specs.declared.refusal.JuggleReport.{JuggleReport}
use Rattle.cyc_types.specs.declared.refusal.Refusal.{Refusal}
use Rattle.cyc_types.specs.Counting.{no_counts}
use Rattle.cyc_cpu.specs.declared.moving.Taken.{Taken}
use Rattle.cyc_cpu.specs.Calls.{TakeNow, Reserve, Widen, AskPending, Reprogram as CpuReprogram}
use Rattle.cyc_places.specs.declared.record.Placement.{Placement}
use Rattle.cyc_places.specs.declared.record.Placement.TheVariants as stands
use Rattle.cyc_places.specs.declared.record.Record.{Record}
use Rattle.cyc_places.specs.Places.{IsRecord, summed, new_record, with_placement, with_ended, ended_on, is_everywhere}
use Rattle.cyc_system.specs.Cpus.{CpusView, CallOn, on, Works, online_cpus}
use Rattle.cyc_system.specs.Shifting.{moving}
use Rattle.cyc_system.proofs.CpusSpots.{get_set_same, get_set_other}
use Rattle.cyc_system.specs.System.{SystemView, ids_on}
use Rattle.cyc_system.specs.Adding.{OnlyWorks, add_request, Adds, entering}
use Rattle.cyc_system.specs.Binding.{Records, Unbinds, Binds}
use Rattle.cyc_system.proofs.Spots.{same_some}
use Rattle.cyc_system.specs.declared.turning.Turn.{Turn}
use Rattle.cyc_system.specs.declared.turning.Turn.TheVariants.{StaysBound, StaysPending, StaysRefused, Moves}
use Rattle.cyc_system.specs.Juggling.{TakesTurn, Turns}
use Rattle.cyc_system.specs.GoingOffline.{quiet, Retires, EndsOffline}
use Rattle.cyc_system.specs.Omni.{AddsOmni, entering_each}
use Rattle.cyc_system.specs.Online.{GoesOnline, staying, is_staying, returns, return_at, after_return}
use Rattle.cyc_system_laws.proofs.Flow.{AllFixed, all_brought, all_taken, on_cpus, flows, flow_at, sum_set}
use Rattle.cyc_system_laws.proofs.Idle.{AreIdle, idle_on, idle_quiet, idle_same, reserved_same, unreserved_same, unshifted_same}

-- each record has the counts of as many CPUs as there can be
abbrev pub Sixteen : List Record → Type 0
Sixteen rs = (k : ℕ) (r : Record) → IsRecord rs k r → length r.ended ≡ 16

pub sixteen_set : (rs : List Record) (k : ℕ) (r x : Record) → IsRecord rs k r → length x.ended ≡ length r.ended → Sixteen rs
    → Sixteen (slice_set rs k x)
sixteen_set rs k r x is long h j q at = dite (ℕ_discrete j k)
    (λ e. ap (λ (z : Record). length z.ended)
    (same_some (sym at ∙ ap (λ i. slice_get (slice_set rs k x) i) e ∙ get_set_same rs k x (slice_get_within rs k r is)))
    ∙ long ∙ h k r is)
    (λ ne. h j q (sym (get_set_other rs k j x ne) ∙ at))

-- a move brings what it took
pub moved_even : (f : Taken → ℕ) (id own source target : ℕ) (taken : Taken)
    → all_brought f id (moving own source target taken) ≡ all_taken f id (moving own source target taken)
moved_even f id own source target taken =
    let e : cond (own == id) (f (record
    { level = taken.level; interval = taken.interval; moment = taken.moment; sent = taken.sent })) 0 ≡ cond (own == id)
    (f taken) 0 = refl in omega (arith, e)

zero_if : (b : Bool) (n : ℕ) → n ≡ 0 → cond b n 0 ≡ 0
zero_if true n e = e
zero_if false n e = refl

module _ {R : Type 0} (firing : Raise R) (g : Sent
    → ℕ) (nil : g no_counts ≡ 0) (adds : (a b : Sent) → g (summed a b) ≡ g a + g b) (id : ℕ) where
  abbrev f : Taken → ℕ
  f t = g t.sent

  abbrev pub of_record : Record → ℕ
  of_record r = cond (r.id == id) (sum_by g r.ended) 0

  abbrev pub in_records : List Record → ℕ
  in_records rs = sum_by of_record rs

  abbrev pub all_of : SystemView R → ℕ
  all_of s = on_cpus f id s.cpus + in_records s.records

  pub idly : (way : List CallOn) (s t : SystemView R) → AreIdle way → OnlyWorks firing way s t → all_of t ≡ all_of s
  idly way s t idle (works, records, last) = let a = idle_same f id firing way s.cpus t.cpus idle works in
      let b = ap in_records records in omega (arith, a, b)

  same_all : (s t : SystemView R) → t ≡ s → all_of t ≡ all_of s
  same_all s t e = ap all_of e

  -- records with another placement
  placed_same : (own : ℕ) (placement : Placement) (s t : SystemView R) → Records own placement s t
      → in_records t.records ≡ in_records s.records
  placed_same own placement s t (k, r, here, named, records, last) =
      let a = sum_set of_record s.records k r (with_placement placement r) here in let b = ap in_records records in
      let e : of_record (with_placement placement r) ≡ of_record r = refl in omega (arith, a, b, e)

  moved_same : (own source target : ℕ) (taken : Taken) (s t : SystemView R)
      → Works firing (moving own source target taken) s.cpus t.cpus → in_records t.records ≡ in_records s.records
      → all_of t ≡ all_of s
  moved_same own source target taken s t works records =
      let a = flows f id firing (moving own source target taken) s.cpus t.cpus (tt, (tt, (tt, (tt, (tt, tt))))) works in
      let b = moved_even f id own source target taken in omega (arith, a, b, records)

  -- ---- binding

  pub binds_same : (own n : ℕ) (answer : Result (Unit {0}) Refusal) (s t : SystemView R) → Binds firing own n answer s t
      → all_of t ≡ all_of s
  binds_same own n (Ok done) s t (home, has, inl (at, is, same), records) = let a = placed_same own _ s t records in
      let b = ap (on_cpus f id) same in omega (arith, a, b)
  binds_same own n (Ok done) s t (home, has, inr (ne, (taken, works)), records) = moved_same own home n taken s t works
      (placed_same own _ s t records)
  binds_same own n (Err e) s t (home, has, inl (at, is, same), records, last) = let a = ap in_records records in
      let b = ap (on_cpus f id) same in omega (arith, a, b)
  binds_same own n (Err e) s t (home, has, inr (ne, why), records, last) = let a = ap in_records records in
      let b = unshifted_same f id firing own home n e s.cpus t.cpus why in omega (arith, a, b)

  pub unbinds_same : (own : ℕ) (answer : Result (Unit {0}) Refusal) (s t : SystemView R) → Unbinds own answer s t
      → all_of t ≡ all_of s
  unbinds_same own answer s t (is, n, home, cpus, records) = let a = placed_same own _ s t records in
      let b = ap (on_cpus f id) cpus in omega (arith, a, b)

  pub reprograms_same : (own n moment : ℕ) (s t : SystemView R)
      → OnlyWorks firing (on n (CpuReprogram own moment (Ok tt)) ∷ []) s t → all_of t ≡ all_of s
  reprograms_same own n moment s t (works, records, last) =
      let a = flows f id firing (on n (CpuReprogram own moment (Ok tt)) ∷ []) s.cpus t.cpus ((λ q a m. refl), tt) works in
      let b = ap in_records records in omega (arith, a, b)

  -- ---- adding

  new_same : (s t : SystemView R) (own : ℕ) (level : Level) (placement : Placement)
      → t.records ≡ s.records ++ new_record own level placement ∷ [] → in_records t.records ≡ in_records s.records
  new_same s t own level placement e =
      let a = ap in_records e in let b = sum_by-append of_record s.records (new_record own level placement ∷ []) in
      let c = sum_by-cons of_record (new_record own level placement) [] in let z = sum_by-replicate g 16 no_counts in
      let d = zero_if (own == id) (sum_by g (replicate 16 no_counts)) (omega (arith, z, nil)) in omega (arith, a, b, c, d)

  pub adds_same : (level : Level) (when : When) (now : ℕ) (answer : Result ℕ Refusal) (s t : SystemView R)
      → Adds firing (add_request level when now) answer s t → all_of t ≡ all_of s
  adds_same level when now (Ok own) s t (d, chosen, next, works, records, last) =
      let a = flows f id firing (on d (Reserve 1 (Ok tt)) ∷ entering d own level when.interval
      (first when.start when.interval now)) s.cpus t.cpus (tt, (tt, (tt, tt))) works in
      let b = zero_if (own == id) (g no_counts) nil in
      let c = new_same s t own level _ records in omega (arith, a, b, c)
  adds_same level when now (Err e) s t (d, chosen, inl only) = idly (on d (Reserve 1 (Err e)) ∷ []) s t (tt, tt) only
  adds_same level when now (Err e) s t (d, chosen, inr (is, only)) = idly (on d (Reserve 1 (Ok tt)) ∷ []) s t (tt, tt) only

  entering_fixed : (ns : List ℕ) (own : ℕ) (level : Level) (when : When) (skew now : ℕ)
      → AllFixed f id (entering_each ns own level when skew now)
  entering_fixed [] own level when skew now = tt
  entering_fixed (n ∷ ns) own level when skew now = (tt, (tt, entering_fixed ns own level when skew now))

  entering_none : (ns : List ℕ) (own : ℕ) (level : Level) (when : When) (skew now : ℕ)
      → (all_brought f id (entering_each ns own level when skew now) ≡ 0)
      × (all_taken f id (entering_each ns own level when skew now) ≡ 0)
  entering_none [] own level when skew now = (refl, refl)
  entering_none (n ∷ ns) own level when skew now =
      let (a, b) = entering_none ns own level when skew now in let z = zero_if (own == id) (g no_counts) nil in
      (omega (arith, a, z), omega (arith, b))

  pub omni_same : (level : Level) (when : When) (skew now : ℕ) (answer : Result ℕ Refusal) (s t : SystemView R)
      → AddsOmni firing (add_request level when now) skew answer s t → all_of t ≡ all_of s
  omni_same level when skew now (Ok own) s t (next, (u, reserved, works), records, last) =
      let ns = online_cpus s.cpus in
      let a = reserved_same f id firing 1 s.cpus u reserved in
      let b = flows f id firing (entering_each ns own level when skew now) u t.cpus
      (entering_fixed ns own level when skew now) works in
      let (z, y) = entering_none ns own level when skew now in let c = new_same s t own level _ records in
      omega (arith, a, b, z, y, c)
  omni_same level when skew now (Err e) s t
      (inl why, records, last) = let a = unreserved_same f id firing 1 e s.cpus t.cpus why in
      let b = ap in_records records in omega (arith, a, b)
  omni_same level when skew now (Err e) s t
      (inr (is, reserved), records, last) = let a = reserved_same f id firing 1 s.cpus t.cpus reserved in
      let b = ap in_records records in omega (arith, a, b)

  -- ---- juggle and offline

  turn_same : (n own : ℕ) (turn : Turn) (s t : SystemView R) → TakesTurn firing n own turn s t → all_of t ≡ all_of s
  turn_same n own StaysBound s t (placement, same) = same_all s t same
  turn_same n own StaysPending s t (placement, found, some, only) = idly (on n (AskPending own (Some found)) ∷ []) s t
      (tt, tt) only
  turn_same n own StaysRefused s t (placement, d, chosen, e, only) = idly
      (on n (AskPending own (Some 0)) ∷ on d (Reserve 1 (Err e)) ∷ []) s t (tt, (tt, tt)) only
  turn_same n own Moves s t (placement, d, chosen, (taken, works), records) = moved_same own n d taken s t works
      (placed_same own _ s t records)

  pub turns_same : (n : ℕ) (ids : List ℕ) (report : JuggleReport) (s t : SystemView R) → Turns firing n ids report s t
      → all_of t ≡ all_of s
  turns_same n [] report s t (none, same) = same_all s t same
  turns_same n (own ∷ ids) report s t (turn, u, rest, first, counted, more) = turns_same n ids rest u t more
      ∙ turn_same n own turn s u first

  turn_sixteen : (n own : ℕ) (turn : Turn) (s t : SystemView R) → TakesTurn firing n own turn s t → Sixteen s.records
      → Sixteen t.records
  turn_sixteen n own StaysBound s t (placement, same) many = subst (λ (u : SystemView R). Sixteen u.records) (sym same) many
  turn_sixteen n own StaysPending s t (placement, found, some, only) many = subst Sixteen (sym only.1) many
  turn_sixteen n own StaysRefused s t (placement, d, chosen, e, only) many = subst Sixteen (sym only.1) many
  turn_sixteen n own Moves s t (placement, d, chosen, moves, (k, r, here, named, records, last)) many = subst Sixteen
      (sym records) (sixteen_set s.records k r _ here refl many)

  pub turns_sixteen : (n : ℕ) (ids : List ℕ) (report : JuggleReport) (s t : SystemView R) → Turns firing n ids report s t
      → Sixteen s.records → Sixteen t.records
  turns_sixteen n [] report s t (none, same) many = subst (λ (u : SystemView R). Sixteen u.records) (sym same) many
  turns_sixteen n (own ∷ ids) report s t (turn, u, rest, first, counted, more) many = turns_sixteen n ids rest u t more
      (turn_sixteen n own turn s u first many)

  -- a stay has ended with these counts
  ended_more : (n : ℕ) (c : Sent) (r : Record) → n < length r.ended
      → of_record (with_ended n (summed (ended_on n r) c) r) ≡ of_record r + cond (r.id == id) (g c) 0
  ended_more n c r low =
      let a = sum_set g r.ended n (ended_on n r) (summed (ended_on n r) c) (slice_get-get_or r.ended n no_counts low) in
      let b = adds (ended_on n r) c in
      let e : sum_by g (slice_set r.ended n (summed (ended_on n r) c)) ≡ sum_by g r.ended + g c = omega (arith, a, b) in
      by (r.id == id) e
    where
      by : (b : Bool) → sum_by g (slice_set r.ended n (summed (ended_on n r) c)) ≡ sum_by g r.ended + g c
          → cond b (sum_by g (slice_set r.ended n (summed (ended_on n r) c))) 0 ≡ cond b (sum_by g r.ended) 0 + cond b (g c) 0
      by true e = e
      by false e = omega arith

  retires_same : (n : ℕ) (ids : List ℕ) (s t : SystemView R) → n < 16 → Sixteen s.records
      → FoldsTo (Retires firing n) s ids t → all_of t ≡ all_of s
  retires_same n [] s t low many e = same_all s t (sym e)
  retires_same n (own ∷ ids) s t low many (u, (taken, does, k, r, here, named, records, last), rest) =
      let long = many k r here in
      let x = with_ended n (summed (ended_on n r) taken.sent) r in
      let a = flow_at f id firing s.cpus u.cpus (on n (TakeNow own (Ok taken))) tt does in
      let b = sum_set of_record s.records k r x here in let c = ap in_records records in
      let d = ended_more n taken.sent r (omega (arith, low, long)) in
      let e = ap (λ (j : ℕ). cond (j == id) (g taken.sent) 0) named in
      let one : all_of u ≡ all_of s = omega (arith, a, b, c, d, e) in
      retires_same n ids u t low (subst Sixteen (sym records)
      (sixteen_set s.records k r x here (length-set r.ended n (summed (ended_on n r) taken.sent)) many)) rest ∙ one

  pub leaves_same : (n : ℕ) (report : JuggleReport) (answer : Result (Unit {0}) Refusal) (s t : SystemView R) → n < 16
      → Sixteen s.records → EndsOffline firing n report answer s t → all_of t ≡ all_of s
  leaves_same n report answer s t low many (inl (left, is, same)) = same_all s t same
  leaves_same n report answer s t low many (inr (inl (none, is, (before, own, after, found, some, only)))) =
      idly (quiet n before ++ on n (AskPending own (Some found)) ∷ []) s t
      (idle_on (quiet n before) (on n (AskPending own (Some found)) ∷ []) (idle_quiet n before) (tt, tt)) only
  leaves_same n report answer s t low many (inr (inr (none, is, (u, only, empty, each, off)))) =
      let a = idly (quiet n (ids_on n s.cpus)) s u (idle_quiet n (ids_on n s.cpus)) only in
      let b = retires_same n (ids_on n s.cpus) u empty low (subst Sixteen (sym only.1) many) each in
      let c = ap all_of off in omega (arith, a, b, c)

  -- ---- online

  return_fixed : (n now own : ℕ) (level : Level) (counts : Sent) (placement : Placement) (way : List CallOn) → AllFixed f id way
      → AllFixed f id (return_at n now own level counts placement ++ way)
  return_fixed n now own level counts (stands.On m bound) way rest = rest
  return_fixed n now own level counts (stands.Everywhere first skew) way rest = (tt, rest)

  return_brings : (n now own : ℕ) (level : Level) (counts : Sent) (placement : Placement) (way : List CallOn)
      → is_everywhere placement ≡ true
      → (all_brought f id (return_at n now own level counts placement ++ way) ≡ cond (own == id)
      (g counts) 0 + all_brought f id way)
      × (all_taken f id (return_at n now own level counts placement ++ way) ≡ all_taken f id way)
  return_brings n now own level counts (stands.On m bound) way e = absurd (let odd : false ≡ true = e in cc)
  return_brings n now own level counts (stands.Everywhere first skew) way e = (refl, omega arith)

  returns_fixed : (n now : ℕ) (rs : List Record) → AllFixed f id (returns n now rs)
  returns_fixed n now [] = tt
  returns_fixed n now (r ∷ rs) = return_fixed n now r.id r.level (ended_on n r) r.placement (returns n now rs)
      (returns_fixed n now rs)

  -- the counts of a CPU's ended stays have gone
  ended_less : (n : ℕ) (r : Record) → n < length r.ended
      → of_record (with_ended n no_counts r) + cond (r.id == id) (g (ended_on n r)) 0 ≡ of_record r
  ended_less n r low =
      let a = sum_set g r.ended n (ended_on n r) no_counts (slice_get-get_or r.ended n no_counts low) in
      let e : sum_by g (slice_set r.ended n no_counts) + g (ended_on n r) ≡ sum_by g r.ended = omega (arith, a, nil) in
      by (r.id == id) e
    where
      by : (b : Bool) → sum_by g (slice_set r.ended n no_counts) + g (ended_on n r) ≡ sum_by g r.ended
          → cond b (sum_by g (slice_set r.ended n no_counts)) 0 + cond b (g (ended_on n r)) 0 ≡ cond b (sum_by g r.ended) 0
      by true e = e
      by false e = omega arith

  return_all : (n now : ℕ) (v : CpusView R) (rs : List Record) → n < 16 → Sixteen rs
      → (all_brought f id (returns n now (filter (is_staying v) rs)) + in_records
      (map (after_return n v) rs) ≡ in_records rs) × (all_taken f id (returns n now (filter (is_staying v) rs)) ≡ 0)
  return_all n now v [] low many = (omega arith, refl)
  return_all n now v (r ∷ rs) low many =
      let (rest, none) = return_all n now v rs low (λ k q is. many (suc k) q is) in by (is_staying v r) refl rest none
    where
      by : (b : Bool) → is_staying v r ≡ b
          → all_brought f id (returns n now (filter (is_staying v) rs)) + in_records
          (map (after_return n v) rs) ≡ in_records rs
          → all_taken f id (returns n now (filter (is_staying v) rs)) ≡ 0
          → (all_brought f id (returns n now (cond b (r ∷ filter (is_staying v) rs) (filter (is_staying v) rs)))
          + in_records (cond b (with_ended n no_counts r) r ∷ map (after_return n v) rs) ≡ in_records (r ∷ rs))
          × (all_taken f id (returns n now (cond b (r ∷ filter (is_staying v) rs) (filter (is_staying v) rs))) ≡ 0)
      by true is rest none =
          (let (a, b) = return_brings n now r.id r.level (ended_on n r) r.placement (returns n now (filter (is_staying v) rs))
          (and_parts (is_everywhere r.placement) _ is).0 in
          let long = many 0 r refl in let c = ended_less n r (omega (arith, low, long)) in
          let d = sum_by-cons of_record (with_ended n no_counts r) (map (after_return n v) rs) in
          let e = sum_by-cons of_record r rs in
          (omega (arith, a, c, d, e, rest), omega (arith, b, none)))
      by false is rest none = (let d = sum_by-cons of_record r (map (after_return n v) rs) in
          let e = sum_by-cons of_record r rs in (omega (arith, d, e, rest), none))

  pub online_same : (n now : ℕ) (answer : Result (Unit {0}) Refusal) (s t : SystemView R) → n < 16 → Sixteen s.records
      → GoesOnline firing n now answer s t → all_of t ≡ all_of s
  online_same n now (Ok done) s t low many ((w, works, switched), records, last) =
      let a = flows f id firing (on n (Reserve (length (staying s)) (Ok tt)) ∷ on n
      (Widen (length (staying s))) ∷ returns n now (staying s)) s.cpus w
      (tt, (tt, returns_fixed n now (staying s))) works in
      let (b, none) = return_all n now s.cpus s.records low many in
      let c = ap in_records records in let d = ap (on_cpus f id) switched in omega (arith, a, b, none, c, d)
  online_same n now (Err e) s t low many (why, only) = idly (on n (Reserve (length (staying s)) (Err e)) ∷ []) s t (tt, tt) only
