-- A call that is refused until something is done first has asked a CPU that has not settled.
use Rattle.std.proofs.Common.{◌≡◌, ◌∙◌, ℕ, ◌<◌, ◌⊎◌, inl, inr, Bool, true, false, Option, Some, None, Result, Ok, Err, List, []}
use Rattle.std.proofs.Common.{◌∷◌, ◌++◌, length, map, refl, sym, ap, subst, arith}
use Rattle.std.specs.Prelude.{not, nat_le}
use Rattle.std.specs.List.{slice_get}
use Rattle.std.specs.Option.{option_and_then}
use Rattle.std.proofs.lemmas.Option.{slice_get_within}
use Rattle.std.proofs.lemmas.List.{length-set}
use mathlib.Core.Logic.{dite}
use native.Mathlib.Decide.{ℕ_discrete}
use Rattle.cyc_types.specs.declared.Calls.{Ghosts as Calls}
use Rattle.cyc_types.specs.declared.Raise.{Ghosts as Raise}
use Rattle.cyc_types.specs.declared.refusal.JuggleReport.{JuggleReport}
use Rattle.cyc_types.specs.declared.refusal.Refusal.{Refusal}
use Rattle.cyc_types.specs.declared.refusal.Refusal.TheVariants as why
use Rattle.cyc_types.specs.Reasons.{first_refusal, when, busy, bad_now}
use Rattle.cyc_cpu.specs.Cpu.{CpuView, running}
use Rattle.cyc_cpu.specs.Moving.{IsSettled}
use Rattle.cyc_cpu.specs.Calls.{CpuChanges as CpuChanges, no_interrupts, AskPending, AskRoom, Reserve, TakeNow}
use Rattle.cyc_cpu_laws.specs.Settled.{IsUntil}
use Rattle.cyc_cpu_laws.proofs.Staying.{none_settled, settled_one, never_put_off}
use Rattle.cyc_agreement.specs.Cpus.{CpusView, IsCpu, CallOn, on, ChangesAt, Works, online_cpus}
use Rattle.cyc_agreement.specs.Reserving.{rooms}
use Rattle.cyc_agreement.specs.Shifting.{moving}
use Rattle.cyc_agreement.proofs.CpuSpots.{one_cpu, cpu_there, cpu_after}
use Rattle.cyc_system.specs.System.{SystemView, removal_on, is_online, is_unknown}
use Rattle.cyc_system.specs.Refusals.{no_cpu, offline_cpu, no_cyclic, omnipresent}
use Rattle.cyc_system.specs.Binding.{Binds}
use Rattle.cyc_system.proofs.Spots.{same_some, none_some, get_some}
use Rattle.cyc_system.proofs.Destinations.{destination_fits}
use Rattle.cyc_system.specs.Removing.{unknown_cyclic, cpus_with}
use Rattle.cyc_system.specs.declared.turning.Turn.{Turn}
use Rattle.cyc_system.specs.declared.turning.Turn.TheVariants.{StaysBound, StaysPending, StaysRefused, Moves}
use Rattle.cyc_system.specs.Juggling.{TakesTurn, Turns, single_ids, last_cpu}
use Rattle.cyc_system.specs.GoingOffline.{quiet, EndsOffline}
use Rattle.cyc_system.specs.Online.{online_cpu, staying}
use Rattle.cyc_system.specs.Calls.{SystemCall, Changes, Add, AddOmni, Bind, BeginRemove, Juggle, Offline, Online}
use Rattle.cyc_system_laws.specs.Settling.{IsRefusedUntil, IsAmong, AsksCpu}

-- the number of CPUs stays
pub as_many : {R : Type 0} (firing : Raise R) (way : List CallOn) (v w : CpusView R)
    → Works firing way v w → length w.cpus ≡ length v.cpus
as_many firing [] v w run = ap (λ (u : CpusView _). length u.cpus) (sym run)
as_many firing (c ∷ way) v w (u, d, rest) = as_many firing way u w rest ∙ ap (λ (z : CpusView _). length z.cpus) d.rest
    ∙ length-set v.cpus c.cpu d.after

-- ---- refusals

-- the first of several is that of the first, or of the others
pub first_of : (o : Option Refusal) (whys : List (Option Refusal)) (e : Refusal) → first_refusal (o ∷ whys) ≡ Some e
    → (o ≡ Some e) ⊎ (first_refusal whys ≡ Some e)
first_of None whys e h = inr h
first_of (Some x) whys e h = inl h

-- a refusal that waits for nothing
plain : (b : Bool) (x e : Refusal) → when b x ≡ Some e → (IsUntil x → ⊥) → IsUntil e → ⊥
plain true x e h not until = not (subst IsUntil (sym (same_some h)) until)
plain false x e h not until = none_some h

abbrev ArePlain : List (Option Refusal) → Type 0
ArePlain [] = Unit {0}
ArePlain (o ∷ whys) = ((e : Refusal) → o ≡ Some e → IsUntil e → ⊥) × ArePlain whys

none_until : (whys : List (Option Refusal)) (e : Refusal) → ArePlain whys → first_refusal whys ≡ Some e → IsUntil e → ⊥
none_until [] e p h until = none_some h
none_until (o ∷ whys) e p h until = by (first_of o whys e h) (none_until whys e p.1)
  where
    by : (o ≡ Some e) ⊎ (first_refusal whys ≡ Some e) → (first_refusal whys ≡ Some e → IsUntil e → ⊥) → ⊥
    by (inl own) rest = p.0 e own until
    by (inr others) rest = rest others until

pub err_same : {A : Type 0} {x y : Refusal} → ◌≡◌ {A = Result A Refusal} (Err x) (Err y) → x ≡ y
err_same {A = A} {x = x} {y = y} e = cc

works_split : {R : Type 0} (firing : Raise R) (xs ys : List CallOn) (v w : CpusView R) → Works firing (xs ++ ys) v w
    → (u : CpusView R) × Works firing xs v u × Works firing ys u w
works_split firing [] ys v w run = (v, refl, run)
works_split firing (x ∷ xs) ys v w (u, d, rest) = let (m, a, b) = works_split firing xs ys u w rest in (m, (u, d, a), b)

-- no handler is called
abbrev pub no_calls : Calls (Unit {0})
no_calls = record { count = λ a n. 0; called = λ a n level b. ⊥; may_refuse = λ a n. ⊥ }

module _ {R : Type 0} (firing : Raise R) where
  -- a CPU of this number is there, and has not settled
  abbrev pub NotSettled : ℕ → CpusView R → Type 0
  NotSettled n v = (cpu : CpuView R) × IsCpu n cpu v × (IsSettled firing.view cpu → ⊥)

  -- a CPU with a removal open
  busy_there : (n : ℕ) (v : CpusView R) (e : Refusal) → busy (removal_on n v) ≡ Some e → NotSettled n v
  busy_there n v e h = by (slice_get v.cpus n) refl
    where
      with_removal : (p : Option ℕ) → busy p ≡ Some e → p ≡ None → ⊥
      with_removal None h is = none_some h
      with_removal (Some r) h is = none_some (sym is)

      by : (o : Option (CpuView R)) → slice_get v.cpus n ≡ o → NotSettled n v
      by None is = absurd (none_some (sym (ap (λ p. busy (option_and_then (λ (x : CpuView R). x.removal) p)) is) ∙ h))
      by (Some x) is = (
        x,
        is,
        λ settled. with_removal x.removal
            (sym (ap (λ p. busy (option_and_then (λ (y : CpuView R). y.removal) p)) is) ∙ h) settled.still,
      )

  -- a CPU on which a call was refused until something is done first
  pub refused_here : (n more : ℕ) (e : Refusal) (x y : CpuView R) → CpuChanges firing x (Reserve more (Err e)) y → IsUntil e
      → IsSettled firing.view x → ⊥
  refused_here n more e x y d until settled =
      never_put_off firing no_calls no_interrupts (none_settled firing)
      (running tt x) (running tt y) (Reserve more (Err e)) settled (d, refl) until

  no_room_here : (n more : ℕ) (e : Refusal) (x y : CpuView R) → CpuChanges firing x (AskRoom more (Err e)) y → IsUntil e
      → IsSettled firing.view x → ⊥
  no_room_here n more e x y d until settled =
      never_put_off firing no_calls no_interrupts (none_settled firing)
      (running tt x) (running tt y) (AskRoom more (Err e)) settled (d, refl) until

  pub asks_settled : (own : ℕ) (answer : Option ℕ) (x y : CpuView R) → CpuChanges firing x (AskPending own answer) y
      → IsSettled firing.view x → IsSettled firing.view y
  asks_settled own (Some k) x y d settled =
      settled_one firing no_calls no_interrupts (none_settled firing)
      (running tt x) (running tt y) (AskPending own (Some k)) settled tt d.0.kept.size (d, refl)
  asks_settled own None x y d settled = subst (IsSettled firing.view) (sym d.1) settled

  pub pending_here : (own k : ℕ) (x y : CpuView R) → CpuChanges firing x (AskPending own (Some k)) y → 0 < k
      → IsSettled firing.view x → ⊥
  pending_here own k x y d some settled = let none = (asks_settled own (Some k) x y d settled).seen own in let is = d.1 in
      omega (arith, none, is, some)

  rooms_settled : (more : ℕ) (x y : CpuView R) → CpuChanges firing x (AskRoom more (Ok tt)) y → IsSettled firing.view x
      → IsSettled firing.view y
  rooms_settled more x y d settled =
      settled_one firing no_calls no_interrupts (none_settled firing)
      (running tt x) (running tt y) (AskRoom more (Ok tt)) settled tt d.0.kept.size (d, refl)

  takes_settled : (own : ℕ) (taken : _) (x y : CpuView R) → CpuChanges firing x (TakeNow own (Ok taken)) y
      → IsSettled firing.view x → IsSettled firing.view y
  takes_settled own taken x y d settled =
      settled_one firing no_calls no_interrupts (none_settled firing)
      (running tt x) (running tt y) (TakeNow own (Ok taken)) settled tt d.1.4.size (d, refl)

  -- a CPU that is there is there afterwards, and settled if it was
  abbrev pub Rests : ℕ → CpusView R → CpusView R → Type 0
  Rests n v w = (x : CpuView R) → IsCpu n x v → (y : CpuView R) × IsCpu n y w
      × (IsSettled firing.view x → IsSettled firing.view y)

  pub rests_same : (n : ℕ) (v w : CpusView R) → w ≡ v → Rests n v w
  rests_same n v w e x at = (x, subst (λ u. IsCpu n x u) (sym e) at, λ h. h)

  pub rests_then : (n : ℕ) (u v w : CpusView R) → Rests n u v → Rests n v w → Rests n u w
  rests_then n u v w a b x at = (let (y, there, f) = a x at in let (z, last, g) = b y there in (z, last, λ h. g (f h)))

  pub rests_at : (n m : ℕ) (D : CpuView R → CpuView R → Type 0) (v w : CpusView R) (c : ChangesAt m D v w)
      → (n ≡ m → IsSettled firing.view c.before → IsSettled firing.view c.after) → Rests n v w
  rests_at n m D v w c keeps x at = dite (ℕ_discrete n m)
      (λ e. (
        c.after,
        subst (λ k. IsCpu k c.after w) (sym e)
            (subst (λ u. IsCpu m c.after u) (sym c.rest) (cpu_there m c.before c.after v c.here)),
        λ h. keeps e (subst (IsSettled firing.view) (sym (one_cpu m c.before x v c.here (subst (λ k. IsCpu k x v) e at))) h),
      ))
      (λ ne. (x, cpu_after m n D x v w ne c at, λ h. h))

  rooms_rest : (n more : ℕ) (ns : List ℕ) (v w : CpusView R) → Works firing (rooms more ns) v w → Rests n v w
  rooms_rest n more [] v w run = rests_same n v w (sym run)
  rooms_rest n more (m ∷ ns) v w (u, d, rest) = rests_then n v u w
      (rests_at n m _ v u d (λ e. rooms_settled more d.before d.after d.change)) (rooms_rest n more ns u w rest)

  quiet_rest : (n m : ℕ) (ids : List ℕ) (v w : CpusView R) → Works firing (quiet m ids) v w → Rests n v w
  quiet_rest n m [] v w run = rests_same n v w (sym run)
  quiet_rest n m (own ∷ ids) v w (u, d, rest) = rests_then n v u w
      (rests_at n m _ v u d (λ e. asks_settled own (Some 0) d.before d.after d.change)) (quiet_rest n m ids u w rest)

  -- a turn leaves its source settled
  pub turn_rests : (n own : ℕ) (turn : Turn) (s t : SystemView R) → TakesTurn firing n own turn s t → Rests n s.cpus t.cpus
  turn_rests n own StaysBound s t (placement, same) = rests_same n s.cpus t.cpus (ap (λ (u : SystemView R). u.cpus) same)
  turn_rests n own StaysPending s t (placement, found, some, ((u, d, last), records, l)) =
      rests_then n s.cpus u t.cpus (rests_at n n _ s.cpus u d (λ e. asks_settled own (Some found) d.before d.after d.change))
      (rests_same n u t.cpus (sym last))
  turn_rests n own StaysRefused s t (placement, d, chosen, e, ((u1, a, (u2, b, last)), records, l)) =
      rests_then n s.cpus u1 t.cpus (rests_at n n _ s.cpus u1 a (λ q. asks_settled own (Some 0) a.before a.after a.change))
      (rests_then n u1 u2 t.cpus (rests_at n d _ u1 u2 b
      (λ q. absurd ((destination_fits (Some n) s.cpus d chosen).1 (ap Some q)))) (rests_same n u2 t.cpus (sym last)))
  turn_rests n own Moves s t (placement, d, chosen, (taken, (u1, a, (u2, b, (u3, c, (u4, p, (u5, q, last)))))), records) =
      let apart : n ≡ d → ⊥ = λ q. (destination_fits (Some n) s.cpus d chosen).1 (ap Some q) in
      rests_then n s.cpus u1 t.cpus (rests_at n n _ s.cpus u1 a (λ q. asks_settled own (Some 0) a.before a.after a.change))
      (rests_then n u1 u2 t.cpus (rests_at n d _ u1 u2 b (λ q. absurd (apart q)))
      (rests_then n u2 u3 t.cpus (rests_at n n _ u2 u3 c (λ q. takes_settled own taken c.before c.after c.change))
      (rests_then n u3 u4 t.cpus (rests_at n d _ u3 u4 p (λ q. absurd (apart q)))
      (rests_then n u4 u5 t.cpus (rests_at n d _ u4 u5 q (λ k. absurd (apart k))) (rests_same n u5 t.cpus (sym last))))))

  turns_rest : (n : ℕ) (ids : List ℕ) (report : JuggleReport) (s t : SystemView R) → Turns firing n ids report s t
      → Rests n s.cpus t.cpus
  turns_rest n [] report s t (none, same) = rests_same n s.cpus t.cpus (ap (λ (u : SystemView R). u.cpus) same)
  turns_rest n (own ∷ ids) report s t (turn, u, rest, first, counted, more) = rests_then n s.cpus u.cpus t.cpus
      (turn_rests n own turn s u first) (turns_rest n ids rest u t more)

  -- as many CPUs after a turn
  pub many_turn : (n own : ℕ) (turn : Turn) (s t : SystemView R) → TakesTurn firing n own turn s t
      → length t.cpus.cpus ≡ length s.cpus.cpus
  many_turn n own StaysBound s t (placement, same) = ap (λ (u : SystemView R). length u.cpus.cpus) same
  many_turn n own StaysPending s t (placement, found, some, only) = as_many firing
      (on n (AskPending own (Some found)) ∷ []) s.cpus t.cpus only.0
  many_turn n own StaysRefused s t (placement, d, chosen, e, only) = as_many firing
      (on n (AskPending own (Some 0)) ∷ on d (Reserve 1 (Err e)) ∷ []) s.cpus t.cpus only.0
  many_turn n own Moves s t (placement, d, chosen, (taken, works), records) = as_many firing
      (moving own n d taken) s.cpus t.cpus works

  many_turns : (n : ℕ) (ids : List ℕ) (report : JuggleReport) (s t : SystemView R) → Turns firing n ids report s t
      → length t.cpus.cpus ≡ length s.cpus.cpus
  many_turns n [] report s t (none, same) = ap (λ (u : SystemView R). length u.cpus.cpus) same
  many_turns n (own ∷ ids) report s t (turn, u, rest, first, counted, more) = many_turns n ids rest u t more
      ∙ many_turn n own turn s u first

  -- what is not settled later was not settled before
  pub not_before : (n : ℕ) (v w : CpusView R) → length w.cpus ≡ length v.cpus → Rests n v w → NotSettled n w → NotSettled n v
  not_before n v w long rests (y, there, not) =
      let low = slice_get_within w.cpus n y there in
      let (x, at) = get_some v.cpus n (omega (arith, low, long)) in
      let (z, last, keeps) = rests x at in
      (x, at, λ h. not (subst (IsSettled firing.view) (one_cpu n z y w last there) (keeps h)))

  -- ---- the calls

  reserve_stops : (n more : ℕ) (e : Refusal) (v w : CpusView R) → Works firing (on n (Reserve more (Err e)) ∷ []) v w
      → IsUntil e → NotSettled n v
  reserve_stops n more e v w (u, d, last) until = (d.before, d.here, refused_here n more e d.before d.after d.change until)

  rooms_stop : (n more : ℕ) (before : List ℕ) (e : Refusal) (v w : CpusView R)
      → Works firing (rooms more before ++ on n (AskRoom more (Err e)) ∷ []) v w → IsUntil e → NotSettled n v
  rooms_stop n more before e v w works until =
      let (u, first, (m, d, last)) = works_split firing (rooms more before) (on n (AskRoom more (Err e)) ∷ []) v w works in
      not_before n v u (as_many firing (rooms more before) v u first) (rooms_rest n more before v u first)
      (d.before, d.here, no_room_here n more e d.before d.after d.change until)

  busy_among : (s : SystemView R) (ns : List ℕ) (e : Refusal)
      → first_refusal (map (λ n. busy (removal_on n s.cpus)) ns) ≡ Some e → (n : ℕ) × IsAmong n ns × NotSettled n s.cpus
  busy_among s [] e h = absurd (none_some h)
  busy_among s (n ∷ ns) e h = by (first_of (busy (removal_on n s.cpus)) (map (λ m. busy (removal_on m s.cpus)) ns) e h)
      (busy_among s ns e)
    where
      by : (busy (removal_on n s.cpus) ≡ Some e) ⊎ (first_refusal (map (λ m. busy (removal_on m s.cpus)) ns) ≡ Some e)
          → (first_refusal (map (λ m. busy (removal_on m s.cpus)) ns) ≡ Some e
          → (m : ℕ) × IsAmong m ns × NotSettled m s.cpus) → (m : ℕ) × IsAmong m (n ∷ ns) × NotSettled m s.cpus
      by (inl own) rest = (n, ([], (ns, refl)), busy_there n s.cpus e own)
      by (inr others) rest = let (m, (before, (after, is)), not) = rest others in
          (m, (n ∷ before, (after, ap (λ l. n ∷ l) is)), not)

  -- why a juggle is refused
  juggle_refused : (n : ℕ) (s : SystemView R) (e : Refusal)
      → first_refusal (no_cpu n s ∷ offline_cpu n s ∷ last_cpu s ∷ busy (removal_on n s.cpus) ∷ []) ≡ Some e → IsUntil e
      → NotSettled n s.cpus
  juggle_refused n s e h until = one (first_of (no_cpu n s) (offline_cpu n s ∷ last_cpu s ∷ busy (removal_on n s.cpus) ∷ []) e h)
    where
      four : (busy (removal_on n s.cpus) ≡ Some e) ⊎ (None ≡ Some e) → NotSettled n s.cpus
      four (inl own) = busy_there n s.cpus e own
      four (inr others) = absurd (none_some others)

      three : (last_cpu s ≡ Some e) ⊎ (first_refusal (busy (removal_on n s.cpus) ∷ []) ≡ Some e) → NotSettled n s.cpus
      three (inl own) = absurd (plain (nat_le (length (online_cpus s.cpus)) 1) why.LastCpu e own (λ u. u) until)
      three (inr others) = four (first_of (busy (removal_on n s.cpus)) [] e others)

      two : (offline_cpu n s ≡ Some e) ⊎ (first_refusal (last_cpu s ∷ busy (removal_on n s.cpus) ∷ []) ≡ Some e)
          → NotSettled n s.cpus
      two (inl own) = absurd (plain (not (is_online n s.cpus)) why.Offline e own (λ u. u) until)
      two (inr others) = three (first_of (last_cpu s) (busy (removal_on n s.cpus) ∷ []) e others)

      one : (no_cpu n s ≡ Some e) ⊎ (first_refusal (offline_cpu n s ∷ last_cpu s ∷ busy (removal_on n s.cpus) ∷ []) ≡ Some e)
          → NotSettled n s.cpus
      one (inl own) = absurd (plain (nat_le (length s.cpus.cpus) n) why.NoCpu e own (λ u. u) until)
      one (inr others) = two (first_of (offline_cpu n s) (last_cpu s ∷ busy (removal_on n s.cpus) ∷ []) e others)

  leaves_pending : (n : ℕ) (report : JuggleReport) (e : Refusal) (s t : SystemView R) → EndsOffline firing n report (Err e) s t
      → IsUntil e → NotSettled n s.cpus
  leaves_pending n report e s t (inl (left, is, same)) until = absurd (subst IsUntil (err_same is) until)
  leaves_pending n report e s t (inr (inl (none, is, (before, own, after, found, some, (works, records, last))))) until =
      let (u, first, (m, d, end)) = works_split firing (quiet n before)
      (on n (AskPending own (Some found)) ∷ []) s.cpus t.cpus works in
      not_before n s.cpus u (as_many firing (quiet n before) s.cpus u first) (quiet_rest n n before s.cpus u first)
      (d.before, d.here, pending_here own found d.before d.after d.change some)
  leaves_pending n report e s t (inr (inr (none, is, rest))) until = absurd (let odd : Err e ≡ Ok tt = is in cc)

  binds_stop : (own m : ℕ) (e : Refusal) (s t : SystemView R) → Binds firing own m (Err e) s t → IsUntil e
      → (n : ℕ) × (cpu : CpuView R) × IsCpu n cpu s.cpus × AsksCpu n (Bind own (Some m) (Err e)) s
      × (IsSettled firing.view cpu → ⊥)
  binds_stop own m e s t (home, has, inl (at, is, same), records, last) until = absurd (let odd : Err e ≡ Ok tt = is in cc)
  binds_stop own m e s t (home, has, inr (ne, inl (removed, (cpu, at, is_open), is, same)), records, last) until =
      (home, cpu, at, inl has, λ h. none_some (sym h.still ∙ is_open))
  binds_stop own m e s t (home, has, inr (ne, inr (inl (still, k, some, is, (u, d, last)))), records, l) until =
      (home, d.before, d.here, inl has, pending_here own k d.before d.after d.change some)
  binds_stop own m e s t (home, has, inr (ne, inr (inr (still, (u, a, (w, b, last))))), records, l) until =
      (let (cpu, at, not) = not_before m s.cpus u
      (as_many firing (on home (AskPending own (Some 0)) ∷ []) s.cpus u (u, a, refl))
      (rests_at m home _ s.cpus u a (λ q. absurd (ne (sym q))))
      (b.before, b.here, refused_here m 1 e b.before b.after b.change until) in (m, cpu, at, inr refl, not))

  abbrev Found : SystemCall → SystemView R → Type 0
  Found call s = (n : ℕ) × (cpu : CpuView R) × IsCpu n cpu s.cpus × AsksCpu n call s × (IsSettled firing.view cpu → ⊥)

  pub refused_until : (s t : SystemView R) (call : SystemCall) → Changes firing s call t → IsRefusedUntil call → Found call s
  refused_until s t (Add level when now (Err e)) (inl (x, first, is, same)) until =
      absurd (none_until (bad_now now ∷ _ ∷ []) x
      ((λ y h. plain _ why.BadNow y h (λ u. u)), ((λ y h. plain _ why.IdsSpent y h (λ u. u)), tt)) first
      (subst IsUntil (err_same is) until))
  refused_until s t (Add level when now (Err e)) (inr (clear, (d, chosen, inl only))) until =
      (let (cpu, at, not) = reserve_stops d 1 e s.cpus t.cpus only.0 until in (d, cpu, at, chosen, not))
  refused_until s t (Add level when now (Err e)) (inr (clear, (d, chosen, inr (is, only)))) until = absurd
      (subst IsUntil is until)
  refused_until s t (AddOmni level when skew now (Err e)) (inl (x, first, is, same)) until =
      absurd (none_until (bad_now now ∷ _ ∷ []) x
      ((λ y h. plain _ why.BadNow y h (λ u. u)), ((λ y h. plain _ why.IdsSpent y h (λ u. u)), tt)) first
      (subst IsUntil (err_same is) until))
  refused_until s t (AddOmni level when skew now (Err e))
      (inr (clear, (inl (inl (before, n, after, works)), records, last))) until =
      (let (cpu, at, not) = rooms_stop n 1 before e s.cpus t.cpus works until in (n, cpu, at, (before, after), not))
  refused_until s t (AddOmni level when skew now (Err e))
      (inr (clear, (inl (inr (u, works, (is, before, n, after, rest))), records, last))) until = absurd
      (subst IsUntil is until)
  refused_until s t (AddOmni level when skew now (Err e)) (inr (clear, (inr (is, reserved), records, last))) until = absurd
      (subst IsUntil is until)
  refused_until s t (Bind own (Some m) (Err e)) (inl (x, first, is, same)) until =
      absurd (none_until (no_cyclic own s ∷ omnipresent own s ∷ no_cpu m s ∷ offline_cpu m s ∷ []) x (
        (λ y h. plain _ why.NoCyclic y h (λ u. u)),
        (
          (λ y h. plain _ why.Omnipresent y h (λ u. u)),
          ((λ y h. plain _ why.NoCpu y h (λ u. u)), ((λ y h. plain _ why.Offline y h (λ u. u)), tt)),
        ),
      ) first
      (subst IsUntil (err_same is) until))
  refused_until s t (Bind own (Some m) (Err e)) (inr (clear, binds)) until = binds_stop own m e s t binds until
  refused_until s t (BeginRemove own (Err e)) (inl (x, first, is, same)) until = by x
      (first_of (unknown_cyclic own s) (map (λ (n : ℕ). busy (removal_on n s.cpus)) (cpus_with own s.cpus)) x first)
      (subst IsUntil (err_same is) until)
    where
      by : (x : Refusal) → (unknown_cyclic own s ≡ Some x)
          ⊎ (first_refusal (map (λ n. busy (removal_on n s.cpus)) (cpus_with own s.cpus)) ≡ Some x) → IsUntil x
          → Found (BeginRemove own (Err e)) s
      by x (inl unknown) until = absurd (plain (is_unknown own s) why.NoCyclic x unknown (λ u. u) until)
      by x (inr others) until = let (n, among, (cpu, at, not)) = busy_among s (cpus_with own s.cpus) x others in
          (n, cpu, at, among, not)
  refused_until s t (BeginRemove own (Err e)) (inr (clear, wrong)) until = absurd wrong
  refused_until s t (Juggle n (Err e)) (inl (x, first, is, same)) until =
      (let (cpu, at, not) = juggle_refused n s x first (subst IsUntil (err_same is) until) in (n, cpu, at, refl, not))
  refused_until s t (Juggle n (Err e)) (inr (clear, (report, is, moves))) until = absurd (let odd : Err e ≡ Ok report = is in cc)
  refused_until s t (Offline n (Err e)) (inl (x, first, is, same)) until =
      (let (cpu, at, not) = juggle_refused n s x first (subst IsUntil (err_same is) until) in (n, cpu, at, refl, not))
  refused_until s t (Offline n (Err e)) (inr (clear, (report, moved, moves, rest))) until =
      (let (cpu, at, not) = not_before n s.cpus moved.cpus (many_turns n (single_ids n s) report s moved moves)
      (turns_rest n (single_ids n s) report s moved moves) (leaves_pending n report e moved t rest until) in
      (n, cpu, at, refl, not))
  refused_until s t (Online n now (Err e)) (inl (x, first, is, same)) until =
      absurd (none_until (no_cpu n s ∷ online_cpu n s ∷ bad_now now ∷ []) x (
        (λ y h. plain _ why.NoCpu y h (λ u. u)),
        ((λ y h. plain _ why.Online y h (λ u. u)), ((λ y h. plain _ why.BadNow y h (λ u. u)), tt)),
      )
      first (subst IsUntil (err_same is) until))
  refused_until s t (Online n now (Err e)) (inr (clear, (reason, only))) until =
      (let (cpu, at, not) = reserve_stops n (length (staying s)) e s.cpus t.cpus only.0 until in (n, cpu, at, refl, not))
  refused_until s t call d until = absurd until
