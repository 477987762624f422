-- The machine before the first step.
use Rattle.std.proofs.Common.{◌≡◌, ℕ, zero, suc, ◌+◌, ◌-◌, ◌^◌, ◌<◌, ◌≤◌, inl, inr, List, [], ◌∷◌, ◌++◌, length, map, Bool, true}
use Rattle.std.proofs.Common.{false, cond, nat_lt, get_or, pow_pos, All, Some, refl, ap, sym, ◌∙◌, subst, arith}
use Rattle.std.specs.Prelude.{replicate, max, min}
use Rattle.std.proofs.lemmas.List.{get_or-replicate, length-replicate}
use Rattle.std.proofs.lemmas.List.Elements.{All-append}
use Rattle.std.proofs.Math.ListN.{get_or-eq_default}
use Rattle.std.proofs.lemmas.Bool.{cases_lt}
use Rattle.cyc_types.specs.Limits.{greatest_bank, cyclics as most_cyclics}
use Rattle.cyc_types.specs.Tally.{TallyView, tally_made, tally_count}
use Rattle.cyc_level.specs.Level.{SoftLevel, empty_level}
use Rattle.cyc_core.specs.FiringSide.{firing_view}
use Rattle.cyc_core.specs.Tables.{Tables, level_of}
use Rattle.cyc_cpu.specs.Cpu.{IsFresh}
use Rattle.cyc_cpu.proofs.Fresh.{empty_is_fresh}
use Rattle.cyc_cpu.specs.Soft.{firing_at}
use Rattle.cyc_model.specs.Script.{start}
use Rattle.cyc_system_model.specs.Shown.{ShowsSystem, IsSystem}
use Rattle.cyc_system_model.specs.Kept.{LevelsAreNew, new_system}
use Rattle.cyc_agreement.specs.Suspending.{is_suspended}
use Rattle.std.specs.Option.{option_map, option_map_or}
use Rattle.cyc_replay.specs.declared.machine.Machine.{Machine}
use Rattle.cyc_words.specs.declared.named.Named.TheVariants.{Nothing}
use Rattle.cyc_replay.specs.Machine.{ShowsMachine, IsWide, AllMost, numbers_of, id_of_named, id_at}
use Rattle.cyc_replay.specs.Beginning.{IsEmptyCpu, HasReserved}
use Rattle.std.specs.Prelude.{slice_set, Ok, Err}
use Rattle.std.specs.List.{slice_get}
use Rattle.std.proofs.Math.ListN.{length-set}
use Rattle.std.proofs.lemmas.List.{get_or-set_same, get_or-set_other}
use mathlib.Core.Logic.{dite}
use native.Mathlib.Decide.{ℕ_discrete}
use Rattle.cyc_types.specs.declared.refusal.Refusal.{Refusal}
use Rattle.cyc_types.specs.declared.refusal.Refusal.TheVariants.{Memory}
use Rattle.cyc_types.specs.Pairs.{EachTwo}
use Rattle.cyc_cpu.specs.Cpu.{CpuView, size_for, bank_for, HasRisingCyclics}
use Rattle.cyc_cpu.specs.Calls.{Reserve, CpuChanges}
use Rattle.cyc_cpu.specs.Soft.{raise_tables}
use Rattle.cyc_system.specs.Cpus.{new_cpus}
use Rattle.cyc_system.proofs.Rooms.{only_memory}
use Rattle.cyc_system_model.specs.ShownCpu.{shown_cyclic, shown_cpu}
use Rattle.cyc_system_model.specs.Tied.{IsTied, HasOwn}
use Rattle.cyc_system_model.proofs.Levels.{only_looked}
use Rattle.std.specs.Prelude.{Result, OnOk, IfErr}
use Rattle.cyc_places.specs.Places.{IsRecord, HasRisingIds as RecordsRise}
use Rattle.cyc_system.specs.System.{SystemView}
use Rattle.cyc_system.specs.Agreement.{Agrees}
use Rattle.cyc_system.proofs.Spots.{same_some, none_some}
use Rattle.cyc_model.specs.State.{State}
use Rattle.cyc_system.specs.Splitting.{GoesOn, IsSameEnd, index_admitted, AllComeBack}
use Rattle.cyc_system_model.specs.Room.{HaveRoomFor}
use Rattle.cyc_system_model.proofs.Rooms.{near, far, first_enough, bank_rises}
use Rattle.cyc_system_model.specs.Shown.{shown_list, shown_record, AllFull}

pub fresh_levels : (ceiling : ℕ) (ends : List (Tables × Tables)) → LevelsAreNew ceiling ends
    → All (λ e. IsFresh (firing_at e.0) × IsFresh (firing_at e.1)) ends
fresh_levels ceiling ends new k d low =
    let own = new k d low in (
      empty_is_fresh ceiling (level_of (get_or ends k d).0) own.0,
      empty_is_fresh ceiling (level_of (get_or ends k d).1) own.1,
    )

pub one_more_new : (ceiling : ℕ) (ends : List (Tables × Tables)) (e : Tables × Tables) → LevelsAreNew ceiling ends
    → level_of e.0 ≡ empty_level ceiling
    → level_of e.1 ≡ empty_level ceiling → LevelsAreNew ceiling (ends ++ e ∷ [])
one_more_new ceiling ends e new lock low =
    All-append (λ (x : Tables × Tables). (level_of x.0 ≡ empty_level ceiling) × (level_of x.1 ≡ empty_level ceiling)) ends
    (e ∷ []) new one
  where
    one : (k : ℕ) (d : Tables × Tables) → k < 1
        → (level_of (get_or (e ∷ []) k d).0 ≡ empty_level ceiling) × (level_of (get_or (e ∷ []) k d).1 ≡ empty_level ceiling)
    one zero d less = (lock, low)
    one (suc k) d less = absurd (omega (arith, less))

-- ---- the tally

abbrev zeros : ℕ → List ℕ
zeros n = replicate n 0

zero_at : (k n : ℕ) → get_or (zeros n) k zero ≡ zero
zero_at k n = elim (cases_lt k n) [
  | inl near ↦ get_or-replicate n k zero zero near
  | inr far ↦ get_or-eq_default
      (zeros n) zero (let l = length-replicate n zero in omega (arith, far, l))
]

none_counted : (b : Bool) (k n : ℕ) → cond b zero (get_or (zeros n) k zero) ≡ zero
none_counted true k n = refl
none_counted false k n = zero_at k n

wide : (names : ℕ) (t : TallyView) → t ≡ tally_made 1 names (2 ^ 64 - 1) → IsWide (length (zeros names)) t
wide names t is = subst (IsWide (length (zeros names))) (sym is) (record { first = refl; len = refl; most = refl })

-- ---- the whole

no_ids : (n : ℕ) → replicate n 0 ≡ numbers_of (replicate n Nothing)
no_ids zero = refl
no_ids (suc n) = ap (λ ns. 0 ∷ ns) (no_ids n)

pub held_new : (cpus ceiling names : ℕ) (m : Machine) → m.clock ≡ 0 → m.tally ≡ tally_made 1 names (2 ^ 64 - 1)
    → m.names ≡ replicate names Nothing → length m.named.items ≡ names → AllMost m.system.cpus
    → HaveRoomFor names m.system.cpus → is_suspended m.system ≡ false
    → IsSystem m.system × ShowsSystem (start cpus ceiling names) m.system
    → ShowsMachine (start cpus ceiling names) m
held_new cpus ceiling names m clock tally ids named most room awake shown_cyclic = record {
  system = shown_cyclic.0;
  shows = shown_cyclic.1;
  clock = sym clock;
  suspended = sym awake;
  called = λ id. ap (λ t. tally_count t id) tally ∙ none_counted (nat_lt id 1) (id - 1) names;
  names = no_ids names ∙ sym (ap numbers_of ids);
  remembers = record {
    given = λ name id is. absurd (nobody name id is);
    named = λ name id is. absurd (nobody name id is);
    removed = λ name receipt is. absurd (nobody name receipt.id (ap id_of_named is));
    counted = λ name id is. absurd (nobody name id is);
    ids = named ∙ sym (ap length ids ∙ length-replicate names Nothing);
  };
  tally = wide names m.tally tally;
  most = most;
  room = subst (λ k. HaveRoomFor k m.system.cpus) (sym (length-replicate names 0)) room;
}
  where
    none_in : (k n id : ℕ) → id_at (replicate n Nothing) k ≡ Some id → ⊥
    none_in k zero id is = none_some is
    none_in zero (suc n) id is = none_some is
    none_in (suc k) (suc n) id is = none_in k n id is

    nobody : (name id : ℕ) → id_at m.names name ≡ Some id → ⊥
    nobody name id is = none_in name names id (sym (ap (λ xs. id_at xs name) ids) ∙ is)

-- ---- memory for cyclics

-- a new CPU has no cyclic
pub new_empty : (most ceiling : ℕ) (ends : List (Tables × Tables)) → LevelsAreNew ceiling ends
    → All IsEmptyCpu (new_cpus most ends).cpus
new_empty most ceiling [] new k d low = absurd (omega (arith, low))
new_empty most ceiling (e ∷ ends) new zero d low =
    let own = new 0 e (omega arith) in
    record {
      cyclics = refl;
      removal = refl;
      size = refl;
      followed = (
        ap (λ (l : SoftLevel). (firing_view l).followed) own.0,
        ap (λ (l : SoftLevel). (firing_view l).followed) own.1,
      );
    }
new_empty most ceiling (e ∷ ends) new (suc k) d low =
    new_empty most ceiling ends (λ i x less. new (suc i) x (omega (arith, less))) k d (omega (arith, low))

-- a CPU of size 1 needs the least bank for them all
size_one : (k : ℕ) → size_for 1 k ≡ 2 ^ bank_for k
size_one k = elim (cases_lt 1 k) [
  | inl past ↦ far k 1 1 (2 ^ bank_for k) past
  | inr low ↦ near k 1 1 (2 ^ bank_for k) low ∙ sym (ap (λ bank. 2 ^ bank) (first_enough greatest_bank 0 k low))
]

reserved_so : (wanted : ℕ) (v w : CpuView Tables) → IsEmptyCpu v → CpuChanges raise_tables v (Reserve wanted (Ok tt)) w
    → HasReserved wanted v w
reserved_so wanted v w e d = record {
  room = d.0.room ∙ ap (λ k. max v.room k) ((λ z. size_for (e.size z) (all z)) ∙ size_one wanted);
  cyclics = d.0.cyclics;
  removal = d.0.removal;
  size = d.0.size;
  most = d.0.most;
  suspended = d.0.suspended;
  lock = only_looked v.lock w.lock d.0.lock;
  low = only_looked v.low w.low d.0.low;
}
  where
    all : length v.cyclics + wanted ≡ wanted
    all = let none = ap length e.cyclics in omega (arith, none)

only_want : (wanted : ℕ) (v w : CpuView Tables) (e : Refusal) → wanted ≤ most_cyclics → IsEmptyCpu v
    → CpuChanges raise_tables v (Reserve wanted (Err e)) w
    → e ≡ Memory
only_want wanted v w e few empty d = only_memory raise_tables wanted v w e
    (record {
      fits = let none = ap length empty.cyclics in omega (arith, none, few);
      still = λ more. (empty.removal, empty.followed);
    }) d.0 d.1

pub reserved_or_not : (wanted : ℕ) (v w : CpuView Tables) (r : Result (Unit {0}) Refusal) → IsEmptyCpu v
    → CpuChanges raise_tables v (Reserve wanted r) w
    → OnOk r (HasReserved wanted v w)
reserved_or_not wanted v w (Ok done) e d = reserved_so wanted v w e d
reserved_or_not wanted v w (Err why) e d = tt

pub only_if_refused : (wanted : ℕ) (v w : CpuView Tables) (r : Result (Unit {0}) Refusal) → wanted ≤ most_cyclics → IsEmptyCpu v
    → CpuChanges raise_tables v (Reserve wanted r) w
    → IfErr r (λ refusal. refusal ≡ Memory)
only_if_refused wanted v w (Ok done) few e d = tt
only_if_refused wanted v w (Err why) few e d = only_want wanted v w why few e d

-- one CPU after the other
pub record Reserving (wanted n : ℕ) (vs ws : List (CpuView Tables)) : Type 0 where
  pub long : length ws ≡ length vs
  pub done : (k : ℕ) (d : CpuView Tables) → k < n → k < length vs → HasReserved wanted (get_or vs k d) (get_or ws k d)
  pub left : (k : ℕ) (d : CpuView Tables) → n ≤ k → get_or ws k d ≡ get_or vs k d

pub reserving_none : (wanted : ℕ) (vs : List (CpuView Tables)) → Reserving wanted 0 vs vs
reserving_none wanted vs = record { long = refl; done = λ k d low within. absurd (omega (arith, low)); left = λ k d low. refl }

pub reserving_one : (wanted n : ℕ) (vs ws : List (CpuView Tables)) (x y : CpuView Tables) → Reserving wanted n vs ws
    → n < length ws
    → get_or ws n x ≡ x
    → HasReserved wanted x y → Reserving wanted (n + 1) vs (slice_set ws n y)
reserving_one wanted n vs ws x y r within is h = record {
  long = length-set ws n y ∙ r.long;
  done = λ k d low inside. dite (ℕ_discrete k n)
      (λ e. subst (λ i. HasReserved wanted (get_or vs i d) (get_or (slice_set ws n y) i d)) (sym e)
      (subst (λ b. HasReserved wanted (get_or vs n d) b) (sym (get_or-set_same ws n y d within))
      (subst (λ a. HasReserved wanted a y) (sym is ∙ there d ∙ r.left n d (omega arith)) h)))
      (λ ne. subst (λ b. HasReserved wanted (get_or vs k d) b) (sym (get_or-set_other ws n k y d ne))
      (r.done k d (omega (arith, low, ne)) inside));
  left = λ k d low. get_or-set_other ws n k y d (λ (e : k ≡ n). omega (arith, low, e)) ∙ r.left k d (omega (arith, low));
}
  where
    there : (d : CpuView Tables) → get_or ws n x ≡ get_or ws n d
    there d = same_within ws n x d within
      where
        same_within : (xs : List (CpuView Tables)) (k : ℕ) (a b : CpuView Tables) → k < length xs → get_or xs k a ≡ get_or xs k b
        same_within [] k a b low = absurd (omega (arith, low))
        same_within (z ∷ xs) zero a b low = refl
        same_within (z ∷ xs) (suc k) a b low = same_within xs k a b (omega (arith, low))

pub empty_left : (wanted n : ℕ) (vs ws : List (CpuView Tables)) (x : CpuView Tables) → Reserving wanted n vs ws → n < length vs
    → x ≡ get_or ws n x
    → All IsEmptyCpu vs → IsEmptyCpu x
empty_left wanted n vs ws x r low is empty = subst IsEmptyCpu (sym (is ∙ r.left n x (omega arith))) (empty n x low)

pub reserving_all : (wanted n : ℕ) (vs ws : List (CpuView Tables)) → Reserving wanted n vs ws → length vs ≤ n
    → EachTwo (HasReserved wanted) vs ws
reserving_all wanted n vs ws r all = each vs ws r.long (λ k d low. r.done k d (omega (arith, low, all)) low)
  where
    each : (xs ys : List (CpuView Tables)) → length ys ≡ length xs
        → ((k : ℕ) (d : CpuView Tables) → k < length xs → HasReserved wanted (get_or xs k d) (get_or ys k d))
        → EachTwo (HasReserved wanted) xs ys
    each [] [] long one = tt
    each [] (y ∷ ys) long one = absurd (omega (arith, long))
    each (x ∷ xs) [] long one = absurd (omega (arith, long))
    each (x ∷ xs) (y ∷ ys) long one =
        (one 0 x (omega arith), each xs ys (omega (arith, long)) (λ k d low. one (suc k) d (omega (arith, low))))

-- they may come back to their system
pub come_back : (wanted : ℕ) (vs ws : List (CpuView Tables)) → All IsEmptyCpu vs → EachTwo (HasReserved wanted) vs ws
    → AllComeBack firing_at vs ws
come_back wanted [] [] empty two = tt
come_back wanted [] (w ∷ ws) empty two = two
come_back wanted (v ∷ vs) [] empty two = two
come_back wanted (v ∷ vs) (w ∷ ws) empty two =
    let none = (empty 0 v (omega arith)).cyclics in let h = two.0 in (
      record {
        cyclics = subst (λ cs. EachTwo (GoesOn (firing_at v.lock).ceiling (firing_at v.low).ceiling) v.cyclics cs) (sym h.cyclics)
            (subst (λ cs. EachTwo (GoesOn (firing_at v.lock).ceiling (firing_at v.low).ceiling) cs cs) (sym none) tt);
        removal = h.removal;
        size = h.size;
        most = h.most;
        suspended = h.suspended;
        lock = same_end (level_of v.lock) (level_of w.lock) h.lock;
        low = same_end (level_of v.low) (level_of w.low) h.low;
      },
      come_back wanted vs ws (λ k d low. empty (suc k) d (omega (arith, low))) two.1,
    )
  where
    same_end : (a b : SoftLevel) → b ≡ a → IsSameEnd (firing_view a) (firing_view b)
    same_end a b is = record {
      ceiling = ap (λ (l : SoftLevel). (firing_view l).ceiling) is;
      indexes = λ id. ap
          (λ (l : SoftLevel). index_admitted id (firing_view l)) is;
    }

-- ---- the definition has them as before

same_shown : (wanted : ℕ) (online : Bool) (v w : CpuView Tables) → HasReserved wanted v w
    → shown_cpu online w ≡ shown_cpu online v
same_shown wanted online v w h = λ z. record {
  online = online;
  cyclics = map shown_cyclic (h.cyclics z);
  size = h.size z;
  removal = h.removal z;
  lock = h.lock z;
  low = h.low z;
}

shown_two : (wanted : ℕ) (os : List Bool) (vs ws : List (CpuView Tables)) → EachTwo (HasReserved wanted) vs ws
    → shown_list os ws ≡ shown_list os vs
shown_two wanted [] vs ws two = refl
shown_two wanted (o ∷ os) [] [] two = refl
shown_two wanted (o ∷ os) [] (w ∷ ws) two = absurd two
shown_two wanted (o ∷ os) (v ∷ vs) [] two = absurd two
shown_two wanted (o ∷ os) (v ∷ vs) (w ∷ ws) two =
    (λ z. same_shown wanted o v w two.0 z ∷ shown_list os ws) ∙ ap (λ cs. shown_cpu o v ∷ cs) (shown_two wanted os vs ws two.1)

reserved_tied : (wanted : ℕ) (v w : CpuView Tables) → HasReserved wanted v w → IsTied v → IsTied w
reserved_tied wanted v w h t = record {
  rising = subst (λ cs. HasRisingCyclics cs) (sym h.cyclics) t.rising;
  own = λ online. subst (λ c. HasOwn c) (sym (same_shown wanted online v w h)) (t.own online);
}

two_at : (wanted : ℕ) (vs ws : List (CpuView Tables)) (n : ℕ) (w : CpuView Tables) → EachTwo (HasReserved wanted) vs ws
    → slice_get ws n ≡ Some w
    → (v : CpuView Tables) × (slice_get vs n ≡ Some v) × HasReserved wanted v w
two_at wanted [] [] n w two is = absurd (none_some is)
two_at wanted [] (y ∷ ys) n w two is = absurd two
two_at wanted (x ∷ xs) [] n w two is = absurd two
two_at wanted (x ∷ xs) (y ∷ ys) zero w two is = (x, refl, subst (HasReserved wanted x) (same_some is) two.0)
two_at wanted (x ∷ xs) (y ∷ ys) (suc n) w two is = two_at wanted xs ys n w two.1 is

two_long : (wanted : ℕ) (vs ws : List (CpuView Tables)) → EachTwo (HasReserved wanted) vs ws → length ws ≡ length vs
two_long wanted [] [] two = refl
two_long wanted [] (y ∷ ys) two = absurd two
two_long wanted (x ∷ xs) [] two = absurd two
two_long wanted (x ∷ xs) (y ∷ ys) two = ap suc (two_long wanted xs ys two.1)

-- no CPU of a new system is suspended
pub awake_new : (most : ℕ) (ends : List (Tables × Tables)) → is_suspended (new_system most ends) ≡ false
awake_new most [] = refl
awake_new most (e ∷ ends) = refl

same_marks : (wanted : ℕ) (vs ws : List (CpuView Tables)) → EachTwo (HasReserved wanted) vs ws
    → option_map (λ (cpu : CpuView Tables). cpu.suspended) (slice_get ws 0)
    ≡ option_map (λ (cpu : CpuView Tables). cpu.suspended) (slice_get vs 0)
same_marks wanted [] [] two = refl
same_marks wanted [] (y ∷ ys) two = absurd two
same_marks wanted (x ∷ xs) [] two = absurd two
same_marks wanted (x ∷ xs) (y ∷ ys) two = ap Some two.0.suspended

module _ (wanted : ℕ) (v w : SystemView Tables) (two : EachTwo (HasReserved wanted) v.cpus.cpus w.cpus.cpus)
    (online : w.cpus.online ≡ v.cpus.online)
    (records : w.records ≡ v.records) (last : w.last ≡ v.last) where
  pub still_system : IsSystem v → Agrees w → IsSystem w
  still_system h agrees = record {
    agrees = agrees;
    rising = subst (λ rs. RecordsRise rs) (sym records) h.rising;
    full = subst (λ rs. AllFull (length w.cpus.cpus) rs) (sym records)
        (subst (λ k. AllFull k v.records) (sym (two_long wanted v.cpus.cpus w.cpus.cpus two)) h.full);
    tied = λ n cpu is. let x = two_at wanted v.cpus.cpus w.cpus.cpus n cpu two is in
        reserved_tied wanted x.0 cpu x.2 (h.tied n x.0 x.1);
  }

  pub still_shows : (s : State) → ShowsSystem s v → ShowsSystem s w
  still_shows s h = record {
    cpus = h.cpus ∙ sym (shown_two wanted v.cpus.online v.cpus.cpus w.cpus.cpus two)
        ∙ ap (λ os. shown_list os w.cpus.cpus) (sym online);
    placed = h.placed ∙ sym (ap (map shown_record) records);
    ended = λ k r is n. h.ended k r (subst (λ rs. IsRecord rs k r) records is) n;
    fresh = h.fresh;
    last = h.last ∙ sym last;
  }

  pub still_most : AllMost v.cpus → AllMost w.cpus
  still_most all n cpu is = let x = two_at wanted v.cpus.cpus w.cpus.cpus n cpu two is in x.2.most ∙ all n x.0 x.1

  pub still_awake : is_suspended v ≡ false → is_suspended w ≡ false
  still_awake awake = ap (λ o. option_map_or (λ suspended. suspended) o false) (same_marks wanted v.cpus.cpus w.cpus.cpus two)
      ∙ awake

  -- memory for so many names, as far as a CPU can have them
  pub now_room : (names : ℕ) → wanted ≡ min names most_cyclics → All IsEmptyCpu v.cpus.cpus → HaveRoomFor names w.cpus
  now_room names is_wanted empty n cpu is =
      let x = two_at wanted v.cpus.cpus w.cpus.cpus n cpu two is in
      let room = x.2.room in let size = x.2.size in
      let one = (empty_at v.cpus.cpus n x.0 empty x.1).size in
      let some : 0 < 2 ^ bank_for wanted = pow_pos (bank_for wanted) in
      record {
        room = λ k want can. let up = bank_rises k wanted (omega (arith, want, can, is_wanted)) in omega (arith, up, room);
        size = omega (arith, room, size, one, some);
      }
    where
      empty_at : (xs : List (CpuView Tables)) (k : ℕ) (x : CpuView Tables) → All IsEmptyCpu xs → slice_get xs k ≡ Some x
          → IsEmptyCpu x
      empty_at [] k x all is = absurd (none_some is)
      empty_at (y ∷ ys) zero x all is = subst IsEmptyCpu (same_some is) (all 0 y (omega arith))
      empty_at (y ∷ ys) (suc k) x all is = empty_at ys k x (λ i d low. all (suc i) d (omega (arith, low))) is
