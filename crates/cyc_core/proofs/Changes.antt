-- What the fields show after an edit, and that each event leaves a reached level.
use Rattle.std.proofs.Common.{◌≡◌, ◌≢◌, ℕ, zero, suc, ◌<◌, ◌≤◌, eqb, cond, Bool, true, false, not, List, [], ◌∷◌, ◌++◌, length}
use Rattle.std.proofs.Common.{drop, Option, Some, None, IsSome, IsSomeAnd, refl, sym, ap, ◌∙◌, subst, arith}
use Rattle.std.proofs.Common.{vec_capacity, option_to_list}
use Rattle.std.specs.Prelude.{Result, Ok, Err, is_ok, OnOk}
use Rattle.std.specs.Bool.{then_some}
use Rattle.std.specs.Option.{option_map}
use Rattle.std.specs.VecDeque.{deque_capacity}
use Rattle.std.proofs.lemmas.Bool.Decides.{nat_tests}
use Rattle.cyc_types.specs.Limits.{cyclics}
use Rattle.cyc_level.specs.declared.Event.{Event}
use Rattle.cyc_level.specs.declared.Event.TheVariants.{Admit, Expire, Lose, Publish, Take, Finish, Clear, Switch}
use Rattle.cyc_level.specs.Level.{AdmittedCyclic, SoftLevel, count, count_in, in_hand}
use Rattle.cyc_level.specs.Events.{changed_at, admitted_cyclic, cyclic_after_expire, cyclic_after_lose, cyclic_after_finish}
use Rattle.cyc_level.specs.Events.{hand_after_expire, hand_after_finish, first_of, rest_of, as_list, Enabled, after, after_finish}
use Rattle.cyc_level.specs.Events.{reached, AllEnabled}
use Rattle.cyc_level.specs.Lawful.{Lawful}
use Rattle.cyc_level.proofs.Room.{placed_cyclic}
use Rattle.cyc_level.proofs.Maps.{hand_here}
use Rattle.cyc_level.proofs.Keeps.{always_lawful, same_ceiling, ceiling_after}
use Rattle.cyc_core.specs.declared.admitted.Admitted.{Admitted}
use Rattle.cyc_core.specs.declared.level_core.LevelCore.TheInside.{Inside}
use Rattle.cyc_core.specs.Tables.{Tables, lookup, cyclic_of_entry, cyclics_of_table, level_of}
use Rattle.cyc_core.specs.Reached.{LevelIsReached}
use Rattle.cyc_core.specs.Shown.{shown_core, AreKept, FreePositions, IsSoundCore}
use Rattle.cyc_core.proofs.Keeping.{FindsElse}

pub reached_lawful : (l : SoftLevel) → LevelIsReached l → Lawful l
reached_lawful l (events, all, is) = subst Lawful (sym is) (always_lawful l.ceiling events all)

-- one more enabled event
pub reached_on : (l m : SoftLevel) (event : Event) → LevelIsReached l → Enabled event l → m ≡ after event l → LevelIsReached m
reached_on l m event (events, all, is) may made =
    let on : m ≡ reached l.ceiling (event ∷ events) = made ∙ ap (after event) is in
    let same : m.ceiling ≡ l.ceiling = ap (λ (x : SoftLevel). x.ceiling) on ∙ same_ceiling l.ceiling (event ∷ events) in (
      event ∷ events,
      subst (λ (k : ℕ). AllEnabled k (event ∷ events)) (sym same) (subst (Enabled event) is may, all),
      on
          ∙ ap (λ (k : ℕ). reached k (event ∷ events)) (sym same),
    )

-- fields that show what an enabled event leaves, with the memory that was there
pub sound_by : (a b : Inside) (event : Event) → IsSoundCore a → Enabled event (level_of (shown_core a))
    → level_of (shown_core b) ≡ after event (level_of (shown_core a)) → AreKept b.kept.items b.ids.entries
    → FreePositions b.kept.items b.free.items → vec_capacity a.kept ≤ vec_capacity b.kept
    → vec_capacity a.free ≤ vec_capacity b.free
    → a.ids.room ≤ b.ids.room → deque_capacity a.old_list ≤ deque_capacity b.old_list
    → deque_capacity a.new_list ≤ deque_capacity b.new_list → length b.hints.items ≡ cyclics → IsSoundCore b
sound_by a b event h may made here left kept free ids old new hints = record {
  reached = reached_on (level_of (shown_core a)) (level_of (shown_core b)) event h.reached may made;
  cyclics_kept = here;
  positions_free = left;
  some_ceiling = (let same : b.ceiling ≡ a.ceiling = ap (λ (x : SoftLevel). x.ceiling) made
      ∙ ceiling_after event (level_of (shown_core a)) in let some = h.some_ceiling in omega (arith, same, some));
  kept_room = (let r = h.kept_room in omega (arith, r, kept));
  free_room = (let r = h.free_room in omega (arith, r, free));
  ids_room = (let r = h.ids_room in omega (arith, r, ids));
  old_room = (let r = h.old_room in omega (arith, r, old));
  new_room = (let r = h.new_room in omega (arith, r, new));
  hints_long = hints;
}

-- the same, where the lists' memory is not what it was
pub sound_roomy : (a b : Inside) (event : Event) → IsSoundCore a → Enabled event (level_of (shown_core a))
    → level_of (shown_core b) ≡ after event (level_of (shown_core a)) → AreKept b.kept.items b.ids.entries →
    FreePositions b.kept.items b.free.items → cyclics ≤ vec_capacity b.kept → cyclics ≤ vec_capacity b.free → cyclics ≤ b.ids.room
    → cyclics ≤ deque_capacity b.old_list →
    cyclics ≤ deque_capacity b.new_list → length b.hints.items ≡ cyclics → IsSoundCore b
sound_roomy a b event h may made here left kept free ids old new hints = record {
  reached = reached_on (level_of (shown_core a)) (level_of (shown_core b)) event h.reached may made;
  cyclics_kept = here;
  positions_free = left;
  some_ceiling = (let same : b.ceiling ≡ a.ceiling = ap (λ (x : SoftLevel). x.ceiling) made
      ∙ ceiling_after event (level_of (shown_core a)) in let some = h.some_ceiling in omega (arith, same, some));
  kept_room = kept;
  free_room = free;
  ids_room = ids;
  old_room = old;
  new_room = new;
  hints_long = hints;
}

-- a table that changed at one id shows a map that changed there
cyclics_changed : (xs ys : List Admitted) (id : ℕ) (o : Option Admitted) (f : Option AdmittedCyclic → Option AdmittedCyclic)
    → FindsElse xs ys id o → option_map cyclic_of_entry o ≡ f (cyclics_of_table xs id)
    → cyclics_of_table ys ≡ changed_at (cyclics_of_table xs) id f
cyclics_changed xs ys id o f found same = λ z q. (ap (option_map cyclic_of_entry) (found q) ∙ by q (eqb q id) refl) z
  where
    by : (q : ℕ) (b : Bool) → eqb q id ≡ b → option_map cyclic_of_entry (cond b o (lookup q xs))
        ≡ cond b (f (cyclics_of_table xs q)) (cyclics_of_table xs q)
    by q true e = same ∙ ap (λ (k : ℕ). f (cyclics_of_table xs k)) (let is : id ≡ q = grind (arith, nat_tests) in is)
    by q false e = refl

hand_expired : (n id : ℕ) (hand : Option ℕ) → hand ≡ None → then_some (eqb n 0) id ≡ hand_after_expire n id hand
hand_expired zero id hand free = refl
hand_expired (suc n) id hand free = let no : eqb (suc n) 0 ≡ false = grind (arith, nat_tests) in ap (λ b. then_some b id) no
    ∙ sym free

hand_finished : (n id : ℕ) → 0 < n → then_some (not (eqb n 1)) id ≡ hand_after_finish n (Some id)
hand_finished zero id some = absurd (omega arith)
hand_finished (suc zero) id some = refl
hand_finished (suc (suc n)) id some = let no : eqb (suc (suc n)) 1 ≡ false = grind (arith, nat_tests) in
    ap (λ b. then_some (not b) id) no

-- what holds of the cyclic holds of the entry
pub found_fact : (t : Tables) (id : ℕ) (c : Admitted) → lookup id t.table ≡ Some c → (P : AdmittedCyclic → Type 0)
    → IsSomeAnd ((level_of t).cyclics id) P → P (cyclic_of_entry c)
found_fact t id c found P h = subst (λ (o : Option AdmittedCyclic). IsSomeAnd o P) (ap (option_map cyclic_of_entry) found) h

-- a table that has another entry for one id, which had one
module _ (t : Tables) (ys : List Admitted) (id : ℕ) (c d : Admitted) (found : lookup id t.table ≡ Some c)
    (else : FindsElse t.table ys id (Some d)) where
  found_count : count (level_of t) id ≡ c.count
  found_count = ap (λ (o : Option Admitted). count_in (option_map cyclic_of_entry o)) found

  written : (f : AdmittedCyclic → AdmittedCyclic) → cyclic_of_entry d ≡ f (cyclic_of_entry c)
      → cyclics_of_table ys ≡ changed_at (cyclics_of_table t.table) id (option_map f)
  written f made = cyclics_changed t.table ys id (Some d) (option_map f) else
      (ap Some made ∙ sym (ap (λ (o : Option Admitted). option_map f (option_map cyclic_of_entry o)) found))

  pub level_expire : (hand : Option ℕ) → cyclic_of_entry d ≡ cyclic_after_expire (cyclic_of_entry c)
      → hand ≡ then_some (eqb c.count 0) id
      → t.firer_hand ≡ None → level_of (record t { table = ys; firer_hand = hand }) ≡ after (Expire id) (level_of t)
  level_expire hand made is free =
      let in_hand : hand ≡ hand_after_expire (count (level_of t) id) id t.firer_hand = is
      ∙ hand_expired c.count id t.firer_hand free ∙ ap (λ (n : ℕ). hand_after_expire n id t.firer_hand) (sym found_count) in
      let map = written cyclic_after_expire made in
      λ z. record (level_of t) { cyclics = map z; firer_hand = in_hand z }

  pub level_lose : cyclic_of_entry d ≡ cyclic_after_lose (cyclic_of_entry c)
      → level_of (record t { table = ys }) ≡ after (Lose id) (level_of t)
  level_lose made = let map = written cyclic_after_lose made in λ z. record (level_of t) { cyclics = map z }

  pub level_finish : (hand : Option ℕ) → cyclic_of_entry d ≡ cyclic_after_finish (cyclic_of_entry c) → t.drainer_hand ≡ Some id
      → 0 < c.count → hand ≡ then_some (not (eqb c.count 1)) id
      → level_of (record t { table = ys; drainer_hand = hand }) ≡ after Finish (level_of t)
  level_finish hand made holds some is =
      let in_hand : hand ≡ hand_after_finish (count (level_of t) id) t.drainer_hand = is ∙ hand_finished c.count id some
      ∙ ap (λ (n : ℕ). hand_after_finish n (Some id)) (sym found_count)
      ∙ ap (hand_after_finish (count (level_of t) id)) (sym holds) in
      let map = written cyclic_after_finish made in
      let one : level_of (record t { table = ys; drainer_hand = hand }) ≡ after_finish (Some id) (level_of t) =
      λ z. record (level_of t) { cyclics = map z; drainer_hand = in_hand z } in
      one ∙ ap (λ (o : Option ℕ). after_finish o (level_of t)) (sym holds)

pub level_clear : (t : Tables) (ys : List Admitted) (id : ℕ) → FindsElse t.table ys id None
    → level_of (record t { table = ys; marked = None }) ≡ after (Clear id) (level_of t)
level_clear t ys id else =
    let map = cyclics_changed t.table ys id None (λ _. None) else refl in
    λ z. record (level_of t) { cyclics = map z; marked = None }

pub level_admit : (t : Tables) (ys : List Admitted) (id index : ℕ) (e : Admitted) → FindsElse t.table ys id (Some e)
    → cyclic_of_entry e ≡ admitted_cyclic index → level_of (record t { table = ys }) ≡ after (Admit id index) (level_of t)
level_admit t ys id index e else made =
    let map = cyclics_changed t.table ys id (Some e) (λ _. Some (admitted_cyclic index)) else (ap Some made) in
    λ z. record (level_of t) { cyclics = map z }

pub level_publish : (t : Tables) (id : ℕ) → t.firer_hand ≡ Some id
    → level_of (record t { firer_hand = None; new_list = t.new_list ++ id ∷ [] }) ≡ after Publish (level_of t)
level_publish t id holds = λ z. record (level_of t) { firer_hand = None; new_list = t.new_list ++ as_list (sym holds z) }

popped_first : (xs ys : List ℕ) (r : Option ℕ) → xs ≡ option_to_list r ++ ys → ys ≡ drop 1 xs → r ≡ first_of xs
popped_first [] ys None e d = refl
popped_first [] ys (Some x) e d = absurd (let none : ⊥ = cc in none)
popped_first (z ∷ zs) ys None e d = let l = ap length (e ∙ d) in absurd (omega (arith, l))
popped_first (z ∷ zs) ys (Some x) e d = let same : x ≡ z = cc in ap Some same

popped_rest : (xs ys : List ℕ) → ys ≡ drop 1 xs → ys ≡ rest_of xs
popped_rest [] ys d = d
popped_rest (z ∷ zs) ys d = d

pub level_take_new : (t : Tables) (r : Option ℕ) (ys : List ℕ) → t.hard_bank ≡ t.soft_bank → t.new_list ≡ option_to_list r ++ ys
    → ys ≡ drop 1 t.new_list → level_of (record t { drainer_hand = r; new_list = ys }) ≡ after Take (level_of t)
level_take_new t r ys same items rest =
    let test : eqb t.hard_bank t.soft_bank ≡ true = grind (arith, nat_tests) in
    let first = popped_first t.new_list ys r items rest in
    let left = popped_rest t.new_list ys rest in
    let one : level_of (record t { drainer_hand = r; new_list = ys })
    ≡ record (level_of t) { drainer_hand = first_of t.new_list; new_list = rest_of t.new_list } =
    λ z. record (level_of t) { drainer_hand = first z; new_list = left z } in
    one ∙ sym (ap (λ (b : Bool). record (level_of t) {
      old_list = cond b t.old_list (rest_of t.old_list);
      new_list =
          cond b (rest_of t.new_list) t.new_list;
      drainer_hand = first_of (cond b t.new_list t.old_list);
    }) test)

pub level_take_old : (t : Tables) (r : Option ℕ) (ys : List ℕ) → t.hard_bank ≢ t.soft_bank → t.old_list ≡ option_to_list r ++ ys
    → ys ≡ drop 1 t.old_list → level_of (record t { drainer_hand = r; old_list = ys }) ≡ after Take (level_of t)
level_take_old t r ys differ items rest =
    let test : eqb t.hard_bank t.soft_bank ≡ false = grind (arith, nat_tests) in
    let first = popped_first t.old_list ys r items rest in
    let left = popped_rest t.old_list ys rest in
    let one : level_of (record t { drainer_hand = r; old_list = ys })
    ≡ record (level_of t) { drainer_hand = first_of t.old_list; old_list = rest_of t.old_list } =
    λ z. record (level_of t) { drainer_hand = first z; old_list = left z } in
    one ∙ sym (ap (λ (b : Bool). record (level_of t) {
      old_list = cond b t.old_list (rest_of t.old_list);
      new_list =
          cond b (rest_of t.new_list) t.new_list;
      drainer_hand = first_of (cond b t.new_list t.old_list);
    }) test)

some_entry : (o : Option Admitted) (c : AdmittedCyclic) → option_map cyclic_of_entry o ≡ Some c → IsSome o
some_entry None c is = absurd (let none : ⊥ = cc in none)
some_entry (Some e) c is = refl

-- an admitted id has an entry
pub entry_of : (t : Tables) (id : ℕ) (c : AdmittedCyclic) → (level_of t).cyclics id ≡ Some c → IsSome (lookup id t.table)
entry_of t id c is = some_entry (lookup id t.table) c is

-- the cyclic in the drainer's hand is admitted, and calls of it are outstanding
pub held_cyclic : (l : SoftLevel) → Lawful l → (id : ℕ) → l.drainer_hand ≡ Some id → (c : AdmittedCyclic)
    × (l.cyclics id ≡ Some c)
    × (0 < c.count)
held_cyclic l law id holds = placed_cyclic l law id
    (let here = hand_here id in let same : in_hand id l.drainer_hand ≡ in_hand id (Some id) = ap (in_hand id) holds in
    omega (arith, here, same))

pub same_some : {X : Type 0} (o : Option X) (x y : X) → o ≡ Some x → o ≡ Some y → x ≡ y
same_some o x y e f = let same : x ≡ y = cc in same

pub level_switch : (t : Tables) (bank : ℕ) (old new : List ℕ) → old ≡ t.new_list → new ≡ []
    → level_of (record t { hard_bank = bank; old_list = old; new_list = new }) ≡ after (Switch bank) (level_of t)
level_switch t bank old new is none = λ z. record (level_of t) { hard_bank = bank; old_list = is z; new_list = none z }

pub ok_fact : {T E : Type 0} (P : Type 0) (r : Result T E) → is_ok r ≡ true → OnOk r P → P
ok_fact P (Ok x) is h = h
ok_fact P (Err x) is h = absurd (let none : ⊥ = cc in none)

pub none_some : {X : Type 0} (o : Option X) → o ≡ None → IsSome o → ⊥
none_some None none some = let wrong : ⊥ = cc in wrong
none_some (Some x) none some = let wrong : ⊥ = cc in wrong

-- the cyclic in the drainer's hand has calls outstanding
pub held_count : (l : SoftLevel) → Lawful l → (id : ℕ) (c : AdmittedCyclic) → l.cyclics id ≡ Some c → l.drainer_hand ≡ Some id
    → 0 < c.count
held_count l law id c is holds =
    let (d, there, some) = held_cyclic l law id holds in
    let same : d ≡ c = same_some _ d c there is in
    let count = ap (λ (x : AdmittedCyclic). x.count) same in
    omega (arith, some, count)
