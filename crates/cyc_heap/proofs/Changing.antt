-- The tournament after another moment for an index that has one.
use Rattle.std.proofs.Common.{◌≡◌, ◌≢◌, ℕ, ◌<◌, ◌≤◌, Bool, true, false, List, length, Some, refl, ap}
use Rattle.std.proofs.Common.{◌∙◌, arith}
use Rattle.std.proofs.Math.ListN.{set}
use Rattle.cyc_types.specs.Series.{never}
use Rattle.cyc_heap.specs.declared.entry.Entry.{Entry}
use Rattle.cyc_heap.specs.Tournament.{key, entry_at, cyclic_index, slots, IsPlayed}
use Rattle.cyc_heap.specs.Few.{IsFew, IsTournament, extent}
use Rattle.cyc_heap.specs.Heap.{HeapView, expiration_at, slots_moved}
use Rattle.cyc_heap.proofs.Slots.{slot_used}
use Rattle.cyc_heap.proofs.Views.{view_of, within, held, leaf_given, moment_slots}
use Rattle.cyc_heap.proofs.Listed.{set_slots, moved, after}

module _ (is_few : Bool) (few : List Entry) (leaves size given : ℕ) (xs : List Entry) (free : List ℕ) (room : ℕ) (v : HeapView)
    (h : IsTournament is_few few (extent leaves size given) xs free) (is : view_of is_few few leaves size xs room ≡ v) (x : Entry)
    (has : expiration_at v (cyclic_index x) ≡ Some (key x)) (new : List Entry) (ys : List Entry) (moment : ℕ)
    (valid : moment ≤ never) where
  abbrev pub entry : Entry
  entry = record { moment = moment; word = x.word }

  pub leaf_low : cyclic_index x < leaves
  leaf_low = (let (low, _, _) = held is_few few leaves size given xs free room v h is (cyclic_index x) (key x) has in
      let wide = h.wide in omega (arith, low, wide))

  pub changed : length ys ≡ length xs → entry_at ys (cyclic_index x) ≡ entry
      → ((i : ℕ) → i < leaves → i ≢ cyclic_index x → entry_at ys i ≡ entry_at xs i)
      → (is_few ≡ true → IsFew new leaves ys) → (is_few ≡ false → IsPlayed leaves ys)
      → IsTournament is_few new (extent leaves size given) ys free
  changed long here others heap played = (let (low, used, _) = held is_few few leaves size given xs free room v h is
      (cyclic_index x)
      (key x) has in
      let inside = within is_few few leaves size given xs free room v h is in
      let known = h.known in
      let wide = h.wide in
      let mine = leaf_given is_few few leaves size given xs free room v h is (cyclic_index x) leaf_low used in
      after is_few is_few few new leaves size given given xs ys free free (cyclic_index x) entry h long heap played here
      (λ unused. absurd (omega (arith, unused, valid))) others mine
      (omega arith) known
      (moved given xs ys (cyclic_index x) entry (omega (arith, inside, known)) (omega (arith, long, inside, known)) mine here
      (λ k before off. others k (omega (arith, before, known, wide)) off) free h.listed used valid refl))

  pub changed_slots : length ys ≡ length xs → entry_at ys (cyclic_index x) ≡ entry
      → ((i : ℕ) → i < leaves → i ≢ cyclic_index x → entry_at ys i ≡ entry_at xs i)
      → slots size ys ≡ slots_moved v.slots (cyclic_index x) moment
  changed_slots long here others = (let (low, _, _) = held is_few few leaves size given xs free room v h is (cyclic_index x)
      (key x) has in
      let inside = within is_few few leaves size given xs free room v h is in
      let wide = h.wide in
      set_slots size xs ys (cyclic_index x) entry inside (omega (arith, long, inside)) low here
      (λ k before off. others k (omega (arith, before, wide)) off)
      ∙ ap (set (slots size xs) (cyclic_index x)) (slot_used entry valid)
      ∙ ap (λ (v : HeapView). set v.slots (cyclic_index x) (Some (key entry))) is
      ∙ moment_slots v (cyclic_index x) moment (key x) has)
