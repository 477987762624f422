-- What the machine remembers of names.
use Rattle.std.proofs.Common.{◌≡◌, ◌≢◌, ℕ, zero, suc, ◌+◌, ◌-◌, ◌<◌, ◌≤◌, ◌==◌, eq-eqb, ne_eqb, true, false, List, []}
use Rattle.std.proofs.Common.{◌∷◌, length, Option, Some, None, inl, inr, ⊎_elim, ◌⊎◌, refl, ap, sym, ◌∙◌, arith}
use Rattle.std.specs.Prelude.{slice_set, slice_index_or}
use Rattle.std.proofs.Math.ListN.{length-set}
use Rattle.std.proofs.lemmas.List.{get_or-set_same, get_or-set_other}
use mathlib.Core.Logic.{dite}
use native.Mathlib.Decide.{ℕ_discrete}
use Rattle.cyc_text.specs.declared.lines.Counts.{Counts}
use Rattle.cyc_script.specs.declared.step.Step.{Step}
use Rattle.cyc_model.specs.Questions.{plain}
use Rattle.cyc_model.specs.State.{State, Placement, Placed}
use Rattle.cyc_model.specs.Places.{is_no_cyclic, given}
use Rattle.cyc_model.proofs.Placing.{placement_given_new}
use Rattle.std.specs.Prelude.{not, is_some, find}
use Rattle.std.specs.Option.{option_map}
use Rattle.cyc_model.specs.Softint.{text_if, text_of_id}
use Rattle.cyc_model.specs.Report.{counts_of}
use Rattle.cyc_model.specs.Script.{refusal_of, does, start, text_in}
use Rattle.cyc_model.proofs.Spread.{Good}
use Rattle.cyc_model.proofs.Reaching.{start_good}
use Rattle.cyc_model.proofs.Printing.{unknown_gone}
use Rattle.cyc_model.proofs.Known.{IsLasting, unknown_before}
use Rattle.cyc_model.proofs.Gone.{gone_does, gone_steps}
use Rattle.cyc_replay.specs.declared.machine.Machine.{Machine}
use Rattle.cyc_replay.specs.Machine.{ShowsMachine, Remembers, IsReached, id_of_named, id_at, name_number, numbers_of, name_at}
use Rattle.cyc_system_model.specs.Removal.{told_by_receipt}
use Rattle.cyc_types.specs.declared.receipt.Receipt.{Receipt}
use Rattle.cyc_words.specs.declared.named.Named.{Named}
use Rattle.cyc_words.specs.declared.named.Named.TheVariants.{Nothing, Cyclic, Leaving, Removed}
use Rattle.cyc_words.specs.Names.{named_at}
use Rattle.cyc_model.proofs.Reaching.{well_does}
use Rattle.cyc_system.proofs.Spots.{same_some, none_some}
use Rattle.std.specs.Prelude.{replicate}
use Rattle.cyc_model.specs.Cpu.{begun_cpu}
use Rattle.cyc_model.specs.Questions.{outstanding_here}
use Rattle.cyc_model.specs.State.{cpus_from}
use Rattle.cyc_model.specs.Report.{expired_here, lost_here}
use Rattle.cyc_model.proofs.Totals.{expired_in, lost_in, pending_in}
use Rattle.cyc_model.proofs.Travels.{counts_same}
use Rattle.cyc_model.proofs.Reaching.{none_ended, sum_of_none}

-- the machine has the same of each name
pub record SameNames (m n : Machine) : Type 0 where
  pub names : n.names ≡ m.names
  pub named : n.named.items ≡ m.named.items

-- where no removal has answered, and what is told of those that had is the same
pub remembers_on : (s t : State) (m n : Machine) → Remembers s m → SameNames m n → s.last_id ≤ t.last_id
    → ((id : ℕ) → id ≤ s.last_id → is_no_cyclic id t ≡ true → is_no_cyclic id s ≡ true)
    → ((id : ℕ) → id ≤ s.last_id → is_no_cyclic id s ≡ true → is_no_cyclic id t ≡ true)
    → ((id : ℕ) → id ≤ s.last_id → is_no_cyclic id s ≡ true → counts_of id t ≡ counts_of id s) → Remembers t n
remembers_on s t m n r same last known gone told = record {
  given = λ name id is. let h = r.given name id (was name id is) in let low = h.1 in (h.0, omega (arith, low, last));
  named = λ name id is. ap (λ xs. name_at xs id) same.named ∙ r.named name id (was name id is);
  removed = λ name receipt is.
      let before = sym (ap (λ xs. named_at xs name) same.names) ∙ is in
      gone receipt.id (r.given name receipt.id (ap id_of_named before)).1 (r.removed name receipt before);
  counted = λ name id is ended.
      let h = r.given name id (was name id is) in
      let before = known id h.1 ended in
      let kept = told id h.1 before in
      let (receipt, at, tells) = r.counted name id (was name id is) before in (
        receipt,
        ap (λ xs. named_at xs name) same.names ∙ at,
        kept ∙ tells ∙ (λ z. told_by_receipt receipt (sym (ap (λ (c : Counts). c.called) kept) z)),
      );
  ids = ap length same.named ∙ r.ids ∙ sym (ap length same.names);
}
  where
    was : (name id : ℕ) → id_at n.names name ≡ Some id → id_at m.names name ≡ Some id
    was name id is = sym (ap (λ xs. id_at xs name) same.names) ∙ is

-- what the definition doesn't know stays unknown
pub stays_unknown : (texts : List (List ℕ)) (indexes : ℕ → ℕ) (step : ℕ) (x : Step) (s : State) → Good s
    → refusal_of plain x s ≡ None
    → (id : ℕ) → id ≤ s.last_id → is_no_cyclic id s ≡ true → is_no_cyclic id (does plain texts indexes step x s).state ≡ true
stays_unknown texts indexes step x s g why id low gone =
    ap (λ o. not (is_some o)) ((well_does texts indexes step x s g why).0.gone id (low, unknown_gone id s gone)).1

-- a step that ends no removal
pub remembers_does : (texts : List (List ℕ)) (indexes : ℕ → ℕ) (step : ℕ) (x : Step) (s : State) (m n : Machine)
    → IsLasting x → Good s
    → refusal_of plain x s ≡ None → Remembers s m → SameNames m n → s.last_id ≤ (does plain texts indexes step x s).state.last_id
    → Remembers (does plain texts indexes step x s).state n
remembers_does texts indexes step x s m n lasts g why r same last =
    remembers_on s (does plain texts indexes step x s).state m n r same last
    (λ id low gone. unknown_before id texts indexes step x s lasts g why gone)
    (λ id low gone. stays_unknown texts indexes step x s g why id low gone)
    (λ id low gone. gone_does texts indexes step id s g (low, unknown_gone id s gone) x why)

-- ---- what a name has changes

-- the name has this now, or it is another name, which has what it had
set_or_other : (xs : List Named) (name : ℕ) (now : Named) (j : ℕ) (o : Named) → o ≢ Nothing
    → named_at (slice_set xs name now) j ≡ o
    → ((j ≡ name) × (now ≡ o)) ⊎ ((j ≢ name) × (named_at xs j ≡ o))
set_or_other xs name now j o some is = dite (ℕ_discrete j name)
    (λ e. inl (e, here xs name (ap (λ k. named_at (slice_set xs name now) k) (sym e) ∙ is)))
    (λ ne. inr (ne, sym (get_or-set_other xs name j now Nothing ne) ∙ is))
  where
    here : (ys : List Named) (k : ℕ) → named_at (slice_set ys k now) k ≡ o → now ≡ o
    here [] k h = absurd (some (sym h))
    here (y ∷ ys) zero h = h
    here (y ∷ ys) (suc k) h = here ys k h

-- the same of its id
given_or_other : (xs : List Named) (name : ℕ) (now : Named) (given j id : ℕ) → id_of_named now ≡ Some given
    → id_at (slice_set xs name now) j ≡ Some id → ((j ≡ name) × (id ≡ given)) ⊎ ((j ≢ name) × (id_at xs j ≡ Some id))
given_or_other xs name now given j id own is = dite (ℕ_discrete j name)
    (λ e. inl (e, here xs name (ap (λ k. id_at (slice_set xs name now) k) (sym e) ∙ is)))
    (λ ne. inr (ne, sym (ap id_of_named (get_or-set_other xs name j now Nothing ne)) ∙ is))
  where
    here : (ys : List Named) (k : ℕ) → id_at (slice_set ys k now) k ≡ Some id → id ≡ given
    here [] k h = absurd (none_some h)
    here (y ∷ ys) zero h = same_some (sym h ∙ own)
    here (y ∷ ys) (suc k) h = here ys k h

-- a name that has an id is there
within : (xs : List Named) (k i : ℕ) → id_at xs k ≡ Some i → k < length xs
within [] k i h = absurd (none_some h)
within (x ∷ xs) zero i h = omega arith
within (x ∷ xs) (suc k) i h = let l = within xs k i h in omega (arith, l)

-- the definition's numbers stay where a name keeps its id
pub numbers_kept : (xs : List Named) (name : ℕ) (now : Named) → id_of_named now ≡ id_at xs name
    → numbers_of (slice_set xs name now) ≡ numbers_of xs
numbers_kept [] name now same = refl
numbers_kept (x ∷ xs) zero now same = ap (λ o. name_number o ∷ numbers_of xs) same
numbers_kept (x ∷ xs) (suc name) now same = ap (λ ns. name_number (id_of_named x) ∷ ns) (numbers_kept xs name now same)

-- ---- an id is given to a name

pub remembers_given : (s t : State) (m n : Machine) (name id : ℕ) → Remembers s m → s.last_id < length m.names
    → id ≡ s.last_id + 1
    → t.last_id ≡ s.last_id + 1
    → n.names ≡ slice_set m.names name (Cyclic id) → n.named.items ≡ slice_set m.named.items (id - 1) name
    → ((j : ℕ) → is_no_cyclic j t ≡ true → is_no_cyclic j s ≡ true) → is_no_cyclic id t ≡ false
    → ((j : ℕ) → j ≤ s.last_id → is_no_cyclic j s ≡ true → is_no_cyclic j t ≡ true)
    → ((j : ℕ) → j ≤ s.last_id → is_no_cyclic j s ≡ true → counts_of j t ≡ counts_of j s) → Remembers t n
remembers_given s t m n name id r few is last names named before known gone told = record {
  given = λ j k at. ⊎_elim
      (λ here. let e = here.1 in (omega (arith, e, is), omega (arith, e, is, last)))
      (λ other. let h = r.given j k other.1 in let low = h.1 in (h.0, omega (arith, low, last)))
      (cases j k at);
  named = λ j k at. ⊎_elim
      (λ here. ap (λ xs. name_at xs k) named ∙ ap (λ i. slice_index_or (slice_set m.named.items (id - 1) name) (i - 1) 0) here.1
      ∙ get_or-set_same m.named.items (id - 1) name 0 (let long = r.ids in omega (arith, long, few, is)) ∙ sym here.0)
      (λ other. let h = r.given j k other.1 in let some = h.0 in let low = h.1 in
      ap (λ xs. name_at xs k) named
      ∙ get_or-set_other m.named.items (id - 1) (k - 1) name 0 (λ e. omega (arith, e, some, low, is)) ∙ r.named j k other.1)
      (cases j k at);
  removed = λ j receipt at. ⊎_elim
      (λ here. absurd (let no : Cyclic id ≡ Removed receipt = here.1 in cc))
      (λ other. gone receipt.id (r.given j receipt.id (ap id_of_named other.1)).1 (r.removed j receipt other.1))
      (set_or_other m.names name (Cyclic id) j (Removed receipt) (λ no. cc) (sym (ap (λ xs. named_at xs j) names) ∙ at));
  counted = λ j k at ended. ⊎_elim
      (λ here. absurd (let no : false ≡ true = sym known ∙ ap (λ i. is_no_cyclic i t) (sym here.1) ∙ ended in cc))
      (λ other. let h = r.given j k other.1 in
      let kept = told k h.1 (before k ended) in
      let (receipt, there, tells) = r.counted j k other.1 (before k ended) in (
        receipt,
        ap (λ xs. named_at xs j) names ∙ get_or-set_other m.names name j (Cyclic id) Nothing other.0 ∙ there,
        kept ∙ tells ∙ (λ z. told_by_receipt receipt (sym (ap (λ (c : Counts). c.called) kept) z)),
      ))
      (cases j k at);
  ids = ap length named ∙ length-set m.named.items (id - 1) name ∙ r.ids
      ∙ sym (ap length names ∙ length-set m.names name (Cyclic id));
}
  where
    cases : (j k : ℕ) → id_at n.names j ≡ Some k → ((j ≡ name) × (k ≡ id)) ⊎ ((j ≢ name) × (id_at m.names j ≡ Some k))
    cases j k at = given_or_other m.names name (Cyclic id) id j k refl (sym (ap (λ xs. id_at xs j) names) ∙ at)

-- the word adds a cyclic with this placement
pub remembers_added : (texts : List (List ℕ)) (indexes : ℕ → ℕ) (step : ℕ) (x : Step) (s : State) (m n : Machine)
    (name id : ℕ) (placement : Placement)
    → IsLasting x → Good s → refusal_of plain x s ≡ None
    → (does plain texts indexes step x s).state.placed ≡ (given name placement s).placed
    → (does plain texts indexes step x s).state.last_id ≡ s.last_id + 1 → Remembers s m → s.last_id < length m.names
    → id ≡ s.last_id + 1
    → n.names ≡ slice_set m.names name (Cyclic id) → n.named.items ≡ slice_set m.named.items (id - 1) name
    → Remembers (does plain texts indexes step x s).state n
remembers_added texts indexes step x s m n name id placement lasts g why placed last r few is names named =
    let t = (does plain texts indexes step x s).state in
    remembers_given s t m n name id r few is last names named
    (λ j gone. unknown_before j texts indexes step x s lasts g why gone)
    (ap (λ ps. not (is_some (option_map (λ (p : Placed). p.placement) (find (λ p. p.id == id) ps)))) placed
    ∙ ap (λ k. is_no_cyclic k (given name placement s)) is ∙ ap (λ o. not (is_some o))
    (placement_given_new name placement s g.base.rise))
    (λ j low gone. stays_unknown texts indexes step x s g why j low gone)
    (λ j low gone. gone_does texts indexes step j s g (low, unknown_gone j s gone) x why)

-- ---- a removal opens

-- the name has its id still, and its cyclic is known
pub remembers_kept : (s t : State) (m n : Machine) (name id : ℕ) → Remembers s m → id_at m.names name ≡ Some id
    → n.names ≡ slice_set m.names name (Leaving id) → n.named.items ≡ m.named.items → s.last_id ≤ t.last_id
    → (is_no_cyclic id t ≡ true → ⊥)
    → ((j : ℕ) → j ≢ id → is_no_cyclic j t ≡ true → is_no_cyclic j s ≡ true)
    → ((j : ℕ) → j ≤ s.last_id → is_no_cyclic j s ≡ true → is_no_cyclic j t ≡ true)
    → ((j : ℕ) → j ≤ s.last_id → is_no_cyclic j s ≡ true → counts_of j t ≡ counts_of j s) → Remembers t n
remembers_kept s t m n name id r at names named last known before gone told = record {
  given = λ j k is. let h = r.given j k (was j k is) in let low = h.1 in (h.0, omega (arith, low, last));
  named = λ j k is. ap (λ xs. name_at xs k) named ∙ r.named j k (was j k is);
  removed = λ j receipt is. ⊎_elim
      (λ here. absurd (let no : Leaving id ≡ Removed receipt = here.1 in cc))
      (λ other. gone receipt.id (r.given j receipt.id (ap id_of_named other.1)).1 (r.removed j receipt other.1))
      (set_or_other m.names name (Leaving id) j (Removed receipt) (λ no. cc) (sym (ap (λ xs. named_at xs j) names) ∙ is));
  counted = λ j k is ended. dite (ℕ_discrete k id)
      (λ e. absurd (known (sym (ap (λ i. is_no_cyclic i t) e) ∙ ended)))
      (λ ne. let h = r.given j k (was j k is) in
      let kept = told k h.1 (before k ne ended) in
      let (receipt, there, tells) = r.counted j k (was j k is) (before k ne ended) in (
        receipt,
        ap (λ xs. named_at xs j) names
            ∙ get_or-set_other m.names name j (Leaving id) Nothing
            (λ e. ne (same_some (sym (was j k is) ∙ ap (id_at m.names) e ∙ at)))
            ∙ there,
        kept ∙ tells ∙ (λ z. told_by_receipt receipt (sym (ap (λ (c : Counts). c.called) kept) z)),
      ));
  ids = ap length named ∙ r.ids ∙ sym (ap length names ∙ length-set m.names name (Leaving id));
}
  where
    was : (j k : ℕ) → id_at n.names j ≡ Some k → id_at m.names j ≡ Some k
    was j k is = ⊎_elim
        (λ here. ap (id_at m.names) here.0 ∙ at ∙ ap Some (sym here.1))
        (λ other. other.1)
        (given_or_other m.names name (Leaving id) id j k refl (sym (ap (λ xs. id_at xs j) names) ∙ is))

-- ---- a removal has answered

-- of this id, and of no other
pub remembers_ended : (s t : State) (m n : Machine) (name id : ℕ) (one : Receipt) → Remembers s m
    → id_at m.names name ≡ Some id → one.id ≡ id
    → n.names ≡ slice_set m.names name (Removed one) → n.named.items ≡ m.named.items
    → s.last_id ≤ t.last_id → is_no_cyclic id t ≡ true → counts_of id t ≡ told_by_receipt one (t.called id)
    → ((j : ℕ) → j ≢ id → is_no_cyclic j t ≡ true → is_no_cyclic j s ≡ true)
    → ((j : ℕ) → j ≢ id → j ≤ s.last_id → is_no_cyclic j s ≡ true → is_no_cyclic j t ≡ true)
    → ((j : ℕ) → j ≢ id → j ≤ s.last_id → is_no_cyclic j s ≡ true → counts_of j t ≡ counts_of j s) → Remembers t n
remembers_ended s t m n name id one r at own names named last unknown ended before gone told = record {
  given = λ j k is. let h = r.given j k (was j k is) in let low = h.1 in (h.0, omega (arith, low, last));
  named = λ j k is. ap (λ xs. name_at xs k) named ∙ r.named j k (was j k is);
  removed = λ j receipt is. ⊎_elim
      (λ here. ap (λ (o : Option ℕ). is_no_cyclic (name_number o) t) (sym (ap id_of_named here.1))
      ∙ ap (λ k. is_no_cyclic k t) own ∙ unknown)
      (λ other. dite (ℕ_discrete receipt.id id)
      (λ e. ap (λ k. is_no_cyclic k t) e ∙ unknown)
      (λ ne. gone receipt.id ne (r.given j receipt.id (ap id_of_named other.1)).1 (r.removed j receipt other.1)))
      (set_or_other m.names name (Removed one) j (Removed receipt) (λ no. cc) (sym (ap (λ xs. named_at xs j) names) ∙ is));
  counted = λ j k is gone. dite (ℕ_discrete k id)
      (λ e. let same : j ≡ name = sym (r.named j k (was j k is)) ∙ ap (name_at m.named.items) e ∙ r.named name id at in (
        one,
        ap (λ xs. named_at xs j) names ∙ ap (named_at (slice_set m.names name (Removed one))) same
            ∙ get_or-set_same m.names name (Removed one) Nothing (within m.names name id at),
        ap (λ i. counts_of i t) e ∙ ended ∙ (λ z. told_by_receipt one (t.called (sym e z))),
      ))
      (λ ne. let h = r.given j k (was j k is) in
      let kept = told k ne h.1 (before k ne gone) in
      let (receipt, there, tells) = r.counted j k (was j k is) (before k ne gone) in (
        receipt,
        ap (λ xs. named_at xs j) names
            ∙ get_or-set_other m.names name j (Removed one) Nothing
            (λ e. ne (same_some (sym (was j k is) ∙ ap (id_at m.names) e ∙ at)))
            ∙ there,
        kept ∙ tells ∙ (λ z. told_by_receipt receipt (sym (ap (λ (c : Counts). c.called) kept) z)),
      ));
  ids = ap length named ∙ r.ids ∙ sym (ap length names ∙ length-set m.names name (Removed one));
}
  where
    was : (j k : ℕ) → id_at n.names j ≡ Some k → id_at m.names j ≡ Some k
    was j k is = ⊎_elim
        (λ here. ap (id_at m.names) here.0 ∙ at ∙ ap Some (sym here.1))
        (λ other. other.1)
        (given_or_other m.names name (Removed one) id j k (ap Some own) (sym (ap (λ xs. id_at xs j) names) ∙ is))

-- where the name has another id by now, nothing is left to be told of the one that it had
pub remembers_nameless : (s t : State) (m n : Machine) (id : ℕ) → Remembers s m → SameNames m n → s.last_id ≤ t.last_id
    → ((name : ℕ) → id_at m.names name ≢ Some id)
    → ((j : ℕ) → j ≢ id → is_no_cyclic j t ≡ true → is_no_cyclic j s ≡ true)
    → ((j : ℕ) → j ≢ id → j ≤ s.last_id → is_no_cyclic j s ≡ true → is_no_cyclic j t ≡ true)
    → ((j : ℕ) → j ≢ id → j ≤ s.last_id → is_no_cyclic j s ≡ true → counts_of j t ≡ counts_of j s) → Remembers t n
remembers_nameless s t m n id r same last none before gone told = record {
  given = λ j k is. let h = r.given j k (was j k is) in let low = h.1 in (h.0, omega (arith, low, last));
  named = λ j k is. ap (λ xs. name_at xs k) same.named ∙ r.named j k (was j k is);
  removed = λ j receipt is.
      let at = sym (ap (λ xs. named_at xs j) same.names) ∙ is in
      gone receipt.id (λ e. none j (ap id_of_named at ∙ ap Some e)) (r.given j receipt.id (ap id_of_named at)).1 (r.removed j
      receipt at);
  counted = λ j k is ended.
      let ne : k ≢ id = λ e. none j (was j k is ∙ ap Some e) in
      let h = r.given j k (was j k is) in
      let kept = told k ne h.1 (before k ne ended) in
      let (receipt, there, tells) = r.counted j k (was j k is) (before k ne ended) in (
        receipt,
        ap (λ xs. named_at xs j) same.names ∙ there,
        kept ∙ tells ∙ (λ z. told_by_receipt receipt (sym (ap (λ (c : Counts). c.called) kept) z)),
      );
  ids = ap length same.named ∙ r.ids ∙ sym (ap length same.names);
}
  where
    was : (j k : ℕ) → id_at n.names j ≡ Some k → id_at m.names j ≡ Some k
    was j k is = sym (ap (λ xs. id_at xs j) same.names) ∙ is

-- ---- the text of an id

-- an id that no name has has no text
text_none : (id : ℕ) (texts : List (List ℕ)) (names : List Named) → 0 < id → ((k : ℕ) → id_at names k ≢ Some id)
    → text_of_id id texts (numbers_of names) ≡ []
text_none id [] names some none = refl
text_none id (text ∷ texts) [] some none = refl
text_none id (text ∷ texts) (o ∷ names) some none =
    ap (λ b. text_if b text (text_of_id id texts (numbers_of names))) (ne_eqb (name_number (id_of_named o)) id (far
    (id_of_named o) (none 0)))
    ∙ text_none id texts names some (λ k. none (suc k))
  where
    far : (p : Option ℕ) → p ≢ Some id → name_number p ≢ id
    far None ne e = omega (arith, e, some)
    far (Some j) ne e = ne (ap Some e)

text_some : (id name : ℕ) (texts : List (List ℕ)) (names : List Named) → 0 < id → id_at names name ≡ Some id
    → ((k : ℕ) → id_at names k ≡ Some id → k ≡ name) → text_of_id id texts (numbers_of names) ≡ text_in texts name
text_some id name [] names some at alone = refl
text_some id name (text ∷ texts) [] some at alone = absurd (none_some at)
text_some id zero (text ∷ texts) (o ∷ names) some at alone =
    ap (λ b. text_if b text (text_of_id id texts (numbers_of names))) (eq-eqb (name_number (id_of_named o)) id (ap name_number
    at))
text_some id (suc name) (text ∷ texts) (o ∷ names) some at alone =
    ap (λ b. text_if b text (text_of_id id texts (numbers_of names)))
    (ne_eqb (name_number (id_of_named o)) id (far (id_of_named o) (λ e. let z = alone 0 e in omega (arith, z))))
    ∙ text_some id name texts names some at (λ k e. let z = alone (suc k) e in omega (arith, z))
  where
    far : (p : Option ℕ) → p ≢ Some id → name_number p ≢ id
    far None ne e = omega (arith, e, some)
    far (Some j) ne e = ne (ap Some e)

-- the id of a name has its text
pub text_named : (s : State) (m : Machine) (id name : ℕ) (texts : List (List ℕ)) → ShowsMachine s m → id_at m.names name ≡ Some id
    → text_of_id id texts s.names ≡ text_in texts name
text_named s m id name texts h at =
    ap (text_of_id id texts) h.names
    ∙ text_some id name texts m.names (h.remembers.given name id at).0 at
    (λ k is. sym (h.remembers.named k id is) ∙ h.remembers.named name id at)

-- and no name has an id that its own name has not
pub no_name : (s : State) (m : Machine) (id : ℕ) → Remembers s m → id_at m.names (name_at m.named.items id) ≢ Some id
    → (name : ℕ) → id_at m.names name ≢ Some id
no_name s m id r other name is = other (ap (id_at m.names) (r.named name id is) ∙ is)

pub text_nameless : (s : State) (m : Machine) (id : ℕ) (texts : List (List ℕ)) → ShowsMachine s m → 0 < id
    → id_at m.names (name_at m.named.items id) ≢ Some id → text_of_id id texts s.names ≡ []
text_nameless s m id texts h some other =
    ap (text_of_id id texts) h.names ∙ text_none id texts m.names some (no_name s m id h.remembers other)

-- ---- a name with no id

pub nobody_counts : (step : ℕ) (s : State) → IsReached step s
    → counts_of 0 s ≡ record { expired = 0; called = 0; lost = 0; pending = 0 }
nobody_counts step s r =
    let first = start r.cpus r.ceiling (length r.texts) in
    let g = start_good r.cpus r.ceiling (length r.texts) r.some in
    ap (counts_of 0) r.is ∙ gone_steps r.texts r.indexes 1 0 r.steps first g (omega arith, refl)
    ∙ none_told r.cpus r.ceiling (length r.texts)
  where
    none_told : (cpus ceiling names : ℕ)
        → counts_of 0 (start cpus ceiling names) ≡ record { expired = 0; called = 0; lost = 0; pending = 0 }
    none_told cpus ceiling names =
        let s = start cpus ceiling names in
        let e = none_ended (cpus_from 0 (λ c. true) (replicate cpus (begun_cpu ceiling))) in
        let a = sum_of_none (expired_here 0) ceiling cpus refl in
        let b = sum_of_none (lost_here 0) ceiling cpus refl in
        let c = sum_of_none (outstanding_here 0) ceiling cpus refl in
        counts_same (expired_in 0 s) 0 (lost_in 0 s) (pending_in 0 s) 0 0 0 0 (omega (arith, e, a)) refl (omega (arith, e, b)) c
