-- What the calls of the firing side teach it.
use Rattle.std.proofs.Common.{◌≡◌, ℕ, zero, suc, ◌+◌, ◌<◌, ◌≤◌, ◌^◌, eqb, cond, Bool, true, false, Option, Some, None, IsSome}
use Rattle.std.proofs.Common.{refl, sym, ap, ◌∙◌, subst, arith}
use Rattle.std.specs.Prelude.{is_none}
use Rattle.std.specs.Option.{option_map}
use Rattle.std.proofs.lemmas.Bool.Decides.{nat_tests}
use Rattle.cyc_types.specs.Firing.{Stay, FiringView, Admits, Raises, Marks, Polls, Expands, Learns, Sound}
use Rattle.cyc_types.specs.Firing.{edited as stay_edited, seen_in, seen_of, sent_in, saw, MayAdmit, MayRaise, MayMark, MayPoll}
use Rattle.cyc_types.specs.Firing.{MayExpand}
use Rattle.cyc_types.specs.declared.firing.Raised.TheVariants.{First, More, Lost}
use Rattle.cyc_level.specs.declared.Event.{Event}
use Rattle.cyc_level.specs.declared.Event.TheVariants.{Admit, Expire, Lose, Publish, Mark, Clear, Switch}
use Rattle.cyc_level.specs.Level.{AdmittedCyclic, SoftLevel, count, count_in}
use Rattle.cyc_level.specs.Events.{changed_at, admitted_cyclic, cyclic_after_expire, cyclic_after_lose, hand_after_expire}
use Rattle.cyc_level.specs.Events.{Enabled, after, most_sent}
use Rattle.cyc_level.specs.Lawful.{Lawful, IsId}
use Rattle.cyc_level.proofs.Keeps.{keeps_law, ceiling_after}
use Rattle.cyc_level.proofs.Maps.{is_some_of, is_some_and}
use Rattle.cyc_core.specs.FiringSide.{stay_of, firing_view}

pub free_hand : (o : Option ℕ) → is_none o ≡ true → o ≡ None
free_hand None e = refl
free_hand (Some x) e = absurd (let none : ⊥ = cc in none)

stay_behind : (o : Option AdmittedCyclic) (s : Stay) → option_map stay_of o ≡ Some s → (c : AdmittedCyclic) × (o ≡ Some c)
    × (stay_of c ≡ s)
stay_behind None s e = absurd (let none : ⊥ = cc in none)
stay_behind (Some c) s e = (c, refl, (let same : stay_of c ≡ s = cc in same))

-- what is known is sound
pub sound_level : (l : SoftLevel) → Lawful l → 0 < l.ceiling → Sound (firing_view l)
sound_level l law some = record {
  some_ceiling = some;
  capped = λ id s e. let (c, is, same) = stay_behind (l.cyclics id) s e in
      subst (λ (t : Stay). t.seen ≤ l.ceiling) same (law.below_ceiling id c is);
  owed = λ id s e. let (c, is, same) = stay_behind (l.cyclics id) s e in
      subst (λ (t : Stay). t.seen + t.lost ≤ t.sent) same (let even = law.conserved id c is in omega (arith, even));
  apart = λ a b s t e f i. let (c, is, same) = stay_behind (l.cyclics a) s e in let (d, is', same') =
      stay_behind (l.cyclics b) t f in
      law.distinct_indexes a b c d is is' (ap (λ (x : Stay). x.index) same ∙ i ∙ sym (ap (λ (x : Stay). x.index) same'));
  inside = λ id s e. let (c, is, same) = stay_behind (l.cyclics id) s e in
      subst (λ (t : Stay). t.index < 2 ^ l.hard_bank) same (law.in_hard_bank id c is);
  greatest = law.bank_bound;
}

-- what is known after an enabled event is sound
pub sound_after : (l : SoftLevel) (event : Event) → Lawful l → 0 < l.ceiling → Enabled event l
    → Sound (firing_view (after event l))
sound_after l event law some may = sound_level (after event l) (keeps_law l law event may)
    (let same = ceiling_after event l in omega (arith, same, some))

pub can_admit : (l : SoftLevel) (id index : ℕ) → IsId id → MayAdmit id index (firing_view l) → Enabled (Admit id index) l
can_admit l id index valid (absent, unused, below, free) = (
  free_hand l.firer_hand free,
  valid,
  none_behind (l.cyclics id) absent,
  (λ j c is. unused j (stay_of c) (ap (option_map stay_of) is)),
  below,
)
  where
    none_behind : (o : Option AdmittedCyclic) → option_map stay_of o ≡ None → o ≡ None
    none_behind None e = refl
    none_behind (Some c) e = absurd (let none : ⊥ = cc in none)

-- an admission
pub learns_admit : (l : SoftLevel) (id index : ℕ)
    → Learns (firing_view l) (Admits id index) (firing_view (after (Admit id index) l))
learns_admit l id index = λ z. record (firing_view l) { stays = λ j. at j (eqb j id) z }
  where
    at : (j : ℕ) (b : Bool) → option_map stay_of (cond b (Some (admitted_cyclic index)) (l.cyclics j))
        ≡ cond b (Some record { index = index; sent = 0; lost = 0; seen = 0 }) (option_map stay_of (l.cyclics j))
    at j true = refl
    at j false = refl

-- the end of a stay
pub learns_clear : (l : SoftLevel) (id : ℕ) (c : AdmittedCyclic) → l.cyclics id ≡ Some c
    → Learns (firing_view l) (Polls id (Some (record { sent = c.sent; lost = c.lost }))) (firing_view (after (Clear id) l))
learns_clear l id c is = (
  ap (λ o. sent_in (option_map stay_of o)) is,
  λ z. record (firing_view l) { stays = λ j. at j (eqb j id) z; marked = None },
)
  where
    at : (j : ℕ) (b : Bool) → option_map stay_of (cond b None (l.cyclics j)) ≡ cond b None (option_map stay_of (l.cyclics j))
    at j true = refl
    at j false = refl

-- a switch of banks
pub learns_expand : (l : SoftLevel) (bank : ℕ) → l.soft_bank < bank
    → Learns (firing_view l) (Expands bank) (firing_view (after (Switch bank) l))
learns_expand l bank more = let apart : eqb bank l.soft_bank ≡ false = grind (arith, nat_tests) in
    ap (λ (b : Bool). record (firing_view l) { bank = bank; followed = b }) apart

module _ (l : SoftLevel) (id : ℕ) (c : AdmittedCyclic) (is : l.cyclics id ≡ Some c) where
  pub seen_is : seen_of id (firing_view l) ≡ c.count
  seen_is = ap (λ o. seen_in (option_map stay_of o)) is

  -- a change of the cyclic, as the firing side sees it
  stays_edit : (f : AdmittedCyclic → AdmittedCyclic) (h : Stay → Stay) → stay_of (f c) ≡ h (stay_of c) → (j : ℕ) →
      option_map stay_of (changed_at l.cyclics id (option_map f) j)
      ≡ cond (eqb j id) (stay_edited h (option_map stay_of (l.cyclics j))) (option_map stay_of (l.cyclics j))
  stays_edit f h same j = by (eqb j id) refl
    where
      by : (b : Bool) → eqb j id ≡ b → option_map stay_of (cond b (option_map f (l.cyclics j)) (l.cyclics j))
          ≡ cond b (stay_edited h (option_map stay_of (l.cyclics j))) (option_map stay_of (l.cyclics j))
      by true e = let at : l.cyclics j ≡ Some c = ap l.cyclics (let here : j ≡ id = grind (arith, nat_tests) in here) ∙ is in
          ap (λ o. option_map stay_of (option_map f o)) at ∙ ap Some same
          ∙ sym (ap (λ o. stay_edited h (option_map stay_of o)) at)
      by false e = refl

  -- a look at the pend changes nothing
  pub view_saw : firing_view l ≡ saw id c.count (firing_view l)
  view_saw = λ z. record (firing_view l) { stays = λ j. at j (eqb j id) refl z }
    where
      at : (j : ℕ) (b : Bool) → eqb j id ≡ b → option_map stay_of (l.cyclics j)
          ≡ cond b (stay_edited (λ s. record s { seen = c.count }) (option_map stay_of (l.cyclics j)))
          (option_map stay_of (l.cyclics j))
      at j true e = let here : l.cyclics j ≡ Some c = ap l.cyclics (let same : j ≡ id = grind (arith, nat_tests) in same) ∙ is in
          ap (option_map stay_of) here ∙ sym (ap (λ o. stay_edited (λ s. record s { seen = c.count }) (option_map stay_of o))
          here)
      at j false e = refl

  pub learns_kept : 0 < c.count → Learns (firing_view l) (Polls id None) (firing_view l)
  learns_kept some = (c.count, some, (let e = seen_is in omega (arith, e)), view_saw)

  pub learns_mark : Learns (firing_view l) (Marks id c.count) (firing_view (after (Mark id) l))
  learns_mark = ((let e = seen_is in omega (arith, e)), ap (λ (v : FiringView). record v { marked = Some id }) view_saw)

  pub learns_lost : c.count ≡ l.ceiling → Learns (firing_view l) (Raises id Lost) (firing_view (after (Lose id) l))
  learns_lost full = (
    seen_is ∙ full,
    λ z. record (firing_view l) {
      stays =
          λ j. stays_edit cyclic_after_lose (λ s. record s { sent = s.sent + 1; lost = s.lost + 1; seen = l.ceiling })
          (ap (λ (n : ℕ). record (stay_of (cyclic_after_lose c)) { seen = n }) full) j z;
    },
  )

  pub learns_first : c.count ≡ 0 → l.firer_hand ≡ None
      → Learns (firing_view l) (Raises id First) (firing_view (after Publish (after (Expire id) l)))
  learns_first none free = λ z. record (firing_view l) {
    stays =
        λ j. stays_edit cyclic_after_expire (λ s. record s { sent = s.sent + 1; seen = 0 + 1 })
        (ap (λ (n : ℕ). record (stay_of (cyclic_after_expire c)) { seen = n + 1 }) none) j z;
    hand_free = is_none (sym free z);
  }

  -- an expiration above 0 leaves the hand empty
  pub hand_still : 0 < c.count → l.firer_hand ≡ None → (after (Expire id) l).firer_hand ≡ None
  hand_still some free = by c.count some (ap count_in is)
    where
      by : (n : ℕ) → 0 < n → count l id ≡ n → hand_after_expire (count l id) id l.firer_hand ≡ None
      by zero some e = absurd (omega (arith, some))
      by (suc n) some e = ap (λ (k : ℕ). hand_after_expire k id l.firer_hand) e ∙ free

  pub learns_more : 0 < c.count → c.count < l.ceiling → l.firer_hand ≡ None
      → Learns (firing_view l) (Raises id More) (firing_view (after (Expire id) l))
  learns_more some below free =
      let hand = hand_still some free in (
        c.count,
        some,
        below,
        (let e = seen_is in omega (arith, e)),
        λ z. record (firing_view l) {
          stays = λ j. stays_edit cyclic_after_expire
              (λ s. record s { sent = s.sent + 1; seen = c.count + 1 }) refl j z;
          hand_free = is_none ((hand ∙ sym free) z);
        },
      )

  same_sent : (s : Stay) → option_map stay_of (l.cyclics id) ≡ Some s → c.sent ≡ s.sent
  same_sent s there = let both : Some (stay_of c) ≡ Some s = sym (ap (option_map stay_of) is)
      ∙ there in let same : stay_of c ≡ s = cc in ap (λ (t : Stay). t.sent) same

  pub can_lose : MayRaise id (firing_view l) → c.count ≡ l.ceiling → Enabled (Lose id) l
  can_lose ((s, there, room), unmarked, free) full = (
    free_hand l.firer_hand free,
    unmarked,
    is_some_and (λ (x : AdmittedCyclic). (x.count ≡ l.ceiling) × (x.sent < most_sent))
        (l.cyclics id) c is (full, (let e = same_sent s there in omega (arith, e, room))),
  )

  pub can_expire : MayRaise id (firing_view l) → c.count < l.ceiling → Enabled (Expire id) l
  can_expire ((s, there, room), unmarked, free) below = (
    free_hand l.firer_hand free,
    unmarked,
    is_some_and (λ (x : AdmittedCyclic). (x.count < l.ceiling) × (x.sent < most_sent))
        (l.cyclics id) c is (below, (let e = same_sent s there in omega (arith, e, room))),
  )

  pub can_publish : c.count ≡ 0 → Enabled Publish (after (Expire id) l)
  can_publish none = subst (λ (n : ℕ). IsSome (hand_after_expire n id l.firer_hand)) (sym (ap count_in is ∙ none)) refl

  pub can_mark : MayMark id (firing_view l) → Enabled (Mark id) l
  can_mark (_, unmarked, free) = (free_hand l.firer_hand free, unmarked, is_some_of (l.cyclics id) c is)

  pub can_clear : MayPoll id (firing_view l) → c.count ≡ 0 → Enabled (Clear id) l
  can_clear (_, marked, free) none = (free_hand l.firer_hand free, marked, ap count_in is ∙ none)

pub can_expand : (l : SoftLevel) (bank : ℕ) → MayExpand bank (firing_view l) → Enabled (Switch bank) l
can_expand l bank (more, most, followed, free) =
    (free_hand l.firer_hand free, (let same : l.hard_bank ≡ l.soft_bank = grind (arith, nat_tests) in same), more, most)
