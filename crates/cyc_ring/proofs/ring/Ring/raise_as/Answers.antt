use Rattle.std.proofs.Common.{rules, ◌≡◌, ◌≢◌, ℕ, zero, suc, ◌+◌, ◌%◌, ◌^◌, ◌<◌, ◌≤◌, List, [], ◌∷◌, refl, sym, ap, ◌∙◌, subst}
use Rattle.std.proofs.Common.{arith, length, get_or, set, get_or-set_same, get_or-set_other}
use Rattle.std.specs.Prelude.{Option, Some, None}
use Rattle.cyc_types.specs.Firing.{Raises}
use Rattle.cyc_types.specs.declared.firing.Raised.TheVariants as answers
use Rattle.cyc_level.specs.Events.{hand_after_expire}
use Rattle.ring_rule.specs.declared.Setting.{Setting}
use Rattle.ring_rule.specs.declared.RaiseStep.{RaiseStep}
use Rattle.ring_rule.specs.declared.RaiseStep.TheVariants.{Loaded, Lost, Added, Stored, Published}
use Rattle.ring_rule.specs.Words.{index_range, entry}
use Rattle.ring_rule.specs.Trail.{open_stay, firer_hand_of, hard_bank_of, producer_index, seen_pend}
use Rattle.ring_rule.specs.Steps.{ThisSeat}
use Rattle.cyc_finder.specs.Indexes.{index_of}
use Rattle.cyc_ring.specs.Rows.{HoldsStays, stay_index}
use Rattle.ring_steps.specs.Sides.{MakesRaiseStep}
use Rattle.cyc_ring.specs.Views.{IsSeenSound, IsBalanced}
use Rattle.cyc_ring.specs.declared.seats.Stays.{Stays}
use Rattle.cyc_ring.proofs.Calls.{no_raise, one_raise, raise_call}
use Rattle.cyc_types.specs.Limits.{greatest_bank}
use Rattle.cyc_ring.proofs.RaiseSteps.{Begun, Counted, is_real, stay_at, stay_is, stay_named, is_low, is_lost, is_below}
use Rattle.cyc_ring.proofs.RaiseSteps.{stay_below, is_counted, stay_counted, next_is, next_published, counted_run, counted_trail}
use Rattle.cyc_ring.proofs.RaiseSteps.{PutIn, put_in_run, put_in_trail}
use Rattle.cyc_ring.proofs.Balance.{balanced_added, balanced_lost}
use Rattle.cyc_ring.proofs.Learning.{sound_added, sound_lost}
use Rattle.cyc_ring.proofs.Listing.{listed_more}
use Rattle.cyc_ring.proofs.Rows.{fits_more}
use Rattle.cyc_ring.proofs.ring.Ring.raise_as.Goals as goal

more_hand : (n id : ℕ) (h : Option ℕ) → n ≢ 0 → hand_after_expire n id h ≡ h
more_hand zero id h ne = absurd (ne refl)
more_hand (suc n) id h ne = refl

pub load_to_raise-before-requires-clause-stay : goal.load_to_raise-before-requires-clause-stay
load_to_raise-before-requires-clause-stay g c = let r = c.args.raise_seat.now in let k = c.args.self.now.setting in
    let t : List RaiseStep = r.side.seat.me.0.raise_trail in let x : ℕ = c.args.index in let id : ℕ = c.args.id in
    let b : Begun r k g.J.Served.setting id g.J.Served.id x = record {
      own = c.requires.own.1;
      named = c.requires.named;
      index = c.requires.index;
      real =
          is_real id c.number.result c.number.ensures.value c.number.ensures.valid.0;
    } in
    (c.requires.index.0, (stay_at r x, stay_named b, refl, c.requires.room))

pub invariant_of-raise_seat : goal.invariant_of-raise_seat
invariant_of-raise_seat g c = let r = c.args.raise_seat.now in let k = c.args.self.now.setting in let t : List RaiseStep =
    r.side.seat.me.0.raise_trail in let x : ℕ = c.args.index in let id : ℕ = c.args.id in
    let b : Begun r k g.J.Served.setting id g.J.Served.id x = record {
      own = c.requires.own.1;
      named = c.requires.named;
      index = c.requires.index;
      real =
          is_real id c.number.result c.number.ensures.value c.number.ensures.valid.0;
    } in
    let before : ℕ = c.load_to_raise-before.result in let s1 = c.load_to_raise-before.new.side.seat in let lost =
    r.stays.value.lost in
    let test = c.if-before-ceiling.true in let full : before ≡ r.setting.ceiling = omega (arith, test) in
    let m : MakesRaiseStep k (Lost id before) r.side.seat s1 =
    is_lost b s1 before r.setting.ceiling refl full c.load_to_raise-before.ensures.lost in
    let e : s1.me.0.raise_trail ≡ Lost id before ∷ t = ap (λ (m : ThisSeat). m.0.raise_trail) m.1.1 in
    let now = c.deref_mut-then-before-ceiling.ensures.value
    ∙ ap (λ (p : Stays). record p { sent = set p.sent x (get_or p.sent x 0 + 1) })
    c.deref_mut.ensures.value in
    let long : x < length lost = search rules in
    record {
      free_hand = ap firer_hand_of e ∙ r.free_hand;
      bank_is = (r.bank_is.0 ∙ ap hard_bank_of (sym e), r.bank_is.1, r.bank_is.2);
      next_is = r.next_is ∙ ap (λ (u : List RaiseStep). producer_index r.setting.start u % index_range) (sym e);
      ranges = r.ranges;
      rows = subst (λ (p : Stays × List RaiseStep). HoldsStays p.0.ids p.0.sent (set p.0.lost x (get_or p.0.lost x 0 + 1)) p.1)
          (λ z. (sym now z, sym e z))
          (fits_more _ _ _ _ r.rows id x 1 b.index.0 b.index.1 b.real (search rules) (Lost id before ∷ t) (λ id. refl)
          (set lost x (get_or lost x 0 + 1)) (get_or-set_same lost x (get_or lost x 0 + 1) 0 long)
          (λ j ne. get_or-set_other lost x j (get_or lost x 0 + 1) 0 ne) (search rules));
      roomy = r.roomy;
      listed = subst (λ (u : List RaiseStep). (id : ℕ) → index_of id r.finder.entries ≡ stay_index (open_stay id u)) (sym e)
          (listed_more t (Lost id before ∷ t) (λ id. index_of id r.finder.entries) r.listed id 1 (λ id. refl));
      seen = subst (IsSeenSound r.setting.ceiling) (sym e)
          (sound_lost r.setting.ceiling t r.seen id before (is_low b before c.load_to_raise-before.ensures.bound.0));
      balanced = subst IsBalanced (sym e) (balanced_lost t r.balanced id before);
    }

pub add-found-requires-clause-stay : goal.add-found-requires-clause-stay
add-found-requires-clause-stay g c = let r = c.args.raise_seat.now in let k = c.args.self.now.setting in let t : List RaiseStep =
    r.side.seat.me.0.raise_trail in let x : ℕ = c.args.index in let id : ℕ = c.args.id in
    let b : Begun r k g.J.Served.setting id g.J.Served.id x = record {
      own = c.requires.own.1;
      named = c.requires.named;
      index = c.requires.index;
      real =
          is_real id c.number.result c.number.ensures.value c.number.ensures.valid.0;
    } in
    let before : ℕ = c.load_to_raise-before.result in let s1 = c.load_to_raise-before.new.side.seat in
    let test = c.if-before-ceiling.false in
    let w = is_below b s1 before c.load_to_raise-before.ensures.bound c.load_to_raise-before.ensures.below
    (λ e. omega (arith, test, e)) in
    (c.requires.index.0, (stay_at r x, stay_below b w, refl, c.requires.room))

pub invariant_of-raise_seat-then-found-ne0 : goal.invariant_of-raise_seat-then-found-ne0
invariant_of-raise_seat-then-found-ne0 g c = let r = c.args.raise_seat.now in let k = c.args.self.now.setting in
    let t : List RaiseStep = r.side.seat.me.0.raise_trail in let x : ℕ = c.args.index in let id : ℕ = c.args.id in
    let b : Begun r k g.J.Served.setting id g.J.Served.id x = record {
      own = c.requires.own.1;
      named = c.requires.named;
      index = c.requires.index;
      real =
          is_real id c.number.result c.number.ensures.value c.number.ensures.valid.0;
    } in
    let before : ℕ = c.load_to_raise-before.result in let s1 = c.load_to_raise-before.new.side.seat in
    let test = c.if-before-ceiling.false in
    let w = is_below b s1 before c.load_to_raise-before.ensures.bound c.load_to_raise-before.ensures.below
    (λ e. omega (arith, test, e)) in
    let found : ℕ = c.add-found.result in let s2 = c.add-found.new.side.seat in let a =
    is_counted b w s2 found c.add-found.ensures.bound c.add-found.ensures.step in
    let e : s2.me.0.raise_trail ≡ Added id found ∷ Loaded id before ∷ t = counted_trail a in
    record {
      free_hand = ap firer_hand_of e ∙ (more_hand found id (firer_hand_of t) c.if-found-ne0.true ∙ r.free_hand);
      bank_is = (r.bank_is.0 ∙ ap hard_bank_of (sym e), r.bank_is.1, r.bank_is.2);
      next_is = r.next_is ∙ ap (λ (u : List RaiseStep). producer_index r.setting.start u % index_range) (sym e);
      ranges = r.ranges;
      rows = subst (λ (p : Stays × List RaiseStep). HoldsStays p.0.ids (set p.0.sent x (get_or p.0.sent x 0 + 1)) p.0.lost p.1)
          (λ z. (sym c.deref_mut.ensures.value z, sym e z))
          (fits_more _ _ _ _ r.rows id x 0 b.index.0 b.index.1 b.real (search rules) (Added id found ∷ Loaded id before ∷ t)
          (λ id. refl) r.stays.value.lost (omega arith) (λ j ne. refl) (search rules));
      roomy = r.roomy;
      listed = subst (λ (u : List RaiseStep). (id : ℕ) → index_of id r.finder.entries ≡ stay_index (open_stay id u)) (sym e)
          (listed_more t (Added id found ∷ Loaded id before ∷ t) (λ id. index_of id r.finder.entries) r.listed id 0 (λ id. refl));
      seen = subst (IsSeenSound r.setting.ceiling) (sym e)
          (sound_added r.setting.ceiling t r.seen id before found
          (subst (λ (y : Setting). before < y.ceiling) (sym b.own) w.under) w.low a.top);
      balanced = subst IsBalanced (sym e) (balanced_added t r.balanced r.setting.ceiling id found before r.seen
          (λ z. let q : None ≡ Some (stay_at r x) = sym z ∙ stay_is b in absurd (cc)));
    }

pub returns-then-found-ne0-clause-call : goal.returns-then-found-ne0-clause-call
returns-then-found-ne0-clause-call g c = let r = c.args.raise_seat.now in let k = c.args.self.now.setting in
    let t : List RaiseStep = r.side.seat.me.0.raise_trail in let x : ℕ = c.args.index in let id : ℕ = c.args.id in
    let b : Begun r k g.J.Served.setting id g.J.Served.id x = record {
      own = c.requires.own.1;
      named = c.requires.named;
      index = c.requires.index;
      real =
          is_real id c.number.result c.number.ensures.value c.number.ensures.valid.0;
    } in
    let before : ℕ = c.load_to_raise-before.result in let s1 = c.load_to_raise-before.new.side.seat in
    let test = c.if-before-ceiling.false in
    let w = is_below b s1 before c.load_to_raise-before.ensures.bound c.load_to_raise-before.ensures.below
    (λ e. omega (arith, test, e)) in
    let found : ℕ = c.add-found.result in let s2 = c.add-found.new.side.seat in let a =
    is_counted b w s2 found c.add-found.ensures.bound c.add-found.ensures.step in
    let some = c.if-found-ne0.true in raise_call k r.side.seat s2 (Added id found ∷ Loaded id before ∷ [])
    (Raises id answers.More) (counted_run a) (before, found, w.under, w.low, omega (arith, some), a.top, refl)

pub store-requires-clause-bank : goal.store-requires-clause-bank
store-requires-clause-bank g c = let r = c.args.raise_seat.now in let k = c.args.self.now.setting in let t : List RaiseStep =
    r.side.seat.me.0.raise_trail in let x : ℕ = c.args.index in let id : ℕ = c.args.id in
    let b : Begun r k g.J.Served.setting id g.J.Served.id x = record {
      own = c.requires.own.1;
      named = c.requires.named;
      index = c.requires.index;
      real =
          is_real id c.number.result c.number.ensures.value c.number.ensures.valid.0;
    } in
    let before : ℕ = c.load_to_raise-before.result in let s1 = c.load_to_raise-before.new.side.seat in
    let test = c.if-before-ceiling.false in
    let w = is_below b s1 before c.load_to_raise-before.ensures.bound c.load_to_raise-before.ensures.below
    (λ e. omega (arith, test, e)) in
    let found : ℕ = c.add-found.result in let s2 = c.add-found.new.side.seat in let a =
    is_counted b w s2 found c.add-found.ensures.bound c.add-found.ensures.step in
    subst (λ (b : ℕ). (b ≤ greatest_bank) × (r.mask + 1 ≡ 2 ^ b)) (r.bank_is.0 ∙ ap hard_bank_of (sym (counted_trail a)))
    (r.bank_is.1, r.bank_is.2)

pub store-requires-clause-next : goal.store-requires-clause-next
store-requires-clause-next g c = let r = c.args.raise_seat.now in let k = c.args.self.now.setting in let t : List RaiseStep =
    r.side.seat.me.0.raise_trail in let x : ℕ = c.args.index in let id : ℕ = c.args.id in
    let b : Begun r k g.J.Served.setting id g.J.Served.id x = record {
      own = c.requires.own.1;
      named = c.requires.named;
      index = c.requires.index;
      real =
          is_real id c.number.result c.number.ensures.value c.number.ensures.valid.0;
    } in
    let before : ℕ = c.load_to_raise-before.result in let s1 = c.load_to_raise-before.new.side.seat in
    let test = c.if-before-ceiling.false in
    let w = is_below b s1 before c.load_to_raise-before.ensures.bound c.load_to_raise-before.ensures.below
    (λ e. omega (arith, test, e)) in
    let found : ℕ = c.add-found.result in let s2 = c.add-found.new.side.seat in let a =
    is_counted b w s2 found c.add-found.ensures.bound c.add-found.ensures.step in
    next_is b ∙ ap (λ (u : List RaiseStep). producer_index g.J.Served.setting.start u % index_range) (sym (counted_trail a))

pub store-requires-clause-value : goal.store-requires-clause-value
store-requires-clause-value g c = let r = c.args.raise_seat.now in let k = c.args.self.now.setting in let t : List RaiseStep =
    r.side.seat.me.0.raise_trail in let x : ℕ = c.args.index in let id : ℕ = c.args.id in
    let b : Begun r k g.J.Served.setting id g.J.Served.id x = record {
      own = c.requires.own.1;
      named = c.requires.named;
      index = c.requires.index;
      real =
          is_real id c.number.result c.number.ensures.value c.number.ensures.valid.0;
    } in
    let before : ℕ = c.load_to_raise-before.result in let s1 = c.load_to_raise-before.new.side.seat in
    let test = c.if-before-ceiling.false in
    let w = is_below b s1 before c.load_to_raise-before.ensures.bound c.load_to_raise-before.ensures.below
    (λ e. omega (arith, test, e)) in
    let found : ℕ = c.add-found.result in let s2 = c.add-found.new.side.seat in let a =
    is_counted b w s2 found c.add-found.ensures.bound c.add-found.ensures.step in (
      record { index = x; sent = get_or r.stays.value.sent x 0 + 1; lost = get_or r.stays.value.lost x 0 + 0 },
      (λ z. open_stay (b.named.0 z) (counted_trail a z))
          ∙ stay_counted b found before,
      ap (λ (y : ℕ). entry y x) (c.number.ensures.value ∙ sym b.named.0),
    )

pub invariant_of-raise_seat-2 : goal.invariant_of-raise_seat-2
invariant_of-raise_seat-2 g c = let r = c.args.raise_seat.now in let k = c.args.self.now.setting in let t : List RaiseStep =
    r.side.seat.me.0.raise_trail in let x : ℕ = c.args.index in let id : ℕ = c.args.id in
    let b : Begun r k g.J.Served.setting id g.J.Served.id x = record {
      own = c.requires.own.1;
      named = c.requires.named;
      index = c.requires.index;
      real =
          is_real id c.number.result c.number.ensures.value c.number.ensures.valid.0;
    } in
    let before : ℕ = c.load_to_raise-before.result in let s1 = c.load_to_raise-before.new.side.seat in
    let test = c.if-before-ceiling.false in
    let w = is_below b s1 before c.load_to_raise-before.ensures.bound c.load_to_raise-before.ensures.below
    (λ e. omega (arith, test, e)) in
    let s2 = c.add-found.new.side.seat in let s3 = c.store.new.side.seat in let s4 = c.publish.new.side.seat in
    let none : c.add-found.result ≡ 0 = search rules in let n = c.requires.named in let w' : ℕ =
    (producer_index k.start t + 1) % index_range in
    let p : PutIn r k id x s1 s2 s3 s4 before = record {
      counted = subst (λ (f : ℕ). Counted r k id s1 s2 before f) none
          (is_counted b w s2 c.add-found.result c.add-found.ensures.bound c.add-found.ensures.step);
      stored = subst (λ (p : Setting × ℕ). MakesRaiseStep p.0 (Stored p.1) s2 s3)
          (λ z. (n.1 z, ap (λ (y : ℕ). entry y x) c.number.ensures.value z)) c.store.ensures.step;
      published = subst (λ (p : Setting × ℕ). MakesRaiseStep p.0 (Published p.1) s3 s4)
          (λ z. (n.1 z, next_published b z)) c.publish.ensures;
    } in
    let e : s4.me.0.raise_trail ≡ Published w' ∷ Stored (entry id x) ∷ Added id 0 ∷ Loaded id before ∷ t = put_in_trail p in
    record {
      free_hand = ap firer_hand_of e;
      bank_is = (r.bank_is.0 ∙ ap hard_bank_of (sym e), r.bank_is.1, r.bank_is.2);
      next_is = next_published b ∙ (ap (λ (s : Setting). (producer_index s.start t + 1) % index_range) (sym b.own)
          ∙ ap (λ (u : List RaiseStep). producer_index r.setting.start u % index_range) (sym e));
      ranges = r.ranges;
      rows = subst (λ (p : Stays × List RaiseStep). HoldsStays p.0.ids (set p.0.sent x (get_or p.0.sent x 0 + 1)) p.0.lost p.1)
          (λ z. (sym c.deref_mut.ensures.value z, sym e z))
          (fits_more _ _ _ _ r.rows id x 0 b.index.0 b.index.1 b.real (search rules)
          (Published w' ∷ Stored (entry id x) ∷ Added id 0 ∷ Loaded id before ∷ t) (λ id. refl) r.stays.value.lost
          (omega arith) (λ j ne. refl) (search rules));
      roomy = r.roomy;
      listed = subst (λ (u : List RaiseStep). (id : ℕ) → index_of id r.finder.entries ≡ stay_index (open_stay id u)) (sym e)
          (listed_more t (Published w' ∷ Stored (entry id x) ∷ Added id 0 ∷ Loaded id before ∷ t)
          (λ id. index_of id r.finder.entries) r.listed id 0 (λ id. refl));
      seen = subst (IsSeenSound r.setting.ceiling) (sym e)
          (sound_added r.setting.ceiling t r.seen id before 0 (subst (λ (y : Setting). before < y.ceiling) (sym b.own) w.under)
          w.low p.counted.top);
      balanced = subst IsBalanced (sym e) (balanced_added t r.balanced r.setting.ceiling id 0 before r.seen
          (λ z. let q : None ≡ Some (stay_at r x) = sym z ∙ stay_is b in absurd (cc)));
    }

pub returns-clause-call : goal.returns-clause-call
returns-clause-call g c = let r = c.args.raise_seat.now in let k = c.args.self.now.setting in let t : List RaiseStep =
    r.side.seat.me.0.raise_trail in let x : ℕ = c.args.index in let id : ℕ = c.args.id in
    let b : Begun r k g.J.Served.setting id g.J.Served.id x = record {
      own = c.requires.own.1;
      named = c.requires.named;
      index = c.requires.index;
      real =
          is_real id c.number.result c.number.ensures.value c.number.ensures.valid.0;
    } in
    let before : ℕ = c.load_to_raise-before.result in let s1 = c.load_to_raise-before.new.side.seat in
    let test = c.if-before-ceiling.false in
    let w = is_below b s1 before c.load_to_raise-before.ensures.bound c.load_to_raise-before.ensures.below
    (λ e. omega (arith, test, e)) in
    let s2 = c.add-found.new.side.seat in let s3 = c.store.new.side.seat in let s4 = c.publish.new.side.seat in
    let none : c.add-found.result ≡ 0 = search rules in let n = c.requires.named in let w' : ℕ =
    (producer_index k.start t + 1) % index_range in
    let p : PutIn r k id x s1 s2 s3 s4 before = record {
      counted = subst (λ (f : ℕ). Counted r k id s1 s2 before f) none
          (is_counted b w s2 c.add-found.result c.add-found.ensures.bound c.add-found.ensures.step);
      stored = subst (λ (p : Setting × ℕ). MakesRaiseStep p.0 (Stored p.1) s2 s3)
          (λ z. (n.1 z, ap (λ (y : ℕ). entry y x) c.number.ensures.value z)) c.store.ensures.step;
      published = subst (λ (p : Setting × ℕ). MakesRaiseStep p.0 (Published p.1) s3 s4)
          (λ z. (n.1 z, next_published b z)) c.publish.ensures;
    } in
    raise_call k r.side.seat s4 (Published w' ∷ Stored (entry id x) ∷ Added id 0 ∷ Loaded id before ∷ [])
    (Raises id answers.First) (put_in_run p) (before, stay_at r x, w.under, w.low, stay_is b, refl)

pub returns-then-before-ceiling-clause-call : goal.returns-then-before-ceiling-clause-call
returns-then-before-ceiling-clause-call g c = let r = c.args.raise_seat.now in let k = c.args.self.now.setting in let x : ℕ =
    c.args.index in let id : ℕ = c.args.id in
    let b : Begun r k g.J.Served.setting id g.J.Served.id x = record {
      own = c.requires.own.1;
      named = c.requires.named;
      index = c.requires.index;
      real =
          is_real id c.number.result c.number.ensures.value c.number.ensures.valid.0;
    } in
    let before : ℕ = c.load_to_raise-before.result in let s1 = c.load_to_raise-before.new.side.seat in let test =
    c.if-before-ceiling.true in let full : before ≡ r.setting.ceiling = omega (arith, test) in
    let top : before ≡ k.ceiling = full ∙ ap (λ (s : Setting). s.ceiling) b.own in
    let m : MakesRaiseStep k (Lost id k.ceiling) r.side.seat s1 =
    subst (λ (n : ℕ). MakesRaiseStep k (Lost id n) r.side.seat s1) top
    (is_lost b s1 before r.setting.ceiling refl full c.load_to_raise-before.ensures.lost) in
    raise_call k r.side.seat s1 (Lost id k.ceiling ∷ []) (Raises id answers.Lost)
    (one_raise k (Lost id k.ceiling) r.side.seat [] r.side.seat s1 (no_raise k r.side.seat r.side.role) m) (
      subst (λ (n : ℕ). n ≤ seen_pend id r.side.seat.me.0.raise_trail) top
          (is_low b before c.load_to_raise-before.ensures.bound.0),
      refl,
    )
