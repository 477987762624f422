-- What a fire and `settled` make of a firing side, which may come back.
use Rattle.std.proofs.Common.{◌≡◌, ℕ, suc, length, ◌+◌, ◌≤◌, inl, inr, Bool, true, false, cond, Option, Some, None, Result, Ok}
use Rattle.std.proofs.Common.{Err, List, [], ◌∷◌, map, option_map, refl, sym, ap, ◌∙◌, subst, arith, All}
use Rattle.std.specs.Prelude.{eqb}
use Rattle.std.specs.List.{slice_get}
use Rattle.cyc_types.specs.declared.Calls.{Ghosts as Calls}
use Rattle.cyc_types.specs.declared.Raise.{Ghosts as Raise}
use Rattle.cyc_types.specs.Firing.{FiringView, FiringCall, Stay, Learns, Admits, Loads, Raises, Marks, Polls, Expands, Looks}
use Rattle.cyc_types.specs.Firing.{edited, edit_stay}
use Rattle.cyc_types.specs.Runs.{Goes, lost_by}
use Rattle.cyc_types.specs.declared.firing.Raised.TheVariants.{First, More, Lost}
use Rattle.cyc_types.specs.declared.level.Level.{Level}
use Rattle.cyc_types.specs.declared.level.Level.TheVariants as at
use Rattle.cyc_timers.specs.declared.fire.Fired.{Fired}
use Rattle.cyc_timers.specs.declared.fire.FireRefused.{FireRefused}
use Rattle.cyc_cpu.specs.Acts.{Sides, AreRaises}
use Rattle.cyc_cpu.specs.Made.{Makes, HasCounts}
use Rattle.cyc_cpu.specs.Quiet.{LoadsThenLooks}
use Rattle.cyc_types.specs.Expirations as expire
use Rattle.cyc_types.specs.Expirations.{Expiration, all_after}
use Rattle.cyc_types.specs.Timers.{Timer}
use Rattle.cyc_types.specs.Pairs.{EachTwo}
use Rattle.cyc_agreement.specs.Rows.{Cyclic, timers}
use Rattle.cyc_cpu.specs.Cpu.{CpuView, Running, SameCpu}
use Rattle.cyc_cpu.specs.Laws.{IsLawful}
use Rattle.cyc_cpu.specs.Losses.{IsUnder, IsSpared}
use Rattle.cyc_cpu.specs.Moving.{Inquires}
use Rattle.cyc_cpu.specs.Calls.{CpuChanges, CpuDoes, Fire, AskSettled, no_interrupts}
use Rattle.cyc_system.specs.Splitting.{GoesOn, IsSameEnd, ComesBack, AllComeBack}
use Rattle.cyc_timers.specs.Acts.{acting}
use Rattle.cyc_timers.specs.Made.{fire_state}

-- ---- two lists

each_same : {A : Type 0} (P : A → A → Type 0) → ((x : A) → P x x) → (xs : List A) → EachTwo P xs xs
each_same P own [] = tt
each_same P own (x ∷ xs) = (own x, each_same P own xs)

each_then : {A : Type 0} (P Q S : A → A → Type 0) → ((x y z : A) → P x y → Q y z → S x z) → (xs ys zs : List A) → EachTwo P xs ys
    → EachTwo Q ys zs → EachTwo S xs zs
each_then P Q S then [] [] [] h k = tt
each_then P Q S then [] [] (z ∷ zs) h k = absurd k
each_then P Q S then [] (y ∷ ys) zs h k = absurd h
each_then P Q S then (x ∷ xs) [] zs h k = absurd h
each_then P Q S then (x ∷ xs) (y ∷ ys) [] h k = absurd k
each_then P Q S then (x ∷ xs) (y ∷ ys) (z ∷ zs) h k = (then x y z h.0 k.0, each_then P Q S then xs ys zs h.1 k.1)

each_of : {A : Type 0} (P : A → A → Type 0) (xs ys : List A) → length ys ≡ length xs
    → ((n : ℕ) (x y : A) → slice_get xs n ≡ Some x → slice_get ys n ≡ Some y → P x y) → EachTwo P xs ys
each_of P [] [] long h = tt
each_of P [] (y ∷ ys) long h = absurd (omega (arith, long))
each_of P (x ∷ xs) [] long h = absurd (omega (arith, long))
each_of P (x ∷ xs) (y ∷ ys) long h = (h 0 x y refl refl, each_of P xs ys (omega (arith, long)) (λ n a b p q. h (suc n) a b p q))

-- ---- cyclics

goes_same : (lock low : ℕ) (c : Cyclic) → GoesOn lock low c c
goes_same lock low c = record {
  id = refl;
  level = refl;
  interval = refl;
  expired = omega arith;
  lost = omega arith;
  spared = λ e under. e;
}

under_less : (lock low : ℕ) (l : Level) (a b : ℕ) → a ≤ b → IsUnder lock low l b → IsUnder lock low l a
under_less lock low at.Low a b less h = omega (arith, less, h)
under_less lock low at.Lock a b less h = omega (arith, less, h)
under_less lock low at.High a b less h = h

goes_then : (lock low : ℕ) (c d e : Cyclic) → GoesOn lock low c d → GoesOn lock low d e → GoesOn lock low c e
goes_then lock low c d e g h = record {
  id = h.id ∙ g.id;
  level = h.level ∙ g.level;
  interval = h.interval ∙ g.interval;
  expired = (let a = g.expired in let b = h.expired in omega (arith, a, b));
  lost = (let a = g.lost in let b = h.lost in omega (arith, a, b));
  spared = λ none under. h.spared (g.spared none (subst (λ l. IsUnder lock low l d.timer.expired) h.level
      (under_less lock low e.timer.level d.timer.expired e.timer.expired h.expired under))) under;
}

-- ---- one end

end_same : (v : FiringView) → IsSameEnd v v
end_same v = record { ceiling = refl; indexes = λ id. refl }

end_then : (u v w : FiringView) → IsSameEnd u v → IsSameEnd v w → IsSameEnd u w
end_then u v w a b = record { ceiling = b.ceiling ∙ a.ceiling; indexes = λ id. b.indexes id ∙ a.indexes id }

edited_index : (f : Stay → Stay) → ((s : Stay) → (f s).index ≡ s.index) → (b : Bool) (o : Option Stay)
    → option_map (λ (s : Stay). s.index) (cond b (edited f o) o) ≡ option_map (λ (s : Stay). s.index) o
edited_index f kept true None = refl
edited_index f kept true (Some s) = ap Some (kept s)
edited_index f kept false o = refl

-- a stay whose index is kept
end_edited : (id : ℕ) (f : Stay → Stay) (v w : FiringView) → ((s : Stay) → (f s).index ≡ s.index) → w ≡ edit_stay id f v
    → IsSameEnd v w
end_edited id f v w kept e = subst (λ u. IsSameEnd v u) (sym e)
    (record { ceiling = refl; indexes = λ j. edited_index f kept (eqb j id) (v.stays j) })

-- the calls of a fire and of `settled`
abbrev IsSteady : FiringCall → Type 0
IsSteady (Raises id answer) = Unit {0}
IsSteady (Loads id pend) = Unit {0}
IsSteady (Looks answer) = Unit {0}
IsSteady (Admits id index) = ⊥
IsSteady (Marks id pend) = ⊥
IsSteady (Polls id answer) = ⊥
IsSteady (Expands bank) = ⊥

abbrev AreSteady : List FiringCall → Type 0
AreSteady [] = Unit {0}
AreSteady (call ∷ way) = IsSteady call × AreSteady way

learns_end : (v w : FiringView) (call : FiringCall) → IsSteady call → Learns v call w → IsSameEnd v w
learns_end v w (Raises id First) steady l = end_edited id (λ s. record s { sent = s.sent + 1; seen = 0 + 1 }) v w (λ s. refl) l
learns_end v w (Raises id More) steady (pend, some, less, seen, l) =
    end_edited id (λ s. record s { sent = s.sent + 1; seen = pend + 1 }) v w (λ s. refl) l
learns_end v w (Raises id Lost) steady l =
    end_edited id (λ s. record s { sent = s.sent + 1; lost = s.lost + 1; seen = v.ceiling }) v w (λ s. refl) l.1
learns_end v w (Loads id pend) steady l = end_edited id (λ s. record s { seen = pend }) v w (λ s. refl) l.1
learns_end v w (Looks answer) steady l = subst (λ u. IsSameEnd v u) (sym l.1) (record { ceiling = refl; indexes = λ j. refl })
learns_end v w (Admits id index) steady l = absurd steady
learns_end v w (Marks id pend) steady l = absurd steady
learns_end v w (Polls id answer) steady l = absurd steady
learns_end v w (Expands bank) steady l = absurd steady

raises_steady : (ids : List ℕ) (way : List FiringCall) → AreRaises ids way → AreSteady way
raises_steady [] [] h = tt
raises_steady [] (call ∷ way) h = absurd h
raises_steady (id ∷ ids) [] h = absurd h
raises_steady (id ∷ ids) (Raises j answer ∷ way) h = (tt, raises_steady ids way h.1)
raises_steady (id ∷ ids) (Admits j index ∷ way) h = absurd h.0
raises_steady (id ∷ ids) (Loads j pend ∷ way) h = absurd h.0
raises_steady (id ∷ ids) (Marks j pend ∷ way) h = absurd h.0
raises_steady (id ∷ ids) (Polls j answer ∷ way) h = absurd h.0
raises_steady (id ∷ ids) (Expands bank ∷ way) h = absurd h.0
raises_steady (id ∷ ids) (Looks answer ∷ way) h = absurd h.0

loads_steady : (asked : List (ℕ × ℕ)) → AreSteady (map (λ a. Loads a.0 a.1) asked)
loads_steady [] = tt
loads_steady (a ∷ asked) = (tt, loads_steady asked)

looks_steady : (answers : List Bool) → AreSteady (map Looks answers)
looks_steady [] = tt
looks_steady (a ∷ answers) = (tt, looks_steady answers)

module _ {R : Type 0} (firing : Raise R) where
  goes_end : (e f : R) (way : List FiringCall) → AreSteady way → Goes firing e way f → IsSameEnd (firing.view e) (firing.view f)
  goes_end e f [] steady last = subst (λ x. IsSameEnd (firing.view e) (firing.view x)) last (end_same (firing.view e))
  goes_end e f (call ∷ way) steady (m, (stepped, learns), rest) =
      end_then (firing.view e) (firing.view m) (firing.view f) (learns_end (firing.view e) (firing.view m) call steady.0 learns)
      (goes_end m f way steady.1 rest)

  inquired_end : (e f : R) → LoadsThenLooks firing e f → IsSameEnd (firing.view e) (firing.view f)
  inquired_end e f (m, (asked, loads), (answers, looks)) =
      end_then (firing.view e) (firing.view m) (firing.view f) (goes_end e m _ (loads_steady asked) loads)
      (goes_end m f _ (looks_steady answers) looks)

-- ---- a CPU

cons_head : {A : Type 0} {x y : A} {xs ys : List A} → x ∷ xs ≡ y ∷ ys → x ≡ y
cons_head {A} {x} {y} {xs} {ys} e = cc

cons_tail : {A : Type 0} {x y : A} {xs ys : List A} → x ∷ xs ≡ y ∷ ys → xs ≡ ys
cons_tail {A} {x} {y} {xs} {ys} e = cc

cons_none : {A : Type 0} {x : A} {xs : List A} → x ∷ xs ≡ [] → ⊥
cons_none {A} {x} {xs} e = cc

none_cons : {A : Type 0} {x : A} {xs : List A} → [] ≡ x ∷ xs → ⊥
none_cons {A} {x} {xs} e = cc

-- one cyclic after a fire
fired_one : (lock low now most : ℕ) (made : List Expiration) (lost : ℕ → ℕ → ℕ) (c d : Cyclic) → ((id n : ℕ) → n ≤ lost id n)
    → d.timer ≡ expire.after_expirations now made c.timer
    → d.carried ≡ c.carried → d.lost ≡ lost c.timer.id c.lost → HasCounts most c → IsSpared lock low d → GoesOn lock low c d
unfolding expire.after_expirations
fired_one lock low now most made lost c d more timer carried losses counts spared = record {
  id = ap (λ (t : Timer). t.id) timer;
  level = ap (λ (t : Timer). t.level) timer;
  interval = ap (λ (t : Timer). t.interval) timer;
  expired = (let e = ap (λ (t : Timer). t.expired) timer in omega (arith, e));
  lost = (let m = more c.timer.id c.lost in omega (arith, m, losses));
  spared = λ none under. (let e = spared under in let f = ap (λ x. x.lost) carried in let g = counts.carried_lost in
      omega (arith, e, f, g, none));
}

fired_each : (lock low now most : ℕ) (made : List Expiration) (lost : ℕ → ℕ → ℕ) (cs ds : List Cyclic)
    → ((id n : ℕ) → n ≤ lost id n)
    → timers ds ≡ all_after now made (timers cs) → map (λ (c : Cyclic). c.carried) ds ≡ map (λ (c : Cyclic). c.carried) cs
    → map (λ (c : Cyclic). c.lost) ds ≡ map (λ (c : Cyclic). lost c.timer.id c.lost) cs → All (HasCounts most) cs
    → All (IsSpared lock low) ds
    → EachTwo (GoesOn lock low) cs ds
unfolding all_after
fired_each lock low now most made lost [] [] more timer carried losses counts spared = tt
fired_each lock low now most made lost [] (d ∷ ds) more timer carried losses counts spared = absurd (cons_none timer)
fired_each lock low now most made lost (c ∷ cs) [] more timer carried losses counts spared = absurd (none_cons timer)
fired_each lock low now most made lost (c ∷ cs) (d ∷ ds) more timer carried losses counts spared = (
  fired_one lock low now most made lost c d more (cons_head timer) (cons_head carried) (cons_head losses)
      (counts 0 c (omega arith)) (spared 0 d (omega arith)),
  fired_each lock low now most made lost cs ds more (cons_tail timer) (cons_tail carried) (cons_tail losses)
      (λ k x less. counts (suc k) x (omega (arith, less))) (λ k x less. spared (suc k) x (omega (arith, less))),
)

module _ {R : Type 0} (view : R → FiringView) where
  pub back_same : (x : CpuView R) → ComesBack view x x
  back_same x = record {
    cyclics = each_same _ (goes_same (view x.lock).ceiling (view x.low).ceiling) x.cyclics;
    removal = refl;
    size = refl;
    most = refl;
    suspended = refl;
    lock = end_same (view x.lock);
    low = end_same (view x.low);
  }

  pub back_then : (x y z : CpuView R) → ComesBack view x y → ComesBack view y z → ComesBack view x z
  back_then x y z a b = record {
    cyclics = each_then _ _ _ (goes_then (view x.lock).ceiling (view x.low).ceiling) x.cyclics y.cyclics z.cyclics a.cyclics
        (subst (λ n. EachTwo (GoesOn (view x.lock).ceiling n) y.cyclics z.cyclics) a.low.ceiling
        (subst (λ n. EachTwo (GoesOn n (view y.low).ceiling) y.cyclics z.cyclics) a.lock.ceiling b.cyclics));
    removal = b.removal ∙ a.removal;
    size = b.size ∙ a.size;
    most = b.most ∙ a.most;
    suspended = b.suspended ∙ a.suspended;
    lock = end_then (view x.lock) (view y.lock) (view z.lock) a.lock b.lock;
    low = end_then (view x.low) (view y.low) (view z.low) a.low b.low;
  }

module _ {C R : Type 0} (handler : Calls C) (firing : Raise R) where
  -- so many expirations of a fire were made
  back_made : (x y : CpuView R) (calling : C → ℕ → C → Type 0) (now lost : ℕ) (made : List Expiration) (a b : Sides C R)
      → IsLawful firing.view x → IsLawful firing.view y → SameCpu x y
      → a.lock ≡ x.lock → a.low ≡ x.low → b.lock ≡ y.lock → b.low ≡ y.low
      → Makes (acting calling handler.count firing) now made (fire_state x.cyclics a)
      (fire_state y.cyclics b) lost → ComesBack firing.view x y
  back_made x y calling now lost made a b lawful after same al aw bl bw m = record {
    cyclics = fired_each (firing.view x.lock).ceiling (firing.view x.low).ceiling now x.most made
        (λ id n. n + lost_by id m.acts.lock_way + lost_by id m.acts.low_way) x.cyclics y.cyclics
        (λ id n. omega arith) m.timers_are m.carried_are m.losses_are lawful.counted
        (subst (λ n. All (IsSpared (firing.view x.lock).ceiling n) y.cyclics) low.ceiling
        (subst (λ n. All (IsSpared n (firing.view y.low).ceiling) y.cyclics) lock.ceiling after.spared));
    removal = same.removal;
    size = same.size;
    most = same.most;
    suspended = same.suspended;
    lock = lock;
    low = low;
  }
    where
      lock : IsSameEnd (firing.view x.lock) (firing.view y.lock)
      lock = subst (λ e. IsSameEnd (firing.view e) (firing.view y.lock)) al
          (subst (λ f. IsSameEnd (firing.view a.lock) (firing.view f)) bl
          (goes_end firing a.lock b.lock m.acts.lock_way
          (raises_steady _ m.acts.lock_way m.acts.lock_raises) m.acts.lock_goes))

      low : IsSameEnd (firing.view x.low) (firing.view y.low)
      low = subst (λ e. IsSameEnd (firing.view e) (firing.view y.low)) aw
          (subst (λ f. IsSameEnd (firing.view a.low) (firing.view f)) bw
          (goes_end firing a.low b.low m.acts.low_way (raises_steady _ m.acts.low_way m.acts.low_raises) m.acts.low_goes))

  pub back_fired : (s t : Running C R) (now : ℕ) (answer : Result Fired FireRefused) → IsLawful firing.view s.cpu
      → IsLawful firing.view t.cpu
      → CpuDoes handler firing no_interrupts s (Fire now answer) t → ComesBack firing.view s.cpu t.cpu
  back_fired s t now (Ok r) lawful after (nn, same, expired, next, makes) =
      back_made s.cpu t.cpu _ now r.lost _ _ _ lawful after same refl refl refl refl makes
  back_fired s t now (Err e) lawful after (inl (is, what, same)) =
      subst (λ (u : Running C R). ComesBack firing.view s.cpu u.cpu) (sym same) (back_same firing.view s.cpu)
  back_fired s t now (Err e) lawful after (inr (nn, same, stopped)) =
      back_made s.cpu t.cpu _ now e.lost _ _ _ lawful after same refl refl refl refl stopped.makes

  back_inquired : (v w : CpuView R) → Inquires firing v w → ComesBack firing.view v w
  back_inquired v w i = record {
    cyclics = subst (λ cs. EachTwo (GoesOn (firing.view v.lock).ceiling (firing.view v.low).ceiling) v.cyclics cs) (sym i.cyclics)
        (each_same _ (goes_same (firing.view v.lock).ceiling (firing.view v.low).ceiling) v.cyclics);
    removal = i.kept.removal;
    size = i.kept.size;
    most = i.kept.most;
    suspended = i.kept.suspended;
    lock = inquired_end firing v.lock w.lock i.lock;
    low = inquired_end firing v.low w.low i.low;
  }

  pub back_settled : (v w : CpuView R) (answer : Bool) → CpuChanges firing v (AskSettled answer) w → ComesBack firing.view v w
  back_settled v w true d = back_inquired v w d.0
  back_settled v w false d = back_inquired v w d.0

  pub all_same : (xs : List (CpuView R)) → AllComeBack firing.view xs xs
  all_same xs = each_same _ (back_same firing.view) xs

  pub all_of : (xs ys : List (CpuView R)) → length ys ≡ length xs
      → ((n : ℕ) (x y : CpuView R) → slice_get xs n ≡ Some x → slice_get ys n ≡ Some y → ComesBack firing.view x y)
      → AllComeBack firing.view xs ys
  all_of xs ys long h = each_of (ComesBack firing.view) xs ys long h
