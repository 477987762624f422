-- What a fire calls of each cyclic.
use Rattle.std.proofs.Common.{◌≡◌, ◌≢◌, ◌∙◌, ℕ, suc, ◌+◌, ◌<◌, ◌≤◌, inl, inr, Bool, true, false, cond, All, List, []}
use Rattle.std.proofs.Common.{◌∷◌, ◌++◌, ◌==◌, length, get_or, Some, Result, Ok, Err, IfOk, IfErr, refl, sym, ap, subst, arith}
use Rattle.std.specs.List.{FoldsTo}
use Rattle.std.proofs.lemmas.Bool.Decides.{nat_tests}
use Rattle.std.proofs.lemmas.List.{get_or-map, length-map}
use Rattle.std.proofs.lemmas.List.Sums.{sum_by-append}
use Rattle.cyc_types.specs.Counting.{times}
use Rattle.cyc_types.specs.Expirations.{Expiration, expirations, times_of}
use Rattle.cyc_types.specs.Levels.{at_level}
use Rattle.cyc_types.specs.Series.{due}
use Rattle.cyc_types.specs.Timers.{Timer}
use Rattle.cyc_types.specs.declared.level.Level.{Level}
use Rattle.cyc_types.specs.declared.level.Level.TheVariants.{Low, Lock, High}
use Rattle.cyc_cpu.specs.Acts.{Sides, is_of_level, same_level, timer_of}
use Rattle.cyc_cpu.specs.Calls.{CpuDoes, Fire, no_interrupts}
use Rattle.cyc_cpu.specs.Cpu.{Running, sides}
use Rattle.cyc_cpu.specs.FireRefused.{FireRefused}
use Rattle.cyc_cpu.specs.Fired.{Fired}
use Rattle.cyc_cpu.specs.Made.{Makes}
use Rattle.cyc_cpu.specs.Rows.{Cyclic, timers}
use Rattle.cyc_cpu.specs.Shares.{share}
use Rattle.cyc_cpu.specs.Soft.{raise_tables}
use Rattle.cyc_cpu.specs.Tables.{Tables}
use Rattle.uses.specs.Tick.{IsCalled, calls_so_far, tasks_calls}
use Rattle.uses.specs.declared.tick.Tasks.{Tasks}
use Rattle.cyc_timers.specs.Acts.{acting}
use Rattle.cyc_timers.specs.Made.{fire_state}

none_made : (level : Level) (ts : List Timer) (id : ℕ) → share level ts [] id ≡ 0
none_made level ts id = by (is_of_level level (timer_of id ts))
  where
    by : (b : Bool) → ◌≡◌ {A = ℕ} (cond b 0 0) 0
    by true = refl
    by false = refl

-- the law of shares, of high level
abbrev pub HighLaw : Type 0
HighLaw = (now : ℕ) (made : List Expiration) (cs cs' : List Cyclic) (s s' : Sides Tasks Tables) (lost : ℕ)
    → Makes (acting (at_level IsCalled High) calls_so_far raise_tables) now made (fire_state cs s)
    (fire_state cs' s') lost
    → (id : ℕ) → calls_so_far s'.calls id ≡ calls_so_far s.calls id + share High (timers cs) made id

-- ---- a switch

asks_last : (id : ℕ) (ids : List ℕ) (s t : Tasks) → FoldsTo (at_level IsCalled High) s (id ∷ ids) t → t.switch ≡ true
asks_last id [] s t (m, one, same) = ap (λ (x : Tasks). x.switch) (sym same) ∙ one.1
asks_last id (x ∷ xs) s t (m, one, rest) = asks_last x xs m t rest

-- where an id was called, the last call asks for a switch
pub asks : (id : ℕ) (ids : List ℕ) (s t : Tasks) → 0 < times id ids → FoldsTo (at_level IsCalled High) s ids t → t.switch ≡ true
asks id [] s t some way = absurd (omega (arith, some))
asks id (x ∷ xs) s t some way = asks_last x xs s t way

-- ---- a fire that was made, and one that was refused

module _ (law : HighLaw) (now : ℕ) (s t : Running Tasks Tables) where
  -- the handlers were called for these expirations
  abbrev pub Called : List Expiration → Type 0
  Called made = (id : ℕ) → calls_so_far t.calls id ≡ calls_so_far s.calls id + share High (timers s.cpu.cyclics) made id

  pub made_whole : (answer : Result Fired FireRefused) → CpuDoes tasks_calls raise_tables no_interrupts s (Fire now answer) t
      → IfOk answer (λ r. Called (expirations now (timers s.cpu.cyclics)))
  made_whole (Ok r) (early, kept, expired, next, m) = law now (expirations now (timers s.cpu.cyclics)) s.cpu.cyclics t.cpu.cyclics
      (sides s.calls s.cpu) (sides t.calls t.cpu) r.lost m
  made_whole (Err e) d = tt

  pub made_front : (answer : Result Fired FireRefused) → CpuDoes tasks_calls raise_tables no_interrupts s (Fire now answer) t
      → IfErr answer (λ e. (made rest : List Expiration) × (expirations now (timers s.cpu.cyclics) ≡ made ++ rest) × Called made)
  made_front (Ok r) d = tt
  made_front (Err e) (inl (late, is, same)) = (
    [],
    expirations now (timers s.cpu.cyclics),
    refl,
    (λ id. let a = ap (λ (x : Running Tasks Tables). calls_so_far x.calls id) same in
        let b = none_made High (timers s.cpu.cyclics) id in omega (arith, a, b)),
  )
  made_front (Err e) (inr (early, kept, f)) = (
    f.made,
    f.last ∷ f.rest,
    f.listed,
    (λ id. let a = law now f.made s.cpu.cyclics t.cpu.cyclics (sides s.calls s.cpu) (sides f.at t.cpu) e.lost f.makes id in
        let b = f.counted id in omega (arith, a, b)),
  )

  -- where an id was called, the last call asks for a switch
  pub made_switch : (answer : Result Fired FireRefused) → CpuDoes tasks_calls raise_tables no_interrupts s (Fire now answer) t
      → IfOk answer (λ r. (id : ℕ) → calls_so_far s.calls id < calls_so_far t.calls id → t.calls.switch ≡ true)
  made_switch (Ok r) (early, kept, expired, next, m) = λ id more.
      asks id _ s.calls t.calls (let a = m.acts.counted id in omega (arith, a, more)) m.acts.called_in_order
  made_switch (Err e) d = tt

-- ---- shares

at_high : (level : Level) (n : ℕ) → level ≡ High → cond (same_level High level) n 0 ≡ n
at_high level n is = ap (λ l. cond (same_level High l) n 0) is

at_most : (b : Bool) (n : ℕ) → cond b n 0 ≤ n
at_most true n = omega arith
at_most false n = omega arith

not_high : (level : Level) → level ≢ High → same_level High level ≡ false
not_high Low ne = refl
not_high Lock ne = refl
not_high High ne = absurd (ne refl)

-- the share of a front is at most that of the whole
share_front : (level : Level) (ts : List Timer) (made rest : List Expiration) (id : ℕ)
    → share level ts made id ≤ share level ts (made ++ rest) id
share_front level ts made rest id = by (is_of_level level (timer_of id ts))
  where
    by : (b : Bool) → cond b (times_of id made) 0 ≤ cond b (times_of id (made ++ rest)) 0
    by true = let e : times_of id (made ++ rest) ≡ times_of id made + times_of id rest = sum_by-append _ made rest in
        omega (arith, e)
    by false = omega arith

-- an id that no cyclic of high level has, has no share there
pub no_share : (cs : List Cyclic) (made : List Expiration) (id : ℕ) → All (λ c. c.timer.id ≡ id → c.timer.level ≢ High) cs
    → share High (timers cs) made id ≡ 0
no_share cs made id none = ap (λ b. cond b (times_of id made) 0) (found cs none)
  where
    found : (cs : List Cyclic) → All (λ c. c.timer.id ≡ id → c.timer.level ≢ High) cs
        → is_of_level High (timer_of id (timers cs)) ≡ false
    found [] none = refl
    found (c ∷ cs) none = by (c.timer.id == id) refl (found cs (λ k d low. none (suc k) d (omega (arith, low))))
      where
        by : (b : Bool) → (c.timer.id == id) ≡ b → is_of_level High (timer_of id (timers cs)) ≡ false
            → is_of_level High (cond b (Some c.timer) (timer_of id (timers cs))) ≡ false
        by true is rest = not_high c.timer.level (none 0 c (omega arith) (grind (arith, nat_tests, is)))
        by false is rest = rest

-- each cyclic has its share, and what was due of it is its share in a whole fire
module _ (now : ℕ) (cs : List Cyclic)
    (whole : All (λ (t : Timer). share High (timers cs) (expirations now (timers cs)) t.id
    ≡ cond (same_level High t.level) (due t.moment t.interval now) 0) (timers cs)) where
  own_share : (k : ℕ) (d : Cyclic) → k < length cs → let c = get_or cs k d in
      share High (timers cs) (expirations now (timers cs)) c.timer.id
      ≡ cond (same_level High c.timer.level) (due c.timer.moment c.timer.interval now) 0
  own_share k d low = subst (λ (t : Timer). share High (timers cs) (expirations now (timers cs)) t.id
      ≡ cond (same_level High t.level) (due t.moment t.interval now) 0)
      (get_or-map (λ (c : Cyclic). c.timer) cs k d d.timer low)
      (whole k d.timer (let long = length-map cs (λ (c : Cyclic). c.timer) in omega (arith, low, long)))

  pub called_when_due : (old new : ℕ → ℕ)
      → ((id : ℕ) → new id ≡ old id + share High (timers cs) (expirations now (timers cs)) id)
      → All (λ (c : Cyclic). c.timer.level ≡ High → new c.timer.id ≡ old c.timer.id + due c.timer.moment c.timer.interval now) cs
  called_when_due old new adds k d low is =
      let c = get_or cs k d in let a = adds c.timer.id in let b = own_share k d low in
      let e = at_high c.timer.level (due c.timer.moment c.timer.interval now) is in omega (arith, a, b, e)

  pub called_at_most : (old new : ℕ → ℕ) (made rest : List Expiration) → expirations now (timers cs) ≡ made ++ rest
      → ((id : ℕ) → new id ≡ old id + share High (timers cs) made id)
      → All (λ (c : Cyclic). new c.timer.id ≤ old c.timer.id + due c.timer.moment c.timer.interval now) cs
  called_at_most old new made rest listed adds k d low =
      let c = get_or cs k d in let a = adds c.timer.id in let b = own_share k d low in
      let f = share_front High (timers cs) made rest c.timer.id in
      let g = ap (λ xs. share High (timers cs) xs c.timer.id) listed in
      let e = at_most (same_level High c.timer.level) (due c.timer.moment c.timer.interval now) in omega (arith, a, b, e, f, g)
