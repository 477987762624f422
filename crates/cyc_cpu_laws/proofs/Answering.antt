-- What counts and receipts say of the calls, where one thread has both sides of the levels.
use Rattle.std.proofs.Common.{◌≡◌, ◌≢◌, ℕ, ◌+◌, ◌==◌, All, get_or, Bool, true, cond, List, [], ◌∷◌, Option, Some, None, refl, sym}
use Rattle.std.proofs.Common.{ap, subst, ◌∙◌, arith}
use Rattle.std.specs.Prelude.{Ok}
use Rattle.std.specs.Option.{option_map}
use Rattle.std.proofs.lemmas.Bool.Decides.{nat_tests}
use Rattle.std.proofs.lemmas.List.{get_or_default}
use Rattle.cyc_types.specs.Firing.{FiringCall, Loads, Marks, Polls, Stay}
use Rattle.cyc_types.specs.Runs.{Goes}
use Rattle.cyc_types.specs.declared.firing.Sent.{Sent}
use Rattle.cyc_types.specs.declared.level.Level.{Level}
use Rattle.cyc_types.specs.declared.level.Level.TheVariants.{Low, Lock, High}
use Rattle.cyc_types.specs.Counting.{no_counts}
use Rattle.cyc_cpu.specs.Level.{AdmittedCyclic, SoftLevel, count, count_in}
use Rattle.cyc_cpu.specs.Lawful.{Lawful}
use Rattle.cyc_cpu.specs.Tables.{Tables, level_of}
use Rattle.cyc_cpu.specs.FiringSide.{stay_of}
use Rattle.cyc_cpu.specs.DrainingSide.{done_in}
use Rattle.cyc_cpu.specs.Rows.{Cyclic}
use Rattle.cyc_cpu.specs.declared.removing.Removal.TheVariants.{Done}
use Rattle.cyc_cpu.specs.Cpu.{CpuView, AreAdmitted, IsCyclic}
use Rattle.cyc_cpu.specs.Removal.{Leaves, calls_at}
use Rattle.cyc_cpu.specs.Laws.{IsLawful}
use Rattle.cyc_cpu.specs.Soft.{raise_tables, firing_at, done_at}
use Rattle.cyc_cpu.specs.Calls.{CpuCall, CpuChanges, BeginRemove, PollRemove, TakeNow}
use Rattle.cyc_cpu.specs.Carried.{counts_for, left_by}
use Rattle.cyc_cpu_laws.specs.Receipts.{Releases, HasCalls, done_by, pending_by, IsBalancedCyclic, AnswersCalls}

-- of a lawful stay, each expiration is done, outstanding or lost
stay_done : (l : SoftLevel) (id : ℕ) (s : Stay) (o : Option AdmittedCyclic) → l.cyclics id ≡ o → Lawful l →
    option_map stay_of o ≡ Some s → s.sent ≡ s.lost + done_in o + count_in o
stay_done l id s None is law e = absurd (let wrong : None ≡ Some s = e in cc)
stay_done l id s (Some a) is law e =
    let same : stay_of a ≡ s = cc in
    let x = ap (λ (t : Stay). t.sent) same in let y = ap (λ (t : Stay). t.lost) same in
    let z = law.conserved id a is in omega (arith, x, y, z)

-- what a cyclic of this level has of calls
balanced_here : (soft : Level) (a : Tables) (cs : List Cyclic) (k : ℕ) (c : Cyclic) (n : ℕ) → AreAdmitted soft (firing_at a) cs
    →
    Lawful (level_of a) → IsCyclic cs k c → c.timer.level ≡ soft → HasCalls c.carried n →
    c.timer.expired ≡ c.lost + (n + done_at a c.timer.id) + count (level_of a) c.timer.id
balanced_here soft a cs k c n admitted law here at carried =
    let (s, e, (sent, lost)) = admitted.here k c here at in
    let d = stay_done (level_of a) c.timer.id s ((level_of a).cyclics c.timer.id) refl law e in
    omega (arith, sent, lost, d, carried)

-- where its end has none outstanding
calls_here : (soft : Level) (a : Tables) (cs : List Cyclic) (k : ℕ) (c : Cyclic) (n : ℕ) → AreAdmitted soft (firing_at a) cs →
    Lawful (level_of a) → IsCyclic cs k c → c.timer.level ≡ soft →
    count (level_of a) c.timer.id ≡ 0 → HasCalls c.carried n → c.timer.expired ≡ c.lost + (n + done_at a c.timer.id)
calls_here soft a cs k c n admitted law here at none carried =
    let b = balanced_here soft a cs k c n admitted law here at carried in omega (arith, b, none)

-- the way begins with a call that finds nothing outstanding
abbrev FindsNone : ℕ → List FiringCall → Type 0
FindsNone id way = (a b : Tables) → Goes raise_tables a way b → count (level_of a) id ≡ 0

begun_none : (id : ℕ) (counts : Sent) → FindsNone id (Marks id 0 ∷ Polls id (Some counts) ∷ [])
begun_none id counts a b (m, ((pend, happens), learns), rest) = sym pend

taken_none : (id : ℕ) (counts : Sent) → FindsNone id (Loads id 0 ∷ Marks id 0 ∷ Polls id (Some counts) ∷ [])
taken_none id counts a b (m, ((pend, same), learns), rest) = sym pend

polled_none : (id : ℕ) (counts : Sent) → FindsNone id (Polls id (Some counts) ∷ [])
polled_none id counts a b (m, ((sent, ((free, marked, none), is)), learns), last) = none

module _ (v w : CpuView Tables) (law : IsLawful firing_at v) (lock : Lawful (level_of v.lock))
    (low : Lawful (level_of v.low)) where
  at_level : (id n : ℕ) (way : List FiringCall) (c : Cyclic) (k : ℕ) → IsCyclic v.cyclics k c → c.timer.id ≡ id →
      FindsNone id way → (own : Level) → c.timer.level ≡ own → own ≢ High →
      Goes raise_tables v.lock (calls_at Lock own way) w.lock → Goes raise_tables v.low (calls_at Low own way) w.low →
      HasCalls c.carried n → c.timer.expired ≡ c.lost + (n + done_by own v id)
  at_level id n way c k here named finds Lock at soft goes_lock goes_low carried =
      subst (λ j. c.timer.expired ≡ c.lost + (n + done_at v.lock j)) named
      (calls_here Lock v.lock v.cyclics k c n law.lock lock here at (ap (count (level_of v.lock)) named
      ∙ finds v.lock w.lock goes_lock) carried)
  at_level id n way c k here named finds Low at soft goes_lock goes_low carried =
      subst (λ j. c.timer.expired ≡ c.lost + (n + done_at v.low j)) named
      (calls_here Low v.low v.cyclics k c n law.low low here at (ap (count (level_of v.low)) named
      ∙ finds v.low w.low goes_low) carried)
  at_level id n way c k here named finds High at soft goes_lock goes_low carried = absurd (soft refl)

  left_calls : (id : ℕ) (way : List FiringCall) (c : Cyclic) (l : Leaves raise_tables id way c v w) → FindsNone id way →
      c.timer.level ≢ High → (n : ℕ) → HasCalls c.carried n →
      c.timer.expired ≡ c.lost + (n + done_by c.timer.level v id)
  left_calls id way c l finds soft n carried =
      at_level id n way c l.position l.here l.named finds c.timer.level refl soft l.goes.0 l.goes.1 carried

  balanced_at : (c : Cyclic) (k : ℕ) → IsCyclic v.cyclics k c → (own : Level) → c.timer.level ≡ own → own ≢ High → (n : ℕ) →
      HasCalls c.carried n → c.timer.expired ≡ c.lost + (n + done_by own v c.timer.id) + pending_by own v c.timer.id
  balanced_at c k here Lock at soft n carried = balanced_here Lock v.lock v.cyclics k c n law.lock lock here at carried
  balanced_at c k here Low at soft n carried = balanced_here Low v.low v.cyclics k c n law.low low here at carried
  balanced_at c k here High at soft n carried = absurd (soft refl)

  own_counts : (id : ℕ) (s : Sent) (m : ℕ) → HasCalls s m → HasCalls (counts_for id s id) m
  own_counts id s m h = let yes : (id == id) ≡ true = grind (arith, nat_tests) in
      subst (λ (b : Bool). HasCalls (cond b s no_counts) m) (sym yes) h

  answer : (id own : ℕ) (way : List FiringCall) (c : Cyclic) (s : Sent) (call : CpuCall) → own ≡ id →
      left_by call id ≡ counts_for own s id → s.sent ≡ c.timer.expired → s.lost ≡ c.lost →
      FindsNone own way → Leaves raise_tables own way c v w → AnswersCalls id call v
  answer id own way c s call same is sent lost finds l = record {
    position = l.position;
    cyclic = c;
    here = l.here;
    named = l.named ∙ same;
    calls = λ soft n carried.
        (let m = left_calls own way c l finds soft n carried in
        let h : HasCalls s (n + done_by c.timer.level v own) = omega (arith, m, sent, lost) in
        subst (λ (j : ℕ). HasCalls (left_by call id) (n + done_by c.timer.level v j)) same
        (subst (λ (x : Sent). HasCalls x (n + done_by c.timer.level v own)) (sym is)
        (subst (λ (j : ℕ). HasCalls (counts_for own s j) (n + done_by c.timer.level v own)) same (own_counts own s _ h))));
  }

  pub answers_calls : (id : ℕ) (call : CpuCall) → Releases id call → CpuChanges raise_tables v call w → AnswersCalls id call v
  answers_calls id (BeginRemove own (Ok (Done receipt))) same (still, (c, counts, is, polled, l)) =
      answer id own _ c (record { sent = receipt.sent; lost = receipt.lost })
      (BeginRemove own (Ok (Done receipt))) same refl is.1 is.2 (begun_none own counts) l
  answers_calls id (PollRemove (Some receipt)) same e =
      answer id receipt.id _ e.cyclic (record { sent = receipt.sent; lost = receipt.lost })
      (PollRemove (Some receipt)) same refl e.counted.1 e.counted.2 (polled_none receipt.id e.counts) e.leaves
  answers_calls id (TakeNow own (Ok taken)) same (still, (c, counts, is, polled, l)) =
      answer id own _ c taken.sent (TakeNow own (Ok taken)) same refl is.3 is.4 (taken_none own counts) l
  answers_calls id call released d = absurd released

pub all_balanced : (v : CpuView Tables) → IsLawful firing_at v → Lawful (level_of v.lock) → Lawful (level_of v.low) →
    All (IsBalancedCyclic v) v.cyclics
all_balanced v law lock low k d within =
    balanced_at v v law lock low (get_or v.cyclics k d) k (within, get_or_default v.cyclics k (get_or v.cyclics k d) d within)
    (get_or v.cyclics k d).timer.level refl
