use Rattle.std.proofs.Common.{◌≡◌, ℕ, ◌+◌, ◌<◌, List, refl, sym, ap, ◌∙◌, subst, arith, inl, inr, length, get_or}
use Rattle.std.proofs.lemmas.Bool.{cases_eq}
use Rattle.std.proofs.lemmas.List.{get_or_default}
use Rattle.cyc_types.specs.declared.Raise.{Ghosts as Raise}
use Rattle.cyc_types.specs.Firing.{MayAsk, seen_of}
use Rattle.cyc_types.specs.Runs.{Goes}
use Rattle.cyc_types.specs.declared.level.Level.{Level}
use Rattle.cyc_types.specs.declared.level.Level.TheVariants.{Low, Lock, High}
use Rattle.cyc_timers.specs.Rows.{Row, IsRow}
use Rattle.cyc_timers.specs.Quiet.{asks_at, OnlyLoads}
use Rattle.cyc_timers.specs.Rows.{IsAt}
use Rattle.cyc_timers.proofs.Walks.{walk_on, walk_next, walk_more}
use Rattle.cyc_cpu.proofs.Inquiring.{may_ask_still, only_loads_keep, asked_more, asked_lowers, asked_none, asked_some, row_here}
use Rattle.cyc_cpu.proofs.settling.all_quiet.Goals as goal

module _ {R : Type 0} (firing : Raise R) where
  -- the row to which the walk has come may be asked for
  may_ask : (soft own : Level) (id : ℕ) (rows : List Row) (k : ℕ) (r : Row) (e f : R) → IsRow rows k r → r.timer.id ≡ id
      → own ≡ r.timer.level → ((j : ℕ) (x : Row) → IsRow rows j x → x.timer.level ≡ soft → MayAsk x.timer.id (firing.view e))
      → OnlyLoads firing e f → own ≡ soft → MayAsk id (firing.view f)
  may_ask soft own id rows k r e f is named level may loads at =
      may_ask_still (firing.view e) (firing.view f) id (only_loads_keep firing e f loads)
      (subst (λ q. MayAsk q (firing.view e)) named (may k r is (sym level ∙ at)))

  -- calls that are outstanding are seen
  some_seen : (own : Level) (id n : ℕ) (lock low lock' low' : R) → (own ≡ High → n ≡ 0)
      → (own ≡ Lock → MayAsk id (firing.view lock)) → (own ≡ Low → MayAsk id (firing.view low))
      → Goes firing lock (asks_at Lock own id n) lock'
      → Goes firing low (asks_at Low own id n) low' → 0 < n → 0 < seen_of id (firing.view lock') + seen_of id (firing.view low')
  some_seen High id n lock low lock' low' high may may' goes goes' some = absurd (let z = high refl in omega (arith, z, some))
  some_seen Lock id n lock low lock' low' high may may' goes goes' some =
      let s = asked_some firing Lock Lock id n lock lock' refl (may refl) goes in omega (arith, s, some)
  some_seen Low id n lock low lock' low' high may may' goes goes' some =
      let s = asked_some firing Low Low id n low low' refl (may' refl) goes' in omega (arith, s, some)

at_row : (rows : List Row) (k position id : ℕ) (r : Row) → IsRow rows k r → r.timer.id ≡ id → k ≡ position
    → IsAt (λ (x : Row). x.timer.id) rows id position
at_row rows k position id r is named here = record {
  in_range = (let l = is.0 in omega (arith, l, here));
  has_id = λ d. ap (λ j. (get_or rows j d).timer.id) (sym here)
      ∙ ap (λ (x : Row). x.timer.id) (get_or_default rows k d r is.0 ∙ is.1) ∙ named;
}

same_row : (rows : List Row) (j k : ℕ) (x r : Row) → IsRow rows j x → IsRow rows k r → j ≡ k → x ≡ r
same_row rows j k x r is_x is same = sym is_x.1 ∙ ap (λ n. get_or rows n x) same ∙ get_or_default rows k x r is.0 ∙ is.1

pub unreachable-requires : goal.unreachable-requires
unreachable-requires g c =
    let rows = c.args.table.now.rows in
    let low : c.loop-position._position < length rows =
    (let a = c.loop-position-test.true in let b = c.len-position-end.ensures.value in omega (arith, a, b)) in
    let (r, is) = row_here rows c.loop-position._position low in
    walk_on (λ (x : Row). x.timer.id) rows c.loop-position.passed c.loop-position._position c.loop-position.invariant.walk r low
    c.in_default.ensures.none

pub load_pend-pend-requires-clause-lock : goal.load_pend-pend-requires-clause-lock
load_pend-pend-requires-clause-lock g c at =
    let (k, r, is, named, there, next) = c.in-Some.ensures.some in
    may_ask g.R.Raise Lock c.record-kept.result.level c.in-Some.found.0 c.args.table.now.rows k r c.args.lock.now
    c.loop-position.lock is named (c.record-kept.ensures k r is there).0 c.requires.lock c.loop-position.invariant.lock at

pub load_pend-pend-requires-clause-low : goal.load_pend-pend-requires-clause-low
load_pend-pend-requires-clause-low g c at =
    let (k, r, is, named, there, next) = c.in-Some.ensures.some in
    may_ask g.R.Raise Low c.record-kept.result.level c.in-Some.found.0 c.args.table.now.rows k r c.args.low.now
    c.loop-position.low is named (c.record-kept.ensures k r is there).0 c.requires.low c.loop-position.invariant.low at

pub returns-then-pend-gt0-clause-lock : goal.returns-then-pend-gt0-clause-lock
returns-then-pend-gt0-clause-lock g c = asked_more g.R.Raise Lock c.record-kept.result.level
    c.in-Some.found.0 c.load_pend-pend.result c.args.lock.now c.loop-position.lock c.load_pend-pend.new.lock
    c.loop-position.invariant.lock c.load_pend-pend.ensures.lock

pub returns-then-pend-gt0-clause-low : goal.returns-then-pend-gt0-clause-low
returns-then-pend-gt0-clause-low g c = asked_more g.R.Raise Low c.record-kept.result.level
    c.in-Some.found.0 c.load_pend-pend.result c.args.low.now c.loop-position.low c.load_pend-pend.new.low
    c.loop-position.invariant.low
    c.load_pend-pend.ensures.low

pub returns-then-pend-gt0-clause-pending : goal.returns-then-pend-gt0-clause-pending
returns-then-pend-gt0-clause-pending g c =
    let (k, r, is, named, there, next) = c.in-Some.ensures.some in
    let level = (c.record-kept.ensures k r is there).0 in
    let own = c.record-kept.result.level in let id = c.in-Some.found.0 in let e = c.load_pend-pend.ensures in
    let rows = c.args.table.now.rows in (
      id,
      some_seen g.R.Raise own id c.load_pend-pend.result c.loop-position.lock c.loop-position.low c.load_pend-pend.new.lock
          c.load_pend-pend.new.low e.high
          (may_ask g.R.Raise Lock own id rows k r c.args.lock.now c.loop-position.lock is named level c.requires.lock
          c.loop-position.invariant.lock)
          (may_ask g.R.Raise Low own id rows k r c.args.low.now c.loop-position.low is named level c.requires.low
          c.loop-position.invariant.low) e.lock e.low c.if-pend-gt0.true,
    )

pub loop-position-preserved : goal.loop-position-preserved
loop-position-preserved g c =
    let inv = c.loop-position.invariant in let e = c.load_pend-pend.ensures in let rows = c.args.table.now.rows in
    let own = c.record-kept.result.level in let id : ℕ = c.in-Some.found.0 in let n = c.load_pend-pend.result in
    let zero : n ≡ 0 = (let a = c.if-pend-gt0.false in omega (arith, a)) in
    let (k, r, is, named, there, next) = c.in-Some.ensures.some in
    let level = (c.record-kept.ensures k r is there).0 in
    let low : c.loop-position._position < length rows =
    (let a = c.loop-position-test.true in let b = c.len-position-end.ensures.value in omega (arith, a, b)) in
    let here : k ≡ c.loop-position._position =
    walk_next (λ (x : Row). x.timer.id) rows c.loop-position.passed c.loop-position._position inv.walk k r low next in
    record {
      walk = walk_more (λ (x : Row). x.timer.id) rows c.loop-position.passed c.loop-position._position inv.walk
          c.law.ensures.rising id _
          (at_row rows k c.loop-position._position id r is named here) refl;
      lock = asked_more g.R.Raise Lock own id n c.args.lock.now c.loop-position.lock c.load_pend-pend.new.lock
          inv.lock e.lock;
      low = asked_more g.R.Raise Low own id n c.args.low.now c.loop-position.low c.load_pend-pend.new.low inv.low
          e.low;
      quiet_lock = λ j x less is_x at. elim (cases_eq j c.loop-position._position) [
        | inl same ↦
            (let one : x ≡ r = same_row rows j k x r is_x is (same ∙ sym here) in
            ap (λ q. seen_of q (g.R.Raise.view c.load_pend-pend.new.lock)) (ap (λ (y : Row). y.timer.id) one ∙ named)
            ∙ asked_none g.R.Raise Lock own id c.loop-position.lock c.load_pend-pend.new.lock
            (level ∙ ap (λ (y : Row). y.timer.level) (sym one) ∙ at)
            (subst (λ m. Goes g.R.Raise c.loop-position.lock (asks_at Lock own id m) c.load_pend-pend.new.lock)
            zero e.lock))
        | inr ne ↦
            (let was = inv.quiet_lock j x (omega (arith, less, ne)) is_x at in
            let lower = asked_lowers g.R.Raise Lock own id n x.timer.id c.loop-position.lock
            c.load_pend-pend.new.lock e.lock in
            omega (arith, was, lower))
      ];
      quiet_low = λ j x less is_x at. elim (cases_eq j c.loop-position._position) [
        | inl same ↦
            (let one : x ≡ r = same_row rows j k x r is_x is (same ∙ sym here) in
            ap (λ q. seen_of q (g.R.Raise.view c.load_pend-pend.new.low)) (ap (λ (y : Row). y.timer.id) one ∙ named)
            ∙ asked_none g.R.Raise Low own id c.loop-position.low c.load_pend-pend.new.low
            (level ∙ ap (λ (y : Row). y.timer.level) (sym one) ∙ at)
            (subst (λ m. Goes g.R.Raise c.loop-position.low (asks_at Low own id m) c.load_pend-pend.new.low) zero
            e.low))
        | inr ne ↦
            (let was = inv.quiet_low j x (omega (arith, less, ne)) is_x at in
            let lower = asked_lowers g.R.Raise Low own id n x.timer.id c.loop-position.low
            c.load_pend-pend.new.low e.low in
            omega (arith, was, lower))
      ];
      sound_lock = λ s. e.sound_lock (inv.sound_lock s);
      sound_low = λ s. e.sound_low (inv.sound_low s);
    }
