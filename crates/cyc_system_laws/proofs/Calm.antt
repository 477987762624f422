-- Where no other thread uses the levels, a move finds no call of its cyclic outstanding.
use Rattle.std.proofs.Common.{◌≡◌, ℕ, ◌==◌, Bool, true, cond, Option, Some, None, [], ◌∷◌, refl, sym, ap, ◌∙◌, arith}
use Rattle.std.specs.Option.{option_map}
use Rattle.std.proofs.lemmas.Bool.Decides.{nat_tests}
use Rattle.cyc_types.specs.Firing.{FiringView, Stay, Loads, Marks, Polls, Admits, seen_in, seen_of}
use Rattle.cyc_types.specs.Runs.{Goes}
use Rattle.cyc_types.specs.declared.firing.Sent.{Sent}
use Rattle.cyc_types.specs.declared.level.Level.{Level}
use Rattle.cyc_types.specs.declared.level.Level.TheVariants.{Low, Lock, High}
use Rattle.cyc_level.specs.Level.{AdmittedCyclic, SoftLevel, count, count_in}
use Rattle.cyc_core.specs.Tables.{Tables, level_of}
use Rattle.cyc_core.specs.FiringSide.{stay_of}
use Rattle.cyc_cpu.specs.Quiet.{asks_at, admits_at}
use Rattle.cyc_cpu.specs.Cpu.{CpuView}
use Rattle.cyc_cpu.specs.Removal.{EndGoes}
use Rattle.cyc_cpu.specs.Soft.{raise_tables, firing_at}
use Rattle.cyc_system_laws.specs.Moved.{outstanding}

-- what the firing side sees of a pend is the pend
seen_count : (o : Option AdmittedCyclic) → count_in o ≡ seen_in (option_map stay_of o)
seen_count None = refl
seen_count (Some c) = refl

new_seen : (b : Bool) (index : ℕ) (o : Option Stay) → b ≡ true → seen_in
    (cond b (Some (record { index = index; sent = 0; lost = 0; seen = 0 })) o) ≡ 0
new_seen b index o is = ap (λ c. seen_in (cond c (Some (record { index = index; sent = 0; lost = 0; seen = 0 })) o)) is

admitted_end : (id index : ℕ) (e f : Tables) → Goes raise_tables e (Admits id index ∷ []) f → count (level_of f) id ≡ 0
admitted_end id index e f (m, (s, l), last) =
    let same : (id == id) ≡ true = grind (arith, nat_tests) in
    seen_count ((level_of f).cyclics id) ∙ ap (λ (x : Tables). seen_of id (firing_at x)) (sym last)
    ∙ ap (λ (x : FiringView). seen_of id x) l ∙ new_seen (id == id) index ((firing_at e).stays id) same

-- a cyclic that was put in has no call outstanding
pub admitted_calm : (own : Level) (id index : ℕ) (x y : CpuView Tables) →
    Goes raise_tables x.lock (admits_at Lock own id index) y.lock →
    Goes raise_tables x.low (admits_at Low own id index) y.low → outstanding own id y ≡ 0
admitted_calm Low id index x y lock low = admitted_end id index x.low y.low low
admitted_calm Lock id index x y lock low = admitted_end id index x.lock y.lock lock
admitted_calm High id index x y lock low = refl

-- nor has one that was taken
pub taken_calm : (own : Level) (id : ℕ) (counts : Sent) (x y : CpuView Tables) →
    EndGoes raise_tables own (Loads id 0 ∷ Marks id 0 ∷ Polls id (Some counts) ∷ []) x y → outstanding own id x ≡ 0
taken_calm Low id counts x y (lock, (m, ((z, same), l), rest)) = sym z
taken_calm Lock id counts x y ((m, ((z, same), l), rest), low) = sym z
taken_calm High id counts x y goes = refl

asked_end : (soft own : Level) (id n : ℕ) (e f : Tables) → Goes raise_tables e (asks_at soft own id n) f →
    level_of f ≡ level_of e
asked_end Low Low id n e f (m, ((z, same), l), last) = ap level_of (sym last) ∙ same
asked_end Low Lock id n e f last = ap level_of (sym last)
asked_end Low High id n e f last = ap level_of (sym last)
asked_end Lock Low id n e f last = ap level_of (sym last)
asked_end Lock Lock id n e f (m, ((z, same), l), last) = ap level_of (sym last) ∙ same
asked_end Lock High id n e f last = ap level_of (sym last)
asked_end High Low id n e f last = ap level_of (sym last)
asked_end High Lock id n e f last = ap level_of (sym last)
asked_end High High id n e f (m, ((z, same), l), last) = ap level_of (sym last) ∙ same

-- asking leaves what is outstanding
pub asked_same : (level own : Level) (id n j : ℕ) (x y : CpuView Tables) →
    Goes raise_tables x.lock (asks_at Lock own id n) y.lock →
    Goes raise_tables x.low (asks_at Low own id n) y.low → outstanding level j y ≡ outstanding level j x
asked_same Low own id n j x y lock low = ap (λ (l : SoftLevel). count l j) (asked_end Low own id n x.low y.low low)
asked_same Lock own id n j x y lock low = ap (λ (l : SoftLevel). count l j) (asked_end Lock own id n x.lock y.lock lock)
asked_same High own id n j x y lock low = refl
