-- What is true between two steps of a run, of which the accepted steps told so much.
use Rattle.std.proofs.Common.{◌≡◌, ◌≢◌, ◌∙◌, ℕ, ◌+◌, ◌-◌, ◌<◌, ◌≤◌, ◌⊎◌, inl, inr, Bool, true, false, Some, List, length}
use Rattle.std.proofs.Common.{slice_set, refl, sym, ap, subst, arith}
use Rattle.std.specs.Prelude.{slice_index_or}
use Rattle.std.proofs.lemmas.List.{length-set, get_or-set_same, get_or-set_other, get_or_past}
use mathlib.Core.Logic.{dite}
use native.Mathlib.Decide.{ℕ_discrete}
use Rattle.cyc_types.specs.declared.Raise.{Ghosts as Raise}
use Rattle.cyc_types.specs.Series.{never}
use Rattle.cyc_places.specs.Places.{HasRisingIds}
use Rattle.cyc_thread_calls.proofs.Spots.{none_some, same_some}
use Rattle.cyc_thread_calls.proofs.Pieces.{made_of}
use Rattle.cyc_thread_calls.proofs.Lengths.{changes_long}
use Rattle.cyc_thread_calls.specs.System.{SystemView}
use Rattle.cyc_thread_calls.specs.Calls.{SystemCall}
use Rattle.cyc_thread_calls.specs.Named.{Named}
use Rattle.cyc_thread_calls.specs.Named.TheVariants.{Nothing, Cyclic, Leaving, Removed}
use Rattle.cyc_thread_calls.specs.Progress.{Progress}
use Rattle.cyc_thread_calls.specs.StepCalls.{CallsFor, HasLeads}
use Rattle.cyc_thread_calls.specs.Names.{named_at, cyclic_id, has_open_removal}
use Rattle.cyc_thread_calls.proofs.Fitting.{set_here, set_beside}
use Rattle.cyc_thread_reasons.specs.Known.{Whereabouts, Absent, Known, name_has}
use Rattle.cyc_thread_reasons.specs.Reasons.{is_there}
use Rattle.cyc_thread_reasons.proofs.Whereabouts.{stands, SameStands}
pub use Rattle.cyc_thread_calls.proofs.Fitting.{name_low}

-- what the system has of what a name has
abbrev pub given_of : {R : Type 0} → Named → SystemView R → Whereabouts
given_of Nothing s = Absent
given_of (Cyclic id) s = stands id s
given_of (Leaving id) s = Absent
given_of (Removed receipt) s = Absent

given_kept : {R : Type 0} (named : Named) (s t : SystemView R) → ((id : ℕ) → named ≡ Cyclic id → stands id t ≡ stands id s)
    → given_of named t ≡ given_of named s
given_kept Nothing s t same = refl
given_kept (Cyclic id) s t same = same id refl
given_kept (Leaving id) s t same = refl
given_kept (Removed receipt) s t same = refl

-- a name that has an id, and is not leaving
pub cyclic_of : (named : Named) (id : ℕ) → cyclic_id named ≡ Some id → has_open_removal named ≡ false → named ≡ Cyclic id
cyclic_of Nothing id has stays = absurd (none_some has)
cyclic_of (Cyclic own) id has stays = ap Cyclic (same_some has)
cyclic_of (Leaving own) id has stays = absurd (let odd : true ≡ false = stays in cc)
cyclic_of (Removed receipt) id has stays = absurd (none_some has)

module _ {C R : Type 0} (firing : Raise R) (names : ℕ) where
  -- Of so many names so many were introduced, and what the accepted steps told of the CPUs and of the names is so.
  pub record Fits (given : ℕ) (told : Known) (p : Progress R C) : Type 0 where
    pub rising : HasRisingIds p.side.system.records
    pub few : p.side.system.last ≤ given
    pub early : p.clock < never
    pub long : length p.names ≡ names
    pub told_long : length told.names ≡ names
    pub online : p.side.system.cpus.online ≡ told.online
    pub ups : length p.side.system.cpus.online ≡ length p.side.system.cpus.cpus
    pub ready : HasLeads p
    pub fresh : (a : ℕ) → given ≤ a → named_at p.names a ≡ Nothing
    pub each : (a : ℕ) → name_has a told ≡ given_of (named_at p.names a) p.side.system
    pub there : (a id : ℕ) → named_at p.names a ≡ Cyclic id → is_there (stands id p.side.system) ≡ true
    pub ids : (a id : ℕ) → cyclic_id (named_at p.names a) ≡ Some id → id ≤ p.side.system.last
    pub own : (a b id : ℕ) → cyclic_id (named_at p.names a) ≡ Some id → cyclic_id (named_at p.names b) ≡ Some id → a ≡ b
    pub known : (id : ℕ) → is_there (stands id p.side.system) ≡ true → (a : ℕ) × (cyclic_id (named_at p.names a) ≡ Some id)

  -- what every call keeps of it
  pub record Base (s t : Progress R C) : Type 0 where
    pub rising : HasRisingIds t.side.system.records
    pub early : t.clock < never
    pub ups : length t.side.system.cpus.online ≡ length t.side.system.cpus.cpus
    pub ready : HasLeads t
    pub more : s.side.system.last ≤ t.side.system.last

  pub base_call : (given : ℕ) (told : Known) (name : ℕ) (call : SystemCall) (s t : Progress R C) → CallsFor firing name call s t
      → Fits given told s → Base s t
  base_call given told name call s t c h = record {
    rising = c.sound.fit.rising;
    early = subst (λ (k : ℕ). k < never) (sym c.clock) h.early;
    ups = c.sound.agrees.long;
    ready = ap (λ (l : _). length l.items) c.leads ∙ h.ready ∙ sym (changes_long firing s.side.system t.side.system call c.did);
    more = (made_of firing s.side.system t.side.system call c.did).last;
  }

  -- no name gets anything
  pub fits_same : (given : ℕ) (told told' : Known) (s t : Progress R C) → Base s t → Fits given told s
      → told'.names ≡ told.names → t.side.system.cpus.online ≡ told'.online → t.names ≡ s.names → t.side.system.last ≤ given
      → SameStands s.side.system t.side.system → Fits given told' t
  fits_same given told told' s t b h told_same online same last alike = record {
    rising = b.rising;
    few = last;
    early = b.early;
    long = ap length same ∙ h.long;
    told_long = ap length told_same ∙ h.told_long;
    online = online;
    ups = b.ups;
    ready = b.ready;
    fresh = λ a low. ap (λ ns. named_at ns a) same ∙ h.fresh a low;
    each = λ a. ap (λ ns. slice_index_or ns a Absent) told_same ∙ h.each a
        ∙ sym (given_kept (named_at s.names a) s.side.system t.side.system (λ id e. alike id))
        ∙ ap (λ ns. given_of (named_at ns a) t.side.system) (sym same);
    there = λ a id e. ap is_there (alike id) ∙ h.there a id (sym (ap (λ ns. named_at ns a) same) ∙ e);
    ids = λ a id e. (let low = h.ids a id (sym (ap (λ ns. cyclic_id (named_at ns a)) same) ∙ e) in
        let more = b.more in omega (arith, low, more));
    own = λ x y id e f. h.own x y id (sym (ap (λ ns. cyclic_id (named_at ns x)) same) ∙ e)
        (sym (ap (λ ns. cyclic_id (named_at ns y)) same) ∙ f);
    known = λ id e. (let (a, has) = h.known id (sym (ap is_there (alike id)) ∙ e) in
        (a, ap (λ ns. cyclic_id (named_at ns a)) same ∙ has));
  }

  -- one name has another thing now
  pub record Sets (given' : ℕ) (told told' : Known) (s t : Progress R C) (name : ℕ) (now : Named) (st : Whereabouts)
      : Type 0 where
    pub told_names : told'.names ≡ slice_set told.names name st
    pub online : t.side.system.cpus.online ≡ told'.online
    pub low : name < length s.names
    pub long : length t.names ≡ length s.names
    pub at_name : named_at t.names name ≡ now
    pub at_other : (a : ℕ) → a ≢ name → named_at t.names a ≡ named_at s.names a
    pub last : t.side.system.last ≤ given'
    pub is : given_of now t.side.system ≡ st
    pub there : (id : ℕ) → now ≡ Cyclic id → is_there (stands id t.side.system) ≡ true
    pub new : (id : ℕ) → cyclic_id now ≡ Some id → (id ≤ t.side.system.last)
        × ((other : ℕ) → other ≢ name → cyclic_id (named_at s.names other) ≡ Some id → ⊥)
    pub others : (other id : ℕ) → other ≢ name → named_at s.names other ≡ Cyclic id
        → stands id t.side.system ≡ stands id s.side.system
    pub known : (id : ℕ) → is_there (stands id t.side.system) ≡ true
        → (cyclic_id now ≡ Some id) ⊎ ((is_there (stands id s.side.system) ≡ true)
        × (cyclic_id (named_at s.names name) ≡ Some id → ⊥))
    pub fresh : (a : ℕ) → given' ≤ a → a ≢ name

  pub fits_set : (given given' : ℕ) (told told' : Known) (s t : Progress R C) (name : ℕ) (now : Named) (st : Whereabouts)
      → Base s t → Fits given told s → given ≤ given' → Sets given' told told' s t name now st → Fits given' told' t
  fits_set given given' told told' s t name now st b h more z = record {
    rising = b.rising;
    few = z.last;
    early = b.early;
    long = z.long ∙ h.long;
    told_long = ap length z.told_names ∙ length-set told.names name st ∙ h.told_long;
    online = z.online;
    ups = b.ups;
    ready = b.ready;
    fresh = λ a high. z.at_other a (z.fresh a high) ∙ h.fresh a (omega (arith, high, more));
    each = λ a. dite (ℕ_discrete a name)
        (λ e. subst (λ (k : ℕ). name_has k told' ≡ given_of (named_at t.names k) t.side.system) (sym e)
        (ap (λ ns. slice_index_or ns name Absent) z.told_names
        ∙ get_or-set_same told.names name st Absent told_low
        ∙ sym z.is ∙ ap (λ (n : Named). given_of n t.side.system) (sym z.at_name)))
        (λ ne. ap (λ ns. slice_index_or ns a Absent) z.told_names ∙ get_or-set_other told.names name a st Absent ne ∙ h.each a
        ∙ sym (given_kept (named_at s.names a) s.side.system t.side.system (λ id e. z.others a id ne e))
        ∙ ap (λ (n : Named). given_of n t.side.system) (sym (z.at_other a ne)));
    there = λ a id e. dite (ℕ_discrete a name)
        (λ q. z.there id (sym z.at_name ∙ subst (λ (k : ℕ). named_at t.names k ≡ Cyclic id) q e))
        (λ ne. (let was = sym (z.at_other a ne) ∙ e in ap is_there (z.others a id ne was) ∙ h.there a id was));
    ids = λ a id e. dite (ℕ_discrete a name)
        (λ q. (z.new id (sym (ap cyclic_id z.at_name) ∙ subst (λ (k : ℕ). cyclic_id (named_at t.names k) ≡ Some id) q e)).0)
        (λ ne. (let low = h.ids a id (sym (ap cyclic_id (z.at_other a ne)) ∙ e) in let up = b.more in omega (arith, low, up)));
    own = λ x y id e f. dite (ℕ_discrete x name)
        (λ p. dite (ℕ_discrete y name) (λ q. p ∙ sym q)
        (λ nq. absurd ((z.new id (sym (ap cyclic_id z.at_name)
        ∙ subst (λ (k : ℕ). cyclic_id (named_at t.names k) ≡ Some id) p e)).1 y nq (sym (ap cyclic_id (z.at_other y nq)) ∙ f))))
        (λ np. dite (ℕ_discrete y name)
        (λ q. absurd ((z.new id (sym (ap cyclic_id z.at_name)
        ∙ subst (λ (k : ℕ). cyclic_id (named_at t.names k) ≡ Some id) q f)).1 x np (sym (ap cyclic_id (z.at_other x np)) ∙ e)))
        (λ nq. h.own x y id (sym (ap cyclic_id (z.at_other x np)) ∙ e) (sym (ap cyclic_id (z.at_other y nq)) ∙ f)));
    known = λ id e. by_known id (z.known id e);
  }
    where
      told_low : name < length told.names
      told_low = let a = z.low in let l = h.long in let k = h.told_long in omega (arith, a, l, k)

      by_known : (id : ℕ)
          → (cyclic_id now ≡ Some id) ⊎ ((is_there (stands id s.side.system) ≡ true)
          × (cyclic_id (named_at s.names name) ≡ Some id → ⊥))
          → (a : ℕ) × (cyclic_id (named_at t.names a) ≡ Some id)
      by_known id (inl is) = (name, ap cyclic_id z.at_name ∙ is)
      by_known id (inr (here, other)) = let (a, has) = h.known id here in
          let ne : a ≢ name = (λ q. other (subst (λ (k : ℕ). cyclic_id (named_at s.names k) ≡ Some id) q has)) in
          (a, ap cyclic_id (z.at_other a ne) ∙ has)

  -- a name that has an id has another thing now, and no other id is touched
  pub sets_own : (given : ℕ) (told told' : Known) (s t : Progress R C) (name id : ℕ) (now : Named) (st : Whereabouts)
      → Fits given told s → told'.names ≡ slice_set told.names name st → t.side.system.cpus.online ≡ told'.online
      → cyclic_id (named_at s.names name) ≡ Some id → t.names ≡ slice_set s.names name now
      → t.side.system.last ≡ s.side.system.last → given_of now t.side.system ≡ st
      → ((own : ℕ) → now ≡ Cyclic own → is_there (stands own t.side.system) ≡ true)
      → ((own : ℕ) → cyclic_id now ≡ Some own → id ≡ own)
      → ((own : ℕ) → id ≢ own → stands own t.side.system ≡ stands own s.side.system)
      → (is_there (stands id t.side.system) ≡ true → cyclic_id now ≡ Some id)
      → Sets given told told' s t name now st
  sets_own given told told' s t name id now st h told_names online has names_are last is there mine kept left = record {
    told_names = told_names;
    online = online;
    low = low;
    long = ap length names_are ∙ length-set s.names name now;
    at_name = ap (λ ns. named_at ns name) names_are ∙ set_here s.names name now low;
    at_other = λ a ne. ap (λ ns. named_at ns a) names_are ∙ set_beside s.names name a now ne;
    last = subst (λ (k : ℕ). k ≤ given) (sym last) h.few;
    is = is;
    there = there;
    new = λ own e. (let same = mine own e in (
      subst (λ (k : ℕ). own ≤ k) (sym last) (h.ids name own (has ∙ ap Some same)),
      λ other ne at. ne (h.own other name own at (has ∙ ap Some same)),
    ));
    others = λ other own ne e. kept own (λ same. ne (h.own other name own (ap cyclic_id e) (has ∙ ap Some same)));
    known = λ own e. dite (ℕ_discrete id own)
        (λ q. inl (left (subst (λ (k : ℕ). is_there (stands k t.side.system) ≡ true) (sym q) e) ∙ ap Some q))
        (λ ne. inr (sym (ap is_there (kept own ne)) ∙ e, λ at. ne (same_some (sym has ∙ at))));
    fresh = λ a high same. none_some (sym (ap cyclic_id (h.fresh a high)) ∙ ap (λ k. cyclic_id (named_at s.names k)) same ∙ has);
  }
    where
      low : name < length s.names
      low = name_low s.names name id has

  -- whether a removal may be open is no part of it
  pub fits_told : (given : ℕ) (told : Known) (leaving : Bool) (p : Progress R C) → Fits given told p
      → Fits given (record told { leaving = leaving }) p
  fits_told given told leaving p h = record {
    rising = h.rising;
    few = h.few;
    early = h.early;
    long = h.long;
    told_long = h.told_long;
    online = h.online;
    ups = h.ups;
    ready = h.ready;
    fresh = h.fresh;
    each = h.each;
    there = h.there;
    ids = h.ids;
    own = h.own;
    known = h.known;
  }

  -- nor is whether the system is suspended
  pub fits_marked : (given : ℕ) (told : Known) (suspended : Bool) (p : Progress R C) → Fits given told p
      → Fits given (record told { suspended = suspended }) p
  fits_marked given told suspended p h = record {
    rising = h.rising;
    few = h.few;
    early = h.early;
    long = h.long;
    told_long = h.told_long;
    online = h.online;
    ups = h.ups;
    ready = h.ready;
    fresh = h.fresh;
    each = h.each;
    there = h.there;
    ids = h.ids;
    own = h.own;
    known = h.known;
  }

  -- the clock alone is set
  pub fits_set_clock : (given : ℕ) (told : Known) (now : ℕ) (p : Progress R C) → now < never → Fits given told p
      → Fits given told (record p { clock = now })
  fits_set_clock given told now p early h = record {
    rising = h.rising;
    few = h.few;
    early = early;
    long = h.long;
    told_long = h.told_long;
    online = h.online;
    ups = h.ups;
    ready = h.ready;
    fresh = h.fresh;
    each = h.each;
    there = h.there;
    ids = h.ids;
    own = h.own;
    known = h.known;
  }

  -- a name was introduced that has nothing
  pub fits_more : (given : ℕ) (told : Known) (p : Progress R C) → Fits given told p → Fits (given + 1) told p
  fits_more given told p h = record {
    rising = h.rising;
    few = (let a = h.few in omega (arith, a));
    early = h.early;
    long = h.long;
    told_long = h.told_long;
    online = h.online;
    ups = h.ups;
    ready = h.ready;
    fresh = λ a high. h.fresh a (omega (arith, high));
    each = h.each;
    there = h.there;
    ids = h.ids;
    own = h.own;
    known = h.known;
  }
