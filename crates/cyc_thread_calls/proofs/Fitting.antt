-- What is true between two steps of a run that is as the closed form says: each name has what it has there.
use Rattle.std.proofs.Common.{◌≡◌, ◌≢◌, ◌∙◌, ℕ, ◌-◌, ◌<◌, ◌≤◌, Bool, true, false, cond, not}
use Rattle.std.proofs.Common.{Option, Some, None, List, [], ◌∷◌, ◌++◌, length, replicate, slice_set}
use Rattle.std.proofs.Common.{refl, sym, ap, subst, arith}
use Rattle.std.specs.Prelude.{is_some}
use Rattle.std.specs.List.{slice_get}
use Rattle.std.specs.Option.{option_map_or}
use Rattle.std.proofs.lemmas.List.{length-set, get_or-set_same, get_or-set_other, get_or_past}
use mathlib.Core.Logic.{dite}
use native.Mathlib.Decide.{ℕ_discrete}
use Rattle.cyc_types.specs.declared.Raise.{Ghosts as Raise}
use Rattle.cyc_types.specs.Series.{never}
use Rattle.cyc_places.specs.declared.record.Placement.{Placement}
use Rattle.cyc_places.specs.declared.record.Record.{Record}
use Rattle.cyc_places.specs.Places.{HasRisingIds, HasNoRecord, is_everywhere, new_record}
use Rattle.cyc_types.specs.declared.level.Level.{Level}
use Rattle.cyc_threads.proofs.Lists.{true_eq, false_ne}
use Rattle.cyc_threads.proofs.Spots.{get_last, none_some}
use Rattle.cyc_threads.proofs.Recording.{found, record_here}
use Rattle.cyc_threads.specs.System.{SystemView, record_of, is_unknown, is_omnipresent}
use Rattle.cyc_threads.specs.Calls.{SystemCall, Changes}
use Rattle.cyc_threads.proofs.Pieces.{made_of}
use Rattle.cyc_threads.specs.Keeping.{TouchesRecord}
use Rattle.cyc_threads.proofs.Looked.{look_kept}
use Rattle.cyc_threads.proofs.Lengths.{changes_long}
use Rattle.cyc_words.specs.declared.named.Named.{Named}
use Rattle.cyc_words.specs.declared.named.Named.TheVariants.{Nothing, Cyclic, Leaving, Removed}
use Rattle.cyc_threads.specs.declared.progress.Progress.{Progress}
use Rattle.cyc_threads.specs.StepCalls.{CallsFor, HasLeads}
use Rattle.cyc_words.specs.Names.{named_at, cyclic_id}
use Rattle.cyc_thread_calls.specs.Way.{Standing, Absent, OnOne, OnAll, with_standing}

-- ---- the names

pub set_here : (names : List Named) (name : ℕ) (now : Named) → name < length names
    → named_at (slice_set names name now) name ≡ now
set_here names name now low = get_or-set_same names name now Nothing low

pub set_beside : (names : List Named) (name other : ℕ) (now : Named) → other ≢ name
    → named_at (slice_set names name now) other ≡ named_at names other
set_beside names name other now ne = get_or-set_other names name other now Nothing ne

-- a name that has an id is there
pub name_low : (names : List Named) (name id : ℕ) → cyclic_id (named_at names name) ≡ Some id → name < length names
name_low names name id has = dite (ℕ_discrete (length names - name) 0)
    (λ z. absurd (none_some (sym (ap cyclic_id (get_or_past names name Nothing (omega (arith, z)))) ∙ has)))
    (λ p. omega (arith, p))

pub standing_here : (name : ℕ) (now : Standing) (has : ℕ → Standing) → with_standing name now has name ≡ now
standing_here name now has = ap (λ (b : Bool). cond b now (has name)) (true_eq name name refl)

pub standing_beside : (name other : ℕ) (now : Standing) (has : ℕ → Standing) → other ≢ name
    → with_standing name now has other ≡ has other
standing_beside name other now has ne = ap (λ (b : Bool). cond b now (has other)) (false_ne other name ne)

-- ---- what a name has in the system

-- the id has a record, which says whether the cyclic is omnipresent
pub record IsThere {R : Type 0} (id : ℕ) (everywhere : Bool) (s : SystemView R) : Type 0 where
  pub known : is_unknown id s ≡ false
  pub placement : is_omnipresent id s ≡ everywhere

abbrev pub Is : {R : Type 0} → Standing → Named → SystemView R → Type 0
Is Absent Nothing s = Unit {0}
Is Absent (Cyclic id) s = ⊥
Is Absent (Leaving id) s = Unit {0}
Is Absent (Removed receipt) s = Unit {0}
Is OnOne Nothing s = ⊥
Is OnOne (Cyclic id) s = IsThere id false s
Is OnOne (Leaving id) s = ⊥
Is OnOne (Removed receipt) s = ⊥
Is OnAll Nothing s = ⊥
Is OnAll (Cyclic id) s = IsThere id true s
Is OnAll (Leaving id) s = ⊥
Is OnAll (Removed receipt) s = ⊥

-- the record of the id says the same
pub record SameId {R : Type 0} (id : ℕ) (s t : SystemView R) : Type 0 where
  pub known : is_unknown id t ≡ is_unknown id s
  pub placement : is_omnipresent id t ≡ is_omnipresent id s

there_kept : {R : Type 0} (id : ℕ) (everywhere : Bool) (s t : SystemView R) → SameId id s t → IsThere id everywhere s
    → IsThere id everywhere t
there_kept id everywhere s t same h = record { known = same.known ∙ h.known; placement = same.placement ∙ h.placement }

pub is_kept : {R : Type 0} (st : Standing) (named : Named) (s t : SystemView R)
    → ((id : ℕ) → cyclic_id named ≡ Some id → SameId id s t) → Is st named s → Is st named t
is_kept Absent Nothing s t same h = tt
is_kept Absent (Cyclic id) s t same h = h
is_kept Absent (Leaving id) s t same h = tt
is_kept Absent (Removed receipt) s t same h = tt
is_kept OnOne Nothing s t same h = h
is_kept OnOne (Cyclic id) s t same h = there_kept id false s t (same id refl) h
is_kept OnOne (Leaving id) s t same h = h
is_kept OnOne (Removed receipt) s t same h = h
is_kept OnAll Nothing s t same h = h
is_kept OnAll (Cyclic id) s t same h = there_kept id true s t (same id refl) h
is_kept OnAll (Leaving id) s t same h = h
is_kept OnAll (Removed receipt) s t same h = h

pub same_records : {R : Type 0} (s t : SystemView R) → t.records ≡ s.records → (id : ℕ) → SameId id s t
same_records s t e id = record {
  known = ap (λ rs. not (is_some (found id rs))) e;
  placement = ap (λ rs. option_map_or (λ (r : Record). is_everywhere r.placement) (found id rs) false) e;
}

unknown_read : (o : Option Record) → not (is_some o) ≡ option_map_or (λ (r : Record). false) o true
unknown_read None = refl
unknown_read (Some r) = refl

-- a new record is found
pub new_there : {R : Type 0} (id : ℕ) (level : Level) (placement : Placement) (before : List Record) (t : SystemView R)
    → HasRisingIds t.records → t.records ≡ before ++ new_record id level placement ∷ [] → IsThere id (is_everywhere placement) t
new_there id level placement before t rising records =
    let at = ap (λ rs. slice_get rs (length before)) records ∙ get_last before (new_record id level placement) in
    let here = record_here id (length before) (new_record id level placement) t.records rising at refl in record {
      known = ap (λ o. not (is_some o)) here;
      placement = ap (λ o. option_map_or (λ (r : Record). is_everywhere r.placement) o false) here;
    }

module _ {R : Type 0} (firing : Raise R) where
  -- a call that neither gives the id nor ends its removal
  pub id_kept : (s t : SystemView R) (call : SystemCall) (id : ℕ) → HasRisingIds s.records → Changes firing s call t
      → (TouchesRecord id call → ⊥) → SameId id s t
  id_kept s t call id rising d other = record {
    known = unknown_read (record_of id t)
        ∙ (look_kept firing (λ (r : Record). false) true (λ r n bound e. refl) (λ r n c. refl) id s t call rising d other
        ∙ sym (unknown_read (record_of id s)));
    placement = look_kept firing (λ (r : Record). is_everywhere r.placement) false (λ r n bound e. sym e)
        (λ r n c. refl) id s t call rising d other;
  }

module _ {C R : Type 0} (firing : Raise R) where
  -- The run is as the closed form says: over so many CPUs, all online, with so many names, of which so many were introduced.
  pub record Fits (cpus names given : ℕ) (has : ℕ → Standing) (p : Progress R C) : Type 0 where
    pub rising : HasRisingIds p.side.system.records
    pub above : HasNoRecord 0 p.side.system.records
    pub few : p.side.system.last ≤ given
    pub early : p.clock < never
    pub long : length p.names ≡ names
    pub online : p.side.system.cpus.online ≡ replicate cpus true
    pub many : length p.side.system.cpus.cpus ≡ cpus
    pub ready : HasLeads p
    pub each : (name : ℕ) → Is (has name) (named_at p.names name) p.side.system
    pub ids : (name id : ℕ) → cyclic_id (named_at p.names name) ≡ Some id → id ≤ p.side.system.last
    pub own : (a b id : ℕ) → cyclic_id (named_at p.names a) ≡ Some id → cyclic_id (named_at p.names b) ≡ Some id → a ≡ b

  -- what a call that was made changes of that: it is online as it was, and gave so many ids
  module _ (cpus names given : ℕ) (has : ℕ → Standing) (s t : Progress R C) (name : ℕ) (call : SystemCall)
      (c : CallsFor firing name call s t) (h : Fits cpus names given has s)
      (online : t.side.system.cpus.online ≡ s.side.system.cpus.online) where
    above_after : HasNoRecord 0 t.side.system.records
    above_after = (made_of firing s.side.system t.side.system call c.did).unknown 0 (omega arith) h.above

    ready_after : HasLeads t
    ready_after = ap (λ (l : _). length l.items) c.leads ∙ h.ready
        ∙ sym (changes_long firing s.side.system t.side.system call c.did)

    many_after : length t.side.system.cpus.cpus ≡ cpus
    many_after = changes_long firing s.side.system t.side.system call c.did ∙ h.many

    -- no name gets anything from it
    pub fits_same : t.names ≡ s.names → t.side.system.last ≤ given → ((id : ℕ) → TouchesRecord id call → ⊥)
        → Fits cpus names given has t
    fits_same same last other = record {
      rising = c.sound.fit.rising;
      above = above_after;
      few = last;
      early = subst (λ (k : ℕ). k < never) (sym c.clock) h.early;
      long = ap length same ∙ h.long;
      online = online ∙ h.online;
      many = many_after;
      ready = ready_after;
      each = λ a. subst (λ ns. Is (has a) (named_at ns a) t.side.system) (sym same)
          (is_kept (has a) (named_at s.names a) s.side.system t.side.system
          (λ id e. id_kept firing s.side.system t.side.system call id h.rising c.did (other id)) (h.each a));
      ids = λ a id e. (let low = h.ids a id (sym (ap (λ ns. cyclic_id (named_at ns a)) same) ∙ e) in
          let more = (made_of firing s.side.system t.side.system call c.did).last in omega (arith, low, more));
      own = λ a b id e f. h.own a b id (sym (ap (λ ns. cyclic_id (named_at ns a)) same) ∙ e)
          (sym (ap (λ ns. cyclic_id (named_at ns b)) same) ∙ f);
    }

    -- one name has another thing now
    pub fits_set : (now : Named) (st : Standing) (given' : ℕ) (has' : ℕ → Standing) → t.names ≡ slice_set s.names name now
        → name < length s.names → t.side.system.last ≤ given' → Is st now t.side.system → has' name ≡ st
        → ((other : ℕ) → other ≢ name → has' other ≡ has other)
        → ((id : ℕ) → cyclic_id now ≡ Some id → (id ≤ t.side.system.last)
        × ((other : ℕ) → other ≢ name → cyclic_id (named_at s.names other) ≡ Some id → ⊥))
        → ((other id : ℕ) → other ≢ name → cyclic_id (named_at s.names other) ≡ Some id → TouchesRecord id call → ⊥)
        → Fits cpus names given' has' t
    fits_set now st given' has' set low last is here beside new others = record {
      rising = c.sound.fit.rising;
      above = above_after;
      few = last;
      early = subst (λ (k : ℕ). k < never) (sym c.clock) h.early;
      long = ap length set ∙ length-set s.names name now ∙ h.long;
      online = online ∙ h.online;
      many = many_after;
      ready = ready_after;
      each = λ a. dite (ℕ_discrete a name)
          (λ e. subst (λ (k : ℕ). Is (has' k) (named_at t.names k) t.side.system) (sym e)
          (subst (λ (z : Standing). Is z (named_at t.names name) t.side.system) (sym here)
          (subst (λ (z : Named). Is st z t.side.system) (sym at_name) is)))
          (λ ne. subst (λ (z : Standing). Is z (named_at t.names a) t.side.system) (sym (beside a ne))
          (subst (λ (z : Named). Is (has a) z t.side.system) (sym (at_other a ne))
          (is_kept (has a) (named_at s.names a) s.side.system t.side.system
          (λ id e. id_kept firing s.side.system t.side.system call id h.rising c.did (others a id ne e)) (h.each a))));
      ids = λ a id e. dite (ℕ_discrete a name)
          (λ q. (new id (sym (ap cyclic_id at_name) ∙ (subst (λ (k : ℕ). cyclic_id (named_at t.names k) ≡ Some id) q e))).0)
          (λ ne. (let low = h.ids a id (sym (ap cyclic_id (at_other a ne)) ∙ e) in
          let more = (made_of firing s.side.system t.side.system call c.did).last in omega (arith, low, more)));
      own = λ a b id e f. dite (ℕ_discrete a name)
          (λ p. dite (ℕ_discrete b name) (λ q. p ∙ sym q)
          (λ nq. absurd ((new id (sym (ap cyclic_id at_name)
          ∙ subst (λ (k : ℕ). cyclic_id (named_at t.names k) ≡ Some id) p e)).1 b nq (sym (ap cyclic_id (at_other b nq)) ∙ f))))
          (λ np. dite (ℕ_discrete b name)
          (λ q. absurd ((new id (sym (ap cyclic_id at_name)
          ∙ subst (λ (k : ℕ). cyclic_id (named_at t.names k) ≡ Some id) q f)).1 a np (sym (ap cyclic_id (at_other a np)) ∙ e)))
          (λ nq. h.own a b id (sym (ap cyclic_id (at_other a np)) ∙ e) (sym (ap cyclic_id (at_other b nq)) ∙ f)));
    }
      where
        at_name : named_at t.names name ≡ now
        at_name = ap (λ ns. named_at ns name) set ∙ set_here s.names name now low

        at_other : (a : ℕ) → a ≢ name → named_at t.names a ≡ named_at s.names a
        at_other a ne = ap (λ ns. named_at ns a) set ∙ set_beside s.names name a now ne
