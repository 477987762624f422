-- What steps leave as it is of every CPU, and which of them open or end no removal.
use Rattle.std.proofs.Common.{◌≡◌, ℕ, zero, suc, Bool, true, false, cond, List, [], ◌∷◌, map, length, Option, Some, None, refl}
use Rattle.std.proofs.Common.{ap, sym, ◌∙◌, ◌==◌}
use Rattle.std.specs.Prelude.{slice_set, slice_index_or, ◌||◌, ◌+◌}
use Rattle.std.specs.List.{list_any}
use Rattle.std.specs.Option.{option_map_or}
use Rattle.cyc_script.specs.declared.step.Bind.{Bind as BindStep}
use Rattle.cyc_model.specs.Cpu.{Cpu, CyclicState, Here, cyclic_with_id}
use Rattle.cyc_model.specs.Moving.{put_in, must_grow, bank_for, switch_here, widen_here, place_here, enter_here, take_here}
use Rattle.cyc_model.specs.State.{State, Outcome, Everywhere, Placement, Placed, On, OnAll, absent, cpu_of, on_number, each}
use Rattle.cyc_model.specs.Places.{id_of, is_being_removed, home_of, put_at, is_bound, keep_counts}
use Rattle.cyc_model.specs.Questions.{plain}
use Rattle.cyc_model.specs.Add.{enter}
use Rattle.cyc_model.specs.Omni.{component}
use Rattle.cyc_model.specs.Bind.{bring, move, move_unless_there, bind}
use Rattle.cyc_model.specs.Juggle.{
  Turn,
  IsBound,
  IsPending,
  IsRefused,
  Moves,
  turn,
  take_turn,
  juggle_each,
  juggled,
  single_ids_of,
}
use Rattle.cyc_model.specs.Juggle.{juggle}
use Rattle.cyc_model.specs.Offline.{ids_of_cpu, retire, retire_all, any_pending, last_part, leaving, offline, go_offline}
use Rattle.cyc_model.specs.Online.{staying_omni, return_here, return_of, online, go_online}
use Rattle.cyc_model.proofs.Whole.{same_happen}
use Rattle.cyc_model.proofs.Leaves.{taken_cpu}

-- something of each CPU
abbrev pub seen : {A : Type 0} → (Cpu → A) → State → List A
seen p s = map p s.cpus

set_same : {A : Type 0} (p : Cpu → A) (cs : List Cpu) (n : ℕ) (d : Cpu) → p d ≡ p (slice_index_or cs n absent)
    → map p (slice_set cs n d) ≡ map p cs
set_same p [] n d e = refl
set_same p (c ∷ cs) zero d e = ap (λ a. a ∷ map p cs) e
set_same p (c ∷ cs) (suc n) d e = ap (λ rest. p c ∷ rest) (set_same p cs n d e)

pub on_same : {A : Type 0} (p : Cpu → A) (n : ℕ) (f : Cpu → Here) (s : State) → p (f (cpu_of n s)).cpu ≡ p (cpu_of n s)
    → seen p (on_number n f s).state ≡ seen p s
on_same p n f s e = set_same p s.cpus n (f (cpu_of n s)).cpu e

pub each_same : {A B : Type 0} (p : Cpu → A) (f : B → State → Outcome)
    → ((x : B) (s : State) → seen p (f x s).state ≡ seen p s) → (xs : List B) (s : State)
    → seen p (each f xs s).state ≡ seen p s
each_same p f one [] s = refl
each_same p f one (x ∷ xs) s = each_same p f one xs (f x s).state ∙ one x s

at_map : {A : Type 0} (p : Cpu → A) (cs : List Cpu) (n : ℕ)
    → slice_index_or (map p cs) n (p absent) ≡ p (slice_index_or cs n absent)
at_map p [] n = refl
at_map p (c ∷ cs) zero = refl
at_map p (c ∷ cs) (suc n) = at_map p cs n

pub seen_at : {A : Type 0} (p : Cpu → A) (s t : State) → seen p t ≡ seen p s → (m : ℕ) → p (cpu_of m t) ≡ p (cpu_of m s)
seen_at p s t e m = sym (at_map p t.cpus m) ∙ (ap (λ list. slice_index_or list m (p absent)) e ∙ at_map p s.cpus m)

-- ---- open removals

abbrev pub removal_of : Cpu → Option ℕ
removal_of c = c.removal

any_map : (id : ℕ) (cs : List Cpu) → list_any (λ c. option_map_or (λ busy. busy == id) c.removal false) cs
    ≡ list_any (λ r. option_map_or (λ busy. busy == id) r false) (map removal_of cs)
any_map id [] = refl
any_map id (c ∷ cs) = ap (λ b. option_map_or (λ busy. busy == id) c.removal false || b) (any_map id cs)

pub same_leaving : (id : ℕ) (s t : State) → seen removal_of t ≡ seen removal_of s → is_being_removed id t ≡ is_being_removed id s
same_leaving id s t e = any_map id t.cpus ∙ (ap (list_any (λ r. option_map_or (λ busy. busy == id) r false)) e
    ∙ sym (any_map id s.cpus))

-- what is seen of a CPU depends on its open removal, and on whether it is online, alone
abbrev pub Alike : {A : Type 0} → (Cpu → A) → Type 0
Alike p = (c d : Cpu) → d.removal ≡ c.removal → d.online ≡ c.online → p d ≡ p c

pub removal_alike : Alike removal_of
removal_alike c d removal online = removal

abbrev pub online_of : Cpu → Bool
online_of c = c.online

pub online_alike : Alike online_of
online_alike c d removal online = online

pub keeps_counts : {A : Type 0} (p : Cpu → A) (n : ℕ) (o : Option CyclicState) (s : State) → seen p (keep_counts n o s) ≡ seen p s
keeps_counts p n None s = refl
keeps_counts p n (Some x) s = refl

pub cpu_counts : (n m : ℕ) (o : Option CyclicState) (s : State) → cpu_of m (keep_counts n o s) ≡ cpu_of m s
cpu_counts n m None s = refl
cpu_counts n m (Some x) s = refl

module _ {A : Type 0} (p : Cpu → A) (alike : Alike p) where
  abbrev Keeps : (State → Outcome) → Type 0
  Keeps f = (s : State) → seen p (f s).state ≡ seen p s

  pub alike_widened : (n more : ℕ) (c : Cpu) → p (widen_here n more c).cpu ≡ p c
  alike_widened n more c = by (must_grow more c)
    where
      by : (b : Bool) → p (cond b (switch_here n (bank_for (length c.cyclics + more)) c) (record { acts = []; cpu = c })).cpu
          ≡ p c
      by true = alike c (switch_here n (bank_for (length c.cyclics + more)) c).cpu refl refl
      by false = refl

  pub alike_placed : (n index : ℕ) (x : CyclicState) (c : Cpu) → p (place_here n index x c).cpu ≡ p c
  alike_placed n index x c =
      let h = same_happen (place_here n index x c).acts (record c { cyclics = put_in x c.cyclics }) in
      alike c (place_here n index x c).cpu h.removal h.online

  pub alike_taken : (n id : ℕ) (c : Cpu) → p (take_here n id c).cpu ≡ p c
  alike_taken n id c = let h = taken_cpu n id c in alike c (take_here n id c).cpu h.1 h.3

  pub keeps_enter : (indexes : ℕ → ℕ) (n : ℕ) (x : CyclicState) → Keeps (enter indexes n x)
  keeps_enter indexes n x s = on_same p n (enter_here n (indexes s.admissions) x) s
      (alike_placed n (indexes s.admissions) x (widen_here n 1 (cpu_of n s)).cpu ∙ alike_widened n 1 (cpu_of n s))

  pub keeps_enters : (indexes : ℕ → ℕ) (id : ℕ) (e : Everywhere) (ns : List ℕ)
      → Keeps (each (λ n u. enter indexes n (component id n e u.clock) u) ns)
  keeps_enters indexes id e ns s = each_same p (λ n u. enter indexes n (component id n e u.clock) u)
      (λ n u. keeps_enter indexes n (component id n e u.clock) u) ns s

  keeps_bring : (indexes : ℕ → ℕ) (target : ℕ) (o : Option CyclicState) → Keeps (bring indexes target o)
  keeps_bring indexes target None s = refl
  keeps_bring indexes target (Some x) s = keeps_enter indexes target x s

  pub keeps_move : (indexes : ℕ → ℕ) (id source target : ℕ) → Keeps (move indexes id source target)
  keeps_move indexes id source target s =
      let t = (on_number source (take_here source id) s).state in
      keeps_bring indexes target (cyclic_with_id id (cpu_of source s)) (put_at id (On target (is_bound id t)) t)
      ∙ on_same p source (take_here source id) s (alike_taken source id (cpu_of source s))

  keeps_unless : (there : Bool) (indexes : ℕ → ℕ) (id n : ℕ) → Keeps (move_unless_there there indexes id n)
  keeps_unless true indexes id n s = refl
  keeps_unless false indexes id n s = keeps_move indexes id (home_of id s) n s

  pub keeps_bind : (indexes : ℕ → ℕ) (step : ℕ) (b : BindStep) → Keeps (bind indexes step b)
  keeps_bind indexes step b s =
      let id = id_of b.name s in keeps_unless (home_of id s == b.cpu) indexes id b.cpu s

  keeps_turn : (indexes : ℕ → ℕ) (source id : ℕ) (t : Turn) → Keeps (take_turn indexes source id t)
  keeps_turn indexes source id IsBound s = refl
  keeps_turn indexes source id IsPending s = refl
  keeps_turn indexes source id IsRefused s = refl
  keeps_turn indexes source id (Moves target) s = keeps_move indexes id source target s

  pub keeps_turns : (indexes : ℕ → ℕ) (source : ℕ) (ids : List ℕ) (s : State)
      → seen p (juggle_each plain indexes source ids s).outcome.state ≡ seen p s
  keeps_turns indexes source [] s = refl
  keeps_turns indexes source (id ∷ ids) s =
      let t = turn plain source id s in
      keeps_turns indexes source ids (take_turn indexes source id t s).state ∙ keeps_turn indexes source id t s

  pub keeps_juggle : (indexes : ℕ → ℕ) (step n : ℕ) → Keeps (juggle plain indexes step n)
  keeps_juggle indexes step n s = keeps_turns indexes n (single_ids_of n s) s

  keeps_retire : (n id : ℕ) → Keeps (retire n id)
  keeps_retire n id s =
      let r = keep_counts n (cyclic_with_id id (cpu_of n s)) s in
      on_same p n (take_here n id) r (alike_taken n id (cpu_of n r))
      ∙ keeps_counts p n (cyclic_with_id id (cpu_of n s)) s

  pub keeps_retires : (n : ℕ) (ids : List ℕ) → Keeps (each (retire n) ids)
  keeps_retires n ids s = each_same p (retire n) (keeps_retire n) ids s

  keeps_return : (indexes : ℕ → ℕ) (n id : ℕ) (placement : Placement) → Keeps (return_here indexes n id placement)
  keeps_return indexes n id (On m bound) s = refl
  keeps_return indexes n id (OnAll e) s = on_same p n (place_here n (indexes s.admissions) _) s
      (alike_placed n (indexes s.admissions) _ (cpu_of n s))

  pub keeps_returns : (indexes : ℕ → ℕ) (n : ℕ) (ps : List Placed) → Keeps (each (return_of indexes n) ps)
  keeps_returns indexes n ps s = each_same p (return_of indexes n) (λ q v. keeps_return indexes n q.id q.placement v) ps s

-- ---- a CPU that goes offline, or comes back, has the removal that it had

abbrev KeepsRemoval : (State → Outcome) → Type 0
KeepsRemoval f = (s : State) → seen removal_of (f s).state ≡ seen removal_of s

keeps_retired : (n : ℕ) → KeepsRemoval (retire_all n)
keeps_retired n s =
    let t = (each (retire n) (ids_of_cpu n s) s).state in
    on_same removal_of n (λ c. record { acts = []; cpu = go_offline c }) t refl
    ∙ keeps_retires removal_of removal_alike n (ids_of_cpu n s) s

pub keeps_offline : (indexes : ℕ → ℕ) (step n : ℕ) → KeepsRemoval (offline plain indexes step n)
keeps_offline indexes step n s = by (single_ids_of n (juggled plain indexes n s).outcome.state)
  where
    moved : seen removal_of (juggled plain indexes n s).outcome.state ≡ seen removal_of s
    moved = keeps_turns removal_of removal_alike indexes n (single_ids_of n s) s

    last : (b : Bool) → seen removal_of (last_part b step n (juggled plain indexes n s).outcome).state ≡ seen removal_of s
    last true = moved
    last false = keeps_retired n (juggled plain indexes n s).outcome.state ∙ moved

    by : (ids : List ℕ) → seen removal_of (leaving plain step n ids (juggled plain indexes n s)).state ≡ seen removal_of s
    by (id ∷ ids) = moved
    by [] = last (any_pending plain n (ids_of_cpu n (juggled plain indexes n s).outcome.state)
        (juggled plain indexes n s).outcome.state)

pub keeps_online : (indexes : ℕ → ℕ) (step n : ℕ) → KeepsRemoval (online indexes step n)
keeps_online indexes step n s =
    let t = (on_number n (widen_here n (length (staying_omni s))) s).state in
    let u = (each (return_of indexes n) (staying_omni s) t).state in
    on_same removal_of n (λ c. record { acts = []; cpu = go_online c }) u refl
    ∙ (keeps_returns removal_of removal_alike indexes n (staying_omni s) t
    ∙ on_same removal_of n (widen_here n (length (staying_omni s))) s
    (alike_widened removal_of removal_alike n (length (staying_omni s)) (cpu_of n s)))
