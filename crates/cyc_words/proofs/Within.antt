-- What follows of a word, of the call that it makes and where it makes none.
use Rattle.std.proofs.Common.{ℕ, List, inl, inr, Option, Some, None}
use Rattle.std.specs.Prelude.{⊤, Result}
use Rattle.cyc_types.specs.declared.refusal.Refusal.{Refusal}
use Rattle.cyc_script.specs.declared.step.Reprogram.{Reprogram as ReprogramStep}
use Rattle.cyc_script.specs.declared.step.Step.{Step}
use Rattle.cyc_script.specs.declared.step.Step.TheVariants as steps
use Rattle.cyc_system.specs.Calls.{SystemCall, Add, AddOmni, Bind, BeginRemove, Reprogram, ReprogramOn, Juggle, Offline, Online}
use Rattle.cyc_system.specs.Calls.{Suspend, Resume, reprograms}
use Rattle.cyc_words.specs.declared.named.Named.{Named}
use Rattle.cyc_words.specs.declared.answer.WordAnswer.{WordAnswer}
use Rattle.cyc_words.specs.Names.{named_at, cyclic_id}
use Rattle.cyc_words.specs.Words.{WithId, WithCall, id_call, call_made}

-- another thing follows of the id, where there is one, and of there being none
pub then_id : (o : Option ℕ) (P Q : ℕ → Type 0) (N M : Type 0) → ((id : ℕ) → P id → Q id) → (N → M) → WithId o P N
    → WithId o Q M
then_id (Some id) P Q N M go stop p = go id p
then_id None P Q N M go stop n = stop n

-- the kind of call that a word makes
abbrev pub IsCallOf : Step → SystemCall → Type 0
IsCallOf (steps.Add a) (Add level when now answer) = ⊤
IsCallOf (steps.Omni a) (AddOmni level when skew now answer) = ⊤
IsCallOf (steps.Bind b) (Bind id cpu answer) = ⊤
IsCallOf (steps.Unbind name) (Bind id cpu answer) = ⊤
IsCallOf (steps.Reprogram r) (Reprogram id moment answer) = ⊤
IsCallOf (steps.Reprogram r) (ReprogramOn id n moment answer) = ⊤
IsCallOf (steps.Remove name) (BeginRemove id answer) = ⊤
IsCallOf (steps.Juggle n) (Juggle m answer) = ⊤
IsCallOf (steps.Offline n) (Offline m answer) = ⊤
IsCallOf (steps.Online n) (Online m now answer) = ⊤
IsCallOf steps.Suspend (Suspend answer) = ⊤
IsCallOf steps.Resume (Resume answer) = ⊤
IsCallOf x call = ⊥

is_reprogram : (r : ReprogramStep) (cpu : Option ℕ) (id moment : ℕ) (answer : Result (Unit {0}) Refusal)
    → IsCallOf (steps.Reprogram r) (reprograms cpu id moment answer)
is_reprogram r None id moment answer = tt
is_reprogram r (Some n) id moment answer = tt

-- what is said of a call and of its answer, and what of a refusal
module _ (P : ℕ → SystemCall → Result WordAnswer Refusal → Type 0) (N : Refusal → Type 0) (clock : ℕ) (names : List Named) where
  -- another thing said of the same call
  module _ (Q : ℕ → SystemCall → Result WordAnswer Refusal → Type 0) (M : Refusal → Type 0)
      (go : (name : ℕ) (call : SystemCall) (answer : Result WordAnswer Refusal) → P name call answer → Q name call answer)
      (stop : (why : Refusal) → N why → M why) where
    pub then_call : (x : Step) → WithCall clock names x P N → WithCall clock names x Q M
    then_call (steps.Add a) (inl (when, s, i, l, (answer, p))) = inl (when, s, i, l, (answer, go _ _ _ p))
    then_call (steps.Add a) (inr (bad, n)) = inr (bad, stop _ n)
    then_call (steps.Omni a) (inl (when, s, i, l, (answer, p))) = inl (when, s, i, l, (answer, go _ _ _ p))
    then_call (steps.Omni a) (inr (bad, n)) = inr (bad, stop _ n)
    then_call (steps.Bind b) d =
        then_id (cyclic_id (named_at names b.name)) _ _ _ _ (λ id p. (p.0, go _ _ _ p.1)) (λ n. stop _ n) d
    then_call (steps.Unbind name) d =
        then_id (cyclic_id (named_at names name)) _ _ _ _ (λ id p. (p.0, go _ _ _ p.1)) (λ n. stop _ n) d
    then_call (steps.Reprogram r) (inl (moment, is, d)) = inl (
      moment,
      is,
      then_id (cyclic_id (named_at names r.name)) _ _ _ _ (λ id p. (p.0, go _ _ _ p.1)) (λ n. stop _ n) d,
    )
    then_call (steps.Reprogram r) (inr (bad, n)) = inr (bad, stop _ n)
    then_call (steps.Remove name) d =
        then_id (cyclic_id (named_at names name)) _ _ _ _ (λ id p. (p.0, go _ _ _ p.1)) (λ n. stop _ n) d
    then_call (steps.Advance now) d = d
    then_call (steps.Softint i) d = d
    then_call (steps.Juggle n) (answer, p) = (answer, go _ _ _ p)
    then_call (steps.Offline n) (answer, p) = (answer, go _ _ _ p)
    then_call (steps.Online n) (answer, p) = (answer, go _ _ _ p)
    then_call steps.Suspend (answer, p) = (answer, go _ _ _ p)
    then_call steps.Resume (answer, p) = (answer, go _ _ _ p)

  -- what follows of the call that a word made, and of none
  module _ (L : Option SystemCall → Type 0) (stop : (why : Refusal) → N why → L None) where
    by_id : {A : Type 0} (call : ℕ → Result A Refusal → SystemCall) (Does : ℕ → Result A Refusal → Type 0) (M : Type 0)
        (id : Option ℕ) → ((own : ℕ) (answer : Result A Refusal) → Does own answer → L (Some (call own answer)))
        → (M → L None) → (d : WithId id (λ own. (answer : Result A Refusal) × Does own answer) M)
        → L (id_call call Does M id d)
    by_id call Does M (Some own) each none (answer, did) = each own answer did
    by_id call Does M None each none nothing = none nothing

    pub by_call : (x : Step) → ((name : ℕ) (call : SystemCall) (answer : Result WordAnswer Refusal)
        → P name call answer → IsCallOf x call → L (Some call))
        → (d : WithCall clock names x P N) → L (call_made clock names P N x d)
    by_call (steps.Add a) go (inl (when, starts, lasts, long, (answer, p))) = go _ _ _ p tt
    by_call (steps.Add a) go (inr (bad, n)) = stop _ n
    by_call (steps.Omni a) go (inl (when, starts, lasts, long, (answer, p))) = go _ _ _ p tt
    by_call (steps.Omni a) go (inr (bad, n)) = stop _ n
    by_call (steps.Bind b) go d = by_id (λ id answer. Bind id (Some b.cpu) answer) _ _ (cyclic_id (named_at names b.name))
        (λ id answer p. go _ _ _ p tt) (λ n. stop _ n) d
    by_call (steps.Unbind name) go d = by_id (λ id answer. Bind id None answer) _ _ (cyclic_id (named_at names name))
        (λ id answer p. go _ _ _ p tt) (λ n. stop _ n) d
    by_call (steps.Reprogram r) go (inl (moment, is, d)) = by_id (λ id answer. reprograms r.cpu id moment answer) _ _
        (cyclic_id (named_at names r.name)) (λ id answer p. go _ _ _ p (is_reprogram r r.cpu id moment answer)) (λ n. stop _ n) d
    by_call (steps.Reprogram r) go (inr (bad, n)) = stop _ n
    by_call (steps.Remove name) go d = by_id (λ id answer. BeginRemove id answer) _ _ (cyclic_id (named_at names name))
        (λ id answer p. go _ _ _ p tt) (λ n. stop _ n) d
    by_call (steps.Advance now) go d = absurd d
    by_call (steps.Softint i) go d = absurd d
    by_call (steps.Juggle n) go (answer, p) = go _ _ _ p tt
    by_call (steps.Offline n) go (answer, p) = go _ _ _ p tt
    by_call (steps.Online n) go (answer, p) = go _ _ _ p tt
    by_call steps.Suspend go (answer, p) = go _ _ _ p tt
    by_call steps.Resume go (answer, p) = go _ _ _ p tt
