-- A step more.
use Rattle.std.proofs.Common.{◌≡◌, ℕ, zero, suc, ◌+◌, ◌<◌, ◌≤◌, List, [], ◌∷◌, ◌++◌, append_assoc, append-nil, length, get_or}
use Rattle.std.proofs.Common.{take, drop, refl, ap, sym, ◌∙◌, subst, arith}
use Rattle.std.proofs.lemmas.List.{length-append, length-take-le, take_more, take-append-drop}
use Rattle.cyc_script.specs.declared.step.Step.{Step}
use Rattle.cyc_model.specs.Acts.{events_at}
use Rattle.cyc_model.specs.Questions.{Questions, plain}
use Rattle.cyc_model.specs.State.{State, Outcome, before, followed_by}
use Rattle.cyc_model.specs.Laws.{level_on}
use Rattle.cyc_model.specs.Free.{AllCanBeAdmitted}
use Rattle.cyc_model.specs.Script.{word, steps_from, start, run_on}
use Rattle.cyc_model.proofs.Events.{events_append}
use Rattle.cyc_model.proofs.Telling.{tells_steps}
use Rattle.cyc_model.proofs.Reaching.{length_new}
use Rattle.cyc_system_model.specs.SystemWords.{GivesIndexes}
use Rattle.cyc_replay.specs.declared.machine.Machine.{Machine}
use Rattle.cyc_replay.specs.Machine.{ShowsMachine, HasName, IsReached}
use Rattle.cyc_replay.specs.Words.{TakesWord}
use Rattle.cyc_replay.specs.Runs.{HaveNames, RunsTo, listed}
use Rattle.cyc_replay.proofs.Indexes.{same_run, same_line}
use Rattle.cyc_replay.proofs.Introduced.{run_named, run_has_name, fewer_before}
use Rattle.cyc_system_model.proofs.Free.{can_append}

-- ---- lists of indexes

at_first : (given more : List ℕ) (k : ℕ) → k < length given → listed given k ≡ listed (given ++ more) k
at_first [] more k low = absurd (omega (arith, low))
at_first (x ∷ given) more zero low = refl
at_first (x ∷ given) more (suc k) low = at_first given more k (omega (arith, low))

at_length : (given : List ℕ) (x : ℕ) (more : List ℕ) → listed (given ++ x ∷ more) (length given) ≡ x
at_length [] x more = refl
at_length (y ∷ given) x more = at_length given x more

gives_more : (given more : List ℕ) (k : ℕ) → k ≡ length given → GivesIndexes (listed (given ++ more)) k more
gives_more given [] k is = tt
gives_more given (x ∷ more) k is =
    let long = length-append given (x ∷ []) in (
      ap (listed (given ++ x ∷ more)) is ∙ at_length given x more,
      subst (λ xs. GivesIndexes (listed xs) (k + 1) more) (append_assoc given (x ∷ []) more)
          (gives_more (given ++ x ∷ []) more (k + 1) (omega (arith, long, is))),
    )

-- ---- steps one after another

joined : (a b c : Outcome) → before a (before b c) ≡ before (before a b) c
joined a b c = λ z. record {
  line = sym (append_assoc a.line b.line c.line) z;
  acts = sym
      (append_assoc a.acts b.acts c.acts) z;
  state = c.state;
}

pub steps_append : (q : Questions) (texts : List (List ℕ)) (indexes : ℕ → ℕ) (step : ℕ) (xs ys : List Step) (s : State)
    → steps_from q texts indexes step (xs ++ ys) s
    ≡ followed_by (steps_from q texts indexes step xs s) (steps_from q texts indexes (step + length xs) ys)
steps_append q texts indexes step [] ys s = ap (λ k. steps_from q texts indexes k ys s) (none_more step)
  where
    none_more : (k : ℕ) → k ≡ k + 0
    none_more k = omega arith
steps_append q texts indexes step (x ∷ xs) ys s =
    let o = word q texts indexes step x s in
    let mid = steps_from q texts indexes (step + 1) xs o.state in
    ap (before o) (steps_append q texts indexes (step + 1) xs ys o.state)
    ∙ joined o mid (steps_from q texts indexes (step + 1 + length xs) ys mid.state)
    ∙ ap (λ k. before (before o mid) (steps_from q texts indexes k ys mid.state)) (one_on step (length xs))
  where
    one_on : (k n : ℕ) → k + 1 + n ≡ k + suc n
    one_on k n = omega arith

alone : (o : Outcome) → before o (record { line = []; acts = []; state = o.state }) ≡ o
alone o = λ z. record { line = append-nil o.line z; acts = append-nil o.acts z; state = o.state }

module _ (cpus ceiling : ℕ) (texts : List (List ℕ)) (done : List Step) where
  -- a step more
  pub run_more : (f : ℕ → ℕ) (x : Step) → run_on f cpus ceiling texts (done ++ x ∷ [])
      ≡ followed_by (run_on f cpus ceiling texts done) (word plain texts f (1 + length done) x)
  run_more f x =
      let s = start cpus ceiling (length texts) in
      let mid = run_on f cpus ceiling texts done in
      steps_append plain texts f 1 done (x ∷ []) s
      ∙ ap (before mid) (alone (word plain texts f (1 + length done) x mid.state))

  -- all steps: those so far, and those that follow
  pub run_rest : (f : ℕ → ℕ) (rest : List Step) → run_on f cpus ceiling texts (done ++ rest)
      ≡ followed_by (run_on f cpus ceiling texts done) (steps_from plain texts f (1 + length done) rest)
  run_rest f rest = steps_append plain texts f 1 done rest (start cpus ceiling (length texts))

-- ---- the machine that steps so far led to

module _ (cpus ceiling : ℕ) (texts : List (List ℕ)) (done : List Step) (m : Machine) (r : RunsTo cpus ceiling texts done m) where
  pub reached_so : 0 < cpus → cpus ≤ 16 → HaveNames texts done → (step : ℕ) → length done < step
      → IsReached step (run_on (listed r.given) cpus ceiling texts done).state
  reached_so some few names step short = record {
    indexes = listed r.given;
    cpus = cpus;
    ceiling = ceiling;
    texts = texts;
    steps = done;
    some = some;
    few = few;
    short = short;
    is = refl;
    named = run_named (listed r.given) cpus ceiling texts done names;
  }

  module _ (x : Step) (line : List ℕ) (n : Machine)
      (t : TakesWord texts (1 + length done) x line (run_on (listed r.given) cpus ceiling texts done).state n) where
    given_then : List ℕ
    given_then = r.given ++ t.given

    -- the indexes of those so far are the same
    same_so_far : run_on (listed r.given) cpus ceiling texts done ≡ run_on (listed (r.given ++ t.given)) cpus ceiling texts done
    same_so_far = same_run cpus ceiling texts done (listed r.given) (listed (r.given ++ t.given))
        (λ k low. at_first r.given t.given k (let a = r.admissions in omega (arith, low, a)))

    pub runs_on : RunsTo cpus ceiling texts (done ++ x ∷ []) n
    runs_on =
        let f = listed (r.given ++ t.given) in
        let o = run_on (listed r.given) cpus ceiling texts done in
        let s = start cpus ceiling (length texts) in
        let c = t.comes f (gives_more r.given t.given o.state.admissions r.admissions) in
        let w = word plain texts f (1 + length done) x o.state in
        let is : run_on f cpus ceiling texts (done ++ x ∷ []) ≡ before o w =
        run_more cpus ceiling texts done f x
        ∙ ap (λ (p : Outcome). followed_by p (word plain texts f (1 + length done) x)) (sym same_so_far) in
        let long = length-append r.given t.given in
        let was = r.admissions in let more = c.admissions in
        record {
          given = r.given ++ t.given;
          holds = subst (λ (p : Outcome). ShowsMachine p.state n) (sym is) c.holds;
          admissions = ap (λ (p : Outcome). p.state.admissions) is ∙ omega (arith, long, was, more);
          free = λ k low soft.
              let inside = length_new cpus ceiling in
              let level = (tells_steps plain texts (listed r.given) 1 done s).tells.levels k (omega (arith, low, inside)) soft in
              subst (λ (p : Outcome). AllCanBeAdmitted (events_at k soft p.acts) (level_on k soft s)) (sym is)
              (subst (λ es. AllCanBeAdmitted es (level_on k soft s)) (sym (events_append k soft o.acts w.acts))
              (can_append (events_at k soft o.acts) (events_at k soft w.acts) (level_on k soft s) (r.free k low soft)
              (subst (λ l. AllCanBeAdmitted (events_at k soft w.acts) l) level (c.free k soft))));
        }

    -- and its line is the one of any indexes
    pub line_on : (f : ℕ → ℕ) → (run_on f cpus ceiling texts (done ++ x ∷ [])).line ≡
        (run_on f cpus ceiling texts done).line ++ line
    line_on f =
        let g = listed (r.given ++ t.given) in
        let o = run_on (listed r.given) cpus ceiling texts done in
        same_line cpus ceiling texts (done ++ x ∷ []) f g
        ∙ ap (λ (p : Outcome). p.line) (run_more cpus ceiling texts done g x)
        ∙ ap (λ (p : Outcome). p.line ++ (word plain texts g (1 + length done) x p.state).line) (sym same_so_far)
        ∙ ap (λ l. o.line ++ l) (sym (t.line_is g (gives_more r.given t.given o.state.admissions r.admissions)))
        ∙ ap (λ l. l ++ line) (same_line cpus ceiling texts done (listed r.given) f)

-- ---- the line of a step

line_left : (xs ys zs : List ℕ) → xs ++ ys ≡ xs ++ zs → ys ≡ zs
line_left [] ys zs same = same
line_left (x ∷ xs) ys zs same = line_left xs ys zs (ap tail same)
  where
    tail : List ℕ → List ℕ
    tail [] = []
    tail (w ∷ ws) = ws

-- it is the one that the definition's step has, whatever the indexes
pub line_of : (cpus ceiling : ℕ) (texts : List (List ℕ)) (done : List Step) (m : Machine) (r : RunsTo cpus ceiling texts done m)
    (x : Step) (line : List ℕ) (n : Machine)
    → TakesWord texts (1 + length done) x line (run_on (listed r.given) cpus ceiling texts done).state n
    → (f : ℕ → ℕ) → line ≡ (word plain texts f (1 + length done) x (run_on f cpus ceiling texts done).state).line
line_of cpus ceiling texts done m r x line n t f =
    line_left (run_on f cpus ceiling texts done).line line _
    (sym (line_on cpus ceiling texts done m r x line n t f) ∙ ap (λ (o : Outcome). o.line) (run_more cpus ceiling texts done f x))

-- the same where the step has this number
pub takes_at : (cpus ceiling : ℕ) (texts : List (List ℕ)) (done : List Step) (step : ℕ) (x : Step) (line : List ℕ) (m n : Machine)
    → 0 < cpus → cpus ≤ 16 → step ≡ 1 + length done → HaveNames texts (done ++ x ∷ []) → (r : RunsTo cpus ceiling texts done m)
    → ((s : State) → IsReached step s → HasName x s → ShowsMachine s m → TakesWord texts step x line s n)
    → ((f : ℕ → ℕ) → line ≡ (word plain texts f step x (run_on f cpus ceiling texts done).state).line)
    × RunsTo cpus ceiling texts (done ++ x ∷ []) n
takes_at cpus ceiling texts done step x line m n some few is names r takes =
    let s = (run_on (listed r.given) cpus ceiling texts done).state in
    let t = takes s (reached_so cpus ceiling texts done m r some few (fewer_before texts done x names) step (omega (arith, is)))
    (run_has_name (listed r.given) cpus ceiling texts done x names) r.holds in
    let u = subst (λ k. TakesWord texts k x line s n) is t in (
      λ f. line_of cpus ceiling texts done m r x line n u f
          ∙ ap (λ k. (word plain texts f k x (run_on f cpus ceiling texts done).state).line) (sym is),
      runs_on cpus ceiling texts done m r x line n u,
    )

-- ---- a step among all

module _ (steps : List Step) (i : ℕ) (x : Step) (low : i < length steps) (here : x ≡ get_or steps i x) where
  pub take_on : take (i + 1) steps ≡ take i steps ++ x ∷ []
  take_on = take_more steps i x low ∙ ap (λ y. take i steps ++ y ∷ []) (sym here)

  pub number_on : (step : ℕ) → step ≡ i + 1 → step ≡ 1 + length (take i steps)
  number_on step is = let long = length-take-le i steps (omega (arith, low)) in omega (arith, long, is)

  -- the lines so far, the line of this step, and those that follow
  pub whole_line : (cpus ceiling : ℕ) (texts : List (List ℕ)) (f : ℕ → ℕ) (step : ℕ) → step ≡ i + 1 → (rest : List ℕ)
      × ((run_on f cpus ceiling texts steps).line ≡ ((run_on f cpus ceiling texts (take i steps)).line
      ++ (word plain texts f step x (run_on f cpus ceiling texts (take i steps)).state).line) ++ rest)
  whole_line cpus ceiling texts f step is =
      let mid = run_on f cpus ceiling texts (take (i + 1) steps) in
      let others = steps_from plain texts f (1 + length (take (i + 1) steps)) (drop (i + 1) steps) mid.state in (
        others.line,
        ap (λ xs. (run_on f cpus ceiling texts xs).line) (sym (take-append-drop (i + 1) steps))
            ∙ ap (λ (o : Outcome). o.line) (run_rest cpus ceiling texts (take (i + 1) steps) f (drop (i + 1) steps))
            ∙ ap (λ xs. (run_on f cpus ceiling texts xs).line ++ others.line) take_on
            ∙ ap (λ (o : Outcome). o.line ++ others.line) (run_more cpus ceiling texts (take i steps) f x)
            ∙ ap (λ k. ((run_on f cpus ceiling texts (take i steps)).line
            ++ (word plain texts f k x (run_on f cpus ceiling texts (take i steps)).state).line) ++ others.line)
            (sym (number_on step is)),
      )

  -- and with them
  pub line_then : (cpus ceiling : ℕ) (texts : List (List ℕ)) (f : ℕ → ℕ) (step : ℕ) → step ≡ i + 1
      → (run_on f cpus ceiling texts (take (i + 1) steps)).line ≡ (run_on f cpus ceiling texts (take i steps)).line
      ++ (word plain texts f step x (run_on f cpus ceiling texts (take i steps)).state).line
  line_then cpus ceiling texts f step is =
      ap (λ xs. (run_on f cpus ceiling texts xs).line) take_on
      ∙ ap (λ (o : Outcome). o.line) (run_more cpus ceiling texts (take i steps) f x)
      ∙ ap (λ k. (run_on f cpus ceiling texts (take i steps)).line
      ++ (word plain texts f k x (run_on f cpus ceiling texts (take i steps)).state).line) (sym (number_on step is))
