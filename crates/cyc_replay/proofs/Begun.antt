-- The beginning of a removal by the machine is that of the definition.
use Rattle.std.proofs.Common.{◌≡◌, ◌≢◌, ◌≤◌, ℕ, zero, suc, true, ◌+◌, ◌++◌, append_assoc, length, inl, inr, arith, List, ◌∷◌}
use Rattle.std.proofs.Common.{Some, ap, sym, ◌∙◌, [], subst, refl}
use Rattle.std.proofs.lemmas.List.{length-append}
use Rattle.std.specs.Prelude.{replicate, slice_set, Result, Ok, Err}
use Rattle.cyc_types.specs.declared.receipt.Receipt.{Receipt}
use Rattle.cyc_types.specs.declared.refusal.Refusal.{Refusal}
use Rattle.cyc_types.specs.declared.refusal.Refusal.TheVariants.{NoCyclic, Memory}
use Rattle.cyc_types.specs.Refusals.{number_of}
use Rattle.cyc_core.specs.Tables.{Tables}
use Rattle.cyc_text.specs.Lines.{refused}
use Rattle.cyc_system_model.specs.Answers.{IsRefused}
use Rattle.cyc_cpu.specs.Soft.{raise_tables}
use Rattle.cyc_text.specs.declared.lines.Counts.{Counts}
use Rattle.cyc_system.specs.Removing.{cpus_with as cpus_with_in}
use Rattle.cyc_system.specs.SystemRemoval.{SystemRemoval}
use Rattle.cyc_system.specs.SystemRemoval.TheVariants.{Done, Kept}
use Rattle.cyc_script.specs.declared.step.Step.TheVariants.{Remove}
use Rattle.cyc_system.specs.System.{SystemView}
use Rattle.cyc_system.specs.Calls.{Changes, BeginRemove}
use Rattle.cyc_model.specs.Questions.{plain}
use Rattle.cyc_model.specs.State.{State, cpus_having}
use Rattle.cyc_model.specs.Places.{id_of, is_no_cyclic}
use Rattle.cyc_types.specs.Reasons.{first_refusal, when}
use Rattle.cyc_model.specs.Remove.{busy_on_any, remove}
use Rattle.cyc_model.specs.Report.{counts_of}
use Rattle.cyc_model.proofs.Spread.{Good}
use Rattle.cyc_model.specs.Script.{does, text_in, refusal_of}
use Rattle.cyc_system_model.specs.SystemWords.{GivesIndexes, IsRefusedFor}
use Rattle.cyc_system_model.specs.Removal.{told_by_receipt, IsRemovedAtOnce, IsKept}
use Rattle.cyc_replay.specs.declared.machine.Machine.{Machine}
use Rattle.cyc_replay.specs.Machine.{ShowsMachine, Remembers, id_at, numbers_of}
use Rattle.cyc_system.specs.Removing.{BeginsRemoval}
use Rattle.cyc_words.specs.declared.named.Named.TheVariants.{Leaving, Removed}
use Rattle.cyc_words.specs.Names.{news, noted}
use Rattle.cyc_system_model.proofs.Removals.{remove_forgets, receipt_removed}
use Rattle.cyc_replay.specs.Runs.{listed}
use Rattle.cyc_replay.specs.Words.{TakesWord}
use Rattle.cyc_replay.proofs.Doing.{Accepts, Answers}
use Rattle.cyc_model.proofs.Still.{still_remove}
use Rattle.cyc_model.proofs.Answering.{counts_removed}
use Rattle.cyc_replay.proofs.Doing.{Keeps, Leaves, accepts, refuses}
use Rattle.cyc_replay.proofs.Remembering.{remembers_ended, remembers_kept, stays_unknown, numbers_kept}
use Rattle.cyc_replay.proofs.Taking.{done_takes, refused_takes, truly_refused}
use Rattle.cyc_replay.specs.WordLines.{begun_line}
use Rattle.cyc_replay.proofs.Unknown.{unknown_removed, still_known}

-- what the beginning of a removal is
abbrev pub Begun : ℕ → Result SystemRemoval Refusal → State → SystemView Tables → Type 0
Begun name (Ok (Done receipt)) s w = IsRemovedAtOnce name receipt s w
Begun name (Ok (Kept waits)) s w = IsKept name waits s w
Begun name (Err e) s w = IsRefusedFor e (Remove name) s w

pub begun : (name id : ℕ) (answer : Result SystemRemoval Refusal) (s : State) (v w : SystemView Tables)
    → ((receipt : Receipt) → Changes raise_tables v (BeginRemove id (Ok (Done receipt))) w → IsRemovedAtOnce name receipt s w)
    → ((waits : ℕ) → Changes raise_tables v (BeginRemove id (Ok (Kept waits))) w → IsKept name waits s w)
    → ((e : Refusal) → Changes raise_tables v (BeginRemove id (Err e)) w → IsRefusedFor e (Remove name) s w)
    → Changes raise_tables v (BeginRemove id answer) w → Begun name answer s w
begun name id (Ok (Done receipt)) s v w answered kept refused did = answered receipt did
begun name id (Ok (Kept waits)) s v w answered kept refused did = kept waits did
begun name id (Err e) s v w answered kept refused did = refused e did

-- the definition knows no cyclic of the name
pub nobody : (name : ℕ) (s : State) → is_no_cyclic (id_of name s) s ≡ true → refusal_of plain (Remove name) s ≡ Some NoCyclic
nobody name s gone =
    ap (λ b. first_refusal (when b NoCyclic ∷ busy_on_any plain (cpus_having (id_of name s) s) s)) gone

-- ---- indexes for any cyclics that were put on CPUs

at_length : (front : List ℕ) (x : ℕ) (more : List ℕ) → listed (front ++ x ∷ more) (length front) ≡ x
at_length [] x more = refl
at_length (y ∷ front) x more = at_length front x more

gives_more : (front more : List ℕ) (k : ℕ) → k ≡ length front → GivesIndexes (listed (front ++ more)) k more
gives_more front [] k is = tt
gives_more front (x ∷ more) k is =
    let long = length-append front (x ∷ []) in (
      ap (listed (front ++ x ∷ more)) is ∙ at_length front x more,
      subst (λ xs. GivesIndexes (listed xs) (k + 1) more) (append_assoc front (x ∷ []) more)
          (gives_more (front ++ x ∷ []) more (k + 1) (omega (arith, long, is))),
    )

blanks : ℕ → List ℕ
blanks n = replicate n 0

as_many : (n : ℕ) → n ≡ length (blanks n)
unfolding blanks
as_many zero = refl
as_many (suc n) = ap suc (as_many n)

-- ---- the machine after it

module _ (name id : ℕ) (s : State) (m n : Machine) (g : Good s) (h : ShowsMachine s m) (kept : Keeps s n.system)
    (clock : n.clock ≡ m.clock)
    (tally : n.tally ≡ m.tally) (at : id_at m.names name ≡ Some id) (is_id : id_of name s ≡ id)
    (named : n.named.items ≡ m.named.items) where
  leaves : numbers_of n.names ≡ numbers_of m.names → Leaves (Remove name) s n
  leaves names = record {
    clock = λ texts indexes step. (still_remove step (text_in texts name) name s).clock;
    suspended = λ texts indexes step. (still_remove step (text_in texts name) name s).suspended;
    names = λ texts indexes step. (still_remove step (text_in texts name) name s).names ∙ h.names ∙ sym names;
    last = λ texts indexes step. let last = (still_remove step (text_in texts name) name s).last in omega (arith, last);
  }

  no_earlier : (texts : List (List ℕ)) (step : ℕ) → s.last_id ≤ (remove plain step (text_in texts name) name s).state.last_id
  no_earlier texts step = let last = (still_remove step (text_in texts name) name s).last in omega (arith, last)

  others_known : (texts : List (List ℕ)) (step j : ℕ) → j ≢ id
      → is_no_cyclic j (remove plain step (text_in texts name) name s).state ≡ true → is_no_cyclic j s ≡ true
  others_known texts step j ne gone = sym (unknown_removed step (text_in texts name) name j s (λ e. ne (e ∙ is_id))) ∙ gone

  done_remembers : (receipt : Receipt) → n.names ≡ slice_set m.names name (Removed receipt)
      → BeginsRemoval raise_tables (id_of name s) (Ok (Done receipt)) m.system n.system → IsRemovedAtOnce name receipt s n.system
      → (texts : List (List ℕ)) (indexes : ℕ → ℕ) (step : ℕ) → Remembers (remove plain step (text_in texts name) name s).state n
  done_remembers receipt names did b texts indexes step =
      let t = (remove plain step (text_in texts name) name s).state in
      let told = subst (λ i. counts_of i t ≡ told_by_receipt receipt (s.called i)) is_id (b.counts texts indexes step) in
      remembers_ended s t m n name id receipt h.remembers at
      (receipt_removed (id_of name s) receipt m.system n.system did ∙ is_id)
      names named (no_earlier texts step)
      (ap (λ k. is_no_cyclic k t) (sym is_id)
      ∙ remove_forgets name s m.system n.system h.system h.shows receipt did step (text_in texts name))
      (told ∙ (λ z. told_by_receipt receipt (sym (ap (λ (c : Counts). c.called) told) z)))
      (λ j ne. others_known texts step j ne)
      (λ j ne low gone. stays_unknown texts indexes step (Remove name) s g b.done.accepted j low gone)
      (λ j ne low gone. counts_removed name s g b.done.accepted step (text_in texts name) j)

  kept_remembers : (waits : ℕ) → n.names ≡ slice_set m.names name (Leaving id) → IsKept name waits s n.system
      → (cpus_with_in id n.system.cpus ≢ [])
      → (texts : List (List ℕ)) (indexes : ℕ → ℕ) (step : ℕ) → Remembers (remove plain step (text_in texts name) name s).state n
  kept_remembers waits names b some texts indexes step =
      let t = (remove plain step (text_in texts name) name s).state in
      let shows = (b.done.comes texts (listed (blanks s.admissions ++ b.done.given)) step
      (gives_more (blanks s.admissions) b.done.given s.admissions (as_many s.admissions))).shows in
      remembers_kept s t m n name id h.remembers at names named (no_earlier texts step)
      (λ gone. still_known id t n.system shows kept.system.agrees some gone)
      (λ j ne gone. others_known texts step j ne gone)
      (λ j low gone. stays_unknown texts indexes step (Remove name) s g b.done.accepted j low gone)
      (λ j low gone. counts_removed name s g b.done.accepted step (text_in texts name) j)

  pub begun_answers : (answer : Result SystemRemoval Refusal) → n.names ≡ noted name (news (BeginRemove id answer)) m.names
      → Changes raise_tables m.system (BeginRemove id answer) n.system → Begun name answer s n.system
      → Answers (Remove name) answer s n
  begun_answers (Ok (Done receipt)) names did b =
      let own = subst (λ k. BeginsRemoval raise_tables k (Ok (Done receipt)) m.system n.system) (sym is_id) did in
      accepts (Remove name) s m n h kept b.done clock tally
      (leaves (ap numbers_of names ∙ numbers_kept m.names name (Removed receipt)
      (ap Some (receipt_removed id receipt m.system n.system did) ∙ sym at)))
      (done_remembers receipt names own b)
  begun_answers (Ok (Kept waits)) names (inl (e, some, said, same)) b = absurd (let no : Ok (Kept waits) ≡ Err e = said in cc)
  begun_answers (Ok (Kept waits)) names (inr (none, (way, ns, each_one, some, sums))) b =
      accepts (Remove name) s m n h kept b.done clock tally
      (leaves (ap numbers_of names ∙ numbers_kept m.names name (Leaving id) (sym at))) (kept_remembers waits names b some)
  begun_answers (Err e) names did b = (
    b.0,
    refuses s m n h kept b.1 clock tally (record { names = names; named = named }),
  )

pub begun_says : (name : ℕ) (removal : SystemRemoval) (s : State) (w : SystemView Tables) → Begun name (Ok removal) s w
    → (texts : List (List ℕ)) (indexes : ℕ → ℕ) (step : ℕ)
    → (does plain texts indexes step (Remove name) s).line ≡ begun_line step (text_in texts name) removal
begun_says name (Done receipt) s w b texts indexes step = b.line texts indexes step
begun_says name (Kept waits) s w b texts indexes step = b.line texts indexes step

abbrev refused_as : Refusal → Result (Unit {0}) Refusal
refused_as e = Err e

-- the word, where the removal began, and where it was refused
pub remove_taken : (texts : List (List ℕ)) (step name : ℕ) (removal : SystemRemoval) (line : List ℕ) (s : State) (n : Machine)
    → Accepts (Remove name) s n
    → ((indexes : ℕ → ℕ) → (does plain texts indexes step (Remove name) s).line ≡ begun_line step (text_in texts name) removal)
    → line ≡ begun_line step (text_in texts name) removal → TakesWord texts step (Remove name) line s n
remove_taken texts step name removal line s n done says same =
    done_takes texts step (Remove name) line s n done (λ indexes. same ∙ sym (says indexes))

pub remove_refused : (texts : List (List ℕ)) (step name : ℕ) (e : Refusal) (line : List ℕ) (s : State) (n : Machine)
    → IsRefused e (refusal_of plain (Remove name) s) × ShowsMachine s n → refused_as e ≢ refused_as Memory
    → line ≡ refused step (number_of e)
    → TakesWord texts step (Remove name) line s n
remove_refused texts step name e line s n (why, h) other same =
    refused_takes texts step (Remove name) line e s n
    (truly_refused e (refusal_of plain (Remove name) s) (λ memory. other (ap refused_as memory)) why) same h
