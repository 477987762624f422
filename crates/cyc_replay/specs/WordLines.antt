-- The lines of words that make a call of the system.
use Rattle.std.specs.Prelude.{ℕ, ◌-◌, List, slice_set, Result, Ok, Err}
use Rattle.cyc_types.specs.declared.refusal.Refusal.{Refusal}
use Rattle.cyc_types.specs.declared.refusal.Refusal.TheVariants.{Left}
use Rattle.cyc_types.specs.Refusals.{number_of}
use Rattle.cyc_text.specs.Lines.{accepted, refused, kept, removed, moved, cyclics_left}
use Rattle.cyc_script.specs.declared.step.Step.{Step}
use Rattle.cyc_script.specs.declared.step.Step.TheVariants as steps
use Rattle.cyc_system.specs.SystemRemoval.{SystemRemoval}
use Rattle.cyc_system.specs.SystemRemoval.TheVariants as removal
use Rattle.cyc_model.specs.Script.{text_in}
use Rattle.cyc_words.specs.declared.answer.WordAnswer.{WordAnswer}
use Rattle.cyc_words.specs.declared.answer.WordAnswer.TheVariants.{Added, Done, Removing, Juggled}

-- the name that a word gives an id, or whose cyclic it removes
abbrev pub name_in_word : Step → ℕ
name_in_word (steps.Add a) = a.name
name_in_word (steps.Omni a) = a.name
name_in_word (steps.Remove name) = name
name_in_word x = 0

-- the line of a removal that began: it has answered, with all calls of the cyclic, or waits for those that are kept
abbrev pub begun_line : ℕ → List ℕ → SystemRemoval → List ℕ
begun_line step text (removal.Done receipt) = removed step text (receipt.sent - receipt.lost)
begun_line step text (removal.Kept waits) = kept step waits

-- the line of a refusal: that of an offline tells which cyclics are left
abbrev pub why_line : Step → Refusal → ℕ → List ℕ
why_line (steps.Offline n) (Left report) step = cyclics_left step report
why_line x e step = refused step (number_of e)

-- the line of a word that answered this
abbrev pub word_line : List (List ℕ) → ℕ → Step → Result WordAnswer Refusal → List ℕ
word_line texts step x (Ok (Added id)) = accepted step
word_line texts step x (Ok (Removing begun)) = begun_line step (text_in texts (name_in_word x)) begun
word_line texts step x (Ok (Juggled report)) = moved step report
word_line texts step x (Ok Done) = accepted step
word_line texts step x (Err e) = why_line x e step

-- the name of each id, where a word for this name answered this
abbrev pub named_by : ℕ → Result WordAnswer Refusal → List ℕ → List ℕ
named_by name (Ok (Added id)) named = slice_set named (id - 1) name
named_by name answer named = named
