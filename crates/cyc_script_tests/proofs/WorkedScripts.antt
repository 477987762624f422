-- What the definition of a script gives for worked scripts, computed.
use Rattle.std.proofs.Common.{◌≡◌, [], ◌∷◌, Ok, Err, refl}
use Rattle.std.specs.Prelude.{⊤, codes, pos}
use Rattle.std.specs.Str.{is_utf8, chars}
use Rattle.std.specs.Str.Lossy.{utf8_valid_len}
use Rattle.serde_json.proofs.OnLiterals.{serde_json_on_literals}
use Rattle.cyc_types.specs.declared.level.Level.TheVariants as level
use Rattle.cyc_types.specs.declared.level.Soft.TheVariants as soft
use Rattle.cyc_types.specs.declared.refusal.Refusal.TheVariants.{ScriptSyntax, ScriptShape, TimeBack, NameTwice}
use Rattle.cyc_script.specs.declared.step.Step.TheVariants.{Add, Advance, Softint}
use Rattle.cyc_script.specs.Parameters.{is_name_byte, whole_of, moment_of, unsigned_of, name_of, level_in_value, soft_of}
use Rattle.cyc_script.specs.Script.{script_of, json_of, content_of, has_keys, is_key, cpus_of, ceiling_of, values_of}
use Rattle.cyc_script.specs.Steps.{step_of, steps_of}
use Rattle.cyc_script.specs.Words.{form_of_value, form_of_items, form_of, add_of, advance_of, softint_of}

-- what unfolds to compute a script
unfoldable on_literals : ⊤
unfolding serde_json_on_literals utf8_valid_len is_utf8 chars script_of json_of content_of has_keys is_key cpus_of ceiling_of
    values_of steps_of step_of form_of_value form_of_items form_of add_of advance_of softint_of is_name_byte whole_of moment_of
    unsigned_of name_of level_in_value soft_of
on_literals = tt

first_script : script_of (codes "{\"cpus\":1,\"steps\":[[\"add\",\"a\",\"low\",5,10],[\"advance\",5],[\"softint\",0,\"low\",8]]}")
    ≡ Ok (record {
      cpus = 1;
      ceiling = 4294967295;
      names = codes "a" ∷ [];
      steps =
          Add (record { name = 0; level = level.Low; start = pos 5; interval = pos 10 }) ∷ Advance 5 ∷ Softint
          (record { cpu = 0; level = soft.Low; budget = 8 }) ∷ [];
    })
unfolding on_literals
first_script = refl

ceiling_script : script_of
    (codes "{\"cpus\":1,\"ceiling\":2,\"steps\":[[\"add\",\"a\",\"low\",1,1],[\"advance\",5],[\"softint\",0,\"low\",8]]}")
    ≡ Ok (record {
      cpus = 1;
      ceiling = 2;
      names = codes "a" ∷ [];
      steps =
          Add (record { name = 0; level = level.Low; start = pos 1; interval = pos 1 }) ∷ Advance 5 ∷ Softint
          (record { cpu = 0; level = soft.Low; budget = 8 }) ∷ [];
    })
unfolding on_literals
ceiling_script = refl

no_json : script_of (codes "{\"cpus\":1,\"steps\":[") ≡ Err ScriptSyntax
unfolding on_literals
no_json = refl

no_cpus : script_of (codes "{\"cpus\":0,\"steps\":[]}") ≡ Err (ScriptShape 0)
unfolding on_literals
no_cpus = refl

back_in_time : script_of (codes "{\"cpus\":1,\"steps\":[[\"advance\",5],[\"advance\",4]]}") ≡ Err (TimeBack 2)
unfolding on_literals
back_in_time = refl

the_same_name_twice : script_of (codes "{\"cpus\":1,\"steps\":[[\"add\",\"a\",\"low\",1,1],[\"add\",\"a\",\"low\",1,1]]}")
    ≡ Err (NameTwice 2)
unfolding on_literals
the_same_name_twice = refl

an_advance_to_never : script_of (codes "{\"cpus\":1,\"steps\":[[\"advance\",9223372036854775807]]}") ≡ Err (ScriptShape 1)
unfolding on_literals
an_advance_to_never = refl
