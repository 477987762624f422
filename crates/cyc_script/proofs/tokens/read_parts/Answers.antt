use Rattle.std.proofs.Common.{rules, ◌≡◌, ◌-◌, ◌++◌, ◌∷◌, [], length, map, Some, None, Err, ap, ◌∙◌, arith}
use Rattle.json.specs.Json.{value, parse_map, after_end_array}
use Rattle.serde_json.specs.Read.{of_json, converted}
use Rattle.serde_json.specs.View.{items_of}
use Rattle.cyc_script.specs.declared.stop.Stop.TheVariants as Stop
use Rattle.cyc_script.specs.Parts.{data_of}
use Rattle.cyc_script.specs.Tokens.{HasPart}
use Rattle.cyc_script.proofs.Grammar.{item_read, item_none, items_over, shorter}
use Rattle.cyc_script.proofs.Parts.{items_before, items_all, none_before, one_more_item}
use Rattle.cyc_script.proofs.Plain.{part_left, part_pushed, reads_as}
use Rattle.cyc_script.proofs.tokens.read_parts.Goals as goal

pub loop-reader-init : goal.loop-reader-init
loop-reader-init c = (
  length c.args.reader.now,
  [],
  omega arith,
  none_before _,
  ap (map data_of) c.requires,
)

pub loop-reader-smaller-in-Continue-branch-2 : goal.loop-reader-smaller-in-Continue-branch-2
loop-reader-smaller-in-Continue-branch-2 c =
    let l = c.loop-reader in
    let going : (after_end_array l.reader ≡ None) × (c.take_end_array.new.self ≡ l.reader) = grind arith in
    let r = c.next_part.new.reader in
    let has : HasPart 124 l.reader c.in_ok-part.part r = rw (← going.1) c.in_ok-part.ensures in
    let less = shorter 124 l.reader r has.0 has.1 in
    omega (arith, less)

pub loop-reader-smaller : goal.loop-reader-smaller
loop-reader-smaller c =
    let l = c.loop-reader in
    let going : (after_end_array l.reader ≡ None) × (c.take_end_array.new.self ≡ l.reader) = grind arith in
    let r = c.next_part.new.reader in
    let has : HasPart 124 l.reader c.in_ok-part.part r = rw (← going.1) c.in_ok-part.ensures in
    let less = shorter 124 l.reader r has.0 has.1 in
    omega (arith, less)

pub loop-reader-preserved-in-Continue-branch-2 : goal.loop-reader-preserved-in-Continue-branch-2
loop-reader-preserved-in-Continue-branch-2 c =
    let p = value 124 in
    let l = c.loop-reader in
    let n = l.invariant.0 in
    let front = l.invariant.1 in
    let going : (after_end_array l.reader ≡ None) × (c.take_end_array.new.self ≡ l.reader) = grind arith in
    let r = c.next_part.new.reader in
    let has : HasPart 124 l.reader c.in_ok-part.part r = rw (← going.1) c.in_ok-part.ensures in
    let less = shorter 124 l.reader r has.0 has.1 in
    let turn = item_read p n l.reader r has.0 (omega (arith, l.invariant.2, less)) going.0 has.1 in (
      n - 1,
      front ++ has.0 ∷ [],
      omega (arith, l.invariant.2, less),
      l.invariant.3 ∙ ap (parse_map (items_before front)) turn ∙ one_more_item front has.0 _,
      ap (map data_of) c.in_ok-push.ensures.items
          ∙ part_pushed l.parts.items front c.in_ok-part.part has.0 l.invariant.4 has.2 (grind arith),
    )

pub loop-reader-preserved : goal.loop-reader-preserved
loop-reader-preserved c =
    let p = value 124 in
    let l = c.loop-reader in
    let n = l.invariant.0 in
    let front = l.invariant.1 in
    let going : (after_end_array l.reader ≡ None) × (c.take_end_array.new.self ≡ l.reader) = grind arith in
    let r = c.next_part.new.reader in
    let has : HasPart 124 l.reader c.in_ok-part.part r = rw (← going.1) c.in_ok-part.ensures in
    let less = shorter 124 l.reader r has.0 has.1 in
    let turn = item_read p n l.reader r has.0 (omega (arith, l.invariant.2, less)) going.0 has.1 in (
      n - 1,
      front ++ has.0 ∷ [],
      omega (arith, l.invariant.2, less),
      l.invariant.3 ∙ ap (parse_map (items_before front)) turn ∙ one_more_item front has.0 _,
      part_left l.parts.items front c.in_ok-part.part has.0 l.invariant.4 has.2 (grind arith),
    )

pub returns-in_err-part-clause-denied : goal.returns-in_err-part-clause-denied
returns-in_err-part-clause-denied c =
    let p = value 124 in
    let l = c.loop-reader in
    let going : (after_end_array l.reader ≡ None) × (c.take_end_array.new.self ≡ l.reader) = grind arith in
    let here : converted of_json (value 124 l.reader) ≡ None = rw (← going.1) c.in_err-part.ensures in
    let none = l.invariant.3 ∙ ap (parse_map (items_before l.invariant.1)) (item_none p l.invariant.0 l.reader going.0 here) in
    let same : c.from_residual.result ≡ Err Stop.NoJson = search rules in
    rw same none

pub returns-clause-value : goal.returns-clause-value
returns-clause-value c =
    let l = c.loop-reader in
    let r = c.take_end_array.new.self in
    let front = l.invariant.1 in
    let over = items_over (value 124) l.invariant.0 l.reader r l.invariant.2 (grind arith) in (
      items_of front,
      l.invariant.3 ∙ ap (parse_map (items_before front)) over ∙ ap (λ ds. Some (ds, r)) (items_all front),
      reads_as front l.parts.items l.invariant.4,
    )
