use Rattle.std.proofs.Common.{◌≡◌, ◌+◌, ◌-◌, length, drop, ap, ◌∙◌, arith, length-drop}
use Rattle.std.proofs.lemmas.List.Edits.{length-paste}
use Rattle.cyc_finder.proofs.Coming.{moved_up}
use Rattle.cyc_finder.proofs.slots.move_up.Goals as goal

pub returns-clause-items : goal.returns-clause-items
returns-clause-items c = let xs = c.args.slots.now.items in let mid = c.copy_within.new.self.items in
    let p = c.args.position in let g = c.args.gone in
    let up = c.requires.up in let low = c.requires.within in
    let long : length mid ≡ length xs = ap length c.copy_within.ensures.items
    ∙ length-paste xs (p + 1) (drop p xs) (g - p) (omega (arith, up, low))
    (let l = length-drop p xs in omega (arith, l, up, low)) in
    let (copied, below, behind) = c.copy_within.ensures.by_index in
    moved_up xs mid p g c.args.slot up low long copied below behind
