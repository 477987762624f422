use Rattle.cyc_script.proofs.Forms.{reprogram_three, reprogram_two, three_parts, two_parts}
use Rattle.cyc_script.proofs.words.reprogram.Goals as goal

pub returns-in-len2 : goal.returns-in-len2
returns-in-len2 c =
    let two = two_parts c.args.parts.now c.in-len2.len_at_least c.in-len2.len_below in
    rw (two, reprogram_two) c.reprogram_with.ensures

pub returns-in-len3 : goal.returns-in-len3
returns-in-len3 c =
    let three = three_parts c.args.parts.now c.in-len3.len_at_least c.in-len3.len_below in
    rw (three, reprogram_three) c.reprogram_with-in-len3.ensures
