use Rattle.cyc_border.proofs.HandedOut.{counted}
use Rattle.cyc_border.proofs.parts.handed_out_law.Goals as goal

pub returns : goal.returns
returns g c now later id stop answer calls high high' high'' u v w x soon after distinct sound out stopped rests way last awake =
    counted g.R.Raise now later id stop answer calls high high' high'' u v w x soon after distinct sound out stopped rests way
    last awake
