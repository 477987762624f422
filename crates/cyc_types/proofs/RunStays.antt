-- What becomes of a stay over a run in which no stay of its id begins or ends: it goes on, with the raises and losses of the run.
use Rattle.std.proofs.Common.{◌≡◌, ℕ, ◌+◌, eqb, cond, Bool, true, false, refl, sym, ap, subst, arith}
use Rattle.std.specs.Prelude.{Option, Some, None}
use Rattle.cyc_types.specs.Firing.{FiringView, FiringCall, Admits, Loads, Raises, Marks, Polls, Expands, Looks, Learns, Stay}
use Rattle.cyc_types.specs.Firing.{edited, edit_stay}
use Rattle.cyc_types.specs.Runs.{raises_in_call, losses_in_call, stay_changes_of}
use Rattle.cyc_types.specs.declared.firing.Raised.TheVariants.{First, More, Lost}

-- a stay goes on with so many raises and losses more
abbrev pub GoesOn : Stay → ℕ → ℕ → Option Stay → Type 0
GoesOn s raised lost o = (t : Stay) × (o ≡ Some t) × (t.index ≡ s.index) × (t.sent ≡ s.sent + raised) × (t.lost ≡ s.lost + lost)

-- a change of one stay that adds a raise and a loss, or none
change : (b : Bool) (f : Stay → Stay) (o : Option Stay) (s : Stay) (n m : ℕ) → o ≡ Some s → ((f s).index ≡ s.index)
    × ((f s).sent ≡ s.sent + n) × ((f s).lost ≡ s.lost + m) →
    GoesOn s (cond b n 0) (cond b m 0) (cond b (edited f o) o)
change true f o s n m here adds = (f s, ap (edited f) here, adds.0, adds.1, adds.2)
change false f o s n m here adds = (s, here, refl, omega arith, omega arith)

-- a change at another id
other : (b : Bool) (f : Option Stay → Option Stay) (o : Option Stay) (s : Stay) → ◌≡◌ {A = ℕ} (cond {A = ℕ} b 1 0) 0 → o ≡ Some s
    → GoesOn s 0 0 (cond b (f o) o)
other true f o s e here = absurd (omega (arith, e))
other false f o s e here = (s, here, refl, omega arith, omega arith)

-- an edit of one stay
edit : (id j : ℕ) (f : Stay → Stay) (v w : FiringView) (s : Stay) (n m : ℕ) → w ≡ edit_stay j f v → v.stays id ≡ Some s →
    ((f s).index ≡ s.index) × ((f s).sent ≡ s.sent + n) × ((f s).lost ≡ s.lost + m)
    → GoesOn s (cond (eqb id j) n 0) (cond (eqb id j) m 0) (w.stays id)
edit id j f v w s n m is here adds = subst (λ (x : FiringView). GoesOn s (cond (eqb id j) n 0) (cond (eqb id j) m 0) (x.stays id))
    (sym is) (change (eqb id j) f (v.stays id) s n m here adds)

-- a call that leaves the stays alone, but for what was seen
zero_case : (b : Bool) → ◌≡◌ {A = ℕ} (cond {A = ℕ} b 0 0) 0
zero_case true = refl
zero_case false = refl

look : (id j pend : ℕ) (v w : FiringView) (s : Stay) → w ≡ edit_stay j (λ s. record s { seen = pend }) v → v.stays id ≡ Some s
    → GoesOn s 0 0 (w.stays id)
look id j pend v w s is here =
    let went = edit id j (λ s. record s { seen = pend }) v w s 0 0 is here (refl, omega arith, omega arith) in
    let none = zero_case (eqb id j) in
    (went.0, went.1, went.2, omega (arith, went.3, none), omega (arith, went.4, none))

-- one call
pub learns_stay : (id : ℕ) (v w : FiringView) (call : FiringCall) (s : Stay) → Learns v call w → stay_changes_of id call ≡ 0
    → v.stays id ≡ Some s → GoesOn s (raises_in_call id call) (losses_in_call id call) (w.stays id)
learns_stay id v w (Admits j index) s l e here =
    subst (λ (x : FiringView). GoesOn s 0 0 (x.stays id)) (sym l)
    (other (eqb id j) (λ _. Some record { index = index; sent = 0; lost = 0; seen = 0 }) (v.stays id) s e here)
learns_stay id v w (Loads j pend) s l e here = look id j pend v w s l.1 here
learns_stay id v w (Raises j First) s l e here =
    let went = edit id j (λ s. record s { sent = s.sent + 1; seen = 0 + 1 }) v w s 1 0 l here (refl, refl, omega arith) in
    let none = zero_case (eqb id j) in (went.0, went.1, went.2, went.3, omega (arith, went.4, none))
learns_stay id v w (Raises j More) s l e here =
    let went = edit id j (λ s. record s { sent = s.sent + 1; seen = l.0 + 1 }) v w s 1 0 l.4 here (refl, refl, omega arith) in
    let none = zero_case (eqb id j) in (went.0, went.1, went.2, went.3, omega (arith, went.4, none))
learns_stay id v w (Raises j Lost) s l e here =
    edit id j (λ s. record s { sent = s.sent + 1; lost = s.lost + 1; seen = v.ceiling }) v w s 1 1 l.1 here (refl, refl, refl)
learns_stay id v w (Marks j pend) s l e here =
    subst (λ (x : FiringView). GoesOn s 0 0 (x.stays id)) (sym l.1)
    (look id j pend v (edit_stay j (λ s. record s { seen = pend }) v) s refl here)
learns_stay id v w (Polls j None) s l e here = look id j l.0 v w s l.3 here
learns_stay id v w (Polls j (Some counts)) s l e here =
    subst (λ (x : FiringView). GoesOn s 0 0 (x.stays id)) (sym l.1) (other (eqb id j) (λ _. None) (v.stays id) s e here)
learns_stay id v w (Expands bank) s l e here =
    subst (λ (x : FiringView). GoesOn s 0 0 (x.stays id)) (sym l) (s, here, refl, omega arith, omega arith)
learns_stay id v w (Looks answer) s l e here =
    subst (λ (x : FiringView). GoesOn s 0 0 (x.stays id)) (sym l.1) (s, here, refl, omega arith, omega arith)
