-- A look-up among rising ids that stand in two runs: it halves over the run that can have the id.
use Rattle.std.proofs.Common.{◌≡◌, ◌≢◌, ℕ, ◌+◌, ◌-◌, ◌<◌, ◌≤◌, List, ◌++◌, length, get_or, refl, ap, ◌∙◌, arith}
use Rattle.std.specs.List.{All}
use Rattle.std.proofs.lemmas.List.{length-append, get_or_append_left, get_or-append-add}
use Rattle.cyc_finder.specs.Sorted.{Rises, IsAt, IsGap}
use Rattle.cyc_places.specs.declared.records.RecordId.{RecordId}
use Rattle.cyc_places.proofs.Edits.{id_of}

-- the ids of this run stand from that position on, and no other can be this one
pub record IsRunOf (ids run : List RecordId) (wanted before : ℕ) : Type 0 where
  pub fits : before + length run ≤ length ids
  pub here : (j k : ℕ) (d : RecordId) → k ≡ before + j → j < length run → get_or ids k d ≡ get_or run j d
  pub below : (j : ℕ) (d : RecordId) → j < before → (get_or ids j d).id < wanted
  pub above : (j : ℕ) (d : RecordId) → before + length run ≤ j → j < length ids → wanted < (get_or ids j d).id

module _ (front back : List RecordId) (rises : Rises id_of (front ++ back)) (wanted : ℕ) where
  pub front_run : ((d : RecordId) → 0 < length back → wanted < (get_or back 0 d).id) → IsRunOf (front ++ back) front wanted 0
  front_run less = let l = length-append front back in record {
    fits = omega (arith, l);
    here = λ j k d is low. ap (λ i. get_or (front ++ back) i d) (let e : k ≡ j = omega (arith, is) in e)
        ∙ get_or_append_left front back d j low;
    below = λ j d low. absurd (omega (arith, low));
    above = λ j d past low.
        let first = less d (omega (arith, l, past, low)) in let seam = ap id_of (get_or-append-add front back 0 d) in
        let up = rises (length front + 0) j d in
        let same : (length front + 0 ≡ j) → (get_or (front ++ back) (length front + 0) d).id ≡ (get_or (front ++ back) j d).id
        = λ e. ap (λ k. (get_or (front ++ back) k d).id) e in
        grind (arith, first, seam, up, same, past, low);
  }

  pub back_run : 0 < length back → ((d : RecordId) → (get_or back 0 d).id ≤ wanted)
      → IsRunOf (front ++ back) back wanted (length front)
  back_run filled most = let l = length-append front back in record {
    fits = omega (arith, l);
    here = λ j k d is low. ap (λ i. get_or (front ++ back) i d) is ∙ get_or-append-add front back j d;
    below = λ j d low.
        let first = most d in let seam = ap id_of (get_or-append-add front back 0 d) in
        let up = rises j (length front + 0) d (omega (arith, low)) (omega (arith, l, filled)) in
        omega (arith, first, seam, up);
    above = λ j d past low. absurd (omega (arith, l, past, low));
  }

module _ (ids run : List RecordId) (wanted before : ℕ) (is : IsRunOf ids run wanted before) where
  pub run_rises : Rises id_of ids → Rises id_of run
  run_rises rises i j d less low =
      let fit = is.fits in
      let a = ap id_of (is.here i (before + i) d refl (omega (arith, less, low))) in
      let b = ap id_of (is.here j (before + j) d refl low) in
      let up = rises (before + i) (before + j) d (omega (arith, less)) (omega (arith, fit, low)) in omega (arith, a, b, up)

  pub found_in_run : (position : ℕ) → IsAt id_of run wanted position → IsAt id_of ids wanted (before + position)
  found_in_run position at = let fit = is.fits in let low = at.in_range in record {
    in_range = omega (arith, fit, low);
    has_id = λ d. ap id_of (is.here position (before + position) d refl low) ∙ at.has_id d;
  }

  pub absent_in_run : (position : ℕ) → IsGap id_of run wanted position → All (λ (n : RecordId). n.id ≢ wanted) ids
  absent_in_run position gap k d low same =
      let under = is.below k d in let over = is.above k d in let j = k - before in
      let here : before ≤ k → k < before + length run → (get_or ids k d).id ≡ (get_or run j d).id
      = λ le less. ap id_of (is.here j k d (omega (arith, le)) (omega (arith, le, less))) in
      let left = gap.smaller_before j d in let right = gap.greater_after j d in
      grind (arith, under, over, here, left, right, low, same)
