-- Lists that are laid piece after piece.
use Rattle.std.proofs.Common.{◌≡◌, ℕ, length, List, [], ◌∷◌, ◌++◌, sym, ap, ◌∙◌, flat_map}
use Rattle.std.proofs.lemmas.List.{append_assoc}
use Rattle.std.proofs.lemmas.List.Concat.{flat_map-append}
use Rattle.cyc_workers.specs.declared.cpu.Handlers.{Handlers}
use Rattle.cyc_thread_rings.specs.declared.levels.Levels.{Levels}
use Rattle.cyc_thread_rings.specs.Laid.{two, three}
use Rattle.cyc_thread_rings.proofs.Each.{taken_none}

-- an iterator gave none, and each that it gave before is laid
pub laid_all : {S Y : Type 0} (q : S → List Y) (ws : List Y) (ys rest all : List S) (n : ℕ) → n ≡ 0 → n ≡ length rest
    → ys ++ rest ≡ all → ws ≡ flat_map q ys → ws ≡ flat_map q all
laid_all q ws ys rest all n e f g m = m ∙ ap (λ (zs : List _). flat_map q zs) (taken_none ys rest all n e f g)

pub two_more : {T : Type 0} (ws ws1 ws2 : List T) (ys : List (Levels T)) (y : Levels T) → ws1 ≡ ws ++ y.lock ∷ []
    → ws2 ≡ ws1 ++ y.low ∷ [] → ws ≡ flat_map two ys → ws2 ≡ flat_map two (ys ++ y ∷ [])
two_more ws ws1 ws2 ys y e f m = f ∙ ap (λ (zs : List _). zs ++ y.low ∷ []) e ∙ append_assoc ws (y.lock ∷ []) (y.low ∷ [])
    ∙ ap (λ (zs : List _). zs ++ two y) m ∙ sym (flat_map-append two ys (y ∷ []))

pub three_more : {C : Type 0} (ws ws1 ws2 ws3 : List C) (hs : List (Handlers C)) (h : Handlers C) → ws1 ≡ ws ++ h.high ∷ []
    → ws2 ≡ ws1 ++ h.lock ∷ [] → ws3 ≡ ws2 ++ h.low ∷ [] → ws ≡ flat_map three hs → ws3 ≡ flat_map three (hs ++ h ∷ [])
three_more ws ws1 ws2 ws3 hs h e f g m = g ∙ ap (λ (zs : List _). zs ++ h.low ∷ []) f
    ∙ append_assoc ws1 (h.lock ∷ []) (h.low ∷ []) ∙ ap (λ (zs : List _). zs ++ h.lock ∷ h.low ∷ []) e
    ∙ append_assoc ws (h.high ∷ []) (h.lock ∷ h.low ∷ []) ∙ ap (λ (zs : List _). zs ++ three h) m
    ∙ sym (flat_map-append three hs (h ∷ []))

-- an iterator gave three elements
pub three_given : {C : Type 0} (hs hs' : List (Handlers C)) (rest rest1 rest2 rest3 all : List C) (h : Handlers C)
    → hs' ≡ hs ++ h ∷ [] → rest ≡ h.high ∷ rest1 → rest1 ≡ h.lock ∷ rest2 → rest2 ≡ h.low ∷ rest3
    → flat_map three hs ++ rest ≡ all → flat_map three hs' ++ rest3 ≡ all
three_given hs hs' rest rest1 rest2 rest3 all h e a b c m = ap (λ (zs : List _). flat_map three zs ++ rest3) e
    ∙ ap (λ (zs : List _). zs ++ rest3) (flat_map-append three hs (h ∷ []))
    ∙ append_assoc (flat_map three hs) (three h) rest3
    ∙ ap (λ (zs : List _). flat_map three hs ++ zs)
    (sym (a ∙ ap (λ (zs : List _). h.high ∷ zs) (b ∙ ap (λ (zs : List _). h.lock ∷ zs) c))) ∙ m
