-- What each name has in a run, by the ids that were given and by the receipts so far.
use Rattle.std.proofs.Common.{◌≡◌, ◌≢◌, ◌∙◌, ℕ, ◌<◌, ◌≤◌, ◌⊎◌, inl, inr, List, [], ◌∷◌, ◌++◌, Option, Some, None, length, get_or}
use Rattle.std.proofs.Common.{slice_set, refl, sym, ap, subst, arith, replicate}
use Rattle.std.proofs.lemmas.List.{length-set, get_or-set_same, get_or-set_other, get_or-replicate, length-replicate, get_or_past}
use Rattle.std.proofs.lemmas.Bool.{cases_lt}
use mathlib.Core.Logic.{dite}
use native.Mathlib.Decide.{ℕ_discrete}
use Rattle.cyc_types.specs.declared.receipt.Receipt.{Receipt}
use Rattle.cyc_threads.proofs.Spots.{same_some, none_some}
use Rattle.cyc_system_rings.specs.Leading.{LeadCall}
use Rattle.cyc_system_rings.specs.Rings.{receipt_of, receipt_in, first_ring}
use Rattle.cyc_words.specs.declared.named.Named.{Named}
use Rattle.cyc_words.specs.declared.named.Named.TheVariants.{Nothing, Cyclic, Leaving, Removed}
use Rattle.cyc_words.specs.Names.{named_at, cyclic_id}

-- receipts of two runs of calls
pub receipt_on : (id : ℕ) (xs ys : List LeadCall) → receipt_in id (xs ++ ys) ≡ first_ring (receipt_in id xs) (receipt_in id ys)
receipt_on id [] ys = refl
receipt_on id (x ∷ xs) ys = ap (first_ring (receipt_of id x)) (receipt_on id xs ys)
    ∙ by (receipt_of id x) (receipt_in id xs) (receipt_in id ys)
  where
    by : (a b c : Option Receipt) → first_ring a (first_ring b c) ≡ first_ring (first_ring a b) c
    by None b c = refl
    by (Some r) b c = refl

one_none : (id : ℕ) (c : LeadCall) → receipt_of id c ≡ None → receipt_in id (c ∷ []) ≡ None
one_none id c e = ap (λ o. first_ring o None) e

pub receipt_kept : (id : ℕ) (xs ys : List LeadCall) (r : Receipt) → receipt_in id xs ≡ Some r → receipt_in id (xs ++ ys) ≡ Some r
receipt_kept id xs ys r e = receipt_on id xs ys ∙ ap (λ o. first_ring o (receipt_in id ys)) e

pub receipt_none : (id : ℕ) (xs ys : List LeadCall) → receipt_in id xs ≡ None → receipt_in id ys ≡ None
    → receipt_in id (xs ++ ys) ≡ None
receipt_none id xs ys a b = receipt_on id xs ys ∙ ap (λ o. first_ring o (receipt_in id ys)) a ∙ b

-- what a name has is what the calls so far told of the id that it was given
abbrev pub Fits : Option ℕ → List LeadCall → Named → Type 0
Fits given way Nothing = given ≡ None
Fits given way (Cyclic id) = (given ≡ Some id) × (receipt_in id way ≡ None)
Fits given way (Leaving id) = (given ≡ Some id) × (receipt_in id way ≡ None)
Fits given way (Removed receipt) = (id : ℕ) × (given ≡ Some id) × (receipt_in id way ≡ Some receipt)

-- of so many names, with the last id that was given
pub record Holds (many : ℕ) (given : ℕ → Option ℕ) (way : List LeadCall) (names : List Named) (last : ℕ) : Type 0 where
  pub long : length names ≡ many
  pub fits : (name : ℕ) → name < length names → Fits (given name) way (named_at names name)
  pub low : (name id : ℕ) → given name ≡ Some id → id ≤ last
  pub apart : (a b id : ℕ) → given a ≡ Some id → given b ≡ Some id → a ≡ b
  pub new : (id : ℕ) → last < id → receipt_in id way ≡ None

pub holds_first : (n last : ℕ) → Holds n (λ name. None) [] (replicate n Nothing) last
holds_first n last = record {
  long = length-replicate n Nothing;
  fits = λ name low. subst (λ x. Fits None [] x) (sym (get_or-replicate n name Nothing Nothing (within name low))) refl;
  low = λ name id e. absurd (none_some e);
  apart = λ a b id e f. absurd (none_some e);
  new = λ id less. refl;
}
  where
    within : (name : ℕ) → name < length (replicate n Nothing) → name < n
    within name low = subst (λ k. name < k) (length-replicate n Nothing) low

pub holds_as : (many : ℕ) (g h : ℕ → Option ℕ) (way : List LeadCall) (names : List Named) (last : ℕ) → ((n : ℕ) → h n ≡ g n)
    → Holds many g way names last → Holds many h way names last
holds_as many g h way names last same k =
    subst (λ (f : ℕ → Option ℕ). Holds many f way names last) (λ i n. sym (same n) i) k

-- a call that tells no id of a receipt, and changes no name
module _ (many : ℕ) (g : ℕ → Option ℕ) (way : List LeadCall) (names : List Named) (last : ℕ)
    (k : Holds many g way names last) where
  fits_on : (o : Option ℕ) (named : Named) (c : LeadCall) → ((id : ℕ) → o ≡ Some id → receipt_of id c ≡ None) → Fits o way named
      → Fits o (way ++ c ∷ []) named
  fits_on o Nothing c none e = e
  fits_on o (Cyclic id) c none (e, r) = (e, receipt_none id way (c ∷ []) r (one_none id c (none id e)))
  fits_on o (Leaving id) c none (e, r) = (e, receipt_none id way (c ∷ []) r (one_none id c (none id e)))
  fits_on o (Removed receipt) c none (id, e, r) = (id, e, receipt_kept id way (c ∷ []) receipt r)

  pub holds_quiet : (c : LeadCall) (names' : List Named) (last' : ℕ) → ((id : ℕ) → receipt_of id c ≡ None) → names' ≡ names
      → last ≤ last' → Holds many g (way ++ c ∷ []) names' last'
  holds_quiet c names' last' none same grows = subst (λ (l : List Named). Holds many g (way ++ c ∷ []) l last') (sym same)
      (record {
        long = k.long;
        fits = λ name low. fits_on (g name) (named_at names name) c (λ id e. none id) (k.fits name low);
        low = λ name id e. (let a = k.low name id e in omega (arith, a, grows));
        apart = k.apart;
        new = λ id less. receipt_none id way (c ∷ []) (k.new id (omega (arith, less, grows))) (one_none id c (none id));
      })

  -- a name gets an id
  pub holds_given : (h : ℕ → Option ℕ) (c : LeadCall) (name id : ℕ) (names' : List Named) (last' : ℕ)
      → ((own : ℕ) → receipt_of own c ≡ None)
      → names' ≡ slice_set names name (Cyclic id) → last < id → id ≤ last' → h name ≡ Some id → ((m : ℕ) → m ≢ name → h m ≡ g m)
      → Holds many h (way ++ c ∷ []) names' last'
  holds_given h c name id names' last' none is less grows here there =
      subst (λ (l : List Named). Holds many h (way ++ c ∷ []) l last') (sym is) (record {
        long = length-set names name (Cyclic id) ∙ k.long;
        fits = fits;
        low = λ m own e. dite (ℕ_discrete m name)
            (λ same. (let a = same_some (sym here ∙ ap h (sym same) ∙ e) in omega (arith, a, grows)))
            (λ ne. (let a = k.low m own (sym (there m ne) ∙ e) in omega (arith, a, less, grows)));
        apart = λ a b own e f. dite (ℕ_discrete a name)
            (λ same. dite (ℕ_discrete b name) (λ also. same ∙ sym also)
            (λ ne. absurd (clash a b own same ne e f)))
            (λ ne. dite (ℕ_discrete b name) (λ also. absurd (clash b a own also ne f e))
            (λ nor. k.apart a b own (sym (there a ne) ∙ e) (sym (there b nor) ∙ f)));
        new = λ own high. receipt_none own way (c ∷ []) (k.new own (omega (arith, high, less, grows))) (one_none own c
            (none own));
      })
    where
      clash : (a b own : ℕ) → a ≡ name → b ≢ name → h a ≡ Some own → h b ≡ Some own → ⊥
      clash a b own same ne e f = let x = same_some (sym here ∙ ap h (sym same) ∙ e) in
          let y = k.low b own (sym (there b ne) ∙ f) in omega (arith, x, y, less)

      within : (m : ℕ) → m < length (slice_set names name (Cyclic id)) → m < length names
      within m low = subst (λ j. m < j) (length-set names name (Cyclic id)) low

      fits : (m : ℕ) → m < length (slice_set names name (Cyclic id)) → Fits (h m) (way ++ c ∷ [])
          (named_at (slice_set names name (Cyclic id)) m)
      fits m low = dite (ℕ_discrete m name)
          (λ same. subst (λ x. Fits (h m) (way ++ c ∷ []) x)
          (sym (ap (λ j. get_or (slice_set names name (Cyclic id)) j Nothing) same
          ∙ get_or-set_same names name (Cyclic id) Nothing (subst (λ j. j < length names) same (within m low))))
          (ap h same ∙ here, receipt_none id way (c ∷ []) (k.new id less) (one_none id c (none id))))
          (λ ne. subst (λ x. Fits (h m) (way ++ c ∷ []) x) (sym (get_or-set_other names name m (Cyclic id) Nothing ne))
          (subst (λ o. Fits o (way ++ c ∷ []) (named_at names m)) (sym (there m ne))
          (fits_on (g m) (named_at names m) c (λ own e. none own) (k.fits m (within m low)))))

  -- the id of a name
  pub its_id : (o : Option ℕ) (named : Named) (id : ℕ) → cyclic_id named ≡ Some id → Fits o way named
      → (o ≡ Some id) × (receipt_in id way ≡ None)
  its_id o Nothing id e f = absurd (none_some e)
  its_id o (Cyclic own) id e (p, q) = (p ∙ e, subst (λ j. receipt_in j way ≡ None) (same_some e) q)
  its_id o (Leaving own) id e (p, q) = (p ∙ e, subst (λ j. receipt_in j way ≡ None) (same_some e) q)
  its_id o (Removed receipt) id e f = absurd (none_some e)

  -- a name with an id is among the names
  pub its_position : (names : List Named) (name id : ℕ) → cyclic_id (named_at names name) ≡ Some id → name < length names
  its_position names name id e = by (cases_lt name (length names))
    where
      by : (name < length names) ⊎ (length names ≤ name) → name < length names
      by (inl low) = low
      by (inr far) = absurd (none_some (sym (ap cyclic_id (get_or_past names name Nothing far)) ∙ e))

  -- what a name has changes, but for its id
  pub holds_changed : (c : LeadCall) (name id : ℕ) (now : Named) (names' : List Named) (last' : ℕ)
      → cyclic_id (named_at names name) ≡ Some id
      → ((own : ℕ) → own ≢ id → receipt_of own c ≡ None) → Fits (Some id) (c ∷ []) now
      → names' ≡ slice_set names name now → last ≤ last' → Holds many g (way ++ c ∷ []) names' last'
  holds_changed c name id now names' last' has others goes is grows =
      subst (λ (l : List Named). Holds many g (way ++ c ∷ []) l last') (sym is) (record {
        long = length-set names name now ∙ k.long;
        fits = fits;
        low = λ m own e. (let a = k.low m own e in omega (arith, a, grows));
        apart = k.apart;
        new = λ own high. receipt_none own way (c ∷ []) (k.new own (omega (arith, high, grows)))
            (one_none own c (others own (λ e. (let a = k.low name id own_id in omega (arith, high, grows, e, a)))));
      })
    where
      within : (m : ℕ) → m < length (slice_set names name now) → m < length names
      within m low = subst (λ j. m < j) (length-set names name now) low

      own_it : (g name ≡ Some id) × (receipt_in id way ≡ None)
      own_it = its_id (g name) (named_at names name) id has (k.fits name (its_position names name id has))

      own_id : g name ≡ Some id
      own_id = own_it.0

      changed : (x : Named) → Fits (Some id) (c ∷ []) x → Fits (g name) (way ++ c ∷ []) x
      changed Nothing e = absurd (none_some (sym e))
      changed (Cyclic own) (e, r) = (
        own_id ∙ e,
        receipt_none own way (c ∷ []) (subst (λ j. receipt_in j way ≡ None)
            (same_some e) own_it.1) r,
      )
      changed (Leaving own) (e, r) = (
        own_id ∙ e,
        receipt_none own way (c ∷ []) (subst (λ j. receipt_in j way ≡ None)
            (same_some e) own_it.1) r,
      )
      changed (Removed receipt) (own, e, r) = (
        own,
        own_id ∙ e,
        receipt_on own way (c ∷ [])
            ∙ ap (λ o. first_ring o (receipt_in own (c ∷ []))) (subst (λ j. receipt_in j way ≡ None) (same_some e) own_it.1) ∙ r,
      )

      fits : (m : ℕ) → m < length (slice_set names name now) → Fits (g m) (way ++ c ∷ []) (named_at (slice_set names name now) m)
      fits m low = dite (ℕ_discrete m name)
          (λ same. subst (λ x. Fits (g m) (way ++ c ∷ []) x)
          (sym (ap (λ j. get_or (slice_set names name now) j Nothing) same
          ∙ get_or-set_same names name now Nothing (subst (λ j. j < length names) same (within m low))))
          (subst (λ j. Fits (g j) (way ++ c ∷ []) now) (sym same) (changed now goes)))
          (λ ne. subst (λ x. Fits (g m) (way ++ c ∷ []) x) (sym (get_or-set_other names name m now Nothing ne))
          (fits_on (g m) (named_at names m) c
          (λ own e. others own (λ same. ne (k.apart m name id (e ∙ ap Some same) own_id)))
          (k.fits m (within m low))))
