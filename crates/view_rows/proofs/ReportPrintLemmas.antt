-- Parts that are printed one after another, by the laws of calls.
use Rattle.std.proofs.Common.{◌≡◌, ℕ, ◌+◌, ◌≤◌, ◌<◌, List, [], ◌∷◌, ◌++◌, length, take, drop, get_or, map, Option, inl, inr, refl, sym, ◌∙◌, ap, subst}
use Rattle.std.specs.Prelude.{Result, Ok, Err}
use Rattle.std.specs.List.{All}
use Rattle.std.proofs.lemmas.List.{append-nil, drop_more, map-append, take_all, take_more, take-append-drop}
use Rattle.session_rules.specs.Parts.{IsPart, Part}
use Rattle.text_rows.specs.PartsFollow.{CallPrintsOnePart, NoPartIsBegun, NoPartIsPrinted, PartCallGoesOn, PartCallsFollow}
use Rattle.text_rows.specs.Printing.{PrintsText}
use Rattle.text_rows.specs.TextsOfParts.{PrintsPart, PrintsTexts}
use Rattle.text_rows.specs.declared.print_fault.PrintFault.{PrintFault}
use Rattle.text_rows.specs.declared.print_fault.PrintFault.TheVariants.{Memory}
use Rattle.trace_types.specs.Segments.{SegmentName}
use Rattle.trace_types.proofs.ElementLemmas.{map_twice}

-- nothing went wrong
abbrev pub done : Result (Unit {0}) PrintFault
done = Ok tt

module _ {S : Type 0} (written : S → Option (List ℕ)) (faults : S → ℕ) where
  -- a call that ran out of memory before it printed
  pub unbegun : (parts : List Part) (old : S) (held holds : List ℕ) → NoPartIsBegun IsPart → PrintsTexts {T = Unit {0}} written faults (Err Memory) old old IsPart parts held holds
  unbegun parts old held holds none = record { all = tt; prefix = none parts (written old) held; counted = refl }

  -- a call that prints one part
  pub one_part : (part : Part) (result : Result (Unit {0}) PrintFault) (old new : S) (held holds : List ℕ) → PrintsPart written faults result old new (IsPart part) held holds → PrintsTexts written faults result old new IsPart (part ∷ []) held holds
  one_part part (Ok x) old new held holds p = record {
    all = record { text = p.all.0; told = (p.all.0, [], p.all.1, refl, sym (append-nil p.all.0)); prints = p.all.2 };
    prefix = tt;
    counted = p.counted;
  }
  one_part part (Err e) old new held holds p = record {
    all = tt;
    prefix = elim p.prefix [
      | inl f ↦ record { first = []; rest = part ∷ []; split = refl; text = []; told = refl; prefix = rw (append-nil held) f }
      | inr q ↦ record { first = part ∷ []; rest = []; split = refl; text = q.0; told = (q.0, [], q.1, refl, sym (append-nil q.0)); prefix = q.2 }
    ];
    counted = p.counted;
  }

  -- ---- rows of items, each a part
  module _ {X : Type 0} (text : X → List ℕ) (xs : List X) where
    -- a call printed the parts of these items, whatever parts have the rows as their texts
    abbrev pub PrintsEach : Result (Unit {0}) PrintFault → S → S → List X → List ℕ → List ℕ → Type 0
    PrintsEach result old new some held holds = (part : X → Part) → All (λ x. IsPart (part x) (text x)) xs → PrintsTexts written faults result old new IsPart (map part some) held holds

    pub each_none : (old : S) (held : List ℕ) → NoPartIsPrinted IsPart → PrintsEach done old old [] held held
    each_none old held none part are = record { all = none (written old) held; prefix = tt; counted = refl }

    module _ (i : ℕ) (x : X) (old mid new : S) (held between holds : List ℕ) (follow : PartCallsFollow written faults IsPart (Unit {0})) (one : CallPrintsOnePart written faults IsPart (Unit {0})) (lt : i < length xs) (at : x ≡ get_or xs i x)
        (so_far : PrintsEach done old mid (take i xs) held between) where
      is_part : (part : X → Part) → All (λ x. IsPart (part x) (text x)) xs → IsPart (part x) (text x)
      is_part part are = subst (λ (y : X). IsPart (part y) (text y)) (sym at) (are i x lt)

      -- one more of the rows
      pub each_next : PrintsText written faults done mid new between holds (text x) → PrintsEach done old new (take (i + 1) xs) held holds
      each_next p part are =
          let more : map part (take i xs) ++ part x ∷ [] ≡ map part (take (i + 1) xs) = sym (ap (map part) (take_more xs i x lt ∙ ap (λ y. take i xs ++ y ∷ []) (sym at)) ∙ map-append part (take i xs) (x ∷ [])) in
          subst (λ ps. PrintsTexts written faults done old new IsPart ps held holds) more
          (follow tt done old mid new (map part (take i xs)) (part x ∷ []) held between holds (so_far part are) (one (part x) (text x) done mid new between holds (is_part part are) p))

      -- a row that was not printed to its end
      pub each_cut : (e : PrintFault) → PartCallGoesOn written faults IsPart (Unit {0}) → PrintsText {T = Unit {0}} written faults (Err e) mid new between holds (text x) → PrintsEach (Err e) old new xs held holds
      each_cut e goes_on p part are =
          let rest : map part (drop i xs) ≡ part x ∷ map part (drop (i + 1) xs) = ap (map part) (drop_more xs i x lt ∙ ap (λ (y : X). y ∷ drop (i + 1) xs) (sym at)) in
          let all : map part (take i xs) ++ (part x ∷ map part (drop (i + 1) xs)) ≡ map part xs =
          ap (λ ps. map part (take i xs) ++ ps) (sym rest) ∙ (sym (map-append part (take i xs) (drop i xs)) ∙ ap (map part) (take-append-drop i xs)) in
          subst (λ ps. PrintsTexts {T = Unit {0}} written faults (Err e) old new IsPart ps held holds) all
          (follow tt (Err e) old mid new (map part (take i xs)) (part x ∷ map part (drop (i + 1) xs)) held between holds (so_far part are)
          (goes_on e mid new (part x ∷ []) (map part (drop (i + 1) xs)) between holds holds (one (part x) (text x) (Err e) mid new between holds (is_part part are) p)))

    pub each_all : (i : ℕ) (old new : S) (held holds : List ℕ) → length xs ≤ i → PrintsEach done old new (take i xs) held holds → PrintsEach done old new xs held holds
    each_all i old new held holds le p part are = subst (λ ys. PrintsTexts written faults done old new IsPart (map part ys) held holds) (take_all i xs le) (p part are)

  -- rows that are texts of the parts of these names, in order
  pub rows_printed : {X : Type 0} (named : SegmentName → Part) (name : X → SegmentName) (text : X → List ℕ) (rows items : List X) (names : List SegmentName) (result : Result (Unit {0}) PrintFault) (old new : S) (held holds : List ℕ)
      → items ≡ rows → map name rows ≡ names → All (λ x. IsPart (named (name x)) (text x)) rows → PrintsEach text items result old new items held holds → PrintsTexts written faults result old new IsPart (map named names) held holds
  rows_printed {X} named name text rows items names result old new held holds same told are p =
      let parts : map (λ x. named (name x)) items ≡ map named names = ap (map (λ x. named (name x))) same ∙ (sym (map_twice named name rows) ∙ ap (map named) told) in
      subst (λ (ps : List Part). PrintsTexts written faults result old new IsPart ps held holds) parts (p (λ x. named (name x)) (subst (λ (xs : List X). All (λ x. IsPart (named (name x)) (text x)) xs) (sym same) are))
