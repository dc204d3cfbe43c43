-- A text that is printed piece by piece, by the laws of calls, and a text as parts.
use Rattle.std.proofs.Common.{◌≡◌, ℕ, List, [], ◌∷◌, ◌++◌, Option, Some, get_or, refl, sym, ◌∙◌, ap, subst}
use Rattle.std.specs.Prelude.{Result, Ok, Err, slice_get}
use Rattle.std.proofs.lemmas.Option.{get_or_from_slice_get}
use Rattle.std.proofs.lemmas.List.{append-nil, append_assoc}
use Rattle.session_rules.specs.Parts.{IsPart, Part}
use Rattle.text_rows.specs.PartsFollow.{CallPrintsOnePart, NoPartIsPrinted, PartCallGoesOn, PartCallsFollow}
use Rattle.text_rows.specs.Printing.{PrintsText}
use Rattle.text_rows.specs.TextsFollow.{CallGoesOn, CallsFollow, NothingIsPrinted}
use Rattle.text_rows.specs.TextsOfParts.{AreTexts, PrintsTexts}
use Rattle.text_rows.specs.declared.print_fault.PrintFault.{PrintFault}

-- what holds of two texts holds of what stands at their numbers
pub at_numbers : {X : Type 0} (P : X → X → Type 0) (texts : List X) (none : X) (m n : ℕ) (x y : X) → slice_get texts m ≡ Some x → slice_get texts n ≡ Some y → P x y → P (get_or texts m none) (get_or texts n none)
at_numbers P texts none m n x y first second holds = rw (get_or_from_slice_get texts m x none first, get_or_from_slice_get texts n y none second) holds

-- nothing went wrong
abbrev pub done : Result (Unit {0}) PrintFault
done = Ok tt

module _ {S : Type 0} (written : S → Option (List ℕ)) (faults : S → ℕ) where
  -- all but the rest of a text was printed
  pub record PrintsAllBut (rest whole : List ℕ) (old new : S) (held holds : List ℕ) : Type 0 where
    pub text : List ℕ
    pub printed : PrintsText written faults done old new held holds text
    pub joined : text ++ rest ≡ whole

  pub printed_none : (whole : List ℕ) (old : S) (held : List ℕ) → NothingIsPrinted → PrintsAllBut whole whole old old held held
  printed_none whole old held none = record { text = []; printed = record { all = none (written old) held; prefix = tt; counted = refl }; joined = refl }

  -- one more piece
  pub printed_more : (piece rest others whole : List ℕ) (old mid new : S) (held between holds : List ℕ) → CallsFollow written faults (Unit {0}) → others ≡ piece ++ rest
      → PrintsAllBut others whole old mid held between → PrintsText written faults done mid new between holds piece → PrintsAllBut rest whole old new held holds
  printed_more piece rest others whole old mid new held between holds follow split so p = record {
    text = so.text ++ piece;
    printed = follow tt done old mid new held between holds so.text piece so.printed p;
    joined = append_assoc so.text piece rest ∙ (ap (λ l. so.text ++ l) (sym split) ∙ so.joined);
  }

  -- a piece that was not printed to its end
  pub printed_cut : (piece rest others whole : List ℕ) (e : PrintFault) (old mid new : S) (held between holds : List ℕ) → CallsFollow written faults (Unit {0}) → CallGoesOn written faults (Unit {0}) → others ≡ piece ++ rest
      → PrintsAllBut others whole old mid held between → PrintsText {T = Unit {0}} written faults (Err e) mid new between holds piece → PrintsText {T = Unit {0}} written faults (Err e) old new held holds whole
  printed_cut piece rest others whole e old mid new held between holds follow goes_on split so p =
      let all : so.text ++ (piece ++ rest) ≡ whole = ap (λ l. so.text ++ l) (sym split) ∙ so.joined in
      subst (PrintsText {T = Unit {0}} written faults (Err e) old new held holds) all (follow tt (Err e) old mid new held between holds so.text (piece ++ rest) so.printed (goes_on e mid new between holds holds piece rest p))

  -- nothing is left
  pub printed_all : (rest whole : List ℕ) (old new : S) (held holds : List ℕ) → rest ≡ [] → PrintsAllBut rest whole old new held holds → PrintsText written faults done old new held holds whole
  printed_all rest whole old new held holds none so =
      let all : so.text ≡ whole = sym (append-nil so.text) ∙ (ap (λ l. so.text ++ l) (sym none) ∙ so.joined) in
      subst (PrintsText written faults done old new held holds) all so.printed

  -- a call that printed a text of parts printed the parts
  pub parts_printed : (result : Result (Unit {0}) PrintFault) (old new : S) (parts : List Part) (text held holds : List ℕ) → AreTexts IsPart parts text → PrintsText written faults result old new held holds text → PrintsTexts written faults result old new IsPart parts held holds
  parts_printed (Ok x) old new parts text held holds told p = record { all = record { text = text; told = told; prints = p.all }; prefix = tt; counted = p.counted }
  parts_printed (Err e) old new parts text held holds told p = record { all = tt; prefix = record { first = parts; rest = []; split = sym (append-nil parts); text = text; told = told; prefix = p.prefix }; counted = p.counted }

  -- ---- parts that are printed one after another
  -- all but the rest of the parts were printed
  pub record PrintsPartsBut (rest whole : List Part) (old new : S) (held holds : List ℕ) : Type 0 where
    pub parts : List Part
    pub printed : PrintsTexts written faults done old new IsPart parts held holds
    pub joined : parts ++ rest ≡ whole

  pub parts_none : (whole : List Part) (old : S) (held : List ℕ) → NoPartIsPrinted IsPart → PrintsPartsBut whole whole old old held held
  parts_none whole old held none = record { parts = []; printed = record { all = none (written old) held; prefix = tt; counted = refl }; joined = refl }

  module _ (part : Part) (text : List ℕ) (rest others whole : List Part) (old mid new : S) (held between holds : List ℕ) (follow : PartCallsFollow written faults IsPart (Unit {0})) (one : CallPrintsOnePart written faults IsPart (Unit {0})) (split : others ≡ part ∷ rest) (is : IsPart part text)
      (so : PrintsPartsBut others whole old mid held between) where
    -- one more part
    pub parts_more : PrintsText written faults done mid new between holds text → PrintsPartsBut rest whole old new held holds
    parts_more p = record {
      parts = so.parts ++ part ∷ [];
      printed = follow tt done old mid new so.parts (part ∷ []) held between holds so.printed (one part text done mid new between holds is p);
      joined = append_assoc so.parts (part ∷ []) rest ∙ (ap (λ l. so.parts ++ l) (sym split) ∙ so.joined);
    }

    -- a part that was not printed to its end
    pub parts_cut : (e : PrintFault) → PartCallGoesOn written faults IsPart (Unit {0}) → PrintsText {T = Unit {0}} written faults (Err e) mid new between holds text → PrintsTexts {T = Unit {0}} written faults (Err e) old new IsPart whole held holds
    parts_cut e goes_on p =
        let all : so.parts ++ (part ∷ rest) ≡ whole = ap (λ l. so.parts ++ l) (sym split) ∙ so.joined in
        subst (λ ps. PrintsTexts {T = Unit {0}} written faults (Err e) old new IsPart ps held holds) all
        (follow tt (Err e) old mid new so.parts (part ∷ rest) held between holds so.printed (goes_on e mid new (part ∷ []) rest between holds holds (one part text (Err e) mid new between holds is p)))

    -- the last part
    pub parts_last : rest ≡ [] → (result : Result (Unit {0}) PrintFault) → PrintsText written faults result mid new between holds text → PrintsTexts written faults result old new IsPart whole held holds
    parts_last none result p =
        let all : so.parts ++ (part ∷ []) ≡ whole = ap (λ l. so.parts ++ (part ∷ l)) (sym none) ∙ (ap (λ l. so.parts ++ l) (sym split) ∙ so.joined) in
        subst (λ ps. PrintsTexts written faults result old new IsPart ps held holds) all
        (follow tt result old mid new so.parts (part ∷ []) held between holds so.printed (one part text result mid new between holds is p))
