-- Rows that are printed one after another, by the laws of calls, and a text as parts.
use Rattle.std.proofs.Common.{◌≡◌, ℕ, ◌+◌, ◌≤◌, ◌<◌, List, [], ◌∷◌, ◌++◌, length, drop, get_or, Option, refl, sym, ◌∙◌, ap, subst}
use Rattle.std.specs.Prelude.{Result, Ok, Err}
use Rattle.std.specs.Borrow.{Bor}
use Rattle.std.proofs.lemmas.List.{append-nil, append_assoc, drop_all, drop_more}
use Rattle.session_rules.specs.Parts.{IsPart, Part}
use Rattle.text_rows.specs.Printing.{PrintsText}
use Rattle.text_rows.specs.TextsFollow.{CallGoesOn, CallsFollow, NothingIsPrinted}
use Rattle.text_rows.specs.TextsOfParts.{AreTexts, PrintsTexts}
use Rattle.text_rows.specs.declared.print_fault.PrintFault.{PrintFault}
use Rattle.trace_types.specs.declared.named_trace.NamedTrace.{NamedTrace}
use Rattle.trace_rules.specs.declared.forecast.Forecast.{Forecast}
use Rattle.view_rows.specs.inner.ForecastRows.{forecast_row, forecast_rows}
use Rattle.view_rows.proofs.ForecastTextLemmas.{traces_of}

-- nothing went wrong
abbrev pub done : Result (Unit {0}) PrintFault
done = Ok tt

-- the rows from a place on begin with that of the place
rows_drop : (lent : List (Bor NamedTrace)) (fs : List Forecast) (i : ℕ) (t : Bor NamedTrace) (f : Forecast) → i < length lent → length fs ≡ length lent → t ≡ get_or lent i t → f ≡ get_or fs i f
    → forecast_rows (traces_of (drop i lent)) (drop i fs) ≡ forecast_row t.now f ++ forecast_rows (traces_of (drop (i + 1) lent)) (drop (i + 1) fs)
rows_drop lent fs i t f lt same ist isf =
    let within : i < length fs = subst (λ n. i < n) (sym same) lt in
    ap (λ l. forecast_rows (traces_of l) (drop i fs)) (drop_more lent i t lt ∙ ap (λ y. y ∷ drop (i + 1) lent) (sym ist))
    ∙ ap (λ l. forecast_rows (traces_of (t ∷ drop (i + 1) lent)) l) (drop_more fs i f within ∙ ap (λ y. y ∷ drop (i + 1) fs) (sym isf))

module _ {S : Type 0} (written : S → Option (List ℕ)) (faults : S → ℕ) where
  -- the rows of the traces before a place were printed
  pub record SoFar (lent : List (Bor NamedTrace)) (fs : List Forecast) (place : ℕ) (old new : S) (held holds : List ℕ) : Type 0 where
    pub text : List ℕ
    pub printed : PrintsText written faults done old new held holds text
    pub rest : text ++ forecast_rows (traces_of (drop place lent)) (drop place fs) ≡ forecast_rows (traces_of lent) fs

  pub so_none : (lent : List (Bor NamedTrace)) (fs : List Forecast) (old : S) (held : List ℕ) → NothingIsPrinted → SoFar lent fs 0 old old held held
  so_none lent fs old held none = record { text = []; printed = record { all = none (written old) held; prefix = tt; counted = refl }; rest = refl }

  pub so_next : (lent : List (Bor NamedTrace)) (fs : List Forecast) (i : ℕ) (t : Bor NamedTrace) (f : Forecast) (old mid new : S) (held between holds : List ℕ) → CallsFollow written faults (Unit {0}) → i < length lent → length fs ≡ length lent → t ≡ get_or lent i t → f ≡ get_or fs i f
      → SoFar lent fs i old mid held between → PrintsText written faults done mid new between holds (forecast_row t.now f) → SoFar lent fs (i + 1) old new held holds
  so_next lent fs i t f old mid new held between holds follow lt same ist isf so p = record {
    text = so.text ++ forecast_row t.now f;
    printed = follow tt done old mid new held between holds so.text (forecast_row t.now f) so.printed p;
    rest = append_assoc so.text (forecast_row t.now f) (forecast_rows (traces_of (drop (i + 1) lent)) (drop (i + 1) fs)) ∙ (ap (λ l. so.text ++ l) (sym (rows_drop lent fs i t f lt same ist isf)) ∙ so.rest);
  }

  pub so_all : (lent : List (Bor NamedTrace)) (fs : List Forecast) (i : ℕ) (old new : S) (held holds : List ℕ) → length lent ≤ i → SoFar lent fs i old new held holds → PrintsText written faults done old new held holds (forecast_rows (traces_of lent) fs)
  so_all lent fs i old new held holds le so =
      let none : forecast_rows (traces_of (drop i lent)) (drop i fs) ≡ [] = ap (λ l. forecast_rows (traces_of l) (drop i fs)) (drop_all i lent le) in
      let all : so.text ≡ forecast_rows (traces_of lent) fs = sym (append-nil so.text) ∙ (ap (λ l. so.text ++ l) (sym none) ∙ so.rest) in
      subst (PrintsText written faults done old new held holds) all so.printed

  -- a row that was not printed to its end
  pub so_cut : (lent : List (Bor NamedTrace)) (fs : List Forecast) (i : ℕ) (t : Bor NamedTrace) (f : Forecast) (e : PrintFault) (old mid new : S) (held between holds : List ℕ) → CallsFollow written faults (Unit {0}) → CallGoesOn written faults (Unit {0}) → i < length lent → length fs ≡ length lent → t ≡ get_or lent i t → f ≡ get_or fs i f
      → SoFar lent fs i old mid held between → PrintsText {T = Unit {0}} written faults (Err e) mid new between holds (forecast_row t.now f) → PrintsText {T = Unit {0}} written faults (Err e) old new held holds (forecast_rows (traces_of lent) fs)
  so_cut lent fs i t f e old mid new held between holds follow goes_on lt same ist isf so p =
      let rest = forecast_rows (traces_of (drop (i + 1) lent)) (drop (i + 1) fs) in
      let all : so.text ++ (forecast_row t.now f ++ rest) ≡ forecast_rows (traces_of lent) fs = ap (λ l. so.text ++ l) (sym (rows_drop lent fs i t f lt same ist isf)) ∙ so.rest in
      subst (PrintsText {T = Unit {0}} written faults (Err e) old new held holds) all (follow tt (Err e) old mid new held between holds so.text (forecast_row t.now f ++ rest) so.printed (goes_on e mid new between holds holds (forecast_row t.now f) rest p))

  -- a call that printed a text of parts printed the parts
  pub parts_printed : (result : Result (Unit {0}) PrintFault) (old new : S) (parts : List Part) (text held holds : List ℕ) → AreTexts IsPart parts text → PrintsText written faults result old new held holds text → PrintsTexts written faults result old new IsPart parts held holds
  parts_printed (Ok x) old new parts text held holds told p = record { all = record { text = text; told = told; prints = p.all }; prefix = tt; counted = p.counted }
  parts_printed (Err e) old new parts text held holds told p = record { all = tt; prefix = record { first = parts; rest = []; split = sym (append-nil parts); text = text; told = told; prefix = p.prefix }; counted = p.counted }
