-- The text of forecasts by number is one of the parts of a forecast.
use Rattle.std.proofs.Common.{◌≡◌, ℕ, List, [], ◌∷◌, length, map, All, codes, decimal, refl, ◌∙◌, ap, arith}
use Rattle.std.specs.Borrow.{Bor}
use Rattle.std.specs.List.{AllZip}
use Rattle.std.specs.Prelude.{sum_by}
use Rattle.std.proofs.lemmas.List.Elements.{All-cons, All-nil}
use Rattle.book_laws.specs.Shown.{AreShown, IsShown}
use Rattle.segment_names.specs.Known.{Known}
use Rattle.segment_names.specs.Limits.{IsKept}
use Rattle.session_rules.specs.ForecastTexts.{IsForecastOf}
use Rattle.session_rules.specs.GivenDigests.{SurvivesUnder}
use Rattle.session_rules.specs.KeptTraces.{Kept}
use Rattle.session_rules.specs.Parts.{ForecastOf, IsPart}
use Rattle.session_rules.specs.Sessions.{forecast_parts}
use Rattle.session_rules.specs.declared.named_change.NamedChange.{NamedChange}
use Rattle.text_rows.specs.Rows.{figure, row_of}
use Rattle.text_rows.specs.TextsOfParts.{AreTexts}
use Rattle.digest_facts.specs.Digests.{Digest}
use Rattle.judged_books.specs.JudgedLaws.{AreJudgedWords}
use Rattle.model_meet.specs.RelationBits.{KeepsExclusion}
use Rattle.trace_types.specs.Segments.{SegmentName}
use Rattle.trace_types.specs.declared.named_trace.NamedTrace.{NamedTrace}
use Rattle.what_if.specs.declared.change.Change.{Change}
use Rattle.trace_rules.specs.declared.forecast.Forecast.{Forecast}
use Rattle.view_rows.specs.inner.ForecastRows.{forecast_row, forecast_rows, forecast_text, head_row}
use Rattle.view_rows.specs.inner.NumberedForecasts.{IsForecastIn, IsForecastUnder, IsShort, changes_of}
use Rattle.view_rows.specs.inner.ShownForecasts.{ForecastIsShown}

-- the traces that are lent
abbrev pub traces_of : List (Bor NamedTrace) → List NamedTrace
traces_of lent = map (λ (t : Bor NamedTrace). t.now) lent

-- forecasts by the bits of words, each with its bound
pub told_of : (words : List ℕ) (changes : List Change) (lent : List (Bor NamedTrace)) (fs : List Forecast) → AllZip (λ (t : Bor NamedTrace) f. IsForecastUnder words changes t.now f) lent fs → AllZip (IsForecastIn (KeepsExclusion words) changes) (traces_of lent) fs
told_of words changes [] [] h = h
told_of words changes [] (f ∷ fs) h = absurd h
told_of words changes (t ∷ lent) [] h = absurd h
told_of words changes (t ∷ lent) (f ∷ fs) h = (h.0.told, told_of words changes lent fs h.1)

pub all_short : (words : List ℕ) (changes : List Change) (lent : List (Bor NamedTrace)) (fs : List Forecast) → AllZip (λ (t : Bor NamedTrace) f. IsForecastUnder words changes t.now f) lent fs → All IsShort fs
all_short words changes [] [] h = All-nil IsShort
all_short words changes [] (f ∷ fs) h = absurd h
all_short words changes (t ∷ lent) [] h = absurd h
all_short words changes (t ∷ lent) (f ∷ fs) h = All-cons IsShort f fs h.0.short (all_short words changes lent fs h.1)

pub as_many : {A B : Type 0} (R : A → B → Type 0) (xs : List A) (ys : List B) → AllZip R xs ys → length ys ≡ length xs
as_many R [] [] h = refl
as_many R [] (y ∷ ys) h = absurd h
as_many R (x ∷ xs) [] h = absurd h
as_many R (x ∷ xs) (y ∷ ys) h = let rest = as_many R xs ys h.1 in omega arith

module _ (known : Known) (change : NamedChange) (given : Digest SegmentName (List ℕ)) (words : List ℕ) (traces : List NamedTrace) (kept : List Kept) (law : ForecastIsShown) (fits : IsKept known) (all : AreShown known traces kept) (judge : AreJudgedWords known given kept words) where
  one_told : (t : NamedTrace) (k : Kept) (f : Forecast) → IsForecastIn (KeepsExclusion words) (changes_of known change) t f → IsShown known t k → IsForecastOf change (SurvivesUnder given kept) k f
  one_told t k f under shown = law known given words kept t k change f fits judge shown under

  each_told : (ts : List NamedTrace) (fs : List Forecast) (ks : List Kept) → AllZip (IsForecastIn (KeepsExclusion words) (changes_of known change)) ts fs → AllZip (IsShown known) ts ks → AllZip (IsForecastOf change (SurvivesUnder given kept)) ks fs
  each_told [] [] [] h s = tt
  each_told [] [] (k ∷ ks) h s = absurd s
  each_told [] (f ∷ fs) ks h s = absurd h
  each_told (t ∷ ts) [] ks h s = absurd h
  each_told (t ∷ ts) (f ∷ fs) [] h s = absurd s
  each_told (t ∷ ts) (f ∷ fs) (k ∷ ks) h s = (one_told t k f h.0 s.0, each_told ts fs ks h.1 s.1)

  row_told : (t : NamedTrace) (k : Kept) (f : Forecast) → IsForecastIn (KeepsExclusion words) (changes_of known change) t f → IsShown known t k → IsPart (ForecastOf change given kept k) (forecast_row t f)
  row_told t k f under shown = record {
    forecast = f;
    told = one_told t k f under shown;
    text = ap (λ r. row_of (codes "forecast" ∷ r ∷ decimal t.day ∷ decimal f.before ∷ decimal f.after ∷ [])) shown.request
        ∙ ap (λ d. row_of (codes "forecast" ∷ k.trace.request ∷ decimal d ∷ decimal f.before ∷ decimal f.after ∷ [])) shown.day;
  }

  rows_told : (ts : List NamedTrace) (fs : List Forecast) (ks : List Kept) → AllZip (IsForecastIn (KeepsExclusion words) (changes_of known change)) ts fs → AllZip (IsShown known) ts ks → AreTexts IsPart (map (ForecastOf change given kept) ks) (forecast_rows ts fs)
  rows_told [] [] [] h s = refl
  rows_told [] [] (k ∷ ks) h s = absurd s
  rows_told [] (f ∷ fs) ks h s = absurd h
  rows_told (t ∷ ts) [] ks h s = absurd h
  rows_told (t ∷ ts) (f ∷ fs) [] h s = absurd s
  rows_told (t ∷ ts) (f ∷ fs) (k ∷ ks) h s = (forecast_row t f, forecast_rows ts fs, row_told t k f h.0 s.0, rows_told ts fs ks h.1 s.1, refl)

  pub text_told : (fs : List Forecast) → AllZip (IsForecastIn (KeepsExclusion words) (changes_of known change)) traces fs → AreTexts IsPart (forecast_parts change given kept) (forecast_text traces fs)
  text_told fs h =
      let each = each_told traces fs kept h all in
      let many = as_many (IsForecastOf change (SurvivesUnder given kept)) kept fs each in (
        head_row fs,
        forecast_rows traces fs,
        record {
          forecasts = fs;
          told = each;
          text = ap (λ n. row_of (codes "whatif" ∷ figure (codes "traces") n ∷ figure (codes "before") (sum_by (λ (f : Forecast). f.before) fs) ∷ figure (codes "after") (sum_by (λ (f : Forecast). f.after) fs) ∷ [])) many;
        },
        rows_told traces fs kept h all,
        refl,
      )
