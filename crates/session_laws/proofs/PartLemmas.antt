-- Each part has one text, but for the numbers of watch rows.
use Rattle.std.proofs.Common.{◌≡◌, ℕ, List, [], ◌∷◌, ◌++◌, map, refl, sym, ◌∙◌, ap}
use Rattle.std.specs.Cmp.{IsTotalOrder}
use Rattle.std.specs.Cmp.Lexicographic.{slice_cmp}
use Rattle.std.specs.Ordering.{nat_cmp}
use Rattle.digest_facts.specs.Digests.{Digest, merged}
use Rattle.digest_facts.specs.Facts.{IsOrdered, IsPiped, IsUnordered}
use Rattle.digest_facts.specs.MergeLaws.{HasOneDigest}
use Rattle.digest_facts.specs.Texts.{digest_text}
use Rattle.session_rules.specs.KeptTraces.{Kept, by_kept, day_of}
use Rattle.session_rules.specs.DigestTexts.{IsDigestText}
use Rattle.session_rules.specs.GivenDigests.{SurvivesUnder, known_under}
use Rattle.session_rules.specs.ModelTexts.{AreModelFigures, Figures, IsModelHead, IsModelText, header_row, model_text, traces_under}
use Rattle.session_rules.specs.Parts.{AreWatchRows, Part, IsPart, Refusals, Watched, Dropped, KeptNewest, ModelOf, DigestOf, Header, PathOf, SlacksOf, GraphOf, ModelHead, ReportHead, LatenciesOf, SegmentOf, TailHead, TailOf, ForecastHead, ForecastOf, WhyHead, RefutedOf, Verdict, Verified, EvidenceOf}
use Rattle.trace_paths.specs.PathLaws.{PathsAreOne}
use Rattle.text_rows.specs.TextsOfParts.{AreTexts}
use Rattle.trace_graph.specs.GraphLaws.{HasOneGraph}
use Rattle.trace_types.specs.Listing.{CountsDistinct}
use Rattle.trace_types.specs.NameOrder.{name_cmp, pair_cmp}
use Rattle.trace_types.specs.Parts.{segments_of}
use Rattle.trace_types.specs.Segments.{SegmentName, name_of, task_of}
use Rattle.session_laws.specs.WatchLaws.{AreAlikeByPart, AreSameRows, IsAlike}
use Rattle.session_laws.proofs.JobLemmas.{OneRisingList, one_listed}
use Rattle.session_laws.proofs.CertificateTextLemmas.{refuted_one}
use Rattle.session_laws.proofs.EvidenceTextLemmas.{OneEvidence, evidence_one}
use Rattle.session_laws.proofs.ForecastTextLemmas.{forecast_head_one, forecast_row_one}
use Rattle.session_laws.proofs.ReportTextLemmas.{latencies_one, report_head_one, segment_one, tail_head_one, tail_one}
use Rattle.session_laws.proofs.TraceTextLemmas.{graph_one, path_one, slacks_one}

-- a list has one number of different elements
abbrev pub OneCount : Type 0 → Type 0
OneCount X = (n m : ℕ) (xs : List X) → CountsDistinct n xs → CountsDistinct m xs → n ≡ m

-- what is cited of the crates below
pub record OneTelling : Type 0 where
  pub numbers : OneRisingList ℕ
  pub names : OneRisingList (SegmentName × SegmentName)
  pub tasks : OneRisingList (List ℕ × List ℕ)
  pub days : OneCount ℕ
  pub name_count : OneCount SegmentName
  pub task_count : OneCount (List ℕ)
  pub name_order : IsTotalOrder (pair_cmp name_cmp)
  pub task_order : IsTotalOrder (pair_cmp (slice_cmp nat_cmp))
  pub graphs : (given : Digest SegmentName (List ℕ)) (kept : List Kept) → HasOneGraph by_kept (SurvivesUnder given kept)
  pub paths : (given : Digest SegmentName (List ℕ)) (kept : List Kept) → PathsAreOne by_kept (SurvivesUnder given kept)
  pub digests : HasOneDigest by_kept day_of name_cmp (slice_cmp nat_cmp)
  pub evidence : OneEvidence

watch_one : (every workers day : ℕ) (traces : List Kept) (t u : List ℕ) → AreWatchRows every workers day traces t → AreWatchRows every workers day traces u → AreSameRows day t u
watch_one every workers day traces t u h k = record { lines = h.lines; others = k.lines; text_is = h.text; other_is = k.text; marks = h.are.marks ∙ sym k.are.marks }

module _ (told : OneTelling) where
  figures_one : (given : Digest SegmentName (List ℕ)) (kept : List Kept) (f g : Figures) → AreModelFigures given kept f → AreModelFigures given kept g → f ≡ g
  figures_one given kept f g h k =
      ap (λ (x : ℕ). record { days = x; names = f.names; tasks = f.tasks; hb = f.hb; mx = f.mx; pipe = f.pipe }) days
      ∙ ap (λ (x : ℕ). record { days = g.days; names = x; tasks = f.tasks; hb = f.hb; mx = f.mx; pipe = f.pipe }) names
      ∙ ap (λ (x : ℕ). record { days = g.days; names = g.names; tasks = x; hb = f.hb; mx = f.mx; pipe = f.pipe }) tasks
      ∙ ap (λ (x : List (SegmentName × SegmentName)). record { days = g.days; names = g.names; tasks = g.tasks; hb = x; mx = f.mx; pipe = f.pipe }) hb
      ∙ ap (λ (x : List (SegmentName × SegmentName)). record { days = g.days; names = g.names; tasks = g.tasks; hb = g.hb; mx = x; pipe = f.pipe }) mx
      ∙ ap (λ (x : List (List ℕ × List ℕ)). record { days = g.days; names = g.names; tasks = g.tasks; hb = g.hb; mx = g.mx; pipe = x }) pipe
    where
      days : f.days ≡ g.days
      days = told.days f.days g.days (given.days ++ map day_of kept) h.days k.days

      names : f.names ≡ g.names
      names = told.name_count f.names g.names (given.names ++ map name_of (segments_of by_kept kept)) h.names k.names

      tasks : f.tasks ≡ g.tasks
      tasks = told.task_count f.tasks g.tasks (given.tasks ++ map task_of (segments_of by_kept kept)) h.tasks k.tasks

      hb : f.hb ≡ g.hb
      hb = one_listed told.names (pair_cmp name_cmp) (λ (pair : SegmentName × SegmentName). IsOrdered (known_under given kept) pair.0 pair.1) f.hb g.hb told.name_order h.hb k.hb

      mx : f.mx ≡ g.mx
      mx = one_listed told.names (pair_cmp name_cmp) (λ (pair : SegmentName × SegmentName). IsUnordered (known_under given kept) name_cmp pair.0 pair.1) f.mx g.mx told.name_order h.mx k.mx

      pipe : f.pipe ≡ g.pipe
      pipe = one_listed told.tasks (pair_cmp (slice_cmp nat_cmp)) (λ (pair : List ℕ × List ℕ). IsPiped (known_under given kept) pair.0 pair.1) f.pipe g.pipe told.task_order h.pipe k.pipe

  model_one : (given : Digest SegmentName (List ℕ)) (kept : List Kept) (t u : List ℕ) → IsModelText given kept t → IsModelText given kept u → t ≡ u
  model_one given kept t u h k = h.text ∙ ap (model_text (traces_under given kept)) (figures_one given kept h.figures k.figures h.told k.told) ∙ sym k.text

  model_head_one : (given : Digest SegmentName (List ℕ)) (kept : List Kept) (t u : List ℕ) → IsModelHead given kept t → IsModelHead given kept u → t ≡ u
  model_head_one given kept t u h k = h.text ∙ ap (header_row (traces_under given kept)) (figures_one given kept h.figures k.figures h.told k.told) ∙ sym k.text

  digest_one : (given : Digest SegmentName (List ℕ)) (kept : List Kept) (t u : List ℕ) → IsDigestText given kept t → IsDigestText given kept u → t ≡ u
  digest_one given kept t u h k = h.text ∙ ap (λ (d : Digest SegmentName (List ℕ)). digest_text (merged name_cmp (slice_cmp nat_cmp) given d)) (told.digests kept kept h.digest k.digest refl (λ x. ((λ c. c), (λ c. c))) h.of_kept k.of_kept) ∙ sym k.text

  pub part_one : (part : Part) (t u : List ℕ) → IsPart part t → IsPart part u → IsAlike part t u
  part_one (Refusals refused) t u h k = h ∙ sym k
  part_one (Watched every workers day traces) t u h k = watch_one every workers day traces t u h k
  part_one (Dropped day count) t u h k = h ∙ sym k
  part_one (KeptNewest days count) t u h k = h ∙ sym k
  part_one (ModelOf given kept) t u h k = model_one given kept t u h k
  part_one (DigestOf given kept) t u h k = digest_one given kept t u h k
  part_one (Header word count) t u h k = h ∙ sym k
  part_one (PathOf given kept trace) t u h k = path_one (SurvivesUnder given kept) (told.graphs given kept) trace t u h k
  part_one (SlacksOf given kept trace) t u h k = slacks_one (SurvivesUnder given kept) (told.graphs given kept) trace t u h k
  part_one (GraphOf given kept trace) t u h k = graph_one (SurvivesUnder given kept) (told.graphs given kept) told.numbers trace t u h k
  part_one (ModelHead given kept) t u h k = model_head_one given kept t u h k
  part_one (ReportHead given kept) t u h k = report_head_one (SurvivesUnder given kept) (told.paths given kept) kept t u h k
  part_one (LatenciesOf kept) t u h k = latencies_one kept t u h k
  part_one (SegmentOf given kept name) t u h k = segment_one (SurvivesUnder given kept) (told.paths given kept) kept name t u h k
  part_one (TailHead kept) t u h k = tail_head_one kept t u h k
  part_one (TailOf given kept name) t u h k = tail_one (SurvivesUnder given kept) (told.paths given kept) kept name t u h k
  part_one (ForecastHead change given kept) t u h k = forecast_head_one (SurvivesUnder given kept) (told.graphs given kept) change kept t u h k
  part_one (ForecastOf change given kept trace) t u h k = forecast_row_one (SurvivesUnder given kept) (told.graphs given kept) change kept trace t u h k
  part_one (WhyHead traces refuted) t u h k = h ∙ sym k
  part_one (RefutedOf kept matter) t u h k = refuted_one kept matter t u h k
  part_one (Verdict verdict line) t u h k = h ∙ sym k
  part_one (Verified shown claims) t u h k = h ∙ sym k
  part_one (EvidenceOf choice kept) t u h k = evidence_one told.evidence choice kept t u h k

  pub parts_one : (parts : List Part) (t u : List ℕ) → AreTexts IsPart parts t → AreTexts IsPart parts u → AreAlikeByPart parts t u
  parts_one [] t u h k = (h, k)
  parts_one (part ∷ parts) t u h k = (h.0, h.1, k.0, k.1, part_one part h.0 k.0 h.2 k.2, parts_one parts h.1 k.1 h.3 k.3, h.4, k.4)
