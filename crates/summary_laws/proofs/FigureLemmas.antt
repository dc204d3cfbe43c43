-- What is told alike has the same figures and exclusions.
use Rattle.std.proofs.Common.{◌↔◌, ℕ, List, [], ◌++◌, map, Ordering}
use Rattle.std.specs.Cmp.Lexicographic.{slice_cmp}
use Rattle.std.specs.Ordering.{nat_cmp}
use Rattle.digest_facts.specs.Digests.{Digest, empty_digest}
use Rattle.digest_facts.specs.DigestLaws.{TellsOfAll}
use Rattle.digest_facts.specs.Facts.{AreAlike, Facts, IsOrdered, IsPiped, IsUnordered}
use Rattle.digest_facts.proofs.DigestLemmas.{tells}
use Rattle.digest_facts.proofs.FactLemmas.{counted_to, listed_to, ordered_to, piped_to, turned, unordered_to}
use Rattle.digest_facts.proofs.MergeLemmas.{name_apart, nothing_is}
use Rattle.session_rules.specs.GivenDigests.{IsKeptDigest, SurvivesUnder, known_under}
use Rattle.session_rules.specs.KeptTraces.{Kept, SurvivesIn, by_kept, day_of}
use Rattle.session_rules.specs.ModelTexts.{AreModelFigures, Figures}
use Rattle.trace_types.specs.Listing.{ListsExactly}
use Rattle.trace_types.specs.NameOrder.{name_cmp, pair_cmp}
use Rattle.trace_types.specs.Parts.{segments_of}
use Rattle.trace_types.specs.Segments.{SegmentName, name_of, task_of}
use Rattle.summary_laws.specs.PlainModels.{TellFigures}
use Rattle.summary_laws.proofs.JudgeLemmas.{AgreeApart}
use Rattle.summary_laws.proofs.ToldLemmas.{AreToldAlike, turned_told}

-- ---- rows of alike facts
ordered_rows : {N T : Type 0} (cmp : N × N → N × N → Ordering) (f g : Facts N T) → AreAlike f g → (rows : List (N × N)) → ListsExactly cmp (λ pair. IsOrdered f pair.0 pair.1) rows → ListsExactly cmp (λ pair. IsOrdered g pair.0 pair.1) rows
ordered_rows cmp f g alike rows l = listed_to cmp (λ pair. IsOrdered f pair.0 pair.1) (λ pair. IsOrdered g pair.0 pair.1) rows (λ pair. (ordered_to f g alike pair.0 pair.1, ordered_to g f (turned f g alike) pair.0 pair.1)) l

unordered_rows : {N T : Type 0} (cmp : N × N → N × N → Ordering) (by_name : N → N → Ordering) (f g : Facts N T) → AreAlike f g → (rows : List (N × N)) → ListsExactly cmp (λ pair. IsUnordered f by_name pair.0 pair.1) rows → ListsExactly cmp (λ pair. IsUnordered g by_name pair.0 pair.1) rows
unordered_rows cmp by_name f g alike rows l = listed_to cmp (λ pair. IsUnordered f by_name pair.0 pair.1) (λ pair. IsUnordered g by_name pair.0 pair.1) rows (λ pair. (unordered_to f g alike by_name pair.0 pair.1, unordered_to g f (turned f g alike) by_name pair.0 pair.1)) l

piped_rows : {N T : Type 0} (cmp : T × T → T × T → Ordering) (f g : Facts N T) → AreAlike f g → (rows : List (T × T)) → ListsExactly cmp (λ pair. IsPiped f pair.0 pair.1) rows → ListsExactly cmp (λ pair. IsPiped g pair.0 pair.1) rows
piped_rows cmp f g alike rows l = listed_to cmp (λ pair. IsPiped f pair.0 pair.1) (λ pair. IsPiped g pair.0 pair.1) rows (λ pair. (piped_to f g alike pair.0 pair.1, piped_to g f (turned f g alike) pair.0 pair.1)) l

-- ---- figures
module _ (given : Digest SegmentName (List ℕ)) (kept : List Kept) (other : Digest SegmentName (List ℕ)) (others : List Kept) where
  pub figures_to : AreToldAlike given kept other others → (f : Figures) → AreModelFigures given kept f → AreModelFigures other others f
  figures_to told f h = record {
    days = counted_to f.days (given.days ++ map day_of kept) (other.days ++ map day_of others) told.days h.days;
    names = counted_to f.names (given.names ++ map name_of (segments_of by_kept kept)) (other.names ++ map name_of (segments_of by_kept others)) told.names h.names;
    tasks = counted_to f.tasks (given.tasks ++ map task_of (segments_of by_kept kept)) (other.tasks ++ map task_of (segments_of by_kept others)) told.tasks h.tasks;
    hb = ordered_rows (pair_cmp name_cmp) (known_under given kept) (known_under other others) told.facts f.hb h.hb;
    mx = unordered_rows (pair_cmp name_cmp) name_cmp (known_under given kept) (known_under other others) told.facts f.mx h.mx;
    pipe = piped_rows (pair_cmp (slice_cmp nat_cmp)) (known_under given kept) (known_under other others) told.facts f.pipe h.pipe;
  }

  -- and the same exclusions survive
  pub excludes_alike : AreToldAlike given kept other others → AgreeApart (SurvivesUnder given kept) (SurvivesUnder other others)
  excludes_alike told a b differ = (
    (λ none r. none ((told.facts.exclusive a b differ).1 r)),
    (λ none r. none ((told.facts.exclusive a b differ).0 r)),
  )

pub figures_alike : (given : Digest SegmentName (List ℕ)) (kept : List Kept) (other : Digest SegmentName (List ℕ)) (others : List Kept) → AreToldAlike given kept other others → (f : Figures) → AreModelFigures given kept f ↔ AreModelFigures other others f
figures_alike given kept other others told f = (figures_to given kept other others told f, figures_to other others given kept (turned_told given kept other others told) f)

-- ---- a digest of past traces tells of all
module _ (digest : Digest SegmentName (List ℕ)) (past kept : List Kept) (is : IsKeptDigest past digest) where
  all : TellsOfAll by_kept day_of name_cmp (slice_cmp nat_cmp) past kept digest
  all = tells by_kept day_of name_cmp (slice_cmp nat_cmp) name_apart past kept digest is

  pub stands_figures : TellFigures digest kept (past ++ kept)
  stands_figures f = (
    (λ h. record {
      days = (all.days f.days).0 h.days;
      names = (all.names f.names).0 h.names;
      tasks = (all.tasks f.tasks).0 h.tasks;
      hb = (all.ordered_rows f.hb).0 h.hb;
      mx = (all.unordered_rows f.mx).0 h.mx;
      pipe = (all.piped_rows f.pipe).0 h.pipe;
    }),
    (λ h. record {
      days = (all.days f.days).1 h.days;
      names = (all.names f.names).1 h.names;
      tasks = (all.tasks f.tasks).1 h.tasks;
      hb = (all.ordered_rows f.hb).1 h.hb;
      mx = (all.unordered_rows f.mx).1 h.mx;
      pipe = (all.piped_rows f.pipe).1 h.pipe;
    }),
  )

  pub stands_excludes : AgreeApart (SurvivesUnder digest kept) (SurvivesIn (past ++ kept))
  stands_excludes = all.exclusive

-- ---- where nothing is given
pub none_is : IsKeptDigest [] empty_digest
none_is = nothing_is by_kept day_of name_cmp (slice_cmp nat_cmp)

pub alone_figures : (kept : List Kept) → TellFigures empty_digest kept kept
alone_figures kept = stands_figures empty_digest [] kept none_is

pub alone_excludes : (kept : List Kept) → AgreeApart (SurvivesUnder empty_digest kept) (SurvivesIn kept)
alone_excludes kept = stands_excludes empty_digest [] kept none_is
