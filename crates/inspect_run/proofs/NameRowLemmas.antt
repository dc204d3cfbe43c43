-- Rows on names by the groups that stand for them.
use Rattle.std.proofs.Common.{◌≡◌, ◌∙◌, ◌++◌, ℕ, List, ap, append_assoc, drop, length, map, refl, subst, sym}
use Rattle.std.specs.Prelude.{flat_map}
use Rattle.std.specs.List.{AllZip}
use Rattle.std.proofs.lemmas.List.{drop-map, length-map}
use Rattle.std.proofs.lemmas.Simd.{map-map}
use Rattle.alike_groups.specs.declared.group.Group.{Group}
use Rattle.name_patterns.specs.Families.{AreFamilies}
use Rattle.name_patterns.specs.Patterns.{pattern_of}
use Rattle.name_quality.specs.Names.{HasNames, all_names, different_names, different_tasks, first_of, first_task_of, name_label, name_pattern, names_alone}
use Rattle.trace_types.specs.Batch.{PlainTrace}
use Rattle.trace_types.specs.Segments.{SegmentName}
use Rattle.inspect_run.specs.NameRows.{alone_row, family_row, first_text, labels, limit_level, limit_row, name_rows, patterns, subject_kind, subject_limit, subject_text, task_rows}
use Rattle.inspect_run.specs.Rows.{row_text}
use Rattle.inspect_run.specs.declared.level.Level.{Level}
use Rattle.inspect_run.specs.declared.subject.Subject.{Subject}
use Rattle.inspect_run.specs.declared.subject.Subject.TheVariants.{Names, Tasks}
use Rattle.inspect_run.specs.inner.Listing.{AppendsNameRows, AppendsNames, AppendsTasks}

-- the row against a limit, by what its fields are
pub limit_told : {X : Type 0} (f : X → List ℕ) (subject : Subject) (groups beyond : List X) (kind what example : List ℕ) (level : Level) (limit : ℕ) → kind ≡ subject_kind subject → what ≡ subject_text subject → limit ≡ subject_limit subject
    → level ≡ limit_level (length groups) limit → beyond ≡ drop limit groups → example ≡ first_text (map f beyond) → row_text kind level (length groups) limit example what ≡ limit_row subject (map f groups)
limit_told f subject groups beyond kind what example level limit kind_is what_is limit_is level_is beyond_is example_is =
    λ i. row_text (kind_is i) (level_told i) (long i) (limit_is i) (example_told i) (what_is i)
  where
    long : length groups ≡ length (map f groups)
    long = sym (length-map groups f)

    level_told : level ≡ limit_level (length (map f groups)) (subject_limit subject)
    level_told = level_is ∙ (λ i. limit_level (long i) (limit_is i))

    example_told : example ≡ first_text (drop (subject_limit subject) (map f groups))
    example_told = example_is ∙ ap (λ b. first_text (map f b)) beyond_is ∙ ap first_text (sym (drop-map f limit groups)) ∙ ap (λ k. first_text (drop k (map f groups))) limit_is

-- the rows on names, by groups
pub names_told : (names : List SegmentName) (named : List (List SegmentName)) (groups alone families : List Group) → names ≡ all_names named → map (first_of names) groups ≡ different_names names → map (first_of (all_names named)) alone ≡ names_alone named
    → limit_row Names (map (λ g. name_label (first_of names g)) groups) ++ alone_row (map (λ g. name_label (first_of names g)) groups) (map (λ g. name_label (first_of names g)) alone)
    ++ flat_map (family_row Names (map (λ g. name_label (first_of names g)) groups) (map (λ g. name_pattern (first_of names g)) groups)) families ≡ name_rows named families
names_told names named groups alone families are different few =
    λ i. limit_row Names (told i) ++ alone_row (told i) (lone i) ++ flat_map (family_row Names (told i) (shapes i)) families
  where
    told : map (λ g. name_label (first_of names g)) groups ≡ labels Names (all_names named)
    told = sym (map-map name_label (first_of names) groups) ∙ ap (map name_label) different ∙ ap (λ ns. map name_label (different_names ns)) are

    shapes : map (λ g. name_pattern (first_of names g)) groups ≡ patterns Names (all_names named)
    shapes = sym (map-map name_pattern (first_of names) groups) ∙ ap (map name_pattern) different ∙ ap (λ ns. map name_pattern (different_names ns)) are

    lone : map (λ g. name_label (first_of names g)) alone ≡ map name_label (names_alone named)
    lone = ap (λ ns. map (λ g. name_label (first_of ns g)) alone) are ∙ sym (map-map name_label (first_of (all_names named)) alone) ∙ ap (map name_label) few

-- the rows on tasks
pub tasks_told : (names : List SegmentName) (groups families : List Group) → map (first_task_of names) groups ≡ different_tasks names
    → limit_row Tasks (map (λ g. first_task_of names g) groups) ++ flat_map (family_row Tasks (map (λ g. first_task_of names g) groups) (map (λ g. pattern_of (first_task_of names g)) groups)) families ≡ task_rows names families
tasks_told names groups families different =
    λ i. limit_row Tasks (different i) ++ flat_map (family_row Tasks (different i) (shapes i)) families
  where
    shapes : map (λ g. pattern_of (first_task_of names g)) groups ≡ patterns Tasks names
    shapes = sym (map-map pattern_of (first_task_of names) groups) ∙ ap (map pattern_of) different

-- the rows on both
pub both_told : (traces : List PlainTrace) (named : List (List SegmentName)) (names : List SegmentName) (old middle new : List ℕ) → AllZip HasNames traces named → names ≡ all_names named → AppendsNames named old middle → AppendsTasks names middle new
    → AppendsNameRows traces old new
both_told traces named names old middle new each are a t = record {
  rows = name_rows named a.families ++ task_rows (all_names named) t.families;
  told = record {
    named = named;
    each = each;
    of_names = a.families;
    names_told = a.told;
    of_tasks = t.families;
    tasks_told = subst (λ ns. AreFamilies (patterns Tasks ns) t.families) are t.told;
    printed = refl;
  };
  appended =
      t.appended ∙ ap (λ l. l ++ task_rows names t.families) a.appended ∙ append_assoc old (name_rows named a.families) (task_rows names t.families)
      ∙ ap (λ ns. old ++ (name_rows named a.families ++ task_rows ns t.families)) are;
}
