-- The patterns of the first names of groups.
use Rattle.std.proofs.Common.{◌≡◌, ℕ, zero, suc, ◌<◌, List, [], ◌∷◌, All, length, get_or, map, ap, refl, sym, ◌∙◌, arith}
use Rattle.std.specs.Str.{bytes_eq}
use Rattle.std.proofs.lemmas.List.{get_or-map, length-map}
use Rattle.std.proofs.lemmas.List.Elements.{All-head, All-tail}
use Rattle.std.proofs.lemmas.Simd.{map-map}
use Rattle.alike_groups.proofs.LawLemmas.{firsts_stand}
use Rattle.alike_groups.specs.Groups.{groups_of}
use Rattle.alike_groups.specs.declared.group.Group.{Group}
use Rattle.event_table.specs.Texts.{TextLists}
use Rattle.name_patterns.specs.Patterns.{pattern_of}
use Rattle.segment_names.specs.Known.{same_name}
use Rattle.segment_names.proofs.TextLemmas.{name_means, name_own}
use Rattle.trace_types.proofs.ComparingLemmas.{text_means, text_own}
use Rattle.trace_types.specs.Segments.{SegmentName}
use Rattle.name_quality.specs.Names.{different_names, different_tasks, first_of, first_task_of, name_pattern, name_under, names_under, tasks_in}
use Rattle.name_quality.specs.inner.Labels.{name_pattern_at, task_pattern_at}

map_same : {X : Type 0} (P : Group → Type 0) (g h : Group → X) → ((x : Group) → P x → g x ≡ h x) → (xs : List Group) → All P xs → map g xs ≡ map h xs
map_same P g h is [] all = refl
map_same {X} P g h is (x ∷ xs) all = ap (λ (y : X). y ∷ map g xs) (is x (All-head P x xs all)) ∙ ap (λ (l : List X). h x ∷ l) (map_same P g h is xs (All-tail P x xs all))

module _ (texts : TextLists) (ks : List (ℕ × ℕ × ℕ)) (groups : List Group) (within : All (λ (g : Group). g.first < length ks) groups) where
  abbrev names : List SegmentName
  names = names_under texts ks

  abbrev d : SegmentName
  d = name_under texts (0, 0, 0)

  pub name_patterns : groups ≡ groups_of same_name (names_under texts ks) → map (name_pattern_at texts ks) groups ≡ map name_pattern (different_names (names_under texts ks))
  name_patterns are =
      map_same (λ (g : Group). g.first < length ks) (name_pattern_at texts ks) (λ (g : Group). name_pattern (get_or names g.first d)) (λ g lt. ap name_pattern (sym (get_or-map (name_under texts) ks g.first (0, 0, 0) d lt))) groups within
      ∙ sym (map-map name_pattern (λ (g : Group). get_or names g.first d) groups)
      ∙ ap (map name_pattern) (ap (map (λ (g : Group). get_or names g.first d)) are ∙ firsts_stand same_name name_means name_own names d)

  pub task_patterns : groups ≡ groups_of bytes_eq (tasks_in (names_under texts ks)) → map (task_pattern_at texts ks) groups ≡ map pattern_of (different_tasks (names_under texts ks))
  task_patterns are =
      map_same (λ (g : Group). g.first < length ks) (task_pattern_at texts ks) (λ (g : Group). pattern_of (get_or (tasks_in names) g.first [])) task groups within
      ∙ sym (map-map pattern_of (λ (g : Group). get_or (tasks_in names) g.first []) groups)
      ∙ ap (map pattern_of) (ap (map (λ (g : Group). get_or (tasks_in names) g.first [])) are ∙ firsts_stand bytes_eq text_means text_own (tasks_in names) [])
    where
      task : (g : Group) → g.first < length ks → task_pattern_at texts ks g ≡ pattern_of (get_or (tasks_in names) g.first [])
      task g lt =
          ap pattern_of (sym (get_or-map (λ (n : SegmentName). n.0) names g.first d [] (omega (arith, lt, length-map ks (name_under texts)))
          ∙ ap (λ (n : SegmentName). n.0) (get_or-map (name_under texts) ks g.first (0, 0, 0) d lt)))

-- the first names of groups
pub names_stand : (names : List SegmentName) (groups : List Group) → groups ≡ groups_of same_name names → map (first_of names) groups ≡ different_names names
names_stand names groups are = ap (map (first_of names)) are ∙ firsts_stand same_name name_means name_own names ([], [], [])

pub tasks_stand : (names : List SegmentName) (groups : List Group) → groups ≡ groups_of bytes_eq (tasks_in names) → map (first_task_of names) groups ≡ different_tasks names
tasks_stand names groups are =
    (λ i. map (λ (g : Group). task g i) groups)
    ∙ ap (map (λ (g : Group). get_or (tasks_in names) g.first [])) are ∙ firsts_stand bytes_eq text_means text_own (tasks_in names) []
  where
    task : (g : Group) → first_task_of names g ≡ get_or (tasks_in names) g.first []
    task g = sym (got names g.first)
      where
        got : (ns : List SegmentName) (k : ℕ) → get_or (map (λ (n : SegmentName). n.0) ns) k [] ≡ (get_or ns k ([], [], [])).0
        got [] k = refl
        got (n ∷ ns) zero = refl
        got (n ∷ ns) (suc k) = got ns k
