-- Marks of numbers.
use Rattle.std.proofs.Common.{◌≡◌, ℕ, ◌+◌, ◌<◌, ◌≤◌, Bool, true, false, Option, Some, None, zero, suc, List, [], ◌∷◌, ◌++◌, length, get_or, take, map, replicate, refl, sym, ap, ◌∙◌, subst, inl, inr, ⊎_elim, arith}
use Rattle.std.proofs.lemmas.Bool.{false≢true}
use Rattle.std.specs.List.{All, Contains, flat_map, slice_get}
use Rattle.std.specs.Option.{option_map}
use Rattle.std.proofs.lemmas.List.{length-append, map-append, map_more}
use Rattle.std.proofs.lemmas.List.Concat.{flat_map-append}
use Rattle.std.proofs.lemmas.Option.{slice_get_within, get_or_from_slice_get}
use Rattle.std.proofs.lemmas.List.Elements.{All-replicate, Contains-append_left, Contains-append_right, Contains-append_cases}
use Rattle.trace_types.specs.declared.named_segment.NamedSegment.{NamedSegment}
use Rattle.trace_types.specs.NamedSegments.{number_of_name, number_of_task}
use Rattle.trace_types.proofs.ListingLemmas.{Contains-nil}
use Rattle.trace_types.proofs.ElementLemmas.{map_flat_map-more, flat_more}
use Rattle.kept_names.specs.declared.marks.Marks.{Marks}
use Rattle.kept_names.specs.Marking.{AddsMarks, AreMarksOf, HaveRoom, IsMarked, MarksMore}

pub adds_none : (marks : List Bool) → AddsMarks [] marks marks
adds_none marks = record {
  size = refl;
  marked = λ n. ((λ m. inl m), (λ e. ⊎_elim (λ (m : IsMarked marks n). m) (λ (c : Contains [] n). absurd (Contains-nil n c)) e));
}

pub adds_then : (front back : List ℕ) (xs ys zs : List Bool) → AddsMarks front xs ys → AddsMarks back ys zs → AddsMarks (front ++ back) xs zs
adds_then front back xs ys zs p q = record {
  size = q.size ∙ p.size;
  marked = λ n. (
    (λ m. ⊎_elim
        (λ (h : IsMarked ys n). ⊎_elim (λ (g : IsMarked xs n). inl g) (λ (c : Contains front n). inr (Contains-append_left front back n c)) ((p.marked n).0 h))
        (λ (c : Contains back n). inr (Contains-append_right front back n c))
        ((q.marked n).0 m)),
    (λ e. ⊎_elim
        (λ (m : IsMarked xs n). (q.marked n).1 (inl ((p.marked n).1 (inl m))))
        (λ (c : Contains (front ++ back) n). ⊎_elim (λ (d : Contains front n). (q.marked n).1 (inl ((p.marked n).1 (inr d)))) (λ (d : Contains back n). (q.marked n).1 (inr d)) (Contains-append_cases front back n c))
        e),
  );
}

-- the numbers of one more element, and of the elements of one more list
adds_more : {X : Type 0} (f : X → ℕ) (xs : List X) (i : ℕ) (x : X) → i < length xs → x ≡ get_or xs i x → (old now new : List Bool) → AddsMarks (map f (take i xs)) old now → AddsMarks (f x ∷ []) now new → AddsMarks (map f (take (i + 1) xs)) old new
adds_more {X} f xs i x lt at old now new p q =
    let e = map_more f xs i x lt ∙ ap (λ (v : X). map f (take i xs) ++ f v ∷ []) (sym at) in
    subst (λ (l : List ℕ). AddsMarks l old new) (sym e) (adds_then (map f (take i xs)) (f x ∷ []) old now new p q)

adds_more_lists : {X Y : Type 0} (f : X → List Y) (g : Y → ℕ) (xs : List X) (i : ℕ) (x : X) → i < length xs → x ≡ get_or xs i x → (old now new : List Bool) → AddsMarks (map g (flat_map f (take i xs))) old now → AddsMarks (map g (f x)) now new → AddsMarks (map g (flat_map f (take (i + 1) xs))) old new
adds_more_lists f g xs i x lt at old now new p q =
    subst (λ (l : List ℕ). AddsMarks l old new) (sym (map_flat_map-more f g xs i x lt at)) (adds_then (map g (flat_map f (take i xs))) (map g (f x)) old now new p q)

pub marks_none : (marks : Marks) → MarksMore [] marks marks
marks_none marks = record { names = adds_none marks.names.items; tasks = adds_none marks.tasks.items }

pub marks_more : (segments : List NamedSegment) (i : ℕ) (s : NamedSegment) → i < length segments → s ≡ get_or segments i s → (old now new : Marks) → MarksMore (take i segments) old now → MarksMore (s ∷ []) now new → MarksMore (take (i + 1) segments) old new
marks_more segments i s lt at old now new p q = record {
  names = adds_more number_of_name segments i s lt at old.names.items now.names.items new.names.items p.names q.names;
  tasks = adds_more number_of_task segments i s lt at old.tasks.items now.tasks.items new.tasks.items p.tasks q.tasks;
}

pub marks_more_lists : {X : Type 0} (f : X → List NamedSegment) (xs : List X) (i : ℕ) (x : X) → i < length xs → x ≡ get_or xs i x → (old now new : Marks) → MarksMore (flat_map f (take i xs)) old now → MarksMore (f x) now new → MarksMore (flat_map f (take (i + 1) xs)) old new
marks_more_lists f xs i x lt at old now new p q = record {
  names = adds_more_lists f number_of_name xs i x lt at old.names.items now.names.items new.names.items p.names q.names;
  tasks = adds_more_lists f number_of_task xs i x lt at old.tasks.items now.tasks.items new.tasks.items p.tasks q.tasks;
}

-- marks keep their number
pub room_kept : (segments : List NamedSegment) (old new : Marks) → HaveRoom old → MarksMore segments old new → HaveRoom new
room_kept segments old new room more = record { names = more.names.size ∙ room.names; tasks = more.tasks.size ∙ room.tasks }

-- from marks of nothing on
pub marked_from_none : (numbers : List ℕ) (old new : List Bool) → AreMarksOf [] old → AddsMarks numbers old new → AreMarksOf numbers new
marked_from_none numbers old new none adds n = (
  (λ m. ⊎_elim (λ (h : IsMarked old n). absurd (Contains-nil n ((none n).0 h))) (λ (c : Contains numbers n). c) ((adds.marked n).0 m)),
  (λ c. (adds.marked n).1 (inr c)),
)

-- ---- the days of a book
at_map : {X Y : Type 0} (f : X → Y) (o : Option X) (y : Y) → option_map f o ≡ Some y → (x : X) × (o ≡ Some x) × (f x ≡ y)
at_map f None y e = cc
at_map f (Some x) y e = (x, refl, cc)

pub lists_more : {X Y : Type 0} (f : X → List Y) (xs : List X) (i : ℕ) (ys : List Y) → option_map f (slice_get xs i) ≡ Some ys → flat_map f (take (i + 1) xs) ≡ flat_map f (take i xs) ++ ys
lists_more {X} {Y} f xs i ys e =
    let r = at_map f (slice_get xs i) ys e in
    flat_more f xs i r.0 (slice_get_within xs i r.0 r.1) (sym (get_or_from_slice_get xs i r.0 r.0 r.1)) ∙ ap (λ (l : List Y). flat_map f (take i xs) ++ l) r.2

pub lists_within : {X Y : Type 0} (f : X → List Y) (xs : List X) (i : ℕ) → length (flat_map f (take i xs)) ≤ length (flat_map f xs)
lists_within f [] zero = omega arith
lists_within f [] (suc i) = omega arith
lists_within f (x ∷ xs) zero = omega arith
lists_within f (x ∷ xs) (suc i) = let rest = lists_within f xs i in omega (arith, rest, length-append (f x) (flat_map f (take i xs)), length-append (f x) (flat_map f xs))

-- the marks of segments and then of others
pub marks_then : (front back : List NamedSegment) (old now new : Marks) → MarksMore front old now → MarksMore back now new → MarksMore (front ++ back) old new
marks_then front back old now new p q = record {
  names = subst (λ (l : List ℕ). AddsMarks l old.names.items new.names.items) (sym (map-append number_of_name front back)) (adds_then (map number_of_name front) (map number_of_name back) old.names.items now.names.items new.names.items p.names q.names);
  tasks = subst (λ (l : List ℕ). AddsMarks l old.tasks.items new.tasks.items) (sym (map-append number_of_task front back)) (adds_then (map number_of_task front) (map number_of_task back) old.tasks.items now.tasks.items new.tasks.items p.tasks q.tasks);
}

pub marks_more_days : {X Y : Type 0} (f : X → List Y) (g : Y → List NamedSegment) (xs : List X) (i : ℕ) (ys : List Y) → option_map f (slice_get xs i) ≡ Some ys → (old now new : Marks) → MarksMore (flat_map g (flat_map f (take i xs))) old now → MarksMore (flat_map g ys) now new → MarksMore (flat_map g (flat_map f (take (i + 1) xs))) old new
marks_more_days {X} {Y} f g xs i ys e old now new p q =
    let same = ap (flat_map g) (lists_more f xs i ys e) ∙ flat_map-append g (flat_map f (take i xs)) ys in
    subst (λ (l : List NamedSegment). MarksMore l old new) (sym same) (marks_then (flat_map g (flat_map f (take i xs))) (flat_map g ys) old now new p q)

-- marks that are all off
pub none_marked : (n : ℕ) (marks : List Bool) → marks ≡ replicate n false → AreMarksOf [] marks
none_marked n marks e k = (
  (λ m.
      let inside = slice_get_within marks k true m in
      let off : All (λ (b : Bool). b ≡ false) marks = subst (All (λ (b : Bool). b ≡ false)) (sym e) (All-replicate (λ (b : Bool). b ≡ false) n false refl) in
      absurd (false≢true (sym (off k true inside) ∙ get_or_from_slice_get marks k true true m))),
  (λ c. absurd (Contains-nil k c)),
)
