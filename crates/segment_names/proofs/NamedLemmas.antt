-- The named trace keeps what the trace keeps, and is the trace renamed.
use Rattle.std.proofs.Common.{◌≡◌, ℕ, suc, ◌+◌, ◌<◌, ◌↔◌, List, [], ◌∷◌, length, get_or, slice_get, Option, Some, None, true, Contains, sym, ap, ◌∙◌, subst, arith}
use Rattle.std.proofs.lemmas.Bool.{eqb-true}
use Rattle.std.specs.List.{AllZip, enumerate_from}
use Rattle.std.specs.Str.{bytes_eq}
use Rattle.trace_types.specs.declared.named_segment.NamedSegment.{NamedSegment}
use Rattle.trace_types.specs.declared.segment.Segment.{Segment}
use Rattle.trace_types.specs.NamedSegments.{number_of_name, number_of_task, number_of_element, named_start, named_end}
use Rattle.trace_types.specs.Parts.{by_number, by_text}
use Rattle.trace_types.specs.Renaming.{AreOptionsMatched, IsSegmentRenamed}
use Rattle.trace_types.specs.SegmentLists.{NamesDiffer, TasksStandTogether, JoinInTasks, ElementsCountUp}
use Rattle.trace_types.specs.Segments.{SegmentName, name_of, task_of, start_of, end_of}
use Rattle.trace_types.proofs.ComparingLemmas.{text_means, text_own}
use Rattle.segment_names.specs.Known.{Known}
use Rattle.event_table.specs.Texts.{AreDifferent}
use Rattle.segment_names.specs.inner.Numbering.{AreNumbered, IsElementAt}
use Rattle.segment_names.proofs.FindLemmas.{index-means}

-- one index has one element
one_there : {X : Type 0} (xs : List X) (i j : ℕ) (x y : X) → slice_get xs i ≡ Some x → slice_get xs j ≡ Some y → i ≡ j → x ≡ y
one_there xs i j x y a b e = let s : Some x ≡ Some y = sym a ∙ ap (slice_get xs) e ∙ b in cc

-- where texts differ, one text has one index
one_index : (xs : List (List ℕ)) → AreDifferent xs → (i j : ℕ) (x y : List ℕ) → slice_get xs i ≡ Some x → slice_get xs j ≡ Some y → x ≡ y → i ≡ j
one_index xs differ i j x y a b e = eqb-true i j (index-means bytes_eq text_means text_own xs differ i j x y a b ∙ subst (λ (z : List ℕ). bytes_eq x z ≡ true) e (text_own x))

pub names_differ : (known : Known) (segments : List Segment) (named : List NamedSegment) → AreNumbered known segments named → NamesDiffer name_of segments → NamesDiffer number_of_name named
names_differ known [] named v differ i j d l h e = let n = v.numbers.long in absurd (omega arith)
names_differ known (x ∷ xs) named v differ i j d l h e =
    let n = v.numbers.long in
    let lj : j < length (x ∷ xs) = omega arith in
    let a = v.numbers.each i d x (omega arith) in
    let b = v.numbers.each j d x lj in
    differ i j x l lj (one_there known.names (get_or named i d).name (get_or named j d).name (name_of (get_or (x ∷ xs) i x)) (name_of (get_or (x ∷ xs) j x)) a.name b.name e)

pub together : (known : Known) (segments : List Segment) (named : List NamedSegment) → AreNumbered known segments named → TasksStandTogether task_of segments → TasksStandTogether number_of_task named
together known [] named v stand i j k d l m h e = let n = v.numbers.long in absurd (omega arith)
together known (x ∷ xs) named v stand i j k d l m h e =
    let n = v.numbers.long in
    let lk : k < length (x ∷ xs) = omega arith in
    let a = v.numbers.each i d x (omega arith) in
    let b = v.numbers.each j d x (omega arith) in
    let c = v.numbers.each k d x lk in
    let same = one_there known.tasks (get_or named i d).task (get_or named k d).task (get_or (x ∷ xs) i x).task (get_or (x ∷ xs) k x).task a.task c.task e in
    one_index known.tasks v.kept.tasks_differ (get_or named j d).task (get_or named k d).task (get_or (x ∷ xs) j x).task (get_or (x ∷ xs) k x).task b.task c.task (stand i j k x l m lk same)

pub joined : (known : Known) (segments : List Segment) (named : List NamedSegment) → AreNumbered known segments named → JoinInTasks task_of start_of end_of segments → JoinInTasks number_of_task named_start named_end named
joined known [] named v join = λ k d h. let n = v.numbers.long in absurd (omega arith)
joined known (x ∷ xs) named v join = λ k d h e.
    let n = v.numbers.long in
    let lk : k + 1 < length (x ∷ xs) = omega arith in
    let a = v.numbers.each k d x (omega arith) in
    let b = v.numbers.each (k + 1) d x lk in
    a.end ∙ join k x lk (one_there known.tasks (get_or named k d).task (get_or named (k + 1) d).task (get_or (x ∷ xs) k x).task (get_or (x ∷ xs) (k + 1) x).task a.task b.task e) ∙ sym b.start

pub elements_count : (known : Known) (segments : List Segment) (named : List NamedSegment) → AreNumbered known segments named → ElementsCountUp number_of_element named
elements_count known segments named v k h = let c = v.numbers.counted.count in v.numbers.counted.each k (omega arith)

-- lists that agree index by index
zip_from : {A B : Type 0} (R : A → B → Type 0) (xs : List A) (ys : List B) → length xs ≡ length ys → ((k : ℕ) (d : A) (e : B) → k < length xs → R (get_or xs k d) (get_or ys k e)) → AllZip R xs ys
zip_from R [] [] l all = tt
zip_from R [] (y ∷ ys) l all = absurd (omega arith)
zip_from R (x ∷ xs) [] l all = absurd (omega arith)
zip_from R (x ∷ xs) (y ∷ ys) l all = (all 0 x y (omega arith), zip_from R xs ys (omega arith) (λ k d e h. all (suc k) d e (omega arith)))

option_matched : (texts : List (List ℕ)) → ((k : ℕ) (x : List ℕ) → Contains (enumerate_from 0 texts) (k, x) ↔ (slice_get texts k ≡ Some x))
    → (number : Option ℕ) (text : Option (List ℕ)) → IsElementAt texts number text → AreOptionsMatched (enumerate_from 0 texts) number text
option_matched texts matched None None h = tt
option_matched texts matched None (Some t) h = absurd h
option_matched texts matched (Some n) None h = absurd h
option_matched texts matched (Some n) (Some t) h = (matched n t).1 h

pub renamed : (known : Known) (segments : List Segment) (named : List NamedSegment) (v : AreNumbered known segments named)
    → ((xs : List SegmentName) (k : ℕ) (x : SegmentName) → Contains (enumerate_from 0 xs) (k, x) ↔ (slice_get xs k ≡ Some x))
    → ((xs : List (List ℕ)) (k : ℕ) (x : List ℕ) → Contains (enumerate_from 0 xs) (k, x) ↔ (slice_get xs k ≡ Some x))
    → AllZip (IsSegmentRenamed by_number by_text (enumerate_from 0 known.names) (enumerate_from 0 known.tasks) (enumerate_from 0 v.elements)) named segments
renamed known segments named v names texts = zip_from (IsSegmentRenamed by_number by_text (enumerate_from 0 known.names) (enumerate_from 0 known.tasks) (enumerate_from 0 v.elements)) named segments v.numbers.long
    (λ k d e h. let n = v.numbers.long in let a = v.numbers.each k d e (omega arith) in let s = get_or named k d in let x = get_or segments k e in record {
      name = (names known.names s.name (name_of x)).1 a.name;
      task = (texts known.tasks s.task x.task).1 a.task;
      element = option_matched v.elements (texts v.elements) s.element x.element a.element;
      start = sym a.start;
      end = sym a.end;
    })
