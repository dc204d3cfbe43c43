-- What a slot says of the segments with its numbers.
use Rattle.std.proofs.Common.{◌≡◌, ◌≢◌, ℕ, ◌<◌, ◌≤◌, ◌+◌, List, [], ◌∷◌, ◌++◌, length, get_or, map, slice_get, Option, Some, None, Bool, Bor, refl, sym, ap, ◌∙◌, subst, set, arith}
use Rattle.std.proofs.lemmas.List.{get_or-map, length-map, length-set}
use Rattle.std.proofs.lemmas.List.Elements.{All-set}
use Rattle.std.proofs.lemmas.Option.{get_or_from_slice_get, slice_get_read, slice_get_within}
use Rattle.std.specs.Prelude.{is_some, option_copied, All}
use Rattle.std.specs.Option.{option_to_list}
use Rattle.std.specs.Str.{bytes_eq}
use Rattle.trace_types.specs.Firsts.{firsts_of}
use Rattle.trace_types.specs.Limits.{most_names, most_tasks}
use Rattle.trace_types.specs.declared.named_segment.NamedSegment.{NamedSegment}
use Rattle.event_table.specs.Texts.{AreDifferent}
use Rattle.trace_types.specs.declared.segment.Segment.{Segment}
use Rattle.trace_types.specs.Segments.{SegmentName, name_of}
use Rattle.event_table.specs.Numbers.{text_under}
use Rattle.event_table.specs.Texts.{TextLists}
use Rattle.segment_cut.specs.Elements.{element_in}
use Rattle.segment_cut.specs.NumberedCuts.{segment_under, segments_under}
use Rattle.segment_cut.specs.declared.cut_segment.CutSegment.{CutSegment}
use Rattle.segment_names.specs.Known.{Known, name_number}
use Rattle.segment_names.specs.Limits.{IsKept}
use Rattle.segment_names.specs.Naming.{HasUnknown}
use Rattle.segment_names.specs.inner.Numbering.{AreNumbered, IsElementAt, IsNumbered, NumbersFirst}
use Rattle.segment_names.proofs.NumberingLemmas.{is_numbered, numbers_more}
use Rattle.segment_names.specs.declared.slot.Slot.{Slot}
use Rattle.segment_names.specs.inner.Slots.{AreSlots, IsKnownAs, IsOf, IsRight, no_name}

-- the text that a table has under a number
pub text_there : (texts own : List (List ℕ)) (n : ℕ) (x : List ℕ) → own ≡ texts → slice_get own n ≡ Some x → x ≡ text_under texts n
text_there texts own n x same at = sym (get_or_from_slice_get texts n x [] (subst (λ (l : List (List ℕ)). slice_get l n ≡ Some x) same at))

abbrev pub triple : List ℕ → List ℕ → List ℕ → SegmentName
triple a b c = (a, b, c)

pub same_texts : (a b c x y z : List ℕ) → a ≡ x → b ≡ y → c ≡ z → triple a b c ≡ triple x y z
same_texts a b c x y z p q r = λ j. (p j, q j, r j)

pub copied_some : (o : Option (Bor (List ℕ))) → is_some (option_copied o) ≡ is_some o
copied_some None = refl
copied_some (Some r) = refl

-- what is known of one segment is known of each with its numbers
pub known_alike : (known : Known) (texts : TextLists) (slot : Slot) (s r : CutSegment) → IsOf slot s → IsOf slot r → IsKnownAs known (segment_under texts s) slot → IsKnownAs known (segment_under texts r) slot
known_alike known texts slot s r of_s of_r k =
    let task : text_under texts.tasks s.task ≡ text_under texts.tasks r.task = ap (text_under texts.tasks) (sym of_s.task ∙ of_r.task) in
    let start : text_under texts.names s.start_event ≡ text_under texts.names r.start_event = ap (text_under texts.names) (sym of_s.start_event ∙ of_r.start_event) in
    let end : text_under texts.names s.end_event ≡ text_under texts.names r.end_event = ap (text_under texts.names) (sym of_s.end_event ∙ of_r.end_event) in
    record {
      name = k.name ∙ (λ j. Some (task j, start j, end j));
      task = k.task ∙ ap (λ (t : List ℕ). Some t) task;
      element = k.element ∙ ap (λ (t : List ℕ). is_some (element_in t)) start;
    }

-- a slot is right once it is filled by what is known of a segment with its numbers
pub right_slot : (known : Known) (texts : TextLists) (slot : Slot) (s : CutSegment) → IsOf slot s → IsKnownAs known (segment_under texts s) slot → IsRight known texts slot
right_slot known texts slot s of k filled r of_r = known_alike known texts slot s r of of_r k

pub slots_set : (known : Known) (texts : TextLists) (slots : List Slot) (place : ℕ) (slot : Slot) (s : CutSegment) → AreSlots known texts slots → IsOf slot s → IsKnownAs known (segment_under texts s) slot
    → AreSlots known texts (set slots place slot)
slots_set known texts slots place slot s are of k = record {
  count = length-set slots place slot ∙ are.count;
  right = All-set (IsRight known texts) slots place slot (right_slot known texts slot s of k) are.right;
}

-- the numbers of a segment are below the limits
pub known_below : (known : Known) (x : Segment) (slot : Slot) → IsKept known → IsKnownAs known x slot → (slot.name < most_names) × (slot.known_task < most_tasks)
known_below known x slot kept k =
    let name = slice_get_within known.names slot.name (name_of x) k.name in
    let task = slice_get_within known.tasks slot.known_task x.task k.task in
    let names = kept.few_names in
    let tasks = kept.few_tasks in (omega arith, omega arith)

-- ---- segments by numbers

pub under_there : (texts : TextLists) (segments : List CutSegment) (n : ℕ) (s : CutSegment) → n < length segments → s ≡ get_or segments n s
    → segment_under texts s ≡ get_or (segments_under texts segments) n (segment_under texts s)
under_there texts segments n s h at = ap (segment_under texts) at ∙ sym (get_or-map (segment_under texts) segments n s (segment_under texts s) h)

pub unknown_there : (known : Known) (texts : TextLists) (segments : List CutSegment) (n : ℕ) (s : CutSegment) → n < length segments → s ≡ get_or segments n s
    → name_number known (name_of (segment_under texts s)) ≡ None → HasUnknown known (segments_under texts segments)
unknown_there known texts segments n s h at none =
    let long : length (segments_under texts segments) ≡ length segments = length-map segments (segment_under texts) in
    (n, (segment_under texts s, slice_get_read (segments_under texts segments) (length (segments_under texts segments)) n (segment_under texts s) refl (omega arith) (under_there texts segments n s h at), none))

-- one segment more
pub next_numbered : (known : Known) (keys new more : List (List ℕ)) (texts : TextLists) (segments : List CutSegment) (n : ℕ) (named then : List NamedSegment) (d : NamedSegment) (s : CutSegment) (slot : Slot)
    (element : Option (List ℕ)) (number : Option ℕ) → NumbersFirst known keys (segments_under texts segments) n named → n < length segments → s ≡ get_or segments n s → IsKnownAs known (segment_under texts s) slot
    → element ≡ (segment_under texts s).element → new ≡ keys ++ more → AreDifferent new → new ≡ firsts_of bytes_eq (keys ++ option_to_list element) → IsElementAt new number element
    → d.name ≡ slot.name → d.task ≡ slot.known_task → d.element ≡ number → d.start ≡ s.start → d.end ≡ s.end → then ≡ named ++ d ∷ [] → NumbersFirst known new (segments_under texts segments) (n + 1) then
next_numbered known keys new more texts segments n named then d s slot element number v h at k given grown differ firsts there name task own start end is =
    let x : Segment = segment_under texts s in
    let long : length (segments_under texts segments) ≡ length segments = length-map segments (segment_under texts) in
    let numbered : IsNumbered known new d x = is_numbered known new d x slot.name slot.known_task number name task own start end k.name k.task (subst (IsElementAt new number) given there) in
    subst (NumbersFirst known new (segments_under texts segments) (n + 1)) (sym is)
    (numbers_more known keys new more (segments_under texts segments) n named d x v grown differ (firsts ∙ ap (λ (e : Option (List ℕ)). firsts_of bytes_eq (keys ++ option_to_list e)) given) numbered (omega arith) (under_there texts segments n s h at))

pub all_numbered : (known : Known) (keys : List (List ℕ)) (texts : TextLists) (segments : List CutSegment) (n : ℕ) (named : List NamedSegment) → IsKept known
    → NumbersFirst known keys (segments_under texts segments) n named → n ≡ length segments → AreNumbered known (segments_under texts segments) named
all_numbered known keys texts segments n named kept v end = record {
  elements = keys;
  numbers = subst (λ (m : ℕ). NumbersFirst known keys (segments_under texts segments) m named) (end ∙ sym (length-map segments (segment_under texts))) v;
  kept = kept;
}
