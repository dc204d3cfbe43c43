-- Names are good texts.
use Rattle.std.proofs.Common.{◌≡◌, ◌⊎◌, inl, inr, ℕ, ◌+◌, ◌^◌, ◌<◌, ◌≤◌, ◌==◌, ◌||◌, List, [], ◌∷◌, ◌++◌, All, Bool, true, false, cond, Option, Some, None, length, get_or, map, decimal, codes, refl, sym, ◌∙◌, subst, arith, eqb}
use Rattle.std.specs.Prelude.{nat_le, nat_lt, IfSome}
use Rattle.std.specs.Char.{is_ascii_digit}
use Rattle.std.specs.List.{list_all, list_any, position_or_len, range_with_len}
use Rattle.std.specs.Str.{IsUtf8, bytes_eq}
use Rattle.std.proofs.lemmas.Bool.{and_parts, cases_lt, le-ltb, leb-true, ne_eqb, or_from}
use Rattle.std.proofs.lemmas.Fmt.{IsAscii-decimal, digits_decimal, length-decimal-le}
use Rattle.std.proofs.lemmas.List.{get_or-map, get_or_past, length-append, length-map}
use Rattle.std.proofs.lemmas.List.Elements.{All-cons, All-from_get_or, All-nil}
use Rattle.std.proofs.lemmas.List.FromFn.{length-range_with_len}
use Rattle.std.proofs.lemmas.List.Sorted.{length_permutation}
use Rattle.std.proofs.lemmas.Str.{IsUtf8-append, IsUtf8-from_ascii}
use Rattle.json.proofs.Printed.Utf8.{IsUtf8-are_ascii}
use Rattle.trace_types.proofs.DecimalLemmas.{decimal_numerals}
use Rattle.trace_types.proofs.ShortLemmas.{filter-short}
use Rattle.event_lines.specs.EventFaults.{is_control_character}
use Rattle.span_names.specs.Names.{base_of, gap_text, most_of_event, most_of_task, numbered, piece_text, stands_alone}
use Rattle.span_names.specs.declared.piece.Piece.{Piece}
use Rattle.call_trees.specs.Ordinals.{ordinals_of}
use Rattle.call_trees.specs.Tables.{table_of}
use Rattle.call_trees.proofs.TableLemmas.{get_or-table, length-table}
use Rattle.call_contexts.specs.Contexts.{Frame}
use Rattle.context_names.specs.Bases.{base_within, event_base, plain_name, task_base}
use Rattle.context_names.specs.Labels.{label_at, label_eq, label_numbers}
use Rattle.context_names.specs.Numbers.{base_at, base_numbers}
use Rattle.context_names.specs.Scattering.{value_of}
use Rattle.context_names.specs.Tasks.{first_of_threads}
use Rattle.context_names.proofs.OnceLemmas.{order_size}
use Rattle.context_names.proofs.OrdinalLemmas.{length-ordinals, ordinal_few}
use Rattle.context_names.proofs.ValueLemmas.{get_or-scattered}
use Rattle.name_laws.specs.GoodNames.{EventsAreGood, HaveTexts, IsLineText, IsShortPiece, MachinesAreGood, TasksAreGood, endings}
use Rattle.name_laws.proofs.BaseLemmas.{IsClean, IsPiece, base_piece, base_some, both_pieces, not_control}

good_of : (most : ℕ) (text : List ℕ) → most ≤ 64 → IsPiece most text → 0 < length text → IsLineText text
good_of most text low h some = record {
  utf8 = h.utf8;
  good =
      or_from (length text == 0 || nat_lt 64 (length text)) (list_any is_control_character text)
      (or_from (length text == 0) (nat_lt 64 (length text)) (ne_eqb (length text) 0 (λ e. omega (arith, e, some))) (le-ltb 64 (length text) (omega (arith, h.short, low)))) h.clean;
}

-- ---- numbers

digits_clean : (ds : List ℕ) → list_all is_ascii_digit ds ≡ true → IsClean ds
digits_clean [] h = refl
digits_clean (d ∷ ds) h =
    let p = and_parts (is_ascii_digit d) (list_all is_ascii_digit ds) h in
    let q = and_parts (nat_le 48 d) (nat_le d 57) p.0 in
    or_from (is_control_character d) (list_any is_control_character ds) (not_control d (omega (arith, leb-true 48 d q.0)) (omega (arith, leb-true d 57 q.1))) (digits_clean ds p.1)

number_piece : (n : ℕ) → n < 10 ^ 7 → IsPiece 7 (decimal n)
number_piece n few = record {
  utf8 = IsUtf8-from_ascii (decimal n) (IsAscii-decimal n (omega (arith, few)));
  short = length-decimal-le 7 n (omega arith) few (omega (arith, few));
  clean = digits_clean (decimal n) (digits_decimal decimal_numerals n (omega (arith, few)));
}

sign_piece : IsPiece 1 (codes "#")
sign_piece = record { utf8 = IsUtf8-are_ascii (codes "#") refl; short = omega arith; clean = refl }

slash_piece : IsPiece 1 (codes "/")
slash_piece = record { utf8 = IsUtf8-are_ascii (codes "/") refl; short = omega arith; clean = refl }

point_piece : IsPiece 1 (codes ".")
point_piece = record { utf8 = IsUtf8-are_ascii (codes ".") refl; short = omega arith; clean = refl }

none_piece : (m : ℕ) → IsPiece m []
none_piece m = record { utf8 = IsUtf8-are_ascii [] refl; short = omega arith; clean = refl }

gap_piece : (gap : Option ℕ) → IfSome gap (λ g. g < 10 ^ 7) → IsPiece 8 (gap_text gap)
gap_piece None h = none_piece 8
gap_piece (Some g) h = both_pieces 1 7 (codes ".") (decimal g) point_piece (number_piece g h)

-- how many bytes a piece takes at most
abbrev room : Option Piece → ℕ
room None = 0
room (Some piece) = 16

piece_piece : (p : Option Piece) → IsShortPiece p → IsPiece (room p) (piece_text p)
piece_piece None h = none_piece 0
piece_piece (Some piece) h = both_pieces 8 8 (codes "/" ++ decimal piece.number) (gap_text piece.gap) (both_pieces 1 7 (codes "/") (decimal piece.number) slash_piece (number_piece piece.number h.0)) (gap_piece piece.gap h.1)

module _ (most : ℕ) (base : List ℕ) (n : ℕ) (p : Option Piece) where
  abbrev by_case : Bool → List ℕ
  by_case b = cond b base (base ++ codes "#" ++ decimal n ++ piece_text p)

  numbered_piece : IsPiece most base → n < 10 ^ 7 → IsShortPiece p → IsPiece (most + 1 + 7 + room p) (numbered base n p)
  numbered_piece h few short = by (stands_alone base n p)
    where
      by : (b : Bool) → IsPiece (most + 1 + 7 + room p) (cond b base (base ++ codes "#" ++ decimal n ++ piece_text p))
      by true = record { utf8 = h.utf8; short = omega (arith, h.short); clean = h.clean }
      by false = both_pieces (most + 1 + 7) (room p) (base ++ codes "#" ++ decimal n) (piece_text p) (both_pieces (most + 1) 7 (base ++ codes "#") (decimal n) (both_pieces most 1 base (codes "#") h sign_piece) (number_piece n few)) (piece_piece p short)

  numbered_some : 0 < length base → 0 < length (numbered base n p)
  numbered_some some = by (stands_alone base n p)
    where
      by : (b : Bool) → 0 < length (cond b base (base ++ codes "#" ++ decimal n ++ piece_text p))
      by true = some
      by false = omega (arith, length-append (base ++ codes "#" ++ decimal n) (piece_text p), length-append (base ++ codes "#") (decimal n), length-append base (codes "#"))

-- ---- numbers of names

number_low : {K : Type 0} (like : K → K → Bool) (key : ℕ → K) (order : List ℕ) (x : ℕ) → value_of order (ordinals_of like (map key order)) x ≤ length order
number_low {K} like key order x = by (cases_lt place (length order))
  where
    place : ℕ
    place = position_or_len (λ n. eqb n x) order

    size : length (map key order) ≡ length order
    size = length-map order key

    by : (position_or_len (λ n. eqb n x) order < length order) ⊎ (length order ≤ position_or_len (λ n. eqb n x) order) → value_of order (ordinals_of like (map key order)) x ≤ length order
    by (inl lt) = omega (arith, ordinal_few like (map key order) (position_or_len (λ n. eqb n x) order) (key x) (omega (arith, lt, size)), lt)
    by (inr ge) = omega (arith, get_or_past (ordinals_of like (map key order)) (position_or_len (λ n. eqb n x) order) 0 (omega (arith, ge, length-ordinals like (map key order), size)))

-- ---- bases

module _ (contexts : List Frame) (h : HaveTexts contexts) (x : ℕ) (lt : x < length contexts) (most : ℕ) (four : 4 ≤ most) where
  no : Frame
  no = record { above = None; service = []; name = []; ordinal = 0 }

  plain_utf8 : IsUtf8 (plain_name (get_or contexts x (record { above = None; service = []; name = []; ordinal = 0 })))
  plain_utf8 =
      let f : Frame = get_or contexts x (record { above = None; service = []; name = []; ordinal = 0 }) in
      let t = h x (record { above = None; service = []; name = []; ordinal = 0 }) lt in
      IsUtf8-append (f.service ++ codes " ") f.name (IsUtf8-append f.service (codes " ") t.0 (IsUtf8-are_ascii (codes " ") refl)) t.1

  base_is : base_at (map (base_within most) contexts) x ≡ base_of most (plain_name (get_or contexts x (record { above = None; service = []; name = []; ordinal = 0 })))
  base_is = get_or-map (base_within most) contexts x (record { above = None; service = []; name = []; ordinal = 0 }) [] lt

  context_piece : IsPiece most (base_at (map (base_within most) contexts) x)
  context_piece = subst (IsPiece most) (sym base_is) (base_piece most (plain_name (get_or contexts x (record { above = None; service = []; name = []; ordinal = 0 }))) four plain_utf8)

  context_some : 0 < length (base_at (map (base_within most) contexts) x)
  context_some =
      let f : Frame = get_or contexts x (record { above = None; service = []; name = []; ordinal = 0 }) in
      subst (λ (t : List ℕ). 0 < length t) (sym base_is) (base_some most (plain_name f) four plain_utf8 (omega (arith, length-append (f.service ++ codes " ") f.name, length-append f.service (codes " "))))

-- ---- events

ending_good : (label : List ℕ) → IsPiece 56 label → All (λ (ending : List ℕ). IsLineText (label ++ ending)) endings
ending_good label h =
    All-cons P (codes " start") (codes " end" ∷ codes " forks" ∷ codes " joined" ∷ []) (one (codes " start") start (omega (arith, length-append label (codes " start"))))
    (All-cons P (codes " end") (codes " forks" ∷ codes " joined" ∷ []) (one (codes " end") end (omega (arith, length-append label (codes " end"))))
    (All-cons P (codes " forks") (codes " joined" ∷ []) (one (codes " forks") forks (omega (arith, length-append label (codes " forks"))))
    (All-cons P (codes " joined") [] (one (codes " joined") joined (omega (arith, length-append label (codes " joined")))) (All-nil P))))
  where
    P : List ℕ → Type 0
    P ending = IsLineText (label ++ ending)

    start : IsPiece 7 (codes " start")
    start = record { utf8 = IsUtf8-are_ascii (codes " start") refl; short = omega arith; clean = refl }

    end : IsPiece 7 (codes " end")
    end = record { utf8 = IsUtf8-are_ascii (codes " end") refl; short = omega arith; clean = refl }

    forks : IsPiece 7 (codes " forks")
    forks = record { utf8 = IsUtf8-are_ascii (codes " forks") refl; short = omega arith; clean = refl }

    joined : IsPiece 7 (codes " joined")
    joined = record { utf8 = IsUtf8-are_ascii (codes " joined") refl; short = omega arith; clean = refl }

    one : (ending : List ℕ) → IsPiece 7 ending → 0 < length (label ++ ending) → IsLineText (label ++ ending)
    one ending k some = good_of 63 (label ++ ending) (omega arith) (both_pieces 56 7 label ending h k) some

pub events_good : EventsAreGood
events_good contexts order below threads above ordered h few x lt = ending_good (get_or (table_of f (length bases)) x []) (subst (IsPiece 56) (sym is) (numbered_piece 48 (base_at bases x) (get_or numbers x 0) None (context_piece contexts h x lt most_of_event (omega arith)) low tt))
  where
    bases : List (List ℕ)
    bases = map event_base contexts

    numbers : List ℕ
    numbers = label_numbers order threads (map event_base contexts)

    f : ℕ → List ℕ
    f k = numbered (base_at (map event_base contexts) k) (get_or (label_numbers order threads (map event_base contexts)) k 0) None

    size : length (map event_base contexts) ≡ length contexts
    size = length-map contexts event_base

    is : get_or (table_of f (length (map event_base contexts))) x [] ≡ numbered (base_at (map event_base contexts) x) (get_or (label_numbers order threads (map event_base contexts)) x 0) None
    is = get_or-table f (length (map event_base contexts)) x [] (omega (arith, lt, size))

    low : get_or (label_numbers order threads (map event_base contexts)) x 0 < 10 ^ 7
    low = omega (arith, get_or-scattered (length (map event_base contexts)) order (ordinals_of label_eq (map (label_at threads (map event_base contexts)) order)) x 0 (omega (arith, lt, size)), number_low label_eq (label_at threads (map event_base contexts)) order x, order_size contexts order below ordered above, few)

-- ---- tasks

pub tasks_good : TasksAreGood
tasks_good contexts order below threads above ordered h few x lt p short =
    good_of (40 + 1 + 7 + room p) (numbered (base_at (map task_base contexts) x) (get_or (base_numbers (map task_base contexts) (first_of_threads order threads)) x 0) p) (most p)
    (numbered_piece 40 (base_at (map task_base contexts) x) (get_or (base_numbers (map task_base contexts) (first_of_threads order threads)) x 0) p (context_piece contexts h x lt most_of_task (omega arith)) low short)
    (numbered_some 40 (base_at (map task_base contexts) x) (get_or (base_numbers (map task_base contexts) (first_of_threads order threads)) x 0) p (context_some contexts h x lt most_of_task (omega arith)))
  where
    size : length (map task_base contexts) ≡ length contexts
    size = length-map contexts task_base

    most : (p : Option Piece) → 40 + 1 + 7 + room p ≤ 64
    most None = omega arith
    most (Some piece) = omega arith

    low : get_or (base_numbers (map task_base contexts) (first_of_threads order threads)) x 0 < 10 ^ 7
    low = omega (
      arith,
      get_or-scattered (length (map task_base contexts)) (first_of_threads order threads) (ordinals_of bytes_eq (map (base_at (map task_base contexts)) (first_of_threads order threads))) x 0 (omega (arith, lt, size)),
      number_low bytes_eq (base_at (map task_base contexts)) (first_of_threads order threads) x,
      filter-short (λ n. eqb (get_or threads n 0) n) order,
      order_size contexts order below ordered above,
      few,
    )

-- ---- machines

pub machines_good : MachinesAreGood
machines_good machines names h texts few = subst (All IsLineText) (sym h.numbered) (All-from_get_or IsLineText (table_of f (length bases)) [] (λ i lt. subst IsLineText (sym (get_or-table f (length bases) i [] (omega (arith, lt, length-table f (length bases))))) (good i (omega (arith, lt, length-table f (length bases), size)))))
  where
    bases : List (List ℕ)
    bases = map (base_of most_of_event) machines

    f : ℕ → List ℕ
    f k = numbered (base_at (map (base_of most_of_event) machines) k) (get_or (base_numbers (map (base_of most_of_event) machines) h.order) k 0) None

    size : length (map (base_of most_of_event) machines) ≡ length machines
    size = length-map machines (base_of most_of_event)

    count : length h.order ≡ length machines
    count = length_permutation (range_with_len 0 (length machines)) h.order h.ordered.all ∙ length-range_with_len 0 (length machines)

    good : (i : ℕ) → i < length machines → IsLineText (f i)
    good i lt =
        let m = get_or machines i [] in
        let t = texts i [] lt in
        let is : base_at (map (base_of most_of_event) machines) i ≡ base_of most_of_event m = get_or-map (base_of most_of_event) machines i [] [] lt in
        let n = get_or (base_numbers (map (base_of most_of_event) machines) h.order) i 0 in
        let low : n < 10 ^ 7 = omega (arith, get_or-scattered (length (map (base_of most_of_event) machines)) h.order (ordinals_of bytes_eq (map (base_at (map (base_of most_of_event) machines)) h.order)) i 0 (omega (arith, lt, size)), number_low bytes_eq (base_at (map (base_of most_of_event) machines)) h.order i, count, few) in
        good_of 56 (f i) (omega arith)
        (numbered_piece 48 (base_at (map (base_of most_of_event) machines) i) n None (subst (IsPiece 48) (sym is) (base_piece 48 m (omega arith) t.0)) low tt)
        (numbered_some 48 (base_at (map (base_of most_of_event) machines) i) n None (subst (λ (b : List ℕ). 0 < length b) (sym is) (base_some 48 m (omega arith) t.0 t.1)))
