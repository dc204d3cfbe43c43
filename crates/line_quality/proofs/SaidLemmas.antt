-- What lines say, which of them are bad, and what their events are.
use Rattle.std.proofs.Common.{◌≡◌, ◌+◌, ◌||◌, ℕ, suc, List, [], ◌∷◌, ◌++◌, Bool, true, false, not, Some, Result, Ok, Err, length, ap, arith, refl, sym, subst, ◌∙◌, append_assoc, cond}
use Rattle.std.specs.Prelude.{filter, if◌then◌else◌, is_ok}
use Rattle.std.specs.Result.{result_map_both}
use Rattle.std.proofs.lemmas.List.{length-append}
use Rattle.std.proofs.lemmas.List.Concat.{flat_map-append}
use Rattle.std.proofs.lemmas.List.Elements.{All-cons, All-head, All-nil, All-tail, filter-append}
use Rattle.event_lines.specs.Cut.{is_blank_line}
use Rattle.event_lines.specs.InputLines.{LineFault, lines_said_from}
use Rattle.event_lines.specs.LineResults.{line_result}
use Rattle.event_lines.specs.declared.line.Line.{Line}
use Rattle.event_lines.specs.declared.why.Why.{Why}
use Rattle.line_quality.specs.BadLines.{bad_lines_from, bad_of, bad_said, count_filled}
use Rattle.line_quality.specs.EventsRead.{event_said, events_in, events_of_line, events_read}
use Rattle.line_quality.specs.Members.{member_at_fault}
use Rattle.line_quality.specs.declared.bad_line.BadLine.{BadLine}
use Rattle.line_quality.specs.inner.Sorting.{AreKept, is_kept}
use Rattle.line_quality.proofs.NumberLemmas.{err_said, event_is_free, no_event_said, not_ok_said, ok_said, unlined, why_is_free, why_said}

abbrev IsKept : List ℕ → Type 0
IsKept line = is_kept line ≡ true

-- ---- the first of some lines

said_blank : (n : ℕ) (line : List ℕ) (lines : List (List ℕ)) → is_blank_line line ≡ true → lines_said_from n (line ∷ lines) ≡ lines_said_from (n + 1) lines
said_blank n line lines e = rw e refl

said_good : (n : ℕ) (line : List ℕ) (lines : List (List ℕ)) (x : Line) → is_blank_line line ≡ false → line_result n line ≡ Ok x → lines_said_from n (line ∷ lines) ≡ result_map_both (λ xs. x ∷ xs) (λ e. e) (lines_said_from (n + 1) lines)
said_good n line lines x e f = rw (e, f) refl

said_bad : (n : ℕ) (line : List ℕ) (lines : List (List ℕ)) (why : Why) → is_blank_line line ≡ false → line_result n line ≡ Err why → lines_said_from n (line ∷ lines) ≡ Err (record { line = n; why = why })
said_bad n line lines why e f = rw (e, f) refl

kept_blank : (line : List ℕ) → is_blank_line line ≡ true → IsKept line
kept_blank line e = ap (λ (b : Bool). b || is_ok (line_result 0 line)) e

kept_good : (n : ℕ) (line : List ℕ) (x : Line) → is_blank_line line ≡ false → line_result n line ≡ Ok x → IsKept line
kept_good n line x e f = ap (λ (b : Bool). b || is_ok (line_result 0 line)) e ∙ ok_said (line_result 0 line) (why_is_free 0 n line ∙ ap why_said f)

bad_is_not_kept : (n : ℕ) (line : List ℕ) (why : Why) → is_blank_line line ≡ false → line_result n line ≡ Err why → IsKept line → ⊥
bad_is_not_kept n line why e f kept =
    let none : is_ok (line_result 0 line) ≡ false = not_ok_said (line_result 0 line) why (why_is_free 0 n line ∙ ap why_said f) in
    let no : is_kept line ≡ false = ap (λ (b : Bool). b || is_ok (line_result 0 line)) e ∙ none in
    let both : true ≡ false = sym kept ∙ no in
    cc both

events_blank : (line : List ℕ) (lines : List (List ℕ)) → is_blank_line line ≡ true → events_read (line ∷ lines) ≡ events_read lines
events_blank line lines e = ap (λ (b : Bool). (if b then [] else event_said (line_result 0 line)) ++ events_read lines) e

events_filled : (line : List ℕ) (lines : List (List ℕ)) → is_blank_line line ≡ false → events_read (line ∷ lines) ≡ event_said (line_result 0 line) ++ events_read lines
events_filled line lines e = ap (λ (b : Bool). (if b then [] else event_said (line_result 0 line)) ++ events_read lines) e

abbrev not_blank : List (List ℕ) → List (List ℕ)
not_blank lines = filter (λ line. not (is_blank_line line)) lines

count_blank : (line : List ℕ) (lines : List (List ℕ)) → is_blank_line line ≡ true → count_filled (line ∷ lines) ≡ count_filled lines
count_blank line lines e = ap (λ (b : Bool). length (cond (not b) (line ∷ not_blank lines) (not_blank lines))) e

count_one : (line : List ℕ) (lines : List (List ℕ)) → is_blank_line line ≡ false → count_filled (line ∷ lines) ≡ suc (count_filled lines)
count_one line lines e = ap (λ (b : Bool). length (cond (not b) (line ∷ not_blank lines) (not_blank lines))) e

-- ---- lines none of which is bad

pub record Reads (v : List Line) (lines : List (List ℕ)) : Type 0 where
  pub kept : AreKept lines
  pub events : events_in v ≡ events_read lines
  pub filled : length v ≡ count_filled lines

reads_none : Reads [] []
reads_none = record { kept = All-nil IsKept; events = refl; filled = refl }

reads_blank : (v : List Line) (line : List ℕ) (lines : List (List ℕ)) → is_blank_line line ≡ true → Reads v lines → Reads v (line ∷ lines)
reads_blank v line lines e h = record {
  kept = All-cons IsKept line lines (kept_blank line e) h.kept;
  events = h.events ∙ sym (events_blank line lines e);
  filled = h.filled ∙ sym (count_blank line lines e);
}

reads_good : (n : ℕ) (v : List Line) (line : List ℕ) (lines : List (List ℕ)) (x : Line) → is_blank_line line ≡ false → line_result n line ≡ Ok x → Reads v lines → Reads (x ∷ v) (line ∷ lines)
reads_good n v line lines x e f h = record {
  kept = All-cons IsKept line lines (kept_good n line x e f) h.kept;
  events = sym (events_filled line lines e ∙ ap (λ xs. xs ++ events_read lines) (event_is_free n line ∙ ap unlined f) ∙ ap (λ xs. unlined (Ok x) ++ xs) (sym h.events));
  filled = ap suc h.filled ∙ sym (count_one line lines e);
}

reads_by : (n : ℕ) (v : List Line) (line : List ℕ) (lines : List (List ℕ)) (b : Bool) (r : Result Line Why) (t : Result (List Line) LineFault) → is_blank_line line ≡ b → line_result n line ≡ r → lines_said_from (n + 1) lines ≡ t → lines_said_from n (line ∷ lines) ≡ Ok v → ((w : List Line) → lines_said_from (n + 1) lines ≡ Ok w → Reads w lines) → Reads v (line ∷ lines)
reads_by n v line lines true r t e f g h later = reads_blank v line lines e (later v (sym (said_blank n line lines e) ∙ h))
reads_by n v line lines false (Ok x) (Ok w) e f g h later =
    let k : ◌≡◌ {A = Result (List Line) LineFault} (Ok (x ∷ w)) (Ok v) = sym (ap (result_map_both (λ xs. x ∷ xs) (λ e. e)) g) ∙ sym (said_good n line lines x e f) ∙ h in
    let same : x ∷ w ≡ v = cc in
    subst (λ (u : List Line). Reads u (line ∷ lines)) same (reads_good n w line lines x e f (later w g))
reads_by n v line lines false (Ok x) (Err fault) e f g h later =
    let k : ◌≡◌ {A = Result (List Line) LineFault} (Err fault) (Ok v) = sym (ap (result_map_both (λ xs. x ∷ xs) (λ e. e)) g) ∙ sym (said_good n line lines x e f) ∙ h in
    absurd (cc k)
reads_by n v line lines false (Err why) t e f g h later =
    let k : ◌≡◌ {A = Result (List Line) LineFault} (Err (record { line = n; why = why })) (Ok v) = sym (said_bad n line lines why e f) ∙ h in
    absurd (cc k)

pub reads : (n : ℕ) (lines : List (List ℕ)) (v : List Line) → lines_said_from n lines ≡ Ok v → Reads v lines
reads n [] v h =
    let k : ◌≡◌ {A = Result (List Line) LineFault} (Ok []) (Ok v) = h in
    let same : [] ≡ v = cc in
    subst (λ (u : List Line). Reads u []) same reads_none
reads n (line ∷ lines) v h = reads_by n v line lines (is_blank_line line) (line_result n line) (lines_said_from (n + 1) lines) refl refl refl h (λ w is. reads (n + 1) lines w is)

-- ---- and the other way: none of these is bad, so they say lines

kept_by : (n : ℕ) (line : List ℕ) (lines : List (List ℕ)) (b : Bool) (r : Result Line Why) → is_blank_line line ≡ b → line_result n line ≡ r → IsKept line → (v : List Line) × (lines_said_from (n + 1) lines ≡ Ok v) → (v : List Line) × (lines_said_from n (line ∷ lines) ≡ Ok v)
kept_by n line lines true r e f kept later = (later.0, said_blank n line lines e ∙ later.1)
kept_by n line lines false (Ok x) e f kept later = (x ∷ later.0, said_good n line lines x e f ∙ ap (result_map_both (λ xs. x ∷ xs) (λ e. e)) later.1)
kept_by n line lines false (Err why) e f kept later = absurd (bad_is_not_kept n line why e f kept)

pub kept_said : (n : ℕ) (lines : List (List ℕ)) → AreKept lines → (v : List Line) × (lines_said_from n lines ≡ Ok v)
kept_said n [] h = ([], refl)
kept_said n (line ∷ lines) h = kept_by n line lines (is_blank_line line) (line_result n line) refl refl (All-head IsKept line lines h) (kept_said (n + 1) lines (All-tail IsKept line lines h))

-- ---- lines of which one is bad, and the first

pub record FirstBad (n : ℕ) (lines : List (List ℕ)) (fault : LineFault) : Type 0 where
  pub before : List (List ℕ)
  pub bad : List ℕ
  pub later : List (List ℕ)
  pub split : lines ≡ before ++ bad ∷ later
  pub kept : AreKept before
  pub at : fault.line ≡ n + length before
  pub filled : is_blank_line bad ≡ false
  pub said : why_said (line_result 0 bad) ≡ Some fault.why

first_more : (n : ℕ) (line : List ℕ) (lines : List (List ℕ)) (fault : LineFault) → IsKept line → FirstBad (n + 1) lines fault → FirstBad n (line ∷ lines) fault
first_more n line lines fault kept h = record {
  before = line ∷ h.before;
  bad = h.bad;
  later = h.later;
  split = ap (λ (xs : List (List ℕ)). line ∷ xs) h.split;
  kept = All-cons IsKept line h.before kept h.kept;
  at = omega (arith, h.at);
  filled = h.filled;
  said = h.said;
}

first_by : (n : ℕ) (line : List ℕ) (lines : List (List ℕ)) (fault : LineFault) (b : Bool) (r : Result Line Why) (t : Result (List Line) LineFault) → is_blank_line line ≡ b → line_result n line ≡ r → lines_said_from (n + 1) lines ≡ t → lines_said_from n (line ∷ lines) ≡ Err fault
    → ((f : LineFault) → lines_said_from (n + 1) lines ≡ Err f → FirstBad (n + 1) lines f) → FirstBad n (line ∷ lines) fault
first_by n line lines fault true r t e f g h later = first_more n line lines fault (kept_blank line e) (later fault (sym (said_blank n line lines e) ∙ h))
first_by n line lines fault false (Ok x) (Ok w) e f g h later =
    let k : ◌≡◌ {A = Result (List Line) LineFault} (Ok (x ∷ w)) (Err fault) = sym (ap (result_map_both (λ xs. x ∷ xs) (λ e. e)) g) ∙ sym (said_good n line lines x e f) ∙ h in
    absurd (cc k)
first_by n line lines fault false (Ok x) (Err other) e f g h later =
    let k : ◌≡◌ {A = Result (List Line) LineFault} (Err other) (Err fault) = sym (ap (result_map_both (λ xs. x ∷ xs) (λ e. e)) g) ∙ sym (said_good n line lines x e f) ∙ h in
    let same : other ≡ fault = cc in
    first_more n line lines fault (kept_good n line x e f) (subst (λ (k : LineFault). FirstBad (n + 1) lines k) same (later other g))
first_by n line lines fault false (Err why) t e f g h later =
    let k : ◌≡◌ {A = Result (List Line) LineFault} (Err (record { line = n; why = why })) (Err fault) = sym (said_bad n line lines why e f) ∙ h in
    let same : record { line = n; why = why } ≡ fault = cc in
    let at : n ≡ fault.line = ap (λ (k : LineFault). k.line) same in
    record {
      before = [];
      bad = line;
      later = lines;
      split = refl;
      kept = All-nil IsKept;
      at = omega (arith, at);
      filled = e;
      said = why_is_free 0 n line ∙ ap why_said f ∙ ap (λ (k : LineFault). Some k.why) same;
    }

pub first_bad : (n : ℕ) (lines : List (List ℕ)) (fault : LineFault) → lines_said_from n lines ≡ Err fault → FirstBad n lines fault
first_bad n [] fault h =
    let k : ◌≡◌ {A = Result (List Line) LineFault} (Ok []) (Err fault) = h in
    absurd (cc k)
first_bad n (line ∷ lines) fault h = first_by n line lines fault (is_blank_line line) (line_result n line) (lines_said_from (n + 1) lines) refl refl refl h (λ f is. first_bad (n + 1) lines f is)

-- ---- the bad ones of lines

bads_blank : (file n : ℕ) (line : List ℕ) (lines : List (List ℕ)) → is_blank_line line ≡ true → bad_lines_from file n (line ∷ lines) ≡ bad_lines_from file (n + 1) lines
bads_blank file n line lines e = rw e refl

bads_filled : (file n : ℕ) (line : List ℕ) (lines : List (List ℕ)) → is_blank_line line ≡ false → bad_lines_from file n (line ∷ lines) ≡ bad_of file (n, line) ++ bad_lines_from file (n + 1) lines
bads_filled file n line lines e = rw e refl

bads_cons : (file n : ℕ) (line : List ℕ) (a b : List (List ℕ)) (blank : Bool) → is_blank_line line ≡ blank → bad_lines_from file (n + 1) (a ++ b) ≡ bad_lines_from file (n + 1) a ++ bad_lines_from file (n + 1 + length a) b
    → bad_lines_from file n (line ∷ (a ++ b)) ≡ bad_lines_from file n (line ∷ a) ++ bad_lines_from file (n + suc (length a)) b
bads_cons file n line a b true e h =
    let same : n + 1 + length a ≡ n + suc (length a) = omega arith in
    bads_blank file n line (a ++ b) e ∙ h ∙ ap (λ (m : ℕ). bad_lines_from file (n + 1) a ++ bad_lines_from file m b) same ∙ ap (λ (xs : List BadLine). xs ++ bad_lines_from file (n + suc (length a)) b) (sym (bads_blank file n line a e))
bads_cons file n line a b false e h =
    let same : n + 1 + length a ≡ n + suc (length a) = omega arith in
    bads_filled file n line (a ++ b) e ∙ ap (λ (xs : List BadLine). bad_of file (n, line) ++ xs) (h ∙ ap (λ (m : ℕ). bad_lines_from file (n + 1) a ++ bad_lines_from file m b) same)
    ∙ sym (append_assoc (bad_of file (n, line)) (bad_lines_from file (n + 1) a) (bad_lines_from file (n + suc (length a)) b))
    ∙ ap (λ (xs : List BadLine). xs ++ bad_lines_from file (n + suc (length a)) b) (sym (bads_filled file n line a e))

pub bads_append : (file n : ℕ) (a b : List (List ℕ)) → bad_lines_from file n (a ++ b) ≡ bad_lines_from file n a ++ bad_lines_from file (n + length a) b
bads_append file n [] b =
    let same : n ≡ n + 0 = omega arith in
    ap (λ (m : ℕ). bad_lines_from file m b) same
bads_append file n (line ∷ a) b = bads_cons file n line a b (is_blank_line line) refl (bads_append file (n + 1) a b)

none_by : (file n : ℕ) (line : List ℕ) (lines : List (List ℕ)) (blank : Bool) (r : Result Line Why) → is_blank_line line ≡ blank → line_result n line ≡ r → IsKept line → bad_lines_from file (n + 1) lines ≡ [] → bad_lines_from file n (line ∷ lines) ≡ []
none_by file n line lines true r e f kept h = bads_blank file n line lines e ∙ h
none_by file n line lines false (Ok x) e f kept h = bads_filled file n line lines e ∙ ap (λ (s : Result Line Why). bad_said file n line s ++ bad_lines_from file (n + 1) lines) f ∙ h
none_by file n line lines false (Err why) e f kept h = absurd (bad_is_not_kept n line why e f kept)

pub none_bad : (file n : ℕ) (lines : List (List ℕ)) → AreKept lines → bad_lines_from file n lines ≡ []
none_bad file n [] h = refl
none_bad file n (line ∷ lines) h = none_by file n line lines (is_blank_line line) (line_result n line) refl refl (All-head IsKept line lines h) (none_bad file (n + 1) lines (All-tail IsKept line lines h))

-- a bad line and those behind it
module _ (bad : List ℕ) (later : List (List ℕ)) (why : Why) (filled' : is_blank_line bad ≡ false) (said : why_said (line_result 0 bad) ≡ Some why) where
  pub bads_one : (file n : ℕ) → bad_lines_from file n (bad ∷ later) ≡ record { file = file; line = n; why = why; member = member_at_fault why bad } ∷ bad_lines_from file (n + 1) later
  bads_one file n =
      let is : line_result n bad ≡ Err why = err_said (line_result n bad) why (why_is_free n 0 bad ∙ said) in
      bads_filled file n bad later filled' ∙ ap (λ (s : Result Line Why). bad_said file n bad s ++ bad_lines_from file (n + 1) later) is

  pub events_one : events_read (bad ∷ later) ≡ events_read later
  events_one = events_filled bad later filled' ∙ ap (λ xs. xs ++ events_read later) (no_event_said (line_result 0 bad) why said)

  pub count_bad : count_filled (bad ∷ later) ≡ suc (count_filled later)
  count_bad = count_one bad later filled'

pub events_append : (a b : List (List ℕ)) → events_read (a ++ b) ≡ events_read a ++ events_read b
events_append a b = flat_map-append events_of_line a b

pub count_append : (a b : List (List ℕ)) → count_filled (a ++ b) ≡ count_filled a + count_filled b
count_append a b = ap length (filter-append (λ line. not (is_blank_line line)) a b) ∙ length-append (not_blank a) (not_blank b)

-- an empty line says nothing
pub kept_empty : AreKept ([] ∷ [])
kept_empty = All-cons IsKept [] [] refl (All-nil IsKept)

pub bads_empty : (file n : ℕ) → bad_lines_from file n ([] ∷ []) ≡ []
bads_empty file n = refl
