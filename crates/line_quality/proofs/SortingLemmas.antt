-- How lines are sorted, from one bad line to the next.
use Rattle.std.proofs.Common.{◌≡◌, ◌≤◌, ◌<◌, ◌+◌, ◌-◌, ℕ, suc, List, [], ◌∷◌, ◌++◌, All, Bool, true, false, not, Result, length, take, drop, ap, arith, refl, sym, subst, ◌∙◌, append_assoc, append-nil, inl, inr, Ok, Err}
use Rattle.std.proofs.lemmas.List.{drop-drop, drop_all, drop_at, length-append, length-drop, length-take, length-take-le, nil_from_length, take_at}
use Rattle.std.proofs.lemmas.List.Concat.{flat_map-append}
use Rattle.std.proofs.lemmas.List.Elements.{All-append}
use Rattle.std.proofs.lemmas.List.Splits.{length-slice_split}
use Rattle.std.proofs.lemmas.List.Sums.{count_by-le-length, length-filter}
use Rattle.event_lines.specs.Cut.{input_lines, is_blank_line, is_line_feed}
use Rattle.event_lines.specs.GoodLines.{IsTimely}
use Rattle.event_lines.specs.InputLines.{LineFault, lines_said}
use Rattle.event_lines.specs.declared.line.Line.{Line}
use Rattle.event_lines.specs.declared.why.Why.{Why}
use Rattle.line_quality.specs.BadLines.{Finds, bad_lines_from, count_filled}
use Rattle.line_quality.specs.EventsRead.{event_in, events_in, events_read}
use Rattle.line_quality.specs.Judging.{Judges}
use Rattle.line_quality.specs.Members.{member_at_fault}
use Rattle.line_quality.specs.declared.bad_line.BadLine.{BadLine}
use Rattle.line_quality.specs.declared.findings.Findings.{Findings}
use Rattle.line_quality.specs.declared.first_line.FirstLine.{FirstLine}
use Rattle.line_quality.specs.declared.sorting.Sorted.{Sorted}
use Rattle.line_quality.specs.inner.FirstLines.{IsFirstLine, IsLineStart}
use Rattle.line_quality.specs.inner.Sorting.{Appends, AreKept, IsClosed, IsSorted, SortsAll, SortsFirst, is_kept}
use Rattle.line_quality.proofs.FindingLemmas.{finds_more, finds_none}
use Rattle.line_quality.proofs.LineStartLemmas.{closed_lines, closes_both, lines_at}
use Rattle.line_quality.proofs.SaidLemmas.{FirstBad, bads_append, bads_one, count_append, count_bad, events_append, events_one, first_bad, kept_empty, kept_said, none_bad, reads}

abbrev IsKept : List ℕ → Type 0
IsKept line = is_kept line ≡ true

-- ---- a text that ends lines

module _ (text : List ℕ) (c : IsClosed text) where
  closed_is : input_lines text ≡ c.lines ++ [] ∷ []
  closed_is = closed_lines text c.lines c.closes

  pub closed_kept : AreKept (input_lines text)
  closed_kept = subst AreKept (sym closed_is) (All-append IsKept c.lines ([] ∷ []) c.kept kept_empty)

  pub closed_events : events_read (input_lines text) ≡ events_read c.lines
  closed_events = ap events_read closed_is ∙ events_append c.lines ([] ∷ []) ∙ append-nil (events_read c.lines)

  pub closed_count : count_filled (input_lines text) ≡ count_filled c.lines
  closed_count = omega (arith, ap count_filled closed_is, count_append c.lines ([] ∷ []))

pub closed_none : IsClosed []
closed_none = record { lines = []; closes = λ later. refl; kept = λ k d lt. absurd (omega (arith, lt)) }

-- ---- the last lines: none is bad

rest_sorted : (file number : ℕ) (bytes old new : List ℕ) (f : Findings) (v : List Line) → IsClosed old → lines_said bytes ≡ Ok v → new ≡ old ++ bytes → SortsFirst file number bytes old new f f (record { next = length bytes; lines = 0 })
rest_sorted file number bytes old new f v c said is =
    let r = reads 1 (input_lines bytes) v said in
    let all : input_lines new ≡ c.lines ++ input_lines bytes = ap input_lines is ∙ c.closes bytes in
    let none : drop (length bytes) bytes ≡ [] = drop_all (length bytes) bytes (omega arith) in
    let after : input_lines (drop (length bytes) bytes) ≡ [] ∷ [] = ap input_lines none in
    record {
      within = omega arith;
      some = λ h. h;
      lines = omega arith;
      short = omega (arith, ap length is, length-append old bytes);
      closed = λ h. absurd (omega (arith, h));
      kept = subst AreKept (sym all) (All-append IsKept c.lines (input_lines bytes) c.kept r.kept);
      events = ap (λ xs. xs ++ events_read (input_lines bytes)) (closed_events old c) ∙ sym (events_append c.lines (input_lines bytes)) ∙ sym (ap events_read all) ∙ sym (append-nil (events_read (input_lines new))) ∙ ap (λ (ls : List (List ℕ)). events_read (input_lines new) ++ events_read ls) (sym after);
      bads = [];
      finds = finds_none f;
      bad = none_bad file (number + 1) (input_lines bytes) r.kept ∙ ap (λ (ls : List (List ℕ)). bad_lines_from file (number + 0 + 1) ls) (sym after);
      filled = omega (arith, closed_count old c, ap count_filled all, count_append c.lines (input_lines bytes), ap count_filled after);
    }

pub sorts_rest : (file number : ℕ) (bytes old new : List ℕ) (f : Findings) (v : List Line) (size : ℕ) → size ≡ length bytes → IsClosed old → lines_said bytes ≡ Ok v → new ≡ old ++ bytes → SortsFirst file number bytes old new f f (record { next = size; lines = 0 })
sorts_rest file number bytes old new f v size e c said is = subst (λ (n : ℕ). SortsFirst file number bytes old new f f (record { next = n; lines = 0 })) (sym e) (rest_sorted file number bytes old new f v c said is)

-- ---- up to a bad line

split_same : {X : Type 0} (a b c d : List X) → length a ≡ length b → a ++ c ≡ b ++ d → (a ≡ b) × (c ≡ d)
split_same a b c d size same = (
  sym (take_at a c (length b) size) ∙ ap (take (length b)) same ∙ take_at b d (length b) refl,
  sym (drop_at a c (length b) size) ∙ ap (drop (length b)) same ∙ drop_at b d (length b) refl,
)

-- what stands behind a bad line, which is the first of these bytes
record Behind (bytes bad : List ℕ) (later : List (List ℕ)) (line : FirstLine) : Type 0 where
  pub bad_is : bad ≡ take line.end bytes
  pub some : 0 < line.next
  pub events : events_read later ≡ events_read (input_lines (drop line.next bytes))
  pub bads : (file n : ℕ) → bad_lines_from file n later ≡ bad_lines_from file n (input_lines (drop line.next bytes))
  pub count : count_filled later ≡ count_filled (input_lines (drop line.next bytes))

not_empty : (bytes bad : List ℕ) (end : ℕ) → bad ≡ take end bytes → is_blank_line bad ≡ false → 0 < length bytes
not_empty [] bad end is filled =
    let none : bad ≡ [] = nil_from_length bad (omega (arith, ap length is, length-take {A = ℕ} end [])) in
    let both : true ≡ false = sym (ap is_blank_line none) ∙ filled in
    absurd (cc both)
not_empty (x ∷ bytes) bad end is filled = omega arith

behind : (bytes bad : List ℕ) (later : List (List ℕ)) (line : FirstLine) → IsFirstLine bytes line → input_lines bytes ≡ bad ∷ later → is_blank_line bad ≡ false → Behind bytes bad later line
behind bytes bad later line is lines filled = elim is.lines [
  | inl one ↦
      let both : take line.end bytes ∷ [] ≡ bad ∷ later = sym one.0 ∙ lines in
      let first : bad ≡ take line.end bytes = cc in
      let rest : later ≡ [] = cc in
      let none : drop line.next bytes ≡ [] = drop_all line.next bytes (omega (arith, one.1)) in
      record {
        bad_is = first;
        some = omega (arith, one.1, not_empty bytes bad line.end first filled);
        events = ap events_read rest ∙ ap (λ (xs : List ℕ). events_read (input_lines xs)) (sym none);
        bads = λ file n. ap (bad_lines_from file n) rest ∙ ap (λ (xs : List ℕ). bad_lines_from file n (input_lines xs)) (sym none);
        count = ap count_filled rest ∙ ap (λ (xs : List ℕ). count_filled (input_lines xs)) (sym none);
      }
  | inr more ↦
      let both : take line.end bytes ∷ input_lines (drop line.next bytes) ≡ bad ∷ later = sym (lines_at bytes line.next (take line.end bytes ∷ []) more.1) ∙ lines in
      let first : bad ≡ take line.end bytes = cc in
      let rest : later ≡ input_lines (drop line.next bytes) = cc in
      record {
        bad_is = first;
        some = more.0;
        events = ap events_read rest;
        bads = λ file n. ap (bad_lines_from file n) rest;
        count = ap count_filled rest;
      }
]

module _ (file number : ℕ) (bytes old new : List ℕ) (before now : Findings) (line : ℕ) (why : Why) (start : ℕ) (first : FirstLine) (c : IsClosed old) (said : lines_said bytes ≡ Err (record { line = line; why = why }))
    (st : IsLineStart bytes (line - 1) start) (fl : IsFirstLine (drop start bytes) first) (is : new ≡ old ++ take start bytes)
    (noted : Finds before now (record { file = file; line = number + line; why = why; member = member_at_fault why (take first.end (drop start bytes)) } ∷ [])) where
  fb : FirstBad 1 (input_lines bytes) (record { line = line; why = why })
  fb = first_bad 1 (input_lines bytes) (record { line = line; why = why }) said

  halves : (st.lines ≡ fb.before) × (input_lines (drop start bytes) ≡ fb.bad ∷ fb.later)
  halves = split_same st.lines fb.before (input_lines (drop start bytes)) (fb.bad ∷ fb.later) (omega (arith, st.counted, fb.at)) (sym (lines_at bytes start st.lines st.closes) ∙ fb.split)

  rest : Behind (drop start bytes) fb.bad fb.later first
  rest = behind (drop start bytes) fb.bad fb.later first fl halves.1 fb.filled

  abbrev closed_new : IsClosed new
  closed_new = record {
    lines = c.lines ++ st.lines;
    closes = λ later. ap (λ (xs : List ℕ). input_lines (xs ++ later)) is ∙ closes_both old (take start bytes) c.lines st.lines c.closes st.closes later;
    kept = All-append IsKept c.lines st.lines c.kept (subst AreKept (sym halves.0) fb.kept);
  }

  after : drop first.next (drop start bytes) ≡ drop (start + first.next) bytes
  after = drop-drop first.next start bytes

  abbrev behind' : List (List ℕ)
  behind' = input_lines (drop (start + first.next) bytes)

  events_of : events_read (input_lines bytes) ≡ events_read st.lines ++ events_read behind'
  events_of =
      ap events_read fb.split ∙ events_append fb.before (fb.bad ∷ fb.later) ∙ ap (λ (xs : List (List ℕ)). events_read xs ++ events_read (fb.bad ∷ fb.later)) (sym halves.0)
      ∙ ap (λ xs. events_read st.lines ++ xs) (events_one fb.bad fb.later why fb.filled fb.said ∙ rest.events ∙ ap (λ (xs : List ℕ). events_read (input_lines xs)) after)

  bads_of : bad_lines_from file (number + 1) (input_lines bytes) ≡ record { file = file; line = number + line; why = why; member = member_at_fault why (take first.end (drop start bytes)) } ∷ bad_lines_from file (number + line + 1) behind'
  bads_of =
      let at : number + 1 + length fb.before ≡ number + line = omega (arith, fb.at) in
      ap (bad_lines_from file (number + 1)) fb.split ∙ bads_append file (number + 1) fb.before (fb.bad ∷ fb.later)
      ∙ ap (λ (xs : List BadLine). xs ++ bad_lines_from file (number + 1 + length fb.before) (fb.bad ∷ fb.later)) (none_bad file (number + 1) fb.before fb.kept)
      ∙ ap (λ (n : ℕ). bad_lines_from file n (fb.bad ∷ fb.later)) at ∙ bads_one fb.bad fb.later why fb.filled fb.said file (number + line)
      ∙ ap (λ (xs : List ℕ). record { file = file; line = number + line; why = why; member = member_at_fault why xs } ∷ bad_lines_from file (number + line + 1) fb.later) rest.bad_is
      ∙ ap (λ (xs : List BadLine). record { file = file; line = number + line; why = why; member = member_at_fault why (take first.end (drop start bytes)) } ∷ xs)
      (rest.bads file (number + line + 1) ∙ ap (λ (xs : List ℕ). bad_lines_from file (number + line + 1) (input_lines xs)) after)

  count_of : count_filled (input_lines bytes) ≡ count_filled st.lines + 1 + count_filled behind'
  count_of = omega (arith, ap count_filled fb.split, count_append fb.before (fb.bad ∷ fb.later), ap count_filled halves.0, count_bad fb.bad fb.later why fb.filled fb.said, rest.count, ap (λ (xs : List ℕ). count_filled (input_lines xs)) after)

  pub sorts_to_bad : SortsFirst file number bytes old new before now (record { next = start + first.next; lines = line })
  sorts_to_bad = record {
    within = omega (arith, fl.within, length-drop start bytes, st.within);
    some = λ h. omega (arith, rest.some);
    lines = omega (arith, st.apart, rest.some);
    short = omega (arith, ap length is, length-append old (take start bytes), length-take-le start bytes st.within);
    closed = λ h. closed_new;
    kept = closed_kept new closed_new;
    events =
        ap (λ xs. xs ++ events_read (input_lines bytes)) (closed_events old c) ∙ ap (λ xs. events_read c.lines ++ xs) events_of ∙ sym (append_assoc (events_read c.lines) (events_read st.lines) (events_read behind'))
        ∙ ap (λ xs. xs ++ events_read behind') (sym (events_append c.lines st.lines) ∙ sym (closed_events new closed_new));
    bads = record { file = file; line = number + line; why = why; member = member_at_fault why (take first.end (drop start bytes)) } ∷ [];
    finds = noted;
    bad = bads_of;
    filled = omega (arith, closed_count old c, closed_count new closed_new, count_append c.lines st.lines, count_of);
  }

-- there is at most one line more than bytes
pub few_lines : (bytes : List ℕ) → length (input_lines bytes) ≤ length bytes + 1
few_lines bytes = omega (arith, length-slice_split is_line_feed bytes, count_by-le-length is_line_feed bytes)

pub few_filled : (bytes : List ℕ) → count_filled (input_lines bytes) ≤ length bytes + 1
few_filled bytes =
    let p : List ℕ → Bool = λ line. not (is_blank_line line) in
    omega (arith, few_lines bytes, length-filter p (input_lines bytes), count_by-le-length p (input_lines bytes))

-- the bad line is one of the lines
pub record IsLineOf (bytes : List ℕ) (line : ℕ) : Type 0 where
  pub some : 0 < line
  pub within : line - 1 < length (input_lines bytes)
  pub few : line ≤ length bytes + 1

pub line_within : (bytes : List ℕ) (line : ℕ) (why : Why) → lines_said bytes ≡ Err (record { line = line; why = why }) → IsLineOf bytes line
line_within bytes line why said =
    let fb = first_bad 1 (input_lines bytes) (record { line = line; why = why }) said in
    let size : length (input_lines bytes) ≡ length fb.before + suc (length fb.later) = ap length fb.split ∙ length-append fb.before (fb.bad ∷ fb.later) in
    record { some = omega (arith, fb.at); within = omega (arith, fb.at, size); few = omega (arith, fb.at, size, few_lines bytes) }

-- ---- all lines

drop_none : (xs : List ℕ) → drop 0 xs ≡ xs
drop_none [] = refl
drop_none (x ∷ xs) = refl

pub sorted_none : (file : ℕ) (bytes : List ℕ) (f : Findings) → IsSorted file bytes [] f f 0 0
sorted_none file bytes f = record {
  within = omega arith;
  apart = omega arith;
  short = omega arith;
  closed = λ h. closed_none;
  kept = kept_empty;
  events = ap (λ (xs : List ℕ). events_read (input_lines xs)) (sym (drop_none bytes));
  bads = [];
  finds = finds_none f;
  bad = ap (λ (xs : List ℕ). bad_lines_from file 1 (input_lines xs)) (sym (drop_none bytes));
  filled = omega (arith, ap (λ (xs : List ℕ). count_filled (input_lines xs)) (drop_none bytes));
}

pub sorted_more : (file : ℕ) (bytes text more : List ℕ) (f g h : Findings) (at number : ℕ) (s : Sorted) → IsSorted file bytes text f g at number → SortsFirst file number (drop at bytes) text more g h s → IsSorted file bytes more f h (at + s.next) (number + s.lines)
sorted_more file bytes text more f g h at number s a b =
    let after : drop s.next (drop at bytes) ≡ drop (at + s.next) bytes = drop-drop s.next at bytes in
    record {
      within = omega (arith, b.within, length-drop at bytes, a.within);
      apart = omega (arith, a.apart, b.lines);
      short = omega (arith, a.short, b.short);
      closed = λ lt. b.closed (omega (arith, length-drop at bytes, lt));
      kept = b.kept;
      events = a.events ∙ b.events ∙ ap (λ (xs : List ℕ). events_read (input_lines more) ++ events_read (input_lines xs)) after;
      bads = a.bads ++ b.bads;
      finds = finds_more f g h a.bads b.bads a.finds b.finds;
      bad = a.bad ∙ ap (λ (xs : List BadLine). a.bads ++ xs) (b.bad ∙ ap (λ (xs : List ℕ). b.bads ++ bad_lines_from file (number + s.lines + 1) (input_lines xs)) after) ∙ sym (append_assoc a.bads b.bads (bad_lines_from file (number + s.lines + 1) (input_lines (drop (at + s.next) bytes))));
      filled = omega (arith, a.filled, b.filled, length-append a.bads b.bads, ap (λ (xs : List ℕ). count_filled (input_lines xs)) after);
    }

pub sorted_all : (file : ℕ) (bytes text : List ℕ) (f g : Findings) (at number : ℕ) → length bytes ≤ at → IsSorted file bytes text f g at number → SortsAll file bytes text f g
sorted_all file bytes text f g at number le a =
    let none : drop at bytes ≡ [] = drop_all at bytes le in
    let all : bad_lines_from file 1 (input_lines bytes) ≡ a.bads = a.bad ∙ ap (λ (xs : List ℕ). a.bads ++ bad_lines_from file (number + 1) (input_lines xs)) none ∙ append-nil a.bads in
    record {
      kept = a.kept;
      short = omega (arith, a.short, a.within);
      events = a.events ∙ ap (λ (xs : List ℕ). events_read (input_lines text) ++ events_read (input_lines xs)) none ∙ append-nil (events_read (input_lines text));
      finds = subst (Finds f g) (sym all) a.finds;
      filled = omega (arith, a.filled, ap length all, ap (λ (xs : List ℕ). count_filled (input_lines xs)) none);
    }

-- ---- lines that are appended

pub appends : (text : List ℕ) (old new v : List Line) → new ≡ old ++ v → lines_said text ≡ Ok v → All IsTimely v → Appends text old new
appends text old new v is said timely =
    let r = reads 1 (input_lines text) v said in
    record {
      events = ap events_in is ∙ flat_map-append event_in old v ∙ ap (λ xs. events_in old ++ xs) r.events;
      filled = omega (arith, ap length is, length-append old v, r.filled);
      timely = λ before. subst (All IsTimely) (sym is) (All-append IsTimely old v before timely);
    }

pub never_bad : (text : List ℕ) (fault : LineFault) → AreKept (input_lines text) → lines_said text ≡ Err fault → ⊥
never_bad text fault kept said =
    let good = kept_said 1 (input_lines text) kept in
    let both : ◌≡◌ {A = Result (List Line) LineFault} (Ok good.0) (Err fault) = sym good.1 ∙ said in
    cc both

pub judges_good : (file : ℕ) (bytes : List ℕ) (old new v : List Line) (f : Findings) → new ≡ old ++ v → lines_said bytes ≡ Ok v → All IsTimely v → Judges file bytes old new f f
judges_good file bytes old new v f is said timely =
    let a = appends bytes old new v is said timely in
    let none : bad_lines_from file 1 (input_lines bytes) ≡ [] = none_bad file 1 (input_lines bytes) (reads 1 (input_lines bytes) v said).kept in
    record {
      events = a.events;
      bad = subst (Finds f f) (sym none) (finds_none f);
      filled = omega (arith, a.filled, ap length none);
      timely = a.timely;
      few = omega (arith, a.filled, ap length none, few_filled bytes);
    }

pub judges_bad : (file : ℕ) (bytes text : List ℕ) (old new : List Line) (f g : Findings) → SortsAll file bytes text f g → Appends text old new → Judges file bytes old new f g
judges_bad file bytes text old new f g s a = record {
  events = a.events ∙ ap (λ xs. events_in old ++ xs) (sym s.events);
  bad = s.finds;
  filled = omega (arith, a.filled, s.filled);
  timely = a.timely;
  few = omega (arith, a.filled, s.filled, few_filled bytes);
}
