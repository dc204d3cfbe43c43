-- The lines of one file more.
use Rattle.std.proofs.Common.{true, ◌≡◌, ℕ, suc, ◌+◌, ◌≤◌, ◌++◌, List, [], ◌∷◌, All, length, map, take, not, sym, ap, subst, ◌∙◌, arith, append_assoc, append-nil, inl, inr}
use Rattle.std.specs.Prelude.{filter}
use Rattle.std.proofs.lemmas.Bool.{cases_lt}
use Rattle.std.proofs.lemmas.List.{length-append, length-map, length-take-le, map-append, take-append-le, take-take, take_all}
use Rattle.std.proofs.lemmas.List.Concat.{flat_map-append}
use Rattle.std.proofs.lemmas.List.Elements.{All-nil, filter-append}
use Rattle.std.proofs.lemmas.List.Sums.{sum_by-append, sum_by-cons}
use Rattle.event_lines.specs.Cut.{input_lines, is_blank_line}
use Rattle.event_lines.specs.GoodLines.{IsTimely}
use Rattle.event_lines.specs.declared.line.Line.{Line}
use Rattle.line_clean.specs.Lines.{lines_read}
use Rattle.line_quality.specs.BadLines.{bad_lines, count_filled, why_of}
use Rattle.line_quality.specs.EventsRead.{events_in, events_of_line, events_read}
use Rattle.line_quality.specs.declared.bad_line.BadLine.{BadLine}
use Rattle.line_quality.specs.declared.findings.Findings.{Findings}
use Rattle.mystery_io.specs.Readings.{Reading}
use Rattle.inspect_run.specs.Judging.{AreJudged, bad_lines_after, bad_lines_read, size_given}
use Rattle.inspect_run.specs.LineRows.{line_rows, rows_of_lines}
use Rattle.inspect_run.specs.inner.InputReadings.{ReadsOne}
use Rattle.inspect_run.specs.inner.Leaving.{IsText, quality_text}
use Rattle.inspect_run.specs.Endings.{IsQuality}
use Rattle.inspect_run.specs.Logged.{logged_events}
use Rattle.inspect_run.proofs.LoggedLemmas.{same_events}

one_size : (r : Reading) → size_given (r ∷ []) ≡ length r.bytes
one_size r = let h = sum_by-cons (λ (q : Reading). length q.bytes) r [] in omega (arith, h)

pub size_more : (rs : List Reading) (r : Reading) → size_given (rs ++ r ∷ []) ≡ size_given rs + length r.bytes
size_more rs r = omega (arith, sum_by-append (λ (q : Reading). length q.bytes) rs (r ∷ []), one_size r)

bads_push : (file : ℕ) (rs : List Reading) (r : Reading) → bad_lines_after file (rs ++ r ∷ []) ≡ bad_lines_after file rs ++ bad_lines (file + length rs) r.bytes
bads_push file [] r =
    let same : file ≡ file + 0 = omega arith in
    append-nil (bad_lines file r.bytes) ∙ ap (λ (n : ℕ). bad_lines n r.bytes) same
bads_push file (x ∷ rs) r =
    let same : file + 1 + length rs ≡ file + suc (length rs) = omega arith in
    ap (λ (xs : List BadLine). bad_lines file x.bytes ++ xs) (bads_push (file + 1) rs r ∙ ap (λ (n : ℕ). bad_lines_after (file + 1) rs ++ bad_lines n r.bytes) same)
    ∙ sym (append_assoc (bad_lines file x.bytes) (bad_lines_after (file + 1) rs) (bad_lines (file + suc (length rs)) r.bytes))

bads_more : (rs : List Reading) (r : Reading) (index : ℕ) → length rs ≡ index → bad_lines_read (rs ++ r ∷ []) ≡ bad_lines_read rs ++ bad_lines index r.bytes
bads_more rs r index count =
    let same : 0 + length rs ≡ index = omega (arith, count) in
    bads_push 0 rs r ∙ ap (λ (n : ℕ). bad_lines_read rs ++ bad_lines n r.bytes) same

lines_more : (rs : List Reading) (r : Reading) → lines_read (rs ++ r ∷ []) ≡ lines_read rs ++ input_lines r.bytes
lines_more rs r = flat_map-append (λ (q : Reading). input_lines q.bytes) rs (r ∷ []) ∙ ap (λ (xs : List (List ℕ)). lines_read rs ++ xs) (append-nil (input_lines r.bytes))

count_more : (a b : List (List ℕ)) → count_filled (a ++ b) ≡ count_filled a + count_filled b
count_more a b = ap length (filter-append (λ line. not (is_blank_line line)) a b) ∙ length-append (filter (λ line. not (is_blank_line line)) a) (filter (λ line. not (is_blank_line line)) b)

-- the first of a list are found among its first as well
take_again : {X : Type 0} (n : ℕ) (xs ys : List X) → take n (take n xs ++ ys) ≡ take n (xs ++ ys)
take_again n xs ys = elim (cases_lt (length xs) n) [
  | inl lt ↦ ap (λ zs. take n (zs ++ ys)) (take_all n xs (omega (arith, lt)))
  | inr ge ↦
      let size : n ≤ length (take n xs) = omega (arith, length-take-le n xs ge) in
      take-append-le n (take n xs) ys size ∙ take-take n n xs (omega arith) ∙ sym (take-append-le n xs ys ge)
]

pub judged_none : (lines : List Line) (findings : Findings) → lines ≡ [] → findings.first.items ≡ [] → findings.reasons.items ≡ [] → AreJudged [] lines findings
judged_none lines findings none first reasons = record {
  events = ap events_in none;
  first = first;
  reasons = reasons;
  filled = omega (arith, ap length none, ap length reasons);
  timely = subst (All IsTimely) (sym none) (All-nil IsTimely);
  few = omega (arith, ap length none, ap length reasons);
}

pub judged_more : (rs : List Reading) (index size next : ℕ) (name : List ℕ) (old new : List Line) (found finds : Findings) (before now : List Reading) → length rs ≡ index → AreJudged rs old found → (b : ReadsOne index name size next old new found finds before now)
    → AreJudged (rs ++ record { name = name; bytes = b.bytes; at_end = true } ∷ []) new finds
judged_more rs index size next name old new found finds before now count a b =
    let r : Reading = record { name = name; bytes = b.bytes; at_end = true } in
    let bads = bad_lines index b.bytes in
    let lines = lines_more rs r in
    let all = bads_more rs r index count in
    record {
      events = b.judged.events ∙ ap (λ xs. xs ++ events_read (input_lines b.bytes)) a.events ∙ sym (flat_map-append events_of_line (lines_read rs) (input_lines b.bytes)) ∙ ap events_read (sym lines);
      first = b.judged.bad.first ∙ ap (λ (xs : List BadLine). take 100 (xs ++ bads)) a.first ∙ take_again 100 (bad_lines_read rs) bads ∙ ap (take 100) (sym all);
      reasons = b.judged.bad.reasons ∙ ap (λ xs. xs ++ map why_of bads) a.reasons ∙ sym (map-append why_of (bad_lines_read rs) bads) ∙ ap (map why_of) (sym all);
      filled = omega (arith, a.filled, b.judged.filled, ap length b.judged.bad.reasons, length-append found.reasons.items (map why_of bads), length-map bads why_of, ap count_filled lines, count_more (lines_read rs) (input_lines b.bytes));
      timely = b.judged.timely a.timely;
      few = omega (arith, a.few, b.judged.few, ap length b.judged.bad.reasons, length-append found.reasons.items (map why_of bads), length-map bads why_of, size_more rs r, length-append rs (r ∷ []));
    }

-- the rows of what was judged are those on what was read
lines_told : (words : List (List ℕ)) (readings : List Reading) (lines : List Line) (findings : Findings) → AreJudged readings lines findings → quality_text words lines findings ≡ line_rows words readings
lines_told words readings lines findings h = λ i. rows_of_lines words ((ap length h.events) i) (h.filled i) (h.reasons i) (h.first i)

pub told : (words : List (List ℕ)) (readings : List Reading) (lines : List Line) (findings : Findings) → AreJudged readings lines findings → (text : List ℕ) → IsText words lines findings text → IsQuality words readings text
told words readings lines findings h text t = record {
  events = logged_events lines;
  read = same_events lines ∙ h.events;
  rows = t.rows;
  told = t.told;
  on_names = t.on_names;
  names_told = t.names_told;
  on_graces = t.on_graces;
  graces_told = t.graces_told;
  printed = t.printed ∙ ap (λ xs. xs ++ t.rows ++ t.on_names ++ t.on_graces) (lines_told words readings lines findings h);
}
