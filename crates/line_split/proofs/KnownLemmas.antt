-- The parts of the lines of a chunk that was read at once.
use Rattle.std.proofs.Common.{◌≡◌, ◌≤◌, ◌<◌, ◌+◌, ◌⊎◌, ℕ, zero, suc, List, [], ◌∷◌, ◌++◌, Bool, true, false, Option, Some, None, Result, Ok, Err, length, map, get_or, take, drop, ap, arith, refl, sym, subst, ◌∙◌, append-nil, append_assoc, inl, inr}
use Rattle.std.specs.Prelude.{if◌then◌else◌, slice_get, is_some, IfOk, IfSome, MatchOption}
use Rattle.std.specs.List.{AllByRecursion, onto_first}
use Rattle.std.specs.Option.{option_map_or}
use Rattle.std.specs.Result.{result_map_both}
use Rattle.std.proofs.lemmas.List.{drop_more, map-append, take_more}
use Rattle.std.proofs.lemmas.List.Concat.{flat_map-append}
use Rattle.std.proofs.lemmas.Nat.{mod_below}
use Rattle.std.proofs.lemmas.Bool.{both_ways}
use Rattle.byteorder.specs.Endian.{big_number}
use Rattle.sha2.specs.Sha256.{sha256}
use Rattle.serde_json.specs.Data.{Data}
use Rattle.serde_json.specs.Find.{as_object}
use Rattle.trace_types.specs.declared.event.Event as events
use Rattle.event_lines.specs.Commands.{command_result}
use Rattle.event_lines.specs.Cut.{input_lines, is_blank_line, is_line_feed}
use Rattle.event_lines.specs.EventFaults.{event_line_fault}
use Rattle.event_lines.specs.InputLines.{LineFault, lines_said_from}
use Rattle.event_lines.specs.LineParts.{lines_of_control, lines_of_events, lines_of_run, lines_of_runs}
use Rattle.event_lines.specs.LineResults.{control_line_result, event_line_result, json_value, line_event, line_result, object_result, value_result}
use Rattle.event_lines.specs.Members.{has_member}
use Rattle.event_lines.specs.declared.command.Command.{Command}
use Rattle.event_lines.specs.declared.line.Line as said
use Rattle.event_lines.specs.declared.line.Line.TheVariants.{Event, Control}
use Rattle.event_lines.specs.declared.line_run.ControlLine.{ControlLine}
use Rattle.event_lines.specs.declared.line_run.LineRun.{LineRun}
use Rattle.event_lines.specs.declared.why.Why.{Why}
use Rattle.event_lines.specs.declared.why.Why.TheVariants.{NotJson}
use Rattle.std.specs.Prelude.{codes}
use Rattle.trace_types.proofs.TruthLemmas.{some_same}
use Rattle.line_split.specs.declared.reason.Reason.{Reason}
use Rattle.line_split.specs.CommandLines.{Call}
use Rattle.line_split.specs.Lines.{longest_line, request_of, request_said}
use Rattle.line_split.specs.Parts.{part_of}
use Rattle.line_split.specs.inner.Known.{AreKnown, ArePartsSaid, event_part, line_part}
use Rattle.line_split.specs.inner.Steps.{part_said}
use Rattle.line_split.proofs.SaidLemmas.{short}

-- the number of a line does not change what request it says
number_event : (n m : ℕ) (d : Data) (fault : Option Why) → request_said (option_map_or Err fault (Ok (Event (line_event n d)))) ≡ request_said (option_map_or Err fault (Ok (Event (line_event m d))))
number_event n m d None = refl
number_event n m d (Some why) = refl

number_control : (n m : ℕ) (r : Result Command Why) → request_said (result_map_both (λ command. Control n command) (λ why. why) r) ≡ request_said (result_map_both (λ command. Control m command) (λ why. why) r)
number_control n m (Ok command) = refl
number_control n m (Err why) = refl

number_object : (n m : ℕ) (d : Data) (b : Bool) → request_said (if b then control_line_result n d else event_line_result n d) ≡ request_said (if b then control_line_result m d else event_line_result m d)
number_object n m d true = number_control n m (command_result d)
number_object n m d false = number_event n m d (event_line_fault d)

number_value : (n m : ℕ) (d : Data) (b : Bool) → request_said (if b then object_result n d else Err NotJson) ≡ request_said (if b then object_result m d else Err NotJson)
number_value n m d true = number_object n m d (has_member (codes "do") d)
number_value n m d false = refl

number_json : (n m : ℕ) (o : Option Data) → request_said (option_map_or (value_result n) o (Err NotJson)) ≡ request_said (option_map_or (value_result m) o (Err NotJson))
number_json n m None = refl
number_json n m (Some d) = number_value n m d (is_some (as_object d))

number_line : (n m : ℕ) (line : List ℕ) → request_said (line_result n line) ≡ request_said (line_result m line)
number_line n m line = number_json n m (json_value line)

-- no line is longer than all bytes
weaker : (m k : ℕ) (parts : List (List ℕ)) → m ≤ k → AllByRecursion (λ (l : List ℕ). length l ≤ m) parts → AllByRecursion (λ (l : List ℕ). length l ≤ k) parts
weaker m k [] le h = tt
weaker m k (p ∷ ps) le h = (omega (arith, h.0, le), weaker m k ps le h.1)

first_short : (x : ℕ) (m : ℕ) (parts : List (List ℕ)) → AllByRecursion (λ (l : List ℕ). length l ≤ m) parts → AllByRecursion (λ (l : List ℕ). length l ≤ m + 1) (onto_first x parts)
first_short x m [] h = (omega arith, tt)
first_short x m (p ∷ ps) h = (omega (arith, h.0), weaker m (m + 1) ps (omega arith) h.1)

short_by : (x m : ℕ) (rest : List (List ℕ)) (b : Bool) → AllByRecursion (λ (l : List ℕ). length l ≤ m) rest → AllByRecursion (λ (l : List ℕ). length l ≤ m + 1) (if b then [] ∷ rest else onto_first x rest)
short_by x m rest true h = (omega arith, weaker m (m + 1) rest (omega arith) h)
short_by x m rest false h = first_short x m rest h

lines_short : (bytes : List ℕ) → AllByRecursion (λ (l : List ℕ). length l ≤ length bytes) (input_lines bytes)
lines_short [] = (omega arith, tt)
lines_short (x ∷ bytes) = weaker (length bytes + 1) (length (x ∷ bytes)) (input_lines (x ∷ bytes)) (omega arith) (short_by x (length bytes) (input_lines bytes) (is_line_feed x) (lines_short bytes))

-- what the first line said
part_first : (call : Call) (x : said.Line) (xs : List said.Line) (parts : List ℕ) → ArePartsSaid call (x ∷ xs) parts → (part : ℕ) × (rest : List ℕ) × (parts ≡ part ∷ rest) × (line_part call x ≡ Some part) × ArePartsSaid call xs rest
part_first call x xs [] h = cc
part_first call x xs (p ∷ ps) h =
    let first : line_part call x ≡ Some p = cc in
    let rest : map (line_part call) xs ≡ map Some ps = cc in
    (p, ps, refl, first, rest)

none_parts : (parts : List ℕ) (e : List (Option ℕ)) → e ≡ [] → e ≡ map Some parts → parts ≡ []
none_parts [] e none h = refl
none_parts (p ∷ ps) e none h =
    let both : [] ≡ Some p ∷ map Some ps = sym none ∙ h in
    cc

part_request : (call : Call) (x : said.Line) (part : ℕ) → line_part call x ≡ Some part → part_said call (request_said (Ok x)) ≡ Ok (Some part)
part_request call (Event event) part e = ap (λ (o : Option ℕ). Ok o) e
part_request call (Control line command) part e = cc

err_ok : (fault : LineFault) (v : List said.Line) → Err fault ≡ Ok v → ⊥
err_ok fault v h = cc

module _ (call : Call) where
  mutual_step : (n : ℕ) (line : List ℕ) (lines : List (List ℕ)) (v : List said.Line) (parts : List ℕ) (b : Bool) (r : Result said.Line Why) (more : Result (List said.Line) LineFault) → ((w : List said.Line) (ps : List ℕ) → lines_said_from (n + 1) lines ≡ Ok w → ArePartsSaid call w ps → AreKnown call lines ps)
      → is_blank_line line ≡ b → line_result n line ≡ r → lines_said_from (n + 1) lines ≡ more → length line ≤ longest_line → lines_said_from n (line ∷ lines) ≡ Ok v → ArePartsSaid call v parts → AreKnown call (line ∷ lines) parts
  mutual_step n line lines v parts true r more rec e f g le h p =
      let said : lines_said_from (n + 1) lines ≡ Ok v = rw e at h in
      inl (e, ap (part_said call) (short line le ∙ ap (λ (b : Bool). if b then Ok None else request_said (line_result 1 line)) e), rec v parts said p)
  mutual_step n line lines v parts false (Err why) more rec e f g le h p =
      let said : Err (record { line = n; why = why }) ≡ Ok v = rw (e, f) at h in
      absurd (err_ok (record { line = n; why = why }) v said)
  mutual_step n line lines v parts false (Ok x) (Err fault) rec e f g le h p =
      let said : Err fault ≡ Ok v = rw (e, f, g) at h in
      absurd (err_ok fault v said)
  mutual_step n line lines v parts false (Ok x) (Ok xs) rec e f g le h p =
      let said : Ok (x ∷ xs) ≡ Ok v = rw (e, f, g) at h in
      let same : v ≡ x ∷ xs = cc in
      let first = part_first call x xs parts (subst (λ ls. ArePartsSaid call ls parts) same p) in
      let request : request_of line ≡ request_said (Ok x) = short line le ∙ ap (λ (b : Bool). if b then Ok None else request_said (line_result 1 line)) e ∙ number_line 1 n line ∙ ap request_said f in
      inr (e, (first.0, first.1, first.2, ap (part_said call) request ∙ part_request call x first.0 first.3, rec xs first.1 g first.4))

  pub known_from : (n : ℕ) (lines : List (List ℕ)) (v : List said.Line) (parts : List ℕ) → AllByRecursion (λ (l : List ℕ). length l ≤ longest_line) lines → lines_said_from n lines ≡ Ok v → ArePartsSaid call v parts → AreKnown call lines parts
  known_from n [] v parts le h p =
      let none : v ≡ [] = cc in
      none_parts parts (map (line_part call) v) (ap (map (line_part call)) none) p
  known_from n (line ∷ lines) v parts le h p =
      mutual_step n line lines v parts (is_blank_line line) (line_result n line) (lines_said_from (n + 1) lines) (λ w ps q k. known_from (n + 1) lines w ps le.1 q k) refl refl refl le.0 h p

  -- the lines of bytes that were read at once
  pub known_read : (bytes : List ℕ) (v : List said.Line) (parts : List ℕ) → length bytes ≤ longest_line → lines_said_from 1 (input_lines bytes) ≡ Ok v → ArePartsSaid call v parts → AreKnown call (input_lines bytes) parts
  known_read bytes v parts le h p = known_from 1 (input_lines bytes) v parts (weaker (length bytes) longest_line (input_lines bytes) le (lines_short bytes)) h p

  parts_events : (es : List events.Event) → map (line_part call) (lines_of_events es) ≡ map Some (map (event_part call) es)
  parts_events [] = refl
  parts_events (e ∷ es) = ap (λ ls. Some (event_part call e) ∷ ls) (parts_events es)

  parts_run : (es : List events.Event) (control : Option ControlLine) → is_some control ≡ false → map (line_part call) (lines_of_events es ++ lines_of_control control) ≡ map Some (map (event_part call) es)
  parts_run es None none = ap (map (line_part call)) (append-nil (lines_of_events es)) ∙ parts_events es
  parts_run es (Some control) none = cc

  -- the events of one run more
  pub parts_more : (runs : List LineRun) (i : ℕ) (run : LineRun) (old new : List ℕ) → i < length runs → run ≡ get_or runs i run → is_some run.control ≡ false → new ≡ old ++ map (event_part call) run.events → ArePartsSaid call (lines_of_runs (take i runs)) old
      → ArePartsSaid call (lines_of_runs (take (i + 1) runs)) new
  parts_more runs i run old new lt is none pushed h =
      let cut : take (i + 1) runs ≡ take i runs ++ run ∷ [] = take_more runs i run lt ∙ ap (λ (r : LineRun). take i runs ++ r ∷ []) (sym is) in
      let lines : lines_of_runs (take (i + 1) runs) ≡ lines_of_runs (take i runs) ++ lines_of_run run =
      ap lines_of_runs cut ∙ flat_map-append lines_of_run (take i runs) (run ∷ []) ∙ ap (λ ls. lines_of_runs (take i runs) ++ ls) (append-nil (lines_of_run run)) in
      ap (map (line_part call)) lines ∙ map-append (line_part call) (lines_of_runs (take i runs)) (lines_of_run run)
      ∙ ap (λ ls. ls ++ map (line_part call) (lines_of_run run)) h ∙ ap (λ ls. map Some old ++ ls) (parts_run run.events run.control none)
      ∙ sym (map-append Some old (map (event_part call) run.events)) ∙ ap (map Some) (sym pushed)

-- the next line of those that are known
pub next_known : (call : Call) (lines : List (List ℕ)) (parts : List ℕ) (i at : ℕ) (line : List ℕ) → i < length lines → line ≡ get_or lines i [] → AreKnown call (drop i lines) (drop at parts)
    → ((is_blank_line line ≡ true) × (part_said call (request_of line) ≡ Ok None) × AreKnown call (drop (i + 1) lines) (drop at parts))
    ⊎ ((is_blank_line line ≡ false) × ((part : ℕ) × (rest : List ℕ) × (drop at parts ≡ part ∷ rest) × (part_said call (request_of line) ≡ Ok (Some part)) × AreKnown call (drop (i + 1) lines) rest))
next_known call lines parts i at line lt is h =
    subst (λ (l : List ℕ). ((is_blank_line l ≡ true) × (part_said call (request_of l) ≡ Ok None) × AreKnown call (drop (i + 1) lines) (drop at parts))
    ⊎ ((is_blank_line l ≡ false) × ((part : ℕ) × (rest : List ℕ) × (drop at parts ≡ part ∷ rest) × (part_said call (request_of l) ≡ Ok (Some part)) × AreKnown call (drop (i + 1) lines) rest))) (sym is)
    (subst (λ (ls : List (List ℕ)). AreKnown call ls (drop at parts)) (drop_more lines i [] lt) h)

-- where a list has a first element from a place on
pub at_first : (parts : List ℕ) (at part : ℕ) (rest : List ℕ) → drop at parts ≡ part ∷ rest → (at < length parts) × (slice_get parts at ≡ Some part) × (drop (suc at) parts ≡ rest)
at_first [] zero part rest h = cc
at_first [] (suc at) part rest h = cc
at_first (p ∷ ps) zero part rest h =
    let first : p ≡ part = cc in
    let more : ps ≡ rest = cc in
    (omega arith, ap Some first, more)
at_first (p ∷ ps) (suc at) part rest h =
    let k = at_first ps at part rest h in
    (omega (arith, k.0), k.1, k.2)

-- what is known of the parts of a result
pub known_result : {X E : Type 0} (items : X → List ℕ) (r : Result (Option X) E) (P Q : List ℕ → Type 0) → ((xs : List ℕ) → P xs → Q xs) → IfOk r (λ o. IfSome o (λ x. P (items x))) → IfOk r (λ o. IfSome o (λ x. Q (items x)))
known_result items (Ok (Some x)) P Q f h = f (items x) h
known_result items (Ok None) P Q f h = h
known_result items (Err e) P Q f h = h

-- one event more
pub event_more : (call : Call) (es : List events.Event) (i : ℕ) (e : events.Event) (old start : List ℕ) (part : ℕ) → slice_get es i ≡ Some e → part ≡ event_part call e → old ≡ start ++ map (event_part call) (take i es) → old ++ part ∷ [] ≡ start ++ map (event_part call) (take (i + 1) es)
event_more call es i e old start part get is h =
    let on : i + 1 ≡ suc i = omega arith in
    ap (λ xs. xs ++ part ∷ []) h ∙ append_assoc start (map (event_part call) (take i es)) (part ∷ [])
    ∙ ap (λ xs. start ++ xs) (ap (λ p. map (event_part call) (take i es) ++ p ∷ []) is ∙ sym (map-append (event_part call) (take i es) (e ∷ [])) ∙ ap (map (event_part call)) (sym (ap (λ k. take k es) on ∙ taken es i get)))
  where
    taken : (es : List events.Event) (i : ℕ) → slice_get es i ≡ Some e → take (suc i) es ≡ take i es ++ e ∷ []
    taken [] i g = cc
    taken (x ∷ xs) zero g =
        let same : x ≡ e = cc in
        ap (λ y. y ∷ []) same
    taken (x ∷ xs) (suc i) g = ap (λ ys. x ∷ ys) (taken xs i g)

part_within : (call : Call) → 0 < call.parts → (r : Result (Option (List ℕ)) Reason) (part : ℕ) → part_said call r ≡ Ok (Some part) → part < call.parts
part_within call some (Ok (Some request)) part e =
    let same : part_of call.parts call.seed request ≡ part = cc in
    subst (λ n. n < call.parts) same (mod_below (big_number 8 (sha256 (call.seed ++ request))) call.parts some)
part_within call some (Ok None) part e = cc
part_within call some (Err why) part e = cc

-- what the next line is by what was found of it
module _ (call : Call) (some : 0 < call.parts) (lines : List (List ℕ)) (parts : List ℕ) (i at : ℕ) (line : List ℕ) (lt : i < length lines) (is : line ≡ get_or lines i []) (known : AreKnown call (drop i lines) (drop at parts)) where
  -- a line that is not blank has a part
  pub some_left : is_blank_line line ≡ false → at < length parts
  some_left full = elim (next_known call lines parts i at line lt is known) [
    | inl h ↦ absurd (both_ways (is_blank_line line) full h.0)
    | inr h ↦ (at_first parts at h.1.0 h.1.1 h.1.2).0
  ]

  pub part_step : (r : Option ℕ) → MatchOption r (is_blank_line line ≡ true) (λ part. (is_blank_line line ≡ false) × (slice_get parts at ≡ Some part))
      → (part_said call (request_of line) ≡ Ok r) × IfSome r (λ n. n < call.parts) × AreKnown call (drop (i + 1) lines) (drop (at + option_map_or (λ _. 1) r 0) parts)
  part_step None blank = elim (next_known call lines parts i at line lt is known) [
    | inl h ↦ (h.1, tt, subst (λ k. AreKnown call (drop (i + 1) lines) (drop k parts)) (omega arith) h.2)
    | inr h ↦ absurd (both_ways (is_blank_line line) h.0 blank)
  ]
  part_step (Some part) found = elim (next_known call lines parts i at line lt is known) [
    | inl h ↦ absurd (both_ways (is_blank_line line) found.0 h.0)
    | inr h ↦
        let first = at_first parts at h.1.0 h.1.1 h.1.2 in
        let same : h.1.0 ≡ part = some_same h.1.0 part (sym first.1 ∙ found.1) in
        let on : at + 1 ≡ suc at = omega arith in
        (h.1.3 ∙ ap (λ (n : ℕ). Ok (Some n)) same, subst (λ n. n < call.parts) same (part_within call some (request_of line) h.1.0 h.1.3), subst (AreKnown call (drop (i + 1) lines)) (sym (ap (λ k. drop k parts) on ∙ first.2)) h.1.4)
  ]
