-- The lines that an input says have rising numbers, timely events and limited commands, and there
-- is at most one more than the input has bytes.
use Rattle.std.proofs.Common.{◌≡◌, ℕ, zero, suc, ◌+◌, ◌*◌, ◌≤◌, List, [], ◌∷◌, ◌++◌, length, Bool, true, false, Option, Some, None, Result, Ok, Err, refl, sym, ap, subst, ◌∙◌, true≢false, arith, codes, nat_lt, unwrap_or, is_some, if◌then◌else◌}
use Rattle.std.specs.Prelude.{All}
use Rattle.std.proofs.lemmas.List.{length-append}
use Rattle.std.proofs.lemmas.List.Elements.{All-cons}
use Rattle.std.proofs.lemmas.List.Splits.{length-slice_split}
use Rattle.std.proofs.lemmas.List.Sums.{count_by-le-length}
use Rattle.std.specs.Option.{option_map_or}
use Rattle.std.specs.Result.{result_map_both}
use Rattle.std.proofs.lemmas.Bool.{ltb-false}
use Rattle.serde_json.specs.Data.{Data}
use Rattle.serde_json.specs.Find.{as_object}
use Rattle.event_lines.specs.declared.line.Line.{Line}
use Rattle.event_lines.specs.declared.line.Line.TheVariants.{Event, Control}
use Rattle.event_lines.specs.declared.command.Command.{Command}
use Rattle.event_lines.specs.declared.why.Why.{Why}
use Rattle.event_lines.specs.declared.why.Why.TheVariants.{NotJson, Missing, WrongKind, OutOfRange}
use Rattle.event_lines.specs.declared.time_unit.TimeUnit.{TimeUnit}
use Rattle.event_lines.specs.declared.time_unit.TimeUnit.TheVariants.{Microseconds, Nanoseconds}
use Rattle.event_lines.specs.Cut.{input_lines, is_blank_line, is_line_feed}
use Rattle.event_lines.specs.GoodLines.{line_number, NumbersRise, IsTimely, IsLimited}
use Rattle.event_lines.specs.Commands.{command_result}
use Rattle.event_lines.specs.EventFaults.{event_line_fault, time_name, lacks_member, has_wrong_kind, is_out_of_range}
use Rattle.event_lines.specs.LineResults.{line_event, event_line_result, control_line_result, object_result, value_result, line_result, json_value}
use Rattle.event_lines.specs.Members.{has_member, number_at}
use Rattle.event_lines.specs.TimeUnits.{time_unit_of, latest_in, nanoseconds_in}
use Rattle.event_lines.specs.InputLines.{LineFault, both_said, lines_said_from, lines_said}
use Rattle.event_lines.proofs.CommandLemmas.{command_small}
use Rattle.event_lines.proofs.InputLineLemmas.{one_or_fault, lines_said_from-cons, lines_said_from-one}

-- a good line has its number, and is in the limits
record IsGood (n : ℕ) (line : Line) : Type 0 where
  pub numbered : line_number line ≡ n
  pub timely : IsTimely line
  pub limited : IsLimited line

-- ---- one line

bounded : (unit : TimeUnit) (number : Option ℕ) → option_map_or (nat_lt (latest_in unit)) number true ≡ false → nanoseconds_in unit * unwrap_or number 0 ≤ 4102444800000000000
bounded unit None out = absurd (true≢false out)
bounded Microseconds (Some t) out = let le : t ≤ 4102444800000000 = ltb-false 4102444800000000 t out in omega arith
bounded Nanoseconds (Some t) out = let le : t ≤ 4102444800000000000 = ltb-false 4102444800000000000 t out in omega arith

third_holds_not : (a b c : Bool) (rest : Option Why) → (if a then Some Missing else (if b then Some WrongKind else (if c then Some OutOfRange else rest))) ≡ None → c ≡ false
third_holds_not true b c rest h = absurd (cc h)
third_holds_not false true c rest h = absurd (cc h)
third_holds_not false false true rest h = absurd (cc h)
third_holds_not false false false rest h = refl

good_event : (n : ℕ) (d : Data) (line : Line) → event_line_result n d ≡ Ok line → IsGood n line
good_event n d line said = by (event_line_fault d) refl
  where
    by : (fault : Option Why) → event_line_fault d ≡ fault → IsGood n line
    by (Some why) e = absurd (cc (rw e at said))
    by None e =
        let is : Ok (Event (line_event n d)) ≡ Ok line = rw e at said in
        let same : Event (line_event n d) ≡ line = cc in
        subst (IsGood n) same (record {
          numbered = refl;
          timely = bounded (time_unit_of d) (number_at (time_name d) d) (third_holds_not (lacks_member d) (has_wrong_kind d) (is_out_of_range d) _ e);
          limited = tt;
        })

good_command : (n : ℕ) (d : Data) (line : Line) (command : Result Command Why) → command_result d ≡ command
    → result_map_both (λ command. Control n command) (λ why. why) command ≡ Ok line → IsGood n line
good_command n d line (Err why) is said = absurd (cc said)
good_command n d line (Ok command) is said =
    let same : Control n command ≡ line = cc in
    subst (IsGood n) same (record { numbered = refl; timely = tt; limited = command_small d command is })

good_object : (n : ℕ) (d : Data) (line : Line) → object_result n d ≡ Ok line → IsGood n line
good_object n d line said = by (has_member (codes "do") d) said
  where
    by : (b : Bool) → (if b then control_line_result n d else event_line_result n d) ≡ Ok line → IsGood n line
    by true h = good_command n d line (command_result d) refl h
    by false h = good_event n d line h

from_then : (b : Bool) (why : Why) (said : Result Line Why) (line : Line) → (if b then said else Err why) ≡ Ok line → said ≡ Ok line
from_then true why said line h = h
from_then false why said line h = absurd (cc h)

good_value : (n : ℕ) (value : Option Data) (line : Line) → option_map_or (value_result n) value (Err NotJson) ≡ Ok line → IsGood n line
good_value n None line said = absurd (cc said)
good_value n (Some d) line said = good_object n d line (from_then (is_some (as_object d)) NotJson _ line said)

good_line : (n : ℕ) (bytes : List ℕ) (line : Line) → line_result n bytes ≡ Ok line → IsGood n line
good_line n bytes line said = good_value n (json_value bytes) line said

-- ---- all lines

-- the lines are good, and their numbers rise from n on
abbrev AreGoodFrom : ℕ → List Line → Type 0
AreGoodFrom n [] = Unit {0}
AreGoodFrom n (line ∷ lines) = (n ≤ line_number line) × IsTimely line × IsLimited line × AreGoodFrom (line_number line + 1) lines

from_later : (n : ℕ) (lines : List Line) → AreGoodFrom (n + 1) lines → AreGoodFrom n lines
from_later n [] good = tt
from_later n (line ∷ lines) good = (omega (arith, good.0), good.1, good.2, good.3)

good_added : (n : ℕ) (blank : Bool) (said : Result Line Why) (lines rest : List Line) → ((line : Line) → said ≡ Ok line → IsGood n line)
    → (if blank then Ok [] else one_or_fault n said) ≡ Ok lines → AreGoodFrom (n + 1) rest → AreGoodFrom n (lines ++ rest)
good_added n true said lines rest good is more = let none : [] ≡ lines = cc in subst (λ ls. AreGoodFrom n (ls ++ rest)) none (from_later n rest more)
good_added n false (Err why) lines rest good is more = absurd (cc is)
good_added n false (Ok line) lines rest good is more =
    let one : line ∷ [] ≡ lines = cc in
    let g = good line refl in
    subst (λ ls. AreGoodFrom n (ls ++ rest)) one (omega (arith, g.numbered), g.timely, g.limited, subst (λ m. AreGoodFrom (m + 1) rest) (sym g.numbered) more)

good_lines : (n : ℕ) (parts : List (List ℕ)) (lines : List Line) → lines_said_from n parts ≡ Ok lines → AreGoodFrom n lines
good_lines n [] lines said = let none : [] ≡ lines = cc in subst (AreGoodFrom n) none tt
good_lines n (part ∷ parts) lines said = by (lines_said_from n (part ∷ [])) (lines_said_from (n + 1) parts) refl refl (sym (lines_said_from-cons n part parts) ∙ said) (good_lines (n + 1) parts)
  where
    by : (one rest : Result (List Line) LineFault) → lines_said_from n (part ∷ []) ≡ one → lines_said_from (n + 1) parts ≡ rest → both_said one rest ≡ Ok lines
        → ((more : List Line) → lines_said_from (n + 1) parts ≡ Ok more → AreGoodFrom (n + 1) more) → AreGoodFrom n lines
    by (Err e) rest is more all good = absurd (cc all)
    by (Ok first) (Err e) is more all good = absurd (cc all)
    by (Ok first) (Ok later) is more all good =
        let joined : first ++ later ≡ lines = cc in
        subst (AreGoodFrom n) joined (good_added n (is_blank_line part) (line_result n part) first later (good_line n part) (sym (lines_said_from-one n part) ∙ is) (good later more))

-- ---- how many lines

few_added : (n : ℕ) (blank : Bool) (said : Result Line Why) (lines : List Line) → (if blank then Ok [] else one_or_fault n said) ≡ Ok lines → length lines ≤ 1
few_added n true said lines is = let none : [] ≡ lines = cc in omega (arith, ap length none)
few_added n false (Err why) lines is = absurd (cc is)
few_added n false (Ok line) lines is = let one : line ∷ [] ≡ lines = cc in omega (arith, ap length one)

few_lines : (n : ℕ) (parts : List (List ℕ)) (lines : List Line) → lines_said_from n parts ≡ Ok lines → length lines ≤ length parts
few_lines n [] lines said = let none : [] ≡ lines = cc in omega (arith, ap length none)
few_lines n (part ∷ parts) lines said = by (lines_said_from n (part ∷ [])) (lines_said_from (n + 1) parts) refl refl (sym (lines_said_from-cons n part parts) ∙ said) (few_lines (n + 1) parts)
  where
    by : (one rest : Result (List Line) LineFault) → lines_said_from n (part ∷ []) ≡ one → lines_said_from (n + 1) parts ≡ rest → both_said one rest ≡ Ok lines
        → ((more : List Line) → lines_said_from (n + 1) parts ≡ Ok more → length more ≤ length parts) → length lines ≤ length (part ∷ parts)
    by (Err e) rest is more all few = absurd (cc all)
    by (Ok first) (Err e) is more all few = absurd (cc all)
    by (Ok first) (Ok later) is more all few =
        let joined : first ++ later ≡ lines = cc in
        let one = few_added n (is_blank_line part) (line_result n part) first (sym (lines_said_from-one n part) ∙ is) in
        omega (arith, one, few later more, ap length joined, length-append first later)

-- ---- as the contracts say it

rise : (n : ℕ) (lines : List Line) → AreGoodFrom n lines → NumbersRise lines
rise n [] good k within = absurd (omega arith)
rise n (line ∷ []) good k within = absurd (omega arith)
rise n (line ∷ next ∷ lines) good zero within = omega (arith, good.3.0)
rise n (line ∷ next ∷ lines) good (suc k) within =
    let e : suc k + 1 ≡ suc (k + 1) = omega arith in
    rw e (rise (line_number line + 1) (next ∷ lines) good.3 k (omega arith))

lines_timely : (n : ℕ) (lines : List Line) → AreGoodFrom n lines → All IsTimely lines
lines_timely n [] good k d within = absurd (omega arith)
lines_timely n (line ∷ lines) good k d within = All-cons IsTimely line lines good.1 (lines_timely (line_number line + 1) lines good.3) k d within

lines_limited : (n : ℕ) (lines : List Line) → AreGoodFrom n lines → All IsLimited lines
lines_limited n [] good k d within = absurd (omega arith)
lines_limited n (line ∷ lines) good k d within = All-cons IsLimited line lines good.2 (lines_limited (line_number line + 1) lines good.3) k d within

pub numbers_rise : (bytes : List ℕ) (lines : List Line) → lines_said bytes ≡ Ok lines → NumbersRise lines
numbers_rise bytes lines said = rise 1 lines (good_lines 1 (input_lines bytes) lines said)

pub all_timely : (bytes : List ℕ) (lines : List Line) → lines_said bytes ≡ Ok lines → All IsTimely lines
all_timely bytes lines said = lines_timely 1 lines (good_lines 1 (input_lines bytes) lines said)

pub all_limited : (bytes : List ℕ) (lines : List Line) → lines_said bytes ≡ Ok lines → All IsLimited lines
all_limited bytes lines said = lines_limited 1 lines (good_lines 1 (input_lines bytes) lines said)

pub no_more_lines : (bytes : List ℕ) (lines : List Line) → lines_said bytes ≡ Ok lines → length lines ≤ length bytes + 1
no_more_lines bytes lines said = omega (arith, few_lines 1 (input_lines bytes) lines said, length-slice_split is_line_feed bytes, count_by-le-length is_line_feed bytes)
