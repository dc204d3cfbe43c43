-- Names that no command has, and the range of a command's number.
use Rattle.std.proofs.Common.{◌≡◌, ℕ, ◌≤◌, List, [], ◌∷◌, Bool, true, false, not, Option, Some, None, Result, Ok, Err, codes, nat_lt, if◌then◌else◌, arith, refl, sym, subst}
use Rattle.std.specs.Prelude.{find}
use Rattle.std.specs.Option.{option_map_or}
use Rattle.std.specs.Result.{result_map_both}
use Rattle.std.specs.Str.{bytes_eq}
use Rattle.std.proofs.lemmas.Bool.{ltb-false}
use Rattle.std.proofs.lemmas.Slice.Eq.{bytes_eq-Decides}
use Rattle.serde_json.specs.Data.{Data}
use Rattle.event_lines.specs.declared.command.Command.{Command}
use Rattle.event_lines.specs.declared.why.Why.{Why}
use Rattle.event_lines.specs.declared.why.Why.TheVariants.{Missing, WrongKind, OutOfRange, UnknownCommand}
use Rattle.event_lines.specs.Commands.{CommandRow, command_rows, command_row, ranged_number, number_result, row_result, named_result, command_result}
use Rattle.event_lines.specs.GoodLines.{number_of_command}
use Rattle.event_lines.specs.Members.{has_member, is_whole_at, number_at, text_at}

unlike : (a b : List ℕ) → (b ≡ a → ⊥) → bytes_eq a b ≡ false
unlike a b apart = by (bytes_eq a b) refl
  where
    by : (same : Bool) → bytes_eq a b ≡ same → bytes_eq a b ≡ false
    by true e = absurd (apart (sym ((bytes_eq-Decides a b).0 e)))
    by false e = e

-- a name that is none of the eleven
pub no_command : (name : List ℕ) → (name ≡ codes "add" → ⊥) → (name ≡ codes "drop" → ⊥) → (name ≡ codes "keep" → ⊥) → (name ≡ codes "watch" → ⊥) → (name ≡ codes "grace" → ⊥)
    → (name ≡ codes "model" → ⊥) → (name ≡ codes "paths" → ⊥) → (name ≡ codes "slack" → ⊥) → (name ≡ codes "report" → ⊥) → (name ≡ codes "graph" → ⊥) → (name ≡ codes "summarize" → ⊥) → command_row name ≡ None
no_command name a b c d e f g h i j k =
    rw (
      unlike (codes "add") name a,
      unlike (codes "drop") name b,
      unlike (codes "keep") name c,
      unlike (codes "watch") name d,
      unlike (codes "grace") name e,
      unlike (codes "model") name f,
      unlike (codes "paths") name g,
      unlike (codes "slack") name h,
      unlike (codes "report") name i,
      unlike (codes "graph") name j,
      unlike (codes "summarize") name k,
    ) refl

-- ---- the range of a command's number

abbrev KeepsNumber : CommandRow → Type 0
KeepsNumber row = (n : ℕ) → number_of_command (row.command n) ≤ n

abbrev AllKeep : List CommandRow → Type 0
AllKeep [] = Unit {0}
AllKeep (row ∷ rows) = KeepsNumber row × AllKeep rows

rows_keep : AllKeep command_rows
rows_keep = (λ n. omega arith, (λ n. omega arith, (λ n. omega arith, (λ n. omega arith, (λ n. omega arith, (λ n. omega arith, (λ n. omega arith, (λ n. omega arith, (λ n. omega arith, (λ n. omega arith, (λ n. omega arith, tt)))))))))))

found_keeps : (test : CommandRow → Bool) (rows : List CommandRow) (row : CommandRow) → AllKeep rows → find test rows ≡ Some row → KeepsNumber row
found_keeps test [] row all e = absurd (cc e)
found_keeps test (first ∷ rows) row all e = by (test first) refl (found_keeps test rows row all.1)
  where
    by : (b : Bool) → test first ≡ b → (find test rows ≡ Some row → KeepsNumber row) → KeepsNumber row
    by true t later = let same : Some first ≡ Some row = rw t at e in let is : first ≡ row = cc in subst KeepsNumber is all.0
    by false t later = later (rw t at e)

ranged : (n m : ℕ) → ranged_number n ≡ Ok m → m ≤ 1000000
ranged n m e = by (nat_lt 1000000 n) refl
  where
    by : (b : Bool) → nat_lt 1000000 n ≡ b → m ≤ 1000000
    by true t = absurd (cc (rw t at e))
    by false t = let is : Ok n ≡ Ok m = rw t at e in let same : n ≡ m = cc in let le : n ≤ 1000000 = ltb-false 1000000 n t in omega (arith, same, le)

found_number : (number : Option ℕ) (m : ℕ) → option_map_or ranged_number number (Err OutOfRange) ≡ Ok m → m ≤ 1000000
found_number None m e = absurd (cc e)
found_number (Some n) m e = ranged n m e

number_small : (member : List ℕ) (d : Data) (m : ℕ) → number_result member d ≡ Ok m → m ≤ 1000000
number_small member d m e = by (not (has_member member d)) (not (is_whole_at member d)) e
  where
    by : (a b : Bool) → (if a then Err Missing else (if b then Err WrongKind else option_map_or ranged_number (number_at member d) (Err OutOfRange))) ≡ Ok m → m ≤ 1000000
    by true b h = absurd (cc h)
    by false true h = absurd (cc h)
    by false false h = found_number (number_at member d) m h

member_small : (member : Option (List ℕ)) (d : Data) (m : ℕ) → option_map_or (λ name. number_result name d) member (Ok 0) ≡ Ok m → m ≤ 1000000
member_small None d m e = let is : 0 ≡ m = cc in omega (arith, is)
member_small (Some member) d m e = number_small member d m e

mapped_small : (make : ℕ → Command) (number : Result ℕ Why) (command : Command) → ((n : ℕ) → number_of_command (make n) ≤ n) → ((n : ℕ) → number ≡ Ok n → n ≤ 1000000)
    → result_map_both make (λ why. why) number ≡ Ok command → number_of_command command ≤ 1000000
mapped_small make (Err why) command keeps small e = absurd (cc e)
mapped_small make (Ok n) command keeps small e =
    let is : make n ≡ command = cc in
    subst (λ c. number_of_command c ≤ 1000000) is (omega (arith, keeps n, small n refl))

named_small : (d : Data) (row : Option CommandRow) (command : Command) → ((found : CommandRow) → row ≡ Some found → KeepsNumber found)
    → option_map_or (λ found. row_result found d) row (Err UnknownCommand) ≡ Ok command → number_of_command command ≤ 1000000
named_small d None command keeps e = absurd (cc e)
named_small d (Some row) command keeps e = mapped_small row.command (option_map_or (λ name. number_result name d) row.member (Ok 0)) command (keeps row refl) (λ n h. member_small row.member d n h) e

text_small : (d : Data) (name : Option (List ℕ)) (command : Command) → option_map_or (named_result d) name (Err WrongKind) ≡ Ok command → number_of_command command ≤ 1000000
text_small d None command e = absurd (cc e)
text_small d (Some name) command e = named_small d (command_row name) command (λ row found. found_keeps (λ row. bytes_eq row.name name) command_rows row rows_keep found) e

-- a good command's number is in range
pub command_small : (d : Data) (command : Command) → command_result d ≡ Ok command → number_of_command command ≤ 1000000
command_small d command e = text_small d (text_at (codes "do") d) command e
