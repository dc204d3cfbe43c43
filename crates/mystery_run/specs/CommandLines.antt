-- The grammar of the arguments: `[--workers N] [--given FILE]... COMMAND`, where COMMAND is
-- `session FILE...`, a view as `model FILE...`, `whatif TASK START END NUM DEN FILE...`,
-- `tail FILE...`, `why FILE...`, `verify CERT FILE...`, `evidence [--least N] [--reduced] FILE...`,
-- `drill NUMBER TRACES` or `replay FILE`. The two options of `evidence` stand in either order.
-- Where something is given COMMAND is a view, `whatif` or `tail`, and `model` and `summarize` need
-- no FILE.
use Rattle.std.specs.Prelude.{ℕ, ◌^◌, ◌==◌, ◌||◌, List, [], ◌∷◌, ◌++◌, length, codes, not, nat_lt}
use Rattle.std.specs.Prelude.{Bool, true, false, if◌then◌else◌, Option, Some, None, is_some}
use Rattle.std.specs.Prelude.{option_and_then, option_map}
use Rattle.std.specs.Option.{option_map_or}
use Rattle.std.specs.Int.{is_in_range}
use Rattle.std.specs.List.{list_all}
use Rattle.std.specs.Str.{bytes_eq}
use Rattle.evidence_rules.specs.declared.choice.Choice.{Choice}
use Rattle.mystery_run.specs.declared.view.View.{View}
use Rattle.mystery_run.specs.declared.view.View.TheVariants.{Model, Paths, Slack, Report, Graph}
use Rattle.mystery_run.specs.declared.view.View.TheVariants.{Summarize}
use Rattle.session_rules.specs.declared.named_change.NamedChange.{NamedChange}
use Rattle.step_core.specs.Numbers.{plain_number}

-- what is asked for: the control lines of these files; these and then a view, a forecast, the
-- report on the slowest traces, a certificate, the check of the certificate in another file, or the
-- evidence of relations; a summary of so many traces that are drawn from a number; or the replay of
-- a file of steps
pub data Action : Type 0 where
  session : List (List ℕ) → Action
  view : View → List (List ℕ) → Action
  what_if : NamedChange → List (List ℕ) → Action
  tail : List (List ℕ) → Action
  why : List (List ℕ) → Action
  verify : List ℕ → List (List ℕ) → Action
  evidence : Choice → List (List ℕ) → Action
  drill : ℕ → ℕ → Action
  replay : List ℕ → Action

-- what the arguments ask for: how many workers, the files that are given, and what is to be done
pub record Call : Type 0 where
  pub workers : ℕ
  pub given : List (List ℕ)
  pub action : Action

-- the number from low to high, both included, that the text is in plain digits, without a sign or a
-- leading zero
abbrev pub number_between : ℕ → ℕ → List ℕ → Option ℕ
number_between low high word =
    option_and_then (λ n. if is_in_range low high n then Some n else None) (plain_number word)

-- a file is any argument that is not empty, and so is a text of a name
abbrev pub is_filled : List ℕ → Bool
is_filled word = not (length word == 0)

-- one file or more
abbrev pub some_files : List (List ℕ) → Option (List (List ℕ))
some_files [] = None
some_files (file ∷ files) = if list_all is_filled (file ∷ files) then Some (file ∷ files) else None

-- exactly one file
abbrev pub one_file : List (List ℕ) → Option (List ℕ)
one_file (file ∷ []) = if is_filled file then Some file else None
one_file files = None

-- the view with this name
abbrev pub named_view : List ℕ → Option View
named_view name =
    if bytes_eq name (codes "model") then Some Model else (
    if bytes_eq name (codes "paths") then Some Paths else (
    if bytes_eq name (codes "slack") then Some Slack else (
    if bytes_eq name (codes "report") then Some Report else (
    if bytes_eq name (codes "graph") then Some Graph else (
    if bytes_eq name (codes "summarize") then Some Summarize else None)))))

-- the segments of a name take `num / den` of their time: the name's three texts, and the numbers,
-- of which `den` is from 1 to 1,000,000 and `num` from 0 to `den`
abbrev pub change_of_words : List ℕ → List ℕ → List ℕ → List ℕ → List ℕ → Option NamedChange
change_of_words task start end num den =
    if list_all is_filled (task ∷ start ∷ end ∷ [])
    then option_and_then (λ d.
    option_map (λ n. record { name = (task, start, end); num = n; den = d })
    (number_between 0 d num)) (number_between 1 1000000 den)
    else None

-- a forecast of the files that these arguments name, by the change that five before them name
abbrev pub what_if_of_words : List (List ℕ) → Option Action
what_if_of_words (task ∷ start ∷ end ∷ num ∷ den ∷ files) =
    option_and_then (λ change. option_map (what_if change) (some_files files))
    (change_of_words task start end num den)
what_if_of_words words = None

-- a check of the certificate that the first of these arguments names, over the files that the
-- others name
abbrev pub verify_of_words : List (List ℕ) → Option Action
verify_of_words [] = None
verify_of_words (file ∷ files) =
    if is_filled file then option_map (verify file) (some_files files) else None

-- the word is an option of `evidence`
abbrev pub is_option : List ℕ → Bool
is_option word = bytes_eq word (codes "--least") || bytes_eq word (codes "--reduced")

-- the evidence of these files, so much of it as is chosen. Each option is given at most once, so
-- the first file is none
abbrev pub evidence_over : Choice → List (List ℕ) → Option Action
evidence_over choice [] = None
evidence_over choice (file ∷ files) =
    if is_option file then None else option_map (evidence choice) (some_files (file ∷ files))

-- what comes of a number of traces, from 1 to 2,147,483,647, and of the arguments after it
abbrev pub with_least : (ℕ → List (List ℕ) → Option Action) → List (List ℕ) → Option Action
with_least rest [] = None
with_least rest (number ∷ words) =
    option_and_then (λ n. rest n words) (number_between 1 2147483647 number)

-- the evidence of relations that so many traces support: `--reduced`, or not, and files
abbrev pub evidence_with_least : ℕ → List (List ℕ) → Option Action
evidence_with_least least [] = None
evidence_with_least least (word ∷ words) =
    if bytes_eq word (codes "--reduced")
    then evidence_over (record { least = least; reduced = true }) words
    else evidence_over (record { least = least; reduced = false }) (word ∷ words)

-- the evidence without implied orders: `--least N`, or any support, and files
abbrev pub evidence_reduced : List (List ℕ) → Option Action
evidence_reduced [] = None
evidence_reduced (word ∷ words) =
    if bytes_eq word (codes "--least")
    then with_least (λ n. evidence_over (record { least = n; reduced = true })) words
    else evidence_over (record { least = 1; reduced = true }) (word ∷ words)

-- the evidence that these arguments ask for: `--least N`, `--reduced`, both or neither, and files
abbrev pub evidence_of_words : List (List ℕ) → Option Action
evidence_of_words [] = None
evidence_of_words (word ∷ words) =
    if bytes_eq word (codes "--least") then with_least evidence_with_least words else (
    if bytes_eq word (codes "--reduced") then evidence_reduced words else
    evidence_over (record { least = 1; reduced = false }) (word ∷ words))

-- a drill: a number from 0 to 2,147,483,647, and from 1 to 20,000 traces
abbrev pub drill_of_words : List (List ℕ) → Option Action
drill_of_words (number ∷ traces ∷ []) =
    option_and_then (λ n. option_map (drill n) (number_between 1 20000 traces))
    (number_between 0 2147483647 number)
drill_of_words words = None

-- what the command with this name asks for that has files alone after it
abbrev pub action_over : List ℕ → List (List ℕ) → Option Action
action_over name words =
    if bytes_eq name (codes "session") then option_map session (some_files words) else (
    if bytes_eq name (codes "tail") then option_map tail (some_files words) else (
    if bytes_eq name (codes "why") then option_map why (some_files words) else (
    if bytes_eq name (codes "replay") then option_map replay (one_file words) else
    option_and_then (λ v. option_map (view v) (some_files words)) (named_view name))))

-- what the command with this name and these arguments after it asks for
abbrev pub named_action : List ℕ → List (List ℕ) → Option Action
named_action name words =
    if bytes_eq name (codes "whatif") then what_if_of_words words else (
    if bytes_eq name (codes "verify") then verify_of_words words else (
    if bytes_eq name (codes "evidence") then evidence_of_words words else (
    if bytes_eq name (codes "drill") then drill_of_words words else action_over name words)))

-- what these arguments ask for: a command and its arguments
abbrev pub action_of_words : List (List ℕ) → Option Action
action_of_words [] = None
action_of_words (name ∷ words) = named_action name words

-- the action judges traces under what is given
abbrev pub is_judged : Action → Bool
is_judged (session files) = false
is_judged (view v files) = true
is_judged (what_if change files) = true
is_judged (tail files) = true
is_judged (why files) = false
is_judged (verify file files) = false
is_judged (evidence choice files) = false
is_judged (drill number traces) = false
is_judged (replay file) = false

-- the view with this name that needs no file where something is given: it is then one of what is
-- given alone
abbrev pub view_alone : List ℕ → Option Action
view_alone name =
    if bytes_eq name (codes "model") then Some (view Model []) else (
    if bytes_eq name (codes "summarize") then Some (view Summarize []) else None)

-- what these arguments ask for where something is given
abbrev pub action_under : List (List ℕ) → Option Action
action_under (name ∷ []) = view_alone name
action_under words =
    option_and_then (λ a. if is_judged a then Some a else None) (action_of_words words)

-- the files of the options `--given FILE` that these arguments begin with
abbrev pub given_in : List (List ℕ) → List (List ℕ)
given_in (first ∷ file ∷ words) =
    if bytes_eq first (codes "--given") then file ∷ given_in words else []
given_in words = []

-- the arguments after these options
abbrev pub after_given : List (List ℕ) → List (List ℕ)
after_given (first ∷ file ∷ words) =
    if bytes_eq first (codes "--given") then after_given words else first ∷ file ∷ words
after_given words = words

-- the call of so many workers in which these files are given, by the arguments after them
abbrev pub call_under : ℕ → List (List ℕ) → List (List ℕ) → Option Call
call_under workers [] form =
    option_map (λ a. record { workers = workers; given = []; action = a }) (action_of_words form)
call_under workers (file ∷ files) form =
    if list_all is_filled (file ∷ files)
    then option_map (λ a. record { workers = workers; given = file ∷ files; action = a })
    (action_under form)
    else None

-- the call of so many workers that these arguments ask for
abbrev pub call_with : ℕ → List (List ℕ) → Option Call
call_with workers words = call_under workers (given_in words) (after_given words)

-- the call of the arguments: `--workers` with a number from 1 to 64, or 4 workers without it, then
-- what is given, and then the command
abbrev pub call_of_words : List (List ℕ) → Option Call
call_of_words (first ∷ second ∷ form) =
    if bytes_eq first (codes "--workers")
    then option_and_then (λ n. call_with n form) (number_between 1 64 second)
    else call_with 4 (first ∷ second ∷ form)
call_of_words words = call_with 4 words

-- the call of the arguments; none if they are outside the grammar, or 2 ^ 32 or more
abbrev pub call_of : List (List ℕ) → Option Call
call_of words = if nat_lt (length words) (2 ^ 32) then call_of_words words else None

-- the arguments are in the grammar
abbrev pub is_in_grammar : List (List ℕ) → Bool
is_in_grammar words = is_some (call_of words)

-- the files of its input, in order; none for a drill, and for a view of what is given alone
abbrev pub files_of_action : Action → List (List ℕ)
files_of_action (session files) = files
files_of_action (view v files) = files
files_of_action (what_if change files) = files
files_of_action (tail files) = files
files_of_action (why files) = files
files_of_action (verify file files) = files
files_of_action (evidence choice files) = files
files_of_action (drill number traces) = []
files_of_action (replay file) = file ∷ []

-- the file of the certificate that is checked, which is no part of the input; none where there is
-- no check
abbrev pub certificate_of_action : Action → List (List ℕ)
certificate_of_action (verify file files) = file ∷ []
certificate_of_action action = []

-- the files of the preface, which is read before the input and is no part of it: what is given, or
-- the certificate that is checked
abbrev pub preface_under : List (List ℕ) → List (List ℕ) → List (List ℕ)
preface_under [] certificate = certificate
preface_under (file ∷ files) certificate = file ∷ files

abbrev pub preface_of_call : Call → List (List ℕ)
preface_of_call call = preface_under call.given (certificate_of_action call.action)

-- the files of the input, none where the arguments are outside the grammar or name none
abbrev pub files_of : List (List ℕ) → List (List ℕ)
files_of words = option_map_or (λ (call : Call). files_of_action call.action) (call_of words) []

-- the files of the preface, none where the arguments are outside the grammar or name none
abbrev pub preface_of : List (List ℕ) → List (List ℕ)
preface_of words = option_map_or preface_of_call (call_of words) []

-- the file arguments: those of the preface are the first to be read
abbrev pub all_files_of : List (List ℕ) → List (List ℕ)
all_files_of words = preface_of words ++ files_of words
