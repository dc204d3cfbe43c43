-- The arguments: the form of the input, what is asked of spans, and the files.
use Rattle.std.specs.Prelude.{ℕ, ◌^◌, ◌*◌, ◌&&◌, ◌==◌, List, [], ◌∷◌, Bool, true, false, not}
use Rattle.std.specs.Prelude.{nat_le, nat_lt, codes, length, map, slice_index_or}
use Rattle.std.specs.Prelude.{Option, Some, None, is_some, option_and_then}
use Rattle.std.specs.Prelude.{if◌then◌else◌}
use Rattle.std.specs.List.{count_by, list_all}
use Rattle.std.specs.Str.{bytes_eq}
use Rattle.span_text.specs.Numbers.{whole_number}
use Rattle.span_files.specs.declared.span_form.SpanForm.TheVariants.{Otlp, Jaeger, Zipkin}
use Rattle.import_run.specs.declared.form.Form.{Form}
use Rattle.import_run.specs.declared.form.Form.TheVariants.{Events, Spans}

-- what is asked of spans: by how many nanoseconds they may overlap, the entry of the requests that
-- are kept, and whether names that differ in ids are made one
pub record Asked : Type 0 where
  pub grace : ℕ
  pub entry : Option (List ℕ)
  pub fold : Bool

-- a form, what is asked of spans, and the names of the files of its input
pub record Call : Type 0 where
  pub form : Form
  pub asked : Asked
  pub names : List (List ℕ)

-- the argument that stands for standard input
abbrev pub is_dash : List ℕ → Bool
is_dash word = bytes_eq word (codes "-")

-- an argument that begins with two dashes is an option
abbrev pub is_option : List ℕ → Bool
is_option word = slice_index_or word 0 0 == 45 && slice_index_or word 1 0 == 45

-- a file: not empty, and no option
abbrev pub is_file : List ℕ → Bool
is_file word = nat_lt 0 (length word) && not (is_option word)

-- files, of which standard input is at most one
abbrev pub are_files : List (List ℕ) → Bool
are_files files = list_all is_file files && nat_le (count_by is_dash files) 1

-- the name of a file, by which it is opened
abbrev pub file_name : List ℕ → List ℕ
file_name word = if is_dash word then codes "/dev/stdin" else word

-- the names of files; that of standard input where there is none
abbrev pub file_names : List (List ℕ) → List (List ℕ)
file_names files = if length files == 0 then codes "/dev/stdin" ∷ [] else map file_name files

-- the form with this name
abbrev pub form_named : List ℕ → Option Form
form_named word =
    if bytes_eq word (codes "events") then Some Events
    else (if bytes_eq word (codes "otlp") then Some (Spans Otlp)
    else (if bytes_eq word (codes "jaeger") then Some (Spans Jaeger)
    else (if bytes_eq word (codes "zipkin") then Some (Spans Zipkin) else None)))

-- the nanoseconds of this many microseconds, at most an hour
abbrev pub grace_of : List ℕ → Option ℕ
grace_of word =
    option_and_then (λ micros. if nat_le micros 3600000000 then Some (micros * 1000) else None)
    (whole_number word)

-- the call of a form and files, of which this is asked
abbrev pub call_with : Form → Asked → List (List ℕ) → Option Call
call_with form asked files =
    if are_files files then Some (record { form = form; asked = asked; names = file_names files })
    else None

-- what is asked without options
abbrev pub nothing_asked : Asked
nothing_asked = record { grace = 0; entry = None; fold = false }

-- the call of a form and what stands behind it: options, and then files. Of an option that comes
-- again the last one counts
abbrev pub call_after : Form → Asked → List (List ℕ) → Option Call
call_after form asked [] = call_with form asked []
call_after form asked (word ∷ []) =
    if bytes_eq word (codes "--fold") then call_with form (record asked { fold = true }) []
    else call_with form asked (word ∷ [])
call_after form asked (word ∷ value ∷ later) =
    if bytes_eq word (codes "--fold")
    then call_after form (record asked { fold = true }) (value ∷ later)
    else (if bytes_eq word (codes "--entry")
    then call_after form (record asked { entry = Some value }) later
    else (if bytes_eq word (codes "--grace")
    then option_and_then (λ grace. call_after form (record asked { grace = grace }) later)
    (grace_of value)
    else call_with form asked (word ∷ value ∷ later)))

-- the call of a form; there are no options for event lines
abbrev pub call_of_form : List (List ℕ) → Form → Option Call
call_of_form words Events = call_with Events nothing_asked words
call_of_form words (Spans form) = call_after (Spans form) nothing_asked words

-- the call of fewer than 2^30 arguments
abbrev pub call_of_words : List (List ℕ) → Option Call
call_of_words [] = None
call_of_words (form ∷ words) = option_and_then (call_of_form words) (form_named form)

-- the call of the arguments, or none where they are outside the grammar
abbrev pub call_of : List (List ℕ) → Option Call
call_of words = if nat_lt (length words) (2 ^ 30) then call_of_words words else None

abbrev pub is_in_grammar : List (List ℕ) → Bool
is_in_grammar words = is_some (call_of words)
