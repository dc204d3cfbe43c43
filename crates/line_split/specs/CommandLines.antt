-- The grammar of the arguments: `[--grace MICROS] N SEED PREFIX FILE...`.
use Rattle.std.specs.Prelude.{ℕ, ◌==◌, List, ◌∷◌, length, codes, not, Bool}
use Rattle.std.specs.Prelude.{if◌then◌else◌, Option, Some, None, is_some, option_map}
use Rattle.std.specs.Prelude.{option_and_then}
use Rattle.std.specs.Int.{is_in_range}
use Rattle.std.specs.List.{list_all}
use Rattle.std.specs.Str.{bytes_eq}
use Rattle.step_core.specs.Numbers.{plain_number}

-- what the arguments ask for: the microseconds of the control line in front of each part, if it is to
-- have one; how many parts; the seed; what the names of parts begin with; and the files
pub record Call : Type 0 where
  pub grace : Option ℕ
  pub parts : ℕ
  pub seed : List ℕ
  pub prefix : List ℕ
  pub files : List (List ℕ)

-- the number from low to high, both included, that the text is in plain digits, without a sign or a
-- leading zero
abbrev pub number_within : ℕ → ℕ → List ℕ → Option ℕ
number_within low high word =
    option_and_then (λ n. if is_in_range low high n then Some n else None) (plain_number word)

-- a prefix or a file is any argument that is not empty
abbrev pub is_filled : List ℕ → Bool
is_filled word = not (length word == 0)

-- the call of the arguments after the grace: from 1 to 256 parts, a seed, a prefix and one file or more
abbrev pub call_after : Option ℕ → List (List ℕ) → Option Call
call_after grace (parts ∷ seed ∷ prefix ∷ file ∷ files) =
    if list_all is_filled (prefix ∷ file ∷ files)
    then option_map (λ n. record {
      grace = grace;
      parts = n;
      seed = seed;
      prefix = prefix;
      files = file ∷ files;
    }) (number_within 1 256 parts)
    else None
call_after grace words = None

-- the call of the arguments: with `--grace` and a number from 0 to 1,000,000 first, or without
abbrev pub call_of : List (List ℕ) → Option Call
call_of (first ∷ micros ∷ words) =
    if bytes_eq first (codes "--grace")
    then option_and_then (λ n. call_after (Some n) words) (number_within 0 1000000 micros)
    else call_after None (first ∷ micros ∷ words)
call_of words = None

-- the arguments are in the grammar
abbrev pub is_in_grammar : List (List ℕ) → Bool
is_in_grammar words = is_some (call_of words)
