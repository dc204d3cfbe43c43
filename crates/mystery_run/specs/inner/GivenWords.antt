-- The first option `--given FILE` of arguments.
use Rattle.std.specs.Prelude.{ℕ, List, [], ◌∷◌, codes, Option, Some, None, if◌then◌else◌}
use Rattle.std.specs.Str.{bytes_eq}

-- the file of the option with which these arguments begin; none where they begin with no such option
abbrev pub first_given : List (List ℕ) → Option (List ℕ)
first_given (first ∷ file ∷ words) =
    if bytes_eq first (codes "--given") then Some file else None
first_given words = None
