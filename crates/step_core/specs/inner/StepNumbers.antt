-- Steps whose words are numbers.
use Rattle.std.specs.Prelude.{ℕ, List, codes, if◌then◌else◌, Option, None, option_map}
use Rattle.std.specs.Str.{bytes_eq}
use Rattle.word_rows.specs.declared.events.StepEvent.{StepEvent}
use Rattle.word_rows.specs.declared.events.StepEvent.TheVariants.{Load, Split, Join, Close}
use Rattle.step_core.specs.StepLines.{one_number, two_numbers}

-- the step with this name and these words after it, which are numbers
abbrev pub step_of_numbers : List ℕ → List (List ℕ) → Option StepEvent
step_of_numbers name words =
    if bytes_eq name (codes "load") then option_map (λ p. Load p.0 p.1) (two_numbers words) else (
    if bytes_eq name (codes "split") then option_map (λ p. Split p.0 p.1) (two_numbers words) else (
    if bytes_eq name (codes "join") then option_map (λ p. Join p.0 p.1) (two_numbers words) else (
    if bytes_eq name (codes "close") then option_map Close (one_number words) else None)))
