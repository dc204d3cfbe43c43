use Rattle.std.proofs.Common.{◌≡◌, ℕ, ◌∷◌, ◌<◌, ◌∙◌, List, [], arith, length, refl, sym}
use Rattle.mystery_run.specs.CommandLines.{call_of_words, call_with}
use Rattle.mystery_run.proofs.command_line.CommandLine.parse_few.Goals as goal

-- fewer than two arguments have no number of workers
short : (words : List (List ℕ)) → length words < 2 → call_of_words words ≡ call_with 4 words
short [] few = refl
short (word ∷ []) few = refl
short (word ∷ next ∷ words) few = absurd (omega (arith, few))

pub returns-in_default-clause-call : goal.returns-in_default-clause-call
returns-in_default-clause-call c = c.find_call.ensures.call ∙ sym (short c.args.words.now c.in_default.len_below)
