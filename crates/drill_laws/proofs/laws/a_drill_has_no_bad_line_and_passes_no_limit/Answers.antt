use Rattle.std.proofs.Common.{◌≡◌, ℕ, List, [], Some, ap, subst, ◌∙◌}
use Rattle.mystery_run.specs.CommandLines.{call_of, drill}
use Rattle.drill_laws.proofs.GrammarLemmas.{few_traces}
use Rattle.drill_laws.proofs.InputLemmas.{input_said}
use Rattle.drill_laws.proofs.OutcomeLemmas.{seen_well}
use Rattle.drill_laws.proofs.laws.a_drill_has_no_bad_line_and_passes_no_limit.Goals as goal

pub returns : goal.returns
returns c = λ seen outcome workers number traces given called explained.
    let asked = few_traces seen.words workers number traces given called in
    let h = input_said c.pieces_say_what_the_whole_says.ensures.said number traces asked.0 in
    let alone : call_of seen.words ≡ Some (record { workers = workers; given = []; action = drill number traces }) = called ∙ ap (λ (files : List (List ℕ)). Some (record { workers = workers; given = files; action = drill number traces })) asked.1 in
    seen_well number traces h.0 h.1 h.2 h.3 workers outcome seen alone explained
