use Rattle.std.proofs.Common.{◌≡◌, ℕ, List, codes, false, ◌∙◌}
use Rattle.std.specs.Str.{bytes_eq}
use Rattle.std.proofs.lemmas.Bool.{false_from_ne_true}
use Rattle.std.proofs.lemmas.Slice.Eq.{bytes_eq-Decides}
use Rattle.mystery_run.specs.CommandLines.{action_over, named_action}
use Rattle.mystery_run.proofs.command_line.find_named.Goals as goal

-- a name that is not this text
apart : (name text : List ℕ) → (name ≡ text → ⊥) → bytes_eq name text ≡ false
apart name text h = false_from_ne_true (bytes_eq name text) (λ e. h ((bytes_eq-Decides name text).0 e))

pub returns-in_default-clause-asked : goal.returns-in_default-clause-asked
returns-in_default-clause-asked c =
    let name = c.args.name.now in
    let over : action_over name c.args.words.now ≡ named_action name c.args.words.now =
    rw (apart name (codes "whatif") c.in_default.not-whatif, apart name (codes "verify") c.in_default.not-verify, apart name (codes "evidence") c.in_default.not-evidence, apart name (codes "drill") c.in_default.not-drill) in
    c.find_over_files.ensures.asked ∙ over
