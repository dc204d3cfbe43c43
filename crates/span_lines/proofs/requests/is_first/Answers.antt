use Rattle.std.proofs.Common.{◌≡◌, ◌∙◌, Bor, List, ℕ, Option, Some, None, ap}
use Rattle.std.specs.HashMap.{get_by}
use Rattle.std.specs.Option.{option_copied}
use Rattle.std.specs.Str.{bytes_eq}
use Rattle.span_lines.proofs.EntryLemmas.{first_told}
use Rattle.span_lines.proofs.requests.is_first.Goals as goal

pub returns-in-Some : goal.returns-in-Some
returns-in-Some c = λ entries are.
    let m = c.args.first.now in
    let e = c.args.entry.now in
    let id : Option (Bor (List ℕ)) = Some c.in-Some.id.now in
    let found : option_copied id ≡ option_copied (get_by (λ (k : Bor (List ℕ)). bytes_eq e.trace k.now) m) =
    ap option_copied (c.in-Some.ensures.value ∙ ap (λ (t : List ℕ). get_by (λ (k : Bor (List ℕ)). bytes_eq t k.now) m) c.as_str.ensures) in
    c.eq.ensures ∙ ap (bytes_eq c.in-Some.id.now.now) c.as_str-in-Some.ensures ∙ first_told entries e (Some c.in-Some.id.now.now) (found ∙ are e.trace)

pub returns-in-None : goal.returns-in-None
returns-in-None c = λ entries are.
    let m = c.args.first.now in
    let e = c.args.entry.now in
    let found = ap option_copied (c.in-None.ensures.value ∙ ap (λ (t : List ℕ). get_by (λ (k : Bor (List ℕ)). bytes_eq t k.now) m) c.as_str.ensures) in
    first_told entries e None (found ∙ are e.trace)
