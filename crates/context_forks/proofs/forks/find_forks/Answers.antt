use Rattle.std.proofs.Common.{◌∙◌, ◌<◌, All, List, ℕ, subst, sym}
use Rattle.context_forks.proofs.PairLemmas.{contexts_within}
use Rattle.context_forks.proofs.forks.find_forks.Goals as goal

pub find_forked-requires-clause-linked : goal.find_forked-requires-clause-linked
find_forked-requires-clause-linked c =
    subst (λ (ls : List (ℕ × ℕ)). All (λ (l : ℕ × ℕ). (l.0 < c.args.count) × (l.1 < c.args.count)) ls) (sym (c.deref.ensures.value ∙ c.in_ok-links.ensures))
    (contexts_within c.args.calls.now c.args.grace c.args.numbers.now c.args.count c.requires.rise c.requires.same c.requires.within)

pub returns-clause-within : goal.returns-clause-within
returns-clause-within c =
    subst (λ (ls : List (ℕ × ℕ)). All (λ (l : ℕ × ℕ). (l.0 < c.args.count) × (l.1 < c.args.count)) ls) (sym c.in_ok-links.ensures)
    (contexts_within c.args.calls.now c.args.grace c.args.numbers.now c.args.count c.requires.rise c.requires.same c.requires.within)
