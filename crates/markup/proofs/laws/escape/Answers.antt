use Rattle.markup.proofs.EscapeLemmas.{has_no_markup, has_references, is_injective}
use Rattle.markup.proofs.laws.escape.Goals as goal

pub returns-clause-no_markup : goal.returns-clause-no_markup
returns-clause-no_markup c = has_no_markup

pub returns-clause-references : goal.returns-clause-references
returns-clause-references c = has_references

pub returns-clause-injective : goal.returns-clause-injective
returns-clause-injective c = is_injective
