use Rattle.shared_elements.proofs.ElementLemmas.{told_by_search}
use Rattle.shared_elements.proofs.common.has_element.Goals as goal

pub returns : goal.returns
returns c = told_by_search c.args.elements.now c.args.element c.binary_search.result c.is_ok.result c.is_ok.ensures.value c.binary_search.ensures.position c.requires
