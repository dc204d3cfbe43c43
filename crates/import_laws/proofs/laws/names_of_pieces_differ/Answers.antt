use Rattle.import_laws.proofs.NameLaws.{one_name}
use Rattle.import_laws.proofs.laws.names_of_pieces_differ.Goals as goal

pub returns : goal.returns
returns c = one_name
