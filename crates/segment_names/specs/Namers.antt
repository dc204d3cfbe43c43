-- What names the traces of a batch by numbers.
use Rattle.std.specs.Prelude.{List}
use Rattle.event_table.specs.Texts.{TextLists}
use Rattle.segment_names.specs.Known.{Known}

-- the catalogue, and the texts that the numbers of the traces stand for
pub record NamesBy : Type 0 where
  pub known : Known
  pub texts : TextLists
