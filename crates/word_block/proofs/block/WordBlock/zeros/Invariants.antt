use Rattle.std.proofs.Common.{◌≡◌}
use Rattle.word_block.proofs.FillingLemmas.{IsZeroTo}
use Rattle.word_block.proofs.block.WordBlock.zeros.Given as goal

abbrev pub invariant-places : goal.invariant-places
invariant-places l =
    record {
      at : l.places.at ≡ l.base.ptr;
      held : IsZeroTo l.index l.len l.places.held;
    }
