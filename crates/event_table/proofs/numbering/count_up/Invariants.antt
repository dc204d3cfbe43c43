use Rattle.std.proofs.Common.{◌≡◌, ℕ, List, length, take}
use Rattle.event_table.specs.inner.Renumbering.{AreNumbersOf}
use Rattle.event_table.proofs.numbering.count_up.Given as goal

-- the numbers so far are those of the first texts
abbrev pub invariant-loop-number : goal.invariant-loop-number
invariant-loop-number l = (texts : List (List ℕ)) → length texts ≡ l.count → AreNumbersOf texts (take l.number texts) l.numbers.items
