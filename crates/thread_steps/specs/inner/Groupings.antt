-- Contexts of calls, with what is known of each.
use Rattle.std.specs.Prelude.{◌≡◌, ◌<◌, All, length}
use Rattle.thread_steps.specs.Parts.{Grouping}

-- each context tells whether it is forked, and has a group
pub record IsGrouping (grouping : Grouping) : Type 0 where
  pub contexts : All (λ x. x < length grouping.forked) grouping.numbers
  pub groups : length grouping.groups ≡ length grouping.forked
