-- The first and the last of calls to other machines.
use Rattle.std.specs.Prelude.{ℕ, ◌≡◌, List, slice_get}
use Rattle.span_calls.specs.declared.call.Call.{Call}
use Rattle.context_forks.specs.Partners.{last_to_end}
use Rattle.span_lines.specs.declared.messages.FarCalls.{FarCalls}

-- the first of these calls, and the one that ends last
pub record AreFar (calls : List Call) (list : List ℕ) (far : FarCalls) : Type 0 where
  pub first : far.first ≡ slice_get list 0
  pub last : far.last ≡ last_to_end calls list
