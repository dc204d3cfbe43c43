-- The names of the pieces of threads, which are tasks: threads that have one base are numbered in the
-- order of contexts.
use Rattle.std.specs.Prelude.{ℕ, ◌==◌, List, Option, filter, slice_index}
use Rattle.span_names.specs.Names.{numbered}
use Rattle.span_names.specs.declared.piece.Piece.{Piece}
use Rattle.context_names.specs.Numbers.{base_at, base_numbers}

-- the contexts that begin a thread, in order
abbrev pub first_of_threads : (order threads : List ℕ) → List ℕ
first_of_threads order threads = filter (λ x. slice_index threads x == x) order

-- the names of the pieces of threads, by the number of the context that one begins with
pub record TaskNames : Type 0 where
  pub bases : List (List ℕ)
  pub numbers : List ℕ

abbrev pub task_names : (order threads : List ℕ) (bases : List (List ℕ)) → TaskNames
task_names order threads bases = record {
  bases = bases;
  numbers = base_numbers bases (first_of_threads order threads);
}

abbrev pub task_name : TaskNames → ℕ → Option Piece → List ℕ
task_name names x piece = numbered (base_at names.bases x) (slice_index names.numbers x) piece
