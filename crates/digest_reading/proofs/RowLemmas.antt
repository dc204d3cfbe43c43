-- Rows that are read one after another.
use Rattle.std.proofs.Common.{◌≡◌, ℕ, zero, suc, ◌+◌, List, [], ◌∷◌, ◌++◌, Option, Some, None, Result, Ok, Err, sym}
use Rattle.digest_reading.specs.Readings.{Read, first_line, rows_said}

module _ {X : Type 0} (said : List X → List ℕ → Option X) where
  -- a row more
  pub row_added : (k c : ℕ) (earlier new : List X) (n : ℕ) (bytes line rest : List ℕ) (x : X) (all : Result (Read (List X)) ℕ) → new ≡ earlier ++ x ∷ [] → k ≡ suc c → Some (line, rest) ≡ first_line bytes → Some x ≡ said earlier line → rows_said said k earlier n bytes ≡ all → rows_said said c new (n + 1) rest ≡ all
  unfolding rows_said
  row_added k c earlier new n bytes line rest x all more e cut is told = rw more (rw (e, ← cut, ← is) at told)

  -- a line that is no row
  pub row_missing : (k c : ℕ) (earlier : List X) (n : ℕ) (bytes line rest : List ℕ) (all : Result (Read (List X)) ℕ) → k ≡ suc c → Some (line, rest) ≡ first_line bytes → None ≡ said earlier line → rows_said said k earlier n bytes ≡ all → all ≡ Err n
  unfolding rows_said
  row_missing k c earlier n bytes line rest all e cut is told = sym (rw (e, ← cut, ← is) at told)

  -- no line
  pub line_missing : (k c : ℕ) (earlier : List X) (n : ℕ) (bytes : List ℕ) (all : Result (Read (List X)) ℕ) → k ≡ suc c → None ≡ first_line bytes → rows_said said k earlier n bytes ≡ all → all ≡ Err n
  unfolding rows_said
  line_missing k c earlier n bytes all e cut told = sym (rw (e, ← cut) at told)

  -- no row more
  pub rows_done : (k : ℕ) (earlier : List X) (n : ℕ) (bytes : List ℕ) (all : Result (Read (List X)) ℕ) → k ≡ zero → rows_said said k earlier n bytes ≡ all → all ≡ Ok (record { value = earlier; number = n; left = bytes })
  unfolding rows_said
  rows_done k earlier n bytes all e told = sym (rw e at told)
