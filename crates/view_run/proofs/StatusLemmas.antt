-- What a status says of the outcome.
use Rattle.std.proofs.Common.{◌≡◌, ℕ, arith}
use Rattle.page_rows.specs.declared.why.Why.{Why}
use Rattle.view_run.specs.Messages.{status_of}
use Rattle.view_run.specs.declared.outcome.Outcome.{Outcome}
use Rattle.view_run.specs.declared.outcome.Outcome.TheVariants.{Done, Memory, Arguments, BadLine, File, Write, Size}

-- with 3 a line is bad
pub of_bad : (P : Outcome → Type 0) (o : Outcome) (n : ℕ) → n ≡ status_of o → P o → n ≡ 3 → (line : ℕ) × (why : Why) × P (BadLine line why)
of_bad P Done n e h k = absurd (omega (arith, e, k))
of_bad P Memory n e h k = absurd (omega (arith, e, k))
of_bad P Arguments n e h k = absurd (omega (arith, e, k))
of_bad P (BadLine line why) n e h k = (line, why, h)
of_bad P File n e h k = absurd (omega (arith, e, k))
of_bad P Write n e h k = absurd (omega (arith, e, k))
of_bad P Size n e h k = absurd (omega (arith, e, k))
