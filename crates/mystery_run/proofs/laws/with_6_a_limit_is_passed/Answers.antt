use Rattle.std.proofs.Common.{◌≡◌, ◌⊎◌, refl, inl, inr}
use Rattle.digest_merging.specs.declared.digest_limit.DigestLimit.{DigestLimit}
use Rattle.mystery_run.specs.declared.outcome.Outcome.{Outcome}
use Rattle.mystery_run.specs.declared.outcome.Outcome.TheVariants.{Over, OverGiven, Size}
use Rattle.mystery_run.specs.Messages.{status_of}
use Rattle.mystery_run.specs.Readings.{PassesSize}
use Rattle.mystery_run.specs.Runs.{EndsAs, OfInputs, Reads, ReadsAll, Seen}
use Rattle.mystery_run.proofs.EndingLemmas.{size_passed}
use Rattle.mystery_run.proofs.StatusLemmas.{of_limit}
use Rattle.session_rules.specs.declared.limit.Limit.{Limit}
use Rattle.mystery_run.proofs.laws.with_6_a_limit_is_passed.Goals as goal

module _ (o : Outcome) (seen : Seen) where
  abbrev IsKnown : Outcome → Type 0
  IsKnown p = (o ≡ p) × Reads p seen × EndsAs p seen

  is_told : IsKnown Size ⊎ ((limit : DigestLimit) × IsKnown (OverGiven limit)) ⊎ ((limit : Limit) × IsKnown (Over limit))
      → ((o ≡ Size) × OfInputs seen.files seen.words PassesSize × (seen.written_now ≡ seen.written_before))
      ⊎ ((limit : DigestLimit) × (o ≡ OverGiven limit) × ReadsAll seen × EndsAs (OverGiven limit) seen × (seen.written_now ≡ seen.written_before))
      ⊎ ((limit : Limit) × (o ≡ Over limit) × ReadsAll seen × EndsAs (Over limit) seen)
  is_told (inl f) = inl (f.0, size_passed seen f.2, f.2.2)
  is_told (inr (inl f)) = inr (inl (f.0, f.1.0, f.1.1, f.1.2, f.1.2.2))
  is_told (inr (inr f)) = inr (inr (f.0, f.1.0, f.1.1, f.1.2))

pub returns : goal.returns
returns c = λ o seen h k. is_told o seen (of_limit (IsKnown o seen) o (status_of o) refl (refl, h.reads, h.ends) k)
