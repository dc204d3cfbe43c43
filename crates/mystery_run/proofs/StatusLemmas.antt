-- What an outcome is, by its status.
use Rattle.std.proofs.Common.{◌≡◌, ◌≤◌, ◌⊎◌, ◌++◌, ℕ, List, [], false, Option, Some, None, arith, inl, inr, refl, sym, ◌∙◌}
use Rattle.std.specs.Option.{option_map_or}
use Rattle.std.specs.Prelude.{◌==◌, is_some, not}
use Rattle.digest_merging.specs.declared.digest_limit.DigestLimit.{DigestLimit}
use Rattle.session_rules.specs.declared.limit.Limit.{Limit}
use Rattle.mystery_run.specs.declared.outcome.Outcome.{Outcome}
use Rattle.mystery_run.specs.declared.outcome.Outcome.TheVariants.{Done, Memory, Arguments, BadLine, File, Write, Size, Over, OverGiven}
use Rattle.mystery_run.specs.declared.reason.Reason.{Reason}
use Rattle.mystery_run.specs.CommandLines.{Call, all_files_of, call_of, files_of_action, is_in_grammar, preface_of_call}
use Rattle.mystery_run.specs.Endings.{CallEndsAt, Ends, IsDecided, PassesFirst}
use Rattle.mystery_run.specs.Messages.{status_of}
use Rattle.mystery_run.specs.Readings.{FitsSize}
use Rattle.mystery_run.specs.Runs.{EndsAs, OfInputs, Seen, Reads, ReadsAll}
use Rattle.mystery_run.specs.inner.Leaving.{LeavesSink}
use Rattle.mystery_run.proofs.ReadingLemmas.{size_apart}

module _ (P : Outcome → Type 0) where
  -- with 0 it is done
  pub of_done : (o : Outcome) (n : ℕ) → n ≡ status_of o → P o → n ≡ 0 → P Done
  of_done Done n e h k = h
  of_done Memory n e h k = absurd (omega (arith, e, k))
  of_done Arguments n e h k = absurd (omega (arith, e, k))
  of_done (BadLine line why) n e h k = absurd (omega (arith, e, k))
  of_done (File index) n e h k = absurd (omega (arith, e, k))
  of_done Write n e h k = absurd (omega (arith, e, k))
  of_done Size n e h k = absurd (omega (arith, e, k))
  of_done (Over limit) n e h k = absurd (omega (arith, e, k))
  of_done (OverGiven limit) n e h k = absurd (omega (arith, e, k))

  -- with 1 memory ran out
  pub of_memory : (o : Outcome) (n : ℕ) → n ≡ status_of o → P o → n ≡ 1 → P Memory
  of_memory Done n e h k = absurd (omega (arith, e, k))
  of_memory Memory n e h k = h
  of_memory Arguments n e h k = absurd (omega (arith, e, k))
  of_memory (BadLine line why) n e h k = absurd (omega (arith, e, k))
  of_memory (File index) n e h k = absurd (omega (arith, e, k))
  of_memory Write n e h k = absurd (omega (arith, e, k))
  of_memory Size n e h k = absurd (omega (arith, e, k))
  of_memory (Over limit) n e h k = absurd (omega (arith, e, k))
  of_memory (OverGiven limit) n e h k = absurd (omega (arith, e, k))

  -- with 3 a line is bad
  pub of_bad_line : (o : Outcome) (n : ℕ) → n ≡ status_of o → P o → n ≡ 3 → (line : ℕ) × (why : Reason) × P (BadLine line why)
  of_bad_line Done n e h k = absurd (omega (arith, e, k))
  of_bad_line Memory n e h k = absurd (omega (arith, e, k))
  of_bad_line Arguments n e h k = absurd (omega (arith, e, k))
  of_bad_line (BadLine line why) n e h k = (line, why, h)
  of_bad_line (File index) n e h k = absurd (omega (arith, e, k))
  of_bad_line Write n e h k = absurd (omega (arith, e, k))
  of_bad_line Size n e h k = absurd (omega (arith, e, k))
  of_bad_line (Over limit) n e h k = absurd (omega (arith, e, k))
  of_bad_line (OverGiven limit) n e h k = absurd (omega (arith, e, k))

  -- with 4 a file failed
  pub of_file : (o : Outcome) (n : ℕ) → n ≡ status_of o → P o → n ≡ 4 → (index : ℕ) × P (File index)
  of_file Done n e h k = absurd (omega (arith, e, k))
  of_file Memory n e h k = absurd (omega (arith, e, k))
  of_file Arguments n e h k = absurd (omega (arith, e, k))
  of_file (BadLine line why) n e h k = absurd (omega (arith, e, k))
  of_file (File index) n e h k = (index, h)
  of_file Write n e h k = absurd (omega (arith, e, k))
  of_file Size n e h k = absurd (omega (arith, e, k))
  of_file (Over limit) n e h k = absurd (omega (arith, e, k))
  of_file (OverGiven limit) n e h k = absurd (omega (arith, e, k))

  -- with 5 a write failed
  pub of_write : (o : Outcome) (n : ℕ) → n ≡ status_of o → P o → n ≡ 5 → P Write
  of_write Done n e h k = absurd (omega (arith, e, k))
  of_write Memory n e h k = absurd (omega (arith, e, k))
  of_write Arguments n e h k = absurd (omega (arith, e, k))
  of_write (BadLine line why) n e h k = absurd (omega (arith, e, k))
  of_write (File index) n e h k = absurd (omega (arith, e, k))
  of_write Write n e h k = h
  of_write Size n e h k = absurd (omega (arith, e, k))
  of_write (Over limit) n e h k = absurd (omega (arith, e, k))
  of_write (OverGiven limit) n e h k = absurd (omega (arith, e, k))

  -- with 6 a limit is passed
  pub of_limit : (o : Outcome) (n : ℕ) → n ≡ status_of o → P o → n ≡ 6 → P Size ⊎ ((limit : DigestLimit) × P (OverGiven limit)) ⊎ ((limit : Limit) × P (Over limit))
  of_limit Done n e h k = absurd (omega (arith, e, k))
  of_limit Memory n e h k = absurd (omega (arith, e, k))
  of_limit Arguments n e h k = absurd (omega (arith, e, k))
  of_limit (BadLine line why) n e h k = absurd (omega (arith, e, k))
  of_limit (File index) n e h k = absurd (omega (arith, e, k))
  of_limit Write n e h k = absurd (omega (arith, e, k))
  of_limit Size n e h k = inl h
  of_limit (Over limit) n e h k = inr (inr (limit, h))
  of_limit (OverGiven limit) n e h k = inr (inl (limit, h))

-- 2 is the status of arguments outside the grammar alone
pub arguments_of : (o : Outcome) (s : Seen) (n : ℕ) → n ≡ status_of o → Reads o s → (n == 2) ≡ not (is_in_grammar s.words)
arguments_of Done s n e h = rw (e, h.called) refl
arguments_of Memory s n e h = rw (e, h.0) refl
arguments_of Arguments s n e h = rw (e, h.0) refl
arguments_of (BadLine line why) s n e h = rw (e, h.called) refl
arguments_of (File index) s n e h = rw (e, h.0) refl
arguments_of Write s n e h = rw (e, h.called) refl
arguments_of Size s n e h = rw (e, h.0) refl
arguments_of (Over limit) s n e h = rw (e, h.called) refl
arguments_of (OverGiven limit) s n e h = rw (e, h.called) refl

-- with 0, 3 and 5 each file was read to its end
neither : {P : Type 0} (n m : ℕ) → n ≡ m → (m ≡ 0 → ⊥) → (m ≡ 3 → ⊥) → (m ≡ 5 → ⊥) → (n ≡ 0) ⊎ (n ≡ 3) ⊎ (n ≡ 5) → P
neither n m e f g h (inl k) = absurd (f (sym e ∙ k))
neither n m e f g h (inr (inl k)) = absurd (g (sym e ∙ k))
neither n m e f g h (inr (inr k)) = absurd (h (sym e ∙ k))

pub reads_of : (o : Outcome) (s : Seen) (n : ℕ) → n ≡ status_of o → Reads o s → (n ≡ 0) ⊎ (n ≡ 3) ⊎ (n ≡ 5) → ReadsAll s
reads_of Done s n e h k = h
reads_of Memory s n e h k = neither n 1 e (λ q. omega (arith, q)) (λ q. omega (arith, q)) (λ q. omega (arith, q)) k
reads_of Arguments s n e h k = neither n 2 e (λ q. omega (arith, q)) (λ q. omega (arith, q)) (λ q. omega (arith, q)) k
reads_of (BadLine line why) s n e h k = h
reads_of (File index) s n e h k = neither n 4 e (λ q. omega (arith, q)) (λ q. omega (arith, q)) (λ q. omega (arith, q)) k
reads_of Write s n e h k = h
reads_of Size s n e h k = neither n 6 e (λ q. omega (arith, q)) (λ q. omega (arith, q)) (λ q. omega (arith, q)) k
reads_of (Over limit) s n e h k = neither n 6 e (λ q. omega (arith, q)) (λ q. omega (arith, q)) (λ q. omega (arith, q)) k
reads_of (OverGiven limit) s n e h k = neither n 6 e (λ q. omega (arith, q)) (λ q. omega (arith, q)) (λ q. omega (arith, q)) k

-- no status is greater than 6
pub at_most_6 : (o : Outcome) → status_of o ≤ 6
at_most_6 Done = omega (arith)
at_most_6 Memory = omega (arith)
at_most_6 Arguments = omega (arith)
at_most_6 (BadLine line why) = omega (arith)
at_most_6 (File index) = omega (arith)
at_most_6 Write = omega (arith)
at_most_6 Size = omega (arith)
at_most_6 (Over limit) = omega (arith)
at_most_6 (OverGiven limit) = omega (arith)

-- arguments outside the grammar name no file
no_files_of : (call : Option Call) → is_some call ≡ false → option_map_or preface_of_call call [] ++ option_map_or (λ (c : Call). files_of_action c.action) call [] ≡ []
no_files_of None h = refl
no_files_of (Some call) h = cc

pub no_files : (words : List (List ℕ)) → is_in_grammar words ≡ false → all_files_of words ≡ []
no_files words h = no_files_of (call_of words) h

-- a run whose jobs pass a limit read no more than the limit of size
over_fits : (c : Option Call) (cert input : List ℕ) (limit : Limit) (text : List ℕ) → CallEndsAt c cert input (Over limit) text → FitsSize cert input
over_fits None cert input limit text h =
    let e : Over limit ≡ Arguments = h.0 in
    cc
over_fits (Some call) cert input limit text h = h.0

-- arguments, a preface and an input have one ending
abbrev pub HaveOneEnding : Type 0
HaveOneEnding = (words : List (List ℕ)) (cert input : List ℕ) (o p : Outcome) (text other : List ℕ) → IsDecided o → IsDecided p → Ends words cert input o text → Ends words cert input p other → o ≡ p

not_given : (limit : Limit) (given : DigestLimit) → Over limit ≡ OverGiven given → ⊥
not_given limit given e = cc

-- where it ends with 2, 3 or 4, or passes a limit before its first job, it leaves the sink
module _ {S : Type 0} (one : HaveOneEnding) (old new : S) (s : Seen) where
  abbrev pub AreLeft : ℕ → Type 0
  AreLeft n = (n ≡ 2) ⊎ (n ≡ 3) ⊎ (n ≡ 4) ⊎ ((n ≡ 6) × OfInputs s.files s.words (PassesFirst s.words))

  not_left : (n m : ℕ) → n ≡ m → (m ≡ 2 → ⊥) → (m ≡ 3 → ⊥) → (m ≡ 4 → ⊥) → (m ≡ 6 → ⊥) → AreLeft n → new ≡ old
  not_left n m e f g h i (inl k) = absurd (f (sym e ∙ k))
  not_left n m e f g h i (inr (inl k)) = absurd (g (sym e ∙ k))
  not_left n m e f g h i (inr (inr (inl k))) = absurd (h (sym e ∙ k))
  not_left n m e f g h i (inr (inr (inr k))) = absurd (i (sym e ∙ k.0))

  over_first : (limit : Limit) → EndsAs (Over limit) s → OfInputs s.files s.words (PassesFirst s.words) → new ≡ old
  over_first limit h (inl k) = absurd (size_apart _ _ (over_fits (call_of s.words) _ _ limit h.0 h.1) k)
  over_first limit h (inr k) = absurd (not_given limit k.0 (one s.words _ _ (Over limit) (OverGiven k.0) h.0 [] tt tt h.1 k.1))

  over_left : (n : ℕ) (limit : Limit) → n ≡ 6 → EndsAs (Over limit) s → AreLeft n → new ≡ old
  over_left n limit e h (inl k) = absurd (omega (arith, e, k))
  over_left n limit e h (inr (inl k)) = absurd (omega (arith, e, k))
  over_left n limit e h (inr (inr (inl k))) = absurd (omega (arith, e, k))
  over_left n limit e h (inr (inr (inr k))) = over_first limit h k.1

  pub leaves_sink : (o : Outcome) (n : ℕ) → n ≡ status_of o → LeavesSink o old new → EndsAs o s → AreLeft n → new ≡ old
  leaves_sink Done n e l h k = not_left n 0 e (λ q. omega (arith, q)) (λ q. omega (arith, q)) (λ q. omega (arith, q)) (λ q. omega (arith, q)) k
  leaves_sink Memory n e l h k = not_left n 1 e (λ q. omega (arith, q)) (λ q. omega (arith, q)) (λ q. omega (arith, q)) (λ q. omega (arith, q)) k
  leaves_sink Arguments n e l h k = l
  leaves_sink (BadLine line why) n e l h k = l
  leaves_sink (File index) n e l h k = l
  leaves_sink Write n e l h k = not_left n 5 e (λ q. omega (arith, q)) (λ q. omega (arith, q)) (λ q. omega (arith, q)) (λ q. omega (arith, q)) k
  leaves_sink Size n e l h k = l
  leaves_sink (Over limit) n e l h k = over_left n limit e h k
  leaves_sink (OverGiven limit) n e l h k = l
