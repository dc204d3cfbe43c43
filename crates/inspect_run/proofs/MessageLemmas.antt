-- Texts that are sent one after another.
use Rattle.std.proofs.Common.{◌≡◌, ℕ, ◌+◌, ◌++◌, List, length, take, min, Option, Some, None, ap, refl, sym, ◌∙◌, append_assoc, inl, inr, arith}
use Rattle.std.specs.Io.KnownBytes.{append_known}
use Rattle.std.proofs.Math.Seq.{take-append-add}
use Rattle.std.proofs.lemmas.List.{take-append-le, take_min}
use Rattle.mystery_io.specs.Counts.{counted_up}
use Rattle.mystery_io.specs.Prefixes.{AppendsPrefix, Sends}

known_twice : (w : Option (List ℕ)) (a b : List ℕ) → append_known (append_known w a) b ≡ append_known w (a ++ b)
known_twice None a b = refl
known_twice (Some xs) a b = ap Some (append_assoc xs a b)

module _ {S : Type 0} (written : S → Option (List ℕ)) (faults : S → ℕ) (old mid new : S) (first second : List ℕ) where
  -- the first was sent whole
  pub sends_both : written mid ≡ append_known (written old) first → faults mid ≡ faults old → Sends written faults mid new second → Sends written faults old new (first ++ second)
  sends_both all none (inl h) = inl (h.0 ∙ ap (λ w. append_known w second) all ∙ known_twice (written old) first second, h.1 ∙ none)
  sends_both all none (inr h) = inr (
    record {
      count = length first + h.0.count;
      appended = h.0.appended ∙ ap (λ w. append_known w (take h.0.count second)) all ∙ known_twice (written old) first (take h.0.count second)
          ∙ ap (append_known (written old)) (sym (take-append-add first second h.0.count));
    },
    h.1 ∙ ap counted_up none,
  )

  -- the first was cut short
  pub sends_first : AppendsPrefix (written old) (written mid) first → faults mid ≡ counted_up (faults old) → Sends written faults old mid (first ++ second)
  sends_first h one = inr (
    record {
      count = min h.count (length first);
      appended = h.appended ∙ ap (append_known (written old)) (sym (take_min h.count first) ∙ sym (take-append-le (min h.count (length first)) first second (omega arith)));
    },
    one,
  )
