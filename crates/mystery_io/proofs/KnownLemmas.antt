-- Pieces of told bytes, one after another.
use Rattle.std.proofs.Common.{◌≡◌, ℕ, ◌+◌, ◌++◌, List, take, drop, Option, Some, None, refl, ap, append_assoc, sym, ◌∙◌, inl, inr, []}
use Rattle.std.proofs.Math.Seq.{take-add}
use Rattle.std.specs.Prelude.{IfSome, Result, Ok, Err, OnOk, OnErr}
use Rattle.mystery_io.specs.Counts.{faults_after}
use Rattle.mystery_io.specs.Prefixes.{AppendsPrefix, Sends}
use Rattle.std.proofs.lemmas.List.{append-nil}
use Rattle.std.specs.Io.KnownBytes.{append_known, prepend_known, IsAtEnd}

-- two pieces are one
pub known_append_twice : (w : Option (List ℕ)) (a b : List ℕ) → append_known (append_known w a) b ≡ append_known w (a ++ b)
known_append_twice None a b = refl
known_append_twice (Some xs) a b = ap Some (append_assoc xs a b)

-- after n bytes of xs, the next m
pub known_append_more : (old mid new : Option (List ℕ)) (xs rest : List ℕ) (n m : ℕ) → new ≡ append_known mid (take m rest) → mid ≡ append_known old (take n xs) → rest ≡ drop n xs → new ≡ append_known old (take (n + m) xs)
known_append_more old mid new xs rest n m last before left =
    last ∙ ap (λ w. append_known w (take m rest)) before ∙ known_append_twice old (take n xs) (take m rest)
    ∙ ap (λ r. append_known old (take n xs ++ take m r)) left ∙ ap (append_known old) (sym (take-add n m xs))

-- where nothing is left, all was read
pub prepend_at_end : (a b : List ℕ) (l m : Option (List ℕ)) → prepend_known a l ≡ prepend_known b m → IsAtEnd m → IfSome l (λ xs. b ≡ a ++ xs)
prepend_at_end a b None m e h = tt
prepend_at_end a b (Some xs) None e h = cc
prepend_at_end a b (Some xs) (Some ys) e h = let k : a ++ xs ≡ b ++ ys = cc in sym (append-nil b) ∙ sym (ap (λ ys. b ++ ys) h) ∙ sym k

-- what was sent, whatever the call answered
pub sends_by : {T E S : Type 0} (r : Result T E) (written : S → Option (List ℕ)) (faults : S → ℕ) (old new : S) (bytes : List ℕ) → OnOk r (written new ≡ append_known (written old) bytes)
    → OnErr r (AppendsPrefix (written old) (written new) bytes) → faults new ≡ faults_after r (faults old) → Sends written faults old new bytes
sends_by (Ok x) written faults old new bytes all part counted = inl (all, counted)
sends_by (Err e) written faults old new bytes all part counted = inr (part, counted)

pub append_nothing : (w : Option (List ℕ)) → append_known w [] ≡ w
append_nothing None = refl
append_nothing (Some xs) = ap Some (append-nil xs)
