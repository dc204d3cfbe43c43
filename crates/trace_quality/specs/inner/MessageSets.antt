-- Messages that are borrowed, in a set.
use Rattle.std.specs.Prelude.{ℕ, ◌≡◌, List, Bool, false, not, Option}
use Rattle.std.specs.Borrow.{Bor}
use Rattle.std.specs.Option.{option_map_or}
use Rattle.std.specs.Str.{bytes_eq}
use Rattle.std.specs.HashSet.{HashSet, contains_by}
use Rattle.trace_quality.specs.Messages.{is_among}

-- the set has the message
abbrev pub has_message : {S : Type 0} → HashSet (Bor (List ℕ)) S → List ℕ → Bool
has_message messages text = contains_by (λ (k : Bor (List ℕ)). bytes_eq text k.now) messages

-- the set has exactly these messages
abbrev pub AreAmong : {S : Type 0} → HashSet (Bor (List ℕ)) S → List (Option (List ℕ)) → Type 0
AreAmong messages all = (text : List ℕ) → has_message messages text ≡ is_among all text

-- there is a message, and the set does not have it
abbrev pub is_missing : {S : Type 0} → HashSet (Bor (List ℕ)) S → Option (List ℕ) → Bool
is_missing messages message = option_map_or (λ text. not (has_message messages text)) message false
