-- The parts of a list that is cut at places.
use Rattle.std.proofs.Common.{◌≡◌, ℕ, zero, suc, ◌<◌, ◌≤◌, List, [], ◌∷◌, length, get_or, slice_get, slice_range, Some, refl, ap, arith}
use Rattle.event_table.specs.inner.Cuts.{AreStops, cut_at}

-- a part for each place
pub cut_length : {X : Type 0} (start : ℕ) (ends : List ℕ) (xs : List X) → length (cut_at start ends xs) ≡ length ends
cut_length start [] xs = refl
cut_length start (end ∷ ends) xs = ap suc (cut_length end ends xs)

-- a part is from the place before it to its own
pub cut_there : {X : Type 0} (start : ℕ) (ends : List ℕ) (xs : List X) (i : ℕ) → i < length ends → slice_get (cut_at start ends xs) i ≡ Some (slice_range xs (get_or (start ∷ ends) i 0) (get_or ends i 0))
cut_there start [] xs i lt = absurd (omega arith)
cut_there start (end ∷ ends) xs zero lt = refl
cut_there start (end ∷ ends) xs (suc i) lt = cut_there end ends xs i (omega arith)

-- the last place is that of the list's end
pub stops_end : (start : ℕ) (ends : List ℕ) (count : ℕ) → AreStops start ends count → start ≤ count
stops_end start [] count stops = omega arith
stops_end start (end ∷ ends) count stops = let rest = stops_end end ends count stops.1 in let first = stops.0 in omega arith

-- a part lies within the list
pub stops_there : (start : ℕ) (ends : List ℕ) (count i : ℕ) → AreStops start ends count → i < length ends → (get_or (start ∷ ends) i 0 ≤ get_or ends i 0) × (get_or ends i 0 ≤ count)
stops_there start [] count i stops lt = absurd (omega arith)
stops_there start (end ∷ ends) count zero stops lt = (stops.0, stops_end end ends count stops.1)
stops_there start (end ∷ ends) count (suc i) stops lt = stops_there end ends count i stops.1 (omega arith)
