-- Messages by the places where they end.
use Rattle.std.proofs.Common.{◌≡◌, ℕ, ◌+◌, ◌-◌, ◌≤◌, List, [], ◌∷◌, ◌++◌, length, take, drop, map, slice_range, refl, sym, ap, ◌∙◌, subst, length-append, arith}
use Rattle.std.proofs.Math.Seq.{drop-append-add}
use Rattle.std.proofs.lemmas.List.{length-drop, take_all, take-append-le, drop-append-le}
use Rattle.event_table.proofs.CutLemmas.{stops_end}
use Rattle.event_table.specs.inner.Cuts.{AreStops, cut_at}

-- a part of the first of two lists
range_first : (xs ys : List ℕ) (start end : ℕ) → start ≤ end → end ≤ length xs → slice_range (xs ++ ys) start end ≡ slice_range xs start end
range_first xs ys start end le within =
    let rest = length-drop start xs in
    ap (take (end - start)) (drop-append-le start xs ys (omega arith)) ∙ take-append-le (end - start) (drop start xs) ys (omega arith)

-- a part of the second
range_second : (xs ys : List ℕ) (start end : ℕ) → slice_range (xs ++ ys) (length xs + start) (length xs + end) ≡ slice_range ys start end
range_second xs ys start end =
    let same : (length xs + end) - (length xs + start) ≡ end - start = omega arith in
    ap (λ (n : ℕ). take n (drop (length xs + start) (xs ++ ys))) same ∙ ap (take (end - start)) (drop-append-add xs ys start)

cuts_second : (xs ys : List ℕ) (start : ℕ) (ends : List ℕ) → cut_at (length xs + start) (map (λ end. length xs + end) ends) (xs ++ ys) ≡ cut_at start ends ys
cuts_second xs ys start [] = refl
cuts_second xs ys start (end ∷ ends) = λ k. range_second xs ys start end k ∷ cuts_second xs ys end ends k

stops_second : (more : ℕ) (start : ℕ) (ends : List ℕ) (count : ℕ) → AreStops start ends count → AreStops (more + start) (map (λ end. more + end) ends) (more + count)
stops_second more start [] count are = ap (λ (n : ℕ). more + n) are
stops_second more start (end ∷ ends) count are = let first = are.0 in (omega arith, stops_second more end ends count are.1)

-- messages after messages
pub cuts_append : (xs ys : List ℕ) (start : ℕ) (first later : List ℕ) → AreStops start first (length xs)
    → cut_at start (first ++ map (λ end. length xs + end) later) (xs ++ ys) ≡ cut_at start first xs ++ cut_at 0 later ys
cuts_append xs ys start [] later are =
    let here : start ≡ length xs + 0 = omega (arith, are) in
    ap (λ (n : ℕ). cut_at n (map (λ end. length xs + end) later) (xs ++ ys)) here ∙ cuts_second xs ys 0 later
cuts_append xs ys start (end ∷ first) later are =
    let within = stops_end end first (length xs) are.1 in
    let here = range_first xs ys start end are.0 within in
    let rest = cuts_append xs ys end first later are.1 in
    λ k. here k ∷ rest k

pub stops_append : (start : ℕ) (first : List ℕ) (count : ℕ) (later : List ℕ) (more : ℕ) → AreStops start first count → AreStops 0 later more → AreStops start (first ++ map (λ end. count + end) later) (count + more)
stops_append start [] count later more are next =
    let here : count + 0 ≡ start = omega (arith, are) in
    subst (λ (n : ℕ). AreStops n (map (λ end. count + end) later) (count + more)) here (stops_second count 0 later more next)
stops_append start (end ∷ first) count later more are next = (are.0, stops_append end first count later more are.1 next)

-- one message more
pub cuts_push : (bytes message : List ℕ) (ends : List ℕ) → AreStops 0 ends (length bytes) → cut_at 0 (ends ++ length (bytes ++ message) ∷ []) (bytes ++ message) ≡ cut_at 0 ends bytes ++ message ∷ []
cuts_push bytes message ends are =
    let long = length-append bytes message in
    let same : length message - 0 ≡ length message = omega arith in
    let whole : slice_range message 0 (length message) ≡ message = ap (λ (n : ℕ). take n message) same ∙ take_all (length message) message (omega arith) in
    ap (λ (n : ℕ). cut_at 0 (ends ++ n ∷ []) (bytes ++ message)) long ∙ cuts_append bytes message 0 ends (length message ∷ []) are
    ∙ ap (λ (m : List ℕ). cut_at 0 ends bytes ++ m ∷ []) whole

pub stops_push : (bytes message : List ℕ) (ends : List ℕ) → AreStops 0 ends (length bytes) → AreStops 0 (ends ++ length (bytes ++ message) ∷ []) (length (bytes ++ message))
stops_push bytes message ends are =
    let long = length-append bytes message in
    subst (λ (n : ℕ). AreStops 0 (ends ++ n ∷ []) n) (sym long) (stops_append 0 ends (length bytes) (length message ∷ []) (length message) are (omega arith, refl))
