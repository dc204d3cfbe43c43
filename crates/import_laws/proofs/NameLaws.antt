-- Names of pieces differ.
use Rattle.std.proofs.Common.{◌≡◌, ◌⊎◌, inl, inr, ℕ, zero, suc, ◌+◌, ◌-◌, ◌^◌, ◌<◌, ◌≤◌, ◌==◌, ◌||◌, ◌&&◌, not, filter, List, [], ◌∷◌, ◌++◌, Bool, true, false, length, take, get_or, decimal, codes, cond, refl, sym, ap, subst, ◌∙◌, append_assoc, arith}
use Rattle.std.specs.Prelude.{nat_le, if◌then◌else◌}
use Rattle.std.specs.Char.{is_ascii_digit}
use Rattle.std.specs.List.{list_all, list_any, position_or_len, range_with_len}
use Rattle.std.specs.Str.{bytes_eq}
use Rattle.std.proofs.lemmas.Bool.{and_parts, cases_lt, cases_order, eq-eqb, false≢true, leb-true, lt-leb, le-leb, ne_eqb, or_from, or_left, or_right}
use Rattle.std.proofs.lemmas.Fmt.{decimal_injective, digits_decimal}
use Rattle.std.proofs.lemmas.Slice.Eq.{bytes_eq-Decides}
use Rattle.task_pieces.specs.PieceNames.{cut_length, free_numbers, is_free, is_number_sign, numbered_name, piece_name, stem_of}
use Rattle.task_pieces.proofs.FreeLemmas.{enough, free_at}
use Rattle.trace_types.proofs.DecimalLemmas.{decimal_numerals}

-- ---- a text, a mark, and a text without the mark

abbrev has : ℕ → List ℕ → Bool
has mark text = list_any (λ byte. byte == mark) text

there : (mark : ℕ) (s d : List ℕ) → has mark (s ++ mark ∷ d) ≡ true
there mark [] d = or_left (mark == mark) (has mark d) (eq-eqb mark mark refl)
there mark (x ∷ s) d = or_right (x == mark) (has mark (s ++ mark ∷ d)) (there mark s d)

abbrev head_of : List ℕ → ℕ
head_of [] = 0
head_of (x ∷ xs) = x

abbrev tail_of : List ℕ → List ℕ
tail_of [] = []
tail_of (x ∷ xs) = xs

same_parts : (mark : ℕ) (s t d e : List ℕ) → has mark d ≡ false → has mark e ≡ false → s ++ mark ∷ d ≡ t ++ mark ∷ e → (s ≡ t) × (d ≡ e)
same_parts mark [] [] d e p q h = (refl, ap tail_of h)
same_parts mark [] (y ∷ t) d e p q h = absurd (false≢true (sym p ∙ ap (has mark) (ap tail_of h) ∙ there mark t e))
same_parts mark (x ∷ s) [] d e p q h = absurd (false≢true (sym q ∙ ap (has mark) (sym (ap tail_of h)) ∙ there mark s d))
same_parts mark (x ∷ s) (y ∷ t) d e p q h =
    let rest = same_parts mark s t d e p q (ap tail_of h) in
    let first : x ≡ y = ap head_of h in
    ((λ i. first i ∷ rest.0 i), rest.1)

-- ---- decimals have neither mark

digits_lack : (mark : ℕ) (ds : List ℕ) → mark < 48 → list_all is_ascii_digit ds ≡ true → has mark ds ≡ false
digits_lack mark [] low h = refl
digits_lack mark (b ∷ ds) low h =
    let p = and_parts (is_ascii_digit b) (list_all is_ascii_digit ds) h in
    let q = and_parts (nat_le 48 b) (nat_le b 57) p.0 in
    let at_least : 48 ≤ b = leb-true 48 b q.0 in
    or_from (b == mark) (has mark ds) (ne_eqb b mark (λ e. omega (arith, e, at_least, low))) (digits_lack mark ds low p.1)

decimal_lacks : (mark n : ℕ) → mark < 48 → n < 2 ^ 64 → has mark (decimal n) ≡ false
decimal_lacks mark n low few = digits_lack mark (decimal n) low (digits_decimal decimal_numerals n few)

-- ---- the place of a task

at_place : (text : List ℕ) (tasks : List (List ℕ)) → list_any (bytes_eq text) tasks ≡ true → get_or tasks (position_or_len (bytes_eq text) tasks) [] ≡ text
at_place text [] h = absurd (false≢true h)
at_place text (t ∷ tasks) h = by (at_place text tasks) (bytes_eq text t) refl
  where
    by : (list_any (bytes_eq text) tasks ≡ true → get_or tasks (position_or_len (bytes_eq text) tasks) [] ≡ text) → (b : Bool) → bytes_eq text t ≡ b → get_or (t ∷ tasks) (position_or_len (bytes_eq text) (t ∷ tasks)) [] ≡ text
    by later true e =
        let place : position_or_len (bytes_eq text) (t ∷ tasks) ≡ 0 = rw e refl in
        ap (λ n. get_or (t ∷ tasks) n []) place ∙ sym ((bytes_eq-Decides text t).0 e)
    by later false e =
        let place : position_or_len (bytes_eq text) (t ∷ tasks) ≡ suc (position_or_len (bytes_eq text) tasks) = ap (λ b. cond (not b) (1 + position_or_len (bytes_eq text) tasks) 0) e ∙ omega arith in
        let rest : list_any (bytes_eq text) tasks ≡ true = ap (λ b. b || list_any (bytes_eq text) tasks) (sym e) ∙ h in
        ap (λ n. get_or (t ∷ tasks) n []) place ∙ later rest

pub place_within : (text : List ℕ) (tasks : List (List ℕ)) → position_or_len (bytes_eq text) tasks ≤ length tasks
place_within text [] = omega arith
place_within text (t ∷ tasks) = by (place_within text tasks) (bytes_eq text t) refl
  where
    by : position_or_len (bytes_eq text) tasks ≤ length tasks → (b : Bool) → bytes_eq text t ≡ b → position_or_len (bytes_eq text) (t ∷ tasks) ≤ length (t ∷ tasks)
    by later true e = let place : position_or_len (bytes_eq text) (t ∷ tasks) ≡ 0 = rw e refl in omega (arith, place)
    by later false e =
        let place : position_or_len (bytes_eq text) (t ∷ tasks) ≡ suc (position_or_len (bytes_eq text) tasks) = ap (λ b. cond (not b) (1 + position_or_len (bytes_eq text) tasks) 0) e ∙ omega arith in
        omega (arith, place, later)

-- ---- stems

module _ (tasks : List (List ℕ)) (few : length tasks < 2 ^ 62) (a b : List ℕ) (in_a : list_any (bytes_eq a) tasks ≡ true) (in_b : list_any (bytes_eq b) tasks ≡ true) where
  abbrev is_plain : List ℕ → Bool
  is_plain text = nat_le (length text) 40 && not (list_any is_number_sign text)

  abbrev number : List ℕ → ℕ
  number text = position_or_len (bytes_eq text) tasks + 1

  abbrev cut : List ℕ → List ℕ
  cut text = take (cut_length text 42) text ++ codes "#" ++ decimal (number text)

  plain_stem : (text : List ℕ) → is_plain text ≡ true → stem_of tasks text ≡ text
  plain_stem text e = ap (λ c. if c then text else cut text) e

  cut_stem : (text : List ℕ) → is_plain text ≡ false → stem_of tasks text ≡ cut text
  cut_stem text e = ap (λ c. if c then text else cut text) e

  no_sign : (text : List ℕ) → is_plain text ≡ true → has 35 text ≡ false
  no_sign text e = by (has 35 text) refl
    where
      by : (c : Bool) → has 35 text ≡ c → has 35 text ≡ false
      by true k = absurd (false≢true (sym (ap not k) ∙ (and_parts (nat_le (length text) 40) (not (has 35 text)) e).1))
      by false k = k

  parted : (text : List ℕ) → cut text ≡ take (cut_length text 42) text ++ 35 ∷ decimal (number text)
  parted text = append_assoc (take (cut_length text 42) text) (35 ∷ []) (decimal (number text))

  signed : (text : List ℕ) → has 35 (cut text) ≡ true
  signed text = ap (has 35) (parted text) ∙ there 35 (take (cut_length text 42) text) (decimal (number text))

  one_number : (m n : ℕ) → m + 1 ≡ n + 1 → m ≡ n
  one_number m n e = omega (arith, e)

  pub one_stem : stem_of tasks a ≡ stem_of tasks b → a ≡ b
  one_stem h = by (is_plain a) (is_plain b) refl refl
    where
      by : (c d : Bool) → is_plain a ≡ c → is_plain b ≡ d → a ≡ b
      by true true e f = sym (plain_stem a e) ∙ h ∙ plain_stem b f
      by true false e f = absurd (false≢true (sym (no_sign a e) ∙ ap (has 35) (sym (plain_stem a e) ∙ h ∙ cut_stem b f) ∙ signed b))
      by false true e f = absurd (false≢true (sym (no_sign b f) ∙ ap (has 35) (sym (plain_stem b f) ∙ sym h ∙ cut_stem a e) ∙ signed a))
      by false false e f =
          let small_a : number a < 2 ^ 64 = omega (arith, place_within a tasks, few) in
          let small_b : number b < 2 ^ 64 = omega (arith, place_within b tasks, few) in
          let parts = same_parts 35 (take (cut_length a 42) a) (take (cut_length b 42) b) (decimal (number a)) (decimal (number b)) (decimal_lacks 35 (number a) (omega arith) small_a) (decimal_lacks 35 (number b) (omega arith) small_b)
          (sym (parted a) ∙ sym (cut_stem a e) ∙ h ∙ cut_stem b f ∙ parted b) in
          let place = one_number (position_or_len (bytes_eq a) tasks) (position_or_len (bytes_eq b) tasks) (decimal_injective (number a) (number b) small_a small_b parts.1) in
          sym (at_place a tasks in_a) ∙ ap (λ n. get_or tasks n []) place ∙ at_place b tasks in_b

-- ---- numbers that pass, rising

module _ (p : ℕ → Bool) where
  at_least : (a n i : ℕ) → i < length (filter p (range_with_len a n)) → a ≤ get_or (filter p (range_with_len a n)) i 0
  at_least a zero i lt = absurd (omega (arith, lt))
  at_least a (suc n) i lt = by (at_least (a + 1) n) (p a) refl
    where
      here : ((k : ℕ) → k < length (filter p (range_with_len (a + 1) n)) → a + 1 ≤ get_or (filter p (range_with_len (a + 1) n)) k 0) → (k : ℕ) → k < length (a ∷ filter p (range_with_len (a + 1) n)) → a ≤ get_or (a ∷ filter p (range_with_len (a + 1) n)) k 0
      here later zero l = omega arith
      here later (suc k) l = omega (arith, later k (omega (arith, l)))

      by : ((k : ℕ) → k < length (filter p (range_with_len (a + 1) n)) → a + 1 ≤ get_or (filter p (range_with_len (a + 1) n)) k 0) → (b : Bool) → p a ≡ b → a ≤ get_or (filter p (range_with_len a (suc n))) i 0
      by later true e =
          let is : filter p (range_with_len a (suc n)) ≡ a ∷ filter p (range_with_len (a + 1) n) = rw e refl in
          subst (λ (xs : List ℕ). a ≤ get_or xs i 0) (sym is) (here later i (subst (λ (xs : List ℕ). i < length xs) is lt))
      by later false e =
          let is : filter p (range_with_len a (suc n)) ≡ filter p (range_with_len (a + 1) n) = rw e refl in
          subst (λ (xs : List ℕ). a ≤ get_or xs i 0) (sym is) (omega (arith, later i (subst (λ (xs : List ℕ). i < length xs) is lt)))

  below : (a n i : ℕ) → i < length (filter p (range_with_len a n)) → get_or (filter p (range_with_len a n)) i 0 < a + n
  below a zero i lt = absurd (omega (arith, lt))
  below a (suc n) i lt = by (below (a + 1) n) (p a) refl
    where
      here : ((k : ℕ) → k < length (filter p (range_with_len (a + 1) n)) → get_or (filter p (range_with_len (a + 1) n)) k 0 < a + 1 + n) → (k : ℕ) → k < length (a ∷ filter p (range_with_len (a + 1) n)) → get_or (a ∷ filter p (range_with_len (a + 1) n)) k 0 < a + suc n
      here later zero l = omega arith
      here later (suc k) l = omega (arith, later k (omega (arith, l)))

      by : ((k : ℕ) → k < length (filter p (range_with_len (a + 1) n)) → get_or (filter p (range_with_len (a + 1) n)) k 0 < a + 1 + n) → (b : Bool) → p a ≡ b → get_or (filter p (range_with_len a (suc n))) i 0 < a + suc n
      by later true e =
          let is : filter p (range_with_len a (suc n)) ≡ a ∷ filter p (range_with_len (a + 1) n) = rw e refl in
          subst (λ (xs : List ℕ). get_or xs i 0 < a + suc n) (sym is) (here later i (subst (λ (xs : List ℕ). i < length xs) is lt))
      by later false e =
          let is : filter p (range_with_len a (suc n)) ≡ filter p (range_with_len (a + 1) n) = rw e refl in
          subst (λ (xs : List ℕ). get_or xs i 0 < a + suc n) (sym is) (omega (arith, later i (subst (λ (xs : List ℕ). i < length xs) is lt)))

  passes : (a n i : ℕ) → i < length (filter p (range_with_len a n)) → p (get_or (filter p (range_with_len a n)) i 0) ≡ true
  passes a zero i lt = absurd (omega (arith, lt))
  passes a (suc n) i lt = by (passes (a + 1) n) (p a) refl
    where
      here : ((k : ℕ) → k < length (filter p (range_with_len (a + 1) n)) → p (get_or (filter p (range_with_len (a + 1) n)) k 0) ≡ true) → p a ≡ true → (k : ℕ) → k < length (a ∷ filter p (range_with_len (a + 1) n)) → p (get_or (a ∷ filter p (range_with_len (a + 1) n)) k 0) ≡ true
      here later e zero l = e
      here later e (suc k) l = later k (omega (arith, l))

      by : ((k : ℕ) → k < length (filter p (range_with_len (a + 1) n)) → p (get_or (filter p (range_with_len (a + 1) n)) k 0) ≡ true) → (b : Bool) → p a ≡ b → p (get_or (filter p (range_with_len a (suc n))) i 0) ≡ true
      by later true e =
          let is : filter p (range_with_len a (suc n)) ≡ a ∷ filter p (range_with_len (a + 1) n) = rw e refl in
          subst (λ (xs : List ℕ). p (get_or xs i 0) ≡ true) (sym is) (here later e i (subst (λ (xs : List ℕ). i < length xs) is lt))
      by later false e =
          let is : filter p (range_with_len a (suc n)) ≡ filter p (range_with_len (a + 1) n) = rw e refl in
          subst (λ (xs : List ℕ). p (get_or xs i 0) ≡ true) (sym is) (later i (subst (λ (xs : List ℕ). i < length xs) is lt))

  rising : (a n i j : ℕ) → i < j → j < length (filter p (range_with_len a n)) → get_or (filter p (range_with_len a n)) i 0 < get_or (filter p (range_with_len a n)) j 0
  rising a zero i j order lt = absurd (omega (arith, lt))
  rising a (suc n) i j order lt = by (rising (a + 1) n) (p a) refl
    where
      here : ((k l : ℕ) → k < l → l < length (filter p (range_with_len (a + 1) n)) → get_or (filter p (range_with_len (a + 1) n)) k 0 < get_or (filter p (range_with_len (a + 1) n)) l 0) → (k l : ℕ) → k < l → l < length (a ∷ filter p (range_with_len (a + 1) n)) → get_or (a ∷ filter p (range_with_len (a + 1) n)) k 0 < get_or (a ∷ filter p (range_with_len (a + 1) n)) l 0
      here later k zero o w = absurd (omega (arith, o))
      here later zero (suc l) o w = omega (arith, at_least (a + 1) n l (omega (arith, w)))
      here later (suc k) (suc l) o w = later k l (omega (arith, o)) (omega (arith, w))

      by : ((k l : ℕ) → k < l → l < length (filter p (range_with_len (a + 1) n)) → get_or (filter p (range_with_len (a + 1) n)) k 0 < get_or (filter p (range_with_len (a + 1) n)) l 0) → (b : Bool) → p a ≡ b → get_or (filter p (range_with_len a (suc n))) i 0 < get_or (filter p (range_with_len a (suc n))) j 0
      by later true e =
          let is : filter p (range_with_len a (suc n)) ≡ a ∷ filter p (range_with_len (a + 1) n) = rw e refl in
          subst (λ (xs : List ℕ). get_or xs i 0 < get_or xs j 0) (sym is) (here later i j order (subst (λ (xs : List ℕ). j < length xs) is lt))
      by later false e =
          let is : filter p (range_with_len a (suc n)) ≡ filter p (range_with_len (a + 1) n) = rw e refl in
          subst (λ (xs : List ℕ). get_or xs i 0 < get_or xs j 0) (sym is) (later i j order (subst (λ (xs : List ℕ). j < length xs) is lt))

-- ---- the number of a piece

abbrev number_of : List (List ℕ) → List ℕ → ℕ → ℕ
number_of tasks stem piece = get_or (free_numbers tasks stem piece) (piece - 2) 0

module _ (tasks : List (List ℕ)) (few : length tasks < 2 ^ 62) (stem : List ℕ) where
  abbrev numbers : ℕ → List ℕ
  numbers count = filter (is_free tasks stem) (range_with_len 2 count)

  -- there are as many
  there_are : (piece : ℕ) → piece < 2 ^ 62 → piece ≤ length (free_numbers tasks stem piece)
  there_are piece small = omega (arith, enough stem tasks 2 (piece + length tasks) (omega (arith, small, few)))

  is_small : (piece : ℕ) → 1 < piece → piece < 2 ^ 62 → number_of tasks stem piece < 2 ^ 64
  is_small piece some small = omega (arith, below (is_free tasks stem) 2 (piece + length tasks) (piece - 2) (omega (arith, some, there_are piece small)), small, few)

  is_no_task : (piece : ℕ) → 1 < piece → piece < 2 ^ 62 → list_any (bytes_eq (numbered_name stem (number_of tasks stem piece))) tasks ≡ false
  is_no_task piece some small = by (list_any (bytes_eq (numbered_name stem (number_of tasks stem piece))) tasks) refl
    where
      by : (b : Bool) → list_any (bytes_eq (numbered_name stem (number_of tasks stem piece))) tasks ≡ b → list_any (bytes_eq (numbered_name stem (number_of tasks stem piece))) tasks ≡ false
      by true e = absurd (false≢true (sym (ap not e) ∙ passes (is_free tasks stem) 2 (piece + length tasks) (piece - 2) (omega (arith, some, there_are piece small))))
      by false e = e

  -- in a longer row it is the same one
  in_row : (piece more : ℕ) → 1 < piece → piece < 2 ^ 62 → piece ≤ more → get_or (free_numbers tasks stem more) (piece - 2) 0 ≡ number_of tasks stem piece
  in_row piece more some small le = free_at (is_free tasks stem) 2 (piece + length tasks) (more + length tasks) (piece - 2) (omega (arith, le)) (omega (arith, some, there_are piece small))

  less : (m n : ℕ) → 1 < m → m < n → n < 2 ^ 62 → number_of tasks stem m < number_of tasks stem n
  less m n some order small =
      let small_m : m < 2 ^ 62 = omega (arith, order, small) in
      omega (arith, in_row m n some small_m (omega (arith, order)), rising (is_free tasks stem) 2 (n + length tasks) (m - 2) (n - 2) (omega (arith, some, order)) (omega (arith, some, order, there_are n small)))

  pub one_piece : (m n : ℕ) → 1 < m → 1 < n → m < 2 ^ 62 → n < 2 ^ 62 → number_of tasks stem m ≡ number_of tasks stem n → m ≡ n
  one_piece m n some_m some_n small_m small_n e = by (cases_order m n)
    where
      by : (m ≡ n) ⊎ ((m < n) ⊎ (n < m)) → m ≡ n
      by (inl same) = same
      by (inr (inl lt)) = absurd (omega (arith, e, less m n some_m lt small_n))
      by (inr (inr gt)) = absurd (omega (arith, e, less n m some_n gt small_m))

-- ---- names

first_name : (tasks : List (List ℕ)) (task : List ℕ) (piece : ℕ) → piece ≤ 1 → piece_name tasks task piece ≡ task
first_name tasks task piece le =
    ap (λ b. if b then task else numbered_name (stem_of tasks task) (number_of tasks (stem_of tasks task) piece)) (le-leb piece 1 le)

later_name : (tasks : List (List ℕ)) (task : List ℕ) (piece : ℕ) → 1 < piece → piece_name tasks task piece ≡ numbered_name (stem_of tasks task) (number_of tasks (stem_of tasks task) piece)
later_name tasks task piece lt =
    ap (λ b. if b then task else numbered_name (stem_of tasks task) (number_of tasks (stem_of tasks task) piece)) (lt-leb piece 1 lt)

slashed : (stem : List ℕ) (n : ℕ) → numbered_name stem n ≡ stem ++ 47 ∷ decimal n
slashed stem n = append_assoc stem (47 ∷ []) (decimal n)

-- a later piece has the name of no task
no_task : (tasks : List (List ℕ)) (a b : List ℕ) (m n : ℕ) → length tasks < 2 ^ 62 → list_any (bytes_eq a) tasks ≡ true → m ≤ 1 → 1 < n → n < 2 ^ 62 → piece_name tasks a m ≡ piece_name tasks b n → ⊥
no_task tasks a b m n few in_a first later small e =
    let is : a ≡ numbered_name (stem_of tasks b) (number_of tasks (stem_of tasks b) n) = sym (first_name tasks a m first) ∙ e ∙ later_name tasks b n later in
    false≢true (sym (is_no_task tasks few (stem_of tasks b) n later small) ∙ ap (λ (t : List ℕ). list_any (bytes_eq t) tasks) (sym is) ∙ in_a)

pub one_name : (tasks : List (List ℕ)) (a b : List ℕ) (m n : ℕ) → length tasks < 2 ^ 62 → m < 2 ^ 62 → n < 2 ^ 62 → 0 < m → 0 < n → list_any (bytes_eq a) tasks ≡ true → list_any (bytes_eq b) tasks ≡ true
    → piece_name tasks a m ≡ piece_name tasks b n → (a ≡ b) × (m ≡ n)
one_name tasks a b m n few small_m small_n some_m some_n in_a in_b e = by (cases_lt 1 m) (cases_lt 1 n)
  where
    later : 1 < m → 1 < n → (a ≡ b) × (m ≡ n)
    later l k =
        let s = stem_of tasks a in
        let t = stem_of tasks b in
        let small : number_of tasks s m < 2 ^ 64 = is_small tasks few s m l small_m in
        let small_too : number_of tasks t n < 2 ^ 64 = is_small tasks few t n k small_n in
        let parts = same_parts 47 s t (decimal (number_of tasks s m)) (decimal (number_of tasks t n)) (decimal_lacks 47 (number_of tasks s m) (omega arith) small) (decimal_lacks 47 (number_of tasks t n) (omega arith) small_too)
        (sym (slashed s (number_of tasks s m)) ∙ sym (later_name tasks a m l) ∙ e ∙ later_name tasks b n k ∙ slashed t (number_of tasks t n)) in
        let same : number_of tasks s m ≡ number_of tasks t n = decimal_injective (number_of tasks s m) (number_of tasks t n) small small_too parts.1 in
        (one_stem tasks few a b in_a in_b parts.0, one_piece tasks few s m n l k small_m small_n (same ∙ ap (λ (x : List ℕ). number_of tasks x n) (sym parts.0)))

    by : (1 < m) ⊎ (m ≤ 1) → (1 < n) ⊎ (n ≤ 1) → (a ≡ b) × (m ≡ n)
    by (inl l) (inl k) = later l k
    by (inl l) (inr k) = absurd (no_task tasks b a n m few in_b k l small_m (sym e))
    by (inr l) (inl k) = absurd (no_task tasks a b m n few in_a l k small_n e)
    by (inr l) (inr k) = (sym (first_name tasks a m l) ∙ e ∙ first_name tasks b n k, omega (arith, l, k, some_m, some_n))
