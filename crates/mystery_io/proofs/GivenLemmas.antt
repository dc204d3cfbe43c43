-- Readings, and what comes to the last of them.
use Rattle.std.proofs.Common.{◌≡◌, ℕ, ◌++◌, List, [], ◌∷◌, length, drop, map, Bool, true, false, ◌||◌, ap, refl, sym, ◌∙◌, append_assoc, append-nil}
use Rattle.std.proofs.lemmas.List.Elements.{All-nil, All-cons, All-head, All-tail}
use Rattle.std.proofs.lemmas.Grind.{flat_map-append}
use Rattle.std.proofs.lemmas.List.{map-append}
use Rattle.mystery_io.specs.Input.{bytes_read, input_read}
use Rattle.mystery_io.specs.Readings.{AreEnded, AreEndedBeforeLast, OnlyGrow, Reading, after_bytes, after_open, new_readings}

-- a reading by its parts
abbrev pub reading : List ℕ → List ℕ → Bool → Reading
reading name bytes at_end = record { name = name; bytes = bytes; at_end = at_end }

same_reading : (name xs ys : List ℕ) (a b : Bool) → xs ≡ ys → a ≡ b → reading name xs a ≡ reading name ys b
same_reading name xs ys a b e f = ap (λ zs. reading name zs a) e ∙ ap (λ c. reading name ys c) f

or_false : (b : Bool) → (b || false) ≡ b
or_false true = refl
or_false false = refl

or_or : (a b c : Bool) → ((a || b) || c) ≡ (a || (b || c))
or_or true b c = refl
or_or false b c = refl

-- no byte and no end came
pub none_came : (rs : List Reading) → after_bytes rs [] false ≡ rs
unfolding after_bytes
none_came [] = refl
none_came (r ∷ []) = ap (λ (q : Reading). q ∷ []) (same_reading r.name (r.bytes ++ []) r.bytes (r.at_end || false) r.at_end (append-nil r.bytes) (or_false r.at_end))
none_came (r ∷ n ∷ rest) = ap (λ qs. r ∷ qs) (none_came (n ∷ rest))

-- bytes came after others
pub both_came : (rs : List Reading) (xs ys : List ℕ) (a b : Bool) → after_bytes (after_bytes rs xs a) ys b ≡ after_bytes rs (xs ++ ys) (a || b)
unfolding after_bytes
both_came [] xs ys a b = refl
both_came (r ∷ []) xs ys a b =
    ap (λ (q : Reading). q ∷ []) (same_reading r.name ((r.bytes ++ xs) ++ ys) (r.bytes ++ (xs ++ ys)) ((r.at_end || a) || b) (r.at_end || (a || b)) (append_assoc r.bytes xs ys) (or_or r.at_end a b))
both_came (r ∷ n ∷ []) xs ys a b = ap (λ qs. r ∷ qs) (both_came (n ∷ []) xs ys a b)
both_came (r ∷ n ∷ m ∷ rest) xs ys a b = ap (λ qs. r ∷ qs) (both_came (n ∷ m ∷ rest) xs ys a b)

-- they came to the last
pub to_last : (first : List Reading) (r : Reading) (more : List ℕ) (ends : Bool) → after_bytes (first ++ r ∷ []) more ends ≡ first ++ reading r.name (r.bytes ++ more) (r.at_end || ends) ∷ []
unfolding after_bytes
to_last [] r more ends = refl
to_last (f ∷ []) r more ends = refl
to_last (f ∷ g ∷ rest) r more ends = ap (λ qs. f ∷ qs) (to_last (g ∷ rest) r more ends)

-- a file was opened, and then bytes of it came
pub opened_came : (before mid now : List Reading) (name more : List ℕ) (ends : Bool) → mid ≡ after_open before name → now ≡ after_bytes mid more ends → now ≡ before ++ reading name more ends ∷ []
opened_came before mid now name more ends o e = e ∙ ap (λ rs. after_bytes rs more ends) o ∙ to_last before (reading name [] false) more ends

-- the readings that came are those that were appended
pub new_are : (before now readings : List Reading) → now ≡ before ++ readings → new_readings before now ≡ readings
new_are before now readings e = ap (drop (length before)) e ∙ drop_first before readings
  where
    drop_first : (xs ys : List Reading) → drop (length xs) (xs ++ ys) ≡ ys
    drop_first [] ys = refl
    drop_first (x ∷ xs) ys = drop_first xs ys

pub grown_by : (before now readings : List Reading) → now ≡ before ++ readings → OnlyGrow before now
grown_by before now readings e = e ∙ ap (λ rs. before ++ rs) (sym (new_are before now readings e))

pub grown_none : (before now : List Reading) → now ≡ before → OnlyGrow before now
grown_none before now e = grown_by before now [] (e ∙ sym (append-nil before))

pub new_none : (before now : List Reading) → now ≡ before → new_readings before now ≡ []
new_none before now e = new_are before now [] (e ∙ sym (append-nil before))

-- readings came twice
pub came_twice : (before mid now xs ys : List Reading) → mid ≡ before ++ xs → now ≡ mid ++ ys → now ≡ before ++ (xs ++ ys)
came_twice before mid now xs ys e f = f ∙ ap (λ rs. rs ++ ys) e ∙ append_assoc before xs ys

-- readings that ended, and others before whose last all ended
pub ended_before : (xs ys : List Reading) → AreEnded xs → AreEndedBeforeLast ys → AreEndedBeforeLast (xs ++ ys)
ended_before [] ys a b = b
ended_before (x ∷ []) [] a b = tt
ended_before (x ∷ []) (y ∷ ys) a b = (All-head (λ (r : Reading). r.at_end ≡ true) x [] a, b)
ended_before (x ∷ z ∷ xs) ys a b = (All-head (λ (r : Reading). r.at_end ≡ true) x (z ∷ xs) a, ended_before (z ∷ xs) ys (ended_tail x (z ∷ xs) a) b)
  where
    ended_tail : (x : Reading) (xs : List Reading) → AreEnded (x ∷ xs) → AreEnded xs
    ended_tail x xs a = All-tail (λ (r : Reading). r.at_end ≡ true) x xs a

pub all_ended : (xs : List Reading) → AreEnded xs → AreEndedBeforeLast xs
all_ended xs a = rw (← append-nil xs) (ended_before xs [] a tt)

pub one_ended : (name bytes : List ℕ) → AreEnded (reading name bytes true ∷ [])
one_ended name bytes = All-cons (λ (r : Reading). r.at_end ≡ true) (reading name bytes true) [] refl (All-nil (λ (r : Reading). r.at_end ≡ true))

-- the input of readings, one after another
pub input_both : (xs ys : List Reading) → input_read (xs ++ ys) ≡ input_read xs ++ input_read ys
input_both xs ys = flat_map-append bytes_read xs ys

pub input_one : (xs : List Reading) (r : Reading) → input_read (xs ++ r ∷ []) ≡ input_read xs ++ bytes_read r
input_one xs r = input_both xs (r ∷ []) ∙ ap (λ b. input_read xs ++ b) (append-nil (bytes_read r))

-- the names of readings, one more
pub names_one : (xs : List Reading) (r : Reading) → map (λ (q : Reading). q.name) (xs ++ r ∷ []) ≡ map (λ (q : Reading). q.name) xs ++ r.name ∷ []
names_one xs r = map-append (λ (q : Reading). q.name) xs (r ∷ [])

pub ended_last : (readings : List Reading) (r : Reading) → AreEnded readings → AreEndedBeforeLast (readings ++ r ∷ [])
ended_last [] r h = tt
ended_last (q ∷ []) r h = (All-head (λ (r : Reading). r.at_end ≡ true) q [] h, tt)
ended_last (q ∷ s ∷ qs) r h = (All-head (λ (r : Reading). r.at_end ≡ true) q (s ∷ qs) h, ended_last (s ∷ qs) r (All-tail (λ (r : Reading). r.at_end ≡ true) q (s ∷ qs) h))
