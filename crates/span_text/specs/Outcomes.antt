-- Reading in steps, of which the first that refuses decides.
use Rattle.std.specs.Prelude.{◌≡◌, ℕ, List, [], ◌∷◌, ◌++◌, Result, Ok, Err, ⊤}
use Rattle.span_text.specs.declared.why.Why.{Why}
use Rattle.span_text.specs.declared.read_error.ReadError.{ReadError}
use Rattle.span_text.specs.declared.read_error.ReadError.TheVariants.{Memory, Refused}

-- the next step, where this one gave a value
infixl 10 ◌>>=◌
abbrev pub ◌>>=◌ : {A B E : Type 0} → Result A E → (A → Result B E) → Result B E
(Ok x) >>= f = f x
(Err e) >>= f = Err e

-- the lists that the items give, one behind the other, or the first refusal
abbrev pub gather : {A B E : Type 0} → (A → Result (List B) E) → List A → Result (List B) E
gather f [] = Ok []
gather f (x ∷ xs) = f x >>= λ first. gather f xs >>= λ others. Ok (first ++ others)

-- what is given, behind what was there before
abbrev pub after : {B E : Type 0} → List B → Result (List B) E → Result (List B) E
after old said = said >>= λ more. Ok (old ++ more)

-- why it was not read: out of memory, or the refusal
abbrev pub Fails : {Y : Type 0} → ReadError → Result Y Why → Type 0
Fails Memory said = ⊤
Fails (Refused why) said = said ≡ Err why

-- what a call returned, seen by view, is what is said, unless memory ran out
abbrev pub Gives : {X Y : Type 0} → (X → Y) → Result X ReadError → Result Y Why → Type 0
Gives view (Ok x) said = said ≡ Ok (view x)
Gives view (Err e) said = Fails e said
