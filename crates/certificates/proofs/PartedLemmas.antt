-- The claim of a line's fields is the one that its parts make, read one after another.
use Rattle.std.proofs.Common.{◌≡◌, ℕ, List, [], ◌∷◌, Bool, true, false, Option, Some, None, option_map, codes, refl, ap, ◌∙◌}
use Rattle.std.specs.Prelude.{if◌then◌else◌}
use Rattle.std.specs.Option.{option_zip}
use Rattle.std.specs.Str.{bytes_eq}
use Rattle.trace_types.specs.Segments.{SegmentName}
use Rattle.std.proofs.lemmas.Slice.Eq.{bytes_eq-Decides}
use Rattle.step_core.specs.Numbers.{plain_number}
use Rattle.certificates.specs.Claims.{claim_of_fields}
use Rattle.certificates.specs.Claims.{name_of_texts, text_of}
use Rattle.certificates.specs.inner.ClaimParts.{claim_of_kind, names_then_place, parted_claim, place_said, placed_claim, tasks_then_place}
use Rattle.certificates.specs.declared.claim.Claim.{Claim}
use Rattle.certificates.specs.declared.matter.Matter.{Matter}
use Rattle.certificates.specs.declared.matter.Matter.TheVariants.{Before, Exclusive, Pipe}
use Rattle.certificates.specs.declared.trace_place.TracePlace.{TracePlace}

-- ---- choices

zip_none : {A B : Type 0} (o : Option A) (other : Option B) → other ≡ None → option_zip o other ≡ None
zip_none None other e = refl
zip_none (Some x) other e = ap (option_zip (Some x)) e

map_none : {A B : Type 0} (f : A → B) (o : Option A) → o ≡ None → option_map f o ≡ None
map_none f o e = ap (option_map f) e

none_chosen : (b c d : Bool) (x y z : Option Claim) → x ≡ None → y ≡ None → z ≡ None → (if b then x else (if c then y else (if d then z else None))) ≡ None
none_chosen true c d x y z e f g = e
none_chosen false true d x y z e f g = f
none_chosen false false true x y z e f g = g
none_chosen false false false x y z e f g = refl

if_none : (b : Bool) (x : Option Claim) → x ≡ None → (if b then x else None) ≡ None
if_none true x e = e
if_none false x e = refl

if_same : (b : Bool) (x y : Option Claim) → x ≡ y → (if b then x else None) ≡ (if b then y else None)
if_same true x y e = e
if_same false x y e = refl

-- ---- too few fields, too many, or a number of them between

kind_none : (n : ℕ) (kind : List ℕ) (fields : List (List ℕ)) → names_then_place fields ≡ None → tasks_then_place fields ≡ None → claim_of_kind n kind fields ≡ None
kind_none n kind fields e f =
    none_chosen (bytes_eq kind (codes "before")) (bytes_eq kind (codes "exclusive")) (bytes_eq kind (codes "pipe")) _ _ _ (map_none _ (names_then_place fields) e) (map_none _ (names_then_place fields) e) (map_none _ (tasks_then_place fields) f)

word_none : (n : ℕ) (word kind : List ℕ) (fields : List (List ℕ)) → names_then_place fields ≡ None → tasks_then_place fields ≡ None → parted_claim n (word ∷ kind ∷ fields) ≡ None
word_none n word kind fields e f = if_none (bytes_eq word (codes "refuted")) (claim_of_kind n kind fields) (kind_none n kind fields e f)

-- ---- a relation and a place

-- the day, the index and the request of a place, if all are there
abbrev Place : Type 0
Place = Option (ℕ × (ℕ × List ℕ))

abbrev place_of : List ℕ → List ℕ → List ℕ → Place
place_of day index request = option_zip (plain_number day) (option_zip (plain_number index) (text_of request))

abbrev place_from : Place → Option TracePlace
place_from place = option_map (λ p. record { day = p.0; index = p.1.0; request = p.1.1 }) place

abbrev claim_from : ℕ → Option Matter → Place → Option Claim
claim_from n matter place = option_map (λ p. record { line = n; matter = p.0; day = p.1.0; index = p.1.1.0; request = p.1.1.1 }) (option_zip matter place)

placed : {X : Type 0} (n : ℕ) (f : X → Matter) (x : Option X) (place : Place) → option_map (λ p. placed_claim n (f p.0) p.1) (option_zip x (place_from place)) ≡ claim_from n (option_map f x) place
placed n f None place = refl
placed n f (Some x) None = refl
placed n f (Some x) (Some place) = refl

names_claim : (n : ℕ) (b c d : Bool) (names : Option (SegmentName × SegmentName)) (place : Place) (last : Option Claim) → last ≡ None
    → (if b then option_map (λ p. placed_claim n (Before p.0.0 p.0.1) p.1) (option_zip names (place_from place)) else (
    if c then option_map (λ p. placed_claim n (Exclusive p.0.0 p.0.1) p.1) (option_zip names (place_from place)) else (if d then last else None)))
    ≡ claim_from n (if b then option_map (λ p. Before p.0 p.1) names else (if c then option_map (λ p. Exclusive p.0 p.1) names else None)) place
names_claim n true c d names place last e = placed n (λ q. Before q.0 q.1) names place
names_claim n false true d names place last e = placed n (λ q. Exclusive q.0 q.1) names place
names_claim n false false true names place last e = e
names_claim n false false false names place last e = refl

tasks_claim : (n : ℕ) (b c d : Bool) → (b ≡ true → d ≡ false) → (c ≡ true → d ≡ false) → (tasks : Option (List ℕ × List ℕ)) (place : Place)
    → (if b then None else (if c then None else (if d then option_map (λ p. placed_claim n (Pipe p.0.0 p.0.1) p.1) (option_zip tasks (place_from place)) else None)))
    ≡ claim_from n (if d then option_map (λ p. Pipe p.0 p.1) tasks else None) place
tasks_claim n true c true h k tasks place = let e : true ≡ false = h refl in cc
tasks_claim n true c false h k tasks place = refl
tasks_claim n false true true h k tasks place = let e : true ≡ false = k refl in cc
tasks_claim n false true false h k tasks place = refl
tasks_claim n false false true h k tasks place = placed n (λ q. Pipe q.0 q.1) tasks place
tasks_claim n false false false h k tasks place = refl

-- two kinds are apart
apart : (kind one other : List ℕ) → bytes_eq one other ≡ false → bytes_eq kind one ≡ true → bytes_eq kind other ≡ false
apart kind one other e h = ap (λ k. bytes_eq k other) ((bytes_eq-Decides kind one).0 h) ∙ e

-- ---- all fields

tasks_same : (n : ℕ) (word kind from to day index request : List ℕ) → parted_claim n (word ∷ kind ∷ from ∷ to ∷ day ∷ index ∷ request ∷ []) ≡ claim_of_fields n (word ∷ kind ∷ from ∷ to ∷ day ∷ index ∷ request ∷ [])
tasks_same n word kind from to day index request =
    if_same (bytes_eq word (codes "refuted")) _ _ (
    tasks_claim n (bytes_eq kind (codes "before")) (bytes_eq kind (codes "exclusive")) (bytes_eq kind (codes "pipe")) (apart kind (codes "before") (codes "pipe") refl) (apart kind (codes "exclusive") (codes "pipe") refl)
    (option_zip (text_of from) (text_of to)) (place_of day index request))

names_same : (n : ℕ) (word kind a b c d e f day index request : List ℕ) → parted_claim n (word ∷ kind ∷ a ∷ b ∷ c ∷ d ∷ e ∷ f ∷ day ∷ index ∷ request ∷ []) ≡ claim_of_fields n (word ∷ kind ∷ a ∷ b ∷ c ∷ d ∷ e ∷ f ∷ day ∷ index ∷ request ∷ [])
names_same n word kind a b c d e f day index request =
    if_same (bytes_eq word (codes "refuted")) _ _ (
    names_claim n (bytes_eq kind (codes "before")) (bytes_eq kind (codes "exclusive")) (bytes_eq kind (codes "pipe")) (option_zip (name_of_texts a b c) (name_of_texts d e f)) (place_of day index request) _
    (map_none _ _ (zip_none (option_zip (text_of a) (text_of b)) (place_said (c ∷ d ∷ e ∷ f ∷ day ∷ index ∷ request ∷ [])) refl)))

both_none : (n : ℕ) (word kind a b c d e f : List ℕ) (fields : List (List ℕ)) → place_said fields ≡ None → place_said (c ∷ d ∷ e ∷ f ∷ fields) ≡ None → parted_claim n (word ∷ kind ∷ a ∷ b ∷ c ∷ d ∷ e ∷ f ∷ fields) ≡ None
both_none n word kind a b c d e f fields h k =
    word_none n word kind (a ∷ b ∷ c ∷ d ∷ e ∷ f ∷ fields) (zip_none (option_zip (name_of_texts a b c) (name_of_texts d e f)) (place_said fields) h)
    (zip_none (option_zip (text_of a) (text_of b)) (place_said (c ∷ d ∷ e ∷ f ∷ fields)) k)

task_none : (n : ℕ) (word kind a b : List ℕ) (fields : List (List ℕ)) → names_then_place (a ∷ b ∷ fields) ≡ None → place_said fields ≡ None → parted_claim n (word ∷ kind ∷ a ∷ b ∷ fields) ≡ None
task_none n word kind a b fields h k = word_none n word kind (a ∷ b ∷ fields) h (zip_none (option_zip (text_of a) (text_of b)) (place_said fields) k)

pub same_claim : (n : ℕ) (fields : List (List ℕ)) → parted_claim n fields ≡ claim_of_fields n fields
same_claim n [] = refl
same_claim n (word ∷ []) = refl
same_claim n (word ∷ kind ∷ []) = word_none n word kind [] refl refl
same_claim n (word ∷ kind ∷ a ∷ []) = word_none n word kind (a ∷ []) refl refl
same_claim n (word ∷ kind ∷ a ∷ b ∷ []) = task_none n word kind a b [] refl refl
same_claim n (word ∷ kind ∷ a ∷ b ∷ c ∷ []) = task_none n word kind a b (c ∷ []) refl refl
same_claim n (word ∷ kind ∷ a ∷ b ∷ c ∷ d ∷ []) = task_none n word kind a b (c ∷ d ∷ []) refl refl
same_claim n (word ∷ kind ∷ a ∷ b ∷ c ∷ d ∷ e ∷ []) = tasks_same n word kind a b c d e
same_claim n (word ∷ kind ∷ a ∷ b ∷ c ∷ d ∷ e ∷ f ∷ []) = both_none n word kind a b c d e f [] refl refl
same_claim n (word ∷ kind ∷ a ∷ b ∷ c ∷ d ∷ e ∷ f ∷ g ∷ []) = both_none n word kind a b c d e f (g ∷ []) refl refl
same_claim n (word ∷ kind ∷ a ∷ b ∷ c ∷ d ∷ e ∷ f ∷ g ∷ h ∷ []) = both_none n word kind a b c d e f (g ∷ h ∷ []) refl refl
same_claim n (word ∷ kind ∷ a ∷ b ∷ c ∷ d ∷ e ∷ f ∷ g ∷ h ∷ i ∷ []) = names_same n word kind a b c d e f g h i
same_claim n (word ∷ kind ∷ a ∷ b ∷ c ∷ d ∷ e ∷ f ∷ g ∷ h ∷ i ∷ j ∷ more) = both_none n word kind a b c d e f (g ∷ h ∷ i ∷ j ∷ more) refl refl
