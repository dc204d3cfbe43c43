-- Lists that are matched element by element.
use Rattle.std.proofs.Common.{◌≡◌, ◌≢◌, ℕ, ◌<◌, ◌↔◌, Option, Some, None, List, [], ◌∷◌, get_or, refl, sym, ap, ◌∙◌, subst, ⊎_elim}
use Rattle.std.proofs.lemmas.Bool.{cases_order}
use Rattle.std.proofs.lemmas.List.{get_or_default}
use Rattle.std.proofs.lemmas.List.Elements.{All-contains, Contains-get_or}
use Rattle.std.proofs.lemmas.Option.{slice_get-get_or, slice_get_within, get_or_from_slice_get}
use Rattle.std.proofs.lemmas.Slice.Zip.{AllZip-left}
use Rattle.std.specs.List.{AllZip, Contains, slice_get}
use Rattle.std.specs.Option.{IsSomeAnd}
use Rattle.std.specs.Prelude.{MatchOption, ⊤}
use Rattle.trace_types.specs.Renaming.{IsOneToOne, AreOptionsMatched}
use Rattle.trace_types.specs.Surviving.{Survives, IsRefuted}

-- ---- relations, and one element for each
abbrev pub Flip : {X Y : Type 0} → (X → Y → Type 0) → Y → X → Type 0
Flip R y x = R x y

-- each of the one is in R to at most one of the other
pub record OneToOne {X Y : Type 0} (R : X → Y → Type 0) : Type 0 where
  pub to : (x : X) (y z : Y) → R x y → R x z → y ≡ z
  pub back : (x w : X) (y : Y) → R x y → R w y → x ≡ w

pub flip_one : {X Y : Type 0} (R : X → Y → Type 0) → OneToOne R → OneToOne (Flip R)
flip_one R one = record { to = λ y x w r s. one.back x w y r s; back = λ y z x r s. one.to x y z r s }

-- the pair is in the list
abbrev pub Are : {X Y : Type 0} → List (X × Y) → X → Y → Type 0
Are matches x y = Contains matches (x, y)

-- two pairs of the list that share one part are one pair
same_pair : {X Y : Type 0} (xs : List (X × Y)) → IsOneToOne xs → (m n : X × Y) → Contains xs m → Contains xs n → ((m.0 ≢ n.0) × (m.1 ≢ n.1) → ⊥) → ((n.0 ≢ m.0) × (n.1 ≢ m.1) → ⊥) → m ≡ n
same_pair {X} {Y} xs differ m n c d share shared =
    let em : get_or xs c.0 m ≡ m = c.2 in
    let en : get_or xs d.0 m ≡ n = get_or_default xs d.0 m n d.1 ∙ d.2 in
    ⊎_elim
    (λ (h : c.0 ≡ d.0). sym em ∙ ap (λ (k : ℕ). get_or xs k m) h ∙ en)
    (⊎_elim
    (λ (h : c.0 < d.0). absurd (share (subst (λ (w : X × Y). (m.0 ≢ w.0) × (m.1 ≢ w.1)) en (subst (λ (w : X × Y). (w.0 ≢ (get_or xs d.0 m).0) × (w.1 ≢ (get_or xs d.0 m).1)) em (differ c.0 d.0 m h d.1)))))
    (λ (h : d.0 < c.0). absurd (shared (subst (λ (w : X × Y). (n.0 ≢ w.0) × (n.1 ≢ w.1)) em (subst (λ (w : X × Y). (w.0 ≢ (get_or xs c.0 m).0) × (w.1 ≢ (get_or xs c.0 m).1)) en (differ d.0 c.0 m h c.1))))))
    (cases_order c.0 d.0)

pub are_one : {X Y : Type 0} (xs : List (X × Y)) → IsOneToOne xs → OneToOne (Are xs)
are_one {X} {Y} xs differ = record {
  to = λ x y z r s. ap (λ (w : X × Y). w.1) (same_pair xs differ (x, y) (x, z) r s (λ d. d.0 refl) (λ d. d.0 refl));
  back = λ x w y r s. ap (λ (w : X × Y). w.0) (same_pair xs differ (x, y) (w, y) r s (λ d. d.1 refl) (λ d. d.1 refl));
}

-- both are None, or what they have is in R
abbrev pub OptionsMatch : {X Y : Type 0} → (X → Y → Type 0) → Option X → Option Y → Type 0
OptionsMatch R None None = ⊤
OptionsMatch R None (Some y) = ⊥
OptionsMatch R (Some x) None = ⊥
OptionsMatch R (Some x) (Some y) = R x y

pub flip_options : {X Y : Type 0} (R : X → Y → Type 0) (a : Option X) (b : Option Y) → OptionsMatch R a b → OptionsMatch (Flip R) b a
flip_options R None None m = tt
flip_options R None (Some b) m = absurd m
flip_options R (Some a) None m = absurd m
flip_options R (Some a) (Some b) m = m

pub options_are : {X Y : Type 0} (xs : List (X × Y)) (a : Option X) (b : Option Y) → AreOptionsMatched xs a b → OptionsMatch (Are xs) a b
options_are xs None None m = tt
options_are xs None (Some b) m = absurd m
options_are xs (Some a) None m = absurd m
options_are xs (Some a) (Some b) m = m

pub some_matched : {X Y : Type 0} (R : X → Y → Type 0) (a : X) (o : Option Y) → OptionsMatch R (Some a) o → (b : Y) × (o ≡ Some b) × R a b
some_matched R a None m = absurd m
some_matched R a (Some b) m = (b, refl, m)

-- ---- lists matched by R
pub zip_map : {X Y : Type 0} (R Q : X → Y → Type 0) → ((x : X) (y : Y) → R x y → Q x y) → (xs : List X) (ys : List Y) → AllZip R xs ys → AllZip Q xs ys
zip_map R Q f [] [] z = tt
zip_map R Q f [] (y ∷ ys) z = absurd z
zip_map R Q f (x ∷ xs) [] z = absurd z
zip_map R Q f (x ∷ xs) (y ∷ ys) z = (f x y z.0, zip_map R Q f xs ys z.1)

pub flip_zip : {X Y : Type 0} (R : X → Y → Type 0) (xs : List X) (ys : List Y) → AllZip R xs ys → AllZip (Flip R) ys xs
flip_zip R [] [] z = tt
flip_zip R [] (y ∷ ys) z = absurd z
flip_zip R (x ∷ xs) [] z = absurd z
flip_zip R (x ∷ xs) (y ∷ ys) z = (z.0, flip_zip R xs ys z.1)

pub some_and : {Y : Type 0} (o : Option Y) (P : Y → Type 0) → IsSomeAnd o P → (y : Y) × (o ≡ Some y) × P y
some_and None P h = absurd h
some_and (Some y) P h = (y, refl, h)

-- what matches the element at an index stands at that index
pub partner_at : {X Y : Type 0} (R : X → Y → Type 0) (xs : List X) (ys : List Y) → AllZip R xs ys → (k : ℕ) (x : X) → slice_get xs k ≡ Some x → (y : Y) × (slice_get ys k ≡ Some y) × R x y
partner_at {X} R xs ys z k x e =
    some_and (slice_get ys k) (R x) (subst (λ (o : Option X). MatchOption o (Unit {0}) (λ v. IsSomeAnd (slice_get ys k) (R v))) e (AllZip-left R xs ys z k))

-- what matches an element stands in the other list
pub partner_in : {X Y : Type 0} (R : X → Y → Type 0) (xs : List X) (ys : List Y) → AllZip R xs ys → (x : X) → Contains xs x → (y : Y) × Contains ys y × R x y
partner_in {X} R xs ys z x c =
    let there : slice_get xs c.0 ≡ Some x = slice_get-get_or xs c.0 x c.1 ∙ ap (λ (v : X). Some v) c.2 in
    let r = partner_at R xs ys z c.0 x there in
    (r.0, (c.0, slice_get_within ys c.0 r.0 r.1, get_or_from_slice_get ys c.0 r.0 r.0 r.1), r.2)

refuted_to : {X Y : Type 0} (P : X → Type 0) (Q : Y → Type 0) (R : X → Y → Type 0) (xs : List X) (ys : List Y) → AllZip R xs ys → ((x : X) (y : Y) → R x y → P x → Q y) → IsRefuted P xs → IsRefuted Q ys
refuted_to P Q R xs ys z to h =
    let r = partner_in R xs ys z h.1 (h.0, h.2, h.3) in
    (r.1.0, r.0, r.1.1, r.1.2, to h.1 r.0 r.2 h.4)

survives_to : {X Y : Type 0} (P : X → Type 0) (Q : Y → Type 0) (R : X → Y → Type 0) (xs : List X) (ys : List Y) → AllZip R xs ys → ((x : X) (y : Y) → R x y → Q y → P x) → Survives P xs → Survives Q ys
survives_to {X} {Y} P Q R xs ys z back survives k d lt q =
    let y = get_or ys k d in
    let r = partner_in (Flip R) ys xs (flip_zip R xs ys z) y (Contains-get_or ys k d lt) in
    All-contains (λ (x : X). P x → ⊥) xs r.0 survives r.1 (back r.0 y r.2 q)

-- where matched elements have P and Q alike, so have the lists
pub refuted_alike : {X Y : Type 0} (P : X → Type 0) (Q : Y → Type 0) (R : X → Y → Type 0) (xs : List X) (ys : List Y) → AllZip R xs ys → ((x : X) (y : Y) → R x y → P x ↔ Q y) → IsRefuted P xs ↔ IsRefuted Q ys
refuted_alike P Q R xs ys z alike = (
  refuted_to P Q R xs ys z (λ x y m. (alike x y m).0),
  refuted_to Q P (Flip R) ys xs (flip_zip R xs ys z) (λ y x m. (alike x y m).1),
)

pub survive_alike : {X Y : Type 0} (P : X → Type 0) (Q : Y → Type 0) (R : X → Y → Type 0) (xs : List X) (ys : List Y) → AllZip R xs ys → ((x : X) (y : Y) → R x y → P x ↔ Q y) → Survives P xs ↔ Survives Q ys
survive_alike P Q R xs ys z alike = (
  survives_to P Q R xs ys z (λ x y m. (alike x y m).1),
  survives_to Q P (Flip R) ys xs (flip_zip R xs ys z) (λ y x m. (alike x y m).0),
)
