-- Kept traces have one text of the row of a relation that they refute.
use Rattle.std.proofs.Common.{◌≡◌, ℕ, List, [], ◌∷◌, ◌++◌, length, All, refl, sym, ◌∙◌, ap, subst}
use Rattle.std.proofs.lemmas.List.Elements.{All-head, All-tail}
use Rattle.certificates.specs.declared.matter.Matter.{Matter}
use Rattle.session_rules.specs.CertificateTexts.{IsRefutedText, refuted_row}
use Rattle.session_rules.specs.KeptTraces.{Kept, day_of, traces_on}
use Rattle.session_rules.specs.Refutations.{IsFirstToRefute, RefutesMatter}

-- a list has one first element with P, and one list before it
first_one : (P : Kept → Type 0) (bs cs after rest : List Kept) (k l : Kept) → bs ++ (k ∷ after) ≡ cs ++ (l ∷ rest) → P k → P l → All (λ b. P b → ⊥) bs → All (λ b. P b → ⊥) cs → (bs ≡ cs) × (k ≡ l)
first_one P [] [] after rest k l e p q none others = (refl, cc)
first_one P [] (c ∷ cs) after rest k l e p q none others =
    let same : k ≡ c = cc in
    absurd (All-head (λ b. P b → ⊥) c cs others (subst P same p))
first_one P (b ∷ bs) [] after rest k l e p q none others =
    let same : l ≡ b = cc in
    absurd (All-head (λ b. P b → ⊥) b bs none (subst P same q))
first_one P (b ∷ bs) (c ∷ cs) after rest k l e p q none others =
    let head : b ≡ c = cc in
    let tail : bs ++ (k ∷ after) ≡ cs ++ (l ∷ rest) = cc in
    let same = first_one P bs cs after rest k l tail p q (All-tail (λ b. P b → ⊥) b bs none) (All-tail (λ b. P b → ⊥) c cs others) in
    (ap (λ (x : Kept). x ∷ bs) head ∙ ap (λ (xs : List Kept). c ∷ xs) same.0, same.1)

-- the first trace that refutes a relation is one, and its index
refuter_one : (kept : List Kept) (matter : Matter) (k l : Kept) (i j : ℕ) → IsFirstToRefute kept matter k i → IsFirstToRefute kept matter l j → (k ≡ l) × (i ≡ j)
refuter_one kept matter k l i j h o =
    let same = first_one (RefutesMatter matter) h.before o.before h.after o.after k l (sym h.split ∙ o.split) h.refutes o.refutes h.first o.first in
    (same.1, h.counted ∙ ap (λ (t : Kept). length (traces_on (day_of t) h.before)) same.1 ∙ ap (λ (ts : List Kept). length (traces_on (day_of l) ts)) same.0 ∙ sym o.counted)

pub refuted_one : (kept : List Kept) (matter : Matter) (t u : List ℕ) → IsRefutedText kept matter t → IsRefutedText kept matter u → t ≡ u
refuted_one kept matter t u h k =
    let same = refuter_one kept matter h.trace k.trace h.index k.index h.first k.first in
    h.text ∙ ap (λ (x : Kept). refuted_row matter x h.index) same.0 ∙ ap (refuted_row matter k.trace) same.1 ∙ sym k.text
