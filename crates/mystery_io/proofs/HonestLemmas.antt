-- What honest files gave.
use Rattle.std.proofs.Common.{◌≡◌, ◌<◌, ℕ, min, take, drop, List, [], ◌∷◌, ◌++◌, length, Bool, true, false, ◌||◌, refl, ap, sym, subst, ◌∙◌, append_assoc, append-nil, arith}
use Rattle.std.specs.Prelude.{◌==◌}
use Rattle.std.proofs.lemmas.Bool.{eqb-true}
use Rattle.std.proofs.lemmas.List.{length-drop, length-take, nil_from_length, take-append-drop}
use Rattle.std.proofs.lemmas.List.Elements.{All-append, All-head, All-nil, All-push, All-tail}
use Rattle.mystery_io.specs.Honest.{AreHonest, GivesContents, HonestFilesGiveContents, IsHonest}
use Rattle.mystery_io.specs.Input.{bytes_read, ended, input_read}
use Rattle.mystery_io.specs.Readings.{Reading, after_open, after_read}
use Rattle.mystery_io.proofs.GivenLemmas.{reading, to_last}

-- a reading that came to its end gave the whole
whole : (contents : List ℕ → List ℕ) (r : Reading) → IsHonest contents r → r.at_end ≡ true → r.bytes ≡ contents r.name
whole contents r h e = sym (append-nil r.bytes) ∙ ap (λ xs. r.bytes ++ xs) (sym (h.whole e)) ∙ sym h.split

brought : (contents : List ℕ → List ℕ) (r : Reading) → IsHonest contents r → r.at_end ≡ true → bytes_read r ≡ ended (contents r.name)
brought contents r h e = rw e (ap ended (whole contents r h e))

pub honest : HonestFilesGiveContents
honest contents [] h e = refl
honest contents (r ∷ rs) h e =
    ap (λ xs. xs ++ input_read rs) (brought contents r (All-head (IsHonest contents) r rs h) (All-head (λ (q : Reading). q.at_end ≡ true) r rs e))
    ∙ ap (λ xs. ended (contents r.name) ++ xs) (honest contents rs (All-tail (IsHonest contents) r rs h) (All-tail (λ (q : Reading). q.at_end ≡ true) r rs e))

-- before the first call
pub gives_none : (contents : List ℕ → List ℕ) (given : List Reading) (left : List ℕ) → given ≡ [] → GivesContents contents given left false
gives_none contents given left none = record {
  each = subst (AreHonest contents) (sym none) (All-nil (IsHonest contents));
  ahead = λ (e : false ≡ true). cc;
}

fresh : (contents : List ℕ → List ℕ) (name : List ℕ) → IsHonest contents (reading name [] false)
fresh contents name = record { rest = contents name; split = refl; whole = λ (e : false ≡ true). cc }

-- a file was opened, or was not
pub gives_opened : (contents : List ℕ → List ℕ) (before now : List Reading) (name left : List ℕ) (is_open : Bool) → AreHonest contents before → now ≡ after_open before name → (is_open ≡ true → left ≡ contents name) → GivesContents contents now left is_open
gives_opened contents before now name left is_open h e is = record {
  each = subst (AreHonest contents) (sym e) (All-push (IsHonest contents) before (reading name [] false) h (fresh contents name));
  ahead = λ o. (before, reading name [] false, e, sym (is o), λ (k : false ≡ true). cc);
}

no_more : (xs ys : List ℕ) → xs ++ ys ≡ [] → ys ≡ []
no_more [] ys e = e
no_more (x ∷ xs) ys e = cc

none_long : (xs : List ℕ) → (length xs == 0) ≡ true → length xs ≡ 0
none_long xs e = eqb-true (length xs) 0 e

firsts : (contents : List ℕ → List ℕ) (first : List Reading) (last : Reading) → AreHonest contents (first ++ last ∷ []) → AreHonest contents first
firsts contents [] last h = All-nil (IsHonest contents)
firsts contents (r ∷ rs) last h = All-append (IsHonest contents) (r ∷ []) rs (All-push (IsHonest contents) [] r (All-nil (IsHonest contents)) (All-head (IsHonest contents) r (rs ++ last ∷ []) h)) (firsts contents rs last (All-tail (IsHonest contents) r (rs ++ last ∷ []) h))

nothing_left : (at_end : Bool) (piece left now : List ℕ) → left ≡ piece ++ now → (at_end ≡ true → left ≡ []) → (length piece ≡ 0 → now ≡ []) → (at_end || (length piece == 0)) ≡ true → now ≡ []
nothing_left true piece left now next whole none e = no_more piece now (sym next ∙ whole refl)
nothing_left false piece left now next whole none e = none (none_long piece e)

-- a read gave the next piece
pub gives_read : (contents : List ℕ → List ℕ) (before now : List Reading) (piece left_before left_now : List ℕ) (is_open : Bool) → GivesContents contents before left_before is_open → is_open ≡ true → now ≡ after_read before piece → left_before ≡ piece ++ left_now → (length piece ≡ 0 → left_now ≡ [])
    → GivesContents contents now left_now is_open
gives_read contents before now piece left_before left_now is_open h o e next none =
    let a = h.ahead o in
    let last : Reading = a.1 in
    let r : Reading = reading last.name (last.bytes ++ piece) (last.at_end || (length piece == 0)) in
    let is : now ≡ a.0 ++ r ∷ [] = e ∙ ap (λ (rs : List Reading). after_read rs piece) a.2 ∙ to_last a.0 last piece (length piece == 0) in
    let split : contents r.name ≡ r.bytes ++ left_now = a.3 ∙ ap (λ xs. last.bytes ++ xs) next ∙ sym (append_assoc last.bytes piece left_now) in
    let whole : r.at_end ≡ true → left_now ≡ [] = nothing_left last.at_end piece left_before left_now next a.4 none in
    record {
      each = subst (AreHonest contents) (sym is) (All-push (IsHonest contents) a.0 r (firsts contents a.0 last (subst (AreHonest contents) a.2 h.each)) (record { rest = left_now; split = split; whole = whole }));
      ahead = λ _. (a.0, r, is, split, whole);
    }

-- what a read of files in memory gives is the next of what is left, and nothing is only given at the end
pub next_piece : (left piece : List ℕ) (n most room : ℕ) → 0 < most → 0 < room → n ≡ min (min most (length left)) room → piece ≡ take n left → (left ≡ piece ++ drop n left) × (length piece ≡ 0 → drop n left ≡ [])
next_piece left piece n most room some roomy is e = (
  sym (take-append-drop n left) ∙ ap (λ xs. xs ++ drop n left) (sym e),
  λ none. nil_from_length (drop n left) (omega (arith, length-drop n left, length-take n left, ap length e, none, is, some, roomy)),
)
