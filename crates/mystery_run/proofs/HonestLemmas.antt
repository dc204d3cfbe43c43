-- What a run read of honest files.
use Rattle.std.proofs.Common.{◌≡◌, ℕ, zero, suc, List, [], ◌∷◌, ◌++◌, length, map, take, drop, true, ap, refl, ◌∙◌}
use Rattle.std.proofs.Math.Seq.{take-length}
use Rattle.std.proofs.lemmas.List.{drop_at, take_at}
use Rattle.std.proofs.lemmas.List.Elements.{All-drop, All-take}
use Rattle.mystery_io.specs.Honest.{AreHonest, HonestFilesGiveContents, IsHonest}
use Rattle.mystery_io.specs.Input.{input_of, input_read}
use Rattle.mystery_io.specs.Readings.{Reading}
use Rattle.mystery_run.specs.CommandLines.{all_files_of, files_of, preface_of}
use Rattle.mystery_run.specs.Runs.{OfInputs, ReadsAll, Seen}

names_first : (rs : List Reading) (n : ℕ) → map (λ (r : Reading). r.name) (take n rs) ≡ take n (map (λ (r : Reading). r.name) rs)
names_first [] zero = refl
names_first [] (suc n) = refl
names_first (r ∷ rs) zero = refl
names_first (r ∷ rs) (suc n) = ap (λ ns. r.name ∷ ns) (names_first rs n)

names_rest : (rs : List Reading) (n : ℕ) → map (λ (r : Reading). r.name) (drop n rs) ≡ drop n (map (λ (r : Reading). r.name) rs)
names_rest [] zero = refl
names_rest [] (suc n) = refl
names_rest (r ∷ rs) zero = refl
names_rest (r ∷ rs) (suc n) = names_rest rs n

module _ (honest : HonestFilesGiveContents) (contents : List ℕ → List ℕ) (seen : Seen) (are : AreHonest contents seen.files.readings) (all : ReadsAll seen) where
  named : map (λ (r : Reading). r.name) seen.files.readings ≡ preface_of seen.words ++ files_of seen.words
  named = all.opened.named ∙ take-length (all_files_of seen.words)

  first : input_read (take (length (preface_of seen.words)) seen.files.readings) ≡ input_of contents (preface_of seen.words)
  first =
      let n = length (preface_of seen.words) in
      let rs = take n seen.files.readings in
      honest contents rs (All-take (IsHonest contents) n seen.files.readings are) (All-take (λ (r : Reading). r.at_end ≡ true) n seen.files.readings all.ended)
      ∙ ap (input_of contents) (names_first seen.files.readings n ∙ ap (λ (ns : List (List ℕ)). take n ns) named ∙ take_at (preface_of seen.words) (files_of seen.words) n refl)

  rest : input_read (drop (length (preface_of seen.words)) seen.files.readings) ≡ input_of contents (files_of seen.words)
  rest =
      let n = length (preface_of seen.words) in
      let rs = drop n seen.files.readings in
      honest contents rs (All-drop (IsHonest contents) n seen.files.readings are) (All-drop (λ (r : Reading). r.at_end ≡ true) n seen.files.readings all.ended)
      ∙ ap (input_of contents) (names_rest seen.files.readings n ∙ ap (λ (ns : List (List ℕ)). drop n ns) named ∙ drop_at (preface_of seen.words) (files_of seen.words) n refl)

  pub inputs : OfInputs seen.files seen.words (λ preface input. (preface ≡ input_of contents (preface_of seen.words)) × (input ≡ input_of contents (files_of seen.words)))
  inputs = (first, rest)
