-- Lines that are written part by part.
use Rattle.std.proofs.Common.{◌≡◌, ◌∙◌, ℕ, List, ◌++◌, Option, ap, append_assoc}
use Rattle.event_text.specs.LineTexts.{name_text, place_text, rest_text}

module _ (old a b new : List ℕ) (request machine task event : List ℕ) (time : ℕ) (send recv : Option (List ℕ)) (machine' task' event' : List ℕ) (time' : ℕ) (send' recv' : Option (List ℕ)) where
  pub line_pushed : a ≡ old ++ place_text request machine → b ≡ a ++ name_text task event → new ≡ b ++ rest_text time send recv
      → machine ≡ machine' → task ≡ task' → event ≡ event' → time ≡ time' → send ≡ send' → recv ≡ recv'
      → new ≡ old ++ (place_text request machine' ++ name_text task' event' ++ rest_text time' send' recv')
  line_pushed p n r em et ee ei es er =
      r ∙ ap (λ (xs : List ℕ). xs ++ rest_text time send recv) (n ∙ ap (λ (xs : List ℕ). xs ++ name_text task event) p)
      ∙ ap (λ (xs : List ℕ). xs ++ rest_text time send recv) (append_assoc old (place_text request machine) (name_text task event))
      ∙ append_assoc old (place_text request machine ++ name_text task event) (rest_text time send recv)
      ∙ (λ k. old ++ (place_text request (em k) ++ name_text (et k) (ee k) ++ rest_text (ei k) (es k) (er k)))
