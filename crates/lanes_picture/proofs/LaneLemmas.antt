-- Lanes and loads, one after another.
use Rattle.std.proofs.Common.{◌≡◌, ℕ, suc, ◌<◌, ◌≤◌, ◌+◌, List, ◌∷◌, ◌++◌, length, drop, get_or, true, false, sym, ap, ◌∙◌, arith, append_assoc, append-nil}
use Rattle.std.specs.Prelude.{bytes_eq, if◌then◌else◌}
use Rattle.std.proofs.Math.Seq.{drop-cons}
use Rattle.std.proofs.lemmas.List.{drop_all}
use Rattle.page_rows.specs.declared.load_rows.LoadRow.{LoadRow}
use Rattle.page_rows.specs.declared.placed_bar.PlacedBar.{PlacedBar}
use Rattle.lanes_picture.specs.Lanes.{lane_of, load_text, loads_from, with_bar, with_bars}

-- what is left begins with this element
left : {X : Type 0} (xs : List X) (i : ℕ) (x : X) → i < length xs → x ≡ get_or xs i x → drop i xs ≡ x ∷ drop (i + 1) xs
left {X} xs i x lt is =
    let next : i + 1 ≡ suc i = omega arith in
    drop-cons xs i x lt ∙ ap (λ (y : X). y ∷ drop (suc i) xs) (sym is) ∙ ap (λ k. x ∷ drop k xs) (sym next)

pub bars_next : (number : ℕ) (seen seen1 whole : List (List ℕ)) (bars : List PlacedBar) (i : ℕ) (placed : PlacedBar) → i < length bars → placed ≡ get_or bars i placed → seen1 ≡ with_bar number seen placed → whole ≡ with_bars number seen (drop i bars) → whole ≡ with_bars number seen1 (drop (i + 1) bars)
bars_next number seen seen1 whole bars i placed lt is step told =
    told ∙ ap (with_bars number seen) (left bars i placed lt is) ∙ ap (λ (s : List (List ℕ)). with_bars number s (drop (i + 1) bars)) (sym step)

pub bars_done : (number : ℕ) (seen whole : List (List ℕ)) (bars : List PlacedBar) (i : ℕ) → length bars ≤ i → whole ≡ with_bars number seen (drop i bars) → seen ≡ whole
bars_done number seen whole bars i le told = sym (told ∙ ap (with_bars number seen) (drop_all i bars le))

pub loads_next : (bars : List PlacedBar) (loads : List LoadRow) (i : ℕ) (load : LoadRow) (b b1 whole : List ℕ) → i < length loads → load ≡ get_or loads i load → b1 ≡ b ++ load_text (i + 1) load bars → b ++ loads_from (i + 1) bars (drop i loads) ≡ whole
    → b1 ++ loads_from (i + 1 + 1) bars (drop (i + 1) loads) ≡ whole
loads_next bars loads i load b b1 whole lt is step told =
    ap (λ t. t ++ loads_from (i + 1 + 1) bars (drop (i + 1) loads)) step ∙ append_assoc b (load_text (i + 1) load bars) (loads_from (i + 1 + 1) bars (drop (i + 1) loads))
    ∙ ap (λ (ls : List LoadRow). b ++ loads_from (i + 1) bars ls) (sym (left loads i load lt is)) ∙ told

pub loads_done : (bars : List PlacedBar) (loads : List LoadRow) (i : ℕ) (b whole : List ℕ) → length loads ≤ i → b ++ loads_from (i + 1) bars (drop i loads) ≡ whole → b ≡ whole
loads_done bars loads i b whole le told = sym (append-nil b) ∙ ap (λ (ls : List LoadRow). b ++ loads_from (i + 1) bars ls) (sym (drop_all i loads le)) ∙ told

module _ (lanes : List (List ℕ)) (i : ℕ) (lane task : List ℕ) (lt : i < length lanes) (is : lane ≡ get_or lanes i lane) (all : ℕ) (told : all ≡ i + lane_of (drop i lanes) task) where
  from_here : all ≡ i + (if bytes_eq task lane then 0 else 1 + lane_of (drop (i + 1) lanes) task)
  from_here = told ∙ ap (λ (ls : List (List ℕ)). i + lane_of ls task) (left lanes i lane lt is)

  pub lane_next : bytes_eq task lane ≡ false → all ≡ (i + 1) + lane_of (drop (i + 1) lanes) task
  lane_next e =
      let here : all ≡ i + (1 + lane_of (drop (i + 1) lanes) task) = from_here ∙ ap (λ b. i + (if b then 0 else 1 + lane_of (drop (i + 1) lanes) task)) e in
      omega (arith, here)

  pub lane_here : bytes_eq task lane ≡ true → (count : ℕ) → count ≡ i → count ≡ all
  lane_here e count same =
      let here : all ≡ i + 0 = from_here ∙ ap (λ b. i + (if b then 0 else 1 + lane_of (drop (i + 1) lanes) task)) e in
      omega (arith, here, same)

pub lane_none : (lanes : List (List ℕ)) (i : ℕ) (task : List ℕ) (all count : ℕ) → length lanes ≤ i → all ≡ i + lane_of (drop i lanes) task → count ≡ i → count ≡ all
lane_none lanes i task all count le told same =
    let none : lane_of (drop i lanes) task ≡ 0 = ap (λ (ls : List (List ℕ)). lane_of ls task) (drop_all i lanes le) in
    omega (arith, told, none, same)
