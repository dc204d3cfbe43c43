-- Load keeps the state sound.
use Rattle.std.proofs.Common.{◌≡◌, ℕ, ◌<◌, true, ◌==◌, List, [], ◌∷◌, ◌++◌, length, set, slice_index, sym, refl, ap, ◌∙◌, ⊎_elim, arith}
use Rattle.std.proofs.lemmas.Bool.{eqb-true, lt-ltb, or_cases, and_from, and_parts}
use Rattle.std.proofs.lemmas.List.Folds.{list_all-append}
use Rattle.std.specs.Int.{bit_at}
use mathlib.Core.Option.{some}
use lib.ListN.{get_elem?}
use Rattle.word_rows.specs.declared.views.Reading.{Reading}
use Rattle.word_rows.specs.declared.views.View.{View}
use Rattle.word_rows.specs.Words.{bit_of}
use Rattle.word_rows.specs.Accounts.{Each, AreZero, views_clear, lacks, readings_below}
use Rattle.word_rows.specs.Changes.{with_reading}
use Rattle.word_rows.specs.Sound.{IsSound, IsBelow}
use Rattle.word_rows.proofs.ViewLemmas.{each_set, total_set, set_clears, or_false, lacks_append}

pub readings_below-append : (n : ℕ) (xs ys : List Reading) → readings_below n xs ≡ true → readings_below n ys ≡ true → readings_below n (xs ++ ys) ≡ true
readings_below-append n xs ys h t = list_all-append _ xs ys ∙ and_from _ _ h t

module _ (words : List ℕ) (all : ℕ) (views : List View) (s : IsSound words all views) (id : ℕ) (v : View) (at : get_elem? views id ≡ some v) (word : ℕ) (inside : word < length words) where
  abbrev value : ℕ
  value = slice_index words word

  abbrev last : Reading
  last = record { word = word; value = value }

  abbrev w : View
  w = with_reading v word value

  abbrev vs : List View
  vs = set views id w

  mine : AreZero words (lacks w.readings)
  mine i b h l t = ⊎_elim
      (λ (o : lacks v.readings i b ≡ true). s.kept id v at i b h l o)
      (λ (o : lacks (last ∷ []) i b ≡ true). let p = and_parts (word == i) (bit_at value b == 0) (sym (or_false _) ∙ o) in
      ap (λ (k : ℕ). bit_of words k b) (sym (eqb-true word i p.0)) ∙ eqb-true (bit_at value b) 0 p.1)
      (or_cases _ _ (sym (lacks_append v.readings (last ∷ []) i b) ∙ t))

  kept' : Each (λ u. AreZero words (lacks u.readings)) vs
  kept' = each_set _ views id w mine s.kept

  all_clear : (i b : ℕ) → views_clear views i b ≡ true → views_clear vs i b ≡ true
  all_clear i b t = set_clears views id v w i b at (λ c. c) t

  named' : IsBelow (length words) v → IsBelow (length words) w
  named' n = record { done = n.done; row = n.row; seen = n.seen; readings = readings_below-append (length words) v.readings (last ∷ []) n.readings (and_from _ _ (lt-ltb word (length words) inside) refl) }

  pub load_keeps : IsSound words all vs
  load_keeps = record {
    accounted = λ i b h l z. all_clear i b (s.accounted i b h l z);
    cleared = each_set _ views id w (s.cleared id v at) s.cleared;
    shared_out = let t = total_set views id v w at in let q = s.shared_out in omega arith;
    idle = each_set _ views id w (s.idle id v at) s.idle;
    kept = kept';
    found = λ j u o i b h l t. all_clear i b (s.accounted i b h l (kept' j u o i b h l t));
    seen = each_set _ views id w (s.seen id v at) s.seen;
    progress = each_set _ views id w (s.progress id v at) s.progress;
    named = each_set (IsBelow (length words)) views id w (named' (s.named id v at)) s.named;
  }
