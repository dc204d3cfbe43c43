-- A book gets more names.
use Rattle.std.proofs.Common.{◌≡◌, ℕ, zero, suc, ◌+◌, ◌<◌, ◌≤◌, inl, inr, List, [], ◌∷◌, length, map, get_or, Option, Some, None, is_some, unwrap_or, All, refl, sym, ap, ◌∙◌, subst, arith, length-append}
use Rattle.std.proofs.lemmas.Bool.{cases_eq, false≢true}
use Rattle.std.proofs.lemmas.List.{get_or-map, length-map, length-replicate}
use Rattle.std.proofs.lemmas.List.Elements.{All-weaker}
use Rattle.std.specs.Option.{option_map}
use Rattle.hypothesis_index.specs.Places.{pairs_below, width_of}
use Rattle.refute_tests.specs.Clearing.{HaveNamesBelow}
use Rattle.trace_types.specs.declared.named_segment.NamedSegment.{NamedSegment}
use Rattle.word_rows.specs.Words.{widened_words as widened}
use Rattle.day_partitions.specs.Books.{KeptDay, BookState, IsBook, with_names}
use Rattle.day_partitions.specs.inner.Trees.{TreeState, leaf_words, widened_tree}
use Rattle.pipeline_tests.specs.DayLaws.{WidenedLacks}
use Rattle.refute_tests.specs.Survivors.{LackRefuted}
use Rattle.day_partitions.specs.inner.Slots.{shown, shown_days, HasLeaf, AreInSlots}
use Rattle.day_partitions.specs.declared.day.Day.{Day}
use Rattle.day_partitions.proofs.SurvivorLemmas.{some_leaf}
use Rattle.day_partitions.proofs.TreeLemmas.{count_rows}

abbrev pub PairsFollow : Type 0
PairsFollow = (high higher : ℕ) → high < higher → (pairs_below high + high) ≤ pairs_below higher

pub width_grows : PairsFollow → (n m : ℕ) → n ≤ m → width_of n ≤ width_of m
width_grows follow n m l = elim (cases_eq n m) [
  | inl e ↦ subst (λ k. width_of n ≤ width_of k) e (omega arith)
  | inr e ↦ let h = follow n m (omega arith) in omega arith
]

get_mapped : (f : List ℕ → List ℕ) (vs : List (Option (List ℕ))) (i : ℕ) → get_or (map (option_map f) vs) i None ≡ option_map f (get_or vs i None)
get_mapped f [] i = refl
get_mapped f (v ∷ vs) zero = refl
get_mapped f (v ∷ vs) (suc i) = get_mapped f vs i

some_back : (f : List ℕ → List ℕ) (o : Option (List ℕ)) (x : List ℕ) → option_map f o ≡ Some x → (w : List ℕ) × (o ≡ Some w)
some_back f None x e = absurd (false≢true (ap is_some e))
some_back f (Some w) x e = (w, refl)

pub slots_widened : WidenedLacks → (names w m : ℕ) (t u : TreeState) (ds : List Day) → names ≤ 512 → t.width ≡ width_of names → t.width + m ≡ w → All (λ (k : KeptDay). All (HaveNamesBelow names) k.traces) (shown_days ds) → u ≡ widened_tree t w m → AreInSlots t ds → AreInSlots u ds
slots_widened wider names w m t u ds most wide sum named is s =
    let f : List ℕ → List ℕ = λ ws. widened ws m in
    let v = widened_tree t w m in
    let words : (d : Day) → HasLeaf t d → get_or v.leaves d.slot None ≡ Some (f (leaf_words t.leaves d.slot)) = λ d h. get_mapped f t.leaves d.slot ∙ ap (option_map f) (some_leaf _ h.there) in
    let leaf : (d : Day) → HasLeaf t d → All (HaveNamesBelow names) d.traces.items → HasLeaf v d = λ d h n.
    let at : leaf_words v.leaves d.slot ≡ f (leaf_words t.leaves d.slot) = ap (λ o. unwrap_or o []) (words d h) in
    record {
      slot = h.slot;
      there = ap is_some (words d h);
      width = ap length at ∙ length-append (leaf_words t.leaves d.slot) _ ∙ (let z = length-replicate {A = ℕ} m 18446744073709551615 in let y = h.width in omega arith);
      bits = subst (λ ws. LackRefuted d.traces.items ws) (sym at) (wider d.traces.items (leaf_words t.leaves d.slot) names m most n (let y = h.width in omega arith) h.bits);
    } in
    let done : AreInSlots v ds = record {
      leaves = length-map t.leaves (option_map f) ∙ s.leaves;
      kept = λ k d l. leaf (get_or ds k d) (s.kept k d l) (subst (λ (x : KeptDay). All (HaveNamesBelow names) x.traces) (get_or-map shown ds k d (shown d) l) (named k (shown d) (omega (arith, length-map ds shown))));
      apart = s.apart;
      owned = λ i ws e. let o = some_back f (get_or t.leaves i None) ws (sym (get_mapped f t.leaves i) ∙ e) in s.owned i o.0 o.1;
      counted = count_rows f t.leaves ∙ s.counted;
    } in
    subst (λ x. AreInSlots x ds) (sym is) done

pub book_widened : (b : BookState) (names : ℕ) → b.names ≤ names → names ≤ 512 → IsBook b → IsBook (with_names b names)
book_widened b names more most k =
    record {
      names = most;
      rising = k.rising;
      some = k.some;
      dated = k.dated;
      named = All-weaker (λ (x : KeptDay). All (HaveNamesBelow b.names) x.traces) (λ (x : KeptDay). All (HaveNamesBelow names) x.traces)
          (λ x h. All-weaker (HaveNamesBelow b.names) (HaveNamesBelow names) (λ t g. All-weaker (λ (s : NamedSegment). s.name < b.names) (λ (s : NamedSegment). s.name < names) (λ s l. omega arith) t.segments g) x.traces h) b.days k.named;
      counted = k.counted;
      room = k.room;
    }
