-- Whole rows of lists of traces, and what readings of them lack.
use Rattle.std.proofs.Common.{◌≡◌, ℕ, true, List, [], ◌∷◌, ◌++◌, refl, ◌∙◌}
use Rattle.std.proofs.lemmas.Bool.{and_from}
use Rattle.std.proofs.lemmas.List.Folds.{list_all-append}
use Rattle.hypothesis_index.specs.Places.{width_of}
use Rattle.pipeline_tests.specs.DayLaws.{RowsClearRefuted}
use Rattle.pipeline_tests.specs.Rows.{AreWholeRows, IsWholeRow}
use Rattle.trace_types.specs.declared.named_trace.NamedTrace.{NamedTrace}
use Rattle.word_rows.specs.declared.entries.Entry.{Entry}
use Rattle.word_rows.specs.declared.views.Reading.{Reading}
use Rattle.word_rows.specs.Accounts.{LackOnly}
use Rattle.word_rows.specs.Rows.{below}
use Rattle.trace_pass.specs.Rows.{AreRowsWithin, LackOnlyRefuted}

whole_both : (ts us : List NamedTrace) (rs ss : List (List Entry)) → AreWholeRows ts rs → AreWholeRows us ss → AreWholeRows (ts ++ us) (rs ++ ss)
whole_both [] us [] ss a b = b
whole_both [] us (r ∷ rs) ss a b = absurd a
whole_both (t ∷ ts) us [] ss a b = absurd a
whole_both (t ∷ ts) us (r ∷ rs) ss a b = (a.0, whole_both ts us rs ss a.1 b)

-- the rows of two lists of traces, one after the other
pub have_both : (names : ℕ) (ts us : List NamedTrace) (rs ss : List (List Entry)) → AreRowsWithin names ts rs → AreRowsWithin names us ss → AreRowsWithin names (ts ++ us) (rs ++ ss)
have_both names ts us rs ss a b = record {
  whole = whole_both ts us rs ss a.whole b.whole;
  within = list_all-append (below (width_of names)) rs ss ∙ and_from _ _ a.within b.within;
}

-- the row of one trace more
pub have_more : (names : ℕ) (ts : List NamedTrace) (t : NamedTrace) (rs : List (List Entry)) (r : List Entry) → AreRowsWithin names ts rs → IsWholeRow t r → below (width_of names) r ≡ true → AreRowsWithin names (ts ++ t ∷ []) (rs ++ r ∷ [])
have_more names ts t rs r a w b = have_both names ts (t ∷ []) rs (r ∷ []) a (record { whole = (w, tt); within = and_from _ _ b refl })

-- readings that lack only bits of the whole rows
pub lack_refuted : RowsClearRefuted → (readings : List Reading) (ts : List NamedTrace) (rs : List (List Entry)) → AreWholeRows ts rs → LackOnly readings rs → LackOnlyRefuted readings ts
lack_refuted law readings ts rs w only i b h e = (law ts rs w i b).0 (only i b h e)
