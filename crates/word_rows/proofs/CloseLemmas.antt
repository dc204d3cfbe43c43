-- What the view that has all shares knows.
use Rattle.std.proofs.Common.{◌≡◌, ℕ, zero, suc, ◌<◌, ◌≤◌, true, false, ◌&&◌, ◌||◌, ◌==◌, nat_lt, cond, List, [], ◌∷◌, length, take, sym, refl, ap, ◌∙◌, subst, ⊎_elim, arith, IsTrue}
use Rattle.std.proofs.lemmas.Bool.{false≢true, cases_eq, cases_Bool, cond-true, cond-false, or_cases, and_parts, eqb-true, ltb-true}
use Rattle.std.proofs.lemmas.Nat.Bits.{bit_at-lt}
use Rattle.std.specs.Int.{bit_at}
use mathlib.Core.Option.{some, some-injective}
use lib.ListN.{get_elem?}
use Rattle.word_rows.specs.declared.entries.Entry.{Entry}
use Rattle.word_rows.specs.declared.views.Reading.{Reading}
use Rattle.word_rows.specs.declared.views.View.{View}
use Rattle.word_rows.specs.Rows.{clears, rows_clear}
use Rattle.word_rows.specs.Words.{bit_of, full_words, IsMeet}
use Rattle.word_rows.specs.Accounts.{view_clears, views_clear, lacks, readings_below, total_shares, LackOnly}
use Rattle.word_rows.specs.Changes.{is_idle}
use Rattle.word_rows.specs.Sound.{IsSound}
use Rattle.word_rows.specs.Keeping.{WholeShareKnowsAll}
use Rattle.word_rows.proofs.ViewLemmas.{share_of, no_share, some_clears}
use Rattle.word_rows.proofs.ShareLemmas.{done_only}
use Rattle.word_rows.proofs.OpeningLemmas.{full_bit, full_length}

take_nil : (k : ℕ) → ◌≡◌ {A = List Entry} (take k []) []
take_nil zero = refl
take_nil (suc k) = refl

-- a view with no row clears nothing
nothing : (u : View) → u.done ≡ [] → u.row ≡ [] → (i b : ℕ) → view_clears u i b ≡ false
nothing u d r i b = ap (λ (l : List (List Entry)). rows_clear l i b || clears (take u.cleared u.row) i b) d ∙ ap (λ (l : List Entry). clears l i b) (ap (λ (l : List Entry). take u.cleared l) r ∙ take_nil u.cleared)

-- a reading lacks bits of words below the width alone
lacks_below : (n : ℕ) (rs : List Reading) (i b : ℕ) → readings_below n rs ≡ true → lacks rs i b ≡ true → i < n
lacks_below n [] i b t c = absurd (false≢true c)
lacks_below n (r ∷ rs) i b t c = let p = and_parts (nat_lt r.word n) (readings_below n rs) t in ⊎_elim
    (λ (o : ((r.word == i) && (bit_at r.value b == 0)) ≡ true). let q = and_parts (r.word == i) (bit_at r.value b == 0) o in subst (λ (k : ℕ). k < n) (eqb-true r.word i q.0) (ltb-true r.word n p.0))
    (λ (o : lacks rs i b ≡ true). lacks_below n rs i b p.1 o)
    (or_cases ((r.word == i) && (bit_at r.value b == 0)) (lacks rs i b) c)

pub one_bit : (x : ℕ) → x < 2 → (x ≡ 0 → ⊥) → x ≡ 1
one_bit x h n = omega arith

module _ (words : List ℕ) (all : ℕ) (views : List View) (id : ℕ) (v : View) (s : IsSound words all views) (at : get_elem? views id ≡ some v) (rests : IsTrue (is_idle v)) (whole : all ≤ v.shares) where
  most : total_shares views ≤ v.shares
  most = let q = s.shared_out in omega arith

  only_its : (i b : ℕ) → views_clear views i b ≡ true → rows_clear v.done i b ≡ true
  only_its i b t = let f = some_clears views i b t in ⊎_elim
      (λ (is : f.0 ≡ id). let same : v ≡ f.1 = some-injective v f.1 (sym at ∙ ap (λ (j : ℕ). get_elem? views j) (sym is) ∙ f.2) in sym (done_only v rests i b) ∙ ap (λ (u : View). view_clears u i b) same ∙ f.3)
      (λ (is : f.0 ≡ id → ⊥). let none = s.idle f.0 f.1 f.2 (no_share views id f.0 v f.1 at f.2 is most) in
      absurd (false≢true (sym (nothing f.1 none.0 none.1 i b) ∙ f.3)))
      (cases_eq f.0 id)

  bits' : (i b : ℕ) → i < length words → b < 64 → bit_of words i b ≡ cond (rows_clear v.done i b) 0 1
  bits' i b h l = ⊎_elim
      (λ (t : rows_clear v.done i b ≡ true). s.cleared id v at i b h l (done_only v rests i b ∙ t) ∙ sym (cond-true _ 0 1 t))
      (λ (f : rows_clear v.done i b ≡ false). one_bit _ (bit_at-lt _ b) (λ z. false≢true (sym f ∙ only_its i b (s.accounted i b h l z))) ∙ sym (cond-false _ 0 1 f))
      (cases_Bool (rows_clear v.done i b))

  met' : IsMeet (full_words (length words)) v.done words
  met' = record {
    width = sym (full_length (length words));
    bits = λ i b h l. let h' : i < length words = subst (λ (n : ℕ). i < n) (full_length (length words)) h in
        bits' i b h' l ∙ ap (λ (x : ℕ). cond (rows_clear v.done i b) 0 x) (sym (full_bit (length words) i b h' l));
  }

  its_shares : v.shares ≡ all
  its_shares = let l = share_of views id v at in let q = s.shared_out in omega arith

  its_readings : LackOnly v.readings v.done
  its_readings i b l t = only_its i b (s.found id v at i b (lacks_below (length words) v.readings i b (s.named id v at).readings t) l t)

pub whole_share_knows_all : WholeShareKnowsAll
whole_share_knows_all words all views id v s at rests whole = record {
  shares = its_shares words all views id v s at rests whole;
  met = met' words all views id v s at rests whole;
  readings = its_readings words all views id v s at rests whole;
}
