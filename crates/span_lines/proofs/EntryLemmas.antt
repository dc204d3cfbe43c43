-- The first entry of each trace.
use Rattle.std.proofs.Common.{◌≡◌, ◌∙◌, ℕ, ◌+◌, ◌<◌, List, [], ◌∷◌, ◌++◌, Bool, true, false, cond, Option, Some, None, Bor, get_or, length, map, take, ap, sym, refl, subst, true≢false}
use Rattle.std.specs.Prelude.{find, is_some}
use Rattle.std.specs.HashMap.{HashMap, UpdatesBy, get_by}
use Rattle.std.specs.Option.{option_copied, option_map}
use Rattle.std.specs.Str.{bytes_eq}
use Rattle.std.proofs.lemmas.List.{map_more}
use Rattle.std.proofs.lemmas.Map.Text.{hash_map_updates_str}
use Rattle.std.proofs.lemmas.Slice.Eq.{bytes_eq-Decides}
use Rattle.span_types.specs.declared.span.Span.{Span}
use Rattle.span_lines.specs.Requests.{is_first_entry, is_same}
use Rattle.span_lines.specs.inner.FirstEntries.{AreFirst, first_id, id_in}

-- the id is there and is this one
abbrev pub id_is : Option (List ℕ) → List ℕ → Bool
id_is None i = false
id_is (Some j) i = bytes_eq j i

pub first_told : (entries : List Span) (e : Span) (o : Option (List ℕ)) → o ≡ first_id entries e.trace → id_is o e.id ≡ is_first_entry entries e
first_told entries e o h = ap (λ (p : Option (List ℕ)). id_is p e.id) h ∙ by (find (λ (f : Span). bytes_eq f.trace e.trace) entries)
  where
    by : (q : Option Span) → id_is (option_map (λ (f : Span). f.id) q) e.id ≡ is_same q e
    by None = refl
    by (Some f) = refl

-- ---- one more entry

abbrev with_one : Option Span → Span → Bool → Option Span
with_one None e b = cond b (Some e) None
with_one (Some f) e b = Some f

find_push : (p : Span → Bool) (xs : List Span) (e : Span) → find p (xs ++ e ∷ []) ≡ with_one (find p xs) e (p e)
find_push p [] e = refl
find_push p (x ∷ xs) e = by (p x) (find_push p xs e)
  where
    by : (b : Bool) → find p (xs ++ e ∷ []) ≡ with_one (find p xs) e (p e) → cond b (Some x) (find p (xs ++ e ∷ [])) ≡ with_one (cond b (Some x) (find p xs)) e (p e)
    by true h = refl
    by false h = h

id_of : Option Span → Option (List ℕ)
id_of o = option_map (λ (f : Span). f.id) o

first_push : (xs : List Span) (e : Span) (q : List ℕ) → first_id (xs ++ e ∷ []) q ≡ option_map (λ (f : Span). f.id) (with_one (find (λ (f : Span). bytes_eq f.trace q) xs) e (bytes_eq e.trace q))
first_push xs e q = ap (λ (o : Option Span). option_map (λ (f : Span). f.id) o) (find_push (λ (f : Span). bytes_eq f.trace q) xs e)

-- an entry of a trace that has one changes nothing
pub first_kept : (xs : List Span) (e : Span) (q : List ℕ) → is_some (first_id xs e.trace) ≡ true → first_id xs q ≡ first_id (xs ++ e ∷ []) q
first_kept xs e q there = by (bytes_eq e.trace q) refl ∙ sym (first_push xs e q)
  where
    old : Option Span
    old = find (λ (f : Span). bytes_eq f.trace q) xs

    kept : (o : Option Span) (b : Bool) → is_some (option_map (λ (f : Span). f.id) o) ≡ true → option_map (λ (f : Span). f.id) o ≡ option_map (λ (f : Span). f.id) (with_one o e b)
    kept None b h = absurd (true≢false (sym h))
    kept (Some f) b h = refl

    same : (o : Option Span) → option_map (λ (f : Span). f.id) o ≡ option_map (λ (f : Span). f.id) (with_one o e false)
    same None = refl
    same (Some f) = refl

    by : (b : Bool) → bytes_eq e.trace q ≡ b → first_id xs q ≡ option_map (λ (f : Span). f.id) (with_one (find (λ (f : Span). bytes_eq f.trace q) xs) e (bytes_eq e.trace q))
    by true h = kept (find (λ (f : Span). bytes_eq f.trace q) xs) (bytes_eq e.trace q) (ap (λ (t : List ℕ). is_some (first_id xs t)) (sym ((bytes_eq-Decides e.trace q).0 h)) ∙ there)
    by false h = same (find (λ (f : Span). bytes_eq f.trace q) xs) ∙ ap (λ b. option_map (λ (f : Span). f.id) (with_one (find (λ (f : Span). bytes_eq f.trace q) xs) e b)) (sym h)

-- an entry of a new trace is its first
pub first_new : (xs : List Span) (e : Span) (q : List ℕ) → first_id xs e.trace ≡ None → cond (bytes_eq e.trace q) (Some e.id) (first_id xs q) ≡ first_id (xs ++ e ∷ []) q
first_new xs e q none = by (bytes_eq e.trace q) refl ∙ sym (first_push xs e q)
  where
    fresh : (o : Option Span) → option_map (λ (f : Span). f.id) o ≡ None → Some e.id ≡ option_map (λ (f : Span). f.id) (with_one o e true)
    fresh None h = refl
    fresh (Some f) h = cc

    same : (o : Option Span) → option_map (λ (f : Span). f.id) o ≡ option_map (λ (f : Span). f.id) (with_one o e false)
    same None = refl
    same (Some f) = refl

    by : (b : Bool) → bytes_eq e.trace q ≡ b → cond (bytes_eq e.trace q) (Some e.id) (first_id xs q) ≡ option_map (λ (f : Span). f.id) (with_one (find (λ (f : Span). bytes_eq f.trace q) xs) e (bytes_eq e.trace q))
    by true h =
        ap (λ b. cond b (Some e.id) (first_id xs q)) h
        ∙ fresh (find (λ (f : Span). bytes_eq f.trace q) xs) (ap (λ (t : List ℕ). first_id xs t) (sym ((bytes_eq-Decides e.trace q).0 h)) ∙ none)
        ∙ ap (λ b. option_map (λ (f : Span). f.id) (with_one (find (λ (f : Span). bytes_eq f.trace q) xs) e b)) (sym h)
    by false h =
        ap (λ b. cond b (Some e.id) (first_id xs q)) h ∙ same (find (λ (f : Span). bytes_eq f.trace q) xs)
        ∙ ap (λ b. option_map (λ (f : Span). f.id) (with_one (find (λ (f : Span). bytes_eq f.trace q) xs) e b)) (sym h)

-- ---- tables

module _ {S : Type 0} (old new : HashMap (Bor (List ℕ)) (Bor (List ℕ)) S) (xs : List Span) (e : Span) (trace : List ℕ) (own : trace ≡ e.trace) (are : AreFirst xs old) where
  copied_some : (o : Option (Bor (List ℕ))) (b : Bool) → is_some o ≡ b → is_some (option_copied o) ≡ b
  copied_some None b h = h
  copied_some (Some x) b h = h

  copied_none : (o : Option (Bor (List ℕ))) → is_some o ≡ false → option_copied o ≡ None
  copied_none None h = refl
  copied_none (Some x) h = absurd (true≢false h)

  at_trace : id_in old trace ≡ first_id xs e.trace
  at_trace = are trace ∙ ap (λ (t : List ℕ). first_id xs t) own

  pub kept_table : is_some (get_by (λ (k : Bor (List ℕ)). bytes_eq trace k.now) old) ≡ true → AreFirst (xs ++ e ∷ []) old
  kept_table there q = are q ∙ first_kept xs e q (ap (λ (o : Option (List ℕ)). is_some o) (sym at_trace) ∙ copied_some (get_by (λ (k : Bor (List ℕ)). bytes_eq trace k.now) old) true there)

  pub new_table : (id : Bor (List ℕ)) → id.now ≡ e.id → is_some (get_by (λ (k : Bor (List ℕ)). bytes_eq trace k.now) old) ≡ false
      → UpdatesBy (λ (x y : Bor (List ℕ)). bytes_eq x.now y.now) (λ (k : Bor (List ℕ)). bytes_eq trace k.now) old new (Some id) → AreFirst (xs ++ e ∷ []) new
  new_table id is none updates q =
      ap option_copied (hash_map_updates_str trace old new (Some id) updates q)
      ∙ by (bytes_eq trace q)
      ∙ ap (λ (t : List ℕ). cond (bytes_eq t q) (Some e.id) (first_id xs q)) own
      ∙ first_new xs e q (sym at_trace ∙ copied_none (get_by (λ (k : Bor (List ℕ)). bytes_eq trace k.now) old) none)
    where
      by : (b : Bool) → option_copied (cond b (Some id) (get_by (λ (k : Bor (List ℕ)). bytes_eq q k.now) old)) ≡ cond b (Some e.id) (first_id xs q)
      by true = ap (λ (i : List ℕ). Some i) is
      by false = are q

pub entries_more : {S : Type 0} (ids : HashMap (Bor (List ℕ)) (Bor (List ℕ)) S) (f : ℕ → Span) (numbers : List ℕ) (i : ℕ) (e : Span) → i < length numbers → e ≡ f (get_or numbers i 0) → AreFirst (map f (take i numbers) ++ e ∷ []) ids → AreFirst (map f (take (i + 1) numbers)) ids
entries_more ids f numbers i e lt is h = subst (λ (xs : List Span). AreFirst xs ids) (sym (map_more f numbers i 0 lt ∙ ap (λ (s : Span). map f (take i numbers) ++ s ∷ []) (sym is))) h
