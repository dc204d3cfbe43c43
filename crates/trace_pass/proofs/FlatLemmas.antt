-- The lines of a block of workers as one list.
use Rattle.std.proofs.Common.{◌≡◌, ℕ, suc, ◌+◌, ◌≤◌, List, [], ◌∷◌, ◌++◌, length, length-append, get_or, take, map, refl, sym, ap, ap₂, ◌∙◌, subst, append_assoc, arith}
use Rattle.std.proofs.Math.Seq.{get_or-append_seam}
use Rattle.std.proofs.lemmas.List.{map-append}
use Rattle.std.proofs.lemmas.List.Elements.{All-append}
use Rattle.std.proofs.lemmas.List.Kept.{AllPairs-cons}
use Rattle.std.specs.List.{All, AllPairs}
use Rattle.trace_types.specs.declared.named_trace.NamedTrace.{NamedTrace}
use Rattle.word_rows.specs.Words.{AreWords}
use Rattle.trace_types.proofs.ListingLemmas.{pairs_tail}
use Rattle.trace_types.proofs.ElementLemmas.{All-weaker}
use Rattle.trace_types.proofs.PairLemmas.{AllPairs-nil}
use Rattle.trace_rules.specs.Hypotheses.{IsAtLeastRefuted}
use Rattle.trace_types.specs.Parts.{by_number}
use Rattle.trace_pass.specs.Counts.{zeros}
use Rattle.trace_rules.specs.Halving.{share_at}
use Rattle.trace_pass.specs.States.{RecordingState}
use Rattle.trace_pass.specs.Watch.{HasWatched}
use Rattle.trace_rules.specs.WatchMarks.{watch_marks}
use Rattle.trace_rules.specs.declared.watch_line.WatchLine.{WatchLine}
use Rattle.trace_pass.specs.inner.Working.{AreLines, HasWatchedFrom}

abbrev mark : WatchLine → ℕ × ℕ
mark l = (l.worker, l.done)

abbrev number : WatchLine → ℕ
number l = l.refuted

abbrev IsWide : ℕ → List ℕ → Type 0
IsWide width b = (length b ≡ width) × AreWords b

abbrev Rises : WatchLine → WatchLine → Type 0
Rises k l = k.worker ≡ l.worker → k.refuted ≤ l.refuted

abbrev IsLeast : List (List NamedTrace) → WatchLine → Type 0
IsLeast shares l = IsAtLeastRefuted by_number (take l.done (share_at shares l.worker)) l.refuted

pairs_head : {X : Type 0} (R : X → X → Type 0) (x : X) (xs : List X) → AllPairs R (x ∷ xs) → All (R x) xs
pairs_head R x xs h k d l = h 0 (suc k) d (omega arith) (omega arith)

all_tail : {X : Type 0} (F : X → Type 0) (x : X) (xs : List X) → All F (x ∷ xs) → All F xs
all_tail F x xs h k d l = h (suc k) d (omega arith)

all_head : {X : Type 0} (F : X → Type 0) (x : X) (xs : List X) → All F (x ∷ xs) → F x
all_head F x xs h = h 0 x (omega arith)

all_none : {X : Type 0} (F : X → Type 0) → All F []
all_none F k d l = absurd (omega arith)

pairs_both : {X : Type 0} (R : X → X → Type 0) (F G : X → Type 0) → ((x y : X) → F x → G y → R x y) → (xs ys : List X) → All F xs → All G ys → AllPairs R xs → AllPairs R ys → AllPairs R (xs ++ ys)
pairs_both R F G cross [] ys f g a b = b
pairs_both R F G cross (x ∷ xs) ys f g a b =
    AllPairs-cons R x (xs ++ ys)
    (All-append (R x) xs ys (pairs_head R x xs a) (λ k d l. cross x (get_or ys k d) (all_head F x xs f) (g k d l)))
    (pairs_both R F G cross xs ys (all_tail F x xs f) g (pairs_tail R x xs a) b)

-- ---- facts on the lines of workers from one on

marks_one : (worker : ℕ) (ls : List WatchLine) → All (λ (l : WatchLine). l.worker ≡ worker) ls → map mark ls ≡ map (λ (n : ℕ). (worker, n)) (map (λ (l : WatchLine). l.done) ls)
marks_one worker [] h = refl
marks_one worker (l ∷ ls) h =
    ap₂ (λ (m : ℕ × ℕ) (ms : List (ℕ × ℕ)). m ∷ ms) (let e : l.worker ≡ worker = all_head (λ (l : WatchLine). l.worker ≡ worker) l ls h in ap (λ (w : ℕ). let m : ℕ × ℕ = (w, l.done) in m) e)
    (marks_one worker ls (all_tail (λ (l : WatchLine). l.worker ≡ worker) l ls h))

module _ (every width : ℕ) where
  flat_marks : (worker : ℕ) (shares : List (List NamedTrace)) (lines : List WatchLine) (blocks : List (List ℕ)) → AreLines every width worker shares lines blocks → map mark lines ≡ watch_marks every worker shares
  flat_marks worker [] lines blocks a = ap (map mark) a.0
  flat_marks worker (share ∷ shares) lines blocks a =
      ap (map mark) a.4 ∙ map-append mark a.0 a.1
      ∙ ap₂ (λ (x y : List (ℕ × ℕ)). x ++ y) (marks_one worker a.0 a.6.of_worker ∙ ap (map (λ (n : ℕ). (worker, n))) a.6.counts) (flat_marks (worker + 1) shares a.1 a.3 a.7)

  flat_wide : (worker : ℕ) (shares : List (List NamedTrace)) (lines : List WatchLine) (blocks : List (List ℕ)) → AreLines every width worker shares lines blocks → All (IsWide width) blocks
  flat_wide worker [] lines blocks a = subst (All (IsWide width)) (sym a.1) (all_none (IsWide width))
  flat_wide worker (share ∷ shares) lines blocks a = subst (All (IsWide width)) (sym a.5) (All-append (IsWide width) a.2 a.3 a.6.wide (flat_wide (worker + 1) shares a.1 a.3 a.7))

  flat_numbers : (worker : ℕ) (shares : List (List NamedTrace)) (lines : List WatchLine) (blocks : List (List ℕ)) → AreLines every width worker shares lines blocks → map number lines ≡ map zeros blocks
  flat_numbers worker [] lines blocks a = ap (map number) a.0 ∙ sym (ap (map zeros) a.1)
  flat_numbers worker (share ∷ shares) lines blocks a =
      ap (map number) a.4 ∙ map-append number a.0 a.1 ∙ ap₂ (λ (x y : List ℕ). x ++ y) a.6.numbers (flat_numbers (worker + 1) shares a.1 a.3 a.7)
      ∙ sym (map-append zeros a.2 a.3) ∙ sym (ap (map zeros) a.5)

  flat_from : (worker : ℕ) (shares : List (List NamedTrace)) (lines : List WatchLine) (blocks : List (List ℕ)) → AreLines every width worker shares lines blocks → All (λ (l : WatchLine). worker ≤ l.worker) lines
  flat_from worker [] lines blocks a = subst (All (λ (l : WatchLine). worker ≤ l.worker)) (sym a.0) (all_none (λ (l : WatchLine). worker ≤ l.worker))
  flat_from worker (share ∷ shares) lines blocks a = subst (All (λ (l : WatchLine). worker ≤ l.worker)) (sym a.4)
      (All-append (λ (l : WatchLine). worker ≤ l.worker) a.0 a.1
      (All-weaker (λ (l : WatchLine). l.worker ≡ worker) (λ (l : WatchLine). worker ≤ l.worker) (λ l e. omega arith) a.0 a.6.of_worker)
      (All-weaker (λ (l : WatchLine). worker + 1 ≤ l.worker) (λ (l : WatchLine). worker ≤ l.worker) (λ l e. omega arith) a.1 (flat_from (worker + 1) shares a.1 a.3 a.7)))

  flat_rising : (worker : ℕ) (shares : List (List NamedTrace)) (lines : List WatchLine) (blocks : List (List ℕ)) → AreLines every width worker shares lines blocks → AllPairs Rises lines
  flat_rising worker [] lines blocks a = subst (AllPairs Rises) (sym a.0) (AllPairs-nil Rises)
  flat_rising worker (share ∷ shares) lines blocks a = subst (AllPairs Rises) (sym a.4)
      (pairs_both Rises (λ (l : WatchLine). l.worker ≡ worker) (λ (l : WatchLine). worker + 1 ≤ l.worker) (λ k l e f g. absurd (omega arith)) a.0 a.1
      a.6.of_worker (flat_from (worker + 1) shares a.1 a.3 a.7) (λ i j d l m _. a.6.rising i j d l m) (flat_rising (worker + 1) shares a.1 a.3 a.7))

  flat_least : (front shares : List (List NamedTrace)) (worker : ℕ) (lines : List WatchLine) (blocks : List (List ℕ)) → worker ≡ length front → AreLines every width worker shares lines blocks → All (IsLeast (front ++ shares)) lines
  flat_least front [] worker lines blocks e a = subst (All (IsLeast (front ++ []))) (sym a.0) (all_none (IsLeast (front ++ [])))
  flat_least front (share ∷ shares) worker lines blocks e a =
      let all = front ++ share ∷ shares in
      let here : share_at all worker ≡ share = ap (share_at all) e ∙ get_or-append_seam front share shares [] in
      let later : All (IsLeast ((front ++ share ∷ []) ++ shares)) a.1 = flat_least (front ++ share ∷ []) shares (worker + 1) a.1 a.3 (let s = length-append front (share ∷ []) in omega arith) a.7 in
      subst (All (IsLeast all)) (sym a.4)
      (All-append (IsLeast all) a.0 a.1
      (λ k d l. let at : (get_or a.0 k d).worker ≡ worker = a.6.of_worker k d l in
      subst (λ (s : List NamedTrace). IsAtLeastRefuted by_number (take (get_or a.0 k d).done s) (get_or a.0 k d).refuted) (sym (ap (share_at all) at ∙ here)) (a.6.least k d l))
      (subst (λ (ss : List (List NamedTrace)). All (IsLeast ss) a.1) (append_assoc front (share ∷ []) shares) later))

  pub has_watched : (shares : List (List NamedTrace)) (old new : RecordingState) (lines : List WatchLine) → HasWatchedFrom every width 0 shares old new lines → HasWatched every width shares old new lines
  has_watched shares old new lines w = record {
    marks = flat_marks 0 shares lines w.blocks w.by_worker;
    blocks = w.blocks;
    readings = w.readings;
    wide = flat_wide 0 shares lines w.blocks w.by_worker;
    numbers = flat_numbers 0 shares lines w.blocks w.by_worker;
    least = flat_least [] shares 0 lines w.blocks refl w.by_worker;
    rising = flat_rising 0 shares lines w.blocks w.by_worker;
  }
