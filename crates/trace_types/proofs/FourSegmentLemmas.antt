-- Facts on the four segments of a trace in which two tasks share their elements.
use Rattle.std.proofs.Common.{◌≡◌, ◌≢◌, ℕ, zero, suc, ◌+◌, ◌<◌, ◌≤◌, nat_eq, List, [], ◌∷◌, length, get_or, Some, refl, sym, ap, ◌∙◌, subst, arith}
use Rattle.std.proofs.lemmas.List.Elements.{All-cons, All-nil}
use Rattle.std.specs.List.{AllPairs, filter_map}
use Rattle.trace_types.proofs.PairLemmas.{AllPairs-nil, pairs_cons}
use Rattle.trace_types.specs.Firsts.{firsts_of}
use Rattle.trace_types.specs.NamedSegments.{number_of_name, number_of_task, number_of_element, named_start, named_end}
use Rattle.trace_types.specs.SegmentLists.{NamesDiffer, TasksStandTogether, JoinInTasks, ElementsCountUp}
use Rattle.trace_types.specs.declared.named_segment.NamedSegment.{NamedSegment}

two_all : (R : NamedSegment → NamedSegment → Type 0) (a b : NamedSegment) → R a b → AllPairs R (a ∷ b ∷ [])
two_all R a b p = pairs_cons R a (b ∷ []) (All-cons (R a) b [] p (All-nil (R a))) (pairs_cons R b [] (All-nil (R b)) (AllPairs-nil R))

four_all : (R : NamedSegment → NamedSegment → Type 0) (a b c d : NamedSegment) → R a b → R a c → R a d → R b c → R b d → R c d → AllPairs R (a ∷ b ∷ c ∷ d ∷ [])
four_all R a b c d ab ac ad bc bd cd =
    pairs_cons R a (b ∷ c ∷ d ∷ []) (All-cons (R a) b (c ∷ d ∷ []) ab (All-cons (R a) c (d ∷ []) ac (All-cons (R a) d [] ad (All-nil (R a)))))
    (pairs_cons R b (c ∷ d ∷ []) (All-cons (R b) c (d ∷ []) bc (All-cons (R b) d [] bd (All-nil (R b)))) (two_all R c d cd))

-- tasks that never fall stand together
together : (xs : List NamedSegment) → AllPairs (λ (s t : NamedSegment). s.task ≤ t.task) xs → TasksStandTogether number_of_task xs
together xs up i j k d l m h e = let p = up i j d l (omega arith) in let q = up j k d m h in omega arith

-- ---- two segments of a task and two of another, which handle the elements 0 and 1

module _ (a b c d : NamedSegment) (na : a.name ≡ 0) (nb : b.name ≡ 1) (nc : c.name ≡ 2) (nd : d.name ≡ 3) (ta : a.task ≡ 0) (tb : b.task ≡ 0) (tc : c.task ≡ 1) (td : d.task ≡ 1) where
  pub four_names : NamesDiffer number_of_name (a ∷ b ∷ c ∷ d ∷ [])
  four_names = four_all (λ s t. number_of_name s ≢ number_of_name t) a b c d (λ e. omega arith) (λ e. omega arith) (λ e. omega arith) (λ e. omega arith) (λ e. omega arith) (λ e. omega arith)

  pub four_together : TasksStandTogether number_of_task (a ∷ b ∷ c ∷ d ∷ [])
  four_together = together (a ∷ b ∷ c ∷ d ∷ []) (four_all (λ (s t : NamedSegment). s.task ≤ t.task) a b c d (omega arith) (omega arith) (omega arith) (omega arith) (omega arith) (omega arith))

  pub four_joined : a.end ≡ b.start → c.end ≡ d.start → JoinInTasks number_of_task named_start named_end (a ∷ b ∷ c ∷ d ∷ [])
  four_joined ab cd zero z h e = ab
  four_joined ab cd (suc zero) z h e = absurd (omega arith)
  four_joined ab cd (suc (suc zero)) z h e = cd
  four_joined ab cd (suc (suc (suc k))) z h e = absurd (omega arith)

  abbrev two : List ℕ
  two = 0 ∷ 1 ∷ []

  -- the numbers 0 and 1, and again both
  counted : (one other : ℕ) → one + other ≡ 1 → firsts_of nat_eq (0 ∷ 1 ∷ one ∷ other ∷ []) ≡ two
  counted zero zero h = absurd (omega arith)
  counted zero (suc zero) h = refl
  counted zero (suc (suc n)) h = absurd (omega arith)
  counted (suc zero) zero h = refl
  counted (suc zero) (suc n) h = absurd (omega arith)
  counted (suc (suc m)) n h = absurd (omega arith)

  pub four_elements : (one other : ℕ) → a.element ≡ Some 0 → b.element ≡ Some 1 → c.element ≡ Some one → d.element ≡ Some other → one + other ≡ 1 → ElementsCountUp number_of_element (a ∷ b ∷ c ∷ d ∷ [])
  four_elements one other ea eb ec ed h k l = subst (λ (f : List ℕ). k < length f → get_or f k 0 ≡ k) (sym (ap (λ (l : List ℕ). firsts_of nat_eq l) all ∙ counted one other h)) (each k) l
    where
      all : filter_map number_of_element (a ∷ b ∷ c ∷ d ∷ []) ≡ 0 ∷ 1 ∷ one ∷ other ∷ []
      all = rw (ea, eb, ec, ed) refl

      each : (k : ℕ) → k < length two → get_or two k 0 ≡ k
      each zero l = refl
      each (suc zero) l = refl
      each (suc (suc k)) l = absurd (omega arith)
