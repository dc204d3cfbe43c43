-- In a request no task has an event twice.
use Rattle.std.proofs.Common.{◌≡◌, ℕ, List, [], ◌∷◌, ◌++◌, map, None, flat_map, refl, sym, ap, subst, ◌∙◌}
use Rattle.std.proofs.lemmas.List.{map-append}
use Rattle.trace_types.specs.Events.{named_events}
use Rattle.trace_types.specs.Repeats.{AreDistinct}
use Rattle.trace_types.specs.declared.event.Event.{Event}
use Rattle.context_names.specs.Tasks.{task_name}
use Rattle.thread_steps.specs.declared.step.Step.{Step}
use Rattle.span_lines.specs.Lines.{event_of, line_of, lines_from}
use Rattle.span_lines.specs.Mappings.{Mapping, context_of}
use Rattle.span_laws.proofs.ApartLemmas.{In, Pairs, Once, distinct, every_from_in, in_map, pairs_flat, pairs_map, pairs_weaker, present_some}
use Rattle.span_laws.proofs.StampLemmas.{Stamp, lines_are, stamped}

abbrev pub Key : Type 0
Key = List ℕ × List ℕ

abbrev pub key_of : Event → Key
key_of e = (e.task, e.event)

pub map_flat : {X Y Z : Type 0} (g : Y → Z) (f : X → List Y) (xs : List X) → map g (flat_map f xs) ≡ flat_map (λ x. map g (f x)) xs
map_flat g f [] = refl
map_flat g f (x ∷ xs) = map-append g (f x) (flat_map f xs) ∙ ap (λ l. map g (f x) ++ l) (map_flat g f xs)

pub map_map : {X Y Z : Type 0} (g : Y → Z) (f : X → Y) (xs : List X) → map g (map f xs) ≡ map (λ x. g (f x)) xs
map_map g f [] = refl
map_map g f (x ∷ xs) = ap (λ l. g (f x) ∷ l) (map_map g f xs)

module _ (m : Mapping) (steps : ℕ → List Step) where
  -- the keys of the events of a thread, by its first call
  abbrev pub keys_of : ℕ → List Key
  keys_of h = map (λ (z : Stamp). (task_name m.tasks (context_of m h) z.0, event_of m z.1)) (stamped None (steps h))

  abbrev pub lines_by : (request : List ℕ) → ℕ → List Event
  lines_by request h = lines_from m request (context_of m h) None (steps h)

  pub thread_keys : (request : List ℕ) (h : ℕ) → map key_of (lines_by request h) ≡ keys_of h
  thread_keys request h = ap (map key_of) (lines_are m request (context_of m h) None (steps h)) ∙ map_map key_of (λ (z : Stamp). line_of m request (task_name m.tasks (context_of m h) z.0) z.1) (stamped None (steps h))

  -- the threads of a request, by their first calls: what is known of their steps and names
  pub record AreTold (heads : List ℕ) : Type 0 where
    pub heads_once : Once heads
    pub apart : (h : ℕ) → In heads h → Pairs (λ a b. a.0 ≡ b.0 → event_of m a.1 ≡ event_of m b.1 → ⊥) (stamped None (steps h))
    pub tasks : (h g : ℕ) → In heads h → In heads g → (a b : Stamp) → In (stamped None (steps h)) a → In (stamped None (steps g)) b
        → task_name m.tasks (context_of m h) a.0 ≡ task_name m.tasks (context_of m g) b.0 → (h ≡ g) × (a.0 ≡ b.0)

  module _ (heads : List ℕ) (told : AreTold heads) where
    own_once : (h : ℕ) → In heads h → Once (keys_of h)
    own_once h i = pairs_map (λ a b. a ≡ b → ⊥) (λ (z : Stamp). (task_name m.tasks (context_of m h) z.0, event_of m z.1)) (stamped None (steps h))
        (pairs_weaker (λ a b. a.0 ≡ b.0 → event_of m a.1 ≡ event_of m b.1 → ⊥) (λ a b. (task_name m.tasks (context_of m h) a.0, event_of m a.1) ≡ (task_name m.tasks (context_of m h) b.0, event_of m b.1) → ⊥) (stamped None (steps h))
        (λ a b j k apart e. apart (told.tasks h h i i a b j k (ap (λ (p : Key). p.0) e)).1 (ap (λ (p : Key). p.1) e))
        (told.apart h i))

    across : (h g : ℕ) → In heads h → In heads g → (h ≡ g → ⊥) → (a b : Key) → In (keys_of h) a → In (keys_of g) b → a ≡ b → ⊥
    across h g i j apart a b k l e =
        let p = in_map (λ (z : Stamp). (task_name m.tasks (context_of m h) z.0, event_of m z.1)) (stamped None (steps h)) a k in
        let q = in_map (λ (z : Stamp). (task_name m.tasks (context_of m g) z.0, event_of m z.1)) (stamped None (steps g)) b l in
        apart (told.tasks h g i j p.0 q.0 p.1 q.1 (ap (λ (x : Key). x.0) (p.2 ∙ e ∙ sym q.2))).0

    keys_once : Once (flat_map keys_of heads)
    keys_once = pairs_flat (λ a b. a ≡ b → ⊥) keys_of heads
        (pairs_weaker (λ h g. h ≡ g → ⊥) (λ h g. (a b : Key) → In (keys_of h) a → In (keys_of g) b → a ≡ b → ⊥) heads across told.heads_once)
        (every_from_in (λ h. Once (keys_of h)) heads own_once)

    flat_keys : (request : List ℕ) (hs : List ℕ) → flat_map (λ h. map key_of (lines_by request h)) hs ≡ flat_map keys_of hs
    flat_keys request [] = refl
    flat_keys request (h ∷ hs) = (λ i. thread_keys request h i ++ flat_keys request hs i)

    pub named_distinct : (request : List ℕ) → AreDistinct (named_events (flat_map (lines_by request) heads))
    named_distinct request = distinct (named_events (flat_map (lines_by request) heads))
        (subst (λ (ks : List Key). Once ks) (sym (present_some key_of (flat_map (lines_by request) heads) ∙ map_flat key_of (lines_by request) heads ∙ flat_keys request heads)) keys_once)
