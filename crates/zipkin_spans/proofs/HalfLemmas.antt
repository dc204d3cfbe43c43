-- Halves of shared spans.
use Rattle.std.proofs.Common.{◌≡◌, ℕ, ◌+◌, ◌<◌, ◌&&◌, ◌||◌, List, take, length, get_or, Bool, true, false, cond, refl, sym, ap, ◌∙◌}
use Rattle.std.specs.Str.{bytes_eq}
use Rattle.std.proofs.lemmas.List.Folds.{list_any_more}
use Rattle.span_types.specs.declared.span.Span.{Span}
use Rattle.span_text.specs.declared.placed.Placed.{Placed}
use Rattle.zipkin_spans.specs.Halves.{is_server, is_client, full_id, is_half, has_half, as_child, span_apart}
use Rattle.zipkin_spans.specs.inner.Sides.{is_side}
use Rattle.zipkin_spans.specs.declared.halves.Side.{Side}

-- a span that is no server's half is a child
pub no_half : (all : List Placed) (s : Span) → false ≡ (is_server s.kind && has_half is_client all (full_id s.trace s.id)) → as_child all s ≡ span_apart all s
no_half all s e = rw (← e) refl

-- one more span
pub one_more : (side : Side) (spans : List Placed) (i : ℕ) (placed : Placed) (q : List ℕ) → i < length spans → placed ≡ get_or spans i placed
    → (has_half (is_side side) (take i spans) q || is_half (is_side side) q placed) ≡ has_half (is_side side) (take (i + 1) spans) q
one_more side spans i placed q within is =
    ap (λ p. has_half (is_side side) (take i spans) q || is_half (is_side side) q p) is ∙ sym (list_any_more (is_half (is_side side) q) spans i placed within)

or_cond : (x a : Bool) → cond x true a ≡ (a || x)
or_cond true true = refl
or_cond true false = refl
or_cond false true = refl
or_cond false false = refl

-- the id of a span of the side was added
pub id_added : (before now of_side : Bool) (full wanted q : List ℕ) → of_side ≡ true → full ≡ wanted → now ≡ cond (bytes_eq full q) true before → now ≡ (before || (of_side && bytes_eq wanted q))
id_added before now of_side full wanted q e same h = h ∙ or_cond (bytes_eq full q) before ∙ rw (e, same) refl

-- a span of the other side adds nothing
pub nothing_added : (before of_side same : Bool) → of_side ≡ false → before ≡ (before || (of_side && same))
nothing_added true of_side same e = refl
nothing_added false of_side same e = rw e refl
