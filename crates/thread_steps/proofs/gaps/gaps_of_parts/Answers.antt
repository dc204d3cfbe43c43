use Rattle.std.proofs.Common.{◌≡◌, ◌∙◌, [], List, None, Option, Vec, Global, ℕ, ap, arith, length, replicate, sym}
use Rattle.std.proofs.lemmas.Result.{IfOk-weaker}
use Rattle.thread_steps.specs.inner.Gaps.{gaps_over}
use Rattle.thread_steps.proofs.GapLemmas.{none_over}
use Rattle.thread_steps.proofs.gaps.gaps_of_parts.Goals as goal

pub returns : goal.returns
returns c =
    let groups = c.in_ok-groups.groups.items in
    let none = sym c.has_group.ensures ∙ c.if-has_group.false in
    let size : c.len.result ≡ length c.deref.result.now = omega (arith, c.len.ensures, c.in_ok-groups.groups.ok, ap length c.deref.ensures.value) in
    IfOk-weaker c.no_gaps.result _ _ (λ (v : Vec (Option ℕ) Global) (h : v.items ≡ replicate c.len.result None).
    none_over [] c.deref.result.now v.items none (h ∙ ap (λ n. replicate n None) size)
    ∙ ap (λ (gs : List (Option ℕ)). gaps_over [] gs) (c.deref.ensures.value ∙ c.in_ok-groups.ensures)) c.no_gaps.ensures
