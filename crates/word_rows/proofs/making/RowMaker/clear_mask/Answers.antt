use Rattle.std.proofs.Common.{◌≡◌, ℕ, ◌+◌, bit_or, true, ◌⊎◌, inl, inr, ◌++◌, List, subst, sym}
use Rattle.word_rows.specs.declared.entries.Entry.{Entry}
use Rattle.word_rows.specs.Rows.{below, AddsMask}
use Rattle.word_rows.specs.inner.Making.{IsMaking}
use Rattle.word_rows.proofs.MakerLemmas.{last, none_adds, same_makes, same_clears, same_reaches, new_makes, new_clears, new_reaches}
use Rattle.word_rows.proofs.making.RowMaker.clear_mask.Goals as goal
use Rattle.word_rows.proofs.making.RowMaker.clear_mask.Goals.{then-self-eq0-via-then-self-eq0, then-self-eq0-via-else-self-eq0+then-self-word}

-- the row so far, as the maker keeps it, has no later word
so_far : (word w m : ℕ) (finished old : List Entry) → finished ++ last w m ≡ old → below (word + 1) old ≡ true → below (word + 1) (finished ++ last w m) ≡ true
so_far word w m finished old is t = subst (λ (l : List Entry). below (word + 1) l ≡ true) (sym is) t

pub returns-then-mask-eq0-clause-clears : goal.returns-then-mask-eq0-clause-clears
returns-then-mask-eq0-clause-clears c = none_adds c.args.self.now c.args.word c.args.mask c.if-mask-eq0.true

pub invariant_of-self : goal.invariant_of-self
invariant_of-self c = let s = c.self.inside in
    let same : (s.mask ≡ 0) ⊎ (s.word ≡ c.args.word) = elim c.then-self-eq0.branch [
      | then-self-eq0-via-then-self-eq0 w ↦ inl w.if-self-eq0.true
      | then-self-eq0-via-else-self-eq0+then-self-word w ↦ inr w.if-self-word.true
    ] in
    same_makes c.args.mask c.if-mask-eq0.false s.finished.items s.word s.mask c.args.word c.self.invariant (so_far c.args.word s.word s.mask s.finished.items c.args.self.now c.self.view_is c.requires) same

pub returns-then-self-eq0-clause-clears : goal.returns-then-self-eq0-clause-clears
returns-then-self-eq0-clause-clears c = let s = c.self.inside in
    let same : (s.mask ≡ 0) ⊎ (s.word ≡ c.args.word) = elim c.then-self-eq0.branch [
      | then-self-eq0-via-then-self-eq0 w ↦ inl w.if-self-eq0.true
      | then-self-eq0-via-else-self-eq0+then-self-word w ↦ inr w.if-self-word.true
    ] in
    subst (λ (l : List Entry). AddsMask l c.args.word c.args.mask (s.finished.items ++ last c.args.word (bit_or s.mask c.args.mask))) c.self.view_is
    (same_clears c.args.mask c.if-mask-eq0.false s.finished.items s.word s.mask c.args.word c.self.invariant (so_far c.args.word s.word s.mask s.finished.items c.args.self.now c.self.view_is c.requires) same)

pub returns-then-self-eq0-clause-no_later : goal.returns-then-self-eq0-clause-no_later
returns-then-self-eq0-clause-no_later c = let s = c.self.inside in
    same_reaches c.args.mask c.if-mask-eq0.false s.finished.items s.word s.mask c.args.word c.self.invariant (so_far c.args.word s.word s.mask s.finished.items c.args.self.now c.self.view_is c.requires)

pub invariant_of-self-2 : goal.invariant_of-self-2
invariant_of-self-2 c = let s = c.self.inside in
    subst (λ (l : List Entry). IsMaking l c.args.word c.args.mask) (sym c.in_ok-push.ensures.items)
    (new_makes c.args.mask c.if-mask-eq0.false s.finished.items s.word s.mask c.args.word c.self.invariant (so_far c.args.word s.word s.mask s.finished.items c.args.self.now c.self.view_is c.requires) c.if-self-eq0.false c.if-self-word.false)

pub returns-clause-clears : goal.returns-clause-clears
returns-clause-clears c = let s = c.self.inside in
    subst (λ (l : List Entry). AddsMask l c.args.word c.args.mask (c.push.new.self.items ++ last c.args.word c.args.mask)) c.self.view_is
    (subst (λ (l : List Entry). AddsMask (s.finished.items ++ last s.word s.mask) c.args.word c.args.mask (l ++ last c.args.word c.args.mask)) (sym c.in_ok-push.ensures.items)
    (new_clears c.args.mask c.if-mask-eq0.false s.finished.items s.word s.mask c.args.word c.self.invariant (so_far c.args.word s.word s.mask s.finished.items c.args.self.now c.self.view_is c.requires) c.if-self-eq0.false c.if-self-word.false))

pub returns-clause-no_later : goal.returns-clause-no_later
returns-clause-no_later c = let s = c.self.inside in
    subst (λ (l : List Entry). below (c.args.word + 1) (l ++ last c.args.word c.args.mask) ≡ true) (sym c.in_ok-push.ensures.items)
    (new_reaches c.args.mask c.if-mask-eq0.false s.finished.items s.word s.mask c.args.word c.self.invariant (so_far c.args.word s.word s.mask s.finished.items c.args.self.now c.self.view_is c.requires) c.if-self-eq0.false c.if-self-word.false)
