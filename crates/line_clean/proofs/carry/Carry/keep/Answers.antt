use Rattle.std.proofs.Common.{◌++◌, arith, refl, true}
use Rattle.line_clean.specs.declared.carry.Carry.{Carry}
use Rattle.line_clean.specs.inner.Carrying.{IsCarry}
use Rattle.line_clean.proofs.CarryLemmas.{appended_by, carry_more, keep_long, keep_longer}
use Rattle.line_clean.proofs.carry.Carry.keep.Goals as goal

pub returns-then-self-clause-passes : goal.returns-then-self-clause-passes
returns-then-self-clause-passes c = keep_long c.args.self.now c.args.self.now c.args.piece.now c.requires.carry c.requires.one c.if-self.true refl

pub returns-then-saturating_add-gt-MAX_INPUT-clause-passes : goal.returns-then-saturating_add-gt-MAX_INPUT-clause-passes
returns-then-saturating_add-gt-MAX_INPUT-clause-passes c =
    let new : Carry = record { rest = c.new.result; is_long = true } in
    keep_longer c.args.self.now new c.args.piece.now c.requires.carry c.requires.one c.if-self.false refl
    (omega (arith, c.if-saturating_add-gt-MAX_INPUT.true, c.saturating_add.ensures, c.len.ensures, c.args.self.now.rest.ok.0))

pub returns-clause-carry : goal.returns-clause-carry
returns-clause-carry c =
    let new : Carry = record { rest = c.extend_from_slice.new.self; is_long = c.args.self.now.is_long } in
    let rest = c.args.self.now.rest.items in
    appended_by (IsCarry new) c.extend_from_slice.result new.rest.items (rest ++ c.args.piece.now) rest c.extend_from_slice.ensures.items (λ is. carry_more c.args.self.now new c.args.piece.now c.requires.carry c.requires.one is
    (omega (arith, c.if-saturating_add-gt-MAX_INPUT.false, c.saturating_add.ensures, c.len.ensures, c.args.self.now.rest.ok.0)))
