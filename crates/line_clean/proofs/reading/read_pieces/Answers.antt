use Rattle.std.proofs.Common.{◌++◌, ◌∙◌, [], arith, ap, false, refl, take}
use Rattle.std.proofs.lemmas.Result.{err_from_is_err_and}
use Rattle.mystery_io.specs.Counts.{counted_up}
use Rattle.mystery_io.proofs.ReadGivenLemmas.{given_more, given_end}
use Rattle.line_clean.proofs.StepLemmas.{carries_cut}
use Rattle.line_clean.proofs.reading.read_pieces.Goals as goal

pub pieces-init : goal.pieces-init
pieces-init g c = record {
  opened = c.requires.open;
  carry = c.requires.carry;
  opens = refl;
  counted = refl;
  tallied = refl;
  bytes = [];
  given = λ first name h. h;
  carries = λ start h. h;
}

pub returns-in_default-clause-counted : goal.returns-in_default-clause-counted
returns-in_default-clause-counted g c = c.pieces.invariant.counted

pub returns-in_default-clause-tallied : goal.returns-in_default-clause-tallied
returns-in_default-clause-tallied g c = c.in_default.ensures.tallied ∙ ap counted_up c.pieces.invariant.tallied

pub returns-in_default-clause-stops : goal.returns-in_default-clause-stops
returns-in_default-clause-stops g c = λ start first name is h.
    let at = c.pieces.invariant in
    record {
      bytes = at.bytes;
      at_end = false;
      given = c.in_default.ensures.stays ∙ at.given first name is;
      prefix = carries_cut start (g.S.Sink.written c.pieces.out) at.bytes c.pieces.carry (at.carries start h);
    }

pub returns-then-count-eq0-clause-read : goal.returns-then-count-eq0-clause-read
returns-then-count-eq0-clause-read g c = λ start first name is h.
    let at = c.pieces.invariant in
    record {
      bytes = at.bytes;
      given = given_end first name at.bytes (g.F.Files.given c.pieces.files) (g.F.Files.given c.read.new.self) (g.F.Files.is_open c.pieces.files) c.in-Ok.count c.read.new.into at.opened c.in-Ok.ensures.within c.in-Ok.ensures.gives (at.given first name is) (omega (arith, c.if-count-eq0.true));
      carries = at.carries start h;
    }

pub returns-in_err-clean_piece-clause-stops : goal.returns-in_err-clean_piece-clause-stops
returns-in_err-clean_piece-clause-stops g c =
    let at = c.pieces.invariant in
    let p = err_from_is_err_and c.from_residual.result c.from_residual.ensures.1 in
    rw p.1 (λ start first name is h. record {
      bytes = at.bytes ++ take c.in-Ok.count c.read.new.into;
      at_end = false;
      given = given_more first name at.bytes (g.F.Files.given c.pieces.files) (g.F.Files.given c.read.new.self) (g.F.Files.is_open c.pieces.files) c.in-Ok.count c.read.new.into at.opened c.in-Ok.ensures.within c.in-Ok.ensures.gives (at.given first name is) (omega (arith, c.if-count-eq0.false));
      prefix = c.in_err-clean_piece.ensures.prefix start at.bytes (at.carries start h);
    })

pub returns-in_err-clean_piece-clause-cause : goal.returns-in_err-clean_piece-clause-cause
returns-in_err-clean_piece-clause-cause g c =
    let p = err_from_is_err_and c.from_residual.result c.from_residual.ensures.1 in
    rw (p.1, p.2) (c.in_err-clean_piece.ensures.cause c.args.index)

pub pieces-preserved : goal.pieces-preserved
pieces-preserved g c =
    let at = c.pieces.invariant in
    record {
      opened = c.in-Ok.ensures.is_open ∙ at.opened;
      carry = c.in_ok-clean_piece.ensures.carry;
      opens = c.in-Ok.ensures.counted ∙ at.opens;
      counted = c.in_ok-clean_piece.ensures.counted ∙ at.counted;
      tallied = c.in-Ok.ensures.tallied ∙ at.tallied;
      bytes = at.bytes ++ take c.in-Ok.count c.read.new.into;
      given = λ first name is. given_more first name at.bytes (g.F.Files.given c.pieces.files) (g.F.Files.given c.read.new.self) (g.F.Files.is_open c.pieces.files) c.in-Ok.count c.read.new.into at.opened c.in-Ok.ensures.within c.in-Ok.ensures.gives (at.given first name is) (omega (arith, c.if-count-eq0.false));
      carries = λ start h. c.in_ok-clean_piece.ensures.carries start at.bytes (at.carries start h);
    }

pub returns-clause-stops : goal.returns-clause-stops
returns-clause-stops g c = λ start first name is h.
    let at = c.pieces.invariant in
    record {
      bytes = at.bytes;
      at_end = false;
      given = at.given first name is;
      prefix = carries_cut start (g.S.Sink.written c.pieces.out) at.bytes c.pieces.carry (at.carries start h);
    }
