use Rattle.std.proofs.Common.{◌++◌, ◌∙◌, [], arith, ap, false, refl, take}
use Rattle.std.proofs.lemmas.Result.{err_from_is_err_and}
use Rattle.mystery_io.specs.Counts.{counted_up}
use Rattle.mystery_io.proofs.ReadGivenLemmas.{given_more, given_end}
use Rattle.line_split.specs.declared.split_fault.SplitFault.TheVariants.{Memory}
use Rattle.line_split.specs.inner.Calls.{call_of_line}
use Rattle.line_split.proofs.CarryLemmas.{stops_here, stops_read}
use Rattle.line_split.proofs.reading.read_pieces.Goals as goal

pub pieces-init : goal.pieces-init
pieces-init g c = record {
  opened = c.requires.open;
  one = c.requires.one;
  fits = c.requires.fits;
  counted = refl;
  tallied = refl;
  bytes = [];
  given = λ first name h. h;
  carried = λ start before h. h;
}

pub returns-in_default-clause-counted : goal.returns-in_default-clause-counted
returns-in_default-clause-counted g c = c.pieces.invariant.counted

pub returns-in_default-clause-tallied : goal.returns-in_default-clause-tallied
returns-in_default-clause-tallied g c = c.in_default.ensures.tallied ∙ ap counted_up c.pieces.invariant.tallied

pub returns-in_default-clause-stops : goal.returns-in_default-clause-stops
returns-in_default-clause-stops g c = λ start before first name is h.
    let at = c.pieces.invariant in
    record {
      bytes = at.bytes;
      at_end = false;
      given = c.in_default.ensures.stays ∙ at.given first name is;
      stops = stops_read (call_of_line c.args.call) c.args.file at.bytes g.P.OutputFiles.written g.P.OutputFiles.faults start c.pieces.outputs before c.pieces.pending _ _ (at.carried start before h) at.one;
    }

pub returns-then-count-eq0-clause-read : goal.returns-then-count-eq0-clause-read
returns-then-count-eq0-clause-read g c = λ start before first name is h.
    let at = c.pieces.invariant in
    record {
      bytes = at.bytes;
      given = given_end first name at.bytes (g.F.Files.given c.pieces.files) (g.F.Files.given c.read.new.self) (g.F.Files.is_open c.pieces.files) c.in-Ok.count c.read.new.into at.opened c.in-Ok.ensures.within c.in-Ok.ensures.gives (at.given first name is) (omega (arith, c.if-count-eq0.true));
      carried = at.carried start before h;
    }

pub returns-in_err-take_piece-clause-stops : goal.returns-in_err-take_piece-clause-stops
returns-in_err-take_piece-clause-stops g c =
    let at = c.pieces.invariant in
    let p = err_from_is_err_and c.from_residual.result c.from_residual.ensures.1 in
    rw (p.1, p.2) (λ start before first name is h. record {
      bytes = at.bytes ++ take c.in-Ok.count c.read.new.into;
      at_end = false;
      given = given_more first name at.bytes (g.F.Files.given c.pieces.files) (g.F.Files.given c.read.new.self) (g.F.Files.is_open c.pieces.files) c.in-Ok.count c.read.new.into at.opened c.in-Ok.ensures.within c.in-Ok.ensures.gives (at.given first name is) (omega (arith, c.if-count-eq0.false));
      stops = c.in_err-take_piece.ensures.stops start before at.bytes (at.carried start before h);
    })

pub pieces-preserved : goal.pieces-preserved
pieces-preserved g c =
    let at = c.pieces.invariant in
    record {
      opened = c.in-Ok.ensures.is_open ∙ at.opened;
      one = c.in_ok-take_piece.ensures.one;
      fits = c.in_ok-take_piece.ensures.fits;
      counted = c.in_ok-take_piece.ensures.counted ∙ at.counted;
      tallied = c.in-Ok.ensures.tallied ∙ at.tallied;
      bytes = at.bytes ++ take c.in-Ok.count c.read.new.into;
      given = λ first name is. given_more first name at.bytes (g.F.Files.given c.pieces.files) (g.F.Files.given c.read.new.self) (g.F.Files.is_open c.pieces.files) c.in-Ok.count c.read.new.into at.opened c.in-Ok.ensures.within c.in-Ok.ensures.gives (at.given first name is) (omega (arith, c.if-count-eq0.false));
      carried = λ start before h. c.in_ok-take_piece.ensures.carried start before at.bytes (at.carried start before h);
    }

pub returns-clause-stops : goal.returns-clause-stops
returns-clause-stops g c = λ start before first name is h.
    let at = c.pieces.invariant in
    record {
      bytes = at.bytes;
      at_end = false;
      given = at.given first name is;
      stops = stops_here (call_of_line c.args.call) c.args.file at.bytes g.P.OutputFiles.written g.P.OutputFiles.faults start c.pieces.outputs before c.pieces.pending _ _ (at.carried start before h) false Memory tt;
    }
