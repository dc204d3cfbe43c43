use Rattle.std.proofs.Common.{rules, ◌≡◌, ◌<◌, ◌≤◌, ◌*◌, length}
use Rattle.std.specs.Prelude.{string_bytes, string_len}
use Rattle.pretty_cli.specs.Lines.{width_of}
use Rattle.pretty_cli.proofs.CutLemmas.{shorter, whole_line}
use Rattle.pretty_cli.proofs.cut.cut.Goals as goal

pub shorten-init : goal.shorten-init
shorten-init c = whole_line c.args.limit (string_bytes c.args.line.now)

pub shorten-preserved : goal.shorten-preserved
shorten-preserved c =
    let wide : c.args.limit < width_of (string_bytes c.shorten.line) = search rules in
    let bound : width_of (string_bytes c.shorten.line) ≤ 2 * length (string_bytes c.shorten.line) = search rules in
    let same : string_len c.shorten.line ≡ length (string_bytes c.shorten.line) = search rules in
    shorter c.args.limit (string_bytes c.args.line.now) (string_bytes c.shorten.line) (string_bytes c.pop.new.self) c.pop.result c.shorten.invariant wide bound c.pop.ensures.bytes (string_len c.shorten.line) same c.pop.ensures.none
