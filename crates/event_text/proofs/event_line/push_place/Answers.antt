use Rattle.std.proofs.Common.{◌++◌, codes}
use Rattle.event_text.specs.LineTexts.{place_text, quoted}
use Rattle.event_text.proofs.QuotingLemmas.{more}
use Rattle.event_text.proofs.event_line.push_place.Goals as goal

pub returns : goal.returns
unfolding place_text
returns c =
    let old = c.args.bytes.now.items in
    let one = c.extend_from_slice.new.self.items in
    let two = c.push_quoted.new.bytes.items in
    let three = c.extend_from_slice-2.new.self.items in
    let last = c.push_quoted-2.new.bytes.items in
    let request = quoted c.args.request.now in
    more old three last (codes "{\"request\":" ++ request ++ codes ",\"machine\":") (quoted c.args.machine.now)
    (more old two three (codes "{\"request\":" ++ request) (codes ",\"machine\":")
    (more old one two (codes "{\"request\":") request c.in_ok-extend_from_slice.ensures.items c.in_ok-push_quoted.ensures) c.in_ok-extend_from_slice-2.ensures.items) c.in_ok-push_quoted-2.ensures
