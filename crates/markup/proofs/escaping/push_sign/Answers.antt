use Rattle.std.proofs.Common.{arith, codes}
use Rattle.std.specs.Prelude.{encode_utf8_all}
use Rattle.markup.proofs.EscapeLemmas.{short_text, text_sent}
use Rattle.markup.proofs.escaping.push_sign.Goals as goal

pub returns-in-38 : goal.returns-in-38
returns-in-38 c =
    rw c.in-38.is (text_sent c.extend_from_slice-in-38.result c.extend_from_slice-in-38.new.self.items c.args.bytes.now.items (encode_utf8_all (codes "&#38;")) (codes "&#38;") (short_text 51 56 (omega arith) (omega arith)) c.extend_from_slice-in-38.ensures.items)

pub returns-in-39 : goal.returns-in-39
returns-in-39 c =
    rw c.in-39.is (text_sent c.extend_from_slice-in-39.result c.extend_from_slice-in-39.new.self.items c.args.bytes.now.items (encode_utf8_all (codes "&#39;")) (codes "&#39;") (short_text 51 57 (omega arith) (omega arith)) c.extend_from_slice-in-39.ensures.items)

pub returns-in-60 : goal.returns-in-60
returns-in-60 c =
    rw c.in-60.is (text_sent c.extend_from_slice-in-60.result c.extend_from_slice-in-60.new.self.items c.args.bytes.now.items (encode_utf8_all (codes "&#60;")) (codes "&#60;") (short_text 54 48 (omega arith) (omega arith)) c.extend_from_slice-in-60.ensures.items)

pub returns-in-62 : goal.returns-in-62
returns-in-62 c =
    rw c.in-62.is (text_sent c.extend_from_slice-in-62.result c.extend_from_slice-in-62.new.self.items c.args.bytes.now.items (encode_utf8_all (codes "&#62;")) (codes "&#62;") (short_text 54 50 (omega arith) (omega arith)) c.extend_from_slice-in-62.ensures.items)
