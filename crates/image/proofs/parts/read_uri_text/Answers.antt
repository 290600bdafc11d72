-- `image::read_uri_text` meets its contract: the part that is read as a URI is the text that was read. Assumes nothing.
use mathlib.Core.Path.{sym, ◌∙◌}
use Rattle.image.proofs.PartLaws.{inside, uri_unread, uri_whole}
use Rattle.image.proofs.parts.read_uri_text.Goals as goal

pub text-requires : goal.text-requires
text-requires c = inside c.args.bytes.now c.args.at c.read_text.ensures c.requires c.in_ok-t.was

pub returns-in_default : goal.returns-in_default
returns-in_default c =
    let a = c.args in
    uri_unread a.bytes.now a.at c.read_text.ensures c.requires c.in_ok-t.was c.text.ensures (sym c.read_uri.ensures ∙ c.in_default.is)

pub returns : goal.returns
returns c =
    let a = c.args in
    uri_whole a.bytes.now a.at c.read_text.ensures c.requires c.in_ok-t.was c.text.ensures (sym c.read_uri.ensures ∙ c.in-Some.is)
