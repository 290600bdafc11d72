-- `record_gaps::write_head` meets its contract: the target put behind the state byte, and the marks before it. Assumes nothing.
use native.Mathlib.Omega.{arith}
use mathlib.Core.Path.{ap, ◌∙◌}
use mathlib.Core.Bool.{◌||◌}
use mathlib.Core.List.{List, [], ◌∷◌}
use Prim.Native.Nat.{ℕ}
use Rattle.edit.specs.Edit.{put_at}
use Rattle.codec.specs.Codec.{two, text}
use Rattle.record.specs.Record.{state_byte_number}
use Rattle.record.specs.NumbersForm.{meaning}
use Rattle.image_edit.specs.Maps.{map_from}
use Rattle.edit.proofs.EditLaws.{put_before}
use Rattle.record_gaps.proofs.head.write_head.Goals as goal

pub returns : goal.returns
returns c =
    let a = c.args in
    let r = a.p.record in
    let x = meaning a.numbers in
    let state = state_byte_number (record { state = x.state; we_are_uac = r.we_are_uac; secure = r.uris.local_secure || r.uris.remote_secure }) in
    c.write_marks.ensures
    ∙ ap (λ (s : List ℕ). put_at a.p.at (two.write (map_from x r.ids a.count)) (put_at r.state (state ∷ []) s)) c.write_text.ensures.out_after
    ∙ ap (put_at a.p.at (two.write (map_from x r.ids a.count))) (put_before r.state (state ∷ []) (text.write a.target.now) a.bytes.now (omega (arith, c.requires)))
