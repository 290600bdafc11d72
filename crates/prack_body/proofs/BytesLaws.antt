-- Bytes that a piece was put over, and the bytes of one entry more. Assumes nothing.
use Prim.Native.Nat.{ℕ, ◌+◌, ◌≤◌}
use mathlib.Core.Path.{◌≡◌, sym, ap, ◌∙◌}
use mathlib.Core.List.{List, [], ◌∷◌, ◌++◌, append_assoc, append-nil}
use lib.ListN.{length, take, drop, length-append}
use lib.Seq.{length-take-le, take_at}
use Rattle.edit.specs.Edit.{put_at}
use Rattle.codec.specs.Codec.{write_all}
use Rattle.prack_body.specs.Lists.{Pending}
use Rattle.prack_body.specs.Layout.{pending_form}

-- the front of bytes that a piece was put over, up to the piece's end
pub take_put : (to : ℕ) (e s : List ℕ) → to ≤ length s → take (to + length e) (put_at to e s) ≡ take to s ++ e
take_put to e s h =
    let z : length (take to s ++ e) ≡ to + length e = length-append (take to s) e ∙ ap (λ (k : ℕ). k + length e) (length-take-le to s h) in
    ap (take (to + length e)) (sym (append_assoc (take to s) e (drop (to + length e) s))) ∙ take_at (take to s ++ e) (drop (to + length e) s) (to + length e) z

-- one entry more
pub more_bytes : (ps : List Pending) (p : Pending) → write_all pending_form (ps ++ (p ∷ [])) ≡ write_all pending_form ps ++ pending_form.write p
unfolding write_all
more_bytes [] p = append-nil (pending_form.write p)
more_bytes (q ∷ ps) p = rw (more_bytes ps p, append_assoc (pending_form.write q) (write_all pending_form ps) (pending_form.write p))
