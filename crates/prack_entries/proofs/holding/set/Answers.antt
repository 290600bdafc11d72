-- `holding::set` meets its contract: the body in place of the old one, or text and body at their place. Assumes nothing.
use Prim.Native.Nat.{ℕ, ◌+◌, ◌-◌, ◌≤◌}
use Rattle.codec.proofs.CodecLaws.{Bytes, bytes_all}
use Rattle.prack_entries.specs.Places.{Sought}
use Rattle.std.specs.Prelude.{Ok}
use Rattle.prack_entries.proofs.SlotLaws.{Found, found, lacking}
use Rattle.prack_entries.proofs.HoldLaws.{renamed, by_held, by_free}
use native.Mathlib.Omega.{arith}
use Rattle.prack_entries.proofs.holding.set.Goals as goal
use Rattle.prack_entries.proofs.holding.set.Goals.{In-Err, In-Ok}

-- each of the numbers is a byte, in both arms: they share no record that says so
known_err : (c : In-Err) → Bytes c.args.bytes.now
known_err c = bytes_all c.args.bytes.now (λ n. (c.type_inv.bytes n).fits)

known_ok : (c : In-Ok) → Bytes c.args.bytes.now
known_ok c = bytes_all c.args.bytes.now (λ n. (c.type_inv.bytes n).fits)

abbrev S : (c : In-Ok) → Sought c.requires.1.1.0 (c.args.id.now) (c.args.bytes.now) (c.args.used) (Ok c.in-Ok.t)
S c = renamed c.requires.1.1.1 c.in-Ok.is

F : (c : In-Ok) → Found c.requires.1.1.0 (c.args.id.now) (c.args.bytes.now) (c.args.used) (c.in-Ok.t) (S c).list
F c = found (c.args.id.now) (c.args.bytes.now) (c.args.used) (c.in-Ok.t) (known_ok c) (S c)

-- where the body lies, and how long it is
abbrev from : In-Ok → ℕ
from c = (c.in-Ok.t).id.start + (c.in-Ok.t).id.length

abbrev old : In-Ok → ℕ
old c = (c.in-Ok.t).end - from c

inside : (c : In-Ok) → from c + old c ≤ c.args.used
inside c = omega (arith, (F c).text_inside, (F c).end_within)

pub end-from-requires : goal.end-from-requires
end-from-requires c = omega (arith, inside (goal.at.end-from-requires c).In-Ok, (S (goal.at.end-from-requires c).In-Ok).within)

pub replace-requires : goal.replace-requires
replace-requires c =
    let i = inside (goal.at.replace-requires c).In-Ok in
    let w = (S (goal.at.replace-requires c).In-Ok).within in
    (omega (arith, i, c.end-from.ensures), w)

pub insert-requires-clause-at_le_used : goal.insert-requires-clause-at_le_used
insert-requires-clause-at_le_used c =
    let w = renamed c.requires.1.1.1 c.in-Err.is in
    ((lacking (c.args.id.now) (c.args.bytes.now) (c.args.used) c.in-Err.at (known_err (goal.at.insert-requires-clause-at_le_used c).In-Err) w).1.1, w.within)

pub returns-in-Ok : goal.returns-in-Ok
returns-in-Ok c =
    let b = known_ok (goal.at.returns-in-Ok c).In-Ok in
    let k = by_held c.args.id.now c.args.bytes.now c.args.body.now c.args.used b c.in-Ok.is (rw c.end-from.ensures at c.replace.ensures.value, rw c.end-from.ensures at c.replace.ensures.bytes_after) in
    record { value = λ L w x e f. (k L w x e f).0; bytes_after = λ L w x e f. (k L w x e f).1 }

pub returns-in-Err : goal.returns-in-Err
returns-in-Err c =
    let k = by_free (c.args.id.now) (c.args.bytes.now) (c.args.body.now) (c.args.used) (known_err (goal.at.returns-in-Err c).In-Err) c.in-Err.is (c.insert.ensures.value, c.insert.ensures.bytes_after) in
    record { value = λ L w x e f. (k L w x e f).0; bytes_after = λ L w x e f. (k L w x e f).1 }
