-- `image::read_record` meets its contract: the sections one after another, then the secure bit and the map. Assumes nothing.
use Prim.Native.Nat.{◌+◌, ◌≤◌}
use native.Mathlib.Omega.{arith}
use mathlib.Core.Path.{◌≡◌, sym, ◌∙◌}
use mathlib.Core.Bool.{true}
use lib.ListN.{length}
use Rattle.image.proofs.AnswerLaws.{IdsGot, ids_got, StateGot, state_got, UrisGot, uris_got, TailGot, tail_got}
use Rattle.image.proofs.MapBits.{is_map}
use Rattle.image.proofs.RecordLaws.{differs, agrees, record_short, no_map, no_state, no_uris, wrong_bit, no_tail, record_whole}
use Rattle.image.proofs.read_record.Goals as goal
use Rattle.image.proofs.read_record.Goals.{In_ok-ids, In_ok-tail, In_ok-uris, In_ok-state}

-- the identifiers
ids : (c : In_ok-ids) → IdsGot c.read_two-map.result c.args.bytes.now (c.args.at + 2) c.in_ok-ids.ids
ids c = ids_got c.read_two-map.result c.args.bytes.now (c.args.at + 2) (omega arith) (sym c.read_ids.ensures ∙ c.in_ok-ids.was)

-- the state byte
state : (c : In_ok-state) → let e = c.in_ok-ids.ids.end in e ≤ length c.args.bytes.now → StateGot c.args.bytes.now e c.in_ok-state.state c.in_ok-state.we_are_uac c.in_ok-state.secure
state c h = state_got c.args.bytes.now c.in_ok-ids.ids.end h (sym c.read_state.ensures ∙ c.in_ok-state.was)

-- the URIs
uris : (c : In_ok-uris) → let e = c.in_ok-ids.ids.end + 1 in e ≤ length c.args.bytes.now → UrisGot c.args.bytes.now e c.in_ok-uris.uris
uris c h = uris_got c.args.bytes.now (c.in_ok-ids.ids.end + 1) h (sym c.read_uris.ensures ∙ c.in_ok-uris.was)

-- the numbers and the routes
tail : (c : In_ok-tail) → let e = c.in_ok-uris.uris.end in e ≤ length c.args.bytes.now → TailGot c.read_two-map.result c.args.bytes.now e c.in_ok-tail.tail
tail c h = tail_got c.read_two-map.result c.args.bytes.now c.in_ok-uris.uris.end h (sym c.read_tail.ensures ∙ c.in_ok-tail.was)

pub returns-then-bytes-at-lt2 : goal.returns-then-bytes-at-lt2
returns-then-bytes-at-lt2 c = let a = c.args in record_short a.bytes.now a.at c.if-bytes-at-lt2.true

pub returns-then-not-is_map : goal.returns-then-not-is_map
returns-then-not-is_map c = let a = c.args in no_map a.bytes.now a.at c.read_two-map.ensures.bytes_value (cc)

pub read_state-requires : goal.read_state-requires
read_state-requires c = (ids c).got.within

pub returns-in_err-state : goal.returns-in_err-state
returns-in_err-state c =
    let a = c.args in
    c.from_residual-in_err-state.ensures ∙ no_state a.bytes.now a.at c.read_two-map.ensures.bytes_value (ids (goal.at.returns-in_err-state c).In_ok-ids) c.read_state.ensures c.in_err-state.was

pub returns-in_err-uris : goal.returns-in_err-uris
returns-in_err-uris c =
    let a = c.args in
    let p = goal.at.returns-in_err-uris c in
    let x = ids p.In_ok-ids in
    c.from_residual-in_err-uris.ensures ∙ no_uris a.bytes.now a.at c.read_two-map.ensures.bytes_value x (state p.In_ok-state x.got.within) c.read_uris.ensures c.in_err-uris.was

pub returns-then-secure-either : goal.returns-then-secure-either
returns-then-secure-either c =
    let a = c.args in
    let p = goal.at.returns-then-secure-either c in
    let x = ids p.In_ok-ids in
    let y = state p.In_ok-state x.got.within in
    wrong_bit a.bytes.now a.at c.read_two-map.ensures.bytes_value x y (uris p.In_ok-uris y.got.within) (differs c.in_ok-state.secure c.either.ensures c.if-secure-either.true)

pub read_tail-requires : goal.read_tail-requires
read_tail-requires c =
    let p = goal.at.read_tail-requires c in
    (uris p.In_ok-uris (state p.In_ok-state (ids p.In_ok-ids).got.within).got.within).got.within

pub returns-in_err-tail : goal.returns-in_err-tail
returns-in_err-tail c =
    let a = c.args in
    let p = goal.at.returns-in_err-tail c in
    let x = ids p.In_ok-ids in
    let y = state p.In_ok-state x.got.within in
    c.from_residual-in_err-tail.ensures ∙ no_tail a.bytes.now a.at c.read_two-map.ensures.bytes_value x y (uris p.In_ok-uris y.got.within) c.read_tail.ensures c.in_err-tail.was

pub returns : goal.returns
returns c =
    let a = c.args in
    let m : is_map c.read_two-map.result ≡ true = cc in
    let p = goal.at.returns c in
    let x = ids p.In_ok-ids in
    let y = state p.In_ok-state x.got.within in
    let z = uris p.In_ok-uris y.got.within in
    record_whole a.bytes.now a.at c.read_two-map.ensures.bytes_value x y z m (agrees c.in_ok-state.secure c.either.ensures c.if-secure-either.false) (tail p.In_ok-tail z.got.within) c.placed.ensures
