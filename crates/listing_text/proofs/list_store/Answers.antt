-- `listing_text::list_store` meets its contract: measured before a byte is written. Assumes nothing.
use native.Mathlib.Omega.{arith}
use mathlib.Core.Path.{◌≡◌, sym, ap, ◌∙◌}
use mathlib.Core.List.{List}
use Prim.Native.Nat.{ℕ, ◌+◌, ◌≤◌}
use lib.ListN.{length, take, length-append}
use lib.Seq.{take_at}
use Rattle.listing_text.proofs.StoreLaws.{unread, Decoded, decoded, broken_none, whole_given, listing_parts, too_long, bad_store, no_room, listed_all}
use Rattle.listing_lines.specs.Steps.{listed_lines}
use Rattle.listing_lines.specs.Listing.{total_line, listing_of}
use Rattle.output.proofs.OutputLaws.{put_next, kept, wrote}
use Rattle.std.proofs.result.Match.{err_is}
use Rattle.std.specs.Result.{result_ok}
use Rattle.std.specs.Prelude.{Err}
use Rattle.limits.specs.Limits.{rust_limits}
use Rattle.edit.specs.Edit.{over, put_at}
use Rattle.listing_text.proofs.list_store.Goals as goal
use Rattle.listing_text.proofs.list_store.Goals.{After-lines_length, After-put, After-write_lines-end, In_ok-count}

-- the records that were read
store : (c : In_ok-count) → Decoded c.args.bytes.now c.in_ok-count.count
store c = decoded c.args.bytes.now c.in_ok-count.count (sym c.read_store.ensures ∙ c.ok_or.ensures.ok_part ∙ ap result_ok c.in_ok-count.was)

-- the length of the listing
sizes : (c : After-lines_length) (d : Decoded c.args.bytes.now c.in_ok-count.count) → c.lines_length.result + c.write_words-n.result ≡ length (listing_of d.records)
sizes c d =
    let s = c.args.bytes.now in
    let n = c.in_ok-count.count in
    let h : c.lines_length.result ≡ length (listed_lines s) = c.lines_length.ensures.value in
    let k : c.write_words-n.result ≡ length (total_line n) = c.write_words-n.ensures.value in
    omega (arith, h, k, length-append (listed_lines s) (total_line n), ap length (listing_parts s n d))

-- the last line is the front of the buffer, and there is room for it
front : (c : After-write_lines-end) → take c.write_words-n.result c.write_words-n.new.out ≡ total_line c.in_ok-count.count
front c =
    let w = c.write_words-n.ensures in
    ap (take c.write_words-n.result) w.out_after ∙ take_at (total_line c.in_ok-count.count) _ c.write_words-n.result (sym w.value)

fits : (c : After-write_lines-end) → c.write_lines-end.result + length (take c.write_words-n.result c.write_words-n.new.out) ≤ length c.write_lines-end.new.out
fits c =
    let h : c.write_lines-end.result ≡ length (listed_lines c.args.bytes.now) = c.write_lines-end.ensures.value in
    let g : c.lines_length.result ≡ length (listed_lines c.args.bytes.now) = c.lines_length.ensures.value in
    let k : length c.write_lines-end.new.out ≡ length c.args.out.now = c.write_lines-end.auto.out in
    omega (arith, h, g, k, c.if-out-size.false, ap length (front c), c.write_words-n.ensures.value)

written : (c : After-put) → take c.write_words-n.result c.write_words-n.new.out ≡ total_line c.in_ok-count.count
    → (d : Decoded c.args.bytes.now c.in_ok-count.count) → c.put.new.bytes ≡ over (listing_of d.records) c.args.out.now
written c f d =
    let a = c.args in
    let n = c.in_ok-count.count in
    c.put.ensures
    ∙ ap (λ (s : List ℕ). put_at c.write_lines-end.result s c.write_lines-end.new.out) f
    ∙ ap (put_at c.write_lines-end.result (total_line n)) (c.write_lines-end.ensures.out_after)
    ∙ put_next (listed_lines a.bytes.now) (total_line n) a.out.now c.write_lines-end.result (sym c.write_lines-end.ensures.value)
    ∙ ap (λ (s : List ℕ). over s a.out.now) (listing_parts a.bytes.now n d)

pub returns-then-bytes-gt-MAX_LISTED_STORE : goal.returns-then-bytes-gt-MAX_LISTED_STORE
returns-then-bytes-gt-MAX_LISTED_STORE c =
    let a = c.args in
    let old : _ × _ = kept a.out.now (too_long rust_limits a.bytes.now (length a.out.now) c.if-bytes-gt-MAX_LISTED_STORE.true) in
    record { value = old.0; out_after = old.1 }

pub returns-in_err-count : goal.returns-in_err-count
returns-in_err-count c =
    let a = c.args in
    let n = unread c.read_store.result c.ok_or.ensures.value c.in_err-count.was in
    let old : _ × _ = kept a.out.now (bad_store rust_limits a.bytes.now (length a.out.now) (omega (arith, c.if-bytes-gt-MAX_LISTED_STORE.false)) (broken_none a.bytes.now (sym c.read_store.ensures ∙ n.0))) in
    record { value = err_is c.from_residual.result _ c.from_residual.ensures.1 ∙ ap Err n.1 ∙ old.0; out_after = old.1 }

pub invariant_of-held : goal.invariant_of-held
invariant_of-held c = record { fit = λ i. (c.type_inv.bytes i).fits; stored = whole_given _ _ (store (goal.at.invariant_of-held c).In_ok-count) }

pub returns-then-out-size : goal.returns-then-out-size
returns-then-out-size c =
    let a = c.args in
    let d = store (goal.at.returns-then-out-size c).In_ok-count in
    let k = ap length (listing_parts a.bytes.now c.in_ok-count.count d) in
    let old : _ × _ = kept a.out.now (no_room rust_limits a.bytes.now (length a.out.now) (omega (arith, c.if-bytes-gt-MAX_LISTED_STORE.false)) d (omega (arith, c.if-out-size.true, sizes (goal.at.returns-then-out-size c).After-lines_length d))) in
    record { value = old.0; out_after = old.1 }

pub put-requires : goal.put-requires
put-requires c = fits (goal.at.put-requires c).After-write_lines-end

pub returns : goal.returns
returns c =
    let a = c.args in
    let p = goal.at.returns c in
    let d = store p.In_ok-count in
    let z = sizes p.After-lines_length d in
    let old : _ × _ = wrote a.out.now (listed_all rust_limits a.bytes.now (length a.out.now) (omega (arith, c.if-bytes-gt-MAX_LISTED_STORE.false)) d (omega (arith, c.if-out-size.false, z))) z (written p.After-put (front p.After-write_lines-end) d) in
    record { value = old.0; out_after = old.1 }
