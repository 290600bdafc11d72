-- `worst_minute::add_verdict` meets its contract. Assumes nothing.
use Prim.Native.Nat.{◌≤◌}
use mathlib.Core.Path.{◌≡◌, sym, ap, ◌∙◌}
use lib.ListN.{length, take}
use Rattle.std.proofs.Common.{rules}
use Rattle.std.specs.Prelude.{Err}
use Rattle.std.specs.Result.{result_ok}
use Rattle.std.proofs.result.Match.{err_is}
use Rattle.output.proofs.OutputLaws.{kept, wrote}
use Rattle.worst_minute.specs.Minute.{Verdict}
use Rattle.worst_minute.specs.Layout.{decode_run}
use Rattle.worst_minute.specs.Answers.{last_of}
use Rattle.worst_minute.proofs.NumberLaws.{Bytes}
use Rattle.worst_minute.proofs.CallLaws.{lent_none, lent_some, refused, LastIs, last_read, not_full, added_over, added_broken, no_room, fits, fits_length, fits_bytes, drops, drops_length, drops_bytes}
use Rattle.worst_minute.proofs.add_verdict.Goals as goal
use Rattle.worst_minute.proofs.add_verdict.Goals.{In_ok-run, In_ok-last}

-- the used bytes are those that were lent first
lent : (c : In_ok-run) → (c.args.used ≤ length c.args.bytes.now) × (c.in_ok-run.run'.now ≡ take c.args.used c.args.bytes.now)
lent c = lent_some c.args.bytes.now c.args.used _ _ c.get.ensures.lookup c.ok_or.ensures.value c.in_ok-run.was

-- the run was read, and has this last time
read : (c : In_ok-last) → c.in_ok-run.run'.now ≡ take c.args.used c.args.bytes.now → LastIs (take c.args.used c.args.bytes.now) c.in_ok-last.last
read c e =
    last_read (take c.args.used c.args.bytes.now) c.in_ok-last.last
    (ap (λ s. last_of (decode_run s)) (sym e) ∙ sym c.last_time.ensures ∙ c.ok_or-2.ensures.ok_part ∙ ap result_ok c.in_ok-last.was)

pub returns-in_err-run : goal.returns-in_err-run
returns-in_err-run c =
    let a = c.args in
    let r = lent_none a.bytes.now a.used _ c.get.ensures.lookup c.ok_or.ensures.value c.in_err-run.was in
    let e = err_is c.from_residual.result _ c.from_residual.ensures.1 ∙ ap Err r.1 in
    let old : _ × _ = kept a.bytes.now (added_over (record { time = a.time; number = a.number }) a.bytes.now a.used r.0) in
    record { value = e ∙ old.0; bytes_after = old.1 }

pub returns-in_err-last : goal.returns-in_err-last
returns-in_err-last c =
    let a = c.args in
    let l = lent (goal.at.returns-in_err-last c).In_ok-run in
    let r = refused c.last_time.result c.ok_or-2.ensures.value c.in_err-last.was in
    let e = err_is c.from_residual-in_err-last.result _ c.from_residual-in_err-last.ensures.1 ∙ ap Err r.1 in
    let old : _ × _ = kept a.bytes.now (added_broken (record { time = a.time; number = a.number }) a.bytes.now a.used l.0 (ap (λ s. last_of (decode_run s)) (sym l.1) ∙ sym c.last_time.ensures ∙ r.0)) in
    record { value = e ∙ old.0; bytes_after = old.1 }

pub returns-then-used-eq-RUN_ROOM : goal.returns-then-used-eq-RUN_ROOM
returns-then-used-eq-RUN_ROOM c =
    let b : Bytes c.args.bytes.now = λ i. search rules in
    let old : _ × _ = let a = c.args in
    let v : Verdict = record { time = a.time; number = a.number } in
    let u = lent (goal.at.returns-then-used-eq-RUN_ROOM c).In_ok-run in
    let h = u.0 in
    let l = read (goal.at.returns-then-used-eq-RUN_ROOM c).In_ok-last u.1 in
    let p = c.max-t.ensures in
    let f = c.if-used-eq-RUN_ROOM.true in
    wrote a.bytes.now (drops v a.bytes.now a.used h b l p f) (drops_length v a.bytes.now a.used h b l p f)
    (drops_bytes v a.bytes.now a.used h b l p f c.shift.ensures c.write_entry.ensures) in
    record { value = old.0; bytes_after = old.1 }

pub returns-then-bytes-used-lt-ENTRY_SIZE : goal.returns-then-bytes-used-lt-ENTRY_SIZE
returns-then-bytes-used-lt-ENTRY_SIZE c =
    let b : Bytes c.args.bytes.now = λ i. search rules in
    let old : _ × _ = let a = c.args in
    let u = lent (goal.at.returns-then-bytes-used-lt-ENTRY_SIZE c).In_ok-run in
    let h = u.0 in
    let l = read (goal.at.returns-then-bytes-used-lt-ENTRY_SIZE c).In_ok-last u.1 in
    kept a.bytes.now (no_room (record { time = a.time; number = a.number }) a.bytes.now a.used h b l c.max-t.ensures (not_full a.bytes.now a.used h l c.if-used-eq-RUN_ROOM.false) c.if-bytes-used-lt-ENTRY_SIZE.true) in
    record { value = old.0; bytes_after = old.1 }

pub returns : goal.returns
returns c =
    let b : Bytes c.args.bytes.now = λ i. search rules in
    let old : _ × _ = let a = c.args in
    let v : Verdict = record { time = a.time; number = a.number } in
    let u = lent (goal.at.returns c).In_ok-run in
    let h = u.0 in
    let l = read (goal.at.returns c).In_ok-last u.1 in
    let p = c.max-t.ensures in
    let f = not_full a.bytes.now a.used h l c.if-used-eq-RUN_ROOM.false in
    let q = c.if-bytes-used-lt-ENTRY_SIZE.false in
    wrote a.bytes.now (fits v a.bytes.now a.used h b l p f q) (fits_length v a.bytes.now a.used h b l p f q)
    (fits_bytes v a.bytes.now a.used h b l p f q c.write_entry-2.ensures) in
    record { value = old.0; bytes_after = old.1 }
