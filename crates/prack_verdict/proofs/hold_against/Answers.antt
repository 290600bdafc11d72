-- `prack_verdict::hold_against` meets its contract: the first entry of the RSeq decides, and is marked where the PRACK is accepted. Assumes nothing.
use Prim.Native.Nat.{ℕ, ◌+◌, ◌≤◌}
use mathlib.Core.Path.{◌≡◌, sym, ap, ◌∙◌}
use mathlib.Core.List.{List}
use lib.ListN.{length}
use Rattle.std.proofs.result.Match.{err_is}
use Rattle.std.specs.Prelude.{Err, Some}
use Rattle.limits.specs.Limits.{LimitSet}
use Rattle.limits.specs.declared.Refusal.{Refusal}
use Rattle.rack.specs.RAck.{read_rack, rack_from}
use Rattle.rack.proofs.RAckLaws.{no_rack_lem as unread, some_rack}
use Rattle.prack_headers.proofs.ReadingLaws.{value_text_lem}
use Rattle.prack_body.specs.Lists.{Tracked}
use Rattle.prack_body.specs.Body.{Holds}
use Rattle.prack_list.proofs.FindLaws.{FoundIn, position_found, place_inside}
use Rattle.prack_verdict.specs.Verdict.{rack_name, rack_in, judged}
use Rattle.prack_verdict.proofs.VerdictLaws.{Judges, no_rack_lem, no_entry, other_cseq, other_method, repeated, accepted, keeps, marks}
use native.Mathlib.Omega.{arith}
use Rattle.prack_verdict.proofs.hold_against.Goals as goal
use Rattle.prack_verdict.proofs.hold_against.Goals.{After-read_rack, In_ok-e, In-Some}

-- what was read is the RAck of the block
read : (c : After-read_rack) → c.read_rack.result ≡ rack_from (rack_in (c.args.block.now))
read c = c.read_rack.ensures ∙ ap (λ (s : List ℕ). rack_from (read_rack s)) ((c.header_value.ensures.result_value) ∙ value_text_lem rack_name (c.args.block.now))

rack : (c : In-Some) → c.read_rack.result ≡ rack_from (rack_in (c.args.block.now)) → rack_in (c.args.block.now) ≡ Some (c.in-Some.k)
rack c r = some_rack (rack_in (c.args.block.now)) r c.in-Some.is

found : (c : In_ok-e) (L : LimitSet) (t : Tracked) → Holds L c.args.body.now (length c.args.body.now) t
    → FoundIn (c.in-Some.k).rseq t.list (c.in_ok-e.e.place) c.in_ok-e.e.cseq c.in_ok-e.e.method c.in_ok-e.e.acknowledged
found c L t h = position_found (c.in-Some.k).rseq t.list (sym c.in_ok-e.was ∙ c.first_of.ensures L t h)

-- it lies in the body
inside : (c : In_ok-e) (L : LimitSet) (t : Tracked) → Holds L c.args.body.now (length c.args.body.now) t → c.in_ok-e.e.place + 20 ≤ length c.args.body.now
inside c L t h = let w = found c L t h in omega (arith, w.at, place_inside h (c.in-Some.k).rseq w.list w.entry w.stands w.first)

-- a refusal
refuses : (c : In-Some) {cause : Refusal} → ((L : LimitSet) (t : Tracked) → Holds L c.args.body.now (length c.args.body.now) t → judged (rack_in (c.args.block.now)) t.list ≡ Err cause)
    → Judges (rack_in (c.args.block.now)) c.args.body.now (length c.args.body.now) (Err cause) (c.args.body.now)
refuses c j = keeps (rack_in (c.args.block.now)) c.args.body.now (length c.args.body.now) j

pub returns-in_default : goal.returns-in_default
returns-in_default c =
    let old : _ × _ = keeps (rack_in (c.args.block.now)) c.args.body.now (length c.args.body.now) (λ L t h. no_rack_lem (rack_in (c.args.block.now)) t.list (unread (rack_in (c.args.block.now)) (read (goal.at.returns-in_default c).After-read_rack) c.in_default.is)) in
    record { value = old.0; holds = old.1 }

pub returns-then-e-k : goal.returns-then-e-k
returns-then-e-k c =
    let p = goal.at.returns-then-e-k c in
    let old : _ × _ = refuses p.In-Some (λ L t h. other_cseq (rack_in (c.args.block.now)) t.list (c.in-Some.k) (rack p.In-Some (read p.After-read_rack)) (found p.In_ok-e L t h) c.if-e-k.true) in
    record { value = old.0; holds = old.1 }

pub returns-then-e-k-2 : goal.returns-then-e-k-2
returns-then-e-k-2 c =
    let p = goal.at.returns-then-e-k-2 c in
    let old : _ × _ = refuses p.In-Some (λ L t h. other_method (rack_in (c.args.block.now)) t.list (c.in-Some.k) (rack p.In-Some (read p.After-read_rack)) (found p.In_ok-e L t h) c.if-e-k.false c.if-e-k-2.true) in
    record { value = old.0; holds = old.1 }

pub returns-then-e : goal.returns-then-e
returns-then-e c =
    let p = goal.at.returns-then-e c in
    let old : _ × _ = refuses p.In-Some (λ L t h. repeated (rack_in (c.args.block.now)) t.list (c.in-Some.k) (rack p.In-Some (read p.After-read_rack)) (found p.In_ok-e L t h) c.if-e-k.false c.if-e-k-2.false c.if-e.true) in
    record { value = old.0; holds = old.1 }

pub mark-requires : goal.mark-requires
mark-requires c =
    let w = c.requires in
    omega (arith, inside (goal.at.mark-requires c).In_ok-e w.0 w.1 w.2)

pub returns : goal.returns
returns c =
    let p = goal.at.returns c in
    let old : _ × _ = marks (rack_in (c.args.block.now)) c.args.body.now (length c.args.body.now) (λ L t h.
    let w = found p.In_ok-e L t h in (
      accepted (rack_in (c.args.block.now)) t.list (c.in-Some.k) (rack p.In-Some (read p.After-read_rack)) w c.if-e-k.false c.if-e-k-2.false c.if-e.false,
      (w.list, (w.stands, c.mark.ensures L (length c.args.body.now) (c.in-Some.k).rseq t w.list w.entry h w.stands w.first w.at)),
    )) in
    record { value = old.0; holds = old.1 }

pub returns-in_err-e : goal.returns-in_err-e
returns-in_err-e c =
    let p = goal.at.returns-in_err-e c in
    let q = err_is c.from_residual.result _ c.from_residual.ensures.1 in
    let old : _ × _ = refuses p.In-Some (λ L t h. no_entry (rack_in (c.args.block.now)) t.list (c.in-Some.k) (rack p.In-Some (read p.After-read_rack)) (sym (c.first_of.ensures L t h) ∙ c.in_err-e.was)) in
    record { value = λ L t h. q ∙ old.0 L t h; holds = old.1 }
