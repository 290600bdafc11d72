-- `rack::format_rack` meets its contract: the causes in their order, then the three parts over the front of the bytes. Assumes nothing.
use native.Mathlib.Omega.{arith}
use mathlib.Core.Path.{◌≡◌, sym, ap, ◌∙◌}
use mathlib.Core.Bool.{true}
use lib.ListN.{length}
use Rattle.methods.specs.Methods.{is_method}
use Rattle.edit.specs.Edit.{over}
use Rattle.rack.specs.RAck.{rack_text}
use Rattle.output.proofs.DecimalLaws.{Spelled, spelled}
use Rattle.methods.proofs.MethodLaws.{no_room, fits}
use Rattle.output.proofs.OutputLaws.{kept, wrote}
use Rattle.rack.proofs.RAckLaws.{rack_length, rack_text_lem}
use Rattle.rack.proofs.format_rack.Goals as goal
use Rattle.rack.proofs.format_rack.Goals.{After-decimal-k, After-decimal-m, Else-not-is_method}

-- past the first test the number is a method's
numbered : (c : Else-not-is_method) → is_method c.args.method ≡ true
numbered c = sym c.is_method.ensures ∙ c.if-not-is_method.false

-- the two numbers
first : (c : After-decimal-k) → Spelled c.args.rseq c.decimal-k.result c.decimal-k.new.out
first c = spelled _ _ _ (omega arith) c.decimal-k.ensures.in_bounds c.decimal-k.ensures.len c.decimal-k.ensures.digits

second : (c : After-decimal-m) → Spelled c.args.cseq c.decimal-m.result c.decimal-m.new.out
second c = spelled _ _ _ (omega arith) c.decimal-m.ensures.in_bounds c.decimal-m.ensures.len c.decimal-m.ensures.digits

pub returns-then-out-length : goal.returns-then-out-length
returns-then-out-length c =
    let a = c.args in
    let l = rack_length a.rseq a.cseq a.method (first (goal.at.returns-then-out-length c).After-decimal-k).size (second (goal.at.returns-then-out-length c).After-decimal-m).size (ap length c.name_of-name.ensures) in
    let old : _ × _ = kept a.out.now (no_room a.method (length a.out.now) (rack_text a.rseq a.cseq a.method) (numbered (goal.at.returns-then-out-length c).Else-not-is_method) (omega arith)) in
    record { value = old.0; out_after = old.1 }

pub returns : goal.returns
returns c =
    let a = c.args in
    let name = c.name_of-name in
    let l = rack_length a.rseq a.cseq a.method (first (goal.at.returns c).After-decimal-k).size (second (goal.at.returns c).After-decimal-m).size (ap length name.ensures) in
    let old : _ × _ = wrote a.out.now (fits a.method (length a.out.now) (rack_text a.rseq a.cseq a.method) (numbered (goal.at.returns c).Else-not-is_method) (omega arith)) l (c.write_spaced.ensures ∙ ap (λ s. over s a.out.now) (rack_text_lem a.rseq a.cseq a.method (first (goal.at.returns c).After-decimal-k).text (second (goal.at.returns c).After-decimal-m).text name.ensures)) in
    record { value = old.0; out_after = old.1 }
