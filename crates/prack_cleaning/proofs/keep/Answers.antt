-- `prack_cleaning::keep` meets its contract: at each turn those that stayed lie together, and those left where they did. Assumes nothing.
use mathlib.Core.Path.{ap, subst, ◌≡◌, refl, sym, ◌∙◌}
use Prim.Native.Nat.{ℕ, ◌+◌}
use mathlib.Core.List.{List}
use lib.ListN.{length}
use Rattle.prack_cleaning.proofs.KeepLaws.{Keeping, start, done, passed, moved}
use native.Mathlib.Omega.{arith}
use Rattle.prack_cleaning.proofs.keep.Goals as goal
use Rattle.prack_cleaning.proofs.keep.Goals.{else-stays, then-stays}

pub loop-at-init : goal.loop-at-init
loop-at-init g c = let a = c.args in (refl, (omega arith, (omega arith, (refl, λ ps rest h n e. start (g.S.Staying.test a.which) a.body.now rest ps h e))))

pub loop-at-preserved : goal.loop-at-preserved
loop-at-preserved g c =
    let a = c.args in
    let t = g.S.Staying.test a.which in
    let s = a.body.now in
    let i = c.loop-at.invariant.1.1.1.1 in
    elim c.if-stays.branch [
      | then-stays w ↦ let k : c.if-stays.kept ≡ c.loop-at.kept + 1 = w.kept-is in
          let n : length c.if-stays.body ≡ length c.loop-at.body = ap length w.body-is ∙ w.shift.auto.bytes in (
            omega arith,
            (
              omega arith,
              (
                omega arith,
                (
                  omega arith,
                  λ ps rest h m e. subst (λ (x : ℕ). Keeping t s rest ps (c.loop-at.at + 20) x c.if-stays.body) (sym k)
                      (moved t s rest ps (i ps rest h m e) (omega arith) c.stays.ensures w.if-stays.true (omega arith) (omega arith) (w.body-is ∙ w.shift.ensures)),
                ),
              ),
            ),
          )
      | else-stays w ↦ let k : c.if-stays.kept ≡ c.loop-at.kept = w.kept-is in
          let n : length c.if-stays.body ≡ length c.loop-at.body = ap length w.body-is in (
            omega arith,
            (
              omega arith,
              (
                omega arith,
                (
                  omega arith,
                  λ ps rest h m e. subst (λ (x : ℕ). Keeping t s rest ps (c.loop-at.at + 20) x c.if-stays.body) (sym k)
                      (subst (λ (x : List ℕ). Keeping t s rest ps (c.loop-at.at + 20) c.loop-at.kept x) (sym w.body-is) (passed t s rest ps (i ps rest h m e) (omega arith) c.stays.ensures w.if-stays.false)),
                ),
              ),
            ),
          )
    ]

pub returns-clause-kept : goal.returns-clause-kept
returns-clause-kept g c =
    let a = c.args in
    λ ps rest h n e. done (g.S.Staying.test a.which) a.body.now rest ps (c.loop-at.invariant.1.1.1.1 ps rest h n e) (omega arith)

-- the last entry, behind which there is no further place
pub returns-after-stays-clause-kept : goal.returns-after-stays-clause-kept
returns-after-stays-clause-kept g c =
    let a = c.args in
    let t = g.S.Staying.test a.which in
    let s = a.body.now in
    let i = c.loop-at.invariant.1.1.1.1 in
    λ ps rest h m e. done t s rest ps
    (elim c.if-stays.branch [
      | then-stays w ↦ subst (λ (x : ℕ). Keeping t s rest ps (c.loop-at.at + 20) x c.if-stays.body) (sym w.kept-is)
          (moved t s rest ps (i ps rest h m e) (omega arith) c.stays.ensures w.if-stays.true (omega arith) (omega arith) (w.body-is ∙ w.shift.ensures))
      | else-stays w ↦ subst (λ (x : ℕ). Keeping t s rest ps (c.loop-at.at + 20) x c.if-stays.body) (sym w.kept-is)
          (subst (λ (x : List ℕ). Keeping t s rest ps (c.loop-at.at + 20) c.loop-at.kept x) (sym w.body-is) (passed t s rest ps (i ps rest h m e) (omega arith) c.stays.ensures w.if-stays.false))
    ])
    (omega arith)
