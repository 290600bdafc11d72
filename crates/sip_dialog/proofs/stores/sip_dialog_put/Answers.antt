-- `sip_dialog_put` meets its contract: what is handed over is what `run_with` leaves. Assumes nothing.
use mathlib.Core.Path.{sym}
use Prim.Native.Nat.{ℕ, suc, ◌<◌}
use mathlib.Core.List.{List, [], ◌∷◌}
use lib.ListN.{length, get_or}
use Rattle.book.specs.Trace.{All}
use Rattle.limits.specs.Settings.{limits_in}
use Rattle.book.specs.Calls.{put}
use Rattle.c_store_answers.proofs.ReturnLaws.{counted_returns, moved}
use Rattle.book.proofs.SettingLaws.{run_within}
use Rattle.sip_dialog.proofs.stores.sip_dialog_put.Goals as goal

-- the elements of a lent slice are bytes
below_256 : (s : List ℕ) → ((i : ℕ) → get_or s i 0 < 256) → All (λ b. b < 256) s
below_256 [] h = tt
below_256 (b ∷ s) h = (h 0, below_256 s (λ i. h (suc i)))

pub returns-clause-returns : goal.returns-clause-returns
returns-clause-returns c =
    let a = c.args in
    let g = counted_returns (limits_in a.settings) (put (length a.store.now) a.image.now) a.store.now a.used.now _ _ _ _ _ c.put.ensures.value (c.put.ensures.bytes_after) c.give_counted.ensures in
    moved (sym (run_within a.settings (put (length a.store.now) a.image.now) a.store.now a.used.now (sym c.if-not-in_bounds.ensures))) g.0

pub returns-clause-all : goal.returns-clause-all
returns-clause-all c =
    let a = c.args in
    below_256 a.image.now (λ i. (c.type_inv.image i).fits)
