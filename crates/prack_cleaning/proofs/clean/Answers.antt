-- `prack_cleaning::clean` meets its contract: where a cleanup is due, the time is stored and the entries that stay are left. Assumes nothing.
use Prim.Native.Nat.{ℕ, ◌-◌, ◌≤◌, ◌<◌}
use mathlib.Core.Path.{◌≡◌, sym, subst}
use mathlib.Core.List.{List}
use Rattle.limits.specs.Settings.{limits_in}
use Rattle.prack_body.specs.Lists.{Tracked, nanoseconds}
use Rattle.prack_body.specs.Body.{Holds}
use Rattle.prack_body.proofs.BodyLaws.{cleaned_at_lem, retimed}
use Rattle.prack_cleaning.proofs.KeepLaws.{not_due, due}
use native.Mathlib.Omega.{arith}
use Rattle.prack_cleaning.proofs.clean.Goals as goal

pub returns-then-elapsed-cleanup : goal.returns-then-elapsed-cleanup
returns-then-elapsed-cleanup c =
    let a = c.args in
    λ t h.
    let z : c.read_eight-since.result ≡ t.cleaned_at = cleaned_at_lem h c.read_eight-since.ensures in
    let l : a.time - t.cleaned_at < nanoseconds (limits_in a.settings).cleanup = omega arith in
    subst (λ (x : Tracked). Holds (limits_in a.settings) a.body.now a.n x) (sym (not_due (limits_in a.settings) a.time t l)) h

pub returns : goal.returns
returns c =
    let a = c.args in
    λ t h.
    let z : c.read_eight-since.result ≡ t.cleaned_at = cleaned_at_lem h c.read_eight-since.ensures in
    let l : nanoseconds (limits_in a.settings).cleanup ≤ a.time - t.cleaned_at = omega arith in
    let u : Tracked = record { id = t.id; cleaned_at = a.time; list = t.list } in
    subst (λ (x : Tracked). Holds (limits_in a.settings) c.keep_list.new.body c.keep_list.result x) (sym (due (limits_in a.settings) a.time t l))
    (c.keep_list.ensures (limits_in a.settings) u (subst (λ (s : List ℕ). Holds (limits_in a.settings) s a.n u) (sym (c.write_eight.ensures.out_after)) (retimed a.time (omega arith) h)))
