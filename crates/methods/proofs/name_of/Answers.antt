-- `methods::name_of` meets its contract: the table's rows are the names. Assumes nothing.
use Rattle.std.proofs.Common.{refl}
use Rattle.methods.specs.Methods.{method_names}
use Rattle.methods.proofs.MethodLaws.{one_of}
use Rattle.methods.proofs.name_of.Goals as goal

pub returns : goal.returns
unfolding method_names
returns c =
    one_of c.args.number c.requires.0 c.requires.1
    (λ e. rw e refl)
    (λ e. rw e refl)
    (λ e. rw e refl)
    (λ e. rw e refl)
    (λ e. rw e refl)
    (λ e. rw e refl)
    (λ e. rw e refl)
    (λ e. rw e refl)
    (λ e. rw e refl)
    (λ e. rw e refl)
    (λ e. rw e refl)
    (λ e. rw e refl)
    (λ e. rw e refl)
    (λ e. rw e refl)
