-- `route_section::measure_routes` meets its contract: what is held after all routes counts them and their bytes. Assumes nothing.
use Prim.Native.Nat.{ℕ, ◌+◌}
use mathlib.Core.Path.{◌≡◌, refl, sym, ap, ◌∙◌}
use mathlib.Core.Bool.{false}
use mathlib.Core.List.{[]}
use Rattle.std.specs.Prelude.{cond, eqb, Ok}
use Rattle.std.proofs.lemmas.Result.{err_from_is_err_and}
use Rattle.limits.specs.Limits.{rust_limits}
use Rattle.route_set.specs.Routes.{routes_of}
use Rattle.route_section.specs.Section.{section_from}
use Rattle.route_section.proofs.FillingLaws.{answered_held, answered_refused}
use Rattle.route_section.proofs.SectionLaws.{Read, routes_read, routes_refused, measured_same, measured_size}
use Rattle.route_section.proofs.measure_routes.Goals as goal
use Rattle.route_section.proofs.measure_routes.Goals.{In_ok-count}

-- the routes that were read
read : (c : In_ok-count) → Read false c.args.block.now [] (record { count = c.in_ok-count.count; size = c.in_ok-count.texts; bytes = c.fill_routes.new.out })
read c = routes_read false c.args.block.now [] _ (answered_held _ _ _ _ _ c.fill_routes.ensures.answered c.in_ok-count.was)

pub returns-in_err-count-clause-value : goal.returns-in_err-count-clause-value
returns-in_err-count-clause-value c =
    let p = err_from_is_err_and c.from_residual.result c.from_residual.ensures.1 in
    rw (p.1, p.2) (ap section_from (sym (routes_refused false c.args.block.now [] _ (answered_refused _ _ _ _ c.fill_routes.ensures.answered c.in_err-count.was))))

same : (c : In_ok-count) → Ok (c.in_ok-count.count, cond (eqb c.in_ok-count.count 0) 0 (1 + c.in_ok-count.texts)) ≡ section_from (routes_of rust_limits c.args.block.now)
same c = measured_same _ _ _ _ (read c)

pub returns-clause-value : goal.returns-clause-value
returns-clause-value c = ap (λ (n : ℕ). Ok (c.in_ok-count.count, n)) c.section_size-size.ensures ∙ same (goal.at.returns-clause-value c).In_ok-count

-- count and size are those of the section
counted : (c : In_ok-count) {size : ℕ} → size ≡ cond (eqb c.in_ok-count.count 0) 0 (1 + c.in_ok-count.texts) → section_from (routes_of rust_limits c.args.block.now) ≡ Ok (c.in_ok-count.count, size)
counted c e = sym (ap (λ (n : ℕ). Ok (c.in_ok-count.count, n)) e ∙ same c)

pub invariant_of-result : goal.invariant_of-result
invariant_of-result c = record { short = c.requires; sized = measured_size false c.args.block.now (counted (goal.at.invariant_of-result c).In_ok-count c.section_size-size.ensures) }

pub returns-clause-measured : goal.returns-clause-measured
returns-clause-measured c = (refl, counted (goal.at.returns-clause-measured c).In_ok-count c.section_size-size.ensures)
