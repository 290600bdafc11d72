-- A listing that is given lies within its room.
use Rattle.std.proofs.Common.{◌≤◌, sym, arith, length-take}
use Rattle.listing_text.proofs.RoomLaws.{listing_fits}
use Rattle.listing_output.proofs.print_listing.Goals as goal

pub slice_bounds-text-end : goal.slice_bounds-text-end
slice_bounds-text-end g c = let h : c.in-Ok.n ≤ 131072 = listing_fits _ _ 131072 c.in-Ok.n (sym c.in-Ok.ensures.value) in omega arith

pub slice_bounds-print-end : goal.slice_bounds-print-end
slice_bounds-print-end g c = let h : c.in-Ok.n ≤ 131072 = listing_fits _ _ 131072 c.in-Ok.n (sym c.in-Ok.ensures.value) in simp length-take (omega arith)
