-- `rack::write_spaced` meets its contract: five pieces, one after another. Assumes nothing.
use Rattle.rack.proofs.RAckLaws.{put_spaced}
use Rattle.rack.proofs.write_spaced.Goals as goal

pub returns : goal.returns
returns c =
    let a = c.args in
    put_spaced a.a.now a.b.now a.c.now a.out.now _ _ _ _ _ c.put.ensures c.put-2.ensures c.put-3.ensures c.put-4.ensures c.put-5.ensures
