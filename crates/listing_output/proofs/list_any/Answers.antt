-- 131,072 bytes are room for any listing, so 18 is never answered.
use Rattle.std.proofs.Common.{length, sym, ◌∙◌}
use Rattle.codec.proofs.CodecLaws.{bytes_all}
use Rattle.listing_text.proofs.RoomLaws.{never_full}
use Rattle.listing_output.proofs.list_any.Goals as goal

pub returns-clause-result_nonzero : goal.returns-clause-result_nonzero
returns-clause-result_nonzero c = λ e. never_full (length c.args.out.now) c.requires c.args.store.now (bytes_all c.args.store.now (λ i. (c.type_inv.store i).fits)) (sym c.list_store.ensures.value ∙ e)
