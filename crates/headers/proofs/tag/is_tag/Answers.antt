use Rattle.headers.specs.Tag.{is_tag}
use Rattle.headers.proofs.tag.is_tag.Goals as goal

pub returns : goal.returns
unfolding is_tag
returns c = c.starts_with.ensures
