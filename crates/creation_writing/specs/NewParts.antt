-- A step of the code: what a creation writes, as the parts of the record's image (image_writer/specs/Parts.antt).
use Rattle.std.specs.Prelude.{ℕ, Bool, ◌||◌, List}
use Rattle.dialog_id.specs.declared.IdTexts.{IdTexts}
use Rattle.record.specs.Record.{Numbers, is_sips}
use Rattle.image_writer.specs.Parts.{Parts, ids_given, uris_given}
use Rattle.image_writer.specs.declared.front.UriTexts.{UriTexts}

-- the parts of the record: it is secure where the local or the remote URI is `sips`
abbrev pub parts_for : Bool → Numbers → IdTexts → UriTexts → List ℕ → Parts
parts_for we_are_uac x id uris routes = record {
  numbers = x;
  we_are_uac = we_are_uac;
  secure = is_sips uris.local_uri.now || is_sips uris.remote_uri.now;
  ids = ids_given id;
  uris = uris_given uris;
  routes = routes;
}
