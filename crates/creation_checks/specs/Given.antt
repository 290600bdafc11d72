-- A step of the code: what a creation is given, as the functions have it: the record of dialog_rules/specs/Creation.antt from their struct.
use Rattle.std.specs.Prelude.{[]}
use Rattle.dialog_rules.specs.Creation.{Creation}
use Rattle.creation_checks.specs.declared.NewDialog.{NewDialog}

abbrev pub creation_of : NewDialog → Creation
creation_of c = record {
  method = c.request.method.now;
  request = c.request.block.now;
  status = c.response.status;
  response = c.response.block.now;
  local_uri = c.local_uri.now;
  remote_uri = c.remote_uri.now;
}

-- after 1 the method is not looked at
abbrev pub checked_of : NewDialog → Creation
checked_of c = record {
  method = [];
  request = c.request.block.now;
  status = c.response.status;
  response = c.response.block.now;
  local_uri = c.local_uri.now;
  remote_uri = c.remote_uri.now;
}
