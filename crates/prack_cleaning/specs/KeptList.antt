-- A step of the code: a list, where one stands, with the entries that stay by a test.
use Rattle.std.specs.Prelude.{Bool, List, None, Option, Some}
use Rattle.prack_body.specs.Lists.{Pending, staying}

abbrev pub kept_list : (Pending → Bool) → Option (List Pending) → Option (List Pending)
kept_list test None = None
kept_list test (Some ps) = Some (staying test ps)
