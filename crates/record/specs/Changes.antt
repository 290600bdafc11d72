-- A record (document 01, "Record image") with one part changed, the others as they were.
use Rattle.std.specs.Prelude.{ℕ, List}
use Rattle.record.specs.Record.{Numbers, Record}

abbrev pub with_numbers : Numbers → Record → Record
with_numbers x r = record { call_id = r.call_id; local_tag = r.local_tag; remote_tag = r.remote_tag; we_are_uac = r.we_are_uac; target = r.target; local_uri = r.local_uri; remote_uri = r.remote_uri; numbers = x; routes = r.routes }

abbrev pub with_target : List ℕ → Record → Record
with_target t r = record { call_id = r.call_id; local_tag = r.local_tag; remote_tag = r.remote_tag; we_are_uac = r.we_are_uac; target = t; local_uri = r.local_uri; remote_uri = r.remote_uri; numbers = r.numbers; routes = r.routes }

abbrev pub with_routes : List (List ℕ) → Record → Record
with_routes l r = record { call_id = r.call_id; local_tag = r.local_tag; remote_tag = r.remote_tag; we_are_uac = r.we_are_uac; target = r.target; local_uri = r.local_uri; remote_uri = r.remote_uri; numbers = r.numbers; routes = l }
