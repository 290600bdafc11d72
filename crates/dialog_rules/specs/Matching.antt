-- Whether a request belongs to a record (RFC 3261 section 12.2.2; `matches_request` of lib.rs). A request from the peer has From as remote tag, and
-- the Rust's `from_request` calls that tag local: so its local tag is held against the record's remote one. Call-ID and tags are compared byte by
-- byte.
use Rattle.std.specs.Prelude.{Bool, false, ◌&&◌, None, Option, Some}
use Rattle.text.specs.Text.{equal}
use Rattle.dialog_id.specs.DialogId.{Identifier}
use Rattle.record.specs.Record.{Record}

-- no where an identifier part is absent
abbrev pub named_by : Record → Option Identifier → Bool
named_by r None = false
named_by r (Some i) = equal i.call_id.text r.call_id && (equal i.local_tag.text r.remote_tag && equal i.remote_tag.text r.local_tag)
