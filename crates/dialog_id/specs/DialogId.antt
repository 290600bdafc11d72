-- A dialog's identifier: Call-ID, local tag and remote tag (RFC 3261 section 12).
-- Document 01, "Identifier" and refusals 4 and 25 to 27: `DialogId::new` takes 1 to 256 bytes of Call-ID and 1 to 128 of tag,
-- none of them a byte 0 to 31 or over 126; the readings from a block take any.
use Rattle.std.specs.Prelude.{ℕ, Bool, not, List, [], ◌∷◌, length, ltb, eqb, Err, None, Ok, Option, Result, Some}
use Rattle.limits.specs.Limits.{LimitSet}
use Rattle.limits.specs.Outcome.{refuse_by, or_refuse, cause_if, or_else}
use Rattle.limits.specs.declared.Refusal.{Refusal}
use Rattle.limits.specs.declared.Refusal.TheVariants.{MissingHeader, IdentifierEmpty, IdentifierTooLong, ControlCharacters}
use Rattle.text.specs.Text.{within, all, Piece, moved}
use Rattle.text.specs.Answers.{span_of}
use Rattle.msg.specs.Block.{block_cause, value_named}
use Rattle.headers.specs.Tag.{tag_of}
use Rattle.dialog_id.specs.Ident.{ident, ident_cause}
use Rattle.dialog_id.specs.declared.DialogId.{DialogId}

-- ---- the check of given parts

-- a byte that is no control character
abbrev pub is_plain : ℕ → Bool
is_plain b = within 32 126 b

-- 25, 26, 27: a part of an identifier with its limit
unfoldable pub part_cause : ℕ → List ℕ → Option Refusal
part_cause limit s =
    or_else (cause_if (eqb (length s) 0) IdentifierEmpty)
    (or_else (cause_if (ltb limit (length s)) IdentifierTooLong) (cause_if (not (all is_plain s)) ControlCharacters))

-- 1 of each part, then 25, 26, 27 of the Call-ID, of the local tag, of the remote tag
unfoldable pub identifier_cause : LimitSet → List ℕ → List ℕ → List ℕ → Option Refusal
identifier_cause L call_id local_tag remote_tag =
    or_else (ident_cause L (ident call_id local_tag remote_tag))
    (or_else (part_cause L.call_id call_id)
    (or_else (part_cause L.tag local_tag) (part_cause L.tag remote_tag)))

-- ---- the reading from a block

pub record Identifier : Type 0 where
  pub call_id : Piece
  pub local_tag : Piece
  pub remote_tag : Piece

-- `Call-ID`, `From`, `To`
abbrev pub call_id_name : List ℕ
call_id_name = 67 ∷ 97 ∷ 108 ∷ 108 ∷ 45 ∷ 73 ∷ 68 ∷ []

abbrev pub from_name : List ℕ
from_name = 70 ∷ 114 ∷ 111 ∷ 109 ∷ []

abbrev pub to_name : List ℕ
to_name = 84 ∷ 111 ∷ []

-- the tag in a value, where it stands in the block
abbrev pub tag_in : Option Piece → Option Piece
tag_in None = None
tag_in (Some v) = moved v.place (tag_of v.text)

-- the tag of a header of a block, if it has one
unfoldable pub tag_named : List ℕ → List ℕ → Option Piece
tag_named asked block = tag_in (value_named asked block)

abbrev pub identifier : Option Piece → Option Piece → Option Piece → Option Identifier
identifier None local_tag remote_tag = None
identifier (Some c) None remote_tag = None
identifier (Some c) (Some l) None = None
identifier (Some c) (Some l) (Some r) = Some (record { call_id = c; local_tag = l; remote_tag = r })

-- the Call-ID and the tags of two headers, if all three are there
unfoldable pub identifier_of : List ℕ → List ℕ → List ℕ → Option Identifier
identifier_of local_name remote_name block = identifier (value_named call_id_name block) (tag_named local_name block) (tag_named remote_name block)

-- 1, 2, 4
unfoldable pub read_identifier : LimitSet → List ℕ → List ℕ → List ℕ → Result Identifier Refusal
read_identifier L local_name remote_name block = refuse_by (block_cause L block) (or_refuse MissingHeader (identifier_of local_name remote_name block))

-- `from_request` calls the tag of From local, although a request from the peer has it as remote tag: look-up swaps them
abbrev pub from_request : LimitSet → List ℕ → Result Identifier Refusal
from_request L block = read_identifier L from_name to_name block

abbrev pub from_response_uac : LimitSet → List ℕ → Result Identifier Refusal
from_response_uac L block = read_identifier L from_name to_name block

abbrev pub from_response_uas : LimitSet → List ℕ → Result Identifier Refusal
from_response_uas L block = read_identifier L to_name from_name block

-- ---- the answers, case by case

abbrev pub dialog_id_from : Identifier → DialogId
dialog_id_from i = record { call_id = span_of i.call_id; local_tag = span_of i.local_tag; remote_tag = span_of i.remote_tag }

abbrev pub id_from : Option Identifier → Option DialogId
id_from None = None
id_from (Some i) = Some (dialog_id_from i)

abbrev pub id_answer : Result Identifier Refusal → Result DialogId Refusal
id_answer (Err cause) = Err cause
id_answer (Ok i) = Ok (dialog_id_from i)
