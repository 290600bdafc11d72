-- An identifier as a caller gives it and as the stores hold it: three texts, any bytes. Document 01, "Identifier": "Calls by identifier take any three
-- texts and find them or give 15"; only their lengths are refused (1).
use Rattle.std.specs.Prelude.{ℕ, Bool, ◌&&◌, List, Option}
use Rattle.limits.specs.Limits.{LimitSet}
use Rattle.limits.specs.Outcome.{or_else}
use Rattle.limits.specs.declared.Refusal.{Refusal}
use Rattle.text.specs.Text.{equal}
use Rattle.text.specs.Answers.{length_cause}

pub record Ident : Type 0 where
  pub call_id : List ℕ
  pub local_tag : List ℕ
  pub remote_tag : List ℕ

-- of three texts
abbrev pub ident : List ℕ → List ℕ → List ℕ → Ident
ident call_id local_tag remote_tag = record { call_id = call_id; local_tag = local_tag; remote_tag = remote_tag }

-- the same three texts
unfoldable pub same_ident : Ident → Ident → Bool
same_ident i j = equal i.call_id j.call_id && (equal i.local_tag j.local_tag && equal i.remote_tag j.remote_tag)

-- 1 of each text
abbrev pub ident_cause : LimitSet → Ident → Option Refusal
ident_cause L i = or_else (length_cause L i.call_id) (or_else (length_cause L i.local_tag) (length_cause L i.remote_tag))
