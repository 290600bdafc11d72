-- Document 01, "Turned back", and document 02's 30: the number of each cause, and the value that is returned beside it.
use Rattle.std.specs.Prelude.{ℕ, None, Option, Some}
use Rattle.limits.specs.declared.Refusal.{Refusal}
use Rattle.limits.specs.declared.Refusal.TheVariants.{TextTooLong, Malformed, BadStore, MissingHeader, InvalidStatus, InvalidUri, UriTooLong, RouteSetTooLarge, CSeqZero, CSeqTooLarge, InvalidCSeq, CSeqJumpTooLarge, SessionExpiresTooSmall, SessionExpiresTooLarge, NotFound, TooManyDialogs, TooManyEarlyDialogs, NoRoom, InvalidRAck, NoPendingList, UnknownRSeq, RAckCSeqMismatch, RAckMethodMismatch, DuplicatePrack, IdentifierEmpty, IdentifierTooLong, ControlCharacters, InvalidMethod, SettingOutOfBounds}

abbrev pub number_of : Refusal → ℕ
number_of TextTooLong = 1
number_of Malformed = 2
number_of BadStore = 3
number_of MissingHeader = 4
number_of InvalidStatus = 5
number_of InvalidUri = 6
number_of UriTooLong = 7
number_of RouteSetTooLarge = 8
number_of CSeqZero = 9
number_of CSeqTooLarge = 10
number_of InvalidCSeq = 11
number_of CSeqJumpTooLarge = 12
number_of (SessionExpiresTooSmall least) = 13
number_of SessionExpiresTooLarge = 14
number_of NotFound = 15
number_of TooManyDialogs = 16
number_of TooManyEarlyDialogs = 17
number_of NoRoom = 18
number_of InvalidRAck = 19
number_of NoPendingList = 20
number_of UnknownRSeq = 21
number_of RAckCSeqMismatch = 22
number_of RAckMethodMismatch = 23
number_of DuplicatePrack = 24
number_of IdentifierEmpty = 25
number_of IdentifierTooLong = 26
number_of ControlCharacters = 27
number_of InvalidMethod = 28
number_of SettingOutOfBounds = 30

-- 13 returns the least interval that is taken; no other cause returns a value
abbrev pub least_of : Refusal → Option ℕ
least_of (SessionExpiresTooSmall least) = Some least
least_of TextTooLong = None
least_of Malformed = None
least_of BadStore = None
least_of MissingHeader = None
least_of InvalidStatus = None
least_of InvalidUri = None
least_of UriTooLong = None
least_of RouteSetTooLarge = None
least_of CSeqZero = None
least_of CSeqTooLarge = None
least_of InvalidCSeq = None
least_of CSeqJumpTooLarge = None
least_of SessionExpiresTooLarge = None
least_of NotFound = None
least_of TooManyDialogs = None
least_of TooManyEarlyDialogs = None
least_of NoRoom = None
least_of InvalidRAck = None
least_of NoPendingList = None
least_of UnknownRSeq = None
least_of RAckCSeqMismatch = None
least_of RAckMethodMismatch = None
least_of DuplicatePrack = None
least_of IdentifierEmpty = None
least_of IdentifierTooLong = None
least_of ControlCharacters = None
least_of InvalidMethod = None
least_of SettingOutOfBounds = None
