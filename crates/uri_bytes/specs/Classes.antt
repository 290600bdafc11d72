-- Steps of the code: the classes of bytes as the code names them, and each as the set that its scan tests.
use Rattle.std.specs.Prelude.{ℕ, ◌/◌, ◌%◌, ◌^◌, Bool, cond, ◌&&◌, ◌||◌, eqb, ltb}
use Rattle.text.specs.Text.{within, is_digit, other}
use Rattle.uri_bytes.specs.Bytes.{is_uri, is_host, is_address}
use Rattle.uri_bytes.specs.declared.Class.{Class}
use Rattle.uri_bytes.specs.declared.Class.TheVariants as class
use Rattle.uri_bytes.specs.declared.ByteSet.{ByteSet}

-- the bytes of a class
abbrev pub in_class : Class → ℕ → Bool
in_class class.Uri b = is_uri b
in_class class.User b = is_uri b && other 64 b
in_class class.Host b = is_host b
in_class class.Address b = is_address b
in_class class.Digit b = is_digit b

-- the bytes of a set: `from` above `to` is no byte
abbrev pub in_set : ByteSet → ℕ → Bool
in_set set b = within set.low set.high b || cond (ltb b 64) (eqb (set.bits / 2 ^ b % 2) 1) (within set.from set.to b)

abbrev pub set_of : Class → ByteSet
set_of class.Uri = record { low = 64; high = 126; bits = 12682136524905512960; from = 255; to = 0 }
set_of class.User = record { low = 65; high = 126; bits = 12682136524905512960; from = 255; to = 0 }
set_of class.Host = record { low = 97; high = 122; bits = 288054454291267584; from = 65; to = 90 }
set_of class.Address = record { low = 97; high = 102; bits = 576249646070890496; from = 65; to = 70 }
set_of class.Digit = record { low = 48; high = 57; bits = 0; from = 255; to = 0 }
