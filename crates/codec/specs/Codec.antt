-- Forms of bytes, each given once as what a value's bytes are and what is read from the front of bytes. Numbers are
-- big-endian (document 01, "Record image"). A form may look at a flag: whether the bit of its field stands.
use Rattle.std.specs.Prelude.{ℕ, zero, suc, ◌+◌, ◌*◌, ◌/◌, ◌%◌, Bool, true, false, cond, List, [], ◌∷◌, ◌++◌, length, take, drop, leb, eqb, None, Option, Some}

-- what was read from the front of bytes, and the bytes after it
pub record Reading (A : Type 0) : Type 0 where
  pub value : A
  pub rest : List ℕ

pub record Codec (A : Type 0) : Type 0 where
  pub write : A → List ℕ
  pub read : List ℕ → Option (Reading A)

-- ---- numbers

-- one, two and four bytes
abbrev pub read_byte : List ℕ → Option (Reading ℕ)
read_byte [] = None
read_byte (a ∷ s) = Some (record { value = a; rest = s })

abbrev pub byte : Codec ℕ
byte = record { write = λ n. n ∷ []; read = read_byte }

abbrev pub read_two : List ℕ → Option (Reading ℕ)
read_two [] = None
read_two (a ∷ []) = None
read_two (a ∷ b ∷ s) = Some (record { value = a * 256 + b; rest = s })

abbrev pub two : Codec ℕ
two = record { write = λ n. n / 256 ∷ n % 256 ∷ []; read = read_two }

abbrev pub read_four : List ℕ → Option (Reading ℕ)
read_four [] = None
read_four (a ∷ []) = None
read_four (a ∷ b ∷ []) = None
read_four (a ∷ b ∷ c ∷ []) = None
read_four (a ∷ b ∷ c ∷ d ∷ s) = Some (record { value = ((a * 256 + b) * 256 + c) * 256 + d; rest = s })

abbrev pub four : Codec ℕ
four = record { write = λ n. n / 16777216 ∷ n / 65536 % 256 ∷ n / 256 % 256 ∷ n % 256 ∷ []; read = read_four }

-- ---- ways to make a form from others

-- one form after another
pub record Pair (A B : Type 0) : Type 0 where
  pub first : A
  pub second : B

abbrev pub paired : {A B : Type 0} → A → Option (Reading B) → Option (Reading (Pair A B))
paired a None = None
paired a (Some r) = Some (record { value = record { first = a; second = r.value }; rest = r.rest })

abbrev pub read_then : {A B : Type 0} → Option (Reading A) → (List ℕ → Option (Reading B)) → Option (Reading (Pair A B))
read_then None next = None
read_then (Some r) next = paired r.value (next r.rest)

abbrev pub then : {A B : Type 0} → Codec A → Codec B → Codec (Pair A B)
then c d = record { write = λ p. c.write p.first ++ d.write p.second; read = λ s. read_then (c.read s) d.read }

-- only values that pass a test
abbrev pub passing : {A : Type 0} → (A → Bool) → Option (Reading A) → Option (Reading A)
passing test None = None
passing test (Some r) = cond (test r.value) (Some r) None

abbrev pub such : {A : Type 0} → Codec A → (A → Bool) → Codec A
such c test = record { write = c.write; read = λ s. passing test (c.read s) }

-- nothing where the flag doesn't stand: then the value is the absent one
abbrev pub flagged : {A : Type 0} → Bool → A → Codec A → Codec A
flagged true absent c = c
flagged false absent c = record { write = λ a. []; read = λ s. Some (record { value = absent; rest = s }) }

-- the same form of values of another kind
abbrev pub renamed : {A B : Type 0} → (A → B) → Option (Reading A) → Option (Reading B)
renamed f None = None
renamed f (Some r) = Some (record { value = f r.value; rest = r.rest })

abbrev pub mapped : {A B : Type 0} → (A → B) → (B → A) → Codec A → Codec B
mapped f g c = record { write = λ b. c.write (g b); read = λ s. renamed f (c.read s) }

-- eight bytes: two numbers of four, the higher first
abbrev pub wide : Pair ℕ ℕ → ℕ
wide p = p.first * 4294967296 + p.second

abbrev pub halves : ℕ → Pair ℕ ℕ
halves n = record { first = n / 4294967296; second = n % 4294967296 }

abbrev pub eight : Codec ℕ
eight = mapped wide halves (then four four)

-- ---- texts

-- so many bytes
abbrev pub read_bytes : ℕ → List ℕ → Option (Reading (List ℕ))
read_bytes n s = cond (leb n (length s)) (Some (record { value = take n s; rest = drop n s })) None

abbrev pub read_text : Option (Reading ℕ) → Option (Reading (List ℕ))
read_text None = None
read_text (Some r) = read_bytes r.value r.rest

-- two length bytes, then as many bytes
abbrev pub text : Codec (List ℕ)
text = record { write = λ t. two.write (length t) ++ t; read = λ s. read_text (two.read s) }

-- ---- lists

unfoldable pub write_all : {A : Type 0} → Codec A → List A → List ℕ
write_all c [] = []
write_all c (a ∷ more) = c.write a ++ write_all c more

abbrev pub in_front : {A : Type 0} → A → Option (Reading (List A)) → Option (Reading (List A))
in_front a None = None
in_front a (Some r) = Some (record { value = a ∷ r.value; rest = r.rest })

abbrev pub and_more : {A : Type 0} → Option (Reading A) → (List ℕ → Option (Reading (List A))) → Option (Reading (List A))
and_more None more = None
and_more (Some r) more = in_front r.value (more r.rest)

-- so many values, one after another
unfoldable pub read_all : {A : Type 0} → Codec A → ℕ → List ℕ → Option (Reading (List A))
read_all c zero s = Some (record { value = []; rest = s })
read_all c (suc n) s = and_more (c.read s) (read_all c n)

abbrev pub read_counted : {A : Type 0} → Codec A → Option (Reading ℕ) → Option (Reading (List A))
read_counted c None = None
read_counted c (Some r) = read_all c r.value r.rest

-- a count byte, then as many values
abbrev pub counted : {A : Type 0} → Codec A → Codec (List A)
counted c = record { write = λ l. byte.write (length l) ++ write_all c l; read = λ s. read_counted c (byte.read s) }

-- ---- a form that two bytes in front choose

abbrev pub keyed_by : {B : Type 0} → (B → ℕ) → ℕ → Option (Reading B) → Option (Reading B)
keyed_by key m o = passing (λ b. eqb (key b) m) o

abbrev pub read_keyed : {B : Type 0} → (B → ℕ) → (ℕ → Codec B) → Option (Reading ℕ) → Option (Reading B)
read_keyed key c None = None
read_keyed key c (Some m) = keyed_by key m.value ((c m.value).read m.rest)

-- the two bytes are the value's own key, and the form is that of the key
abbrev pub keyed : {B : Type 0} → (B → ℕ) → (ℕ → Codec B) → Codec B
keyed key c = record { write = λ b. two.write (key b) ++ (c (key b)).write b; read = λ s. read_keyed key c (two.read s) }
