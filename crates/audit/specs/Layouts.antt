-- The bytes of an image that stand otherwise than as written.
use Rattle.std.specs.Prelude.{ℕ, ◌+◌, ◌-◌, ◌*◌, ◌/◌, ◌%◌, ◌==◌, nat_lt, Bool, true, false, List, [], ◌∷◌, length, slice_index_or}
use Rattle.std.specs.Prelude.{if◌then◌else◌}
use Rattle.std.specs.List.{range_with_len, flat_map}
use Rattle.rope.specs.Reading.{image_length}
use Rattle.audit.specs.declared.layout.Layout.{Layout}

-- how many bytes two banks have
abbrev pub two_banks : ℕ
two_banks = 0o10000

-- where a byte of an image stands where the banks stand by their numbers: 0 and 1 before 2 and 3
abbrev pub by_number : Bool → ℕ → ℕ
by_number true byte = if nat_lt byte two_banks then byte + two_banks else (if nat_lt byte (2 * two_banks) then byte - two_banks else byte)
by_number false byte = byte

-- where it stands where the second of each two bytes stands first
abbrev pub swapped : Bool → ℕ → ℕ
swapped true byte = if byte % 2 == 0 then byte + 1 else byte - 1
swapped false byte = byte

-- what it is where each bit is the other one
abbrev pub complemented : Bool → ℕ → ℕ
complemented true value = 255 - value
complemented false value = value

-- a byte of the image, by its number
abbrev pub byte_in : Layout → List ℕ → ℕ → ℕ
byte_in layout bytes byte = complemented layout.is_complemented
    (slice_index_or bytes (swapped layout.is_swapped (by_number layout.is_numbered byte)) 0)

abbrev pub part_in : Layout → List ℕ → ℕ → List ℕ
part_in layout bytes byte = byte_in layout bytes byte ∷ []

-- the bytes of the image, as many as there are
unfoldable pub arranged : Layout → List ℕ → List ℕ
arranged layout bytes = flat_map (part_in layout bytes) (range_with_len 0 (length bytes))

-- ## A module of six banks alone
-- how many bytes it has
abbrev pub module_bytes : ℕ
module_bytes = 0o30000

-- a byte of the two of an empty place
abbrev pub empty_byte : ℕ → ℕ → ℕ → ℕ
empty_byte high low byte = if byte % 2 == 0 then high else low

-- a byte of an image whose banks stand by their numbers: the module of a number, from 1 on, is these bytes, and the others are empty
abbrev pub module_byte : ℕ → ℕ → ℕ → List ℕ → ℕ → ℕ
module_byte number high low bytes byte =
    if byte / module_bytes + 1 == number then slice_index_or bytes (byte % module_bytes) 0 else empty_byte high low byte

abbrev pub module_part : ℕ → ℕ → ℕ → List ℕ → ℕ → List ℕ
module_part number high low bytes byte = module_byte number high low bytes byte ∷ []

-- the bytes of such an image
unfoldable pub module_image : ℕ → ℕ → ℕ → List ℕ → List ℕ
module_image number high low bytes = flat_map (module_part number high low bytes) (range_with_len 0 image_length)
