-- The orders in which the bits and bytes of words stand, and the banks.
use Rattle.std.specs.Prelude.{ℕ, ◌+◌, ◌-◌, ◌*◌, ◌/◌, ◌%◌, nat_lt, Bool, true, false, if◌then◌else◌}
use Rattle.rope.specs.Forms.{reordered}
use Rattle.audit.specs.declared.orders.Order.{Order}
use Rattle.audit.specs.declared.orders.Order.TheVariants.{Written, Exchanged, Hardware, ExchangedHardware}

-- two bytes, the second one first
abbrev pub bytes_exchanged : ℕ → ℕ
bytes_exchanged bytes = 0o400 * (bytes % 0o400) + bytes / 0o400

-- the word that two bytes are in an order
abbrev pub word_in : Order → ℕ → ℕ
word_in Written bytes = bytes / 2
word_in Exchanged bytes = bytes_exchanged bytes / 2
word_in Hardware bytes = reordered bytes / 2
word_in ExchangedHardware bytes = reordered (bytes_exchanged bytes) / 2

-- which of the first four banks stands in place of another of them where all stand by their numbers
abbrev pub partner : ℕ → ℕ
partner bank = if nat_lt bank 2 then bank + 2 else bank - 2

-- EXTEND, of which programs have many, and the word of which each bit is the other one, which they seldom have
abbrev pub extend : ℕ
extend = 0o6

abbrev pub no_extend : ℕ
no_extend = 0o77771

-- so many more of the one than of the other tell of all words whether they are complemented
abbrev pub many_extends : ℕ
many_extends = 32

-- whether words are complemented, by how many are EXTEND and how many its complement; where neither are many more, by another sign
abbrev pub by_extends : ℕ → ℕ → Bool → Bool
by_extends extends others otherwise =
    if nat_lt (extends + many_extends) others then true else (if nat_lt (others + many_extends) extends then false else otherwise)
