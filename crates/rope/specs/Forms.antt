-- How the bytes of an image are taken before it is read.
use Rattle.std.specs.Prelude.{ℕ, ◌+◌, ◌*◌, ◌/◌, ◌%◌, List, [], ◌∷◌}
use Rattle.rope.specs.declared.form.Form.{Form}
use Rattle.rope.specs.declared.form.Form.TheVariants.{AsWritten, ParityIgnored, Hardware, HardwareParityIgnored}

-- two bytes as a number: its highest bit stays, the one below it becomes the lowest, and the others move up by one
abbrev pub reordered : ℕ → ℕ
reordered bytes = 0o100000 * (bytes / 0o100000) + 2 * (bytes % 0o40000) + bytes / 0o40000 % 2

-- the first of a word's two bytes
abbrev pub high_in : Form → ℕ → ℕ → ℕ
high_in AsWritten high low = high
high_in ParityIgnored high low = high
high_in Hardware high low = reordered (0o400 * high + low) / 0o400
high_in HardwareParityIgnored high low = reordered (0o400 * high + low) / 0o400

-- the second one: its lowest bit is 0 where parity is ignored
abbrev pub low_in : Form → ℕ → ℕ → ℕ
low_in AsWritten high low = low
low_in ParityIgnored high low = 2 * (low / 2)
low_in Hardware high low = reordered (0o400 * high + low) % 0o400
low_in HardwareParityIgnored high low = 2 * (reordered (0o400 * high + low) % 0o400 / 2)

-- the bytes, two by two; a last one alone stays
abbrev pub taken : Form → List ℕ → List ℕ
taken form [] = []
taken form (byte ∷ []) = byte ∷ []
taken form (high ∷ low ∷ more) = high_in form high low ∷ low_in form high low ∷ taken form more
