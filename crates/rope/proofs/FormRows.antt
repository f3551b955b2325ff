-- Rows of the forms, and of the places of words in an image, worked by hand.
use Rattle.std.proofs.Common.{◌≡◌, [], ◌∷◌, refl}
use Rattle.rope.specs.Dumps.{byte_of}
use Rattle.rope.specs.Forms.{taken}
use Rattle.rope.specs.declared.form.Form.TheVariants.{ParityIgnored, Hardware, HardwareParityIgnored}

-- 52006 and 00004 have 5 and 1 one bits: a parity bit of 0. The lowest bit of the first is passed over
ignored : taken ParityIgnored (0o250 ∷ 0o15 ∷ 0 ∷ 0o10 ∷ 0o7 ∷ []) ≡ 0o250 ∷ 0o14 ∷ 0 ∷ 0o10 ∷ 0o7 ∷ []
ignored = refl

-- 52006 in hardware form is 1, the parity bit 0, and 12006; 00000 is 0, 1, and 00000
hardware : taken Hardware (0o224 ∷ 6 ∷ 0o100 ∷ 0 ∷ []) ≡ 0o250 ∷ 0o14 ∷ 0 ∷ 1 ∷ []
hardware = refl

hardware_ignored : taken HardwareParityIgnored (0o324 ∷ 6 ∷ 0o100 ∷ 0 ∷ []) ≡ 0o250 ∷ 0o14 ∷ 0 ∷ 0 ∷ []
hardware_ignored = refl

-- the image begins with bank 2; bank 0 is its third bank, and bank 4 its fifth
first_of_two : byte_of 2 0 ≡ 0
first_of_two = refl

second_of_three : byte_of 3 1 ≡ 2050
second_of_three = refl

first_of_none : byte_of 0 0 ≡ 4096
first_of_none = refl

last_of_all : byte_of 0o43 0o1777 ≡ 73726
last_of_all = refl
