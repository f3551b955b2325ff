-- Rows of layouts and octal words, worked by hand.
use Rattle.std.proofs.Common.{◌≡◌, List, [], ◌∷◌, ℕ, true, false, refl}
use Rattle.std.specs.Prelude.{codes}
use Rattle.words.specs.Numerals.{octal_text}
use Rattle.audit.specs.Layouts.{arranged, by_number, complemented, module_byte, swapped}
use Rattle.audit.specs.Octals.{bank_head, behind}

-- bank 2 stands behind 4,096 bytes of banks 0 and 1, and bank 0 at the first byte; bank 4 where it stands else
bank_two : by_number true 0 ≡ 4096
bank_two = refl

bank_zero : by_number true 4097 ≡ 1
bank_zero = refl

last_of_one : by_number true 8191 ≡ 4095
last_of_one = refl

bank_four : by_number true 8192 ≡ 8192
bank_four = refl

second_first : swapped true 6 ≡ 7
second_first = refl

first_second : swapped true 7 ≡ 6
first_second = refl

other_bits : complemented true 0o13 ≡ 0o364
other_bits = refl

-- two words: 64005 is 320 and 013 with its parity bit 1, 00006 is 000 and 015
four : List ℕ
four = 0o13 ∷ 0o320 ∷ 0o15 ∷ 0 ∷ []

turned : arranged (record { is_swapped = true; is_complemented = false; is_numbered = false }) four ≡ 0o320 ∷ 0o13 ∷ 0 ∷ 0o15 ∷ []
unfolding four arranged
turned = refl

both : arranged (record { is_swapped = true; is_complemented = true; is_numbered = false }) four ≡ 0o57 ∷ 0o364 ∷ 0o377 ∷ 0o362 ∷ []
unfolding four arranged
both = refl

-- module 2 is banks 6 to 013: 12,288 bytes from byte 12,288 on; elsewhere stand 000 and 001, as in an empty bank of version 2
first_of_module : module_byte 2 0 1 four 12288 ≡ 0o13
unfolding four
first_of_module = refl

before_module : module_byte 2 0 1 four 12287 ≡ 1
before_module = refl

behind_module : module_byte 2 0 1 four 24576 ≡ 0
behind_module = refl

head : bank_head 2 ≡ codes "BANK=02\n"
unfolding bank_head octal_text
head = refl

within_a_line : behind false ≡ codes " "
within_a_line = refl
