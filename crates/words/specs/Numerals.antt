-- Digits of text.
use Rattle.std.specs.Prelude.{ℕ, zero, suc, ◌+◌, ◌/◌, ◌%◌, List, [], ◌∷◌, ◌++◌}

-- the byte of the digit 0
abbrev pub digit_zero : ℕ
digit_zero = 48

-- the most bytes of a text that is put together from its end
abbrev pub backward_room : ℕ
backward_room = 40

-- the last k octal digits of n
unfoldable pub octal_text : ℕ → ℕ → List ℕ
octal_text zero n = []
octal_text (suc k) n = octal_text k (n / 8) ++ (digit_zero + n % 8) ∷ []
