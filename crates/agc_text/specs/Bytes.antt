-- The bytes that lines, fields and numbers are told apart by.
use Rattle.std.specs.Prelude.{ℕ, Bool, ◌==◌, ◌&&◌, ◌||◌, nat_le}

abbrev pub space : ℕ
space = 0o40

abbrev pub tab : ℕ
tab = 0o11

abbrev pub comment_sign : ℕ
comment_sign = 0o43

abbrev pub line_feed : ℕ
line_feed = 0o12

-- the digit 0
abbrev pub zero_digit : ℕ
zero_digit = 0o60

-- the last character that prints
abbrev pub tilde : ℕ
tilde = 0o176

-- a byte that a line may hold: a space, a character that prints, or a tab
abbrev pub is_text_byte : ℕ → Bool
is_text_byte byte = (nat_le space byte && nat_le byte tilde) || byte == tab

-- the most bytes of a line, without its line feed
abbrev pub line_length : ℕ
line_length = 120
