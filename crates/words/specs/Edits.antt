-- The edits of a word.
use Rattle.std.specs.Prelude.{ℕ, ◌+◌, ◌*◌, ◌/◌, ◌%◌, ◌^◌}

-- a cycle right by one
abbrev pub cyr : ℕ → ℕ
cyr w = w / 2 + 2 ^ 14 * (w % 2)

-- a cycle left by one
abbrev pub cyl : ℕ → ℕ
cyl w = 2 * w % 2 ^ 15 + w / 2 ^ 14

-- a shift right by one, which keeps bit 15 and copies it into bit 14
abbrev pub sr : ℕ → ℕ
sr w = w / 2 + 2 ^ 14 * (w / 2 ^ 14)

-- bits 14 to 8 in the place of bits 7 to 1
abbrev pub edop : ℕ → ℕ
edop w = w / 2 ^ 7 % 2 ^ 7
