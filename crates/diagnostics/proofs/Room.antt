-- The room that numbers take.
use Rattle.std.proofs.Common.{◌≡◌, ◌∙◌, ℕ, ◌+◌, ◌^◌, ◌<◌, ◌≤◌, List, ◌++◌, length, decimal, length-append, arith, ap}
use Rattle.std.proofs.lemmas.Fmt.{length-decimal-le}

-- a number of 32 bits has at most 10 decimal digits
pub short_line : (n : ℕ) → n < 2 ^ 32 → length (decimal n) ≤ 10
short_line n h = search (arith, length-decimal-le 10)

-- the room that a number takes before a text
pub room_of :
    (n most : ℕ) (before text : List ℕ) → length (decimal n) ≤ most → text ≡ decimal n ++ before → length text ≤ most + length before
room_of n most before text few is = omega (arith, ap length is ∙ length-append (decimal n) before, few)
