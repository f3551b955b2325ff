-- How long the column of a line's number is.
use Rattle.std.proofs.Common.{◌≡◌, ℕ, ◌+◌, ◌-◌, ◌++◌, length, decimal, arith, length-append}
use Rattle.std.specs.Prelude.{codes}
use Rattle.std.proofs.lemmas.List.{length-replicate}
use Rattle.yayul.specs.Listing.{blanks, number_column}

pub column_long : (n : ℕ) → length (number_column n) ≡ (5 - length (decimal n)) + length (decimal n) + 1
unfolding number_column
column_long n =
    let front = length-replicate {A = ℕ} (5 - length (decimal n)) 0o40 in
    let whole = length-append (blanks (5 - length (decimal n)) ++ decimal n) (codes " ") in
    let number = length-append (blanks (5 - length (decimal n))) (decimal n) in
    omega (arith, front, whole, number)
