-- What stands of bytes that are taken in a form.
use Rattle.std.proofs.Common.{◌≡◌, ◌<◌, ℕ, List, [], ◌∷◌, length, take, slice_set, refl, ap, arith}
use Rattle.rope.specs.Forms.{taken}
use Rattle.rope.specs.declared.form.Form.TheVariants.{AsWritten}

-- bytes that are taken as they stand
pub as_written : (bytes : List ℕ) → taken AsWritten bytes ≡ bytes
as_written [] = refl
as_written (byte ∷ []) = refl
as_written (high ∷ low ∷ more) = ap (λ rest. high ∷ low ∷ rest) (as_written more)

-- a byte that is set at the front of some is the first of them
pub first_set : (bytes : List ℕ) (byte : ℕ) → 0 < length bytes → take 1 (slice_set bytes 0 byte) ≡ byte ∷ []
first_set [] byte some = absurd (omega (arith, some))
first_set (other ∷ more) byte some = refl
