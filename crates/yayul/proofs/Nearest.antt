-- Fractions are the nearest multiples.
use Rattle.std.proofs.Common.{ℕ, zero, suc, arith}
use Rattle.yayul.specs.Laws.{ScalesToNearest}

-- no fraction of these lies midway: an odd number of units would be an even number of halves
pub scales_to_nearest : (decimals digits : ℕ) → ScalesToNearest decimals digits
scales_to_nearest d zero = λ low high. absurd (omega arith)
scales_to_nearest d (suc zero) = λ low high. record { above = omega arith; below = omega arith }
scales_to_nearest d (suc (suc zero)) = λ low high. record { above = omega arith; below = omega arith }
scales_to_nearest d (suc (suc (suc zero))) = λ low high. record { above = omega arith; below = omega arith }
scales_to_nearest d (suc (suc (suc (suc zero)))) = λ low high. record { above = omega arith; below = omega arith }
scales_to_nearest d (suc (suc (suc (suc (suc zero))))) = λ low high. record { above = omega arith; below = omega arith }
scales_to_nearest d (suc (suc (suc (suc (suc (suc zero)))))) = λ low high. record { above = omega arith; below = omega arith }
scales_to_nearest d (suc (suc (suc (suc (suc (suc (suc zero))))))) = λ low high. record { above = omega arith; below = omega arith }
scales_to_nearest d (suc (suc (suc (suc (suc (suc (suc (suc zero)))))))) = λ low high. record { above = omega arith; below = omega arith }
scales_to_nearest d (suc (suc (suc (suc (suc (suc (suc (suc (suc zero))))))))) = λ low high. record
    { above = omega arith; below = omega arith }
scales_to_nearest d (suc (suc (suc (suc (suc (suc (suc (suc (suc (suc n)))))))))) = λ low high. absurd (omega arith)
