-- What was read of an image that is too long.
use Rattle.std.proofs.Common.{◌≡◌, ℕ, ◌+◌, ◌<◌, List, length, drop, sym, ◌∙◌, ap, length-append, arith}
use Rattle.std.proofs.Math.Seq.{drop-append_seam}
use Rattle.words.specs.Readings.{Takes}

-- more bytes than a number of them were taken from the front
pub taken_past : (n : ℕ) (old new : List ℕ) → Takes (n + 1) old new → (n < length old) × (new ≡ drop (n + 1) old)
taken_past n old new takes =
    let all : length old ≡ (n + 1) + length new = ap length takes.front ∙ length-append takes.bytes new
    ∙ ap (λ k. k + length new) takes.count in
    (omega (arith, all), rw (takes.front, sym takes.count) (sym (drop-append_seam takes.bytes new)))
