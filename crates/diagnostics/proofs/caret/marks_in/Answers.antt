use Rattle.std.proofs.Common.{◌≡◌, ℕ, ◌||◌, arith, map, replicate}
use Rattle.std.specs.Prelude.{◌==◌}
use Rattle.std.proofs.lemmas.Simd.{zip2_splat}
use Rattle.diagnostics.specs.Causes.{is_mark}
use lib.Lanes.{zip2}
use Rattle.yayul.proofs.Vectors.{hit, either, masked}
use Rattle.diagnostics.proofs.caret.marks_in.Goals as goal

pub returns : goal.returns
returns c =
    let v = c.args.bytes in
    let long = c.fits-bytes.0 in
    let one : (byte : ℕ) → zip2 hit v (replicate 16 byte) ≡ map (λ x. hit x byte) v = λ byte. zip2_splat hit v 16 byte long in
    masked is_mark v _ (omega arith) (
    either (λ x. x == 38 || x == 37 || x == 64 || x == 33 || x == 126) (λ x. x == 94) v
    (either (λ x. x == 38 || x == 37 || x == 64 || x == 33) (λ x. x == 126) v
    (either (λ x. x == 38 || x == 37 || x == 64) (λ x. x == 33) v
    (either (λ x. x == 38 || x == 37) (λ x. x == 64) v
    (either (λ x. x == 38) (λ x. x == 37) v (one 38) (one 37)) (one 64)) (one 33)) (one 126)) (one 94)
    )
