-- Machines that are held.
use Rattle.std.proofs.Common.{◌≡◌, ℕ, ◌+◌, ◌-◌, ap, arith}
use Rattle.std.specs.Prelude.{max}
use Rattle.whatif.specs.Images.{less_image, past_image, with_image}
use Rattle.whatif.specs.declared.images.Images.{Images}

-- one that was made is let go
pub let_go : (images : Images) → less_image (with_image images) ≡ past_image images
let_go images =
    let same : (images.held + 1) - 1 ≡ images.held = omega arith in
    ap (λ held. record { held = held; most = max images.most (images.held + 1) }) same
