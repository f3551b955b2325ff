-- A word more of those that lead to a place.
use Rattle.std.proofs.Common.{◌≡◌, ℕ, zero, suc, ◌-◌, ◌<◌, ◌||◌, Bool, true, false, Option, refl, sym, ap, ◌∙◌, arith}
use Rattle.space.specs.declared.place.Linear.{Linear}
use Rattle.rope.specs.Places.{Words}
use Rattle.cpu.specs.State.{State}
use Rattle.cpu.specs.Effects.{place_in}
use Rattle.branches.specs.Leading.{arrives_at, goes_on, leads_to, onward}
use Rattle.branches.specs.declared.stand.Stand.{Stand}

passed : (a b : Bool) → a ≡ false → (a || b) ≡ b
passed true b e = absurd (cc)
passed false b e = refl

pub walked_on : (words : Words) (s : State) (place there : Linear) (left : ℕ) (at : Stand) (next : Option Stand) → 0 < left
    → there ≡ place_in s at.address → arrives_at words s place at there ≡ false → next ≡ onward words at there
    → goes_on (leads_to words s place (left - 1)) next ≡ leads_to words s place left at
unfolding leads_to
walked_on words s place there zero at next some is past on = absurd (omega (arith, some))
walked_on words s place there (suc n) at next some is past on =
    let e : suc n - 1 ≡ n = omega arith in
    ap (λ (k : ℕ). goes_on (leads_to words s place k) next) e
    ∙ ap (goes_on (leads_to words s place n)) (on ∙ ap (onward words at) is)
    ∙ sym (passed (arrives_at words s place at (place_in s at.address))
    (goes_on (leads_to words s place n) (onward words at (place_in s at.address)))
    (ap (arrives_at words s place at) (sym is) ∙ past))
