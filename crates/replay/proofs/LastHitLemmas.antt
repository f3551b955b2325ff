use Rattle.std.proofs.Common.{◌≡◌, ℕ, ◌+◌, ◌≤◌, Bool, true, false, cond, Option, Some, None, inl, inr}
use Rattle.std.proofs.Common.{sym, arith}
use Rattle.std.proofs.lemmas.Bool.{cases_lt}
use Rattle.cpu.specs.State.{Scenario}
use Rattle.replay.specs.Images.{Image}
use Rattle.replay.specs.View.{SessionView}
use Rattle.replay.specs.LastHit.{IsLastHit, HasSearched}
use Rattle.replay.proofs.SessionLemmas.{shown_same, with_shown}

-- with one more step, which is a hit or not
pub last_more : (hit : ℕ → Bool) (low k : ℕ) (last : Option ℕ) (b : Bool) → low ≤ k → IsLastHit hit low k last → b ≡ hit k
    → IsLastHit hit low (k + 1) (cond b (Some k) last)
last_more hit low k last true order before is = (order, omega arith, sym is, λ u above below. absurd (omega arith))
last_more hit low k None false order before is = λ u above below. elim (cases_lt u k) [
  | inl earlier ↦ before u above earlier
  | inr now ↦ let e : u ≡ k = omega arith in rw e (sym is)
]
last_more hit low k (Some t) false order before is = (
  before.0,
  omega (arith, before.1),
  before.2,
  λ u above below. elim (cases_lt u k) [
    | inl earlier ↦ before.3 u above earlier
    | inr now ↦ let e : u ≡ k = omega arith in rw e (sym is)
  ],
)

-- none so far
pub last_none : (hit : ℕ → Bool) (low : ℕ) → IsLastHit hit low low None
last_none hit low = λ u above below. absurd (omega arith)

-- what a search on leaves
pub has_searched : (old s : SessionView) (scenario : Scenario) (shown : Image) (meter : ℕ) → s ≡ old → scenario ≡ s.scenario
    → s.meter ≤ meter → meter ≤ s.meter + s.n
    → HasSearched old (with_shown s scenario shown meter)
has_searched old s scenario shown meter is same least most = rw (← is) (record {
  same = shown_same s scenario shown meter same;
  least = least;
  most = most;
})
