-- Steps that are made once more, one after another.
use Rattle.std.proofs.Common.{◌≡◌, ℕ, zero, suc, ◌+◌, ◌-◌, ◌<◌, ◌≤◌, List, ◌++◌, refl, sym, ap, arith, append-nil}
use Rattle.words.specs.Devices.{WritesBeginning}
use Rattle.words.proofs.Texts.{append-then, beginning-after, beginning-longer}
use Rattle.cpu.specs.State.{State, Scenario}
use Rattle.cpu.specs.Run.{run}
use Rattle.replay.specs.Retraced.{texts_after, HasRetraced}
use Rattle.replay.specs.Images.{Image}
use Rattle.replay.specs.View.{SessionView}
use Rattle.replay.proofs.SessionLemmas.{shown_same, with_shown}

module _ (text : ℕ → State → List ℕ) (scenario : Scenario) (low : ℕ) where
  -- none yet
  pub texts_none : (old : List ℕ) → old ≡ old ++ texts_after text scenario low (low - low)
  texts_none old = let none : low - low ≡ 0 = omega arith in rw none (sym (append-nil old))

  -- one step more
  one_more : (at : ℕ) → low ≤ at → texts_after text scenario low (at + 1 - low)
      ≡ texts_after text scenario low (at - low) ++ text (at + 1) (run scenario at)
  one_more at h =
      let next : at + 1 - low ≡ suc (at - low) = omega (arith, h) in
      let here : low + (at - low) ≡ at = omega (arith, h) in
      rw next (ap (λ (n : ℕ). texts_after text scenario low (at - low) ++ text (n + 1) (run scenario n)) here)

  pub texts_more : (at : ℕ) (old now new : List ℕ) → low ≤ at → now ≡ old ++ texts_after text scenario low (at - low)
      → new ≡ now ++ text (at + 1) (run scenario at)
      → new ≡ old ++ texts_after text scenario low (at + 1 - low)
  texts_more at old now new h before more = rw (one_more at h) (append-then old now new _ _ before more)

  -- a beginning of the texts of some steps is one of those of more
  begins_on : (n k m : ℕ) (old new : List ℕ) → m ≡ n + k → WritesBeginning old new (texts_after text scenario low n)
      → WritesBeginning old new (texts_after text scenario low m)
  begins_on n zero m old new e part = let same : m ≡ n = omega arith in rw same part
  begins_on n (suc k) m old new e part =
      let before : WritesBeginning old new (texts_after text scenario low (n + k)) = begins_on n k (n + k) old new refl part in
      let last : m ≡ suc (n + k) = omega arith in
      rw last (beginning-longer old new _ _ before)

  -- the text of a step could not be written whole
  pub texts_part : (at high : ℕ) (old now new : List ℕ) → low ≤ at → at < high → now ≡ old ++ texts_after text scenario low (at - low)
      → WritesBeginning now new (text (at + 1) (run scenario at))
      → WritesBeginning old new (texts_after text scenario low (high - low))
  texts_part at high old now new h past before part =
      let more : WritesBeginning old new (texts_after text scenario low (at + 1 - low)) = rw (one_more at h)
      (beginning-after old now new _ _ before part) in
      begins_on (at + 1 - low) (high - (at + 1)) (high - low) old new (omega (arith, h, past)) more

-- what a session has left then
pub has_retraced : (old s : SessionView) (low count : ℕ) (scenario : Scenario) (shown : Image) (meter : ℕ) → s ≡ old → scenario ≡ s.scenario
    → s.meter ≤ meter → meter + low ≤ s.meter + s.n + count → (s.shown.0 ≤ low → meter + s.shown.0 ≤ s.meter + low + count)
    → HasRetraced old low count (with_shown s scenario shown meter)
has_retraced old s low count scenario shown meter is same least most on = rw (← is) (record {
  same = shown_same s scenario shown meter same;
  least = least;
  most = most;
  on = on;
})
