-- Sessions that have gone many steps.
use Rattle.std.proofs.Common.{◌≡◌, ℕ, ◌+◌, ◌-◌, ◌*◌, ◌^◌, ◌<◌, ◌≤◌, List, refl, ◌∙◌, arith}
use Rattle.cpu.specs.State.{State, Scenario}
use Rattle.cpu.specs.Run.{run}
use Rattle.replay.specs.Images.{Image, IsRising, steps}
use Rattle.replay.specs.Memory.{step_limit}
use Rattle.replay.specs.Spacing.{AreStaying}
use Rattle.replay.specs.View.{SessionView, Stands, IsSound, AreOfRun, AreImages, HasAdvanced, counted, counted_by}
use Rattle.replay.proofs.SessionLemmas.{Fits-images, images_of}

-- no step
pub advanced_none : (s : SessionView) → Stands s → AreImages s.scenario s.n s.images → HasAdvanced s s
advanced_none s stands images = record {
  stands = stands;
  on = omega arith;
  scenario = refl;
  shown = refl;
  images = images;
  least = omega
      arith;
  twice = omega arith;
  once = omega arith;
}

-- a step more
pub advanced_on : (old s new : SessionView) → HasAdvanced old s → s.meter < 2 ^ 128 → new.n ≡ s.n + 1 → new.meter ≡ counted s.meter
    → new.scenario ≡ s.scenario → new.shown ≡ s.shown → Stands new → AreImages new.scenario new.n new.images → HasAdvanced old new
advanced_on old s new advanced low n meter scenario shown stands images = record {
  stands = stands;
  on = omega (arith, advanced.on, n);
  scenario = scenario ∙ advanced.scenario;
  shown = shown ∙ advanced.shown;
  images = images;
  least = omega (arith, advanced.on, advanced.least, n, meter);
  twice = omega (arith, advanced.twice, n, meter);
  once = omega (arith, advanced.once, n, meter);
}

-- a session after many steps is sound
pub travelled_sound : (s : SessionView) (end : ℕ) (scenario : Scenario) (kept : List Image) (meter : ℕ) (after : State) → IsSound s
    → s.n ≤ end → end ≤ step_limit → scenario ≡ s.scenario → meter < 2 ^ 128 → after ≡ run s.scenario end → IsRising kept
    → AreStaying end end (steps kept) → AreOfRun s.scenario kept
    → IsSound (record { scenario = scenario; meter = meter; images = kept; present = after; shown = s.shown; n = end })
travelled_sound s end scenario kept meter after sound later within same metered is rising staying of_run = rw same (record {
  stands = record {
    within = within;
    present = is;
    shown = (omega (arith, sound.stands.shown.0), sound.stands.shown.1);
    few = Fits-images
        end kept rising staying;
  };
  of_run = of_run;
  staying = staying;
  metered = metered;
})

-- what many steps leave
pub has_advanced : (old s : SessionView) (end : ℕ) (scenario : Scenario) (kept : List Image) (meter : ℕ) (after : State) → s ≡ old
    → IsSound (record { scenario = scenario; meter = meter; images = kept; present = after; shown = s.shown; n = end }) → IsRising kept
    → s.n < end → scenario ≡ s.scenario → counted_by (end - s.n) s.meter ≤ meter → meter + 2 * s.n ≤ s.meter + 2 * end
    → meter + s.n ≤ s.meter + end + 2 ^ 16
    → HasAdvanced old (record { scenario = scenario; meter = meter; images = kept; present = after; shown = s.shown; n = end })
has_advanced old s end scenario kept meter after is sound rising past same least most once =
    let images : AreImages scenario end kept = images_of
    (record { scenario = scenario; meter = meter; images = kept; present = after; shown = s.shown; n = end }) sound rising in
    rw (← is) (record {
      stands = sound.stands;
      on = omega (arith, past);
      scenario = same;
      shown = refl;
      images = images;
      least = least;
      twice = most;
      once = once;
    })
