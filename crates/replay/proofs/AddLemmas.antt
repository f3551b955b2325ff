-- An input that is added leaves a session as it was, up to its present.
use Rattle.std.proofs.Common.{◌≡◌, ℕ, ◌<◌, List, get_or, ◌∙◌, sym, ap, arith}
use Rattle.std.specs.List.{Contains}
use Rattle.std.proofs.lemmas.List.Elements.{Contains-get_or}
use Rattle.cpu.specs.State.{State, Scenario, Processing}
use Rattle.cpu.specs.Run.{run}
use Rattle.cpu.specs.FeedInput.{Input}
use Rattle.cpu.specs.Additions.{AddsInput, AreAlikeUpTo}
use Rattle.replay.specs.Images.{Image, steps}
use Rattle.replay.specs.View.{SessionView, Stands, AreOfRun, IsSound, HasAdded}
use Rattle.replay.proofs.ImageLemmas.{contains_step}

-- images before step n are of a run that is alike up to there
of_run_alike : (scenario other : Scenario) (n : ℕ) (images : List Image) → AreOfRun scenario images
    → ((c : ℕ) → Contains (steps images) c → c < n) → AreAlikeUpTo scenario other n → AreOfRun other images
of_run_alike scenario other n images of_run past alike k d below =
    let i = get_or images k d in
    let early : i.0 < n = past i.0 (contains_step images i (Contains-get_or images k d below)) in
    of_run k d below ∙ sym (alike i.0 (omega arith)).state

stands_alike : (s : SessionView) (other : Scenario) (meter : ℕ) → Stands s → AreAlikeUpTo s.scenario other s.n
    → Stands (record { scenario = other; meter = meter; images = s.images; present = s.present; shown = s.shown; n = s.n })
stands_alike s other meter stands alike = record {
  within = stands.within;
  present = stands.present ∙ sym (alike s.n (omega arith)).state;
  shown = (stands.shown.0, stands.shown.1 ∙ sym (alike s.shown.0 stands.shown.0).state);
  few = stands.few;
}

-- the run is alike up to the present, whose cycles are below that of the input
alike_here : (s : SessionView) (other : Scenario) (cycle : ℕ) → Stands s → s.present.cycles < cycle
    → ((n : ℕ) → (run s.scenario n).cycles < cycle → AreAlikeUpTo s.scenario other n) → AreAlikeUpTo s.scenario other s.n
alike_here s other cycle stands below later =
    let e = ap (λ (m : State). m.cycles) stands.present in
    later s.n (omega arith)

pub added_sound : (s : SessionView) (new : Processing) (cycle : ℕ) (input : Input) → IsSound s → s.present.cycles < cycle
    → AddsInput cycle input (record { scenario = s.scenario; meter = s.meter }) new
    → ((n : ℕ) → (run s.scenario n).cycles < cycle → AreAlikeUpTo s.scenario new.scenario n)
    → IsSound (record { scenario = new.scenario; meter = new.meter; images = s.images; present = s.present; shown = s.shown; n = s.n })
added_sound s new cycle input sound below adds later =
    let alike = alike_here s new.scenario cycle sound.stands below later in
    record {
      stands = stands_alike s new.scenario new.meter sound.stands alike;
      of_run = of_run_alike s.scenario new.scenario s.n s.images sound.of_run (λ c h. ((sound.staying c).0 h).0) alike;
      staying = sound.staying;
      metered = omega (arith, adds.meter, sound.metered);
    }

pub has_added : (old s : SessionView) (new : Processing) (cycle : ℕ) (input : Input) → s ≡ old → IsSound s → s.present.cycles < cycle
    → AddsInput cycle input (record { scenario = s.scenario; meter = s.meter }) new
    → ((n : ℕ) → (run s.scenario n).cycles < cycle → AreAlikeUpTo s.scenario new.scenario n)
    → HasAdded old cycle input (record {
      scenario = new.scenario;
      meter = new.meter;
      images = s.images;
      present = s.present;
      shown
          = s.shown;
      n = s.n;
    })
has_added old s new cycle input is sound below adds later =
    let alike = alike_here s new.scenario cycle sound.stands below later in
    rw (← is) (record {
      stands = stands_alike s new.scenario new.meter sound.stands alike;
      rope = adds.rope;
      inputs = adds.inputs;
      alike = alike;
      same = ap (λ (m : ℕ). let q : SessionView = record
          { scenario = new.scenario; meter = m; images = s.images; present = s.present; shown = s.shown; n = s.n }
          in q) adds.meter;
    })
