-- What a session keeps, and what its calls leave.
use Rattle.std.proofs.Common.{◌≡◌, ℕ, suc, ◌+◌, ◌-◌, ◌^◌, ◌<◌, ◌≤◌, List, [], ◌∷◌, ◌++◌, length, get_or, inl, inr, sym, ◌∙◌, ap, arith}
use Rattle.std.proofs.Common.{Option}
use Rattle.std.specs.List.{Contains}
use Rattle.std.proofs.lemmas.Bool.{cases_lt}
use Rattle.std.proofs.lemmas.List.{length-map, map-append}
use Rattle.std.proofs.lemmas.List.Elements.{All-contains, All-push, Contains-append_left, Contains-get_or, Contains-push}
use Rattle.cpu.specs.State.{State, Scenario, Processing, start, FitsRun}
use Rattle.cpu.specs.Next.{next}
use Rattle.cpu.specs.Run.{run, out}
use Rattle.cpu.specs.declared.output.Output.{Output}
use Rattle.cpu.proofs.RunLaws.{run-zero, run-add-one, out-add-one, cycles-run}
use Rattle.cpu.proofs.TakenLaws.{run-fits}
use Rattle.replay.specs.Images.{Image, IsRising, steps}
use Rattle.replay.specs.Memory.{Fits, step_limit}
use Rattle.replay.specs.Spacing.{AreStaying}
use Rattle.std.proofs.Math.Nat.{one-dvd}
use Rattle.replay.specs.View.{SessionView, Stands, IsOfRun, AreOfRun, AreImages, IsSound, HasShown}
use Rattle.replay.proofs.FewImages.{Rises, Fits-staying, Fits-start}
use Rattle.replay.proofs.StepLemmas.{contains_none, contains_push_cases}
use Rattle.replay.proofs.StayingLemmas.{stays_covers}

-- what a session is seen as, by its fields
abbrev pub view_of : Processing → List Image → State → ℕ → State → ℕ → SessionView
view_of processor images present step machine n = record {
  scenario = processor.scenario;
  meter = processor.meter;
  images = images;
  present = present;
  shown = (step, machine);
  n = n;
}

pub Rises-steps : (images : List Image) → IsRising images → Rises (steps images)
Rises-steps [] h = tt
Rises-steps (a ∷ []) h = tt
Rises-steps (a ∷ b ∷ r) h = (
  h 0 1 a (omega arith) (omega arith),
  Rises-steps (b ∷ r)
      (λ i j d ij in_range. h (suc i) (suc j) d (omega arith) (omega arith)),
)

-- so few machines are held, the present and the shown one with them
pub Fits-images : (n : ℕ) (images : List Image) → IsRising images → AreStaying n n (steps images) → Fits (length images + 2) n
Fits-images n images rising staying = rw length-map at (Fits-staying n (steps images) (Rises-steps images rising) staying)

pub start_stands : (scenario : Scenario) (images : List Image) (meter : ℕ) → images ≡ []
    → Stands (record { scenario = scenario; meter = meter; images = images; present = start; shown = (0, start); n = 0 })
start_stands scenario images meter e = rw e (record {
  within = omega arith;
  present = sym (run-zero scenario);
  shown = (omega arith, sym (run-zero scenario));
  few = Fits-start;
})

pub starts_sound : (scenario : Scenario) (images : List Image) (meter : ℕ) → images ≡ [] → meter < 2 ^ 128
    → IsSound (record { scenario = scenario; meter = meter; images = images; present = start; shown = (0, start); n = 0 })
starts_sound scenario images meter e metered =
    let stands = start_stands scenario images meter e in
    rw e (record {
      stands = rw e at stands;
      of_run = λ k d h. absurd (omega arith);
      staying = λ c. (λ h. absurd (contains_none c h), λ is. absurd (omega (arith, is.0)));
      metered = metered;
    })

-- the images of a session
pub images_of : (s : SessionView) → IsSound s → IsRising s.images → AreImages s.scenario s.n s.images
images_of s sound rising = record { rising = rising; staying = sound.staying; of_run = sound.of_run }

-- with the image of step n the kept steps are those below n + 1 that stayed at step n
pub staying_after : (n : ℕ) (images kept : List Image) (s : State) → AreStaying n n (steps images) → kept ≡ images ++ (n, s) ∷ []
    → AreStaying (n + 1) (n + 1 - 1) (steps kept)
staying_after n images kept s staying e c =
    let same : n + 1 - 1 ≡ n = omega arith in
    rw (same, e, map-append) (
      λ h. elim (contains_push_cases (steps images) n c h) [
        | inl old ↦ let is = (staying c).0 old in (omega (arith, is.0), is.1)
        | inr now ↦ (omega arith, (0, one-dvd c, omega arith))
      ],
      λ is. elim (cases_lt c n) [
        | inl early ↦ Contains-append_left (steps images) (n ∷ []) c ((staying c).1 (early, is.1))
        | inr late ↦ let now : n ≡ c = omega (arith, is.0) in rw (← now) (Contains-push (steps images) n)
      ],
    )

pub of_run_after : (scenario : Scenario) (n : ℕ) (images kept thinned : List Image) (s : State) → AreOfRun scenario images
    → s ≡ run scenario n → kept ≡ images ++ (n, s) ∷ [] → ((i : Image) → Contains thinned i → Contains kept i) → AreOfRun scenario thinned
of_run_after scenario n images kept thinned s of_run is e part k d below =
    let all : AreOfRun scenario kept = rw e (All-push (λ (i : Image). i.1 ≡ run scenario i.0) images (n, s) of_run is) in
    let i = get_or thinned k d in
    All-contains (λ (i : Image). i.1 ≡ run scenario i.0) kept i all (part i (Contains-get_or thinned k d below))

-- a step of the machine that stands at the state after k steps, and what it puts out
made : (scenario : Scenario) (k : ℕ) (before after : State) (output : Option Output) → k < 2 ^ 40 → before ≡ run scenario k
    → (before.cycles ≤ 2 ^ 62 → FitsRun scenario before → (after, output) ≡ next scenario before)
    → (after, output) ≡ next scenario (run scenario k)
made scenario k before after output low is step =
    let e = ap (λ (s : State). s.cycles) is in
    step (omega (arith, cycles-run scenario k)) (rw is (run-fits scenario k)) ∙ ap (next scenario) is

pub steps_on : (scenario : Scenario) (k : ℕ) (before after : State) (output : Option Output) → k < 2 ^ 40 → before ≡ run scenario k
    → (before.cycles ≤ 2 ^ 62 → FitsRun scenario before → (after, output) ≡ next scenario before) → after ≡ run scenario (k + 1)
steps_on scenario k before after output low is step =
    ap (λ (p : State × Option Output). p.0) (made scenario k before after output low is step) ∙ sym (run-add-one scenario k)

pub puts_out : (scenario : Scenario) (k : ℕ) (before after : State) (output : Option Output) → k < 2 ^ 40 → before ≡ run scenario k
    → (before.cycles ≤ 2 ^ 62 → FitsRun scenario before → (after, output) ≡ next scenario before) → output ≡ out scenario (k + 1)
puts_out scenario k before after output low is step =
    ap (λ (p : State × Option Output). p.1) (made scenario k before after output low is step) ∙ sym (out-add-one scenario k)

-- a step further, with the images thinned
pub goes_sound : (s : SessionView) (after : State) (output : Option Output) (scenario : Scenario) (kept thinned : List Image) (meter : ℕ)
    → IsSound s → s.n < step_limit → scenario ≡ s.scenario → meter < 2 ^ 128 → kept ≡ s.images ++ (s.n, s.present) ∷ []
    → (s.present.cycles ≤ 2 ^ 62 → FitsRun s.scenario s.present → (after, output) ≡ next s.scenario s.present)
    → IsRising thinned → AreStaying (s.n + 1) (s.n + 1) (steps thinned) → ((i : Image) → Contains thinned i → Contains kept i)
    → IsSound (record { scenario = scenario; meter = meter; images = thinned; present = after; shown = s.shown; n = s.n + 1 })
goes_sound s after output scenario kept thinned meter sound low same metered is stepped rising staying part = rw same (record {
  stands = record {
    within = omega arith;
    present = steps_on s.scenario s.n s.present after output (omega arith) sound.stands.present stepped;
    shown = (omega (arith, sound.stands.shown.0), sound.stands.shown.1);
    few = Fits-images (s.n + 1) thinned rising staying;
  };
  of_run = of_run_after s.scenario s.n s.images kept thinned s.present sound.of_run sound.stands.present is part;
  staying = staying;
  metered = metered;
})

-- a session that shows another machine, after so many steps in all
abbrev pub with_shown : SessionView → Scenario → Image → ℕ → SessionView
with_shown s scenario shown meter = record
    { scenario = scenario; meter = meter; images = s.images; present = s.present; shown = shown; n = s.n }

pub shown_same : (s : SessionView) (scenario : Scenario) (shown : Image) (meter : ℕ) → scenario ≡ s.scenario
    → with_shown s scenario shown meter ≡ with_shown s s.scenario shown meter
shown_same s scenario shown meter same = ap (λ (q : Scenario). with_shown s q shown meter) same

-- a session stays sound where only the shown machine and the meter change
pub shown_sound : (s : SessionView) (scenario : Scenario) (shown : Image) (meter : ℕ) → IsSound s → scenario ≡ s.scenario → meter < 2 ^ 128
    → IsOfRun s.scenario s.n shown → IsSound (with_shown s scenario shown meter)
shown_sound s scenario shown meter sound same metered of_run = rw same (record {
  stands = record { within = sound.stands.within; present = sound.stands.present; shown = of_run; few = sound.stands.few };
  of_run = sound.of_run;
  staying = sound.staying;
  metered = metered;
})

-- what showing an earlier step leaves, where the processor has gone no more steps than from any image that is early enough
pub has_shown : (old s : SessionView) (t : ℕ) (scenario : Scenario) (shown : Image) (meter : ℕ) → s ≡ old → IsSound s → t < s.n
    → scenario ≡ s.scenario → meter < 2 ^ 128 → s.meter ≤ meter → ((c : ℕ) → Contains (steps s.images) c → c ≤ t → meter + c ≤ s.meter + t)
    → shown.0 ≡ t → shown.1 ≡ run s.scenario t → (s.shown.0 ≤ t → meter + s.shown.0 ≤ s.meter + t)
    → HasShown old t (with_shown s scenario shown meter)
has_shown old s t scenario shown meter is sound early same metered least most at of_run on =
    let c = stays_covers s.n (steps s.images) sound.staying t early in
    let cost = most c.0 c.1 c.2 in
    rw (← is) (record {
      stands = (shown_sound s scenario shown meter sound same metered
          (omega (arith, at, early), of_run ∙ ap (run s.scenario) (sym at))).stands;
      same = shown_same s scenario shown meter same;
      unchanged = λ late. absurd (omega arith);
      least = least;
      cheap = λ _. omega (arith, c.3);
      at = λ _. at;
      on = on;
    })
