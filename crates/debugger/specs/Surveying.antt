-- What a step adds to a bucket. Only the proofs of surveys stand on this.
use Rattle.std.specs.Prelude.{◌≡◌, ◌<◌, ◌≤◌, ℕ, zero, suc, ◌+◌, ◌-◌, ◌^◌, ◌==◌, min, Bool, true, false, List, [], ◌∷◌, map, if◌then◌else◌}
use Rattle.commands.specs.declared.subject.Subject.{Subject}
use Rattle.cpu.specs.State.{State, Scenario}
use Rattle.cpu.specs.Next.{next}
use Rattle.replay.specs.View.{SessionView}
use Rattle.debugger.specs.History.{word_of}
use Rattle.debugger.specs.Surveys.{Bucket, begun_with, gone_on_with, enters_interrupt, takes_input, puts_out}
use Rattle.debugger.specs.declared.watch.Watch.{Watch}

-- a word that a step has left as it was says nothing new
abbrev pub seen_again : Watch → ℕ → Watch
seen_again watch w = if w == watch.last then watch else gone_on_with watch w

abbrev pub watch_seen : Bool → State → Watch → Watch
watch_seen true s watch = begun_with watch.subject (word_of s watch.subject)
watch_seen false s watch = seen_again watch (word_of s watch.subject)

-- a count, as far as it goes
abbrev pub counted_if : Bool → ℕ → ℕ
counted_if does count = min (count + (if does then 1 else 0)) (2 ^ 64 - 1)

-- before its first step
abbrev pub no_steps : List Subject → Bucket
no_steps subjects = record { cycles = 0; entries = 0; inputs = 0; outputs = 0; watches = map (λ subject. begun_with subject 0) subjects }

-- after one step more, which is its first or not
abbrev pub bucket_seen : Bool → Scenario → State → Bucket → Bucket
bucket_seen is_first scenario s b =
    let after = (next scenario s).0 in
    record {
      cycles = after.cycles;
      entries = counted_if (enters_interrupt scenario s) b.entries;
      inputs = counted_if (takes_input scenario s) b.inputs;
      outputs = counted_if (puts_out scenario s) b.outputs;
      watches = map (watch_seen is_first after) b.watches;
    }

-- the first so many of some words have been looked at
abbrev pub seen_up_to : {X : Type 0} → (X → X) → ℕ → List X → List X
seen_up_to f zero xs = xs
seen_up_to f (suc i) [] = []
seen_up_to f (suc i) (x ∷ xs) = f x ∷ seen_up_to f i xs

-- the steps after step from up to step low were made once, one bucket after another, and the last of them is shown
pub record HasSurveyed (old : SessionView) (from low : ℕ) (now : SessionView) : Type 0 where
  pub same : now ≡ record old { shown = now.shown; meter = now.meter }
  pub least : old.meter ≤ now.meter
  pub most : from ≤ old.n → now.meter + from ≤ old.meter + old.n + (low - from)
  pub on : old.shown.0 ≤ from → now.meter + old.shown.0 ≤ old.meter + from + (low - from)
  pub shown : from < low → now.shown.0 ≡ low
  pub begun : low ≡ from → now ≡ old
