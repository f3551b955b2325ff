-- The first word on a channel that two runs do not have in common.
use Rattle.std.specs.Prelude.{ℕ, true, false, zero, suc, ◌+◌, ◌==◌, ◌&&◌, Bool, List, [], ◌∷◌, ◌++◌, Option, None, Some, if◌then◌else◌}
use Rattle.cpu.specs.declared.output.Output.{Output}
use Rattle.cpu.specs.Run.{out}
use Rattle.cpu.specs.State.{Scenario}
use Rattle.differ.specs.declared.outputs.Put.{Put}
use Rattle.differ.specs.declared.outputs.OutputsApart.{OutputsApart}

-- what a step puts out
abbrev pub put_of : ℕ → Option Output → List Put
put_of step None = []
put_of step (Some o) = record { step = step; channel = o.channel; word = o.word } ∷ []

-- what k steps put out that follow the first n
unfoldable pub puts : Scenario → ℕ → ℕ → List Put
puts scenario n zero = []
puts scenario n (suc k) = put_of (n + 1) (out scenario (n + 1)) ++ puts scenario (n + 1) k

-- the same word on the same channel
abbrev pub same_put : Put → Put → Bool
same_put a b = a.channel == b.channel && a.word == b.word

abbrev pub are_same : Option Put → Option Put → Bool
are_same None b = false
are_same (Some a) None = false
are_same (Some a) (Some b) = same_put a b

abbrev pub both_none : Option Put → Option Put → Bool
both_none None None = true
both_none None (Some b) = false
both_none (Some a) b = false

-- words that are not the same, or of which one is missing: their number, and the steps that put them out
abbrev pub step_of : Option Put → Option ℕ
step_of None = None
step_of (Some a) = Some a.step

abbrev pub apart_at : ℕ → Option Put → Option Put → OutputsApart
apart_at number a b = record { number = number; here = step_of a; there = step_of b }

-- of two lists the first of them, counted on from a number
abbrev pub first_apart : ℕ → List Put → List Put → Option OutputsApart
first_apart number [] [] = None
first_apart number (a ∷ more) [] = Some (apart_at number (Some a) None)
first_apart number [] (b ∷ more) = Some (apart_at number None (Some b))
first_apart number (a ∷ more) (b ∷ others) = if same_put a b then first_apart (number + 1) more others else Some
    (apart_at number (Some a) (Some b))

-- of the first n steps of two runs
abbrev pub first_output : Scenario → Scenario → ℕ → Option OutputsApart
first_output one other n = first_apart 1 (puts one 0 n) (puts other 0 n)
