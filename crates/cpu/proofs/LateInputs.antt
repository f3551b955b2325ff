-- An input above the cycles of a state changes nothing up to that state.
use Rattle.std.proofs.Common.{◌≡◌, ◌≤◌, ◌<◌, ◌++◌, ℕ, zero, suc, List, Option, refl, arith, ◌∙◌, ap}
use Rattle.std.specs.Option.{option_to_list}
use Rattle.feed.specs.declared.entry.Entry.{Entry}
use Rattle.feed.specs.Merged.{due}
use Rattle.cpu.specs.declared.output.Output.{Output}
use Rattle.cpu.specs.State.{State, Scenario}
use Rattle.cpu.specs.Next.{entry, next_by, next}
use Rattle.cpu.specs.Run.{run, out, outs}
use Rattle.cpu.specs.Additions.{AreAlikeUpTo}
use Rattle.cpu.proofs.RunLaws.{rise-run}

-- Below a cycle two lists of inputs give the same.
abbrev pub SameBelow : ℕ → List Entry → List Entry → Type 0
SameBelow cycle list other = (k cycles : ℕ) → cycles < cycle → due other k cycles ≡ due list k cycles

next-same : (scenario : Scenario) (other : List Entry) (cycle : ℕ) (s : State) → SameBelow cycle scenario.inputs other → s.cycles < cycle
    → next (record scenario { inputs = other }) s ≡ next scenario s
unfolding next
next-same scenario other cycle s same below = ap (λ o. next_by scenario.rope s o (entry s)) (same s.taken s.cycles below)

-- the step behind t others is the same
step-same : (scenario : Scenario) (other : List Entry) (cycle n t : ℕ) → SameBelow cycle scenario.inputs other
    → (run scenario n).cycles < cycle → t < n
    → next (record scenario { inputs = other }) (run (record scenario { inputs = other }) t) ≡ next scenario (run scenario t)
unfolding run
step-same scenario other cycle n zero same below few =
    next-same scenario other cycle (run scenario 0) same (let e = rise-run scenario 0 n (omega arith) in omega arith)
step-same scenario other cycle n (suc t) same below few =
    ap (λ p. next (record scenario { inputs = other }) p.0) (step-same scenario other cycle n t same below (omega arith))
    ∙ next-same scenario other cycle (run scenario (suc t)) same (let e = rise-run scenario (suc t) n (omega arith) in omega arith)

run-same : (scenario : Scenario) (other : List Entry) (cycle n t : ℕ) → SameBelow cycle scenario.inputs other
    → (run scenario n).cycles < cycle → t ≤ n
    → run (record scenario { inputs = other }) t ≡ run scenario t
unfolding run
run-same scenario other cycle n zero same below few = refl
run-same scenario other cycle n (suc t) same below few = ap (λ p. p.0) (step-same scenario other cycle n t same below (omega arith))

out-same : (scenario : Scenario) (other : List Entry) (cycle n t : ℕ) → SameBelow cycle scenario.inputs other
    → (run scenario n).cycles < cycle → t ≤ n
    → out (record scenario { inputs = other }) t ≡ out scenario t
unfolding out
out-same scenario other cycle n zero same below few = refl
out-same scenario other cycle n (suc t) same below few = ap (λ p. p.1) (step-same scenario other cycle n t same below (omega arith))

outs-same : (scenario : Scenario) (other : List Entry) (cycle n t : ℕ) → SameBelow cycle scenario.inputs other
    → (run scenario n).cycles < cycle → t ≤ n
    → outs (record scenario { inputs = other }) t ≡ outs scenario t
unfolding outs
outs-same scenario other cycle n zero same below few = refl
outs-same scenario other cycle n (suc t) same below few =
    ap (λ (o : List Output). o ++ option_to_list (out (record scenario { inputs = other }) (suc t)))
    (outs-same scenario other cycle n t same below (omega arith))
    ∙ ap (λ (o : Option Output). outs scenario t ++ option_to_list o) (out-same scenario other cycle n (suc t) same below few)

-- Where two lists give the same below a cycle, the runs are alike up to each step whose cycles are below it.
pub runs-alike : (scenario : Scenario) (other : List Entry) (cycle n : ℕ) → SameBelow cycle scenario.inputs other
    → (run scenario n).cycles < cycle → AreAlikeUpTo scenario (record scenario { inputs = other }) n
runs-alike scenario other cycle n same below = λ t few. record {
  state = run-same scenario other cycle n t same below few;
  output = out-same scenario other cycle n t same below few;
  outputs = outs-same scenario other cycle n t same below few;
}
