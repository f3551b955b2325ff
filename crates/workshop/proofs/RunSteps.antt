-- A run, step by step.
use Rattle.std.proofs.Common.{◌≡◌, ℕ, ◌+◌, ◌-◌, ◌^◌, ◌<◌, ◌≤◌, List, [], ◌++◌, length, Option, Some, None, refl, sym, ap, ◌∙◌}
use Rattle.std.proofs.Common.{arith, append-nil, length-append, subst}
use Rattle.std.proofs.lemmas.List.Concat.{flat_map-append}
use Rattle.std.specs.Option.{option_to_list}
use Rattle.words.proofs.Texts.{first_begins}
use Rattle.cpu.specs.declared.output.Output.{Output}
use Rattle.cpu.specs.State.{Scenario, State, FitsRun}
use Rattle.cpu.specs.Next.{next}
use Rattle.cpu.specs.Run.{run, out, outs}
use Rattle.cpu.specs.Silent.{IsSilent}
use Rattle.cpu.proofs.RunLaws.{run-add-one, out-add-one, outs-zero, outs-add-one, cycles-run}
use Rattle.cpu.proofs.SilentLaws.{silent_outs}
use Rattle.cpu.proofs.TakenLaws.{run-fits}
use Rattle.cpu.specs.ChannelLines.{channel_line, channel_lines}
use Rattle.workshop.specs.Runs.{outputs_after}
use Rattle.workshop.specs.Stepping.{CountsLines, Grows}
use Rattle.workshop.specs.Progress.{run_text}

pub lines_of_none : channel_lines (option_to_list None) ≡ []
unfolding channel_lines
lines_of_none = refl

pub lines_of_one : (o : Output) → channel_lines (option_to_list (Some o)) ≡ channel_line o
unfolding channel_lines
lines_of_one o = append-nil (channel_line o)

pub lines_of_both : (l m : List Output) → channel_lines (l ++ m) ≡ channel_lines l ++ channel_lines m
unfolding channel_lines
lines_of_both l m = flat_map-append channel_line l m

pub few_cycles : (scenario : Scenario) (n : ℕ) (s : State) → s ≡ run scenario n → n < 2 ^ 40 → s.cycles ≤ 2 ^ 62
few_cycles scenario n s e h = rw e (omega (arith, cycles-run scenario n))

pub fits_after : (scenario : Scenario) (n : ℕ) (s : State) → s ≡ run scenario n → FitsRun scenario s
fits_after scenario n s e = rw e (run-fits scenario n)

pub outs_more : (scenario : Scenario) (n : ℕ) → outs scenario (n + 1) ≡ outs scenario n ++ outputs_after scenario (run scenario n)
outs_more scenario n =
    outs-add-one scenario n ∙ ap (λ (o : Option Output). outs scenario n ++ option_to_list o) (out-add-one scenario n)

pub lines_more : (scenario : Scenario) (n : ℕ)
    → channel_lines (outs scenario (n + 1)) ≡ channel_lines (outs scenario n) ++ channel_lines (outputs_after scenario (run scenario n))
unfolding channel_lines
lines_more scenario n =
    ap channel_lines (outs_more scenario n) ∙ flat_map-append channel_line (outs scenario n) (outputs_after scenario (run scenario n))

pub count_more : (scenario : Scenario) (n : ℕ)
    → length (outs scenario (n + 1)) ≡ length (outs scenario n) + length (outputs_after scenario (run scenario n))
count_more scenario n = ap length (outs_more scenario n) ∙ length-append (outs scenario n) (outputs_after scenario (run scenario n))

pub state_more : (scenario : Scenario) (n : ℕ) (s t : State) → s ≡ run scenario n → t ≡ (next scenario s).0 → t ≡ run scenario (n + 1)
state_more scenario n s t e h = rw (run-add-one scenario n) (subst (λ (u : State). t ≡ (next scenario u).0) e h)

pub outputs_more : (scenario : Scenario) (n : ℕ) (s : State) (k j : ℕ) → s ≡ run scenario n → k ≡ length (outs scenario n)
    → j ≡ length (outputs_after scenario s)
    → k + j ≡ length (outs scenario (n + 1))
outputs_more scenario n s k j e p q =
    let here : j ≡ length (outputs_after scenario (run scenario n)) = subst (λ (u : State). j ≡ length (outputs_after scenario u)) e q in
    rw (count_more scenario n, p, here) refl

-- the lines of a run with that of the step that follows a state
pub text_after : (scenario : Scenario) (n : ℕ) (s : State) → s ≡ run scenario n
    → run_text scenario (n + 1) ≡ run_text scenario n ++ channel_lines (outputs_after scenario s)
text_after scenario n s here = rw here (lines_more scenario n)

pub counts_after : (scenario : Scenario) (n : ℕ) (s : State) (k j : ℕ) → s ≡ run scenario n → CountsLines scenario n k
    → j ≡ k + length (outputs_after scenario s) → j ≤ k + 1 → CountsLines scenario (n + 1) j
counts_after scenario n s k j here before is few =
    record {
      all = is ∙ outputs_more scenario n s k (length (outputs_after scenario s)) here before.all refl;
      few = omega (arith, few, before.few);
    }

-- ## Many steps of which none but the last puts anything out
-- what they put out
pub outs_at : (scenario : Scenario) (n to : ℕ) → n < to → IsSilent scenario n (to - 1)
    → outs scenario to ≡ outs scenario n ++ option_to_list (out scenario to)
outs_at scenario n to h silent =
    let last : (to - 1) + 1 ≡ to = omega (arith, h) in
    subst (λ m. outs scenario m ≡ outs scenario (to - 1) ++ option_to_list (out scenario m)) last (outs-add-one scenario (to - 1))
    ∙ ap (λ (l : List Output). l ++ option_to_list (out scenario to)) (silent_outs scenario n (to - 1) (omega (arith, h)) silent)

outs_to : (scenario : Scenario) (n to : ℕ) (put : Option Output) → n < to → IsSilent scenario n (to - 1) → put ≡ out scenario to
    → outs scenario to ≡ outs scenario n ++ option_to_list put
outs_to scenario n to put h silent e =
    outs_at scenario n to h silent ∙ ap (λ (o : Option Output). outs scenario n ++ option_to_list o) (sym e)

pub text_to : (scenario : Scenario) (n to : ℕ) (put : Option Output) → n < to → IsSilent scenario n (to - 1) → put ≡ out scenario to
    → run_text scenario to ≡ run_text scenario n ++ channel_lines (option_to_list put)
text_to scenario n to put h silent e = ap channel_lines (outs_to scenario n to put h silent e) ∙ lines_of_both _ _

pub counts_to : (scenario : Scenario) (n to : ℕ) (put : Option Output) (k j : ℕ) → n < to → IsSilent scenario n (to - 1)
    → put ≡ out scenario to → CountsLines scenario n k → j ≡ k + length (option_to_list put) → j ≤ k + 1 → CountsLines scenario to j
counts_to scenario n to put k j h silent e before is few =
    record {
      all = is ∙ ap (λ (x : ℕ). x + length (option_to_list put)) before.all
          ∙ sym (ap length (outs_to scenario n to put h silent e) ∙ length-append (outs scenario n) (option_to_list put));
      few = omega (arith, few, h, before.few);
    }

-- as long as nothing is put out no line is
pub text_silent : (scenario : Scenario) (n m : ℕ) → n ≤ m → IsSilent scenario n m → run_text scenario m ≡ run_text scenario n
text_silent scenario n m h silent = ap channel_lines (silent_outs scenario n m h silent)

pub counts_further : (scenario : Scenario) (n m k : ℕ) → n ≤ m → IsSilent scenario n m → CountsLines scenario n k → CountsLines scenario m k
counts_further scenario n m k h silent before =
    record { all = rw (silent_outs scenario n m h silent) before.all; few = omega (arith, h, before.few) }

-- the lines of a run end with that of the last step, where that puts something out
pub text_last : (scenario : Scenario) (to : ℕ) (put : Option Output) → 0 < to → put ≡ out scenario to
    → run_text scenario ((to - 1) + 1) ≡ run_text scenario (to - 1) ++ channel_lines (option_to_list put)
text_last scenario to put h e =
    let last : (to - 1) + 1 ≡ to = omega (arith, h) in
    let here : put ≡ out scenario ((to - 1) + 1) = rw last e in
    ap channel_lines (outs-add-one scenario (to - 1)) ∙ lines_of_both _ _
    ∙ ap (λ (o : Option Output). run_text scenario (to - 1) ++ channel_lines (option_to_list o)) (sym here)

-- no step has no line
pub counts_none : (scenario : Scenario) → CountsLines scenario 0 0
counts_none scenario = record { all = rw (outs-zero scenario) refl; few = omega arith }

-- the lines of a run grow with its steps
pub run_text_grows : (scenario : Scenario) → Grows (run_text scenario)
run_text_grows scenario = record {
  none = ap channel_lines (outs-zero scenario) ∙ lines_of_none;
  more = λ n. rw (lines_more scenario n) (first_begins _ _);
}
