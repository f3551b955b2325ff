-- Inputs that are added.
use Rattle.std.proofs.Common.{Bool, ◌≡◌, ℕ, ◌<◌, ◌≤◌, true, false, ltb, leb, max, inl, inr, ⊎_elim, List, [], ◌∷◌, Some, None, refl, sym, ap, ◌∙◌}
use Rattle.std.proofs.Common.{arith}
use Rattle.std.proofs.lemmas.Bool.{cases_lt}
use Rattle.std.proofs.lemmas.Bool.Decides.{nat_tests}
use Rattle.feed.specs.Added.{LinesBelow, AddsLast, plain_on}
use Rattle.feed.specs.Merged.{inserted}
use Rattle.feed.specs.declared.entry.Entry.{Entry}
use Rattle.feed.specs.declared.input.Input.{Input}
use Rattle.cpu.specs.State.{State, Scenario}
use Rattle.cpu.specs.Run.{run}
use Rattle.cpu.specs.Additions.{plain_inputs, most_plain_inputs}
use Rattle.commands.specs.declared.command.Breakpoint.{Breakpoint}
use Rattle.commands.specs.declared.command.Command.TheVariants.{Add}
use Rattle.commands.specs.declared.command.ParsedLine.TheVariants.{Known}
use Rattle.replay.specs.View.{SessionView, HasAdded, greatest_cycle}
use Rattle.debugger.specs.Additions.{line_after, with_added}
use Rattle.debugger.specs.History.{history}
use Rattle.debugger.specs.Replies.{line, answer, reply}
use Rattle.debugger.specs.Executions.{desk, BringsAdding}

-- a line that is after those of all inputs
after-all : (list : List Entry) (line : ℕ) → LinesBelow list line → line_after list ≤ line
after-all [] line below = omega arith
after-all (e ∷ more) line below = omega (arith, below e (inl refl), after-all more line (λ x h. below x (inr h)))

greater : (a b : ℕ) → b ≤ a → max a b ≡ a
greater a b h = omega arith

-- what runs once an input was added
added_is : (old new : Scenario) (cycle : ℕ) (input : Input) → new.rope ≡ old.rope → (a : AddsLast old.inputs cycle input new.inputs)
    → new ≡ with_added a.line cycle input old
unfolding with_added
added_is old new cycle input rope a =
    let place : new.inputs ≡ inserted (plain_on (max a.line (line_after old.inputs)) cycle input) old.inputs =
    a.new_is ∙ sym (ap (λ (l : ℕ). inserted (plain_on l cycle input) old.inputs)
    (greater a.line (line_after old.inputs) (after-all old.inputs a.line a.after))) in
    λ i. record { rope = rope i; inputs = place i }

below : (a b : ℕ) → b ≤ a → ltb a b ≡ false
below a b h = grind (arith, nat_tests)

above : (a b : ℕ) → a < b → ltb a b ≡ true
above a b h = grind (arith, nat_tests)

within : (a b : ℕ) → a ≤ b → leb a b ≡ true
within a b h = grind (arith, nat_tests)

beyond : (a b : ℕ) → b < a → leb a b ≡ false
beyond a b h = grind (arith, nat_tests)

-- a cycle that isn't refused as early
pub not_early : (cycle cycles : ℕ) → (cycle ≤ cycles → ⊥) → cycles < cycle
not_early cycle cycles h = ⊎_elim (λ lt. lt) (λ le. absurd (h le)) (cases_lt cycles cycle)

-- the present before an input was added
pub present-before : (s t : SessionView) (cycle : ℕ) (input : Input) → HasAdded s cycle input t → s.present ≡ run s.scenario s.n
present-before s t cycle input a =
    sym (ap (λ (v : SessionView). v.present) a.same) ∙ a.stands.present
    ∙ ap (λ (n : ℕ). run t.scenario n) (ap (λ (v : SessionView). v.n) a.same) ∙ (a.alike s.n (omega arith)).state

module _ (s : SessionView) (p : ℕ) (bs : List Breakpoint) (quiet : Bool) (cycle : ℕ) (input : Input) (text : List ℕ) where
  -- the cycle has too many digits
  pub adding-long : greatest_cycle < cycle → text ≡ line (69 ∷ 53 ∷ 48 ∷ 32 ∷ 67 ∷ 79 ∷ 77 ∷ 77 ∷ 65 ∷ 78 ∷ 68 ∷ [])
      → BringsAdding (desk s p bs quiet) (Known (Add cycle input)) text (desk s p bs quiet)
  unfolding answer reply
  adding-long far e = record { additions = []; brings = λ m answers later. rw (above greatest_cycle cycle far, e) refl }

  -- it isn't above those of the present
  pub adding-early : cycle ≤ greatest_cycle → s.present ≡ run s.scenario s.n → cycle ≤ s.present.cycles
      → text ≡ line (69 ∷ 52 ∷ 50 ∷ 32 ∷ 84 ∷ 79 ∷ 79 ∷ 32 ∷ 69 ∷ 65 ∷ 82 ∷ 76 ∷ 89 ∷ [])
      → BringsAdding (desk s p bs quiet) (Known (Add cycle input)) text (desk s p bs quiet)
  unfolding answer reply history
  adding-early short present early e =
      let past : cycle ≤ (run s.scenario s.n).cycles = (let q = ap (λ (m : State). m.cycles) present in omega arith) in
      record {
        additions = [];
        brings = λ m answers later. rw
            (below greatest_cycle cycle short, within cycle (run s.scenario s.n).cycles past, e) refl;
      }

  -- too many stand
  pub adding-many : cycle ≤ greatest_cycle → s.present ≡ run s.scenario s.n → s.present.cycles < cycle
      → most_plain_inputs ≤ plain_inputs s.scenario → text ≡ line (69 ∷ 51 ∷ 50 ∷ 32 ∷ 84 ∷ 79 ∷ 79 ∷ 32 ∷ 77 ∷ 65 ∷ 78 ∷ 89 ∷ [])
      → BringsAdding (desk s p bs quiet) (Known (Add cycle input)) text (desk s p bs quiet)
  unfolding answer reply history
  adding-many short present late full e =
      let future : (run s.scenario s.n).cycles < cycle = (let q = ap (λ (m : State). m.cycles) present in omega arith) in
      record {
        additions = [];
        brings = λ m answers later. rw (
          below greatest_cycle cycle short,
          beyond cycle (run s.scenario s.n).cycles future,
          within most_plain_inputs
              (plain_inputs s.scenario) full,
          e,
        ) refl;
      }

  -- memory runs out
  pub adding-refused : cycle ≤ greatest_cycle → s.present ≡ run s.scenario s.n → s.present.cycles < cycle
      → plain_inputs s.scenario < most_plain_inputs → text ≡ line (69 ∷ 50 ∷ 32 ∷ 77 ∷ 69 ∷ 77 ∷ 79 ∷ 82 ∷ 89 ∷ [])
      → BringsAdding (desk s p bs quiet) (Known (Add cycle input)) text (desk s p bs quiet)
  unfolding answer reply history
  adding-refused short present late room e =
      let future : (run s.scenario s.n).cycles < cycle = (let q = ap (λ (m : State). m.cycles) present in omega arith) in
      record {
        additions = None ∷ [];
        brings = λ m answers later. rw (
          below greatest_cycle cycle short,
          beyond cycle (run s.scenario s.n).cycles future,
          beyond most_plain_inputs
              (plain_inputs s.scenario) room,
          e,
        ) refl;
      }

  -- it is added
  pub adding-added : (t : SessionView) → cycle ≤ greatest_cycle → (run s.scenario s.n).cycles < cycle
      → plain_inputs s.scenario < most_plain_inputs → HasAdded s cycle input t → text ≡ line (65 ∷ 68 ∷ 68 ∷ 69 ∷ 68 ∷ [])
      → BringsAdding (desk s p bs quiet) (Known (Add cycle input)) text (desk t p bs quiet)
  unfolding answer reply history
  adding-added t short future room added e =
      let scene : t.scenario ≡ with_added added.inputs.line cycle input s.scenario = added_is s.scenario t.scenario cycle input added.rope
      added.inputs in
      let steps : t.n ≡ s.n = ap (λ (v : SessionView). v.n) added.same in
      record {
        additions = Some added.inputs.line ∷ [];
        brings = λ m answers later.
            rw (
              below greatest_cycle cycle short,
              beyond cycle (run s.scenario s.n).cycles future,
              beyond most_plain_inputs
                  (plain_inputs s.scenario) room,
              e,
              steps,
              scene,
            ) refl;
      }
