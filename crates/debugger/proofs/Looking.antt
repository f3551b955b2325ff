-- Replies that are read off earlier steps.
use Rattle.std.proofs.Common.{◌≡◌, ℕ, ◌≤◌, ◌-◌, Bool, true, false, ltb, List, Option, ap, sym, ◌∙◌, ⊎_elim, arith, refl}
use Rattle.std.proofs.lemmas.Bool.{cases_lt}
use Rattle.std.proofs.lemmas.Bool.Decides.{nat_tests}
use Rattle.rope.specs.Places.{Words}
use Rattle.space.specs.Cells.{Cells, changed_below, changed_places}
use Rattle.cpu.specs.State.{State, Scenario, FitsRun}
use Rattle.cpu.proofs.TakenLaws.{run-fits}
use Rattle.cpu.specs.Run.{run}
use Rattle.commands.specs.declared.command.Breakpoint.{Breakpoint}
use Rattle.commands.specs.declared.command.ParsedLine.{ParsedLine}
use Rattle.replay.specs.View.{SessionView, HasShown}
use Rattle.debugger.specs.History.{History, history, sight}
use Rattle.debugger.specs.Replies.{Desk, says, places_changed, changed_text, changes_since}
use Rattle.commands.specs.declared.extended.ExtendedLine.{ExtendedLine}
use Rattle.debugger.specs.Terms.{Terms}
use Rattle.debugger.specs.Conversation.{to_asked}
use Rattle.debugger.specs.Executions.{HasLooked, desk, awaiting, answered, BringsIn, BringsAsked}
use Rattle.debugger.specs.declared.manner.Manner.{Manner}

-- a step was shown
pub looked_at : (s t : SessionView) (q : ℕ) → HasShown s q t → q ≤ s.n → HasLooked s t s.n
looked_at s t q h past = record {
  scenario = ap (λ (v : SessionView). v.scenario) h.same;
  steps = ap (λ (v : SessionView). v.n) h.same;
  cost = ⊎_elim (λ lt. (let c = h.cheap lt in omega arith))
      (λ ge. (let m = ap (λ (v : SessionView). v.meter) (h.unchanged ge) in omega arith)) (cases_lt q s.n);
}

-- and no more steps were executed than lie between it and the present
pub looked_near : (s t : SessionView) (q : ℕ) → HasShown s q t → q ≤ s.n → HasLooked s t (s.n - q)
looked_near s t q h past = record {
  scenario = ap (λ (v : SessionView). v.scenario) h.same;
  steps = ap (λ (v : SessionView). v.n) h.same;
  cost = ⊎_elim (λ lt. (let c = h.cheap lt in omega arith))
      (λ ge. (let m = ap (λ (v : SessionView). v.meter) (h.unchanged ge) in omega arith)) (cases_lt q s.n);
}

-- what a processor runs fits a state that it is shown
pub fits_at : (runs scenario : Scenario) (t : ℕ) (s : State) → runs ≡ scenario → s ≡ run scenario t → FitsRun runs s
fits_at runs scenario t s same is = rw (same, is) (run-fits scenario t)

-- a step isn't later than another, or it is
pub not_later : (t n : ℕ) → t ≤ n → ltb n t ≡ false
not_later t n h = grind (arith, nat_tests)

pub is_later : (t n : ℕ) → (t ≤ n → ⊥) → ltb n t ≡ true
is_later t n h = grind (arith, nat_tests)

-- a reply that leaves a session with only another shown machine and another meter
pub brings_text : (m : Manner) (s t : SessionView) (p q : ℕ) (bs cs : List Breakpoint) (quiet : Bool) (request : ParsedLine) (text : List ℕ)
    → t ≡ record s { shown = t.shown; meter = t.meter }
    → ((answers : List Bool) (additions : List (Option ℕ))
    → answered m (desk s p bs quiet) request answers additions ≡ says text (awaiting (desk s q cs quiet) answers additions))
    → BringsIn m (desk s p bs quiet) request text (desk t q cs quiet)
brings_text m s t p q bs cs quiet request text same brings answers additions =
    brings answers additions ∙ sym (ap (λ (v : SessionView). says text (awaiting (desk v q cs quiet) answers additions)) same)

-- the same of what an extended session is asked for
pub asked_text : (s t : SessionView) (p q : ℕ) (bs cs : List Breakpoint) (quiet : Bool) (request : ExtendedLine) (text : List ℕ)
    → t ≡ record s { shown = t.shown; meter = t.meter }
    → ((terms : Terms) (answers : List Bool) (additions : List (Option ℕ))
    → to_asked terms request (awaiting (desk s p bs quiet) answers additions) ≡ says text (awaiting (desk s q cs quiet) answers additions))
    → BringsAsked (desk s p bs quiet) request text (desk t q cs quiet)
asked_text s t p q bs cs quiet request text same brings terms answers additions =
    brings terms answers additions ∙ sym (ap (λ (v : SessionView). says text (awaiting (desk v q cs quiet) answers additions)) same)

-- the places that read differently in two states
places_are : (rope : Words) (one other : State) → places_changed (sight rope one) (sight rope other) ≡ changed_places one.cells other.cells
unfolding places_changed changed_below
places_are rope one other = refl

since : (h : History) (d : Desk) (t : ℕ) → t ≤ d.steps
    → changes_since h d t ≡ says (changed_text (places_changed (h.after t) (h.after d.steps))) d
since h d t past = rw (not_later t d.steps past) refl

-- what changed after a step that was made
pub changed_since : (s : SessionView) (p t : ℕ) (bs : List Breakpoint) (quiet : Bool) (shown present : State) (old new : Cells) (text : List ℕ) → t ≤ s.n
    → shown ≡ run s.scenario t → present ≡ run s.scenario s.n
    → old ≡ shown.cells → new ≡ present.cells → text ≡ changed_text (changed_places old new)
    → (answers : List Bool) (additions : List (Option ℕ))
    → changes_since (history s.scenario) (awaiting (desk s p bs quiet) answers additions) t
    ≡ says text (awaiting (desk s p bs quiet) answers additions)
unfolding history
changed_since s p t bs quiet shown present old new text past is_shown is_present is_old is_new e answers additions =
    let d = awaiting (desk s p bs quiet) answers additions in
    let one : old ≡ (run s.scenario t).cells = is_old ∙ ap (λ (m : State). m.cells) is_shown in
    let other : new ≡ (run s.scenario s.n).cells = is_new ∙ ap (λ (m : State). m.cells) is_present in
    let places : changed_places old new ≡ places_changed (sight s.scenario.rope (run s.scenario t))
    (sight s.scenario.rope (run s.scenario s.n)) =
    ap (λ (c : Cells). changed_places c new) one ∙ ap (changed_places (run s.scenario t).cells) other
    ∙ sym (places_are s.scenario.rope (run s.scenario t) (run s.scenario s.n)) in
    since (history s.scenario) d t past ∙ ap (λ (x : List ℕ). says x d) (sym (e ∙ ap changed_text places))
