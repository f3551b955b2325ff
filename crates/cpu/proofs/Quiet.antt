-- What a quiet state brings: its next step executes the word at Z, and the state after a plain one is quiet for one step less.
use Rattle.std.proofs.Common.{◌≡◌, ◌<◌, ◌≤◌, ◌-◌, ◌/◌, ℕ, false, Option, None, ap, arith, ◌∙◌, sym}
use Rattle.std.specs.Prelude.{is_some}
use Rattle.feed.specs.declared.input.Input.{Input}
use Rattle.feed.specs.Merged.{due}
use Rattle.cpu.specs.declared.account.Account.TheVariants.{Place}
use Rattle.cpu.specs.declared.next_step.NextStep.TheVariants.{Executes}
use Rattle.cpu.specs.declared.output.Output.{Output}
use Rattle.cpu.specs.State.{State, Scenario}
use Rattle.cpu.specs.Effects.{next_address, place_in}
use Rattle.cpu.specs.Next.{entry, execute, next, word_at_z}
use Rattle.cpu.specs.NextStep.{next_step, next_step_by}
use Rattle.cpu.specs.Profiles.{account_by, account_of, account_of_word}
use Rattle.cpu.specs.Bursts.{IsQuiet, IsStill}
use Rattle.cpu.proofs.Bursts.{still_entry, still_next, still_word}
use Rattle.cpu.proofs.RunLaws.{cycles-next, rise-next}
use Rattle.cpu.proofs.StepLaws.{takes_in_turn}

none_now : (p : Scenario) (s : State) (n : ℕ) → IsQuiet p s n → 1 ≤ n → due p.inputs s.taken s.cycles ≡ None
none_now p s n quiet some = quiet.none s.cycles (omega arith) (omega (arith, some))

pub quiet_step : (p : Scenario) (s : State) (n : ℕ) → IsQuiet p s n → 1 ≤ n
    → Executes
    (record { place = place_in s (next_address s); word = word_at_z p.rope s; extra = s.extra; waited = false; added = None })
    ≡ next_step p s
unfolding next_step
quiet_step p s n quiet some =
    sym
    (ap (λ (d : Option (Input × Option ℕ)). next_step_by p.rope s d (entry s)) (none_now p s n quiet some)
    ∙ ap (λ (k : Option ℕ). next_step_by p.rope s None k) (still_entry s quiet.still)
    ∙ (λ i. Executes
    (record {
      place = place_in s (next_address s);
      word = still_word p.rope s quiet.still i;
      extra = s.extra;
      waited = is_some (quiet.still.word i);
      added = quiet.still.sum i;
    })))

pub quiet_account : (p : Scenario) (s : State) (n : ℕ) → IsQuiet p s n → 1 ≤ n → account_of p s ≡ Place (place_in s (next_address s))
quiet_account p s n quiet some =
    ap (λ (d : Option (Input × Option ℕ)). account_by s d (entry s)) (none_now p s n quiet some)
    ∙ ap (λ (k : Option ℕ). account_by s None k) (still_entry s quiet.still)
    ∙ ap (account_of_word s) quiet.still.word

pub quiet_next : (p : Scenario) (s t : State) (n : ℕ) → IsQuiet p s n → 1 ≤ n → (t, None) ≡ execute p.rope s → (t, None) ≡ next p s
quiet_next p s t n quiet some made = made ∙ sym (still_next p s quiet.still (none_now p s n quiet some))

pub quiet_after : (p : Scenario) (s t : State) (n : ℕ) → IsQuiet p s n → 1 ≤ n → (t, None) ≡ execute p.rope s → IsStill t
    → IsQuiet p t (n - 1)
quiet_after p s t n quiet some made still =
    let none = none_now p s n quiet some in
    let step = sym (quiet_next p s t n quiet some made) in
    let same = ap (λ (q : State × Option Output). q.0.cycles) step in
    let taken : t.taken ≡ s.taken = sym (ap (λ (q : State × Option Output). q.0.taken) step) ∙ (takes_in_turn p s).none none in
    let few = cycles-next p s in
    let rise = rise-next p s in
    record {
      still = still;
      none = λ cycles from to. rw taken (quiet.none cycles (omega (arith, from, same, rise)) (omega (arith, to, same, few, some)));
    }

-- so many steps are quiet as fit before an input is due
pub quiet_before : (p : Scenario) (s : State) (silent room : ℕ) → IsStill s → ((cycles : ℕ) → cycles < silent → due p.inputs s.taken cycles ≡ None)
    → room ≡ (silent - s.cycles) / 8 → IsQuiet p s room
quiet_before p s silent room still none fits = record {
  still = still;
  none = λ cycles from to. none cycles (omega (arith, from, to, fits));
}

-- fewer steps are quiet too
pub quiet_less : (p : Scenario) (s : State) (n k : ℕ) → k ≤ n → IsQuiet p s n → IsQuiet p s k
quiet_less p s n k less quiet = record {
  still = quiet.still;
  none = λ cycles from to. quiet.none cycles from (omega (arith, to, less));
}
