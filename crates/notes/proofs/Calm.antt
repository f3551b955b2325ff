-- What stands at the place where Z leads is what is executed, where no word waits.
use Rattle.std.proofs.Common.{◌≡◌, ℕ, Bool, false, Option, Some, None, refl, sym, ap, ◌∙◌, is_some, unwrap_or}
use Rattle.words.specs.Numbers.{correct}
use Rattle.space.specs.declared.place.Linear.{Linear}
use Rattle.space.specs.declared.place.Linear.TheVariants.{Erasable}
use Rattle.rope.specs.Places.{Words}
use Rattle.feed.specs.declared.input.Input.{Input}
use Rattle.feed.specs.Merged.{due}
use Rattle.cpu.specs.declared.account.Account.{Account}
use Rattle.cpu.specs.declared.account.Account.TheVariants as account
use Rattle.cpu.specs.declared.account.Account.TheVariants.{Place}
use Rattle.cpu.specs.declared.next_step.Fetched.{Fetched}
use Rattle.cpu.specs.declared.next_step.NextStep.TheVariants.{Executes}
use Rattle.cpu.specs.Effects.{next_address, place_in, value_at}
use Rattle.cpu.specs.Next.{entry, instruction_word, with_sum, word_at_z}
use Rattle.cpu.specs.NextStep.{next_step, next_step_by}
use Rattle.cpu.specs.Profiles.{account_by, account_of, account_of_word}
use Rattle.cpu.specs.State.{Scenario, State}

-- the place of an account, and some place of one that has none
abbrev place_by : Account → Linear
place_by account.Input = Erasable 0
place_by account.Entry = Erasable 0
place_by account.Waiting = Erasable 0
place_by (Place p) = p

abbrev fetched_there : Words → State → Linear → Fetched
fetched_there rope s place = record {
  place = place;
  word = instruction_word rope s;
  extra = s.extra;
  waited = false;
  added = s.waiting_sum;
}

-- where no word waits
alone : (rope : Words) (s : State) (w : Option ℕ) (place : Linear) → s.waiting_word ≡ w
    → account_of_word s w ≡ Place place → next_step_by rope s None None ≡ Executes (fetched_there rope s place)
alone rope s (Some x) place waits a = absurd (cc)
alone rope s None place waits a =
    let leads : place_in s (next_address s) ≡ place = ap place_by a in
    let none : is_some s.waiting_word ≡ false = ap is_some waits in
    λ i. Executes (record {
      place = leads i;
      word = instruction_word rope s;
      extra = s.extra;
      waited = none i;
      added = s.waiting_sum;
    })

fetched_by : (rope : Words) (s : State) (d : Option (Input × Option ℕ)) (k : Option ℕ) (place : Linear)
    → account_by s d k ≡ Place place → next_step_by rope s d k ≡ Executes (fetched_there rope s place)
fetched_by rope s (Some given) k place a = absurd (cc)
fetched_by rope s None (Some k) place a = absurd (cc)
fetched_by rope s None None place a = alone rope s s.waiting_word place refl a

pub fetched_is : (scenario : Scenario) (s : State) (place : Linear) (word : ℕ) (extra : Bool) (added : Option ℕ)
    → account_of scenario s ≡ Place place → word ≡ instruction_word scenario.rope s → extra ≡ s.extra → added ≡ s.waiting_sum
    → Executes (record { place = place; word = word; extra = extra; waited = false; added = added }) ≡ next_step scenario s
unfolding next_step
fetched_is scenario s place word extra added a w x y =
    (λ i. Executes (record { place = place; word = w i; extra = x i; waited = false; added = y i }))
    ∙ sym (fetched_by scenario.rope s (due scenario.inputs s.taken s.cycles) (entry s) place a)

-- and its word, to which nothing is added
word_alone : (rope : Words) (s : State) (w : Option ℕ) (place : Linear) → s.waiting_word ≡ w
    → account_of_word s w ≡ Place place → s.waiting_sum ≡ None
    → instruction_word rope s ≡ correct (value_at rope s place)
unfolding instruction_word
word_alone rope s (Some x) place waits a none = absurd (cc)
word_alone rope s None place waits a none =
    ap (λ x. with_sum x (unwrap_or s.waiting_word (word_at_z rope s))) none
    ∙ ap (λ w. unwrap_or w (word_at_z rope s)) waits
    ∙ ap (λ p. correct (value_at rope s p)) (ap place_by a)

word_by : (rope : Words) (s : State) (d : Option (Input × Option ℕ)) (k : Option ℕ) (place : Linear)
    → account_by s d k ≡ Place place → s.waiting_sum ≡ None → instruction_word rope s ≡ correct (value_at rope s place)
word_by rope s (Some given) k place a none = absurd (cc)
word_by rope s None (Some k) place a none = absurd (cc)
word_by rope s None None place a none = word_alone rope s s.waiting_word place refl a none

pub word_is : (scenario : Scenario) (s : State) (place : Linear) (word : ℕ) → account_of scenario s ≡ Place place
    → s.waiting_sum ≡ None → word ≡ correct (value_at scenario.rope s place) → word ≡ instruction_word scenario.rope s
word_is scenario s place word a none is =
    is ∙ sym (word_by scenario.rope s (due scenario.inputs s.taken s.cycles) (entry s) place a none)
