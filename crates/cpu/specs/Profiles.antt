-- How often each place of fixed or erasable memory was executed, and how many cycles it took.
use Rattle.std.specs.Prelude.{◌≡◌, ℕ, zero, suc, ◌+◌, ◌-◌, ◌<◌, Bool, true, false, List, [], ◌∷◌, Option, Some, None, if◌then◌else◌}
use Rattle.space.specs.Places.{same_place}
use Rattle.feed.specs.declared.input.Input.{Input}
use Rattle.feed.specs.Merged.{due}
use Rattle.cpu.specs.State.{State, Scenario}
use Rattle.cpu.specs.declared.account.Account.{Account}
use Rattle.cpu.specs.declared.account.Account.TheVariants as account
use Rattle.cpu.specs.declared.account.Account.TheVariants.{Entry, Waiting, Place}
use Rattle.cpu.specs.Effects.{place_in, next_address}
use Rattle.cpu.specs.Next.{entry, next}
use Rattle.cpu.specs.Run.{run}

-- to whom an instruction's cycles are put down: a word that waits stands nowhere, since Z leads past its place
abbrev pub account_of_word : State → Option ℕ → Account
account_of_word s (Some word) = Waiting
account_of_word s None = Place (place_in s (next_address s))

-- to whom a step's cycles are put down: an input, the entry of an interrupt, a word that waited, or the place where Z leads
abbrev pub account_by : State → Option (Input × Option ℕ) → Option ℕ → Account
account_by s (Some given) k = account.Input
account_by s None (Some k) = Entry
account_by s None None = account_of_word s s.waiting_word

abbrev pub account_of : Scenario → State → Account
account_of scenario s = account_by s (due scenario.inputs s.taken s.cycles) (entry s)

abbrev pub same_account : Account → Account → Bool
same_account account.Input account.Input = true
same_account Entry Entry = true
same_account Waiting Waiting = true
same_account (Place p) (Place q) = same_place p q
same_account _ _ = false

-- the cycles of a step
abbrev pub step_cycles : Scenario → State → ℕ
step_cycles scenario s = (next scenario s).0.cycles - s.cycles

-- the cycles of an account in the first n steps, and how many of them were its own
unfoldable pub cycles_at : Scenario → Account → ℕ → ℕ
cycles_at scenario a zero = 0
cycles_at scenario a (suc n) =
    let s = run scenario n in
    cycles_at scenario a n + (if same_account a (account_of scenario s) then step_cycles scenario s else 0)

unfoldable pub count_at : Scenario → Account → ℕ → ℕ
count_at scenario a zero = 0
count_at scenario a (suc n) = count_at scenario a n + (if same_account a (account_of scenario (run scenario n)) then 1 else 0)

-- the sum over accounts
abbrev pub sum_over : (Account → ℕ) → List Account → ℕ
sum_over f [] = 0
sum_over f (a ∷ list) = f a + sum_over f list

-- how often an account stands in a list
abbrev pub times_in : Account → List Account → ℕ
times_in a [] = 0
times_in a (b ∷ bs) = (if same_account b a then 1 else 0) + times_in a bs

-- Over accounts of which each step's stands once, the cycles add up to the run's, and the counts to its steps.
pub record AddsUp (scenario : Scenario) (n : ℕ) (accounts : List Account) : Type 0 where
  pub cycles : sum_over (λ a. cycles_at scenario a n) accounts ≡ (run scenario n).cycles
  pub steps : sum_over (λ a. count_at scenario a n) accounts ≡ n

abbrev pub ProfileAddsUp : Scenario → ℕ → List Account → Type 0
ProfileAddsUp scenario n accounts = ((t : ℕ) → t < n → times_in (account_of scenario (run scenario t)) accounts ≡ 1)
    → AddsUp scenario n accounts
