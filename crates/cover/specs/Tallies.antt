-- The figures of a run's accounts: how often each was served, and the cycles that this took.
use Rattle.std.specs.Prelude.{◌≡◌, ℕ, ◌+◌, ◌*◌, ◌<◌, ◌≤◌, ◌^◌, ◌&&◌, Bool, true, nat_lt, if◌then◌else◌, List, [], ◌∷◌, ◌++◌, map, length}
use Rattle.std.specs.Prelude.{get_or, set}
use Rattle.std.specs.List.{range_with_len, flat_map}
use Rattle.space.specs.Cells.{erasable_count}
use Rattle.space.specs.declared.place.Linear.TheVariants.{Erasable, Fixed}
use Rattle.rope.specs.Places.{Words, bank_words, place_number, stands}
use Rattle.cpu.specs.declared.account.Account.{Account}
use Rattle.cpu.specs.declared.account.Account.TheVariants.{Input, Entry, Waiting, Place}
use Rattle.cpu.specs.Profiles.{account_of, count_at, cycles_at, AddsUp}
use Rattle.cpu.specs.Run.{run}
use Rattle.cpu.specs.State.{Scenario}
use Rattle.cover.specs.declared.tally.Figures.{Figures}

-- how many banks FB and the superbank bit select: 0 to 047, of which the last four hold no word
abbrev pub selected_banks : ℕ
selected_banks = 0o50

-- figures of accounts
abbrev pub Profile : Type 0
Profile = Account → Figures

-- the profile of the first n steps of a run
abbrev pub profile_of : Scenario → ℕ → Profile
profile_of scenario n a = record { count = count_at scenario a n; cycles = cycles_at scenario a n }

-- the places of erasable memory, and those of a bank
abbrev pub erasable_accounts : List Account
erasable_accounts = map (λ p. Place (Erasable p)) (range_with_len 0 erasable_count)

abbrev pub bank_accounts : ℕ → List Account
bank_accounts bank = map (λ offset. Place (Fixed bank offset)) (range_with_len 0 bank_words)

-- all accounts, each once
unfoldable pub all_accounts : List Account
all_accounts = (Input ∷ Entry ∷ Waiting ∷ []) ++ (erasable_accounts ++ flat_map bank_accounts (range_with_len 0 selected_banks))

-- each step of a run is counted at exactly one of all accounts: their cycles are the run's, and their counts its steps
abbrev pub AllAddUp : Scenario → ℕ → Type 0
AllAddUp scenario n = AddsUp scenario n all_accounts

-- the account of a place of fixed memory where a word stands, and of one where none does
abbrev pub word_account : Words → ℕ → ℕ → List Account
word_account words bank offset = if stands words bank offset then Place (Fixed bank offset) ∷ [] else []

abbrev pub empty_account : Words → ℕ → ℕ → List Account
empty_account words bank offset = if stands words bank offset then [] else Place (Fixed bank offset) ∷ []

abbrev pub word_accounts : Words → ℕ → List Account
word_accounts words bank = flat_map (word_account words bank) (range_with_len 0 bank_words)

abbrev pub empty_accounts : Words → ℕ → List Account
empty_accounts words bank = flat_map (empty_account words bank) (range_with_len 0 bank_words)

-- the accounts that rows show, each once: the places where a word stands, then the erasable ones, then the fixed ones without a word, then
-- inputs, entries and words that waited
unfoldable pub shown_accounts : Words → List Account
shown_accounts words =
    flat_map (word_accounts words) (range_with_len 0 selected_banks)
    ++ (erasable_accounts ++ (flat_map (empty_accounts words) (range_with_len 0 selected_banks) ++ (Input ∷ Entry ∷ Waiting ∷ [])))

-- each step of a run is counted at exactly one of them: their counts are its steps, and their cycles the run's
abbrev pub ShownAddUp : Scenario → ℕ → Type 0
ShownAddUp scenario n = AddsUp scenario n (shown_accounts scenario.rope)

-- whether there is an account
abbrev pub is_account : Account → Bool
is_account (Place (Erasable p)) = nat_lt p erasable_count
is_account (Place (Fixed bank offset)) = nat_lt bank selected_banks && nat_lt offset bank_words
is_account _ = true

abbrev pub IsAccount : Account → Type 0
IsAccount (Place (Erasable p)) = p < erasable_count
IsAccount (Place (Fixed bank offset)) = (bank < selected_banks) × (offset < bank_words)
IsAccount _ = Unit {0}

-- the number of an account, as all_accounts has them in order
abbrev pub account_number : Account → ℕ
account_number Input = 0
account_number Entry = 1
account_number Waiting = 2
account_number (Place (Erasable p)) = 3 + p
account_number (Place (Fixed bank offset)) = 3 + erasable_count + place_number bank offset

-- how many accounts there are
abbrev pub account_count : ℕ
account_count = 3 + erasable_count + bank_words * selected_banks

abbrev pub no_figures : Figures
no_figures = record { count = 0; cycles = 0 }

-- the figures of an account, where those of each stand at its number
abbrev pub figures_at : List Figures → Profile
figures_at figures a = if is_account a then get_or figures (account_number a) no_figures else no_figures

-- figures that may grow by a step
abbrev pub AreSmall : Figures → Type 0
AreSmall f = (f.count ≤ 2 ^ 62) × (f.cycles ≤ 2 ^ 62)

-- one step more, of so many cycles
abbrev pub one_step_more : Figures → ℕ → Figures
one_step_more f cycles = record { count = f.count + 1; cycles = f.cycles + cycles }

-- a step of an account is counted
abbrev pub put_down : List Figures → Account → ℕ → List Figures
put_down figures a cycles = set figures (account_number a) (one_step_more (figures_at figures a) cycles)

-- figures are those of the first n steps of a run, one for each account, and each step is counted at an account that there is
pub record Counts (scenario : Scenario) (n : ℕ) (figures : List Figures) : Type 0 where
  pub each : length figures ≡ account_count
  pub profile : (a : Account) → IsAccount a → figures_at figures a ≡ profile_of scenario n a
  pub known : (t : ℕ) → t < n → IsAccount (account_of scenario (run scenario t))
