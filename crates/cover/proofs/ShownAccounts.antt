-- Each account stands once among those that rows show.
use Rattle.std.proofs.Common.{◌≡◌, ◌≢◌, ℕ, ◌+◌, ◌<◌, ◌==◌, Bool, true, false, List, [], ◌∷◌, ◌++◌, refl, inl, inr, arith, if◌then◌else◌}
use Rattle.std.proofs.lemmas.Bool.{cases_Bool, and_parts, eqb-true}
use Rattle.std.specs.List.{range_with_len, flat_map}
use Rattle.space.specs.declared.place.Linear.TheVariants.{Erasable, Fixed}
use Rattle.rope.specs.Places.{Words, stands}
use Rattle.cpu.specs.declared.account.Account.{Account}
use Rattle.cpu.specs.declared.account.Account.TheVariants.{Input, Entry, Waiting, Place}
use Rattle.cpu.specs.Profiles.{same_account, times_in}
use Rattle.cover.specs.Tallies.{IsAccount, erasable_accounts, word_account, empty_account, word_accounts, empty_accounts, shown_accounts}
use Rattle.cover.proofs.Accounts.{times_append, none_of, one_of, same_number, other_number, erasable_once, none_erasable, no_erasable_fixed}

-- one place, or none
one_or_none : (a : Account) (b : Bool) (place : Account) → same_account place a ≡ false → times_in a (if b then place ∷ [] else []) ≡ 0
one_or_none a true place apart = rw apart refl
one_or_none a false place apart = refl

none_or_one : (a : Account) (b : Bool) (place : Account) → same_account place a ≡ false → times_in a (if b then [] else place ∷ []) ≡ 0
none_or_one a true place apart = refl
none_or_one a false place apart = rw apart refl

-- what is served at another place stands in no bank
no_words : (words : Words) (a : Account) (from n : ℕ) → ((bank offset : ℕ) → same_account (Place (Fixed bank offset)) a ≡ false)
    → times_in a (flat_map (word_accounts words) (range_with_len from n)) ≡ 0
no_words words a from n apart =
    none_of a (word_accounts words) from n
    (λ bank h lt. none_of a (word_account words bank) 0 1024
    (λ offset g l. one_or_none a (stands words bank offset) (Place (Fixed bank offset)) (apart bank offset)))

no_empty : (words : Words) (a : Account) (from n : ℕ) → ((bank offset : ℕ) → same_account (Place (Fixed bank offset)) a ≡ false)
    → times_in a (flat_map (empty_accounts words) (range_with_len from n)) ≡ 0
no_empty words a from n apart =
    none_of a (empty_accounts words) from n
    (λ bank h lt. none_of a (empty_account words bank) 0 1024
    (λ offset g l. none_or_one a (stands words bank offset) (Place (Fixed bank offset)) (apart bank offset)))

-- a place of fixed memory
same_place : (bank offset : ℕ) → same_account (Place (Fixed bank offset)) (Place (Fixed bank offset)) ≡ true
same_place bank offset = rw (same_number bank, same_number offset) refl

other_offset : (bank offset j : ℕ) → j ≢ offset → same_account (Place (Fixed bank j)) (Place (Fixed bank offset)) ≡ false
other_offset bank offset j apart = rw (same_number bank, other_number j offset apart) refl

other_bank : (bank offset k j : ℕ) → k ≢ bank → same_account (Place (Fixed k j)) (Place (Fixed bank offset)) ≡ false
other_bank bank offset k j apart = rw (other_number k bank apart) refl

is_there : (words : Words) (bank offset k j : ℕ) (b : Bool) → stands words bank offset ≡ b
    → same_account (Place (Fixed k j)) (Place (Fixed bank offset)) ≡ true → stands words k j ≡ b
is_there words bank offset k j b e same =
    let parts = and_parts (k == bank) (j == offset) same in
    let first : k ≡ bank = eqb-true k bank parts.0 in
    let second : j ≡ offset = eqb-true j offset parts.1 in
    rw (first, second) e

word_once : (words : Words) (bank offset : ℕ) → bank < 40 → offset < 1024 → stands words bank offset ≡ true
    → times_in (Place (Fixed bank offset)) (flat_map (word_accounts words) (range_with_len 0 40)) ≡ 1
word_once words bank offset few lt there =
    let a : Account = Place (Fixed bank offset) in
    let here : times_in a (word_account words bank offset) ≡ 1 = rw (there, same_place bank offset) refl in
    let within : times_in a (word_accounts words bank) ≡ 1 =
    one_of a (word_account words bank) offset 0 1024 here
    (λ j apart. one_or_none a (stands words bank j) (Place (Fixed bank j)) (other_offset bank offset j apart)) (omega arith)
    (omega (arith, lt)) in
    one_of a (word_accounts words) bank 0 40 within
    (λ k apart. none_of a (word_account words k) 0 1024
    (λ j h l. one_or_none a (stands words k j) (Place (Fixed k j)) (other_bank bank offset k j apart))) (omega arith)
    (omega (arith, few))

word_never : (words : Words) (bank offset : ℕ) → stands words bank offset ≡ false → (k j : ℕ)
    → times_in (Place (Fixed bank offset)) (word_account words k j) ≡ 0
word_never words bank offset none k j =
    elim (cases_Bool (same_account (Place (Fixed k j)) (Place (Fixed bank offset)))) [
      | inl same ↦
          let one : stands words k j ≡ false = is_there words bank offset k j false none same in
          rw one refl
      | inr apart ↦ one_or_none (Place (Fixed bank offset)) (stands words k j) (Place (Fixed k j)) apart
    ]

no_word : (words : Words) (bank offset : ℕ) → stands words bank offset ≡ false
    → times_in (Place (Fixed bank offset)) (flat_map (word_accounts words) (range_with_len 0 40)) ≡ 0
no_word words bank offset none =
    none_of (Place (Fixed bank offset)) (word_accounts words) 0 40
    (λ k h lt. none_of (Place (Fixed bank offset)) (word_account words k) 0 1024 (λ j g l. word_never words bank offset none k j))

empty_once : (words : Words) (bank offset : ℕ) → bank < 40 → offset < 1024 → stands words bank offset ≡ false
    → times_in (Place (Fixed bank offset)) (flat_map (empty_accounts words) (range_with_len 0 40)) ≡ 1
empty_once words bank offset few lt none =
    let a : Account = Place (Fixed bank offset) in
    let here : times_in a (empty_account words bank offset) ≡ 1 = rw (none, same_place bank offset) refl in
    let within : times_in a (empty_accounts words bank) ≡ 1 =
    one_of a (empty_account words bank) offset 0 1024 here
    (λ j apart. none_or_one a (stands words bank j) (Place (Fixed bank j)) (other_offset bank offset j apart)) (omega arith)
    (omega (arith, lt)) in
    one_of a (empty_accounts words) bank 0 40 within
    (λ k apart. none_of a (empty_account words k) 0 1024
    (λ j h l. none_or_one a (stands words k j) (Place (Fixed k j)) (other_bank bank offset k j apart))) (omega arith)
    (omega (arith, few))

empty_never : (words : Words) (bank offset : ℕ) → stands words bank offset ≡ true → (k j : ℕ)
    → times_in (Place (Fixed bank offset)) (empty_account words k j) ≡ 0
empty_never words bank offset there k j =
    elim (cases_Bool (same_account (Place (Fixed k j)) (Place (Fixed bank offset)))) [
      | inl same ↦
          let one : stands words k j ≡ true = is_there words bank offset k j true there same in
          rw one refl
      | inr apart ↦ none_or_one (Place (Fixed bank offset)) (stands words k j) (Place (Fixed k j)) apart
    ]

not_empty : (words : Words) (bank offset : ℕ) → stands words bank offset ≡ true
    → times_in (Place (Fixed bank offset)) (flat_map (empty_accounts words) (range_with_len 0 40)) ≡ 0
not_empty words bank offset there =
    none_of (Place (Fixed bank offset)) (empty_accounts words) 0 40
    (λ k h lt. none_of (Place (Fixed bank offset)) (empty_account words k) 0 1024 (λ j g l. empty_never words bank offset there k j))

sum_of_four : (all rest last w e m t first second third fourth : ℕ) → first ≡ w → second ≡ e → third ≡ m → fourth ≡ t
    → last ≡ third + fourth → rest ≡ second + last → all ≡ first + rest
    → all ≡ w + (e + (m + t))
sum_of_four all rest last w e m t first second third fourth p q r s u v x = omega arith

-- how often an account stands among those that rows show
among_shown : (words : Words) (a : Account) (w e m t : ℕ) → times_in a (flat_map (word_accounts words) (range_with_len 0 40)) ≡ w
    → times_in a erasable_accounts ≡ e
    → times_in a (flat_map (empty_accounts words) (range_with_len 0 40)) ≡ m → times_in a (Input ∷ Entry ∷ Waiting ∷ []) ≡ t
    → times_in a (shown_accounts words) ≡ w + (e + (m + t))
unfolding shown_accounts
among_shown words a w e m t first second third fourth =
    let ends : List Account = Input ∷ Entry ∷ Waiting ∷ [] in
    let empty = flat_map (empty_accounts words) (range_with_len 0 40) in
    let last = times_append a empty ends in
    let rest = times_append a erasable_accounts (empty ++ ends) in
    let all = times_append a (flat_map (word_accounts words) (range_with_len 0 40)) (erasable_accounts ++ (empty ++ ends)) in
    sum_of_four _ _ _ w e m t _ _ _ _ first second third fourth last rest all

fixed_shown : (words : Words) (bank offset : ℕ) (b : Bool) → stands words bank offset ≡ b → bank < 40 → offset < 1024
    → times_in (Place (Fixed bank offset)) (shown_accounts words) ≡ 1
fixed_shown words bank offset true there few lt =
    among_shown words (Place (Fixed bank offset)) 1 0 0 0 (word_once words bank offset few lt there) (no_erasable_fixed bank offset)
    (not_empty words bank offset there) refl
fixed_shown words bank offset false none few lt =
    among_shown words (Place (Fixed bank offset)) 0 0 1 0 (no_word words bank offset none) (no_erasable_fixed bank offset)
    (empty_once words bank offset few lt none) refl

pub shown_once : (words : Words) (a : Account) → IsAccount a → times_in a (shown_accounts words) ≡ 1
shown_once words Input known = among_shown words Input 0 0 0 1 (no_words words Input 0 40 (λ b o. refl))
    (none_erasable Input (λ place. refl)) (no_empty words Input 0 40 (λ b o. refl)) refl
shown_once words Entry known = among_shown words Entry 0 0 0 1 (no_words words Entry 0 40 (λ b o. refl))
    (none_erasable Entry (λ place. refl)) (no_empty words Entry 0 40 (λ b o. refl)) refl
shown_once words Waiting known = among_shown words Waiting 0 0 0 1 (no_words words Waiting 0 40 (λ b o. refl))
    (none_erasable Waiting (λ place. refl)) (no_empty words Waiting 0 40 (λ b o. refl)) refl
shown_once words (Place (Erasable p)) known =
    among_shown words (Place (Erasable p)) 0 1 0 0 (no_words words (Place (Erasable p)) 0 40 (λ b o. refl)) (erasable_once p known)
    (no_empty words (Place (Erasable p)) 0 40 (λ b o. refl)) refl
shown_once words (Place (Fixed bank offset)) known = fixed_shown words bank offset (stands words bank offset) refl known.0 known.1
