-- Each account stands once among all.
use Rattle.std.proofs.Common.{◌≡◌, ◌≢◌, ℕ, zero, suc, ◌+◌, ◌*◌, ◌<◌, ◌≤◌, ◌==◌, ◌&&◌, nat_lt, true, false, List, [], ◌∷◌, ◌++◌, map, refl}
use Rattle.std.proofs.Common.{ap, ◌∙◌, inl, inr, arith}
use Rattle.std.proofs.lemmas.Bool.{eqb-true, eqb-false, and_parts, ltb-true, lt-ltb}
use Rattle.std.proofs.lemmas.Bool.Decides.{eqb_tells, nat_tests}
use Rattle.std.specs.List.{range_with_len, flat_map}
use Rattle.space.specs.declared.place.Linear.{Linear}
use Rattle.space.specs.declared.place.Linear.TheVariants.{Erasable, Fixed}
use Rattle.cpu.specs.declared.account.Account.{Account}
use Rattle.cpu.specs.declared.account.Account.TheVariants.{Input, Entry, Waiting, Place}
use Rattle.cpu.specs.Profiles.{same_account, times_in}
use Rattle.cover.specs.Tallies.{IsAccount, is_account, account_number, all_accounts, bank_accounts, erasable_accounts}

pub times_append : (a : Account) (xs ys : List Account) → times_in a (xs ++ ys) ≡ times_in a xs + times_in a ys
times_append a [] ys = omega arith
times_append a (x ∷ xs) ys = let rest = times_append a xs ys in omega (arith, rest)

-- in a range of which no number gives the account
none_in : (a : Account) (f : ℕ → Account) (from n : ℕ) → ((j : ℕ) → from ≤ j → j < from + n → same_account (f j) a ≡ false)
    → times_in a (map f (range_with_len from n)) ≡ 0
none_in a f from zero apart = refl
none_in a f from (suc n) apart =
    let first : same_account (f from) a ≡ false = apart from (omega arith) (omega arith) in
    let rest = none_in a f (from + 1) n (λ j h lt. apart j (omega (arith, h)) (omega (arith, lt))) in
    rw (first, rest) refl

-- in a range of which one number gives it
one_in : (a : Account) (f : ℕ → Account) (x from n : ℕ) → same_account (f x) a ≡ true → ((j : ℕ) → j ≢ x → same_account (f j) a ≡ false)
    → from ≤ x → x < from + n
    → times_in a (map f (range_with_len from n)) ≡ 1
one_in a f x from zero hit miss h lt = absurd (omega (arith, h, lt))
one_in a f x from (suc n) hit miss h lt =
    elim (eqb_tells from x) [
      | inl here ↦
          let first : same_account (f from) a ≡ true = rw here.1 hit in
          let rest = none_in a f (from + 1) n (λ j g gt. miss j (λ e. absurd (omega (arith, e, g, here.1)))) in
          rw (first, rest) refl
      | inr apart ↦
          let rest = one_in a f x (from + 1) n hit miss (omega (arith, h, apart.1)) (omega (arith, lt)) in
          rw (miss from apart.1, rest) refl
    ]

-- the same of a range whose numbers give lists
pub none_of : (a : Account) (f : ℕ → List Account) (from n : ℕ) → ((j : ℕ) → from ≤ j → j < from + n → times_in a (f j) ≡ 0)
    → times_in a (flat_map f (range_with_len from n)) ≡ 0
none_of a f from zero apart = refl
none_of a f from (suc n) apart =
    let first = apart from (omega arith) (omega arith) in
    let rest = none_of a f (from + 1) n (λ j h lt. apart j (omega (arith, h)) (omega (arith, lt))) in
    let both = times_append a (f from) (flat_map f (range_with_len (from + 1) n)) in
    omega (arith, first, rest, both)

pub one_of : (a : Account) (f : ℕ → List Account) (x from n : ℕ) → times_in a (f x) ≡ 1 → ((j : ℕ) → j ≢ x → times_in a (f j) ≡ 0)
    → from ≤ x → x < from + n
    → times_in a (flat_map f (range_with_len from n)) ≡ 1
one_of a f x from zero hit miss h lt = absurd (omega (arith, h, lt))
one_of a f x from (suc n) hit miss h lt =
    let both = times_append a (f from) (flat_map f (range_with_len (from + 1) n)) in
    elim (eqb_tells from x) [
      | inl here ↦
          let first : times_in a (f from) ≡ 1 = rw here.1 hit in
          let rest = none_of a f (from + 1) n (λ j g gt. miss j (λ e. absurd (omega (arith, e, g, here.1)))) in
          omega (arith, first, rest, both)
      | inr apart ↦
          let first = miss from apart.1 in
          let rest = one_of a f x (from + 1) n hit miss (omega (arith, h, apart.1)) (omega (arith, lt)) in
          omega (arith, first, rest, both)
    ]

pub same_number : (n : ℕ) → (n == n) ≡ true
same_number n = grind (arith, nat_tests)

pub other_number : (n m : ℕ) → n ≢ m → (n == m) ≡ false
other_number n m apart = grind (arith, nat_tests)

-- places of erasable memory
pub erasable_once : (p : ℕ) → p < 2048 → times_in (Place (Erasable p)) erasable_accounts ≡ 1
erasable_once p lt = one_in (Place (Erasable p)) (λ j. Place (Erasable j)) p 0 2048 (same_number p) (λ j apart. other_number j p apart)
    (omega arith) (omega (arith, lt))

no_bank_erasable : (p bank : ℕ) → times_in (Place (Erasable p)) (bank_accounts bank) ≡ 0
no_bank_erasable p bank = none_in (Place (Erasable p)) (λ j. Place (Fixed bank j)) 0 1024 (λ j h lt. refl)

-- places of fixed memory
pub no_erasable_fixed : (bank offset : ℕ) → times_in (Place (Fixed bank offset)) erasable_accounts ≡ 0
no_erasable_fixed bank offset = none_in (Place (Fixed bank offset)) (λ j. Place (Erasable j)) 0 2048 (λ j h lt. refl)

fixed_once : (bank offset : ℕ) → offset < 1024 → times_in (Place (Fixed bank offset)) (bank_accounts bank) ≡ 1
fixed_once bank offset lt =
    one_in (Place (Fixed bank offset)) (λ j. Place (Fixed bank j)) offset 0 1024 (rw (same_number bank, same_number offset) refl)
    (λ j apart. rw (same_number bank, other_number j offset apart) refl) (omega arith) (omega (arith, lt))

other_bank : (bank offset other : ℕ) → other ≢ bank → times_in (Place (Fixed bank offset)) (bank_accounts other) ≡ 0
other_bank bank offset other apart = none_in (Place (Fixed bank offset)) (λ j. Place (Fixed other j)) 0 1024
    (λ j h lt. rw (other_number other bank apart) refl)

banks_once : (bank offset : ℕ) → bank < 40 → offset < 1024
    → times_in (Place (Fixed bank offset)) (flat_map bank_accounts (range_with_len 0 40)) ≡ 1
banks_once bank offset few lt =
    one_of (Place (Fixed bank offset)) bank_accounts bank 0 40 (fixed_once bank offset lt) (λ j apart. other_bank bank offset j apart)
    (omega arith) (omega (arith, few))

-- what is served at no place stands among no places
pub none_erasable : (a : Account) → ((place : Linear) → same_account (Place place) a ≡ false) → times_in a erasable_accounts ≡ 0
none_erasable a apart = none_in a (λ j. Place (Erasable j)) 0 2048 (λ j h lt. apart (Erasable j))

none_fixed : (a : Account) → ((place : Linear) → same_account (Place place) a ≡ false)
    → times_in a (flat_map bank_accounts (range_with_len 0 40)) ≡ 0
none_fixed a apart = none_of a bank_accounts 0 40
    (λ bank h lt. none_in a (λ j. Place (Fixed bank j)) 0 1024 (λ j g l. apart (Fixed bank j)))

sum_of_three : (all places k e b first second third : ℕ) → first ≡ k → second ≡ e → third ≡ b → places ≡ second + third
    → all ≡ first + places → all ≡ k + (e + b)
sum_of_three all places k e b first second third p q r s t = omega arith

-- how often an account stands among all
among_all : (a : Account) (k e b : ℕ) → times_in a (Input ∷ Entry ∷ Waiting ∷ []) ≡ k → times_in a erasable_accounts ≡ e
    → times_in a (flat_map bank_accounts (range_with_len 0 40)) ≡ b
    → times_in a all_accounts ≡ k + (e + b)
unfolding all_accounts
among_all a k e b first second third =
    let places = times_append a erasable_accounts (flat_map bank_accounts (range_with_len 0 40)) in
    let all = times_append a (Input ∷ Entry ∷ Waiting ∷ []) (erasable_accounts ++ flat_map bank_accounts (range_with_len 0 40)) in
    sum_of_three _ _ k e b _ _ _ first second third places all

pub once : (a : Account) → IsAccount a → times_in a all_accounts ≡ 1
once Input known = among_all Input 1 0 0 refl (none_erasable Input (λ place. refl)) (none_fixed Input (λ place. refl))
once Entry known = among_all Entry 1 0 0 refl (none_erasable Entry (λ place. refl)) (none_fixed Entry (λ place. refl))
once Waiting known = among_all Waiting 1 0 0 refl (none_erasable Waiting (λ place. refl)) (none_fixed Waiting (λ place. refl))
once (Place (Erasable p)) known =
    among_all (Place (Erasable p)) 0 1 0 refl (erasable_once p known)
    (none_of (Place (Erasable p)) bank_accounts 0 40 (λ bank h lt. no_bank_erasable p bank))
once (Place (Fixed bank offset)) known =
    among_all (Place (Fixed bank offset)) 0 0 1 refl (no_erasable_fixed bank offset) (banks_once bank offset known.0 known.1)

-- an account is told by its number
same_place_number : (bank offset c k : ℕ) → offset < 1024 → k < 1024 → (bank == c && offset == k) ≡ false
    → 1024 * bank + offset ≢ 1024 * c + k
same_place_number bank offset c k lt less apart e =
    let first : bank ≡ c = omega (arith, lt, less, e) in
    let second : offset ≡ k = omega (arith, lt, less, e) in
    let same : (bank == c && offset == k) ≡ true = rw (first, second, same_number c, same_number k) refl in
    cc

pub other_account : (a b : Account) → IsAccount a → IsAccount b → same_account a b ≡ false → account_number a ≢ account_number b
other_account Input Input p q e same = cc
other_account Input Entry p q e same = absurd (omega (arith, same))
other_account Input Waiting p q e same = absurd (omega (arith, same))
other_account Input (Place (Erasable k)) p q e same = absurd (omega (arith, same))
other_account Input (Place (Fixed c k)) p q e same = absurd (omega (arith, same))
other_account Entry Input p q e same = absurd (omega (arith, same))
other_account Entry Entry p q e same = cc
other_account Entry Waiting p q e same = absurd (omega (arith, same))
other_account Entry (Place (Erasable k)) p q e same = absurd (omega (arith, same))
other_account Entry (Place (Fixed c k)) p q e same = absurd (omega (arith, same))
other_account Waiting Input p q e same = absurd (omega (arith, same))
other_account Waiting Entry p q e same = absurd (omega (arith, same))
other_account Waiting Waiting p q e same = cc
other_account Waiting (Place (Erasable k)) p q e same = absurd (omega (arith, same))
other_account Waiting (Place (Fixed c k)) p q e same = absurd (omega (arith, same))
other_account (Place (Erasable j)) Input p q e same = absurd (omega (arith, same))
other_account (Place (Erasable j)) Entry p q e same = absurd (omega (arith, same))
other_account (Place (Erasable j)) Waiting p q e same = absurd (omega (arith, same))
other_account (Place (Erasable j)) (Place (Erasable k)) p q e same = absurd (eqb-false j k e (omega (arith, same)))
other_account (Place (Erasable j)) (Place (Fixed c k)) p q e same = absurd (omega (arith, same, p))
other_account (Place (Fixed b j)) Input p q e same = absurd (omega (arith, same))
other_account (Place (Fixed b j)) Entry p q e same = absurd (omega (arith, same))
other_account (Place (Fixed b j)) Waiting p q e same = absurd (omega (arith, same))
other_account (Place (Fixed b j)) (Place (Erasable k)) p q e same = absurd (omega (arith, same, q))
other_account (Place (Fixed b j)) (Place (Fixed c k)) p q e same = absurd (same_place_number b j c k p.1 q.1 e (omega (arith, same)))

pub same_is_one : (a b : Account) → same_account a b ≡ true → a ≡ b
same_is_one Input Input e = refl
same_is_one Input Entry e = cc
same_is_one Input Waiting e = cc
same_is_one Input (Place p) e = cc
same_is_one Entry Input e = cc
same_is_one Entry Entry e = refl
same_is_one Entry Waiting e = cc
same_is_one Entry (Place p) e = cc
same_is_one Waiting Input e = cc
same_is_one Waiting Entry e = cc
same_is_one Waiting Waiting e = refl
same_is_one Waiting (Place p) e = cc
same_is_one (Place p) Input e = cc
same_is_one (Place p) Entry e = cc
same_is_one (Place p) Waiting e = cc
same_is_one (Place (Erasable j)) (Place (Erasable k)) e = ap (λ n. Place (Erasable n)) (eqb-true j k e)
same_is_one (Place (Erasable j)) (Place (Fixed c k)) e = cc
same_is_one (Place (Fixed b j)) (Place (Erasable k)) e = cc
same_is_one (Place (Fixed b j)) (Place (Fixed c k)) e =
    let parts = and_parts (b == c) (j == k) e in
    ap (λ n. Place (Fixed n j)) (eqb-true b c parts.0) ∙ ap (λ n. Place (Fixed c n)) (eqb-true j k parts.1)

-- what is an account
pub is_one : (a : Account) → IsAccount a → is_account a ≡ true
is_one Input known = refl
is_one Entry known = refl
is_one Waiting known = refl
is_one (Place (Erasable p)) known = lt-ltb p 2048 known
is_one (Place (Fixed bank offset)) known =
    let first : nat_lt bank 40 ≡ true = lt-ltb bank 40 known.0 in
    let second : nat_lt offset 1024 ≡ true = lt-ltb offset 1024 known.1 in
    rw (first, second) refl

pub one_is : (a : Account) → is_account a ≡ true → IsAccount a
one_is Input e = tt
one_is Entry e = tt
one_is Waiting e = tt
one_is (Place (Erasable p)) e = ltb-true p 2048 e
one_is (Place (Fixed bank offset)) e =
    let parts = and_parts (nat_lt bank 40) (nat_lt offset 1024) e in
    (ltb-true bank 40 parts.0, ltb-true offset 1024 parts.1)
