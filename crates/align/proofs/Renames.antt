-- Renamings, address by address.
use Rattle.std.proofs.Common.{◌≡◌, ℕ, zero, suc, ◌+◌, ◌<◌, ◌/◌, ◌%◌, List, [], ◌++◌, Bool, true, false, not, ◌==◌, ◌&&◌, ◌||◌}
use Rattle.std.proofs.Common.{if◌then◌else◌, ◌⊎◌, inl, inr, refl, add-one, arith, sym, ap, ◌∙◌, ◌*◌}
use Rattle.std.specs.Prelude.{nat_le}
use Rattle.std.proofs.lemmas.Bool.Decides.{nat_tests}
use Rattle.words.specs.Devices.{WritesBeginning}
use Rattle.rope.specs.Places.{banks, fixed_places}
use Rattle.audit.proofs.PartTexts.{begins_parts, front, front_ends}
use Rattle.align.specs.Alignments.{Renaming}
use Rattle.align.specs.RenamedLines.{first_renamed, renamed_line}
use Rattle.align.specs.Pairings.{Entries, Pairing}
use Rattle.align.specs.Renamings.{are_renamed, is_renaming, renamed, stands_rightly, IsOneToOne}

-- all is right before the first address
pub renamed_first : (names back : Entries) → are_renamed names back 0 ≡ true
unfolding are_renamed
renamed_first names back = refl

pub renamed_next : (names back : Entries) (n : ℕ)
    → are_renamed names back (n + 1) ≡ (stands_rightly names back (n / 0o2000) (n % 0o2000) && are_renamed names back n)
unfolding are_renamed
renamed_next names back n = rw (add-one n) refl

-- two truths, both at once and from both
and_true : (a b : Bool) → a ≡ true → b ≡ true → (a && b) ≡ true
and_true a b e f = rw (e, f) refl

and_left : (a b : Bool) → (a && b) ≡ true → a ≡ true
and_left true b h = refl
and_left false b h = h

and_right : (a b : Bool) → (a && b) ≡ true → b ≡ true
and_right true b h = h
and_right false b h = absurd (cc)

same_number : (n : ℕ) → (n == n) ≡ true
same_number n = grind (arith, nat_tests)

equal_numbers : (n k : ℕ) → (n == k) ≡ true → n ≡ k
equal_numbers n k e = grind (arith, nat_tests)

-- each address may stand for itself
or_true : (a b : Bool) → b ≡ true → (a || b) ≡ true
or_true true b e = refl
or_true false b e = e

either_way : (c : Bool) → (if c then c else not c) ≡ true
either_way true = refl
either_way false = refl

stands_itself : (bank address : ℕ) → stands_rightly [] [] bank address ≡ true
stands_itself bank address = and_true _ _ (and_true _ _ (or_true _ _ (same_number address)) (either_way (nat_le 0o1400 address)))
    (same_number address)

all_themselves : (n : ℕ) → are_renamed [] [] n ≡ true
unfolding are_renamed
all_themselves zero = refl
all_themselves (suc n) = and_true _ _ (stands_itself (n / 0o2000) (n % 0o2000)) (all_themselves n)

-- where nothing is renamed all is right
pub nothing_renamed : (names back : Entries) → names ≡ [] → back ≡ [] → is_renaming names back ≡ true
nothing_renamed names back e f = rw (e, f) (all_themselves fixed_places)

-- each address before the last stands rightly
at_each : (names back : Entries) (n k : ℕ) → k < n → are_renamed names back n ≡ true
    → stands_rightly names back (k / 0o2000) (k % 0o2000) ≡ true
unfolding are_renamed
at_each names back zero k lt e = absurd (omega (arith, lt))
at_each names back (suc n) k lt e = elim (cases k n lt) [
  | inl less ↦ at_each names back n k less (and_right _ _ e)
  | inr same ↦ rw same (and_left _ _ e)
]
  where
    cases : (k n : ℕ) → k < suc n → (k < n) ⊎ (k ≡ n)
    cases k n lt = grind arith

-- the number of an address of a bank
parts : (bank address : ℕ) → address < 0o2000 → ((0o2000 * bank + address) / 0o2000 ≡ bank) × ((0o2000 * bank + address) % 0o2000 ≡ address)
parts bank address within = (omega (arith, within), omega (arith, within))

-- what stands for an address stands for it alone
comes_back : (names back : Entries) (bank address : ℕ) → bank < banks → address < 0o2000 → is_renaming names back ≡ true
    → renamed back bank (renamed names bank address) ≡ address
comes_back names back bank address in_banks within e =
    let p = parts bank address within in
    equal_numbers _ _ (and_right _ _ (rw (p.0, p.1) at
    (at_each names back fixed_places (0o2000 * bank + address) (omega (arith, in_banks, within)) e)))

pub one_to_one : (names back : Entries) → is_renaming names back ≡ true → IsOneToOne names
one_to_one names back e = λ bank address other in_banks within beyond same.
    sym (comes_back names back bank address in_banks within e) ∙ ap (renamed back bank) same
    ∙ comes_back names back bank other in_banks beyond e

-- the lines of a front of the entries were written, and then a beginning of that of the next one, or nothing is left
pub renamed_begin : (r : Renaming) (p : Pairing) (n count : ℕ) (a b c : List ℕ) → n < count → b ≡ a ++ front (renamed_line r p) n
    → WritesBeginning b c (renamed_line r p n) → WritesBeginning a c (first_renamed r p count)
unfolding first_renamed
renamed_begin r p n count a b c lt written next = begins_parts (renamed_line r p) n count a b c lt written next

pub renamed_end : (r : Renaming) (p : Pairing) (n count : ℕ) (a b : List ℕ) → n ≡ count → b ≡ a ++ front (renamed_line r p) n
    → b ≡ a ++ first_renamed r p count
unfolding first_renamed
renamed_end r p n count a b e written = front_ends (renamed_line r p) n count a b e written
