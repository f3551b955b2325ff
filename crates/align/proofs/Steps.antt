-- Places, one after another.
use Rattle.std.proofs.Common.{◌≡◌, ℕ, ◌+◌, ◌==◌, Bool, true, false, ◌&&◌, nat_lt, [], ◌∷◌, Option, Some, None, if◌then◌else◌, refl, add-one}
use Rattle.rope.specs.Places.{place_number, Words, word_at}
use Rattle.audit.specs.WordLines.{extracode_at}
use Rattle.align.specs.AlignLines.{joins, stand_free, stands_free, words_before}
use Rattle.align.specs.CarriedNames.{is_kept, keep_switched}
use Rattle.align.specs.Pairings.{Entries, Pairing, goes_on, goes_on_for, is_right_at, is_right_before}
use Rattle.cpu.specs.Codes.{code_of}
use Rattle.cpu.specs.Operands.{address_of}
use Rattle.align.specs.Tokens.{compared, ends_checked, filled, filled_before, of_erasable, operand_at, token_at}

-- no words belong together before the first of a bank
pub words_first : (pairs here : Entries) (bank : ℕ) → words_before pairs here bank 0 ≡ 0
unfolding words_before
words_first pairs here bank = refl

-- one word more
pub words_next : (pairs here : Entries) (bank n words next : ℕ) → words ≡ words_before pairs here bank n
    → next ≡ (if joins pairs here (place_number bank n) then words + 1 else 1) → next ≡ words_before pairs here bank (n + 1)
unfolding words_before
words_next pairs here bank n words next so_far e = rw (add-one n) (rw so_far at e)

-- nothing stands before the first word of a bank
pub filled_first : (words : Words) (bank : ℕ) → filled_before words bank 0 ≡ 0
unfolding filled_before
filled_first words bank = refl

pub filled_there : (words : Words) (bank n : ℕ) → (word_at words bank n == 0) ≡ false → filled_before words bank (n + 1) ≡ n + 1
unfolding filled_before
filled_there words bank n there = rw (add-one n, there) refl

pub filled_passed : (words : Words) (bank n : ℕ) → (word_at words bank n == 0) ≡ true
    → filled_before words bank (n + 1) ≡ filled_before words bank n
unfolding filled_before
filled_passed words bank n none = rw (add-one n, none) refl

-- all is right before the first place
pub right_first : (least : ℕ) (p : Pairing) → is_right_before least p 0 ≡ true
unfolding is_right_before
right_first least p = refl

pub right_next : (least : ℕ) (p : Pairing) (n : ℕ) → is_right_before least p (n + 1) ≡ (is_right_at least p n && is_right_before least p n)
unfolding is_right_before
right_next least p n = rw (add-one n) refl

-- a run goes on no times
pub goes_first : (pairs : Entries) (place : ℕ) → goes_on_for pairs place 0 ≡ true
unfolding goes_on_for
goes_first pairs place = refl

pub goes_next : (pairs : Entries) (place n : ℕ) → goes_on_for pairs place (n + 1) ≡ (goes_on pairs (place + n) && goes_on_for pairs place n)
unfolding goes_on_for
goes_next pairs place n = rw (add-one n) refl

-- what is compared at a place
pub token_next : (names : Entries) (words : Words) (bank n end word : ℕ) (extra checked : Bool) (entry : Option ℕ) → end ≡ filled words bank
    → word ≡ word_at words bank n
    → extra ≡ extracode_at words bank n → checked ≡ ends_checked words bank end
    → entry ≡ (if nat_lt n end then Some (compared names bank (n + 1 == end && checked) extra word) else None)
    → entry ∷ [] ≡ token_at names words bank n
unfolding token_at
token_next names words bank n end word extra checked entry a b c d e = rw (e, d, a, b, c) refl

-- what the word at a place names
pub operand_next : (words : Words) (bank n word : ℕ) (extra : Bool) (entry : Option ℕ) → word ≡ word_at words bank n
    → extra ≡ extracode_at words bank n
    → entry ≡ of_erasable (address_of (code_of extra word)) → entry ∷ [] ≡ operand_at words bank n
unfolding operand_at
operand_next words bank n word extra entry b c e = rw (e, b, c) refl

-- no places stand free
pub free_first : (pairs here : Entries) (place : ℕ) → stand_free pairs here place 0 ≡ true
unfolding stand_free
free_first pairs here place = refl

pub free_next : (pairs here : Entries) (place n : ℕ)
    → stand_free pairs here place (n + 1) ≡ (stands_free pairs here (place + n) && stand_free pairs here place n)
unfolding stand_free
free_next pairs here place n = rw (add-one n) refl

-- no address of the switched bank stands for another before the first
pub kept_first : (names : Entries) → keep_switched names 0 ≡ true
unfolding keep_switched
kept_first names = refl

pub kept_next : (names : Entries) (n : ℕ) → keep_switched names (n + 1) ≡ (is_kept names n && keep_switched names n)
unfolding keep_switched
kept_next names n = rw (add-one n) refl

pub ruleset filled_steps = (filled_first, filled_there, filled_passed)
