-- An account counts each place that a source fills once.
use Rattle.std.proofs.Common.{◌≡◌, ℕ, zero, suc, ◌+◌, ◌≤◌, ◌==◌, ◌&&◌, not, Bool, true, false, refl, arith}
use Rattle.std.specs.Prelude.{is_some, if◌then◌else◌}
use Rattle.rope.specs.Places.{Words, bank_words, stands, word_at}
use Rattle.audit.specs.BankFacts.{count_before}
use Rattle.certain.specs.Accounts.{CountsAll, account_of, is_certain, is_of}
use Rattle.certain.specs.declared.accounts.Kind.TheVariants.{Certain, Equal, Uncertain, Hole}
use Rattle.certain.specs.Places.{UncertainWords, form_at}

-- one more of some, where something holds
abbrev more : Bool → ℕ → ℕ
more b n = if b then n + 1 else n

-- a place where a word stands is certain, uncertain or a hole
one_more : (stood same formed : Bool) (a b c all : ℕ) → a + b + c ≡ all
    → more ((stood && same) && not formed) a + more ((stood && same) && formed) b + more (stood && not same) c ≡ more stood all
one_more true true true a b c all e = omega (arith, e)
one_more true true false a b c all e = omega (arith, e)
one_more true false true a b c all e = omega (arith, e)
one_more true false false a b c all e = omega (arith, e)
one_more false true true a b c all e = e
one_more false true false a b c all e = e
one_more false false true a b c all e = e
one_more false false false a b c all e = e

all_counted : (u : UncertainWords) (words other new : Words) (bank n : ℕ)
    → count_before (is_of Certain u words other new bank) n + count_before (is_of Uncertain u words other new bank) n
    + count_before (is_of Hole u words other new bank) n ≡ count_before (stands words bank) n
unfolding count_before
all_counted u words other new bank zero = refl
all_counted u words other new bank (suc n) =
    one_more (stands words bank n) (word_at words bank n == word_at other bank n) (is_some (form_at u bank n)) _ _ _ _
    (all_counted u words other new bank n)

-- of the certain ones some are equal
more_within : (certain same : Bool) (a b : ℕ) → a ≤ b → more (certain && same) a ≤ more certain b
more_within true true a b le = omega (arith, le)
more_within true false a b le = omega (arith, le)
more_within false same a b le = le

equal_within : (u : UncertainWords) (words other new : Words) (bank n : ℕ)
    → count_before (is_of Equal u words other new bank) n ≤ count_before (is_of Certain u words other new bank) n
unfolding count_before
equal_within u words other new bank zero = omega arith
equal_within u words other new bank (suc n) =
    more_within (is_certain u words other bank n) (word_at words bank n == word_at new bank n) _ _ (equal_within u words other new bank n)

pub counts_all : (u : UncertainWords) (words other new : Words) (bank : ℕ) → CountsAll u words other new bank
unfolding account_of
counts_all u words other new bank = record {
  all = all_counted u words other new bank bank_words;
  equal = equal_within u words other new bank bank_words;
}
