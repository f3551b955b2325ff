-- The source with names gives the words back, since it is tried.
use Rattle.std.proofs.Common.{◌≡◌, ◌<◌, ◌&&◌, ℕ, zero, suc, Bool, true, false, List, Option, Some, None, Result, Ok, Err, refl, ap, arith}
use Rattle.std.proofs.Common.{inl, inr, if◌then◌else◌}
use Rattle.std.proofs.lemmas.Bool.{cases_order}
use Rattle.std.proofs.lemmas.Bool.Decides.{nat_tests}
use Rattle.rope.specs.Places.{banks, bank_words, Words, slot_at}
use Rattle.symbols.specs.Values.{SymbolTable}
use Rattle.yayul.specs.declared.faults.Fault.{Fault}
use Rattle.yayul.specs.Program.{Program, program}
use Rattle.yayul.specs.declared.language.Language.TheVariants.{Standard}
use Rattle.audit.specs.SourceLines.{source_text}
use Rattle.named_source.specs.GivenBack.{AreWords, IsBank, GivesBack}
use Rattle.named_source.proofs.OctalGivenBack as octal
use Rattle.named_source.specs.NamedSources.{bank_given, banks_given, gives_words, is_same, named_source, wanted, with_names}

-- both of two tests hold
first_holds : (a b : Bool) → (a && b) ≡ true → a ≡ true
first_holds true b e = refl
first_holds false b e = e

second_holds : (a b : Bool) → (a && b) ≡ true → b ≡ true
second_holds true b e = e
second_holds false b e = absurd (let never : false ≡ true = e in cc)

-- what holds the same is the same
same_holds : (a b : Option ℕ) → is_same a b ≡ true → a ≡ b
same_holds None None e = refl
same_holds (Some word) (Some other) e = ap Some (grind (arith, e, nat_tests))
same_holds None (Some other) e = absurd (let never : false ≡ true = e in cc)
same_holds (Some word) None e = absurd (let never : false ≡ true = e in cc)

-- each word of a bank
in_bank : (words : Words) (asked : Option ℕ) (given : Words) (bank n offset : ℕ) → bank_given words asked given bank n ≡ true → offset < n
    → slot_at given bank offset ≡ wanted words asked bank offset
unfolding bank_given
in_bank words asked given bank zero offset e lt = absurd (omega (arith, lt))
in_bank words asked given bank (suc n) offset e lt = elim (cases_order offset n) [
  | inl same ↦ rw same (same_holds (slot_at given bank n) (wanted words asked bank n) (first_holds _ _ e))
  | inr (inl below) ↦ in_bank words asked given bank n offset (second_holds _ _ e) below
  | inr (inr above) ↦ absurd (omega (arith, lt, above))
]

-- each bank
in_banks : (words : Words) (asked : Option ℕ) (given : Words) (n bank : ℕ) → banks_given words asked given n ≡ true → bank < n
    → bank_given words asked given bank bank_words ≡ true
unfolding banks_given
in_banks words asked given zero bank e lt = absurd (omega (arith, lt))
in_banks words asked given (suc n) bank e lt = elim (cases_order bank n) [
  | inl same ↦ rw same (first_holds _ _ e)
  | inr (inl below) ↦ in_banks words asked given n bank (second_holds _ _ e) below
  | inr (inr above) ↦ absurd (omega (arith, lt, above))
]

-- a source that was tried gives back
tried : (words : Words) (asked : Option ℕ) (source : List ℕ) (r : Result Program Fault) → program Standard source ≡ r
    → gives_words words asked r ≡ true → GivesBack words asked source
tried words asked source (Ok p) is e = record {
  given = p;
  assembles = is;
  same = λ b o inside small. in_bank words asked p.rope b bank_words o (in_banks words asked p.rope banks b e inside) small;
}
tried words asked source (Err fault) is e = absurd (let never : false ≡ true = e in cc)

-- the one that is chosen
chosen : (words : Words) (asked : Option ℕ) (source other : List ℕ) (test : Bool) → (test ≡ true → GivesBack words asked source)
    → GivesBack words asked other
    → GivesBack words asked (if test then source else other)
chosen words asked source other true named octals = named refl
chosen words asked source other false named octals = octals

pub given_back : (names : SymbolTable) (words : Words) (asked : Option ℕ) → AreWords words → IsBank asked
    → GivesBack words asked (named_source names words asked)
unfolding named_source
given_back names words asked few is =
    chosen words asked (with_names names words asked) (source_text words asked)
    (gives_words words asked (program Standard (with_names names words asked)))
    (tried words asked (with_names names words asked) (program Standard (with_names names words asked)) refl)
    (octal.given_back words asked few is)
