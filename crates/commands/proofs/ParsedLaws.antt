-- What lines ask for.
use Rattle.std.proofs.Common.{◌≡◌, ℕ, nat_lt, None, Some, List, [], ◌∷◌, length, refl, inl, inr}
use Rattle.std.specs.Option.{option_and_then}
use Rattle.std.specs.Prelude.{if◌then◌else◌}
use Rattle.std.proofs.lemmas.Bool.{cases_Bool}
use Rattle.agc_text.specs.Fields.{fields}
use Rattle.agc_text.specs.Tables.{same_name, value_in}
use Rattle.symbols.specs.Values.{SymbolTable}
use Rattle.commands.specs.Commands.{Form, forms, parsed_in, parsed_line}
use Rattle.commands.specs.Lines.{kept_line, command_length}
use Rattle.commands.specs.declared.command.ParsedLine.{ParsedLine}
use Rattle.commands.specs.declared.command.ParsedLine.TheVariants.{TooLong}

-- no form of a table takes the fields
abbrev NoneTakes : List (List ℕ × Form) → List (List ℕ) → Type 0
NoneTakes [] texts = Unit {0}
NoneTakes (entry ∷ more) texts = (entry.1 texts ≡ None) × NoneTakes more texts

-- then no name gives a command
none-taken : (table : List (List ℕ × Form)) (name : List ℕ) (texts : List (List ℕ)) → NoneTakes table texts
    → option_and_then (λ form. form texts) (value_in table name) ≡ None
none-taken [] name texts none = refl
none-taken (entry ∷ more) name texts none =
    elim (cases_Bool (same_name name entry.0)) [
      | inl same ↦ rw same none.0
      | inr other ↦ rw other (none-taken more name texts none.1)
    ]

-- four fields are too many after any name
pub too-many : (symbols : SymbolTable) (name a b c d : List ℕ) (more : List (List ℕ))
    → option_and_then (λ form. form (a ∷ b ∷ c ∷ d ∷ more)) (value_in (forms symbols) name) ≡ None
unfolding forms
too-many symbols name a b c d more =
    none-taken (forms symbols) name (a ∷ b ∷ c ∷ d ∷ more)
    (refl, (refl, (refl, (refl, (refl, (refl, (refl, (refl, (refl, (refl, (refl, (refl, (refl, (refl, (refl, tt)))))))))))))))

-- what is made of a line that is kept whole, and of one that is too long
pub kept-whole : (A : Type 0) (made : List ℕ → A) (long : A) (line text : List ℕ) → Some text ≡ kept_line line
    → made text ≡ (if nat_lt command_length (length line) then long else made line)
kept-whole A made long line text same =
    elim (cases_Bool (nat_lt command_length (length line))) [
      | inl past ↦ let no : Some text ≡ None = rw past at same in cc
      | inr short ↦ let whole : Some text ≡ Some line = rw short at same in let e : text ≡ line = cc in rw (short, e) refl
    ]

pub not-kept : (A : Type 0) (made : List ℕ → A) (long : A) (line : List ℕ) → None ≡ kept_line line
    → long ≡ (if nat_lt command_length (length line) then long else made line)
not-kept A made long line same =
    elim (cases_Bool (nat_lt command_length (length line))) [
      | inl past ↦ rw past refl
      | inr short ↦ let no : None ≡ Some line = rw short at same in cc
    ]

-- what a line asks for that is kept whole
pub request-kept : (symbols : SymbolTable) (line text : List ℕ) → Some text ≡ kept_line line
    → parsed_in symbols text (fields text) ≡ parsed_line symbols line
unfolding parsed_line
request-kept symbols line text same = kept-whole ParsedLine (λ text. parsed_in symbols text (fields text)) TooLong line text same

-- what a line asks for that is too long
pub request-too-long : (symbols : SymbolTable) (line : List ℕ) → None ≡ kept_line line → TooLong ≡ parsed_line symbols line
unfolding parsed_line
request-too-long symbols line same = not-kept ParsedLine (λ text. parsed_in symbols text (fields text)) TooLong line same
