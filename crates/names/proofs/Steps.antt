-- What one line more makes of a table of names.
use Rattle.std.proofs.Common.{◌≡◌, ℕ, ◌+◌, ◌∙◌, Bool, true, false, not, List, ◌∷◌, Err, Option, Some, None, ap, if◌then◌else◌}
use Rattle.symbols.specs.Values.{SymbolTable}
use Rattle.symbols.specs.declared.values.Value.{Value}
use Rattle.names.specs.declared.entry.Entry.TheVariants.{Nothing, Names, Wrong}
use Rattle.names.specs.Tables.{below, entry, is_heading, is_row, names_after, names_of, with_name}

pub after_nothing : (table : SymbolTable) → (n : ℕ) → (line : List ℕ) → (more : List (List ℕ)) → entry line ≡ Nothing
    → names_of table n (line ∷ more) ≡ names_of table (n + 1) more
unfolding names_of
after_nothing table n line more is = ap (λ e. names_after e (λ given. names_of given (n + 1) more) table n) is

pub after_wrong : (table : SymbolTable) → (n : ℕ) → (line : List ℕ) → (more : List (List ℕ)) → entry line ≡ Wrong
    → names_of table n (line ∷ more) ≡ Err (n + 1)
unfolding names_of
after_wrong table n line more is = ap (λ e. names_after e (λ given. names_of given (n + 1) more) table n) is

pub after_name : (table : SymbolTable) → (n : ℕ) → (line : List ℕ) → (more : List (List ℕ)) → (name : List ℕ) → (value : Value)
    → entry line ≡ Names name value
    → names_of table n (line ∷ more) ≡ names_of (with_name table name value) (n + 1) more
unfolding names_of
after_name table n line more name value is = ap (λ e. names_after e (λ given. names_of given (n + 1) more) table n) is

pub defined : (added found : Bool) → (new with_it without : SymbolTable) → added ≡ not found → new ≡ (if added then with_it else without)
    → new ≡ (if found then without else with_it)
defined added true new with_it without is made = rw is at made
defined added false new with_it without is made = rw is at made

-- a line and those after it, where it is the heading, a row or neither
abbrev sought : Bool → Bool → ℕ → List (List ℕ) → Option (ℕ × List (List ℕ))
sought heading row n more = if heading then Some (n + 1, more) else (if row then below (n + 1) more else None)

pub at_heading : (n : ℕ) → (line : List ℕ) → (more : List (List ℕ)) → is_heading line ≡ true → below n (line ∷ more) ≡ Some (n + 1, more)
unfolding below
at_heading n line more is = ap (λ heading. sought heading (is_row line) n more) is

pub past_row : (n : ℕ) → (line : List ℕ) → (more : List (List ℕ)) → is_heading line ≡ false → is_row line ≡ true
    → below n (line ∷ more) ≡ below (n + 1) more
unfolding below
past_row n line more is_none is = ap (λ heading. sought heading (is_row line) n more) is_none ∙ ap (λ row. sought false row n more) is

pub at_other : (n : ℕ) → (line : List ℕ) → (more : List (List ℕ)) → is_heading line ≡ false → is_row line ≡ false
    → below n (line ∷ more) ≡ None
unfolding below
at_other n line more is_none is = ap (λ heading. sought heading (is_row line) n more) is_none ∙ ap (λ row. sought false row n more) is
