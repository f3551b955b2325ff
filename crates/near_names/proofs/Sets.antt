-- Sets of names.
use Rattle.std.proofs.Common.{◌≡◌, ◌∙◌, ℕ, ◌+◌, ◌≤◌, length, arith, Bool, true, false, not, List, [], ◌∷◌, ◌++◌, Some, map, drop, find}
use Rattle.std.proofs.Common.{slice_get, is_some, refl, ap, sym, inl, inr}
use Rattle.std.specs.Prelude.{if◌then◌else◌}
use Rattle.std.proofs.lemmas.Bool.{cases_Bool}
use Rattle.std.proofs.lemmas.Bool.Decides.{nat_tests}
use Rattle.std.proofs.lemmas.List.{drop_more, map-append}
use Rattle.std.proofs.lemmas.Map.Made.{is_some-lookup}
use Rattle.std.proofs.lemmas.Option.{get_or_from_slice_get, slice_get_within}
use Rattle.agc_text.specs.Tables.{same_name, value_in}
use Rattle.symbols.specs.declared.values.Value.{Value}
use Rattle.near_names.specs.Names.{is_among, is_short, with_name}

-- a name that is defined in a table where it is not there yet
pub name_added :
    (table after : List (List ℕ × Value)) (text : List ℕ) (added : Bool) (value : Value) → is_short text ≡ true
    → added ≡ not (is_some (value_in table text))
    → after ≡ (if added then table ++ (text, value) ∷ [] else table) → map (λ e. e.0) after ≡ with_name (map (λ e. e.0) table) text
name_added table after text added value short says is =
    let names = map {B = List ℕ} (λ e. e.0) table in
    let there : is_some (value_in table text) ≡ is_among names text = is_some-lookup (same_name text) table in
    elim (cases_Bool (is_some (value_in table text))) [
      | inl found ↦ rw short (rw (sym there ∙ found)
          (ap (map (λ e. e.0)) (is ∙ ap (λ b. if b then table ++ (text, value) ∷ [] else table) (says ∙ ap not found))))
      | inr lacks ↦ rw short (rw (sym there ∙ lacks)
          (ap (map (λ e. e.0)) (is ∙ ap (λ b. if b then table ++ (text, value) ∷ [] else table) (says ∙ ap not lacks))
          ∙ map-append (λ e. e.0) table ((text, value) ∷ [])))
    ]

-- a name that is a text which is no longer than a label
pub short_name : (name text : List ℕ) → length text ≤ 8 → name ≡ text → is_short name ≡ true
short_name name text few same = grind (arith, nat_tests)

-- what stands at a place of a list begins what is left of it
left_at : (names : List (List ℕ)) (i : ℕ) (name : List ℕ) → Some name ≡ slice_get names i → drop i names ≡ name ∷ drop (i + 1) names
left_at names i name at =
    drop_more names i [] (slice_get_within names i name (sym at))
    ∙ ap (λ n. n ∷ drop (i + 1) names) (get_or_from_slice_get names i name [] (sym at))

-- a name that passes is the first that does of those that are left
pub find_here : (test : List ℕ → Bool) (names : List (List ℕ)) (i : ℕ) (name : List ℕ) → Some name ≡ slice_get names i → test name ≡ true
    → find test (drop i names) ≡ Some name
find_here test names i name at passes = rw (left_at names i name at) (rw passes refl)

-- one that does not is passed over
pub find_on :
    (test : List ℕ → Bool) (names : List (List ℕ)) (i : ℕ) (name : List ℕ) → Some name ≡ slice_get names i → test name ≡ false
    → find test (drop i names) ≡ find test (drop (i + 1) names)
find_on test names i name at fails = rw (left_at names i name at) (rw fails refl)

-- no text is one of no names
pub none_among : (table : List (List ℕ × Value)) (text : List ℕ) → length table ≡ 0 → is_among (map (λ e. e.0) table) text ≡ false
none_among [] text none = refl
none_among (e ∷ es) text none = absurd (omega (arith, none))
