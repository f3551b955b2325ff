use Rattle.std.proofs.Common.{◌≡◌, ◌==◌, ◌<◌, ◌&&◌, ℕ, Bool, true, List, [], ◌∷◌, length, filter, nat_lt, refl, sym, inl, inr, arith}
use Rattle.std.specs.List.{list_all}
use Rattle.std.proofs.lemmas.Bool.{cases_Bool, and_parts, eqb-true, eqb-false, ltb-true}
use Rattle.agc_text.specs.Tables.{same_name, value_in}
use Rattle.symbols.proofs.Names.{same_length}

-- a name is looked up among the rows of its own length
pub value_in-of_length : {V : Type 0} (table : List (List ℕ × V)) (name : List ℕ)
    → value_in (filter (λ row. length row.0 == length name) table) name ≡ value_in table name
value_in-of_length [] name = refl
value_in-of_length (row ∷ rows) name =
    elim (cases_Bool (length row.0 == length name)) [
      | inl fits ↦ rw fits (elim (cases_Bool (same_name name row.0)) [
        | inl same ↦ rw same refl
        | inr apart ↦ rw apart (value_in-of_length rows name)
      ])
      | inr differs ↦ rw differs (elim (cases_Bool (same_name name row.0)) [
        | inl same ↦ absurd (eqb-false (length row.0) (length name) differs (sym (same_length name row.0 same)))
        | inr apart ↦ rw apart (value_in-of_length rows name)
      ])
    ]

-- a name has a character, and fewer than so many
abbrev fits_a_field : ℕ → List ℕ → Bool
fits_a_field most name = nat_lt 0 (length name) && nat_lt (length name) most

-- no name of so few characters has another length
pub none_of_length :
    {V : Type 0} (most count : ℕ) (table : List (List ℕ × V)) → list_all (λ row. fits_a_field most row.0) table ≡ true
    → (0 < count → count < most → ⊥) → filter (λ row. length row.0 == count) table ≡ []
none_of_length most count [] fit outside = refl
none_of_length most count (row ∷ rows) fit outside =
    let parts = and_parts (fits_a_field most row.0) (list_all (λ row. fits_a_field most row.0) rows) fit in
    elim (cases_Bool (length row.0 == count)) [
      | inl same ↦ absurd (
          let equal = eqb-true (length row.0) count same in
          let ends = and_parts (nat_lt 0 (length row.0)) (nat_lt (length row.0) most) parts.0 in
          let low = ltb-true 0 (length row.0) ends.0 in
          let high = ltb-true (length row.0) most ends.1 in
          outside (omega arith) (omega arith))
      | inr differs ↦ rw differs (none_of_length most count rows parts.1 outside)
    ]
