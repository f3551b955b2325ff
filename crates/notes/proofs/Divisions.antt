-- DV is an extracode, and TS is none: no word of the other table has its name, nor has one outside of its range.
use Rattle.std.proofs.Common.{◌≡◌, ℕ, Bool, true, false, nat_le, ◌&&◌, ◌||◌, List, [], ◌∷◌, Option, Some, cond, refl, find, unwrap_or}
use Rattle.std.specs.List.{list_any}
use Rattle.std.specs.Prelude.{codes}
use Rattle.agc_text.specs.Tables.{same_name}
use Rattle.cpu.specs.Codes.{Range, basic_rows, code_of, extracode_rows, no_range, row_of, serves}

abbrev is_named : List ℕ → Range → Bool
is_named name r = same_name (row_of r.instruction).name name

pub neither : (b c : Bool) → (b || c) ≡ false → (b ≡ false) × (c ≡ false)
neither true c e = absurd (cc)
neither false c e = (refl, e)

chosen : (name : List ℕ) (b : Bool) (r : Range) (o : Option Range) → is_named name r ≡ false → is_named name (unwrap_or o no_range) ≡ false
    → is_named name (unwrap_or (cond b (Some r) o) no_range) ≡ false
chosen name true r o here later = here
chosen name false r o here later = later

found : (name : List ℕ) (p : Range → Bool) (rs : List Range) → is_named name no_range ≡ false → list_any (is_named name) rs ≡ false
    → is_named name (unwrap_or (find p rs) no_range) ≡ false
found name p [] last none = last
found name p (r ∷ rs) last none =
    let both = neither (is_named name r) (list_any (is_named name) rs) none in
    chosen name (p r) r (find p rs) both.0 (found name p rs last both.1)

pub basic_never : (word : ℕ) → same_name (row_of (code_of false word).instruction).name (codes "DV") ≡ false
unfolding basic_rows code_of
basic_never word = found (codes "DV") (serves word) basic_rows refl refl

pub extracode_never : (word : ℕ) → same_name (row_of (code_of true word).instruction).name (codes "TS") ≡ false
unfolding extracode_rows code_of
extracode_never word = found (codes "TS") (serves word) extracode_rows refl refl

-- DV is no word outside of its range
and_true : (b : Bool) → (b && true) ≡ false → b ≡ false
and_true true e = absurd (cc)
and_true false e = refl

chosen_but : (name : List ℕ) (b : Bool) (r : Range) (o : Option Range) → (is_named name r && b) ≡ false
    → is_named name (unwrap_or o no_range) ≡ false → is_named name (unwrap_or (cond b (Some r) o) no_range) ≡ false
chosen_but name true r o here later = and_true (is_named name r) here
chosen_but name false r o here later = later

found_but : (name : List ℕ) (p : Range → Bool) (rs : List Range) → is_named name no_range ≡ false
    → list_any (λ r. is_named name r && p r) rs ≡ false
    → is_named name (unwrap_or (find p rs) no_range) ≡ false
found_but name p [] last none = last
found_but name p (r ∷ rs) last none =
    let both = neither (is_named name r && p r) (list_any (λ q. is_named name q && p q) rs) none in
    chosen_but name (p r) r (find p rs) both.0 (found_but name p rs last both.1)

pub never_elsewhere : (word : ℕ) → (nat_le 0o10000 word && nat_le word 0o11777) ≡ false
    → same_name (row_of (code_of true word).instruction).name (codes "DV") ≡ false
unfolding extracode_rows code_of
never_elsewhere word outside = found_but (codes "DV") (serves word) extracode_rows refl (rw outside refl)

-- nor is TS
pub store_never_elsewhere : (word : ℕ) → (nat_le 0o54000 word && nat_le word 0o55777) ≡ false
    → same_name (row_of (code_of false word).instruction).name (codes "TS") ≡ false
unfolding basic_rows code_of
store_never_elsewhere word outside = found_but (codes "TS") (serves word) basic_rows refl (rw outside refl)
