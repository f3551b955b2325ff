-- Symbols that stand apart are read by their names, and change nothing that is read without them.
use Rattle.std.proofs.Common.{◌≡◌, ℕ, zero, suc, ◌<◌, ◌==◌, true, List, [], ◌∷◌, length, get_or, All, Some, None}
use Rattle.std.proofs.Common.{Option, IfSome, is_some, refl, sym, subst, ap, ◌∙◌, inl, inr, arith}
use Rattle.std.specs.Prelude.{option_and_then, if◌then◌else◌}
use Rattle.std.specs.Option.{option_or}
use Rattle.std.specs.Cmp.Lexicographic.{same_text}
use Rattle.std.proofs.lemmas.Bool.{and_parts, cases_Bool, eqb-true}
use Rattle.std.proofs.lemmas.Cmp.{nat_list_eq_equiv}
use Rattle.std.proofs.lemmas.List.Elements.{All-head, All-tail}
use Rattle.agc_text.specs.Tables.{same_name, value_in}
use Rattle.space.specs.declared.place.Linear.{Linear}
use Rattle.space.specs.declared.place.Linear.TheVariants as linear
use Rattle.symbols.specs.Values.{SymbolTable, place_of}
use Rattle.symbols.specs.declared.values.Value.{Value}
use Rattle.symbols.specs.declared.values.Value.TheVariants.{Num, Erasable, Fixed}
use Rattle.yayul.specs.Laws.{StandOnce}
use Rattle.commands.specs.Commands.{fixed_place_in, numbered_place}
use Rattle.commands.specs.NamedPlaces.{further_place, named_place}
use Rattle.trace.specs.TraceLines.{stands_for, symbol_at}
use Rattle.notation_laws.specs.Named.{AreApart, IsApart, IsField}

-- ## What a table has of a name
-- what all symbols pass, the one of a name does
pub value_passes : (P : List ℕ × Value → Type 0) (symbols : SymbolTable) (name : List ℕ) → All P symbols
    → IfSome (value_in symbols name) (λ v. P (name, v))
value_passes P [] name all = tt
value_passes P (e ∷ es) name all = elim (cases_Bool (same_name name e.0)) [
  | inl same ↦ rw same (subst (λ (n : List ℕ). P (n, e.1)) (sym (same_text name e.0 (sym same))) (All-head P e es all))
  | inr apart ↦ rw apart (value_passes P es name (All-tail P e es all))
]

-- each symbol is the first of its name, where no two have one
first_of_name : (symbols : SymbolTable) → StandOnce symbols → (k : ℕ) (d : List ℕ × Value) → k < length symbols
    → value_in symbols (get_or symbols k d).0 ≡ Some (get_or symbols k d).1
first_of_name [] once k d lt = absurd (omega (arith, lt))
first_of_name (e ∷ es) once zero d lt = rw (nat_list_eq_equiv.refl e.0) refl
first_of_name (e ∷ es) once (suc k) d lt =
    elim (cases_Bool (same_name (get_or es k d).0 e.0)) [
      | inl same ↦ absurd (once 0 (suc k) d (omega arith) lt (sym (same_text (get_or es k d).0 e.0 (sym same))))
      | inr apart ↦ rw apart (first_of_name es (λ i j x lo hi. once (suc i) (suc j) x (omega (arith, lo)) (omega (arith, hi))) k d
          (omega (arith, lt)))
    ]

-- the first symbol that stands for a place
pub record IsFound (P : List ℕ × Value → Type 0) (place : Linear) (name : List ℕ) : Type 0 where
  pub value : Value
  pub stands : stands_for place value ≡ true
  pub passes : P (name, value)

pub found : (P : List ℕ × Value → Type 0) (symbols : SymbolTable) (place : Linear) → All P symbols
    → IfSome (symbol_at symbols place) (IsFound P place)
unfolding symbol_at
found P [] place all = tt
found P (e ∷ es) place all = elim (cases_Bool (stands_for place e.1)) [
  | inl is ↦ (
      let it : IsFound P place e.0 = record { value = e.1; stands = is; passes = All-head P e es all } in
      rw is it)
  | inr isn ↦ rw isn (found P es place (All-tail P e es all))
]

stands_there : (place : Linear) (value : Value) → stands_for place value ≡ true → place_of value ≡ Some place
stands_there (linear.Erasable p) (Num n) is = absurd (cc)
stands_there (linear.Erasable p) (Erasable q) is = ap (λ n. Some (linear.Erasable n)) (sym (eqb-true p q is))
stands_there (linear.Erasable p) (Fixed b o) is = absurd (cc)
stands_there (linear.Fixed bank offset) (Num n) is = absurd (cc)
stands_there (linear.Fixed bank offset) (Erasable q) is = absurd (cc)
stands_there (linear.Fixed bank offset) (Fixed b o) is =
    let parts = and_parts (bank == b) (offset == o) is in
    rw (eqb-true bank b parts.0, eqb-true offset o parts.1) refl

-- ## What is read
-- the shape of what a session reads: a number's place, or a symbol's, or a bank and an offset; and else one that no symbol has
abbrev shape : Option Linear → Option Value → Option Linear → Option Linear → Option Linear
shape n named f g = option_or (option_or n (option_or (option_and_then place_of named) f)) (if is_some named then None else g)

shape_stays : (n f g : Option Linear) (named : Option Value) (place : Linear) → shape n None f g ≡ Some place
    → IfSome named (λ v. place_of v ≡ Some place) → shape n named f g ≡ Some place
shape_stays (Some q) f g None place e there = e
shape_stays (Some q) f g (Some v) place e there = e
shape_stays None f g None place e there = e
shape_stays None f g (Some v) place e there = rw there refl

shape_of_symbol : (n f g : Option Linear) (value : Value) (place : Linear)
    → IfSome (shape n None f g) (λ q. place_of value ≡ Some q) → place_of value ≡ Some place
    → shape n (Some value) f g ≡ Some place
shape_of_symbol (Some q) f g value place apart is = sym apart ∙ is
shape_of_symbol None f g value place apart is = rw is refl

-- what is read without symbols is read with them
none_apart : (text : List ℕ) (place : Linear) (value : Value) → named_place [] text ≡ Some place → IsApart (text, value)
    → place_of value ≡ Some place
none_apart text place value asked apart = let is = apart.0 in rw asked at is

pub stays_read : (symbols : SymbolTable) (text : List ℕ) (place : Linear) → AreApart symbols → named_place [] text ≡ Some place
    → named_place symbols text ≡ Some place
stays_read symbols text place apart asked =
    shape_stays (numbered_place text) (fixed_place_in text) (further_place text) (value_in symbols text) place asked
    (there (value_in symbols text) (value_passes IsApart symbols text apart.apart))
  where
    there : (named : Option Value) → IfSome named (λ v. IsApart (text, v)) → IfSome named (λ v. place_of v ≡ Some place)
    there None holds = tt
    there (Some v) holds = none_apart text place v asked holds

-- where no symbol has the name nothing changes
pub unasked : (symbols : SymbolTable) (text : List ℕ) → value_in symbols text ≡ None → named_place symbols text ≡ named_place [] text
unasked symbols text none =
    ap (λ named. shape (numbered_place text) named (fixed_place_in text) (further_place text)) none

-- a symbol is read by its name
pub symbol_read : (symbols : SymbolTable) (name : List ℕ) (value : Value) (place : Linear) → value_in symbols name ≡ Some value
    → IsApart (name, value) → place_of value ≡ Some place → named_place symbols name ≡ Some place
symbol_read symbols name value place is apart there =
    ap (λ named. shape (numbered_place name) named (fixed_place_in name) (further_place name)) is
    ∙ shape_of_symbol (numbered_place name) (fixed_place_in name) (further_place name) value place apart.0 there

-- ## The symbol that stands for a place
abbrev pub Named : SymbolTable → List ℕ × Value → Type 0
Named symbols e = (value_in symbols e.0 ≡ Some e.1) × IsField e.0 × IsApart e

all_named : (symbols : SymbolTable) → AreApart symbols → All (Named symbols) symbols
all_named symbols apart k d lt = (first_of_name symbols apart.once k d lt, apart.fields k d lt, apart.apart k d lt)

pub record IsRead (symbols : SymbolTable) (place : Linear) (name : List ℕ) : Type 0 where
  pub field : IsField name
  pub asked : named_place symbols name ≡ Some place

pub symbol_at_read : (symbols : SymbolTable) (place : Linear) → AreApart symbols → IfSome (symbol_at symbols place) (IsRead symbols place)
symbol_at_read symbols place apart = each (symbol_at symbols place) (found (Named symbols) symbols place (all_named symbols apart))
  where
    each : (name : Option (List ℕ)) → IfSome name (IsFound (Named symbols) place) → IfSome name (IsRead symbols place)
    each None holds = tt
    each (Some name) holds = record {
      field = holds.passes.1;
      asked = symbol_read symbols name holds.value place holds.passes.0 holds.passes.2
          (stands_there place holds.value holds.stands);
    }
