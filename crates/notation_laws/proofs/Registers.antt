-- Registers and counters by their names, in three tables.
use Rattle.std.proofs.Common.{◌≡◌, ℕ, ◌==◌, ◌&&◌, nat_le, Bool, true, false, List, [], ◌∷◌, length, Some, None, Option, IfSome, refl}
use Rattle.std.proofs.Common.{sym}
use Rattle.std.proofs.Common.{subst, ap, inl, inr, arith}
use Rattle.std.specs.Prelude.{codes, option_and_then}
use Rattle.std.specs.List.{list_all}
use Rattle.std.specs.Map.{lookup}
use Rattle.std.specs.Option.{option_map, option_or}
use Rattle.std.specs.Cmp.Lexicographic.{same_text}
use Rattle.std.proofs.lemmas.Bool.{and_parts, cases_Bool, cases_eq, eq-eqb, eqb-true, ne_eqb}
use Rattle.std.proofs.lemmas.Bool.Decides.{nat_tests}
use Rattle.agc_text.specs.Digits.{number_of}
use Rattle.agc_text.specs.Tables.{same_name, value_in}
use Rattle.feed.specs.Counters.{row_of}
use Rattle.feed.specs.declared.input.Counter.{Counter}
use Rattle.feed.specs.declared.input.Counter.TheVariants.{Time1, Time2, Time3, Time4, Time5, Time6, CduX, CduY, CduZ, OptY, OptX, PipaX}
use Rattle.feed.specs.declared.input.Counter.TheVariants.{PipaY, PipaZ, Inlink}
use Rattle.space.specs.Places.{window}
use Rattle.space.specs.declared.place.Linear.{Linear}
use Rattle.space.specs.declared.place.Linear.TheVariants.{Erasable, Fixed}
use Rattle.symbols.specs.Registers.{registers}
use Rattle.commands.specs.Commands.{numbered_place}
use Rattle.commands.specs.NamedPlaces.{named_place, own_place}
use Rattle.trace.specs.TraceLines.{register_name, special_name}
use Rattle.notation_laws.specs.Named.{is_field_byte, IsField}
use Rattle.notation_laws.specs.ReadBack.{NamesAgree, own_name, place_of_name}

-- ## What may be there
pub if_or : {X : Type 0} (P : X → Type 0) (a b : Option X) → IfSome a P → IfSome b P → IfSome (option_or a b) P
if_or P None b none holds = holds
if_or P (Some x) b holds other = holds

pub if_weaker : {X : Type 0} (P Q : X → Type 0) (a : Option X) → ((x : X) → P x → Q x) → IfSome a P → IfSome a Q
if_weaker P Q None weaker holds = tt
if_weaker P Q (Some x) weaker holds = weaker x holds

pub if_map : {X Y : Type 0} (f : X → Y) (P : Y → Type 0) (a : Option X) → IfSome a (λ x. P (f x)) → IfSome (option_map f a) P
if_map f P None holds = tt
if_map f P (Some x) holds = holds

-- ## What each entry of a table passes
-- by a number
abbrev by_number : {X : Type 0} → List (ℕ × X) → ℕ → Option X
by_number table p = lookup (λ k. p == k) table

found_first : {X : Type 0} (good : ℕ × X → Bool) (entry : ℕ × X) (es : List (ℕ × X)) (p : ℕ) → p ≡ entry.0 → good entry ≡ true
    → IfSome (by_number (entry ∷ es) p) (λ v. good (p, v) ≡ true)
found_first good entry es p same passes = rw (same, eq-eqb entry.0 entry.0 refl) passes

passes_by_number : {X : Type 0} (good : ℕ × X → Bool) (table : List (ℕ × X)) (p : ℕ) → list_all good table ≡ true
    → IfSome (by_number table p) (λ v. good (p, v) ≡ true)
passes_by_number good [] p all = tt
passes_by_number good (e ∷ es) p all =
    let parts = and_parts (good e) (list_all good es) all in
    elim (cases_eq p e.0) [
      | inl same ↦ found_first good e es p same parts.0
      | inr differs ↦ rw (ne_eqb p e.0 differs) (passes_by_number good es p parts.1)
    ]

-- by a name
pub passes_by_name : {X : Type 0} (good : List ℕ × X → Bool) (table : List (List ℕ × X)) (name : List ℕ) → list_all good table ≡ true
    → IfSome (value_in table name) (λ v. good (name, v) ≡ true)
passes_by_name good [] name all = tt
passes_by_name good (e ∷ es) name all =
    let parts = and_parts (good e) (list_all good es) all in
    elim (cases_Bool (same_name name e.0)) [
      | inl same ↦ rw same (subst (λ (n : List ℕ). good (n, e.1) ≡ true) (sym (same_text name e.0 (sym same))) parts.0)
      | inr apart ↦ rw apart (passes_by_name good es name parts.1)
    ]

-- whether a number is there, and this one
abbrev is_there : Option ℕ → ℕ → Bool
is_there None k = false
is_there (Some n) k = n == k

there : (found : Option ℕ) (k : ℕ) → is_there found k ≡ true → found ≡ Some k
there None k is = absurd (let never : false ≡ true = is in cc)
there (Some n) k is = ap (λ m. Some m) (eqb-true n k is)

-- ## The names that are written
abbrev register_rows : List (ℕ × List ℕ)
register_rows = (0, codes "A") ∷ (1, codes "L") ∷ (2, codes "Q") ∷ (3, codes "EB") ∷ (4, codes "FB") ∷ (5, codes "Z") ∷ (6, codes "BB") ∷ []

abbrev special_rows : List (ℕ × List ℕ)
special_rows =
    (0o10, codes "ARUPT") ∷ (0o11, codes "LRUPT") ∷ (0o12, codes "QRUPT") ∷ (0o15, codes "ZRUPT") ∷ (0o16, codes "BBRUPT")
    ∷ (0o17, codes "BRUPT") ∷ (0o20, codes "CYR") ∷ (0o21, codes "SR") ∷ (0o22, codes "CYL") ∷ (0o23, codes "EDOP")
    ∷ (0o24, codes "TIME2") ∷ (0o25, codes "TIME1") ∷ (0o26, codes "TIME3") ∷ (0o27, codes "TIME4") ∷ (0o30, codes "TIME5")
    ∷ (0o31, codes "TIME6") ∷ (0o32, codes "CDUX") ∷ (0o33, codes "CDUY") ∷ (0o34, codes "CDUZ") ∷ (0o35, codes "OPTY")
    ∷ (0o36, codes "OPTX") ∷ (0o37, codes "PIPAX") ∷ (0o40, codes "PIPAY") ∷ (0o41, codes "PIPAZ") ∷ (0o45, codes "INLINK") ∷ []

-- what each of them passes
passes_written : (good : ℕ × List ℕ → Bool) (p : ℕ) → list_all good register_rows ≡ true → list_all good special_rows ≡ true
    → IfSome (own_name p) (λ name. good (p, name) ≡ true)
passes_written good p registers_pass specials_pass =
    if_or (λ name. good (p, name) ≡ true) (register_name p) (special_name p)
    (passes_by_number good register_rows p registers_pass) (passes_by_number good special_rows p specials_pass)

-- ## They agree
abbrev in_table : ℕ × List ℕ → Bool
in_table row = is_there (place_of_name row.1) row.0

written : (p : ℕ) → IfSome (own_name p) (λ name. place_of_name name ≡ Some p)
written p = if_weaker (λ name. in_table (p, name) ≡ true) (λ name. place_of_name name ≡ Some p) (own_name p)
    (λ name is. there (place_of_name name) p is) (passes_written in_table p refl refl)

-- whether it is the same erasable place by two octal digits, as a table has it, and by five, as a command has it
abbrev is_same : Option ℕ → Option Linear → Bool
is_same (Some n) (Some (Erasable p)) = p == n
is_same n place = false

abbrev is_erasable : List ℕ × List ℕ → Bool
is_erasable row = is_same (number_of 8 2 row.1) (numbered_place row.1)

same_place : (number : Option ℕ) (place : Option Linear) → is_same number place ≡ true
    → IfSome place (λ q. option_map (λ p. Erasable p) number ≡ Some q)
same_place None None is = tt
same_place (Some n) None is = tt
same_place None (Some place) is = absurd (let never : false ≡ true = is in cc)
same_place (Some n) (Some (Fixed bank offset)) is = absurd (let never : false ≡ true = is in cc)
same_place (Some n) (Some (Erasable p)) is = ap (λ m. Some (Erasable m)) (sym (eqb-true p n is))

asked : (name : List ℕ) → IfSome (own_place name) (λ place. option_map (λ p. Erasable p) (place_of_name name) ≡ Some place)
asked name = by_digits (value_in registers name) (passes_by_name is_erasable registers name refl)
  where
    by_digits : (found : Option (List ℕ)) → IfSome found (λ digits. is_erasable (name, digits) ≡ true)
        → IfSome (option_and_then numbered_place found)
        (λ place. option_map (λ p. Erasable p) (option_and_then (number_of 8 2) found) ≡ Some place)
    by_digits None is = tt
    by_digits (Some digits) is = same_place (number_of 8 2 digits) (numbered_place digits) is

counted : (counter : Counter) → place_of_name (row_of counter).name ≡ Some (row_of counter).place
counted Time1 = refl
counted Time2 = refl
counted Time3 = refl
counted Time4 = refl
counted Time5 = refl
counted Time6 = refl
counted CduX = refl
counted CduY = refl
counted CduZ = refl
counted OptY = refl
counted OptX = refl
counted PipaX = refl
counted PipaY = refl
counted PipaZ = refl
counted Inlink = refl

-- whether a place is there, and this one
abbrev is_place : Option Linear → ℕ → Bool
is_place None k = false
is_place (Some (Erasable p)) k = p == k
is_place (Some (Fixed bank offset)) k = false

place_there : (found : Option Linear) (k : ℕ) → is_place found k ≡ true → found ≡ Some (Erasable k)
place_there None k is = absurd (let never : false ≡ true = is in cc)
place_there (Some (Fixed bank offset)) k is = absurd (let never : false ≡ true = is in cc)
place_there (Some (Erasable p)) k is = ap (λ m. Some (Erasable m)) (eqb-true p k is)

-- one field, and read as the place
pub record IsOwn (p : ℕ) (name : List ℕ) : Type 0 where
  pub field : IsField name
  pub asked : named_place [] name ≡ Some (Erasable p)

abbrev is_own : ℕ × List ℕ → Bool
is_own row = nat_le 1 (length row.1) && (list_all is_field_byte row.1 && is_place (named_place [] row.1) row.0)

own : (p : ℕ) (name : List ℕ) → is_own (p, name) ≡ true → IsOwn p name
own p name is =
    let long = and_parts (nat_le 1 (length name)) _ is in
    let rest = and_parts (list_all is_field_byte name) _ long.1 in
    let some = long.0 in
    record { field = (grind (arith, nat_tests, some), rest.0); asked = place_there (named_place [] name) p rest.1 }

pub register_read : (p : ℕ) → IfSome (register_name p) (IsOwn p)
unfolding window
register_read p = if_weaker (λ name. is_own (p, name) ≡ true) (IsOwn p) (register_name p) (own p)
    (passes_by_number is_own register_rows p refl)

pub special_read : (p : ℕ) → IfSome (special_name p) (IsOwn p)
unfolding window
special_read p = if_weaker (λ name. is_own (p, name) ≡ true) (IsOwn p) (special_name p) (own p)
    (passes_by_number is_own special_rows p refl)

read : (p : ℕ) → IfSome (own_name p) (λ name. named_place [] name ≡ Some (Erasable p))
read p = if_weaker (IsOwn p) (λ name. named_place [] name ≡ Some (Erasable p)) (own_name p) (λ name is. is.asked)
    (if_or (IsOwn p) (register_name p) (special_name p) (register_read p) (special_read p))

pub names_agree : NamesAgree
names_agree = record { written = written; asked = asked; counted = counted; read = read }
