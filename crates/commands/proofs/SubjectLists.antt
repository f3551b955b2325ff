-- Erasable places and channels, one after another.
use Rattle.std.proofs.Common.{◌≡◌, ℕ, zero, suc, ◌+◌, ◌-◌, ◌<◌, ◌≤◌, ◌==◌, false, List, [], ◌∷◌, ◌++◌, length, Option, Some}
use Rattle.std.proofs.Common.{None, refl, sym, ap, ◌∙◌, arith, append_assoc, append-nil, length-append}
use Rattle.std.specs.Option.{option_map}
use Rattle.std.specs.Prelude.{option_and_then}
use Rattle.std.proofs.lemmas.Bool.Decides.{nat_tests}
use Rattle.symbols.specs.Values.{SymbolTable}
use Rattle.commands.specs.Extended.{if_none}
use Rattle.commands.specs.Surveys.{most_surveyed, subject_then, subjects_in}
use Rattle.commands.specs.declared.subject.Subject.{Subject}

-- so far some were found, and others may follow
abbrev pub GoesOn : SymbolTable → List (List ℕ) → List Subject → List (List ℕ) → Type 0
GoesOn symbols all found fields =
    subjects_in symbols most_surveyed all ≡ option_map (λ more. found ++ more) (subjects_in symbols (most_surveyed - length found) fields)

all_kept : (o : Option (List Subject)) → o ≡ option_map (λ more. [] ++ more) o
all_kept None = refl
all_kept (Some subjects) = refl

some_is_none : {X : Type 0} (x : X) → Some x ≡ None → ⊥
some_is_none x e = cc

module _ (symbols : SymbolTable) (all : List (List ℕ)) where
  pub none_found : GoesOn symbols all [] all
  none_found = all_kept (subjects_in symbols most_surveyed all)

  -- no more
  empty : (k : ℕ) → subjects_in symbols k [] ≡ Some []
  empty zero = refl
  empty (suc k) = refl

  stuck : (k : ℕ) (field : List ℕ) (more : List (List ℕ)) → None ≡ subject_then symbols (field ∷ more)
      → subjects_in symbols k (field ∷ more) ≡ None
  stuck zero field more none = refl
  stuck (suc k) field more none = ap (λ o. option_and_then
      (λ (found : Subject × List (List ℕ)). option_map (λ subjects. found.0 ∷ subjects) (subjects_in symbols k found.1)) o) (sym none)

  pub all_found : (found : List Subject) (fields : List (List ℕ)) → None ≡ subject_then symbols fields → GoesOn symbols all found fields
      → if_none fields (Some found) ≡ subjects_in symbols most_surveyed all
  all_found found [] none so_far = sym (so_far ∙ ap (option_map (λ more. found ++ more)) (empty (most_surveyed - length found))
      ∙ ap (λ (xs : List Subject). Some xs) (append-nil found))
  all_found found (field ∷ more) none so_far = sym
      (so_far ∙ ap (option_map (λ more. found ++ more)) (stuck (most_surveyed - length found) field more none))

  -- one more
  next : (k : ℕ) (fields : List (List ℕ)) (subject : Subject) (more : List (List ℕ)) → Some (subject, more) ≡ subject_then symbols fields
      → subjects_in symbols (suc k) fields ≡ option_map (λ subjects. subject ∷ subjects) (subjects_in symbols k more)
  next k [] subject more some = absurd (some_is_none (subject, more) some)
  next k (field ∷ rest) subject more some =
      ap (λ o. option_and_then (λ (found : Subject × List (List ℕ)). option_map (λ subjects. found.0 ∷ subjects)
      (subjects_in symbols k found.1)) o) (sym some)

  behind : (found : List Subject) (subject : Subject) (o : Option (List Subject))
      → option_map (λ more. found ++ more) (option_map (λ subjects. subject ∷ subjects) o)
      ≡ option_map (λ more. (found ++ subject ∷ []) ++ more) o
  behind found subject None = refl
  behind found subject (Some subjects) = ap (λ (xs : List Subject). Some xs) (sym (append_assoc found (subject ∷ []) subjects))

  pub still_few : (found new : List Subject) (subject : Subject) → length found ≤ most_surveyed → (length found == most_surveyed) ≡ false
      → new ≡ found ++ subject ∷ [] → length new ≤ most_surveyed
  still_few found new subject few room is =
      let short : length found < most_surveyed = grind (arith, nat_tests) in
      let long : length new ≡ length found + 1 = ap length is ∙ length-append found (subject ∷ []) in
      omega (arith, short, long)

  pub one_more : (found new : List Subject) (fields : List (List ℕ)) (subject : Subject) (more : List (List ℕ))
      → length found ≤ most_surveyed → (length found == most_surveyed) ≡ false → Some (subject, more) ≡ subject_then symbols fields
      → new ≡ found ++ subject ∷ []
      → GoesOn symbols all found fields → GoesOn symbols all new more
  one_more found new fields subject more few room some is so_far =
      let short : length found < most_surveyed = grind (arith, nat_tests) in
      let long : length new ≡ length found + 1 = ap length is ∙ length-append found (subject ∷ []) in
      let left : most_surveyed - length found ≡ suc (most_surveyed - length new) = omega (arith, short, long) in
      so_far ∙ ap (λ (k : ℕ). option_map (λ rest. found ++ rest) (subjects_in symbols k fields)) left
      ∙ ap (option_map (λ rest. found ++ rest)) (next (most_surveyed - length new) fields subject more some)
      ∙ behind found subject (subjects_in symbols (most_surveyed - length new) more)
      ∙ ap (λ (xs : List Subject). option_map (λ rest. xs ++ rest) (subjects_in symbols (most_surveyed - length new) more)) (sym is)
