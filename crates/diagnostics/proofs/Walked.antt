-- The fields of a line, one after another.
use Rattle.std.proofs.Common.{◌≡◌, ◌∙◌, ℕ, zero, suc, ◌+◌, ◌-◌, ◌≤◌, nat_le, List, [], ◌∷◌, Some, None, length, drop, find, slice_get, refl}
use Rattle.std.proofs.Common.{ap, sym, inl, inr, arith}
use Rattle.std.proofs.lemmas.Bool.{cases_Bool}
use Rattle.agc_text.specs.Fields.{before_comment, fields, is_run_start, run_at, runs, runs_after}
use Rattle.agc_text.specs.Views.{piece, end_of}
use Rattle.agc_text.specs.declared.fields.Field.{Field}
use Rattle.agc_text.proofs.Runs.{find_run, runs_after_end, runs_after_skip, runs_after_take, take_at}

first_of : {A : Type 0} (xs ys : List A) (x : A) → xs ≡ x ∷ ys → slice_get xs 0 ≡ Some x
first_of xs ys x e = rw e refl

same_some : {A : Type 0} (x y : A) → Some x ≡ Some y → x ≡ y
same_some x y e = cc

-- the runs from a place, of which a field is the first
stepped :
    (n : ℕ) (text : List ℕ) (from : ℕ) (f : Field) → n ≡ length text - from → slice_get (runs_after text from) 0 ≡ Some (piece f)
    → runs_after text from ≡ piece f ∷ runs_after text (end_of f)
stepped zero text from f e h =
    let none : None ≡ Some (piece f) = rw (runs_after_end text from (omega (arith, e))) at h in absurd (cc)
stepped (suc n) text from f e h =
    elim (cases_Bool (is_run_start text from)) [
      | inl here ↦
          let is : run_at text from ≡ piece f = same_some (run_at text from) (piece f)
          (sym (first_of _ _ _ (runs_after_take text from (omega (arith, e)) here)) ∙ h) in
          take_at text from f (omega (arith, e)) here (sym is)
      | inr gone ↦
          let skip : runs_after text from ≡ runs_after text (from + 1) = runs_after_skip text from (from + 1) (omega arith)
          (λ k lo hi _. let same : k ≡ from = omega (arith, lo, hi) in rw same gone) in
          skip ∙ stepped n text (from + 1) f (omega (arith, e)) (rw skip at h)
    ]

pub walked :
    (text : List ℕ) (from : ℕ) (f : Field) → Some (piece f) ≡ find (λ g. nat_le from g.start) (runs text)
    → runs_after text from ≡ piece f ∷ runs_after text (end_of f)
walked text from f found = stepped (length text - from) text from f refl (sym (find_run text from) ∙ sym found)

dropped : {A : Type 0} (xs rest : List A) (x : A) (i : ℕ) → drop i xs ≡ x ∷ rest → drop (suc i) xs ≡ rest
dropped xs rest x zero e = rw e refl
dropped [] rest x (suc i) e = let no : [] ≡ x ∷ rest = e in absurd (cc)
dropped (y ∷ ys) rest x (suc i) e = dropped ys rest x i e

-- what is left after one more
pub dropped_next : {A : Type 0} (xs rest : List A) (x : A) (i : ℕ) → drop i xs ≡ x ∷ rest → drop (i + 1) xs ≡ rest
dropped_next xs rest x i e = let same : i + 1 ≡ suc i = omega arith in rw same (dropped xs rest x i e)

pub first_left : {A : Type 0} (xs : List A) (i : ℕ) → slice_get (drop i xs) 0 ≡ slice_get xs i
first_left xs zero = refl
first_left [] (suc i) = refl
first_left (y ∷ ys) (suc i) = first_left ys i

-- where none stands, none stands later
pub none_later : {A : Type 0} (xs : List A) (i n : ℕ) → slice_get xs i ≡ None → i ≤ n → slice_get xs n ≡ None
none_later [] i n e le = refl
none_later (y ∷ ys) zero n e le = let no : Some y ≡ None = e in absurd (cc)
none_later (y ∷ ys) (suc i) zero e le = absurd (omega (arith, le))
none_later (y ∷ ys) (suc i) (suc n) e le = none_later ys i n e (omega (arith, le))

-- the first field from a place on, where so many stand before it
pub found_next :
    (text : List ℕ) (from i : ℕ) → drop i (fields text) ≡ runs_after (before_comment text) from
    → find (λ g. nat_le from g.start) (fields text) ≡ slice_get (fields text) i
found_next text from i e = find_run (before_comment text) from ∙ ap (λ fs. slice_get fs 0) (sym e) ∙ first_left (fields text) i
