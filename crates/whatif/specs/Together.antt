-- Trials one after another that come to the same are told together, whatever they come to.
use Rattle.std.specs.Prelude.{ℕ, ◌+◌, Bool, List, [], ◌∷◌, ◌++◌, Option, None, Some, if◌then◌else◌}
use Rattle.whatif.specs.declared.span.Span.{Span}

-- whether a trial at a cycle comes to what those of a span do, and what is told of a span
abbrev pub Joins : Type 0 → Type 0
Joins C = Span C → ℕ → C → Bool

abbrev pub Tells : Type 0 → Type 0
Tells C = Span C → List ℕ

-- one trial, and one more
abbrev pub one : {C : Type 0} → ℕ → C → Span C
one cycle came = record { first = cycle; last = cycle; count = 1; came = came }

abbrev pub with_one : {C : Type 0} → Span C → ℕ → Span C
with_one span cycle = record span { last = cycle; count = span.count + 1 }

-- trials that are open, and one more: they are told where it comes to something else
abbrev pub closed : {C : Type 0} → Joins C → Tells C → Option (Span C) → ℕ → C → List ℕ
closed joins tells None cycle came = []
closed joins tells (Some span) cycle came = if joins span cycle came then [] else tells span

abbrev pub opened : {C : Type 0} → Joins C → Option (Span C) → ℕ → C → Span C
opened joins None cycle came = one cycle came
opened joins (Some span) cycle came = if joins span cycle came then with_one span cycle else one cycle came

abbrev pub open_text : {C : Type 0} → Tells C → Option (Span C) → List ℕ
open_text tells None = []
open_text tells (Some span) = tells span

abbrev pub number_of : {C : Type 0} → Option (Span C) → ℕ
number_of None = 0
number_of (Some span) = span.count

unfoldable pub told_together : {C : Type 0} → Joins C → Tells C → Option (Span C) → List (ℕ × C) → List ℕ
told_together joins tells pending [] = open_text tells pending
told_together joins tells pending (tried ∷ more) =
    closed joins tells pending tried.0 tried.1 ++ told_together joins tells (Some (opened joins pending tried.0 tried.1)) more
