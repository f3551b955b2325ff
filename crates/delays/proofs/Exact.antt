-- The longest stretch that is told, and the least, are so.
use Rattle.std.proofs.Common.{◌≡◌, ◌≢◌, ◌⊎◌, ℕ, zero, suc, ◌+◌, ◌<◌, ◌≤◌, ◌==◌, ◌||◌, Bool, true, false, nat_lt, Option, Some, None, refl}
use Rattle.std.proofs.Common.{sym, ap, ◌∙◌, inl, inr, arith, subst}
use Rattle.std.proofs.lemmas.Bool.{cases_Bool}
use Rattle.std.proofs.lemmas.Bool.Decides.{eqb_tells, nat_tests}
use Rattle.delays.specs.declared.mark.Best.{Best}
use Rattle.delays.specs.declared.mark.Stretch.{Stretch}
use Rattle.delays.specs.Stretches.{best_by, best_of, BestsAreExact, better, cycles_of, Ends, Event, IsExact, no_stretch}

-- one of the first n + 1 steps is the last of them, or one of the first n
earlier : (f : ℕ → Option Event) (n row : ℕ) (s : Stretch) → Ends f (suc n) row s → (f n ≡ Some (row, s)) ⊎ Ends f n row s
earlier f n row s e =
    elim (eqb_tells e.step n) [
      | inl one ↦ inl (subst (λ (t : ℕ). f t ≡ Some (row, s)) one.1 e.is)
      | inr apart ↦ inr (record { step = e.step; within = omega (arith, e.within, apart.1); is = e.is })
    ]

later : (f : ℕ → Option Event) (n row : ℕ) (s : Stretch) → Ends f n row s → Ends f (suc n) row s
later f n row s e = record { step = e.step; within = omega (arith, e.within); is = e.is }

-- a stretch more
abbrev is_longer : Best → Stretch → Bool
is_longer b s = b.count == 0 || nat_lt (cycles_of b.longest) (cycles_of s)

abbrev is_less : Best → Stretch → Bool
is_less b s = b.count == 0 || nat_lt (cycles_of s) b.least

not_longer : (k m n : ℕ) → (k == 0 || nat_lt m n) ≡ false → (1 ≤ k) × (n ≤ m)
not_longer k m n e = (grind (arith, nat_tests), grind (arith, nat_tests))

at_least_it : (b : Best) (s : Stretch) → cycles_of s ≤ cycles_of (better b s).longest
at_least_it b s =
    elim (cases_Bool (is_longer b s)) [
      | inl hit ↦ rw hit (omega arith)
      | inr miss ↦ rw miss (not_longer b.count (cycles_of b.longest) (cycles_of s) miss).1
    ]

at_least_before : (b : Best) (s : Stretch) → 1 ≤ b.count → cycles_of b.longest ≤ cycles_of (better b s).longest
at_least_before b s some =
    elim (cases_Bool (is_longer b s)) [
      | inl hit ↦ rw hit (longer b.count (cycles_of b.longest) (cycles_of s) some hit)
      | inr miss ↦ rw miss (omega arith)
    ]
  where
    longer : (k m n : ℕ) → 1 ≤ k → (k == 0 || nat_lt m n) ≡ true → m ≤ n
    longer k m n some e = grind (arith, nat_tests)

at_most_it : (b : Best) (s : Stretch) → (better b s).least ≤ cycles_of s
at_most_it b s =
    elim (cases_Bool (is_less b s)) [
      | inl hit ↦ rw hit (omega arith)
      | inr miss ↦ rw miss (not_longer b.count (cycles_of s) b.least miss).1
    ]

at_most_before : (b : Best) (s : Stretch) → 1 ≤ b.count → (better b s).least ≤ b.least
at_most_before b s some =
    elim (cases_Bool (is_less b s)) [
      | inl hit ↦ rw hit (less b.count (cycles_of s) b.least some hit)
      | inr miss ↦ rw miss (omega arith)
    ]
  where
    less : (k m n : ℕ) → 1 ≤ k → (k == 0 || nat_lt m n) ≡ true → m ≤ n
    less k m n some e = grind (arith, nat_tests)

-- the longest is this one, or was the longest before
is_one : (b : Best) (s : Stretch) → ((better b s).longest ≡ s) ⊎ (((better b s).longest ≡ b.longest) × (1 ≤ b.count))
is_one b s =
    elim (cases_Bool (is_longer b s)) [
      | inl hit ↦ inl (rw hit refl)
      | inr miss ↦ inr (rw miss refl, (not_longer b.count (cycles_of b.longest) (cycles_of s) miss).0)
    ]

-- the row of an event, and its stretch
abbrev row_in : Option Event → ℕ
row_in None = 0
row_in (Some event) = event.0

abbrev stretch_in : Option Event → Stretch
stretch_in None = no_stretch
stretch_in (Some event) = event.1

-- no stretch of this row ends in a step
none_more : (f : ℕ → Option Event) (n row : ℕ) (b : Best) → ((s : Stretch) → f n ≢ Some (row, s)) → IsExact f n row b
    → IsExact f (suc n) row b
none_more f n row b none before = record {
  longest = λ s e. elim (earlier f n row s e) [ inl here ↦ absurd (none s here) | inr there ↦ before.longest s there ];
  least = λ s e. elim (earlier f n row s e) [ inl here ↦ absurd (none s here) | inr there ↦ before.least s there ];
  some = λ s e. elim (earlier f n row s e) [ inl here ↦ absurd (none s here) | inr there ↦ before.some s there ];
  ends = λ some. later f n row b.longest (before.ends some);
}

-- one does
one_more : (f : ℕ → Option Event) (n row : ℕ) (b : Best) (x : Stretch) → f n ≡ Some (row, x) → IsExact f n row b
    → IsExact f (suc n) row (better b x)
one_more f n row b x is before =
    let same : (s : Stretch) → f n ≡ Some (row, s) → x ≡ s = λ s here. ap stretch_in (sym is ∙ here) in
    record {
      longest = λ s e.
          elim (earlier f n row s e) [
            | inl here ↦ subst (λ (y : Stretch). cycles_of y ≤ cycles_of (better b x).longest) (same s here) (at_least_it b x)
            | inr there ↦ let low = before.longest s there in let high = at_least_before b x (before.some s there) in omega
                (arith, low, high)
          ];
      least = λ s e.
          elim (earlier f n row s e) [
            | inl here ↦ subst (λ (y : Stretch). (better b x).least ≤ cycles_of y) (same s here) (at_most_it b x)
            | inr there ↦ let high = before.least s there in let low = at_most_before b x (before.some s there) in omega (arith, low, high)
          ];
      some = λ s e. omega arith;
      ends = λ some.
          elim (is_one b x) [
            | inl it ↦ subst (λ (y : Stretch). Ends f (suc n) row y) (sym it) (record { step = n; within = omega arith; is = is })
            | inr kept ↦ subst (λ (y : Stretch). Ends f (suc n) row y) (sym kept.0) (later f n row b.longest (before.ends kept.1))
          ];
    }

by_event : (f : ℕ → Option Event) (n row : ℕ) (b : Best) (e : Option Event) → f n ≡ e → IsExact f n row b
    → IsExact f (suc n) row (best_by row e b)
by_event f n row b None is before = none_more f n row b (λ s here. let both : None ≡ Some (row, s) = sym is ∙ here in cc) before
by_event f n row b (Some event) is before =
    elim (eqb_tells row event.0) [
      | inl same ↦ rw same.0 (one_more f n row b event.1 (is ∙ ap (λ k. Some (k, event.1)) (sym same.1)) before)
      | inr apart ↦
          rw apart.0 (none_more f n row b (λ s here. apart.1 (sym (ap row_in (sym is ∙ here)))) before)
    ]

exact : (f : ℕ → Option Event) (n row : ℕ) → IsExact f n row (best_of f n row)
unfolding best_of
exact f zero row = record {
  longest = λ s e. absurd (omega (arith, e.within));
  least = λ s e. absurd (omega (arith, e.within));
  some = λ s e. absurd (omega (arith, e.within));
  ends = λ some. absurd (omega (arith, some));
}
exact f (suc n) row = by_event f n row (best_of f n row) (f n) refl (exact f n row)

pub are_exact : BestsAreExact
are_exact = exact
