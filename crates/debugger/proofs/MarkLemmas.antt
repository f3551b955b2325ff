-- What the low eight bits of Z tell of the breakpoints that may hold.
use Rattle.std.proofs.Common.{◌≡◌, ◌≢◌, ℕ, ◌+◌, ◌-◌, ◌*◌, ◌%◌, ◌<◌, ◌≤◌, ◌==◌, ◌&&◌, Bool, true, false, List, length, get_or, set, Option}
use Rattle.std.proofs.Common.{Some, None, refl, sym, ap, ◌∙◌, arith, ⊎_elim}
use Rattle.std.specs.Prelude.{nat_lt, if◌then◌else◌}
use Rattle.std.specs.List.{list_any}
use Rattle.std.proofs.lemmas.List.{get_or-set_same, get_or-set_other}
use Rattle.std.proofs.lemmas.List.Folds.{list_any_at}
use Rattle.std.proofs.lemmas.Bool.{cases_eq}
use Rattle.std.proofs.lemmas.Bool.Decides.{nat_tests}
use Rattle.rope.specs.Places.{Words}
use Rattle.space.specs.Places.{place, selected_bank, same_place}
use Rattle.space.specs.declared.place.Linear.{Linear}
use Rattle.space.specs.declared.place.Linear.TheVariants.{Erasable, Fixed}
use Rattle.feed.specs.declared.input.Input.{Input}
use Rattle.cpu.specs.State.{State, Scenario}
use Rattle.cpu.specs.Next.{next}
use Rattle.cpu.specs.Effects.{next_address, place_in}
use Rattle.cpu.specs.Profiles.{account_by, account_of_word}
use Rattle.commands.specs.declared.command.Breakpoint.{Breakpoint}
use Rattle.commands.specs.declared.command.Breakpoint.TheVariants.{Place, Word, Channel, Bits, Cycles, Returned, Outside, Executed, Changed}
use Rattle.debugger.specs.History.{Sight, StepSight, sight, no_step, step_from, place_executed}
use Rattle.debugger.specs.Growth.{is_executed, holds, lowest_hit}
use Rattle.debugger.specs.Stopping.{asks, HoldsAlike}
use Rattle.debugger.specs.Marks.{low_bits, may_hold_at}
use Rattle.debugger.proofs.Breaking.{none_found}
use Rattle.debugger.proofs.StopLemmas.{unasked}

not_true : (b : Bool) → (b ≡ true → ⊥) → b ≡ false
not_true false h = refl
not_true true h = absurd (h refl)

both : (a b : Bool) → (a && b) ≡ true → (a ≡ true) × (b ≡ true)
both true b e = (refl, e)
both false b e = absurd (cc)

equal : (a b : ℕ) → (a == b) ≡ true → a ≡ b
equal a b e = grind (arith, nat_tests)

unequal : (a b : ℕ) → (a == b) ≡ false → a ≡ b → ⊥
unequal a b e same = grind (arith, nat_tests)

at_least : (k n : ℕ) → nat_lt k n ≡ false → n ≤ k
at_least k n e = grind (arith, nat_tests)

-- an address leads to a place with its low bits
lead_by : (a b c d : Bool) (k eb bank : ℕ) → (a ≡ false → 0o1400 ≤ k) → (b ≡ false → 0o2000 ≤ k) → (c ≡ false → 0o4000 ≤ k)
    → (d ≡ false → 0o6000 ≤ k)
    → low_bits (if a then Erasable k else (if b then Erasable (eb * 0o400 + (k - 0o1400)) else
    (if c then Fixed bank (k - 0o2000) else (if d then Fixed 2 (k - 0o4000) else Fixed 3 (k - 0o6000))))) ≡ k % 0o400
lead_by true b c d k eb bank h i j l = refl
lead_by false true c d k eb bank h i j l = let some : 0o1400 ≤ k = h refl in omega (arith, some)
lead_by false false true d k eb bank h i j l = let some : 0o2000 ≤ k = i refl in omega (arith, some)
lead_by false false false true k eb bank h i j l = let some : 0o4000 ≤ k = j refl in omega (arith, some)
lead_by false false false false k eb bank h i j l = let some : 0o6000 ≤ k = l refl in omega (arith, some)

leads : (k eb fb : ℕ) (sup : Bool) → low_bits (place k eb fb sup) ≡ k % 0o400
unfolding place
leads k eb fb sup =
    lead_by (nat_lt k 0o1400) (nat_lt k 0o2000) (nat_lt k 0o4000) (nat_lt k 0o6000) k eb (selected_bank fb sup) (at_least k 0o1400)
    (at_least k 0o2000) (at_least k 0o4000) (at_least k 0o6000)

-- one place has the low bits of the other
same_low : (p q : Linear) → same_place p q ≡ true → low_bits p ≡ low_bits q
same_low (Erasable p) (Erasable q) e = ap (λ n. n % 0o400) (equal p q e)
same_low (Erasable p) (Fixed bank offset) e = absurd (let bad : false ≡ true = e in cc)
same_low (Fixed bank offset) (Erasable q) e = absurd (let bad : false ≡ true = e in cc)
same_low (Fixed bank offset) (Fixed b o) e = ap (λ n. n % 0o400) (equal offset o (both (bank == b) (offset == o) e).1)

apart : (p q : Linear) (low : ℕ) → low_bits p ≡ low → (low_bits q == low) ≡ false → same_place p q ≡ false
apart p q low is other = not_true (same_place p q) (λ same. unequal (low_bits q) low other (sym (same_low p q same) ∙ is))

-- Z leads to no place with other low bits
elsewhere : (s : State) (q : Linear) → (low_bits q == next_address s % 0o400) ≡ false → same_place (place_in s (next_address s)) q ≡ false
unfolding place_in
elsewhere s q other = apart (place_in s (next_address s)) q (next_address s % 0o400) (leads (next_address s) _ _ _) other

never : {X : Type 0} → true ≡ false → X
never bad = absurd (cc)

-- a breakpoint holds after no step that leaves low bits in Z by which it may not
holds_not : (b : Breakpoint) (s : State) → may_hold_at (next_address s % 0o400) b ≡ false → (rope : Words)
    → holds no_step (sight rope s) b ≡ false
holds_not (Place place) s other rope = elsewhere s place other
holds_not (Word p w) s other rope = never other
holds_not (Channel c w) s other rope = never other
holds_not (Bits c w mask) s other rope = never other
holds_not (Cycles cycles) s other rope = never other
holds_not (Returned place inside) s other rope = rw (elsewhere s place other) refl
holds_not Outside s other rope = never other
holds_not (Executed place) s other rope = refl
holds_not (Changed subject) s other rope = never other

-- the next step executes no instruction at another place than the one to which Z leads
executed_not_by : (s : State) (q : Linear) → same_place (place_in s (next_address s)) q ≡ false → (word : Option ℕ)
    → is_executed (place_executed (account_of_word s word)) q ≡ false
executed_not_by s q other (Some word) = refl
executed_not_by s q other None = other

executed_not : (s : State) (q : Linear) → same_place (place_in s (next_address s)) q ≡ false
    → (given : Option (Input × Option ℕ)) (k : Option ℕ) → is_executed (place_executed (account_by s given k)) q ≡ false
executed_not s q other (Some given) k = refl
executed_not s q other None (Some k) = refl
executed_not s q other None None = executed_not_by s q other s.waiting_word

-- what the next step does does not matter to a breakpoint that may not hold by the low bits of Z before it
unmattering : (b : Breakpoint) (scenario : Scenario) (s : State) → may_hold_at (next_address s % 0o400) b ≡ false → (seen : Sight)
    → holds no_step seen b ≡ holds (step_from scenario s) seen b
unmattering (Place place) scenario s other seen = refl
unmattering (Word p w) scenario s other seen = refl
unmattering (Channel c w) scenario s other seen = refl
unmattering (Bits c w mask) scenario s other seen = refl
unmattering (Cycles cycles) scenario s other seen = refl
unmattering (Returned place inside) scenario s other seen = refl
unmattering Outside scenario s other seen = refl
unmattering (Executed place) scenario s other seen = sym (executed_not s place (elsewhere s place other) _ _)
unmattering (Changed subject) scenario s other seen = never other

not_one : {X : Type 0} (p : X → Bool) (xs : List X) (i : ℕ) (d : X) → list_any p xs ≡ false → i < length xs → p (get_or xs i d) ≡ false
not_one p xs i d none below = not_true (p (get_or xs i d)) (λ e. let bad : true ≡ false = sym (list_any_at p xs i d below e) ∙ none in cc)

-- nothing has to be noted of a step where no breakpoint may hold by the low bits of Z before it
pub unmarked_alike : (breakpoints : List Breakpoint) (scenario : Scenario) (s : State)
    → list_any (may_hold_at (next_address s % 0o400)) breakpoints ≡ false
    → HoldsAlike breakpoints None (next scenario s).0 (step_from scenario s)
unmarked_alike breakpoints scenario s none = λ index other seen below. unmattering (get_or breakpoints index other) scenario s
    (not_one (may_hold_at (next_address s % 0o400)) breakpoints index other none below) seen

-- nor where none asks what a step did
pub unasked_alike : (breakpoints : List Breakpoint) (scenario : Scenario) (s : State) → list_any asks breakpoints ≡ false
    → HoldsAlike breakpoints None (next scenario s).0 (step_from scenario s)
unasked_alike breakpoints scenario s none = λ index other seen below. unasked (get_or breakpoints index other)
    (not_one asks breakpoints index other none below) no_step (step_from scenario s) seen

-- where nothing was noted, none holds unless one may by the low bits of Z after the step
pub unmarked_none : (breakpoints : List Breakpoint) (s : State) (rope : Words) (step : StepSight)
    → list_any (may_hold_at (next_address s % 0o400)) breakpoints ≡ false → HoldsAlike breakpoints None s step
    → None ≡ lowest_hit breakpoints step (sight rope s)
unfolding lowest_hit
unmarked_none breakpoints s rope step none alike =
    none_found (holds step (sight rope s)) breakpoints (length breakpoints) Outside refl
    (λ k below. sym (alike k Outside (sight rope s) below)
    ∙ holds_not (get_or breakpoints k Outside) s (not_one (may_hold_at (next_address s % 0o400)) breakpoints k Outside none below) rope)

-- one number more is marked
pub marked_more : (marks : List Bool) (low : ℕ) (b : Bool) (is_marked : ℕ → Bool) → low < length marks
    → ((k : ℕ) → k < low → get_or marks k false ≡ is_marked k) → b ≡ is_marked low
    → (k : ℕ) → k < low + 1 → get_or (set marks low b) k false ≡ is_marked k
marked_more marks low b is_marked within before here k below =
    ⊎_elim
    (λ (e : k ≡ low). rw e (get_or-set_same marks low b false within ∙ here))
    (λ (other : k ≢ low). get_or-set_other marks low k b false other ∙ before k (omega (arith, below, other)))
    (cases_eq k low)
