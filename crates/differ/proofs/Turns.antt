-- Two runs beside each other, turn by turn.
use Rattle.std.proofs.Common.{◌≡◌, ℕ, zero, suc, ◌+◌, ◌-◌, ◌<◌, ◌≤◌, ◌++◌, ◌∷◌, [], List, Option, Some, None, length, take, append-nil}
use Rattle.std.proofs.Common.{refl, sym, ap, ◌∙◌, arith, inl, inr, Bool, true, false, if◌then◌else◌, slice_get, remove, unwrap_or}
use Rattle.cpu.specs.State.{Scenario}
use Rattle.differ.specs.declared.side.Window.{Window}
use Rattle.differ.specs.declared.turn.Turn.{Turn}
use Rattle.differ.specs.declared.turn.Turn.TheVariants.{Ended, Moves, Parts}
use Rattle.differ.specs.MainSteps.{MainStep, Side, mains, moved, on, on_by, parting, parts, parts_by, round, same_step, side_from, turn}
use Rattle.differ.specs.MainSteps.{turn_by}
use Rattle.differ.specs.Windows.{AreWithin, IsFull, PartsWithin, side_of}
use Rattle.differ.proofs.Sides.{mains_none, seen}

-- n steps on, the first of them made
pub moved_one : (n k : ℕ) (s : Side) → k < n → moved (n - k) s ≡ moved (n - (k + 1)) (on s)
moved_one n k s lt = let more : n - k ≡ suc (n - (k + 1)) = omega (arith, lt) in ap (λ m. moved m s) more

pub moved_none : (n k : ℕ) (s : Side) → n ≤ k → moved (n - k) s ≡ s
moved_none n k s le = let none : n - k ≡ 0 = omega (arith, le) in ap (λ m. moved m s) none

parts_suc : (k : ℕ) (s t : Side) → parts (suc k) s t ≡ parts_by (parts k) s t (turn s t)
unfolding parts
parts_suc k s t = refl

parts_one : (n k : ℕ) (s t : Side) → k < n → parts (n - k) s t ≡ parts_by (parts (n - (k + 1))) s t (turn s t)
parts_one n k s t lt = let more : n - k ≡ suc (n - (k + 1)) = omega (arith, lt) in ap (λ m. parts m s t) more ∙ parts_suc (n - (k + 1)) s t

pub parts_none : (n k : ℕ) (s t : Side) → n ≤ k → parts (n - k) s t ≡ None
unfolding parts
parts_none n k s t le = let none : n - k ≡ 0 = omega (arith, le) in ap (λ m. parts m s t) none

-- what comes next, of the steps that are kept
turn_seen : (one other : Scenario) (steps : ℕ) (v w : Window) → IsFull one steps v → IsFull other steps w
    → turn (side_of one steps v) (side_of other steps w) ≡ turn_by v.before.items v.ahead.items w.before.items w.ahead.items
unfolding turn
turn_seen one other steps v w is other_is =
    ap (λ (xs : List MainStep). turn_by v.before.items xs w.before.items (take 4 (side_of other steps w).rest)) (seen one steps v is)
    ∙ ap (λ (xs : List MainStep). turn_by v.before.items v.ahead.items w.before.items xs) (seen other steps w other_is)

pub turned : (one other : Scenario) (steps n k : ℕ) (v w : Window) (t : Turn) → k < n → IsFull one steps v → IsFull other steps w
    → t ≡ turn_by v.before.items v.ahead.items w.before.items w.ahead.items
    → parts (n - k) (side_of one steps v) (side_of other steps w)
    ≡ parts_by (parts (n - (k + 1))) (side_of one steps v) (side_of other steps w) t
turned one other steps n k v w t lt is other_is made =
    parts_one n k (side_of one steps v) (side_of other steps w) lt
    ∙ ap (parts_by (parts (n - (k + 1))) (side_of one steps v) (side_of other steps w))
    (turn_seen one other steps v w is other_is ∙ sym made)

parting_within : (n a b k m : ℕ) → a ≤ n → b ≤ n → PartsWithin n (parting a b k m)
parting_within n a b zero zero first second = (first, second)
parting_within n a b zero (suc m) first second = tt
parting_within n a b (suc k) zero first second = tt
parting_within n a b (suc k) (suc m) first second = (first, second)

choice_within : (n : ℕ) (same : Bool) (t : Turn) → PartsWithin n t → PartsWithin n (if same then Moves 1 1 else t)
choice_within n true t within = tt
choice_within n false t within = within

-- what comes next is within what is kept
turn_within : (n : ℕ) (before xs past ys : List MainStep) → AreWithin n xs → AreWithin n ys → PartsWithin n (turn_by before xs past ys)
turn_within n before [] past ys first second = tt
turn_within n before (a ∷ more) past [] first second = tt
turn_within n before (a ∷ more) past (b ∷ others) first second =
    choice_within n (same_step a b) (parting a.step b.step (round before (a ∷ more)) (round past (b ∷ others)))
    (parting_within n a.step b.step (round before (a ∷ more)) (round past (b ∷ others)) first.0 second.0)

pub parts_within : (n : ℕ) (before xs past ys : List MainStep) (t : Turn) (a b : ℕ) → AreWithin n xs → AreWithin n ys
    → t ≡ turn_by before xs past ys → t ≡ Parts a b → (a ≤ n) × (b ≤ n)
parts_within n before xs past ys t a b first second made is =
    let within : PartsWithin n t = rw made (turn_within n before xs past ys first second) in
    rw is at within

-- a step on, of what is kept
pub on_kept : (scenario : Scenario) (steps done : ℕ) (before ahead rest kept : List MainStep) (x : MainStep) → ahead ≡ x ∷ rest
    → kept ≡ take 4 (x ∷ before)
    → record { before = kept; rest = rest ++ mains scenario done (steps - done) }
    ≡ on_by before (ahead ++ mains scenario done (steps - done))
on_kept scenario steps done before ahead rest kept x is made = rw (is, made) refl

-- where none follows, all steps are made
pub on_ended : (scenario : Scenario) (steps : ℕ) (w : Window) → IsFull scenario steps w → w.ahead.items ≡ []
    → side_of scenario steps w ≡ on (side_of scenario steps w)
on_ended scenario steps w is none =
    let end : w.done ≡ steps = elim is.full [
      | inl four ↦ absurd (omega (arith, four, ap (λ xs. length xs) none))
      | inr all ↦ all
    ] in
    let rest : mains scenario w.done (steps - w.done) ≡ [] = mains_none scenario w.done (steps - w.done) (omega (arith, end)) in
    rw (none, rest) refl

-- the first of some steps, and the others
pub head_of : (xs : List MainStep) (x : MainStep) → slice_get xs 0 ≡ Some x → xs ≡ x ∷ remove xs 0
head_of [] x at = absurd (grind (arith, at))
head_of (y ∷ ys) x at = let is : y ≡ x = ap (λ (o : Option MainStep). unwrap_or o y) at in rw is refl

pub none_of : (xs : List MainStep) → slice_get xs 0 ≡ None → xs ≡ []
none_of [] at = refl
none_of (y ∷ ys) at = absurd (grind (arith, at))

pub within_rest : (n : ℕ) (xs rest : List MainStep) (x : MainStep) → xs ≡ x ∷ rest → AreWithin n xs → AreWithin n rest
within_rest n xs rest x is known = let all : AreWithin n (x ∷ rest) = rw is at known in all.1

pub start_side : (scenario : Scenario) (steps : ℕ) (w : Window) → w.before.items ≡ [] → w.ahead.items ≡ [] → w.done ≡ 0
    → side_of scenario steps w ≡ side_from scenario steps
start_side scenario steps w before ahead done =
    let whole : steps - 0 ≡ steps = omega arith in
    rw (before, ahead, done) (ap (λ k. record { before = []; rest = mains scenario 0 k }) whole)
