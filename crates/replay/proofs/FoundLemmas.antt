-- What is found of steps, searched a segment at a time.
use Rattle.std.proofs.Common.{◌≡◌, ℕ, zero, suc, ◌+◌, ◌-◌, ◌^◌, ◌<◌, ◌≤◌, Bool, true, false, cond, Option, Some, None, IfSome}
use Rattle.std.proofs.Common.{refl, ap, ◌∙◌, arith}
use Rattle.std.specs.Option.{IfNone, option_map}
use Rattle.std.specs.List.{Contains}
use Rattle.cpu.specs.State.{Scenario}
use Rattle.replay.specs.Images.{Image, steps}
use Rattle.replay.specs.View.{SessionView, IsOfRun, IsSound}
use Rattle.replay.specs.LastHit.{HasSought, last_hit, first_hit}
use Rattle.replay.specs.Found.{or_other, last_between, last_found, first_found, found_if}
use Rattle.replay.proofs.StayingLemmas.{stays_covers}
use Rattle.replay.proofs.SessionLemmas.{shown_sound, shown_same, with_shown}

-- one step more
pub between_next : (find : ℕ → Option ℕ) (low at : ℕ) (last : Option (ℕ × ℕ)) (found : Option ℕ) → low ≤ at
    → last ≡ last_between find low (at - low) → found ≡ find at → or_other at found last ≡ last_between find low (at + 1 - low)
between_next find low at last found order so_far is =
    let more : at + 1 - low ≡ suc (at - low) = omega arith in
    let there : low + (at - low) ≡ at = omega arith in
    rw (more, there, ← so_far, ← is) refl

pub found_within : (low at : ℕ) (last : Option (ℕ × ℕ)) (found : Option ℕ) → low ≤ at → IfSome last (λ r. (low ≤ r.0) × (r.0 < at))
    → IfSome (or_other at found last) (λ r. (low ≤ r.0) × (r.0 < at + 1))
found_within low at last (Some x) order h = (order, omega arith)
found_within low at None None order h = tt
found_within low at (Some r) None order h = (h.0, omega (arith, h.1))

-- a search from step 0 on is the definition
pub from_zero : (find : ℕ → Option ℕ) (m : ℕ) → last_between find 0 m ≡ last_found find m
from_zero find zero = refl
from_zero find (suc m) = let e : 0 + m ≡ m = omega arith in rw e (ap (or_other m (find m)) (from_zero find m))

pub below_of : (first p : ℕ) (r : Option (ℕ × ℕ)) → IfSome r (λ t. (first ≤ t.0) × (t.0 < p)) → IfSome r (λ t. t.0 < p)
below_of first p None h = tt
below_of first p (Some t) h = h.1

-- the first
pub first_here : (find : ℕ → Option ℕ) (from high x : ℕ) → from < high → Some x ≡ find from
    → first_found find from (high - from) ≡ Some (from, x)
first_here find from high x below is =
    let left : high - from ≡ suc (high - (from + 1)) = omega arith in
    rw (left, ← is) refl

pub first_later : (find : ℕ → Option ℕ) (from high : ℕ) → from < high → None ≡ find from
    → first_found find from (high - from) ≡ first_found find (from + 1) (high - (from + 1))
first_later find from high below is =
    let left : high - from ≡ suc (high - (from + 1)) = omega arith in
    rw (left, ← is) refl

pub first_none : (find : ℕ → Option ℕ) (from high : ℕ) → high ≤ from → first_found find from (high - from) ≡ None
first_none find from high past = let left : high - from ≡ 0 = omega arith in rw left refl

-- what a search leaves
pub has_found : (old s : SessionView) (p : ℕ) (r : Option (ℕ × ℕ)) (scenario : Scenario) (shown : Image) (meter : ℕ) → s ≡ old → IsSound s
    → p ≤ s.n → scenario ≡ s.scenario → meter < 2 ^ 128 → s.meter ≤ meter → IsOfRun s.scenario s.n shown
    → IfSome r (λ t. t.0 < p)
    → IfSome r (λ t. (c : ℕ) → Contains (steps s.images) c → c ≤ t.0 → meter + c ≤ s.meter + p) → IfNone r (meter ≤ s.meter + p)
    → HasSought old p (option_map (λ t. t.0) r) (with_shown s scenario shown meter)
has_found old s p None scenario shown meter is sound early same metered least of_run below found none = rw (← is) (record {
  stands = (shown_sound s scenario shown meter sound same metered of_run).stands;
  same = shown_same s scenario shown meter same;
  least = least;
  found = tt;
  none = none;
})
has_found old s p (Some t) scenario shown meter is sound early same metered least of_run below found none =
    let c = stays_covers s.n (steps s.images) sound.staying t.0 (omega arith) in
    let cost = found c.0 c.1 c.2 in
    rw (← is) (record {
      stands = (shown_sound s scenario shown meter sound same metered of_run).stands;
      same = shown_same s scenario shown meter same;
      least = least;
      found = omega (arith, c.3);
      none = tt;
    })

-- where a test is asked of the state before each step, its hits are the steps that are found
hit_before : (t : ℕ) (b : Bool) (found : Option (ℕ × ℕ)) (hit : Option ℕ) → option_map (λ r. r.0) found ≡ hit
    → option_map (λ r. r.0) (or_other t (found_if b) found) ≡ cond b (Some t) hit
hit_before t true found hit same = refl
hit_before t false found hit same = same

hits_before : (hit : ℕ → Bool) (m : ℕ) → option_map (λ r. r.0) (last_between (λ t. found_if (hit t)) 0 m) ≡ last_hit hit m
hits_before hit zero = refl
hits_before hit (suc m) =
    let e : 0 + m ≡ m = omega arith in
    rw e (hit_before m (hit m) (last_between (λ t. found_if (hit t)) 0 m) (last_hit hit m) (hits_before hit m))

pub sought_before : (hit : ℕ → Bool) (p : ℕ) (r : Option (ℕ × ℕ)) → r ≡ last_between (λ t. found_if (hit t)) 0 (p - 0)
    → option_map (λ q. q.0) r ≡ last_hit hit p
sought_before hit p r is =
    let all : p - 0 ≡ p = omega arith in
    ap (option_map (λ q. q.0)) (is ∙ ap (last_between (λ t. found_if (hit t)) 0) all) ∙ hits_before hit p

-- and where of the state after it, they are a step later
abbrev pub later : Option (ℕ × ℕ) → Option ℕ
later None = None
later (Some r) = Some (r.0 + 1)

hit_after : (t : ℕ) (b : Bool) (found : Option (ℕ × ℕ)) (hit : Option ℕ) → later found ≡ hit
    → later (or_other t (found_if b) found) ≡ cond b (Some (t + 1)) hit
hit_after t true found hit same = refl
hit_after t false found hit same = same

hits_after : (hit : ℕ → Bool) (from count : ℕ) → later (first_found (λ t. found_if (hit (t + 1))) from count)
    ≡ first_hit hit (from + 1) count
hits_after hit from zero = refl
hits_after hit from (suc count) = hit_after from (hit (from + 1)) (first_found (λ t. found_if (hit (t + 1))) (from + 1) count)
    (first_hit hit (from + 1 + 1) count) (hits_after hit (from + 1) count)

pub first_after : (hit : ℕ → Bool) (from count : ℕ) (r : Option (ℕ × ℕ)) → 0 < from
    → r ≡ first_found (λ t. found_if (hit (t + 1))) (from - 1) count → later r ≡ first_hit hit from count
first_after hit from count r begun is =
    let e : from - 1 + 1 ≡ from = omega arith in
    ap later is ∙ hits_after hit (from - 1) count ∙ ap (λ k. first_hit hit k count) e
