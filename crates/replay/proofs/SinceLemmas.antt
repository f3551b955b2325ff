-- What is found of the steps from a first one on, searched a segment at a time.
use Rattle.std.proofs.Common.{◌≡◌, ℕ, zero, suc, ◌+◌, ◌-◌, ◌^◌, ◌<◌, ◌≤◌, Option, Some, None, IfSome, refl, sym, ap, ◌∙◌, arith}
use Rattle.std.specs.Option.{IfNone, option_map}
use Rattle.std.specs.List.{Contains}
use Rattle.cpu.specs.State.{Scenario}
use Rattle.replay.specs.Images.{Image, steps}
use Rattle.replay.specs.View.{SessionView, IsOfRun, IsSound}
use Rattle.replay.specs.Since.{HasSoughtSince}
use Rattle.replay.specs.Found.{or_other, last_between}
use Rattle.replay.proofs.StayingLemmas.{stays_covers}
use Rattle.replay.proofs.SessionLemmas.{shown_sound, shown_same, with_shown}

some_by : (at at' : ℕ) (r : ℕ × ℕ) (found : Option ℕ) (some all : Option (ℕ × ℕ)) → at ≡ at' → or_other at found some ≡ Some r
    → (some ≡ Some r → all ≡ Some r) → or_other at' found all ≡ Some r
some_by at at' r None some all same is rest = rest is
some_by at at' r (Some x) some all same is rest = ap (λ k. Some (k, x)) (sym same) ∙ is

after_some : (find : ℕ → Option ℕ) (first d m : ℕ) (r : ℕ × ℕ) → last_between find (first + d) m ≡ Some r
    → last_between find first (d + m) ≡ Some r
after_some find first d zero r is = absurd (let bad : None ≡ Some r = is in cc)
after_some find first d (suc m) r is =
    let e : d + suc m ≡ suc (d + m) = omega arith in
    let same : first + d + m ≡ first + (d + m) = omega arith in
    rw e (ap (λ k. or_other (first + (d + m)) (find k) (last_between find first (d + m))) (sym same)
    ∙ some_by (first + d + m) (first + (d + m)) r (find (first + d + m)) (last_between find (first + d) m) (last_between find first (d + m))
    same is (after_some find first d m r))

none_by : (at at' : ℕ) (found : Option ℕ) (some all left : Option (ℕ × ℕ)) → or_other at found some ≡ None → (some ≡ None → all ≡ left)
    → or_other at' found all ≡ left
none_by at at' None some all left is rest = rest is
none_by at at' (Some x) some all left is rest = absurd (let bad : Some (at, x) ≡ None = is in cc)

after_none : (find : ℕ → Option ℕ) (first d m : ℕ) → last_between find (first + d) m ≡ None
    → last_between find first (d + m) ≡ last_between find first d
after_none find first d zero is = let e : d + 0 ≡ d = omega arith in rw e refl
after_none find first d (suc m) is =
    let e : d + suc m ≡ suc (d + m) = omega arith in
    let same : first + d + m ≡ first + (d + m) = omega arith in
    rw e (ap (λ k. or_other (first + (d + m)) (find k) (last_between find first (d + m))) (sym same)
    ∙ none_by (first + d + m) (first + (d + m)) (find (first + d + m)) (last_between find (first + d) m) (last_between find first (d + m))
    (last_between find first d) is (after_none find first d m))

pub found_since : (find : ℕ → Option ℕ) (first low high p : ℕ) (r : ℕ × ℕ) → first ≤ low → low ≤ high
    → last_between find first (p - first) ≡ last_between find first (high - first)
    → Some r ≡ last_between find low (high - low) → Some r ≡ last_between find first (p - first)
found_since find first low high p r begun order same is =
    let at : low ≡ first + (low - first) = omega (arith, begun) in
    let all : high - first ≡ (low - first) + (high - low) = omega (arith, begun, order) in
    sym (same ∙ ap (last_between find first) all ∙ after_some find first (low - first) (high - low) r
    (ap (λ k. last_between find k (high - low)) (sym at) ∙ sym is))

pub none_since : (find : ℕ → Option ℕ) (first low high p : ℕ) → first ≤ low → low ≤ high
    → last_between find first (p - first) ≡ last_between find first (high - first)
    → None ≡ last_between find low (high - low) → last_between find first (p - first) ≡ last_between find first (low - first)
none_since find first low high p begun order same is =
    let at : low ≡ first + (low - first) = omega (arith, begun) in
    let all : high - first ≡ (low - first) + (high - low) = omega (arith, begun, order) in
    same ∙ ap (last_between find first) all ∙ after_none find first (low - first) (high - low)
    (ap (λ k. last_between find k (high - low)) (sym at) ∙ sym is)

pub nothing_left : (find : ℕ → Option ℕ) (first high : ℕ) → high ≤ first → last_between find first (high - first) ≡ None
nothing_left find first high past = let none : high - first ≡ 0 = omega (arith, past) in ap (last_between find first) none

-- what the search leaves
pub has_found_since : (old s : SessionView) (first p : ℕ) (r : Option (ℕ × ℕ)) (scenario : Scenario) (shown : Image) (meter : ℕ) → s ≡ old
    → IsSound s → first < p → p ≤ s.n → scenario ≡ s.scenario → meter < 2 ^ 128 → s.meter ≤ meter → IsOfRun s.scenario s.n shown
    → IfSome r (λ t. (first ≤ t.0) × (t.0 < p))
    → IfSome r (λ t. (c : ℕ) → Contains (steps s.images) c → c ≤ t.0 → meter + c ≤ s.meter + p)
    → IfNone r ((c : ℕ) → Contains (steps s.images) c → c ≤ first → meter + c ≤ s.meter + p)
    → HasSoughtSince old first (option_map (λ t. t.0) r)
    (with_shown s scenario shown meter)
has_found_since old s first p None scenario shown meter is sound order early same metered least of_run between found none = rw (← is)
    (record {
      stands = (shown_sound s scenario shown meter sound same metered of_run).stands;
      same = shown_same s scenario shown meter same;
      least = least;
      found = tt;
      none =
          let c = stays_covers s.n (steps s.images) sound.staying first (omega (arith, order, early)) in
          let cost = none c.0 c.1 c.2 in
          omega (arith, c.3, cost, early);
    })
has_found_since old s first p (Some t) scenario shown meter is sound order early same metered least of_run between found none =
    let c = stays_covers s.n (steps s.images) sound.staying t.0 (omega (arith, between.1, early)) in
    let cost = found c.0 c.1 c.2 in
    rw (← is) (record {
      stands = (shown_sound s scenario shown meter sound same metered of_run).stands;
      same = shown_same s scenario shown meter same;
      least = least;
      found = omega (arith, c.3, cost, early);
      none = tt;
    })
