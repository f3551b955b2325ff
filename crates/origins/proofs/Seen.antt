-- The steps that a walk back sees are those of the chain.
use Rattle.std.proofs.Common.{◌≡◌, ℕ, zero, suc, ◌+◌, ◌-◌, ◌≤◌, Option, Bool, true, false, List, refl, sym, ap, ◌∙◌, arith}
use Rattle.cpu.specs.Chains.{before_step, cells_among, link_at, writes_any, writes_some}
use Rattle.cpu.specs.NextStep.{next_step}
use Rattle.cpu.specs.Run.{run}
use Rattle.cpu.specs.State.{State, Scenario}
use Rattle.cpu.specs.declared.spot.Spot.{Spot}
use Rattle.cpu.proofs.CellSets.{writes_among}
use Rattle.replay.specs.Whys.{why_steps}
use Rattle.origins.specs.Following.{cells_before}
use Rattle.origins.specs.Gathering.{Gathering, gathered, seen, seen_at, seen_back, with_link}
use Rattle.origins.specs.Served.{served}
use Rattle.origins.proofs.Followed.{follows_on}

-- the earlier of some steps after the later ones
pub seen_split : (scenario : Scenario) (low left right : ℕ) (g : Gathering)
    → seen_back scenario low left (seen_back scenario (low + left) right g) ≡ seen_back scenario low (left + right) g
seen_split scenario low left zero g = let none : left ≡ left + 0 = omega arith in ap (λ m. seen_back scenario low m g) none
seen_split scenario low left (suc right) g =
    let same : (low + left) + right ≡ low + (left + right) = omega arith in
    let more : suc (left + right) ≡ left + suc right = omega arith in
    seen_split scenario low left right (seen scenario ((low + left) + right) g)
    ∙ ap (λ t. seen_back scenario low (left + right) (seen scenario t g)) same
    ∙ ap (λ m. seen_back scenario low m g) more

-- the step after p steps is one of the chain, or not
seen_here : (scenario : Scenario) (k p : ℕ) (xs : List Spot) (g : Gathering) (b : Bool) → writes_any (link_at scenario p) xs ≡ b
    → g.followed ≡ cells_among xs → p ≤ k
    → ((j : ℕ) (ys : List Spot) (h : Gathering) → p ≤ j → h.followed ≡ cells_among ys
    → seen_back scenario 0 p h ≡ gathered scenario (why_steps scenario j p ys) h)
    → seen_back scenario 0 p (seen scenario p g) ≡ gathered scenario (why_steps scenario (suc k) (suc p) xs) g
unfolding why_steps
seen_here scenario k p xs g true e is few earlier =
    let some : writes_some (link_at scenario p) g.followed
    ≡ true = ap (writes_some (link_at scenario p)) is ∙ writes_among (link_at scenario p) xs ∙ e in
    let linked = with_link (p + 1) (served scenario p) (next_step scenario (run scenario p)) (link_at scenario p) g in
    let on : linked.followed
    ≡ cells_among (before_step scenario p xs) = ap (cells_before (link_at scenario p)) is ∙ follows_on (link_at scenario p) xs in
    rw (some, e) (earlier k (before_step scenario p xs) linked few on)
seen_here scenario k p xs g false e is few earlier =
    let none : writes_some (link_at scenario p) g.followed
    ≡ false = ap (writes_some (link_at scenario p)) is ∙ writes_among (link_at scenario p) xs ∙ e in
    rw (none, e) (earlier (suc k) xs g (omega (arith, few)) is)

pub seen_chain : (scenario : Scenario) (p k : ℕ) (xs : List Spot) (g : Gathering) → p ≤ k → g.followed ≡ cells_among xs
    → seen_back scenario 0 p g ≡ gathered scenario (why_steps scenario k p xs) g
unfolding why_steps
seen_chain scenario zero zero xs g few is = refl
seen_chain scenario zero (suc k) xs g few is = refl
seen_chain scenario (suc p) zero xs g few is = absurd (omega (arith, few))
seen_chain scenario (suc p) (suc k) xs g few is =
    let here : 0 + p ≡ p = omega arith in
    ap (λ t. seen_back scenario 0 p (seen scenario t g)) here
    ∙ seen_here scenario k p xs g (writes_any (link_at scenario p) xs) refl is (omega (arith, few))
    (λ j ys h. seen_chain scenario p j ys h)

-- of all steps
pub whole_seen : (scenario now : Scenario) (low steps : ℕ) (xs : List Spot) (g h : Gathering) → now ≡ scenario → low ≡ 0
    → h ≡ seen_back now low (steps - low) g → g.followed ≡ cells_among xs → h ≡ gathered scenario (why_steps scenario steps steps xs) g
whole_seen scenario now low steps xs g h same none seen is =
    let all : steps - low ≡ steps = omega (arith, none) in
    seen ∙ ap (λ q. seen_back q low (steps - low) g) same ∙ ap (λ l. seen_back scenario l (steps - low) g) none
    ∙ ap (λ m. seen_back scenario 0 m g) all ∙ seen_chain scenario steps steps xs g (omega arith) is

-- a step of a run that is seen by itself, and no step
pub seen_one : (scenario now : Scenario) (low high : ℕ) (s : State) (k : Option ℕ) (g h : Gathering) → now ≡ scenario → high - low ≡ 1
    → s ≡ run scenario low → k ≡ served scenario low → h ≡ seen_at now s k low g → h ≡ seen_back scenario low (high - low) g
seen_one scenario now low high s k g h same one at_low is made =
    let here : low + 0 ≡ low = omega arith in
    made ∙ ap (λ q. seen_at q s k low g) same ∙ ap (λ r. seen_at scenario r k low g) at_low
    ∙ ap (λ j. seen_at scenario (run scenario low) j low g) is ∙ ap (λ t. seen scenario t g) (sym here)
    ∙ ap (λ m. seen_back scenario low m g) (sym one)

pub seen_none : (scenario : Scenario) (low high : ℕ) (g : Gathering) → high - low ≡ 0 → g ≡ seen_back scenario low (high - low) g
seen_none scenario low high g none = ap (λ m. seen_back scenario low m g) (sym none)

-- both halves
pub seen_halves : (scenario one other : Scenario) (low middle high : ℕ) (g h i : Gathering) → low ≤ middle → middle ≤ high → one ≡ scenario
    → other ≡ scenario → h ≡ seen_back one middle (high - middle) g → i ≡ seen_back other low (middle - low) h
    → i ≡ seen_back scenario low (high - low) g
seen_halves scenario one other low middle high g h i begun ended same like later earlier =
    let at_middle : low + (middle - low) ≡ middle = omega (arith, begun) in
    let both : (middle - low) + (high - middle) ≡ high - low = omega (arith, begun, ended) in
    earlier ∙ ap (λ q. seen_back q low (middle - low) h) like
    ∙ ap (seen_back scenario low (middle - low))
    (later ∙ ap (λ q. seen_back q middle (high - middle) g) same ∙ ap (λ t. seen_back scenario t (high - middle) g) (sym at_middle))
    ∙ seen_split scenario low (middle - low) (high - middle) g
    ∙ ap (λ m. seen_back scenario low m g) both
