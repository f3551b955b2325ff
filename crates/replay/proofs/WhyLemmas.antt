use Rattle.std.proofs.Common.{◌≡◌, ℕ, zero, suc, ◌+◌, Bool, cond, Option, Some, None, List, refl, ap, ◌∙◌, subst, arith}
use Rattle.std.specs.Ordering.{nat_cmp}
use Rattle.std.specs.FinSet as set
use Rattle.cpu.specs.declared.spot.Spot.{Spot}
use Rattle.cpu.specs.State.{State, Scenario, FitsRun}
use Rattle.cpu.specs.Run.{run}
use Rattle.cpu.specs.Links.{link}
use Rattle.cpu.proofs.TakenLaws.{run-fits}
use Rattle.cpu.proofs.CellSets.{writes_among}
use Rattle.cpu.specs.Chains.{writes_any, writes_some, cells_among, link_at, before_step, IsChain}
use Rattle.replay.specs.LastHit.{last_hit, IsLastHit}
use Rattle.replay.specs.Whys.{step_writes, last_writer, and_then, why_steps, WhyIsChain}
use Rattle.replay.proofs.LastHitLemmas.{last_more, last_none}

-- the definition is the last hit
pub is_last_hit : (hit : ℕ → Bool) (p : ℕ) → IsLastHit hit 0 p (last_hit hit p)
is_last_hit hit zero = last_none hit 0
is_last_hit hit (suc p) =
    let e : p + 1 ≡ suc p = omega arith in
    subst (λ m. IsLastHit hit 0 m (cond (hit p) (Some p) (last_hit hit p))) e
    (last_more hit 0 p (last_hit hit p) (hit p) (omega arith) (is_last_hit hit p) refl)

chained : (scenario : Scenario) (p : ℕ) (xs : List Spot) (f : ℕ → List ℕ) (r : Option ℕ)
    → IsLastHit (λ t. writes_any (link_at scenario t) xs) 0 p r
    → ((t : ℕ) → IsChain scenario t (before_step scenario t xs) (f t)) → IsChain scenario p xs (and_then r f)
chained scenario p xs f None h rest = tt
chained scenario p xs f (Some t) h rest = (record { earlier = h.1; writes = h.2; none_since = h.3 }, rest t)

pub why_is_chain : (scenario : Scenario) (k p : ℕ) (xs : List Spot) → WhyIsChain scenario k p xs
unfolding why_steps
why_is_chain scenario zero p xs = tt
why_is_chain scenario (suc k) p xs =
    chained scenario p xs (λ t. why_steps scenario k t (before_step scenario t xs)) (last_writer scenario xs p)
    (is_last_hit (λ t. writes_any (link_at scenario t) xs) p) (λ t. why_is_chain scenario k t (before_step scenario t xs))

-- what a processor tells of the machine after k steps is told of the run
pub writes_on : (scenario : Scenario) (k : ℕ) (state : State) (cells : set.FinSet nat_cmp) (b : Bool) → state ≡ run scenario k
    → (FitsRun scenario state → b ≡ writes_some (link scenario state) cells) → b ≡ step_writes scenario cells k
writes_on scenario k state cells b is told = told (rw is (run-fits scenario k)) ∙ ap (λ (s : State). writes_some (link scenario s) cells) is

same_hits : (f g : ℕ → Bool) → ((t : ℕ) → f t ≡ g t) → (p : ℕ) → last_hit f p ≡ last_hit g p
same_hits f g same zero = refl
same_hits f g same (suc t) = λ i. cond (same t i) (Some t) (same_hits f g same t i)

-- the last step that writes one of the cells among spots is the last that writes at one of the spots
pub writer_is : (scenario : Scenario) (cells : set.FinSet nat_cmp) (p : ℕ) (r : Option ℕ) → r ≡ last_hit (step_writes scenario cells) p
    → (xs : List Spot) → cells ≡ cells_among xs → r ≡ last_writer scenario xs p
writer_is scenario cells p r found xs is =
    found ∙ ap (λ c. last_hit (step_writes scenario c) p) is
    ∙ same_hits (step_writes scenario (cells_among xs)) (λ t. writes_any (link_at scenario t) xs)
    (λ t. writes_among (link_at scenario t) xs) p
