-- Chains.
use Rattle.std.proofs.Common.{◌≡◌, ◌≤◌, ◌<◌, ℕ, zero, suc, ◌+◌, ◌-◌, false, cond, List, [], ◌∷◌, ◌++◌, map, refl, ap, ◌∙◌, sym, subst}
use Rattle.std.proofs.Common.{arith}
use Rattle.std.specs.List.{flat_map}
use Rattle.cpu.specs.declared.spot.Spot.{Spot}
use Rattle.cpu.specs.declared.spot.Spot.TheVariants.{Cell, InRope}
use Rattle.cpu.specs.State.{State, Scenario}
use Rattle.cpu.specs.Next.{next}
use Rattle.cpu.specs.Run.{run}
use Rattle.cpu.specs.Links.{Flow, Link, link, flows, targets, sources, sources_by, is_in, targets_by, spot_word}
use Rattle.cpu.specs.Dependence.{origins, StandAlike}
use Rattle.cpu.specs.Chains.{writes_at, writes_any, link_at, before_step, IsLastWriter, IsChain, chain_end, chain_origins, ChainExplains}
use Rattle.cpu.specs.Chains.{ChainFixes}
use Rattle.cpu.proofs.Trails.{first_false, second_false, not_first, not_second}
use Rattle.cpu.proofs.RunLaws.{run-add-one}
use Rattle.cpu.proofs.Linking.{depends_on_origins, agree_all, agree_alike, alike_agree, run_later}
use Rattle.cpu.proofs.Leaving.{leaves_rest}

-- what no flow is into comes from itself
same_sources : (fs : List Flow) (c : ℕ) (from : List Spot) → is_in c (targets_by fs) ≡ false → sources_by fs c from ≡ from
same_sources [] c from h = refl
same_sources (f ∷ fs) c from h =
    same_sources fs c (cond (is_in c f.into) f.from from) (not_second c f.into (targets_by fs) h)
    ∙ ap (λ b. cond b f.from from) (not_first c f.into (targets_by fs) h)

pub own_source : (k : Link) (x : Spot) → writes_at k x ≡ false → sources k x ≡ x ∷ []
unfolding targets sources
own_source k (Cell c) h = same_sources (flows k) c (Cell c ∷ []) h
own_source k (InRope bank offset) h = refl

own_sources : (k : Link) (xs : List Spot) → writes_any k xs ≡ false → flat_map (sources k) xs ≡ xs
own_sources k [] h = refl
own_sources k (x ∷ xs) h =
    (λ i. own_source k x (first_false (writes_at k x) (writes_any k xs) h) i
    ++ own_sources k xs (second_false (writes_at k x) (writes_any k xs) h) i)

-- steps that write at none
still : (scenario : Scenario) (m k : ℕ) (xs : List Spot) → ((u : ℕ) → m < u → u < m + suc k → writes_any (link_at scenario u) xs ≡ false)
    → origins scenario m (suc k) xs ≡ before_step scenario m xs
unfolding origins
still scenario m zero xs none = let e : m + 0 ≡ m = omega arith in ap (λ u. before_step scenario u xs) e
still scenario m (suc k) xs none =
    ap (origins scenario m (suc k)) (own_sources (link_at scenario (m + suc k)) xs (none (m + suc k) (omega arith) (omega arith)))
    ∙ still scenario m k xs (λ u lt below. none u lt (omega arith))

-- steps after steps
origins_add : (scenario : Scenario) (m k j : ℕ) (xs : List Spot)
    → origins scenario m (k + j) xs ≡ origins scenario m k (origins scenario (m + k) j xs)
unfolding origins
origins_add scenario m k zero xs = let e : k + 0 ≡ k = omega arith in ap (λ k. origins scenario m k xs) e
origins_add scenario m k (suc j) xs =
    let e : k + suc j ≡ suc (k + j) = omega arith in
    let d : m + (k + j) ≡ m + k + j = omega arith in
    ap (λ i. origins scenario m i xs) e
    ∙ ap (λ u. origins scenario m (k + j) (before_step scenario u xs)) d
    ∙ origins_add scenario m k j (before_step scenario (m + k + j) xs)

last_writer : (scenario : Scenario) (p : ℕ) (xs : List Spot) (t : ℕ) → IsLastWriter scenario p xs t
    → origins scenario t (p - t) xs ≡ before_step scenario t xs
last_writer scenario p xs t w =
    let e : p - t ≡ suc (p - t - 1) = omega (arith, w.earlier) in
    ap (λ k. origins scenario t k xs) e ∙ still scenario t (p - t - 1) xs (λ u lt below. w.none_since u lt (omega (arith, w.earlier)))

pub chain_below : (scenario : Scenario) (p : ℕ) (xs : List Spot) (ts : List ℕ) → IsChain scenario p xs ts → chain_end p ts ≤ p
chain_below scenario p xs [] c = omega arith
chain_below scenario p xs (t ∷ ts) c =
    let below = chain_below scenario t (before_step scenario t xs) ts c.1 in
    let first = c.0.earlier in
    omega (arith, below, first)

-- a chain's origins are those of the run
pub chain_of_run : (scenario : Scenario) (p : ℕ) (xs : List Spot) (ts : List ℕ) → IsChain scenario p xs ts
    → origins scenario (chain_end p ts) (p - chain_end p ts) xs ≡ chain_origins scenario xs ts
unfolding origins
chain_of_run scenario p xs [] c = let e : p - p ≡ 0 = omega arith in ap (λ k. origins scenario p k xs) e
chain_of_run scenario p xs (t ∷ ts) c =
    let end = chain_end t ts in
    let below : end ≤ t = chain_below scenario t (before_step scenario t xs) ts c.1 in
    let first = c.0.earlier in
    let e : p - end ≡ (t - end) + (p - t) = omega (arith, below, first) in
    let d : end + (t - end) ≡ t = omega (arith, below) in
    ap (λ k. origins scenario end k xs) e
    ∙ origins_add scenario end (t - end) (p - t) xs
    ∙ ap (λ u. origins scenario end (t - end) (origins scenario u (p - t) xs)) d
    ∙ ap (origins scenario end (t - end)) (last_writer scenario p xs t c.0)
    ∙ chain_of_run scenario t (before_step scenario t xs) ts c.1

pub chain_explains : (scenario : Scenario) (p : ℕ) (xs : List Spot) (ts : List ℕ) → ChainExplains scenario p xs ts
chain_explains scenario p xs ts = λ c other n links alike.
    let below = chain_below scenario p xs ts c in
    let e : chain_end p ts + (p - chain_end p ts) ≡ p = omega (arith, below) in
    subst (λ u. StandAlike scenario.rope (run scenario u) other.rope (run other (n + (p - chain_end p ts))) xs) e
    (depends_on_origins scenario (chain_end p ts) other n (p - chain_end p ts) xs links
    (subst (λ ys. StandAlike scenario.rope (run scenario (chain_end p ts)) other.rope (run other n) ys)
    (sym (chain_of_run scenario p xs ts c)) alike))

-- a step that writes at none of some spots leaves what stands there
left_one : (scenario : Scenario) (s : State) (x : Spot) → writes_at (link scenario s) x ≡ false
    → spot_word scenario.rope (next scenario s).0 x ≡ spot_word scenario.rope s x
left_one scenario s (Cell c) h = leaves_rest scenario s c h
left_one scenario s (InRope bank offset) h = refl

left_all : (scenario : Scenario) (s : State) (xs : List Spot) → writes_any (link scenario s) xs ≡ false
    → StandAlike scenario.rope (next scenario s).0 scenario.rope s xs
left_all scenario s [] h = refl
left_all scenario s (x ∷ xs) h =
    λ i. left_one scenario s x (first_false (writes_at (link scenario s) x) (writes_any (link scenario s) xs) h) i
    ∷ left_all scenario s xs (second_false (writes_at (link scenario s) x) (writes_any (link scenario s) xs) h) i

left_since : (scenario : Scenario) (m k : ℕ) (xs : List Spot) → ((u : ℕ) → m ≤ u → u < m + k → writes_any (link_at scenario u) xs ≡ false)
    → StandAlike scenario.rope (run scenario (m + k)) scenario.rope (run scenario m) xs
left_since scenario m zero xs none = let e : m + 0 ≡ m = omega arith in ap (λ u. map (spot_word scenario.rope (run scenario u)) xs) e
left_since scenario m (suc k) xs none =
    ap (λ (s : State). map (spot_word scenario.rope s) xs) (run_later scenario m k)
    ∙ left_all scenario (run scenario (m + k)) xs (none (m + k) (omega arith) (omega arith))
    ∙ left_since scenario m k xs (λ u low high. none u low (omega arith))

-- what the last writer left stands
since_writer : (scenario : Scenario) (p : ℕ) (xs : List Spot) (t : ℕ) → IsLastWriter scenario p xs t
    → StandAlike scenario.rope (run scenario p) scenario.rope (next scenario (run scenario t)).0 xs
since_writer scenario p xs t w =
    let e : p ≡ t + 1 + (p - t - 1) = omega (arith, w.earlier) in
    ap (λ u. map (spot_word scenario.rope (run scenario u)) xs) e
    ∙ left_since scenario (t + 1) (p - t - 1) xs (λ u low high. w.none_since u (omega arith) (omega (arith, w.earlier)))
    ∙ ap (λ (s : State). map (spot_word scenario.rope s) xs) (run-add-one scenario t)

pub chain_fixes : (one : Scenario) (p : ℕ) (ts : List ℕ) (other : Scenario) (n : ℕ) (us : List ℕ) (xs : List Spot)
    → ChainFixes one p ts other n us xs
chain_fixes one p [] other n [] xs = λ c d same alike. alike
chain_fixes one p [] other n (u ∷ us) xs = λ c d same alike. absurd same
chain_fixes one p (t ∷ ts) other n [] xs = λ c d same alike. absurd same
chain_fixes one p (t ∷ ts) other n (u ∷ us) xs = λ c d same alike.
    let before = before_step one t xs in
    let sources_same : before_step other u xs ≡ before = ap (λ (k : Link). flat_map (sources k) xs) (sym same.0) in
    let there : StandAlike one.rope (run one t) other.rope (run other u) before =
    chain_fixes one t ts other u us before c.1 (subst (λ ys. IsChain other u ys us) sources_same d.1) same.1 alike in
    since_writer one p xs t c.0
    ∙ agree_alike one.rope (next one (run one t)).0 other.rope (next other (run other u)).0 xs
    (agree_all one other (run one t) (run other u) xs same.0 (alike_agree one.rope (run one t) other.rope (run other u) before there))
    ∙ sym (since_writer other n xs u d.0)
