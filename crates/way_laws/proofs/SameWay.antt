-- Two runs that go the same way.
use Rattle.std.proofs.Common.{◌≡◌, ◌≢◌, ℕ, zero, suc, ◌+◌, List, [], ◌∷◌, refl, sym, subst, arith, ⊎_elim}
use Rattle.std.proofs.lemmas.Bool.{cases_eq}
use Rattle.cpu.specs.State.{State, Scenario}
use Rattle.cpu.specs.Next.{next}
use Rattle.cpu.specs.Run.{run}
use Rattle.cpu.specs.Links.{link}
use Rattle.cpu.specs.declared.spot.Spot.{Spot}
use Rattle.cpu.proofs.Chaining.{chain_fixes}
use Rattle.cpu.proofs.Flowing.{Agree}
use Rattle.cpu.proofs.Linking.{agree_alike, alike_agree, depends_on_origins, run_later}
use Rattle.way_laws.specs.SameWay.{SamePosition, StepAlike, GoTheSameWay, guides_at, WayDependsOnOrigins}
use Rattle.way_laws.specs.SameWay.{EachComesAlike, ChainsFixWay, ChainsFixWayFromStart}
use Rattle.way_laws.proofs.Guiding.{guides_fix_step}

-- no step yet
no_steps : (one : Scenario) (m : ℕ) (other : Scenario) (n : ℕ) → SamePosition one (run one m) other (run other n)
    → GoTheSameWay one m other n zero
no_steps one m other n p =
    let first : m ≡ m + 0 = omega arith in
    let second : n ≡ n + 0 = omega arith in
    record {
      steps = λ j below. absurd (omega (arith, below));
      position = subst (λ u. SamePosition one (run one u) other (run other (n + 0))) first
          (subst (λ v. SamePosition one (run one m) other (run other v)) second p);
    }

-- one step more
one_more : (one : Scenario) (m : ℕ) (other : Scenario) (n k : ℕ) → GoTheSameWay one m other n k
    → StepAlike one (run one (m + k)) other (run other (n + k)) → GoTheSameWay one m other n (suc k)
one_more one m other n k before step =
    record {
      steps = λ j below.
          ⊎_elim
          (λ (is : j ≡ k). subst (λ i. link one (run one (m + i)) ≡ link other (run other (n + i))) (sym is) step.step)
          (λ (not : j ≢ k). before.steps j (omega (arith, below, not)))
          (cases_eq j k);
      position = subst (λ (u : State). SamePosition one u other (run other (n + suc k))) (sym (run_later one m k))
          (subst (λ (v : State). SamePosition one (next one (run one (m + k))).0 other v) (sym (run_later other n k)) step.position);
    }

pub way_depends_on_origins : (one other : Scenario) (m n k : ℕ) → WayDependsOnOrigins one m other n k
way_depends_on_origins one other m n zero = λ p inputs alike. no_steps one m other n p
way_depends_on_origins one other m n (suc k) = λ p inputs alike.
    let before : GoTheSameWay one m other n k = way_depends_on_origins one other m n k p (λ j below. inputs j (omega (arith, below)))
    (λ j below. alike j (omega (arith, below))) in
    one_more one m other n k before
    (guides_fix_step one other (run one (m + k)) (run other (n + k)) before.position (inputs k (omega arith))
    (depends_on_origins one m other n k (guides_at one m k) before.steps (alike k (omega arith))))

-- the same stands where it comes by chains of the same links from the same
each_agrees : (one : Scenario) (p : ℕ) (other : Scenario) (n : ℕ) (xs : List Spot) → EachComesAlike one p other n xs
    → Agree one.rope (run one p) other.rope (run other n) xs
each_agrees one p other n [] come = tt
each_agrees one p other n (x ∷ xs) come =
    let first = come.0 in (
      (alike_agree one.rope (run one p) other.rope (run other n) (x ∷ [])
          (chain_fixes one p first.steps other n first.others (x ∷ []) first.chain first.other_chain first.same first.alike)).0,
      each_agrees one p other n xs come.1,
    )

pub chains_fix_way : (one other : Scenario) (m n k : ℕ) → ChainsFixWay one m other n k
chains_fix_way one other m n zero = λ p inputs come. no_steps one m other n p
chains_fix_way one other m n (suc k) = λ p inputs come.
    let before : GoTheSameWay one m other n k = chains_fix_way one other m n k p (λ j below. inputs j (omega (arith, below)))
    (λ j below. come j (omega (arith, below))) in
    one_more one m other n k before
    (guides_fix_step one other (run one (m + k)) (run other (n + k)) before.position (inputs k (omega arith))
    (agree_alike one.rope (run one (m + k)) other.rope (run other (n + k)) (guides_at one m k)
    (each_agrees one (m + k) other (n + k) (guides_at one m k) (come k (omega arith)))))

-- all runs start in the same position
from_start : (one other : Scenario) → SamePosition one (run one 0) other (run other 0)
unfolding run
from_start one other =
    record {
      place = refl;
      flags = record { extra = refl; inhibit = refl; inside = refl };
      sum = refl;
      word = refl;
      requests = refl;
    }

pub chains_fix_way_from_start : (one other : Scenario) (k : ℕ) → ChainsFixWayFromStart one other k
chains_fix_way_from_start one other k = λ inputs come. chains_fix_way one other 0 0 k (from_start one other) inputs come
