-- Steps that were told, one after another.
use Rattle.std.proofs.Common.{◌≡◌, ℕ, zero, suc, ◌+◌, ◌-◌, ◌<◌, ◌≤◌, Bool, true, false, List, [], ◌∷◌, ◌++◌, Option, Some, None}
use Rattle.std.proofs.Common.{MatchOption, Result, Ok, Err, ap, refl, sym, ◌∙◌, arith}
use Rattle.words.specs.Devices.{failures_after, one_more}
use Rattle.words.specs.declared.device.WriteFailed.{WriteFailed}
use Rattle.cpu.specs.declared.output.Output.{Output}
use Rattle.cpu.specs.State.{State, Scenario}
use Rattle.cpu.specs.Next.{next}
use Rattle.cpu.specs.Run.{run, out, outs}
use Rattle.cpu.proofs.RunLaws.{out-add-one}
use Rattle.replay.specs.Memory.{step_limit}
use Rattle.replay.specs.Stops.{is_by_watcher, HasStopped}
use Rattle.replay.specs.Walked.{Walked, WalkedFor}
use Rattle.replay.specs.declared.stop.Stop.{Stop}
use Rattle.replay.specs.declared.stop.Stop.TheVariants as stop
use Rattle.commands.specs.declared.command.Breakpoint.{Breakpoint}
use Rattle.debugger.specs.History.{heard, history, unheard}
use Rattle.debugger.specs.Growth.{hit_at}
use Rattle.debugger.specs.Tallies.{tally_of, with_output}
use Rattle.debugger.specs.HandingOn.{HandsOn}
use Rattle.debugger.specs.Telling.{Telling, Tells, TellsBy, EndsAs}
use Rattle.debugger.specs.declared.growing.Teller.{Teller}
use Rattle.debugger.specs.Stopping.{hit_by}
use Rattle.debugger.specs.Executions.{Grows, Grown}
use Rattle.debugger.specs.declared.ending.Ending.{Ending}
use Rattle.debugger.specs.declared.ending.Ending.TheVariants.{NoMemory, Limit}
use Rattle.debugger.proofs.StopLemmas.{looked_at}
use Rattle.debugger.proofs.NewSteps.{Growing, growing-none, growing-step, grown-reached, grown-limit, grown-refused, grown-hit}
use Rattle.debugger.proofs.NewSteps.{growth-broken, tail-more}

tail_on : (scenario : Scenario) (n m : ℕ) (o : Option Output) (old new : Telling) → o ≡ out scenario (n + m + 1)
    → old.tail ≡ tally_of (outs scenario (n + m))
    → MatchOption o (new.tail ≡ old.tail) (λ x. new.tail ≡ with_output old.tail x)
    → new.tail ≡ tally_of (outs scenario (n + suc m))
tail_on scenario n m o old new is so_far more =
    let e : n + m + 1 ≡ n + suc m = omega arith in
    rw e at (tail-more scenario (n + m) o old.tail new.tail so_far is more)

-- so many steps were told, after each of which they went on
record HasTold (told may_refuse quiet : Bool) (scenario : Scenario) (breakpoints : List Breakpoint) (more n m : ℕ) (old new : Telling) : Type 0
  where
    tail : new.tail ≡ tally_of (outs scenario (n + m))
    failures : new.failures ≡ old.failures
    growth : told ≡ true → Growing may_refuse (heard quiet (history scenario)) breakpoints more n old.text (more - m) (n + m) new.text

-- how told steps end
pub record HasEnded (told may_refuse quiet : Bool) (scenario : Scenario) (breakpoints : List Breakpoint) (more n high : ℕ) (old new : Telling)
    (result : Result Ending WriteFailed) : Type 0 where
  pub tail : new.tail ≡ tally_of (outs scenario high)
  pub failures : new.failures ≡ failures_after old.failures result
  pub growth : told ≡ true → Grows may_refuse false (heard quiet (history scenario)) breakpoints more n high old.text new.text result

-- of what tells steps: what is seen of it, the breakpoints at which its steps stop, which stay, and the one that has ended them
module _ {T : Type 0} (told may_refuse : Bool) (sees : T → Scenario → State → Bool → T → Type 0) (view : T → Telling)
    (breakpoints : T → List Breakpoint) (quiet : T → Bool) (hit : T → Option ℕ)
    (same : (w : T) (p : Scenario) (s : State) (b : Bool) (w' : T) → sees w p s b w' → breakpoints w' ≡ breakpoints w)
    (hushed : (w : T) (p : Scenario) (s : State) (b : Bool) (w' : T) → sees w p s b w' → quiet w' ≡ quiet w)
    (tells : (w : T) (p : Scenario) (s : State) (b : Bool) (w' : T) → sees w p s b w'
    → Tells told (quiet w) (hit_by (breakpoints w) true p s) (next p s).1 b (hit w') (view w) (view w'))
    (scenario : Scenario) (more n : ℕ) where
  breakpoints_stay : (m : ℕ) (old new : T) → WalkedFor sees scenario n m false old new → breakpoints new ≡ breakpoints old
  breakpoints_stay zero old new walked = ap breakpoints walked.1
  breakpoints_stay (suc m) old new (between, early, late) = same between scenario (run scenario (n + m)) false new late
      ∙ breakpoints_stay m old between early

  quiet_stays : (m : ℕ) (old new : T) → WalkedFor sees scenario n m false old new → quiet new ≡ quiet old
  quiet_stays zero old new walked = ap quiet walked.1
  quiet_stays (suc m) old new (between, early, late) = hushed between scenario (run scenario (n + m)) false new late
      ∙ quiet_stays m old between early

  -- the breakpoint that is found after a step is the one that holds there
  holds_there : (m : ℕ) (old between : T) → WalkedFor sees scenario n m false old between
      → hit_by (breakpoints between) true scenario (run scenario (n + m)) ≡ hit_at (history scenario) (breakpoints old) (n + m + 1)
  holds_there m old between early =
      rw (breakpoints_stay m old between early) (looked_at scenario (breakpoints old) (n + m))

  has_told : (m : ℕ) (old new : T) → m ≤ more → n + m ≤ step_limit → (view old).tail ≡ tally_of (outs scenario n)
      → WalkedFor sees scenario n m false old new
      → HasTold told may_refuse (quiet old) scenario (breakpoints old) more n m (view old) (view new)
  unfolding history
  has_told zero old new most within tail walked =
      let none : n + 0 ≡ n = omega arith in
      let all : more - 0 ≡ more = omega arith in
      rw walked.1 (record { tail = rw none tail; failures = refl; growth = λ _. rw (none, all) growing-none })
  has_told (suc m) old new most within tail (between, early, late) =
      let so_far = has_told m old between (omega arith) (omega arith) tail early in
      let still = quiet_stays m old between early in
      let step : Tells told (quiet old) (hit_by (breakpoints between) true scenario (run scenario (n + m)))
      (next scenario (run scenario (n + m))).1 false (hit new) (view between) (view new) =
      rw still at (tells between scenario (run scenario (n + m)) false new late) in
      let put = sym (out-add-one scenario (n + m)) in
      let next_is : n + suc m ≡ n + m + 1 = omega arith in
      let left : more - m ≡ suc (more - suc m) = omega arith in
      record {
        tail = tail_on scenario n m (next scenario (run scenario (n + m))).1 (view between) (view new) put so_far.tail step.tail;
        failures = step.by.failures ∙ so_far.failures;
        growth = λ w. growing-step (more - suc m) (n + suc m) (view new).text (so_far.growth w) left next_is (λ e. absurd (omega arith))
            (sym (step.by.found_is ∙ holds_there m old between early)) (rw put at (step.by.written w));
      }

  -- they end at a breakpoint, or at a write that failed
  ended_by : (m : ℕ) (old new : T) (h : Option ℕ) (result : Result Ending WriteFailed) → m < more → n + m < step_limit
      → (view old).tail ≡ tally_of (outs scenario n) → WalkedFor sees scenario n (suc m) true old new → hit new ≡ h
      → EndsAs stop.Watcher h result
      → HasEnded told may_refuse (quiet old) scenario (breakpoints old) more n (n + suc m) (view old) (view new) result
  unfolding history
  ended_by m old new (Some number) result most within tail (between, early, late) is ends =
      let so_far = has_told m old between (omega arith) (omega arith) tail early in
      let s = run scenario (n + m) in
      let o = (next scenario s).1 in
      let lowest = hit_by (breakpoints between) true scenario s in
      let still = quiet_stays m old between early in
      let step : Tells told (quiet old) lowest o true (hit new) (view between) (view new) =
      rw still at (tells between scenario s true new late) in
      let by : TellsBy told lowest (unheard (quiet old) o) true (Some number) (view between) (view new) = rw is at step.by in
      let put = sym (out-add-one scenario (n + m)) in
      let next_is : n + suc m ≡ n + m + 1 = omega arith in
      let left : more - m ≡ suc (more - suc m) = omega arith in
      rw ends (record {
        tail = tail_on scenario n m o (view between) (view new) put so_far.tail step.tail;
        failures = by.failures ∙ so_far.failures;
        growth = λ w. grown-hit (more - suc m) (n + suc m) number (view new).text (so_far.growth w) left next_is (λ e. absurd (omega arith))
            (sym (by.found_is ∙ holds_there m old between early)) (rw put at (by.written w));
      })
  ended_by m old new None (Ok x) most within tail walked is ends = absurd (let bad : false ≡ true = ends in cc)
  ended_by m old new None (Err failed) most within tail (between, early, late) is ends =
      let so_far = has_told m old between (omega arith) (omega arith) tail early in
      let s = run scenario (n + m) in
      let o = (next scenario s).1 in
      let lowest = hit_by (breakpoints between) true scenario s in
      let still = quiet_stays m old between early in
      let step : Tells told (quiet old) lowest o true (hit new) (view between) (view new) =
      rw still at (tells between scenario s true new late) in
      let by : TellsBy told lowest (unheard (quiet old) o) true None (view between) (view new) = rw is at step.by in
      let put = sym (out-add-one scenario (n + m)) in
      let left : more - m ≡ suc (more - suc m) = omega arith in
      record {
        tail = tail_on scenario n m o (view between) (view new) put so_far.tail step.tail;
        failures = by.failures ∙ ap one_more so_far.failures;
        growth = λ w. growth-broken (more - suc m) (view new).text (so_far.growth w) left (λ e. absurd (omega arith))
            (rw put at (by.written w));
      }

  pub has_ended : (is : Stop) (m : ℕ) (old new : T) (h : Option ℕ) (result : Result Ending WriteFailed) → n + m ≤ step_limit
      → HasStopped may_refuse n more (n + m) is → (view old).tail ≡ tally_of (outs scenario n)
      → WalkedFor sees scenario n m (is_by_watcher is) old new → hit new ≡ h → EndsAs is h result
      → HasEnded told may_refuse (quiet old) scenario (breakpoints old) more n (n + m) (view old) (view new) result
  has_ended stop.All m old new h result within stopped tail walked found ends =
      let so_far = has_told m old new (omega (arith, stopped)) within tail walked in
      rw ends (record {
        tail = so_far.tail;
        failures = so_far.failures;
        growth = λ w. grown-reached (so_far.growth w)
            (omega (arith, stopped));
      })
  has_ended stop.Watcher zero old new h result within stopped tail walked found ends = absurd (omega (arith, stopped.0))
  has_ended stop.Watcher (suc m) old new h result within stopped tail walked found ends = ended_by m old new h result
      (omega (arith, stopped.1)) (omega (arith, within)) tail walked found ends
  has_ended stop.StepLimit m old new h result within stopped tail walked found ends =
      let so_far = has_told m old new (omega (arith, stopped.1)) within tail walked in
      let left : more - m ≡ suc (more - suc m) = omega (arith, stopped.1) in
      rw ends (record {
        tail = so_far.tail;
        failures = so_far.failures;
        growth = λ w. grown-limit (more - suc m) (so_far.growth w) left
            stopped.2;
      })
  has_ended stop.NoMemory m old new h result within stopped tail walked found ends =
      let so_far = has_told m old new (omega (arith, stopped.1)) within tail walked in
      let left : more - m ≡ suc (more - suc m) = omega (arith, stopped.1) in
      rw ends (record {
        tail = so_far.tail;
        failures = so_far.failures;
        growth = λ w. grown-refused (more - suc m) (so_far.growth w) left
            (λ e. absurd (omega (arith, e, stopped.2))) (λ never. let bad : true ≡ false = sym stopped.3 ∙ never in cc);
      })

-- none is made, since none may be
pub grows_limited : (may_refuse quiet : Bool) (scenario : Scenario) (breakpoints : List Breakpoint) (more n : ℕ) (text : List ℕ) → 0 < more
    → n ≡ step_limit → Grown may_refuse false (heard quiet (history scenario)) breakpoints more n Limit n text text
grows_limited may_refuse quiet scenario breakpoints more n text some there = grown-limit (more - 1) growing-none (omega arith) there

pub grows_refused : (may_refuse quiet : Bool) (scenario : Scenario) (breakpoints : List Breakpoint) (more n : ℕ) (text : List ℕ) → 0 < more
    → n < step_limit → may_refuse ≡ true → Grown may_refuse false (heard quiet (history scenario)) breakpoints more n NoMemory n text text
grows_refused may_refuse quiet scenario breakpoints more n text some below may = grown-refused (more - 1) growing-none (omega arith)
    (λ e. absurd (omega (arith, e))) (λ never. let bad : true ≡ false = sym may ∙ never in cc)

-- the teller of new steps
abbrev pub seen : {W B : Type 0} → (W → List ℕ) → (W → ℕ) → Teller W B → Telling
seen written failures t = record { tail = t.tail.now; text = written t.out.now; failures = failures t.out.now }

abbrev pub Sees : {W B : Type 0} → Bool → (W → List ℕ) → (W → List ℕ) → (W → ℕ) → (B → List Breakpoint) → Teller W B → Scenario → State
    → Bool → Teller W B → Type 0
Sees told written handed_on failures breakpoints old scenario state ended new =
    (new.tail.ghost_name ≡ old.tail.ghost_name) × (new.out.ghost_name ≡ old.out.ghost_name) × (new.breaks ≡ old.breaks)
    × (new.quiet ≡ old.quiet) × Tells told old.quiet (hit_by (breakpoints old.breaks.now) true scenario state) (next scenario state).1 ended new.hit (seen written failures old)
    (seen written failures new)
    × HandsOn told ended old.until_flush.left new.until_flush.left (handed_on new.out.now) (written new.out.now)

-- what no step changes
same_for : {T X : Type 0} (sees : T → Scenario → State → Bool → T → Type 0) (name : T → X)
    → ((w : T) (p : Scenario) (s : State) (b : Bool) (w' : T) → sees w p s b w' → name w' ≡ name w)
    → (scenario : Scenario) (n m : ℕ) (ended : Bool) (old new : T) → WalkedFor sees scenario n m ended old new → name new ≡ name old
same_for sees name keeps scenario n zero ended old new walked = ap name walked.1
same_for sees name keeps scenario n (suc m) ended old new (between, early, late) =
    keeps between scenario (run scenario (n + m)) ended new late ∙ same_for sees name keeps scenario n m false old between early

-- what is left of it, and how its steps end
pub teller_ended : {W B : Type 0} (told may_refuse : Bool) (written handed_on : W → List ℕ) (failures : W → ℕ)
    (breakpoints : B → List Breakpoint) (scenario : Scenario) (more n high : ℕ) (is : Stop) (old new : Teller W B)
    (result : Result Ending WriteFailed)
    → high ≤ step_limit → HasStopped may_refuse n more high is → old.tail.now ≡ tally_of (outs scenario n)
    → Walked (Sees told written handed_on failures breakpoints) scenario n high (is_by_watcher is) old new → EndsAs is new.hit result
    → (new.tail.ghost_name ≡ old.tail.ghost_name) × (new.out.ghost_name ≡ old.out.ghost_name)
    × HasEnded told may_refuse old.quiet scenario (breakpoints old.breaks.now) more n high (seen written failures old) (seen written failures new)
    result
teller_ended told may_refuse written handed_on failures breakpoints scenario more n high is old new result within stopped tail
    (m, reached, walked) ends =
    let sees = Sees told written handed_on failures breakpoints in (
      same_for sees (λ (w : Teller _ _). w.tail.ghost_name) (λ w p s b w' k. k.0) scenario n m (is_by_watcher is) old new walked,
      same_for sees (λ (w : Teller _ _). w.out.ghost_name) (λ w p s b w' k. k.1) scenario n m (is_by_watcher is) old new walked,
      rw reached (has_ended told may_refuse sees (seen written failures) (λ (w : Teller _ _). breakpoints w.breaks.now)
          (λ (w : Teller _ _). w.quiet) (λ (w : Teller _ _). w.hit) (λ w p s b w' k. ap (λ r. breakpoints r.now) k.2) (λ w p s b w' k. k.3)
          (λ w p s b w' k. k.4) scenario more n is m old new new.hit result (rw reached at within) (rw reached at stopped) tail walked refl ends),
    )

-- of a teller that was told nothing
pub told_nothing : {W B : Type 0} (old new : Teller W B) → new ≡ old
    → (old.out.ghost_name ≡ new.out.ghost_name) × (new.out.now ≡ old.out.now)
told_nothing old new same = (sym (ap (λ (w : Teller _ _). w.out.ghost_name) same), ap (λ (w : Teller _ _). w.out.now) same)
