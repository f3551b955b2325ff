-- Steps that a stepper made, joined, and told to a watcher.
use Rattle.std.proofs.Common.{◌≡◌, ℕ, zero, suc, ◌+◌, Bool, false, Option, Result, Ok, Err, IfOk, refl, ap, ◌∙◌, arith}
use Rattle.cpu.specs.State.{State, Scenario}
use Rattle.cpu.specs.declared.output.Output.{Output}
use Rattle.cpu.specs.Next.{next}
use Rattle.cpu.specs.Run.{run}
use Rattle.cpu.proofs.RunLaws.{run-add-one, out-add-one}
use Rattle.replay.specs.Walked.{Walked, WalkedFor}
use Rattle.replay.specs.Watched.{Watched, WatchedFor}
use Rattle.replay.specs.declared.watching.Watching.{Watching}

-- no step
pub walked_none : {S : Type 0} (sees : S → Scenario → State → Bool → S → Type 0) (scenario : Scenario) (low : ℕ) (stepper : S)
    → Walked sees scenario low low false stepper stepper
walked_none sees scenario low stepper = (0, omega arith, (refl, refl))

-- a step more
pub walked_more : {S : Type 0} (sees : S → Scenario → State → Bool → S → Type 0) (scenario : Scenario) (low at : ℕ) (ended : Bool)
    (old between new : S) (machine : State)
    → Walked sees scenario low at false old between → machine ≡ run scenario at → sees between scenario machine ended new
    → Walked sees scenario low (at + 1) ended old new
walked_more sees scenario low at ended old between new machine (m, is, early) is_run late =
    let e : low + m ≡ at = omega arith in
    (suc m, omega arith, (between, early, rw e (rw (← is_run) late)))

-- steps after steps
pub walked_joined : {S : Type 0} (sees : S → Scenario → State → Bool → S → Type 0) (scenario : Scenario) (low middle high : ℕ)
    (ended : Bool) (old between new : S)
    → Walked sees scenario low middle false old between → Walked sees scenario middle high ended between new
    → Walked sees scenario low high ended old new
walked_joined sees scenario low middle high ended old between new (m, is, early) (zero, is_too, late) = rw (late.0, late.1)
    (m, omega arith, early)
walked_joined sees scenario low middle high ended old between new (m, is, early) (suc k, is_too, (b, before, last)) =
    let rest : Walked sees scenario low (middle + k) false old b = walked_joined sees scenario low middle (middle + k) false old between b
    (m, is, early) (k, refl, before) in
    let e : middle + k + 1 ≡ high = omega arith in
    rw e at (walked_more sees scenario low (middle + k) ended old b new (run scenario (middle + k)) rest refl last)

-- what tells a watcher of each step
abbrev pub Tells : {W : Type 0} → (W → Option Output → State → Bool → W → Type 0) → Watching W → Scenario → State → Bool → Watching W
    → Type 0
Tells sees old scenario state ended new = (new.watcher.ghost_name ≡ old.watcher.ghost_name)
    × sees old.watcher.now (next scenario state).1 (next scenario state).0 ended new.watcher.now

watched_for : {W : Type 0} (sees : W → Option Output → State → Bool → W → Type 0) (scenario : Scenario) (low m : ℕ) (ended : Bool)
    (old new : Watching W) → WalkedFor (Tells sees) scenario low m ended old new
    → (new.watcher.ghost_name ≡ old.watcher.ghost_name) × WatchedFor sees scenario low m ended old.watcher.now new.watcher.now
watched_for sees scenario low zero ended old new h
    = (ap (λ (w : Watching _). w.watcher.ghost_name) h.1, (h.0, ap (λ (w : Watching _). w.watcher.now) h.1))
watched_for sees scenario low (suc m) ended old new (between, early, late) =
    let before = watched_for sees scenario low m false old between early in
    (late.0 ∙ before.0, (between.watcher.now, before.1, rw (out-add-one scenario (low + m), run-add-one scenario (low + m)) late.1))

pub watched_by : {W : Type 0} (sees : W → Option Output → State → Bool → W → Type 0) (scenario : Scenario) (low high : ℕ) (ended : Bool)
    (old new : Watching W) → Walked (Tells sees) scenario low high ended old new
    → (new.watcher.ghost_name ≡ old.watcher.ghost_name) × Watched sees scenario low high ended old.watcher.now new.watcher.now
watched_by sees scenario low high ended old new (m, is, walked) =
    let both = watched_for sees scenario low m ended old new walked in
    (both.0, (m, is, both.1))

-- what is so where a call went well, as it follows from what it says then
pub if_ok : {X E : Type 0} (result : Result X E) (P Q : X → Type 0) → ((x : X) → P x → Q x) → IfOk result P → IfOk result Q
if_ok (Ok x) P Q then h = then x h
if_ok (Err e) P Q then h = tt
