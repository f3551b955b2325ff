-- Replies to `whatif`.
use Rattle.std.specs.Prelude.{codes}
use Rattle.std.proofs.Common.{◌≡◌, ℕ, ◌+◌, ◌<◌, ◌≤◌, List, [], ◌∷◌, Bool, true, false, ltb, cond, Option, None, Some, Result, Ok}
use Rattle.std.proofs.Common.{Err, filter, length, map, refl, sym, ap, ◌∙◌, arith}
use Rattle.std.proofs.lemmas.Bool.Decides.{nat_tests}
use Rattle.std.proofs.lemmas.List.{length-map}
use Rattle.words.specs.Devices.{Writes}
use Rattle.words.specs.declared.device.WriteFailed.{WriteFailed}
use Rattle.feed.specs.CountsTaken.{is_from}
use Rattle.feed.specs.Merged.{plain_entry}
use Rattle.feed.specs.declared.entry.Plain.{Plain}
use Rattle.commands.specs.declared.whatif.Extent.{Extent}
use Rattle.commands.specs.declared.whatif.Extent.TheVariants.{Here, Each}
use Rattle.commands.specs.declared.whatif.Trial.{Trial}
use Rattle.commands.specs.declared.whatif.Trial.TheVariants.{Given, Restart, Noted}
use Rattle.yayul.specs.Program.{Program}
use Rattle.commands.specs.declared.command.Breakpoint.{Breakpoint}
use Rattle.cpu.specs.Additions.{plain_inputs}
use Rattle.cpu.specs.State.{Scenario}
use Rattle.replay.specs.Memory.{step_limit}
use Rattle.replay.specs.View.{HasShown, SessionView}
use Rattle.debugger.specs.Executions.{Replies, awaiting, desk}
use Rattle.debugger.specs.Replies.{Desk, Reply, addition_to_come, line, refuses, says}
use Rattle.debugger.specs.WhatIfs.{begins_at, is_full, tried_by, tries, tries_from, whatif_text}
use Rattle.debugger.proofs.WholeReplies.{replies-text}

-- a reply of one call that takes memory was written, or a beginning of it
pub replies_trying : (may_refuse : Bool) (reply : Desk → Reply) (from to : Desk) (addition : Option ℕ) (old new text bytes : List ℕ)
    (result : Result (Unit {0}) WriteFailed)
    → ((answers : List Bool) (additions : List (Option ℕ))
    → reply (awaiting from answers (addition ∷ additions)) ≡ says text (awaiting to answers additions)) → bytes ≡ text
    → Writes old new bytes result
    → Replies may_refuse reply from to old new result
replies_trying may_refuse reply from to addition old new text bytes (Ok x) brings e w =
    record { answers = []; additions = addition ∷ []; granted = λ _. tt; text = text; brings = brings; written = rw e at w }
replies_trying may_refuse reply from to addition old new text bytes (Err failed) brings e w =
    record { answers = []; additions = addition ∷ []; granted = λ _. tt; part = rw (ap (λ (r : Reply). r.text) (brings [] []), ← e) w }

-- a session that has shown a step stands where it stood
pub still_there : (old new : SessionView) (t position : ℕ) (breakpoints : List Breakpoint) (quiet : Bool) → HasShown old t new
    → desk new position breakpoints quiet ≡ desk old position breakpoints quiet
still_there old new t position breakpoints quiet shown = rw shown.same refl

pub not_yet : (may_refuse : Bool) (d : Desk) (program : Program) (trial : Trial) (k first more : ℕ) (old new bytes : List ℕ)
    (result : Result (Unit {0}) WriteFailed) → d.steps < first + more
    → bytes ≡ line (codes "E41 NOT YET") → Writes old new bytes result
    → Replies may_refuse (tries_from program trial k first more) d d old new result
not_yet may_refuse d program trial k first more old new bytes result late e w =
    let is : ltb d.steps (first + more) ≡ true = grind (arith, nat_tests, late) in
    replies-text may_refuse (tries_from program trial k first more) d d old new (line (codes "E41 NOT YET")) bytes result
    (λ answers additions. rw is refl) e w

pub limited : (may_refuse : Bool) (d : Desk) (program : Program) (trial : Trial) (k first more : ℕ) (old new bytes : List ℕ)
    (result : Result (Unit {0}) WriteFailed) → first + more ≤ d.steps → step_limit < first + more + k
    → bytes ≡ line (codes "E40 LIMIT") → Writes old new bytes result → Replies may_refuse (tries_from program trial k first more) d d old new result
limited may_refuse d program trial k first more old new bytes result made past e w =
    let stands : ltb d.steps (first + more) ≡ false = grind (arith, nat_tests, made) in
    let is : ltb step_limit (first + more + k) ≡ true = grind (arith, nat_tests, past) in
    replies-text may_refuse (tries_from program trial k first more) d d old new (line (codes "E40 LIMIT")) bytes result
    (λ answers additions. rw (stands, is) refl) e w

pub crowded : (may_refuse : Bool) (d : Desk) (program : Program) (trial : Trial) (k first more : ℕ) (old new bytes : List ℕ)
    (result : Result (Unit {0}) WriteFailed) → first + more ≤ d.steps
    → first + more + k ≤ step_limit → is_full trial d.scenario ≡ true
    → bytes ≡ line (codes "E32 TOO MANY") → Writes old new bytes result
    → Replies may_refuse (tries_from program trial k first more) d d old new result
crowded may_refuse d program trial k first more old new bytes result made within many e w =
    let stands : ltb d.steps (first + more) ≡ false = grind (arith, nat_tests, made) in
    let is : ltb step_limit (first + more + k) ≡ false = grind (arith, nat_tests, within) in
    replies-text may_refuse (tries_from program trial k first more) d d old new (line (codes "E32 TOO MANY")) bytes result
    (λ answers additions. rw (stands, is, many) refl) e w

pub forgotten : (may_refuse : Bool) (d to : Desk) (program : Program) (trial : Trial) (k first more : ℕ) (old new bytes : List ℕ)
    (result : Result (Unit {0}) WriteFailed) → to ≡ d → first + more ≤ d.steps
    → first + more + k ≤ step_limit → is_full trial d.scenario ≡ false
    → bytes ≡ line (codes "E2 MEMORY") → Writes old new bytes result
    → Replies may_refuse (tries_from program trial k first more) d to old new result
forgotten may_refuse d to program trial k first more old new bytes result still made within few e w =
    let stands : ltb d.steps (first + more) ≡ false = grind (arith, nat_tests, made) in
    let is : ltb step_limit (first + more + k) ≡ false = grind (arith, nat_tests, within) in
    rw still (replies_trying may_refuse (tries_from program trial k first more) d d None old new (line (codes "E2 MEMORY")) bytes result
    (λ answers additions. rw (stands, is, few) refl) e w)

pub told_whole : (may_refuse : Bool) (d to : Desk) (program : Program) (trial : Trial) (k first more : ℕ) (old new bytes : List ℕ)
    (result : Result (Unit {0}) WriteFailed) → to ≡ d → first + more ≤ d.steps
    → first + more + k ≤ step_limit → is_full trial d.scenario ≡ false
    → bytes ≡ whatif_text program d.scenario first more trial k → Writes old new bytes result
    → Replies may_refuse (tries_from program trial k first more) d to old new result
told_whole may_refuse d to program trial k first more old new bytes result still made within few e w =
    let stands : ltb d.steps (first + more) ≡ false = grind (arith, nat_tests, made) in
    let is : ltb step_limit (first + more + k) ≡ false = grind (arith, nat_tests, within) in
    rw still (replies_trying may_refuse (tries_from program trial k first more) d d (Some 0) old new (whatif_text program d.scenario first more trial k)
    bytes result (λ answers additions. rw (stands, is, few) refl) e w)

-- what is looked at begins no later than the trials
pub begins_early : (trial : Trial) (first : ℕ) → begins_at trial first ≤ first
begins_early (Given input) first = omega arith
begins_early Restart first = omega arith
begins_early (Noted None input) first = omega arith
begins_early (Noted (Some since) input) first = omega arith

-- how many inputs are plain
pub counted_plain : (scenario : Scenario) (plain : List Plain) → map plain_entry plain ≡ filter (is_from None) scenario.inputs
    → plain_inputs scenario ≡ length plain
counted_plain scenario plain are = ap length (sym are) ∙ length-map plain plain_entry

-- what runs stays as it is, and so do the steps that were made
pub tried_keeps : (o : Option ℕ) (d : Desk) (text : List ℕ) → (tried_by o d text).desk.scenario ≡ d.scenario
tried_keeps None d text = refl
tried_keeps (Some l) d text = refl

pub tried_stays : (o : Option ℕ) (d : Desk) (text : List ℕ) → (tried_by o d text).desk.steps ≡ d.steps
tried_stays None d text = refl
tried_stays (Some l) d text = refl

either_keeps : {X : Type 0} (of : Reply → X) (x : X) (b : Bool) (r s : Reply) → of r ≡ x → of s ≡ x → of (cond b r s) ≡ x
either_keeps of x true r s p q = p
either_keeps of x false r s p q = q

from_keeps : {X : Type 0} (of : Reply → X) (x : X) (program : Program) (trial : Trial) (k first more : ℕ) (d : Desk)
    → ((text : List ℕ) → of (refuses d text) ≡ x)
    → of (tried_by (addition_to_come d.additions) d (whatif_text program d.scenario first more trial k)) ≡ x
    → of (tries_from program trial k first more d) ≡ x
from_keeps of x program trial k first more d refused tried =
    let told = tried_by (addition_to_come d.additions) d (whatif_text program d.scenario first more trial k) in
    let room = is_full trial d.scenario in
    let limit = ltb step_limit (first + more + k) in
    either_keeps of x (ltb d.steps (first + more)) (refuses d (codes "E41 NOT YET"))
    (cond limit (refuses d (codes "E40 LIMIT")) (cond room (refuses d (codes "E32 TOO MANY")) told)) (refused (codes "E41 NOT YET"))
    (either_keeps of x limit (refuses d (codes "E40 LIMIT")) (cond room (refuses d (codes "E32 TOO MANY")) told)
    (refused (codes "E40 LIMIT"))
    (either_keeps of x room (refuses d (codes "E32 TOO MANY")) told (refused (codes "E32 TOO MANY")) tried))

from_keeps_scenario : (program : Program) (trial : Trial) (k first more : ℕ) (d : Desk) → (tries_from program trial k first more d).desk.scenario ≡ d.scenario
from_keeps_scenario program trial k first more d =
    from_keeps (λ (r : Reply). r.desk.scenario) d.scenario program trial k first more d (λ text. refl)
    (tried_keeps (addition_to_come d.additions) d (whatif_text program d.scenario first more trial k))

from_keeps_steps : (program : Program) (trial : Trial) (k first more : ℕ) (d : Desk) → (tries_from program trial k first more d).desk.steps ≡ d.steps
from_keeps_steps program trial k first more d =
    from_keeps (λ (r : Reply). r.desk.steps) d.steps program trial k first more d (λ text. refl)
    (tried_stays (addition_to_come d.additions) d (whatif_text program d.scenario first more trial k))

pub keeps_scenario : (program : Program) (trial : Trial) (extent : Extent) (d : Desk) → (tries program trial extent d).desk.scenario ≡ d.scenario
keeps_scenario program trial (Here k) d = from_keeps_scenario program trial k d.position 0 d
keeps_scenario program trial (Each k first more) d = from_keeps_scenario program trial k first more d

pub keeps_steps : (program : Program) (trial : Trial) (extent : Extent) (d : Desk) → (tries program trial extent d).desk.steps ≡ d.steps
keeps_steps program trial (Here k) d = from_keeps_steps program trial k d.position 0 d
keeps_steps program trial (Each k first more) d = from_keeps_steps program trial k first more d

-- and whether outputs are counted
pub tried_hushed : (o : Option ℕ) (d : Desk) (text : List ℕ) → (tried_by o d text).desk.quiet ≡ d.quiet
tried_hushed None d text = refl
tried_hushed (Some l) d text = refl

from_keeps_quiet : (program : Program) (trial : Trial) (k first more : ℕ) (d : Desk) → (tries_from program trial k first more d).desk.quiet ≡ d.quiet
from_keeps_quiet program trial k first more d =
    from_keeps (λ (r : Reply). r.desk.quiet) d.quiet program trial k first more d (λ text. refl)
    (tried_hushed (addition_to_come d.additions) d (whatif_text program d.scenario first more trial k))

pub keeps_quiet : (program : Program) (trial : Trial) (extent : Extent) (d : Desk) → (tries program trial extent d).desk.quiet ≡ d.quiet
keeps_quiet program trial (Here k) d = from_keeps_quiet program trial k d.position 0 d
keeps_quiet program trial (Each k first more) d = from_keeps_quiet program trial k first more d
