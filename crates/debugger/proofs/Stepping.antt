-- Commands that make new steps.
use Rattle.std.proofs.Common.{◌≡◌, ℕ, zero, suc, ◌+◌, ◌==◌, cond, Bool, List, Option, [], ◌++◌, Result, Ok, Err, refl, ap, sym, ◌∙◌}
use Rattle.std.proofs.Common.{append-nil, ◌-◌, true, false, length}
use Rattle.std.specs.Option.{option_to_list}
use Rattle.words.specs.Devices.{Writes}
use Rattle.words.specs.declared.device.WriteFailed.{WriteFailed}
use Rattle.words.proofs.Texts.{append-then, beginning-after, beginning-longer}
use Rattle.commands.specs.declared.command.Breakpoint.{Breakpoint}
use Rattle.replay.specs.View.{SessionView}
use Rattle.cpu.specs.declared.output.Output.{Output}
use Rattle.debugger.specs.History.{History, history, in_manner, silent}
use Rattle.debugger.specs.declared.manner.Manner.{Manner}
use Rattle.debugger.specs.Growth.{Growth, grow, growth_told, counted, outputs_after, words_line, grown, with_line, output_line, unless_hit}
use Rattle.debugger.specs.Growth.{hit_at, is_refused, later}
use Rattle.replay.specs.Memory.{step_limit}
use Rattle.debugger.specs.Replies.{Desk, Reply, says, stands, after_text, after_growth, at_line_of}
use Rattle.debugger.specs.Executions.{Grown, GrowthBroken, desk, awaiting, ReplyBroken, Replies}
use Rattle.debugger.specs.declared.ending.Ending.{Ending}
use Rattle.debugger.specs.declared.ending.Ending.TheVariants.{NoMemory, Limit}

-- steps were made, and how they ended is told so
abbrev pub steps_told : History → Desk → (Ending → List ℕ) → Growth → ℕ → Reply
steps_told h d tell g position = after_text g.text (stands h (tell g.ending) (after_growth d g position))

-- how a run is told does not matter to its steps
pub grow_in : (m : Manner) (h : History) (tried : List Breakpoint) (more n : ℕ) (answers : List Bool)
    → grow (in_manner m h) tried more n answers ≡ grow h tried more n answers
unfolding grow
grow_in m h tried zero n answers = refl
grow_in m h tried (suc more) n answers =
    ap (λ (g : Growth).
    cond (n == step_limit) (grown n answers Limit)
    (cond (is_refused answers) (grown n (later answers) NoMemory)
    (with_line (output_line (h.output (n + 1))) (unless_hit (hit_at h tried (n + 1)) (n + 1) (later answers) g))))
    (grow_in m h tried more (n + 1) (later answers))

outputs_in : (m : Manner) (h : History) (n k : ℕ) → outputs_after (in_manner m h) n k ≡ outputs_after h n k
outputs_in m h n zero = refl
outputs_in m h n (suc k) = ap (λ (xs : List Output). option_to_list (h.output (n + 1)) ++ xs) (outputs_in m h (n + 1) k)

pub told_in : (quiet : Bool) (m : Manner) (h : History) (tried : List Breakpoint) (more n : ℕ) (answers : List Bool)
    → growth_told quiet (in_manner m h) tried more n answers ≡ growth_told quiet h tried more n answers
told_in false m h tried more n answers = grow_in m h tried more n answers
told_in true m h tried more n answers =
    let g = grow (silent (in_manner m h)) tried more n answers in
    ap (λ (xs : List Output). record g { text = words_line (length xs) }) (outputs_in m h n (g.steps - n))
    ∙ ap (counted h n) (grow_in m (silent h) tried more n answers)

-- a request makes up to so many steps, up to some breakpoints, and the position is told by how many there are then
abbrev pub MakesSteps : Manner → SessionView → ℕ → List Breakpoint → Bool → (Desk → Reply) → (Ending → List ℕ) → List Breakpoint → ℕ → (ℕ → ℕ)
    → Type 0
MakesSteps m s p bs quiet reply tell tried more place =
    (answers : List Bool) (additions : List (Option ℕ)) → reply (awaiting (desk s p bs quiet) answers additions)
    ≡ (let g = growth_told quiet (in_manner m (history s.scenario)) tried more s.n answers in steps_told (in_manner m (history s.scenario))
    (awaiting (desk s p bs quiet) answers additions) tell g (place g.steps))

-- the line of an output could not be written whole
pub steps-broken : (m : Manner) (may_refuse : Bool) (s : SessionView) (p : ℕ) (bs : List Breakpoint) (quiet : Bool) (reply : Desk → Reply)
    (tell : Ending → List ℕ) (tried : List Breakpoint) (more : ℕ) (place : ℕ → ℕ) (old new : List ℕ)
    → MakesSteps m s p bs quiet reply tell tried more place → GrowthBroken may_refuse quiet (history s.scenario) tried more s.n old new
    → ReplyBroken may_refuse reply (desk s p bs quiet) old new
steps-broken m may_refuse s p bs quiet reply tell tried more place old new makes b =
    let g = growth_told quiet (history s.scenario) tried more s.n b.answers in
    let after = tell g.ending ++ at_line_of m (place g.steps) ((history s.scenario).after (place g.steps)) in
    record {
      answers = b.answers;
      additions = [];
      granted = b.granted;
      part = rw (ap (λ (r : Reply). r.text) (makes b.answers []), told_in quiet m (history s.scenario) tried more s.n b.answers)
          (beginning-longer old new g.text after b.part);
    }

-- what a request brings that makes steps
brought : (m : Manner) (may_refuse : Bool) (s : SessionView) (p : ℕ) (bs : List Breakpoint) (quiet : Bool) (reply : Desk → Reply) (tell : Ending → List ℕ)
    (tried : List Breakpoint) (more : ℕ) (place : ℕ → ℕ) (t : SessionView) (q : ℕ) (ending : Ending) (old mid : List ℕ)
    → MakesSteps m s p bs quiet reply tell tried more place → t.scenario ≡ s.scenario → q ≡ place t.n
    → (g : Grown may_refuse quiet (history s.scenario) tried more s.n ending t.n old mid) (rest : List Bool) (later : List (Option ℕ))
    → reply (awaiting (desk s p bs quiet) (g.answers ++ rest) later)
    ≡ says (g.text ++ (tell ending ++ at_line_of m q ((history s.scenario).after q))) (awaiting (desk t q bs quiet) rest later)
brought m may_refuse s p bs quiet reply tell tried more place t q ending old mid makes same at g rest later =
    makes (g.answers ++ rest) later
    ∙ ap (λ (r : Growth). steps_told (in_manner m (history s.scenario)) (awaiting (desk s p bs quiet) (g.answers ++ rest) later) tell r
    (place r.steps)) (told_in quiet m (history s.scenario) tried more s.n (g.answers ++ rest) ∙ g.goes_on rest)
    ∙ rw (at, same) refl

-- how the steps ended was to be told
pub steps-told : (m : Manner) (may_refuse : Bool) (s : SessionView) (p : ℕ) (bs : List Breakpoint) (quiet : Bool) (reply : Desk → Reply)
    (tell : Ending → List ℕ) (tried : List Breakpoint) (more : ℕ) (place : ℕ → ℕ) (t : SessionView) (q : ℕ) (ending : Ending)
    (old mid new : List ℕ) (result : Result (Unit {0}) WriteFailed)
    → MakesSteps m s p bs quiet reply tell tried more place → t.scenario ≡ s.scenario → q ≡ place t.n
    → Grown may_refuse quiet (history s.scenario) tried more s.n ending t.n old mid
    → Writes mid new (tell ending ++ at_line_of m q ((history s.scenario).after q)) result
    → Replies may_refuse reply (desk s p bs quiet) (desk t q bs quiet) old new result
steps-told m may_refuse s p bs quiet reply tell tried more place t q ending old mid new (Ok x) makes same at g w =
    let end = tell ending ++ at_line_of m q ((history s.scenario).after q) in
    record {
      answers = g.answers;
      additions = [];
      granted = g.granted;
      text = g.text ++ end;
      brings = brought m may_refuse s p bs quiet reply tell tried more place t q ending old mid makes same at g;
      written = append-then old mid new g.text end g.written w;
    }
steps-told m may_refuse s p bs quiet reply tell tried more place t q ending old mid new (Err failed) makes same at g w =
    let end = tell ending ++ at_line_of m q ((history s.scenario).after q) in
    let whole : (reply (awaiting (desk s p bs quiet) g.answers [])).text ≡ g.text ++ end =
    ap (λ (answers : List Bool). (reply (awaiting (desk s p bs quiet) answers [])).text) (sym (append-nil g.answers))
    ∙ ap (λ (r : Reply). r.text) (brought m may_refuse s p bs quiet reply tell tried more place t q ending old mid makes same at g [] []) in
    record {
      answers = g.answers;
      additions = [];
      granted = g.granted;
      part = rw whole
          (beginning-after old mid new g.text end g.written w);
    }
