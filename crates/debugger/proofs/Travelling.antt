-- Commands that make new steps, and tell of them by where these ended.
use Rattle.std.proofs.Common.{◌≡◌, ℕ, Bool, List, Option, [], ◌++◌, Result, Ok, Err, refl, ap, sym, ◌∙◌, append-nil}
use Rattle.words.specs.Devices.{Writes}
use Rattle.words.specs.declared.device.WriteFailed.{WriteFailed}
use Rattle.words.proofs.Texts.{append-then, beginning-after, beginning-longer}
use Rattle.commands.specs.declared.command.Breakpoint.{Breakpoint}
use Rattle.replay.specs.View.{SessionView}
use Rattle.debugger.specs.History.{History, history, in_manner}
use Rattle.debugger.specs.declared.manner.Manner.{Manner}
use Rattle.debugger.specs.Growth.{Growth, growth_told}
use Rattle.debugger.specs.Replies.{Desk, Reply, says, stands, after_text, after_growth, at_line_of}
use Rattle.debugger.specs.Executions.{Grown, GrowthBroken, desk, awaiting, ReplyBroken, Replies}
use Rattle.debugger.specs.declared.ending.Ending.{Ending}
use Rattle.debugger.proofs.Stepping.{told_in}

-- steps were made, and how and where they ended is told so
abbrev pub way_told : History → Desk → (Ending → ℕ → List ℕ) → Growth → ℕ → Reply
way_told h d tell g place = after_text g.text (stands h (tell g.ending place) (after_growth d g place))

-- a request makes up to so many steps, up to some breakpoints, and the position is told by how many there are then
abbrev pub MakesWay : Manner → SessionView → ℕ → List Breakpoint → Bool → (Desk → Reply) → (Ending → ℕ → List ℕ) → List Breakpoint → ℕ → (ℕ → ℕ)
    → Type 0
MakesWay m s p bs quiet reply tell tried more place =
    (answers : List Bool) (additions : List (Option ℕ)) → reply (awaiting (desk s p bs quiet) answers additions)
    ≡ (let g = growth_told quiet (in_manner m (history s.scenario)) tried more s.n answers in way_told (in_manner m (history s.scenario))
    (awaiting (desk s p bs quiet) answers additions) tell g (place g.steps))

-- the line of an output could not be written whole
pub way-broken : (m : Manner) (may_refuse : Bool) (s : SessionView) (p : ℕ) (bs : List Breakpoint) (quiet : Bool) (reply : Desk → Reply)
    (tell : Ending → ℕ → List ℕ) (tried : List Breakpoint) (more : ℕ) (place : ℕ → ℕ) (old new : List ℕ)
    → MakesWay m s p bs quiet reply tell tried more place → GrowthBroken may_refuse quiet (history s.scenario) tried more s.n old new
    → ReplyBroken may_refuse reply (desk s p bs quiet) old new
way-broken m may_refuse s p bs quiet reply tell tried more place old new makes b =
    let g = growth_told quiet (history s.scenario) tried more s.n b.answers in
    let after = tell g.ending (place g.steps) ++ at_line_of m (place g.steps) ((history s.scenario).after (place g.steps)) in
    record {
      answers = b.answers;
      additions = [];
      granted = b.granted;
      part = rw (ap (λ (r : Reply). r.text) (makes b.answers []), told_in quiet m (history s.scenario) tried more s.n b.answers)
          (beginning-longer old new g.text after b.part);
    }

-- what a request brings that makes steps
brought : (m : Manner) (may_refuse : Bool) (s : SessionView) (p : ℕ) (bs : List Breakpoint) (quiet : Bool) (reply : Desk → Reply)
    (tell : Ending → ℕ → List ℕ) (tried : List Breakpoint) (more : ℕ) (place : ℕ → ℕ) (t : SessionView) (q : ℕ) (ending : Ending)
    (old mid : List ℕ)
    → MakesWay m s p bs quiet reply tell tried more place → t.scenario ≡ s.scenario → q ≡ place t.n
    → (g : Grown may_refuse quiet (history s.scenario) tried more s.n ending t.n old mid) (rest : List Bool) (later : List (Option ℕ))
    → reply (awaiting (desk s p bs quiet) (g.answers ++ rest) later)
    ≡ says (g.text ++ (tell ending q ++ at_line_of m q ((history s.scenario).after q))) (awaiting (desk t q bs quiet) rest later)
brought m may_refuse s p bs quiet reply tell tried more place t q ending old mid makes same at g rest later =
    makes (g.answers ++ rest) later
    ∙ ap (λ (r : Growth). way_told (in_manner m (history s.scenario)) (awaiting (desk s p bs quiet) (g.answers ++ rest) later) tell r
    (place r.steps)) (told_in quiet m (history s.scenario) tried more s.n (g.answers ++ rest) ∙ g.goes_on rest)
    ∙ rw (at, same) refl

-- how the steps ended was to be told
pub way-told : (m : Manner) (may_refuse : Bool) (s : SessionView) (p : ℕ) (bs : List Breakpoint) (quiet : Bool) (reply : Desk → Reply)
    (tell : Ending → ℕ → List ℕ) (tried : List Breakpoint) (more : ℕ) (place : ℕ → ℕ) (t : SessionView) (q : ℕ) (ending : Ending)
    (old mid new : List ℕ) (result : Result (Unit {0}) WriteFailed)
    → MakesWay m s p bs quiet reply tell tried more place → t.scenario ≡ s.scenario → q ≡ place t.n
    → Grown may_refuse quiet (history s.scenario) tried more s.n ending t.n old mid
    → Writes mid new (tell ending q ++ at_line_of m q ((history s.scenario).after q)) result
    → Replies may_refuse reply (desk s p bs quiet) (desk t q bs quiet) old new result
way-told m may_refuse s p bs quiet reply tell tried more place t q ending old mid new (Ok x) makes same at g w =
    let end = tell ending q ++ at_line_of m q ((history s.scenario).after q) in
    record {
      answers = g.answers;
      additions = [];
      granted = g.granted;
      text = g.text ++ end;
      brings = brought m may_refuse s p bs quiet reply tell tried more place t q ending old mid makes same at g;
      written = append-then old mid new g.text end g.written w;
    }
way-told m may_refuse s p bs quiet reply tell tried more place t q ending old mid new (Err failed) makes same at g w =
    let end = tell ending q ++ at_line_of m q ((history s.scenario).after q) in
    let whole : (reply (awaiting (desk s p bs quiet) g.answers [])).text ≡ g.text ++ end =
    ap (λ (answers : List Bool). (reply (awaiting (desk s p bs quiet) answers [])).text) (sym (append-nil g.answers))
    ∙ ap (λ (r : Reply). r.text) (brought m may_refuse s p bs quiet reply tell tried more place t q ending old mid makes same at g [] []) in
    record {
      answers = g.answers;
      additions = [];
      granted = g.granted;
      part = rw whole
          (beginning-after old mid new g.text end g.written w);
    }
