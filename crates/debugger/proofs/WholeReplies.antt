-- Requests whose whole reply is written at once.
use Rattle.std.proofs.Common.{◌≡◌, Bool, List, [], ◌++◌, ℕ, Option, Result, Ok, Err, sym, ap, ◌∙◌, append-nil}
use Rattle.words.specs.Devices.{Writes}
use Rattle.words.specs.declared.device.WriteFailed.{WriteFailed}
use Rattle.commands.specs.declared.command.ParsedLine.{ParsedLine}
use Rattle.commands.specs.declared.extended.ExtendedLine.{ExtendedLine}
use Rattle.debugger.specs.Terms.{Terms}
use Rattle.debugger.specs.Conversation.{to_asked}
use Rattle.debugger.specs.Replies.{Desk, Reply, says}
use Rattle.debugger.specs.Executions.{awaiting, answered, to_request, BringsIn, BringsAdding, BringsAsked, Replies, Executes}
use Rattle.debugger.specs.declared.manner.Manner.{Manner}

-- the reply was written, or a beginning of it
pub replies-text : (may_refuse : Bool) (reply : Desk → Reply) (from to : Desk) (old new text bytes : List ℕ)
    (result : Result (Unit {0}) WriteFailed)
    → ((answers : List Bool) (additions : List (Option ℕ))
    → reply (awaiting from answers additions) ≡ says text (awaiting to answers additions)) → bytes ≡ text → Writes old new bytes result
    → Replies may_refuse reply from to old new result
replies-text may_refuse reply from to old new text bytes (Ok x) brings e w = record
    { answers = []; additions = []; granted = λ _. tt; text = text; brings = brings; written = rw e at w }
replies-text may_refuse reply from to old new text bytes (Err failed) brings e w =
    record { answers = []; additions = []; granted = λ _. tt; part = rw (ap (λ (r : Reply). r.text) (brings [] []), ← e) w }

-- to a request
pub executes-text : (m : Manner) (may_refuse : Bool) (from to : Desk) (asked request : ParsedLine) (old new text bytes : List ℕ)
    (result : Result (Unit {0}) WriteFailed)
    → asked ≡ request → BringsIn m from request text to → bytes ≡ text → Writes old new bytes result
    → Executes m may_refuse from asked to old new result
executes-text m may_refuse from to asked request old new text bytes result is brings e w = rw is
    (replies-text may_refuse (to_request m request) from to old new text bytes result brings e w)

-- to what an extended session is asked for
pub asked-text : (may_refuse : Bool) (terms : Terms) (from to : Desk) (asked request : ExtendedLine) (old new text bytes : List ℕ)
    (result : Result (Unit {0}) WriteFailed)
    → asked ≡ request → BringsAsked from request text to → bytes ≡ text → Writes old new bytes result
    → Replies may_refuse (to_asked terms asked) from to old new result
asked-text may_refuse terms from to asked request old new text bytes result is brings e w = rw is
    (replies-text may_refuse (to_asked terms request) from to old new text bytes result (brings terms) e w)

-- the reply to a request that may add an input
pub executes-adding : (m : Manner) (may_refuse : Bool) (from to : Desk) (asked request : ParsedLine) (old new text bytes : List ℕ)
    (result : Result (Unit {0}) WriteFailed)
    → asked ≡ request → BringsAdding from request text to → bytes ≡ text → Writes old new bytes result
    → Executes m may_refuse from asked to old new result
executes-adding m may_refuse from to asked request old new text bytes (Ok x) is b e w =
    rw is (record {
      answers = [];
      additions = b.additions;
      granted = λ _. tt;
      text = text;
      brings = λ rest later. b.brings m rest later;
      written = rw e at w;
    })
executes-adding m may_refuse from to asked request old new text bytes (Err failed) is b e w =
    let whole : (answered m from request [] b.additions).text ≡ text =
    ap (λ (l : List (Option ℕ)). (answered m from request [] l).text) (sym (append-nil b.additions))
    ∙ ap (λ (r : Reply). r.text) (b.brings m [] []) in
    rw is (record { answers = []; additions = b.additions; granted = λ _. tt; part = rw (whole, ← e) w })

-- there is nothing to reply
pub executes-nothing : (m : Manner) (may_refuse : Bool) (from : Desk) (asked request : ParsedLine) (old : List ℕ) → asked ≡ request
    → BringsIn m from request [] from → Executes m may_refuse from asked from old old (Ok tt)
executes-nothing m may_refuse from asked request old is brings =
    rw is (record { answers = []; additions = []; granted = λ _. tt; text = []; brings = brings; written = sym (append-nil old) })

-- what brings the same is replied the same
pub replies-same : (may_refuse : Bool) (reply other : Desk → Reply) (from to : Desk) (old new : List ℕ)
    (result : Result (Unit {0}) WriteFailed)
    → ((answers : List Bool) (additions : List (Option ℕ))
    → reply (awaiting from answers additions) ≡ other (awaiting from answers additions))
    → Replies may_refuse other from to old new result → Replies may_refuse reply from to old new result
replies-same may_refuse reply other from to old new (Ok x) same r =
    record {
      answers = r.answers;
      additions = r.additions;
      granted = r.granted;
      text = r.text;
      brings = λ rest later. same
          (r.answers ++ rest) (r.additions ++ later) ∙ r.brings rest later;
      written = r.written;
    }
replies-same may_refuse reply other from to old new (Err failed) same b =
    record { answers = b.answers; additions = b.additions; granted = b.granted; part = rw (same b.answers b.additions) b.part }
