-- A session without the further commands, as a conversation.
use Rattle.std.proofs.Common.{◌≡◌, ℕ, ◌*◌, length, arith, List, [], ◌∷◌, ◌++◌, cond, Result, Ok, Err, refl, ap, ◌∙◌}
use Rattle.agc_text.specs.Lines.{ended_lines}
use Rattle.symbols.specs.Values.{SymbolTable}
use Rattle.replay.specs.View.{SessionView}
use Rattle.debugger.specs.Terms.{Terms, terms_of}
use Rattle.debugger.proofs.LineByLine.{WritesTo}
use Rattle.yayul.specs.PlaceRows.{no_source}
use Rattle.commands.specs.Commands.{parsed_line}
use Rattle.debugger.specs.declared.manner.Manner.TheVariants as manner
use Rattle.debugger.specs.ExtendedReplies.{extended_reply}
use Rattle.debugger.specs.Replies.{Desk}
use Rattle.debugger.specs.Transcript.{ends, line_reply, replies, first_desk, desk_at_end, command_lines, lines_read, most_command_bytes}
use Rattle.debugger.specs.Sessions.{Setting, Commands, WritesReplies, StandsAt, replies_lead_to, DebugsTo}
use Rattle.debugger.specs.Conversation.{reading, conversation, last_desk, efforts, lines_heard, lines_within, Talk, TalksTo}
use Rattle.debugger.specs.declared.fault.DebugFault.{DebugFault}
use Rattle.debugger.specs.declared.fault.DebugFault.TheVariants.{NoMemory, ReadFailed, WriteFailed}

same-replies : (terms : Terms) (symbols : SymbolTable) (d : Desk) (lines : List (List ℕ))
    → conversation terms (reading manner.Plain symbols) d lines ≡ replies symbols d lines
unfolding reading extended_reply line_reply
same-replies terms symbols d [] = refl
same-replies terms symbols d (line ∷ more) =
    let r = line_reply symbols d line in
    ap (λ (t : List ℕ). cond (ends (parsed_line symbols line)) [] (r.text ++ t)) (same-replies terms symbols r.desk more)

same-desk : (terms : Terms) (symbols : SymbolTable) (d : Desk) (lines : List (List ℕ))
    → last_desk terms (reading manner.Plain symbols) d lines ≡ desk_at_end symbols d lines
unfolding reading extended_reply line_reply
same-desk terms symbols d [] = refl
same-desk terms symbols d (line ∷ more) =
    ap (λ (e : Desk). cond (ends (parsed_line symbols line)) d e) (same-desk terms symbols (line_reply symbols d line).desk more)

thrice : (symbols : SymbolTable) (lines : List (List ℕ)) → efforts (reading manner.Plain symbols) lines ≡ 3 * length lines
unfolding reading
thrice symbols [] = refl
thrice symbols (line ∷ more) = let rest = thrice symbols more in omega arith

pub same-lines : (symbols : SymbolTable) (lines : List (List ℕ))
    → lines_heard (reading manner.Plain symbols) lines ≡ lines_read symbols lines
unfolding reading lines_heard lines_read
same-lines symbols [] = refl
same-lines symbols (line ∷ more) = ap (λ (ls : List (List ℕ)). line ∷ cond (ends (parsed_line symbols line)) [] ls)
    (same-lines symbols more)

-- each of them costs as much
pub plain-efforts : (symbols : SymbolTable) (lines : List (List ℕ))
    → efforts (reading manner.Plain symbols) (lines_heard (reading manner.Plain symbols) lines) ≡ 3 * length (lines_read symbols lines)
plain-efforts symbols lines = ap (efforts (reading manner.Plain symbols)) (same-lines symbols lines)
    ∙ thrice symbols (lines_read symbols lines)

-- the setting of a session, as what a conversation is over
abbrev plain : Setting → Talk
plain s = record {
  may_refuse = s.may_refuse;
  symbols = s.symbols;
  source = no_source;
  read = reading manner.Plain s.symbols;
  most
      = most_command_bytes;
  scenario = s.scenario;
}

writes : (s : Setting) (lines : List (List ℕ)) (old new : List ℕ) (left : SessionView) → WritesTo (plain s) lines old new left
    → (w : WritesReplies s lines old new) × StandsAt (replies_lead_to s w.answers w.additions lines) left
writes s lines old new left (w, at) =
    let first = first_desk s.scenario w.answers w.additions in (
      record {
        answers = w.answers;
        additions = w.additions;
        granted = w.granted;
        written = w.written ∙ ap (λ (t : List ℕ). old ++ t) (same-replies (terms_of s.symbols no_source s.scenario) s.symbols first lines);
      },
      rw (← same-desk (terms_of s.symbols no_source s.scenario) s.symbols first lines) at,
    )

pub debugs : (s : Setting) (commands : Commands) (old new : List ℕ) (result : Result (Unit {0}) DebugFault) (left : SessionView)
    → TalksTo (plain s) commands old new result left → DebugsTo s commands old new result left
unfolding command_lines lines_within
debugs s commands old new (Ok x) left w = writes s (command_lines commands.before) old new left w
debugs s commands old new (Err NoMemory) left same = same
debugs s commands old new (Err ReadFailed) left (e, at) =
    let w = writes s (ended_lines e.bytes) old new left (e.replied, at) in
    (record { bytes = e.bytes; read = e.read; replied = w.0 }, w.1)
debugs s commands old new (Err WriteFailed) left (b, at) = (
  record {
    answers = b.answers;
    additions = b.additions;
    granted = b.granted;
    part = rw (← same-replies (terms_of s.symbols no_source s.scenario) s.symbols (first_desk s.scenario b.answers b.additions)
        (command_lines commands.before)) b.part;
  },
  tt,
)
