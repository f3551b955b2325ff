use Rattle.std.proofs.Common.{◌≡◌, ◌∙◌, ◌+◌, ◌++◌, ◌∷◌, [], true, false, Ok, refl, sym, ap, arith, rules}
use Rattle.debugger.specs.Conversation.{reading, is_end, effort, efforts, lines_within, most_bytes}
use Rattle.debugger.proofs.LineByLine.{taken-none, answered-none, taken-more, answered-more, answered-kept, writes-end, writes-quit}
use Rattle.debugger.proofs.LineByLine.{writes-read, writes-flush, writes-part, count-end, count-quit, count-before, count-line}
use Rattle.debugger.proofs.LineByLine.{efforts-push, cost-more, cost-same, cost-within, reads-more, reads-none, takes-most}
use Rattle.debugger.proofs.session.converse.Goals as goal

pub commands-init : goal.commands-init
commands-init g c = record {
  same = record { lent = refl; symbols = refl; rows = refl; first = refl };
  reader = refl;
  writer = refl;
  reads = λ rt. rw (c.new-reader.ensures.more, c.most_bytes.ensures) (reads-none _ _);
  lines = λ rt. let none : 0 + most_bytes c.args.manner
      ≡ most_bytes c.args.manner = omega arith in rw
      (c.new-reader.ensures.held, c.new-reader.ensures.more, c.most_bytes.ensures, none) (
        taken-none _ _ _,
        rw c.new-desk.ensures.session (omega arith),
        λ wt. rw
            (c.new-desk.ensures.session, c.requires, c.new-desk.ensures.position, c.new-desk.ensures.breakpoints, c.new-desk.ensures.quiet) (answered-none _ _),
      );
}

pub returns-in-Err-ReadFailed-clause-answer : goal.returns-in-Err-ReadFailed-clause-answer
returns-in-Err-ReadFailed-clause-answer g c = λ rt wt.
    rw (c.in-Err-ReadFailed.session-1-own.given.1 (sym (c.commands.invariant.same.lent ∙ c.new-desk.ensures.lent))) (
    let t = c.commands.invariant.lines rt in
    let failed = c.in-Err-ReadFailed.ensures in
    writes-read _ _ _ _ _ _ _ _ t.0 (answered-kept _ (t.2 wt) (failed.written wt)) _ (record { scenario = refl; steps = refl }) _
    failed.asked (failed.failed rt))

pub returns-in-Err-ReadFailed-clause-read : goal.returns-in-Err-ReadFailed-clause-read
returns-in-Err-ReadFailed-clause-read g c = λ rt. takes-most _ _ _ _
    (reads-more _ _ _ _ _ _ (c.commands.invariant.reads rt) (c.in-Err-ReadFailed.ensures.reads rt))

pub returns-in-Err-WriteFailed-clause-answer : goal.returns-in-Err-WriteFailed-clause-answer
unfolding lines_within
returns-in-Err-WriteFailed-clause-answer g c = λ rt wt.
    let t = c.commands.invariant.lines rt in
    (writes-flush _ _ _ _ _ _ _ _ t.0 (answered-kept _ (t.2 wt) (c.in-Err-WriteFailed.ensures.written wt)), tt)

pub returns-in-Err-WriteFailed-clause-read : goal.returns-in-Err-WriteFailed-clause-read
returns-in-Err-WriteFailed-clause-read g c = λ rt. takes-most _ _ _ _
    (reads-more _ _ _ _ _ _ (c.commands.invariant.reads rt) (c.in-Err-WriteFailed.ensures.reads rt))

pub returns-then-not-some-clause-answer : goal.returns-then-not-some-clause-answer
unfolding lines_within
returns-then-not-some-clause-answer g c = λ rt wt.
    rw (c.session-then-not-some-1.given.1 (sym (c.commands.invariant.same.lent ∙ c.new-desk.ensures.lent))) (
    let t = c.commands.invariant.lines rt in
    let s : c.in-Ok-next_line.some ≡ false = search rules in
    writes-end _ _ _ _ _ _ _ _ t.0 (answered-kept _ (t.2 wt) (c.in-Ok-next_line.ensures.written wt)) _
    (record { scenario = refl; steps = refl }) (c.in-Ok-next_line.ensures.end rt (ap Ok s)))

pub returns-then-not-some-clause-cost : goal.returns-then-not-some-clause-cost
unfolding lines_within
returns-then-not-some-clause-cost g c = λ rt.
    rw (c.session-then-not-some-1.given.1 (sym (c.commands.invariant.same.lent ∙ c.new-desk.ensures.lent))) (
    let t = c.commands.invariant.lines rt in
    let s : c.in-Ok-next_line.some ≡ false = search rules in
    rw (count-end t.0 (c.in-Ok-next_line.ensures.end rt (ap Ok s))) t.1)

pub returns-then-not-some-clause-read : goal.returns-then-not-some-clause-read
returns-then-not-some-clause-read g c = λ rt. takes-most _ _ _ _
    (reads-more _ _ _ _ _ _ (c.commands.invariant.reads rt) (c.in-Ok-next_line.ensures.reads rt))

pub returns-then-is_end-clause-answer : goal.returns-then-is_end-clause-answer
unfolding lines_within
returns-then-is_end-clause-answer g c = λ rt wt.
    rw (c.session-then-is_end-1.given.1 (sym (c.commands.invariant.same.lent ∙ c.new-desk.ensures.lent))) (
    let t = c.commands.invariant.lines rt in
    let s : c.in-Ok-next_line.some ≡ true = search rules in
    let l = c.in-Ok-next_line.ensures.line rt (ap Ok s) in
    let asked = c.asked-request.ensures l.bytes l.kept_of in
    let quit : is_end (reading c.args.manner c.args.symbols.now l.bytes) ≡ true = ap is_end (sym asked) ∙ sym c.if-is_end.ensures in
    writes-quit _ _ _ _ _ _ _ _ t.0 (answered-kept _ (t.2 wt) (c.in-Ok-next_line.ensures.written wt)) _
    (record { scenario = refl; steps = refl }) l.bytes _ _ l.taken quit)

pub returns-then-is_end-clause-cost : goal.returns-then-is_end-clause-cost
unfolding lines_within
returns-then-is_end-clause-cost g c = λ rt.
    rw (c.session-then-is_end-1.given.1 (sym (c.commands.invariant.same.lent ∙ c.new-desk.ensures.lent))) (
    let t = c.commands.invariant.lines rt in
    let s : c.in-Ok-next_line.some ≡ true = search rules in
    let l = c.in-Ok-next_line.ensures.line rt (ap Ok s) in
    let asked = c.asked-request.ensures l.bytes l.kept_of in
    let quit : is_end (reading c.args.manner c.args.symbols.now l.bytes) ≡ true = ap is_end (sym asked) ∙ sym c.if-is_end.ensures in
    rw (count-quit t.0 l.bytes _ _ l.taken quit) (cost-same _ _ _ _ _ t.1))

pub returns-then-is_end-clause-read : goal.returns-then-is_end-clause-read
returns-then-is_end-clause-read g c = λ rt. takes-most _ _ _ _
    (reads-more _ _ _ _ _ _ (c.commands.invariant.reads rt) (c.in-Ok-next_line.ensures.reads rt))

pub returns-in-Err-answer_asked-clause-answer : goal.returns-in-Err-answer_asked-clause-answer
unfolding lines_within
returns-in-Err-answer_asked-clause-answer g c = λ rt wt.
    let t = c.commands.invariant.lines rt in
    let s : c.in-Ok-next_line.some ≡ true = search rules in
    let l = c.in-Ok-next_line.ensures.line rt (ap Ok s) in
    let asked = c.asked-request.ensures l.bytes l.kept_of in let same = c.commands.invariant.same in let begun = c.new-desk.ensures in
    let on : is_end (reading c.args.manner c.args.symbols.now l.bytes) ≡ false = ap is_end (sym asked) ∙ sym c.if-is_end.ensures in (
      writes-part _ _ _ _ _ _ _ _ t.0 (t.2 wt) l.bytes _ _ _ l.taken on
          (rw (asked, c.in-Ok-next_line.ensures.written wt, same.symbols, same.rows, same.first, begun.symbols, begun.rows, begun.first) at (c.in-Err-answer_asked.ensures.executes wt)),
      tt,
    )

pub returns-in-Err-answer_asked-clause-read : goal.returns-in-Err-answer_asked-clause-read
returns-in-Err-answer_asked-clause-read g c = λ rt. takes-most _ _ _ _
    (reads-more _ _ _ _ _ _ (c.commands.invariant.reads rt) (c.in-Ok-next_line.ensures.reads rt))

pub commands-preserved : goal.commands-preserved
commands-preserved g c = record {
  same =
      let was = c.commands.invariant.same in
      let is = c.in-Ok-answer_asked.ensures.served.same in record {
        lent = is.lent ∙ was.lent;
        symbols = is.symbols ∙ was.symbols;
        rows = is.rows ∙ was.rows;
        first = is.first ∙ was.first;
      };
  reader = c.in-Ok-next_line.ensures.read_failures ∙ c.commands.invariant.reader;
  writer = c.in-Ok-answer_asked.ensures.failures ∙ c.in-Ok-next_line.ensures.write_failures ∙ c.commands.invariant.writer;
  reads = λ rt. reads-more _ _ _ _ _ _ (c.commands.invariant.reads rt) (c.in-Ok-next_line.ensures.reads rt);
  lines = λ rt.
      let t = c.commands.invariant.lines rt in
      let s : c.in-Ok-next_line.some ≡ true = search rules in
      let l = c.in-Ok-next_line.ensures.line rt (ap Ok s) in
      let asked = c.asked-request.ensures l.bytes l.kept_of in let same = c.commands.invariant.same in let begun = c.new-desk.ensures in
      let on : is_end (reading c.args.manner c.args.symbols.now l.bytes) ≡ false = ap is_end (sym asked) ∙ sym c.if-is_end.ensures in
      let session = c.in-Ok-answer_asked.ensures.served.session in
      let read = reading c.args.manner c.args.symbols.now in
      let count : efforts read (t.0.done ++ l.bytes ∷ [])
      ≡ efforts read t.0.done + effort (read l.bytes) = efforts-push read t.0.done l.bytes in (
        taken-more t.0 l.bytes _ _ (c.in-Ok-next_line.ensures.less (ap Ok s)) l.taken on,
        rw count (cost-more _ _ _ _ _ _ _ t.1 session.forward (rw asked at session.cost)),
        λ wt. answered-more _ _ l.bytes (t.2 wt) on (rw (asked, c.in-Ok-next_line.ensures.written wt, same.symbols, same.rows, same.first, begun.symbols, begun.rows, begun.first) at
            (c.in-Ok-answer_asked.ensures.executes wt)),
      );
}

pub returns-in-Err-ReadFailed-clause-cost : goal.returns-in-Err-ReadFailed-clause-cost
unfolding lines_within
returns-in-Err-ReadFailed-clause-cost g c = λ rt.
    rw (c.in-Err-ReadFailed.session-1-own.given.1 (sym (c.commands.invariant.same.lent ∙ c.new-desk.ensures.lent))) (let t = c.commands.invariant.lines rt in cost-within _ _ _ _ _ t.1 (count-before t.0))

pub returns-in-Err-WriteFailed-clause-cost : goal.returns-in-Err-WriteFailed-clause-cost
unfolding lines_within
returns-in-Err-WriteFailed-clause-cost g c = λ rt.
    rw (c.in-Err-WriteFailed.session-1-own.given.1 (sym (c.commands.invariant.same.lent ∙ c.new-desk.ensures.lent))) (let t = c.commands.invariant.lines rt in cost-within _ _ _ _ _ t.1 (count-before t.0))

pub returns-in-Err-answer_asked-clause-cost : goal.returns-in-Err-answer_asked-clause-cost
unfolding lines_within
returns-in-Err-answer_asked-clause-cost g c = λ rt.
    rw (c.session-in-Err-answer_asked-1.given.1 (sym (c.in-Err-answer_asked.ensures.served.same.lent ∙ c.commands.invariant.same.lent ∙ c.new-desk.ensures.lent))) (
    let t = c.commands.invariant.lines rt in
    let s : c.in-Ok-next_line.some ≡ true = search rules in
    let l = c.in-Ok-next_line.ensures.line rt (ap Ok s) in
    let asked = c.asked-request.ensures l.bytes l.kept_of in
    let on : is_end (reading c.args.manner c.args.symbols.now l.bytes) ≡ false = ap is_end (sym asked) ∙ sym c.if-is_end.ensures in
    let session = c.in-Err-answer_asked.ensures.served.session in
    cost-within _ _ _ _ _ (cost-more _ _ _ _ _ _ _ t.1 session.forward (rw asked at session.cost)) (count-line t.0 l.bytes _ _ l.taken on))

pub returns-in-Err-clause-answer : goal.returns-in-Err-clause-answer
returns-in-Err-clause-answer g c = λ rt wt. (refl, record { scenario = refl; steps = c.requires })
