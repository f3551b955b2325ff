use Rattle.std.proofs.Common.{◌≡◌, true, arith, ◌∙◌}
use Rattle.commands.proofs.LineSteps.{reading-push, keeps-ended, keeps-last, reads-more, ends-unread}
use Rattle.commands.proofs.reading.LineReader.next_line.Goals as goal

pub returns-in-Err-clause-failed : goal.returns-in-Err-clause-failed
returns-in-Err-clause-failed g c = λ told. ends-unread c.args.self.now.held _ (c.is_to_wait.ensures.0 c.if-is_to_wait.true).no_line

pub returns-in_err-byte-clause-reads : goal.returns-in_err-byte-clause-reads
returns-in_err-byte-clause-reads g c = λ told. reads-more (c.bytes.invariant.reads told) (c.in_err-byte.ensures.reads told)

pub returns-in_default-clause-line : goal.returns-in_default-clause-line
returns-in_default-clause-line g c = λ told ok.
    let nothing = rw c.in_default.is at (c.in_ok-byte.ensures.byte told) in
    let most = rw c.in_default.is at c.in_ok-byte.ensures.most in
    let begun : c.bytes.begun ≡ true = cc in
    rw most (keeps-last _ (c.bytes.invariant.reading told) nothing begun)

pub returns-then-byte-eq10-clause-line : goal.returns-then-byte-eq10-clause-line
returns-then-byte-eq10-clause-line g c = λ told ok.
    let next = rw c.in-Some.is at (c.in_ok-byte.ensures.byte told) in
    let most = rw c.in-Some.is at c.in_ok-byte.ensures.most in
    keeps-ended c.in-Some.byte _ _ (c.bytes.invariant.reading told) next most c.if-byte-eq10.true

pub returns-then-byte-eq10-clause-reads : goal.returns-then-byte-eq10-clause-reads
returns-then-byte-eq10-clause-reads g c = λ told. reads-more (c.bytes.invariant.reads told) (c.in_ok-byte.ensures.reads told)

pub bytes-preserved : goal.bytes-preserved
bytes-preserved g c =
    let most = rw c.in-Some.is at c.in_ok-byte.ensures.most in
    record {
      most = omega (arith, c.bytes.invariant.most);
      less = λ _. omega (arith, c.bytes.invariant.most);
      reading = λ told.
          let next = rw c.in-Some.is at (c.in_ok-byte.ensures.byte told) in
          reading-push c.in-Some.byte _ _ _ (c.bytes.invariant.reading told) next most (λ e. c.if-byte-eq10.false e) c.push.ensures;
      reads = λ told. reads-more (c.bytes.invariant.reads told) (c.in_ok-byte.ensures.reads told);
      read_failures = c.in_ok-byte.ensures.failures ∙ c.bytes.invariant.read_failures;
    }
