use Rattle.audit.proofs.damages.write_finding.Goals as goal

pub returns-in-CopyOf-clause-written : goal.returns-in-CopyOf-clause-written
returns-in-CopyOf-clause-written g c = λ told.
    rw c.in-CopyOf.is (rw (c.as_slice-in-CopyOf.ensures.value, c.line_of_two.ensures) at (c.write_all-in-CopyOf.ensures.written told))

pub returns-in-SumOf-clause-written : goal.returns-in-SumOf-clause-written
returns-in-SumOf-clause-written g c = λ told.
    rw c.in-SumOf.is (rw (c.as_slice-in-SumOf.ensures.value, c.line_of_two-in-SumOf.ensures) at (c.write_all-in-SumOf.ensures.written told))
