use Rattle.std.proofs.Common.{refl}
use Rattle.std.specs.Fmt.{digits}
use Rattle.diagnostics.proofs.caret.error_heading.Goals as goal

pub returns-in-10 : goal.returns-in-10
unfolding digits
returns-in-10 c = rw c.in-10.is refl

pub returns-in-11 : goal.returns-in-11
unfolding digits
returns-in-11 c = rw c.in-11.is refl

pub returns-in-13 : goal.returns-in-13
unfolding digits
returns-in-13 c = rw c.in-13.is refl

pub returns-in-14 : goal.returns-in-14
unfolding digits
returns-in-14 c = rw c.in-14.is refl

pub returns-in-15 : goal.returns-in-15
unfolding digits
returns-in-15 c = rw c.in-15.is refl

pub returns-in-16 : goal.returns-in-16
unfolding digits
returns-in-16 c = rw c.in-16.is refl

pub returns-in-17 : goal.returns-in-17
unfolding digits
returns-in-17 c = rw c.in-17.is refl

pub returns-in-18 : goal.returns-in-18
unfolding digits
returns-in-18 c = rw c.in-18.is refl

pub returns-in-19 : goal.returns-in-19
unfolding digits
returns-in-19 c = rw c.in-19.is refl

pub returns-in-20 : goal.returns-in-20
unfolding digits
returns-in-20 c = rw c.in-20.is refl

pub returns-in-21 : goal.returns-in-21
unfolding digits
returns-in-21 c = rw c.in-21.is refl

pub returns-in-22 : goal.returns-in-22
unfolding digits
returns-in-22 c = rw c.in-22.is refl

pub returns-in-23 : goal.returns-in-23
unfolding digits
returns-in-23 c = rw c.in-23.is refl

pub returns-in-24 : goal.returns-in-24
unfolding digits
returns-in-24 c = rw c.in-24.is refl

pub returns-in-25 : goal.returns-in-25
unfolding digits
returns-in-25 c = rw c.in-25.is refl

pub returns-in-26 : goal.returns-in-26
unfolding digits
returns-in-26 c = rw c.in-26.is refl
