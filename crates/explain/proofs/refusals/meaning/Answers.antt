use Rattle.std.proofs.Common.{refl}
use Rattle.explain.proofs.refusals.meaning.Goals as goal

pub returns-in-2 : goal.returns-in-2
returns-in-2 c = rw c.in-2.is refl

pub returns-in-3 : goal.returns-in-3
returns-in-3 c = rw c.in-3.is refl

pub returns-in-4 : goal.returns-in-4
returns-in-4 c = rw c.in-4.is refl

pub returns-in-5 : goal.returns-in-5
returns-in-5 c = rw c.in-5.is refl

pub returns-in-6 : goal.returns-in-6
returns-in-6 c = rw c.in-6.is refl

pub returns-in-7 : goal.returns-in-7
returns-in-7 c = rw c.in-7.is refl

pub returns-in-10 : goal.returns-in-10
returns-in-10 c = rw c.in-10.is refl

pub returns-in-11 : goal.returns-in-11
returns-in-11 c = rw c.in-11.is refl

pub returns-in-12 : goal.returns-in-12
returns-in-12 c = rw c.in-12.is refl

pub returns-in-13 : goal.returns-in-13
returns-in-13 c = rw c.in-13.is refl

pub returns-in-14 : goal.returns-in-14
returns-in-14 c = rw c.in-14.is refl

pub returns-in-15 : goal.returns-in-15
returns-in-15 c = rw c.in-15.is refl

pub returns-in-16 : goal.returns-in-16
returns-in-16 c = rw c.in-16.is refl

pub returns-in-17 : goal.returns-in-17
returns-in-17 c = rw c.in-17.is refl

pub returns-in-18 : goal.returns-in-18
returns-in-18 c = rw c.in-18.is refl

pub returns-in-19 : goal.returns-in-19
returns-in-19 c = rw c.in-19.is refl

pub returns-in-20 : goal.returns-in-20
returns-in-20 c = rw c.in-20.is refl

pub returns-in-21 : goal.returns-in-21
returns-in-21 c = rw c.in-21.is refl

pub returns-in-22 : goal.returns-in-22
returns-in-22 c = rw c.in-22.is refl

pub returns-in-23 : goal.returns-in-23
returns-in-23 c = rw c.in-23.is refl

pub returns-in-24 : goal.returns-in-24
returns-in-24 c = rw c.in-24.is refl

pub returns-in-25 : goal.returns-in-25
returns-in-25 c = rw c.in-25.is refl

pub returns-in-26 : goal.returns-in-26
returns-in-26 c = rw c.in-26.is refl

pub returns-in-30 : goal.returns-in-30
returns-in-30 c = rw c.in-30.is refl

pub returns-in-31 : goal.returns-in-31
returns-in-31 c = rw c.in-31.is refl

pub returns-in-32 : goal.returns-in-32
returns-in-32 c = rw c.in-32.is refl

pub returns-in-33 : goal.returns-in-33
returns-in-33 c = rw c.in-33.is refl

pub returns-in-34 : goal.returns-in-34
returns-in-34 c = rw c.in-34.is refl

pub returns-in-35 : goal.returns-in-35
returns-in-35 c = rw c.in-35.is refl

pub returns-in-36 : goal.returns-in-36
returns-in-36 c = rw c.in-36.is refl

pub returns-in-40 : goal.returns-in-40
returns-in-40 c = rw c.in-40.is refl

pub returns-in-41 : goal.returns-in-41
returns-in-41 c = rw c.in-41.is refl

pub returns-in-42 : goal.returns-in-42
returns-in-42 c = rw c.in-42.is refl

pub returns-in-50 : goal.returns-in-50
returns-in-50 c = rw c.in-50.is refl

pub returns-in-51 : goal.returns-in-51
returns-in-51 c = rw c.in-51.is refl

pub returns-in-52 : goal.returns-in-52
returns-in-52 c = rw c.in-52.is refl
