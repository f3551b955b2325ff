-- Rows of instructions, worked out by hand.
use Rattle.std.proofs.Common.{◌≡◌, true, false, refl, None}
use Rattle.std.specs.Prelude.{codes}
use Rattle.yayul.specs.declared.language.Language.TheVariants.{Standard}
use Rattle.yayul.specs.Roles.{role_of}
use Rattle.yayul.specs.Operators.{operator_rows}
use Rattle.instructions.specs.Roles.{is_instruction}

ca_is_one : is_instruction (role_of Standard (codes "CA")) ≡ true
unfolding operator_rows
ca_is_one = refl

extend_is_one : is_instruction (role_of Standard (codes "EXTEND")) ≡ true
unfolding operator_rows
extend_is_one = refl

oct_is_none : is_instruction (role_of Standard (codes "OCT")) ≡ false
unfolding operator_rows
oct_is_none = refl

dec_is_none : is_instruction (role_of Standard (codes "DEC")) ≡ false
unfolding operator_rows
dec_is_none = refl

cadr_is_none : is_instruction (role_of Standard (codes "CADR")) ≡ false
unfolding operator_rows
cadr_is_none = refl

far_address_is_none : is_instruction (role_of Standard (codes "2CADR")) ≡ false
unfolding operator_rows
far_address_is_none = refl

erase_is_none : is_instruction (role_of Standard (codes "ERASE")) ≡ false
unfolding operator_rows
erase_is_none = refl

no_operator : is_instruction None ≡ false
no_operator = refl
