use Rattle.std.proofs.Common.{◌≡◌, ◌/◌, true, false, refl, ap, get_or, ◌∙◌, sym}
use Rattle.cpu.specs.declared.instruction.Instruction.{Instruction}
use Rattle.cpu.specs.declared.instruction.Instruction.TheVariants.{Tc, Index}
use Rattle.cpu.specs.Codes.{code_of, operand_of, rows_serving, basic_rows, is_apart}
use Rattle.cpu.specs.declared.dispatch.TheConstants.{BASIC}
use Rattle.cpu.proofs.RowLaws.{one_row}
use Rattle.cpu.specs.Bursts.{is_sure}
use Rattle.cpu.proofs.EntryLaws.{entry, not_apart}
use Rattle.cpu.proofs.dispatch.basic_entry.Goals as goal

pub returns-clause-entry : goal.returns-clause-entry
unfolding code_of rows_serving basic_rows
returns-clause-entry c whole =
    c.basic_by_digits.ensures Tc ∙ entry is_apart BASIC basic_rows c.args.word (
      (λ _. refl, tt),
      (
        tt,
        (
          tt,
          (
            (λ _. refl, tt),
            (
              tt,
              (
                (λ _. refl, (λ _. refl, (λ _. refl, (λ _. refl, (λ _. refl, (λ _. refl, (λ _. refl, (λ _. refl, tt)))))))),
                (
                  (λ _. refl, (λ _. refl, tt)),
                  (
                    (λ _. refl, (λ _. refl, (λ _. refl, (λ _. refl, (λ _. refl, (λ _. refl, tt)))))),
                    (
                      (λ _. refl, (λ _. refl, tt)),
                      (
                        (λ _. refl, (λ _. refl, tt)),
                        (
                          (λ _. refl, (λ _. refl, tt)),
                          (
                            (λ _. refl, (λ _. refl, tt)),
                            (
                              (λ _. refl, (λ _. refl, (λ _. refl, (λ _. refl, (λ _. refl, (λ _. refl, (λ _. refl, (λ _. refl, tt)))))))),
                              (
                                (λ _. refl, (λ _. refl, (λ _. refl, (λ _. refl, (λ _. refl, (λ _. refl, (λ _. refl, (λ _. refl, tt)))))))),
                                (
                                  (λ _. refl, tt),
                                  (
                                    tt,
                                    (
                                      (λ _. refl, (λ _. refl, tt)),
                                      (
                                        (λ _. refl, (λ _. refl, tt)),
                                        (
                                          (λ _. refl, (λ _. refl, tt)),
                                          (
                                            (λ _. refl, (λ _. refl, tt)),
                                            (
                                              (
                                                λ _. refl,
                                                (
                                                  λ _. refl,
                                                  (λ _. refl, (λ _. refl, (λ _. refl, (λ _. refl, (λ _. refl, (λ _. refl, tt)))))),
                                                ),
                                              ),
                                              (
                                                (λ _. refl, (λ _. refl, (λ _. refl, (λ _. refl, (λ _. refl, (λ _. refl, (λ _. refl, (λ _. refl, tt)))))))),
                                                tt,
                                              ),
                                            ),
                                          ),
                                        ),
                                      ),
                                    ),
                                  ),
                                ),
                              ),
                            ),
                          ),
                        ),
                      ),
                    ),
                  ),
                ),
              ),
            ),
          ),
        ),
      ),
    ) whole (one_row false c.args.word c.requires) Tc

pub returns-clause-relint : goal.returns-clause-relint
returns-clause-relint c is = c.basic_by_digits.ensures Tc ∙ ap (λ w. get_or BASIC (w / 512) Tc) is

pub returns-clause-inhint : goal.returns-clause-inhint
returns-clause-inhint c is = c.basic_by_digits.ensures Tc ∙ ap (λ w. get_or BASIC (w / 512) Tc) is

pub returns-clause-extend : goal.returns-clause-extend
returns-clause-extend c is = c.basic_by_digits.ensures Tc ∙ ap (λ w. get_or BASIC (w / 512) Tc) is

pub returns-clause-resume : goal.returns-clause-resume
returns-clause-resume c is = c.basic_by_digits.ensures Tc ∙ ap (λ w. get_or BASIC (w / 512) Tc) is

clash : (i j : Instruction) → is_sure i ≡ true → i ≡ j → is_sure j ≡ false → ⊥
clash i j sure same unsure = let both : true ≡ false = sym sure ∙ ap is_sure same ∙ unsure in absurd (cc)

pub returns-clause-sure : goal.returns-clause-sure
returns-clause-sure c sure =
    returns-clause-entry c (
    not_apart c.args.word
    (λ is. clash _ Tc sure (returns-clause-relint c is) refl)
    (λ is. clash _ Tc sure (returns-clause-inhint c is) refl)
    (λ is. clash _ Tc sure (returns-clause-extend c is) refl)
    (λ is. clash _ Index sure (returns-clause-resume c is) refl)
    )

pub returns-clause-operand : goal.returns-clause-operand
unfolding code_of
returns-clause-operand c sure = ap (λ (i : Instruction). operand_of i c.args.word) (returns-clause-sure c sure)
